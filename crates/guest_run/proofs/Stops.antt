-- Why a run stopped, read back from what the machine tells.
use Rattle.std.specs.Prelude.{◌≡◌, ℕ, List, refl}
use Rattle.wasm_types.specs.declared.values.TrapKind.{TrapKind}
use Rattle.wasm_types.specs.declared.values.Value.{Value}
use Rattle.wasm_meaning.specs.declared.off.Off.TheVariants.{Trap, Stuck}
use Rattle.wasm_meaning.specs.Runs.{Ending, Returned, Stopped, Called, OutOfFuel}
use Rattle.wasm_machine.specs.declared.running.Stop.TheVariants as stops
use Rattle.wasm_machine.specs.Running.{stop_of}

pub returned_of : (e : Ending) → stops.Returned ≡ stop_of e → e ≡ Returned
returned_of Returned is = refl
returned_of OutOfFuel is = cc is
returned_of (Called x arguments) is = cc is
returned_of (Stopped Stuck) is = cc is
returned_of (Stopped (Trap kind)) is = cc is

pub starved_of : (e : Ending) → stops.OutOfFuel ≡ stop_of e → e ≡ OutOfFuel
starved_of Returned is = cc is
starved_of OutOfFuel is = refl
starved_of (Called x arguments) is = cc is
starved_of (Stopped Stuck) is = cc is
starved_of (Stopped (Trap kind)) is = cc is

pub trapped_of : (kind : TrapKind) (e : Ending) → stops.Trapped kind ≡ stop_of e → e ≡ Stopped (Trap kind)
trapped_of kind Returned is = cc is
trapped_of kind OutOfFuel is = cc is
trapped_of kind (Called x arguments) is = cc is
trapped_of kind (Stopped Stuck) is = cc is
trapped_of kind (Stopped (Trap other)) is = cc is

pub called_of : (x : ℕ) (arguments : List Value) (e : Ending) → stops.HostCall x arguments ≡ stop_of e → e ≡ Called x arguments
called_of x arguments Returned is = cc is
called_of x arguments OutOfFuel is = cc is
called_of x arguments (Called y others) is = cc is
called_of x arguments (Stopped Stuck) is = cc is
called_of x arguments (Stopped (Trap kind)) is = cc is
