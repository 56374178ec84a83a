-- How the machine stops inside.
use Rattle.std.specs.Prelude.{◌≡◌, ℕ, Result, Ok, List}
use Rattle.wasm_types.specs.declared.values.Value.{Value}
use Rattle.wasm_meaning.specs.declared.off.Off.{Off}
use Rattle.wasm_flat.specs.declared.thread.Thread.{Thread}
use Rattle.wasm_flat.specs.declared.halt.Halt.{Halt}
use Rattle.wasm_flat.specs.declared.halt.Halt.TheVariants as halts
use Rattle.wasm_machine.specs.declared.running.Stop.{Stop}
use Rattle.wasm_machine.specs.declared.running.Stop.TheVariants as stops

abbrev pub stop_by : Halt → Stop
stop_by halts.Stuck = stops.OutOfMemory
stop_by halts.Memory = stops.OutOfMemory
stop_by (halts.Trap kind) = stops.Trapped kind

-- what a call of an import stops with, unless memory ran out
abbrev pub Suspends : ℕ → Stop → Thread → Result (List Value × Thread) Off → Type 0
Suspends x stops.OutOfMemory new step = Unit {0}
Suspends x (stops.HostCall y arguments) new step = (y ≡ x) × (step ≡ Ok (arguments, new))
Suspends x stop new step = ⊥
