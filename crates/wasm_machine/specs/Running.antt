-- What a run of the machine tells of the meaning.
use Rattle.std.specs.Prelude.{◌≡◌, ℕ, Option, Some, None, slice_get}
use Rattle.std.specs.Option.{is_some}
use Rattle.wasm_types.specs.declared.types.FuncType.{FuncType}
use Rattle.wasm_types.specs.declared.values.Value.{Value}
use Rattle.wasm_meaning.specs.declared.off.Off.TheVariants as offs
use Rattle.wasm_meaning.specs.Frames.{Function, Program, State}
use Rattle.wasm_meaning.specs.Runs.{Ending, Ended, Returned, Stopped, Called, OutOfFuel, resumed}
use Rattle.wasm_meaning.specs.World.{World}
use Rattle.wasm_flat.specs.declared.thread.Thread.{Thread}
use Rattle.wasm_flat.specs.Flat.{filled}
use Rattle.wasm_machine.specs.declared.running.Stop.{Stop}
use Rattle.wasm_machine.specs.declared.running.Stop.TheVariants as stops
use Rattle.wasm_machine.specs.Standing.{IsAt}

-- the code met a missing operand, one of the wrong type, or an index that isn't there
abbrev pub IsStuck : Ending → Type 0
IsStuck ending = ending ≡ Stopped offs.Stuck

-- how the machine stops; valid code is never stuck
abbrev pub stop_of : Ending → Stop
stop_of Returned = stops.Returned
stop_of OutOfFuel = stops.OutOfFuel
stop_of (Called x arguments) = stops.HostCall x arguments
stop_of (Stopped offs.Stuck) = stops.OutOfMemory
stop_of (Stopped (offs.Trap kind)) = stops.Trapped kind

-- an answer where the function has a result, and none where it has none
abbrev pub Answers : Option FuncType → Option Value → Type 0
Answers None value = ⊥
Answers (Some t) value = is_some value ≡ is_some t.result

abbrev pub kind_of : Option Function → Option FuncType
kind_of None = None
kind_of (Some f) = Some f.kind

-- the same with other globals and another memory
abbrev pub with_world : World → Thread → Thread
with_world w t = record t { desk = record t.desk { world = w } }

abbrev pub in_world : World → State → State
in_world w s = record s { world = w }

-- at a call of an import any answer leads on, whatever the host made of the memory
abbrev pub LeadsOn : Program → Thread → State → Ending → Type 0
LeadsOn p t s (Called x arguments) = (value : Option Value) (w : World) → Answers (kind_of (slice_get p.functions x)) value → IsAt p (filled value (with_world w t)) (resumed value (in_world w s))
LeadsOn p t s ending = Unit {0}

-- how it stopped, the fuel that is left, globals and memory, and where it stands, unless memory ran out
abbrev pub Tells : Program → Thread → Stop → ℕ → Ended → Type 0
Tells p t stops.OutOfMemory left e = Unit {0}
Tells p t stop left e = (stop ≡ stop_of e.ending) × (left ≡ e.left) × (t.desk.world ≡ e.state.world) × LeadsOn p t e.state e.ending
