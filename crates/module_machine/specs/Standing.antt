-- Where a machine stands in what its program means, and what a run of it tells.
use Rattle.std.specs.Prelude.{◌≡◌, ℕ, Option, Some, None, Result, Ok, Err, [], slice_get}
use Rattle.wasm_types.specs.declared.modules.Module.{Module}
use Rattle.wasm_types.specs.declared.values.TrapKind.TheVariants.{Segment as segment_fault}
use Rattle.wasm_types.specs.declared.values.Value.{Value}
use Rattle.wasm_types.specs.Nested.{Body}
use Rattle.wasm_validate.specs.Rules.{Context}
use Rattle.wasm_memory.specs.Linear.{Linear}
use Rattle.wasm_meaning.specs.declared.off.Off.TheVariants.{Trap}
use Rattle.wasm_meaning.specs.World.{World}
use Rattle.wasm_meaning.specs.Frames.{Program, Function, State}
use Rattle.wasm_meaning.specs.Runs.{Ending, Ended, Returned, Called, first, resumed}
use Rattle.wasm_meaning.specs.Instance.{Instance, IsProgram, instance_of}
use Rattle.wasm_sound.specs.Typed.{Fits, WorldTyped, StateTyped}
use Rattle.wasm_flat.specs.declared.thread.Thread.{Thread}
use Rattle.wasm_flat.specs.Flat.{filled}
use Rattle.wasm_instance.specs.declared.starting.NewFault.{NewFault}
use Rattle.wasm_instance.specs.declared.starting.NewFault.TheVariants.{Segment, OutOfMemory}
use Rattle.wasm_machine.specs.declared.running.Stop.{Stop}
use Rattle.wasm_machine.specs.declared.running.Stop.TheVariants as stops
use Rattle.wasm_machine.specs.Standing.{IsAt}
use Rattle.wasm_machine.specs.Running.{stop_of, with_world, in_world}
use Rattle.module_machine.specs.declared.machine.Machine.{Machine}
use Rattle.module_machine.specs.Shared.{Shares}

-- ---- the memory of a machine, and one that has another memory

abbrev pub memory_of : Machine → Option Linear
memory_of machine = machine.memory

abbrev pub in_memory : Linear → State → State
in_memory m s = record s { world = record s.world { memory = Some m } }

abbrev pub with_memory : Option Linear → Machine → Machine
with_memory m machine = record machine { memory = m }

-- its thread, which has the memory while code runs
abbrev pub thread_of : Machine → Thread
thread_of machine = with_world (record machine.thread.desk.world { memory = machine.memory }) machine.thread

-- ---- where it stands

-- nothing runs; any function of the program that takes nothing may start in this world
pub record IsIdle (p : Program) (w : World) (machine : Machine) : Type 0 where
  pub context : Context
  pub shares : Shares context p machine.image.now
  pub world : (thread_of machine).desk.world ≡ w
  pub starts : (x : ℕ) (f : Function) (body : Body) → slice_get p.functions x ≡ Some f → f.kind.params ≡ [] → f.body ≡ Some body → StateTyped context (first f body w)

-- it executes next what this state executes next
pub record Stands (p : Program) (s : State) (machine : Machine) : Type 0 where
  pub context : Context
  pub shares : Shares context p machine.image.now
  pub typed : StateTyped context s
  pub stands : IsAt p (thread_of machine) s

-- an answer of the type that a function has
abbrev pub FitsImport : Option Function → Option Value → Type 0
FitsImport None value = ⊥
FitsImport (Some f) value = Fits f.kind.result value

-- it stands behind a call of an import; whatever the answer is, and the world then, it goes on with these
pub record Waits (p : Program) (x : ℕ) (s : State) (machine : Machine) : Type 0 where
  pub context : Context
  pub shares : Shares context p machine.image.now
  pub world : (thread_of machine).desk.world ≡ s.world
  pub world_typed : WorldTyped context s.world
  pub goes_on : (value : Option Value) (w : World) → FitsImport (slice_get p.functions x) value → WorldTyped context w
      → StateTyped context (resumed value (in_world w s)) × IsAt p (filled value (with_world w (thread_of machine))) (resumed value (in_world w s))

-- ---- what is told

-- a machine is idle in the world of the module's instance, or a segment is out of bounds, unless memory ran out
abbrev pub Starts : Module → Result Machine NewFault → Type 0
Starts m (Ok machine) = (i : Instance) × (instance_of m ≡ Ok i) × ((p : Program) → IsProgram m i p → IsIdle p i.world machine)
Starts m (Err Segment) = instance_of m ≡ Err (Trap segment_fault)
Starts m (Err OutOfMemory) = Unit {0}

-- after a return it may start again; after a call of an import it waits; else it isn't run again
abbrev pub LeadsOn : Program → Machine → State → Ending → Type 0
LeadsOn p machine s Returned = IsIdle p s.world machine
LeadsOn p machine s (Called x arguments) = Waits p x s machine
LeadsOn p machine s ending = Unit {0}

-- why the run stopped, the fuel that is left, the memory, and where the machine stands, unless memory ran out
abbrev pub Tells : Program → Machine → Stop → ℕ → Ended → Type 0
Tells p machine stops.OutOfMemory left e = Unit {0}
Tells p machine stop left e = (stop ≡ stop_of e.ending) × (left ≡ e.left) × (memory_of machine ≡ e.state.world.memory) × LeadsOn p machine e.state e.ending
