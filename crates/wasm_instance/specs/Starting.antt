-- What a module starts with.
use Rattle.std.specs.Prelude.{◌≡◌, Bool, true, false, ◌&&◌, length, Result, Ok, Err}
use Rattle.wasm_types.specs.declared.values.TrapKind.TheVariants.{Segment as segment_fault}
use Rattle.wasm_types.specs.declared.modules.Module.{Module}
use Rattle.wasm_meaning.specs.declared.off.Off.{Off}
use Rattle.wasm_meaning.specs.declared.off.Off.TheVariants.{Trap}
use Rattle.wasm_meaning.specs.Steps.{◌>>=◌}
use Rattle.wasm_meaning.specs.Instance.{Instance, global_values, empty_table, empty_memory, size_of}
use Rattle.wasm_flat.specs.declared.halt.Halt.{Halt}
use Rattle.wasm_flat.specs.Made.{Stops}
use Rattle.wasm_instance.specs.declared.starting.Begun.{Begun}
use Rattle.wasm_instance.specs.declared.starting.NewFault.{NewFault}
use Rattle.wasm_instance.specs.declared.starting.NewFault.TheVariants.{Segment, OutOfMemory}
use Rattle.wasm_instance.specs.Placing.{elements_fit, elements_placed, segments_fit, segments_placed}

-- the instance that these are
abbrev pub seen : Begun → Instance
seen s = record { table = s.table.items; world = record { globals = s.globals; memory = s.memory } }

-- a module starts, or a segment doesn't fit, unless memory ran out
abbrev pub Starts : Result Begun NewFault → Result Instance Off → Type 0
Starts (Ok s) step = step ≡ Ok (seen s)
Starts (Err Segment) step = step ≡ Err (Trap segment_fault)
Starts (Err OutOfMemory) step = Unit {0}

-- ---- inside

abbrev pub Begins : Result Begun Halt → Result Instance Off → Type 0
Begins (Ok s) step = step ≡ Ok (seen s)
Begins (Err e) step = Stops e step

-- before any segment
abbrev pub blank_of : Module → Result Instance Off
blank_of m = global_values m.globals >>= λ globals. Ok (record { table = empty_table m.tables; world = record { globals = globals; memory = empty_memory m.memories } })

abbrev pub fits_in : Module → Instance → Result Bool Off
fits_in m i = elements_fit (length i.table) i.world.globals m.elements >>= λ a. segments_fit (size_of i.world.memory) i.world.globals m.segments >>= λ b. Ok (a && b)

abbrev pub placed_in : Module → Instance → Result Instance Off
placed_in m i = elements_placed i.world.globals m.elements i.table >>= λ table. segments_placed i.world.globals m.segments i.world.memory >>= λ memory. Ok (record { table = table; world = record i.world { memory = memory } })

abbrev pub placed_where : Bool → Module → Instance → Result Instance Off
placed_where true m i = placed_in m i
placed_where false m i = Err (Trap segment_fault)

abbrev pub started : Module → Result Instance Off
started m = blank_of m >>= λ i. fits_in m i >>= λ b. placed_where b m i
