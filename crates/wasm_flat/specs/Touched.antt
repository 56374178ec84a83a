-- Reads and writes of a memory that may be missing.
use Rattle.std.specs.Prelude.{ℕ, Option, Result, Ok}
use Rattle.wasm_memory.specs.Linear.{Linear, grown, grown_from}
use Rattle.wasm_meaning.specs.declared.off.Off.{Off}
use Rattle.wasm_meaning.specs.Steps.{◌>>=◌, found}
use Rattle.wasm_meaning.specs.World.{Desk}
use Rattle.wasm_meaning.specs.Acts.{read, write, with_memory, grow_answer}

abbrev pub read_from : ℕ → ℕ → Option Linear → Result ℕ Off
read_from size place o = found o >>= λ m. read size place m

abbrev pub written_to : ℕ → ℕ → ℕ → Desk → Result Desk Off
written_to size place n d = found d.world.memory >>= λ m. write size place n m >>= λ m'. Ok (with_memory m' d)

-- what `memory.grow` answers, and what it leaves
abbrev pub grown_by : ℕ → Desk → Result (ℕ × Desk) Off
grown_by more d = found d.world.memory >>= λ m. Ok (grow_answer (grown_from m more), with_memory (grown m more) d)
