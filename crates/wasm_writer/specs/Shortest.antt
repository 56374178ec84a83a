-- What it means that bytes are the shortest that the grammar has for a module.
use Rattle.std.specs.Prelude.{ℕ, ◌<◌, ◌≤◌, List, All, length}
use Rattle.wasm_types.specs.declared.modules.Module.{Module}
use Rattle.wasm_reader.specs.Grammar.{IsModule}

-- numbers that bytes can be
abbrev pub AreOctets : List ℕ → Type 0
AreOctets bytes = All (λ byte. byte < 256) bytes

-- where any bytes have the module, these do
abbrev pub ReadsBack : Module → List ℕ → Type 0
ReadsBack m bytes = (other : List ℕ) → AreOctets other → IsModule other m → IsModule bytes m

-- no bytes that have the module are fewer
abbrev pub IsShortest : Module → List ℕ → Type 0
IsShortest m bytes = (other : List ℕ) → AreOctets other → IsModule other m → length bytes ≤ length other
