-- Rows that change nothing where they don't answer ok.
use Rattle.std.specs.Prelude.{◌≡◌, ◌≢◌, List}
use Rattle.cache_types.specs.declared.outer.OuterReply.{OuterReply}
use Rattle.wasm_memory.specs.Linear.{Linear}
use Rattle.edge_abi.specs.Told.{Told, Wants, Gives, Number, After, Row}

-- what a row came to: with a status other than ok, tables and memory are those at its start
abbrev pub IsQuiet : {T : Type 0} → T → Linear → Told (After T) → Type 0
IsQuiet t m (Wants call) = Unit {0}
IsQuiet t m (Gives after replies) = after.answer ≢ Number 0 → (after.tables ≡ t) × (after.memory ≡ m)

-- the same but for a needed size: the tables are those at its start, and with a status other than ok and buflen the memory too
abbrev pub IsQuietBut : {T : Type 0} → T → Linear → Told (After T) → Type 0
IsQuietBut t m (Wants call) = Unit {0}
IsQuietBut t m (Gives after replies) =
    after.answer ≢ Number 0 → (after.tables ≡ t) × (after.answer ≢ Number 4 → after.memory ≡ m)

-- whatever the replies
abbrev pub RowIsQuiet : {T : Type 0} → T → Linear → Row T → Type 0
RowIsQuiet t m row = (replies : List OuterReply) → IsQuiet t m (row replies)

abbrev pub RowIsQuietBut : {T : Type 0} → T → Linear → Row T → Type 0
RowIsQuietBut t m row = (replies : List OuterReply) → IsQuietBut t m (row replies)
