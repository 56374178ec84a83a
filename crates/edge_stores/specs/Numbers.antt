-- What calls of WASI answer: success 0, badf 8, inval 28.
use Rattle.std.specs.Prelude.{◌≡◌, ℕ, List, Result, Ok, Err}
use Rattle.cache_types.specs.declared.outer.OuterReply.{OuterReply}
use Rattle.wasm_memory.specs.Linear.{Linear}
use Rattle.edge_abi.specs.declared.status.Status.{Status}
use Rattle.edge_abi.specs.declared.status.Status.TheVariants as status
use Rattle.edge_abi.specs.declared.status.Refusal.{Refusal}
use Rattle.edge_abi.specs.declared.status.Refusal.TheVariants.{Told, OutOfMemory}
use Rattle.edge_abi.specs.Told.{Row, Gives, Code, answers}

-- out of bounds and badly aligned are inval too
abbrev pub errno_of : Status → ℕ
errno_of status.Ok = 0
errno_of status.Badf = 8
errno_of _ = 28

-- what follows where nothing was refused
abbrev pub allowed : {T X : Type 0} → T → Linear → Result X Refusal → (X → Row T) → Row T
allowed t m (Err (Told said)) next = answers (errno_of said) t m
allowed t m (Err OutOfMemory) next = answers 28 t m
allowed t m (Ok x) next = next x

-- it went well
abbrev pub succeeds : {T : Type 0} → T → Linear → Row T
succeeds t m = answers 0 t m

-- the row ends the guest with this code
abbrev pub Leaves : {T : Type 0} → Row T → ℕ → T → Linear → Type 0
Leaves row code t m = (replies : List OuterReply) → row replies ≡ Gives (record { answer = Code code; tables = t; memory = m }) replies
