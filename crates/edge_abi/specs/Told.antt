-- What a row does when it is given these replies, in order, to its outer calls.
use Rattle.std.specs.Prelude.{ℕ, List, [], ◌∷◌, Result, Ok, Err}
use Rattle.cache_types.specs.declared.outer.OuterCall.{OuterCall}
use Rattle.cache_types.specs.declared.outer.OuterReply.{OuterReply}
use Rattle.wasm_memory.specs.Linear.{Linear}
use Rattle.edge_abi.specs.declared.status.Status.{Status}
use Rattle.edge_abi.specs.declared.status.Status.TheVariants as status
use Rattle.edge_abi.specs.declared.status.Refusal.{Refusal}
use Rattle.edge_abi.specs.declared.status.Refusal.TheVariants as refusal
use Rattle.edge_abi.specs.Statuses.{number_of}
use Rattle.edge_abi.specs.Buffers.{Plain}

-- the call that it makes where the replies are used up, or what it comes to and the replies left
pub data Told (A : Type 0) : Type 0 where
  Wants : OuterCall → Told A
  Gives : A → List OuterReply → Told A

-- an outer call, and what follows its reply
abbrev pub ask : {A : Type 0} → OuterCall → (OuterReply → List OuterReply → Told A) → List OuterReply → Told A
ask call next [] = Wants call
ask call next (reply ∷ replies) = next reply replies

-- how a row ends: with the number that the call answers, or with the guest's exit
pub data Answer : Type 0 where
  Number : ℕ → Answer
  Code : ℕ → Answer

-- what a row leaves
pub record After (T : Type 0) : Type 0 where
  pub answer : Answer
  pub tables : T
  pub memory : Linear

-- a row: what it does under these replies
abbrev pub Row : Type 0 → Type 0
Row T = List OuterReply → Told (After T)

-- the row answers this number and leaves these tables and this memory
abbrev pub answers : {T : Type 0} → ℕ → T → Linear → Row T
answers number tables memory replies = Gives (record { answer = Number number; tables = tables; memory = memory }) replies

-- the same with a status
abbrev pub done : {T : Type 0} → Status → T → Linear → Row T
done status tables memory = answers (number_of status) tables memory

-- the same where no table changes
abbrev pub plain : {T : Type 0} → T → Plain → Row T
plain tables left = done left.status tables left.memory

-- a row that is refused changes nothing
abbrev pub refused : {T : Type 0} → Refusal → T → Linear → Row T
refused (refusal.Told status) tables memory = done status tables memory
refused refusal.OutOfMemory tables memory = done status.Error tables memory

-- what follows where nothing was refused
abbrev pub judged : {T X : Type 0} → T → Linear → Result X Refusal → (X → Row T) → Row T
judged tables memory (Err refusal) next = refused refusal tables memory
judged tables memory (Ok x) next = next x
