-- Reads of a source, one after the other.
use Rattle.std.specs.Prelude.{◌<◌, ℕ, List, ◌++◌, length, Result, Ok, IsErr, Option}
use Rattle.edge_outside.specs.declared.fault.Failed.{Failed}
use Rattle.edge_outside.specs.Faults.{Counts}
use Rattle.edge_outside.specs.Source.{SourceContent, GivesWhereTold}

-- the one value
abbrev pub failed : Failed
failed = record {}

-- one read: that it was made, and what its count of faults and its content say
pub record OneRead {S : Type 0} (reads : S → ℕ → Result (List ℕ) Failed → S → Type 0) (count : S → ℕ) (told : S → Option SourceContent)
    (before : S) (answer : Result (List ℕ) Failed) (after : S) : Type 0 where
  pub room : ℕ
  pub some : 0 < room
  pub call : reads before room answer after
  pub faults : Counts (IsErr answer) (count before) (count after)
  pub content : GivesWhereTold (told before) room answer (told after)

-- Where some bytes were known, so many are after these reads. Each was made while what was known was open, and gave some.
pub data Reads {S : Type 0} (Step : S → Result (List ℕ) Failed → S → Type 0) (Open : List ℕ → Type 0) (old : S) (had : List ℕ) : List ℕ → S → Type 0 where
  none : Reads Step Open old had had old
  more : (known piece : List ℕ) (mid new : S) → Reads Step Open old had known mid → Open known → 0 < length piece → Step mid (Ok piece) new
      → Reads Step Open old had (known ++ piece) new

-- the same, and then a read while these bytes were open that had this answer
pub record ReadsUntil {S : Type 0} (Step : S → Result (List ℕ) Failed → S → Type 0) (Open : List ℕ → Type 0) (old : S) (had : List ℕ)
    (answer : Result (List ℕ) Failed) (known : List ℕ) (new : S) : Type 0 where
  pub mid : S
  pub before : Reads Step Open old had known mid
  pub is_open : Open known
  pub last : Step mid answer new
