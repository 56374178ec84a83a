-- What is told of a load.
use Rattle.std.specs.Prelude.{◌≡◌, ℕ, Bool, true, false, List, [], ◌∷◌, ◌++◌, length, filter, sum_by, codes, decimal}
use Rattle.cache_types.specs.declared.entries.Entry.{Entry}
use Rattle.cache_types.specs.declared.replies.Reply.{Reply}
use Rattle.cache_types.specs.declared.replies.Reply.TheVariants.{Got, Bytes}
use Rattle.edge_load.specs.Load.{load_run}
use Rattle.edge_load.specs.Playable.{IsHistoryOf}

-- the reply tells what a lookup got
abbrev pub is_got : Reply → Bool
is_got (Got bits hit) = true
is_got _ = false

-- how many bytes the reply hands out
abbrev pub bytes_in : Reply → ℕ
bytes_in (Bytes piece) = length piece
bytes_in _ = 0

-- how many replies tell what a lookup got
abbrev pub gots : List Entry → ℕ
gots history = length (filter (λ (e : Entry). is_got e.reply) history)

-- how many bytes all replies hand out
abbrev pub bytes_read : List Entry → ℕ
bytes_read history = sum_by (λ (e : Entry). bytes_in e.reply) history

-- the line of a load: its entries, the lookups that were answered, the bytes that were read
abbrev pub load_line : ℕ → List Entry → List ℕ
load_line number history =
    codes "load " ++ (decimal number
    ++ (codes " steps 50000 entries " ++ (decimal (length history)
    ++ (codes " got " ++ (decimal (gots history)
    ++ (codes " bytes " ++ (decimal (bytes_read history) ++ 10 ∷ [])))))))

-- the text is the line of the load with this number, over a cache with this room
pub record IsLoadLine (most number : ℕ) (text : List ℕ) : Type 0 where
  pub history : List Entry
  pub history_is : IsHistoryOf most (load_run number) history
  pub line : text ≡ load_line number history
