-- What holds of a turnstile between any two steps.
-- Word 0 is the turn, 1 while a seat is inside. Word 1 counts the entries that were added. The one slot has the value.
use Rattle.std.specs.Prelude.{◌≡◌, ◌≢◌, ℕ, ◌<◌, ◌≤◌, ◌==◌, cond, List, [], ◌∷◌, ◌++◌, length, take, sum_by, All, Option, None, Some}
use mathlib.Core.Option.{some, none}
use mathlib.Core.Option as option
use mathlib.Core.List.{IsPrefix}
use lib.ListN.{get_elem?}
use Rattle.atomic_table.specs.Table.{State, Me}
use Rattle.atomic_table.specs.Seated.{TableId}
use Rattle.atomic_table.specs.declared.shared.Seat.{Seat}
use Rattle.turnstile.specs.declared.view.View.{View}
use Rattle.turnstile.specs.Log.{entries_of, owned, Families}

-- the turn word: free, or held by a seat
abbrev pub turn_of : option.Option ℕ → ℕ
turn_of none = 0
turn_of (some _) = 1

-- all parts of the passes of one turnstile
abbrev pub all_parts : ℕ
all_parts = 4294967296

module _ {E : Type 0} where
  -- what the seat j knows of the turn: the one that has it knows the published list
  abbrev pub inside_of : option.Option ℕ → ℕ → List E → Option (List E)
  inside_of none j list = None
  inside_of (some i) j list = cond (i == j) (Some list) None

  -- the seat j saw the first entries of the log, and added none of the others
  pub record Sees (base : List E) (log : List (ℕ × E)) (j : ℕ) (seen : List E) : Type 0 where
    pub count : ℕ
    pub within : count ≤ length log
    pub list : seen ≡ base ++ entries_of (take count log)
    pub others : (i : ℕ) (x : ℕ × E) → count ≤ i → get_elem? log i ≡ some x → x.0 ≢ j

-- what one seat knows
pub record Knows {T E : Type 0} (start : T) (base : List E) (number : ℕ) (log : List (ℕ × E)) (holder : option.Option ℕ) (j : ℕ) (v : View T E) : Type 0 where
  pub made : v.mine ≡ owned j number log
  pub place : v.inside ≡ inside_of holder j (base ++ entries_of log)
  pub told : IsPrefix v.told (base ++ entries_of log)
  pub origin : 0 < v.parts → v.start ≡ Some start
  pub sight : 0 < v.parts → Sees base log j v.seen
  pub spent : v.parts ≡ 0 → (v.mine ≡ []) × (v.inside ≡ None)

-- The value that was kept first had the list `base`, and the next entry's number is `number`.
pub record Stands {T E : Type 0} (start : T) (base : List E) (number : ℕ) (fits : List E → T → Type 0) (family : E → ℕ) (s : State (Option T) (View T E)) : Type 0 where
  pub log : List (ℕ × E)
  pub holder : option.Option ℕ
  pub words : s.words ≡ turn_of holder ∷ length log ∷ []
  pub home : holder ≡ none → (x : T) × (s.homes ≡ some (Some x) ∷ []) × fits (base ++ entries_of log) x
  pub held : (j : ℕ) → holder ≡ some j → j < length s.views
  pub makers : (i : ℕ) (x : ℕ × E) → get_elem? log i ≡ some x → x.0 < length s.views
  pub older : All (λ e. family e < number) base
  pub families : Families family number log
  pub seats : (j : ℕ) (v : View T E) → get_elem? s.views j ≡ some v → Knows start base number log holder j v
  pub parts : sum_by (λ v. v.parts) s.views ≡ all_parts

-- the first seat's view
abbrev pub first_view : {T E : Type 0} → T → List E → View T E
first_view start base = record { start = Some start; seen = base; told = []; mine = []; lost = 0; idle = 0; parts = all_parts; inside = None }

-- a table of two words and one slot, and a seat of it
abbrev pub IsTable : TableId → TableId → Type 0
IsTable table of_seat = (table.words ≡ 2) × (table.slots ≡ 1) × (of_seat ≡ table)

-- a seat that is not spent, and outside
abbrev pub IsOutside : {T E : Type 0} → Me (Option T) (View T E) → Type 0
IsOutside me = (me.1 ≡ []) × (me.0.inside ≡ None) × (0 < me.0.parts)

abbrev pub IsSameSeat : {T E : Type 0} → Seat (Option T) (View T E) → Seat (Option T) (View T E) → Type 0
IsSameSeat old new = (new.table_id ≡ old.table_id) × (new.id ≡ old.id)
