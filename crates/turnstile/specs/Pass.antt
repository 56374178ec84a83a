-- A turnstile and its passes, as contracts see them, and what one turn does to a pass.
use Rattle.std.specs.Prelude.{◌≡◌, ℕ, ◌+◌, List, [], ◌∷◌, ◌++◌, length, Option, None, Some}
use mathlib.Core.List.{IsPrefix}
use Rattle.atomic_table.specs.Seated.{TableId}
use Rattle.turnstile.specs.declared.view.View.{View}
use Rattle.turnstile.specs.Standing.{Fits, OfFamily}
use Rattle.turnstile.specs.Log.{IsShare, merged}
use Rattle.turnstile.specs.Rule.{all_parts}
use Rattle.turnstile.specs.Plays.{longer}

-- which turnstile it is, and the value that it was made with
pub record TurnstileView (T : Type 0) : Type 0 where
  pub table : TableId
  pub start : T

-- A pass of a turnstile that was made with `start`: what was seen, the entries made through it, each under its number,
-- the claims that found the turn held, the turns that added nothing, and how many of all parts it has.
pub record PassView (T E : Type 0) : Type 0 where
  pub table : TableId
  pub start : Option T
  pub seen : List E
  pub mine : List (ℕ × E)
  pub lost : ℕ
  pub idle : ℕ
  pub parts : ℕ

-- the pass of a seat
abbrev pub pass_view : {T E : Type 0} → TableId → View T E → PassView T E
pass_view table v = record { table = table; start = v.start; seen = v.seen; mine = v.mine; lost = v.lost; idle = v.idle; parts = v.parts }

-- the pass is one of this turnstile
abbrev pub IsOf : {T E : Type 0} → TurnstileView T → PassView T E → Type 0
IsOf turnstile pass = (pass.table ≡ turnstile.table) × (pass.start ≡ Some turnstile.start)

-- There is a log of who made each entry that was added: `seen` begins with the first value's list and goes on with the log's entries, and `mine` has just those of one maker.
abbrev pub Stood : {T E : Type 0} → (T → List E) → (T → ℕ) → (E → ℕ) → TurnstileView T → PassView T E → Type 0
Stood entries first family turnstile pass = IsShare (entries turnstile.start) (first turnstile.start + length (entries turnstile.start)) family pass.seen pass.mine

-- the list, the own entries and the count of idle turns after a turn in which the value gained this entry, if any
module _ {E : Type 0} where
  abbrev pub list_after : List E → Option E → List E
  list_after list None = list
  list_after list (Some e) = list ++ e ∷ []

  abbrev pub mine_after : List (ℕ × E) → ℕ → Option E → List (ℕ × E)
  mine_after mine number None = mine
  mine_after mine number (Some e) = mine ++ (number, e) ∷ []

  abbrev pub idle_after : ℕ → Option E → ℕ
  idle_after idle None = idle + 1
  idle_after idle (Some e) = idle

-- the pass after a turn: the value stood for this list, and gained this entry, if any, under this number
abbrev pub after_turn : {T E : Type 0} → PassView T E → ℕ → List E → Option E → PassView T E
after_turn pass number list gained = record pass { seen = list_after list gained; mine = mine_after pass.mine number gained; idle = idle_after pass.idle gained }

-- a pass of the same turnstile, with as many parts
abbrev pub IsSamePass : {T E : Type 0} → PassView T E → PassView T E → Type 0
IsSamePass old new = (new.table ≡ old.table) × (new.start ≡ old.start) × (new.parts ≡ old.parts)

-- The job was served once, by a value of this turnstile that stood for all that was published, and the pass has what came of it.
pub record Served {T E S J A : Type 0} (setting : T → S) (first : T → ℕ) (entries : T → List E) (sound : T → Type 0) (family : E → ℕ) (joins : Option ℕ) (gives : T → J → A → Option E → Type 0)
    (turnstile : TurnstileView T) (before : PassView T E) (job : J) (answer : A) (after : PassView T E) : Type 0 where
  pub value : T
  pub gained : Option E
  pub fit : Fits setting first entries sound turnstile.start (entries value) value
  pub longer : IsPrefix before.seen (entries value)
  pub given : gives value job answer gained
  pub member : OfFamily family joins (first value + length (entries value)) gained
  pub result : after ≡ after_turn before (first value + length (entries value)) (entries value) gained

-- the pass that a turnstile is made with: it saw the first list, and has all parts
abbrev pub first_pass : {T E : Type 0} → TurnstileView T → List E → PassView T E
first_pass turnstile list = record { table = turnstile.table; start = Some turnstile.start; seen = list; mine = []; lost = 0; idle = 0; parts = all_parts }

-- a pass that has so many parts, has seen the same, and made nothing
abbrev pub new_pass : {T E : Type 0} → PassView T E → ℕ → PassView T E
new_pass pass parts = record pass { mine = []; lost = 0; idle = 0; parts = parts }

-- two passes in one: the longer list, the entries of both by number, and the sums
abbrev pub both_passes : {T E : Type 0} → PassView T E → PassView T E → PassView T E
both_passes one other = record one { seen = longer one.seen other.seen; mine = merged one.mine other.mine; lost = one.lost + other.lost; idle = one.idle + other.idle; parts = one.parts + other.parts }

-- The pass has seen a list that begins with what it had seen, some number of entries behind the first list.
pub record HasLearned {T E : Type 0} (base : List E) (before after : PassView T E) : Type 0 where
  pub list : List E
  pub count : ℕ
  pub result : after ≡ record before { seen = list }
  pub more : IsPrefix before.seen list
  pub counted : length list ≡ length base + count
