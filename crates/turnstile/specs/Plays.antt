-- What each step tells the seat that made it.
use Rattle.std.specs.Prelude.{◌≡◌, ◌≢◌, ℕ, ◌+◌, ◌-◌, ◌<◌, ◌≤◌, nat_le, ◌^◌, cond, Bool, List, [], ◌∷◌, ◌++◌, length, All, Option, None, Some}
use mathlib.Core.List.{IsPrefix}
use Rattle.atomic_table.specs.Table.{Me, Step}
use Rattle.turnstile.specs.declared.view.View.{View}
use Rattle.turnstile.specs.Standing.{Fits, MayJoin, OfFamily, Adds}
use Rattle.turnstile.specs.Log.{IsShare, entries_of, owned, merged, Families}

-- the list of a value, the number of its first entry, what a later value with a list has in common with it, and the family of an entry
module _ {T E : Type 0} (entries : T → List E) (first : T → ℕ) (fits : T → List E → T → Type 0) (family : E → ℕ) where
  abbrev pub next : T → ℕ
  next start = first start + length (entries start)

  abbrev pub Here : Type 0
  Here = Me (Option T) (View T E)

  abbrev pub Shares : View T E → Type 0
  Shares v = (start : T) → v.start ≡ Some start → IsShare (entries start) (next start) family v.seen v.mine

  -- the turn was free: the seat is inside, with the value, which stands for all that is published
  abbrev pub Won : Here → Here → Type 0
  Won me me' = (list : List E) × (x : T) × (me' ≡ (record me.0 { inside = Some list }, (0, Some x) ∷ me.1)) × IsPrefix me.0.seen list
      × ((start : T) → me.0.start ≡ Some start → fits start list x × IsShare (entries start) (next start) family list me.0.mine)

  -- the turn was held
  abbrev pub Lost : Here → Here → Type 0
  Lost me me' = (me' ≡ (record me.0 { lost = me.0.lost + 1 }, me.1)) × Shares me.0

  abbrev pub Claimed : Step (Option T) → Here → ℕ → Here → Type 0
  Claimed st me found me' = (found ≡ 0 → Won me me') × (found ≢ 0 → Lost me me')

  -- the entry e stands behind the published list
  abbrev pub Published : Step (Option T) → Here → ℕ → Here → Type 0
  Published st me found me' = (start x : T) (list : List E) (e : E) → me.0.start ≡ Some start → me.0.inside ≡ Some list → me.1 ≡ (0, Some x) ∷ [] → entries x ≡ list ++ e ∷ []
      → me' ≡ (record me.0 { seen = list ++ e ∷ []; mine = me.0.mine ++ (first start + length list, e) ∷ []; inside = Some (list ++ e ∷ []) }, me.1)

  -- the seat is outside
  abbrev pub Left : Step (Option T) → Here → ℕ → Here → Type 0
  Left st me found me' = (me' ≡ (record me.0 { inside = None }, [])) × Shares me'.0

  -- the seat is outside, and saw the list
  abbrev pub LeftIdle : Step (Option T) → Here → ℕ → Here → Type 0
  LeftIdle st me found me' = (list : List E) → me.0.inside ≡ Some list → (me' ≡ (record me.0 { seen = list; idle = me.0.idle + 1; inside = None }, [])) × Shares me'.0

  -- the seat saw as many entries as were counted
  abbrev pub Learned : Step (Option T) → Here → ℕ → Here → Type 0
  Learned st me found me' = (list : List E) × (me' ≡ (record me.0 { seen = list }, me.1)) × IsPrefix me.0.seen list × ((start : T) → me.0.start ≡ Some start → length list ≡ length (entries start) + found) × Shares me'.0

  -- what a joined seat had seen begins what both have seen
  abbrev pub Settled : Step (Option T) → Here → ℕ → Here → Type 0
  Settled st me found me' = (me' ≡ (record me.0 { told = [] }, me.1)) × (length me.0.told ≤ length me.0.seen → IsPrefix me.0.told me.0.seen) × Shares me'.0

-- the longer of two lists, and the other
module _ {E : Type 0} where
  abbrev pub longer : List E → List E → List E
  longer xs ys = cond (nat_le (length ys) (length xs)) xs ys

  abbrev pub shorter : List E → List E → List E
  shorter xs ys = cond (nat_le (length ys) (length xs)) ys xs

module _ {T E : Type 0} where
  -- a new seat has seen the same, and so many parts
  abbrev pub kept_part : ℕ → View T E → View T E
  kept_part n v = record v { parts = v.parts - n }

  abbrev pub new_part : ℕ → View T E → View T E
  new_part n v = record v { mine = []; lost = 0; idle = 0; parts = n }

  abbrev pub joined : View T E → View T E → View T E
  joined v w = record v { seen = longer v.seen w.seen; told = shorter v.seen w.seen; mine = merged v.mine w.mine; lost = v.lost + w.lost; idle = v.idle + w.idle; parts = v.parts + w.parts }

  -- the joined view, once it is settled which list is longer
  abbrev pub rejoined : View T E → View T E → View T E
  rejoined v w = record (joined v w) { told = [] }

  abbrev pub spent_view : View T E
  spent_view = record { start = None; seen = []; told = []; mine = []; lost = 0; idle = 0; parts = 0; inside = None }

-- the view after a turn in which the value, which stood for this list, gained this entry, if any
abbrev pub turn_ended : {T E : Type 0} → View T E → ℕ → List E → Option E → View T E
turn_ended v number list None = record v { seen = list; idle = v.idle + 1; inside = None }
turn_ended v number list (Some e) = record v { seen = list ++ e ∷ []; mine = v.mine ++ (number, e) ∷ []; inside = None }

-- A seat that is inside has a value to put back: one that fits, and has this entry more than the published list, if any.
pub record IsDone {T E S : Type 0} (setting : T → S) (first : T → ℕ) (entries : T → List E) (sound : T → Type 0) (family : E → ℕ) (start : T) (me : Me (Option T) (View T E)) (added : Bool) : Type 0 where
  pub list : List E
  pub value : T
  pub gained : Option E
  pub joins : Option ℕ
  pub inside : me.0.inside ≡ Some list
  pub loaded : me.1 ≡ (0, Some value) ∷ []
  pub fit : Fits setting first entries sound start (entries value) value
  pub room : length (entries value) < 2 ^ 64
  pub may : MayJoin family joins me.0.mine
  pub adds : Adds family joins (first start + length list) list gained added (entries value)

-- what the seat is then: outside, with the entry, if any
abbrev pub IsEnded : {T E : Type 0} → (T → ℕ) → (T → List E) → (E → ℕ) → T → Me (Option T) (View T E) → Bool → Me (Option T) (View T E) → Type 0
IsEnded {T} {E} first entries family start me added me' = (list : List E) (value : T) (gained : Option E) (joins : Option ℕ) → me.0.inside ≡ Some list → me.1 ≡ (0, Some value) ∷ []
    → Adds family joins (first start + length list) list gained added (entries value) → me' ≡ (turn_ended me.0 (first start + length list) list gained, [])

-- A seat that is inside has the value, which stands for the published list, and a fact holds of it.
pub record IsReady {T E S : Type 0} (setting : T → S) (first : T → ℕ) (entries : T → List E) (sound : T → Type 0) (start : T) (me : Me (Option T) (View T E)) (asked : T → Type 0) : Type 0 where
  pub value : T
  pub inside : me.0.inside ≡ Some (entries value)
  pub loaded : me.1 ≡ (0, Some value) ∷ []
  pub fit : Fits setting first entries sound start (entries value) value
  pub asks : asked value

-- The seat had the value that served the job, and is outside, with the entry that was gained, if any.
pub record HasServed {T E J A : Type 0} (first : T → ℕ) (entries : T → List E) (family : E → ℕ) (joins : Option ℕ) (gives : T → J → A → Option E → Type 0) (me : Me (Option T) (View T E)) (job : J) (answer : A) (me' : Me (Option T) (View T E)) : Type 0 where
  pub value : T
  pub gained : Option E
  pub loaded : me.1 ≡ (0, Some value) ∷ []
  pub given : gives value job answer gained
  pub member : OfFamily family joins (first value + length (entries value)) gained
  pub result : me' ≡ (turn_ended me.0 (first value + length (entries value)) (entries value) gained, [])
