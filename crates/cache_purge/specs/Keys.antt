-- The objects that may have a surrogate key.
use Rattle.std.specs.Prelude.{◌≡◌, ℕ, Bool, true, ◌==◌, List, [], Option}
use Rattle.std.specs.Global.{Vec}
use Rattle.std.specs.List.{list_any}
use Rattle.std.specs.Option.{option_map_or}
use Rattle.std.specs.BTreeMap.{BTreeMap, get}
use Rattle.std.specs.Ordering.{nat_cmp}
use Rattle.std.specs.Cmp.Lexicographic.{slice_cmp}

-- a list of objects for each key
abbrev pub KeyMap : Type 0
KeyMap = BTreeMap (List ℕ) (Vec ℕ)

-- no list names none
abbrev pub items_of : Option (Vec ℕ) → List ℕ
items_of list = option_map_or (λ (v : Vec ℕ). v.items) list []

-- the objects that may have the key
abbrev pub named_at : KeyMap → List ℕ → List ℕ
named_at keys key = items_of (get (slice_cmp nat_cmp) keys key)

-- the object stands in the list
abbrev pub is_named : ℕ → List ℕ → Bool
is_named object named = list_any (λ n. n == object) named

-- what was named stays so
abbrev pub IsMore : KeyMap → KeyMap → Type 0
IsMore old new = (key : List ℕ) (object : ℕ) → is_named object (named_at old key) ≡ true → is_named object (named_at new key) ≡ true
