-- Stores of the settings by their names, and their texts by keys.
use Rattle.std.specs.Prelude.{ℕ, List, Option, option_and_then}
use Rattle.std.specs.BTreeMap.{BTreeMap, get}
use Rattle.std.specs.Ordering.{nat_cmp}
use Rattle.std.specs.Cmp.Lexicographic.{slice_cmp}

abbrev pub Texts : Type 0
Texts = BTreeMap (List ℕ) (List ℕ)

abbrev pub Stores : Type 0
Stores = BTreeMap (List ℕ) Texts

abbrev pub store_named : Stores → List ℕ → Option Texts
store_named stores name = get (slice_cmp nat_cmp) stores name

abbrev pub text_at : Texts → List ℕ → Option (List ℕ)
text_at texts key = get (slice_cmp nat_cmp) texts key

-- the text of a key in a store
abbrev pub text_named : Stores → List ℕ → List ℕ → Option (List ℕ)
text_named stores name key = option_and_then (λ texts. text_at texts key) (store_named stores name)
