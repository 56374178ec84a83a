-- The topmost item of a stack, which is the first one of its list.
use Rattle.std.specs.Prelude.{Option, Some, None, List, [], ◌∷◌}

-- the topmost item, and those below it
abbrev pub head_of : {A : Type 0} → List A → Option A
head_of [] = None
head_of (x ∷ xs) = Some x

abbrev pub tail_of : {A : Type 0} → List A → List A
tail_of [] = []
tail_of (x ∷ xs) = xs

-- another topmost item
abbrev pub first_set : {A : Type 0} → A → List A → List A
first_set y [] = []
first_set y (x ∷ xs) = y ∷ xs
