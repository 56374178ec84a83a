-- Locals by groups (section 5.5.13).
use Rattle.std.specs.Prelude.{◌≡◌, ℕ, suc, ◌<◌, Bool, true, false, if◌then◌else◌, List, [], ◌∷◌, ◌++◌, replicate}
use Rattle.wasm_types.specs.declared.types.ValueType.{ValueType}
use Rattle.wasm_types.specs.declared.locals.Group.{Group}
use Rattle.wasm_types.specs.Types.{same_type}

-- the locals of groups, one by one
abbrev pub locals_of : List Group → List ValueType
locals_of [] = []
locals_of (g ∷ groups) = replicate g.count g.kind ++ locals_of groups

abbrev pub one_more : ValueType → List Group → List Group
one_more kind [] = record { count = 1; kind = kind } ∷ []
one_more kind (g ∷ groups) = if same_type kind g.kind then record { count = suc g.count; kind = g.kind } ∷ groups else record { count = 1; kind = kind } ∷ (g ∷ groups)

-- locals in the fewest groups
unfoldable pub groups_of : List ValueType → List Group
groups_of [] = []
groups_of (kind ∷ locals) = one_more kind (groups_of locals)

-- groups behind a type that begin with another one
abbrev pub Differ : ValueType → List Group → Type 0
Differ kind [] = Unit {0}
Differ kind (g ∷ groups) = same_type kind g.kind ≡ false

-- groups of which none is empty, and no two of one type stand one behind the other
abbrev pub AreFewest : List Group → Type 0
AreFewest [] = Unit {0}
AreFewest (g ∷ groups) = (0 < g.count) × Differ g.kind groups × AreFewest groups
