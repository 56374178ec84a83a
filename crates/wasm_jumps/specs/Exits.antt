-- What a table of exits knows of an expression: the place of the end of each block, and that of the else of each if.
use Rattle.std.specs.Prelude.{◌≡◌, ℕ, ◌-◌, Option, Some, List, [], ◌∷◌, length, drop, slice_get}
use Rattle.wasm_types.specs.declared.types.ValueType.{ValueType}
use Rattle.wasm_types.specs.declared.instructions.Instr.{Instr}
use Rattle.wasm_types.specs.declared.instructions.Instr.TheVariants.{Block, If, Else, End}
use Rattle.wasm_types.specs.declared.modules.Code.{Code}
use Rattle.wasm_types.specs.Nested.{Body, Nests, flat_onto}

-- the beginnings of blocks know their ends
pub record KnowsExits (code : List Instr) (exits : List ℕ) : Type 0 where
  pub last : drop (length code - 1) code ≡ End ∷ []
  pub of_block : (p : ℕ) (r : Option ValueType) (inner : Body) (after : List Instr) → drop p code ≡ Block r ∷ flat_onto inner (End ∷ after)
      → (e : ℕ) × (slice_get exits p ≡ Some e) × (drop e code ≡ End ∷ after)
  pub of_if : (p : ℕ) (r : Option ValueType) (inner : Body) (after : List Instr) → drop p code ≡ If r ∷ flat_onto inner (End ∷ after)
      → (e : ℕ) × (slice_get exits p ≡ Some e) × (drop e code ≡ End ∷ after)
  pub of_else : (p : ℕ) (r : Option ValueType) (first second : Body) (after : List Instr) → drop p code ≡ If r ∷ flat_onto first (Else ∷ flat_onto second (End ∷ after))
      → (e : ℕ) × (f : ℕ) × (slice_get exits p ≡ Some e) × (drop e code ≡ Else ∷ flat_onto second (End ∷ after)) × (slice_get exits e ≡ Some f) × (drop f code ≡ End ∷ after)

-- a table knows the code of a function
abbrev pub Knows : Code → List ℕ → Type 0
Knows c table = (body : Body) → Nests c.body body → KnowsExits c.body table

-- a table for each function
abbrev pub AllKnow : List Code → List (List ℕ) → Type 0
AllKnow [] [] = Unit {0}
AllKnow [] (t ∷ ts) = ⊥
AllKnow (c ∷ cs) [] = ⊥
AllKnow (c ∷ cs) (t ∷ ts) = Knows c t × AllKnow cs ts
