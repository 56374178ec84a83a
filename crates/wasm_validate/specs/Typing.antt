-- The types of nested instructions (sections 3.3.1 to 3.3.7, and 3.4.1).
use Rattle.std.specs.Option.{option_to_list as listed}
use Rattle.std.specs.Prelude.{◌≡◌, ℕ, ◌+◌, ◌-◌, ◌≤◌, None, Result, Ok, Err, List, [], ◌∷◌, ◌++◌, length}
use Rattle.wasm_types.specs.declared.types.ValueType.{ValueType}
use Rattle.wasm_types.specs.declared.types.ValueType.TheVariants.{I32}
use Rattle.wasm_types.specs.declared.instructions.Instr.{Instr}
use Rattle.wasm_types.specs.Nested.{Body, Done, Goes, InBlock, InLoop, InIf, InIfElse}
use Rattle.wasm_validate.specs.declared.fault.ValidKind.{ValidKind}
use Rattle.wasm_validate.specs.Rules.{Context, Labels, Rule, Mono, Leaves, AnyDrop, AnySelect, rule_of, misuse}

-- a stack, the topmost operand first
abbrev pub Types : Type 0
Types = List ValueType

-- A rule leads from one stack to another. What is below the operands that it takes stays, except where the
-- instruction never goes on: after that any stack may be.
abbrev pub Moves : Rule → Types → Types → Type 0
Moves (Mono takes gives) xs ys = (below : Types) × (xs ≡ takes ++ below) × (ys ≡ gives ++ below)
Moves (Leaves takes) xs ys = (below : Types) × (xs ≡ takes ++ below)
Moves AnyDrop xs ys = (t : ValueType) × (xs ≡ t ∷ ys)
Moves AnySelect xs ys = (t : ValueType) × (below : Types) × (xs ≡ I32 ∷ t ∷ t ∷ below) × (ys ≡ t ∷ below)

-- an instruction that is no block
abbrev pub IsTyped : Context → Labels → Instr → Types → Types → Type 0
IsTyped c labels i xs ys = (rule : Rule) × (rule_of c labels i ≡ Ok rule) × (misuse c i ≡ None) × Moves rule xs ys

-- A sequence leads from one stack to another. A block sees none of the operands round it, and leaves its result
-- (sections 3.3.5 and 3.3.6).
abbrev pub AreTyped : Body → Context → Labels → Types → Types → Type 0
AreTyped Done c labels xs ys = xs ≡ ys
AreTyped (Goes i p rest) c labels xs ys = (mid : Types) × IsTyped c labels i xs mid × AreTyped rest c labels mid ys
AreTyped (InBlock r inner rest) c labels xs ys = AreTyped inner c (r ∷ labels) [] (listed r) × AreTyped rest c labels (listed r ++ xs) ys
AreTyped (InLoop r inner rest) c labels xs ys = AreTyped inner c (None ∷ labels) [] (listed r) × AreTyped rest c labels (listed r ++ xs) ys
AreTyped (InIf r inner rest) c labels xs ys =
    (below : Types) × (xs ≡ I32 ∷ below) × AreTyped inner c (r ∷ labels) [] (listed r) × (listed r ≡ []) × AreTyped rest c labels (listed r ++ below) ys
AreTyped (InIfElse r first second rest) c labels xs ys =
    (below : Types) × (xs ≡ I32 ∷ below) × AreTyped first c (r ∷ labels) [] (listed r) × AreTyped second c (r ∷ labels) [] (listed r) × AreTyped rest c labels (listed r ++ below) ys

-- ---- the limit on the height of operands

-- how many operands of its block an instruction leaves, of so many that it finds; what is taken from further below
-- isn't counted
abbrev pub left_by : Result Rule ValidKind → ℕ → ℕ
left_by (Ok (Mono takes gives)) own = length gives + (own - length takes)
left_by (Ok (Leaves takes)) own = 0
left_by (Ok AnyDrop) own = own - 1
left_by (Ok AnySelect) own = 1 + (own - 1 - 1 - 1)
left_by (Err kind) own = own

-- After no instruction are there more than 1,024 operands: those round the block, and its own.
abbrev pub AreLow : Body → Context → Labels → ℕ → ℕ → Type 0
AreLow Done c labels height own = Unit {0}
AreLow (Goes i p rest) c labels height own = (height + left_by (rule_of c labels i) own ≤ 1024) × AreLow rest c labels height (left_by (rule_of c labels i) own)
AreLow (InBlock r inner rest) c labels height own =
    AreLow inner c (r ∷ labels) (height + own) 0 × (height + (length (listed r) + own) ≤ 1024) × AreLow rest c labels height (length (listed r) + own)
AreLow (InLoop r inner rest) c labels height own =
    AreLow inner c (None ∷ labels) (height + own) 0 × (height + (length (listed r) + own) ≤ 1024) × AreLow rest c labels height (length (listed r) + own)
AreLow (InIf r inner rest) c labels height own =
    AreLow inner c (r ∷ labels) (height + (own - 1)) 0 × (height + (length (listed r) + (own - 1)) ≤ 1024) × AreLow rest c labels height (length (listed r) + (own - 1))
AreLow (InIfElse r first second rest) c labels height own =
    AreLow first c (r ∷ labels) (height + (own - 1)) 0 × AreLow second c (r ∷ labels) (height + (own - 1)) 0 × (height + (length (listed r) + (own - 1)) ≤ 1024) × AreLow rest c labels height (length (listed r) + (own - 1))

-- a function's body (section 3.4.1), within the limit
abbrev pub IsTypedBody : Context → Body → Type 0
IsTypedBody c body = AreTyped body c (c.result ∷ []) [] (listed c.result) × AreLow body c (c.result ∷ []) 0 0
