-- Which flat lists of instructions are nested ones (sections 2.4.5, 2.4.6 and 5.4.1).
use Rattle.std.specs.Prelude.{◌≡◌, ℕ, ◌+◌, ◌≤◌, max, Bool, true, false, List, [], ◌∷◌, Option}
use Rattle.wasm_types.specs.declared.types.ValueType.{ValueType}
use Rattle.wasm_types.specs.declared.instructions.Instr.{Instr}
use Rattle.wasm_types.specs.declared.instructions.Instr.TheVariants.{Block, Loop, If, Else, End}

-- what an instruction does to the blocks that are open: it opens one, parts an if, closes one, or none of these
pub data Role : Type 0 where
  Opens : Bool → Role
  Parts : Role
  Closes : Role
  Plain : Role

-- an if may have an else, a block and a loop may not
abbrev pub role_of : Instr → Role
role_of (Block r) = Opens false
role_of (Loop r) = Opens false
role_of (If r) = Opens true
role_of Else = Parts
role_of End = Closes
role_of i = Plain

-- A sequence of nested instructions.
pub data Body : Type 0 where
  Done : Body
  Goes : (i : Instr) → role_of i ≡ Plain → Body → Body
  InBlock : Option ValueType → Body → Body → Body
  InLoop : Option ValueType → Body → Body → Body
  InIf : Option ValueType → Body → Body → Body
  InIfElse : Option ValueType → Body → Body → Body → Body

-- the sequence as a flat list, and what follows it
abbrev pub flat_onto : Body → List Instr → List Instr
flat_onto Done after = after
flat_onto (Goes i p rest) after = i ∷ flat_onto rest after
flat_onto (InBlock r inner rest) after = Block r ∷ flat_onto inner (End ∷ flat_onto rest after)
flat_onto (InLoop r inner rest) after = Loop r ∷ flat_onto inner (End ∷ flat_onto rest after)
flat_onto (InIf r inner rest) after = If r ∷ flat_onto inner (End ∷ flat_onto rest after)
flat_onto (InIfElse r first second rest) after = If r ∷ flat_onto first (Else ∷ flat_onto second (End ∷ flat_onto rest after))

-- how many blocks are open at once, at most
abbrev pub depth_of : Body → ℕ
depth_of Done = 0
depth_of (Goes i p rest) = depth_of rest
depth_of (InBlock r inner rest) = max (1 + depth_of inner) (depth_of rest)
depth_of (InLoop r inner rest) = max (1 + depth_of inner) (depth_of rest)
depth_of (InIf r inner rest) = max (1 + depth_of inner) (depth_of rest)
depth_of (InIfElse r first second rest) = max (1 + max (depth_of first) (depth_of second)) (depth_of rest)

-- an expression: nested instructions, and the end that closes them (section 2.4.6)
abbrev pub Nests : List Instr → Body → Type 0
Nests code body = code ≡ flat_onto body (End ∷ [])

-- an expression in which no more than so many blocks are open at once
abbrev pub NestsWithin : ℕ → List Instr → Type 0
NestsWithin most code = (body : Body) × Nests code body × (depth_of body ≤ most)
