-- A scan from left to right that remembers for each open block whether an else may part it accepts exactly the
-- lists of nested instructions.
use Rattle.std.proofs.Common.{◌≡◌, ℕ, suc, ◌+◌, ◌-◌, ◌<◌, ◌≤◌, max, Bool, true, false, cond, ltb, List, [], ◌∷◌, length, Option, Some, None, MatchBool, refl, sym, ap, subst, ◌∙◌, arith, ◌⊎◌, inl, inr}
use Rattle.std.proofs.lemmas.Bool.{cases_Bool, ltb-true, lt-ltb}
use Rattle.wasm_types.specs.declared.types.ValueType.{ValueType}
use Rattle.wasm_types.specs.declared.instructions.Compare.TheVariants as compares
use Rattle.wasm_types.specs.declared.instructions.Unary.TheVariants as unaries
use Rattle.wasm_types.specs.declared.instructions.Binary.TheVariants as binaries
use Rattle.wasm_types.specs.declared.instructions.LoadKind.TheVariants as loads
use Rattle.wasm_types.specs.declared.instructions.StoreKind.TheVariants as stores
use Rattle.wasm_types.specs.declared.instructions.Convert.TheVariants as converts
use Rattle.wasm_types.specs.declared.instructions.Test.TheVariants as tests
use Rattle.wasm_types.specs.declared.values.Value.TheVariants as values
use Rattle.wasm_types.specs.declared.instructions.Instr.{Instr}
use Rattle.wasm_types.specs.declared.instructions.Instr.TheVariants.{Unreachable, Nop, Block, Loop, If, Else, End, Br, BrIf, BrTable, Return, Call, CallIndirect, Drop, Select, LocalGet, LocalSet, LocalTee, GlobalGet, GlobalSet, Load, Store, MemorySize, MemoryGrow, Const, I32Test, I32Compare, I32Unary, I32Binary, I64Test, I64Compare, I64Unary, I64Binary}
use Rattle.wasm_types.specs.declared.instructions.Instr.TheVariants as instrs
use Rattle.wasm_types.specs.Nested.{Role, Opens, Parts, Closes, Plain, role_of, Body, Done, Goes, InBlock, InLoop, InIf, InIfElse, flat_onto, depth_of, NestsWithin}
use Rattle.wasm_code.specs.declared.fault.ReadKind.{ReadKind}
use Rattle.wasm_code.specs.declared.fault.ReadKind.TheVariants.{BadForm, NestedTooDeep}
use Rattle.wasm_code.specs.Opcodes.{opcode_of}
use Rattle.wasm_code.specs.Instructions.{may_else, refusal, opens_after, is_last}

-- why an instruction may not stand inside these blocks
abbrev pub refused : Role → List Bool → Option ReadKind
refused (Opens may) opens = cond (ltb (length opens) 1024) None (Some NestedTooDeep)
refused Parts opens = cond (may_else opens) None (Some BadForm)
refused Closes opens = None
refused Plain opens = None

pub refusal_of : (opens : List Bool) (i : Instr) → refusal opens (opcode_of i) ≡ refused (role_of i) opens
refusal_of opens Unreachable = refl
refusal_of opens Nop = refl
refusal_of opens (Block r) = refl
refusal_of opens (Loop r) = refl
refusal_of opens (If r) = refl
refusal_of opens Else = refl
refusal_of opens End = refl
refusal_of opens (Br l) = refl
refusal_of opens (BrIf l) = refl
refusal_of opens (BrTable labels other) = refl
refusal_of opens Return = refl
refusal_of opens (Call f) = refl
refusal_of opens (CallIndirect k) = refl
refusal_of opens Drop = refl
refusal_of opens Select = refl
refusal_of opens (LocalGet x) = refl
refusal_of opens (LocalSet x) = refl
refusal_of opens (LocalTee x) = refl
refusal_of opens (GlobalGet x) = refl
refusal_of opens (GlobalSet x) = refl
refusal_of opens (Load loads.I32 x y) = refl
refusal_of opens (Load loads.I64 x y) = refl
refusal_of opens (Load loads.I32From8S x y) = refl
refusal_of opens (Load loads.I32From8U x y) = refl
refusal_of opens (Load loads.I32From16S x y) = refl
refusal_of opens (Load loads.I32From16U x y) = refl
refusal_of opens (Load loads.I64From8S x y) = refl
refusal_of opens (Load loads.I64From8U x y) = refl
refusal_of opens (Load loads.I64From16S x y) = refl
refusal_of opens (Load loads.I64From16U x y) = refl
refusal_of opens (Load loads.I64From32S x y) = refl
refusal_of opens (Load loads.I64From32U x y) = refl
refusal_of opens (Store stores.I32 x y) = refl
refusal_of opens (Store stores.I64 x y) = refl
refusal_of opens (Store stores.I32To8 x y) = refl
refusal_of opens (Store stores.I32To16 x y) = refl
refusal_of opens (Store stores.I64To8 x y) = refl
refusal_of opens (Store stores.I64To16 x y) = refl
refusal_of opens (Store stores.I64To32 x y) = refl
refusal_of opens MemorySize = refl
refusal_of opens MemoryGrow = refl
refusal_of opens (Const (values.I32 n)) = refl
refusal_of opens (Const (values.I64 n)) = refl
refusal_of opens (I32Test tests.Eqz) = refl
refusal_of opens (I32Compare compares.Eq) = refl
refusal_of opens (I32Compare compares.Ne) = refl
refusal_of opens (I32Compare compares.LtS) = refl
refusal_of opens (I32Compare compares.LtU) = refl
refusal_of opens (I32Compare compares.GtS) = refl
refusal_of opens (I32Compare compares.GtU) = refl
refusal_of opens (I32Compare compares.LeS) = refl
refusal_of opens (I32Compare compares.LeU) = refl
refusal_of opens (I32Compare compares.GeS) = refl
refusal_of opens (I32Compare compares.GeU) = refl
refusal_of opens (I32Unary unaries.Clz) = refl
refusal_of opens (I32Unary unaries.Ctz) = refl
refusal_of opens (I32Unary unaries.Popcnt) = refl
refusal_of opens (I32Binary binaries.Add) = refl
refusal_of opens (I32Binary binaries.Sub) = refl
refusal_of opens (I32Binary binaries.Mul) = refl
refusal_of opens (I32Binary binaries.DivS) = refl
refusal_of opens (I32Binary binaries.DivU) = refl
refusal_of opens (I32Binary binaries.RemS) = refl
refusal_of opens (I32Binary binaries.RemU) = refl
refusal_of opens (I32Binary binaries.And) = refl
refusal_of opens (I32Binary binaries.Or) = refl
refusal_of opens (I32Binary binaries.Xor) = refl
refusal_of opens (I32Binary binaries.Shl) = refl
refusal_of opens (I32Binary binaries.ShrS) = refl
refusal_of opens (I32Binary binaries.ShrU) = refl
refusal_of opens (I32Binary binaries.Rotl) = refl
refusal_of opens (I32Binary binaries.Rotr) = refl
refusal_of opens (I64Test tests.Eqz) = refl
refusal_of opens (I64Compare compares.Eq) = refl
refusal_of opens (I64Compare compares.Ne) = refl
refusal_of opens (I64Compare compares.LtS) = refl
refusal_of opens (I64Compare compares.LtU) = refl
refusal_of opens (I64Compare compares.GtS) = refl
refusal_of opens (I64Compare compares.GtU) = refl
refusal_of opens (I64Compare compares.LeS) = refl
refusal_of opens (I64Compare compares.LeU) = refl
refusal_of opens (I64Compare compares.GeS) = refl
refusal_of opens (I64Compare compares.GeU) = refl
refusal_of opens (I64Unary unaries.Clz) = refl
refusal_of opens (I64Unary unaries.Ctz) = refl
refusal_of opens (I64Unary unaries.Popcnt) = refl
refusal_of opens (I64Binary binaries.Add) = refl
refusal_of opens (I64Binary binaries.Sub) = refl
refusal_of opens (I64Binary binaries.Mul) = refl
refusal_of opens (I64Binary binaries.DivS) = refl
refusal_of opens (I64Binary binaries.DivU) = refl
refusal_of opens (I64Binary binaries.RemS) = refl
refusal_of opens (I64Binary binaries.RemU) = refl
refusal_of opens (I64Binary binaries.And) = refl
refusal_of opens (I64Binary binaries.Or) = refl
refusal_of opens (I64Binary binaries.Xor) = refl
refusal_of opens (I64Binary binaries.Shl) = refl
refusal_of opens (I64Binary binaries.ShrS) = refl
refusal_of opens (I64Binary binaries.ShrU) = refl
refusal_of opens (I64Binary binaries.Rotl) = refl
refusal_of opens (I64Binary binaries.Rotr) = refl
refusal_of opens (instrs.Convert converts.WrapI64) = refl
refusal_of opens (instrs.Convert converts.ExtendI32S) = refl
refusal_of opens (instrs.Convert converts.ExtendI32U) = refl

-- the scan
abbrev pub Scans : List Bool → List Instr → Type 0
Scans opens [] = ⊥
Scans opens (i ∷ code) = (refused (role_of i) opens ≡ None) × MatchBool (is_last (role_of i) opens) (code ≡ []) (Scans (opens_after (role_of i) opens) code)

-- ---- what the scan accepts is nested

-- what is left of an open block: up to its end, or up to an else and then its end
abbrev Left : Bool → ℕ → List Instr → List Instr → Type 0
Left may room code tail =
    ((body : Body) × (code ≡ flat_onto body (End ∷ tail)) × (depth_of body ≤ room))
    ⊎ ((may ≡ true) × ((first : Body) × (second : Body) × (code ≡ flat_onto first (Else ∷ flat_onto second (End ∷ tail))) × (depth_of first ≤ room) × (depth_of second ≤ room)))

-- what is left of all open blocks, and of the expression round them
abbrev LeftAll : List Bool → List Instr → Type 0
LeftAll [] code = (tail : List Instr) × Left false 1024 code tail × (tail ≡ [])
LeftAll (may ∷ opens) code = (tail : List Instr) × Left may (1024 - suc (length opens)) code tail × LeftAll opens tail

-- a piece of code in front of what is left
abbrev Fronts : (List Instr → List Instr) → (Body → Body) → ℕ → Type 0
Fronts put wrap room = (body : Body) → ((tail : List Instr) → put (flat_onto body tail) ≡ flat_onto (wrap body) tail) × (depth_of body ≤ room → depth_of (wrap body) ≤ room)

front : (put : List Instr → List Instr) (wrap : Body → Body) (may : Bool) (room : ℕ) (code tail : List Instr) → Fronts put wrap room → Left may room code tail → Left may room (put code) tail
front put wrap may room code tail h (inl b) = inl (wrap b.0, ap put b.1 ∙ (h b.0).0 (End ∷ tail), (h b.0).1 b.2)
front put wrap may room code tail h (inr b) = inr (b.0, (wrap b.1.0, b.1.1, ap put b.1.2 ∙ (h b.1.0).0 (Else ∷ flat_onto b.1.1 (End ∷ tail)), (h b.1.0).1 b.1.3, b.1.4))

front_all : (put : List Instr → List Instr) (wrap : Body → Body) (opens : List Bool) (code : List Instr) → Fronts put wrap (1024 - length opens) → LeftAll opens code → LeftAll opens (put code)
front_all put wrap [] code h l = (l.0, front put wrap false 1024 code l.0 h l.1, l.2)
front_all put wrap (may ∷ opens) code h l = (l.0, front put wrap may (1024 - suc (length opens)) code l.0 h l.1, l.2)

plain_front : (i : Instr) (p : role_of i ≡ Plain) (room : ℕ) → Fronts (λ code. i ∷ code) (λ body. Goes i p body) room
plain_front i p room body = (λ tail. refl, λ d. d)

-- a whole block in front of what is left
block_all : (i : Instr) (wrap : Body → Body → Body) (opens : List Bool) (code mid : List Instr) → length opens < 1024 → ((inner rest : Body) (tail : List Instr) → i ∷ flat_onto inner (End ∷ flat_onto rest tail) ≡ flat_onto (wrap inner rest) tail) → ((inner rest : Body) → depth_of (wrap inner rest) ≡ max (1 + depth_of inner) (depth_of rest))
    → ((inner : Body) × (code ≡ flat_onto inner (End ∷ mid)) × (depth_of inner ≤ 1024 - suc (length opens))) → LeftAll opens mid → LeftAll opens (i ∷ code)
block_all i wrap opens code mid deep flat depth b l =
    let moved = front_all (λ c. i ∷ flat_onto b.0 (End ∷ c)) (wrap b.0) opens mid (λ rest. (λ tail. flat b.0 rest tail, λ d. omega (arith, depth b.0 rest, b.2))) l in
    subst (λ (c : List Instr). LeftAll opens (i ∷ c)) (sym b.1) moved

not_true : {P : Type 0} → false ≡ true → P
not_true e = absurd cc

only_ends : (room : ℕ) (code tail : List Instr) → Left false room code tail → (inner : Body) × (code ≡ flat_onto inner (End ∷ tail)) × (depth_of inner ≤ room)
only_ends room code tail (inl b) = b
only_ends room code tail (inr b) = not_true b.0

deep_enough : (n : ℕ) → (let o : Option ReadKind = cond (ltb n 1024) None (Some NestedTooDeep) in o) ≡ None → n < 1024
deep_enough n e =
    elim (cases_Bool (ltb n 1024)) [
      | inl t ↦ ltb-true n 1024 t
      | inr f ↦ (let e2 = rw f at e in absurd cc)
    ]

if_all : (r : Option ValueType) (opens : List Bool) (code mid : List Instr) → length opens < 1024 → Left true (1024 - suc (length opens)) code mid → LeftAll opens mid → LeftAll opens (If r ∷ code)
if_all r opens code mid deep (inl b) l = block_all (If r) (λ inner rest. InIf r inner rest) opens code mid deep (λ inner rest tail. refl) (λ inner rest. refl) b l
if_all r opens code mid deep (inr b) l =
    let first = b.1.0 in
    let second = b.1.1 in
    let moved = front_all (λ c. If r ∷ flat_onto first (Else ∷ flat_onto second (End ∷ c))) (λ rest. InIfElse r first second rest) opens mid (λ rest. (λ tail. refl, λ d. omega (arith, b.1.3, b.1.4))) l in
    subst (λ (c : List Instr). LeftAll opens (If r ∷ c)) (sym b.1.2) moved

else_left : (room : ℕ) (code tail : List Instr) → Left false room code tail → Left true room (Else ∷ code) tail
else_left room code tail l =
    let b = only_ends room code tail l in
    inr (refl, (Done, b.0, ap (λ (c : List Instr). Else ∷ c) b.1, omega arith, b.2))

else_all : (opens : List Bool) (code : List Instr) → (let o : Option ReadKind = cond (may_else opens) None (Some BadForm) in o) ≡ None → LeftAll (opens_after Parts opens) code → LeftAll opens (Else ∷ code)
else_all [] code e l = absurd cc
else_all (false ∷ opens) code e l = absurd cc
else_all (true ∷ opens) code e l = (l.0, else_left (1024 - suc (length opens)) code l.0 l.1, l.2)

end_all : (may : Bool) (opens : List Bool) (code : List Instr) → LeftAll opens code → LeftAll (may ∷ opens) (End ∷ code)
end_all may opens code l = (code, inl (Done, refl, omega arith), l)

scans_left : (opens : List Bool) (code : List Instr) → length opens ≤ 1024 → Scans opens code → LeftAll opens code
scans_left opens [] fits h = absurd h
scans_left opens (Block r ∷ code) fits h =
    let deep = deep_enough (length opens) h.0 in
    let l = scans_left (false ∷ opens) code (omega (arith, deep)) h.1 in
    block_all (Block r) (λ inner rest. InBlock r inner rest) opens code l.0 deep (λ inner rest tail. refl) (λ inner rest. refl) (only_ends (1024 - suc (length opens)) code l.0 l.1) l.2
scans_left opens (Loop r ∷ code) fits h =
    let deep = deep_enough (length opens) h.0 in
    let l = scans_left (false ∷ opens) code (omega (arith, deep)) h.1 in
    block_all (Loop r) (λ inner rest. InLoop r inner rest) opens code l.0 deep (λ inner rest tail. refl) (λ inner rest. refl) (only_ends (1024 - suc (length opens)) code l.0 l.1) l.2
scans_left opens (If r ∷ code) fits h =
    let deep = deep_enough (length opens) h.0 in
    let l = scans_left (true ∷ opens) code (omega (arith, deep)) h.1 in
    if_all r opens code l.0 deep l.1 l.2
scans_left [] (Else ∷ code) fits h = absurd (let e = h.0 in cc)
scans_left (may ∷ opens) (Else ∷ code) fits h = else_all (may ∷ opens) code h.0 (scans_left (false ∷ opens) code fits h.1)
scans_left [] (End ∷ code) fits h = ([], inl (Done, ap (λ (c : List Instr). End ∷ c) h.1, omega arith), refl)
scans_left (may ∷ opens) (End ∷ code) fits h = end_all may opens code (scans_left opens code (omega arith) h.1)
scans_left opens (i ∷ code) fits h = front_all (λ c. i ∷ c) (λ body. Goes i refl body) opens code (plain_front i refl (1024 - length opens)) (scans_left opens code fits h.1)

pub scans_nest : (code : List Instr) → Scans [] code → NestsWithin 1024 code
scans_nest code h =
    let l = scans_left [] code (omega arith) h in
    let b = only_ends 1024 code l.0 l.1 in
    (b.0, b.1 ∙ ap (λ (t : List Instr). flat_onto b.0 (End ∷ t)) l.2, b.2)

-- ---- and what is nested, the scan accepts

along : (body : Body) (opens : List Bool) (tail : List Instr) → depth_of body + length opens ≤ 1024 → Scans opens tail → Scans opens (flat_onto body tail)
along Done opens tail fits h = h
along (Goes i p rest) opens tail fits h = rw p (refl, along rest opens tail fits h)
along (InBlock r inner rest) opens tail fits h =
    let t : ltb (length opens) 1024 ≡ true = lt-ltb (length opens) 1024 (omega arith) in
    (rw t refl, along inner (false ∷ opens) (End ∷ flat_onto rest tail) (omega arith) (refl, along rest opens tail (omega arith) h))
along (InLoop r inner rest) opens tail fits h =
    let t : ltb (length opens) 1024 ≡ true = lt-ltb (length opens) 1024 (omega arith) in
    (rw t refl, along inner (false ∷ opens) (End ∷ flat_onto rest tail) (omega arith) (refl, along rest opens tail (omega arith) h))
along (InIf r inner rest) opens tail fits h =
    let t : ltb (length opens) 1024 ≡ true = lt-ltb (length opens) 1024 (omega arith) in
    (rw t refl, along inner (true ∷ opens) (End ∷ flat_onto rest tail) (omega arith) (refl, along rest opens tail (omega arith) h))
along (InIfElse r first second rest) opens tail fits h =
    let t : ltb (length opens) 1024 ≡ true = lt-ltb (length opens) 1024 (omega arith) in
    (rw t refl, along first (true ∷ opens) (Else ∷ flat_onto second (End ∷ flat_onto rest tail)) (omega arith) (refl, along second (false ∷ opens) (End ∷ flat_onto rest tail) (omega arith) (refl, along rest opens tail (omega arith) h)))

pub nest_scans : (code : List Instr) → NestsWithin 1024 code → Scans [] code
nest_scans code h = subst (λ (c : List Instr). Scans [] c) (sym h.1) (along h.0 [] (End ∷ []) (omega (arith, h.2)) (refl, refl))
