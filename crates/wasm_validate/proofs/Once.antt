-- A flat list nests in one way only.
use Rattle.std.proofs.Common.{◌≡◌, Option, List, [], ◌∷◌, refl, sym, ap, subst, ◌∙◌}
use mathlib.Core.Sum.{⊎_set}
use Rattle.std.proofs.Math.Bool.{Bool-set}
use Rattle.wasm_types.specs.declared.types.ValueType.{ValueType}
use Rattle.wasm_types.specs.declared.instructions.Instr.{Instr}
use Rattle.wasm_types.specs.declared.instructions.Instr.TheVariants.{Block, Loop, If, Else, End}
use Rattle.wasm_types.specs.Nested.{Role, Plain, role_of, Body, Done, Goes, InBlock, InLoop, InIf, InIfElse, flat_onto, Nests}

-- what may follow a sequence
abbrev Stops : Instr → Type 0
Stops Else = Unit {0}
Stops End = Unit {0}
Stops i = ⊥

role_set : IsSet Role
role_set = hlevel (⊎_set, Bool-set)

goes_same : (i : Instr) (p q : role_of i ≡ Plain) (a : Body) → Goes i p a ≡ Goes i q a
goes_same i p q a = ap (λ (z : role_of i ≡ Plain). Goes i z a) (role_set (role_of i) Plain p q)

goes_alike : (i j : Instr) (e : i ≡ j) (p : role_of i ≡ Plain) (q : role_of j ≡ Plain) (a b : Body) → a ≡ b → Goes i p a ≡ Goes j q b
goes_alike i j e p q a b same =
    ap (λ (z : Body). Goes i p z) same ∙ subst (λ (k : Instr). (q : role_of k ≡ Plain) → Goes i p b ≡ Goes k q b) e (λ q. goes_same i p q b) q

-- the first of two lists
first_is : (x y : Instr) (xs ys : List Instr) → x ∷ xs ≡ y ∷ ys → x ≡ y
first_is x y xs ys e = cc

rest_is : (x y : Instr) (xs ys : List Instr) → x ∷ xs ≡ y ∷ ys → xs ≡ ys
rest_is x y xs ys e = cc

-- an instruction that is no block is none of these
stops_not : (x i : Instr) → Stops x → role_of i ≡ Plain → x ≡ i → ⊥
stops_not Else i h p e = let q : role_of Else ≡ Plain = subst (λ (z : Instr). role_of z ≡ Plain) (sym e) p in cc
stops_not End i h p e = let q : role_of End ≡ Plain = subst (λ (z : Instr). role_of z ≡ Plain) (sym e) p in cc
stops_not x i h p e = h

block_not : (r : Option ValueType) (i : Instr) → role_of i ≡ Plain → Block r ≡ i → ⊥
block_not r i p e = let q : role_of (Block r) ≡ Plain = subst (λ (z : Instr). role_of z ≡ Plain) (sym e) p in cc

loop_not : (r : Option ValueType) (i : Instr) → role_of i ≡ Plain → Loop r ≡ i → ⊥
loop_not r i p e = let q : role_of (Loop r) ≡ Plain = subst (λ (z : Instr). role_of z ≡ Plain) (sym e) p in cc

if_not : (r : Option ValueType) (i : Instr) → role_of i ≡ Plain → If r ≡ i → ⊥
if_not r i p e = let q : role_of (If r) ≡ Plain = subst (λ (z : Instr). role_of z ≡ Plain) (sym e) p in cc

stops_block : (x : Instr) (r : Option ValueType) → Stops x → x ≡ Block r → ⊥
stops_block x r h e = subst Stops e h

stops_loop : (x : Instr) (r : Option ValueType) → Stops x → x ≡ Loop r → ⊥
stops_loop x r h e = subst Stops e h

stops_if : (x : Instr) (r : Option ValueType) → Stops x → x ≡ If r → ⊥
stops_if x r h e = subst Stops e h

pub record Same (a b : Body) (x y : Instr) (s t : List Instr) : Type 0 where
  pub bodies : a ≡ b
  pub stop : x ≡ y
  pub after : s ≡ t

-- two blocks with one word
blocks_alike : (r q : Option ValueType) (wrap : Option ValueType → Body → Body → Body) (a b c d : Body) → r ≡ q → a ≡ b → c ≡ d → wrap r a c ≡ wrap q b d
blocks_alike r q wrap a b c d e f g = cc

ifs_alike : (r q : Option ValueType) (a b c d m n : Body) → r ≡ q → a ≡ b → c ≡ d → m ≡ n → InIfElse r a c m ≡ InIfElse q b d n
ifs_alike r q a b c d m n e f g h = cc

block_is : (r q : Option ValueType) → Block r ≡ Block q → r ≡ q
block_is r q e = cc

loop_is : (r q : Option ValueType) → Loop r ≡ Loop q → r ≡ q
loop_is r q e = cc

if_is : (r q : Option ValueType) → If r ≡ If q → r ≡ q
if_is r q e = cc

once : (a b : Body) (x y : Instr) (s t : List Instr) → Stops x → Stops y → flat_onto a (x ∷ s) ≡ flat_onto b (y ∷ t) → Same a b x y s t
once Done Done x y s t h k e = record { bodies = refl; stop = first_is x y s t e; after = rest_is x y s t e }
once Done (Goes j q b) x y s t h k e = absurd (stops_not x j h q (first_is x j s (flat_onto b (y ∷ t)) e))
once Done (InBlock r b d) x y s t h k e = absurd (stops_block x r h (first_is x (Block r) s (flat_onto b (End ∷ flat_onto d (y ∷ t))) e))
once Done (InLoop r b d) x y s t h k e = absurd (stops_loop x r h (first_is x (Loop r) s (flat_onto b (End ∷ flat_onto d (y ∷ t))) e))
once Done (InIf r b d) x y s t h k e = absurd (stops_if x r h (first_is x (If r) s (flat_onto b (End ∷ flat_onto d (y ∷ t))) e))
once Done (InIfElse r b c d) x y s t h k e = absurd (stops_if x r h (first_is x (If r) s (flat_onto b (Else ∷ flat_onto c (End ∷ flat_onto d (y ∷ t)))) e))
once (Goes i p a) Done x y s t h k e = absurd (stops_not y i k p (sym (first_is i y (flat_onto a (x ∷ s)) t e)))
once (Goes i p a) (Goes j q b) x y s t h k e =
    let m = once a b x y s t h k (rest_is i j (flat_onto a (x ∷ s)) (flat_onto b (y ∷ t)) e) in
    record { bodies = goes_alike i j (first_is i j (flat_onto a (x ∷ s)) (flat_onto b (y ∷ t)) e) p q a b m.bodies; stop = m.stop; after = m.after }
once (Goes i p a) (InBlock r b d) x y s t h k e = absurd (block_not r i p (sym (first_is i (Block r) (flat_onto a (x ∷ s)) (flat_onto b (End ∷ flat_onto d (y ∷ t))) e)))
once (Goes i p a) (InLoop r b d) x y s t h k e = absurd (loop_not r i p (sym (first_is i (Loop r) (flat_onto a (x ∷ s)) (flat_onto b (End ∷ flat_onto d (y ∷ t))) e)))
once (Goes i p a) (InIf r b d) x y s t h k e = absurd (if_not r i p (sym (first_is i (If r) (flat_onto a (x ∷ s)) (flat_onto b (End ∷ flat_onto d (y ∷ t))) e)))
once (Goes i p a) (InIfElse r b c d) x y s t h k e = absurd (if_not r i p (sym (first_is i (If r) (flat_onto a (x ∷ s)) (flat_onto b (Else ∷ flat_onto c (End ∷ flat_onto d (y ∷ t)))) e)))
once (InBlock r a c) Done x y s t h k e = absurd (stops_block y r k (sym (first_is (Block r) y (flat_onto a (End ∷ flat_onto c (x ∷ s))) t e)))
once (InBlock r a c) (Goes j q b) x y s t h k e = absurd (block_not r j q (first_is (Block r) j (flat_onto a (End ∷ flat_onto c (x ∷ s))) (flat_onto b (y ∷ t)) e))
once (InBlock r a c) (InBlock q b d) x y s t h k e =
    let one = once a b End End (flat_onto c (x ∷ s)) (flat_onto d (y ∷ t)) tt tt (rest_is (Block r) (Block q) (flat_onto a (End ∷ flat_onto c (x ∷ s))) (flat_onto b (End ∷ flat_onto d (y ∷ t))) e) in
    let two = once c d x y s t h k one.after in
    record { bodies = blocks_alike r q (λ r a c. InBlock r a c) a b c d (block_is r q (first_is (Block r) (Block q) (flat_onto a (End ∷ flat_onto c (x ∷ s))) (flat_onto b (End ∷ flat_onto d (y ∷ t))) e)) one.bodies two.bodies; stop = two.stop; after = two.after }
once (InBlock r a c) (InLoop q b d) x y s t h k e = absurd cc
once (InBlock r a c) (InIf q b d) x y s t h k e = absurd cc
once (InBlock r a c) (InIfElse q b n d) x y s t h k e = absurd cc
once (InLoop r a c) Done x y s t h k e = absurd (stops_loop y r k (sym (first_is (Loop r) y (flat_onto a (End ∷ flat_onto c (x ∷ s))) t e)))
once (InLoop r a c) (Goes j q b) x y s t h k e = absurd (loop_not r j q (first_is (Loop r) j (flat_onto a (End ∷ flat_onto c (x ∷ s))) (flat_onto b (y ∷ t)) e))
once (InLoop r a c) (InBlock q b d) x y s t h k e = absurd cc
once (InLoop r a c) (InLoop q b d) x y s t h k e =
    let one = once a b End End (flat_onto c (x ∷ s)) (flat_onto d (y ∷ t)) tt tt (rest_is (Loop r) (Loop q) (flat_onto a (End ∷ flat_onto c (x ∷ s))) (flat_onto b (End ∷ flat_onto d (y ∷ t))) e) in
    let two = once c d x y s t h k one.after in
    record { bodies = blocks_alike r q (λ r a c. InLoop r a c) a b c d (loop_is r q (first_is (Loop r) (Loop q) (flat_onto a (End ∷ flat_onto c (x ∷ s))) (flat_onto b (End ∷ flat_onto d (y ∷ t))) e)) one.bodies two.bodies; stop = two.stop; after = two.after }
once (InLoop r a c) (InIf q b d) x y s t h k e = absurd cc
once (InLoop r a c) (InIfElse q b n d) x y s t h k e = absurd cc
once (InIf r a c) Done x y s t h k e = absurd (stops_if y r k (sym (first_is (If r) y (flat_onto a (End ∷ flat_onto c (x ∷ s))) t e)))
once (InIf r a c) (Goes j q b) x y s t h k e = absurd (if_not r j q (first_is (If r) j (flat_onto a (End ∷ flat_onto c (x ∷ s))) (flat_onto b (y ∷ t)) e))
once (InIf r a c) (InBlock q b d) x y s t h k e = absurd cc
once (InIf r a c) (InLoop q b d) x y s t h k e = absurd cc
once (InIf r a c) (InIf q b d) x y s t h k e =
    let one = once a b End End (flat_onto c (x ∷ s)) (flat_onto d (y ∷ t)) tt tt (rest_is (If r) (If q) (flat_onto a (End ∷ flat_onto c (x ∷ s))) (flat_onto b (End ∷ flat_onto d (y ∷ t))) e) in
    let two = once c d x y s t h k one.after in
    record { bodies = blocks_alike r q (λ r a c. InIf r a c) a b c d (if_is r q (first_is (If r) (If q) (flat_onto a (End ∷ flat_onto c (x ∷ s))) (flat_onto b (End ∷ flat_onto d (y ∷ t))) e)) one.bodies two.bodies; stop = two.stop; after = two.after }
once (InIf r a c) (InIfElse q b n d) x y s t h k e =
    let one = once a b End Else (flat_onto c (x ∷ s)) (flat_onto n (End ∷ flat_onto d (y ∷ t))) tt tt (rest_is (If r) (If q) (flat_onto a (End ∷ flat_onto c (x ∷ s))) (flat_onto b (Else ∷ flat_onto n (End ∷ flat_onto d (y ∷ t)))) e) in
    let stop = one.stop in
    absurd cc
once (InIfElse r a m c) Done x y s t h k e = absurd (stops_if y r k (sym (first_is (If r) y (flat_onto a (Else ∷ flat_onto m (End ∷ flat_onto c (x ∷ s)))) t e)))
once (InIfElse r a m c) (Goes j q b) x y s t h k e = absurd (if_not r j q (first_is (If r) j (flat_onto a (Else ∷ flat_onto m (End ∷ flat_onto c (x ∷ s)))) (flat_onto b (y ∷ t)) e))
once (InIfElse r a m c) (InBlock q b d) x y s t h k e = absurd cc
once (InIfElse r a m c) (InLoop q b d) x y s t h k e = absurd cc
once (InIfElse r a m c) (InIf q b d) x y s t h k e =
    let one = once a b Else End (flat_onto m (End ∷ flat_onto c (x ∷ s))) (flat_onto d (y ∷ t)) tt tt (rest_is (If r) (If q) (flat_onto a (Else ∷ flat_onto m (End ∷ flat_onto c (x ∷ s)))) (flat_onto b (End ∷ flat_onto d (y ∷ t))) e) in
    let stop = one.stop in
    absurd cc
once (InIfElse r a m c) (InIfElse q b n d) x y s t h k e =
    let one = once a b Else Else (flat_onto m (End ∷ flat_onto c (x ∷ s))) (flat_onto n (End ∷ flat_onto d (y ∷ t))) tt tt (rest_is (If r) (If q) (flat_onto a (Else ∷ flat_onto m (End ∷ flat_onto c (x ∷ s)))) (flat_onto b (Else ∷ flat_onto n (End ∷ flat_onto d (y ∷ t)))) e) in
    let other = once m n End End (flat_onto c (x ∷ s)) (flat_onto d (y ∷ t)) tt tt one.after in
    let two = once c d x y s t h k other.after in
    record { bodies = ifs_alike r q a b m n c d (if_is r q (first_is (If r) (If q) (flat_onto a (Else ∷ flat_onto m (End ∷ flat_onto c (x ∷ s)))) (flat_onto b (Else ∷ flat_onto n (End ∷ flat_onto d (y ∷ t)))) e)) one.bodies other.bodies two.bodies; stop = two.stop; after = two.after }

pub nests_once : (code : List Instr) (first second : Body) → Nests code first → Nests code second → first ≡ second
nests_once code first second h k = (once first second End End [] [] tt tt (sym h ∙ k)).bodies
