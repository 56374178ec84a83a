-- Nested instructions are checked without a fault exactly where they are typed and the limit is kept.
use Rattle.std.specs.Option.{option_to_list as listed}
use Rattle.std.proofs.Common.{◌≡◌, ℕ, ◌+◌, ◌-◌, ◌≤◌, false, Option, Some, None, Ok, [], ◌∷◌, ◌++◌, length, refl, sym, subst, ◌∙◌, arith}
use Rattle.wasm_types.specs.declared.types.ValueType.{ValueType}
use Rattle.wasm_types.specs.declared.types.ValueType.TheVariants.{I32}
use Rattle.wasm_types.specs.Nested.{Body, Done, Goes, InBlock, InLoop, InIf, InIfElse}
use Rattle.wasm_validate.specs.declared.fault.ValidKind.{ValidKind}
use Rattle.wasm_validate.specs.declared.operands.Operands.{Operands}
use Rattle.wasm_validate.specs.declared.checker.BlockKind.TheVariants as blocks
use Rattle.wasm_validate.specs.Steps.{◌>>=◌, unless, told}
use Rattle.wasm_validate.specs.Rules.{Context, Labels, rule_of}
use Rattle.wasm_validate.specs.Operands.{take_one, give, stacked, plain, none, fresh, again, ends, missing, given}
use Rattle.wasm_validate.specs.Typing.{Types, AreTyped, AreLow, left_by, IsTypedBody}
use Rattle.wasm_validate.specs.Walking.{walk, walk_body}
use Rattle.wasm_validate.proofs.Results.{bind_ok, unless_ok, told_ok, done, ok_is}
use Rattle.wasm_validate.proofs.Images.{Of, one_sound, one_complete, give_sound, give_complete, ends_sound, ends_complete}
use Rattle.wasm_validate.proofs.Sizes.{Sizes, one_sizes, give_sizes, given_ok, ok_given, plain_ok, ok_plain}

-- what a sequence that was walked without a fault is
pub record Walked (body : Body) (c : Context) (labels : Labels) (o : Operands) (e : ℕ × Operands) : Type 0 where
  pub height : e.1.height ≡ o.height
  pub image : (ys : Types) → Of e.1 ys → (xs : Types) × Of o xs × AreTyped body c labels xs ys
  pub limit : AreLow body c labels o.height (length o.known)

-- the inner sequence of a block that begins with no operands
from_none : (body : Body) (c : Context) (labels : Labels) (o : Operands) (e : ℕ × Operands) (r : Option ValueType) (p : Operands) → o.known ≡ [] → o.unreachable ≡ false → Walked body c labels o e → ends r e.1 ≡ Ok p → AreTyped body c labels [] (listed r)
from_none body c labels o e r p known below w h =
    let i = w.image (listed r) (ends_sound r e.1 p h) in
    let empty : i.0 ≡ [] = rw (known, below) at i.1 in
    subst (λ (zs : Types). AreTyped body c labels zs (listed r)) empty i.2

-- what follows a block, from the operands that are given its result
round : (r : Option ValueType) (rest : Body) (c : Context) (labels : Labels) (o p : Operands) (e : ℕ × Operands) → given r o ≡ Ok p → Walked rest c labels p e
    → (e.1.height ≡ o.height) × ((ys : Types) → Of e.1 ys → (xs : Types) × Of o xs × AreTyped rest c labels (listed r ++ xs) ys) × (o.height + (length (listed r) + length o.known) ≤ 1024) × AreLow rest c labels o.height (length (listed r) + length o.known)
round r rest c labels o p e h w =
    let g = given_ok r o p h in
    let low : AreLow rest c labels o.height (length (listed r) + length o.known) = subst (λ (n : ℕ). AreLow rest c labels o.height n) g.1.size (subst (λ (n : ℕ). AreLow rest c labels n (length p.known)) g.1.height w.limit) in (
      w.height ∙ g.1.height,
      λ ys f.
          let i = w.image ys f in
          let s = give_sound (listed r) o i.0 (subst (λ (q : Operands). Of q i.0) g.0 i.1) in
          (s.0, s.1, subst (λ (zs : Types). AreTyped rest c labels zs ys) s.2 i.2),
      g.2,
      low,
    )

two_sums : {o q : Operands} → Sizes o q (length o.known - 1) → stacked q ≡ o.height + (length o.known - 1)
two_sums {o} {q} s = omega (arith, s.height, s.size)

if_rest : (rest : Body) (c : Context) (labels : Labels) (r : Option ValueType) (o q : Operands) → Sizes o q (length o.known - 1) → AreLow rest c labels q.height (length (listed r) + length q.known) → AreLow rest c labels o.height (length (listed r) + (length o.known - 1))
if_rest rest c labels r o q s h =
    subst (λ (k : ℕ). AreLow rest c labels o.height (length (listed r) + k)) s.size (subst (λ (k : ℕ). AreLow rest c labels k (length (listed r) + length q.known)) s.height h)

rest_if : (rest : Body) (c : Context) (labels : Labels) (r : Option ValueType) (o q : Operands) → Sizes o q (length o.known - 1) → AreLow rest c labels o.height (length (listed r) + (length o.known - 1)) → AreLow rest c labels q.height (length (listed r) + length q.known)
rest_if rest c labels r o q s h =
    subst (λ (k : ℕ). AreLow rest c labels q.height (length (listed r) + k)) (sym s.size) (subst (λ (k : ℕ). AreLow rest c labels k (length (listed r) + (length o.known - 1))) (sym s.height) h)

-- what follows a block, where its result is given
after_block : (r : Option ValueType) (rest : Body) (c : Context) (labels : Labels) (n : ℕ) (o : Operands) (xs ys : Types) → Of o xs → AreTyped rest c labels (listed r ++ xs) ys → AreLow rest c labels o.height (length (listed r) + length o.known)
    → ((q : Operands) → Of q (listed r ++ xs) → AreLow rest c labels q.height (length q.known) → (e : ℕ × Operands) × (walk rest c labels n q ≡ Ok e) × Of e.1 ys)
    → (e : ℕ × Operands) × (walk rest c labels n (give (listed r) o) ≡ Ok e) × Of e.1 ys
after_block r rest c labels n o xs ys f t low h =
    let s = give_sizes (listed r) o in
    h (give (listed r) o) (give_complete (listed r) o xs f)
    (subst (λ (k : ℕ). AreLow rest c labels (give (listed r) o).height k) (sym s.size) (subst (λ (k : ℕ). AreLow rest c labels k (length (listed r) + length o.known)) (sym s.height) low))

-- an if without an else has no result
no_result : (r : Option ValueType) → missing blocks.If r ≡ None → listed r ≡ []
no_result None e = refl
no_result (Some t) e = absurd cc

none_missing : (r : Option ValueType) → listed r ≡ [] → missing blocks.If r ≡ None
none_missing None e = refl
none_missing (Some t) e = absurd cc

given_same : (r : Option ValueType) (q u p : Operands) → q ≡ u → given r u ≡ Ok p → given r q ≡ Ok p
given_same r q u p e h = rw e h

pub walk_typed : (body : Body) (c : Context) (labels : Labels) (n : ℕ) (o : Operands) (e : ℕ × Operands) → walk body c labels n o ≡ Ok e → Walked body c labels o e
walk_typed Done c labels n o e h =
    let same = ok_is {E = ValidKind × ℕ} (n, o) e h in
    subst (λ (z : ℕ × Operands). Walked Done c labels o z) same (record { height = refl; image = λ ys f. (ys, f, refl); limit = tt })
walk_typed (Goes i p rest) c labels n o e h =
    let a = bind_ok (told n (plain c labels i o)) (λ q. walk rest c labels (n + 1) q) e h in
    let one = plain_ok c labels i o a.0 (told_ok n (plain c labels i o) a.0 a.1) in
    let w = walk_typed rest c labels (n + 1) a.0 e a.2 in
    let low : AreLow rest c labels o.height (left_by (rule_of c labels i) (length o.known)) = subst (λ (k : ℕ). AreLow rest c labels o.height k) one.sizes.size (subst (λ (k : ℕ). AreLow rest c labels k (length a.0.known)) one.sizes.height w.limit) in
    record {
      height = w.height ∙ one.sizes.height;
      image = λ ys f.
          let m = w.image ys f in
          let x = one.image m.0 m.1 in
          (x.0, x.1, (m.0, x.2, m.2));
      limit = (one.limit, low);
    }
walk_typed (InBlock r inner rest) c labels n o e h =
    let a = bind_ok (walk inner c (r ∷ labels) (n + 1) (fresh o)) (λ e. told n (ends r e.1 >>= λ _. given r o) >>= λ p. walk rest c labels e.0 p) e h in
    let b = bind_ok (told n (ends r a.0.1 >>= λ _. given r o)) (λ p. walk rest c labels a.0.0 p) e a.2 in
    let d = bind_ok (ends r a.0.1) (λ _. given r o) b.0 (told_ok n (ends r a.0.1 >>= λ _. given r o) b.0 b.1) in
    let w = walk_typed inner c (r ∷ labels) (n + 1) (fresh o) a.0 a.1 in
    let t = from_none inner c (r ∷ labels) (fresh o) a.0 r d.0 refl refl w d.1 in
    let f = round r rest c labels o b.0 e d.2 (walk_typed rest c labels a.0.0 b.0 e b.2) in
    record {
      height = f.0;
      image = λ ys g.
          let x = f.1 ys g in
          (x.0, x.1, (t, x.2));
      limit = (w.limit, f.2, f.3);
    }
walk_typed (InLoop r inner rest) c labels n o e h =
    let a = bind_ok (walk inner c (None ∷ labels) (n + 1) (fresh o)) (λ e. told n (ends r e.1 >>= λ _. given r o) >>= λ p. walk rest c labels e.0 p) e h in
    let b = bind_ok (told n (ends r a.0.1 >>= λ _. given r o)) (λ p. walk rest c labels a.0.0 p) e a.2 in
    let d = bind_ok (ends r a.0.1) (λ _. given r o) b.0 (told_ok n (ends r a.0.1 >>= λ _. given r o) b.0 b.1) in
    let w = walk_typed inner c (None ∷ labels) (n + 1) (fresh o) a.0 a.1 in
    let t = from_none inner c (None ∷ labels) (fresh o) a.0 r d.0 refl refl w d.1 in
    let f = round r rest c labels o b.0 e d.2 (walk_typed rest c labels a.0.0 b.0 e b.2) in
    record {
      height = f.0;
      image = λ ys g.
          let x = f.1 ys g in
          (x.0, x.1, (t, x.2));
      limit = (w.limit, f.2, f.3);
    }
walk_typed (InIf r inner rest) c labels n o e h =
    let z = bind_ok (told n (take_one I32 o)) (λ o. walk inner c (r ∷ labels) (n + 1) (fresh o) >>= λ e. told n (ends r e.1 >>= λ _. unless o (missing blocks.If r) >>= given r) >>= λ p. walk rest c labels e.0 p) e h in
    let q = z.0 in
    let taken = told_ok n (take_one I32 o) q z.1 in
    let s = one_sizes I32 o q taken in
    let a = bind_ok (walk inner c (r ∷ labels) (n + 1) (fresh q)) (λ e. told n (ends r e.1 >>= λ _. unless q (missing blocks.If r) >>= given r) >>= λ p. walk rest c labels e.0 p) e z.2 in
    let b = bind_ok (told n (ends r a.0.1 >>= λ _. unless q (missing blocks.If r) >>= given r)) (λ p. walk rest c labels a.0.0 p) e a.2 in
    let d = bind_ok (ends r a.0.1) (λ _. unless q (missing blocks.If r) >>= given r) b.0 (told_ok n (ends r a.0.1 >>= λ _. unless q (missing blocks.If r) >>= given r) b.0 b.1) in
    let u = bind_ok (unless q (missing blocks.If r)) (given r) b.0 d.2 in
    let m = unless_ok q u.0 (missing blocks.If r) u.1 in
    let w = walk_typed inner c (r ∷ labels) (n + 1) (fresh q) a.0 a.1 in
    let t = from_none inner c (r ∷ labels) (fresh q) a.0 r d.0 refl refl w d.1 in
    let f = round r rest c labels q b.0 e (given_same r q u.0 b.0 m.1 u.2) (walk_typed rest c labels a.0.0 b.0 e b.2) in
    record {
      height = f.0 ∙ s.height;
      image = λ ys g.
          let x = f.1 ys g in
          let y = one_sound I32 o q taken x.0 x.1 in
          (y.0, y.1, (x.0, y.2, t, no_result r m.0, x.2));
      limit = (subst (λ (k : ℕ). AreLow inner c (r ∷ labels) k 0) (two_sums s) w.limit, omega (arith, f.2, s.height, s.size), if_rest rest c labels r o q s f.3);
    }
walk_typed (InIfElse r first second rest) c labels n o e h =
    let z = bind_ok (told n (take_one I32 o)) (λ o. walk first c (r ∷ labels) (n + 1) (fresh o) >>= λ e. told n (ends r e.1) >>= λ _. walk second c (r ∷ labels) e.0 (again e.1) >>= λ e. told n (ends r e.1 >>= λ _. given r o) >>= λ p. walk rest c labels e.0 p) e h in
    let q = z.0 in
    let taken = told_ok n (take_one I32 o) q z.1 in
    let s = one_sizes I32 o q taken in
    let a = bind_ok (walk first c (r ∷ labels) (n + 1) (fresh q)) (λ e. told n (ends r e.1) >>= λ _. walk second c (r ∷ labels) e.0 (again e.1) >>= λ e. told n (ends r e.1 >>= λ _. given r q) >>= λ p. walk rest c labels e.0 p) e z.2 in
    let v = bind_ok (told n (ends r a.0.1)) (λ _. walk second c (r ∷ labels) a.0.0 (again a.0.1) >>= λ e. told n (ends r e.1 >>= λ _. given r q) >>= λ p. walk rest c labels e.0 p) e a.2 in
    let a2 = bind_ok (walk second c (r ∷ labels) a.0.0 (again a.0.1)) (λ e. told n (ends r e.1 >>= λ _. given r q) >>= λ p. walk rest c labels e.0 p) e v.2 in
    let b = bind_ok (told n (ends r a2.0.1 >>= λ _. given r q)) (λ p. walk rest c labels a2.0.0 p) e a2.2 in
    let d = bind_ok (ends r a2.0.1) (λ _. given r q) b.0 (told_ok n (ends r a2.0.1 >>= λ _. given r q) b.0 b.1) in
    let w = walk_typed first c (r ∷ labels) (n + 1) (fresh q) a.0 a.1 in
    let t = from_none first c (r ∷ labels) (fresh q) a.0 r v.0 refl refl w (told_ok n (ends r a.0.1) v.0 v.1) in
    let w2 = walk_typed second c (r ∷ labels) a.0.0 (again a.0.1) a2.0 a2.1 in
    let t2 = from_none second c (r ∷ labels) (again a.0.1) a2.0 r d.0 refl refl w2 d.1 in
    let f = round r rest c labels q b.0 e d.2 (walk_typed rest c labels a2.0.0 b.0 e b.2) in
    record {
      height = f.0 ∙ s.height;
      image = λ ys g.
          let x = f.1 ys g in
          let y = one_sound I32 o q taken x.0 x.1 in
          (y.0, y.1, (x.0, y.2, t, t2, x.2));
      limit = (subst (λ (k : ℕ). AreLow first c (r ∷ labels) k 0) (two_sums s) w.limit, subst (λ (k : ℕ). AreLow second c (r ∷ labels) k 0) (w.height ∙ two_sums s) w2.limit, omega (arith, f.2, s.height, s.size), if_rest rest c labels r o q s f.3);
    }

-- ---- and what is typed, within the limit, is walked without a fault

pub typed_walk : (body : Body) (c : Context) (labels : Labels) (n : ℕ) (o : Operands) (xs ys : Types) → Of o xs → AreTyped body c labels xs ys → AreLow body c labels o.height (length o.known)
    → (e : ℕ × Operands) × (walk body c labels n o ≡ Ok e) × Of e.1 ys
typed_walk Done c labels n o xs ys f t low = ((n, o), refl, subst (λ (zs : Types). Of o zs) t f)
typed_walk (Goes i p rest) c labels n o xs ys f t low =
    let a = ok_plain c labels i o xs t.0 f t.1 low.0 in
    let one = plain_ok c labels i o a.0 a.1 in
    let below : AreLow rest c labels a.0.height (length a.0.known) = subst (λ (k : ℕ). AreLow rest c labels a.0.height k) (sym one.sizes.size) (subst (λ (k : ℕ). AreLow rest c labels k (left_by (rule_of c labels i) (length o.known))) (sym one.sizes.height) low.1) in
    let w = typed_walk rest c labels (n + 1) a.0 t.0 ys a.2 t.2 below in
    (w.0, rw a.1 w.1, w.2)
typed_walk (InBlock r inner rest) c labels n o xs ys f t low =
    let a = typed_walk inner c (r ∷ labels) (n + 1) (fresh o) [] (listed r) refl t.0 low.0 in
    let d = ends_complete r a.0.1 a.2 in
    let g = ok_given r o low.1 in
    let w = after_block r rest c labels a.0.0 o xs ys f t.1 low.2 (λ q k. typed_walk rest c labels a.0.0 q (listed r ++ xs) ys k t.1) in
    (w.0, rw (a.1, d.1, g) w.1, w.2)
typed_walk (InLoop r inner rest) c labels n o xs ys f t low =
    let a = typed_walk inner c (None ∷ labels) (n + 1) (fresh o) [] (listed r) refl t.0 low.0 in
    let d = ends_complete r a.0.1 a.2 in
    let g = ok_given r o low.1 in
    let w = after_block r rest c labels a.0.0 o xs ys f t.1 low.2 (λ q k. typed_walk rest c labels a.0.0 q (listed r ++ xs) ys k t.1) in
    (w.0, rw (a.1, d.1, g) w.1, w.2)
typed_walk (InIf r inner rest) c labels n o xs ys f t low =
    let b = one_complete I32 o xs t.0 f t.1 in
    let q = b.0 in
    let s = one_sizes I32 o q b.1 in
    let a = typed_walk inner c (r ∷ labels) (n + 1) (fresh q) [] (listed r) refl t.2 (subst (λ (k : ℕ). AreLow inner c (r ∷ labels) k 0) (sym (two_sums s)) low.0) in
    let d = ends_complete r a.0.1 a.2 in
    let m = none_missing r t.3 in
    let g = ok_given r q (omega (arith, low.1, s.height, s.size)) in
    let w = after_block r rest c labels a.0.0 q t.0 ys b.2 t.4 (rest_if rest c labels r o q s low.2) (λ v k. typed_walk rest c labels a.0.0 v (listed r ++ t.0) ys k t.4) in
    (w.0, rw (b.1, a.1, d.1, m, g) w.1, w.2)
typed_walk (InIfElse r first second rest) c labels n o xs ys f t low =
    let b = one_complete I32 o xs t.0 f t.1 in
    let q = b.0 in
    let s = one_sizes I32 o q b.1 in
    let a = typed_walk first c (r ∷ labels) (n + 1) (fresh q) [] (listed r) refl t.2 (subst (λ (k : ℕ). AreLow first c (r ∷ labels) k 0) (sym (two_sums s)) low.0) in
    let v = ends_complete r a.0.1 a.2 in
    let height = (walk_typed first c (r ∷ labels) (n + 1) (fresh q) a.0 a.1).height in
    let a2 = typed_walk second c (r ∷ labels) a.0.0 (again a.0.1) [] (listed r) refl t.3 (subst (λ (k : ℕ). AreLow second c (r ∷ labels) k 0) (sym (height ∙ two_sums s)) low.1) in
    let d = ends_complete r a2.0.1 a2.2 in
    let g = ok_given r q (omega (arith, low.2, s.height, s.size)) in
    let w = after_block r rest c labels a2.0.0 q t.0 ys b.2 t.4 (rest_if rest c labels r o q s low.3) (λ z k. typed_walk rest c labels a2.0.0 z (listed r ++ t.0) ys k t.4) in
    (w.0, rw (b.1, a.1, v.1, a2.1, d.1, g) w.1, w.2)

-- ---- the body of a function

pub body_typed : (c : Context) (body : Body) → walk_body c body ≡ Ok tt → IsTypedBody c body
body_typed c body h =
    let a = bind_ok (walk body c (c.result ∷ []) 0 none) (λ e. told e.0 (ends c.result e.1) >>= λ _. Ok tt) tt h in
    let b = bind_ok (told a.0.0 (ends c.result a.0.1)) (λ _. done tt) tt a.2 in
    let w = walk_typed body c (c.result ∷ []) 0 none a.0 a.1 in
    (from_none body c (c.result ∷ []) none a.0 c.result b.0 refl refl w (told_ok a.0.0 (ends c.result a.0.1) b.0 b.1), w.limit)

pub typed_body : (c : Context) (body : Body) → IsTypedBody c body → walk_body c body ≡ Ok tt
typed_body c body h =
    let a = typed_walk body c (c.result ∷ []) 0 none [] (listed c.result) refl h.0 h.1 in
    let d = ends_complete c.result a.0.1 a.2 in
    rw (a.1, d.1) refl
