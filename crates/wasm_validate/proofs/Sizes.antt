-- How many operands a step leaves. It never moves the place where its block began.
use Rattle.std.specs.Option.{option_to_list as listed}
use Rattle.std.proofs.Common.{◌≡◌, ℕ, ◌+◌, ◌-◌, ◌≤◌, Bool, true, false, cond, ltb, Option, None, Result, Ok, Err, [], ◌∷◌, length, refl, sym, ap, subst, ◌∙◌, arith}
use Rattle.std.proofs.lemmas.Bool.{ltb-false, le-ltb}
use Rattle.wasm_types.specs.declared.types.ValueType.{ValueType}
use Rattle.wasm_types.specs.declared.types.ValueType.TheVariants.{I32}
use Rattle.wasm_types.specs.declared.instructions.Instr.{Instr}
use Rattle.wasm_validate.specs.declared.fault.ValidKind.{ValidKind}
use Rattle.wasm_validate.specs.declared.fault.ValidKind.TheVariants.{TypeMismatch, TooHigh}
use Rattle.wasm_validate.specs.declared.operands.Operands.{Operands}
use Rattle.wasm_validate.specs.Steps.{◌>>=◌, unless}
use Rattle.wasm_validate.specs.Rules.{Context, Labels, Rule, Mono, Leaves, AnyDrop, AnySelect, rule_of, misuse}
use Rattle.wasm_validate.specs.Operands.{Known, is_type, with_known, pop, take_one, take_all, give, left, meet, by_rule, stacked, low, typed, plain, given}
use Rattle.wasm_validate.specs.Typing.{Types, IsTyped, left_by}
use Rattle.wasm_validate.proofs.Results.{bind_ok, needs_ok, guard_ok, unless_ok, done, ok_is}
use Rattle.wasm_validate.proofs.Images.{Of, rule_sound, rule_complete}

pub record Sizes (o p : Operands) (own : ℕ) : Type 0 where
  pub height : p.height ≡ o.height
  pub size : length p.known ≡ own

abbrev make : ℕ → Bool → Known → Operands
make b w known = record { height = b; unreachable = w; known = known }

sizes_is : (o q p : Operands) (own : ℕ) → Sizes o q own → q ≡ p → Sizes o p own
sizes_is o q p own h e = subst (λ (z : Operands). Sizes o z own) e h

pop_sizes : (b : ℕ) (w : Bool) (known : Known) (p : Option ValueType × Operands) → pop (make b w known) ≡ Ok p → Sizes (make b w known) p.1 (length known - 1)
pop_sizes b w (k ∷ known) p e =
    sizes_is (make b w (k ∷ known)) (make b w known) p.1 (length (k ∷ known) - 1) (record { height = refl; size = omega arith }) (ap (λ (z : Option ValueType × Operands). z.1) (ok_is {E = ValidKind} (k, make b w known) p e))
pop_sizes b true [] p e =
    sizes_is (make b true []) (make b true []) p.1 0 (record { height = refl; size = refl }) (ap (λ (z : Option ValueType × Operands). z.1) (ok_is {E = ValidKind} (None, make b true []) p e))
pop_sizes b false [] p e = absurd cc

pub one_sizes : (t : ValueType) (o p : Operands) → take_one t o ≡ Ok p → Sizes o p (length o.known - 1)
one_sizes t o p e =
    let b = bind_ok (pop o) (λ q. cond (is_type t q.0) (done q.1) (Err TypeMismatch)) p e in
    let n = needs_ok (is_type t b.0.0) TypeMismatch (done b.0.1) p b.2 in
    sizes_is o b.0.1 p (length o.known - 1) (pop_sizes o.height o.unreachable o.known b.0 b.1) (ok_is {E = ValidKind} b.0.1 p n.1)

pub all_sizes : (ts : Types) (o p : Operands) → take_all ts o ≡ Ok p → Sizes o p (length o.known - length ts)
all_sizes [] o p e = sizes_is o o p (length o.known - 0) (record { height = refl; size = omega arith }) (ok_is {E = ValidKind} o p e)
all_sizes (t ∷ ts) o p e =
    let b = bind_ok (take_one t o) (take_all ts) p e in
    let h = one_sizes t o b.0 b.1 in
    let g = all_sizes ts b.0 p b.2 in
    record { height = g.height ∙ h.height; size = omega (arith, g.size, h.size) }

pub give_sizes : (ts : Types) (o : Operands) → Sizes o (give ts o) (length ts + length o.known)
give_sizes [] o = record { height = refl; size = omega arith }
give_sizes (t ∷ ts) o =
    let h = give_sizes ts o in
    record { height = refl; size = omega (arith, h.size) }

pub rule_sizes : (rule : Rule) (o p : Operands) → by_rule rule o ≡ Ok p → Sizes o p (left_by (Ok rule) (length o.known))
rule_sizes (Mono takes gives) o p e =
    let b = bind_ok (take_all takes o) (λ q. done (give gives q)) p e in
    let h = all_sizes takes o b.0 b.1 in
    let g = give_sizes gives b.0 in
    sizes_is o (give gives b.0) p (length gives + (length o.known - length takes)) (record { height = g.height ∙ h.height; size = omega (arith, g.size, h.size) }) (ok_is {E = ValidKind} (give gives b.0) p b.2)
rule_sizes (Leaves takes) o p e =
    let b = bind_ok (take_all takes o) (λ q. done (left q)) p e in
    let h = all_sizes takes o b.0 b.1 in
    sizes_is o (left b.0) p 0 (record { height = h.height; size = refl }) (ok_is {E = ValidKind} (left b.0) p b.2)
rule_sizes AnyDrop o p e =
    let b = bind_ok (pop o) (λ q. done q.1) p e in
    sizes_is o b.0.1 p (length o.known - 1) (pop_sizes o.height o.unreachable o.known b.0 b.1) (ok_is {E = ValidKind} b.0.1 p b.2)
rule_sizes AnySelect o p e =
    let a = bind_ok (take_one I32 o) (λ a. pop a >>= λ p. pop p.1 >>= λ q. meet p.0 q.0 >>= λ k. Ok (with_known q.1 (k ∷ q.1.known))) p e in
    let b = bind_ok (pop a.0) (λ p. pop p.1 >>= λ q. meet p.0 q.0 >>= λ k. Ok (with_known q.1 (k ∷ q.1.known))) p a.2 in
    let d = bind_ok (pop b.0.1) (λ q. meet b.0.0 q.0 >>= λ k. Ok (with_known q.1 (k ∷ q.1.known))) p b.2 in
    let m = bind_ok (meet b.0.0 d.0.0) (λ k. done (with_known d.0.1 (k ∷ d.0.1.known))) p d.2 in
    let one = one_sizes I32 o a.0 a.1 in
    let two = pop_sizes a.0.height a.0.unreachable a.0.known b.0 b.1 in
    let three = pop_sizes b.0.1.height b.0.1.unreachable b.0.1.known d.0 d.1 in
    sizes_is o (with_known d.0.1 (m.0 ∷ d.0.1.known)) p (1 + (length o.known - 1 - 1 - 1))
    (record { height = three.height ∙ (two.height ∙ one.height); size = omega (arith, one.size, two.size, three.size) })
    (ok_is {E = ValidKind} (with_known d.0.1 (m.0 ∷ d.0.1.known)) p m.2)

-- ---- the limit

pub low_ok : (o p : Operands) → low o ≡ Ok p → (stacked o ≤ 1024) × (o ≡ p)
low_ok o p e =
    let g = guard_ok (ltb 1024 (stacked o)) TooHigh (done o) p e in
    (ltb-false 1024 (stacked o) g.0, ok_is {E = ValidKind} o p g.1)

pub ok_low : (o : Operands) → stacked o ≤ 1024 → low o ≡ Ok o
ok_low o h = rw (le-ltb 1024 (stacked o) h) refl

pub given_ok : (r : Option ValueType) (o p : Operands) → given r o ≡ Ok p → (p ≡ give (listed r) o) × Sizes o p (length (listed r) + length o.known) × (o.height + (length (listed r) + length o.known) ≤ 1024)
given_ok r o p e =
    let l = low_ok (give (listed r) o) p e in
    let s = give_sizes (listed r) o in
    (sym l.1, sizes_is o (give (listed r) o) p (length (listed r) + length o.known) s l.1, omega (arith, l.0, s.height, s.size))

pub ok_given : (r : Option ValueType) (o : Operands) → o.height + (length (listed r) + length o.known) ≤ 1024 → given r o ≡ Ok (give (listed r) o)
ok_given r o h =
    let s = give_sizes (listed r) o in
    ok_low (give (listed r) o) (omega (arith, h, s.height, s.size))

-- ---- an instruction that is no block

pub record Plainly (c : Context) (labels : Labels) (i : Instr) (o p : Operands) : Type 0 where
  pub sizes : Sizes o p (left_by (rule_of c labels i) (length o.known))
  pub limit : o.height + left_by (rule_of c labels i) (length o.known) ≤ 1024
  pub image : (ys : Types) → Of p ys → (xs : Types) × Of o xs × IsTyped c labels i xs ys

pub plain_ok : (c : Context) (labels : Labels) (i : Instr) (o p : Operands) → plain c labels i o ≡ Ok p → Plainly c labels i o p
plain_ok c labels i o p e =
    let a = bind_ok (typed c labels i o) (λ q. unless q (misuse c i) >>= low) p e in
    let r = bind_ok (rule_of c labels i) (λ rule. by_rule rule o) a.0 a.1 in
    let u = bind_ok (unless a.0 (misuse c i)) low p a.2 in
    let n = unless_ok a.0 u.0 (misuse c i) u.1 in
    let l = low_ok u.0 p u.2 in
    let same : a.0 ≡ p = n.1 ∙ l.1 in
    let s = rule_sizes r.0 o a.0 r.2 in
    let left_is : left_by (Ok r.0) (length o.known) ≡ left_by (rule_of c labels i) (length o.known) = ap (λ (z : Result Rule ValidKind). left_by z (length o.known)) (sym r.1) in
    let sizes : Sizes o p (left_by (rule_of c labels i) (length o.known)) = subst (λ (k : ℕ). Sizes o p k) left_is (sizes_is o a.0 p (left_by (Ok r.0) (length o.known)) s same) in
    let high : stacked p ≤ 1024 = subst (λ (q : Operands). stacked q ≤ 1024) l.1 l.0 in
    record {
      sizes = sizes;
      limit = omega (arith, high, sizes.height, sizes.size);
      image = λ ys h.
          let m = rule_sound r.0 o a.0 r.2 ys (subst (λ (q : Operands). Of q ys) (sym same) h) in
          (m.0, m.1, (r.0, r.1, n.0, m.2));
    }

pub ok_plain : (c : Context) (labels : Labels) (i : Instr) (o : Operands) (xs ys : Types) → Of o xs → IsTyped c labels i xs ys → o.height + left_by (rule_of c labels i) (length o.known) ≤ 1024
    → (p : Operands) × (plain c labels i o ≡ Ok p) × Of p ys
ok_plain c labels i o xs ys h t limit =
    let m = rule_complete t.0 o xs ys h t.3 in
    let s = rule_sizes t.0 o m.0 m.1 in
    let left_is : left_by (Ok t.0) (length o.known) ≡ left_by (rule_of c labels i) (length o.known) = ap (λ (z : Result Rule ValidKind). left_by z (length o.known)) (sym t.1) in
    let low_is : low m.0 ≡ Ok m.0 = ok_low m.0 (omega (arith, s.height, s.size, left_is, limit)) in
    (m.0, rw (t.1, m.1, t.2) low_is, m.2)
