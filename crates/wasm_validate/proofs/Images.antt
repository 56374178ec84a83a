-- What is known of operands stands for the stacks that fit it. A step leads from these stacks exactly to those that fit
-- what is known after it.
use Rattle.std.specs.Option.{option_to_list as listed}
use Rattle.std.proofs.Common.{◌≡◌, ℕ, Bool, true, false, cond, Option, Some, None, Result, Ok, Err, [], ◌∷◌, ◌++◌, refl, sym, ap, subst, ◌∙◌}
use Rattle.std.proofs.lemmas.List.{append-nil}
use Rattle.wasm_types.specs.declared.types.ValueType.{ValueType}
use Rattle.wasm_types.specs.declared.types.ValueType.TheVariants.{I32, I64}
use Rattle.wasm_validate.specs.declared.fault.ValidKind.{ValidKind}
use Rattle.wasm_validate.specs.declared.fault.ValidKind.TheVariants.{TypeMismatch}
use Rattle.wasm_validate.specs.declared.operands.Operands.{Operands}
use Rattle.wasm_validate.specs.Lists.{is_nil}
use Rattle.wasm_validate.specs.Steps.{◌>>=◌}
use Rattle.wasm_validate.specs.Rules.{Rule, Mono, Leaves, AnyDrop, AnySelect}
use Rattle.wasm_validate.specs.Operands.{Known, is_type, with_known, pop, take_one, take_all, give, left, meet, by_rule, ends}
use Rattle.wasm_validate.specs.Typing.{Types, Moves}
use Rattle.wasm_validate.proofs.Results.{bind_ok, needs_ok, done, ok_is}

-- an operand of which this is known can have a type
abbrev pub Can : Option ValueType → ValueType → Type 0
Can None t = Unit {0}
Can (Some u) t = u ≡ t

abbrev pub Fits : Known → Bool → Types → Type 0
Fits [] true xs = Unit {0}
Fits [] false xs = xs ≡ []
Fits (k ∷ known) below [] = ⊥
Fits (k ∷ known) below (x ∷ xs) = Can k x × Fits known below xs

abbrev pub Of : Operands → Types → Type 0
Of o xs = Fits o.known o.unreachable xs

-- a step, and where it leads from one stack to another
abbrev pub Step : Type 0
Step = Operands → Result Operands ValidKind

abbrev pub Sound : Step → (Types → Types → Type 0) → Type 0
Sound f R = (o p : Operands) → f o ≡ Ok p → (ys : Types) → Of p ys → (xs : Types) × Of o xs × R xs ys

abbrev pub Complete : Step → (Types → Types → Type 0) → Type 0
Complete f R = (o : Operands) (xs ys : Types) → Of o xs → R xs ys → (p : Operands) × (f o ≡ Ok p) × Of p ys

abbrev make : ℕ → Bool → Known → Operands
make b w known = record { height = b; unreachable = w; known = known }

same_operands : (o p : Operands) → done {E = ValidKind} o ≡ done {E = ValidKind} p → o ≡ p
same_operands o p e = ok_is {E = ValidKind} o p e

-- ---- one operand

is_can : (t : ValueType) (k : Option ValueType) → is_type t k ≡ true → Can k t
is_can t None e = tt
is_can I32 (Some I32) e = refl
is_can I32 (Some I64) e = absurd cc
is_can I64 (Some I32) e = absurd cc
is_can I64 (Some I64) e = refl

is_self : (t : ValueType) → is_type t (Some t) ≡ true
is_self I32 = refl
is_self I64 = refl

can_is : (t : ValueType) (k : Option ValueType) → Can k t → is_type t k ≡ true
can_is t None e = refl
can_is t (Some u) e = rw e (is_self t)

of_taken : (b : ℕ) (w : Bool) (known : Known) (p : Operands) (ys : Types) → done {E = ValidKind} (make b w known) ≡ done {E = ValidKind} p → Of p ys → Fits known w ys
of_taken b w known p ys e h = subst (λ (q : Operands). Of q ys) (sym (same_operands (make b w known) p e)) h

take_sound : (t : ValueType) (b : ℕ) (w : Bool) (known : Known) (p : Operands) → take_one t (make b w known) ≡ Ok p → (ys : Types) → Of p ys → Fits known w (t ∷ ys)
take_sound t b w (k ∷ known) p e ys h =
    let n = needs_ok (is_type t k) TypeMismatch (done (make b w known)) p e in
    (is_can t k n.0, of_taken b w known p ys n.1 h)
take_sound t b true [] p e ys h = tt
take_sound t b false [] p e ys h = absurd cc

take_complete : (t : ValueType) (b : ℕ) (w : Bool) (known : Known) (ys : Types) → Fits known w (t ∷ ys) → (p : Operands) × (take_one t (make b w known) ≡ Ok p) × Of p ys
take_complete t b w (k ∷ known) ys h = (make b w known, rw (can_is t k h.0) refl, h.1)
take_complete t b true [] ys h = (make b true [], refl, tt)
take_complete t b false [] ys h = absurd cc

pub one_sound : (t : ValueType) → Sound (take_one t) (λ xs ys. xs ≡ t ∷ ys)
one_sound t o p e ys h = (t ∷ ys, take_sound t o.height o.unreachable o.known p e ys h, refl)

pub one_complete : (t : ValueType) → Complete (take_one t) (λ xs ys. xs ≡ t ∷ ys)
one_complete t o xs ys h e = take_complete t o.height o.unreachable o.known ys (subst (λ (zs : Types). Of o zs) e h)

-- ---- several operands

pub all_sound : (ts : Types) → Sound (take_all ts) (λ xs ys. xs ≡ ts ++ ys)
all_sound [] o p e ys h = (ys, of_taken o.height o.unreachable o.known p ys e h, refl)
all_sound (t ∷ ts) o p e ys h =
    let b = bind_ok (take_one t o) (take_all ts) p e in
    let r = all_sound ts b.0 p b.2 ys h in
    let f = one_sound t o b.0 b.1 r.0 r.1 in
    (f.0, f.1, f.2 ∙ ap (λ (zs : Types). t ∷ zs) r.2)

pub all_complete : (ts : Types) → Complete (take_all ts) (λ xs ys. xs ≡ ts ++ ys)
all_complete [] o xs ys h e = (o, refl, subst (λ (zs : Types). Of o zs) e h)
all_complete (t ∷ ts) o xs ys h e =
    let f = one_complete t o xs (ts ++ ys) h e in
    let r = all_complete ts f.0 (ts ++ ys) ys f.2 refl in
    (r.0, rw f.1 r.1, r.2)

give_below : (ts : Types) (o : Operands) → (give ts o).unreachable ≡ o.unreachable
give_below [] o = refl
give_below (t ∷ ts) o = refl

below_given : (ts : Types) (o : Operands) (ys : Types) → Fits (give ts o).known o.unreachable ys → Of (give ts o) ys
below_given ts o ys h = subst (λ (w : Bool). Fits (give ts o).known w ys) (sym (give_below ts o)) h

given_below : (ts : Types) (o : Operands) (ys : Types) → Of (give ts o) ys → Fits (give ts o).known o.unreachable ys
given_below ts o ys h = subst (λ (w : Bool). Fits (give ts o).known w ys) (give_below ts o) h

joined : (t y : ValueType) (ts ys xs : Types) → t ≡ y → ys ≡ ts ++ xs → y ∷ ys ≡ t ∷ (ts ++ xs)
joined t y ts ys xs p q = cc

pub give_sound : (ts : Types) (o : Operands) (ys : Types) → Of (give ts o) ys → (xs : Types) × Of o xs × (ys ≡ ts ++ xs)
give_sound [] o ys h = (ys, h, refl)
give_sound (t ∷ ts) o [] h = absurd h
give_sound (t ∷ ts) o (y ∷ ys) h =
    let r = give_sound ts o ys (below_given ts o ys h.1) in
    (r.0, r.1, joined t y ts ys r.0 h.0 r.2)

pub give_complete : (ts : Types) (o : Operands) (xs : Types) → Of o xs → Of (give ts o) (ts ++ xs)
give_complete [] o xs h = h
give_complete (t ∷ ts) o xs h = (refl, given_below ts o (ts ++ xs) (give_complete ts o xs h))

-- each of them fits some stack
some_type : (k : Option ValueType) → (t : ValueType) × Can k t
some_type None = (I32, tt)
some_type (Some t) = (t, refl)

some_stack : (known : Known) (w : Bool) → (xs : Types) × Fits known w xs
some_stack [] true = ([], tt)
some_stack [] false = ([], refl)
some_stack (k ∷ known) w =
    let t = some_type k in
    let r = some_stack known w in
    (t.0 ∷ r.0, (t.1, r.1))

-- ---- two operands of one type

meet_sound : (k l m : Option ValueType) → meet k l ≡ Ok m → (t : ValueType) → Can m t → Can k t × Can l t
meet_sound None l m e t c = (tt, subst (λ (n : Option ValueType). Can n t) (sym (ok_is {E = ValidKind} l m e)) c)
meet_sound (Some u) None m e t c = (subst (λ (n : Option ValueType). Can n t) (sym (ok_is {E = ValidKind} (Some u) m e)) c, tt)
meet_sound (Some u) (Some v) m e t c =
    let n = needs_ok (is_type u (Some v)) TypeMismatch (done (Some u)) m e in
    let first : u ≡ t = subst (λ (n : Option ValueType). Can n t) (sym (ok_is {E = ValidKind} (Some u) m n.1)) c in
    let same : v ≡ u = is_can u (Some v) n.0 in
    (first, same ∙ first)

meet_complete : (k l : Option ValueType) (t : ValueType) → Can k t → Can l t → (m : Option ValueType) × (meet k l ≡ Ok m) × Can m t
meet_complete None l t a b = (l, refl, b)
meet_complete (Some u) None t a b = (Some u, refl, a)
meet_complete (Some u) (Some v) t a b = (Some u, rw (can_is u (Some v) (b ∙ sym a)) refl, a)

abbrev pair_off : Step
pair_off o = pop o >>= λ p. pop p.1 >>= λ q. meet p.0 q.0 >>= λ k. Ok (with_known q.1 (k ∷ q.1.known))

abbrev Pairs : Types → Types → Type 0
Pairs xs ys = (t : ValueType) × (below : Types) × (xs ≡ t ∷ t ∷ below) × (ys ≡ t ∷ below)

on_top : (k l m : Option ValueType) (known : Known) (w : Bool) (ys : Types) → meet k l ≡ Ok m → Fits (m ∷ known) w ys → (t : ValueType) × (below : Types) × (ys ≡ t ∷ below) × (Can k t × (Can l t × Fits known w below))
on_top k l m known w [] e h = absurd h
on_top k l m known w (y ∷ ys) e h =
    let c = meet_sound k l m e y h.0 in
    (y, ys, refl, (c.0, (c.1, h.1)))

pair_sound : (b : ℕ) (w : Bool) (known : Known) (p : Operands) → pair_off (make b w known) ≡ Ok p → (ys : Types) → Of p ys → (t : ValueType) × (below : Types) × (ys ≡ t ∷ below) × Fits known w (t ∷ t ∷ below)
pair_sound b w (k ∷ l ∷ known) p e ys h =
    let r = bind_ok (meet k l) (λ m. done (make b w (m ∷ known))) p e in
    on_top k l r.0 known w ys r.1 (of_taken b w (r.0 ∷ known) p ys r.2 h)
pair_sound b true (k ∷ []) p e ys h =
    let r = bind_ok (meet k None) (λ m. done (make b true (m ∷ []))) p e in
    let d = on_top k None r.0 [] true ys r.1 (of_taken b true (r.0 ∷ []) p ys r.2 h) in
    (d.0, d.1, d.2, (d.3.0, tt))
pair_sound b true [] p e ys h =
    let d = on_top None None None [] true ys refl (of_taken b true (None ∷ []) p ys e h) in
    (d.0, d.1, d.2, tt)
pair_sound b false (k ∷ []) p e ys h = absurd cc
pair_sound b false [] p e ys h = absurd cc

pair_complete : (b : ℕ) (w : Bool) (known : Known) (t : ValueType) (below : Types) → Fits known w (t ∷ t ∷ below) → (p : Operands) × (pair_off (make b w known) ≡ Ok p) × Of p (t ∷ below)
pair_complete b w (k ∷ l ∷ known) t below h =
    let m = meet_complete k l t h.0 h.1.0 in
    (make b w (m.0 ∷ known), rw m.1 refl, (m.2, h.1.1))
pair_complete b true (k ∷ []) t below h =
    let m = meet_complete k None t h.0 tt in
    (make b true (m.0 ∷ []), rw m.1 refl, (m.2, tt))
pair_complete b true [] t below h = (make b true (None ∷ []), refl, (tt, tt))
pair_complete b false (k ∷ []) t below h = absurd (let e = h.1 in cc)
pair_complete b false [] t below h = absurd cc

-- ---- by a rule

drop_sound : (b : ℕ) (w : Bool) (known : Known) (p : Operands) → by_rule AnyDrop (make b w known) ≡ Ok p → (ys : Types) → Of p ys → (xs : Types) × Fits known w xs × ((t : ValueType) × (xs ≡ t ∷ ys))
drop_sound b w (k ∷ known) p e ys h =
    let t = some_type k in
    (t.0 ∷ ys, (t.1, of_taken b w known p ys e h), (t.0, refl))
drop_sound b true [] p e ys h = (I32 ∷ ys, tt, (I32, refl))
drop_sound b false [] p e ys h = absurd cc

drop_complete : (b : ℕ) (w : Bool) (known : Known) (t : ValueType) (ys : Types) → Fits known w (t ∷ ys) → (p : Operands) × (by_rule AnyDrop (make b w known) ≡ Ok p) × Of p ys
drop_complete b w (k ∷ known) t ys h = (make b w known, refl, h.1)
drop_complete b true [] t ys h = (make b true [], refl, tt)
drop_complete b false [] t ys h = absurd cc

pub rule_sound : (rule : Rule) → Sound (by_rule rule) (Moves rule)
rule_sound (Mono takes gives) o p e ys h =
    let b = bind_ok (take_all takes o) (λ q. done (give gives q)) p e in
    let g = give_sound gives b.0 ys (subst (λ (q : Operands). Of q ys) (sym (same_operands (give gives b.0) p b.2)) h) in
    let a = all_sound takes o b.0 b.1 g.0 g.1 in
    (a.0, a.1, (g.0, a.2, g.2))
rule_sound (Leaves takes) o p e ys h =
    let b = bind_ok (take_all takes o) (λ q. done (left q)) p e in
    let s = some_stack b.0.known b.0.unreachable in
    let a = all_sound takes o b.0 b.1 s.0 s.1 in
    (a.0, a.1, (s.0, a.2))
rule_sound AnyDrop o p e ys h = drop_sound o.height o.unreachable o.known p e ys h
rule_sound AnySelect o p e ys h =
    let b = bind_ok (take_one I32 o) pair_off p e in
    let d = pair_sound b.0.height b.0.unreachable b.0.known p b.2 ys h in
    let a = one_sound I32 o b.0 b.1 (d.0 ∷ d.0 ∷ d.1) d.3 in
    (a.0, a.1, (d.0, d.1, a.2, d.2))

pub rule_complete : (rule : Rule) → Complete (by_rule rule) (Moves rule)
rule_complete (Mono takes gives) o xs ys h m =
    let a = all_complete takes o xs m.0 h m.1 in
    (give gives a.0, rw a.1 refl, subst (λ (zs : Types). Of (give gives a.0) zs) (sym m.2) (give_complete gives a.0 m.0 a.2))
rule_complete (Leaves takes) o xs ys h m =
    let a = all_complete takes o xs m.0 h m.1 in
    (left a.0, rw a.1 refl, tt)
rule_complete AnyDrop o xs ys h m = drop_complete o.height o.unreachable o.known m.0 ys (subst (λ (zs : Types). Of o zs) m.1 h)
rule_complete AnySelect o xs ys h m =
    let a = one_complete I32 o xs (m.0 ∷ m.0 ∷ m.1) h m.2 in
    let d = pair_complete a.0.height a.0.unreachable a.0.known m.0 m.1 a.2 in
    (d.0, rw a.1 d.1, subst (λ (zs : Types). Of d.0 zs) (sym m.3) d.2)

-- ---- the end of a block

nothing_left : (w : Bool) (known : Known) → is_nil known ≡ true → Fits known w []
nothing_left true [] e = tt
nothing_left false [] e = refl
nothing_left w (k ∷ known) e = absurd cc

left_nothing : (w : Bool) (known : Known) → Fits known w [] → is_nil known ≡ true
left_nothing w [] h = refl
left_nothing w (k ∷ known) h = absurd h

pub ends_sound : (r : Option ValueType) (o p : Operands) → ends r o ≡ Ok p → Of o (listed r)
ends_sound r o p e =
    let b = bind_ok (take_all (listed r) o) (λ q. cond (is_nil q.known) (done q) (Err TypeMismatch)) p e in
    let n = needs_ok (is_nil b.0.known) TypeMismatch (done b.0) p b.2 in
    let a = all_sound (listed r) o b.0 b.1 [] (nothing_left b.0.unreachable b.0.known n.0) in
    subst (λ (zs : Types). Of o zs) (a.2 ∙ append-nil (listed r)) a.1

pub ends_complete : (r : Option ValueType) (o : Operands) → Of o (listed r) → (p : Operands) × (ends r o ≡ Ok p)
ends_complete r o h =
    let a = all_complete (listed r) o (listed r) [] h (sym (append-nil (listed r))) in
    (a.0, rw (a.1, left_nothing a.0.unreachable a.0.known a.2) refl)
