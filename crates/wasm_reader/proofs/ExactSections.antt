-- Parts with a stated size, code and sections are read exactly.
use Rattle.std.proofs.Common.{◌≡◌, ℕ, zero, suc, ◌+◌, ◌-◌, ◌<◌, ◌≤◌, Bool, true, false, cond, eqb, ltb, leb, List, [], ◌∷◌, ◌++◌, length, take, drop, Option, Some, None, Result, Ok, Err, refl, sym, ap, subst, ◌∙◌, arith, inl, inr, replicate, append_assoc}
use Rattle.std.specs.Option.{option_map_or}
use Rattle.std.proofs.lemmas.Bool.{cases_Bool, leb-true, ltb-false, le-ltb, eqb-true, eqb-false, ne_eqb, eq-eqb}
use Rattle.std.proofs.lemmas.List.{take_at, drop_at, length-append, append-nil, length-replicate}
use Rattle.wasm_types.specs.declared.types.ValueType.{ValueType}
use Rattle.wasm_types.specs.declared.types.FuncType.{FuncType}
use Rattle.wasm_types.specs.declared.modules.Code.{Code}
use Rattle.wasm_code.specs.declared.fault.ReadKind.{ReadKind}
use Rattle.wasm_code.specs.declared.fault.ReadKind.TheVariants.{SectionSize, TooLarge}
use Rattle.wasm_code.specs.declared.fault.ReadFault.{ReadFault}
use Rattle.wasm_code.specs.declared.scope.Scope.{Scope}
use Rattle.wasm_code.specs.Grammar.{Behind, AreMany, IsU32}
use Rattle.wasm_code.specs.Reading.{Reading, ◌>>=◌, fault_at, short_of, u32_at, count_at}
use Rattle.wasm_code.specs.Instructions.{value_type_at, expression_at}
use Rattle.wasm_code.specs.Exact.{IsExact}
use Rattle.wasm_code.proofs.Steps.{bind_ok, needs_ok, pair_is, ap2_pair, same_ok, ok_is}
use Rattle.wasm_code.proofs.ExactNumbers.{u32_exact, count_exact}
use Rattle.wasm_code.proofs.ExactInstructions.{value_type_exact}
use Rattle.wasm_code.proofs.ExactExpressions.{expression_exact, u32_takes}
use Rattle.wasm_reader.specs.Grammar.{AreBytes, IsName, IsSized, IsGroup, params_of, IsBody, AreBodies, AreCode, IsCustom, AreCustoms, IsOptional, Section}
use Rattle.wasm_types.specs.declared.locals.Group.{Group}
use Rattle.wasm_types.specs.Locals.{locals_of}
use Rattle.wasm_reader.specs.Reading.{name_at}
use Rattle.wasm_reader.specs.Sections.{Inside, short_before, open_at, close_at, sized_at, is_bad_leb, crowded, crowded_at, groups_at, locals_from, locals_at, body_at, bodies_at, code_section_at, custom_at, next_custom_at, customs_from, customs_at, optional_at, section_at}
use Rattle.wasm_reader.proofs.ExactParts.{cut_is, cut_again, name_exact}
use Rattle.wasm_reader.proofs.Loops.{customs_go, customs_stop}

eqb_same : (n : ℕ) → eqb n n ≡ true
eqb_same n = eq-eqb n n refl

-- ---- a stated size

abbrev whole_part : ReadKind → Scope → List ℕ → List ℕ → Inside
whole_part last scope inside rest = record { scope = record { end = scope.end - length rest; short = short_before last rest }; content = inside; after = rest; whole = true }

abbrev cut_part : Scope → List ℕ → Inside
cut_part scope content = record { scope = scope; content = content; after = []; whole = false }

open_sound : (last : ReadKind) (scope : Scope) (bytes : List ℕ) (part : Inside) → open_at last scope bytes ≡ Ok part → part.whole ≡ true → AreBytes bytes part.content part.after
unfolding open_at
open_sound last scope bytes part e w =
    let made : ℕ × List ℕ → Inside = λ size. whole_part last scope (take size.0 size.1) (drop size.0 size.1) in
    let a = bind_ok (u32_at scope bytes) (λ size. cond (leb size.0 (length size.1)) (Ok (made size)) (Ok (cut_part scope size.1))) part e in
    let n = a.0.0 in
    let r = a.0.1 in
    elim (cases_Bool (leb n (length r))) [
      | inl t ↦
          let same = ok_is (made a.0) part (rw t at a.2) in
          let cut = cut_is n r (take n r) (drop n r) (leb-true n (length r) t) refl refl in
          subst (λ (p : Inside). AreBytes bytes p.content p.after) same (subst (λ (p : ℕ × List ℕ). IsU32 bytes p.0 p.1) (ap2_pair (sym cut.0) cut.1) ((u32_exact scope).sound bytes r n a.1))
      | inr f ↦
          let same = ok_is (cut_part scope r) part (rw f at a.2) in
          let no : false ≡ true = ap (λ (p : Inside). p.whole) same ∙ w in
          absurd (let e' = no in cc)
    ]

open_complete : (last : ReadKind) (scope : Scope) (bytes inside rest : List ℕ) → AreBytes bytes inside rest → open_at last scope bytes ≡ Ok (whole_part last scope inside rest)
unfolding open_at
open_complete last scope bytes inside rest h =
    let n = (u32_exact scope).complete bytes (inside ++ rest) (length inside) h in
    rw (n, cut_again inside rest, take_at inside rest (length inside) refl, drop_at inside rest (length inside) refl) refl

close_sound : (part : Inside) (r after : List ℕ) → close_at part r ≡ Ok after → (r ≡ []) × (part.whole ≡ true) × (part.after ≡ after)
unfolding close_at
close_sound part [] after e =
    let g = needs_ok part.whole (short_of part.scope) (Ok part.after) after e in
    (refl, g.0, ok_is part.after after g.1)
close_sound part (b ∷ r) after e = absurd cc

close_complete : (last : ReadKind) (scope : Scope) (inside rest : List ℕ) → close_at (whole_part last scope inside rest) [] ≡ Ok rest
unfolding close_at
close_complete last scope inside rest = refl

pub sized_exact : {A : Type 0} (last : ReadKind) (content : Scope → List ℕ → Reading A) (Is : List ℕ → A → List ℕ → Type 0) → ((scope : Scope) → IsExact (content scope) Is) → (scope : Scope) → IsExact (sized_at last content scope) (IsSized Is)
unfolding sized_at
sized_exact {A} last content Is exact scope = record {
  sound = λ bytes rest v e.
      let a = bind_ok (open_at last scope bytes) (λ part. content part.scope part.content >>= λ x. close_at part x.1 >>= λ after. Ok (x.0, after)) (v, rest) e in
      let b = bind_ok (content a.0.scope a.0.content) (λ x. close_at a.0 x.1 >>= λ after. Ok (x.0, after)) (v, rest) a.2 in
      let c = bind_ok (close_at a.0 b.0.1) (λ after. Ok (b.0.0, after)) (v, rest) b.2 in
      let same = pair_is b.0.0 v c.0 rest c.2 in
      let closed = close_sound a.0 b.0.1 c.0 c.1 in
      let opened = open_sound last scope bytes a.0 a.1 closed.1 in
      let inner = (exact a.0.scope).sound a.0.content b.0.1 b.0.0 b.1 in
      let made : IsSized Is bytes b.0.0 c.0 = (a.0.content, subst (λ (r : List ℕ). AreBytes bytes a.0.content r) closed.2 opened, subst (λ (r : List ℕ). Is a.0.content b.0.0 r) closed.0 inner) in
      subst (λ (p : A × List ℕ). IsSized Is bytes p.0 p.1) (ap2_pair same.0 same.1) made;
  complete = λ bytes rest v h.
      let part = whole_part last scope h.0 rest in
      let opened = open_complete last scope bytes h.0 rest h.1 in
      let inner = (exact part.scope).complete h.0 [] v h.2 in
      let closed = close_complete last scope h.0 rest in
      rw (opened, inner, closed) refl;
}

-- ---- code

both_fail : (b : Bool) (f g : ReadFault) (x : ℕ × List ℕ) (P : Type 0) → (let r : Reading ℕ = cond b (Err f) (Err g) in r) ≡ Ok x → P
both_fail true f g x P e = absurd cc
both_fail false f g x P e = absurd cc

crowded_never : (full : ReadFault) (r : Reading ℕ) (x : ℕ × List ℕ) (P : Type 0) → crowded full r ≡ Ok x → P
crowded_never full (Ok n) x P e = absurd cc
crowded_never full (Err f) x P e = both_fail (is_bad_leb f.kind) f full x P e

groups_sound : (params : ℕ) (scope : Scope) (bytes rest : List ℕ) (n : ℕ) → groups_at params scope bytes ≡ Ok (n, rest) → (params ≤ 4096) × IsU32 bytes n rest
unfolding groups_at crowded_at
groups_sound params scope [] rest n e = absurd cc
groups_sound params scope (b ∷ bytes) rest n e =
    elim (cases_Bool (ltb 4096 params)) [
      | inl t ↦ crowded_never (fault_at TooLarge scope (b ∷ bytes)) (u32_at (record { end = scope.end; short = TooLarge }) (b ∷ bytes)) (n, rest) ((params ≤ 4096) × IsU32 (b ∷ bytes) n rest) (rw t at e)
      | inr f ↦ (ltb-false 4096 params f, (u32_exact scope).sound (b ∷ bytes) rest n (rw f at e))
    ]

groups_complete : (params : ℕ) (scope : Scope) (bytes rest : List ℕ) (n : ℕ) → params ≤ 4096 → IsU32 bytes n rest → groups_at params scope bytes ≡ Ok (n, rest)
unfolding groups_at
groups_complete params scope [] rest n few h = absurd h
groups_complete params scope (b ∷ bytes) rest n few h =
    let t = le-ltb 4096 params few in
    rw t ((u32_exact scope).complete (b ∷ bytes) rest n h)

abbrev FromGroups : ℕ → List ValueType → ℕ → List ℕ → List ValueType → List ℕ → Type 0
FromGroups params before n bytes all rest = (groups : List Group) × (length groups ≡ n) × AreMany IsGroup bytes groups rest × (all ≡ before ++ locals_of groups) × (params + length all ≤ 4096)

locals_sound : (params : ℕ) (before : List ValueType) (n : ℕ) (scope : Scope) (bytes rest : List ℕ) (all : List ValueType) → params + length before ≤ 4096 → locals_from params before n scope bytes ≡ Ok (all, rest) → FromGroups params before n bytes all rest
unfolding locals_from
locals_sound params before zero scope bytes rest all few e =
    let same = pair_is before all bytes rest e in
    ([], refl, same.1, sym same.0 ∙ sym (append-nil before), subst (λ (l : List ValueType). params + length l ≤ 4096) same.0 few)
locals_sound params before (suc n) scope bytes rest all few e =
    let go : ℕ × List ℕ → ValueType × List ℕ → Reading (List ValueType) = λ count kind. locals_from params (before ++ replicate count.0 kind.0) n scope kind.1 in
    let a = bind_ok (count_at (4096 - (params + length before)) scope bytes) (λ count. value_type_at scope count.1 >>= λ kind. go count kind) (all, rest) e in
    let b = bind_ok (value_type_at scope a.0.1) (λ kind. go a.0 kind) (all, rest) a.2 in
    let count = (count_exact (4096 - (params + length before)) scope).sound bytes a.0.1 a.0.0 a.1 in
    let kind = (value_type_exact scope).sound a.0.1 b.0.1 b.0.0 b.1 in
    let more = before ++ replicate a.0.0 b.0.0 in
    let len : length more ≡ length before + a.0.0 = omega (arith, length-append before (replicate a.0.0 b.0.0), length-replicate a.0.0 b.0.0) in
    let inner = locals_sound params more n scope b.0.1 rest all (omega (arith, count.0, len)) b.2 in
    let g : Group = record { count = a.0.0; kind = b.0.0 } in
    (g ∷ inner.0, ap suc inner.1, (b.0.1, (a.0.1, count.1, kind), inner.2), inner.3 ∙ append_assoc before (replicate a.0.0 b.0.0) (locals_of inner.0), inner.4)

locals_complete : (params : ℕ) (before : List ValueType) (scope : Scope) (bytes rest : List ℕ) (groups : List Group) → params + (length before + length (locals_of groups)) ≤ 4096 → AreMany IsGroup bytes groups rest → locals_from params before (length groups) scope bytes ≡ Ok (before ++ locals_of groups, rest)
unfolding locals_from
locals_complete params before scope bytes rest [] few h = same_ok before (before ++ []) bytes rest (sym (append-nil before)) h
locals_complete params before scope bytes rest (g ∷ groups) few h =
    let added = replicate g.count g.kind in
    let len = length-replicate g.count g.kind in
    let whole = length-append added (locals_of groups) in
    let count = (count_exact (4096 - (params + length before)) scope).complete bytes h.1.0 g.count (omega (arith, few, len, whole), h.1.1) in
    let kind = (value_type_exact scope).complete h.1.0 h.0 g.kind h.1.2 in
    let inner = locals_complete params (before ++ added) scope h.0 rest groups (omega (arith, few, len, whole, length-append before added)) h.2 in
    rw (count, kind, inner) (same_ok ((before ++ added) ++ locals_of groups) (before ++ (added ++ locals_of groups)) rest rest (append_assoc before added (locals_of groups)) refl)

abbrev made_of : List ValueType → Code → Code
made_of locals x = record x { locals = locals }

pub body_exact : (params : ℕ) (scope : Scope) → IsExact (body_at params scope) (IsBody params)
unfolding body_at locals_at
body_exact params scope = record {
  sound = λ bytes rest x e.
      let a = bind_ok (groups_at params scope bytes >>= λ n. locals_from params [] n.0 scope n.1) (λ locals. expression_at scope locals.1 >>= λ code. Ok (record { locals = locals.0; body = code.0 }, code.1)) (x, rest) e in
      let g = bind_ok (groups_at params scope bytes) (λ n. locals_from params [] n.0 scope n.1) a.0 a.1 in
      let b = bind_ok (expression_at scope a.0.1) (λ code. Ok (record { locals = a.0.0; body = code.0 }, code.1)) (x, rest) a.2 in
      let made : Code = record { locals = a.0.0; body = b.0.0 } in
      let same = pair_is made x b.0.1 rest b.2 in
      let groups = groups_sound params scope bytes g.0.1 g.0.0 g.1 in
      let locals = locals_sound params [] g.0.0 scope g.0.1 a.0.1 a.0.0 (omega (arith, groups.0)) g.2 in
      let is : IsBody params bytes made b.0.1 = (locals.4, (a.0.1, (locals.0, g.0.1, subst (λ (k : ℕ). IsU32 bytes k g.0.1) (sym locals.1) groups.1, locals.2, locals.3), (expression_exact scope).sound a.0.1 b.0.1 b.0.0 b.1)) in
      subst (λ (p : Code × List ℕ). IsBody params bytes p.0 p.1) (ap2_pair same.0 same.1) is;
  complete = λ bytes rest x h.
      let l = h.1.1 in
      let few : params + length (locals_of l.0) ≤ 4096 = subst (λ (k : List ValueType). params + length k ≤ 4096) l.4 h.0 in
      let groups = groups_complete params scope bytes l.1 (length l.0) (omega (arith, h.0)) l.2 in
      let locals = locals_complete params [] scope l.1 h.1.0 l.0 (omega (arith, few)) l.3 in
      let code = (expression_exact scope).complete h.1.0 rest x.body h.1.2 in
      rw (groups, locals, code) (same_ok (made_of (locals_of l.0) x) x rest rest (ap (λ (k : List ValueType). made_of k x) (sym l.4)) refl);
}

bodies_sound : (types : List FuncType) (functions : List ℕ) (index n : ℕ) (scope : Scope) (bytes rest : List ℕ) (cs : List Code) → bodies_at types functions index n scope bytes ≡ Ok (cs, rest) → (length cs ≡ n) × AreBodies types functions index bytes cs rest
unfolding bodies_at
bodies_sound types functions index zero scope bytes rest cs e =
    let same = pair_is [] cs bytes rest e in
    (ap (λ (ys : List Code). length ys) (sym same.0), subst (λ (ys : List Code). AreBodies types functions index bytes ys rest) same.0 same.1)
bodies_sound types functions index (suc n) scope bytes rest cs e =
    let read = body_at (params_of types functions index) in
    let a = bind_ok (sized_at scope.short read scope bytes) (λ first. bodies_at types functions (suc index) n scope first.1 >>= λ others. Ok (first.0 ∷ others.0, others.1)) (cs, rest) e in
    let b = bind_ok (bodies_at types functions (suc index) n scope a.0.1) (λ others. Ok (a.0.0 ∷ others.0, others.1)) (cs, rest) a.2 in
    let same = pair_is (a.0.0 ∷ b.0.0) cs b.0.1 rest b.2 in
    let first = (sized_exact scope.short read (IsBody (params_of types functions index)) (body_exact (params_of types functions index)) scope).sound bytes a.0.1 a.0.0 a.1 in
    let inner = bodies_sound types functions (suc index) n scope a.0.1 b.0.1 b.0.0 b.1 in
    let made : (length (a.0.0 ∷ b.0.0) ≡ suc n) × AreBodies types functions index bytes (a.0.0 ∷ b.0.0) b.0.1 = (ap suc inner.0, (a.0.1, first, inner.1)) in
    subst (λ (p : List Code × List ℕ). (length p.0 ≡ suc n) × AreBodies types functions index bytes p.0 p.1) (ap2_pair same.0 same.1) made

bodies_complete : (types : List FuncType) (functions : List ℕ) (index : ℕ) (scope : Scope) (bytes rest : List ℕ) (cs : List Code) → AreBodies types functions index bytes cs rest → bodies_at types functions index (length cs) scope bytes ≡ Ok (cs, rest)
unfolding bodies_at
bodies_complete types functions index scope bytes rest [] h = ap (λ (t : List ℕ). Ok ([], t)) h
bodies_complete types functions index scope bytes rest (c ∷ cs) h =
    let first = (sized_exact scope.short (body_at (params_of types functions index)) (IsBody (params_of types functions index)) (body_exact (params_of types functions index)) scope).complete bytes h.0 c h.1 in
    let others = bodies_complete types functions (suc index) scope h.0 rest cs h.2 in
    rw (first, others) refl

pub code_exact : (types : List FuncType) (functions : List ℕ) (scope : Scope) → IsExact (code_section_at types functions scope) (AreCode types functions)
unfolding code_section_at
code_exact types functions scope = record {
  sound = λ bytes rest cs e.
      let a = bind_ok (count_at 65536 scope bytes) (λ n. bodies_at types functions 0 n.0 scope n.1) (cs, rest) e in
      let count = (count_exact 65536 scope).sound bytes a.0.1 a.0.0 a.1 in
      let bodies = bodies_sound types functions 0 a.0.0 scope a.0.1 rest cs a.2 in
      (subst (λ (k : ℕ). k ≤ 65536) (sym bodies.0) count.0, (a.0.1, subst (λ (k : ℕ). IsU32 bytes k a.0.1) (sym bodies.0) count.1, bodies.1));
  complete = λ bytes rest cs h.
      let count = (count_exact 65536 scope).complete bytes h.1.0 (length cs) (h.0, h.1.1) in
      let bodies = bodies_complete types functions 0 scope h.1.0 rest cs h.1.2 in
      rw (count, bodies) refl;
}

-- ---- custom sections

abbrev pub NotCustom : List ℕ → Type 0
NotCustom [] = Unit {0}
NotCustom (b ∷ rest) = b ≡ 0 → ⊥

custom_sound : (scope : Scope) (bytes after : List ℕ) → custom_at scope bytes ≡ Ok after → (inside : List ℕ) × (name : List ℕ) × (mid : List ℕ) × AreBytes bytes inside after × IsName inside name mid
unfolding custom_at
custom_sound scope bytes after e =
    let a = bind_ok (open_at SectionSize scope bytes) (λ part. name_at part.scope part.content >>= λ name. close_at part []) after e in
    let b = bind_ok (name_at a.0.scope a.0.content) (λ name. close_at a.0 []) after a.2 in
    let closed = close_sound a.0 [] after b.2 in
    let opened = open_sound SectionSize scope bytes a.0 a.1 closed.1 in
    (a.0.content, b.0.0, b.0.1, subst (λ (r : List ℕ). AreBytes bytes a.0.content r) closed.2 opened, (name_exact a.0.scope).sound a.0.content b.0.1 b.0.0 b.1)

custom_complete : (scope : Scope) (bytes inside name mid after : List ℕ) → AreBytes bytes inside after → IsName inside name mid → custom_at scope bytes ≡ Ok after
unfolding custom_at
custom_complete scope bytes inside name mid after h n =
    let part = whole_part SectionSize scope inside after in
    let opened = open_complete SectionSize scope bytes inside after h in
    let named = (name_exact part.scope).complete inside mid name n in
    let closed = close_complete SectionSize scope inside after in
    rw (opened, named) closed

abbrev pub found : Option (List ℕ) → Result (Option (List ℕ)) ReadFault
found o = Ok o

pub next_some : (scope : Scope) (bytes after : List ℕ) → next_custom_at scope bytes ≡ found (Some after) → IsCustom bytes after
unfolding next_custom_at
next_some scope [] after e = absurd cc
next_some scope (id ∷ bytes) after e =
    elim (cases_Bool (eqb id 0)) [
      | inl t ↦
          let a = bind_ok (custom_at scope bytes) (λ r. found (Some r)) (Some after) (rw t at e) in
          let same : a.0 ≡ after = (let z = a.2 in cc) in
          let c = custom_sound scope bytes a.0 a.1 in
          (bytes, c.0, c.1, c.2, ap (λ (k : ℕ). k ∷ bytes) (eqb-true id 0 t), subst (λ (r : List ℕ). AreBytes bytes c.0 r) same c.3, c.4)
      | inr f ↦ absurd (let z = rw f at e in cc)
    ]

bind_some : (r : Result (List ℕ) ReadFault) (P : Type 0) → (r >>= λ after. found (Some after)) ≡ found None → P
bind_some (Ok x) P e = absurd cc
bind_some (Err f) P e = absurd cc

next_none : (scope : Scope) (bytes : List ℕ) → next_custom_at scope bytes ≡ found None → NotCustom bytes
unfolding next_custom_at
next_none scope [] e = tt
next_none scope (id ∷ bytes) e =
    elim (cases_Bool (eqb id 0)) [
      | inl t ↦ bind_some (custom_at scope bytes) (id ≡ 0 → ⊥) (rw t at e)
      | inr f ↦ eqb-false id 0 f
    ]

next_is : (scope : Scope) (bytes after : List ℕ) → IsCustom bytes after → next_custom_at scope bytes ≡ found (Some after)
unfolding next_custom_at
next_is scope bytes after h =
    let r = custom_complete scope h.0 h.1 h.2 h.3 after h.5 h.6 in
    ap (next_custom_at scope) h.4 ∙ rw r refl

next_not : (scope : Scope) (bytes : List ℕ) → NotCustom bytes → next_custom_at scope bytes ≡ found None
unfolding next_custom_at
next_not scope [] h = refl
next_not scope (id ∷ bytes) h = let t = ne_eqb id 0 h in rw t refl

pub custom_takes : (bytes after : List ℕ) → IsCustom bytes after → length after < length bytes
custom_takes bytes after h =
    let same = ap (λ (l : List ℕ). length l) h.4 in
    let size = u32_takes h.0 (h.1 ++ after) (length h.1) h.5 in
    omega (arith, size, length-append h.1 after)

abbrev AreSkipped : List ℕ → List ℕ → Type 0
AreSkipped bytes r = ((k : ℕ) × AreCustoms k bytes r) × NotCustom r

after_next : (n : ℕ) (scope : Scope) (bytes r : List ℕ) → length bytes ≤ suc n → ((b : List ℕ) → length b ≤ n → customs_from n scope b ≡ Ok r → AreSkipped b r) → (o : Option (List ℕ)) → next_custom_at scope bytes ≡ found o → option_map_or (λ after. customs_from n scope after) o (Ok bytes) ≡ Ok r → AreSkipped bytes r
after_next n scope bytes r few ih None e h =
    let same = ok_is bytes r h in
    ((0, same), subst NotCustom same (next_none scope bytes e))
after_next n scope bytes r few ih (Some after) e h =
    let custom = next_some scope bytes after e in
    let inner = ih after (omega (arith, few, custom_takes bytes after custom)) h in
    ((suc inner.0.0, (after, custom, inner.0.1)), inner.1)

-- all custom sections here are passed over
customs_sound : (n : ℕ) (scope : Scope) (bytes r : List ℕ) → length bytes ≤ n → customs_from n scope bytes ≡ Ok r → AreSkipped bytes r
unfolding customs_from
customs_sound zero scope [] r few e = let same = ok_is [] r e in ((0, same), subst NotCustom same tt)
customs_sound zero scope (b ∷ bytes) r few e = absurd (omega (arith, few))
customs_sound (suc n) scope bytes r few e =
    let a = bind_ok (next_custom_at scope bytes) (λ next. option_map_or (λ after. customs_from n scope after) next (Ok bytes)) r e in
    after_next n scope bytes r few (λ b f h. customs_sound n scope b r f h) a.0 a.1 a.2

none_skipped : (n : ℕ) (scope : Scope) (r : List ℕ) → NotCustom r → customs_from n scope r ≡ Ok r
unfolding customs_from
none_skipped zero scope r h = refl
none_skipped (suc n) scope r h = customs_stop n scope r (next_not scope r h)

customs_complete : (k n : ℕ) (scope : Scope) (bytes r : List ℕ) → AreCustoms k bytes r → NotCustom r → length bytes ≤ n → customs_from n scope bytes ≡ Ok r
customs_complete zero n scope bytes r h none few = ap (customs_from n scope) h ∙ none_skipped n scope r none
customs_complete (suc k) zero scope bytes r h none few = absurd (omega (arith, few, custom_takes bytes h.0 h.1))
customs_complete (suc k) (suc n) scope bytes r h none few =
    customs_go n scope bytes h.0 (next_is scope bytes h.0 h.1) ∙ customs_complete k n scope h.0 r h.2 none (omega (arith, few, custom_takes bytes h.0 h.1))

pub skipped : (scope : Scope) (bytes r : List ℕ) → customs_at scope bytes ≡ Ok r → AreSkipped bytes r
unfolding customs_at
skipped scope bytes r e = customs_sound (length bytes) scope bytes r (omega arith) e

pub skips : (k : ℕ) (scope : Scope) (bytes r : List ℕ) → AreCustoms k bytes r → NotCustom r → customs_at scope bytes ≡ Ok r
unfolding customs_at
skips k scope bytes r h none = customs_complete k (length bytes) scope bytes r h none (omega arith)

then_customs : (k j : ℕ) (a b c : List ℕ) → AreCustoms k a b → AreCustoms j b c → (i : ℕ) × AreCustoms i a c
then_customs zero j a b c h g = (j, subst (λ (x : List ℕ). AreCustoms j x c) (sym h) g)
then_customs (suc k) j a b c h g =
    let inner = then_customs k j h.0 b c h.2 g in
    (suc inner.0, (h.0, h.1, inner.1))

-- custom sections in front of bytes make no difference
pub skips_front : (k : ℕ) (scope : Scope) (bytes mid r : List ℕ) → AreCustoms k bytes mid → customs_at scope mid ≡ Ok r → customs_at scope bytes ≡ Ok r
skips_front k scope bytes mid r h e =
    let s = skipped scope mid r e in
    let both = then_customs k s.0.0 bytes mid r h s.0.1 in
    skips both.0 scope bytes r both.1 s.1

pub skips_again : (scope : Scope) (bytes r : List ℕ) → customs_at scope bytes ≡ Ok r → customs_at scope r ≡ Ok r
skips_again scope bytes r e = skips 0 scope r r refl (skipped scope bytes r e).1

-- ---- sections in their order

-- the number that stands here, if any does, is this one at least
abbrev pub IsAbove : ℕ → List ℕ → Type 0
IsAbove id [] = Unit {0}
IsAbove id (b ∷ rest) = id ≤ b

-- the sections from a number on up to the end: they are read exactly, whatever custom sections stand before them
pub record IsTail {M : Type 0} (scope : Scope) (id : ℕ) (read : List ℕ → Result M ReadFault) (Is : List ℕ → M → Type 0) : Type 0 where
  pub sound : (bytes : List ℕ) (m : M) → read bytes ≡ Ok m → Is bytes m
  pub complete : (bytes : List ℕ) (m : M) → Is bytes m → read bytes ≡ Ok m
  pub same : (bytes mid : List ℕ) → customs_at scope bytes ≡ Ok mid → read bytes ≡ read mid
  pub starts : (bytes : List ℕ) (m : M) → read bytes ≡ Ok m → (mid : List ℕ) × (customs_at scope bytes ≡ Ok mid) × IsAbove id mid

abbrev pub Chain : {A M : Type 0} → ℕ → A → (List ℕ → A → List ℕ → Type 0) → (A → List ℕ → M → Type 0) → List ℕ → M → Type 0
Chain {A} id none Is Next bytes m = (x : A) × (after : List ℕ) × Section id none Is x bytes after × Next x after m

optional_sound : {A : Type 0} (id : ℕ) (none : A) (content : Scope → List ℕ → Reading A) (Is : List ℕ → A → List ℕ → Type 0) → ((scope : Scope) → IsExact (content scope) Is) → (scope : Scope) (bytes rest : List ℕ) (x : A) → optional_at id none content scope bytes ≡ Ok (x, rest) → IsOptional id none Is bytes x rest
unfolding optional_at
optional_sound id none content Is exact scope [] rest x e = let same = pair_is none x [] rest e in inl (sym same.0, same.1)
optional_sound id none content Is exact scope (b ∷ bytes) rest x e =
    elim (cases_Bool (eqb b id)) [
      | inl t ↦ inr (bytes, ap (λ (k : ℕ). k ∷ bytes) (eqb-true b id t), (sized_exact SectionSize content Is exact scope).sound bytes rest x (rw t at e))
      | inr f ↦ (let same = pair_is none x (b ∷ bytes) rest (rw f at e) in inl (sym same.0, same.1))
    ]

optional_there : {A : Type 0} (id : ℕ) (none : A) (content : Scope → List ℕ → Reading A) (Is : List ℕ → A → List ℕ → Type 0) → ((scope : Scope) → IsExact (content scope) Is) → (scope : Scope) (bytes rest : List ℕ) (x : A) → Behind id (IsSized Is) bytes x rest → optional_at id none content scope bytes ≡ Ok (x, rest)
unfolding optional_at
optional_there id none content Is exact scope bytes rest x h =
    let t : eqb id id ≡ true = eqb_same id in
    let r = (sized_exact SectionSize content Is exact scope).complete h.0 rest x h.2 in
    ap (optional_at id none content scope) h.1 ∙ rw (t, r) refl

optional_not : {A : Type 0} (id : ℕ) (none : A) (content : Scope → List ℕ → Reading A) (scope : Scope) (bytes : List ℕ) → IsAbove (suc id) bytes → optional_at id none content scope bytes ≡ Ok (none, bytes)
unfolding optional_at
optional_not id none content scope [] h = refl
optional_not id none content scope (b ∷ bytes) h = let f : eqb b id ≡ false = ne_eqb b id (λ e. omega (arith, h, e)) in rw f refl

above_less : (id : ℕ) (bytes : List ℕ) → IsAbove (suc id) bytes → IsAbove id bytes
above_less id [] h = tt
above_less id (b ∷ bytes) h = omega (arith, h)

behind_above : {A : Type 0} (id : ℕ) (Is : List ℕ → A → List ℕ → Type 0) (bytes rest : List ℕ) (x : A) → 0 < id → Behind id Is bytes x rest → IsAbove id bytes × NotCustom bytes
behind_above id Is bytes rest x pos h = subst (λ (l : List ℕ). IsAbove id l × NotCustom l) (sym h.1) (omega arith, λ e. omega (arith, e))

abbrev pub chain_at : {A M : Type 0} → ℕ → A → (Scope → List ℕ → Reading A) → (A → List ℕ → Result M ReadFault) → Scope → List ℕ → Result M ReadFault
chain_at id none content next scope bytes = section_at id none content scope bytes >>= λ x. next x.0 x.1

section_parts : {A : Type 0} (id : ℕ) (none : A) (content : Scope → List ℕ → Reading A) (scope : Scope) (bytes : List ℕ) (x : A × List ℕ) → section_at id none content scope bytes ≡ Ok x → (mid : List ℕ) × (customs_at scope bytes ≡ Ok mid) × (optional_at id none content scope mid ≡ Ok x)
unfolding section_at
section_parts id none content scope bytes x e = bind_ok (customs_at scope bytes) (λ rest. optional_at id none content scope rest) x e

section_made : {A : Type 0} (id : ℕ) (none : A) (content : Scope → List ℕ → Reading A) (scope : Scope) (bytes mid : List ℕ) → customs_at scope bytes ≡ Ok mid → section_at id none content scope bytes ≡ optional_at id none content scope mid
unfolding section_at
section_made id none content scope bytes mid e = rw e refl

chain_made : {A M : Type 0} (id : ℕ) (none : A) (content : Scope → List ℕ → Reading A) (next : A → List ℕ → Result M ReadFault) (scope : Scope) (bytes : List ℕ) (x : A × List ℕ) → section_at id none content scope bytes ≡ Ok x → chain_at id none content next scope bytes ≡ next x.0 x.1
chain_made id none content next scope bytes x e = rw e refl

complete_case : {A M : Type 0} (id : ℕ) (none : A) (content : Scope → List ℕ → Reading A) (Is : List ℕ → A → List ℕ → Type 0) (next : A → List ℕ → Result M ReadFault) (Next : A → List ℕ → M → Type 0) (scope : Scope) → 0 < id → ((scope : Scope) → IsExact (content scope) Is) → ((x : A) → IsTail scope (suc id) (next x) (Next x))
    → (bytes mid after : List ℕ) (x : A) (m : M) (k : ℕ) → AreCustoms k bytes mid → IsOptional id none Is mid x after → Next x after m → chain_at id none content next scope bytes ≡ Ok m
complete_case {A} id none content Is next Next scope pos exact tails bytes mid after x m k customs (inl left) rest =
    let read : next x after ≡ Ok m = (tails x).complete after m rest in
    let read' : next none mid ≡ Ok m = ap (λ (y : A). next y mid) (sym left.0) ∙ ap (next x) left.1 ∙ read in
    let s = (tails none).starts mid m read' in
    let front = skips_front k scope bytes mid s.0 customs s.1 in
    let none_there = optional_not id none content scope s.0 s.2 in
    let section = section_made id none content scope bytes s.0 front ∙ none_there in
    chain_made id none content next scope bytes (none, s.0) section ∙ sym ((tails none).same mid s.0 s.1) ∙ read'
complete_case {A} id none content Is next Next scope pos exact tails bytes mid after x m k customs (inr there) rest =
    let read : next x after ≡ Ok m = (tails x).complete after m rest in
    let above = behind_above id (IsSized Is) mid after x pos there in
    let front = skips k scope bytes mid customs above.1 in
    let section = section_made id none content scope bytes mid front ∙ optional_there id none content Is exact scope mid after x there in
    chain_made id none content next scope bytes (x, after) section ∙ read

starts_case : {A M : Type 0} (id : ℕ) (none : A) (Is : List ℕ → A → List ℕ → Type 0) (next : A → List ℕ → Result M ReadFault) (Next : A → List ℕ → M → Type 0) (scope : Scope) → 0 < id → ((x : A) → IsTail scope (suc id) (next x) (Next x))
    → (mid after : List ℕ) (x : A) (m : M) → customs_at scope mid ≡ Ok mid → IsOptional id none Is mid x after → next x after ≡ Ok m → IsAbove id mid
starts_case {A} id none Is next Next scope pos tails mid after x m again (inl left) read =
    let s = (tails x).starts after m read in
    let same : s.0 ≡ mid = ok_is s.0 mid (sym s.1 ∙ ap (customs_at scope) (sym left.1) ∙ again) in
    above_less id mid (subst (λ (l : List ℕ). IsAbove (suc id) l) same s.2)
starts_case {A} id none Is next Next scope pos tails mid after x m again (inr there) read = (behind_above id (IsSized Is) mid after x pos there).0

pub chain_tail : {A M : Type 0} (id : ℕ) (none : A) (content : Scope → List ℕ → Reading A) (Is : List ℕ → A → List ℕ → Type 0) (next : A → List ℕ → Result M ReadFault) (Next : A → List ℕ → M → Type 0) (scope : Scope) → 0 < id → ((scope : Scope) → IsExact (content scope) Is) → ((x : A) → IsTail scope (suc id) (next x) (Next x))
    → IsTail scope id (chain_at id none content next scope) (Chain id none Is Next)
chain_tail {A} {M} id none content Is next Next scope pos exact tails = record {
  sound = λ bytes m e.
      let a = bind_ok (section_at id none content scope bytes) (λ x. next x.0 x.1) m e in
      let p = section_parts id none content scope bytes a.0 a.1 in
      let s = skipped scope bytes p.0 p.1 in
      (a.0.0, a.0.1, (s.0.0, p.0, s.0.1, optional_sound id none content Is exact scope p.0 a.0.1 a.0.0 p.2), (tails a.0.0).sound a.0.1 m a.2);
  complete = λ bytes m h. complete_case id none content Is next Next scope pos exact tails bytes h.2.1 h.1 h.0 m h.2.0 h.2.2 h.2.3 h.3;
  same = λ bytes mid e.
      let one = section_made id none content scope bytes mid e in
      let two = section_made id none content scope mid mid (skips_again scope bytes mid e) in
      let go : Result (A × List ℕ) ReadFault → Result M ReadFault = λ r. r >>= λ x. next x.0 x.1 in
      ap go (one ∙ sym two);
  starts = λ bytes m e.
      let a = bind_ok (section_at id none content scope bytes) (λ x. next x.0 x.1) m e in
      let p = section_parts id none content scope bytes a.0 a.1 in
      let is = optional_sound id none content Is exact scope p.0 a.0.1 a.0.0 p.2 in
      (p.0, p.1, starts_case id none Is next Next scope pos tails p.0 a.0.1 a.0.0 m (skips_again scope bytes p.0 p.1) is a.2);
}
