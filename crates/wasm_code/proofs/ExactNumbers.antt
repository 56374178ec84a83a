-- Numbers and vectors are read exactly.
use Rattle.std.proofs.Common.{◌≡◌, ℕ, zero, suc, ◌+◌, ◌-◌, ◌*◌, ◌/◌, ◌≤◌, true, false, cond, ltb, List, [], ◌∷◌, length, Option, Some, None, Ok, Err, refl, sym, ap, subst, inl, inr}
use Rattle.std.proofs.lemmas.Bool.{cases_Bool, ltb-true, ltb-false, lt-ltb, le-ltb}
use Rattle.wasm_code.specs.declared.fault.ReadKind.TheVariants.{BadLeb, TooLarge}
use Rattle.wasm_code.specs.declared.fault.ReadFault.{ReadFault}
use Rattle.wasm_code.specs.declared.scope.Scope.{Scope}
use Rattle.wasm_code.specs.Grammar.{AreMany, IsUnsigned, last_signed, IsSigned, IsU32, IsS32, IsS64, IsVector}
use Rattle.wasm_code.specs.Reading.{Reading, ◌>>=◌, fault_at, short_of, ok_or, unsigned_at, signed_at, u32_at, s32_at, s64_at, count_at, many_at, vector_at}
use Rattle.wasm_code.specs.Exact.{IsExact}
use Rattle.wasm_code.proofs.Steps.{bind_ok, guard_ok, needs_ok, pair_is, ap2_pair, same_ok}

unsigned_sound : (bad short : ReadFault) (limit : ℕ) (bytes rest : List ℕ) (n : ℕ) → unsigned_at bad short limit bytes ≡ Ok (n, rest) → IsUnsigned limit bytes n rest
unfolding unsigned_at
unsigned_sound bad short limit [] rest n e = absurd cc
unsigned_sound bad short limit (b ∷ bytes) rest n e =
    elim (cases_Bool (ltb b 128)) [
      | inl low ↦
          let last = needs_ok (ltb b limit) bad (Ok (b, bytes)) (n, rest) (rw low at e) in
          let same = pair_is b n bytes rest last.1 in
          rw low (ltb-true b limit last.0, sym same.0, same.1)
      | inr high ↦
          let more = needs_ok (ltb 128 limit) bad (unsigned_at bad short (limit / 128) bytes >>= λ h. Ok (128 * h.0 + (b - 128), h.1)) (n, rest) (rw high at e) in
          let r = bind_ok (unsigned_at bad short (limit / 128) bytes) (λ h. Ok (128 * h.0 + (b - 128), h.1)) (n, rest) more.1 in
          let same = pair_is (128 * r.0.0 + (b - 128)) n r.0.1 rest r.2 in
          let inner = unsigned_sound bad short (limit / 128) bytes r.0.1 r.0.0 r.1 in
          rw high (ltb-true 128 limit more.0, (r.0.0, subst (λ (t : List ℕ). IsUnsigned (limit / 128) bytes r.0.0 t) same.1 inner, sym same.0))
    ]

unsigned_complete : (bad short : ReadFault) (limit : ℕ) (bytes rest : List ℕ) (n : ℕ) → IsUnsigned limit bytes n rest → unsigned_at bad short limit bytes ≡ Ok (n, rest)
unfolding unsigned_at
unsigned_complete bad short limit [] rest n h = absurd h
unsigned_complete bad short limit (b ∷ bytes) rest n h =
    elim (cases_Bool (ltb b 128)) [
      | inl low ↦
          let parts = rw low at h in
          let fits : ltb b limit ≡ true = lt-ltb b limit parts.0 in
          rw (low, fits) (same_ok b n bytes rest (sym parts.1) parts.2)
      | inr high ↦
          let parts = rw high at h in
          let more : ltb 128 limit ≡ true = lt-ltb 128 limit parts.0 in
          let inner = unsigned_complete bad short (limit / 128) bytes rest parts.1.0 parts.1.1 in
          rw (high, more, inner) (same_ok (128 * parts.1.0 + (b - 128)) n rest rest (sym parts.1.2) refl)
    ]

pub ok_or_is : {A : Type 0} (bad : ReadFault) (o : Option A) (rest r : List ℕ) (x : A) → ok_or bad o rest ≡ Ok (x, r) → (o ≡ Some x) × (rest ≡ r)
ok_or_is {A} bad None rest r x e = absurd cc
ok_or_is {A} bad (Some y) rest r x e =
    let same = pair_is y x rest r e in
    (ap (λ (z : A). Some z) same.0, same.1)

signed_sound : (bad short : ReadFault) (limit : ℕ) (bytes rest : List ℕ) (n : ℕ) → signed_at bad short limit bytes ≡ Ok (n, rest) → IsSigned limit bytes n rest
unfolding signed_at
signed_sound bad short limit [] rest n e = absurd cc
signed_sound bad short limit (b ∷ bytes) rest n e =
    elim (cases_Bool (ltb b 128)) [
      | inl low ↦
          let last = ok_or_is bad (last_signed limit b) bytes rest n (rw low at e) in
          rw low (last.0, last.1)
      | inr high ↦
          let more = needs_ok (ltb 128 limit) bad (signed_at bad short (limit / 128) bytes >>= λ h. Ok (128 * h.0 + (b - 128), h.1)) (n, rest) (rw high at e) in
          let r = bind_ok (signed_at bad short (limit / 128) bytes) (λ h. Ok (128 * h.0 + (b - 128), h.1)) (n, rest) more.1 in
          let same = pair_is (128 * r.0.0 + (b - 128)) n r.0.1 rest r.2 in
          let inner = signed_sound bad short (limit / 128) bytes r.0.1 r.0.0 r.1 in
          rw high (ltb-true 128 limit more.0, (r.0.0, subst (λ (t : List ℕ). IsSigned (limit / 128) bytes r.0.0 t) same.1 inner, sym same.0))
    ]

signed_complete : (bad short : ReadFault) (limit : ℕ) (bytes rest : List ℕ) (n : ℕ) → IsSigned limit bytes n rest → signed_at bad short limit bytes ≡ Ok (n, rest)
unfolding signed_at
signed_complete bad short limit [] rest n h = absurd h
signed_complete bad short limit (b ∷ bytes) rest n h =
    elim (cases_Bool (ltb b 128)) [
      | inl low ↦
          let parts = rw low at h in
          rw (low, parts.0) (same_ok n n bytes rest refl parts.1)
      | inr high ↦
          let parts = rw high at h in
          let more : ltb 128 limit ≡ true = lt-ltb 128 limit parts.0 in
          let inner = signed_complete bad short (limit / 128) bytes rest parts.1.0 parts.1.1 in
          rw (high, more, inner) (same_ok (128 * parts.1.0 + (b - 128)) n rest rest (sym parts.1.2) refl)
    ]

pub u32_exact : (scope : Scope) → IsExact (u32_at scope) IsU32
unfolding u32_at
u32_exact scope = record {
  sound = λ bytes rest x e. unsigned_sound (fault_at BadLeb scope bytes) (short_of scope) 4294967296 bytes rest x e;
  complete = λ bytes rest x h. unsigned_complete (fault_at BadLeb scope bytes) (short_of scope) 4294967296 bytes rest x h;
}

pub s32_exact : (scope : Scope) → IsExact (s32_at scope) IsS32
unfolding s32_at
s32_exact scope = record {
  sound = λ bytes rest x e. signed_sound (fault_at BadLeb scope bytes) (short_of scope) 4294967296 bytes rest x e;
  complete = λ bytes rest x h. signed_complete (fault_at BadLeb scope bytes) (short_of scope) 4294967296 bytes rest x h;
}

pub s64_exact : (scope : Scope) → IsExact (s64_at scope) IsS64
unfolding s64_at
s64_exact scope = record {
  sound = λ bytes rest x e. signed_sound (fault_at BadLeb scope bytes) (short_of scope) 18446744073709551616 bytes rest x e;
  complete = λ bytes rest x h. signed_complete (fault_at BadLeb scope bytes) (short_of scope) 18446744073709551616 bytes rest x h;
}

-- ---- vectors

-- a count within its limit
abbrev pub IsCount : ℕ → List ℕ → ℕ → List ℕ → Type 0
IsCount limit bytes n rest = (n ≤ limit) × IsU32 bytes n rest

pub count_exact : (limit : ℕ) (scope : Scope) → IsExact (count_at limit scope) (IsCount limit)
unfolding count_at
count_exact limit scope = record {
  sound = λ bytes rest x e.
      let r = bind_ok (u32_at scope bytes) (λ c. cond (ltb limit c.0) (Err (fault_at TooLarge scope bytes)) (Ok (c.0, c.1))) (x, rest) e in
      let g = guard_ok (ltb limit r.0.0) (fault_at TooLarge scope bytes) (Ok (r.0.0, r.0.1)) (x, rest) r.2 in
      let same = pair_is r.0.0 x r.0.1 rest g.1 in
      let is = (u32_exact scope).sound bytes r.0.1 r.0.0 r.1 in
      (subst (λ (k : ℕ). k ≤ limit) same.0 (ltb-false limit r.0.0 g.0), subst (λ (p : ℕ × List ℕ). IsU32 bytes p.0 p.1) (ap2_pair same.0 same.1) is);
  complete = λ bytes rest x h.
      let read = (u32_exact scope).complete bytes rest x h.1 in
      let fits : ltb limit x ≡ false = le-ltb limit x h.0 in
      rw (read, fits) refl;
}

pub many_sound : {A : Type 0} (read : List ℕ → Reading A) (Is : List ℕ → A → List ℕ → Type 0) → IsExact read Is → (n : ℕ) (bytes rest : List ℕ) (xs : List A) → many_at read n bytes ≡ Ok (xs, rest) → (length xs ≡ n) × AreMany Is bytes xs rest
unfolding many_at
many_sound {A} read Is exact zero bytes rest xs e =
    let same = pair_is [] xs bytes rest e in
    (ap (λ (ys : List A). length ys) (sym same.0), subst (λ (ys : List A). AreMany Is bytes ys rest) same.0 same.1)
many_sound {A} read Is exact (suc n) bytes rest xs e =
    let a = bind_ok (read bytes) (λ first. many_at read n first.1 >>= λ others. Ok (first.0 ∷ others.0, others.1)) (xs, rest) e in
    let b = bind_ok (many_at read n a.0.1) (λ others. Ok (a.0.0 ∷ others.0, others.1)) (xs, rest) a.2 in
    let same = pair_is (a.0.0 ∷ b.0.0) xs b.0.1 rest b.2 in
    let inner = many_sound read Is exact n a.0.1 b.0.1 b.0.0 b.1 in
    let first = exact.sound bytes a.0.1 a.0.0 a.1 in
    let made : (length (a.0.0 ∷ b.0.0) ≡ suc n) × AreMany Is bytes (a.0.0 ∷ b.0.0) b.0.1 = (ap suc inner.0, (a.0.1, first, inner.1)) in
    subst (λ (p : List A × List ℕ). (length p.0 ≡ suc n) × AreMany Is bytes p.0 p.1) (ap2_pair same.0 same.1) made

pub many_complete : {A : Type 0} (read : List ℕ → Reading A) (Is : List ℕ → A → List ℕ → Type 0) → IsExact read Is → (bytes rest : List ℕ) (xs : List A) → AreMany Is bytes xs rest → many_at read (length xs) bytes ≡ Ok (xs, rest)
unfolding many_at
many_complete {A} read Is exact bytes rest [] h = ap (λ (t : List ℕ). Ok ([], t)) h
many_complete {A} read Is exact bytes rest (x ∷ xs) h =
    let first = exact.complete bytes h.0 x h.1 in
    let others = many_complete read Is exact h.0 rest xs h.2 in
    rw (first, others) refl

pub vector_exact : {A : Type 0} (limit : ℕ) (read : Scope → List ℕ → Reading A) (Is : List ℕ → A → List ℕ → Type 0) → ((scope : Scope) → IsExact (read scope) Is) → (scope : Scope) → IsExact (vector_at limit read scope) (IsVector limit Is)
unfolding vector_at
vector_exact {A} limit read Is exact scope = record {
  sound = λ bytes rest xs e.
      let r = bind_ok (count_at limit scope bytes) (λ c. many_at (read scope) c.0 c.1) (xs, rest) e in
      let count = (count_exact limit scope).sound bytes r.0.1 r.0.0 r.1 in
      let items = many_sound (read scope) Is (exact scope) r.0.0 r.0.1 rest xs r.2 in
      (subst (λ (k : ℕ). k ≤ limit) (sym items.0) count.0, (r.0.1, subst (λ (k : ℕ). IsU32 bytes k r.0.1) (sym items.0) count.1, items.1));
  complete = λ bytes rest xs h.
      let count = (count_exact limit scope).complete bytes h.1.0 (length xs) (h.0, h.1.1) in
      let items = many_complete (read scope) Is (exact scope) h.1.0 rest xs h.1.2 in
      rw (count, items) refl;
}
