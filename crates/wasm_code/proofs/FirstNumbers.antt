-- Numbers tell their first fault.
use Rattle.std.proofs.Common.{◌≡◌, ℕ, ◌+◌, ◌-◌, ◌/◌, ◌*◌, true, false, cond, ltb, List, [], ◌∷◌, ◌++◌, Option, Some, None, Ok, Err, refl, sym, ap, ◌∙◌, ◌⊎◌, inl, inr}
use Rattle.std.proofs.lemmas.Bool.{cases_Bool}
use Rattle.std.proofs.lemmas.List.{append-nil}
use Rattle.wasm_code.specs.declared.fault.ReadKind.TheVariants.{BadLeb}
use Rattle.wasm_code.specs.declared.fault.ReadFault.{ReadFault}
use Rattle.wasm_code.specs.Grammar.{last_signed}
use Rattle.wasm_code.specs.Reading.{Reading, ◌>>=◌, fault_at, short_of, ok_or, unsigned_at, signed_at, u32_at, s32_at, s64_at}
use Rattle.wasm_code.proofs.Steps.{bind_ok, needs_ok, pair_is, same_ok}
use Rattle.wasm_code.proofs.FirstSequences.{Reads, bind_err}

-- ---- numbers

abbrev NumberTakes : (ReadFault → ReadFault → List ℕ → Reading ℕ) → List ℕ → ℕ → List ℕ → Type 0
NumberTakes read bytes n rest = (taken : List ℕ) × (bytes ≡ taken ++ rest) × ((bad short : ReadFault) (after : List ℕ) → read bad short (taken ++ after) ≡ Ok (n, after))

abbrev pub NumberFails : (ReadFault → ReadFault → List ℕ → Reading ℕ) → List ℕ → ReadFault → ReadFault → ReadFault → Type 0
NumberFails read bytes bad short fault = ((fault ≡ bad) × ((b s : ReadFault) (more : List ℕ) → read b s (bytes ++ more) ≡ Err b)) ⊎ ((fault ≡ short) × ((b s : ReadFault) → read b s bytes ≡ Err s))

fails : ReadFault → Reading ℕ
fails f = Err f

err_is : (d e : ReadFault) → fails d ≡ fails e → e ≡ d
unfolding fails
err_is d e h = cc

ok_not_err : {P : Type 0} (n : ℕ) (rest : List ℕ) (e : ReadFault) → (let r : Reading ℕ = Ok (n, rest) in r) ≡ Err e → P
ok_not_err n rest e h = absurd cc

abbrev unsigned_more : ReadFault → ReadFault → ℕ → ℕ → List ℕ → Reading ℕ
unsigned_more bad short limit b bytes = unsigned_at bad short (limit / 128) bytes >>= λ high. Ok (128 * high.0 + (b - 128), high.1)

unsigned_again : (limit b : ℕ) → ltb b 128 ≡ false → ltb 128 limit ≡ true → (bytes after : List ℕ) (m : ℕ) (bad short : ReadFault) → unsigned_at bad short (limit / 128) bytes ≡ Ok (m, after) → unsigned_at bad short limit (b ∷ bytes) ≡ Ok (128 * m + (b - 128), after)
unfolding unsigned_at
unsigned_again limit b high more bytes after m bad short inner = rw (high, more, inner) refl

unsigned_high : (bad short : ReadFault) (limit b : ℕ) (bytes rest : List ℕ) (n : ℕ) → ltb b 128 ≡ false → cond (ltb 128 limit) (unsigned_more bad short limit b bytes) (Err bad) ≡ Ok (n, rest)
    → ((r : List ℕ) (m : ℕ) → unsigned_at bad short (limit / 128) bytes ≡ Ok (m, r) → NumberTakes (λ x s l. unsigned_at x s (limit / 128) l) bytes m r) → NumberTakes (λ x s l. unsigned_at x s limit l) (b ∷ bytes) n rest
unfolding unsigned_at
unsigned_high bad short limit b bytes rest n high e ih =
    let g = needs_ok (ltb 128 limit) bad (unsigned_more bad short limit b bytes) (n, rest) e in
    let a = bind_ok (unsigned_at bad short (limit / 128) bytes) (λ h. Ok (128 * h.0 + (b - 128), h.1)) (n, rest) g.1 in
    let same = pair_is (128 * a.0.0 + (b - 128)) n a.0.1 rest a.2 in
    let t = ih a.0.1 a.0.0 a.1 in (
      b ∷ t.0,
      ap (λ (l : List ℕ). b ∷ l) (t.1 ∙ ap (λ (l : List ℕ). t.0 ++ l) same.1),
      λ x s after.
          unsigned_again limit b high g.0 (t.0 ++ after) after a.0.0 x s (t.2 x s after) ∙ same_ok (128 * a.0.0 + (b - 128)) n after after same.0 refl,
    )

unsigned_high_fails : (bad short : ReadFault) (limit b : ℕ) (bytes : List ℕ) (fault : ReadFault) → ltb b 128 ≡ false → cond (ltb 128 limit) (unsigned_more bad short limit b bytes) (Err bad) ≡ Err fault
    → (unsigned_at bad short (limit / 128) bytes ≡ Err fault → NumberFails (λ x s l. unsigned_at x s (limit / 128) l) bytes bad short fault) → NumberFails (λ x s l. unsigned_at x s limit l) (b ∷ bytes) bad short fault
unfolding unsigned_at fails
unsigned_high_fails bad short limit b bytes fault high e ih =
    elim (cases_Bool (ltb 128 limit)) [
      | inl more ↦
          elim (bind_err (unsigned_at bad short (limit / 128) bytes) (λ h. Ok (128 * h.0 + (b - 128), h.1)) fault (rw more at e)) [
            | inl inner ↦
                elim (ih inner) [
                  | inl wrong ↦ inl (wrong.0, λ x s after. let i = wrong.1 x s after in rw (high, more, i) refl)
                  | inr cut ↦ inr (cut.0, λ x s. let i = cut.1 x s in rw (high, more, i) refl)
                ]
            | inr there ↦ ok_not_err (128 * there.0.0 + (b - 128)) there.0.1 fault there.2
          ]
      | inr none ↦ inl (err_is bad fault (rw none at e), λ x s after. rw (high, none) refl)
    ]

unsigned_low : (bad short : ReadFault) (limit b : ℕ) (bytes rest : List ℕ) (n : ℕ) → ltb b 128 ≡ true → (let r : Reading ℕ = cond (ltb b limit) (Ok (b, bytes)) (Err bad) in r) ≡ Ok (n, rest) → NumberTakes (λ x s l. unsigned_at x s limit l) (b ∷ bytes) n rest
unfolding unsigned_at
unsigned_low bad short limit b bytes rest n low e =
    let g = needs_ok (ltb b limit) bad (Ok (b, bytes)) (n, rest) e in
    let same = pair_is b n bytes rest g.1 in
    let fits = g.0 in
    (b ∷ [], ap (λ (l : List ℕ). b ∷ l) same.1, λ x s after. rw (low, fits) (same_ok b n after after same.0 refl))

unsigned_low_fails : (bad short : ReadFault) (limit b : ℕ) (bytes : List ℕ) (fault : ReadFault) → ltb b 128 ≡ true → (let r : Reading ℕ = cond (ltb b limit) (Ok (b, bytes)) (Err bad) in r) ≡ Err fault → NumberFails (λ x s l. unsigned_at x s limit l) (b ∷ bytes) bad short fault
unfolding unsigned_at fails
unsigned_low_fails bad short limit b bytes fault low e =
    elim (cases_Bool (ltb b limit)) [
      | inl fits ↦ ok_not_err b bytes fault (rw fits at e)
      | inr not ↦ inl (err_is bad fault (rw not at e), λ x s more. rw (low, not) refl)
    ]

unsigned_takes : (bad short : ReadFault) (limit : ℕ) (bytes rest : List ℕ) (n : ℕ) → unsigned_at bad short limit bytes ≡ Ok (n, rest) → NumberTakes (λ b s l. unsigned_at b s limit l) bytes n rest
unfolding unsigned_at
unsigned_takes bad short limit [] rest n e = absurd cc
unsigned_takes bad short limit (b ∷ bytes) rest n e =
    elim (cases_Bool (ltb b 128)) [
      | inl low ↦ unsigned_low bad short limit b bytes rest n low (rw low at e)
      | inr high ↦ unsigned_high bad short limit b bytes rest n high (rw high at e) (λ r m h. unsigned_takes bad short (limit / 128) bytes r m h)
    ]

pub unsigned_fails : (bad short : ReadFault) (limit : ℕ) (bytes : List ℕ) (fault : ReadFault) → unsigned_at bad short limit bytes ≡ Err fault → NumberFails (λ b s l. unsigned_at b s limit l) bytes bad short fault
unfolding unsigned_at fails
unsigned_fails bad short limit [] fault e = inr (err_is short fault e, λ b s. refl)
unsigned_fails bad short limit (b ∷ bytes) fault e =
    elim (cases_Bool (ltb b 128)) [
      | inl low ↦ unsigned_low_fails bad short limit b bytes fault low (rw low at e)
      | inr high ↦ unsigned_high_fails bad short limit b bytes fault high (rw high at e) (λ h. unsigned_fails bad short (limit / 128) bytes fault h)
    ]

abbrev signed_more : ReadFault → ReadFault → ℕ → ℕ → List ℕ → Reading ℕ
signed_more bad short limit b bytes = signed_at bad short (limit / 128) bytes >>= λ high. Ok (128 * high.0 + (b - 128), high.1)

signed_again : (limit b : ℕ) → ltb b 128 ≡ false → ltb 128 limit ≡ true → (bytes after : List ℕ) (m : ℕ) (bad short : ReadFault) → signed_at bad short (limit / 128) bytes ≡ Ok (m, after) → signed_at bad short limit (b ∷ bytes) ≡ Ok (128 * m + (b - 128), after)
unfolding signed_at
signed_again limit b high more bytes after m bad short inner = rw (high, more, inner) refl

signed_high : (bad short : ReadFault) (limit b : ℕ) (bytes rest : List ℕ) (n : ℕ) → ltb b 128 ≡ false → cond (ltb 128 limit) (signed_more bad short limit b bytes) (Err bad) ≡ Ok (n, rest)
    → ((r : List ℕ) (m : ℕ) → signed_at bad short (limit / 128) bytes ≡ Ok (m, r) → NumberTakes (λ x s l. signed_at x s (limit / 128) l) bytes m r) → NumberTakes (λ x s l. signed_at x s limit l) (b ∷ bytes) n rest
unfolding signed_at
signed_high bad short limit b bytes rest n high e ih =
    let g = needs_ok (ltb 128 limit) bad (signed_more bad short limit b bytes) (n, rest) e in
    let a = bind_ok (signed_at bad short (limit / 128) bytes) (λ h. Ok (128 * h.0 + (b - 128), h.1)) (n, rest) g.1 in
    let same = pair_is (128 * a.0.0 + (b - 128)) n a.0.1 rest a.2 in
    let t = ih a.0.1 a.0.0 a.1 in (
      b ∷ t.0,
      ap (λ (l : List ℕ). b ∷ l) (t.1 ∙ ap (λ (l : List ℕ). t.0 ++ l) same.1),
      λ x s after.
          signed_again limit b high g.0 (t.0 ++ after) after a.0.0 x s (t.2 x s after) ∙ same_ok (128 * a.0.0 + (b - 128)) n after after same.0 refl,
    )

signed_high_fails : (bad short : ReadFault) (limit b : ℕ) (bytes : List ℕ) (fault : ReadFault) → ltb b 128 ≡ false → cond (ltb 128 limit) (signed_more bad short limit b bytes) (Err bad) ≡ Err fault
    → (signed_at bad short (limit / 128) bytes ≡ Err fault → NumberFails (λ x s l. signed_at x s (limit / 128) l) bytes bad short fault) → NumberFails (λ x s l. signed_at x s limit l) (b ∷ bytes) bad short fault
unfolding signed_at fails
signed_high_fails bad short limit b bytes fault high e ih =
    elim (cases_Bool (ltb 128 limit)) [
      | inl more ↦
          elim (bind_err (signed_at bad short (limit / 128) bytes) (λ h. Ok (128 * h.0 + (b - 128), h.1)) fault (rw more at e)) [
            | inl inner ↦
                elim (ih inner) [
                  | inl wrong ↦ inl (wrong.0, λ x s after. let i = wrong.1 x s after in rw (high, more, i) refl)
                  | inr cut ↦ inr (cut.0, λ x s. let i = cut.1 x s in rw (high, more, i) refl)
                ]
            | inr there ↦ ok_not_err (128 * there.0.0 + (b - 128)) there.0.1 fault there.2
          ]
      | inr none ↦ inl (err_is bad fault (rw none at e), λ x s after. rw (high, none) refl)
    ]

signed_low : (bad short : ReadFault) (limit b : ℕ) (bytes rest : List ℕ) (n : ℕ) → ltb b 128 ≡ true → (o : Option ℕ) → last_signed limit b ≡ o → ok_or bad o bytes ≡ Ok (n, rest) → NumberTakes (λ x s l. signed_at x s limit l) (b ∷ bytes) n rest
unfolding signed_at
signed_low bad short limit b bytes rest n low None last e = absurd cc
signed_low bad short limit b bytes rest n low (Some m) last e =
    let same = pair_is m n bytes rest e in
    (b ∷ [], ap (λ (l : List ℕ). b ∷ l) same.1, λ x s after. rw (low, last) (same_ok m n after after same.0 refl))

signed_low_fails : (bad short : ReadFault) (limit b : ℕ) (bytes : List ℕ) (fault : ReadFault) → ltb b 128 ≡ true → (o : Option ℕ) → last_signed limit b ≡ o → ok_or bad o bytes ≡ Err fault → NumberFails (λ x s l. signed_at x s limit l) (b ∷ bytes) bad short fault
unfolding signed_at fails
signed_low_fails bad short limit b bytes fault low None last e = inl (err_is bad fault e, λ x s more. rw (low, last) refl)
signed_low_fails bad short limit b bytes fault low (Some m) last e = ok_not_err m bytes fault e

signed_takes : (bad short : ReadFault) (limit : ℕ) (bytes rest : List ℕ) (n : ℕ) → signed_at bad short limit bytes ≡ Ok (n, rest) → NumberTakes (λ b s l. signed_at b s limit l) bytes n rest
unfolding signed_at
signed_takes bad short limit [] rest n e = absurd cc
signed_takes bad short limit (b ∷ bytes) rest n e =
    elim (cases_Bool (ltb b 128)) [
      | inl low ↦ signed_low bad short limit b bytes rest n low (last_signed limit b) refl (rw low at e)
      | inr high ↦ signed_high bad short limit b bytes rest n high (rw high at e) (λ r m h. signed_takes bad short (limit / 128) bytes r m h)
    ]

signed_fails : (bad short : ReadFault) (limit : ℕ) (bytes : List ℕ) (fault : ReadFault) → signed_at bad short limit bytes ≡ Err fault → NumberFails (λ b s l. signed_at b s limit l) bytes bad short fault
unfolding signed_at fails
signed_fails bad short limit [] fault e = inr (err_is short fault e, λ b s. refl)
signed_fails bad short limit (b ∷ bytes) fault e =
    elim (cases_Bool (ltb b 128)) [
      | inl low ↦ signed_low_fails bad short limit b bytes fault low (last_signed limit b) refl (rw low at e)
      | inr high ↦ signed_high_fails bad short limit b bytes fault high (rw high at e) (λ h. signed_fails bad short (limit / 128) bytes fault h)
    ]

-- a number read in a scope
number_reads : (read : ReadFault → ReadFault → List ℕ → Reading ℕ) → ((b s : ReadFault) → read b s [] ≡ Err s)
    → ((bad short : ReadFault) (bytes rest : List ℕ) (n : ℕ) → read bad short bytes ≡ Ok (n, rest) → NumberTakes read bytes n rest)
    → ((bad short : ReadFault) (bytes : List ℕ) (fault : ReadFault) → read bad short bytes ≡ Err fault → NumberFails read bytes bad short fault)
    → Reads (λ s b. read (fault_at BadLeb s b) (short_of s) b)
number_reads read nil takes fail = record {
  takes = λ scope bytes rest n e.
      let t = takes (fault_at BadLeb scope bytes) (short_of scope) bytes rest n e in
      (t.0, t.1, λ s after. t.2 (fault_at BadLeb s (t.0 ++ after)) (short_of s) after);
  tells = λ scope bytes fault e.
      elim (fail (fault_at BadLeb scope bytes) (short_of scope) bytes fault e) [
        | inl wrong ↦ record { front = []; tail = bytes; parts = refl; before = λ s. nil (fault_at BadLeb s []) (short_of s); there = inr (BadLeb, wrong.0, λ s more. wrong.1 (fault_at BadLeb s (bytes ++ more)) (short_of s) more) }
        | inr cut ↦ record { front = bytes; tail = []; parts = sym (append-nil bytes); before = λ s. cut.1 (fault_at BadLeb s bytes) (short_of s); there = inl (refl, cut.0) }
      ];
}

pub u32_reads : Reads u32_at
unfolding u32_at unsigned_at
u32_reads = number_reads (λ b s l. unsigned_at b s 4294967296 l) (λ b s. refl) (λ bad short bytes rest n e. unsigned_takes bad short 4294967296 bytes rest n e) (λ bad short bytes fault e. unsigned_fails bad short 4294967296 bytes fault e)

pub s32_reads : Reads s32_at
unfolding s32_at signed_at
s32_reads = number_reads (λ b s l. signed_at b s 4294967296 l) (λ b s. refl) (λ bad short bytes rest n e. signed_takes bad short 4294967296 bytes rest n e) (λ bad short bytes fault e. signed_fails bad short 4294967296 bytes fault e)

pub s64_reads : Reads s64_at
unfolding s64_at signed_at
s64_reads = number_reads (λ b s l. signed_at b s 18446744073709551616 l) (λ b s. refl) (λ bad short bytes rest n e. signed_takes bad short 18446744073709551616 bytes rest n e) (λ bad short bytes fault e. signed_fails bad short 18446744073709551616 bytes fault e)
