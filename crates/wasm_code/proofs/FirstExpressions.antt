-- Expressions tell their first fault, and value types.
use Rattle.std.proofs.Common.{◌≡◌, ℕ, zero, suc, ◌-◌, ◌<◌, ◌≤◌, Bool, true, false, cond, eqb, List, [], ◌∷◌, ◌++◌, length, Ok, Err, refl, sym, ap, ◌∙◌, arith, ◌⊎◌, inl, inr, append_assoc}
use Rattle.std.proofs.lemmas.Bool.{cases_Bool}
use Rattle.std.proofs.lemmas.List.{length-append}
use Rattle.wasm_types.specs.declared.types.ValueType.TheVariants as kinds
use Rattle.wasm_types.specs.declared.instructions.Instr.{Instr}
use Rattle.wasm_types.specs.Nested.{role_of}
use Rattle.wasm_code.specs.declared.fault.ReadKind.{ReadKind}
use Rattle.wasm_code.specs.declared.fault.ReadFault.{ReadFault}
use Rattle.wasm_code.specs.declared.scope.Scope.{Scope}
use Rattle.wasm_code.specs.Reading.{Reading, ◌>>=◌, fault_at, short_of}
use Rattle.wasm_code.specs.Instructions.{type_fault, value_type_at, opens_after, is_last, instr_at, instrs_at, expression_at}
use Rattle.wasm_code.proofs.Steps.{bind_ok, pair_is, same_ok}
use Rattle.wasm_code.specs.FirstFault.{IsNotMended, IsFirst, TellsFirst}
use Rattle.wasm_code.proofs.FirstSequences.{TakesFront, IsLocal, Reads, bind_err, done}
use Rattle.wasm_code.proofs.FirstInstructions.{fails, err_is, err_not_ok, by_byte, row_if, nil_tells, instr_nil, instr_reads}

pub value_type_reads : Reads value_type_at
unfolding value_type_at
value_type_reads = by_byte value_type_at (λ byte s rest. value_type_at s (byte ∷ rest)) (λ s. refl) (λ byte s rest. refl) (λ byte.
    row_if (eqb byte 0x7F) (λ s rest. Ok (kinds.I32, rest)) (λ s rest. cond (eqb byte 0x7E) (Ok (kinds.I64, rest)) (Err (fault_at (type_fault byte) s (byte ∷ rest)))) byte (inr (done kinds.I32)) (
    row_if (eqb byte 0x7E) (λ s rest. Ok (kinds.I64, rest)) (λ s rest. Err (fault_at (type_fault byte) s (byte ∷ rest))) byte (inr (done kinds.I64)) (inl (type_fault byte, λ s rest. refl))))

-- ---- all instructions of an expression

shorter_by : (opens : List Bool) (scope : Scope) (bytes after : List ℕ) (i : Instr) (taken : List ℕ) → bytes ≡ taken ++ after → ((s : Scope) (rest : List ℕ) → instr_at opens s (taken ++ rest) ≡ Ok (i, rest)) → length after < length bytes
shorter_by opens scope bytes after i [] parts h = err_not_ok i [] (short_of scope) (sym (instr_nil opens scope) ∙ h scope [])
shorter_by opens scope bytes after i (b ∷ taken) parts h = let same = ap (λ (l : List ℕ). length l) parts in omega (arith, same, length-append taken after)

shorter : (opens : List Bool) (scope : Scope) (bytes after : List ℕ) (i : Instr) → instr_at opens scope bytes ≡ Ok (i, after) → length after < length bytes
shorter opens scope bytes after i e = let t = (instr_reads opens).takes scope bytes after i e in shorter_by opens scope bytes after i t.0 t.1 t.2

abbrev all_at : List Bool → Scope → List ℕ → Reading (List Instr)
all_at opens s b = instrs_at (length b) opens s b

result_cases : {A : Type 0} (r : Reading A) → ((x : A × List ℕ) × (r ≡ Ok x)) ⊎ ((e : ReadFault) × (r ≡ Err e))
result_cases (Ok x) = inl (x, refl)
result_cases (Err e) = inr (e, refl)

instrs_fail : (most : ℕ) (opens : List Bool) (s : Scope) (bytes : List ℕ) (e : ReadFault) → instr_at opens s bytes ≡ Err e → instrs_at (suc most) opens s bytes ≡ Err e
unfolding instrs_at
instrs_fail most opens s bytes e h = rw h refl

instrs_last : (most : ℕ) (opens : List Bool) (s : Scope) (bytes after : List ℕ) (i : Instr) → instr_at opens s bytes ≡ Ok (i, after) → is_last (role_of i) opens ≡ true → instrs_at (suc most) opens s bytes ≡ Ok (i ∷ [], after)
unfolding instrs_at
instrs_last most opens s bytes after i h last = rw (h, last) refl

instrs_go : (most : ℕ) (opens : List Bool) (s : Scope) (bytes after : List ℕ) (i : Instr) → instr_at opens s bytes ≡ Ok (i, after) → is_last (role_of i) opens ≡ false → instrs_at (suc most) opens s bytes ≡ (instrs_at most (opens_after (role_of i) opens) s after >>= λ others. Ok (i ∷ others.0, others.1))
unfolding instrs_at
instrs_go most opens s bytes after i h goes = rw (h, goes) refl

instrs_none : (opens : List Bool) (s : Scope) (bytes : List ℕ) → instrs_at 0 opens s bytes ≡ Err (short_of s)
unfolding instrs_at
instrs_none opens s bytes = refl

-- more turns than bytes make no difference
enough : (m n : ℕ) (opens : List Bool) (s : Scope) (bytes : List ℕ) → length bytes ≤ m → length bytes ≤ n → instrs_at m opens s bytes ≡ instrs_at n opens s bytes
enough zero zero opens s bytes p q = refl
enough zero (suc n) opens s [] p q = instrs_none opens s [] ∙ sym (instrs_fail n opens s [] (short_of s) (instr_nil opens s))
enough zero (suc n) opens s (b ∷ bytes) p q = absurd (omega (arith, p))
enough (suc m) zero opens s [] p q = instrs_fail m opens s [] (short_of s) (instr_nil opens s) ∙ sym (instrs_none opens s [])
enough (suc m) zero opens s (b ∷ bytes) p q = absurd (omega (arith, q))
enough (suc m) (suc n) opens s bytes p q =
    elim (result_cases (instr_at opens s bytes)) [
      | inl ok ↦
          elim (cases_Bool (is_last (role_of ok.0.0) opens)) [
            | inl last ↦ instrs_last m opens s bytes ok.0.1 ok.0.0 ok.1 last ∙ sym (instrs_last n opens s bytes ok.0.1 ok.0.0 ok.1 last)
            | inr goes ↦
                (let less = shorter opens s bytes ok.0.1 ok.0.0 ok.1 in
                let inner = enough m n (opens_after (role_of ok.0.0) opens) s ok.0.1 (omega (arith, less, p)) (omega (arith, less, q)) in
                let wrap : Reading (List Instr) → Reading (List Instr) = λ r. r >>= λ others. Ok (ok.0.0 ∷ others.0, others.1) in
                instrs_go m opens s bytes ok.0.1 ok.0.0 ok.1 goes ∙ ap wrap inner ∙ sym (instrs_go n opens s bytes ok.0.1 ok.0.0 ok.1 goes))
          ]
      | inr err ↦ instrs_fail m opens s bytes err.0 err.1 ∙ sym (instrs_fail n opens s bytes err.0 err.1)
    ]

all_fail : (opens : List Bool) (s : Scope) (bytes : List ℕ) (e : ReadFault) → instr_at opens s bytes ≡ Err e → all_at opens s bytes ≡ Err e
all_fail opens s [] e h = instrs_none opens s [] ∙ ap (λ (d : ReadFault). fails {A = List Instr} d) (err_is (short_of s) e (sym (instr_nil opens s) ∙ h))
all_fail opens s (b ∷ bytes) e h = instrs_fail (length bytes) opens s (b ∷ bytes) e h

all_go : (opens : List Bool) (s : Scope) (bytes after : List ℕ) (i : Instr) → instr_at opens s bytes ≡ Ok (i, after) → is_last (role_of i) opens ≡ false → all_at opens s bytes ≡ (all_at (opens_after (role_of i) opens) s after >>= λ others. Ok (i ∷ others.0, others.1))
all_go opens s bytes after i h goes =
    let less = shorter opens s bytes after i h in
    let most = length bytes - 1 in
    let k : length bytes ≡ suc most = omega (arith, less) in
    let inner = enough most (length after) (opens_after (role_of i) opens) s after (omega (arith, less)) (omega arith) in
    let wrap : Reading (List Instr) → Reading (List Instr) = λ r. r >>= λ others. Ok (i ∷ others.0, others.1) in
    ap (λ (n : ℕ). instrs_at n opens s bytes) k ∙ instrs_go most opens s bytes after i h goes ∙ ap wrap inner

all_there : (opens : List Bool) (scope : Scope) (front tail : List ℕ) (fault : ReadFault)
    → (((tail ≡ []) × (fault ≡ short_of scope)) ⊎ ((kind : ReadKind) × (fault ≡ fault_at kind scope tail) × IsNotMended (instr_at opens) kind front tail))
    → (((tail ≡ []) × (fault ≡ short_of scope)) ⊎ ((kind : ReadKind) × (fault ≡ fault_at kind scope tail) × IsNotMended (all_at opens) kind front tail))
all_there opens scope front tail fault (inl cut) = inl cut
all_there opens scope front tail fault (inr told) = inr (told.0, told.1, λ s more. all_fail opens s (front ++ (tail ++ more)) (fault_at told.0 s (tail ++ more)) (told.2 s more))

abbrev wrap_err : Instr → Reading (List Instr) → Reading (List Instr)
wrap_err i r = r >>= λ others. Ok (i ∷ others.0, others.1)

behind_err : (opens : List Bool) (i : Instr) (taken : List ℕ) → ((s : Scope) (after : List ℕ) → instr_at opens s (taken ++ after) ≡ Ok (i, after)) → is_last (role_of i) opens ≡ false → (s : Scope) (front : List ℕ) (e : ReadFault) → all_at (opens_after (role_of i) opens) s front ≡ Err e → all_at opens s (taken ++ front) ≡ Err e
behind_err opens i taken h goes s front e inner = all_go opens s (taken ++ front) front i (h s front) goes ∙ ap (wrap_err i) inner

behind_there : (opens : List Bool) (i : Instr) (taken : List ℕ) → ((s : Scope) (after : List ℕ) → instr_at opens s (taken ++ after) ≡ Ok (i, after)) → is_last (role_of i) opens ≡ false → (scope : Scope) (front tail : List ℕ) (fault : ReadFault)
    → (((tail ≡ []) × (fault ≡ short_of scope)) ⊎ ((kind : ReadKind) × (fault ≡ fault_at kind scope tail) × IsNotMended (all_at (opens_after (role_of i) opens)) kind front tail))
    → (((tail ≡ []) × (fault ≡ short_of scope)) ⊎ ((kind : ReadKind) × (fault ≡ fault_at kind scope tail) × IsNotMended (all_at opens) kind (taken ++ front) tail))
behind_there opens i taken h goes scope front tail fault (inl cut) = inl cut
behind_there opens i taken h goes scope front tail fault (inr told) = inr (told.0, told.1, λ s more. ap (all_at opens s) (append_assoc taken front (tail ++ more)) ∙ behind_err opens i taken h goes s (front ++ (tail ++ more)) (fault_at told.0 s (tail ++ more)) (told.2 s more))

list_not_err : {P : Type 0} (x : List Instr) (rest : List ℕ) (e : ReadFault) → (let r : Reading (List Instr) = Ok (x, rest) in r) ≡ Err e → P
list_not_err x rest e h = absurd cc

all_tell : (most : ℕ) (opens : List Bool) (scope : Scope) (bytes : List ℕ) (fault : ReadFault) → length bytes ≤ most → all_at opens scope bytes ≡ Err fault → IsFirst (all_at opens) scope bytes fault
all_tell most opens scope [] fault few e = nil_tells (all_at opens) (λ s. instrs_none opens s []) scope fault e
all_tell zero opens scope (b ∷ bytes) fault few e = absurd (omega (arith, few))
all_tell (suc most) opens scope (b ∷ bytes) fault few e =
    let whole = b ∷ bytes in
    elim (result_cases (instr_at opens scope whole)) [
      | inr err ↦
          (let same : err.0 ≡ fault = err_is err.0 fault (sym (all_fail opens scope whole err.0 err.1) ∙ e) in
          let f = (instr_reads opens).tells scope whole fault (err.1 ∙ ap (λ (d : ReadFault). fails {A = Instr} d) same) in
          record { front = f.front; tail = f.tail; parts = f.parts; before = λ s. all_fail opens s f.front (short_of s) (f.before s); there = all_there opens scope f.front f.tail fault f.there })
      | inl ok ↦
          elim (cases_Bool (is_last (role_of ok.0.0) opens)) [
            | inl last ↦ list_not_err (ok.0.0 ∷ []) ok.0.1 fault (sym (instrs_last (length bytes) opens scope whole ok.0.1 ok.0.0 ok.1 last) ∙ e)
            | inr goes ↦
                elim (bind_err (all_at (opens_after (role_of ok.0.0) opens) scope ok.0.1) (λ others. Ok (ok.0.0 ∷ others.0, others.1)) fault (sym (all_go opens scope whole ok.0.1 ok.0.0 ok.1 goes) ∙ e)) [
                  | inr there ↦ list_not_err (ok.0.0 ∷ there.0.0) there.0.1 fault there.2
                  | inl inner ↦
                      (let less = shorter opens scope whole ok.0.1 ok.0.0 ok.1 in
                      let t = (instr_reads opens).takes scope whole ok.0.1 ok.0.0 ok.1 in
                      let f = all_tell most (opens_after (role_of ok.0.0) opens) scope ok.0.1 fault (omega (arith, less, few)) inner in
                      record {
                        front = t.0 ++ f.front;
                        tail = f.tail;
                        parts = t.1 ∙ ap (λ (r : List ℕ). t.0 ++ r) f.parts ∙ sym (append_assoc t.0 f.front f.tail);
                        before = λ s. behind_err opens ok.0.0 t.0 t.2 goes s f.front (short_of s) (f.before s);
                        there = behind_there opens ok.0.0 t.0 t.2 goes scope f.front f.tail fault f.there;
                      })
                ]
          ]
    ]

pub expression_tells : TellsFirst expression_at
unfolding expression_at
expression_tells scope bytes fault e = all_tell (length bytes) [] scope bytes fault (omega arith) e

-- what an expression is read from reads the same whatever follows it
all_last : (opens : List Bool) (s : Scope) (bytes after : List ℕ) (i : Instr) → instr_at opens s bytes ≡ Ok (i, after) → is_last (role_of i) opens ≡ true → all_at opens s bytes ≡ Ok (i ∷ [], after)
all_last opens s bytes after i h last =
    let less = shorter opens s bytes after i h in
    let most = length bytes - 1 in
    let k : length bytes ≡ suc most = omega (arith, less) in
    ap (λ (n : ℕ). instrs_at n opens s bytes) k ∙ instrs_last most opens s bytes after i h last

all_take : (most : ℕ) (opens : List Bool) (scope : Scope) (bytes rest : List ℕ) (code : List Instr) → length bytes ≤ most → all_at opens scope bytes ≡ Ok (code, rest) → TakesFront (all_at opens) bytes code rest
all_take most opens scope [] rest code few e = err_not_ok code rest (short_of scope) (sym (instrs_none opens scope []) ∙ e)
all_take zero opens scope (b ∷ bytes) rest code few e = absurd (omega (arith, few))
all_take (suc most) opens scope (b ∷ bytes) rest code few e =
    let whole = b ∷ bytes in
    elim (result_cases (instr_at opens scope whole)) [
      | inr err ↦ err_not_ok code rest err.0 (sym (all_fail opens scope whole err.0 err.1) ∙ e)
      | inl ok ↦
          (let t = (instr_reads opens).takes scope whole ok.0.1 ok.0.0 ok.1 in
          elim (cases_Bool (is_last (role_of ok.0.0) opens)) [
            | inl last ↦
                (let same = pair_is (ok.0.0 ∷ []) code ok.0.1 rest (sym (all_last opens scope whole ok.0.1 ok.0.0 ok.1 last) ∙ e) in (
                  t.0,
                  t.1 ∙ ap (λ (r : List ℕ). t.0 ++ r) same.1,
                  λ s after. all_last opens s (t.0 ++ after) after ok.0.0 (t.2 s after) last ∙ same_ok (ok.0.0 ∷ []) code after after same.0 refl,
                ))
            | inr goes ↦
                (let a = bind_ok (all_at (opens_after (role_of ok.0.0) opens) scope ok.0.1) (λ others. Ok (ok.0.0 ∷ others.0, others.1)) (code, rest) (sym (all_go opens scope whole ok.0.1 ok.0.0 ok.1 goes) ∙ e) in
                let same = pair_is (ok.0.0 ∷ a.0.0) code a.0.1 rest a.2 in
                let less = shorter opens scope whole ok.0.1 ok.0.0 ok.1 in
                let u = all_take most (opens_after (role_of ok.0.0) opens) scope ok.0.1 a.0.1 a.0.0 (omega (arith, less, few)) a.1 in (
                  t.0 ++ u.0,
                  t.1 ∙ ap (λ (r : List ℕ). t.0 ++ r) (u.1 ∙ ap (λ (r : List ℕ). u.0 ++ r) same.1) ∙ sym (append_assoc t.0 u.0 rest),
                  λ s after.
                      ap (all_at opens s) (append_assoc t.0 u.0 after) ∙ all_go opens s (t.0 ++ (u.0 ++ after)) (u.0 ++ after) ok.0.0 (t.2 s (u.0 ++ after)) goes ∙ ap (wrap_err ok.0.0) (u.2 s after) ∙ same_ok (ok.0.0 ∷ a.0.0) code after after same.0 refl,
                ))
          ])
    ]

expression_takes : IsLocal expression_at
unfolding expression_at
expression_takes scope bytes rest code e = all_take (length bytes) [] scope bytes rest code (omega arith) e

pub expression_reads : Reads expression_at
expression_reads = record { takes = expression_takes; tells = expression_tells }
