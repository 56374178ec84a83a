-- Vectors, choices by a byte, and instructions tell their first fault.
use Rattle.std.proofs.Common.{◌≡◌, ℕ, zero, suc, Bool, true, false, cond, eqb, ltb, List, [], ◌∷◌, ◌++◌, Option, Some, None, Ok, Err, refl, sym, ap, ◌∙◌, ◌⊎◌, inl, inr, append_assoc}
use Rattle.std.proofs.lemmas.Bool.{cases_Bool}
use Rattle.wasm_types.specs.declared.types.ValueType.TheVariants as kinds
use Rattle.wasm_types.specs.declared.values.Value.TheVariants as values
use Rattle.wasm_types.specs.declared.instructions.Instr.{Instr}
use Rattle.wasm_types.specs.declared.instructions.Instr.TheVariants.{Unreachable, Nop, Block, Loop, If, Else, End, Br, BrIf, BrTable, Return, Call, CallIndirect, Drop, Select, LocalGet, LocalSet, LocalTee, GlobalGet, GlobalSet, Load, Store, MemorySize, MemoryGrow, Const}
use Rattle.wasm_code.specs.declared.fault.ReadKind.{ReadKind}
use Rattle.wasm_code.specs.declared.fault.ReadKind.TheVariants.{TooLarge, BadForm}
use Rattle.wasm_code.specs.declared.fault.ReadFault.{ReadFault}
use Rattle.wasm_code.specs.declared.scope.Scope.{Scope}
use Rattle.wasm_code.specs.Decoding.{load_at, store_at, numeric_at, opcode_fault}
use Rattle.wasm_code.specs.Reading.{Reading, ◌>>=◌, fault_at, short_of, ok_or, unsigned_at, u32_at, s32_at, s64_at, count_at, many_at, vector_at}
use Rattle.wasm_code.specs.Instructions.{type_fault, result_at, zero_at, two_at, control_at, branch_at, variable_at, memory_at, number_at, instr_of, refusal, refused_or, instr_at}
use Rattle.wasm_code.proofs.Steps.{bind_ok, guard_ok, pair_is, same_ok}
use Rattle.wasm_code.specs.FirstFault.{IsNotMended, IsFirst, TellsFirst}
use Rattle.wasm_code.proofs.FirstSequences.{TakesFront, IsLocal, Reads, bind_err, both, done, mapped}
use Rattle.wasm_code.proofs.FirstNumbers.{u32_reads, s32_reads, s64_reads}

abbrev pub fails : {A : Type 0} → ReadFault → Reading A
fails f = Err f

abbrev pub gives : {A : Type 0} → A → List ℕ → Reading A
gives x rest = Ok (x, rest)

pub err_is : {A : Type 0} (d e : ReadFault) → fails {A = A} d ≡ fails e → d ≡ e
err_is d e h = cc

pub ok_not_err : {A P : Type 0} (x : A) (rest : List ℕ) (e : ReadFault) → gives x rest ≡ fails e → P
ok_not_err x rest e h = absurd cc

pub err_not_ok : {A P : Type 0} (x : A) (rest : List ℕ) (e : ReadFault) → fails e ≡ gives x rest → P
err_not_ok x rest e h = absurd cc

-- ---- counts and vectors

pub u32_nil : (s : Scope) → u32_at s [] ≡ Err (short_of s)
unfolding u32_at unsigned_at
u32_nil s = refl

count_nil : (limit : ℕ) (s : Scope) → count_at limit s [] ≡ Err (short_of s)
unfolding count_at
count_nil limit s = let n = u32_nil s in rw n refl

count_large : (limit : ℕ) (s : Scope) (bytes rest : List ℕ) (n : ℕ) → u32_at s bytes ≡ Ok (n, rest) → ltb limit n ≡ true → count_at limit s bytes ≡ Err (fault_at TooLarge s bytes)
unfolding count_at
count_large limit s bytes rest n e large = rw (e, large) refl

count_fits : (limit : ℕ) (s : Scope) (bytes rest : List ℕ) (n : ℕ) → u32_at s bytes ≡ Ok (n, rest) → ltb limit n ≡ false → count_at limit s bytes ≡ Ok (n, rest)
unfolding count_at
count_fits limit s bytes rest n e fits = rw (e, fits) refl

count_no_number : (limit : ℕ) (s : Scope) (bytes : List ℕ) (e : ReadFault) → u32_at s bytes ≡ Err e → count_at limit s bytes ≡ Err e
unfolding count_at
count_no_number limit s bytes e h = rw h refl

count_there : (limit : ℕ) (scope : Scope) (front tail : List ℕ) (fault : ReadFault)
    → (((tail ≡ []) × (fault ≡ short_of scope)) ⊎ ((kind : ReadKind) × (fault ≡ fault_at kind scope tail) × IsNotMended u32_at kind front tail))
    → (((tail ≡ []) × (fault ≡ short_of scope)) ⊎ ((kind : ReadKind) × (fault ≡ fault_at kind scope tail) × IsNotMended (count_at limit) kind front tail))
count_there limit scope front tail fault (inl cut) = inl cut
count_there limit scope front tail fault (inr told) = inr (told.0, told.1, λ s more. count_no_number limit s (front ++ (tail ++ more)) (fault_at told.0 s (tail ++ more)) (told.2 s more))

count_tells : (limit : ℕ) → TellsFirst (count_at limit)
unfolding count_at
count_tells limit scope bytes fault e =
    elim (bind_err (u32_at scope bytes) (λ c. cond (ltb limit c.0) (Err (fault_at TooLarge scope bytes)) (Ok (c.0, c.1))) fault e) [
      | inl number ↦
          (let f = u32_reads.tells scope bytes fault number in
          record { front = f.front; tail = f.tail; parts = f.parts; before = λ s. count_no_number limit s f.front (short_of s) (f.before s); there = count_there limit scope f.front f.tail fault f.there })
      | inr a ↦
          elim (cases_Bool (ltb limit a.0.0)) [
            | inl large ↦
                (let t = u32_reads.takes scope bytes a.0.1 a.0.0 a.1 in
                record {
                  front = [];
                  tail = bytes;
                  parts = refl;
                  before = λ s. count_nil limit s;
                  there = inr (
                    TooLarge,
                    sym (err_is (fault_at TooLarge scope bytes) fault (rw large at a.2)),
                    λ s more.
                        (let whole : t.0 ++ (a.0.1 ++ more) ≡ bytes ++ more = sym (append_assoc t.0 a.0.1 more) ∙ ap (λ (l : List ℕ). l ++ more) (sym t.1) in
                        count_large limit s (bytes ++ more) (a.0.1 ++ more) a.0.0 (ap (u32_at s) (sym whole) ∙ t.2 s (a.0.1 ++ more)) large),
                  );
                })
            | inr fits ↦ ok_not_err a.0.0 a.0.1 fault (rw fits at a.2)
          ]
    ]

count_takes : (limit : ℕ) → IsLocal (count_at limit)
unfolding count_at
count_takes limit scope bytes rest n e =
    let a = bind_ok (u32_at scope bytes) (λ c. cond (ltb limit c.0) (Err (fault_at TooLarge scope bytes)) (Ok (c.0, c.1))) (n, rest) e in
    let g = guard_ok (ltb limit a.0.0) (fault_at TooLarge scope bytes) (Ok (a.0.0, a.0.1)) (n, rest) a.2 in
    let same = pair_is a.0.0 n a.0.1 rest g.1 in
    let t = u32_reads.takes scope bytes a.0.1 a.0.0 a.1 in
    (t.0, t.1 ∙ ap (λ (l : List ℕ). t.0 ++ l) same.1, λ s after. count_fits limit s (t.0 ++ after) after a.0.0 (t.2 s after) g.0 ∙ same_ok a.0.0 n after after same.0 refl)

pub count_reads : (limit : ℕ) → Reads (count_at limit)
count_reads limit = record { takes = count_takes limit; tells = count_tells limit }

many_reads : {A : Type 0} (read : Scope → List ℕ → Reading A) → Reads read → (n : ℕ) → Reads (λ s b. many_at (read s) n b)
unfolding many_at
many_reads read r zero = done []
many_reads read r (suc n) = both read (λ x s b. many_at (read s) n b >>= λ others. Ok (x ∷ others.0, others.1)) r (λ x. mapped (λ s b. many_at (read s) n b) (λ xs. x ∷ xs) (many_reads read r n))

pub vector_reads : {A : Type 0} (limit : ℕ) (read : Scope → List ℕ → Reading A) → Reads read → Reads (vector_at limit read)
unfolding vector_at
vector_reads limit read r = both (count_at limit) (λ n s b. many_at (read s) n b) (count_reads limit) (λ n. many_reads read r n)

-- ---- a choice by a byte

-- what a byte leads to: a fault at the byte, or a reading of what follows it
abbrev pub Row : {A : Type 0} → (Scope → List ℕ → Reading A) → ℕ → Type 0
Row h byte = ((kind : ReadKind) × ((s : Scope) (rest : List ℕ) → h s rest ≡ Err (fault_at kind s (byte ∷ rest)))) ⊎ Reads h

row_takes : {A : Type 0} (read : Scope → List ℕ → Reading A) (h : Scope → List ℕ → Reading A) (byte : ℕ) → ((s : Scope) (rest : List ℕ) → read s (byte ∷ rest) ≡ h s rest) → Row h byte → (scope : Scope) (bytes rest : List ℕ) (x : A) → read scope (byte ∷ bytes) ≡ Ok (x, rest) → TakesFront read (byte ∷ bytes) x rest
row_takes read h byte same (inl wrong) scope bytes rest x e = err_not_ok x rest (fault_at wrong.0 scope (byte ∷ bytes)) (sym (wrong.1 scope bytes) ∙ sym (same scope bytes) ∙ e)
row_takes read h byte same (inr r) scope bytes rest x e =
    let t = r.takes scope bytes rest x (sym (same scope bytes) ∙ e) in
    (byte ∷ t.0, ap (λ (l : List ℕ). byte ∷ l) t.1, λ s after. same s (t.0 ++ after) ∙ t.2 s after)

row_there : {A : Type 0} (read h : Scope → List ℕ → Reading A) (byte : ℕ) → ((s : Scope) (rest : List ℕ) → read s (byte ∷ rest) ≡ h s rest) → (scope : Scope) (front tail : List ℕ) (fault : ReadFault)
    → (((tail ≡ []) × (fault ≡ short_of scope)) ⊎ ((kind : ReadKind) × (fault ≡ fault_at kind scope tail) × IsNotMended h kind front tail))
    → (((tail ≡ []) × (fault ≡ short_of scope)) ⊎ ((kind : ReadKind) × (fault ≡ fault_at kind scope tail) × IsNotMended read kind (byte ∷ front) tail))
row_there read h byte same scope front tail fault (inl cut) = inl cut
row_there read h byte same scope front tail fault (inr told) = inr (told.0, told.1, λ s more. same s (front ++ (tail ++ more)) ∙ told.2 s more)

row_tells : {A : Type 0} (read h : Scope → List ℕ → Reading A) (byte : ℕ) → ((s : Scope) → read s [] ≡ Err (short_of s)) → ((s : Scope) (rest : List ℕ) → read s (byte ∷ rest) ≡ h s rest) → Row h byte → (scope : Scope) (bytes : List ℕ) (fault : ReadFault) → read scope (byte ∷ bytes) ≡ Err fault → IsFirst read scope (byte ∷ bytes) fault
row_tells read h byte nil same (inl wrong) scope bytes fault e = record {
  front = [];
  tail = byte ∷ bytes;
  parts = refl;
  before = nil;
  there = inr (wrong.0, sym (err_is (fault_at wrong.0 scope (byte ∷ bytes)) fault (sym (wrong.1 scope bytes) ∙ sym (same scope bytes) ∙ e)), λ s more. same s (bytes ++ more) ∙ wrong.1 s (bytes ++ more));
}
row_tells read h byte nil same (inr r) scope bytes fault e =
    let f = r.tells scope bytes fault (sym (same scope bytes) ∙ e) in
    record {
      front = byte ∷ f.front;
      tail = f.tail;
      parts = ap (λ (l : List ℕ). byte ∷ l) f.parts;
      before = λ s. same s f.front ∙ f.before s;
      there = row_there read h byte same scope f.front f.tail fault f.there;
    }

pub nil_tells : {A : Type 0} (read : Scope → List ℕ → Reading A) → ((s : Scope) → read s [] ≡ Err (short_of s)) → (scope : Scope) (fault : ReadFault) → read scope [] ≡ Err fault → IsFirst read scope [] fault
nil_tells read nil scope fault e = record { front = []; tail = []; parts = refl; before = nil; there = inl (refl, sym (err_is (short_of scope) fault (sym (nil scope) ∙ e))) }

byte_takes : {A : Type 0} (read : Scope → List ℕ → Reading A) (h : ℕ → Scope → List ℕ → Reading A) → ((s : Scope) → read s [] ≡ Err (short_of s)) → ((byte : ℕ) (s : Scope) (rest : List ℕ) → read s (byte ∷ rest) ≡ h byte s rest) → ((byte : ℕ) → Row (h byte) byte) → (scope : Scope) (bytes rest : List ℕ) (x : A) → read scope bytes ≡ Ok (x, rest) → TakesFront read bytes x rest
byte_takes read h nil same rows scope [] rest x e = err_not_ok x rest (short_of scope) (sym (nil scope) ∙ e)
byte_takes read h nil same rows scope (byte ∷ bytes) rest x e = row_takes read (h byte) byte (same byte) (rows byte) scope bytes rest x e

byte_tells : {A : Type 0} (read : Scope → List ℕ → Reading A) (h : ℕ → Scope → List ℕ → Reading A) → ((s : Scope) → read s [] ≡ Err (short_of s)) → ((byte : ℕ) (s : Scope) (rest : List ℕ) → read s (byte ∷ rest) ≡ h byte s rest) → ((byte : ℕ) → Row (h byte) byte) → (scope : Scope) (bytes : List ℕ) (fault : ReadFault) → read scope bytes ≡ Err fault → IsFirst read scope bytes fault
byte_tells read h nil same rows scope [] fault e = nil_tells read nil scope fault e
byte_tells read h nil same rows scope (byte ∷ bytes) fault e = row_tells read (h byte) byte nil (same byte) (rows byte) scope bytes fault e

pub by_byte : {A : Type 0} (read : Scope → List ℕ → Reading A) (h : ℕ → Scope → List ℕ → Reading A) → ((s : Scope) → read s [] ≡ Err (short_of s)) → ((byte : ℕ) (s : Scope) (rest : List ℕ) → read s (byte ∷ rest) ≡ h byte s rest) → ((byte : ℕ) → Row (h byte) byte) → Reads read
by_byte read h nil same rows = record { takes = λ scope bytes rest x e. byte_takes read h nil same rows scope bytes rest x e; tells = λ scope bytes fault e. byte_tells read h nil same rows scope bytes fault e }

pub row_if : {A : Type 0} (t : Bool) (h k : Scope → List ℕ → Reading A) (byte : ℕ) → Row h byte → Row k byte → Row (λ s rest. cond t (h s rest) (k s rest)) byte
row_if true h k byte p q = p
row_if false h k byte p q = q

-- ---- the parts of instructions

pub result_reads : Reads result_at
unfolding result_at
result_reads = by_byte result_at (λ byte s rest. result_at s (byte ∷ rest)) (λ s. refl) (λ byte s rest. refl) (λ byte.
    row_if (eqb byte 0x40) (λ s rest. Ok (None, rest)) (λ s rest. cond (eqb byte 0x7F) (Ok (Some kinds.I32, rest)) (cond (eqb byte 0x7E) (Ok (Some kinds.I64, rest)) (Err (fault_at (type_fault byte) s (byte ∷ rest))))) byte (inr (done None)) (
    row_if (eqb byte 0x7F) (λ s rest. Ok (Some kinds.I32, rest)) (λ s rest. cond (eqb byte 0x7E) (Ok (Some kinds.I64, rest)) (Err (fault_at (type_fault byte) s (byte ∷ rest)))) byte (inr (done (Some kinds.I32))) (
    row_if (eqb byte 0x7E) (λ s rest. Ok (Some kinds.I64, rest)) (λ s rest. Err (fault_at (type_fault byte) s (byte ∷ rest))) byte (inr (done (Some kinds.I64))) (inl (type_fault byte, λ s rest. refl)))))

pub zero_reads : Reads zero_at
unfolding zero_at
zero_reads = by_byte zero_at (λ byte s rest. zero_at s (byte ∷ rest)) (λ s. refl) (λ byte s rest. refl) (λ byte.
    row_if (eqb byte 0x00) (λ s rest. Ok (0, rest)) (λ s rest. Err (fault_at BadForm s (byte ∷ rest))) byte (inr (done 0)) (inl (BadForm, λ s rest. refl)))

pub two_reads : Reads two_at
unfolding two_at
two_reads = both u32_at (λ x s b. u32_at s b >>= λ y. Ok ((x, y.0), y.1)) u32_reads (λ x. mapped u32_at (λ y. (x, y)) u32_reads)

-- ---- each opcode

abbrev unknown : ℕ → Scope → List ℕ → ReadFault
unknown code s rest = fault_at (opcode_fault code) s (code ∷ rest)

control_row : (code : ℕ) → Row (λ s rest. control_at (unknown code s rest) s code rest) code
unfolding control_at
control_row code =
    row_if (eqb code 0x00) (λ s rest. Ok (Unreachable, rest)) (λ s rest. cond (eqb code 0x01) (Ok (Nop, rest)) (cond (eqb code 0x02) (result_at s rest >>= λ r. Ok (Block r.0, r.1)) (cond (eqb code 0x03) (result_at s rest >>= λ r. Ok (Loop r.0, r.1)) (cond (eqb code 0x04) (result_at s rest >>= λ r. Ok (If r.0, r.1)) (cond (eqb code 0x05) (Ok (Else, rest)) (cond (eqb code 0x0B) (Ok (End, rest)) (Err (unknown code s rest)))))))) code (inr (done Unreachable)) (
    row_if (eqb code 0x01) (λ s rest. Ok (Nop, rest)) (λ s rest. cond (eqb code 0x02) (result_at s rest >>= λ r. Ok (Block r.0, r.1)) (cond (eqb code 0x03) (result_at s rest >>= λ r. Ok (Loop r.0, r.1)) (cond (eqb code 0x04) (result_at s rest >>= λ r. Ok (If r.0, r.1)) (cond (eqb code 0x05) (Ok (Else, rest)) (cond (eqb code 0x0B) (Ok (End, rest)) (Err (unknown code s rest))))))) code (inr (done Nop)) (
    row_if (eqb code 0x02) (λ s rest. result_at s rest >>= λ r. Ok (Block r.0, r.1)) (λ s rest. cond (eqb code 0x03) (result_at s rest >>= λ r. Ok (Loop r.0, r.1)) (cond (eqb code 0x04) (result_at s rest >>= λ r. Ok (If r.0, r.1)) (cond (eqb code 0x05) (Ok (Else, rest)) (cond (eqb code 0x0B) (Ok (End, rest)) (Err (unknown code s rest)))))) code (inr (mapped result_at Block result_reads)) (
    row_if (eqb code 0x03) (λ s rest. result_at s rest >>= λ r. Ok (Loop r.0, r.1)) (λ s rest. cond (eqb code 0x04) (result_at s rest >>= λ r. Ok (If r.0, r.1)) (cond (eqb code 0x05) (Ok (Else, rest)) (cond (eqb code 0x0B) (Ok (End, rest)) (Err (unknown code s rest))))) code (inr (mapped result_at Loop result_reads)) (
    row_if (eqb code 0x04) (λ s rest. result_at s rest >>= λ r. Ok (If r.0, r.1)) (λ s rest. cond (eqb code 0x05) (Ok (Else, rest)) (cond (eqb code 0x0B) (Ok (End, rest)) (Err (unknown code s rest)))) code (inr (mapped result_at If result_reads)) (
    row_if (eqb code 0x05) (λ s rest. Ok (Else, rest)) (λ s rest. cond (eqb code 0x0B) (Ok (End, rest)) (Err (unknown code s rest))) code (inr (done Else)) (
    row_if (eqb code 0x0B) (λ s rest. Ok (End, rest)) (λ s rest. Err (unknown code s rest)) code (inr (done End)) (
    inl (opcode_fault code, λ s rest. refl))))))))

branch_row : (code : ℕ) → Row (λ s rest. branch_at (unknown code s rest) s code rest) code
unfolding branch_at
branch_row code =
    row_if (eqb code 0x0C) (λ s rest. u32_at s rest >>= λ n. Ok (Br n.0, n.1)) (λ s rest. cond (eqb code 0x0D) (u32_at s rest >>= λ n. Ok (BrIf n.0, n.1)) (cond (eqb code 0x0E) (vector_at 65536 u32_at s rest >>= λ labels. u32_at s labels.1 >>= λ other. Ok (BrTable labels.0 other.0, other.1)) (cond (eqb code 0x0F) (Ok (Return, rest)) (cond (eqb code 0x10) (u32_at s rest >>= λ n. Ok (Call n.0, n.1)) (cond (eqb code 0x11) (u32_at s rest >>= λ n. zero_at s n.1 >>= λ z. Ok (CallIndirect n.0, z.1)) (cond (eqb code 0x1A) (Ok (Drop, rest)) (cond (eqb code 0x1B) (Ok (Select, rest)) (Err (unknown code s rest))))))))) code (inr (mapped u32_at Br u32_reads)) (
    row_if (eqb code 0x0D) (λ s rest. u32_at s rest >>= λ n. Ok (BrIf n.0, n.1)) (λ s rest. cond (eqb code 0x0E) (vector_at 65536 u32_at s rest >>= λ labels. u32_at s labels.1 >>= λ other. Ok (BrTable labels.0 other.0, other.1)) (cond (eqb code 0x0F) (Ok (Return, rest)) (cond (eqb code 0x10) (u32_at s rest >>= λ n. Ok (Call n.0, n.1)) (cond (eqb code 0x11) (u32_at s rest >>= λ n. zero_at s n.1 >>= λ z. Ok (CallIndirect n.0, z.1)) (cond (eqb code 0x1A) (Ok (Drop, rest)) (cond (eqb code 0x1B) (Ok (Select, rest)) (Err (unknown code s rest)))))))) code (inr (mapped u32_at BrIf u32_reads)) (
    row_if (eqb code 0x0E) (λ s rest. vector_at 65536 u32_at s rest >>= λ labels. u32_at s labels.1 >>= λ other. Ok (BrTable labels.0 other.0, other.1)) (λ s rest. cond (eqb code 0x0F) (Ok (Return, rest)) (cond (eqb code 0x10) (u32_at s rest >>= λ n. Ok (Call n.0, n.1)) (cond (eqb code 0x11) (u32_at s rest >>= λ n. zero_at s n.1 >>= λ z. Ok (CallIndirect n.0, z.1)) (cond (eqb code 0x1A) (Ok (Drop, rest)) (cond (eqb code 0x1B) (Ok (Select, rest)) (Err (unknown code s rest))))))) code (inr (both (vector_at 65536 u32_at) (λ x s b. u32_at s b >>= λ y. Ok (BrTable x y.0, y.1)) (vector_reads 65536 u32_at u32_reads) (λ x. mapped u32_at (λ y. BrTable x y) u32_reads))) (
    row_if (eqb code 0x0F) (λ s rest. Ok (Return, rest)) (λ s rest. cond (eqb code 0x10) (u32_at s rest >>= λ n. Ok (Call n.0, n.1)) (cond (eqb code 0x11) (u32_at s rest >>= λ n. zero_at s n.1 >>= λ z. Ok (CallIndirect n.0, z.1)) (cond (eqb code 0x1A) (Ok (Drop, rest)) (cond (eqb code 0x1B) (Ok (Select, rest)) (Err (unknown code s rest)))))) code (inr (done Return)) (
    row_if (eqb code 0x10) (λ s rest. u32_at s rest >>= λ n. Ok (Call n.0, n.1)) (λ s rest. cond (eqb code 0x11) (u32_at s rest >>= λ n. zero_at s n.1 >>= λ z. Ok (CallIndirect n.0, z.1)) (cond (eqb code 0x1A) (Ok (Drop, rest)) (cond (eqb code 0x1B) (Ok (Select, rest)) (Err (unknown code s rest))))) code (inr (mapped u32_at Call u32_reads)) (
    row_if (eqb code 0x11) (λ s rest. u32_at s rest >>= λ n. zero_at s n.1 >>= λ z. Ok (CallIndirect n.0, z.1)) (λ s rest. cond (eqb code 0x1A) (Ok (Drop, rest)) (cond (eqb code 0x1B) (Ok (Select, rest)) (Err (unknown code s rest)))) code (inr (both u32_at (λ x s b. zero_at s b >>= λ z. Ok (CallIndirect x, z.1)) u32_reads (λ x. mapped zero_at (λ z. CallIndirect x) zero_reads))) (
    row_if (eqb code 0x1A) (λ s rest. Ok (Drop, rest)) (λ s rest. cond (eqb code 0x1B) (Ok (Select, rest)) (Err (unknown code s rest))) code (inr (done Drop)) (
    row_if (eqb code 0x1B) (λ s rest. Ok (Select, rest)) (λ s rest. Err (unknown code s rest)) code (inr (done Select)) (
    inl (opcode_fault code, λ s rest. refl)))))))))

variable_row : (code : ℕ) → Row (λ s rest. variable_at (unknown code s rest) s code rest) code
unfolding variable_at
variable_row code =
    row_if (eqb code 0x20) (λ s rest. u32_at s rest >>= λ n. Ok (LocalGet n.0, n.1)) (λ s rest. cond (eqb code 0x21) (u32_at s rest >>= λ n. Ok (LocalSet n.0, n.1)) (cond (eqb code 0x22) (u32_at s rest >>= λ n. Ok (LocalTee n.0, n.1)) (cond (eqb code 0x23) (u32_at s rest >>= λ n. Ok (GlobalGet n.0, n.1)) (cond (eqb code 0x24) (u32_at s rest >>= λ n. Ok (GlobalSet n.0, n.1)) (Err (unknown code s rest)))))) code (inr (mapped u32_at LocalGet u32_reads)) (
    row_if (eqb code 0x21) (λ s rest. u32_at s rest >>= λ n. Ok (LocalSet n.0, n.1)) (λ s rest. cond (eqb code 0x22) (u32_at s rest >>= λ n. Ok (LocalTee n.0, n.1)) (cond (eqb code 0x23) (u32_at s rest >>= λ n. Ok (GlobalGet n.0, n.1)) (cond (eqb code 0x24) (u32_at s rest >>= λ n. Ok (GlobalSet n.0, n.1)) (Err (unknown code s rest))))) code (inr (mapped u32_at LocalSet u32_reads)) (
    row_if (eqb code 0x22) (λ s rest. u32_at s rest >>= λ n. Ok (LocalTee n.0, n.1)) (λ s rest. cond (eqb code 0x23) (u32_at s rest >>= λ n. Ok (GlobalGet n.0, n.1)) (cond (eqb code 0x24) (u32_at s rest >>= λ n. Ok (GlobalSet n.0, n.1)) (Err (unknown code s rest)))) code (inr (mapped u32_at LocalTee u32_reads)) (
    row_if (eqb code 0x23) (λ s rest. u32_at s rest >>= λ n. Ok (GlobalGet n.0, n.1)) (λ s rest. cond (eqb code 0x24) (u32_at s rest >>= λ n. Ok (GlobalSet n.0, n.1)) (Err (unknown code s rest))) code (inr (mapped u32_at GlobalGet u32_reads)) (
    row_if (eqb code 0x24) (λ s rest. u32_at s rest >>= λ n. Ok (GlobalSet n.0, n.1)) (λ s rest. Err (unknown code s rest)) code (inr (mapped u32_at GlobalSet u32_reads)) (
    inl (opcode_fault code, λ s rest. refl))))))

access_row : {K : Type 0} (o : Option K) (make : K → ℕ → ℕ → Instr) (code : ℕ) → Row (λ s rest. ok_or (unknown code s rest) o rest >>= λ kind. two_at s kind.1 >>= λ n. Ok (make kind.0 n.0.0 n.0.1, n.1)) code
access_row None make code = inl (opcode_fault code, λ s rest. refl)
access_row (Some k) make code = inr (mapped two_at (λ n. make k n.0 n.1) two_reads)

numeric_row : (o : Option Instr) (code : ℕ) → Row (λ s rest. ok_or (unknown code s rest) o rest) code
numeric_row None code = inl (opcode_fault code, λ s rest. refl)
numeric_row (Some i) code = inr (done i)

memory_row : (code : ℕ) → Row (λ s rest. memory_at (unknown code s rest) s code rest) code
unfolding memory_at
memory_row code =
    row_if (eqb code 0x3F) (λ s rest. zero_at s rest >>= λ z. Ok (MemorySize, z.1)) (λ s rest. cond (eqb code 0x40) (zero_at s rest >>= λ z. Ok (MemoryGrow, z.1)) (cond (ltb code 0x36) (ok_or (unknown code s rest) (load_at code) rest >>= λ kind. two_at s kind.1 >>= λ n. Ok (Load kind.0 n.0.0 n.0.1, n.1)) (ok_or (unknown code s rest) (store_at code) rest >>= λ kind. two_at s kind.1 >>= λ n. Ok (Store kind.0 n.0.0 n.0.1, n.1)))) code (inr (mapped zero_at (λ z. MemorySize) zero_reads)) (
    row_if (eqb code 0x40) (λ s rest. zero_at s rest >>= λ z. Ok (MemoryGrow, z.1)) (λ s rest. cond (ltb code 0x36) (ok_or (unknown code s rest) (load_at code) rest >>= λ kind. two_at s kind.1 >>= λ n. Ok (Load kind.0 n.0.0 n.0.1, n.1)) (ok_or (unknown code s rest) (store_at code) rest >>= λ kind. two_at s kind.1 >>= λ n. Ok (Store kind.0 n.0.0 n.0.1, n.1))) code (inr (mapped zero_at (λ z. MemoryGrow) zero_reads)) (
    row_if (ltb code 0x36) (λ s rest. ok_or (unknown code s rest) (load_at code) rest >>= λ kind. two_at s kind.1 >>= λ n. Ok (Load kind.0 n.0.0 n.0.1, n.1)) (λ s rest. ok_or (unknown code s rest) (store_at code) rest >>= λ kind. two_at s kind.1 >>= λ n. Ok (Store kind.0 n.0.0 n.0.1, n.1)) code (access_row (load_at code) (λ k x y. Load k x y) code) (
    access_row (store_at code) (λ k x y. Store k x y) code)))

number_row : (code : ℕ) → Row (λ s rest. number_at (unknown code s rest) s code rest) code
unfolding number_at
number_row code =
    row_if (eqb code 0x41) (λ s rest. s32_at s rest >>= λ n. Ok (Const (values.I32 n.0), n.1)) (λ s rest. cond (eqb code 0x42) (s64_at s rest >>= λ n. Ok (Const (values.I64 n.0), n.1)) (ok_or (unknown code s rest) (numeric_at code) rest)) code (inr (mapped s32_at (λ n. Const (values.I32 n)) s32_reads)) (
    row_if (eqb code 0x42) (λ s rest. s64_at s rest >>= λ n. Ok (Const (values.I64 n.0), n.1)) (λ s rest. ok_or (unknown code s rest) (numeric_at code) rest) code (inr (mapped s64_at (λ n. Const (values.I64 n)) s64_reads)) (
    numeric_row (numeric_at code) code))

instr_row : (code : ℕ) → Row (λ s rest. instr_of (unknown code s rest) s code rest) code
unfolding instr_of
instr_row code =
    row_if (ltb code 0x0C) (λ s rest. control_at (unknown code s rest) s code rest) (λ s rest. cond (ltb code 0x20) (branch_at (unknown code s rest) s code rest) (cond (ltb code 0x28) (variable_at (unknown code s rest) s code rest) (cond (ltb code 0x41) (memory_at (unknown code s rest) s code rest) (number_at (unknown code s rest) s code rest)))) code (control_row code) (
    row_if (ltb code 0x20) (λ s rest. branch_at (unknown code s rest) s code rest) (λ s rest. cond (ltb code 0x28) (variable_at (unknown code s rest) s code rest) (cond (ltb code 0x41) (memory_at (unknown code s rest) s code rest) (number_at (unknown code s rest) s code rest))) code (branch_row code) (
    row_if (ltb code 0x28) (λ s rest. variable_at (unknown code s rest) s code rest) (λ s rest. cond (ltb code 0x41) (memory_at (unknown code s rest) s code rest) (number_at (unknown code s rest) s code rest)) code (variable_row code) (
    row_if (ltb code 0x41) (λ s rest. memory_at (unknown code s rest) s code rest) (λ s rest. number_at (unknown code s rest) s code rest) code (memory_row code) (
    number_row code))))

refused_row : (o : Option ReadKind) (code : ℕ) → Row (λ s rest. refused_or (unknown code s rest) o (instr_of (unknown code s rest) s code rest) s (code ∷ rest)) code
refused_row None code = instr_row code
refused_row (Some kind) code = inl (kind, λ s rest. refl)

pub instr_reads : (opens : List Bool) → Reads (instr_at opens)
unfolding instr_at
instr_reads opens = by_byte (instr_at opens) (λ code s rest. instr_at opens s (code ∷ rest)) (λ s. refl) (λ code s rest. refl) (λ code. refused_row (refusal opens code) code)

pub instr_nil : (opens : List Bool) (s : Scope) → instr_at opens s [] ≡ Err (short_of s)
unfolding instr_at
instr_nil opens s = refl
