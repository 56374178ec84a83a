-- Expressions are read exactly.
use Rattle.std.proofs.Common.{◌≡◌, ℕ, zero, suc, ◌+◌, ◌/◌, ◌<◌, ◌≤◌, Bool, cond, ltb, List, [], ◌∷◌, length, Option, Some, None, Ok, refl, sym, ap, subst, ◌∙◌, arith, inl, inr}
use Rattle.std.proofs.lemmas.Bool.{cases_Bool}
use Rattle.wasm_types.specs.declared.types.ValueType.TheVariants as kinds
use Rattle.wasm_types.specs.declared.values.Value.TheVariants as values
use Rattle.wasm_types.specs.declared.instructions.Instr.{Instr}
use Rattle.wasm_types.specs.declared.instructions.Instr.TheVariants.{Block, Loop, If, Br, BrIf, BrTable, Call, CallIndirect, LocalGet, LocalSet, LocalTee, GlobalGet, GlobalSet, Load, Store, MemorySize, MemoryGrow, Const}
use Rattle.wasm_types.specs.Nested.{role_of}
use Rattle.wasm_code.specs.declared.fault.ReadKind.{ReadKind}
use Rattle.wasm_code.specs.declared.fault.ReadFault.{ReadFault}
use Rattle.wasm_code.specs.declared.scope.Scope.{Scope}
use Rattle.wasm_code.specs.Opcodes.{opcode_of}
use Rattle.wasm_code.specs.Grammar.{AreMany, IsUnsigned, IsSigned, IsU32, IsResult, AreTwo, AreOperands, IsInstr, IsExpression}
use Rattle.wasm_code.specs.Decoding.{opcode_fault}
use Rattle.wasm_code.specs.Reading.{Reading, ◌>>=◌, fault_at}
use Rattle.wasm_code.specs.Instructions.{refusal, refused_or, opens_after, is_last, instr_of, instr_at, instrs_at, expression_at}
use Rattle.wasm_code.specs.Exact.{IsExact}
use Rattle.wasm_code.proofs.Steps.{bind_ok, pair_is, ap2_pair, same_ok}
use Rattle.wasm_code.proofs.ExactInstructions.{instr_sound, instr_complete}
use Rattle.wasm_code.proofs.Nesting.{refused, refusal_of, Scans, scans_nest, nest_scans}

-- ---- what is read takes bytes

pub unsigned_takes : (limit : ℕ) (bytes rest : List ℕ) (n : ℕ) → IsUnsigned limit bytes n rest → length rest < length bytes
unsigned_takes limit [] rest n h = absurd h
unsigned_takes limit (b ∷ bytes) rest n h =
    elim (cases_Bool (ltb b 128)) [
      | inl low ↦ (let parts = rw low at h in let same = ap (λ (t : List ℕ). length t) parts.2 in omega arith)
      | inr high ↦ (let parts = rw high at h in let inner = unsigned_takes (limit / 128) bytes rest parts.1.0 parts.1.1 in omega arith)
    ]

signed_takes : (limit : ℕ) (bytes rest : List ℕ) (n : ℕ) → IsSigned limit bytes n rest → length rest < length bytes
signed_takes limit [] rest n h = absurd h
signed_takes limit (b ∷ bytes) rest n h =
    elim (cases_Bool (ltb b 128)) [
      | inl low ↦ (let parts = rw low at h in let same = ap (λ (t : List ℕ). length t) parts.1 in omega arith)
      | inr high ↦ (let parts = rw high at h in let inner = signed_takes (limit / 128) bytes rest parts.1.0 parts.1.1 in omega arith)
    ]

pub many_take : {A : Type 0} (Is : List ℕ → A → List ℕ → Type 0) → ((bytes rest : List ℕ) (x : A) → Is bytes x rest → length rest < length bytes) → (bytes rest : List ℕ) (xs : List A) → AreMany Is bytes xs rest → length xs + length rest ≤ length bytes
many_take Is takes bytes rest [] h = let same = ap (λ (t : List ℕ). length t) h in omega arith
many_take Is takes bytes rest (x ∷ xs) h =
    let first = takes bytes h.0 x h.1 in
    let others = many_take Is takes h.0 rest xs h.2 in
    omega arith

pub u32_takes : (bytes rest : List ℕ) (n : ℕ) → IsU32 bytes n rest → length rest < length bytes
u32_takes bytes rest n h = unsigned_takes 4294967296 bytes rest n h

value_type_takes : (bytes rest : List ℕ) (r : Option _) → IsResult bytes r rest → length rest ≤ length bytes
value_type_takes bytes rest None h = let same = ap (λ (t : List ℕ). length t) h in omega arith
value_type_takes bytes rest (Some kinds.I32) h = let same = ap (λ (t : List ℕ). length t) h in omega arith
value_type_takes bytes rest (Some kinds.I64) h = let same = ap (λ (t : List ℕ). length t) h in omega arith

two_take : (bytes rest : List ℕ) (x y : ℕ) → AreTwo bytes x y rest → length rest ≤ length bytes
two_take bytes rest x y h = omega (arith, u32_takes bytes h.0 x h.1, u32_takes h.0 rest y h.2)

operands_take : (bytes rest : List ℕ) (i : Instr) → AreOperands bytes i rest → length rest ≤ length bytes
operands_take bytes rest (Block r) h = value_type_takes bytes rest r h
operands_take bytes rest (Loop r) h = value_type_takes bytes rest r h
operands_take bytes rest (If r) h = value_type_takes bytes rest r h
operands_take bytes rest (Br l) h = omega (arith, u32_takes bytes rest l h)
operands_take bytes rest (BrIf l) h = omega (arith, u32_takes bytes rest l h)
operands_take bytes rest (BrTable labels other) h = omega (arith, u32_takes bytes h.1.1.0 (length labels) h.1.1.1, many_take IsU32 u32_takes h.1.1.0 h.0 labels h.1.1.2, u32_takes h.0 rest other h.2)
operands_take bytes rest (Call f) h = omega (arith, u32_takes bytes rest f h)
operands_take bytes rest (CallIndirect k) h = omega (arith, u32_takes bytes (0x00 ∷ rest) k h)
operands_take bytes rest (LocalGet x) h = omega (arith, u32_takes bytes rest x h)
operands_take bytes rest (LocalSet x) h = omega (arith, u32_takes bytes rest x h)
operands_take bytes rest (LocalTee x) h = omega (arith, u32_takes bytes rest x h)
operands_take bytes rest (GlobalGet x) h = omega (arith, u32_takes bytes rest x h)
operands_take bytes rest (GlobalSet x) h = omega (arith, u32_takes bytes rest x h)
operands_take bytes rest (Load k x y) h = two_take bytes rest x y h
operands_take bytes rest (Store k x y) h = two_take bytes rest x y h
operands_take bytes rest MemorySize h = let same = ap (λ (t : List ℕ). length t) h in omega arith
operands_take bytes rest MemoryGrow h = let same = ap (λ (t : List ℕ). length t) h in omega arith
operands_take bytes rest (Const (values.I32 n)) h = omega (arith, signed_takes 4294967296 bytes rest n h)
operands_take bytes rest (Const (values.I64 n)) h = omega (arith, signed_takes 18446744073709551616 bytes rest n h)
operands_take bytes rest i h = let same = ap (λ (t : List ℕ). length t) h in omega arith

pub instr_takes : (bytes rest : List ℕ) (i : Instr) → IsInstr bytes i rest → length rest < length bytes
instr_takes bytes rest i h =
    let same = ap (λ (t : List ℕ). length t) h.1 in
    let operands = operands_take h.0 rest i h.2 in
    omega arith

-- ---- an instruction inside open blocks

refused_ok : (unknown : ReadFault) (o : Option ReadKind) (reading : Reading Instr) (scope : Scope) (bytes : List ℕ) (x : Instr × List ℕ) → refused_or unknown o reading scope bytes ≡ Ok x → (o ≡ None) × (reading ≡ Ok x)
refused_ok unknown None reading scope bytes x e = (refl, e)
refused_ok unknown (Some kind) reading scope bytes x e = absurd cc

next_sound : (opens : List Bool) (scope : Scope) (bytes rest : List ℕ) (i : Instr) → instr_at opens scope bytes ≡ Ok (i, rest) → IsInstr bytes i rest × (refused (role_of i) opens ≡ None)
unfolding instr_at
next_sound opens scope [] rest i e = absurd cc
next_sound opens scope (code ∷ bytes) rest i e =
    let unknown = fault_at (opcode_fault code) scope (code ∷ bytes) in
    let r = refused_ok unknown (refusal opens code) (instr_of unknown scope code bytes) scope (code ∷ bytes) (i, rest) e in
    let behind = instr_sound unknown scope code bytes rest i r.1 in
    ((bytes, ap (λ (k : ℕ). k ∷ bytes) behind.0, behind.1), sym (refusal_of opens i) ∙ ap (refusal opens) (sym behind.0) ∙ r.0)

next_complete : (opens : List Bool) (scope : Scope) (bytes rest : List ℕ) (i : Instr) → IsInstr bytes i rest → refused (role_of i) opens ≡ None → instr_at opens scope bytes ≡ Ok (i, rest)
unfolding instr_at
next_complete opens scope bytes rest i h allowed =
    let whole = opcode_of i ∷ h.0 in
    let unknown = fault_at (opcode_fault (opcode_of i)) scope whole in
    let free : refusal opens (opcode_of i) ≡ None = refusal_of opens i ∙ allowed in
    let read = instr_complete unknown scope h.0 rest i h.2 in
    let one : refused_or unknown (refusal opens (opcode_of i)) (instr_of unknown scope (opcode_of i) h.0) scope whole ≡ Ok (i, rest) = ap (λ (o : Option ReadKind). refused_or unknown o (instr_of unknown scope (opcode_of i) h.0) scope whole) free ∙ read in
    ap (instr_at opens scope) h.1 ∙ one

-- ---- all instructions

instrs_sound : (most : ℕ) (opens : List Bool) (scope : Scope) (bytes rest : List ℕ) (code : List Instr) → instrs_at most opens scope bytes ≡ Ok (code, rest) → AreMany IsInstr bytes code rest × Scans opens code
unfolding instrs_at
instrs_sound zero opens scope bytes rest code e = absurd cc
instrs_sound (suc most) opens scope bytes rest code e =
    let go : Instr × List ℕ → Reading (List Instr) = λ i. cond (is_last (role_of i.0) opens) (Ok (i.0 ∷ [], i.1)) (instrs_at most (opens_after (role_of i.0) opens) scope i.1 >>= λ others. Ok (i.0 ∷ others.0, others.1)) in
    let a = bind_ok (instr_at opens scope bytes) go (code, rest) e in
    let i = a.0.0 in
    let one = next_sound opens scope bytes a.0.1 i a.1 in
    elim (cases_Bool (is_last (role_of i) opens)) [
      | inl ended ↦
          let same = pair_is (i ∷ []) code a.0.1 rest (rw ended at a.2) in
          let made : AreMany IsInstr bytes (i ∷ []) a.0.1 × Scans opens (i ∷ []) = ((a.0.1, one.0, refl), (one.1, rw ended refl)) in
          subst (λ (p : List Instr × List ℕ). AreMany IsInstr bytes p.0 p.1 × Scans opens p.0) (ap2_pair same.0 same.1) made
      | inr goes ↦
          let more = rw goes at a.2 in
          let b = bind_ok (instrs_at most (opens_after (role_of i) opens) scope a.0.1) (λ others. Ok (i ∷ others.0, others.1)) (code, rest) more in
          let same = pair_is (i ∷ b.0.0) code b.0.1 rest b.2 in
          let inner = instrs_sound most (opens_after (role_of i) opens) scope a.0.1 b.0.1 b.0.0 b.1 in
          let made : AreMany IsInstr bytes (i ∷ b.0.0) b.0.1 × Scans opens (i ∷ b.0.0) = ((a.0.1, one.0, inner.0), (one.1, rw goes inner.1)) in
          subst (λ (p : List Instr × List ℕ). AreMany IsInstr bytes p.0 p.1 × Scans opens p.0) (ap2_pair same.0 same.1) made
    ]

instrs_complete : (most : ℕ) (opens : List Bool) (scope : Scope) (bytes rest : List ℕ) (code : List Instr) → length code ≤ most → AreMany IsInstr bytes code rest → Scans opens code → instrs_at most opens scope bytes ≡ Ok (code, rest)
unfolding instrs_at
instrs_complete most opens scope bytes rest [] few many scans = absurd scans
instrs_complete zero opens scope bytes rest (i ∷ code) few many scans = absurd (omega arith)
instrs_complete (suc most) opens scope bytes rest (i ∷ code) few many scans =
    let read = next_complete opens scope bytes many.0 i many.1 scans.0 in
    elim (cases_Bool (is_last (role_of i) opens)) [
      | inl ended ↦
          let nothing : code ≡ [] = rw ended at scans.1 in
          let past : many.0 ≡ rest = subst (λ (c : List Instr). AreMany IsInstr many.0 c rest) nothing many.2 in
          rw (read, ended) (same_ok (i ∷ []) (i ∷ code) many.0 rest (ap (λ (c : List Instr). i ∷ c) (sym nothing)) past)
      | inr goes ↦
          let scans' = rw goes at scans.1 in
          let inner = instrs_complete most (opens_after (role_of i) opens) scope many.0 rest code (omega arith) many.2 scans' in
          rw (read, goes, inner) refl
    ]

pub expression_exact : (scope : Scope) → IsExact (expression_at scope) IsExpression
unfolding expression_at
expression_exact scope = record {
  sound = λ bytes rest code e.
      let r = instrs_sound (length bytes) [] scope bytes rest code e in
      (r.0, scans_nest code r.1);
  complete = λ bytes rest code h.
      let few = many_take IsInstr instr_takes bytes rest code h.0 in
      instrs_complete (length bytes) [] scope bytes rest code (omega (arith, few)) h.0 (nest_scans code h.1);
}
