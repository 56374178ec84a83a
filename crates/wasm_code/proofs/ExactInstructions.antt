-- Instructions are read exactly: a line for each opcode in both directions.
use Rattle.std.proofs.Common.{◌≡◌, ℕ, ltb, List, [], ◌∷◌, Option, Some, None, Ok, Err, refl, sym, ap, subst}
use Rattle.wasm_types.specs.declared.instructions.Compare.TheVariants as compares
use Rattle.wasm_types.specs.declared.instructions.Unary.TheVariants as unaries
use Rattle.wasm_types.specs.declared.instructions.Binary.TheVariants as binaries
use Rattle.wasm_types.specs.declared.instructions.LoadKind.TheVariants as loads
use Rattle.wasm_types.specs.declared.instructions.StoreKind.TheVariants as stores
use Rattle.wasm_types.specs.declared.instructions.Convert.TheVariants as converts
use Rattle.wasm_types.specs.declared.instructions.Test.TheVariants as tests
use Rattle.wasm_types.specs.declared.values.Value.TheVariants as values
use Rattle.wasm_types.specs.declared.types.ValueType.{ValueType}
use Rattle.wasm_types.specs.declared.types.ValueType.TheVariants as kinds
use Rattle.wasm_types.specs.declared.instructions.Instr.{Instr}
use Rattle.wasm_types.specs.declared.instructions.Instr.TheVariants.{Unreachable, Nop, Block, Loop, If, Else, End, Br, BrIf, BrTable, Return, Call, CallIndirect, Drop, Select, LocalGet, LocalSet, LocalTee, GlobalGet, GlobalSet, Load, Store, MemorySize, MemoryGrow, Const, I32Test, I32Compare, I32Unary, I32Binary, I64Test, I64Compare, I64Unary, I64Binary}
use Rattle.wasm_types.specs.declared.instructions.Instr.TheVariants as instrs
use Rattle.wasm_code.specs.declared.fault.ReadKind.TheVariants.{BadForm}
use Rattle.wasm_code.specs.declared.fault.ReadFault.{ReadFault}
use Rattle.wasm_code.specs.declared.scope.Scope.{Scope}
use Rattle.wasm_code.specs.Opcodes.{opcode_of}
use Rattle.wasm_code.specs.Grammar.{IsU32, IsS32, IsS64, IsValueType, IsResult, AreTwo, AreOperands}
use Rattle.wasm_code.specs.Decoding.{load_at, store_at, numeric_at}
use Rattle.wasm_code.specs.Reading.{Reading, ◌>>=◌, fault_at, ok_or, u32_at, s32_at, s64_at, vector_at}
use Rattle.wasm_code.specs.Instructions.{type_fault, value_type_at, result_at, zero_at, two_at, control_at, branch_at, variable_at, memory_at, number_at, instr_of}
use Rattle.wasm_code.specs.Exact.{IsExact}
use Rattle.wasm_code.proofs.Steps.{bind_ok, pair_is, ap2_pair, choice, tested}
use Rattle.wasm_code.proofs.ExactNumbers.{ok_or_is, u32_exact, s32_exact, s64_exact, vector_exact}
use Rattle.wasm_code.proofs.Rows.{load_there, store_there, numeric_sound}

never : {A P : Type 0} (f : ReadFault) (x : A) (rest : List ℕ) → (let bad : Reading A = Err f in bad) ≡ Ok (x, rest) → P
never f x rest e = absurd cc

-- a value that stands for one byte
told : {A : Type 0} (Is : List ℕ → A → List ℕ → Type 0) (made x : A) (k : ℕ) (bytes rest : List ℕ) → Is (k ∷ bytes) made bytes → (let r : Reading A = Ok (made, bytes) in r) ≡ Ok (x, rest) → Is (k ∷ bytes) x rest
told {A} Is made x k bytes rest h e =
    let same = pair_is made x bytes rest e in
    subst (λ (p : A × List ℕ). Is (k ∷ bytes) p.0 p.1) (ap2_pair same.0 same.1) h

value_type_sound : (scope : Scope) (bytes rest : List ℕ) (x : ValueType) → value_type_at scope bytes ≡ Ok (x, rest) → IsValueType bytes x rest
unfolding value_type_at
value_type_sound scope [] rest x e = absurd cc
value_type_sound scope (b ∷ bytes) rest x e = (
    choice b 0x7F (Ok (kinds.I32, bytes)) _ (Ok (x, rest)) (λ k. IsValueType (k ∷ bytes) x rest) (told IsValueType kinds.I32 x 0x7F bytes rest refl) (
    choice b 0x7E (Ok (kinds.I64, bytes)) _ (Ok (x, rest)) (λ k. IsValueType (k ∷ bytes) x rest) (told IsValueType kinds.I64 x 0x7E bytes rest refl) (
    never (fault_at (type_fault b) scope (b ∷ bytes)) x rest))) e

value_type_complete : (scope : Scope) (bytes rest : List ℕ) (x : ValueType) → IsValueType bytes x rest → value_type_at scope bytes ≡ Ok (x, rest)
unfolding value_type_at
value_type_complete scope bytes rest kinds.I32 h = rw h refl
value_type_complete scope bytes rest kinds.I64 h = rw h refl

pub value_type_exact : (scope : Scope) → IsExact (value_type_at scope) IsValueType
value_type_exact scope = record { sound = λ bytes rest x e. value_type_sound scope bytes rest x e; complete = λ bytes rest x h. value_type_complete scope bytes rest x h }

result_sound : (scope : Scope) (bytes rest : List ℕ) (x : Option ValueType) → result_at scope bytes ≡ Ok (x, rest) → IsResult bytes x rest
unfolding result_at
result_sound scope [] rest x e = absurd cc
result_sound scope (b ∷ bytes) rest x e = (
    choice b 0x40 (Ok (None, bytes)) _ (Ok (x, rest)) (λ k. IsResult (k ∷ bytes) x rest) (told IsResult None x 0x40 bytes rest refl) (
    choice b 0x7F (Ok (Some kinds.I32, bytes)) _ (Ok (x, rest)) (λ k. IsResult (k ∷ bytes) x rest) (told IsResult (Some kinds.I32) x 0x7F bytes rest refl) (
    choice b 0x7E (Ok (Some kinds.I64, bytes)) _ (Ok (x, rest)) (λ k. IsResult (k ∷ bytes) x rest) (told IsResult (Some kinds.I64) x 0x7E bytes rest refl) (
    never (fault_at (type_fault b) scope (b ∷ bytes)) x rest)))) e

result_complete : (scope : Scope) (bytes rest : List ℕ) (x : Option ValueType) → IsResult bytes x rest → result_at scope bytes ≡ Ok (x, rest)
unfolding result_at
result_complete scope bytes rest None h = rw h refl
result_complete scope bytes rest (Some kinds.I32) h = rw h refl
result_complete scope bytes rest (Some kinds.I64) h = rw h refl

pub result_exact : (scope : Scope) → IsExact (result_at scope) IsResult
result_exact scope = record { sound = λ bytes rest x e. result_sound scope bytes rest x e; complete = λ bytes rest x h. result_complete scope bytes rest x h }

zero_sound : (scope : Scope) (bytes rest : List ℕ) (x : ℕ) → zero_at scope bytes ≡ Ok (x, rest) → bytes ≡ 0x00 ∷ rest
unfolding zero_at
zero_sound scope [] rest x e = absurd cc
zero_sound scope (b ∷ bytes) rest x e = (
    choice b 0x00 (Ok (0, bytes)) _ (Ok (x, rest)) (λ k. k ∷ bytes ≡ 0x00 ∷ rest) (λ e. ap (λ (t : List ℕ). 0x00 ∷ t) (pair_is 0 x bytes rest e).1) (
    never (fault_at BadForm scope (b ∷ bytes)) x rest)) e

zero_complete : (scope : Scope) (bytes rest : List ℕ) → bytes ≡ 0x00 ∷ rest → zero_at scope bytes ≡ Ok (0, rest)
unfolding zero_at
zero_complete scope bytes rest h = rw h refl

two_sound : (scope : Scope) (bytes rest : List ℕ) (x : ℕ × ℕ) → two_at scope bytes ≡ Ok (x, rest) → AreTwo bytes x.0 x.1 rest
unfolding two_at
two_sound scope bytes rest x e =
    let a = bind_ok (u32_at scope bytes) (λ first. u32_at scope first.1 >>= λ second. Ok ((first.0, second.0), second.1)) (x, rest) e in
    let b = bind_ok (u32_at scope a.0.1) (λ second. Ok ((a.0.0, second.0), second.1)) (x, rest) a.2 in
    let same = pair_is (a.0.0, b.0.0) x b.0.1 rest b.2 in
    subst (λ (p : (ℕ × ℕ) × List ℕ). AreTwo bytes p.0.0 p.0.1 p.1) (ap2_pair same.0 same.1) (a.0.1, (u32_exact scope).sound bytes a.0.1 a.0.0 a.1, (u32_exact scope).sound a.0.1 b.0.1 b.0.0 b.1)

two_complete : (scope : Scope) (bytes rest : List ℕ) (x y : ℕ) → AreTwo bytes x y rest → two_at scope bytes ≡ Ok ((x, y), rest)
unfolding two_at
two_complete scope bytes rest x y h =
    let first = (u32_exact scope).complete bytes h.0 x h.1 in
    let second = (u32_exact scope).complete h.0 rest y h.2 in
    rw (first, second) refl

-- ---- each opcode: what is read behind it is an instruction of this opcode

abbrev pub IsBehind : ℕ → List ℕ → Instr → List ℕ → Type 0
IsBehind code bytes i rest = (code ≡ opcode_of i) × AreOperands bytes i rest

plain : (made i : Instr) (bytes rest : List ℕ) → AreOperands bytes made bytes → (let r : Reading Instr = Ok (made, bytes) in r) ≡ Ok (i, rest) → IsBehind (opcode_of made) bytes i rest
plain made i bytes rest h e =
    let same = pair_is made i bytes rest e in
    subst (λ (p : Instr × List ℕ). IsBehind (opcode_of made) bytes p.0 p.1) (ap2_pair same.0 same.1) (refl, h)

wrapped : {A : Type 0} (read : List ℕ → Reading A) (Is : List ℕ → A → List ℕ → Type 0) (make : A → Instr) (code : ℕ) (i : Instr) (bytes rest : List ℕ) → IsExact read Is → ((x : A) (r : List ℕ) → Is bytes x r → IsBehind code bytes (make x) r)
    → (let r : Reading Instr = read bytes >>= λ x. Ok (make x.0, x.1) in r) ≡ Ok (i, rest) → IsBehind code bytes i rest
wrapped read Is make code i bytes rest exact h e =
    let a = bind_ok (read bytes) (λ x. Ok (make x.0, x.1)) (i, rest) e in
    let same = pair_is (make a.0.0) i a.0.1 rest a.2 in
    subst (λ (p : Instr × List ℕ). IsBehind code bytes p.0 p.1) (ap2_pair same.0 same.1) (h a.0.0 a.0.1 (exact.sound bytes a.0.1 a.0.0 a.1))

table_row : (scope : Scope) (i : Instr) (bytes rest : List ℕ) → (let r : Reading Instr = vector_at 65536 u32_at scope bytes >>= λ labels. u32_at scope labels.1 >>= λ other. Ok (BrTable labels.0 other.0, other.1) in r) ≡ Ok (i, rest) → IsBehind 0x0E bytes i rest
table_row scope i bytes rest e =
    let a = bind_ok (vector_at 65536 u32_at scope bytes) (λ labels. u32_at scope labels.1 >>= λ other. Ok (BrTable labels.0 other.0, other.1)) (i, rest) e in
    let b = bind_ok (u32_at scope a.0.1) (λ other. Ok (BrTable a.0.0 other.0, other.1)) (i, rest) a.2 in
    let same = pair_is (BrTable a.0.0 b.0.0) i b.0.1 rest b.2 in
    let labels = (vector_exact 65536 u32_at IsU32 u32_exact scope).sound bytes a.0.1 a.0.0 a.1 in
    subst (λ (p : Instr × List ℕ). IsBehind 0x0E bytes p.0 p.1) (ap2_pair same.0 same.1) (refl, (a.0.1, labels, (u32_exact scope).sound a.0.1 b.0.1 b.0.0 b.1))

indirect_row : (scope : Scope) (i : Instr) (bytes rest : List ℕ) → (let r : Reading Instr = u32_at scope bytes >>= λ n. zero_at scope n.1 >>= λ z. Ok (CallIndirect n.0, z.1) in r) ≡ Ok (i, rest) → IsBehind 0x11 bytes i rest
indirect_row scope i bytes rest e =
    let a = bind_ok (u32_at scope bytes) (λ n. zero_at scope n.1 >>= λ z. Ok (CallIndirect n.0, z.1)) (i, rest) e in
    let b = bind_ok (zero_at scope a.0.1) (λ z. Ok (CallIndirect a.0.0, z.1)) (i, rest) a.2 in
    let same = pair_is (CallIndirect a.0.0) i b.0.1 rest b.2 in
    let zero = zero_sound scope a.0.1 b.0.1 b.0.0 b.1 in
    subst (λ (p : Instr × List ℕ). IsBehind 0x11 bytes p.0 p.1) (ap2_pair same.0 same.1) (refl, subst (λ (t : List ℕ). IsU32 bytes a.0.0 t) zero ((u32_exact scope).sound bytes a.0.1 a.0.0 a.1))

size_row : (scope : Scope) (made i : Instr) (bytes rest : List ℕ) → ((r : List ℕ) → bytes ≡ 0x00 ∷ r → AreOperands bytes made r) → (let r : Reading Instr = zero_at scope bytes >>= λ z. Ok (made, z.1) in r) ≡ Ok (i, rest) → IsBehind (opcode_of made) bytes i rest
size_row scope made i bytes rest h e =
    let a = bind_ok (zero_at scope bytes) (λ z. Ok (made, z.1)) (i, rest) e in
    let same = pair_is made i a.0.1 rest a.2 in
    subst (λ (p : Instr × List ℕ). IsBehind (opcode_of made) bytes p.0 p.1) (ap2_pair same.0 same.1) (refl, h a.0.1 (zero_sound scope bytes a.0.1 a.0.0 a.1))

access_row : {K : Type 0} (scope : Scope) (unknown : ReadFault) (code : ℕ) (o : Option K) (make : K → ℕ → ℕ → Instr) (i : Instr) (bytes rest : List ℕ) → ((k : K) (x y : ℕ) (r : List ℕ) → o ≡ Some k → AreTwo bytes x y r → IsBehind code bytes (make k x y) r)
    → (let r : Reading Instr = ok_or unknown o bytes >>= λ kind. two_at scope kind.1 >>= λ n. Ok (make kind.0 n.0.0 n.0.1, n.1) in r) ≡ Ok (i, rest) → IsBehind code bytes i rest
access_row {K} scope unknown code o make i bytes rest h e =
    let a = bind_ok (ok_or unknown o bytes) (λ kind. two_at scope kind.1 >>= λ n. Ok (make kind.0 n.0.0 n.0.1, n.1)) (i, rest) e in
    let is = ok_or_is unknown o bytes a.0.1 a.0.0 a.1 in
    let b = bind_ok (two_at scope a.0.1) (λ n. Ok (make a.0.0 n.0.0 n.0.1, n.1)) (i, rest) a.2 in
    let same = pair_is (make a.0.0 b.0.0.0 b.0.0.1) i b.0.1 rest b.2 in
    let two = two_sound scope a.0.1 b.0.1 b.0.0 b.1 in
    subst (λ (p : Instr × List ℕ). IsBehind code bytes p.0 p.1) (ap2_pair same.0 same.1) (h a.0.0 b.0.0.0 b.0.0.1 b.0.1 is.0 (subst (λ (t : List ℕ). AreTwo t b.0.0.0 b.0.0.1 b.0.1) (sym is.1) two))

control_sound : (unknown : ReadFault) (scope : Scope) (code : ℕ) (bytes rest : List ℕ) (i : Instr) → control_at unknown scope code bytes ≡ Ok (i, rest) → IsBehind code bytes i rest
unfolding control_at
control_sound unknown scope code bytes rest i =
    choice {T = Reading Instr} code 0x00 (Ok (Unreachable, bytes)) _ (Ok (i, rest)) (λ k. IsBehind k bytes i rest) (plain Unreachable i bytes rest refl) (
    choice {T = Reading Instr} code 0x01 (Ok (Nop, bytes)) _ (Ok (i, rest)) (λ k. IsBehind k bytes i rest) (plain Nop i bytes rest refl) (
    choice {T = Reading Instr} code 0x02 (result_at scope bytes >>= λ r. Ok (Block r.0, r.1)) _ (Ok (i, rest)) (λ k. IsBehind k bytes i rest) (wrapped (result_at scope) IsResult Block 0x02 i bytes rest (result_exact scope) (λ x r h. (refl, h))) (
    choice {T = Reading Instr} code 0x03 (result_at scope bytes >>= λ r. Ok (Loop r.0, r.1)) _ (Ok (i, rest)) (λ k. IsBehind k bytes i rest) (wrapped (result_at scope) IsResult Loop 0x03 i bytes rest (result_exact scope) (λ x r h. (refl, h))) (
    choice {T = Reading Instr} code 0x04 (result_at scope bytes >>= λ r. Ok (If r.0, r.1)) _ (Ok (i, rest)) (λ k. IsBehind k bytes i rest) (wrapped (result_at scope) IsResult If 0x04 i bytes rest (result_exact scope) (λ x r h. (refl, h))) (
    choice {T = Reading Instr} code 0x05 (Ok (Else, bytes)) _ (Ok (i, rest)) (λ k. IsBehind k bytes i rest) (plain Else i bytes rest refl) (
    choice {T = Reading Instr} code 0x0B (Ok (End, bytes)) _ (Ok (i, rest)) (λ k. IsBehind k bytes i rest) (plain End i bytes rest refl) (
    never unknown i rest)))))))

branch_sound : (unknown : ReadFault) (scope : Scope) (code : ℕ) (bytes rest : List ℕ) (i : Instr) → branch_at unknown scope code bytes ≡ Ok (i, rest) → IsBehind code bytes i rest
unfolding branch_at
branch_sound unknown scope code bytes rest i =
    choice {T = Reading Instr} code 0x0C (u32_at scope bytes >>= λ n. Ok (Br n.0, n.1)) _ (Ok (i, rest)) (λ k. IsBehind k bytes i rest) (wrapped (u32_at scope) IsU32 Br 0x0C i bytes rest (u32_exact scope) (λ x r h. (refl, h))) (
    choice {T = Reading Instr} code 0x0D (u32_at scope bytes >>= λ n. Ok (BrIf n.0, n.1)) _ (Ok (i, rest)) (λ k. IsBehind k bytes i rest) (wrapped (u32_at scope) IsU32 BrIf 0x0D i bytes rest (u32_exact scope) (λ x r h. (refl, h))) (
    choice {T = Reading Instr} code 0x0E (vector_at 65536 u32_at scope bytes >>= λ labels. u32_at scope labels.1 >>= λ other. Ok (BrTable labels.0 other.0, other.1)) _ (Ok (i, rest)) (λ k. IsBehind k bytes i rest) (table_row scope i bytes rest) (
    choice {T = Reading Instr} code 0x0F (Ok (Return, bytes)) _ (Ok (i, rest)) (λ k. IsBehind k bytes i rest) (plain Return i bytes rest refl) (
    choice {T = Reading Instr} code 0x10 (u32_at scope bytes >>= λ n. Ok (Call n.0, n.1)) _ (Ok (i, rest)) (λ k. IsBehind k bytes i rest) (wrapped (u32_at scope) IsU32 Call 0x10 i bytes rest (u32_exact scope) (λ x r h. (refl, h))) (
    choice {T = Reading Instr} code 0x11 (u32_at scope bytes >>= λ n. zero_at scope n.1 >>= λ z. Ok (CallIndirect n.0, z.1)) _ (Ok (i, rest)) (λ k. IsBehind k bytes i rest) (indirect_row scope i bytes rest) (
    choice {T = Reading Instr} code 0x1A (Ok (Drop, bytes)) _ (Ok (i, rest)) (λ k. IsBehind k bytes i rest) (plain Drop i bytes rest refl) (
    choice {T = Reading Instr} code 0x1B (Ok (Select, bytes)) _ (Ok (i, rest)) (λ k. IsBehind k bytes i rest) (plain Select i bytes rest refl) (
    never unknown i rest))))))))

variable_sound : (unknown : ReadFault) (scope : Scope) (code : ℕ) (bytes rest : List ℕ) (i : Instr) → variable_at unknown scope code bytes ≡ Ok (i, rest) → IsBehind code bytes i rest
unfolding variable_at
variable_sound unknown scope code bytes rest i =
    choice {T = Reading Instr} code 0x20 (u32_at scope bytes >>= λ n. Ok (LocalGet n.0, n.1)) _ (Ok (i, rest)) (λ k. IsBehind k bytes i rest) (wrapped (u32_at scope) IsU32 LocalGet 0x20 i bytes rest (u32_exact scope) (λ x r h. (refl, h))) (
    choice {T = Reading Instr} code 0x21 (u32_at scope bytes >>= λ n. Ok (LocalSet n.0, n.1)) _ (Ok (i, rest)) (λ k. IsBehind k bytes i rest) (wrapped (u32_at scope) IsU32 LocalSet 0x21 i bytes rest (u32_exact scope) (λ x r h. (refl, h))) (
    choice {T = Reading Instr} code 0x22 (u32_at scope bytes >>= λ n. Ok (LocalTee n.0, n.1)) _ (Ok (i, rest)) (λ k. IsBehind k bytes i rest) (wrapped (u32_at scope) IsU32 LocalTee 0x22 i bytes rest (u32_exact scope) (λ x r h. (refl, h))) (
    choice {T = Reading Instr} code 0x23 (u32_at scope bytes >>= λ n. Ok (GlobalGet n.0, n.1)) _ (Ok (i, rest)) (λ k. IsBehind k bytes i rest) (wrapped (u32_at scope) IsU32 GlobalGet 0x23 i bytes rest (u32_exact scope) (λ x r h. (refl, h))) (
    choice {T = Reading Instr} code 0x24 (u32_at scope bytes >>= λ n. Ok (GlobalSet n.0, n.1)) _ (Ok (i, rest)) (λ k. IsBehind k bytes i rest) (wrapped (u32_at scope) IsU32 GlobalSet 0x24 i bytes rest (u32_exact scope) (λ x r h. (refl, h))) (
    never unknown i rest)))))

memory_sound : (unknown : ReadFault) (scope : Scope) (code : ℕ) (bytes rest : List ℕ) (i : Instr) → memory_at unknown scope code bytes ≡ Ok (i, rest) → IsBehind code bytes i rest
unfolding memory_at
memory_sound unknown scope code bytes rest i =
    choice {T = Reading Instr} code 0x3F (zero_at scope bytes >>= λ z. Ok (MemorySize, z.1)) _ (Ok (i, rest)) (λ k. IsBehind k bytes i rest) (size_row scope MemorySize i bytes rest (λ r h. h)) (
    choice {T = Reading Instr} code 0x40 (zero_at scope bytes >>= λ z. Ok (MemoryGrow, z.1)) _ (Ok (i, rest)) (λ k. IsBehind k bytes i rest) (size_row scope MemoryGrow i bytes rest (λ r h. h)) (
    tested (ltb code 0x36) _ _ (Ok (i, rest)) (IsBehind code bytes i rest)
    (λ t. access_row scope unknown code (load_at code) (λ k x y. Load k x y) i bytes rest (λ k x y r o h. (sym (load_there code k o), h)))
    (λ f. access_row scope unknown code (store_at code) (λ k x y. Store k x y) i bytes rest (λ k x y r o h. (sym (store_there code k o), h)))))

numeric_row : (unknown : ReadFault) (code : ℕ) (bytes rest : List ℕ) (i : Instr) → ok_or unknown (numeric_at code) bytes ≡ Ok (i, rest) → IsBehind code bytes i rest
numeric_row unknown code bytes rest i e =
    let is = ok_or_is unknown (numeric_at code) bytes rest i e in
    let sound = numeric_sound code i is.0 in
    (sym sound.0, subst (λ (t : List ℕ). AreOperands bytes i t) is.1 (sound.1 bytes))

number_sound : (unknown : ReadFault) (scope : Scope) (code : ℕ) (bytes rest : List ℕ) (i : Instr) → number_at unknown scope code bytes ≡ Ok (i, rest) → IsBehind code bytes i rest
unfolding number_at
number_sound unknown scope code bytes rest i =
    choice {T = Reading Instr} code 0x41 (s32_at scope bytes >>= λ n. Ok (Const (values.I32 n.0), n.1)) _ (Ok (i, rest)) (λ k. IsBehind k bytes i rest) (wrapped (s32_at scope) IsS32 (λ n. Const (values.I32 n)) 0x41 i bytes rest (s32_exact scope) (λ x r h. (refl, h))) (
    choice {T = Reading Instr} code 0x42 (s64_at scope bytes >>= λ n. Ok (Const (values.I64 n.0), n.1)) _ (Ok (i, rest)) (λ k. IsBehind k bytes i rest) (wrapped (s64_at scope) IsS64 (λ n. Const (values.I64 n)) 0x42 i bytes rest (s64_exact scope) (λ x r h. (refl, h))) (
    numeric_row unknown code bytes rest i))

pub instr_sound : (unknown : ReadFault) (scope : Scope) (code : ℕ) (bytes rest : List ℕ) (i : Instr) → instr_of unknown scope code bytes ≡ Ok (i, rest) → IsBehind code bytes i rest
unfolding instr_of
instr_sound unknown scope code bytes rest i =
    tested (ltb code 0x0C) _ _ (Ok (i, rest)) (IsBehind code bytes i rest) (λ t. control_sound unknown scope code bytes rest i) (λ f.
    tested (ltb code 0x20) _ _ (Ok (i, rest)) (IsBehind code bytes i rest) (λ t. branch_sound unknown scope code bytes rest i) (λ f.
    tested (ltb code 0x28) _ _ (Ok (i, rest)) (IsBehind code bytes i rest) (λ t. variable_sound unknown scope code bytes rest i) (λ f.
    tested (ltb code 0x41) _ _ (Ok (i, rest)) (IsBehind code bytes i rest) (λ t. memory_sound unknown scope code bytes rest i) (λ f.
    number_sound unknown scope code bytes rest i))))

-- ---- and each instruction is read from its opcode and operands

pub instr_complete : (unknown : ReadFault) (scope : Scope) (bytes rest : List ℕ) (i : Instr) → AreOperands bytes i rest → instr_of unknown scope (opcode_of i) bytes ≡ Ok (i, rest)
unfolding instr_of control_at branch_at variable_at memory_at number_at numeric_at
instr_complete unknown scope bytes rest Unreachable h = ap (λ (t : List ℕ). Ok (Unreachable, t)) h
instr_complete unknown scope bytes rest Nop h = ap (λ (t : List ℕ). Ok (Nop, t)) h
instr_complete unknown scope bytes rest (Block r) h = let r = (result_exact scope).complete bytes rest r h in rw r refl
instr_complete unknown scope bytes rest (Loop r) h = let r = (result_exact scope).complete bytes rest r h in rw r refl
instr_complete unknown scope bytes rest (If r) h = let r = (result_exact scope).complete bytes rest r h in rw r refl
instr_complete unknown scope bytes rest Else h = ap (λ (t : List ℕ). Ok (Else, t)) h
instr_complete unknown scope bytes rest End h = ap (λ (t : List ℕ). Ok (End, t)) h
instr_complete unknown scope bytes rest (Br l) h = let r = (u32_exact scope).complete bytes rest l h in rw r refl
instr_complete unknown scope bytes rest (BrIf l) h = let r = (u32_exact scope).complete bytes rest l h in rw r refl
instr_complete unknown scope bytes rest (BrTable labels other) h = let a = (vector_exact 65536 u32_at IsU32 u32_exact scope).complete bytes h.0 labels h.1 in let b = (u32_exact scope).complete h.0 rest other h.2 in rw (a, b) refl
instr_complete unknown scope bytes rest Return h = ap (λ (t : List ℕ). Ok (Return, t)) h
instr_complete unknown scope bytes rest (Call f) h = let r = (u32_exact scope).complete bytes rest f h in rw r refl
instr_complete unknown scope bytes rest (CallIndirect k) h = let a = (u32_exact scope).complete bytes (0x00 ∷ rest) k h in let b = zero_complete scope (0x00 ∷ rest) rest refl in rw (a, b) refl
instr_complete unknown scope bytes rest Drop h = ap (λ (t : List ℕ). Ok (Drop, t)) h
instr_complete unknown scope bytes rest Select h = ap (λ (t : List ℕ). Ok (Select, t)) h
instr_complete unknown scope bytes rest (LocalGet x) h = let r = (u32_exact scope).complete bytes rest x h in rw r refl
instr_complete unknown scope bytes rest (LocalSet x) h = let r = (u32_exact scope).complete bytes rest x h in rw r refl
instr_complete unknown scope bytes rest (LocalTee x) h = let r = (u32_exact scope).complete bytes rest x h in rw r refl
instr_complete unknown scope bytes rest (GlobalGet x) h = let r = (u32_exact scope).complete bytes rest x h in rw r refl
instr_complete unknown scope bytes rest (GlobalSet x) h = let r = (u32_exact scope).complete bytes rest x h in rw r refl
instr_complete unknown scope bytes rest (Load loads.I32 x y) h = let r = two_complete scope bytes rest x y h in rw r refl
instr_complete unknown scope bytes rest (Load loads.I64 x y) h = let r = two_complete scope bytes rest x y h in rw r refl
instr_complete unknown scope bytes rest (Load loads.I32From8S x y) h = let r = two_complete scope bytes rest x y h in rw r refl
instr_complete unknown scope bytes rest (Load loads.I32From8U x y) h = let r = two_complete scope bytes rest x y h in rw r refl
instr_complete unknown scope bytes rest (Load loads.I32From16S x y) h = let r = two_complete scope bytes rest x y h in rw r refl
instr_complete unknown scope bytes rest (Load loads.I32From16U x y) h = let r = two_complete scope bytes rest x y h in rw r refl
instr_complete unknown scope bytes rest (Load loads.I64From8S x y) h = let r = two_complete scope bytes rest x y h in rw r refl
instr_complete unknown scope bytes rest (Load loads.I64From8U x y) h = let r = two_complete scope bytes rest x y h in rw r refl
instr_complete unknown scope bytes rest (Load loads.I64From16S x y) h = let r = two_complete scope bytes rest x y h in rw r refl
instr_complete unknown scope bytes rest (Load loads.I64From16U x y) h = let r = two_complete scope bytes rest x y h in rw r refl
instr_complete unknown scope bytes rest (Load loads.I64From32S x y) h = let r = two_complete scope bytes rest x y h in rw r refl
instr_complete unknown scope bytes rest (Load loads.I64From32U x y) h = let r = two_complete scope bytes rest x y h in rw r refl
instr_complete unknown scope bytes rest (Store stores.I32 x y) h = let r = two_complete scope bytes rest x y h in rw r refl
instr_complete unknown scope bytes rest (Store stores.I64 x y) h = let r = two_complete scope bytes rest x y h in rw r refl
instr_complete unknown scope bytes rest (Store stores.I32To8 x y) h = let r = two_complete scope bytes rest x y h in rw r refl
instr_complete unknown scope bytes rest (Store stores.I32To16 x y) h = let r = two_complete scope bytes rest x y h in rw r refl
instr_complete unknown scope bytes rest (Store stores.I64To8 x y) h = let r = two_complete scope bytes rest x y h in rw r refl
instr_complete unknown scope bytes rest (Store stores.I64To16 x y) h = let r = two_complete scope bytes rest x y h in rw r refl
instr_complete unknown scope bytes rest (Store stores.I64To32 x y) h = let r = two_complete scope bytes rest x y h in rw r refl
instr_complete unknown scope bytes rest MemorySize h = let r = zero_complete scope bytes rest h in rw r refl
instr_complete unknown scope bytes rest MemoryGrow h = let r = zero_complete scope bytes rest h in rw r refl
instr_complete unknown scope bytes rest (Const (values.I32 n)) h = let r = (s32_exact scope).complete bytes rest n h in rw r refl
instr_complete unknown scope bytes rest (Const (values.I64 n)) h = let r = (s64_exact scope).complete bytes rest n h in rw r refl
instr_complete unknown scope bytes rest (I32Test tests.Eqz) h = ap (λ (t : List ℕ). Ok ((I32Test tests.Eqz), t)) h
instr_complete unknown scope bytes rest (I32Compare compares.Eq) h = ap (λ (t : List ℕ). Ok ((I32Compare compares.Eq), t)) h
instr_complete unknown scope bytes rest (I32Compare compares.Ne) h = ap (λ (t : List ℕ). Ok ((I32Compare compares.Ne), t)) h
instr_complete unknown scope bytes rest (I32Compare compares.LtS) h = ap (λ (t : List ℕ). Ok ((I32Compare compares.LtS), t)) h
instr_complete unknown scope bytes rest (I32Compare compares.LtU) h = ap (λ (t : List ℕ). Ok ((I32Compare compares.LtU), t)) h
instr_complete unknown scope bytes rest (I32Compare compares.GtS) h = ap (λ (t : List ℕ). Ok ((I32Compare compares.GtS), t)) h
instr_complete unknown scope bytes rest (I32Compare compares.GtU) h = ap (λ (t : List ℕ). Ok ((I32Compare compares.GtU), t)) h
instr_complete unknown scope bytes rest (I32Compare compares.LeS) h = ap (λ (t : List ℕ). Ok ((I32Compare compares.LeS), t)) h
instr_complete unknown scope bytes rest (I32Compare compares.LeU) h = ap (λ (t : List ℕ). Ok ((I32Compare compares.LeU), t)) h
instr_complete unknown scope bytes rest (I32Compare compares.GeS) h = ap (λ (t : List ℕ). Ok ((I32Compare compares.GeS), t)) h
instr_complete unknown scope bytes rest (I32Compare compares.GeU) h = ap (λ (t : List ℕ). Ok ((I32Compare compares.GeU), t)) h
instr_complete unknown scope bytes rest (I32Unary unaries.Clz) h = ap (λ (t : List ℕ). Ok ((I32Unary unaries.Clz), t)) h
instr_complete unknown scope bytes rest (I32Unary unaries.Ctz) h = ap (λ (t : List ℕ). Ok ((I32Unary unaries.Ctz), t)) h
instr_complete unknown scope bytes rest (I32Unary unaries.Popcnt) h = ap (λ (t : List ℕ). Ok ((I32Unary unaries.Popcnt), t)) h
instr_complete unknown scope bytes rest (I32Binary binaries.Add) h = ap (λ (t : List ℕ). Ok ((I32Binary binaries.Add), t)) h
instr_complete unknown scope bytes rest (I32Binary binaries.Sub) h = ap (λ (t : List ℕ). Ok ((I32Binary binaries.Sub), t)) h
instr_complete unknown scope bytes rest (I32Binary binaries.Mul) h = ap (λ (t : List ℕ). Ok ((I32Binary binaries.Mul), t)) h
instr_complete unknown scope bytes rest (I32Binary binaries.DivS) h = ap (λ (t : List ℕ). Ok ((I32Binary binaries.DivS), t)) h
instr_complete unknown scope bytes rest (I32Binary binaries.DivU) h = ap (λ (t : List ℕ). Ok ((I32Binary binaries.DivU), t)) h
instr_complete unknown scope bytes rest (I32Binary binaries.RemS) h = ap (λ (t : List ℕ). Ok ((I32Binary binaries.RemS), t)) h
instr_complete unknown scope bytes rest (I32Binary binaries.RemU) h = ap (λ (t : List ℕ). Ok ((I32Binary binaries.RemU), t)) h
instr_complete unknown scope bytes rest (I32Binary binaries.And) h = ap (λ (t : List ℕ). Ok ((I32Binary binaries.And), t)) h
instr_complete unknown scope bytes rest (I32Binary binaries.Or) h = ap (λ (t : List ℕ). Ok ((I32Binary binaries.Or), t)) h
instr_complete unknown scope bytes rest (I32Binary binaries.Xor) h = ap (λ (t : List ℕ). Ok ((I32Binary binaries.Xor), t)) h
instr_complete unknown scope bytes rest (I32Binary binaries.Shl) h = ap (λ (t : List ℕ). Ok ((I32Binary binaries.Shl), t)) h
instr_complete unknown scope bytes rest (I32Binary binaries.ShrS) h = ap (λ (t : List ℕ). Ok ((I32Binary binaries.ShrS), t)) h
instr_complete unknown scope bytes rest (I32Binary binaries.ShrU) h = ap (λ (t : List ℕ). Ok ((I32Binary binaries.ShrU), t)) h
instr_complete unknown scope bytes rest (I32Binary binaries.Rotl) h = ap (λ (t : List ℕ). Ok ((I32Binary binaries.Rotl), t)) h
instr_complete unknown scope bytes rest (I32Binary binaries.Rotr) h = ap (λ (t : List ℕ). Ok ((I32Binary binaries.Rotr), t)) h
instr_complete unknown scope bytes rest (I64Test tests.Eqz) h = ap (λ (t : List ℕ). Ok ((I64Test tests.Eqz), t)) h
instr_complete unknown scope bytes rest (I64Compare compares.Eq) h = ap (λ (t : List ℕ). Ok ((I64Compare compares.Eq), t)) h
instr_complete unknown scope bytes rest (I64Compare compares.Ne) h = ap (λ (t : List ℕ). Ok ((I64Compare compares.Ne), t)) h
instr_complete unknown scope bytes rest (I64Compare compares.LtS) h = ap (λ (t : List ℕ). Ok ((I64Compare compares.LtS), t)) h
instr_complete unknown scope bytes rest (I64Compare compares.LtU) h = ap (λ (t : List ℕ). Ok ((I64Compare compares.LtU), t)) h
instr_complete unknown scope bytes rest (I64Compare compares.GtS) h = ap (λ (t : List ℕ). Ok ((I64Compare compares.GtS), t)) h
instr_complete unknown scope bytes rest (I64Compare compares.GtU) h = ap (λ (t : List ℕ). Ok ((I64Compare compares.GtU), t)) h
instr_complete unknown scope bytes rest (I64Compare compares.LeS) h = ap (λ (t : List ℕ). Ok ((I64Compare compares.LeS), t)) h
instr_complete unknown scope bytes rest (I64Compare compares.LeU) h = ap (λ (t : List ℕ). Ok ((I64Compare compares.LeU), t)) h
instr_complete unknown scope bytes rest (I64Compare compares.GeS) h = ap (λ (t : List ℕ). Ok ((I64Compare compares.GeS), t)) h
instr_complete unknown scope bytes rest (I64Compare compares.GeU) h = ap (λ (t : List ℕ). Ok ((I64Compare compares.GeU), t)) h
instr_complete unknown scope bytes rest (I64Unary unaries.Clz) h = ap (λ (t : List ℕ). Ok ((I64Unary unaries.Clz), t)) h
instr_complete unknown scope bytes rest (I64Unary unaries.Ctz) h = ap (λ (t : List ℕ). Ok ((I64Unary unaries.Ctz), t)) h
instr_complete unknown scope bytes rest (I64Unary unaries.Popcnt) h = ap (λ (t : List ℕ). Ok ((I64Unary unaries.Popcnt), t)) h
instr_complete unknown scope bytes rest (I64Binary binaries.Add) h = ap (λ (t : List ℕ). Ok ((I64Binary binaries.Add), t)) h
instr_complete unknown scope bytes rest (I64Binary binaries.Sub) h = ap (λ (t : List ℕ). Ok ((I64Binary binaries.Sub), t)) h
instr_complete unknown scope bytes rest (I64Binary binaries.Mul) h = ap (λ (t : List ℕ). Ok ((I64Binary binaries.Mul), t)) h
instr_complete unknown scope bytes rest (I64Binary binaries.DivS) h = ap (λ (t : List ℕ). Ok ((I64Binary binaries.DivS), t)) h
instr_complete unknown scope bytes rest (I64Binary binaries.DivU) h = ap (λ (t : List ℕ). Ok ((I64Binary binaries.DivU), t)) h
instr_complete unknown scope bytes rest (I64Binary binaries.RemS) h = ap (λ (t : List ℕ). Ok ((I64Binary binaries.RemS), t)) h
instr_complete unknown scope bytes rest (I64Binary binaries.RemU) h = ap (λ (t : List ℕ). Ok ((I64Binary binaries.RemU), t)) h
instr_complete unknown scope bytes rest (I64Binary binaries.And) h = ap (λ (t : List ℕ). Ok ((I64Binary binaries.And), t)) h
instr_complete unknown scope bytes rest (I64Binary binaries.Or) h = ap (λ (t : List ℕ). Ok ((I64Binary binaries.Or), t)) h
instr_complete unknown scope bytes rest (I64Binary binaries.Xor) h = ap (λ (t : List ℕ). Ok ((I64Binary binaries.Xor), t)) h
instr_complete unknown scope bytes rest (I64Binary binaries.Shl) h = ap (λ (t : List ℕ). Ok ((I64Binary binaries.Shl), t)) h
instr_complete unknown scope bytes rest (I64Binary binaries.ShrS) h = ap (λ (t : List ℕ). Ok ((I64Binary binaries.ShrS), t)) h
instr_complete unknown scope bytes rest (I64Binary binaries.ShrU) h = ap (λ (t : List ℕ). Ok ((I64Binary binaries.ShrU), t)) h
instr_complete unknown scope bytes rest (I64Binary binaries.Rotl) h = ap (λ (t : List ℕ). Ok ((I64Binary binaries.Rotl), t)) h
instr_complete unknown scope bytes rest (I64Binary binaries.Rotr) h = ap (λ (t : List ℕ). Ok ((I64Binary binaries.Rotr), t)) h
instr_complete unknown scope bytes rest (instrs.Convert converts.WrapI64) h = ap (λ (t : List ℕ). Ok ((instrs.Convert converts.WrapI64), t)) h
instr_complete unknown scope bytes rest (instrs.Convert converts.ExtendI32S) h = ap (λ (t : List ℕ). Ok ((instrs.Convert converts.ExtendI32S), t)) h
instr_complete unknown scope bytes rest (instrs.Convert converts.ExtendI32U) h = ap (λ (t : List ℕ). Ok ((instrs.Convert converts.ExtendI32U), t)) h
