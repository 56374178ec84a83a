-- The spellings of vectors, names, types and instructions are in the grammar and the shortest.
use Rattle.std.proofs.Common.{◌≡◌, ℕ, ◌<◌, ◌≤◌, List, [], ◌∷◌, ◌++◌, length, Option, Some, None, sym, subst, arith, append_assoc}
use Rattle.std.specs.Prelude.{IsUtf8, IfSome}
use Rattle.std.specs.List.{flat_map}
use Rattle.std.specs.Option.{option_to_list}
use Rattle.std.proofs.lemmas.List.{length-append, append-nil}
use Rattle.wasm_types.specs.declared.types.ValueType.TheVariants as types
use Rattle.wasm_types.specs.declared.values.Value.TheVariants as values
use Rattle.wasm_types.specs.declared.instructions.Instr.TheVariants.{Unreachable, Nop, Block, Loop, If, Else, End, Br, BrIf, BrTable, Return, Call, CallIndirect, Drop, Select, LocalGet, LocalSet, LocalTee, GlobalGet, GlobalSet, Load, Store, MemorySize, MemoryGrow, Const, I32Test, I32Compare, I32Unary, I32Binary, I64Test, I64Compare, I64Unary, I64Binary}
use Rattle.wasm_types.specs.declared.instructions.Instr.TheVariants as instrs
use Rattle.wasm_types.specs.Nested.{NestsWithin}
use Rattle.wasm_code.specs.Opcodes.{opcode_of}
use Rattle.wasm_code.specs.Grammar.{AreMany, IsU32, IsVector, IsValueType, IsResult, AreTwo, AreOperands, IsInstr, IsExpression}
use Rattle.wasm_reader.specs.Grammar.{IsList, AreBytes, IsName, IsFuncType, IsSize, IsLimits, IsMemory, IsTable, flag_byte, IsGlobalType, IsSized}
use Rattle.wasm_writer.specs.Numbers.{number_text}
use Rattle.wasm_writer.specs.Spelled.{vector_text, bytes_text, result_byte, type_text, func_type_text, size_text, limits_text, table_text, global_type_text, operands_text, instr_text, code_text}
use Rattle.wasm_writer.proofs.Best.{IsBest, AreBest, octets_front, octets_rest, best_nothing, best_behind, best_byte, best_after, best_before, best_as, best_beside, best_given, best_many}
use Rattle.wasm_writer.proofs.BestNumbers.{u32_spells, u32_below, u32_best, number_fewer}
use Rattle.wasm_writer.proofs.BestSigned.{s32_best, s64_best}

-- ---- vectors, names, and parts with a stated size

pub vector_best : {A : Type 0} (limit : ℕ) (Is : List ℕ → A → List ℕ → Type 0) (text : A → List ℕ) → AreBest Is text → AreBest (IsVector limit Is) (vector_text text)
unfolding vector_text
vector_best {A} limit Is text best xs =
    best_given (λ b r. (mid : List ℕ) × IsU32 b (length xs) mid × AreMany Is mid xs r) (length xs ≤ limit) (number_text (length xs) ++ flat_map text xs) (
    best_after (λ b r. IsU32 b (length xs) r) (λ b r. AreMany Is b xs r) (number_text (length xs)) (flat_map text xs) (u32_best (length xs)) (best_many Is text best xs))

pub bytes_best : AreBest AreBytes bytes_text
unfolding bytes_text
bytes_best inside = best_before (λ b r. IsU32 b (length inside) r) (number_text (length inside)) inside (u32_best (length inside))

pub name_best : AreBest IsName bytes_text
name_best name = best_beside (λ b r. AreBytes b name r) (IsUtf8 name) (bytes_text name) (bytes_best name)

pub sized_best : {A : Type 0} (Is : List ℕ → A → List ℕ → Type 0) (x : A) (text : List ℕ) → IsBest (λ bytes rest. Is bytes x rest) text → IsBest (λ bytes rest. IsSized Is bytes x rest) (bytes_text text)
unfolding bytes_text
sized_best {A} Is x text best bytes rest all is =
    let size = u32_best (length is.0) bytes (is.0 ++ rest) all is.1 in
    let inner = best is.0 [] (octets_front is.0 rest size.octets) is.2 in
    let below = u32_below bytes (is.0 ++ rest) (length is.0) all is.1 in
    let fits : length text < 4294967296 = omega (arith, below, inner.fewest) in
    let fewer = number_fewer (length text) (length is.0) (omega (arith, inner.fewest)) in
    record {
      spells = λ after. (text, subst (λ (whole : List ℕ). IsU32 whole (length text) (text ++ after)) (sym (append_assoc (number_text (length text)) text after)) (u32_spells (length text) (text ++ after) fits), subst (λ (whole : List ℕ). Is whole x []) (append-nil text) (inner.spells []));
      fewest = omega (arith, size.fewest, inner.fewest, fewer, length-append (number_text (length text)) text, length-append is.0 rest);
      octets = octets_rest is.0 rest size.octets;
    }

-- ---- types

pub value_type_best : AreBest IsValueType type_text
value_type_best types.I32 = best_byte 0x7F
value_type_best types.I64 = best_byte 0x7E

result_best : AreBest IsResult (λ r. result_byte r ∷ [])
result_best None = best_byte 0x40
result_best (Some kind) = value_type_best kind

pub func_type_best : AreBest IsFuncType func_type_text
unfolding func_type_text
func_type_best t =
    let Params : List ℕ → List ℕ → Type 0 = λ b r. IsList IsValueType b t.params r in
    let Result : List ℕ → List ℕ → Type 0 = λ b r. IsVector 1 IsValueType b (option_to_list t.result) r in
    let params = vector_text type_text t.params in
    let found = vector_text type_text (option_to_list t.result) in
    best_as (λ b r. (start : List ℕ) × (b ≡ 0x60 ∷ start) × ((mid : List ℕ) × Params start mid × Result mid r)) (λ b r. IsFuncType b t r) (0x60 ∷ (params ++ found)) (
    best_behind (λ b r. (mid : List ℕ) × Params b mid × Result mid r) 0x60 (params ++ found) (
    best_after Params Result params found (vector_best 4294967295 IsValueType type_text value_type_best t.params) (vector_best 1 IsValueType type_text value_type_best (option_to_list t.result))))
    (λ b r is. (is.0, is.2, (is.1, is.3, is.4)))
    (λ b r is. (is.0, is.2.0, is.1, is.2.1, is.2.2))

two_best : (first second : ℕ) → IsBest (λ bytes rest. AreTwo bytes first second rest) (number_text first ++ number_text second)
two_best first second = best_after (λ b r. IsU32 b first r) (λ b r. IsU32 b second r) (number_text first) (number_text second) (u32_best first) (u32_best second)

size_best : (least : ℕ) (most : Option ℕ) → IsBest (λ bytes rest. IsSize least most bytes rest) (size_text least most)
size_best least None = best_behind (λ b r. IsU32 b least r) 0x00 (number_text least) (u32_best least)
size_best least (Some most) = best_behind (λ b r. AreTwo b least most r) 0x01 (number_text least ++ number_text most) (two_best least most)

limits_best : (least most : ℕ) → AreBest (IsLimits least most) limits_text
unfolding limits_text
limits_best least most l =
    let Fits : Type 0 = (l.least ≤ least) × IfSome l.most (λ n. n ≤ most) in
    let text = size_text l.least l.most in
    best_as (λ b r. IsSize l.least l.most b r × Fits) (λ b r. IsLimits least most b l r) text (
    best_beside (λ b r. IsSize l.least l.most b r) Fits text (size_best l.least l.most))
    (λ b r is. (is.0, (is.1, is.2)))
    (λ b r is. (is.0, is.1.0, is.1.1))

pub memory_best : AreBest IsMemory limits_text
memory_best = limits_best 2048 65536

pub table_best : AreBest IsTable table_text
unfolding table_text
table_best l = best_behind (λ b r. IsLimits 65536 4294967295 b l r) 0x70 (limits_text l) (limits_best 65536 4294967295 l)

pub global_type_best : AreBest IsGlobalType global_type_text
unfolding global_type_text
global_type_best g = best_before (λ b r. IsValueType b g.kind r) (type_text g.kind) (flag_byte g.mutable ∷ []) (value_type_best g.kind)

-- ---- instructions

operands_best : AreBest AreOperands operands_text
operands_best Unreachable = best_nothing
operands_best Nop = best_nothing
operands_best (Block r) = result_best r
operands_best (Loop r) = result_best r
operands_best (If r) = result_best r
operands_best Else = best_nothing
operands_best End = best_nothing
operands_best (Br label) = u32_best label
operands_best (BrIf label) = u32_best label
operands_best (BrTable labels other) = best_after (λ b r. IsVector 65536 IsU32 b labels r) (λ b r. IsU32 b other r) (vector_text number_text labels) (number_text other) (vector_best 65536 IsU32 number_text u32_best labels) (u32_best other)
operands_best Return = best_nothing
operands_best (Call function) = u32_best function
operands_best (CallIndirect kind) = best_before (λ b r. IsU32 b kind r) (number_text kind) (0x00 ∷ []) (u32_best kind)
operands_best Drop = best_nothing
operands_best Select = best_nothing
operands_best (LocalGet local) = u32_best local
operands_best (LocalSet local) = u32_best local
operands_best (LocalTee local) = u32_best local
operands_best (GlobalGet global) = u32_best global
operands_best (GlobalSet global) = u32_best global
operands_best (Load kind align offset) = two_best align offset
operands_best (Store kind align offset) = two_best align offset
operands_best MemorySize = best_byte 0x00
operands_best MemoryGrow = best_byte 0x00
operands_best (Const (values.I32 n)) = s32_best n
operands_best (Const (values.I64 n)) = s64_best n
operands_best (I32Test op) = best_nothing
operands_best (I32Compare op) = best_nothing
operands_best (I32Unary op) = best_nothing
operands_best (I32Binary op) = best_nothing
operands_best (I64Test op) = best_nothing
operands_best (I64Compare op) = best_nothing
operands_best (I64Unary op) = best_nothing
operands_best (I64Binary op) = best_nothing
operands_best (instrs.Convert op) = best_nothing

pub instr_best : AreBest IsInstr instr_text
unfolding instr_text
instr_best i = best_behind (λ b r. AreOperands b i r) (opcode_of i) (operands_text i) (operands_best i)

pub expression_best : AreBest IsExpression code_text
unfolding code_text
expression_best code = best_beside (λ b r. AreMany IsInstr b code r) (NestsWithin 1024 code) (flat_map instr_text code) (best_many IsInstr instr_text instr_best code)
