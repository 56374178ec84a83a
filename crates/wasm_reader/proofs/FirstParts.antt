-- The parts of a module that have no stated size tell their first fault.
use Rattle.std.proofs.Common.{◌≡◌, ℕ, zero, suc, ◌+◌, ◌-◌, ◌≤◌, Bool, true, false, cond, eqb, leb, List, [], ◌∷◌, ◌++◌, length, take, drop, Option, Some, None, Ok, Err, refl, sym, ap, ◌∙◌, arith, inl, inr, replicate, append_assoc}
use Rattle.std.specs.Str.{is_utf8}
use Rattle.std.proofs.lemmas.Bool.{leb-true, le-leb, lt-leb}
use Rattle.std.proofs.lemmas.List.{take_at, drop_at, take-append-drop, length-append, length-take, append-nil}
use Rattle.std.proofs.lemmas.Str.{is_utf8-from_IsUtf8, IsUtf8-nil}
use Rattle.wasm_types.specs.declared.types.ValueType.{ValueType}
use Rattle.wasm_types.specs.declared.types.FuncType.{FuncType}
use Rattle.wasm_types.specs.declared.types.Limits.{Limits}
use Rattle.wasm_types.specs.declared.types.GlobalType.{GlobalType}
use Rattle.wasm_types.specs.declared.instructions.Instr.{Instr}
use Rattle.wasm_types.specs.declared.modules.ImportKind.{ImportKind}
use Rattle.wasm_types.specs.declared.modules.ImportKind.TheVariants as kinds
use Rattle.wasm_types.specs.declared.modules.Import.{Import}
use Rattle.wasm_types.specs.declared.modules.GlobalItem.{GlobalItem}
use Rattle.wasm_types.specs.declared.modules.ExportKind.{ExportKind}
use Rattle.wasm_types.specs.declared.modules.ExportKind.TheVariants as exports
use Rattle.wasm_types.specs.declared.modules.Export.{Export}
use Rattle.wasm_types.specs.declared.modules.Element.{Element}
use Rattle.wasm_types.specs.declared.modules.Segment.{Segment}
use Rattle.wasm_code.specs.declared.fault.ReadKind.TheVariants.{BadForm, BadName}
use Rattle.wasm_code.specs.declared.fault.ReadFault.{ReadFault}
use Rattle.wasm_code.specs.declared.scope.Scope.{Scope}
use Rattle.wasm_code.specs.Reading.{Reading, ◌>>=◌, fault_at, short_of, u32_at, count_at, vector_at}
use Rattle.wasm_code.specs.Instructions.{value_type_at, expression_at}
use Rattle.wasm_code.specs.FirstFault.{IsFirst}
use Rattle.wasm_code.proofs.Steps.{pair_is, same_ok}
use Rattle.wasm_code.proofs.FirstSequences.{TakesFront, Reads, both, done, mapped}
use Rattle.wasm_code.proofs.FirstNumbers.{u32_reads}
use Rattle.wasm_code.proofs.FirstInstructions.{Row, err_is, ok_not_err, err_not_ok, count_reads, vector_reads, by_byte, row_if}
use Rattle.wasm_code.proofs.FirstExpressions.{value_type_reads, expression_reads}
use Rattle.wasm_reader.specs.Reading.{bytes_at, name_at, byte_at, results_at, func_type_at, flag_at, limits_at, memory_at, table_at, global_type_at, import_kind_at, import_at, export_kind_at, export_at, global_at, element_at, segment_at, start_at}
use Rattle.wasm_reader.specs.Sections.{locals_from}

-- ---- so many bytes, and a name

abbrev run_at : ℕ → Scope → List ℕ → Reading (List ℕ)
run_at n s b = cond (leb n (length b)) (Ok (take n b, drop n b)) (Err (short_of s))

abbrev text_at : ℕ → Scope → List ℕ → Reading (List ℕ)
text_at n s b = cond (leb n (length b)) (cond (is_utf8 (take n b)) (Ok (take n b, drop n b)) (Err (fault_at BadName s b))) (Err (short_of s))

-- the first bytes of more bytes
runs_on : (n : ℕ) (bytes more : List ℕ) → n ≤ length bytes → (leb n (length (bytes ++ more)) ≡ true) × (take n (bytes ++ more) ≡ take n bytes)
runs_on n bytes more fits =
    let whole = take-append-drop n bytes in
    let len : length (take n bytes) ≡ n = omega (arith, length-take n bytes, fits) in
    let same : take n bytes ++ (drop n bytes ++ more) ≡ bytes ++ more = sym (append_assoc (take n bytes) (drop n bytes) more) ∙ ap (λ (l : List ℕ). l ++ more) whole in
    (le-leb n (length (bytes ++ more)) (omega (arith, fits, length-append bytes more)), ap (take n) (sym same) ∙ take_at (take n bytes) (drop n bytes ++ more) n len)

-- bytes that were taken whole, with others behind them
exactly : (n : ℕ) (bytes after : List ℕ) → n ≤ length bytes → (leb n (length (take n bytes ++ after)) ≡ true) × (take n (take n bytes ++ after) ≡ take n bytes) × (drop n (take n bytes ++ after) ≡ after)
exactly n bytes after fits =
    let len : length (take n bytes) ≡ n = omega (arith, length-take n bytes, fits) in
    (le-leb n (length (take n bytes ++ after)) (omega (arith, len, length-append (take n bytes) after)), take_at (take n bytes) after n len, drop_at (take n bytes) after n len)

run_takes : (n : ℕ) (scope : Scope) (bytes rest x : List ℕ) (t : Bool) → leb n (length bytes) ≡ t → (let r : Reading (List ℕ) = cond t (Ok (take n bytes, drop n bytes)) (Err (short_of scope)) in r) ≡ Ok (x, rest) → TakesFront (run_at n) bytes x rest
run_takes n scope bytes rest x false t e = err_not_ok x rest (short_of scope) e
run_takes n scope bytes rest x true t e =
    let same = pair_is (take n bytes) x (drop n bytes) rest e in
    let fits = leb-true n (length bytes) t in (
      take n bytes,
      sym (take-append-drop n bytes) ∙ ap (λ (l : List ℕ). take n bytes ++ l) same.1,
      λ s after. let k = exactly n bytes after fits in rw (k.0, k.1, k.2) (same_ok (take n bytes) x after after same.0 refl),
    )

run_cut : (n : ℕ) (bytes : List ℕ) (s : Scope) → leb n (length bytes) ≡ false → run_at n s bytes ≡ Err (short_of s)
run_cut n bytes s f = rw f refl

run_tells : (n : ℕ) (scope : Scope) (bytes : List ℕ) (fault : ReadFault) (t : Bool) → leb n (length bytes) ≡ t → (let r : Reading (List ℕ) = cond t (Ok (take n bytes, drop n bytes)) (Err (short_of scope)) in r) ≡ Err fault → IsFirst (run_at n) scope bytes fault
run_tells n scope bytes fault true t e = ok_not_err (take n bytes) (drop n bytes) fault e
run_tells n scope bytes fault false t e = record { front = bytes; tail = []; parts = sym (append-nil bytes); before = λ s. run_cut n bytes s t; there = inl (refl, sym (err_is {A = List ℕ} (short_of scope) fault e)) }

run_reads : (n : ℕ) → Reads (run_at n)
run_reads n = record {
  takes = λ scope bytes rest x e. run_takes n scope bytes rest x (leb n (length bytes)) refl e;
  tells = λ scope bytes fault e. run_tells n scope bytes fault (leb n (length bytes)) refl e;
}

pub bytes_reads : Reads bytes_at
unfolding bytes_at
bytes_reads = both u32_at (λ n s b. run_at n s b) u32_reads run_reads

text_takes : (n : ℕ) (scope : Scope) (bytes rest x : List ℕ) (t u : Bool) → leb n (length bytes) ≡ t → is_utf8 (take n bytes) ≡ u → (let r : Reading (List ℕ) = cond t (cond u (Ok (take n bytes, drop n bytes)) (Err (fault_at BadName scope bytes))) (Err (short_of scope)) in r) ≡ Ok (x, rest) → TakesFront (text_at n) bytes x rest
text_takes n scope bytes rest x false u t v e = err_not_ok x rest (short_of scope) e
text_takes n scope bytes rest x true false t v e = err_not_ok x rest (fault_at BadName scope bytes) e
text_takes n scope bytes rest x true true t v e =
    let same = pair_is (take n bytes) x (drop n bytes) rest e in
    let fits = leb-true n (length bytes) t in (
      take n bytes,
      sym (take-append-drop n bytes) ∙ ap (λ (l : List ℕ). take n bytes ++ l) same.1,
      λ s after. let k = exactly n bytes after fits in rw (k.0, k.1, k.2, v) (same_ok (take n bytes) x after after same.0 refl),
    )

text_cut : (n : ℕ) (bytes : List ℕ) (s : Scope) → leb n (length bytes) ≡ false → text_at n s bytes ≡ Err (short_of s)
text_cut n bytes s f = rw f refl

-- no bytes are a name, so one that isn't has bytes
text_nil : (n : ℕ) (bytes : List ℕ) (s : Scope) → is_utf8 (take n bytes) ≡ false → text_at n s [] ≡ Err (short_of s)
text_nil zero bytes s v = absurd (let z : true ≡ false = sym (is_utf8-from_IsUtf8 (take 0 bytes) IsUtf8-nil) ∙ v in cc)
text_nil (suc n) bytes s v = text_cut (suc n) [] s (lt-leb (suc n) 0 (omega arith))

text_tells : (n : ℕ) (scope : Scope) (bytes : List ℕ) (fault : ReadFault) (t u : Bool) → leb n (length bytes) ≡ t → is_utf8 (take n bytes) ≡ u → (let r : Reading (List ℕ) = cond t (cond u (Ok (take n bytes, drop n bytes)) (Err (fault_at BadName scope bytes))) (Err (short_of scope)) in r) ≡ Err fault → IsFirst (text_at n) scope bytes fault
text_tells n scope bytes fault true true t v e = ok_not_err (take n bytes) (drop n bytes) fault e
text_tells n scope bytes fault false u t v e = record { front = bytes; tail = []; parts = sym (append-nil bytes); before = λ s. text_cut n bytes s t; there = inl (refl, sym (err_is {A = List ℕ} (short_of scope) fault e)) }
text_tells n scope bytes fault true false t v e = record {
  front = [];
  tail = bytes;
  parts = refl;
  before = λ s. text_nil n bytes s v;
  there = inr (BadName, sym (err_is {A = List ℕ} (fault_at BadName scope bytes) fault e), λ s more. let k = runs_on n bytes more (leb-true n (length bytes) t) in rw (k.0, k.1, v) refl);
}

text_reads : (n : ℕ) → Reads (text_at n)
text_reads n = record {
  takes = λ scope bytes rest x e. text_takes n scope bytes rest x (leb n (length bytes)) (is_utf8 (take n bytes)) refl refl e;
  tells = λ scope bytes fault e. text_tells n scope bytes fault (leb n (length bytes)) (is_utf8 (take n bytes)) refl refl e;
}

pub name_reads : Reads name_at
unfolding name_at
name_reads = both u32_at (λ n s b. text_at n s b) u32_reads text_reads

-- ---- choices

if_reads : {A : Type 0} (t : Bool) (f g : Scope → List ℕ → Reading A) → Reads f → Reads g → Reads (λ s b. cond t (f s b) (g s b))
if_reads true f g p q = p
if_reads false f g p q = q

-- a byte that must be this one, and what stands behind it
behind_byte : {A : Type 0} (byte : ℕ) (read : Scope → List ℕ → Reading A) → Reads read → Reads (λ s b. byte_at byte s b >>= λ rest. read s rest)
unfolding byte_at
behind_byte {A} byte read r = by_byte (λ s b. byte_at byte s b >>= λ rest. read s rest) (λ b s rest. byte_at byte s (b ∷ rest) >>= λ after. read s after) (λ s. refl) (λ b s rest. refl) (λ b. row b (eqb b byte))
  where
    row : (b : ℕ) (t : Bool) → Row (λ s rest. cond t (Ok rest) (Err (fault_at BadForm s (b ∷ rest))) >>= λ after. read s after) b
    row b true = inr r
    row b false = inl (BadForm, λ s rest. refl)

-- ---- types

results_reads : Reads results_at
unfolding results_at
results_reads = both (count_at 1) (λ n s b. cond (eqb n 0) (Ok (None, b)) (value_type_at s b >>= λ t. Ok (Some t.0, t.1))) (count_reads 1) (λ n. if_reads (eqb n 0) (λ s b. Ok (None, b)) (λ s b. value_type_at s b >>= λ t. Ok (Some t.0, t.1)) (done None) (mapped value_type_at (λ t. Some t) value_type_reads))

abbrev type_of : List ValueType → Option ValueType → FuncType
type_of params result = record { params = params; result = result }

pub func_type_reads : Reads func_type_at
unfolding func_type_at
func_type_reads = behind_byte 0x60 (λ s b. vector_at 4294967295 value_type_at s b >>= λ params. results_at s params.1 >>= λ found. Ok (record { params = params.0; result = found.0 }, found.1)) (
    both (vector_at 4294967295 value_type_at) (λ params s b. results_at s b >>= λ found. Ok (record { params = params; result = found.0 }, found.1)) (vector_reads 4294967295 value_type_at value_type_reads) (λ params. mapped results_at (λ found. type_of params found) results_reads))

flag_reads : Reads flag_at
unfolding flag_at
flag_reads = by_byte flag_at (λ byte s rest. flag_at s (byte ∷ rest)) (λ s. refl) (λ byte s rest. refl) (λ byte.
    row_if (eqb byte 0x00) (λ s rest. Ok (false, rest)) (λ s rest. cond (eqb byte 0x01) (Ok (true, rest)) (Err (fault_at BadForm s (byte ∷ rest)))) byte (inr (done false)) (
    row_if (eqb byte 0x01) (λ s rest. Ok (true, rest)) (λ s rest. Err (fault_at BadForm s (byte ∷ rest))) byte (inr (done true)) (inl (BadForm, λ s rest. refl))))

abbrev bounds : ℕ → Option ℕ → Limits
bounds least most = record { least = least; most = most }

pub limits_reads : (least most : ℕ) → Reads (limits_at least most)
unfolding limits_at
limits_reads least most =
    both flag_at (λ flag s b. count_at least s b >>= λ low. cond flag (count_at most s low.1 >>= λ high. Ok (bounds low.0 (Some high.0), high.1)) (Ok (bounds low.0 None, low.1))) flag_reads (λ flag.
    both (count_at least) (λ low s b. cond flag (count_at most s b >>= λ high. Ok (bounds low (Some high.0), high.1)) (Ok (bounds low None, b))) (count_reads least) (λ low.
    if_reads flag (λ s b. count_at most s b >>= λ high. Ok (bounds low (Some high.0), high.1)) (λ s b. Ok (bounds low None, b)) (mapped (count_at most) (λ high. bounds low (Some high)) (count_reads most)) (done (bounds low None))))

pub memory_reads : Reads memory_at
unfolding memory_at
memory_reads = limits_reads 2048 65536

pub table_reads : Reads table_at
unfolding table_at
table_reads = behind_byte 0x70 (limits_at 65536 4294967295) (limits_reads 65536 4294967295)

abbrev global_of : ValueType → Bool → GlobalType
global_of kind mutable = record { kind = kind; mutable = mutable }

pub global_type_reads : Reads global_type_at
unfolding global_type_at
global_type_reads = both value_type_at (λ kind s b. flag_at s b >>= λ flag. Ok (global_of kind flag.0, flag.1)) value_type_reads (λ kind. mapped flag_at (λ flag. global_of kind flag) flag_reads)

-- ---- imports, exports and globals

import_kind_reads : Reads import_kind_at
unfolding import_kind_at
import_kind_reads = by_byte import_kind_at (λ byte s rest. import_kind_at s (byte ∷ rest)) (λ s. refl) (λ byte s rest. refl) (λ byte.
    row_if (eqb byte 0x00) (λ s rest. u32_at s rest >>= λ t. Ok (kinds.Function t.0, t.1)) (λ s rest. cond (eqb byte 0x01) (table_at s rest >>= λ l. Ok (kinds.Table l.0, l.1)) (cond (eqb byte 0x02) (memory_at s rest >>= λ l. Ok (kinds.Memory l.0, l.1)) (cond (eqb byte 0x03) (global_type_at s rest >>= λ g. Ok (kinds.Global g.0, g.1)) (Err (fault_at BadForm s (byte ∷ rest)))))) byte (inr (mapped u32_at kinds.Function u32_reads)) (
    row_if (eqb byte 0x01) (λ s rest. table_at s rest >>= λ l. Ok (kinds.Table l.0, l.1)) (λ s rest. cond (eqb byte 0x02) (memory_at s rest >>= λ l. Ok (kinds.Memory l.0, l.1)) (cond (eqb byte 0x03) (global_type_at s rest >>= λ g. Ok (kinds.Global g.0, g.1)) (Err (fault_at BadForm s (byte ∷ rest))))) byte (inr (mapped table_at kinds.Table table_reads)) (
    row_if (eqb byte 0x02) (λ s rest. memory_at s rest >>= λ l. Ok (kinds.Memory l.0, l.1)) (λ s rest. cond (eqb byte 0x03) (global_type_at s rest >>= λ g. Ok (kinds.Global g.0, g.1)) (Err (fault_at BadForm s (byte ∷ rest)))) byte (inr (mapped memory_at kinds.Memory memory_reads)) (
    row_if (eqb byte 0x03) (λ s rest. global_type_at s rest >>= λ g. Ok (kinds.Global g.0, g.1)) (λ s rest. Err (fault_at BadForm s (byte ∷ rest))) byte (inr (mapped global_type_at kinds.Global global_type_reads)) (
    inl (BadForm, λ s rest. refl))))))

abbrev import_of : List ℕ → List ℕ → ImportKind → Import
import_of first second kind = record { «module» = first; name = second; kind = kind }

pub import_reads : Reads import_at
unfolding import_at
import_reads =
    both name_at (λ first s b. name_at s b >>= λ second. import_kind_at s second.1 >>= λ kind. Ok (import_of first second.0 kind.0, kind.1)) name_reads (λ first.
    both name_at (λ second s b. import_kind_at s b >>= λ kind. Ok (import_of first second kind.0, kind.1)) name_reads (λ second.
    mapped import_kind_at (λ kind. import_of first second kind) import_kind_reads))

export_kind_reads : Reads export_kind_at
unfolding export_kind_at
export_kind_reads = by_byte export_kind_at (λ byte s rest. export_kind_at s (byte ∷ rest)) (λ s. refl) (λ byte s rest. refl) (λ byte.
    row_if (eqb byte 0x00) (λ s rest. Ok (exports.Function, rest)) (λ s rest. cond (eqb byte 0x01) (Ok (exports.Table, rest)) (cond (eqb byte 0x02) (Ok (exports.Memory, rest)) (cond (eqb byte 0x03) (Ok (exports.Global, rest)) (Err (fault_at BadForm s (byte ∷ rest)))))) byte (inr (done exports.Function)) (
    row_if (eqb byte 0x01) (λ s rest. Ok (exports.Table, rest)) (λ s rest. cond (eqb byte 0x02) (Ok (exports.Memory, rest)) (cond (eqb byte 0x03) (Ok (exports.Global, rest)) (Err (fault_at BadForm s (byte ∷ rest))))) byte (inr (done exports.Table)) (
    row_if (eqb byte 0x02) (λ s rest. Ok (exports.Memory, rest)) (λ s rest. cond (eqb byte 0x03) (Ok (exports.Global, rest)) (Err (fault_at BadForm s (byte ∷ rest)))) byte (inr (done exports.Memory)) (
    row_if (eqb byte 0x03) (λ s rest. Ok (exports.Global, rest)) (λ s rest. Err (fault_at BadForm s (byte ∷ rest))) byte (inr (done exports.Global)) (
    inl (BadForm, λ s rest. refl))))))

abbrev export_of : List ℕ → ExportKind → ℕ → Export
export_of name kind index = record { name = name; kind = kind; index = index }

pub export_reads : Reads export_at
unfolding export_at
export_reads =
    both name_at (λ name s b. export_kind_at s b >>= λ kind. u32_at s kind.1 >>= λ index. Ok (export_of name kind.0 index.0, index.1)) name_reads (λ name.
    both export_kind_at (λ kind s b. u32_at s b >>= λ index. Ok (export_of name kind index.0, index.1)) export_kind_reads (λ kind.
    mapped u32_at (λ index. export_of name kind index) u32_reads))

abbrev item_of : GlobalType → List Instr → GlobalItem
item_of kind start = record { kind = kind; start = start }

pub global_reads : Reads global_at
unfolding global_at
global_reads = both global_type_at (λ kind s b. expression_at s b >>= λ start. Ok (item_of kind start.0, start.1)) global_type_reads (λ kind. mapped expression_at (λ start. item_of kind start) expression_reads)

-- ---- segments

abbrev element_of : ℕ → List Instr → List ℕ → Element
element_of table offset functions = record { table = table; offset = offset; functions = functions }

pub element_reads : Reads element_at
unfolding element_at
element_reads =
    both u32_at (λ table s b. expression_at s b >>= λ offset. vector_at 4294967295 u32_at s offset.1 >>= λ functions. Ok (element_of table offset.0 functions.0, functions.1)) u32_reads (λ table.
    both expression_at (λ offset s b. vector_at 4294967295 u32_at s b >>= λ functions. Ok (element_of table offset functions.0, functions.1)) expression_reads (λ offset.
    mapped (vector_at 4294967295 u32_at) (λ functions. element_of table offset functions) (vector_reads 4294967295 u32_at u32_reads)))

abbrev segment_of : ℕ → List Instr → List ℕ → Segment
segment_of memory offset inside = record { memory = memory; offset = offset; bytes = inside }

pub segment_reads : Reads segment_at
unfolding segment_at
segment_reads =
    both u32_at (λ memory s b. expression_at s b >>= λ offset. bytes_at s offset.1 >>= λ inside. Ok (segment_of memory offset.0 inside.0, inside.1)) u32_reads (λ memory.
    both expression_at (λ offset s b. bytes_at s b >>= λ inside. Ok (segment_of memory offset inside.0, inside.1)) expression_reads (λ offset.
    mapped bytes_at (λ inside. segment_of memory offset inside) bytes_reads))

pub start_reads : Reads start_at
unfolding start_at
start_reads = mapped u32_at (λ f. Some f) u32_reads

-- ---- groups of locals

pub locals_reads : (params : ℕ) (before : List ValueType) (n : ℕ) → Reads (locals_from params before n)
unfolding locals_from
locals_reads params before zero = done before
locals_reads params before (suc n) =
    both (count_at (4096 - (params + length before))) (λ count s b. value_type_at s b >>= λ kind. locals_from params (before ++ replicate count kind.0) n s kind.1) (count_reads (4096 - (params + length before))) (λ count.
    both value_type_at (λ kind s b. locals_from params (before ++ replicate count kind) n s b) value_type_reads (λ kind.
    locals_reads params (before ++ replicate count kind) n))
