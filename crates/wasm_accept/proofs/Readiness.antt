-- A module that was read has what validation asks for.
use Rattle.std.proofs.Common.{inl, inr, ℕ, suc, ◌+◌, ◌≤◌, Option, Some, None, IfSome, List, [], ◌∷◌, ◌++◌, length, sym, subst, arith, add-one}
use Rattle.wasm_types.specs.declared.types.Limits.{Limits}
use Rattle.wasm_types.specs.declared.instructions.Instr.{Instr}
use Rattle.wasm_types.specs.declared.instructions.Instr.TheVariants.{BrTable}
use Rattle.wasm_types.specs.declared.modules.ImportKind.{ImportKind}
use Rattle.wasm_types.specs.declared.modules.ImportKind.TheVariants as kinds
use Rattle.wasm_types.specs.declared.modules.Import.{Import}
use Rattle.wasm_types.specs.declared.modules.ExportKind.{ExportKind}
use Rattle.wasm_types.specs.declared.modules.ExportKind.TheVariants as exports
use Rattle.wasm_types.specs.declared.modules.Code.{Code}
use Rattle.wasm_types.specs.declared.modules.Module.{Module}
use Rattle.wasm_code.specs.Grammar as code
use Rattle.wasm_reader.specs.Grammar as grammar
use Rattle.wasm_validate.specs.Spaces.{present, size_in, sizes_in}
use Rattle.wasm_validate.specs.Valid.{AllAt}
use Rattle.wasm_validate.specs.Ready.{IsSmall, IsExpression, params_count, IsReady}

-- what holds of each item that was read, holds of all
many_all : {A : Type 0} (Is : List ℕ → A → List ℕ → Type 0) (P : A → Type 0) → ((bytes rest : List ℕ) (x : A) → Is bytes x rest → P x) → (k : ℕ) (bytes : List ℕ) (xs : List A) (rest : List ℕ) → code.AreMany Is bytes xs rest → AllAt (λ _ x. P x) k xs
many_all Is P h k bytes [] rest m = tt
many_all Is P h k bytes (x ∷ xs) rest m = (h bytes m.0 x m.1, many_all Is P h (k + 1) m.0 xs rest m.2)

-- what holds of an empty part and of one that was read
optional_has : {A : Type 0} (id : ℕ) (none : A) (Is : List ℕ → A → List ℕ → Type 0) (P : A → Type 0) → P none → ((bytes : List ℕ) (x : A) → Is bytes x [] → P x) → (x : A) (bytes rest : List ℕ) → grammar.IsOptional id none Is bytes x rest → P x
optional_has id none Is P p h x bytes rest (inl e) = subst P (sym e.0) p
optional_has id none Is P p h x bytes rest (inr s) = h s.2.0 x s.2.2

section_has : {A : Type 0} (id : ℕ) (none : A) (Is : List ℕ → A → List ℕ → Type 0) (P : A → Type 0) → P none → ((bytes : List ℕ) (x : A) → Is bytes x [] → P x) → (x : A) (bytes rest : List ℕ) → grammar.Section id none Is x bytes rest → P x
section_has id none Is P p h x bytes rest s = optional_has id none Is P p h x s.1 rest s.3

-- ---- expressions

small : (bytes rest : List ℕ) (i : Instr) → code.IsInstr bytes i rest → IsSmall i
small bytes rest (BrTable labels other) h = h.2.1.0
small bytes rest i h = tt

expression : (bytes rest : List ℕ) (instrs : List Instr) → code.IsExpression bytes instrs rest → IsExpression instrs
expression bytes rest instrs h = (h.1, many_all code.IsInstr IsSmall small 0 bytes instrs rest h.0)

-- ---- limits

abbrev Small : ExportKind → Limits → Type 0
Small exports.Memory l = (l.least ≤ 2048) × IfSome l.most (λ n. n ≤ 65536)
Small kind l = l.least ≤ 65536

abbrev Picked : ExportKind → Option Limits → Type 0
Picked kind None = Unit {0}
Picked kind (Some l) = Small kind l

picked_kind : (wanted : ExportKind) (bytes rest : List ℕ) (kind : ImportKind) → grammar.IsImportKind bytes kind rest → Picked wanted (size_in wanted kind)
picked_kind exports.Table bytes rest (kinds.Table l) h = h.2.2.1
picked_kind exports.Memory bytes rest (kinds.Memory l) h = (h.2.1, h.2.2)
picked_kind wanted bytes rest kind h = tt

picked : (wanted : ExportKind) (bytes rest : List ℕ) (i : Import) → grammar.IsImport bytes i rest → Picked wanted (size_in wanted i.kind)
picked wanted bytes rest i h = picked_kind wanted h.1 rest i.kind h.4

one_more : (wanted : ExportKind) (o : Option Limits) (ls : List (Option Limits)) (j : ℕ) → Picked wanted o → ((n : ℕ) → AllAt (λ _ l. Small wanted l) n (present ls)) → AllAt (λ _ l. Small wanted l) j (present (o ∷ ls))
one_more wanted None ls j p h = h j
one_more wanted (Some l) ls j p h = (p, h (j + 1))

imported : (wanted : ExportKind) (k : ℕ) (is : List Import) → AllAt (λ _ i. Picked wanted (size_in wanted i.kind)) k is → (j : ℕ) → AllAt (λ _ l. Small wanted l) j (present (sizes_in wanted is))
imported wanted k [] a j = tt
imported wanted k (i ∷ is) a j = one_more wanted (size_in wanted i.kind) (sizes_in wanted is) j a.0 (λ n. imported wanted (k + 1) is a.1 n)

moved : {A : Type 0} (P : A → Type 0) (j k : ℕ) (xs : List A) → AllAt (λ _ x. P x) j xs → AllAt (λ _ x. P x) k xs
moved P j k [] a = tt
moved P j k (x ∷ xs) a = (a.0, moved P (j + 1) (k + 1) xs a.1)

both : {A : Type 0} (P : A → Type 0) (j i k : ℕ) (xs ys : List A) → AllAt (λ _ x. P x) j xs → AllAt (λ _ x. P x) i ys → AllAt (λ _ x. P x) k (xs ++ ys)
both P j i k [] ys a b = moved P i k ys b
both P j i k (x ∷ xs) ys a b = (a.0, both P (j + 1) i (k + 1) xs ys a.1 b)

-- ---- bodies

bodies : (m : Module) (k : ℕ) (bytes : List ℕ) (cs : List Code) (rest : List ℕ) → grammar.AreBodies m.types m.functions k bytes cs rest → AllAt (λ k c. (params_count m k + length c.locals ≤ 4096) × IsExpression c.body) k cs
bodies m k bytes [] rest h = tt
bodies m k bytes (c ∷ cs) rest h =
    let b = h.1.2 in
    ((b.0, expression b.1.0 [] c.body b.1.2), rw add-one (bodies m (suc k) h.0 cs rest h.2))

-- ---- the module

pub read_is_ready : (bytes : List ℕ) (m : Module) → grammar.IsModule bytes m → IsReady m
read_is_ready bytes m h =
    let s1 = h.sections.2 in
    let s2 = s1.2 in
    let s3 = s2.2 in
    let s4 = s3.2 in
    let s5 = s4.2 in
    let s6 = s5.2 in
    let s7 = s6.2 in
    let s8 = s7.2 in
    let s9 = s8.2 in
    let s10 = s9.2 in
    let s11 = s10.2 in
    let start = h.sections.0 in
    let imports_are : (wanted : ExportKind) → AllAt (λ _ i. Picked wanted (size_in wanted i.kind)) 0 m.imports = λ wanted. section_has 2 [] (grammar.IsList grammar.IsImport) (λ is. AllAt (λ _ i. Picked wanted (size_in wanted i.kind)) 0 is) tt (λ b is v. many_all grammar.IsImport (λ i. Picked wanted (size_in wanted i.kind)) (picked wanted) 0 v.1.0 is [] v.1.2) m.imports s1.0 s2.0 s2.1 in
    record {
      one_count = sym h.same_count;
      types = section_has 1 [] (code.IsVector 65536 grammar.IsFuncType) (λ xs. length xs ≤ 65536) (omega arith) (λ b xs v. v.0) m.types start s1.0 s1.1;
      functions = section_has 3 [] (code.IsVector 65536 code.IsU32) (λ xs. length xs ≤ 65536) (omega arith) (λ b xs v. v.0) m.functions s2.0 s3.0 s3.1;
      tables = both (λ l. l.least ≤ 65536) 0 0 0 (present (sizes_in exports.Table m.imports)) m.tables (imported exports.Table 0 m.imports (imports_are exports.Table) 0)
          (section_has 4 [] (grammar.IsList grammar.IsTable) (λ ls. AllAt (λ _ l. l.least ≤ 65536) 0 ls) tt (λ b ls v. many_all grammar.IsTable (λ l. l.least ≤ 65536) (λ b r l t. t.2.1) 0 v.1.0 ls [] v.1.2) m.tables s3.0 s4.0 s4.1);
      memories = both (λ l. Small exports.Memory l) 0 0 0 (present (sizes_in exports.Memory m.imports)) m.memories (imported exports.Memory 0 m.imports (imports_are exports.Memory) 0)
          (section_has 5 [] (grammar.IsList grammar.IsMemory) (λ ls. AllAt (λ _ l. Small exports.Memory l) 0 ls) tt (λ b ls v. many_all grammar.IsMemory (λ l. Small exports.Memory l) (λ b r l t. (t.1, t.2)) 0 v.1.0 ls [] v.1.2) m.memories s4.0 s5.0 s5.1);
      globals = section_has 6 [] (code.IsVector 4096 grammar.IsGlobal) (λ xs. length xs ≤ 4096) (omega arith) (λ b xs v. v.0) m.globals s5.0 s6.0 s6.1;
      starts = section_has 6 [] (code.IsVector 4096 grammar.IsGlobal) (λ xs. AllAt (λ _ g. IsExpression g.start) 0 xs) tt (λ b xs v. many_all grammar.IsGlobal (λ g. IsExpression g.start) (λ b r g t. expression t.0 r g.start t.2) 0 v.1.0 xs [] v.1.2) m.globals s5.0 s6.0 s6.1;
      element_offsets = section_has 9 [] (grammar.IsList grammar.IsElement) (λ xs. AllAt (λ _ e. IsExpression e.offset) 0 xs) tt (λ b xs v. many_all grammar.IsElement (λ e. IsExpression e.offset) (λ b r e t. expression t.0 t.1 e.offset t.3) 0 v.1.0 xs [] v.1.2) m.elements s8.0 s9.0 s9.1;
      bodies = section_has 10 [] (grammar.AreCode m.types m.functions) (λ cs. AllAt (λ k c. (params_count m k + length c.locals ≤ 4096) × IsExpression c.body) 0 cs) tt (λ b cs v. bodies m 0 v.1.0 cs [] v.1.2) m.code s9.0 s10.0 s10.1;
      offsets = section_has 11 [] (grammar.IsList grammar.IsSegment) (λ xs. AllAt (λ _ x. IsExpression x.offset) 0 xs) tt (λ b xs v. many_all grammar.IsSegment (λ x. IsExpression x.offset) (λ b r x t. expression t.0 t.1 x.offset t.3) 0 v.1.0 xs [] v.1.2) m.segments s10.0 s11.0 s11.1;
    }
