-- The parts of a module are read exactly.
use Rattle.std.proofs.Common.{◌≡◌, ℕ, ◌≤◌, Bool, true, false, cond, eqb, leb, List, [], ◌∷◌, ◌++◌, length, take, drop, Option, Some, None, Ok, Err, refl, sym, ap, subst, ◌∙◌, arith, inl, inr}
use Rattle.std.specs.Prelude.{IsUtf8, IfSome}
use Rattle.std.specs.Str.{is_utf8}
use Rattle.std.specs.Option.{option_to_list}
use Rattle.std.proofs.lemmas.Bool.{cases_Bool, leb-true, le-leb, eqb-true, eqb-false, eq-eqb}
use Rattle.std.proofs.lemmas.List.{take_at, drop_at, take-append-drop, length-append, length-take}
use Rattle.std.proofs.lemmas.Str.{IsUtf8-from_is_utf8, is_utf8-from_IsUtf8}
use Rattle.wasm_types.specs.declared.types.ValueType.{ValueType}
use Rattle.wasm_types.specs.declared.types.FuncType.{FuncType}
use Rattle.wasm_types.specs.declared.types.Limits.{Limits}
use Rattle.wasm_types.specs.declared.types.GlobalType.{GlobalType}
use Rattle.wasm_types.specs.declared.modules.ImportKind.{ImportKind}
use Rattle.wasm_types.specs.declared.modules.ImportKind.TheVariants as kinds
use Rattle.wasm_types.specs.declared.modules.Import.{Import}
use Rattle.wasm_types.specs.declared.modules.GlobalItem.{GlobalItem}
use Rattle.wasm_types.specs.declared.modules.ExportKind.{ExportKind}
use Rattle.wasm_types.specs.declared.modules.ExportKind.TheVariants as exports
use Rattle.wasm_types.specs.declared.modules.Export.{Export}
use Rattle.wasm_types.specs.declared.modules.Element.{Element}
use Rattle.wasm_types.specs.declared.modules.Segment.{Segment}
use Rattle.wasm_code.specs.declared.fault.ReadKind.TheVariants.{BadForm, BadName}
use Rattle.wasm_code.specs.declared.fault.ReadFault.{ReadFault}
use Rattle.wasm_code.specs.declared.scope.Scope.{Scope}
use Rattle.wasm_code.specs.Grammar.{IsU32, IsVector, IsValueType}
use Rattle.wasm_code.specs.Reading.{Reading, ◌>>=◌, fault_at, short_of, u32_at, count_at, vector_at}
use Rattle.wasm_code.specs.Instructions.{value_type_at, expression_at}
use Rattle.wasm_code.specs.Exact.{IsExact}
use Rattle.wasm_code.proofs.Steps.{bind_ok, needs_ok, pair_is, ap2_pair, same_ok, choice, ok_is}
use Rattle.wasm_code.proofs.ExactNumbers.{u32_exact, count_exact, IsCount, vector_exact}
use Rattle.wasm_code.proofs.ExactInstructions.{value_type_exact}
use Rattle.wasm_code.proofs.ExactExpressions.{expression_exact}
use Rattle.wasm_reader.specs.Grammar.{AreBytes, IsName, IsFuncType, IsSize, IsLimits, IsMemory, IsTable, flag_byte, IsGlobalType, IsImportKind, IsImport, IsGlobal, export_byte, IsExport, IsElement, IsSegment, IsStart}
use Rattle.wasm_reader.specs.Reading.{bytes_at, name_at, byte_at, results_at, func_type_at, flag_at, limits_at, memory_at, table_at, global_type_at, import_kind_at, import_at, export_kind_at, export_at, global_at, element_at, segment_at, start_at}

never : {A P : Type 0} (f : ReadFault) (x : A) (rest : List ℕ) → (let bad : Reading A = Err f in bad) ≡ Ok (x, rest) → P
never f x rest e = absurd cc

-- ---- bytes and names

pub cut_is : (n : ℕ) (r x rest : List ℕ) → n ≤ length r → take n r ≡ x → drop n r ≡ rest → (length x ≡ n) × (r ≡ x ++ rest)
cut_is n r x rest long t d = (ap (λ (l : List ℕ). length l) (sym t) ∙ omega (arith, length-take n r), rw (← t, ← d) (sym (take-append-drop n r)))

pub cut_again : (x rest : List ℕ) → leb (length x) (length (x ++ rest)) ≡ true
cut_again x rest = le-leb (length x) (length (x ++ rest)) (omega (arith, length-append x rest))

pub bytes_exact : (scope : Scope) → IsExact (bytes_at scope) AreBytes
unfolding bytes_at
bytes_exact scope = record {
  sound = λ bytes rest x e.
      let a = bind_ok (u32_at scope bytes) (λ n. cond (leb n.0 (length n.1)) (Ok (take n.0 n.1, drop n.0 n.1)) (Err (short_of scope))) (x, rest) e in
      let g = needs_ok (leb a.0.0 (length a.0.1)) (short_of scope) (Ok (take a.0.0 a.0.1, drop a.0.0 a.0.1)) (x, rest) a.2 in
      let same = pair_is (take a.0.0 a.0.1) x (drop a.0.0 a.0.1) rest g.1 in
      let cut = cut_is a.0.0 a.0.1 x rest (leb-true a.0.0 (length a.0.1) g.0) same.0 same.1 in
      subst (λ (p : ℕ × List ℕ). IsU32 bytes p.0 p.1) (ap2_pair (sym cut.0) cut.1) ((u32_exact scope).sound bytes a.0.1 a.0.0 a.1);
  complete = λ bytes rest x h.
      let n = (u32_exact scope).complete bytes (x ++ rest) (length x) h in
      rw (n, cut_again x rest, take_at x rest (length x) refl, drop_at x rest (length x) refl) refl;
}

pub name_exact : (scope : Scope) → IsExact (name_at scope) IsName
unfolding name_at
name_exact scope = record {
  sound = λ bytes rest x e.
      let a = bind_ok (u32_at scope bytes) (λ n. cond (leb n.0 (length n.1)) (cond (is_utf8 (take n.0 n.1)) (Ok (take n.0 n.1, drop n.0 n.1)) (Err (fault_at BadName scope n.1))) (Err (short_of scope))) (x, rest) e in
      let g = needs_ok (leb a.0.0 (length a.0.1)) (short_of scope) (cond (is_utf8 (take a.0.0 a.0.1)) (Ok (take a.0.0 a.0.1, drop a.0.0 a.0.1)) (Err (fault_at BadName scope a.0.1))) (x, rest) a.2 in
      let t = needs_ok (is_utf8 (take a.0.0 a.0.1)) (fault_at BadName scope a.0.1) (Ok (take a.0.0 a.0.1, drop a.0.0 a.0.1)) (x, rest) g.1 in
      let same = pair_is (take a.0.0 a.0.1) x (drop a.0.0 a.0.1) rest t.1 in
      let cut = cut_is a.0.0 a.0.1 x rest (leb-true a.0.0 (length a.0.1) g.0) same.0 same.1 in
      (subst (λ (p : ℕ × List ℕ). IsU32 bytes p.0 p.1) (ap2_pair (sym cut.0) cut.1) ((u32_exact scope).sound bytes a.0.1 a.0.0 a.1), subst (λ (l : List ℕ). IsUtf8 l) same.0 (IsUtf8-from_is_utf8 (take a.0.0 a.0.1) t.0));
  complete = λ bytes rest x h.
      let n = (u32_exact scope).complete bytes (x ++ rest) (length x) h.0 in
      let text = is_utf8-from_IsUtf8 x h.1 in
      rw (n, cut_again x rest, take_at x rest (length x) refl, drop_at x rest (length x) refl, text) refl;
}

-- ---- types

pub byte_sound : (byte : ℕ) (scope : Scope) (bytes rest : List ℕ) → byte_at byte scope bytes ≡ Ok rest → bytes ≡ byte ∷ rest
unfolding byte_at
byte_sound byte scope [] rest e = absurd cc
byte_sound byte scope (b ∷ bytes) rest e =
    let g = needs_ok (eqb b byte) (fault_at BadForm scope (b ∷ bytes)) (Ok bytes) rest e in
    let same : bytes ≡ rest = ok_is bytes rest g.1 in
    let first = eqb-true b byte g.0 in
    rw (first, same) refl

pub byte_complete : (byte : ℕ) (scope : Scope) (bytes rest : List ℕ) → bytes ≡ byte ∷ rest → byte_at byte scope bytes ≡ Ok rest
unfolding byte_at
byte_complete byte scope bytes rest h = let t = eq-eqb byte byte refl in rw (h, t) refl

-- a byte that is zero or one
abbrev IsFlag : List ℕ → Bool → List ℕ → Type 0
IsFlag bytes b rest = bytes ≡ flag_byte b ∷ rest

flag_sound : (scope : Scope) (bytes rest : List ℕ) (x : Bool) → flag_at scope bytes ≡ Ok (x, rest) → IsFlag bytes x rest
unfolding flag_at
flag_sound scope [] rest x e = absurd cc
flag_sound scope (b ∷ bytes) rest x e = (
    choice {T = Reading Bool} b 0x00 (Ok (false, bytes)) _ (Ok (x, rest)) (λ k. k ∷ bytes ≡ flag_byte x ∷ rest) (λ e'. let same = pair_is false x bytes rest e' in rw (← same.0, same.1) refl) (
    choice {T = Reading Bool} b 0x01 (Ok (true, bytes)) _ (Ok (x, rest)) (λ k. k ∷ bytes ≡ flag_byte x ∷ rest) (λ e'. let same = pair_is true x bytes rest e' in rw (← same.0, same.1) refl) (
    never (fault_at BadForm scope (b ∷ bytes)) x rest))) e

flag_complete : (scope : Scope) (bytes rest : List ℕ) (x : Bool) → IsFlag bytes x rest → flag_at scope bytes ≡ Ok (x, rest)
unfolding flag_at
flag_complete scope bytes rest false h = rw h refl
flag_complete scope bytes rest true h = rw h refl

results_sound : (scope : Scope) (bytes rest : List ℕ) (x : Option ValueType) → results_at scope bytes ≡ Ok (x, rest) → IsVector 1 IsValueType bytes (option_to_list x) rest
unfolding results_at
results_sound scope bytes rest x e =
    let go : ℕ × List ℕ → Reading (Option ValueType) = λ n. cond (eqb n.0 0) (Ok (None, n.1)) (value_type_at scope n.1 >>= λ t. Ok (Some t.0, t.1)) in
    let a = bind_ok (count_at 1 scope bytes) go (x, rest) e in
    let count = (count_exact 1 scope).sound bytes a.0.1 a.0.0 a.1 in
    elim (cases_Bool (eqb a.0.0 0)) [
      | inl t ↦
          let same = pair_is None x a.0.1 rest (rw t at a.2) in
          let none = eqb-true a.0.0 0 t in
          let made : IsVector 1 IsValueType bytes (option_to_list None) a.0.1 = (omega arith, (a.0.1, subst (λ (k : ℕ). IsU32 bytes k a.0.1) none count.1, refl)) in
          subst (λ (p : Option ValueType × List ℕ). IsVector 1 IsValueType bytes (option_to_list p.0) p.1) (ap2_pair same.0 same.1) made
      | inr f ↦
          let b = bind_ok (value_type_at scope a.0.1) (λ t. Ok (Some t.0, t.1)) (x, rest) (rw f at a.2) in
          let same = pair_is (Some b.0.0) x b.0.1 rest b.2 in
          let not_none = eqb-false a.0.0 0 f in
          let one : a.0.0 ≡ 1 = omega (arith, count.0) in
          let made : IsVector 1 IsValueType bytes (option_to_list (Some b.0.0)) b.0.1 = (omega arith, (a.0.1, subst (λ (k : ℕ). IsU32 bytes k a.0.1) one count.1, (b.0.1, (value_type_exact scope).sound a.0.1 b.0.1 b.0.0 b.1, refl))) in
          subst (λ (p : Option ValueType × List ℕ). IsVector 1 IsValueType bytes (option_to_list p.0) p.1) (ap2_pair same.0 same.1) made
    ]

results_complete : (scope : Scope) (bytes rest : List ℕ) (x : Option ValueType) → IsVector 1 IsValueType bytes (option_to_list x) rest → results_at scope bytes ≡ Ok (x, rest)
unfolding results_at
results_complete scope bytes rest None h =
    let count = (count_exact 1 scope).complete bytes h.1.0 0 (h.0, h.1.1) in
    rw count (same_ok None None h.1.0 rest refl h.1.2)
results_complete scope bytes rest (Some t) h =
    let count = (count_exact 1 scope).complete bytes h.1.0 1 (h.0, h.1.1) in
    let kind = (value_type_exact scope).complete h.1.0 h.1.2.0 t h.1.2.1 in
    rw (count, kind) (same_ok (Some t) (Some t) h.1.2.0 rest refl h.1.2.2)

pub func_type_exact : (scope : Scope) → IsExact (func_type_at scope) IsFuncType
unfolding func_type_at
func_type_exact scope = record {
  sound = λ bytes rest x e.
      let a = bind_ok (byte_at 0x60 scope bytes) (λ start. vector_at 4294967295 value_type_at scope start >>= λ params. results_at scope params.1 >>= λ found. Ok (record { params = params.0; result = found.0 }, found.1)) (x, rest) e in
      let b = bind_ok (vector_at 4294967295 value_type_at scope a.0) (λ params. results_at scope params.1 >>= λ found. Ok (record { params = params.0; result = found.0 }, found.1)) (x, rest) a.2 in
      let c = bind_ok (results_at scope b.0.1) (λ found. Ok (record { params = b.0.0; result = found.0 }, found.1)) (x, rest) b.2 in
      let made : FuncType = record { params = b.0.0; result = c.0.0 } in
      let same = pair_is made x c.0.1 rest c.2 in
      subst (λ (p : FuncType × List ℕ). IsFuncType bytes p.0 p.1) (ap2_pair same.0 same.1) (a.0, b.0.1, byte_sound 0x60 scope bytes a.0 a.1, (vector_exact 4294967295 value_type_at IsValueType value_type_exact scope).sound a.0 b.0.1 b.0.0 b.1, results_sound scope b.0.1 c.0.1 c.0.0 c.1);
  complete = λ bytes rest x h.
      let start = byte_complete 0x60 scope bytes h.0 h.2 in
      let params = (vector_exact 4294967295 value_type_at IsValueType value_type_exact scope).complete h.0 h.1 x.params h.3 in
      let found = results_complete scope h.1 rest x.result h.4 in
      rw (start, params, found) refl;
}

-- ---- limits

-- what follows the least, by the flag
abbrev last_at : ℕ → Scope → Bool → ℕ × List ℕ → Reading Limits
last_at most scope flag low = cond flag (count_at most scope low.1 >>= λ high. Ok (record { least = low.0; most = Some high.0 }, high.1)) (Ok (record { least = low.0; most = None }, low.1))

last_sound : (least most : ℕ) (scope : Scope) (flag : Bool) (bytes mid rest : List ℕ) (low : ℕ × List ℕ) (x : Limits) → IsFlag bytes flag mid → IsCount least mid low.0 low.1 → last_at most scope flag low ≡ Ok (x, rest) → IsLimits least most bytes x rest
last_sound least most scope true bytes mid rest low x flag first e =
    let c = bind_ok (count_at most scope low.1) (λ high. Ok (record { least = low.0; most = Some high.0 }, high.1)) (x, rest) e in
    let made : Limits = record { least = low.0; most = Some c.0.0 } in
    let same = pair_is made x c.0.1 rest c.2 in
    let high = (count_exact most scope).sound low.1 c.0.1 c.0.0 c.1 in
    subst (λ (p : Limits × List ℕ). IsLimits least most bytes p.0 p.1) (ap2_pair same.0 same.1) ((mid, flag, (low.1, first.1, high.1)), first.0, high.0)
last_sound least most scope false bytes mid rest low x flag first e =
    let made : Limits = record { least = low.0; most = None } in
    let same = pair_is made x low.1 rest e in
    subst (λ (p : Limits × List ℕ). IsLimits least most bytes p.0 p.1) (ap2_pair same.0 same.1) ((mid, flag, first.1), first.0, tt)

limits_sound : (least most : ℕ) (scope : Scope) (bytes rest : List ℕ) (x : Limits) → limits_at least most scope bytes ≡ Ok (x, rest) → IsLimits least most bytes x rest
unfolding limits_at
limits_sound least most scope bytes rest x e =
    let a = bind_ok (flag_at scope bytes) (λ flag. count_at least scope flag.1 >>= λ low. last_at most scope flag.0 low) (x, rest) e in
    let b = bind_ok (count_at least scope a.0.1) (λ low. last_at most scope a.0.0 low) (x, rest) a.2 in
    last_sound least most scope a.0.0 bytes a.0.1 rest b.0 x (flag_sound scope bytes a.0.1 a.0.0 a.1) ((count_exact least scope).sound a.0.1 b.0.1 b.0.0 b.1) b.2

limits_read : (least most : ℕ) (scope : Scope) (bytes rest : List ℕ) (low : ℕ) (o : Option ℕ) → IsSize low o bytes rest → low ≤ least → IfSome o (λ n. n ≤ most) → limits_at least most scope bytes ≡ Ok (record { least = low; most = o }, rest)
unfolding limits_at
limits_read least most scope bytes rest low None h l m =
    let flag = flag_complete scope bytes h.0 false h.1 in
    let count = (count_exact least scope).complete h.0 rest low (l, h.2) in
    rw (flag, count) refl
limits_read least most scope bytes rest low (Some high) h l m =
    let flag = flag_complete scope bytes h.0 true h.1 in
    let first = (count_exact least scope).complete h.0 h.2.0 low (l, h.2.1) in
    let second = (count_exact most scope).complete h.2.0 rest high (m, h.2.2) in
    rw (flag, first, second) refl

limits_exact : (least most : ℕ) (scope : Scope) → IsExact (limits_at least most scope) (IsLimits least most)
limits_exact least most scope = record {
  sound = λ bytes rest x e. limits_sound least most scope bytes rest x e;
  complete = λ bytes rest x h. limits_read least most scope bytes rest x.least x.most h.0 h.1 h.2;
}

pub memory_exact : (scope : Scope) → IsExact (memory_at scope) IsMemory
unfolding memory_at
memory_exact scope = limits_exact 2048 65536 scope

pub table_exact : (scope : Scope) → IsExact (table_at scope) IsTable
unfolding table_at
table_exact scope = record {
  sound = λ bytes rest x e.
      let a = bind_ok (byte_at 0x70 scope bytes) (λ start. limits_at 65536 4294967295 scope start) (x, rest) e in
      (a.0, byte_sound 0x70 scope bytes a.0 a.1, limits_sound 65536 4294967295 scope a.0 rest x a.2);
  complete = λ bytes rest x h.
      let start = byte_complete 0x70 scope bytes h.0 h.1 in
      rw start ((limits_exact 65536 4294967295 scope).complete h.0 rest x h.2);
}

pub global_type_exact : (scope : Scope) → IsExact (global_type_at scope) IsGlobalType
unfolding global_type_at
global_type_exact scope = record {
  sound = λ bytes rest x e.
      let a = bind_ok (value_type_at scope bytes) (λ kind. flag_at scope kind.1 >>= λ flag. Ok (record { kind = kind.0; mutable = flag.0 }, flag.1)) (x, rest) e in
      let b = bind_ok (flag_at scope a.0.1) (λ flag. Ok (record { kind = a.0.0; mutable = flag.0 }, flag.1)) (x, rest) a.2 in
      let made : GlobalType = record { kind = a.0.0; mutable = b.0.0 } in
      let same = pair_is made x b.0.1 rest b.2 in
      let flag = flag_sound scope a.0.1 b.0.1 b.0.0 b.1 in
      subst (λ (p : GlobalType × List ℕ). IsGlobalType bytes p.0 p.1) (ap2_pair same.0 same.1) (subst (λ (r : List ℕ). IsValueType bytes a.0.0 r) flag ((value_type_exact scope).sound bytes a.0.1 a.0.0 a.1));
  complete = λ bytes rest x h.
      let kind = (value_type_exact scope).complete bytes (flag_byte x.mutable ∷ rest) x.kind h in
      let flag = flag_complete scope (flag_byte x.mutable ∷ rest) rest x.mutable refl in
      rw (kind, flag) refl;
}

-- ---- imports, globals, exports and segments

wrapped : {A B : Type 0} (read : List ℕ → Reading A) (Is : List ℕ → A → List ℕ → Type 0) (make : A → B) (x : B) (bytes rest : List ℕ) (P : B → List ℕ → Type 0) → IsExact read Is → ((y : A) (r : List ℕ) → Is bytes y r → P (make y) r)
    → (let r : Reading B = (read bytes >>= λ y. Ok (make y.0, y.1)) in r) ≡ Ok (x, rest) → P x rest
wrapped {A} {B} read Is make x bytes rest P exact h e =
    let a = bind_ok (read bytes) (λ y. Ok (make y.0, y.1)) (x, rest) e in
    let same = pair_is (make a.0.0) x a.0.1 rest a.2 in
    subst (λ (p : B × List ℕ). P p.0 p.1) (ap2_pair same.0 same.1) (h a.0.0 a.0.1 (exact.sound bytes a.0.1 a.0.0 a.1))

import_kind_sound : (scope : Scope) (bytes rest : List ℕ) (x : ImportKind) → import_kind_at scope bytes ≡ Ok (x, rest) → IsImportKind bytes x rest
unfolding import_kind_at
import_kind_sound scope [] rest x e = absurd cc
import_kind_sound scope (b ∷ bytes) rest x e = (
    choice {T = Reading ImportKind} b 0x00 (u32_at scope bytes >>= λ t. Ok (kinds.Function t.0, t.1)) _ (Ok (x, rest)) (λ k. IsImportKind (k ∷ bytes) x rest) (wrapped (u32_at scope) IsU32 kinds.Function x bytes rest (λ y r. IsImportKind (0x00 ∷ bytes) y r) (u32_exact scope) (λ y r h. (bytes, refl, h))) (
    choice {T = Reading ImportKind} b 0x01 (table_at scope bytes >>= λ t. Ok (kinds.Table t.0, t.1)) _ (Ok (x, rest)) (λ k. IsImportKind (k ∷ bytes) x rest) (wrapped (table_at scope) IsTable kinds.Table x bytes rest (λ y r. IsImportKind (0x01 ∷ bytes) y r) (table_exact scope) (λ y r h. (bytes, refl, h))) (
    choice {T = Reading ImportKind} b 0x02 (memory_at scope bytes >>= λ t. Ok (kinds.Memory t.0, t.1)) _ (Ok (x, rest)) (λ k. IsImportKind (k ∷ bytes) x rest) (wrapped (memory_at scope) IsMemory kinds.Memory x bytes rest (λ y r. IsImportKind (0x02 ∷ bytes) y r) (memory_exact scope) (λ y r h. (bytes, refl, h))) (
    choice {T = Reading ImportKind} b 0x03 (global_type_at scope bytes >>= λ t. Ok (kinds.Global t.0, t.1)) _ (Ok (x, rest)) (λ k. IsImportKind (k ∷ bytes) x rest) (wrapped (global_type_at scope) IsGlobalType kinds.Global x bytes rest (λ y r. IsImportKind (0x03 ∷ bytes) y r) (global_type_exact scope) (λ y r h. (bytes, refl, h))) (
    never (fault_at BadForm scope (b ∷ bytes)) x rest))))) e

import_kind_complete : (scope : Scope) (bytes rest : List ℕ) (x : ImportKind) → IsImportKind bytes x rest → import_kind_at scope bytes ≡ Ok (x, rest)
unfolding import_kind_at
import_kind_complete scope bytes rest (kinds.Function t) h = let r = (u32_exact scope).complete h.0 rest t h.2 in ap (import_kind_at scope) h.1 ∙ rw r refl
import_kind_complete scope bytes rest (kinds.Table t) h = let r = (table_exact scope).complete h.0 rest t h.2 in ap (import_kind_at scope) h.1 ∙ rw r refl
import_kind_complete scope bytes rest (kinds.Memory t) h = let r = (memory_exact scope).complete h.0 rest t h.2 in ap (import_kind_at scope) h.1 ∙ rw r refl
import_kind_complete scope bytes rest (kinds.Global t) h = let r = (global_type_exact scope).complete h.0 rest t h.2 in ap (import_kind_at scope) h.1 ∙ rw r refl

import_kind_exact : (scope : Scope) → IsExact (import_kind_at scope) IsImportKind
import_kind_exact scope = record { sound = λ bytes rest x e. import_kind_sound scope bytes rest x e; complete = λ bytes rest x h. import_kind_complete scope bytes rest x h }

export_kind_sound : (scope : Scope) (bytes rest : List ℕ) (x : ExportKind) → export_kind_at scope bytes ≡ Ok (x, rest) → bytes ≡ export_byte x ∷ rest
unfolding export_kind_at
export_kind_sound scope [] rest x e = absurd cc
export_kind_sound scope (b ∷ bytes) rest x e = (
    choice {T = Reading ExportKind} b 0x00 (Ok (exports.Function, bytes)) _ (Ok (x, rest)) (λ k. k ∷ bytes ≡ export_byte x ∷ rest) (λ e'. let same = pair_is exports.Function x bytes rest e' in rw (← same.0, same.1) refl) (
    choice {T = Reading ExportKind} b 0x01 (Ok (exports.Table, bytes)) _ (Ok (x, rest)) (λ k. k ∷ bytes ≡ export_byte x ∷ rest) (λ e'. let same = pair_is exports.Table x bytes rest e' in rw (← same.0, same.1) refl) (
    choice {T = Reading ExportKind} b 0x02 (Ok (exports.Memory, bytes)) _ (Ok (x, rest)) (λ k. k ∷ bytes ≡ export_byte x ∷ rest) (λ e'. let same = pair_is exports.Memory x bytes rest e' in rw (← same.0, same.1) refl) (
    choice {T = Reading ExportKind} b 0x03 (Ok (exports.Global, bytes)) _ (Ok (x, rest)) (λ k. k ∷ bytes ≡ export_byte x ∷ rest) (λ e'. let same = pair_is exports.Global x bytes rest e' in rw (← same.0, same.1) refl) (
    never (fault_at BadForm scope (b ∷ bytes)) x rest))))) e

export_kind_complete : (scope : Scope) (rest : List ℕ) (x : ExportKind) → export_kind_at scope (export_byte x ∷ rest) ≡ Ok (x, rest)
unfolding export_kind_at
export_kind_complete scope rest exports.Function = refl
export_kind_complete scope rest exports.Table = refl
export_kind_complete scope rest exports.Memory = refl
export_kind_complete scope rest exports.Global = refl

pub import_exact : (scope : Scope) → IsExact (import_at scope) IsImport
unfolding import_at
import_exact scope = record {
  sound = λ bytes rest x e.
      let a = bind_ok (name_at scope bytes) (λ first. name_at scope first.1 >>= λ second. import_kind_at scope second.1 >>= λ kind. Ok (record { «module» = first.0; name = second.0; kind = kind.0 }, kind.1)) (x, rest) e in
      let b = bind_ok (name_at scope a.0.1) (λ second. import_kind_at scope second.1 >>= λ kind. Ok (record { «module» = a.0.0; name = second.0; kind = kind.0 }, kind.1)) (x, rest) a.2 in
      let c = bind_ok (import_kind_at scope b.0.1) (λ kind. Ok (record { «module» = a.0.0; name = b.0.0; kind = kind.0 }, kind.1)) (x, rest) b.2 in
      let made : Import = record { «module» = a.0.0; name = b.0.0; kind = c.0.0 } in
      let same = pair_is made x c.0.1 rest c.2 in
      subst (λ (p : Import × List ℕ). IsImport bytes p.0 p.1) (ap2_pair same.0 same.1) (a.0.1, b.0.1, (name_exact scope).sound bytes a.0.1 a.0.0 a.1, (name_exact scope).sound a.0.1 b.0.1 b.0.0 b.1, import_kind_sound scope b.0.1 c.0.1 c.0.0 c.1);
  complete = λ bytes rest x h.
      let first = (name_exact scope).complete bytes h.0 x.module h.2 in
      let second = (name_exact scope).complete h.0 h.1 x.name h.3 in
      let kind = import_kind_complete scope h.1 rest x.kind h.4 in
      rw (first, second, kind) refl;
}

pub export_exact : (scope : Scope) → IsExact (export_at scope) IsExport
unfolding export_at
export_exact scope = record {
  sound = λ bytes rest x e.
      let a = bind_ok (name_at scope bytes) (λ name. export_kind_at scope name.1 >>= λ kind. u32_at scope kind.1 >>= λ index. Ok (record { name = name.0; kind = kind.0; index = index.0 }, index.1)) (x, rest) e in
      let b = bind_ok (export_kind_at scope a.0.1) (λ kind. u32_at scope kind.1 >>= λ index. Ok (record { name = a.0.0; kind = kind.0; index = index.0 }, index.1)) (x, rest) a.2 in
      let c = bind_ok (u32_at scope b.0.1) (λ index. Ok (record { name = a.0.0; kind = b.0.0; index = index.0 }, index.1)) (x, rest) b.2 in
      let made : Export = record { name = a.0.0; kind = b.0.0; index = c.0.0 } in
      let same = pair_is made x c.0.1 rest c.2 in
      let kind = export_kind_sound scope a.0.1 b.0.1 b.0.0 b.1 in
      subst (λ (p : Export × List ℕ). IsExport bytes p.0 p.1) (ap2_pair same.0 same.1) (b.0.1, subst (λ (r : List ℕ). IsName bytes a.0.0 r) kind ((name_exact scope).sound bytes a.0.1 a.0.0 a.1), (u32_exact scope).sound b.0.1 c.0.1 c.0.0 c.1);
  complete = λ bytes rest x h.
      let name = (name_exact scope).complete bytes (export_byte x.kind ∷ h.0) x.name h.1 in
      let index = (u32_exact scope).complete h.0 rest x.index h.2 in
      rw (name, export_kind_complete scope h.0 x.kind, index) refl;
}

pub global_exact : (scope : Scope) → IsExact (global_at scope) IsGlobal
unfolding global_at
global_exact scope = record {
  sound = λ bytes rest x e.
      let a = bind_ok (global_type_at scope bytes) (λ kind. expression_at scope kind.1 >>= λ start. Ok (record { kind = kind.0; start = start.0 }, start.1)) (x, rest) e in
      let b = bind_ok (expression_at scope a.0.1) (λ start. Ok (record { kind = a.0.0; start = start.0 }, start.1)) (x, rest) a.2 in
      let made : GlobalItem = record { kind = a.0.0; start = b.0.0 } in
      let same = pair_is made x b.0.1 rest b.2 in
      subst (λ (p : GlobalItem × List ℕ). IsGlobal bytes p.0 p.1) (ap2_pair same.0 same.1) (a.0.1, (global_type_exact scope).sound bytes a.0.1 a.0.0 a.1, (expression_exact scope).sound a.0.1 b.0.1 b.0.0 b.1);
  complete = λ bytes rest x h.
      let kind = (global_type_exact scope).complete bytes h.0 x.kind h.1 in
      let start = (expression_exact scope).complete h.0 rest x.start h.2 in
      rw (kind, start) refl;
}

pub element_exact : (scope : Scope) → IsExact (element_at scope) IsElement
unfolding element_at
element_exact scope = record {
  sound = λ bytes rest x e.
      let a = bind_ok (u32_at scope bytes) (λ table. expression_at scope table.1 >>= λ offset. vector_at 4294967295 u32_at scope offset.1 >>= λ functions. Ok (record { table = table.0; offset = offset.0; functions = functions.0 }, functions.1)) (x, rest) e in
      let b = bind_ok (expression_at scope a.0.1) (λ offset. vector_at 4294967295 u32_at scope offset.1 >>= λ functions. Ok (record { table = a.0.0; offset = offset.0; functions = functions.0 }, functions.1)) (x, rest) a.2 in
      let c = bind_ok (vector_at 4294967295 u32_at scope b.0.1) (λ functions. Ok (record { table = a.0.0; offset = b.0.0; functions = functions.0 }, functions.1)) (x, rest) b.2 in
      let made : Element = record { table = a.0.0; offset = b.0.0; functions = c.0.0 } in
      let same = pair_is made x c.0.1 rest c.2 in
      subst (λ (p : Element × List ℕ). IsElement bytes p.0 p.1) (ap2_pair same.0 same.1) (a.0.1, b.0.1, (u32_exact scope).sound bytes a.0.1 a.0.0 a.1, (expression_exact scope).sound a.0.1 b.0.1 b.0.0 b.1, (vector_exact 4294967295 u32_at IsU32 u32_exact scope).sound b.0.1 c.0.1 c.0.0 c.1);
  complete = λ bytes rest x h.
      let table = (u32_exact scope).complete bytes h.0 x.table h.2 in
      let offset = (expression_exact scope).complete h.0 h.1 x.offset h.3 in
      let functions = (vector_exact 4294967295 u32_at IsU32 u32_exact scope).complete h.1 rest x.functions h.4 in
      rw (table, offset, functions) refl;
}

pub segment_exact : (scope : Scope) → IsExact (segment_at scope) IsSegment
unfolding segment_at
segment_exact scope = record {
  sound = λ bytes rest x e.
      let a = bind_ok (u32_at scope bytes) (λ memory. expression_at scope memory.1 >>= λ offset. bytes_at scope offset.1 >>= λ inside. Ok (record { memory = memory.0; offset = offset.0; bytes = inside.0 }, inside.1)) (x, rest) e in
      let b = bind_ok (expression_at scope a.0.1) (λ offset. bytes_at scope offset.1 >>= λ inside. Ok (record { memory = a.0.0; offset = offset.0; bytes = inside.0 }, inside.1)) (x, rest) a.2 in
      let c = bind_ok (bytes_at scope b.0.1) (λ inside. Ok (record { memory = a.0.0; offset = b.0.0; bytes = inside.0 }, inside.1)) (x, rest) b.2 in
      let made : Segment = record { memory = a.0.0; offset = b.0.0; bytes = c.0.0 } in
      let same = pair_is made x c.0.1 rest c.2 in
      subst (λ (p : Segment × List ℕ). IsSegment bytes p.0 p.1) (ap2_pair same.0 same.1) (a.0.1, b.0.1, (u32_exact scope).sound bytes a.0.1 a.0.0 a.1, (expression_exact scope).sound a.0.1 b.0.1 b.0.0 b.1, (bytes_exact scope).sound b.0.1 c.0.1 c.0.0 c.1);
  complete = λ bytes rest x h.
      let memory = (u32_exact scope).complete bytes h.0 x.memory h.2 in
      let offset = (expression_exact scope).complete h.0 h.1 x.offset h.3 in
      let inside = (bytes_exact scope).complete h.1 rest x.bytes h.4 in
      rw (memory, offset, inside) refl;
}

start_complete : (scope : Scope) (bytes rest : List ℕ) (x : Option ℕ) → IsStart bytes x rest → start_at scope bytes ≡ Ok (x, rest)
unfolding start_at
start_complete scope bytes rest None h = absurd h
start_complete scope bytes rest (Some f) h = let r = (u32_exact scope).complete bytes rest f h in rw r refl

pub start_exact : (scope : Scope) → IsExact (start_at scope) IsStart
unfolding start_at
start_exact scope = record {
  sound = λ bytes rest x e. wrapped (u32_at scope) IsU32 (λ f. Some f) x bytes rest (λ y r. IsStart bytes y r) (u32_exact scope) (λ y r h. h) e;
  complete = λ bytes rest x h. start_complete scope bytes rest x h;
}
