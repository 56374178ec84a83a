-- The text of a module is in the grammar, and the shortest there.
use Rattle.std.proofs.Common.{◌≡◌, ℕ, zero, suc, ◌+◌, ◌≤◌, List, [], ◌∷◌, ◌++◌, length, Option, Some, None, Result, Ok, Err, refl, sym, subst, arith, inl, inr}
use Rattle.std.specs.Prelude.{IfOk}
use Rattle.std.proofs.lemmas.List.{length-append, append-nil}
use Rattle.wasm_types.specs.declared.modules.Module.{Module}
use Rattle.wasm_code.specs.Grammar.{IsU32, IsVector}
use Rattle.wasm_reader.specs.Grammar.{IsList, IsTable, IsMemory, IsFuncType, IsImport, IsGlobal, IsExport, IsElement, IsSegment, IsSized, AreCode, IsStart, AreCustoms, Section, ◌>>◌, Ends, AreSections, IsModule}
use Rattle.wasm_writer.specs.Numbers.{number_text}
use Rattle.wasm_writer.specs.Spelled.{vector_text, bytes_text, func_type_text, limits_text, table_text, import_text, global_text, export_text, element_text, segment_text, sized_body_text, section_text, list_text, start_text, module_text}
use Rattle.wasm_writer.specs.Shortest.{ReadsBack, IsShortest}
use Rattle.wasm_writer.proofs.Best.{Octets, octets_of, IsBest, AreBest, best_behind}
use Rattle.wasm_writer.proofs.BestNumbers.{u32_best}
use Rattle.wasm_writer.proofs.BestParts.{vector_best, bytes_best, sized_best, func_type_best, memory_best, table_best}
use Rattle.wasm_writer.proofs.BestItems.{import_best, global_best, export_best, element_best, segment_best}
use Rattle.wasm_writer.proofs.BestCode.{code_best}

-- ---- custom sections, which are left out

customs_least : (n : ℕ) (bytes rest : List ℕ) → Octets bytes → AreCustoms n bytes rest → (length rest ≤ length bytes) × Octets rest
customs_least zero bytes rest all is = (subst (λ (b : List ℕ). length b ≤ length bytes) is (omega arith), subst Octets is all)
customs_least (suc n) bytes rest all is =
    let one = is.1 in
    let tail : Octets (0 ∷ one.0) = subst Octets one.4 all in
    let inside = bytes_best one.1 one.0 is.0 tail.1 one.5 in
    let longer : length bytes ≡ suc (length one.0) = subst (λ (b : List ℕ). length b ≡ suc (length one.0)) (sym one.4) refl in
    let others = customs_least n is.0 rest inside.octets is.2 in
    (omega (arith, others.0, inside.fewest, longer), others.1)

-- ---- sections

-- one that has nothing to say is left out
left_best : {A : Type 0} (id : ℕ) (none : A) (Is : List ℕ → A → List ℕ → Type 0) (text : List ℕ) → IsBest (λ bytes rest. Is bytes none rest) text → IsBest (Section id none Is none) []
left_best {A} id none Is text best bytes rest all is =
    let customs = customs_least is.0 bytes is.1 all is.2 in
    elim is.3 [
      | inl nothing ↦ record {
        spells = λ after. (0, after, refl, inl (refl, refl));
        fewest = subst (λ (b : List ℕ). 0 + length b ≤ length bytes) nothing.1 (omega (arith, customs.0));
        octets = subst Octets nothing.1 customs.1;
      }
      | inr written ↦
          let one = best_behind (λ b r. IsSized Is b none r) id (bytes_text text) (sized_best Is none text best) is.1 rest customs.1 written in
          record {
            spells = λ after. (0, after, refl, inl (refl, refl));
            fewest = omega (arith, one.fewest, customs.0);
            octets = one.octets;
          }
    ]

kept_best : {A : Type 0} (id : ℕ) (none x : A) (Is : List ℕ → A → List ℕ → Type 0) (text : List ℕ) → (x ≡ none → ⊥) → IsBest (λ bytes rest. Is bytes x rest) text → IsBest (Section id none Is x) (section_text id text)
unfolding section_text
kept_best {A} id none x Is text says best bytes rest all is =
    let customs = customs_least is.0 bytes is.1 all is.2 in
    elim is.3 [
      | inl nothing ↦ absurd (says nothing.0)
      | inr written ↦
          let one = best_behind (λ b r. IsSized Is b x r) id (bytes_text text) (sized_best Is x text best) is.1 rest customs.1 written in
          record {
            spells = λ after. (0, (id ∷ bytes_text text) ++ after, refl, inr (one.spells after));
            fewest = omega (arith, one.fewest, customs.0);
            octets = one.octets;
          }
    ]

some_items : {A : Type 0} (x : A) (xs : List A) → x ∷ xs ≡ [] → ⊥
some_items x xs e = absurd cc

list_best : {A : Type 0} (id : ℕ) (Is : List ℕ → List A → List ℕ → Type 0) (text : A → List ℕ) → AreBest Is (vector_text text) → (xs : List A) → IsBest (Section id [] Is xs) (list_text id text xs)
unfolding list_text
list_best {A} id Is text best [] = left_best id [] Is (vector_text text []) (best [])
list_best {A} id Is text best (x ∷ xs) = kept_best id [] (x ∷ xs) Is (vector_text text (x ∷ xs)) (some_items x xs) (best (x ∷ xs))

none_starts : IsBest (λ bytes rest. IsStart bytes None rest) []
none_starts bytes rest all is = absurd is

some_start : (f : ℕ) → (let start : Option ℕ = Some f in start) ≡ None → ⊥
some_start f e = absurd cc

start_best : (start : Option ℕ) → IsBest (Section 8 None IsStart start) (start_text start)
unfolding start_text
start_best None = left_best 8 None IsStart [] none_starts
start_best (Some f) = kept_best 8 None (Some f) IsStart (number_text f) (some_start f) (u32_best f)

-- ---- one after another, up to the end

record Closes (Are : List ℕ → List ℕ → Type 0) (text : List ℕ) : Type 0 where
  pub made : (bytes : List ℕ) → Octets bytes → Are bytes [] → Are text [] × (length text ≤ length bytes)

closes_last : (First : List ℕ → List ℕ → Type 0) (a : List ℕ) → IsBest First a → Closes (First >> Ends) a
closes_last First a best = record {
  made = λ bytes all is.
      let one = best bytes is.0 all is.1 in
      (([], subst (λ (whole : List ℕ). First whole []) (append-nil a) (one.spells []), (0, refl, refl)), omega (arith, one.fewest));
}

closes_after : (First Second : List ℕ → List ℕ → Type 0) (a b : List ℕ) → IsBest First a → Closes Second b → Closes (First >> Second) (a ++ b)
closes_after First Second a b best others = record {
  made = λ bytes all is.
      let one = best bytes is.0 all is.1 in
      let two = others.made is.0 one.octets is.2 in
      ((b, one.spells b, two.0), omega (arith, one.fewest, two.1, length-append a b));
}

-- the text behind magic and version
abbrev sections_text : Module → List ℕ
sections_text m =
    list_text 1 func_type_text m.types
    ++ (list_text 2 import_text m.imports
    ++ (list_text 3 number_text m.functions
    ++ (list_text 4 table_text m.tables
    ++ (list_text 5 limits_text m.memories
    ++ (list_text 6 global_text m.globals
    ++ (list_text 7 export_text m.exports
    ++ (start_text m.start
    ++ (list_text 9 element_text m.elements
    ++ (list_text 10 sized_body_text m.code
    ++ list_text 11 segment_text m.segments)))))))))

sections_close : (m : Module) → Closes (AreSections m) (sections_text m)
sections_close m =
    closes_after _ _ _ _ (list_best 1 (IsVector 65536 IsFuncType) func_type_text (vector_best 65536 IsFuncType func_type_text func_type_best) m.types) (
    closes_after _ _ _ _ (list_best 2 (IsList IsImport) import_text (vector_best 4294967295 IsImport import_text import_best) m.imports) (
    closes_after _ _ _ _ (list_best 3 (IsVector 65536 IsU32) number_text (vector_best 65536 IsU32 number_text u32_best) m.functions) (
    closes_after _ _ _ _ (list_best 4 (IsList IsTable) table_text (vector_best 4294967295 IsTable table_text table_best) m.tables) (
    closes_after _ _ _ _ (list_best 5 (IsList IsMemory) limits_text (vector_best 4294967295 IsMemory limits_text memory_best) m.memories) (
    closes_after _ _ _ _ (list_best 6 (IsVector 4096 IsGlobal) global_text (vector_best 4096 IsGlobal global_text global_best) m.globals) (
    closes_after _ _ _ _ (list_best 7 (IsList IsExport) export_text (vector_best 4294967295 IsExport export_text export_best) m.exports) (
    closes_after _ _ _ _ (start_best m.start) (
    closes_after _ _ _ _ (list_best 9 (IsList IsElement) element_text (vector_best 4294967295 IsElement element_text element_best) m.elements) (
    closes_after _ _ _ _ (list_best 10 (AreCode m.types m.functions) sized_body_text (code_best m.types m.functions) m.code) (
    closes_last _ _ (list_best 11 (IsList IsSegment) segment_text (vector_best 4294967295 IsSegment segment_text segment_best) m.segments)))))))))))

-- ---- modules

module_least : (m : Module) (other : List ℕ) → Octets other → IsModule other m → IsModule (module_text m) m × (length (module_text m) ≤ length other)
unfolding module_text
module_least m other all is =
    let start = is.sections.0 in
    let tail : Octets (0x00 ∷ 0x61 ∷ 0x73 ∷ 0x6D ∷ 0x01 ∷ 0x00 ∷ 0x00 ∷ 0x00 ∷ start) = subst Octets is.sections.1 all in
    let made = (sections_close m).made start tail.1.1.1.1.1.1.1.1 is.sections.2 in
    let longer : length other ≡ 8 + length start = subst (λ (b : List ℕ). length b ≡ 8 + length start) (sym is.sections.1) (omega arith) in (
      record {
        size = omega (arith, is.size, made.1, longer);
        sections = (sections_text m, refl, made.0);
        same_count = is.same_count;
      },
      omega (arith, made.1, longer),
    )

pub module_reads : (m : Module) → ReadsBack m (module_text m)
module_reads m other all is = (module_least m other (octets_of other all) is).0

pub module_shortest : (m : Module) → IsShortest m (module_text m)
module_shortest m other all is = (module_least m other (octets_of other all) is).1

-- what holds of each value that is the text
pub written : {T E : Type 0} (items : T → List ℕ) (m : Module) (Holds : List ℕ → Type 0) (r : Result T E) → Holds (module_text m) → IfOk r (λ bytes. items bytes ≡ module_text m) → IfOk r (λ bytes. Holds (items bytes))
written items m Holds (Ok bytes) holds is = subst Holds (sym is) holds
written items m Holds (Err e) holds is = tt
