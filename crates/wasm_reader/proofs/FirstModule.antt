-- A module tells its first fault.
use Rattle.std.proofs.Common.{◌≡◌, ℕ, ◌-◌, ◌<◌, ◌≤◌, ◌&&◌, true, min, eqb, ltb, List, [], ◌∷◌, ◌++◌, length, None, Result, Ok, Err, refl, sym, ap, subst, ◌∙◌, arith, ◌⊎◌, inl, inr, append_assoc}
use Rattle.std.proofs.lemmas.Bool.{cases_Bool, ltb-true, ltb-false, lt-ltb, le-ltb}
use Rattle.std.proofs.lemmas.List.{append-nil, length-append}
use Rattle.wasm_types.specs.declared.modules.Module.{Module}
use Rattle.wasm_code.specs.declared.fault.ReadKind.{ReadKind}
use Rattle.wasm_code.specs.declared.fault.ReadKind.TheVariants.{Truncated, BadMagic, BadVersion, SectionSize, BadLeb, TooLarge, CountMismatch}
use Rattle.wasm_code.specs.declared.fault.ReadFault.{ReadFault}
use Rattle.wasm_code.specs.declared.scope.Scope.{Scope}
use Rattle.wasm_code.specs.Reading.{◌>>=◌, fault_at, short_of, u32_at, vector_at}
use Rattle.wasm_code.proofs.FirstNumbers.{u32_reads}
use Rattle.wasm_code.proofs.FirstInstructions.{vector_reads}
use Rattle.wasm_reader.specs.Grammar.{IsModule}
use Rattle.wasm_reader.specs.Reading.{func_type_at, import_at, table_at, memory_at, global_at, export_at, start_at, element_at, segment_at}
use Rattle.wasm_reader.specs.Sections.{code_section_at, magic_at, version_at, end_at, sections_at, whole_at, module_at}
use Rattle.wasm_reader.specs.FirstFault.{IsUnfinished, IsOutgrown, IsNotMended, IsCutCount, IsFirstBut, SectionsTellFirst, EndsAt, StillTells, IsFirstFault}
use Rattle.wasm_reader.proofs.ExactModule.{module_complete}
use Rattle.wasm_reader.proofs.FirstParts.{func_type_reads, import_reads, table_reads, memory_reads, global_reads, export_reads, start_reads, element_reads, segment_reads}
use Rattle.wasm_reader.proofs.FirstCarried.{failed, same_fault, fault_no_value, Any, any, carry, tells_plainly}
use Rattle.wasm_reader.proofs.FirstCode.{code_tells}
use Rattle.wasm_reader.proofs.FirstSections.{Chain, section_then, section_chain, end_chain, unfinished_cut, unfinished_as}

-- ---- the sections from each number on, for what was read before

abbrev from_12 : Module → Scope → List ℕ → Result Module ReadFault
from_12 m s b = end_at s m b

abbrev from_11 : Module → Scope → List ℕ → Result Module ReadFault
from_11 m = section_then 11 [] (vector_at 4294967295 segment_at) (λ x. from_12 (record m { segments = x }))

abbrev from_10 : Module → Scope → List ℕ → Result Module ReadFault
from_10 m = section_then 10 [] (code_section_at m.types m.functions) (λ x. from_11 (record m { code = x }))

abbrev from_9 : Module → Scope → List ℕ → Result Module ReadFault
from_9 m = section_then 9 [] (vector_at 4294967295 element_at) (λ x. from_10 (record m { elements = x }))

abbrev from_8 : Module → Scope → List ℕ → Result Module ReadFault
from_8 m = section_then 8 None start_at (λ x. from_9 (record m { start = x }))

abbrev from_7 : Module → Scope → List ℕ → Result Module ReadFault
from_7 m = section_then 7 [] (vector_at 4294967295 export_at) (λ x. from_8 (record m { exports = x }))

abbrev from_6 : Module → Scope → List ℕ → Result Module ReadFault
from_6 m = section_then 6 [] (vector_at 4096 global_at) (λ x. from_7 (record m { globals = x }))

abbrev from_5 : Module → Scope → List ℕ → Result Module ReadFault
from_5 m = section_then 5 [] (vector_at 4294967295 memory_at) (λ x. from_6 (record m { memories = x }))

abbrev from_4 : Module → Scope → List ℕ → Result Module ReadFault
from_4 m = section_then 4 [] (vector_at 4294967295 table_at) (λ x. from_5 (record m { tables = x }))

abbrev from_3 : Module → Scope → List ℕ → Result Module ReadFault
from_3 m = section_then 3 [] (vector_at 65536 u32_at) (λ x. from_4 (record m { functions = x }))

abbrev from_2 : Module → Scope → List ℕ → Result Module ReadFault
from_2 m = section_then 2 [] (vector_at 4294967295 import_at) (λ x. from_3 (record m { imports = x }))

abbrev from_1 : Module → Scope → List ℕ → Result Module ReadFault
from_1 m = section_then 1 [] (vector_at 65536 func_type_at) (λ x. from_2 (record m { types = x }))

chain_12 : (m : Module) → Chain (from_12 m)
chain_12 m = end_chain m

chain_11 : (m : Module) → Chain (from_11 m)
chain_11 m = section_chain 11 [] (vector_at 4294967295 segment_at) (λ x. from_12 (record m { segments = x })) (tells_plainly (vector_at 4294967295 segment_at) (vector_reads 4294967295 segment_at segment_reads)) (λ x. chain_12 (record m { segments = x }))

chain_10 : (m : Module) → Chain (from_10 m)
chain_10 m = section_chain 10 [] (code_section_at m.types m.functions) (λ x. from_11 (record m { code = x })) (code_tells m.types m.functions) (λ x. chain_11 (record m { code = x }))

chain_9 : (m : Module) → Chain (from_9 m)
chain_9 m = section_chain 9 [] (vector_at 4294967295 element_at) (λ x. from_10 (record m { elements = x })) (tells_plainly (vector_at 4294967295 element_at) (vector_reads 4294967295 element_at element_reads)) (λ x. chain_10 (record m { elements = x }))

chain_8 : (m : Module) → Chain (from_8 m)
chain_8 m = section_chain 8 None start_at (λ x. from_9 (record m { start = x })) (tells_plainly start_at start_reads) (λ x. chain_9 (record m { start = x }))

chain_7 : (m : Module) → Chain (from_7 m)
chain_7 m = section_chain 7 [] (vector_at 4294967295 export_at) (λ x. from_8 (record m { exports = x })) (tells_plainly (vector_at 4294967295 export_at) (vector_reads 4294967295 export_at export_reads)) (λ x. chain_8 (record m { exports = x }))

chain_6 : (m : Module) → Chain (from_6 m)
chain_6 m = section_chain 6 [] (vector_at 4096 global_at) (λ x. from_7 (record m { globals = x })) (tells_plainly (vector_at 4096 global_at) (vector_reads 4096 global_at global_reads)) (λ x. chain_7 (record m { globals = x }))

chain_5 : (m : Module) → Chain (from_5 m)
chain_5 m = section_chain 5 [] (vector_at 4294967295 memory_at) (λ x. from_6 (record m { memories = x })) (tells_plainly (vector_at 4294967295 memory_at) (vector_reads 4294967295 memory_at memory_reads)) (λ x. chain_6 (record m { memories = x }))

chain_4 : (m : Module) → Chain (from_4 m)
chain_4 m = section_chain 4 [] (vector_at 4294967295 table_at) (λ x. from_5 (record m { tables = x })) (tells_plainly (vector_at 4294967295 table_at) (vector_reads 4294967295 table_at table_reads)) (λ x. chain_5 (record m { tables = x }))

chain_3 : (m : Module) → Chain (from_3 m)
chain_3 m = section_chain 3 [] (vector_at 65536 u32_at) (λ x. from_4 (record m { functions = x })) (tells_plainly (vector_at 65536 u32_at) (vector_reads 65536 u32_at u32_reads)) (λ x. chain_4 (record m { functions = x }))

chain_2 : (m : Module) → Chain (from_2 m)
chain_2 m = section_chain 2 [] (vector_at 4294967295 import_at) (λ x. from_3 (record m { imports = x })) (tells_plainly (vector_at 4294967295 import_at) (vector_reads 4294967295 import_at import_reads)) (λ x. chain_3 (record m { imports = x }))

chain_1 : (m : Module) → Chain (from_1 m)
chain_1 m = section_chain 1 [] (vector_at 65536 func_type_at) (λ x. from_2 (record m { types = x })) (tells_plainly (vector_at 65536 func_type_at) (vector_reads 65536 func_type_at func_type_reads)) (λ x. chain_2 (record m { types = x }))

abbrev empty : Module
empty = record { types = []; imports = []; functions = []; tables = []; memories = []; globals = []; exports = []; start = None; elements = []; code = []; segments = [] }

pub sections_chain : Chain sections_at
unfolding sections_at
sections_chain = chain_1 empty

-- ---- the header

cut_here : (read : Scope → List ℕ → Result Module ReadFault) (bytes : List ℕ) → ((s : Scope) → read s bytes ≡ Err (short_of s)) → (scope : Scope) (fault : ReadFault) → read scope bytes ≡ Err fault → IsFirstBut true IsUnfinished read scope bytes fault
cut_here read bytes cut scope fault e = record {
  front = bytes;
  tail = [];
  parts = sym (append-nil bytes);
  before = inl (λ s. unfinished_cut s (read s bytes) (cut s));
  there = inl (refl, inl (same_fault {A = Module} fault (short_of scope) (sym e ∙ cut scope)));
}

wrong_here : (read : Scope → List ℕ → Result Module ReadFault) (kind : ReadKind) (bytes : List ℕ) → ((s : Scope) → read s [] ≡ Err (short_of s)) → ((s : Scope) (more : List ℕ) → read s (bytes ++ more) ≡ Err (fault_at kind s (bytes ++ more))) → (scope : Scope) (fault : ReadFault) → read scope bytes ≡ Err fault → IsFirstBut true IsUnfinished read scope bytes fault
wrong_here read kind bytes none wrong scope fault e =
    let here : read scope bytes ≡ Err (fault_at kind scope bytes) = ap (read scope) (sym (append-nil bytes)) ∙ wrong scope [] ∙ ap (λ (l : List ℕ). failed {A = Module} (fault_at kind scope l)) (append-nil bytes) in
    record {
      front = [];
      tail = bytes;
      parts = refl;
      before = inl (λ s. unfinished_cut s (read s []) (none s));
      there = inr (kind, same_fault {A = Module} fault (fault_at kind scope bytes) (sym e ∙ here), inl wrong);
    }

passed_here : (next whole : Scope → List ℕ → Result Module ReadFault) (taken : List ℕ) → ((s : Scope) (bytes : List ℕ) → whole s (taken ++ bytes) ≡ next s bytes) → SectionsTellFirst IsUnfinished next → (scope : Scope) (bytes : List ℕ) (fault : ReadFault) → whole scope (taken ++ bytes) ≡ Err fault → IsFirstBut true IsUnfinished whole scope (taken ++ bytes) fault
passed_here next whole taken same tells scope bytes fault e = carry IsUnfinished IsUnfinished next whole taken Any (record {
  fails = λ s l d a h. same s l ∙ h;
  ends = λ s l a h. unfinished_as s (whole s (taken ++ l)) (next s l) (same s l) h;
  stops = λ s d h. h;
}) scope bytes fault (any bytes) (tells scope bytes fault (sym (same scope bytes) ∙ e))

abbrev versioned : Scope → List ℕ → Result Module ReadFault
versioned s bytes = version_at s bytes >>= λ start. sections_at s start

version_tells : SectionsTellFirst IsUnfinished versioned
unfolding version_at
version_tells scope [] fault e = cut_here versioned [] (λ s. refl) scope fault e
version_tells scope (a ∷ []) fault e = cut_here versioned (a ∷ []) (λ s. refl) scope fault e
version_tells scope (a ∷ b ∷ []) fault e = cut_here versioned (a ∷ b ∷ []) (λ s. refl) scope fault e
version_tells scope (a ∷ b ∷ c ∷ []) fault e = cut_here versioned (a ∷ b ∷ c ∷ []) (λ s. refl) scope fault e
version_tells scope (a ∷ b ∷ c ∷ d ∷ bytes) fault e =
    elim (cases_Bool ((eqb a 0x01 && eqb b 0x00) && (eqb c 0x00 && eqb d 0x00))) [
      | inl right ↦ passed_here sections_at versioned (a ∷ b ∷ c ∷ d ∷ []) (λ s l. rw right refl) sections_chain.tells scope bytes fault e
      | inr wrong ↦ wrong_here versioned BadVersion (a ∷ b ∷ c ∷ d ∷ bytes) (λ s. refl) (λ s more. rw wrong refl) scope fault e
    ]

whole_tells : SectionsTellFirst IsUnfinished whole_at
unfolding whole_at magic_at
whole_tells scope [] fault e = cut_here whole_at [] (λ s. refl) scope fault e
whole_tells scope (a ∷ []) fault e = cut_here whole_at (a ∷ []) (λ s. refl) scope fault e
whole_tells scope (a ∷ b ∷ []) fault e = cut_here whole_at (a ∷ b ∷ []) (λ s. refl) scope fault e
whole_tells scope (a ∷ b ∷ c ∷ []) fault e = cut_here whole_at (a ∷ b ∷ c ∷ []) (λ s. refl) scope fault e
whole_tells scope (a ∷ b ∷ c ∷ d ∷ bytes) fault e =
    elim (cases_Bool ((eqb a 0x00 && eqb b 0x61) && (eqb c 0x73 && eqb d 0x6D))) [
      | inl right ↦ passed_here versioned whole_at (a ∷ b ∷ c ∷ d ∷ []) (λ s l. rw right refl) version_tells scope bytes fault e
      | inr wrong ↦ wrong_here whole_at BadMagic (a ∷ b ∷ c ∷ d ∷ bytes) (λ s. refl) (λ s more. rw wrong refl) scope fault e
    ]

whole_nil : (s : Scope) → whole_at s [] ≡ Err (short_of s)
unfolding whole_at magic_at
whole_nil s = refl

-- ---- the whole module

abbrev scope_of : ℕ → Scope
scope_of n = record { end = n; short = Truncated }

abbrev fault_of : ReadKind → ℕ → ReadFault
fault_of kind place = record { kind = kind; place = place }

module_small : (bytes : List ℕ) → length bytes ≤ 16777216 → module_at bytes ≡ whole_at (scope_of (length bytes)) bytes
unfolding module_at
module_small bytes few = let t = le-ltb 16777216 (length bytes) few in rw t refl

module_large : (bytes : List ℕ) → 16777216 < length bytes → module_at bytes ≡ Err (fault_of TooLarge 0)
unfolding module_at
module_large bytes many = let t = lt-ltb 16777216 (length bytes) many in rw t refl

small_place : (n : ℕ) → n ≤ 16777216 → min n 4294967295 ≡ n
small_place n few = omega (arith, few)

place_of : (kind : ReadKind) (front tail : List ℕ) → length (front ++ tail) ≤ 16777216 → fault_at kind (scope_of (length (front ++ tail))) tail ≡ fault_of kind (length front)
place_of kind front tail few =
    let n : min (length (front ++ tail) - length tail) 4294967295 ≡ length front = omega (arith, few, length-append front tail) in
    ap (λ (k : ℕ). fault_of kind k) n

short_is : (n : ℕ) → n ≤ 16777216 → short_of (scope_of n) ≡ fault_of Truncated n
short_is n few = ap (λ (k : ℕ). fault_of Truncated k) (small_place n few)

end_is : (kind : ReadKind) (n : ℕ) → n ≤ 16777216 → fault_at kind (scope_of n) [] ≡ fault_of kind n
end_is kind n few = let k : min (n - 0) 4294967295 ≡ n = omega (arith, few) in ap (λ (k : ℕ). fault_of kind k) k

-- what is told of the end of the bytes
abbrev AtEnd : ReadFault → ℕ → Type 0
AtEnd fault n = ((fault.kind ≡ Truncated) ⊎ (fault.kind ≡ CountMismatch)) × (fault.place ≡ n)

at_end : (n : ℕ) (fault : ReadFault) → n ≤ 16777216 → ((fault ≡ short_of (scope_of n)) ⊎ (fault ≡ fault_at CountMismatch (scope_of n) [])) → AtEnd fault n
at_end n fault few (inl cut) =
    let same = cut ∙ short_is n few in
    (inl (ap (λ (f : ReadFault). f.kind) same), ap (λ (f : ReadFault). f.place) same)
at_end n fault few (inr count) =
    let same = count ∙ end_is CountMismatch n few in
    (inr (ap (λ (f : ReadFault). f.kind) same), ap (λ (f : ReadFault). f.place) same)

ends_at : (n : ℕ) (r : Result Module ReadFault) → n ≤ 16777216 → IsUnfinished (scope_of n) r → EndsAt n r
ends_at n (Ok m) few h = tt
ends_at n (Err fault) few h = at_end n fault few h

still_none : (fault : ReadFault) (tail bytes : List ℕ) (m : Module) → StillTells fault tail bytes → IsModule bytes m → ⊥
still_none fault tail bytes m (inl same) h = fault_no_value m fault (sym same ∙ module_complete bytes m h)
still_none fault tail bytes m (inr (inl large)) h = fault_no_value m (fault_of TooLarge 0) (sym large.1 ∙ module_complete bytes m h)
still_none fault tail bytes m (inr (inr bad)) h = fault_no_value m (fault_of BadLeb fault.place) (sym bad.2 ∙ module_complete bytes m h)

first_large : (bytes : List ℕ) (fault : ReadFault) → 16777216 < length bytes → module_at bytes ≡ Err fault → IsFirstFault bytes fault
first_large bytes fault many e =
    let same : fault ≡ fault_of TooLarge 0 = same_fault {A = Module} fault (fault_of TooLarge 0) (sym e ∙ module_large bytes many) in
    let none : module_at [] ≡ Err (fault_of Truncated 0) = module_small [] (omega arith) ∙ whole_nil (scope_of 0) ∙ ap (λ (f : ReadFault). failed {A = Module} f) (short_is 0 (omega arith)) in
    let still : (more : List ℕ) → StillTells fault bytes (bytes ++ more) = λ more. inl (module_large (bytes ++ more) (omega (arith, many, length-append bytes more)) ∙ ap (λ (f : ReadFault). failed {A = Module} f) (sym same)) in
    record {
      front = [];
      tail = bytes;
      parts = refl;
      place = ap (λ (f : ReadFault). f.place) same;
      before = inl (subst (λ (r : Result Module ReadFault). EndsAt 0 r) (sym none) (inl refl, refl));
      there = inr (still, λ more m h. still_none fault bytes (bytes ++ more) m (still more) h);
    }

first_small : (front tail : List ℕ) (fault : ReadFault) → length (front ++ tail) ≤ 16777216
    → (((s : Scope) → IsUnfinished s (whole_at s front)) ⊎ IsOutgrown whole_at fault front)
    → (((tail ≡ []) × IsUnfinished (scope_of (length (front ++ tail))) (Err fault)) ⊎ ((kind : ReadKind) × (fault ≡ fault_at kind (scope_of (length (front ++ tail))) tail) × (IsNotMended whole_at kind front tail ⊎ IsCutCount whole_at kind front tail)))
    → IsFirstFault (front ++ tail) fault
first_small front tail fault few before there = record { front = front; tail = tail; parts = refl; place = place there; before = prior before; there = at_place there }
  where
    few_front : length front ≤ 16777216
    few_front = omega (arith, few, length-append front tail)

    end_place : tail ≡ [] → length (front ++ tail) ≡ length front
    end_place none = ap (λ (l : List ℕ). length (front ++ l)) none ∙ ap (λ (l : List ℕ). length l) (append-nil front)

    place : (((tail ≡ []) × IsUnfinished (scope_of (length (front ++ tail))) (Err fault)) ⊎ ((kind : ReadKind) × (fault ≡ fault_at kind (scope_of (length (front ++ tail))) tail) × (IsNotMended whole_at kind front tail ⊎ IsCutCount whole_at kind front tail))) → fault.place ≡ length front
    place (inl end) = (at_end (length (front ++ tail)) fault few end.1).1 ∙ end_place end.0
    place (inr told) = ap (λ (f : ReadFault). f.place) (told.1 ∙ place_of told.0 front tail few)

    prior : (((s : Scope) → IsUnfinished s (whole_at s front)) ⊎ IsOutgrown whole_at fault front) → (EndsAt (length front) (module_at front) ⊎ ((fault.kind ≡ SectionSize) × (module_at front ≡ Err fault)))
    prior (inl right) = inl (subst (λ (r : Result Module ReadFault). EndsAt (length front) r) (sym (module_small front few_front)) (ends_at (length front) (whole_at (scope_of (length front)) front) few_front (right (scope_of (length front)))))
    prior (inr grown) =
        let told : fault ≡ fault_of SectionSize (length front) = ap (λ (k : ReadKind). fault_of k fault.place) grown.0 ∙ ap (λ (k : ℕ). fault_of SectionSize k) (place there) in
        inr (grown.0, module_small front few_front ∙ grown.1 (scope_of (length front)) ∙ ap (λ (f : ReadFault). failed {A = Module} f) (end_is SectionSize (length front) few_front ∙ sym told))

    still : (kind : ReadKind) → fault ≡ fault_at kind (scope_of (length (front ++ tail))) tail → (IsNotMended whole_at kind front tail ⊎ IsCutCount whole_at kind front tail) → (more : List ℕ) → StillTells fault tail ((front ++ tail) ++ more)
    still kind told h more =
        let all = (front ++ tail) ++ more in
        let split : all ≡ front ++ (tail ++ more) = append_assoc front tail more in
        let told_place : fault ≡ fault_of kind (length front) = told ∙ place_of kind front tail few in
        elim (cases_Bool (ltb 16777216 (length all))) [
          | inl many ↦ inr (inl (ltb-true 16777216 (length all) many, module_large all (ltb-true 16777216 (length all) many)))
          | inr small ↦
              (let fits : length (front ++ (tail ++ more)) ≤ 16777216 = subst (λ (l : List ℕ). length l ≤ 16777216) split (ltb-false 16777216 (length all) small) in
              let s = scope_of (length (front ++ (tail ++ more))) in
              let whole : module_at all ≡ whole_at s (front ++ (tail ++ more)) = ap module_at split ∙ module_small (front ++ (tail ++ more)) fits in
              elim h [
                | inl same ↦ inl (whole ∙ same s more ∙ ap (λ (f : ReadFault). failed {A = Module} f) (place_of kind front (tail ++ more) fits ∙ sym told_place))
                | inr count ↦
                    (let kind_is : fault ≡ fault_of TooLarge (length front) = told_place ∙ ap (λ (k : ReadKind). fault_of k (length front)) count.0 in
                    elim (count.3 s more) [
                      | inl large ↦ inl (whole ∙ large ∙ ap (λ (f : ReadFault). failed {A = Module} f) (place_of TooLarge front (tail ++ more) fits ∙ sym kind_is))
                      | inr bad ↦ inr (inr (ap (λ (f : ReadFault). f.kind) kind_is, count.1, whole ∙ bad ∙ ap (λ (f : ReadFault). failed {A = Module} f) (place_of BadLeb front (tail ++ more) fits ∙ ap (λ (k : ℕ). fault_of BadLeb k) (sym (ap (λ (f : ReadFault). f.place) kind_is)))))
                    ])
              ])
        ]

    at_place : (((tail ≡ []) × IsUnfinished (scope_of (length (front ++ tail))) (Err fault)) ⊎ ((kind : ReadKind) × (fault ≡ fault_at kind (scope_of (length (front ++ tail))) tail) × (IsNotMended whole_at kind front tail ⊎ IsCutCount whole_at kind front tail)))
        → (((tail ≡ []) × ((fault.kind ≡ Truncated) ⊎ (fault.kind ≡ CountMismatch))) ⊎ (((more : List ℕ) → StillTells fault tail ((front ++ tail) ++ more)) × ((more : List ℕ) (m : Module) → IsModule ((front ++ tail) ++ more) m → ⊥)))
    at_place (inl end) = inl (end.0, (at_end (length (front ++ tail)) fault few end.1).0)
    at_place (inr told) = inr (still told.0 told.1 told.2, λ more m h. still_none fault tail ((front ++ tail) ++ more) m (still told.0 told.1 told.2 more) h)

first_parts : (bytes front tail : List ℕ) (fault : ReadFault) → length bytes ≤ 16777216 → bytes ≡ front ++ tail
    → (((s : Scope) → IsUnfinished s (whole_at s front)) ⊎ IsOutgrown whole_at fault front)
    → (((tail ≡ []) × IsUnfinished (scope_of (length bytes)) (Err fault)) ⊎ ((kind : ReadKind) × (fault ≡ fault_at kind (scope_of (length bytes)) tail) × (IsNotMended whole_at kind front tail ⊎ IsCutCount whole_at kind front tail)))
    → IsFirstFault bytes fault
first_parts bytes front tail fault few parts before there =
    let T : List ℕ → Type 0 = λ l. (((tail ≡ []) × IsUnfinished (scope_of (length l)) (Err fault)) ⊎ ((kind : ReadKind) × (fault ≡ fault_at kind (scope_of (length l)) tail) × (IsNotMended whole_at kind front tail ⊎ IsCutCount whole_at kind front tail))) in
    subst (λ (l : List ℕ). IsFirstFault l fault) (sym parts) (first_small front tail fault (subst (λ (l : List ℕ). length l ≤ 16777216) parts few) before (subst T parts there))

pub first_fault : (bytes : List ℕ) (fault : ReadFault) → module_at bytes ≡ Err fault → IsFirstFault bytes fault
first_fault bytes fault e =
    elim (cases_Bool (ltb 16777216 (length bytes))) [
      | inl many ↦ first_large bytes fault (ltb-true 16777216 (length bytes) many) e
      | inr small ↦
          (let few = ltb-false 16777216 (length bytes) small in
          let f = whole_tells (scope_of (length bytes)) bytes fault (sym (module_small bytes few) ∙ e) in
          first_parts bytes f.front f.tail fault few f.parts f.before f.there)
    ]
