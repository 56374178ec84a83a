-- Parts with a stated size tell their first fault.
use Rattle.std.proofs.Common.{◌≡◌, ℕ, ◌-◌, ◌<◌, Bool, true, false, cond, leb, min, List, [], ◌∷◌, ◌++◌, length, take, drop, Result, Ok, Err, refl, sym, ap, subst, ◌∙◌, arith, ◌⊎◌, inl, inr, append_assoc}
use Rattle.std.proofs.lemmas.Bool.{cases_Bool, leb-true, leb-false}
use Rattle.std.proofs.lemmas.List.{take-append-drop, length-append, length-take, append-nil}
use Rattle.wasm_code.specs.declared.fault.ReadKind.{ReadKind}
use Rattle.wasm_code.specs.declared.fault.ReadKind.TheVariants.{SectionSize, BadLeb, TooLarge}
use Rattle.wasm_code.specs.declared.fault.ReadFault.{ReadFault}
use Rattle.wasm_code.specs.declared.scope.Scope.{Scope}
use Rattle.wasm_code.specs.Reading.{Reading, ◌>>=◌, fault_at, short_of, u32_at}
use Rattle.wasm_code.proofs.Steps.{pair_is, same_ok}
use Rattle.wasm_code.proofs.FirstSequences.{IsLocal}
use Rattle.wasm_code.proofs.FirstNumbers.{u32_reads}
use Rattle.wasm_reader.specs.Sections.{Inside, open_at, close_at, sized_at}
use Rattle.wasm_reader.specs.FirstFault.{IsCut, IsNotMended, IsCutCount, IsFirstBut}
use Rattle.wasm_reader.proofs.FirstCarried.{failed, given, same_fault, fault_no_value, Any, any, carry, plainly, loosely, Tells}
use Rattle.wasm_reader.proofs.FirstContent.{cases, IsFinished, Content, settled, Last, of_section, of_body, left_of, all_of, closed, within, shut, part_at, IsSize, open_fails, size_cases, whole_fails, whole_is, cut_fails, cut_short, cut_ends, deeper}

-- ---- what is wrong in the content, or with its size

-- content that is cut off by the end of its own part is so in any scope
cut_off : {A : Type 0} (all : Scope → List ℕ → Result A ReadFault) → Content all → (scope : Scope) (inside : List ℕ) (fault : ReadFault) → all scope inside ≡ Err fault → ((s : Scope) → IsFinished s (all s inside)) → (z : Scope) → all z inside ≡ Err (short_of z)
cut_off {A} all c scope inside fault e right z =
    elim (cases (all z inside)) [
      | inl ok ↦ fault_no_value ok.0 fault (sym e ∙ c.same z scope inside ok.0 ok.1)
      | inr err ↦ err.1 ∙ ap (λ (d : ReadFault). failed d) (subst (λ (r : Result A ReadFault). IsFinished z r) err.1 (right z))
    ]

-- such content, in a part that is whole, has its first fault at the end of the part
abbrev pub EndTold : {A : Type 0} → Bool → Last → (Scope → List ℕ → Result A ReadFault) → Type 0
EndTold sections last all = (scope : Scope) (t inside rest : List ℕ) (fault : ReadFault) → IsSize t (length inside) → fault ≡ short_of (within last scope rest) → ((z : Scope) → all z inside ≡ Err (short_of z)) → IsFirstBut sections IsCut (part_at last all) scope (t ++ (inside ++ rest)) fault

section_short : (s : Scope) (rest : List ℕ) → short_of (within of_section s rest) ≡ fault_at SectionSize s rest
section_short s [] = refl
section_short s (b ∷ rest) = refl

pub section_end : {A : Type 0} (all : Scope → List ℕ → Result A ReadFault) → EndTold true of_section all
section_end {A} all scope t inside rest fault size told cut =
    let fails : (s : Scope) (more : List ℕ) → part_at of_section all s (t ++ (inside ++ more)) ≡ Err (fault_at SectionSize s more) = λ s more. whole_fails of_section all s t inside more size (short_of (within of_section s more)) (cut (within of_section s more)) ∙ ap (λ (d : ReadFault). failed {A = A × List ℕ} d) (section_short s more) in
    let here : fault ≡ fault_at SectionSize scope rest = told ∙ section_short scope rest in
    record {
      front = t ++ inside;
      tail = rest;
      parts = sym (append_assoc t inside rest);
      before = inr (ap (λ (f : ReadFault). f.kind) here, λ s. ap (λ (l : List ℕ). part_at of_section all s (t ++ l)) (sym (append-nil inside)) ∙ fails s []);
      there = inr (SectionSize, here, inl (λ s more. ap (part_at of_section all s) (append_assoc t inside (rest ++ more)) ∙ fails s (rest ++ more)));
    }

body_short : (s : Scope) → short_of (within of_body s []) ≡ short_of s
body_short s =
    let place : min (s.end - 0) 4294967295 ≡ min s.end 4294967295 = omega arith in
    ap (λ (k : ℕ). at k) place
  where
    at : ℕ → ReadFault
    at k = record { kind = s.short; place = k }

pub body_end : {A : Type 0} (all : Scope → List ℕ → Result A ReadFault) → EndTold false of_body all
body_end {A} all scope t inside rest fault size told cut = ended rest told
  where
    right : (s : Scope) → part_at of_body all s (t ++ inside) ≡ Err (short_of s)
    right s = ap (λ (l : List ℕ). part_at of_body all s (t ++ l)) (sym (append-nil inside)) ∙ whole_fails of_body all s t inside [] size (short_of (within of_body s [])) (cut (within of_body s [])) ∙ ap (λ (d : ReadFault). failed {A = A × List ℕ} d) (body_short s)

    ended : (after : List ℕ) → fault ≡ short_of (within of_body scope after) → IsFirstBut false IsCut (part_at of_body all) scope (t ++ (inside ++ after)) fault
    ended [] e = record { front = t ++ inside; tail = []; parts = sym (append_assoc t inside []); before = inl right; there = inl (refl, ap (λ (d : ReadFault). failed d) (e ∙ body_short scope)) }
    ended (b ∷ after) e = record {
      front = t ++ inside;
      tail = b ∷ after;
      parts = sym (append_assoc t inside (b ∷ after));
      before = inl right;
      there = inr (SectionSize, e, inl (λ s more. ap (part_at of_body all s) (append_assoc t inside ((b ∷ after) ++ more)) ∙ whole_fails of_body all s t inside ((b ∷ after) ++ more) size (fault_at SectionSize s ((b ∷ after) ++ more)) (cut (within of_body s ((b ∷ after) ++ more)))));
    }

-- the fault that is told of content alone, in any scope
alone : {A : Type 0} (all : Scope → List ℕ → Result A ReadFault) (kind : ReadKind) (front tail : List ℕ) → (IsNotMended all kind front tail ⊎ IsCutCount all kind front tail) → (s : Scope) → all s (front ++ tail) ≡ Err (fault_at kind s tail)
alone {A} all kind front tail (inl same) s =
    let none : tail ++ [] ≡ tail = append-nil tail in
    ap (λ (l : List ℕ). all s (front ++ l)) (sym none) ∙ same s [] ∙ ap (λ (l : List ℕ). failed {A = A} (fault_at kind s l)) none
alone {A} all kind front tail (inr count) s = count.2 s ∙ ap (λ (k : ReadKind). failed {A = A} (fault_at k s tail)) (sym count.0)

-- a fault inside a part that is whole
whole_inside : {A : Type 0} (sections : Bool) (last : Last) (all : Scope → List ℕ → Result A ReadFault) (scope : Scope) (t front tail rest : List ℕ) (b : ℕ) (fault : ReadFault) → IsSize t (length (front ++ (b ∷ tail))) → ((s : Scope) → IsFinished s (all s front))
    → (kind : ReadKind) → fault ≡ fault_at kind (within last scope rest) (b ∷ tail) → ((s : Scope) → all s (front ++ (b ∷ tail)) ≡ Err (fault_at kind s (b ∷ tail)))
    → IsFirstBut sections IsCut (part_at last all) scope (t ++ ((front ++ (b ∷ tail)) ++ rest)) fault
whole_inside {A} sections last all scope t front tail rest b fault size before kind told one = record {
  front = t ++ front;
  tail = (b ∷ tail) ++ rest;
  parts = ap (λ (l : List ℕ). t ++ l) (append_assoc front (b ∷ tail) rest) ∙ sym (append_assoc t front ((b ∷ tail) ++ rest));
  before = inl (λ s. cut_ends last all s t front (length (front ++ (b ∷ tail))) size few (before s));
  there = inr (kind, told ∙ deeper last kind scope (b ∷ tail) rest, inl again);
}
  where
    few : length front < length (front ++ (b ∷ tail))
    few = omega (arith, length-append front (b ∷ tail))

    again : (s : Scope) (more : List ℕ) → part_at last all s ((t ++ front) ++ (((b ∷ tail) ++ rest) ++ more)) ≡ Err (fault_at kind s (((b ∷ tail) ++ rest) ++ more))
    again s more =
        let inside = front ++ (b ∷ tail) in
        let behind : ((b ∷ tail) ++ rest) ++ more ≡ (b ∷ tail) ++ (rest ++ more) = append_assoc (b ∷ tail) rest more in
        let path : (t ++ front) ++ (((b ∷ tail) ++ rest) ++ more) ≡ t ++ (inside ++ (rest ++ more)) = append_assoc t front (((b ∷ tail) ++ rest) ++ more) ∙ ap (λ (l : List ℕ). t ++ (front ++ l)) behind ∙ ap (λ (l : List ℕ). t ++ l) (sym (append_assoc front (b ∷ tail) (rest ++ more))) in
        let e : ReadFault = fault_at kind (within last s (rest ++ more)) (b ∷ tail) in
        ap (part_at last all s) path
        ∙ whole_fails last all s t inside (rest ++ more) size e (one (within last s (rest ++ more)))
        ∙ ap (λ (d : ReadFault). failed {A = A × List ℕ} d) (deeper last kind s (b ∷ tail) (rest ++ more) ∙ ap (λ (l : List ℕ). fault_at kind s l) (sym behind))

-- with more bytes a part that isn't whole stays so, or becomes whole: its content goes on, in some scope
abbrev GoesOn : {A : Type 0} → Last → (Scope → List ℕ → Result A ReadFault) → Scope → List ℕ → List ℕ → List ℕ → List ℕ → Type 0
GoesOn last all s t front tail more = (z : Scope) × (m : List ℕ) × ((kind : ReadKind) → all z (front ++ (tail ++ m)) ≡ Err (fault_at kind z (tail ++ m)) → part_at last all s ((t ++ front) ++ (tail ++ more)) ≡ Err (fault_at kind s (tail ++ more)))

goes_on : {A : Type 0} (last : Last) (all : Scope → List ℕ → Result A ReadFault) (s : Scope) (t front tail more : List ℕ) (n : ℕ) → IsSize t n → length (front ++ tail) < n → GoesOn last all s t front tail more
goes_on {A} last all s t front tail more n size few =
    elim (cases_Bool (leb n (length (front ++ (tail ++ more))))) [
      | inr short ↦ (s, more, λ kind h. ap (part_at last all s) (append_assoc t front (tail ++ more)) ∙ cut_fails last all s t (front ++ (tail ++ more)) n size (leb-false n (length (front ++ (tail ++ more))) short) (fault_at kind s (tail ++ more)) h)
      | inl fits ↦
          (let k = n - length (front ++ tail) in
          let m = take k more in
          let rest = drop k more in
          let parts : m ++ rest ≡ more = take-append-drop k more in
          let enough = leb-true n (length (front ++ (tail ++ more))) fits in
          let len : n ≡ length (front ++ (tail ++ m)) = omega (arith, few, enough, length-take k more, length-append front tail, length-append front (tail ++ more), length-append tail more, length-append front (tail ++ m), length-append tail m) in
          let behind : (tail ++ m) ++ rest ≡ tail ++ more = append_assoc tail m rest ∙ ap (λ (l : List ℕ). tail ++ l) parts in
          let path : (t ++ front) ++ (tail ++ more) ≡ t ++ ((front ++ (tail ++ m)) ++ rest) = append_assoc t front (tail ++ more) ∙ ap (λ (l : List ℕ). t ++ (front ++ l)) (sym behind) ∙ ap (λ (l : List ℕ). t ++ l) (sym (append_assoc front (tail ++ m) rest)) in (
            within last s rest,
            m,
            λ kind h.
                ap (part_at last all s) path
                ∙ whole_fails last all s t (front ++ (tail ++ m)) rest (subst (λ (j : ℕ). IsSize t j) len size) (fault_at kind (within last s rest) (tail ++ m)) h
                ∙ ap (λ (d : ReadFault). failed {A = A × List ℕ} d) (deeper last kind s (tail ++ m) rest ∙ ap (λ (l : List ℕ). fault_at kind s l) behind),
          ))
    ]

-- a fault inside a part that isn't whole
cut_inside : {A : Type 0} (sections : Bool) (last : Last) (all : Scope → List ℕ → Result A ReadFault) (scope : Scope) (t l : List ℕ) (n : ℕ) (fault : ReadFault) → IsSize t n → length l < n → IsFirstBut false IsFinished all scope l fault → IsFirstBut sections IsCut (part_at last all) scope (t ++ l) fault
cut_inside {A} sections last all scope t l n fault size few f = record {
  front = t ++ f.front;
  tail = f.tail;
  parts = ap (λ (k : List ℕ). t ++ k) f.parts ∙ sym (append_assoc t f.front f.tail);
  before = inl (λ s. cut_ends last all s t f.front n size few_front (settled f.before s));
  there = there f.there;
}
  where
    few_all : length (f.front ++ f.tail) < n
    few_all = subst (λ (k : List ℕ). length k < n) f.parts few

    few_front : length f.front < n
    few_front = omega (arith, few_all, length-append f.front f.tail)

    mended : (kind : ReadKind) → (IsNotMended all kind f.front f.tail ⊎ IsCutCount all kind f.front f.tail) → (IsNotMended (part_at last all) kind (t ++ f.front) f.tail ⊎ IsCutCount (part_at last all) kind (t ++ f.front) f.tail)
    mended kind (inl same) = inl (λ s more. let g = goes_on last all s t f.front f.tail more n size few_all in g.2 kind (same g.0 g.1))
    mended kind (inr count) = inr (
      count.0,
      count.1,
      λ s. ap (part_at last all s) (append_assoc t f.front f.tail) ∙ cut_fails last all s t (f.front ++ f.tail) n size few_all (fault_at TooLarge s f.tail) (count.2 s),
      λ s more.
          (let g = goes_on last all s t f.front f.tail more n size few_all in
          elim (count.3 g.0 g.1) [
            | inl large ↦ inl (g.2 TooLarge large)
            | inr bad ↦ inr (g.2 BadLeb bad)
          ]),
    )

    there : (((f.tail ≡ []) × IsFinished scope (failed {A = A} fault)) ⊎ ((kind : ReadKind) × (fault ≡ fault_at kind scope f.tail) × (IsNotMended all kind f.front f.tail ⊎ IsCutCount all kind f.front f.tail)))
        → (((f.tail ≡ []) × IsCut scope (failed {A = A × List ℕ} fault)) ⊎ ((kind : ReadKind) × (fault ≡ fault_at kind scope f.tail) × (IsNotMended (part_at last all) kind (t ++ f.front) f.tail ⊎ IsCutCount (part_at last all) kind (t ++ f.front) f.tail)))
    there (inl end) = inl (end.0, ap (λ (e : ReadFault). failed e) end.1)
    there (inr told) = inr (told.0, told.1, mended told.0 told.2)

-- ---- parts

part_fails : {A : Type 0} (last : Last) (all : Scope → List ℕ → Result A ReadFault) (s : Scope) (bytes : List ℕ) (e : ReadFault) → u32_at s bytes ≡ Err e → part_at last all s bytes ≡ Err e
part_fails last all s bytes e h = let o = open_fails last s bytes e h in rw o refl

part_takes : {A : Type 0} (last : Last) (all : Scope → List ℕ → Result A ReadFault) → Content all → IsLocal (part_at last all)
part_takes {A} last all c scope bytes rest x e =
    elim (size_cases scope bytes) [
      | inl err ↦ fault_no_value (x, rest) err.0 (sym (part_fails last all scope bytes err.0 err.1) ∙ e)
      | inr (inl w) ↦
          (let back : part_at last all scope (w.0 ++ (w.1 ++ w.2)) ≡ Ok (x, rest) = ap (part_at last all scope) (sym w.4) ∙ e in
          elim (cases (all (within last scope w.2) w.1)) [
            | inr err ↦ fault_no_value (x, rest) err.0 (sym (whole_fails last all scope w.0 w.1 w.2 w.3 err.0 err.1) ∙ back)
            | inl ok ↦
                (let same = pair_is ok.0 x w.2 rest (sym (whole_is last all scope w.0 w.1 w.2 w.3 ok.0 ok.1) ∙ back) in (
                  w.0 ++ w.1,
                  w.4 ∙ sym (append_assoc w.0 w.1 w.2) ∙ ap (λ (l : List ℕ). (w.0 ++ w.1) ++ l) same.1,
                  λ s more. ap (part_at last all s) (append_assoc w.0 w.1 more) ∙ whole_is last all s w.0 w.1 more w.3 ok.0 (c.same (within last scope w.2) (within last s more) w.1 ok.0 ok.1) ∙ same_ok ok.0 x more more same.0 refl,
                ))
          ])
      | inr (inr w) ↦
          (let back : part_at last all scope (w.0 ++ w.1) ≡ Ok (x, rest) = ap (part_at last all scope) (sym w.4) ∙ e in
          elim (cases (all scope w.1)) [
            | inr err ↦ fault_no_value (x, rest) err.0 (sym (cut_fails last all scope w.0 w.1 w.2 w.3 w.5 err.0 err.1) ∙ back)
            | inl ok ↦ fault_no_value (x, rest) (short_of scope) (sym (cut_short last all scope w.0 w.1 w.2 w.3 w.5 ok.0 ok.1) ∙ back)
          ])
    ]

whole_tells : {A : Type 0} (sections : Bool) (last : Last) (all : Scope → List ℕ → Result A ReadFault) → EndTold sections last all → Content all → (scope : Scope) (t inside rest : List ℕ) (fault : ReadFault) → IsSize t (length inside) → all (within last scope rest) inside ≡ Err fault → (front tail : List ℕ) → inside ≡ front ++ tail → ((s : Scope) → IsFinished s (all s front))
    → (((tail ≡ []) × IsFinished (within last scope rest) (failed {A = A} fault)) ⊎ ((kind : ReadKind) × (fault ≡ fault_at kind (within last scope rest) tail) × (IsNotMended all kind front tail ⊎ IsCutCount all kind front tail)))
    → IsFirstBut sections IsCut (part_at last all) scope (t ++ (inside ++ rest)) fault
whole_tells {A} sections last all end c scope t inside rest fault size e front [] parts before there =
    let same : front ≡ inside = sym (append-nil front) ∙ sym parts in
    let cut = cut_off all c (within last scope rest) inside fault e (subst (λ (l : List ℕ). (s : Scope) → IsFinished s (all s l)) same before) in
    let told : fault ≡ short_of (within last scope rest) = same_fault {A = A} fault (short_of (within last scope rest)) (sym e ∙ cut (within last scope rest)) in
    end scope t inside rest fault size told cut
whole_tells sections last all end c scope t inside rest fault size e front (b ∷ tail) parts before (inl none) = absurd (let empty = none.0 in cc)
whole_tells sections last all end c scope t inside rest fault size e front (b ∷ tail) parts before (inr told) =
    subst (λ (l : List ℕ). IsFirstBut sections IsCut (part_at last all) scope (t ++ (l ++ rest)) fault) (sym parts)
    (whole_inside sections last all scope t front tail rest b fault (subst (λ (l : List ℕ). IsSize t (length l)) parts size) before told.0 told.1 (alone all told.0 front (b ∷ tail) told.2))

part_tells : {A : Type 0} (sections : Bool) (last : Last) (all : Scope → List ℕ → Result A ReadFault) → EndTold sections last all → Content all → (scope : Scope) (bytes : List ℕ) (fault : ReadFault) → part_at last all scope bytes ≡ Err fault → IsFirstBut sections IsCut (part_at last all) scope bytes fault
part_tells {A} sections last all end c scope bytes fault e =
    elim (size_cases scope bytes) [
      | inl err ↦
          (let same : err.0 ≡ fault = same_fault {A = A × List ℕ} err.0 fault (sym (part_fails last all scope bytes err.0 err.1) ∙ e) in
          let number = u32_reads.tells scope bytes fault (err.1 ∙ ap (λ (d : ReadFault). failed d) same) in
          loosely sections IsCut (part_at last all) scope bytes fault (carry IsCut IsCut u32_at (part_at last all) [] Any (record {
            fails = λ s b d a h. part_fails last all s b d h;
            ends = λ s b a h. part_fails last all s b (short_of s) h;
            stops = λ s d h. ap (λ (x : ReadFault). failed x) (same_fault {A = ℕ × List ℕ} d (short_of s) h);
          }) scope bytes fault (any bytes) (plainly u32_at scope bytes fault number)))
      | inr (inl w) ↦
          (let back : part_at last all scope (w.0 ++ (w.1 ++ w.2)) ≡ Err fault = ap (part_at last all scope) (sym w.4) ∙ e in
          elim (cases (all (within last scope w.2) w.1)) [
            | inl ok ↦ fault_no_value (ok.0, w.2) fault (sym back ∙ whole_is last all scope w.0 w.1 w.2 w.3 ok.0 ok.1)
            | inr err ↦
                (let same : err.0 ≡ fault = same_fault {A = A × List ℕ} err.0 fault (sym (whole_fails last all scope w.0 w.1 w.2 w.3 err.0 err.1) ∙ back) in
                let inner : all (within last scope w.2) w.1 ≡ Err fault = err.1 ∙ ap (λ (d : ReadFault). failed d) same in
                let f = c.tells (within last scope w.2) w.1 fault inner in
                subst (λ (l : List ℕ). IsFirstBut sections IsCut (part_at last all) scope l fault) (sym w.4) (whole_tells sections last all end c scope w.0 w.1 w.2 fault w.3 inner f.front f.tail f.parts (settled f.before) f.there))
          ])
      | inr (inr w) ↦
          (let back : part_at last all scope (w.0 ++ w.1) ≡ Err fault = ap (part_at last all scope) (sym w.4) ∙ e in
          elim (cases (all scope w.1)) [
            | inl ok ↦
                (let made : IsFirstBut sections IsCut (part_at last all) scope (w.0 ++ w.1) fault = record {
                  front = w.0 ++ w.1;
                  tail = [];
                  parts = sym (append-nil (w.0 ++ w.1));
                  before = inl (λ s. cut_short last all s w.0 w.1 w.2 w.3 w.5 ok.0 (c.same scope s w.1 ok.0 ok.1));
                  there = inl (refl, sym back ∙ cut_short last all scope w.0 w.1 w.2 w.3 w.5 ok.0 ok.1);
                } in
                subst (λ (l : List ℕ). IsFirstBut sections IsCut (part_at last all) scope l fault) (sym w.4) made)
            | inr err ↦
                (let same : err.0 ≡ fault = same_fault {A = A × List ℕ} err.0 fault (sym (cut_fails last all scope w.0 w.1 w.2 w.3 w.5 err.0 err.1) ∙ back) in
                subst (λ (l : List ℕ). IsFirstBut sections IsCut (part_at last all) scope l fault) (sym w.4) (cut_inside sections last all scope w.0 w.1 w.2 fault w.3 w.5 (c.tells scope w.1 fault (err.1 ∙ ap (λ (d : ReadFault). failed d) same))))
          ])
    ]

pub part_reads : {A : Type 0} (sections : Bool) (last : Last) (all : Scope → List ℕ → Result A ReadFault) → EndTold sections last all → Content all → Tells sections (part_at last all)
part_reads sections last all end c = record { takes = part_takes last all c; tells = part_tells sections last all end c }

-- ---- one reading that is another

pub as_is : {A : Type 0} {sections : Bool} (read other : Scope → List ℕ → Reading A) → ((s : Scope) (bytes : List ℕ) → other s bytes ≡ read s bytes) → Tells sections read → Tells sections other
as_is {A} {sections} read other same r = record {
  takes = λ scope bytes rest x e.
      let t = r.takes scope bytes rest x (sym (same scope bytes) ∙ e) in
      (t.0, t.1, λ s more. same s (t.0 ++ more) ∙ t.2 s more);
  tells = λ scope bytes fault e. carry IsCut IsCut read other [] Any (record { fails = λ s b d a h. same s b ∙ h; ends = λ s b a h. same s b ∙ h; stops = λ s d h. h }) scope bytes fault (any bytes) (r.tells scope bytes fault (sym (same scope bytes) ∙ e));
}

closes : {A : Type 0} (part : Inside) (x : A) (rest : List ℕ) → (close_at part rest >>= λ after. given {A = A × List ℕ} (x, after)) ≡ (left_of part.scope x rest >>= λ y. shut part y)
unfolding close_at
closes part x (b ∷ rest) = refl
closes {A} part x [] = chosen part.whole
  where
    chosen : (t : Bool) → (cond t (given part.after) (Err (short_of part.scope)) >>= λ after. given {A = A × List ℕ} (x, after)) ≡ cond t (Ok (x, part.after)) (Err (short_of part.scope))
    chosen true = refl
    chosen false = refl

sized_content : {A : Type 0} (part : Inside) (r : Reading A) → (r >>= λ x. close_at part x.1 >>= λ after. given {A = A × List ℕ} (x.0, after)) ≡ ((r >>= λ x. left_of part.scope x.0 x.1) >>= λ y. shut part y)
sized_content part (Ok x) = closes part x.0 x.1
sized_content part (Err e) = refl

sized_parts : {A : Type 0} (content : Scope → List ℕ → Reading A) (o : Result Inside ReadFault) → (o >>= λ part. content part.scope part.content >>= λ x. close_at part x.1 >>= λ after. given {A = A × List ℕ} (x.0, after)) ≡ (o >>= λ part. all_of content part.scope part.content >>= λ y. shut part y)
sized_parts content (Ok part) = sized_content part (content part.scope part.content)
sized_parts content (Err e) = refl

pub sized_reads : {A : Type 0} (sections : Bool) (last : Last) (content : Scope → List ℕ → Reading A) → EndTold sections last (all_of content) → Tells false content → Tells sections (λ s b. sized_at (last s) content s b)
unfolding sized_at
sized_reads sections last content end r = as_is (part_at last (all_of content)) (λ s b. sized_at (last s) content s b) (λ s bytes. sized_parts content (open_at (last s) s bytes)) (part_reads sections last (all_of content) end (closed content r))

pub section_reads : {A : Type 0} (content : Scope → List ℕ → Reading A) → Tells false content → Tells true (λ s b. sized_at SectionSize content s b)
section_reads content r = sized_reads true of_section content (section_end (all_of content)) r

pub body_reads : {A : Type 0} (content : Scope → List ℕ → Reading A) → Tells false content → Tells false (λ s b. sized_at s.short content s b)
body_reads content r = sized_reads false of_body content (body_end (all_of content)) r
