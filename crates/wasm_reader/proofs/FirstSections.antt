-- Sections one behind the other tell their first fault, with custom sections anywhere between them.
use Rattle.std.proofs.Common.{◌≡◌, ℕ, zero, suc, ◌≤◌, Bool, true, false, cond, eqb, List, [], ◌∷◌, ◌++◌, length, Result, Ok, Err, refl, sym, ap, subst, ◌∙◌, arith, inl, inr}
use Rattle.std.proofs.lemmas.Bool.{cases_Bool}
use Rattle.wasm_types.specs.declared.modules.Module.{Module}
use Rattle.wasm_code.specs.declared.fault.ReadKind.TheVariants.{SectionOrder, SectionSize, CountMismatch}
use Rattle.wasm_code.specs.declared.fault.ReadFault.{ReadFault}
use Rattle.wasm_code.specs.declared.scope.Scope.{Scope}
use Rattle.wasm_code.specs.Reading.{Reading, ◌>>=◌, fault_at, short_of}
use Rattle.wasm_reader.specs.Sections.{sized_at, customs_at, optional_at, section_at, ended_at, end_at}
use Rattle.wasm_reader.specs.FirstFault.{IsCut, IsUnfinished, IsFirstBut, SectionsTellFirst}
use Rattle.wasm_reader.proofs.ExactSections.{next_some, custom_takes}
use Rattle.wasm_reader.proofs.FirstCarried.{failed, same_fault, IsOpen, Any, any, carry, Tells}
use Rattle.wasm_reader.proofs.FirstContent.{cases, of_section, part_at}
use Rattle.wasm_reader.proofs.FirstSized.{section_reads}
use Rattle.wasm_reader.proofs.FirstCustoms.{named, custom_tells, custom_fails, custom_goes, next_goes, customs_nil, customs_fail, customs_pass, customs_other}

-- ---- what stands behind them

-- no bytes, or some that begin with this one
abbrev pub Begins : ℕ → List ℕ → Type 0
Begins b [] = Unit {0}
Begins b (x ∷ bytes) = x ≡ b

begins_on : (b : ℕ) (bytes : List ℕ) → IsOpen (Begins b) (b ∷ bytes)
begins_on b bytes [] [] e = absurd cc
begins_on b bytes [] (x ∷ tail) e = let same : x ≡ b = cc in (tt, λ more. same)
begins_on b bytes (x ∷ front) tail e = let same : x ≡ b = cc in (same, λ more. same)

abbrev behind_customs : (Scope → List ℕ → Result Module ReadFault) → Scope → List ℕ → Result Module ReadFault
behind_customs next s bytes = customs_at s bytes >>= λ rest. next s rest

behind_is : (next : Scope → List ℕ → Result Module ReadFault) (s : Scope) (bytes rest : List ℕ) → customs_at s bytes ≡ Ok rest → behind_customs next s bytes ≡ next s rest
behind_is next s bytes rest h = rw h refl

behind_fails : (next : Scope → List ℕ → Result Module ReadFault) (s : Scope) (bytes : List ℕ) (e : ReadFault) → customs_at s bytes ≡ Err e → behind_customs next s bytes ≡ Err e
behind_fails next s bytes e h = rw h refl

behind_pass : (next : Scope → List ℕ → Result Module ReadFault) (s : Scope) (bytes after : List ℕ) → customs_at s bytes ≡ customs_at s after → behind_customs next s bytes ≡ behind_customs next s after
behind_pass next s bytes after h = ap (λ (r : Result (List ℕ) ReadFault). r >>= λ rest. next s rest) h

behind_begins : (next : Scope → List ℕ → Result Module ReadFault) (s : Scope) (b : ℕ) (bytes : List ℕ) → eqb b 0 ≡ false → Begins b bytes → behind_customs next s bytes ≡ next s bytes
behind_begins next s b [] not h = behind_is next s [] [] (customs_nil s)
behind_begins next s b (x ∷ bytes) not h = behind_is next s (x ∷ bytes) (x ∷ bytes) (customs_other s x bytes (ap (λ (k : ℕ). eqb k 0) h ∙ not))

-- sections up to the end tell their first fault
pub record Chain (read : Scope → List ℕ → Result Module ReadFault) : Type 0 where
  pub none : (s : Scope) → IsUnfinished s (read s [])
  pub tells : SectionsTellFirst IsUnfinished read

pub unfinished_cut : (s : Scope) (r : Result Module ReadFault) → r ≡ Err (short_of s) → IsUnfinished s r
unfinished_cut s r e = subst (λ (x : Result Module ReadFault). IsUnfinished s x) (sym e) (inl refl)

pub unfinished_as : (s : Scope) (r q : Result Module ReadFault) → r ≡ q → IsUnfinished s q → IsUnfinished s r
unfinished_as s r q e h = subst (λ (x : Result Module ReadFault). IsUnfinished s x) (sym e) h

-- with no bytes
pub none_tells : (read : Scope → List ℕ → Result Module ReadFault) → ((s : Scope) → IsUnfinished s (read s [])) → (scope : Scope) (fault : ReadFault) → read scope [] ≡ Err fault → IsFirstBut true IsUnfinished read scope [] fault
none_tells read none scope fault e = record { front = []; tail = []; parts = refl; before = inl none; there = inl (refl, subst (λ (x : Result Module ReadFault). IsUnfinished scope x) e (none scope)) }

-- a part behind a byte, and what follows it
pub part_cut : {A : Type 0} (read : Scope → List ℕ → Reading A) → Tells true read → (whole : Scope → List ℕ → Result Module ReadFault) (b : ℕ) → ((s : Scope) (bytes : List ℕ) (e : ReadFault) → read s bytes ≡ Err e → whole s (b ∷ bytes) ≡ Err e) → (scope : Scope) (bytes : List ℕ) (fault : ReadFault) → read scope bytes ≡ Err fault → IsFirstBut true IsUnfinished whole scope (b ∷ bytes) fault
part_cut {A} read r whole b fails scope bytes fault e = carry IsCut IsUnfinished read whole (b ∷ []) Any (record {
  fails = λ s l d a h. fails s l d h;
  ends = λ s l a h. unfinished_cut s (whole s (b ∷ l)) (fails s l (short_of s) h);
  stops = λ s d h. inl (same_fault {A = A × List ℕ} d (short_of s) h);
}) scope bytes fault (any bytes) (r.tells scope bytes fault e)

pub part_passed : (next whole : Scope → List ℕ → Result Module ReadFault) (b : ℕ) (taken : List ℕ) → ((s : Scope) (bytes : List ℕ) → whole s (b ∷ (taken ++ bytes)) ≡ next s bytes) → (scope : Scope) (bytes rest : List ℕ) (fault : ReadFault) → bytes ≡ taken ++ rest → IsFirstBut true IsUnfinished next scope rest fault → IsFirstBut true IsUnfinished whole scope (b ∷ bytes) fault
part_passed next whole b taken same scope bytes rest fault parts f =
    let made = carry IsUnfinished IsUnfinished next whole (b ∷ taken) Any (record {
      fails = λ s l d a h. same s l ∙ h;
      ends = λ s l a h. unfinished_as s (whole s (b ∷ (taken ++ l))) (next s l) (same s l) h;
      stops = λ s d h. h;
    }) scope rest fault (any rest) f in
    subst (λ (l : List ℕ). IsFirstBut true IsUnfinished whole scope (b ∷ l) fault) (sym parts) made

pub fallen_through : (next whole : Scope → List ℕ → Result Module ReadFault) (b : ℕ) → ((s : Scope) (bytes : List ℕ) → Begins b bytes → whole s bytes ≡ next s bytes) → (scope : Scope) (bytes : List ℕ) (fault : ReadFault) → IsFirstBut true IsUnfinished next scope (b ∷ bytes) fault → IsFirstBut true IsUnfinished whole scope (b ∷ bytes) fault
fallen_through next whole b same scope bytes fault f = carry IsUnfinished IsUnfinished next whole [] (Begins b) (record {
  fails = λ s l d a h. same s l a ∙ h;
  ends = λ s l a h. unfinished_as s (whole s l) (next s l) (same s l a) h;
  stops = λ s d h. h;
}) scope (b ∷ bytes) fault (begins_on b bytes) f

-- no custom section, or one and what follows it
customs_tell : (next : Scope → List ℕ → Result Module ReadFault) → ((s : Scope) → IsUnfinished s (next s []))
    → ((scope : Scope) (b : ℕ) (bytes : List ℕ) (fault : ReadFault) → eqb b 0 ≡ false → next scope (b ∷ bytes) ≡ Err fault → IsFirstBut true IsUnfinished next scope (b ∷ bytes) fault)
    → (most : ℕ) (scope : Scope) (bytes : List ℕ) (fault : ReadFault) → length bytes ≤ most → behind_customs next scope bytes ≡ Err fault → IsFirstBut true IsUnfinished (behind_customs next) scope bytes fault
customs_tell next none tell most scope [] fault few e = none_tells (behind_customs next) (λ s. unfinished_as s (behind_customs next s []) (next s []) (behind_is next s [] [] (customs_nil s)) (none s)) scope fault e
customs_tell next none tell zero scope (b ∷ bytes) fault few e = absurd (omega (arith, few))
customs_tell next none tell (suc most) scope (b ∷ bytes) fault few e =
    elim (cases_Bool (eqb b 0)) [
      | inr not ↦ fallen_through next (behind_customs next) b (λ s l h. behind_begins next s b l not h) scope bytes fault (tell scope b bytes fault not (sym (behind_is next scope (b ∷ bytes) (b ∷ bytes) (customs_other scope b bytes not)) ∙ e))
      | inl is ↦
          elim (cases (part_at of_section named scope bytes)) [
            | inr err ↦
                (let stop : (s : Scope) (l : List ℕ) (d : ReadFault) → part_at of_section named s l ≡ Err d → behind_customs next s (b ∷ l) ≡ Err d = λ s l d h. behind_fails next s (b ∷ l) d (customs_fail s b l d is (custom_fails s l d h)) in
                let same : err.0 ≡ fault = same_fault {A = Module} err.0 fault (sym (stop scope bytes err.0 err.1) ∙ e) in
                part_cut (part_at of_section named) custom_tells (behind_customs next) b stop scope bytes fault (err.1 ∙ ap (λ (d : ReadFault). failed d) same))
            | inl ok ↦
                (let t = custom_tells.takes scope bytes ok.0.1 ok.0.0 ok.1 in
                let pass : (s : Scope) (l : List ℕ) → behind_customs next s (b ∷ (t.0 ++ l)) ≡ behind_customs next s l = λ s l. behind_pass next s (b ∷ (t.0 ++ l)) l (customs_pass s b (t.0 ++ l) l is (custom_goes s (t.0 ++ l) l ok.0.0 (t.2 s l))) in
                let here : behind_customs next scope (b ∷ bytes) ≡ behind_customs next scope ok.0.1 = behind_pass next scope (b ∷ bytes) ok.0.1 (customs_pass scope b bytes ok.0.1 is (custom_goes scope bytes ok.0.1 ok.0.0 ok.1)) in
                let less = custom_takes (b ∷ bytes) ok.0.1 (next_some scope (b ∷ bytes) ok.0.1 (next_goes scope b bytes ok.0.1 is (custom_goes scope bytes ok.0.1 ok.0.0 ok.1))) in
                part_passed (behind_customs next) (behind_customs next) b t.0 pass scope bytes ok.0.1 fault t.1 (customs_tell next none tell most scope ok.0.1 fault (omega (arith, few, less)) (sym here ∙ e)))
          ]
    ]

-- ---- one section, and the others behind it

abbrev optional_then : {A : Type 0} → ℕ → A → (Scope → List ℕ → Reading A) → (A → Scope → List ℕ → Result Module ReadFault) → Scope → List ℕ → Result Module ReadFault
optional_then id none content next s bytes = optional_at id none content s bytes >>= λ x. next x.0 s x.1

abbrev pub section_then : {A : Type 0} → ℕ → A → (Scope → List ℕ → Reading A) → (A → Scope → List ℕ → Result Module ReadFault) → Scope → List ℕ → Result Module ReadFault
section_then id none content next s bytes = section_at id none content s bytes >>= λ x. next x.0 s x.1

grouped : {A : Type 0} (id : ℕ) (none : A) (content : Scope → List ℕ → Reading A) (next : A → Scope → List ℕ → Result Module ReadFault) (s : Scope) (r : Result (List ℕ) ReadFault) → ((r >>= λ rest. optional_at id none content s rest) >>= λ x. next x.0 s x.1) ≡ (r >>= λ rest. optional_then id none content next s rest)
grouped id none content next s (Ok rest) = refl
grouped id none content next s (Err e) = refl

section_is : {A : Type 0} (id : ℕ) (none : A) (content : Scope → List ℕ → Reading A) (next : A → Scope → List ℕ → Result Module ReadFault) (s : Scope) (bytes : List ℕ) → section_then id none content next s bytes ≡ behind_customs (optional_then id none content next) s bytes
unfolding section_at
section_is id none content next s bytes = grouped id none content next s (customs_at s bytes)

optional_nil : {A : Type 0} (id : ℕ) (none : A) (content : Scope → List ℕ → Reading A) (next : A → Scope → List ℕ → Result Module ReadFault) (s : Scope) → optional_then id none content next s [] ≡ next none s []
unfolding optional_at
optional_nil id none content next s = refl

optional_other : {A : Type 0} (id : ℕ) (none : A) (content : Scope → List ℕ → Reading A) (next : A → Scope → List ℕ → Result Module ReadFault) (s : Scope) (b : ℕ) (bytes : List ℕ) → eqb b id ≡ false → optional_then id none content next s (b ∷ bytes) ≡ next none s (b ∷ bytes)
unfolding optional_at
optional_other id none content next s b bytes not = rw not refl

optional_begins : {A : Type 0} (id : ℕ) (none : A) (content : Scope → List ℕ → Reading A) (next : A → Scope → List ℕ → Result Module ReadFault) (s : Scope) (b : ℕ) (bytes : List ℕ) → eqb b id ≡ false → Begins b bytes → optional_then id none content next s bytes ≡ next none s bytes
optional_begins id none content next s b [] not h = optional_nil id none content next s
optional_begins id none content next s b (x ∷ bytes) not h = optional_other id none content next s x bytes (ap (λ (k : ℕ). eqb k id) h ∙ not)

optional_fails : {A : Type 0} (id : ℕ) (none : A) (content : Scope → List ℕ → Reading A) (next : A → Scope → List ℕ → Result Module ReadFault) (s : Scope) (b : ℕ) (bytes : List ℕ) (e : ReadFault) → eqb b id ≡ true → sized_at SectionSize content s bytes ≡ Err e → optional_then id none content next s (b ∷ bytes) ≡ Err e
unfolding optional_at
optional_fails id none content next s b bytes e is h = rw (is, h) refl

optional_goes : {A : Type 0} (id : ℕ) (none : A) (content : Scope → List ℕ → Reading A) (next : A → Scope → List ℕ → Result Module ReadFault) (s : Scope) (b : ℕ) (bytes rest : List ℕ) (x : A) → eqb b id ≡ true → sized_at SectionSize content s bytes ≡ Ok (x, rest) → optional_then id none content next s (b ∷ bytes) ≡ next x s rest
unfolding optional_at
optional_goes id none content next s b bytes rest x is h = rw (is, h) refl

optional_tells : {A : Type 0} (id : ℕ) (none : A) (content : Scope → List ℕ → Reading A) (next : A → Scope → List ℕ → Result Module ReadFault) → Tells true (λ s b. sized_at SectionSize content s b) → ((x : A) → Chain (next x)) → (scope : Scope) (b : ℕ) (bytes : List ℕ) (fault : ReadFault) → optional_then id none content next scope (b ∷ bytes) ≡ Err fault → IsFirstBut true IsUnfinished (optional_then id none content next) scope (b ∷ bytes) fault
optional_tells {A} id none content next r chain scope b bytes fault e =
    elim (cases_Bool (eqb b id)) [
      | inr not ↦ fallen_through (next none) (optional_then id none content next) b (λ s l h. optional_begins id none content next s b l not h) scope bytes fault ((chain none).tells scope (b ∷ bytes) fault (sym (optional_other id none content next scope b bytes not) ∙ e))
      | inl is ↦
          elim (cases (sized_at SectionSize content scope bytes)) [
            | inr err ↦
                (let stop : (s : Scope) (l : List ℕ) (d : ReadFault) → sized_at SectionSize content s l ≡ Err d → optional_then id none content next s (b ∷ l) ≡ Err d = λ s l d h. optional_fails id none content next s b l d is h in
                let same : err.0 ≡ fault = same_fault {A = Module} err.0 fault (sym (stop scope bytes err.0 err.1) ∙ e) in
                part_cut (λ s b. sized_at SectionSize content s b) r (optional_then id none content next) b stop scope bytes fault (err.1 ∙ ap (λ (d : ReadFault). failed d) same))
            | inl ok ↦
                (let t = r.takes scope bytes ok.0.1 ok.0.0 ok.1 in
                part_passed (next ok.0.0) (optional_then id none content next) b t.0 (λ s l. optional_goes id none content next s b (t.0 ++ l) l ok.0.0 is (t.2 s l)) scope bytes ok.0.1 fault t.1
                ((chain ok.0.0).tells scope ok.0.1 fault (sym (optional_goes id none content next scope b bytes ok.0.1 ok.0.0 is ok.1) ∙ e)))
          ]
    ]

-- one reading that is another
as_chain : (read other : Scope → List ℕ → Result Module ReadFault) → ((s : Scope) (bytes : List ℕ) → other s bytes ≡ read s bytes) → Chain read → Chain other
as_chain read other same c = record {
  none = λ s. unfinished_as s (other s []) (read s []) (same s []) (c.none s);
  tells = λ scope bytes fault e. carry IsUnfinished IsUnfinished read other [] Any (record { fails = λ s b d a h. same s b ∙ h; ends = λ s b a h. unfinished_as s (other s b) (read s b) (same s b) h; stops = λ s d h. h }) scope bytes fault (any bytes) (c.tells scope bytes fault (sym (same scope bytes) ∙ e));
}

behind_chain : (next : Scope → List ℕ → Result Module ReadFault) → ((s : Scope) → IsUnfinished s (next s [])) → ((scope : Scope) (b : ℕ) (bytes : List ℕ) (fault : ReadFault) → eqb b 0 ≡ false → next scope (b ∷ bytes) ≡ Err fault → IsFirstBut true IsUnfinished next scope (b ∷ bytes) fault) → Chain (behind_customs next)
behind_chain next none tell = record {
  none = λ s. unfinished_as s (behind_customs next s []) (next s []) (behind_is next s [] [] (customs_nil s)) (none s);
  tells = λ scope bytes fault e. customs_tell next none tell (length bytes) scope bytes fault (omega arith) e;
}

pub section_chain : {A : Type 0} (id : ℕ) (none : A) (content : Scope → List ℕ → Reading A) (next : A → Scope → List ℕ → Result Module ReadFault) → Tells false content → ((x : A) → Chain (next x)) → Chain (section_then id none content next)
section_chain id none content next r chain =
    as_chain (behind_customs (optional_then id none content next)) (section_then id none content next) (section_is id none content next) (behind_chain (optional_then id none content next)
    (λ s. unfinished_as s (optional_then id none content next s []) (next none s []) (optional_nil id none content next s) ((chain none).none s))
    (λ scope b bytes fault not e. optional_tells id none content next (section_reads content r) chain scope b bytes fault e))

-- ---- the end

ended_none : (m : Module) (s : Scope) → IsUnfinished s (ended_at s m [])
unfolding ended_at
ended_none m s = chosen (eqb (length m.functions) (length m.code))
  where
    chosen : (t : Bool) → IsUnfinished s (cond t (Ok m) (Err (fault_at CountMismatch s [])))
    chosen true = tt
    chosen false = inr refl

ended_tells : (m : Module) (scope : Scope) (b : ℕ) (bytes : List ℕ) (fault : ReadFault) → ended_at scope m (b ∷ bytes) ≡ Err fault → IsFirstBut true IsUnfinished (λ s l. ended_at s m l) scope (b ∷ bytes) fault
unfolding ended_at
ended_tells m scope b bytes fault e = record {
  front = [];
  tail = b ∷ bytes;
  parts = refl;
  before = inl (ended_none m);
  there = inr (SectionOrder, sym (same_fault {A = Module} (fault_at SectionOrder scope (b ∷ bytes)) fault e), inl (λ s more. refl));
}

pub end_chain : (m : Module) → Chain (λ s b. end_at s m b)
unfolding end_at
end_chain m = behind_chain (λ s l. ended_at s m l) (ended_none m) (λ scope b bytes fault not e. ended_tells m scope b bytes fault e)
