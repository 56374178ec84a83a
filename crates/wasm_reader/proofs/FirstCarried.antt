-- From the first faults of one reading to those of another; sequences.
use Rattle.std.proofs.Common.{◌≡◌, ℕ, Bool, true, false, List, [], ◌++◌, Result, Ok, Err, refl, sym, ap, subst, ◌∙◌, ◌⊎◌, inl, inr, append_assoc}
use Rattle.std.proofs.lemmas.List.{append-nil}
use Rattle.wasm_code.specs.declared.fault.ReadKind.{ReadKind}
use Rattle.wasm_code.specs.declared.fault.ReadKind.TheVariants.{SectionSize, BadLeb, TooLarge}
use Rattle.wasm_code.specs.declared.fault.ReadFault.{ReadFault}
use Rattle.wasm_code.specs.declared.scope.Scope.{Scope}
use Rattle.wasm_code.specs.Reading.{Reading, ◌>>=◌, fault_at, short_of}
use Rattle.wasm_code.proofs.FirstSequences.{bind_err}
use Rattle.wasm_code.proofs.Steps.{bind_ok}
use Rattle.wasm_code.proofs.FirstSequences.{IsLocal, Reads}
use Rattle.wasm_code.specs.FirstFault as plain
use Rattle.wasm_reader.specs.FirstFault.{IsCut, MayOutgrow, IsNotMended, IsCutCount, IsFirstBut}

-- ---- from one reading to another that has its faults

abbrev pub Ending : Type 0 → Type 1
Ending A = Scope → Result A ReadFault → Type 0

abbrev pub failed : {A : Type 0} → ReadFault → Result A ReadFault
failed e = Err e

abbrev pub given : {A : Type 0} → A → Result A ReadFault
given x = Ok x

pub same_fault : {A : Type 0} (d e : ReadFault) → failed {A = A} d ≡ failed e → d ≡ e
same_fault d e h = cc

pub fault_no_value : {A P : Type 0} (x : A) (e : ReadFault) → failed e ≡ given x → P
fault_no_value x e h = absurd cc

-- the faults of the first reading, on bytes of a kind, are those of the second behind other bytes
pub record Carries {A B : Type 0} (EndsA : Ending A) (EndsB : Ending B) (read : Scope → List ℕ → Result A ReadFault) (other : Scope → List ℕ → Result B ReadFault) (pre : List ℕ) (Are : List ℕ → Type 0) : Type 0 where
  pub fails : (s : Scope) (bytes : List ℕ) (e : ReadFault) → Are bytes → read s bytes ≡ Err e → other s (pre ++ bytes) ≡ Err e
  pub ends : (s : Scope) (bytes : List ℕ) → Are bytes → EndsA s (read s bytes) → EndsB s (other s (pre ++ bytes))
  pub stops : (s : Scope) (e : ReadFault) → EndsA s (Err e) → EndsB s (Err e)

-- bytes of the kind are of it up to any place, and with others behind them
abbrev pub IsOpen : (List ℕ → Type 0) → List ℕ → Type 0
IsOpen Are bytes = (front tail : List ℕ) → bytes ≡ front ++ tail → Are front × ((more : List ℕ) → Are (front ++ (tail ++ more)))

pub carry : {A B : Type 0} {sections : Bool} (EndsA : Ending A) (EndsB : Ending B) (read : Scope → List ℕ → Result A ReadFault) (other : Scope → List ℕ → Result B ReadFault) (pre : List ℕ) (Are : List ℕ → Type 0) → Carries EndsA EndsB read other pre Are → (scope : Scope) (bytes : List ℕ) (fault : ReadFault) → IsOpen Are bytes → IsFirstBut sections EndsA read scope bytes fault → IsFirstBut sections EndsB other scope (pre ++ bytes) fault
carry {A} {B} {sections} EndsA EndsB read other pre Are c scope bytes fault goes f = record {
  front = pre ++ f.front;
  tail = f.tail;
  parts = ap (λ (l : List ℕ). pre ++ l) f.parts ∙ sym (append_assoc pre f.front f.tail);
  before = before sections f.before;
  there = there f.there;
}
  where
    are : Are f.front × ((more : List ℕ) → Are (f.front ++ (f.tail ++ more)))
    are = goes f.front f.tail f.parts

    before : (may : Bool) → (((s : Scope) → EndsA s (read s f.front)) ⊎ MayOutgrow may read fault f.front) → (((s : Scope) → EndsB s (other s (pre ++ f.front))) ⊎ MayOutgrow may other fault (pre ++ f.front))
    before may (inl right) = inl (λ s. c.ends s f.front are.0 (right s))
    before false (inr grown) = absurd grown
    before true (inr grown) = inr (grown.0, λ s. c.fails s f.front (fault_at SectionSize s []) are.0 (grown.1 s))

    again : (s : Scope) (more : List ℕ) (e : ReadFault) → read s (f.front ++ (f.tail ++ more)) ≡ Err e → other s ((pre ++ f.front) ++ (f.tail ++ more)) ≡ Err e
    again s more e h = ap (other s) (append_assoc pre f.front (f.tail ++ more)) ∙ c.fails s (f.front ++ (f.tail ++ more)) e (are.1 more) h

    alone : (s : Scope) (e : ReadFault) → read s (f.front ++ f.tail) ≡ Err e → other s ((pre ++ f.front) ++ f.tail) ≡ Err e
    alone s e h =
        let none : f.tail ++ [] ≡ f.tail = append-nil f.tail in
        ap (λ (l : List ℕ). other s ((pre ++ f.front) ++ l)) (sym none) ∙ again s [] e (ap (λ (l : List ℕ). read s (f.front ++ l)) none ∙ h)

    mended : (kind : ReadKind) → (IsNotMended read kind f.front f.tail ⊎ IsCutCount read kind f.front f.tail) → (IsNotMended other kind (pre ++ f.front) f.tail ⊎ IsCutCount other kind (pre ++ f.front) f.tail)
    mended kind (inl same) = inl (λ s more. again s more (fault_at kind s (f.tail ++ more)) (same s more))
    mended kind (inr count) = inr (
      count.0,
      count.1,
      λ s. alone s (fault_at TooLarge s f.tail) (count.2 s),
      λ s more.
          elim (count.3 s more) [
            | inl large ↦ inl (again s more (fault_at TooLarge s (f.tail ++ more)) large)
            | inr bad ↦ inr (again s more (fault_at BadLeb s (f.tail ++ more)) bad)
          ],
    )

    there : (((f.tail ≡ []) × EndsA scope (Err fault)) ⊎ ((kind : ReadKind) × (fault ≡ fault_at kind scope f.tail) × (IsNotMended read kind f.front f.tail ⊎ IsCutCount read kind f.front f.tail)))
        → (((f.tail ≡ []) × EndsB scope (Err fault)) ⊎ ((kind : ReadKind) × (fault ≡ fault_at kind scope f.tail) × (IsNotMended other kind (pre ++ f.front) f.tail ⊎ IsCutCount other kind (pre ++ f.front) f.tail)))
    there (inl end) = inl (end.0, c.stops scope fault end.1)
    there (inr told) = inr (told.0, told.1, mended told.0 told.2)

abbrev pub Any : List ℕ → Type 0
Any bytes = Unit {0}

pub any : (bytes : List ℕ) → IsOpen Any bytes
any bytes front tail e = (tt, λ more. tt)

-- text without an exception has none that it may have
pub loosely : {A : Type 0} (sections : Bool) (Ends : Ending A) (read : Scope → List ℕ → Result A ReadFault) (scope : Scope) (bytes : List ℕ) (fault : ReadFault) → IsFirstBut false Ends read scope bytes fault → IsFirstBut sections Ends read scope bytes fault
loosely sections Ends read scope bytes fault f = record { front = f.front; tail = f.tail; parts = f.parts; before = before f.before; there = f.there }
  where
    before : (((s : Scope) → Ends s (read s f.front)) ⊎ ⊥) → (((s : Scope) → Ends s (read s f.front)) ⊎ MayOutgrow sections read fault f.front)
    before (inl right) = inl right
    before (inr never) = absurd never

-- ---- sequences

-- a reading takes bytes from the front, and tells its first fault
pub record Tells {A : Type 0} (sections : Bool) (read : Scope → List ℕ → Reading A) : Type 0 where
  pub takes : IsLocal read
  pub tells : (scope : Scope) (bytes : List ℕ) (fault : ReadFault) → read scope bytes ≡ Err fault → IsFirstBut sections IsCut read scope bytes fault

-- without exceptions
pub plainly : {A : Type 0} (read : Scope → List ℕ → Reading A) (scope : Scope) (bytes : List ℕ) (fault : ReadFault) → plain.IsFirst read scope bytes fault → IsFirstBut false IsCut read scope bytes fault
plainly {A} read scope bytes fault f = record { front = f.front; tail = f.tail; parts = f.parts; before = inl f.before; there = there f.there }
  where
    there : (((f.tail ≡ []) × (fault ≡ short_of scope)) ⊎ ((kind : ReadKind) × (fault ≡ fault_at kind scope f.tail) × plain.IsNotMended read kind f.front f.tail))
        → (((f.tail ≡ []) × IsCut {A = A × List ℕ} scope (Err fault)) ⊎ ((kind : ReadKind) × (fault ≡ fault_at kind scope f.tail) × (IsNotMended read kind f.front f.tail ⊎ IsCutCount read kind f.front f.tail)))
    there (inl cut) = inl (cut.0, ap (λ (e : ReadFault). failed e) cut.1)
    there (inr told) = inr (told.0, told.1, inl told.2)

pub tells_plainly : {A : Type 0} (read : Scope → List ℕ → Reading A) → Reads read → Tells false read
tells_plainly read r = record { takes = r.takes; tells = λ scope bytes fault e. plainly read scope bytes fault (r.tells scope bytes fault e) }

abbrev then_at : {A B : Type 0} → (Scope → List ℕ → Reading A) → (A → Scope → List ℕ → Reading B) → Scope → List ℕ → Reading B
then_at first second s b = first s b >>= λ a. second a.0 s a.1

then_goes : {A B : Type 0} (first : Scope → List ℕ → Reading A) (second : A → Scope → List ℕ → Reading B) (s : Scope) (bytes rest : List ℕ) (x : A) → first s bytes ≡ Ok (x, rest) → then_at first second s bytes ≡ second x s rest
then_goes first second s bytes rest x e = rw e refl

then_stops : {A B : Type 0} (first : Scope → List ℕ → Reading A) (second : A → Scope → List ℕ → Reading B) (s : Scope) (bytes : List ℕ) (e : ReadFault) → first s bytes ≡ Err e → then_at first second s bytes ≡ Err e
then_stops first second s bytes e h = rw h refl

-- one reading behind another
pub after : {A B : Type 0} (first : Scope → List ℕ → Reading A) (second : A → Scope → List ℕ → Reading B) → Tells false first → ((x : A) → Tells false (second x)) → Tells false (λ s b. first s b >>= λ a. second a.0 s a.1)
after {A} {B} first second f g = record {
  takes = λ scope bytes rest y e.
      let a = bind_ok (first scope bytes) (λ a. second a.0 scope a.1) (y, rest) e in
      let t = f.takes scope bytes a.0.1 a.0.0 a.1 in
      let u = (g a.0.0).takes scope a.0.1 rest y a.2 in (
        t.0 ++ u.0,
        t.1 ∙ ap (λ (r : List ℕ). t.0 ++ r) u.1 ∙ sym (append_assoc t.0 u.0 rest),
        λ s more. ap (then_at first second s) (append_assoc t.0 u.0 more) ∙ then_goes first second s (t.0 ++ (u.0 ++ more)) (u.0 ++ more) a.0.0 (t.2 s (u.0 ++ more)) ∙ u.2 s more,
      );
  tells = λ scope bytes fault e. tell scope bytes fault (bind_err (first scope bytes) (λ a. second a.0 scope a.1) fault e);
}
  where
    tell : (scope : Scope) (bytes : List ℕ) (fault : ReadFault) → ((first scope bytes ≡ Err fault) ⊎ ((a : A × List ℕ) × (first scope bytes ≡ Ok a) × (second a.0 scope a.1 ≡ Err fault))) → IsFirstBut false IsCut (then_at first second) scope bytes fault
    tell scope bytes fault (inl e) = carry IsCut IsCut first (then_at first second) [] Any (record { fails = λ s b d a h. then_stops first second s b d h; ends = λ s b a h. then_stops first second s b (short_of s) h; stops = λ s d h. ap (λ (x : ReadFault). failed x) (same_fault {A = A × List ℕ} d (short_of s) h) }) scope bytes fault (any bytes) (f.tells scope bytes fault e)
    tell scope bytes fault (inr a) =
        let t = f.takes scope bytes a.0.1 a.0.0 a.1 in
        let made = carry IsCut IsCut (second a.0.0) (then_at first second) t.0 Any (record { fails = λ s b d z h. then_goes first second s (t.0 ++ b) b a.0.0 (t.2 s b) ∙ h; ends = λ s b z h. then_goes first second s (t.0 ++ b) b a.0.0 (t.2 s b) ∙ h; stops = λ s d h. h }) scope a.0.1 fault (any a.0.1) ((g a.0.0).tells scope a.0.1 fault a.2) in
        subst (λ (l : List ℕ). IsFirstBut false IsCut (then_at first second) scope l fault) (sym t.1) made
