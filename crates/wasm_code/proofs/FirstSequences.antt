-- Readings one behind the other tell their first fault.
use Rattle.std.proofs.Common.{◌≡◌, ℕ, List, [], ◌++◌, Result, Ok, Err, refl, sym, ap, ◌∙◌, ◌⊎◌, inl, inr, append_assoc}
use Rattle.wasm_code.specs.declared.fault.ReadKind.{ReadKind}
use Rattle.wasm_code.specs.declared.fault.ReadFault.{ReadFault}
use Rattle.wasm_code.specs.declared.scope.Scope.{Scope}
use Rattle.wasm_code.specs.Reading.{Reading, ◌>>=◌, fault_at, short_of}
pub use Rattle.basics.proofs.Results.{bind_err}
use Rattle.wasm_code.proofs.Steps.{bind_ok, pair_is, same_ok}
use Rattle.wasm_code.specs.FirstFault.{IsNotMended, IsFirst, TellsFirst}

-- what was read took some bytes from the front, and reads the same whatever follows them
abbrev pub TakesFront : {A : Type 0} → (Scope → List ℕ → Reading A) → List ℕ → A → List ℕ → Type 0
TakesFront read bytes x rest = (taken : List ℕ) × (bytes ≡ taken ++ rest) × ((scope : Scope) (after : List ℕ) → read scope (taken ++ after) ≡ Ok (x, after))

abbrev pub IsLocal : {A : Type 0} → (Scope → List ℕ → Reading A) → Type 0
IsLocal {A} read = (scope : Scope) (bytes rest : List ℕ) (x : A) → read scope bytes ≡ Ok (x, rest) → TakesFront read bytes x rest

-- both
pub record Reads {A : Type 0} (read : Scope → List ℕ → Reading A) : Type 0 where
  pub takes : IsLocal read
  pub tells : TellsFirst read

-- ---- one reading behind another

-- a fault of the second, seen from before the first
behind : {A B : Type 0} (first : Scope → List ℕ → Reading A) (second : A → Scope → List ℕ → Reading B) (scope : Scope) (bytes rest : List ℕ) (x : A) (fault : ReadFault) → TakesFront first bytes x rest → IsFirst (second x) scope rest fault → IsFirst (λ s b. first s b >>= λ a. second a.0 s a.1) scope bytes fault
behind first second scope bytes rest x fault t f = record {
  front = t.0 ++ f.front;
  tail = f.tail;
  parts = t.1 ∙ ap (λ (r : List ℕ). t.0 ++ r) f.parts ∙ sym (append_assoc t.0 f.front f.tail);
  before = λ s. let one = t.2 s f.front in rw one (f.before s);
  there = behind_there first second scope t.0 f.front f.tail x fault t.2 f.there;
}
  where
    behind_there : {A B : Type 0} (first : Scope → List ℕ → Reading A) (second : A → Scope → List ℕ → Reading B) (scope : Scope) (taken front tail : List ℕ) (x : A) (fault : ReadFault) → ((s : Scope) (after : List ℕ) → first s (taken ++ after) ≡ Ok (x, after))
        → (((tail ≡ []) × (fault ≡ short_of scope)) ⊎ ((kind : ReadKind) × (fault ≡ fault_at kind scope tail) × IsNotMended (second x) kind front tail))
        → (((tail ≡ []) × (fault ≡ short_of scope)) ⊎ ((kind : ReadKind) × (fault ≡ fault_at kind scope tail) × IsNotMended (λ s b. first s b >>= λ a. second a.0 s a.1) kind (taken ++ front) tail))
    behind_there first second scope taken front tail x fault t (inl cut) = inl cut
    behind_there {A} {B} first second scope taken front tail x fault t (inr told) = inr (
      told.0,
      told.1,
      λ s more.
          let one = t s (front ++ (tail ++ more)) in
          let go : Reading A → Reading B = λ r. r >>= λ a. second a.0 s a.1 in
          ap (λ (b : List ℕ). go (first s b)) (append_assoc taken front (tail ++ more)) ∙ ap go one ∙ told.2 s more,
    )

-- a fault of the first alone
lifted : {A B : Type 0} (first : Scope → List ℕ → Reading A) (second : A → Scope → List ℕ → Reading B) (scope : Scope) (bytes : List ℕ) (fault : ReadFault) → IsFirst first scope bytes fault → IsFirst (λ s b. first s b >>= λ a. second a.0 s a.1) scope bytes fault
lifted first second scope bytes fault f = record {
  front = f.front;
  tail = f.tail;
  parts = f.parts;
  before = λ s. let one = f.before s in rw one refl;
  there = lifted_there first second scope f.front f.tail fault f.there;
}
  where
    lifted_there : {A B : Type 0} (first : Scope → List ℕ → Reading A) (second : A → Scope → List ℕ → Reading B) (scope : Scope) (front tail : List ℕ) (fault : ReadFault)
        → (((tail ≡ []) × (fault ≡ short_of scope)) ⊎ ((kind : ReadKind) × (fault ≡ fault_at kind scope tail) × IsNotMended first kind front tail))
        → (((tail ≡ []) × (fault ≡ short_of scope)) ⊎ ((kind : ReadKind) × (fault ≡ fault_at kind scope tail) × IsNotMended (λ s b. first s b >>= λ a. second a.0 s a.1) kind front tail))
    lifted_there first second scope front tail fault (inl cut) = inl cut
    lifted_there first second scope front tail fault (inr told) = inr (told.0, told.1, λ s more. let one = told.2 s more in rw one refl)

pub both : {A B : Type 0} (first : Scope → List ℕ → Reading A) (second : A → Scope → List ℕ → Reading B) → Reads first → ((x : A) → Reads (second x)) → Reads (λ s b. first s b >>= λ a. second a.0 s a.1)
both {A} {B} first second f g = record {
  takes = λ scope bytes rest y e.
      let a = bind_ok (first scope bytes) (λ a. second a.0 scope a.1) (y, rest) e in
      let t = f.takes scope bytes a.0.1 a.0.0 a.1 in
      let u = (g a.0.0).takes scope a.0.1 rest y a.2 in (
        t.0 ++ u.0,
        t.1 ∙ ap (λ (r : List ℕ). t.0 ++ r) u.1 ∙ sym (append_assoc t.0 u.0 rest),
        λ s after.
            let one = t.2 s (u.0 ++ after) in
            let go : Reading A → Reading B = λ r. r >>= λ x. second x.0 s x.1 in
            ap (λ (b : List ℕ). go (first s b)) (append_assoc t.0 u.0 after) ∙ ap go one ∙ u.2 s after,
      );
  tells = λ scope bytes fault e. both_tell first second f g scope bytes fault (bind_err (first scope bytes) (λ a. second a.0 scope a.1) fault e);
}
  where
    both_tell : {A B : Type 0} (first : Scope → List ℕ → Reading A) (second : A → Scope → List ℕ → Reading B) → Reads first → ((x : A) → Reads (second x)) → (scope : Scope) (bytes : List ℕ) (fault : ReadFault)
        → ((first scope bytes ≡ Err fault) ⊎ ((a : A × List ℕ) × (first scope bytes ≡ Ok a) × (second a.0 scope a.1 ≡ Err fault))) → IsFirst (λ s b. first s b >>= λ a. second a.0 s a.1) scope bytes fault
    both_tell first second f g scope bytes fault (inl e) = lifted first second scope bytes fault (f.tells scope bytes fault e)
    both_tell first second f g scope bytes fault (inr a) = behind first second scope bytes a.0.1 a.0.0 fault (f.takes scope bytes a.0.1 a.0.0 a.1) ((g a.0.0).tells scope a.0.1 fault a.2)

-- a value that takes no bytes
pub done : {A : Type 0} (x : A) → Reads (λ s b. Ok (x, b))
done {A} x = record {
  takes = λ scope bytes rest y e.
      let same = pair_is x y bytes rest e in
      ([], same.1, λ s after. same_ok x y after after same.0 refl);
  tells = λ scope bytes fault e. absurd (never x bytes fault e);
}
  where
    never : {A : Type 0} (x : A) (bytes : List ℕ) (fault : ReadFault) → (let r : Reading A = Ok (x, bytes) in r) ≡ Err fault → ⊥
    never x bytes fault e = absurd cc

pub mapped : {A B : Type 0} (read : Scope → List ℕ → Reading A) (make : A → B) → Reads read → Reads (λ s b. read s b >>= λ a. Ok (make a.0, a.1))
mapped {A} {B} read make r = both read (λ x s b. Ok (make x, b)) r (λ x. done (make x))
