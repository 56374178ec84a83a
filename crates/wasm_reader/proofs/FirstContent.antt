-- The content of a part with a stated size, and how such a part is read.
use Rattle.std.proofs.Common.{◌≡◌, ℕ, ◌-◌, ◌<◌, true, false, cond, leb, min, List, [], ◌∷◌, ◌++◌, length, take, drop, Result, Ok, Err, refl, sym, ap, subst, ◌∙◌, arith, ◌⊎◌, inl, inr}
use Rattle.std.proofs.lemmas.Bool.{cases_Bool, leb-true, leb-false, le-leb, lt-leb}
use Rattle.std.proofs.lemmas.List.{take_at, drop_at, take-append-drop, length-append, length-take, append-nil}
use Rattle.wasm_code.specs.declared.fault.ReadKind.{ReadKind}
use Rattle.wasm_code.specs.declared.fault.ReadKind.TheVariants.{SectionSize}
use Rattle.wasm_code.specs.declared.fault.ReadFault.{ReadFault}
use Rattle.wasm_code.specs.declared.scope.Scope.{Scope}
use Rattle.wasm_code.specs.Reading.{Reading, ◌>>=◌, fault_at, short_of, u32_at}
use Rattle.wasm_code.proofs.Steps.{bind_ok, ok_is}
use Rattle.wasm_code.proofs.FirstSequences.{TakesFront, bind_err}
use Rattle.wasm_code.proofs.FirstNumbers.{u32_reads}
use Rattle.wasm_reader.specs.Sections.{Inside, short_before, open_at}
use Rattle.wasm_reader.specs.FirstFault.{IsCut, IsFirstBut, TellsFirstBut}
use Rattle.wasm_reader.proofs.FirstCarried.{failed, given, same_fault, fault_no_value, Any, any, carry, Tells}

pub cases : {A : Type 0} (r : Result A ReadFault) → ((x : A) × (r ≡ Ok x)) ⊎ ((e : ReadFault) × (r ≡ Err e))
cases (Ok x) = inl (x, refl)
cases (Err e) = inr (e, refl)

-- ---- all of a part's content

-- what is told of content that is right so far: it is whole, or cut off
abbrev pub IsFinished : {A : Type 0} → Scope → Result A ReadFault → Type 0
IsFinished s (Ok x) = Unit {0}
IsFinished s (Err e) = e ≡ short_of s

-- the content of a part: it reads the same in every scope, and tells its first fault
pub record Content {A : Type 0} (all : Scope → List ℕ → Result A ReadFault) : Type 0 where
  pub same : (s z : Scope) (bytes : List ℕ) (x : A) → all s bytes ≡ Ok x → all z bytes ≡ Ok x
  pub tells : TellsFirstBut IsFinished all

-- what has no exception
pub settled : {X : Type 0} → (X ⊎ ⊥) → X
settled (inl x) = x
settled (inr never) = absurd never

-- nothing may be left
abbrev pub left_of : {A : Type 0} → Scope → A → List ℕ → Result A ReadFault
left_of s x [] = Ok x
left_of s x (b ∷ rest) = Err (fault_at SectionSize s (b ∷ rest))

abbrev pub all_of : {A : Type 0} → (Scope → List ℕ → Reading A) → Scope → List ℕ → Result A ReadFault
all_of read s bytes = read s bytes >>= λ x. left_of s x.0 x.1

left_ok : {A : Type 0} (s : Scope) (y x : A) (rest : List ℕ) → left_of s y rest ≡ Ok x → (rest ≡ []) × (y ≡ x)
left_ok s y x [] e = (refl, ok_is y x e)
left_ok s y x (b ∷ rest) e = fault_no_value x (fault_at SectionSize s (b ∷ rest)) e

all_goes : {A : Type 0} (read : Scope → List ℕ → Reading A) (s : Scope) (bytes rest : List ℕ) (x : A) → read s bytes ≡ Ok (x, rest) → all_of read s bytes ≡ left_of s x rest
all_goes read s bytes rest x e = rw e refl

all_stops : {A : Type 0} (read : Scope → List ℕ → Reading A) (s : Scope) (bytes : List ℕ) (e : ReadFault) → read s bytes ≡ Err e → all_of read s bytes ≡ Err e
all_stops read s bytes e h = rw h refl

left_tells : {A : Type 0} (read : Scope → List ℕ → Reading A) (scope : Scope) (bytes rest : List ℕ) (x : A) (fault : ReadFault) → TakesFront read bytes x rest → left_of scope x rest ≡ Err fault → IsFirstBut false IsFinished (all_of read) scope bytes fault
left_tells read scope bytes [] x fault t e = fault_no_value x fault (sym e)
left_tells {A} read scope bytes (b ∷ rest) x fault t e = record {
  front = t.0;
  tail = b ∷ rest;
  parts = t.1;
  before = inl (λ s.
      let alone : read s t.0 ≡ Ok (x, []) = ap (read s) (sym (append-nil t.0)) ∙ t.2 s [] in
      subst (λ (r : Result A ReadFault). IsFinished s r) (sym (all_goes read s t.0 [] x alone)) tt);
  there = inr (SectionSize, sym (same_fault {A = A} (fault_at SectionSize scope (b ∷ rest)) fault e), inl (λ s more. all_goes read s (t.0 ++ (b ∷ (rest ++ more))) (b ∷ (rest ++ more)) x (t.2 s (b ∷ (rest ++ more)))));
}

pub closed : {A : Type 0} (read : Scope → List ℕ → Reading A) → Tells false read → Content (all_of read)
closed {A} read r = record {
  same = λ s z bytes x e.
      let a = bind_ok (read s bytes) (λ x. left_of s x.0 x.1) x e in
      let t = r.takes s bytes a.0.1 a.0.0 a.1 in
      let l = left_ok s a.0.0 x a.0.1 a.2 in
      let again : read z bytes ≡ Ok (a.0.0, a.0.1) = ap (read z) t.1 ∙ t.2 z a.0.1 in
      all_goes read z bytes a.0.1 a.0.0 again ∙ ap (left_of z a.0.0) l.0 ∙ ap (λ (y : A). given y) l.1;
  tells = λ scope bytes fault e. tell scope bytes fault (bind_err (read scope bytes) (λ x. left_of scope x.0 x.1) fault e);
}
  where
    tell : (scope : Scope) (bytes : List ℕ) (fault : ReadFault) → ((read scope bytes ≡ Err fault) ⊎ ((a : A × List ℕ) × (read scope bytes ≡ Ok a) × (left_of scope a.0 a.1 ≡ Err fault))) → IsFirstBut false IsFinished (all_of read) scope bytes fault
    tell scope bytes fault (inl e) = carry IsCut IsFinished read (all_of read) [] Any (record {
      fails = λ s b d a h. all_stops read s b d h;
      ends = λ s b a h. subst (λ (x : Result A ReadFault). IsFinished s x) (sym (all_stops read s b (short_of s) h)) refl;
      stops = λ s d h. same_fault {A = A × List ℕ} d (short_of s) h;
    }) scope bytes fault (any bytes) (r.tells scope bytes fault e)
    tell scope bytes fault (inr a) = left_tells read scope bytes a.0.1 a.0.0 fault (r.takes scope bytes a.0.1 a.0.0 a.1) a.2

-- ---- the size

-- what it is, in a scope, to pass the end of a part behind which nothing stands
abbrev pub Last : Type 0
Last = Scope → ReadKind

-- of a section
abbrev pub of_section : Last
of_section s = SectionSize

-- of a body
abbrev pub of_body : Last
of_body s = s.short

abbrev pub within : Last → Scope → List ℕ → Scope
within last s rest = record { end = s.end - length rest; short = short_before (last s) rest }

abbrev whole_part : Last → Scope → List ℕ → List ℕ → Inside
whole_part last s inside rest = record { scope = within last s rest; content = inside; after = rest; whole = true }

abbrev cut_part : Scope → List ℕ → Inside
cut_part s content = record { scope = s; content = content; after = []; whole = false }

abbrev pub shut : {A : Type 0} → Inside → A → Reading A
shut part x = cond part.whole (Ok (x, part.after)) (Err (short_of part.scope))

-- a part whose content is read by such a reading
abbrev pub part_at : {A : Type 0} → Last → (Scope → List ℕ → Result A ReadFault) → Scope → List ℕ → Reading A
part_at last all s bytes = open_at (last s) s bytes >>= λ part. all part.scope part.content >>= λ x. shut part x

-- bytes that spell a number, whatever follows them
abbrev pub IsSize : List ℕ → ℕ → Type 0
IsSize t n = (s : Scope) (rest : List ℕ) → u32_at s (t ++ rest) ≡ Ok (n, rest)

pub open_fails : (last : Last) (s : Scope) (bytes : List ℕ) (e : ReadFault) → u32_at s bytes ≡ Err e → open_at (last s) s bytes ≡ Err e
unfolding open_at
open_fails last s bytes e h = rw h refl

open_whole : (last : Last) (s : Scope) (t inside rest : List ℕ) → IsSize t (length inside) → open_at (last s) s (t ++ (inside ++ rest)) ≡ Ok (whole_part last s inside rest)
unfolding open_at
open_whole last s t inside rest size =
    let n = size s (inside ++ rest) in
    let fits : leb (length inside) (length (inside ++ rest)) ≡ true = le-leb (length inside) (length (inside ++ rest)) (omega (arith, length-append inside rest)) in
    rw (n, fits, take_at inside rest (length inside) refl, drop_at inside rest (length inside) refl) refl

open_cut : (last : Last) (s : Scope) (t l : List ℕ) (n : ℕ) → IsSize t n → length l < n → open_at (last s) s (t ++ l) ≡ Ok (cut_part s l)
unfolding open_at
open_cut last s t l n size few =
    let m = size s l in
    let not : leb n (length l) ≡ false = lt-leb n (length l) few in
    rw (m, not) refl

-- how a part begins: with no number, with the size of what stands there, or with a greater one
abbrev pub SizeCases : Scope → List ℕ → Type 0
SizeCases s bytes =
    ((e : ReadFault) × (u32_at s bytes ≡ Err e))
    ⊎ (((t : List ℕ) × (inside : List ℕ) × (rest : List ℕ) × IsSize t (length inside) × (bytes ≡ t ++ (inside ++ rest)))
    ⊎ ((t : List ℕ) × (l : List ℕ) × (n : ℕ) × IsSize t n × (bytes ≡ t ++ l) × (length l < n)))

pub size_cases : (s : Scope) (bytes : List ℕ) → SizeCases s bytes
size_cases s bytes =
    elim (cases (u32_at s bytes)) [
      | inr err ↦ inl err
      | inl number ↦
          (let n = number.0.0 in
          let r = number.0.1 in
          let t = u32_reads.takes s bytes r n number.1 in
          elim (cases_Bool (leb n (length r))) [
            | inr short ↦ inr (inr (t.0, r, n, t.2, t.1, leb-false n (length r) short))
            | inl fits ↦
                (let len : length (take n r) ≡ n = omega (arith, length-take n r, leb-true n (length r) fits) in
                inr (inl (t.0, take n r, drop n r, subst (λ (k : ℕ). IsSize t.0 k) (sym len) t.2, t.1 ∙ ap (λ (l : List ℕ). t.0 ++ l) (sym (take-append-drop n r)))))
          ])
    ]

pub whole_fails : {A : Type 0} (last : Last) (all : Scope → List ℕ → Result A ReadFault) (s : Scope) (t inside rest : List ℕ) → IsSize t (length inside) → (e : ReadFault) → all (within last s rest) inside ≡ Err e → part_at last all s (t ++ (inside ++ rest)) ≡ Err e
whole_fails last all s t inside rest size e h = let o = open_whole last s t inside rest size in rw (o, h) refl

pub whole_is : {A : Type 0} (last : Last) (all : Scope → List ℕ → Result A ReadFault) (s : Scope) (t inside rest : List ℕ) → IsSize t (length inside) → (x : A) → all (within last s rest) inside ≡ Ok x → part_at last all s (t ++ (inside ++ rest)) ≡ Ok (x, rest)
whole_is last all s t inside rest size x h = let o = open_whole last s t inside rest size in rw (o, h) refl

pub cut_fails : {A : Type 0} (last : Last) (all : Scope → List ℕ → Result A ReadFault) (s : Scope) (t l : List ℕ) (n : ℕ) → IsSize t n → length l < n → (e : ReadFault) → all s l ≡ Err e → part_at last all s (t ++ l) ≡ Err e
cut_fails last all s t l n size few e h = let o = open_cut last s t l n size few in rw (o, h) refl

pub cut_short : {A : Type 0} (last : Last) (all : Scope → List ℕ → Result A ReadFault) (s : Scope) (t l : List ℕ) (n : ℕ) → IsSize t n → length l < n → (x : A) → all s l ≡ Ok x → part_at last all s (t ++ l) ≡ Err (short_of s)
cut_short last all s t l n size few x h = let o = open_cut last s t l n size few in rw (o, h) refl

pub cut_ends : {A : Type 0} (last : Last) (all : Scope → List ℕ → Result A ReadFault) (s : Scope) (t l : List ℕ) (n : ℕ) → IsSize t n → length l < n → IsFinished s (all s l) → part_at last all s (t ++ l) ≡ Err (short_of s)
cut_ends {A} last all s t l n size few h =
    elim (cases (all s l)) [
      | inl ok ↦ cut_short last all s t l n size few ok.0 ok.1
      | inr err ↦
          (let same : err.0 ≡ short_of s = subst (λ (r : Result A ReadFault). IsFinished s r) err.1 h in
          cut_fails last all s t l n size few (short_of s) (err.1 ∙ ap (λ (e : ReadFault). failed e) same))
    ]

pub deeper : (last : Last) (kind : ReadKind) (s : Scope) (tail rest : List ℕ) → fault_at kind (within last s rest) tail ≡ fault_at kind s (tail ++ rest)
deeper last kind s tail rest =
    let place : (s.end - length rest) - length tail ≡ s.end - length (tail ++ rest) = omega (arith, length-append tail rest) in
    ap (λ (k : ℕ). at kind k) place
  where
    at : ReadKind → ℕ → ReadFault
    at kind k = record { kind = kind; place = min k 4294967295 }
