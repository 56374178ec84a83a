-- Custom sections tell their first fault, and are passed over.
use Rattle.std.proofs.Common.{◌≡◌, ℕ, zero, suc, ◌≤◌, Bool, true, false, cond, eqb, List, [], ◌∷◌, length, Option, Some, None, Result, Ok, Err, refl, sym, ap, subst, ◌∙◌, arith, inl, inr}
use Rattle.wasm_code.specs.declared.fault.ReadKind.TheVariants.{SectionSize}
use Rattle.wasm_code.specs.declared.fault.ReadFault.{ReadFault}
use Rattle.wasm_code.specs.declared.scope.Scope.{Scope}
use Rattle.wasm_code.specs.Reading.{Reading, ◌>>=◌, short_of}
use Rattle.wasm_code.proofs.Steps.{bind_ok}
use Rattle.wasm_code.proofs.FirstSequences.{bind_err}
use Rattle.wasm_reader.specs.Reading.{name_at}
use Rattle.wasm_reader.specs.Sections.{Inside, open_at, close_at, custom_at, next_custom_at, customs_from, customs_at}
use Rattle.wasm_reader.specs.FirstFault.{IsCut}
use Rattle.wasm_reader.proofs.Loops.{customs_go, customs_stop}
use Rattle.wasm_reader.proofs.ExactSections.{next_some, custom_takes, found}
use Rattle.wasm_reader.proofs.FirstParts.{name_reads}
use Rattle.wasm_reader.proofs.FirstCarried.{given, same_fault, fault_no_value, Any, any, carry, Tells, tells_plainly}
use Rattle.wasm_reader.proofs.FirstContent.{IsFinished, Content, of_section, shut, part_at}
use Rattle.wasm_reader.proofs.FirstSized.{section_end, part_reads}

-- ---- custom sections

abbrev pub named : Scope → List ℕ → Result (List ℕ) ReadFault
named s bytes = name_at s bytes >>= λ n. Ok n.0

named_stops : (s : Scope) (bytes : List ℕ) (e : ReadFault) → name_at s bytes ≡ Err e → named s bytes ≡ Err e
named_stops s bytes e h = rw h refl

-- a name, whatever stands behind it
named_content : Content named
named_content = record {
  same = λ s z bytes x e.
      let a = bind_ok (name_at s bytes) (λ n. given n.0) x e in
      let t = name_reads.takes s bytes a.0.1 a.0.0 a.1 in
      let again : name_at z bytes ≡ Ok (a.0.0, a.0.1) = ap (name_at z) t.1 ∙ t.2 z a.0.1 in
      let same : named z bytes ≡ Ok a.0.0 = rw again refl in
      same ∙ a.2;
  tells = λ scope bytes fault e.
      elim (bind_err (name_at scope bytes) (λ n. given n.0) fault e) [
        | inr a ↦ fault_no_value a.0.0 fault (sym a.2)
        | inl name ↦
            carry IsCut IsFinished name_at named [] Any (record {
              fails = λ s b d a h. named_stops s b d h;
              ends = λ s b a h. subst (λ (x : Result (List ℕ) ReadFault). IsFinished s x) (sym (named_stops s b (short_of s) h)) refl;
              stops = λ s d h. same_fault {A = List ℕ × List ℕ} d (short_of s) h;
            }) scope bytes fault (any bytes) ((tells_plainly name_at name_reads).tells scope bytes fault name)
      ];
}

pub custom_tells : Tells true (part_at of_section named)
custom_tells = part_reads true of_section named (section_end named) named_content

custom_closes : (part : Inside) (r : Reading (List ℕ)) → (r >>= λ name. close_at part []) ≡ (((r >>= λ n. Ok n.0) >>= λ x. shut part x) >>= λ y. given y.1)
unfolding close_at
custom_closes part (Err e) = refl
custom_closes part (Ok n) = chosen part.whole
  where
    chosen : (t : Bool) → cond t (given part.after) (Err (short_of part.scope)) ≡ (cond t (given {A = List ℕ × List ℕ} (n.0, part.after)) (Err (short_of part.scope)) >>= λ y. given y.1)
    chosen true = refl
    chosen false = refl

custom_parts : (o : Result Inside ReadFault) → (o >>= λ part. name_at part.scope part.content >>= λ name. close_at part []) ≡ ((o >>= λ part. named part.scope part.content >>= λ x. shut part x) >>= λ y. given y.1)
custom_parts (Ok part) = custom_closes part (name_at part.scope part.content)
custom_parts (Err e) = refl

custom_is : (s : Scope) (bytes : List ℕ) → custom_at s bytes ≡ (part_at of_section named s bytes >>= λ y. given y.1)
unfolding custom_at
custom_is s bytes = custom_parts (open_at SectionSize s bytes)

pub custom_fails : (s : Scope) (bytes : List ℕ) (e : ReadFault) → part_at of_section named s bytes ≡ Err e → custom_at s bytes ≡ Err e
custom_fails s bytes e h =
    let one : (part_at of_section named s bytes >>= λ y. given y.1) ≡ Err e = rw h refl in
    custom_is s bytes ∙ one

pub custom_goes : (s : Scope) (bytes after x : List ℕ) → part_at of_section named s bytes ≡ Ok (x, after) → custom_at s bytes ≡ Ok after
custom_goes s bytes after x h =
    let one : (part_at of_section named s bytes >>= λ y. given y.1) ≡ Ok after = rw h refl in
    custom_is s bytes ∙ one

-- ---- all custom sections that stand here

next_fails : (s : Scope) (b : ℕ) (bytes : List ℕ) (e : ReadFault) → eqb b 0 ≡ true → custom_at s bytes ≡ Err e → next_custom_at s (b ∷ bytes) ≡ Err e
unfolding next_custom_at
next_fails s b bytes e is h = rw (is, h) refl

pub next_goes : (s : Scope) (b : ℕ) (bytes after : List ℕ) → eqb b 0 ≡ true → custom_at s bytes ≡ Ok after → next_custom_at s (b ∷ bytes) ≡ found (Some after)
unfolding next_custom_at
next_goes s b bytes after is h = rw (is, h) refl

next_stops : (s : Scope) (b : ℕ) (bytes : List ℕ) → eqb b 0 ≡ false → next_custom_at s (b ∷ bytes) ≡ found None
unfolding next_custom_at
next_stops s b bytes not = rw not refl

next_nil : (s : Scope) → next_custom_at s [] ≡ found None
unfolding next_custom_at
next_nil s = refl

from_fails : (most : ℕ) (s : Scope) (bytes : List ℕ) (e : ReadFault) → next_custom_at s bytes ≡ Err e → customs_from (suc most) s bytes ≡ Err e
unfolding customs_from
from_fails most s bytes e h = rw h refl

from_none : (s : Scope) (bytes : List ℕ) → customs_from 0 s bytes ≡ Ok bytes
unfolding customs_from
from_none s bytes = refl

enough_next : (m n : ℕ) (s : Scope) (bytes : List ℕ) → ((after : List ℕ) → next_custom_at s bytes ≡ found (Some after) → customs_from m s after ≡ customs_from n s after) → customs_from (suc m) s bytes ≡ customs_from (suc n) s bytes
enough_next m n s bytes ih = go (next_custom_at s bytes) refl
  where
    go : (r : Result (Option (List ℕ)) ReadFault) → next_custom_at s bytes ≡ r → customs_from (suc m) s bytes ≡ customs_from (suc n) s bytes
    go (Err e) h = from_fails m s bytes e h ∙ sym (from_fails n s bytes e h)
    go (Ok None) h = customs_stop m s bytes h ∙ sym (customs_stop n s bytes h)
    go (Ok (Some after)) h = customs_go m s bytes after h ∙ ih after h ∙ sym (customs_go n s bytes after h)

-- more turns than bytes make no difference
enough : (m n : ℕ) (s : Scope) (bytes : List ℕ) → length bytes ≤ m → length bytes ≤ n → customs_from m s bytes ≡ customs_from n s bytes
enough zero zero s bytes p q = refl
enough zero (suc n) s [] p q = from_none s [] ∙ sym (customs_stop n s [] (next_nil s))
enough zero (suc n) s (b ∷ bytes) p q = absurd (omega (arith, p))
enough (suc m) zero s [] p q = customs_stop m s [] (next_nil s) ∙ sym (from_none s [])
enough (suc m) zero s (b ∷ bytes) p q = absurd (omega (arith, q))
enough (suc m) (suc n) s bytes p q = enough_next m n s bytes (λ after e. let less = custom_takes bytes after (next_some s bytes after e) in enough m n s after (omega (arith, p, less)) (omega (arith, q, less)))

pub customs_nil : (s : Scope) → customs_at s [] ≡ Ok []
unfolding customs_at customs_from
customs_nil s = refl

pub customs_fail : (s : Scope) (b : ℕ) (bytes : List ℕ) (e : ReadFault) → eqb b 0 ≡ true → custom_at s bytes ≡ Err e → customs_at s (b ∷ bytes) ≡ Err e
unfolding customs_at
customs_fail s b bytes e is h = from_fails (length bytes) s (b ∷ bytes) e (next_fails s b bytes e is h)

pub customs_pass : (s : Scope) (b : ℕ) (bytes after : List ℕ) → eqb b 0 ≡ true → custom_at s bytes ≡ Ok after → customs_at s (b ∷ bytes) ≡ customs_at s after
unfolding customs_at
customs_pass s b bytes after is h =
    let next = next_goes s b bytes after is h in
    let less = custom_takes (b ∷ bytes) after (next_some s (b ∷ bytes) after next) in
    customs_go (length bytes) s (b ∷ bytes) after next ∙ enough (length bytes) (length after) s after (omega (arith, less)) (omega arith)

pub customs_other : (s : Scope) (b : ℕ) (bytes : List ℕ) → eqb b 0 ≡ false → customs_at s (b ∷ bytes) ≡ Ok (b ∷ bytes)
unfolding customs_at
customs_other s b bytes not = customs_stop (length bytes) s (b ∷ bytes) (next_stops s b bytes not)
