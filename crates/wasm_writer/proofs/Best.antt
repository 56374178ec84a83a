-- Spellings that are in the grammar and are the shortest there, and how they are put together.
use Rattle.std.proofs.Common.{◌≡◌, ℕ, suc, ◌+◌, ◌<◌, ◌≤◌, List, [], ◌∷◌, ◌++◌, length, refl, sym, subst, arith, append_assoc}
use Rattle.std.specs.List.{flat_map}
use Rattle.std.proofs.lemmas.List.{length-append}
use Rattle.wasm_code.specs.Grammar.{AreMany}
use Rattle.wasm_writer.specs.Shortest.{AreOctets}

-- numbers that bytes can be, one after the other
abbrev pub Octets : List ℕ → Type 0
Octets [] = Unit {0}
Octets (b ∷ bytes) = (b < 256) × Octets bytes

pub octets_of : (bytes : List ℕ) → AreOctets bytes → Octets bytes
octets_of [] all = tt
octets_of (b ∷ bytes) all = (all 0 0 (omega arith), octets_of bytes (λ k d within. all (suc k) d (omega (arith, within))))

-- where some bytes are spelled so up to a rest, the text is, whatever comes behind it, and it is no longer
pub record Beats (Is : List ℕ → List ℕ → Type 0) (text bytes rest : List ℕ) : Type 0 where
  pub spells : (after : List ℕ) → Is (text ++ after) after
  pub fewest : length text + length rest ≤ length bytes
  pub octets : Octets rest

abbrev pub IsBest : (List ℕ → List ℕ → Type 0) → List ℕ → Type 0
IsBest Is text = (bytes rest : List ℕ) → Octets bytes → Is bytes rest → Beats Is text bytes rest

-- one for each value
abbrev pub AreBest : {A : Type 0} → (List ℕ → A → List ℕ → Type 0) → (A → List ℕ) → Type 0
AreBest {A} Is text = (x : A) → IsBest (λ bytes rest. Is bytes x rest) (text x)

pub octets_rest : (front rest : List ℕ) → Octets (front ++ rest) → Octets rest
octets_rest [] rest all = all
octets_rest (b ∷ front) rest all = octets_rest front rest all.1

pub octets_front : (front rest : List ℕ) → Octets (front ++ rest) → Octets front
octets_front [] rest all = tt
octets_front (b ∷ front) rest all = (all.0, octets_front front rest all.1)

-- ---- nothing, a byte, one after another

pub best_nothing : IsBest (λ bytes rest. bytes ≡ rest) []
best_nothing bytes rest all is = record {
  spells = λ after. refl;
  fewest = rw is (omega arith);
  octets = subst Octets is all;
}

pub best_behind : (Is : List ℕ → List ℕ → Type 0) (byte : ℕ) (text : List ℕ) → IsBest Is text → IsBest (λ bytes rest. (mid : List ℕ) × (bytes ≡ byte ∷ mid) × Is mid rest) (byte ∷ text)
best_behind Is byte text best bytes rest all is =
    let tail : Octets (byte ∷ is.0) = subst Octets is.1 all in
    let inner = best is.0 rest tail.1 is.2 in
    record {
      spells = λ after. (text ++ after, refl, inner.spells after);
      fewest = rw is.1 (omega (arith, inner.fewest));
      octets = inner.octets;
    }

pub best_byte : (byte : ℕ) → IsBest (λ bytes rest. bytes ≡ byte ∷ rest) (byte ∷ [])
best_byte byte bytes rest all is =
    let tail : Octets (byte ∷ rest) = subst Octets is all in
    record {
      spells = λ after. refl;
      fewest = rw is (omega arith);
      octets = tail.1;
    }

pub best_after : (First Second : List ℕ → List ℕ → Type 0) (a b : List ℕ) → IsBest First a → IsBest Second b → IsBest (λ bytes rest. (mid : List ℕ) × First bytes mid × Second mid rest) (a ++ b)
best_after First Second a b first second bytes rest all is =
    let one = first bytes is.0 all is.1 in
    let two = second is.0 rest one.octets is.2 in
    record {
      spells = λ after. (b ++ after, subst (λ (whole : List ℕ). First whole (b ++ after)) (sym (append_assoc a b after)) (one.spells (b ++ after)), two.spells after);
      fewest = omega (arith, length-append a b, one.fewest, two.fewest);
      octets = two.octets;
    }

-- what stands before a text that is given
pub best_before : (Is : List ℕ → List ℕ → Type 0) (text given : List ℕ) → IsBest Is text → IsBest (λ bytes rest. Is bytes (given ++ rest)) (text ++ given)
best_before Is text given best bytes rest all is =
    let one = best bytes (given ++ rest) all is in
    record {
      spells = λ after. subst (λ (whole : List ℕ). Is whole (given ++ after)) (sym (append_assoc text given after)) (one.spells (given ++ after));
      fewest = omega (arith, length-append text given, length-append given rest, one.fewest);
      octets = octets_rest given rest one.octets;
    }

-- the same said in another way
pub best_as : (Is As : List ℕ → List ℕ → Type 0) (text : List ℕ) → IsBest Is text → ((bytes rest : List ℕ) → As bytes rest → Is bytes rest) → ((bytes rest : List ℕ) → Is bytes rest → As bytes rest) → IsBest As text
best_as Is As text best from to bytes rest all is =
    let one = best bytes rest all (from bytes rest is) in
    record {
      spells = λ after. to (text ++ after) after (one.spells after);
      fewest = one.fewest;
      octets = one.octets;
    }

-- beside what no bytes tell
pub best_beside : (Is : List ℕ → List ℕ → Type 0) (Fact : Type 0) (text : List ℕ) → IsBest Is text → IsBest (λ bytes rest. Is bytes rest × Fact) text
best_beside Is Fact text best bytes rest all is =
    let one = best bytes rest all is.0 in
    record {
      spells = λ after. (one.spells after, is.1);
      fewest = one.fewest;
      octets = one.octets;
    }

pub best_given : (Is : List ℕ → List ℕ → Type 0) (Fact : Type 0) (text : List ℕ) → IsBest Is text → IsBest (λ bytes rest. Fact × Is bytes rest) text
best_given Is Fact text best bytes rest all is =
    let one = best bytes rest all is.1 in
    record {
      spells = λ after. (is.0, one.spells after);
      fewest = one.fewest;
      octets = one.octets;
    }

pub best_many : {A : Type 0} (Is : List ℕ → A → List ℕ → Type 0) (text : A → List ℕ) → AreBest Is text → AreBest (AreMany Is) (λ xs. flat_map text xs)
best_many {A} Is text best [] bytes rest all is = best_nothing bytes rest all is
best_many {A} Is text best (x ∷ xs) bytes rest all is = best_after (λ b r. Is b x r) (λ b r. AreMany Is b xs r) (text x) (flat_map text xs) (best x) (best_many Is text best xs) bytes rest all is
