-- Where a byte stands first.
use Rattle.std.proofs.Common.{◌≡◌, ◌<◌, ◌≤◌, ◌+◌, ℕ, zero, suc, Bool, true, false, cond, List, [], ◌∷◌, ◌++◌, length, take, drop, refl, sym, ◌∙◌, ap, subst, arith, ◌⊎◌, inl, inr, None, Some}
use Rattle.std.specs.Prelude.{◌==◌, not}
use Rattle.std.specs.List.{list_all, prefix_len, position}
use Rattle.std.proofs.lemmas.Bool.{and_parts}
use Rattle.std.proofs.lemmas.Bool.Decides.{nat_tests}
use Rattle.std.proofs.lemmas.Grind.{common_steps}
use Rattle.std.proofs.lemmas.List.Sums.{prefix_len-le-length}
use Rattle.fastly_toml.specs.Urls.{place_of}

-- not this byte
abbrev pub is_other : ℕ → ℕ → Bool
is_other byte b = not (b == byte)

-- it has none of this byte
abbrev pub lacks : ℕ → List ℕ → Bool
lacks byte bytes = list_all (is_other byte) bytes

-- nothing, or this byte first
abbrev pub IsAt : ℕ → List ℕ → Type 0
IsAt byte rest = (rest ≡ []) ⊎ ((tail : List ℕ) × (rest ≡ byte ∷ tail))

-- the place is the length of the front that has none of them
pub place_is : (byte : ℕ) (bytes : List ℕ) → place_of byte bytes ≡ prefix_len (is_other byte) bytes
place_is byte bytes = let least = prefix_len-le-length (is_other byte) bytes in grind (arith, common_steps)

same_is : (byte : ℕ) → is_other byte byte ≡ false
same_is byte = grind (arith, nat_tests)

one_more : (n : ℕ) → 1 + n ≡ suc n
one_more n = omega arith

front_len : (byte : ℕ) (front rest : List ℕ) → lacks byte front ≡ true → IsAt byte rest → prefix_len (is_other byte) (front ++ rest) ≡ length front
front_len byte [] rest none (inl e) = rw e refl
front_len byte [] rest none (inr (tail, e)) = rw e (rw (same_is byte) refl)
front_len byte (b ∷ front) rest none at =
    let parts = and_parts (is_other byte b) (lacks byte front) none in
    rw (parts.0, front_len byte front rest parts.1 at) (one_more (length front))

pub place_behind : (byte : ℕ) (front rest : List ℕ) → lacks byte front ≡ true → IsAt byte rest → place_of byte (front ++ rest) ≡ length front
place_behind byte front rest none at = place_is byte (front ++ rest) ∙ front_len byte front rest none at

front_lacks : (byte : ℕ) (bytes : List ℕ) → lacks byte (take (prefix_len (is_other byte) bytes) bytes) ≡ true
front_lacks byte [] = refl
front_lacks byte (b ∷ bytes) =
    let with : (t : Bool) → is_other byte b ≡ t → lacks byte (take (prefix_len (is_other byte) (b ∷ bytes)) (b ∷ bytes)) ≡ true =
    elim [
      | true ↦ λ other. rw (other, one_more (prefix_len (is_other byte) bytes), other) (front_lacks byte bytes)
      | false ↦ λ same. rw same refl
    ] in with _ refl

pub none_before : (byte : ℕ) (bytes : List ℕ) → lacks byte (take (place_of byte bytes) bytes) ≡ true
none_before byte bytes = rw (place_is byte bytes) (front_lacks byte bytes)

pub same_byte : (byte b : ℕ) → is_other byte b ≡ false → b ≡ byte
same_byte byte b same = grind (arith, nat_tests)

behind_is : (byte : ℕ) (bytes : List ℕ) → IsAt byte (drop (prefix_len (is_other byte) bytes) bytes)
behind_is byte [] = inl refl
behind_is byte (b ∷ bytes) =
    let with : (t : Bool) → is_other byte b ≡ t → IsAt byte (drop (prefix_len (is_other byte) (b ∷ bytes)) (b ∷ bytes)) =
    elim [
      | true ↦ λ other. rw (other, one_more (prefix_len (is_other byte) bytes)) (behind_is byte bytes)
      | false ↦ λ same. rw same (inr (bytes, ap (λ (n : ℕ). n ∷ bytes) (same_byte byte b same)))
    ] in with _ refl

pub at_place : (byte : ℕ) (bytes : List ℕ) → IsAt byte (drop (place_of byte bytes) bytes)
at_place byte bytes = rw (place_is byte bytes) (behind_is byte bytes)
