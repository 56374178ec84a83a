-- What a test of bytes for UTF-8 has answered.
use Rattle.std.proofs.Common.{◌≡◌, false, ℕ, List, Result, Ok, Err, MatchResult, is_ok, sym, inl, inr}
use Rattle.std.specs.Prelude.{IsUtf8}
use Rattle.std.specs.Str.{is_utf8}
use Rattle.std.proofs.lemmas.Bool.{cases_Bool}
use Rattle.std.proofs.lemmas.Str.{IsUtf8-from_is_utf8, is_utf8-from_IsUtf8}

not_utf8 : (u : List ℕ) → (IsUtf8 u → ⊥) → false ≡ is_utf8 u
not_utf8 u n =
    elim (cases_Bool (is_utf8 u)) [
      | inl t ↦ absurd (n (IsUtf8-from_is_utf8 u t))
      | inr f ↦ sym f
    ]

pub text_is : {A B : Type 0} (r : Result A B) (u : List ℕ) (P : A → Type 0) (Q : B → Type 0) → ((x : A) → P x → IsUtf8 u) → ((y : B) → Q y → IsUtf8 u → ⊥) → MatchResult r P Q → is_ok r ≡ is_utf8 u
text_is (Ok x) u P Q p q h = sym (is_utf8-from_IsUtf8 u (p x h))
text_is (Err y) u P Q p q h = not_utf8 u (q y h)
