-- The names of a rule are in lower case.
use Rattle.std.proofs.Common.{◌≡◌, ◌+◌, ℕ, Bool, true, false, cond, ◌&&◌, ◌||◌, not, nat_lt, List, [], ◌∷◌, refl, sym, ◌∙◌, ap, arith, filter, map}
use Rattle.std.specs.Char.{to_ascii_lowercase}
use Rattle.std.specs.List.{list_all, list_any}
use Rattle.std.specs.List.Sorted.{IsStrictlySortedBy}
use Rattle.std.specs.Ordering.{nat_cmp}
use Rattle.std.specs.Cmp.Lexicographic.{slice_cmp}
use Rattle.std.specs.Str.{str_to_ascii_lowercase}
use Rattle.std.proofs.lemmas.Bool.{and_from}
use Rattle.std.proofs.lemmas.Bool.Decides.{nat_tests}
use Rattle.cache_types.specs.Rule.{is_lower_byte, rises, is_rule}
use Rattle.vary_rules.specs.Rules.{is_some_word, names_in, rule_with}
use Rattle.vary_rules.proofs.Rising.{keys_rise, rule_any}

abbrev is_lower : List ℕ → Bool
is_lower name = list_all is_lower_byte name

lower_byte : (byte : ℕ) → is_lower_byte (to_ascii_lowercase byte) ≡ true
lower_byte byte =
    let with : (low : Bool) → nat_lt byte 65 ≡ low → (letter : Bool) → nat_lt byte 91 ≡ letter → is_lower_byte (cond low byte (cond letter (byte + 32) byte)) ≡ true =
    elim [
      | true ↦ λ e letter f. grind (arith, nat_tests, e)
      | false ↦ λ e. elim [ true ↦ λ f. grind (arith, nat_tests, e, f) | false ↦ λ f. grind (arith, nat_tests, f) ]
    ] in with (nat_lt byte 65) refl (nat_lt byte 91) refl

lowered_is : (word : List ℕ) → is_lower (str_to_ascii_lowercase word) ≡ true
lowered_is [] = refl
lowered_is (byte ∷ word) = and_from (is_lower_byte (to_ascii_lowercase byte)) (is_lower (str_to_ascii_lowercase word)) (lower_byte byte) (lowered_is word)

names_are : (words : List (List ℕ)) → list_all is_lower (map str_to_ascii_lowercase words) ≡ true
names_are [] = refl
names_are (word ∷ words) = and_from (is_lower (str_to_ascii_lowercase word)) (list_all is_lower (map str_to_ascii_lowercase words)) (lowered_is word) (names_are words)

-- all pass where none fails
all_is_none : (p : List ℕ → Bool) (names : List (List ℕ)) → list_all p names ≡ not (list_any (λ name. not (p name)) names)
all_is_none p [] = refl
all_is_none p (name ∷ names) = elim (p name) as (λ b. (b && list_all p names) ≡ not (not b || list_any (λ name. not (p name)) names)) [ true ↦ all_is_none p names | false ↦ refl ]

pub or_false : (a : Bool) → (a || false) ≡ a
or_false true = refl
or_false false = refl

-- names in order, made of those of a text, are a rule
pub is_rule_of : (rule parts : List (List ℕ)) → rule ≡ rule_with [] (names_in parts) → IsStrictlySortedBy (slice_cmp nat_cmp) rule → is_rule rule ≡ true
is_rule_of rule parts made ordered =
    let same = rule_any (λ name. not (is_lower name)) [] (names_in parts) in
    let lower =
    ap (list_all is_lower) made
    ∙ all_is_none is_lower (rule_with [] (names_in parts))
    ∙ ap not (same ∙ or_false (list_any (λ name. not (is_lower name)) (names_in parts)))
    ∙ sym (all_is_none is_lower (names_in parts))
    ∙ names_are (filter is_some_word parts) in
    and_from (rises rule) (list_all is_lower rule) (keys_rise rule ordered) lower
