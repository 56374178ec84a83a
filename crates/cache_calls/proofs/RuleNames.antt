-- A rule that was read is within the cache's limits.
use Rattle.std.proofs.Common.{◌≡◌, ◌∙◌, ℕ, Bool, true, false, ◌&&◌, ◌||◌, not, List, [], ◌∷◌, length, refl, sym, ap, subst}
use Rattle.std.specs.Prelude.{nat_le, Ok, Err}
use Rattle.std.specs.List.{list_all, list_any}
use Rattle.cache_types.specs.Limits.{is_name, is_rule_names}
use Rattle.vary_rules.specs.declared.fault.RuleFault.TheVariants as fault
use Rattle.vary_rules.specs.Rules.{are_names, names_of, rule_of, rule_with, told}
use Rattle.vary_rules.proofs.Lowered.{or_false}
use Rattle.vary_rules.proofs.Rising.{rule_any}
use Rattle.edge_http_calls.proofs.Kept.{both}

-- all pass where none fails
all_is_none : (p : List ℕ → Bool) (names : List (List ℕ)) → list_all p names ≡ not (list_any (λ name. not (p name)) names)
all_is_none p [] = refl
all_is_none p (name ∷ names) = elim (p name) as (λ b. (b && list_all p names) ≡ not (not b || list_any (λ name. not (p name)) names)) [ true ↦ all_is_none p names | false ↦ refl ]

rule_names : (names : List (List ℕ)) → list_all is_name (rule_with [] names) ≡ list_all is_name names
rule_names names =
    all_is_none is_name (rule_with [] names)
    ∙ (ap not (rule_any (λ name. not (is_name name)) [] names ∙ or_false (list_any (λ name. not (is_name name)) names))
    ∙ sym (all_is_none is_name names))

pub rule_kept : (text : List ℕ) (rule : List (List ℕ)) → told text ≡ Ok rule → is_rule_names rule ≡ true
rule_kept text rule e =
    let with : (good few : Bool) → are_names (names_of text) ≡ good → nat_le (length (rule_of text)) 32 ≡ few → is_rule_names rule ≡ true =
    elim [
      | true ↦ elim [
        | true ↦ λ g f.
            let is : told text ≡ Ok (rule_of text) = rw g (rw f refl) in
            let same : rule_of text ≡ rule = cc in
            let kept : is_rule_names (rule_of text) ≡ true = both (nat_le (length (rule_of text)) 32) (list_all is_name (rule_of text)) f (rule_names (names_of text) ∙ g) in
            subst (λ (r : List (List ℕ)). is_rule_names r ≡ true) same kept
        | false ↦ λ g f. let is : told text ≡ Err fault.TooMany = rw g (rw f refl) in cc
      ]
      | false ↦ λ few g f. let is : told text ≡ Err fault.BadName = rw g refl in cc
    ] in with (are_names (names_of text)) (nat_le (length (rule_of text)) 32) refl refl
