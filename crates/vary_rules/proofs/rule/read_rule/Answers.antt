use Rattle.std.proofs.Common.{◌≡◌, ◌∙◌, ap, rules, [], bytes_eq}
use Rattle.std.specs.List.{slice_split}
use Rattle.vary_rules.specs.Rules.{is_gap, holds, names_of, rule_of, rule_with}
use Rattle.vary_rules.proofs.Lowered.{is_rule_of, or_false}
use Rattle.vary_rules.proofs.Rising.{rule_any}
use Rattle.vary_rules.proofs.rule.read_rule.Goals as goal

pub of-requires : goal.of-requires
of-requires c =
    let same : c.in_ok-names-2.names.items ≡ c.in_ok-rule.rule.keys = search rules in
    let made = c.in_ok-rule.ensures ∙ ap (rule_with []) c.in_ok-names.ensures.0 in
    rw same (is_rule_of c.in_ok-rule.rule.keys (slice_split is_gap c.args.text.now) made c.len.ensures.ordered)

pub returns-clause-names : goal.returns-clause-names
returns-clause-names c =
    let made : c.of.result ≡ rule_of c.args.text.now = search rules in
    λ name.
    ap (holds name) made
    ∙ rule_any (λ other. bytes_eq other name) [] (names_of c.args.text.now)
    ∙ or_false (holds name (names_of c.args.text.now))
