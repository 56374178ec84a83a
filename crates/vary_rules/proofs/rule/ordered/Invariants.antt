use Rattle.std.proofs.Common.{◌≡◌, []}
use Rattle.std.specs.Vec.Iter.{into_iter_items}
use Rattle.vary_rules.specs.Rules.{rule_with}
use Rattle.vary_rules.proofs.rule.ordered.Given as goal

-- with the names that are left, the rule so far is that of all
abbrev pub invariant-loop-name : goal.invariant-loop-name
invariant-loop-name l = rule_with l.rule.keys (into_iter_items l.name-iterator) ≡ rule_with [] l.fn.names.items
