use Rattle.cache_calls.proofs.RuleNames.{rule_kept}
use Rattle.cache_calls.proofs.writings.rule_in.Goals as goal

pub returns-in-Ok-clause-kept : goal.returns-in-Ok-clause-kept
returns-in-Ok-clause-kept c = rule_kept c.args.text.now c.in-Ok.rule c.in-Ok.ensures.told
