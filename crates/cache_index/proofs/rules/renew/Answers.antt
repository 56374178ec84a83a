use Rattle.std.proofs.Common.{ap, ◌∙◌, subst, IsSome, refl}
use Rattle.cache_types.specs.Found.{put_first}
use Rattle.cache_index.proofs.Maps.{rules_renewed}
use Rattle.cache_index.specs.Kept.{rules_in}
use Rattle.cache_index.proofs.rules.renew.Goals as goal

pub returns-in-Some : goal.returns-in-Some
returns-in-Some c =
    let w = c.put_newest.new.rules in
    rules_renewed c.args.rules.now (c.get_mut.follows.lender w) c.args.key.now c.args.rule w (((c.get_mut.follows.holds w).3 (subst IsSome c.in-Some.ensures.value refl)).0)
    (c.put_newest.ensures ∙ ap (λ o. put_first c.args.rule (rules_in o)) c.in-Some.ensures.value)
