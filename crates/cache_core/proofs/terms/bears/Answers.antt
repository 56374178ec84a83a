use Rattle.std.proofs.Common.{ap, sym, ◌∙◌, reverse}
use Rattle.std.proofs.lemmas.Option.{same_Some, none-some}
use Rattle.cache_types.specs.Objects.{has_key, Renewal}
use Rattle.cache_core.specs.Object.{object_at}
use Rattle.cache_core.proofs.Born.{holds_weaker}
use Rattle.cache_core.proofs.LastTerms.{terms_held}
use Rattle.cache_core.proofs.terms.bears.Goals as goal

pub returns-in-Some-renewal_at : goal.returns-in-Some-renewal_at
returns-in-Some-renewal_at c = λ held.
    holds_weaker _ _
    (λ x is. c.has_key.ensures ∙ ap (λ (r : Renewal). has_key r.terms.surrogates c.args.key.now) (c.renewal.view_is ∙ same_Some c.in-Some-renewal_at.renewal x.renewal (c.in-Some-renewal_at.ensures ∙ is)))
    (object_at (reverse c.args.entries.now) c.args.object)
    (terms_held (reverse c.args.entries.now) c.requires c.args.objects.now c.args.object c.in-Some.standing.now (sym c.in-Some.ensures.value) held)

pub returns-in-None-renewal_at : goal.returns-in-None-renewal_at
returns-in-None-renewal_at c = λ held.
    holds_weaker _ _ (λ x is. absurd (none-some x.renewal (c.in-None-renewal_at.ensures ∙ is))) (object_at (reverse c.args.entries.now) c.args.object)
    (terms_held (reverse c.args.entries.now) c.requires c.args.objects.now c.args.object c.in-Some.standing.now (sym c.in-Some.ensures.value) held)
