use Rattle.std.proofs.Common.{reverse, sym, ap, ◌∙◌, refl}
use Rattle.cache_core.specs.Hits.{tx_none}
use Rattle.cache_core.proofs.Lookups.{if_ok}
use Rattle.cache_core.proofs.TxReplies.{tx_some, tx_nothing}
use Rattle.cache_core.proofs.tx_lookups.tx_lookup.Goals as goal

pub returns-in-Some : goal.returns-in-Some
returns-in-Some c =
    if_ok c.tx_hit.result
    (λ reply told. tx_some (reverse c.args.entries.now) c.requires.legal c.args.moment c.args.key.now c.args.headers.now c.in-Some.object reply (sym c.in-Some.is ∙ c.in_ok-object.ensures (reverse c.args.entries.now) c.requires.knows) told)
    c.tx_hit.ensures

pub returns-in_ok-is_goal_held-in-None : goal.returns-in_ok-is_goal_held-in-None
returns-in_ok-is_goal_held-in-None c =
    c.tx_none.ensures ∙ ap tx_none (c.in_ok-is_goal_held-in-None.ensures refl (reverse c.args.entries.now) c.requires.legal c.requires.knows c.requires.awaits)
    ∙ tx_nothing (reverse c.args.entries.now) c.args.moment c.args.key.now c.args.headers.now (sym c.in-None.is ∙ c.in_ok-object.ensures (reverse c.args.entries.now) c.requires.knows)
