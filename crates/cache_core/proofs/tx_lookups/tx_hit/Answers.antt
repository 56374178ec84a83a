use Rattle.std.proofs.Common.{reverse, sym, ◌∙◌}
use Rattle.cache_types.specs.Transactions.{goal_of, is_held}
use Rattle.cache_core.proofs.Lookups.{if_ok}
use Rattle.cache_core.proofs.TxReplies.{tx_held}
use Rattle.cache_core.proofs.tx_lookups.tx_hit.Goals as goal

pub returns : goal.returns
returns c =
    let past = reverse c.args.entries.now in
    if_ok c.tx_from.result
    (λ reply is.
    tx_held past c.requires.legal c.args.parts.now.objects c.args.object c.in-Some.standing.now c.in-Some-renewal_at.renewal c.in_ok-held.held (is_held past (goal_of past c.args.key.now c.args.headers.now)) c.args.moment reply (sym c.in-Some.ensures.value) c.in-Some-renewal_at.ensures c.requires.knows.held
    (λ stale. c.in_ok-held.ensures (c.is_fresh-fresh.ensures ∙ stale) past c.requires.legal c.requires.knows c.requires.awaits) is)
    c.tx_from.ensures
