use Rattle.std.proofs.Common.{◌≡◌, reverse, subst, sym}
use Rattle.std.specs.Prelude.{IfOk}
use Rattle.cache_types.specs.Answer.{answer}
use Rattle.cache_core.proofs.replies.answer.Goals as goal

pub returns-in-TxLookup : goal.returns-in-TxLookup
returns-in-TxLookup c =
    subst (λ call. IfOk c.tx_lookup.result (λ reply. reply ≡ answer (reverse c.args.entries.now) c.args.guest c.args.moment call)) (sym c.in-TxLookup.is) c.tx_lookup.ensures
