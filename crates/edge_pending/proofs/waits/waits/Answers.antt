use Rattle.std.proofs.Common.{◌∙◌, ℕ, sym, refl}
use Rattle.std.proofs.lemmas.Result.{IfOk-weaker}
use Rattle.cache_types.specs.declared.outer.OuterCall.TheVariants as call
use Rattle.edge_abi.specs.Tables.{held}
use Rattle.edge_abi.specs.Told.{ask}
use Rattle.edge_pending.specs.Rows.{told_of, came}
use Rattle.edge_pending.specs.Tables.{both}
use Rattle.edge_pending.proofs.RowSteps.{told_came, told_broken}
use Rattle.edge_pending.proofs.waits.waits.Goals as goal

pub returns-in-Came : goal.returns-in-Came
returns-in-Came c = λ reads is.
    IfOk-weaker c.taken.result _ _
    (λ step goes.
    told_came reads (λ (ticket : ℕ). ask (call.WaitFor ticket) (came reads (both c.args.http.now c.args.tables.now) c.args.memory.now c.args.h c.args.places)) (both c.args.http.now c.args.tables.now) c.args.memory.now c.args.h c.args.places c.args.places (told_of (held c.args.tables.now.pending c.args.h)) c.in-Came.method c.in-Came.bytes
    (sym c.in_ok-ticket.ensures ∙ c.in-Came.is) refl step _ _ goes)
    (c.taken.ensures reads is)

pub returns-in-Broken : goal.returns-in-Broken
returns-in-Broken c = λ reads is.
    told_broken reads (λ (ticket : ℕ). ask (call.WaitFor ticket) (came reads (both c.args.http.now c.args.tables.now) c.args.memory.now c.args.h c.args.places)) (both c.args.http.now c.args.tables.now) c.args.memory.now c.args.h c.args.places (told_of (held c.args.tables.now.pending c.args.h))
    (sym c.in_ok-ticket.ensures ∙ c.in-Broken.is) c.broken.result _ _ (c.broken.ensures reads)
