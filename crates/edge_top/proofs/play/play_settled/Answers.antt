use Rattle.std.proofs.Common.{Err, subst, sym}
use Rattle.edge_top.specs.Play.{Settles, OnRun}
use Rattle.edge_top.proofs.PlayParts.{settled, unsettled}
use Rattle.edge_top.proofs.play.play_settled.Goals as goal

pub returns-in-Ok-clause-works : goal.returns-in-Ok-clause-works
returns-in-Ok-clause-works g c =
    let did = c.in-Ok.ensures.works in
    (did.0, (did.1.0, settled c.args.linked.now c.args.settings.now c.args.bytes.now c.in-Ok.settings did.0 c.play_run.result did.1.1 c.play_run.ensures.gives))

pub returns-in-Err-clause-works : goal.returns-in-Err-clause-works
returns-in-Err-clause-works g c =
    let did = c.in-Err.ensures.works in
    (did.0, (did.1.0, subst (λ ended. Settles c.args.settings.now (OnRun c.args.linked.now c.args.bytes.now) did.0 (Err ended)) (sym c.from.ensures) (unsettled c.args.linked.now c.args.settings.now c.args.bytes.now c.in-Err.fault did.0 did.1.1)))
