use Rattle.std.proofs.Common.{◌≡◌, true, Err, length, subst, sym}
use Rattle.schedule_play.specs.Schedule.{are_steps_of}
use Rattle.edge_top.specs.Play.{PlaysRun}
use Rattle.edge_top.proofs.Programs.{steps-are}
use Rattle.edge_top.proofs.PlayParts.{requests-count, run-refused}
use Rattle.edge_top.proofs.play.play_run.Goals as goal

pub played-requires-clause-steps : goal.played-requires-clause-steps
played-requires-clause-steps c =
    let found = c.in-Ok.ensures.found in
    let file = c.in-Ok.file in
    subst (λ n. are_steps_of n file.steps ≡ true) (requests-count found.texts file.requests found.requests) (steps-are (length found.texts) file.steps found.is.steps)

pub played-requires-clause-random : goal.played-requires-clause-random
played-requires-clause-random c = c.in-Ok.ensures.found.is.random.1

pub returns-clause-gives : goal.returns-clause-gives
returns-clause-gives c =
    subst (λ ended. PlaysRun c.args.linked.now c.args.settings.now c.args.bytes.now (Err ended)) (sym c.from.ensures)
    (run-refused c.args.linked.now c.args.settings.now c.args.bytes.now c.in-Err.fault c.in-Err.ensures.line c.in-Err.ensures.only)
