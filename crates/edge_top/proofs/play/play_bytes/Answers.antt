use Rattle.std.proofs.Common.{[], ◌∷◌, Err, subst, sym}
use Rattle.edge_outside.specs.Files.{IsRead}
use Rattle.edge_outside.specs.Made.{made_none}
use Rattle.edge_top.specs.Play.{Plays}
use Rattle.edge_top.proofs.PlayParts.{found, refused}
use Rattle.edge_top.proofs.play.play_bytes.Goals as goal

pub returns-in-Ok-clause-works : goal.returns-in-Ok-clause-works
returns-in-Ok-clause-works g c =
    let did = c.play_settled.ensures.works in
    (did.0, (did.1.0, found c.args.binary.now c.args.settings.now c.args.run.now c.in-Ok.linked did.0 c.play_settled.result c.in-Ok.ensures.loaded c.in-Ok.ensures.only did.1.1))

pub returns-in-Err-clause-works : goal.returns-in-Err-clause-works
returns-in-Err-clause-works g c = (
  [],
  (
    made_none (IsRead g.F.Files.reads g.F.Files.content) c.args.files.now,
    subst (λ ended. Plays (c.args.binary.now ∷ (c.args.settings.now ∷ (c.args.run.now ∷ []))) [] (Err ended)) (sym c.from.ensures)
        (refused c.args.binary.now c.args.settings.now c.args.run.now c.in-Err.fault c.in-Err.ensures.cause c.in-Err.ensures.only),
  ),
)
