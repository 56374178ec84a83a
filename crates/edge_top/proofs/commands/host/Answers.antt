use Rattle.std.proofs.Common.{[], Err, refl, subst}
use Rattle.edge_outside.specs.Files.{IsRead}
use Rattle.edge_outside.specs.Made.{made_none}
use Rattle.edge_outside.specs.Sink.{IsWrite}
use Rattle.edge_top.specs.declared.exit.Exit.TheVariants as exit
use Rattle.edge_top.specs.Does.{Works}
use Rattle.edge_top.proofs.commands.host.Goals as goal

pub returns-in-Err-clause-does : goal.returns-in-Err-clause-does
returns-in-Err-clause-does g c =
    let did = c.in-Err.ensures.works in (
      did.0,
      [],
      did.1.0,
      made_none (IsWrite g.K.Sink.writes g.K.Sink.content) c.args.out.now,
      record {
        worked = Err c.in-Err.exit;
        works = subst (λ asked. Works asked did.0 (Err c.in-Err.exit)) c.in-Some.ensures did.1.1;
        writes_are = (refl, refl);
      },
    )

pub returns-in-None-clause-does : goal.returns-in-None-clause-does
returns-in-None-clause-does g c = (
  [],
  [],
  made_none (IsRead g.F.Files.reads g.F.Files.content) c.args.files.now,
  made_none (IsWrite g.K.Sink.writes g.K.Sink.content) c.args.out.now,
  record {
    worked = Err exit.Usage;
    works = subst (λ asked. Works asked [] (Err exit.Usage)) c.in-None.ensures (refl, refl);
    writes_are = (refl, refl);
  },
)
