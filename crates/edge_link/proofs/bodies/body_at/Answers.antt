use Rattle.std.proofs.Common.{subst}
use Rattle.edge_link.specs.declared.bodies.Told.{Told}
use Rattle.edge_link.specs.Bodies.{Gives}
use Rattle.edge_link.proofs.bodies.body_at.Goals as goal

pub returns-in-Chunks-clause-none : goal.returns-in-Chunks-clause-none
returns-in-Chunks-clause-none c =
    λ e body gives. c.chunked_body.ensures.none e body (subst (λ (told : Told). Gives told c.args.rest.now body) c.in-Chunks.is gives)
