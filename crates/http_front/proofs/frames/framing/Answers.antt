use Rattle.std.proofs.Common.{◌∙◌, ap}
use Rattle.http_front.proofs.OwnFraming.{framing_back}
use Rattle.http_front.specs.Frames.{framing_of}
use Rattle.http_front.proofs.frames.framing.Goals as goal

pub returns-clause-own : goal.returns-clause-own
returns-clause-own c = λ response told status fields e.
    c.framing_of.ensures ∙ ap (λ m. framing_of m c.args.head.now) c.method.ensures ∙ ap (framing_of c.args.request.now.method) e
    ∙ framing_back c.args.request.now response told status fields
