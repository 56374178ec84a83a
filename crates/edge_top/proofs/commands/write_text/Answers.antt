use Rattle.std.proofs.Common.{[], ◌∷◌, Result, Ok, Err, refl}
use Rattle.edge_outside.specs.declared.fault.Failed.{Failed}
use Rattle.edge_outside.specs.Made.{made_one}
use Rattle.edge_outside.specs.Sink.{IsWrite}
use Rattle.edge_outside.proofs.Contents.{write_made}
use Rattle.edge_top.proofs.commands.write_text.Goals as goal

pub returns-in-Ok-clause-writes : goal.returns-in-Ok-clause-writes
returns-in-Ok-clause-writes g c =
    let answer : Result (Unit {0}) Failed = Ok c.in-Ok.field-0 in
    let write = write_made g.K.Sink.writes g.K.Sink.content c.args.out.now c.args.text.now answer c.write.new.self c.in-Ok.ensures.call c.in-Ok.ensures.content in
    ((c.args.text.now, answer) ∷ [], (made_one (IsWrite g.K.Sink.writes g.K.Sink.content) c.args.out.now c.args.text.now answer c.write.new.self write, (refl, refl)))

pub returns-in-Err-clause-writes : goal.returns-in-Err-clause-writes
returns-in-Err-clause-writes g c =
    let answer : Result (Unit {0}) Failed = Err c.in-Err.field-0 in
    let write = write_made g.K.Sink.writes g.K.Sink.content c.args.out.now c.args.text.now answer c.write.new.self c.in-Err.ensures.call c.in-Err.ensures.content in
    ((c.args.text.now, answer) ∷ [], (made_one (IsWrite g.K.Sink.writes g.K.Sink.content) c.args.out.now c.args.text.now answer c.write.new.self write, (refl, refl)))
