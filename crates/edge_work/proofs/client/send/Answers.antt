use Rattle.std.proofs.Common.{refl, sym, ◌∙◌}
use Rattle.cache_types.specs.declared.outer.OuterReply.TheVariants as reply
use Rattle.edge_work.proofs.Sending.{none, one, broken, counted, is_nothing, is_something}
use Rattle.edge_work.proofs.client.send.Goals as goal

pub returns-then-is_empty-clause-sent : goal.returns-then-is_empty-clause-sent
returns-then-is_empty-clause-sent g c = record {
  sends = none g.K.Sink.writes g.K.Sink.content g.K.Sink.faults c.args.bytes.now reply.Sent c.args.sink.now c.args.sink.now (is_nothing c.args.bytes.now (sym c.is_empty.ensures ∙ c.if-is_empty.true)) refl;
  kind = refl;
}

pub returns-in-Ok-clause-sent : goal.returns-in-Ok-clause-sent
returns-in-Ok-clause-sent g c = record {
  sends = one g.K.Sink.writes g.K.Sink.content g.K.Sink.faults c.args.bytes.now c.args.sink.now c.write.new.self (is_something c.args.bytes.now (sym c.is_empty.ensures ∙ c.if-is_empty.false)) (record { made = c.in-Ok.ensures.call; added = c.in-Ok.ensures.content }) (counted _ _ c.in-Ok.ensures.faults);
  kind = refl;
}

pub returns-in-Err-clause-sent : goal.returns-in-Err-clause-sent
returns-in-Err-clause-sent g c = record {
  sends = broken g.K.Sink.writes g.K.Sink.content g.K.Sink.faults c.args.bytes.now c.in-Err.field-0 c.args.sink.now c.write.new.self (is_something c.args.bytes.now (sym c.is_empty.ensures ∙ c.if-is_empty.false)) (record { made = c.in-Err.ensures.call; added = c.in-Err.ensures.content }) (c.in-Err.ensures.faults.rose refl) (counted _ _ c.in-Err.ensures.faults);
  kind = tt;
}
