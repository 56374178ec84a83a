use Rattle.std.proofs.Common.{refl, ◌∙◌, ap}
use Rattle.cache_hub.specs.Calls.{HasShare}
use Rattle.player.specs.Plays.{is_over}
use Rattle.edge_work.proofs.Ways.{ways, one_reading}
use Rattle.edge_work.proofs.Steps.{begins, may_turn, heard, preserved}
use Rattle.edge_work.proofs.Over.{ends}
use Rattle.edge_work.proofs.work.work_one.Goals as goal

pub loop-init : goal.loop-init
loop-init g c =
    begins (ways g.C.Clock.reads g.C.Clock.content g.K.Sink.writes g.K.Sink.content g.K.Sink.faults (HasShare g.S.OneCache.history c.args.hub.now)) _ _ (g.S.OneCache.most c.args.hub.now.start) c.now-first.result c.args.limit c.args.request.now.method c.args.pass c.args.hand.now.clock _ c.args.sink.now _ _ c.requires.whole
    (one_reading g.C.Clock.reads g.C.Clock.content c.args.hand.now.clock c.now-first.result _ c.now-first.ensures.call c.now-first.ensures.content) (λ next b. b) c.requires.new.0 c.requires.new.1

pub returns-in-Over-clause-same : goal.returns-in-Over-clause-same
returns-in-Over-clause-same g c = c.loop.invariant.same

pub returns-in-Over-clause-whole : goal.returns-in-Over-clause-whole
returns-in-Over-clause-whole g c = c.loop.invariant.whole

pub returns-in-Over-clause-share : goal.returns-in-Over-clause-share
returns-in-Over-clause-share g c = c.loop.invariant.share

pub returns-in-Over-clause-work : goal.returns-in-Over-clause-work
returns-in-Over-clause-work g c =
    let a = c.advance.ensures in
    ends (ways g.C.Clock.reads g.C.Clock.content g.K.Sink.writes g.K.Sink.content g.K.Sink.faults (HasShare g.S.OneCache.history c.args.hub.now)) _ (λ next trace. g.P.Player.Plays c.loop.player next trace) (λ next trace. g.P.Player.Plays c.advance.new.self next trace) g.P.Player.MayWant (g.S.OneCache.most c.args.hub.now.start) c.now-first.result c.args.limit c.args.index c.args.request.now.method
    (g.P.Player.stopped c.loop.player) (g.P.Player.stopped c.advance.new.self) (g.P.Player.ended c.loop.player) (g.P.Player.ended c.advance.new.self) c.loop.answer c.loop.gone _ c.loop.pass c.loop.guest c.loop.last c.loop.hand.clock c.args.sink.now c.loop.sink _ c.advance.result _
    c.requires.plays c.loop.invariant a.stopped a.ended a.plays a.turn a.may c.in-Over.is _ c.is_done-done.ensures c.finish.ensures c.take_trace-trace.ensures refl refl

pub take_trace-trace-requires : goal.take_trace-trace-requires
take_trace-trace-requires g c = c.advance.ensures.over ∙ ap is_over c.in-Over.is

pub reply_to-next-requires-clause-own : goal.reply_to-next-requires-clause-own
reply_to-next-requires-clause-own g c = let s = c.loop.invariant.same in let o = c.requires.own in (s.0 ∙ o.0, s.1 ∙ o.1)

pub reply_to-next-requires-clause-whole : goal.reply_to-next-requires-clause-whole
reply_to-next-requires-clause-whole g c = c.loop.invariant.whole

pub reply_to-next-requires-clause-may : goal.reply_to-next-requires-clause-may
reply_to-next-requires-clause-may g c =
    let a = c.advance.ensures in
    may_turn (ways g.C.Clock.reads g.C.Clock.content g.K.Sink.writes g.K.Sink.content g.K.Sink.faults (HasShare g.S.OneCache.history c.args.hub.now)) _ (λ next trace. g.P.Player.Plays c.loop.player next trace) (g.S.OneCache.most c.args.hub.now.start) c.now-first.result c.args.limit c.args.request.now.method (g.P.Player.stopped c.loop.player) (g.P.Player.stopped c.advance.new.self) (g.P.Player.ended c.loop.player) (g.P.Player.ended c.advance.new.self) c.loop.answer c.loop.gone
    _ _ c.args.sink.now c.loop.sink c.in-Outer.call c.advance.result c.requires.plays c.loop.invariant a.ended a.may c.in-Outer.is

pub tell-requires : goal.tell-requires
tell-requires g c = heard (g.P.Player.waits c.advance.new.self) c.in-Outer.call c.advance.result _ c.advance.ensures.waits c.in-Outer.is c.reply_to-next.ensures.outside.answers

pub loop-preserved : goal.loop-preserved
loop-preserved g c =
    let a = c.advance.ensures in
    preserved (ways g.C.Clock.reads g.C.Clock.content g.K.Sink.writes g.K.Sink.content g.K.Sink.faults (HasShare g.S.OneCache.history c.args.hub.now)) _ (λ next trace. g.P.Player.Plays c.loop.player next trace) (λ next trace. g.P.Player.Plays c.advance.new.self next trace) (λ next trace. g.P.Player.Plays c.tell.new.player next trace) g.P.Player.MayWant (g.S.OneCache.most c.args.hub.now.start) c.now-first.result c.args.limit c.args.request.now.method
    (g.P.Player.stopped c.loop.player) (g.P.Player.stopped c.advance.new.self) (g.P.Player.stopped c.tell.new.player) (g.P.Player.ended c.loop.player) (g.P.Player.ended c.advance.new.self) (g.P.Player.ended c.tell.new.player) c.loop.answer _ c.loop.gone _ _ _ _ c.args.sink.now c.loop.sink _ c.in-Outer.call _ (g.P.Player.waits c.advance.new.self) c.advance.result
    c.requires.plays c.loop.invariant a.stopped a.ended a.plays a.turn a.may c.in-Outer.is a.waits c.reply_to-next.ensures.outside c.reply_to-next.ensures.sent c.tell.ensures.plays c.tell.ensures.stopped c.tell.ensures.ended c.answer_by-answer.ensures c.gone_by-gone.ensures
