use Rattle.std.proofs.Common.{◌≡◌, ℕ, ◌<◌, nat_lt, true, refl, subst, arith}
use Rattle.std.proofs.lemmas.Bool.Decides.{nat_tests}
use Rattle.cache_types.specs.declared.outer.OuterCall.{OuterCall}
use Rattle.cache_types.specs.declared.outer.OuterReply.TheVariants as reply
use Rattle.cache_hub.specs.Calls.{HasShare}
use Rattle.edge_work.specs.Outside.{MayAskOuter}
use Rattle.edge_work.proofs.Calls.{reading, quiet, to_client}
use Rattle.edge_work.proofs.Sending.{none, none_cached, frame_of_other}
use Rattle.edge_work.proofs.Lists.{frame_of_cache}
use Rattle.edge_work.proofs.outside.reply_to.Goals as goal

less : (n : ℕ) → 0 < n → nat_lt 0 n ≡ true
less n some = grind (arith, nat_tests)

pub returns-in-Cache-clause-outside : goal.returns-in-Cache-clause-outside
returns-in-Cache-clause-outside g c = rw (c.in-Cache.is) (c.from_hub.ensures.outside)

pub returns-in-Cache-clause-sent : goal.returns-in-Cache-clause-sent
returns-in-Cache-clause-sent g c = rw (c.in-Cache.is) (none_cached g.K.Sink.writes g.K.Sink.content g.K.Sink.faults c.args.answer _ _ c.args.sink.now c.args.sink.now (frame_of_cache c.args.answer _) refl c.from_hub.ensures.kind)

pub returns-in-Now-clause-outside : goal.returns-in-Now-clause-outside
returns-in-Now-clause-outside g c = rw (c.in-Now.is) (reading g.C.Clock.reads g.C.Clock.content (HasShare g.S.OneCache.history c.args.hub.now) (g.S.OneCache.most c.args.hub.now.start) c.args.first c.args.limit c.args.pass c.args.guest c.args.last _ c.now-last.result c.args.hand.now.clock c.now-last.new.self c.requires.whole c.now-last.ensures.call c.now-last.ensures.content)

pub returns-in-Head-clause-outside : goal.returns-in-Head-clause-outside
returns-in-Head-clause-outside g c = rw (c.in-Head.is) (to_client g.C.Clock.reads g.C.Clock.content (HasShare g.S.OneCache.history c.args.hub.now) (g.S.OneCache.most c.args.hub.now.start) c.args.first c.args.limit c.args.pass c.args.guest c.args.last _ _ c.args.hand.now.clock c.requires.whole tt refl refl tt c.send_head-given.ensures.kind)

pub returns-in-Head-clause-sent : goal.returns-in-Head-clause-sent
returns-in-Head-clause-sent g c = rw (c.in-Head.is) c.send_head-given.ensures.sends

pub returns-in-Piece-clause-outside : goal.returns-in-Piece-clause-outside
returns-in-Piece-clause-outside g c = rw (c.in-Piece.is) (to_client g.C.Clock.reads g.C.Clock.content (HasShare g.S.OneCache.history c.args.hub.now) (g.S.OneCache.most c.args.hub.now.start) c.args.first c.args.limit c.args.pass c.args.guest c.args.last _ _ c.args.hand.now.clock c.requires.whole tt refl refl tt c.send_piece-given.ensures.kind)

pub returns-in-Piece-clause-sent : goal.returns-in-Piece-clause-sent
returns-in-Piece-clause-sent g c = rw (c.in-Piece.is) c.send_piece-given.ensures.sends

pub returns-in-Close-clause-outside : goal.returns-in-Close-clause-outside
returns-in-Close-clause-outside g c = rw (c.in-Close.is) (to_client g.C.Clock.reads g.C.Clock.content (HasShare g.S.OneCache.history c.args.hub.now) (g.S.OneCache.most c.args.hub.now.start) c.args.first c.args.limit c.args.pass c.args.guest c.args.last _ _ c.args.hand.now.clock c.requires.whole tt refl refl tt c.send_close-given.ensures.kind)

pub returns-in-Close-clause-sent : goal.returns-in-Close-clause-sent
returns-in-Close-clause-sent g c = rw (c.in-Close.is) c.send_close-given.ensures.sends

pub returns-in-Now-clause-sent : goal.returns-in-Now-clause-sent
returns-in-Now-clause-sent g c = rw (c.in-Now.is) (none g.K.Sink.writes g.K.Sink.content g.K.Sink.faults _ reply.Sent c.args.sink.now c.args.sink.now (frame_of_other c.args.answer _ refl) refl)

pub returns-in-Log-clause-outside : goal.returns-in-Log-clause-outside
returns-in-Log-clause-outside g c = rw (c.in-Log.is) (quiet g.C.Clock.reads g.C.Clock.content (HasShare g.S.OneCache.history c.args.hub.now) (g.S.OneCache.most c.args.hub.now.start) c.args.first c.args.limit c.args.pass c.args.guest c.args.last _ _ c.args.hand.now.clock c.requires.whole tt refl tt refl tt)

pub returns-in-Log-clause-sent : goal.returns-in-Log-clause-sent
returns-in-Log-clause-sent g c = rw (c.in-Log.is) (none g.K.Sink.writes g.K.Sink.content g.K.Sink.faults _ reply.Sent c.args.sink.now c.args.sink.now (frame_of_other c.args.answer _ refl) refl)

pub returns-in-Start-clause-outside : goal.returns-in-Start-clause-outside
returns-in-Start-clause-outside g c = rw (c.in-Start.is) (quiet g.C.Clock.reads g.C.Clock.content (HasShare g.S.OneCache.history c.args.hub.now) (g.S.OneCache.most c.args.hub.now.start) c.args.first c.args.limit c.args.pass c.args.guest c.args.last _ _ c.args.hand.now.clock c.requires.whole tt refl tt refl refl)

pub returns-in-Start-clause-sent : goal.returns-in-Start-clause-sent
returns-in-Start-clause-sent g c = rw (c.in-Start.is) (none g.K.Sink.writes g.K.Sink.content g.K.Sink.faults _ reply.Sent c.args.sink.now c.args.sink.now (frame_of_other c.args.answer _ refl) refl)

pub returns-in-Poll-clause-outside : goal.returns-in-Poll-clause-outside
returns-in-Poll-clause-outside g c = rw (c.in-Poll.is) (quiet g.C.Clock.reads g.C.Clock.content (HasShare g.S.OneCache.history c.args.hub.now) (g.S.OneCache.most c.args.hub.now.start) c.args.first c.args.limit c.args.pass c.args.guest c.args.last _ _ c.args.hand.now.clock c.requires.whole tt refl tt refl refl)

pub returns-in-Poll-clause-sent : goal.returns-in-Poll-clause-sent
returns-in-Poll-clause-sent g c = rw (c.in-Poll.is) (none g.K.Sink.writes g.K.Sink.content g.K.Sink.faults _ reply.Sent c.args.sink.now c.args.sink.now (frame_of_other c.args.answer _ refl) refl)

pub returns-in-WaitFor-clause-outside : goal.returns-in-WaitFor-clause-outside
returns-in-WaitFor-clause-outside g c = rw (c.in-WaitFor.is) (quiet g.C.Clock.reads g.C.Clock.content (HasShare g.S.OneCache.history c.args.hub.now) (g.S.OneCache.most c.args.hub.now.start) c.args.first c.args.limit c.args.pass c.args.guest c.args.last _ _ c.args.hand.now.clock c.requires.whole tt refl tt refl refl)

pub returns-in-WaitFor-clause-sent : goal.returns-in-WaitFor-clause-sent
returns-in-WaitFor-clause-sent g c = rw (c.in-WaitFor.is) (none g.K.Sink.writes g.K.Sink.content g.K.Sink.faults _ reply.Sent c.args.sink.now c.args.sink.now (frame_of_other c.args.answer _ refl) refl)

pub returns-in-AnyOf-clause-outside : goal.returns-in-AnyOf-clause-outside
returns-in-AnyOf-clause-outside g c = rw (c.in-AnyOf.is) (quiet g.C.Clock.reads g.C.Clock.content (HasShare g.S.OneCache.history c.args.hub.now) (g.S.OneCache.most c.args.hub.now.start) c.args.first c.args.limit c.args.pass c.args.guest c.args.last _ _ c.args.hand.now.clock c.requires.whole tt refl tt (less _ (subst (λ (d : OuterCall). MayAskOuter c.args.pass c.args.guest d) c.in-AnyOf.is c.requires.may)) refl)

pub returns-in-AnyOf-clause-sent : goal.returns-in-AnyOf-clause-sent
returns-in-AnyOf-clause-sent g c = rw (c.in-AnyOf.is) (none g.K.Sink.writes g.K.Sink.content g.K.Sink.faults _ reply.Sent c.args.sink.now c.args.sink.now (frame_of_other c.args.answer _ refl) refl)
