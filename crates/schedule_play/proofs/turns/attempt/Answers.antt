use Rattle.std.proofs.Common.{◌≡◌, false, ap}
use Rattle.std.specs.Prelude.{Err}
use Rattle.cache_types.specs.declared.entries.StepFault.TheVariants.{Full, OutOfMemory}
use Rattle.cache_types.specs.Entries.{newest_first, is_end}
use Rattle.schedule_play.proofs.Results.{fails-not}
use Rattle.schedule_play.proofs.Told.{told-gives, full-gives, short-gives}
use Rattle.schedule_play.proofs.turns.attempt.Goals as goal

pub returns-in-Ok-clause-turn : goal.returns-in-Ok-clause-turn
returns-in-Ok-clause-turn g c = λ seat asks.
    told-gives g.P.Player.Plays g.P.Player.stopped g.P.Player.ended (g.S.OneCache.most c.args.cache.now) c.args.reading (g.S.OneCache.history c.args.cache.now) (g.S.OneCache.history c.step.new.self)
    c.args.player.now c.hear.new.player c.args.place.now c.hear.new.place seat c.args.call.now asks
    c.in-Ok.told c.in-Ok.ensures.told c.in-Ok.ensures.appended c.in-Ok.ensures.room c.hear.ensures.not_yet c.hear.ensures.heard c.hear.ensures.over

pub returns-in-Err-Full-clause-turn : goal.returns-in-Err-Full-clause-turn
returns-in-Err-Full-clause-turn g c = λ seat asks.
    let is : c.step.result ≡ Err Full = cc in
    full-gives g.P.Player.Plays g.P.Player.stopped g.P.Player.ended (g.S.OneCache.most c.args.cache.now) c.args.reading (g.S.OneCache.history c.args.cache.now) (g.S.OneCache.history c.stop.new.cache)
    c.args.player.now c.stop.new.player c.args.place.now c.stop.new.place seat c.args.call.now asks
    (newest_first (g.S.OneCache.history c.step.new.self)) (ap newest_first c.in-Err-Full.ensures.unchanged) (c.step.ensures.full is) (c.step.ensures.full_of_entry is)
    (c.stop.ensures.turn seat (record { holds = asks.holds; live = rw c.in-Err-Full.ensures.unchanged asks.live })) c.stop.ensures.over

pub returns-in-Err-OutOfMemory-clause-turn : goal.returns-in-Err-OutOfMemory-clause-turn
returns-in-Err-OutOfMemory-clause-turn g c = λ seat asks.
    let is : c.step.result ≡ Err OutOfMemory = cc in
    let goes : is_end c.args.call.now ≡ false = fails-not c.step.result OutOfMemory (is_end c.args.call.now) is c.step.ensures.end in
    short-gives g.P.Player.Plays g.P.Player.stopped g.P.Player.ended (g.S.OneCache.most c.args.cache.now) c.args.reading (g.S.OneCache.history c.args.cache.now) (g.S.OneCache.history c.stop-in-Err-OutOfMemory.new.cache)
    c.args.player.now c.stop-in-Err-OutOfMemory.new.player c.args.place.now c.stop-in-Err-OutOfMemory.new.place seat c.args.call.now asks
    (newest_first (g.S.OneCache.history c.step.new.self)) (ap newest_first c.in-Err-OutOfMemory.ensures.unchanged) goes
    (c.stop-in-Err-OutOfMemory.ensures.turn seat (record { holds = asks.holds; live = rw c.in-Err-OutOfMemory.ensures.unchanged asks.live })) c.stop-in-Err-OutOfMemory.ensures.over
