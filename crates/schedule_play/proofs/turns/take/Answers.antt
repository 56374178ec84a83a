use Rattle.std.proofs.Common.{◌≡◌, [], refl}
use Rattle.std.specs.Prelude.{false, Some, None}
use Rattle.edge_outside.specs.Made.{made_none}
use Rattle.cache_types.specs.Entries.{newest_first}
use Rattle.schedule_play.specs.Blocks.{is_cache}
use Rattle.schedule_play.specs.Links.{Asks, calls_of}
use Rattle.schedule_play.proofs.Others.{is-other, heard-other}
use Rattle.schedule_play.proofs.Taking.{cache-takes, other-takes, other-short}
use Rattle.schedule_play.proofs.turns.take.Goals as goal

pub returns-in-Cache-clause-turn : goal.returns-in-Cache-clause-turn
returns-in-Cache-clause-turn g c =
    let past = newest_first (g.S.OneCache.history c.args.cache.now) in
    let is_open = g.L.Link.is_open c.args.link.now in
    rw c.in-Cache.is (
      [],
      made_none (Asks g.L.Link.starts g.L.Link.polls g.L.Link.waits g.L.Link.chooses) c.args.link.now,
      λ seat takes.
          cache-takes g.P.Player.Plays g.P.Player.stopped g.P.Player.ended is_open is_open (g.S.OneCache.most c.args.cache.now) c.args.reading past c.args.player.now c.attempt.new.player c.args.place.now c.attempt.new.place seat _ (newest_first (g.S.OneCache.history c.attempt.new.cache)) takes (c.attempt.ensures.turn seat takes.asking),
    )

pub returns-in-Some : goal.returns-in-Some
returns-in-Some g c =
    let past = newest_first (g.S.OneCache.history c.args.cache.now) in
    let isnt : is_cache c.args.call.now ≡ false = is-other c.args.call.now c.in_default.not-Cache in
    record {
      turn = (
        calls_of c.args.call.now (Some c.in-Some.reply),
        c.in-Some.ensures.calls,
        λ seat takes.
            other-takes g.P.Player.Plays g.P.Player.stopped g.P.Player.ended (g.L.Link.is_open c.args.link.now) (g.L.Link.is_open c.reply_to.new.link) (g.S.OneCache.most c.args.cache.now) c.args.reading past c.args.player.now c.answer.new.self c.args.place.now c.args.place.now seat c.args.call.now isnt takes c.in-Some.reply
            (heard-other g.P.Player.Plays g.P.Player.stopped g.P.Player.ended c.args.player.now c.answer.new.self c.args.place.now.guest seat c.args.call.now c.in-Some.reply (g.P.Player.waits c.args.player.now) takes.asking.holds c.requires.waits c.answer.ensures.plays c.answer.ensures.stopped c.answer.ensures.ended)
            c.in-Some.ensures.tickets (c.in-Some.ensures.own c.in-Some.reply refl) (c.in-Some.ensures.answer c.in-Some.reply refl),
      );
      most = refl;
    }

pub returns-in-None : goal.returns-in-None
returns-in-None g c =
    let past = newest_first (g.S.OneCache.history c.args.cache.now) in
    let isnt : is_cache c.args.call.now ≡ false = is-other c.args.call.now c.in_default.not-Cache in
    record {
      turn = (
        calls_of c.args.call.now None,
        c.in-None.ensures.calls,
        λ seat takes.
            other-short g.P.Player.Plays g.P.Player.stopped g.P.Player.ended (g.L.Link.is_open c.args.link.now) (g.L.Link.is_open c.reply_to.new.link) (g.S.OneCache.most c.args.cache.now) c.args.reading past c.args.player.now c.stop.new.player c.args.place.now c.stop.new.place seat c.args.call.now isnt takes
            (newest_first (g.S.OneCache.history c.stop.new.cache)) c.in-None.ensures.tickets (c.stop.ensures.turn seat (record { holds = takes.asking.holds; live = takes.asking.live })) c.stop.ensures.over,
      );
      most = c.stop.ensures.most;
    }
