use Rattle.std.proofs.Common.{◌∙◌, map, length, ap, sym, subst, refl}
use Rattle.cache_types.specs.declared.entries.Entry.{Entry}
use Rattle.cache_types.specs.Limits.{is_within_limits}
use Rattle.cache_types.specs.Entries.{newest_first}
use Rattle.schedule_play.specs.Links.{Asks, answers_in}
use Rattle.schedule_play.specs.Schedule.{new_seat}
use Rattle.schedule_play.specs.Sits.{AllMayTell}
use Rattle.schedule_play.proofs.Ends.{list_all-reverse}
use Rattle.schedule_play.proofs.Results.{ifok-one, onok-from}
use Rattle.schedule_play.proofs.Starting.{places-count, new-at-play, may-tell, scheduled, have, new-count}
use Rattle.schedule_play.proofs.schedule.play.Goals as goal

pub take_steps-requires-clause-world : goal.take_steps-requires-clause-world
take_steps-requires-clause-world g c =
    let past = newest_first (g.S.OneCache.history c.args.cache.now) in
    (map new_seat c.requires.players.0, new-at-play g.P.Player.Plays g.P.Player.stopped g.P.Player.ended (g.L.Link.is_open c.args.link.now) past c.args.players.now c.in_ok-places.places.items c.requires.players.0 (ap newest_first c.requires.empty) c.in_ok-places.ensures c.requires.players.1)

pub take_steps-requires-clause-places : goal.take_steps-requires-clause-places
take_steps-requires-clause-places g c = ap length c.in_ok-places.ensures ∙ places-count (length c.args.players.now)

pub close-requires-clause-world : goal.close-requires-clause-world
close-requires-clause-world g c =
    let past = newest_first (g.S.OneCache.history c.args.cache.now) in
    let stepped = c.take_steps.ensures.steps.2 (map new_seat c.requires.players.0) (new-at-play g.P.Player.Plays g.P.Player.stopped g.P.Player.ended (g.L.Link.is_open c.args.link.now) past c.args.players.now c.in_ok-places.places.items c.requires.players.0 (ap newest_first c.requires.empty) c.in_ok-places.ensures c.requires.players.1) in
    (stepped.next, stepped.at_play.seated)

pub close-requires-clause-places : goal.close-requires-clause-places
close-requires-clause-places g c = c.take_steps.ensures.same_places ∙ (ap length c.in_ok-places.ensures ∙ (places-count (length c.args.players.now) ∙ sym c.take_steps.ensures.same_players))

pub blocks_of-requires-clause-seats : goal.blocks_of-requires-clause-seats
blocks_of-requires-clause-seats g c =
    let history = g.S.OneCache.history in
    let past = newest_first (history c.args.cache.now) in
    let stepped = c.take_steps.ensures.steps.2 (map new_seat c.requires.players.0) (new-at-play g.P.Player.Plays g.P.Player.stopped g.P.Player.ended (g.L.Link.is_open c.args.link.now) past c.args.players.now c.in_ok-places.places.items c.requires.players.0 (ap newest_first c.requires.empty) c.in_ok-places.ensures c.requires.players.1) in
    let all_closed = c.close.ensures.closed stepped.next stepped.at_play.seated in
    (all_closed.over, subst (λ places. AllMayTell g.P.Player.Plays g.P.Player.stopped g.P.Player.ended c.close.new.players places all_closed.over) (sym c.as_slice.ensures.value) (may-tell g.P.Player.Plays g.P.Player.stopped g.P.Player.ended (newest_first (history c.close.new.cache)) c.close.new.players c.close.new.places.items all_closed.over all_closed.seated.sit all_closed.all all_closed.seated.ready.stand))

pub blocks_of-requires-clause-places : goal.blocks_of-requires-clause-places
blocks_of-requires-clause-places g c = ap length c.as_slice.ensures.value ∙ (c.close.ensures.same_places ∙ (c.take_steps.ensures.same_places ∙ (ap length c.in_ok-places.ensures ∙ (places-count (length c.args.players.now) ∙ (sym c.take_steps.ensures.same_players ∙ sym c.close.ensures.same_players)))))

pub returns-clause-schedule : goal.returns-clause-schedule
returns-clause-schedule g c = λ programs new.
    let history = g.S.OneCache.history in
    let past = newest_first (history c.args.cache.now) in
    let stepped = c.take_steps.ensures.steps.2 (map new_seat programs) (new-at-play g.P.Player.Plays g.P.Player.stopped g.P.Player.ended (g.L.Link.is_open c.args.link.now) past c.args.players.now c.in_ok-places.places.items programs (ap newest_first c.requires.empty) c.in_ok-places.ensures new) in
    let all_closed = c.close.ensures.closed stepped.next stepped.at_play.seated in
    ifok-one c.blocks_of.result (c.blocks_of.ensures all_closed.over (subst (λ places. AllMayTell g.P.Player.Plays g.P.Player.stopped g.P.Player.ended c.close.new.players places all_closed.over) (sym c.as_slice.ensures.value) (may-tell g.P.Player.Plays g.P.Player.stopped g.P.Player.ended (newest_first (history c.close.new.cache)) c.close.new.players c.close.new.places.items all_closed.over all_closed.seated.sit all_closed.all all_closed.seated.ready.stand)))
    (λ blocks told. scheduled g.P.Player.Plays g.P.Player.stopped g.P.Player.ended g.P.Player.MayWant (g.L.Link.is_open c.take_steps.new.link) (g.S.OneCache.most c.args.cache.now) c.args.steps.now (answers_in c.take_steps.ensures.steps.0) past (newest_first (history c.take_steps.new.cache)) (history c.close.new.cache) programs (ap newest_first c.requires.empty) c.take_steps.new.players c.close.new.players c.take_steps.new.places.items c.close.new.places.items stepped all_closed blocks.items told (Asks g.L.Link.starts g.L.Link.polls g.L.Link.waits g.L.Link.chooses) c.args.link.now c.take_steps.new.link c.take_steps.ensures.steps.0 c.take_steps.ensures.steps.1 refl (rw (new-count g.P.Player.Plays g.P.Player.stopped g.P.Player.ended c.args.players.now programs new) c.requires.steps))

pub returns-clause-blocks : goal.returns-clause-blocks
returns-clause-blocks g c = λ programs new.
    let history = g.S.OneCache.history in
    let past = newest_first (history c.args.cache.now) in
    let stepped = c.take_steps.ensures.steps.2 (map new_seat programs) (new-at-play g.P.Player.Plays g.P.Player.stopped g.P.Player.ended (g.L.Link.is_open c.args.link.now) past c.args.players.now c.in_ok-places.places.items programs (ap newest_first c.requires.empty) c.in_ok-places.ensures new) in
    let all_closed = c.close.ensures.closed stepped.next stepped.at_play.seated in
    ifok-one c.blocks_of.result (c.blocks_of.ensures all_closed.over (subst (λ places. AllMayTell g.P.Player.Plays g.P.Player.stopped g.P.Player.ended c.close.new.players places all_closed.over) (sym c.as_slice.ensures.value) (may-tell g.P.Player.Plays g.P.Player.stopped g.P.Player.ended (newest_first (history c.close.new.cache)) c.close.new.players c.close.new.places.items all_closed.over all_closed.seated.sit all_closed.all all_closed.seated.ready.stand)))
    (λ blocks told. have g.P.Player.Plays g.P.Player.stopped g.P.Player.ended g.P.Player.MayWant (g.L.Link.is_open c.take_steps.new.link) (g.S.OneCache.most c.args.cache.now) c.args.steps.now (answers_in c.take_steps.ensures.steps.0) past (newest_first (history c.take_steps.new.cache)) (history c.close.new.cache) programs (ap newest_first c.requires.empty) c.take_steps.new.players c.close.new.players c.take_steps.new.places.items c.close.new.places.items stepped all_closed blocks.items told)

pub returns-clause-legal : goal.returns-clause-legal
returns-clause-legal g c =
    let history = g.S.OneCache.history in
    let past = newest_first (history c.args.cache.now) in
    let stepped = c.take_steps.ensures.steps.2 (map new_seat c.requires.players.0) (new-at-play g.P.Player.Plays g.P.Player.stopped g.P.Player.ended (g.L.Link.is_open c.args.link.now) past c.args.players.now c.in_ok-places.places.items c.requires.players.0 (ap newest_first c.requires.empty) c.in_ok-places.ensures c.requires.players.1) in
    let all_closed = c.close.ensures.closed stepped.next stepped.at_play.seated in
    onok-from c.blocks_of.result all_closed.seated.ready.legal

pub returns-clause-limits : goal.returns-clause-limits
returns-clause-limits g c =
    let history = g.S.OneCache.history in
    let past = newest_first (history c.args.cache.now) in
    let stepped = c.take_steps.ensures.steps.2 (map new_seat c.requires.players.0) (new-at-play g.P.Player.Plays g.P.Player.stopped g.P.Player.ended (g.L.Link.is_open c.args.link.now) past c.args.players.now c.in_ok-places.places.items c.requires.players.0 (ap newest_first c.requires.empty) c.in_ok-places.ensures c.requires.players.1) in
    let all_closed = c.close.ensures.closed stepped.next stepped.at_play.seated in
    onok-from c.blocks_of.result (list_all-reverse (λ (e : Entry). is_within_limits e.call) (history c.close.new.cache) all_closed.seated.ready.limits)
