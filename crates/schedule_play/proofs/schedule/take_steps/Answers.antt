use Rattle.std.proofs.Common.{List, refl, ◌≡◌, ◌<◌, ◌≤◌, ◌∙◌, ◌+◌, ◌∷◌, ◌++◌, [], length, drop, sym, subst, add-one, rules}
use Rattle.std.proofs.Math.Seq.{drop-cons}
use Rattle.std.proofs.lemmas.List.{drop_all}
use Rattle.edge_outside.specs.Made.{made_none, made_then}
use Rattle.cache_types.specs.Entries.{newest_first}
use Rattle.player.specs.Plays.{Answered}
use Rattle.schedule_play.specs.Links.{Asks, answers_in}
use Rattle.schedule_play.specs.Sits.{RunsOn}
use Rattle.schedule_play.proofs.Running.{answers-more, runs-more, runs-none, runs-all}
use Rattle.schedule_play.proofs.schedule.take_steps.Goals as goal

pub loop-step-init : goal.loop-step-init
loop-step-init g c = record {
  most_is = refl;
  players_count = refl;
  places_count = refl;
  runs = (
    [],
    made_none (Asks g.L.Link.starts g.L.Link.polls g.L.Link.waits g.L.Link.chooses) c.args.link.now,
    λ seats play.
        runs-none g.P.Player.Plays g.P.Player.stopped g.P.Player.ended g.P.Player.MayWant (g.L.Link.is_open c.args.link.now) (g.S.OneCache.most c.args.cache.now) c.args.steps.now (newest_first (g.S.OneCache.history c.args.cache.now)) seats c.args.players.now c.args.places.now.items play,
  );
}

pub loop-step-preserved : goal.loop-step-preserved
loop-step-preserved g c =
    let history = g.S.OneCache.history in
    let asks = Asks g.L.Link.starts g.L.Link.polls g.L.Link.waits g.L.Link.chooses in
    let within : c.loop-step.step-index < length c.args.steps.now = search rules in
    let next_step : drop c.loop-step.step-index c.args.steps.now ≡ _ ∷ drop (c.loop-step.step-index + 1) c.args.steps.now = rw add-one (drop-cons c.args.steps.now c.loop-step.step-index (record { reading = 0; player = 0 }) within) in
    let most = g.S.OneCache.most c.args.cache.now in
    let before = c.loop-step.invariant.runs in
    let step = c.take_step.ensures.step in
    record {
      most_is = c.take_step.ensures.most ∙ c.loop-step.invariant.most_is;
      players_count = c.take_step.ensures.same_players ∙ c.loop-step.invariant.players_count;
      places_count = c.take_step.ensures.same_places ∙ c.loop-step.invariant.places_count;
      runs = (
        before.0 ++ step.0,
        made_then asks c.args.link.now before.0 c.loop-step.link step.0 c.take_step.new.link before.1 step.1,
        λ seats play.
            let on = before.2 seats play in
            subst (λ (l : List Answered). RunsOn g.P.Player.Plays g.P.Player.stopped g.P.Player.ended g.P.Player.MayWant (g.L.Link.is_open c.take_step.new.link) most c.args.steps.now (drop (c.loop-step.step-index + 1) c.args.steps.now) l (newest_first (history c.args.cache.now)) seats (newest_first (history c.take_step.new.cache)) c.take_step.new.players c.take_step.new.places.items) (sym (answers-more before.0 step.0))
            (runs-more g.P.Player.Plays g.P.Player.stopped g.P.Player.ended g.P.Player.MayWant (g.L.Link.is_open c.loop-step.link) (g.L.Link.is_open c.take_step.new.link) most c.args.steps.now (drop (c.loop-step.step-index + 1) c.args.steps.now) _ (drop c.loop-step.step-index c.args.steps.now) (answers_in before.0) (answers_in step.0)
            (newest_first (history c.args.cache.now)) (newest_first (history c.loop-step.cache)) (newest_first (history c.take_step.new.cache)) seats c.loop-step.players c.take_step.new.players c.loop-step.places.items c.take_step.new.places.items next_step on (rw c.loop-step.invariant.most_is at (step.2 on.now on.at_play))),
      );
    }

pub returns-clause-steps : goal.returns-clause-steps
returns-clause-steps g c =
    let runs = c.loop-step.invariant.runs in
    let end : length c.args.steps.now ≤ c.loop-step.step-index = search rules in (
      runs.0,
      runs.1,
      λ seats play.
          runs-all g.P.Player.Plays g.P.Player.stopped g.P.Player.ended g.P.Player.MayWant (g.L.Link.is_open c.loop-step.link) (g.S.OneCache.most c.args.cache.now) c.args.steps.now (drop c.loop-step.step-index c.args.steps.now) (answers_in runs.0) (newest_first (g.S.OneCache.history c.args.cache.now)) (newest_first (g.S.OneCache.history c.loop-step.cache)) seats c.loop-step.players c.loop-step.places.items (drop_all c.loop-step.step-index c.args.steps.now end) (runs.2 seats play),
    )
