use Rattle.std.proofs.Common.{◌∙◌, List, length, ap, subst, sym}
use Rattle.std.specs.Prelude.{IsTrue}
use Rattle.scripted_guest.specs.Scripted.{State}
use Rattle.schedule_play.specs.Schedule.{are_steps_of}
use Rattle.schedule_play.proofs.Results.{ifok-one}
use Rattle.edge_play.specs.Schedule.{programs_of}
use Rattle.edge_play.specs.Guests.{AreGuests}
use Rattle.edge_play.proofs.NewGuests.{guests-count}
use Rattle.edge_play.proofs.Runs.{has-blocks}
use Rattle.edge_play.proofs.Silence.{played-silent, one-silent}
use Rattle.edge_play.proofs.play.play_scripts.Goals as goal

pub play-requires-clause-players : goal.play-requires-clause-players
play-requires-clause-players g c = (programs_of c.args.scripts.now, subst (λ (guests : List State). AreGuests guests c.args.scripts.now) (sym c.as_mut_slice.ensures.value) c.in_ok-guests.ensures)

pub play-requires-clause-steps : goal.play-requires-clause-steps
play-requires-clause-steps g c =
    let count = guests-count c.in_ok-guests.guests.items c.args.scripts.now c.in_ok-guests.ensures in
    subst (λ n. IsTrue (are_steps_of n c.args.steps.now)) (sym (ap length c.as_mut_slice.ensures.value ∙ count)) c.requires.steps

pub returns-clause-schedule : goal.returns-clause-schedule
returns-clause-schedule g c =
    let new = subst (λ (guests : List State). AreGuests guests c.args.scripts.now) (sym c.as_mut_slice.ensures.value) c.in_ok-guests.ensures in
    ifok-one c.play.result (c.play.ensures.schedule (programs_of c.args.scripts.now) new) (λ blocks is. played-silent _ (g.S.OneCache.most c.args.cache.now) c.args.scripts.now c.args.steps.now _ _ _ blocks.items is)

pub returns-clause-one_result : goal.returns-clause-one_result
returns-clause-one_result g c =
    let new = subst (λ (guests : List State). AreGuests guests c.args.scripts.now) (sym c.as_mut_slice.ensures.value) c.in_ok-guests.ensures in
    ifok-one c.play.result (c.play.ensures.schedule (programs_of c.args.scripts.now) new) (λ blocks is. one-silent _ (g.S.OneCache.most c.args.cache.now) c.args.scripts.now c.args.steps.now _ _ _ blocks.items is)

pub returns-clause-blocks : goal.returns-clause-blocks
returns-clause-blocks g c =
    let new = subst (λ (guests : List State). AreGuests guests c.args.scripts.now) (sym c.as_mut_slice.ensures.value) c.in_ok-guests.ensures in
    ifok-one c.play.result (c.play.ensures.blocks (programs_of c.args.scripts.now) new) (λ blocks has. has-blocks _ c.args.scripts.now blocks.items has)
