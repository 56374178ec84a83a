use Rattle.std.proofs.Common.{◌≡◌, ◌≤◌, ◌+◌, ◌∷◌, ◌++◌, ◌∙◌, ℕ, suc, [], List, take, length, ap, subst, sym, arith}
use Rattle.std.proofs.lemmas.List.{take_all}
use Rattle.guest_run.specs.Services.{fuel_in, settings_in, random_in}
use Rattle.guest_run.specs.Guests.{GuestPlays, stopped_of, ended_of}
use Rattle.schedule_play.specs.Sits.{AreNew}
use Rattle.guest_play.specs.Guests.{Answers}
use Rattle.guest_play.proofs.NewGuests.{program-at, programs-count, new-more}
use Rattle.guest_play.proofs.guests.new_guests.Goals as goal

pub loop-i-init : goal.loop-i-init
loop-i-init c = λ l programs service are. subst (λ guests. AreNew GuestPlays stopped_of ended_of guests []) (sym c.new-guests.ensures.items) tt

pub loop-i-preserved : goal.loop-i-preserved
loop-i-preserved c = λ l programs of are.
    let service = c.args.service.now in
    let here = program-at (Answers l (settings_in service) (fuel_in service) (random_in service)) 1 c.args.requests.now programs c.loop-i.i c.index-requests-i.result are c.loop-i-test.true c.index-requests-i.is in
    let next : c.loop-i.i + 1 ≡ suc c.loop-i.i = omega arith in
    let number : 1 + c.loop-i.i ≡ c.loop-i.i + 1 = omega arith in
    let is = subst (λ (n : ℕ). Answers l (settings_in service) (fuel_in service) (random_in service) n c.index-requests-i.result here.program) number here.is in
    subst (λ guests. AreNew GuestPlays stopped_of ended_of guests (take (c.loop-i.i + 1) programs)) (sym c.in_ok-push.ensures.items)
    (subst (AreNew GuestPlays stopped_of ended_of (c.loop-i.guests.items ++ c.in_ok-new_guest.field-0 ∷ [])) (sym (ap (λ (n : ℕ). take n programs) next ∙ here.taken))
    (new-more GuestPlays stopped_of ended_of c.loop-i.guests.items (take c.loop-i.i programs) c.in_ok-new_guest.field-0 here.program (c.loop-i.invariant l programs of are) (c.in_ok-new_guest.ensures.plays l here.program of is) c.in_ok-new_guest.ensures.stopped c.in_ok-new_guest.ensures.ended))

pub returns : goal.returns
returns c = λ l programs of are.
    let service = c.args.service.now in
    let count = programs-count (Answers l (settings_in service) (fuel_in service) (random_in service)) 1 c.args.requests.now programs are in
    let all : length programs ≤ c.loop-i.i = omega (arith, count, c.loop-i-test.false) in
    subst (AreNew GuestPlays stopped_of ended_of c.loop-i.guests.items) (take_all c.loop-i.i programs all) (c.loop-i.invariant l programs of are)
