use Rattle.std.proofs.Common.{◌≡◌}
use Rattle.schedule_play.specs.Sits.{new_places}
use Rattle.schedule_play.proofs.schedule.new_places.Given as goal

abbrev pub invariant-loop-i : goal.invariant-loop-i
invariant-loop-i l = l.places.items ≡ new_places l.i
