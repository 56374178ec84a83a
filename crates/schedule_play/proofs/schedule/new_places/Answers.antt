use Rattle.std.proofs.Common.{◌∙◌, ◌++◌, ◌∷◌, [], ap, false, List}
use Rattle.schedule_play.specs.declared.place.Place.{Place}
use Rattle.schedule_play.proofs.Starting.{places-more}
use Rattle.schedule_play.proofs.schedule.new_places.Goals as goal

pub loop-i-preserved : goal.loop-i-preserved
loop-i-preserved c = c.in_ok-push.ensures.items ∙ (ap (λ (ps : List Place). ps ++ record { guest = 0; over = false } ∷ []) c.loop-i.invariant ∙ places-more c.loop-i.i)
