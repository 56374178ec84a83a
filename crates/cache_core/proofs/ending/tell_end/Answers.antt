use Rattle.std.proofs.Common.{ap, sym, ◌∙◌, ◌==◌, if◌then◌else◌, None, []}
use Rattle.std.specs.Prelude.{unwrap_or}
use Rattle.cache_objects.specs.Standings.{standing_at, changed_at, left}
use Rattle.cache_objects.specs.Guests.{list_at}
use Rattle.cache_core.proofs.Makers.{knows_ended}
use Rattle.cache_core.proofs.ending.tell_end.Goals as goal

pub returns-in-Some : goal.returns-in-Some
returns-in-Some c = λ past e legal end guest knows.
    knows_ended c.args.parts.now c.leave_all.new.objects c.leave.new.guests past e legal end
    (λ q. c.leave.ensures.left q ∙ ap (λ g. if g == q then None else list_at c.args.parts.now.guests q) (sym guest))
    (λ q. c.leave_all.ensures q ∙ ap (λ l. changed_at left l q (standing_at c.args.parts.now.objects q)) (c.as_slice.ensures.value ∙ ap (λ l. unwrap_or l []) (c.in-Some.ensures.named ∙ ap (list_at c.args.parts.now.guests) (sym guest))))
    knows
