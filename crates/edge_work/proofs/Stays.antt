-- What a pass saw of its guests stays so in the whole history.
use Rattle.std.proofs.Common.{◌≡◌, ℕ, List, map, All, true, sym, ap, ◌∙◌}
use mathlib.Core.List.{IsPrefix}
use Rattle.std.proofs.lemmas.List.Elements.{All-weaker}
use Rattle.cache_types.specs.declared.entries.Entry.{Entry}
use Rattle.cache_types.specs.Entries.{newest_first, has_ended}
use Rattle.cache_types.specs.Legal.{IsLegal}
use Rattle.guest_laws.proofs.Ended.{ended_whole}
use Rattle.player.specs.Plays.{Answered}
use Rattle.schedule_play.specs.Schedule.{answered_of}
use Rattle.edge_work.specs.Outside.{IsTimed}
use Rattle.edge_work.specs.Work.{IsTied}
use Rattle.edge_work.proofs.Going.{timed_more}
use Rattle.edge_work.proofs.Over.{told_own}

pub stays_tied : (seen history : List Entry) (guest : ℕ) (trace : List Answered) → IsLegal history → IsPrefix seen history → has_ended (newest_first seen) guest ≡ true → IsTied seen guest trace → IsTied history guest trace
stays_tied seen history guest trace legal longer ended tied =
    tied ∙ (told_own seen guest ∙ (ap (map answered_of) (sym (ended_whole seen history guest legal longer ended)) ∙ sym (told_own history guest)))

pub stays_timed : (seen history : List Entry) (readings : List ℕ) (gained : List (ℕ × Entry)) → IsPrefix seen history → All (IsTimed seen readings) gained → All (IsTimed history readings) gained
stays_timed seen history readings gained longer timed = All-weaker (IsTimed seen readings) (IsTimed history readings) (timed_more seen history readings readings longer (λ r at. at)) gained timed
