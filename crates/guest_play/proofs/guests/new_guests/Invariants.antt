use Rattle.std.proofs.Common.{List, take}
use Rattle.edge_imports.specs.Links.{LinkedModule}
use Rattle.player.specs.Plays.{Program}
use Rattle.schedule_play.specs.Sits.{AreNew}
use Rattle.guest_run.specs.Services.{fuel_in, settings_in, random_in, IsServiceOf}
use Rattle.guest_run.specs.Guests.{GuestPlays, stopped_of, ended_of}
use Rattle.guest_play.specs.Guests.{AreGuestPrograms}
use Rattle.guest_play.proofs.guests.new_guests.Given as goal

abbrev pub invariant-loop-i : goal.invariant-loop-i
invariant-loop-i l =
    (of : LinkedModule) (programs : List Program) → IsServiceOf of l.fn.service
    → AreGuestPrograms of (settings_in l.fn.service) (fuel_in l.fn.service) (random_in l.fn.service) l.fn.requests programs
    → AreNew GuestPlays stopped_of ended_of l.guests.items (take l.i programs)
