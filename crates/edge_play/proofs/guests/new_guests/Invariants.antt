use Rattle.std.proofs.Common.{take}
use Rattle.edge_play.specs.Guests.{AreGuests}
use Rattle.edge_play.proofs.guests.new_guests.Given as goal

-- a guest for each script so far
abbrev pub invariant-loop-script : goal.invariant-loop-script
invariant-loop-script l = AreGuests l.guests.items (take l.script-index l.scripts)
