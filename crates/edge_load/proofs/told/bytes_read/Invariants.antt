use Rattle.std.proofs.Common.{◌≡◌, take}
use Rattle.edge_load.specs.Told.{bytes_read}
use Rattle.edge_load.proofs.told.bytes_read.Given as goal

abbrev pub invariant-loop-entry : goal.invariant-loop-entry
invariant-loop-entry l = l.bytes ≡ bytes_read (take l.entry-index l.entries)
