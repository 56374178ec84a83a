use Rattle.std.proofs.Common.{◌+◌, ◌≤◌, length}
use Rattle.batch_files.specs.Machine.{seen, IsSound}
use Rattle.batch_files.proofs.Found.{IsAt}
use Rattle.batch_files.proofs.reader.read_batch.Given as goal

-- the lines so far led here, and each request is that of its text
abbrev pub invariant-loop-line : goal.invariant-loop-line
invariant-loop-line l = IsAt l.bytes l.rest l.number (seen l.state) × IsSound l.state × (l.number + length l.rest ≤ length l.bytes + 1)

abbrev pub decreases-loop-line : goal.decreases-loop-line
decreases-loop-line l = length l.rest
