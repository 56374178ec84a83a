-- The first line of a batch file that can't stand where it stands.
use Rattle.std.specs.Prelude.{◌≡◌, ℕ, List, length, nat_lt, MatchBool}
use Rattle.line_reader.specs.declared.fault.RunFault.{RunFault}
use Rattle.line_reader.specs.declared.fault.RunFault.TheVariants as fault
use Rattle.line_reader.specs.ByLines.{IsBadLine}
use Rattle.run_files.specs.Run.{most_bytes}
use Rattle.batch_files.specs.Batch.{IsGoodBatch, batch_lines}

-- A file over its size limit is bad at its first line, whatever else is wrong.
abbrev pub IsFirstBad : List ℕ → ℕ → Type 0
IsFirstBad bytes n = MatchBool (nat_lt most_bytes (length bytes)) (n ≡ 1) (IsBadLine IsGoodBatch batch_lines bytes n)

-- the cause of a fault; want of memory has none
abbrev pub IsCause : List ℕ → RunFault → Type 0
IsCause bytes (fault.Line n) = IsFirstBad bytes n
IsCause bytes fault.OutOfMemory = Unit {0}
