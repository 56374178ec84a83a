-- What a command does: its reads with their answers, its writes with theirs, and how it ends.
use Rattle.std.specs.Prelude.{◌≡◌, ℕ, List, [], ◌∷◌, Option, None, Some, Result, Ok, Err}
use Rattle.edge_outside.specs.declared.fault.Failed.{Failed}
use Rattle.edge_outside.specs.declared.fault.IoFault.{IoFault}
use Rattle.edge_outside.specs.Files.{Read}
use Rattle.edge_outside.specs.Sink.{Write}
use Rattle.edge_top.specs.declared.exit.Exit.{Exit}
use Rattle.edge_top.specs.declared.exit.Exit.TheVariants as exit
use Rattle.edge_top.specs.Exit.{of_read}
use Rattle.edge_top.specs.Command.{Asked, Script, Check, Play, Load}
use Rattle.edge_top.specs.Worked.{Worked}
use Rattle.edge_top.specs.Script.{Scripts}
use Rattle.edge_top.specs.Check.{Checks}
use Rattle.edge_top.specs.Play.{Plays}
use Rattle.edge_top.specs.Load.{Loads}
use Rattle.edge_top.specs.Several.{ReadsThen}

-- what the answer to a read leads to: work on the bytes, or the end
abbrev pub After : (List ℕ → Worked → Type 0) → Result (List ℕ) IoFault → Worked → Type 0
After Work (Ok bytes) worked = Work bytes worked
After Work (Err fault) worked = worked ≡ Err (of_read fault)

-- there is one read, of this file, and the work is on its bytes
abbrev pub ReadsOne : List ℕ → (List ℕ → Worked → Type 0) → List Read → Worked → Type 0
ReadsOne name Work [] worked = ⊥
ReadsOne name Work (read ∷ []) worked = (read.0 ≡ name) × After Work read.1 worked
ReadsOne name Work (read ∷ (_ ∷ _)) worked = ⊥

-- what each command reads, and works out from that
abbrev pub Works : Option Asked → List Read → Worked → Type 0
Works (Some (Script name)) reads worked = ReadsOne name Scripts reads worked
Works (Some (Check name)) reads worked = ReadsOne name Checks reads worked
Works (Some (Play guest settings run)) reads worked = ReadsThen (guest ∷ (settings ∷ (run ∷ []))) Plays reads worked
Works (Some (Load number)) reads worked = (reads ≡ []) × Loads number worked
Works None reads worked = (reads ≡ []) × (worked ≡ Err exit.Usage)

-- how a command ends at the answer to its write
abbrev pub Ends : Result (Unit {0}) Failed → Exit → Type 0
Ends (Ok _) ended = ended ≡ exit.Ok
Ends (Err _) ended = ended ≡ exit.WriteFault

-- a text is written at once; where there is none, nothing is
abbrev pub Writes : Worked → List Write → Exit → Type 0
Writes (Err early) writes ended = (writes ≡ []) × (ended ≡ early)
Writes (Ok text) [] ended = ⊥
Writes (Ok text) (write ∷ []) ended = (write.0 ≡ text) × Ends write.1 ended
Writes (Ok text) (write ∷ (_ ∷ _)) ended = ⊥

-- the whole: reads, then work, then at most one write
pub record Does (asked : Option Asked) (reads : List Read) (writes : List Write) (ended : Exit) : Type 0 where
  pub worked : Worked
  pub works : Works asked reads worked
  pub writes_are : Writes worked writes ended
