-- A text that is written in parts, as one is that grows while it is told. No command writes so yet. One that does has
-- `Parts text writes ended` where `Does` has `Writes`; a text that is written at once is one in one part.
use Rattle.std.specs.Prelude.{◌≡◌, ℕ, List, [], ◌∷◌, ◌++◌, Result, Ok, Err}
use Rattle.edge_outside.specs.declared.fault.Failed.{Failed}
use Rattle.edge_outside.specs.Sink.{Write, AddsPrefix}
use Rattle.edge_top.specs.declared.exit.Exit.{Exit}
use Rattle.edge_top.specs.declared.exit.Exit.TheVariants as exit

-- what follows a part: more, or where its write failed the end
abbrev pub AfterPart : Result (Unit {0}) Failed → List Write → Exit → Type 0 → Type 0
AfterPart (Ok _) writes ended More = More
AfterPart (Err _) writes ended More = (writes ≡ []) × (ended ≡ exit.WriteFault)

-- the text is written part by part, up to the first write that fails
abbrev pub Parts : List ℕ → List Write → Exit → Type 0
Parts text [] ended = (text ≡ []) × (ended ≡ exit.Ok)
Parts text (write ∷ writes) ended = (rest : List ℕ) × ((text ≡ write.0 ++ rest) × AfterPart write.1 writes ended (Parts rest writes ended))

-- what a command that ended so has added to what was there
abbrev pub Added : Exit → List ℕ → List ℕ → List ℕ → Type 0
Added exit.Ok text old new = new ≡ old ++ text
Added exit.WriteFault text old new = AddsPrefix old text new
Added _ text old new = ⊥
