-- What `load` works out from its number.
use Rattle.std.specs.Prelude.{ℕ, Ok, Err}
use Rattle.edge_load.specs.Told.{IsLoadLine}
use Rattle.edge_top.specs.declared.exit.Exit.TheVariants as exit
use Rattle.edge_top.specs.Script.{most_entries}
use Rattle.edge_top.specs.Worked.{Worked}

-- the text is the line of the number's load
abbrev pub Loads : ℕ → Worked → Type 0
Loads number (Ok text) = IsLoadLine most_entries number text
Loads number (Err exit.OutOfMemory) = Unit {0}
Loads number (Err _) = ⊥
