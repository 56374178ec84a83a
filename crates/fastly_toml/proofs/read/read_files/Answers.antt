use Rattle.std.proofs.Common.{[], refl}
use Rattle.edge_outside.specs.Made.{Made}
use Rattle.fastly_toml.specs.Files.{files_of}
use Rattle.fastly_toml.proofs.Stops.{stopped_first}
use Rattle.toml.specs.View.{table_view}
use Rattle.fastly_toml.proofs.read.read_files.Goals as goal

pub returns-in-Err-clause-reads : goal.returns-in-Err-clause-reads
unfolding Made
returns-in-Err-clause-reads g c = ([], (refl, stopped_first (files_of (table_view c.args.document.now))))
