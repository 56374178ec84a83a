use Rattle.edge_outside.proofs.Contents.{reads_shown}
use Rattle.edge_outside.proofs.laws.reads_are_shown.Goals as goal

pub returns : goal.returns
returns g c = reads_shown g.F.Files.reads g.F.Files.content
