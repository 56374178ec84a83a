use Rattle.edge_top.specs.Script.{Scripts}
use Rattle.edge_top.proofs.Several.{one_is_several}
use Rattle.edge_top.proofs.laws.one_file_is_several.Goals as goal

pub returns : goal.returns
returns c = one_is_several Scripts
