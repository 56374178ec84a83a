use Rattle.edge_imports.proofs.Named.{found}
use Rattle.edge_imports.proofs.laws.each_call_is_named.Goals as goal

pub returns : goal.returns
returns c call = found call
