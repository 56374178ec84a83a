use Rattle.edge_link.proofs.Unique.{response_one}
use Rattle.edge_link.proofs.laws.one_response_at_most.Goals as goal

pub returns : goal.returns
returns c = response_one
