use Rattle.body_calls.proofs.Steps.{moves_goes}
use Rattle.body_calls.proofs.moving.moved.Goals as goal

pub returns-clause-row : goal.returns-clause-row
returns-clause-row c = λ memory. moves_goes c.args.to c.args.then c.args.tables.now memory c.args.left c.in_ok-front.front c.in_ok-front.ensures.front c.front_moved.result c.front_moved.new.tables (c.front_moved.ensures.row memory)
