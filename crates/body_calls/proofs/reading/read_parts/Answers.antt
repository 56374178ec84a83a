use Rattle.body_calls.proofs.Steps.{reads_goes}
use Rattle.body_calls.proofs.reading.read_parts.Goals as goal

pub returns-clause-row : goal.returns-clause-row
returns-clause-row c = reads_goes c.args.tables.now c.args.memory.now c.args.h c.args.b c.args.most c.args.o c.args.left c.in_ok-front.front c.in_ok-front.ensures.front c.read_front.result c.read_front.new.tables c.read_front.new.memory c.read_front.ensures.row
