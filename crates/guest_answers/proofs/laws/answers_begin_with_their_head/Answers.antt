use Rattle.guest_answers.proofs.Blocks.{answer_begins}
use Rattle.guest_answers.proofs.laws.answers_begin_with_their_head.Goals as goal

pub returns : goal.returns
returns g = answer_begins
