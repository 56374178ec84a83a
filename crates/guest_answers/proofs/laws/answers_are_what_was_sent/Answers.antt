use Rattle.guest_answers.proofs.Blocks.{answer_sent, answer_failed}
use Rattle.guest_answers.proofs.laws.answers_are_what_was_sent.Goals as goal

pub returns-clause-sent : goal.returns-clause-sent
returns-clause-sent g = answer_sent

pub returns-clause-failed : goal.returns-clause-failed
returns-clause-failed g = answer_failed
