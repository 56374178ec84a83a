use Rattle.answer_calls.proofs.AnswerLaws.{answer_kept}
use Rattle.answer_calls.proofs.laws.failed_answers_keep_tables.Goals as goal

pub returns : goal.returns
returns c = λ request t m response handle streaming. answer_kept t m request response handle streaming
