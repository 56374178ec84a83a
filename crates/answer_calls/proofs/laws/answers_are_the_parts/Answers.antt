use Rattle.answer_calls.proofs.AnswerLaws.{answer_writes}
use Rattle.answer_calls.proofs.laws.answers_are_the_parts.Goals as goal

pub returns : goal.returns
returns c = λ content request t m response handle streaming head trace is. answer_writes content t m request response handle streaming head is trace
