use Rattle.journal_reader.proofs.Found.{one_journal}
use Rattle.journal_reader.proofs.laws.spells_one_journal.Goals as goal

pub returns : goal.returns
returns c = λ bytes one other fits is fits' is'. one_journal bytes one other fits is fits' is'
