use Rattle.edge_words.proofs.ChoiceLaws.{some_left}
use Rattle.edge_words.proofs.Parts.{words_left}
use Rattle.edge_words.proofs.words.Words.is_empty.Goals as goal

pub returns-in-Some : goal.returns-in-Some
returns-in-Some c = rw (← c.self.view_is, c.in-Some.is) (some_left _ (words_left 32 c.in-Some.field-0.now))
