use Rattle.edge_words.proofs.Parts.{words_left}
use Rattle.edge_words.proofs.words.Words.end.Goals as goal

pub returns-in-Some : goal.returns-in-Some
returns-in-Some c = rw (← c.self.view_is, c.in-Some.is) (words_left 32 c.in-Some.field-0.now)
