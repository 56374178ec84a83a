use Rattle.edge_words.proofs.Lines.{words_takes}
use Rattle.edge_words.proofs.words.Words.of.Goals as goal

pub returns-clause-spelled : goal.returns-clause-spelled
returns-clause-spelled c = words_takes c.args.line.now
