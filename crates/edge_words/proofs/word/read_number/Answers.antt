use Rattle.std.proofs.Common.{◌∙◌, ap}
use Rattle.edge_words.specs.Reading.{number_in}
use Rattle.edge_words.proofs.Numbers.{number_told, number_again}
use Rattle.edge_words.proofs.word.read_number.Goals as goal

pub returns-clause-spelled : goal.returns-clause-spelled
returns-clause-spelled c = number_told _ _ c.number_of.ensures

pub returns-clause-again : goal.returns-clause-again
returns-clause-again c = λ n fits spelled. c.number_of.ensures ∙ ap number_in spelled ∙ number_again n fits
