use Rattle.std.proofs.Common.{Vec, Global, ℕ}
use Rattle.edge_words.proofs.Numbers.{hex_told, hex_told_again}
use Rattle.edge_words.proofs.word.read_hex.Goals as goal

pub returns-clause-spelled : goal.returns-clause-spelled
returns-clause-spelled c = hex_told (λ (v : Vec ℕ Global). v.items) c.args.word.now c.bytes_of.result c.bytes_of.ensures

pub returns-clause-again : goal.returns-clause-again
returns-clause-again c = λ bytes fits spelled. hex_told_again (λ (v : Vec ℕ Global). v.items) c.args.word.now bytes c.bytes_of.result c.bytes_of.ensures fits spelled
