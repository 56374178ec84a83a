use Rattle.std.proofs.Common.{subst, sym}
use Rattle.std.proofs.lemmas.Fmt.{IsAscii-decimal}
use Rattle.std.proofs.lemmas.Str.{IsUtf8-from_ascii}
use Rattle.std.specs.Prelude.{IsUtf8, List, ℕ}
use Rattle.edge_words.proofs.Numbers.{number_none}
use Rattle.edge_words.proofs.word.number_of.Goals as goal

-- a word that spells a number is text
pub returns-in-Err : goal.returns-in-Err
returns-in-Err c =
    number_none c.args.word.now
    (λ n fits e. let P : List ℕ → Type 0 = IsUtf8 in c.in-Err.ensures.cases.0 (subst P (sym e) (IsUtf8-from_ascii _ (IsAscii-decimal n fits))))
