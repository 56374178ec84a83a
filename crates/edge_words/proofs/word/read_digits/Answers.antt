use Rattle.std.proofs.Common.{◌<◌, ◌^◌, arith, sym, ◌∙◌, ap}
use Rattle.std.specs.Prelude.{decimal}
use Rattle.std.specs.Result.{result_unwrap_or}
use Rattle.std.proofs.lemmas.Fmt.{parse-decimal}
use Rattle.edge_words.specs.Reading.{number_in}
use Rattle.edge_words.proofs.Numbers.{number_again, number_none, same_bytes, differs}
use Rattle.edge_words.proofs.word.read_digits.Goals as goal

pub returns-then-eq : goal.returns-then-eq
returns-then-eq c =
    let fits : c.in-Ok.number < 2 ^ 64 = omega (arith, c.in-Ok.ensures.value.0) in
    let same = same_bytes _ _ (sym c.if-eq.ensures) in
    sym (number_again c.in-Ok.number fits) ∙ ap number_in (sym c.format.ensures.text ∙ same)

pub returns-else-eq : goal.returns-else-eq
returns-else-eq c = number_none c.args.text.now (λ n fits e.
    let read = parse-decimal 64 n _ _ fits fits e c.parse.ensures.value.0 in
    let number = ap (λ r. result_unwrap_or r 0) (sym c.in-Ok.is ∙ read) in
    differs _ _ c.if-eq.ensures (c.format.ensures.text ∙ ap decimal number ∙ sym e))

pub returns-in-Err : goal.returns-in-Err
returns-in-Err c = number_none c.args.text.now (λ n fits e. absurd (cc (parse-decimal 64 n _ _ fits fits e c.parse.ensures.value.0)))
