use Rattle.std.specs.Prelude.{codes}
use Rattle.std.proofs.lemmas.Result.{IfOk-weaker}
use Rattle.call_lines.specs.Calls.{terms_words, list_words, length_words}
use Rattle.call_lines.proofs.Written.{written_writing}
use Rattle.call_lines.proofs.words.writing_of.Goals as goal

pub returns : goal.returns
returns c =
    let writing = c.args.writing.now in
    IfOk-weaker c.declared_length.result _ _
    (λ written e.
    written_writing c.args.text c.in_ok-written.written c.in_ok-written-2.written written
    (terms_words writing.terms) (list_words (codes "vary=") writing.rule) (length_words writing.length)
    c.in_ok-written.ensures (rw c.items.ensures.names at c.in_ok-written-2.ensures) e)
    c.declared_length.ensures
