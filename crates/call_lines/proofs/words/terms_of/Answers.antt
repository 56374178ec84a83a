use Rattle.std.proofs.Common.{map}
use Rattle.std.specs.Prelude.{codes, decimal}
use Rattle.std.proofs.lemmas.Result.{IfOk-weaker}
use Rattle.edge_words.specs.Words.{hex_word}
use Rattle.call_lines.specs.Calls.{number_words, list_words, metadata_words}
use Rattle.call_lines.proofs.Written.{written_terms}
use Rattle.call_lines.proofs.words.terms_of.Goals as goal

pub returns : goal.returns
returns c =
    let terms = c.args.terms.now in
    IfOk-weaker c.metadata.result _ _
    (λ written e.
    written_terms c.args.text c.in_ok-word.field-0 c.in_ok-written.written c.in_ok-written-2.written c.in_ok-written-3.written c.in_ok-written-4.written written
    (codes "max=") (decimal terms.max_age) (number_words (codes "age=") terms.initial_age) (number_words (codes "swr=") terms.stale)
    (list_words (codes "sur=") (map hex_word terms.surrogates)) (metadata_words terms.metadata)
    c.in_ok-word.ensures c.in_ok-written.ensures c.in_ok-written-2.ensures c.in_ok-written-3.ensures (rw c.items.ensures at c.in_ok-written-4.ensures) (rw c.bytes.ensures at e))
    c.metadata.ensures
