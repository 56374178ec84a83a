use Rattle.std.specs.Prelude.{decimal}
use Rattle.std.proofs.lemmas.Result.{IfOk-weaker}
use Rattle.edge_words.specs.Words.{hex_word}
use Rattle.journal_writer.specs.Journal.{length_word}
use Rattle.journal_writer.proofs.Written.{written_six}
use Rattle.journal_writer.proofs.write_reply.hit_of.Goals as goal

pub returns : goal.returns
returns c =
    let hit = c.args.hit.now in
    IfOk-weaker c.hex.result _ _
    (λ written e.
    written_six c.args.text c.in_ok-number.field-0 c.in_ok-number-2.field-0 c.in_ok-number-3.field-0 c.in_ok-written.written c.in_ok-known_length.field-0 written
    (decimal hit.object) (decimal hit.age) (decimal hit.max_age) (decimal hit.stale) (length_word hit.length) (hex_word hit.metadata)
    c.in_ok-number.ensures c.in_ok-number-2.ensures c.in_ok-number-3.ensures c.in_ok-written.ensures c.in_ok-known_length.ensures (rw c.bytes.ensures at e))
    c.hex.ensures
