use Rattle.std.specs.Prelude.{codes, decimal}
use Rattle.std.proofs.lemmas.Result.{IfOk-weaker}
use Rattle.call_lines.specs.Calls.{call_words, named_number}
use Rattle.journal_writer.specs.Journal.{reply_words}
use Rattle.journal_writer.proofs.Written.{written_entry}
use Rattle.journal_writer.proofs.write_entry.entry_line.Goals as goal

pub returns : goal.returns
returns c =
    let entry = c.args.entry.now in
    IfOk-weaker c.end_line.result _ _
    (λ written e.
    written_entry c.args.text c.in_ok-first_number.field-0 c.in_ok-number.field-0 c.in_ok-head.head c.in_ok-write_call.field-0 c.in_ok-asked.asked c.in_ok-reply_of.field-0 written
    (decimal entry.number) (decimal entry.guest) (decimal entry.moment) (codes "=")
    (call_words (decimal (named_number entry.call)) entry.call) (reply_words entry.reply)
    c.in_ok-first_number.ensures c.in_ok-number.ensures c.in_ok-head.ensures c.in_ok-write_call.ensures c.in_ok-asked.ensures c.in_ok-reply_of.ensures e)
    c.end_line.ensures
