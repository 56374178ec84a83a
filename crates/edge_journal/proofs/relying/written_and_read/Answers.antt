use Rattle.std.proofs.Common.{◌∙◌}
use Rattle.journal_reader.proofs.Found.{is_journal, same_value, no_line}
use Rattle.edge_journal.proofs.relying.written_and_read.Goals as goal

pub journal_text-requires : goal.journal_text-requires
journal_text-requires c = is_journal (record { history = c.args.history.now; guests = c.args.guests.now }) c.requires

pub returns-in-Ok-clause-value : goal.returns-in-Ok-clause-value
returns-in-Ok-clause-value c =
    same_value c.args.history.now c.args.guests.now c.read_journal.result
    (c.read_journal.ensures.only (record { history = c.args.history.now; guests = c.args.guests.now }) c.requires (c.bytes.ensures ∙ c.in-Ok.ensures))

pub returns-in-Ok-clause-fault : goal.returns-in-Ok-clause-fault
returns-in-Ok-clause-fault c =
    no_line c.args.history.now c.args.guests.now c.read_journal.result
    (c.read_journal.ensures.only (record { history = c.args.history.now; guests = c.args.guests.now }) c.requires (c.bytes.ensures ∙ c.in-Ok.ensures))
