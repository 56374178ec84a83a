use Rattle.std.proofs.Common.{◌++◌, ◌∷◌, [], ◌∙◌, ap, List, ℕ, map}
use Rattle.std.specs.Prelude.{codes}
use Rattle.std.specs.List.{flat_map}
use Rattle.std.proofs.lemmas.Result.{IfOk-weaker}
use Rattle.journal_writer.specs.Journal.{journal_bytes, entry_text, done_lines, end_text}
use Rattle.journal_writer.proofs.Written.{written_journal}
use Rattle.journal_writer.proofs.write_journal.journal.Goals as goal

pub returns : goal.returns
unfolding journal_bytes
returns c =
    let entries = c.args.entries.now in
    let guests = c.args.guests.now in
    let head = c.in_ok-head.ensures ∙ ap (λ (t : List ℕ). t ++ 10 ∷ []) (c.in_ok-plain.ensures ∙ ap (λ (t : List ℕ). t ++ codes "edge-journal 1") c.new.ensures) in
    IfOk-weaker c.end_line_of.result _ _
    (λ written e.
    written_journal c.in_ok-head.head c.in_ok-told.told c.in_ok-ended.ended written
    (codes "edge-journal 1") (end_text entries) (map entry_text entries) (flat_map done_lines guests)
    head c.in_ok-told.ensures c.in_ok-ended.ensures e)
    c.end_line_of.ensures
