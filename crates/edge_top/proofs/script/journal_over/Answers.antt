use Rattle.std.proofs.Common.{◌≡◌, length, true, subst, sym}
use Rattle.std.specs.List.{list_all}
use Rattle.journal_writer.specs.Journal.{IsJournal}
use Rattle.edge_play.specs.Blocks.{is_script}
use Rattle.edge_play.specs.Schedule.{are_steps_of}
use Rattle.edge_top.proofs.Programs.{scripts-are, steps-are}
use Rattle.edge_top.proofs.Journals.{has-journal}
use Rattle.edge_top.proofs.script.journal_over.Goals as goal

pub play_scripts-requires-clause-scripts : goal.play_scripts-requires-clause-scripts
play_scripts-requires-clause-scripts g c =
    subst (λ guests. list_all is_script guests ≡ true) (sym c.items.ensures) (scripts-are c.args.run.now.guests c.requires.run.guests)

pub play_scripts-requires-clause-steps : goal.play_scripts-requires-clause-steps
play_scripts-requires-clause-steps g c =
    subst (λ guests. are_steps_of (length guests) c.items-2.result.now ≡ true) (sym c.items.ensures)
    (subst (λ steps. are_steps_of (length c.args.run.now.guests) steps ≡ true) (sym c.items-2.ensures) (steps-are (length c.args.run.now.guests) c.args.run.now.steps c.requires.run.steps))

pub journal_text-requires : goal.journal_text-requires
journal_text-requires g c =
    subst (λ blocks. IsJournal c.into_history-history.result blocks) (sym c.as_slice.ensures.value)
    (subst (λ history. IsJournal history c.in_ok-blocks.blocks.items) (sym c.into_history-history.ensures.history)
    (has-journal (g.S.OneCache.history c.play_scripts.new.cache) c.items.result.now c.in_ok-blocks.blocks.items c.in_ok-blocks.ensures.legal c.in_ok-blocks.ensures.limits c.in_ok-blocks.ensures.blocks))
