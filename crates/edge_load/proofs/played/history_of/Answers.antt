use Rattle.std.proofs.Common.{◌≡◌, length, true, subst, sym}
use Rattle.std.specs.List.{list_all}
use Rattle.edge_play.specs.Blocks.{is_script}
use Rattle.edge_play.specs.Schedule.{are_steps_of}
use Rattle.edge_load.proofs.played.history_of.Goals as goal

pub play_scripts-requires-clause-scripts : goal.play_scripts-requires-clause-scripts
play_scripts-requires-clause-scripts g c = subst (λ guests. list_all is_script guests ≡ true) (sym c.items.ensures) c.requires.playable.scripts

pub play_scripts-requires-clause-steps : goal.play_scripts-requires-clause-steps
play_scripts-requires-clause-steps g c =
    subst (λ guests. are_steps_of (length guests) c.items-2.result.now ≡ true) (sym c.items.ensures)
    (subst (λ steps. are_steps_of (length c.args.run.now.guests) steps ≡ true) (sym c.items-2.ensures) c.requires.playable.steps)
