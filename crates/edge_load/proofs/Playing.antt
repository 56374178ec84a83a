-- A load may be played.
use Rattle.std.specs.Prelude.{◌≡◌, ℕ, zero, suc, ◌+◌, ◌*◌, ◌%◌, ◌<◌, true, List, [], ◌∷◌, ◌++◌, length, nat_le, refl}
use Rattle.std.specs.List.{list_all}
use Rattle.std.proofs.Common.{arith, sym, subst, ◌∙◌}
use Rattle.std.proofs.lemmas.Bool.{and_from, le-leb}
use Rattle.std.proofs.lemmas.List.Folds.{list_all-append}
use Rattle.script_lines.specs.declared.line.Line.{Line}
use Rattle.script_lines.specs.declared.step.Step.{Step}
use Rattle.edge_play.specs.Blocks.{is_script_line, is_script}
use Rattle.edge_play.specs.Schedule.{is_step_of, are_steps_of}
use Rattle.edge_load.specs.Load.{round, rounds, guest, step, upto, load_part}
use Rattle.edge_load.specs.Playable.{IsPlayable}
use Rattle.edge_load.specs.Words.{word}
use Rattle.edge_load.proofs.Upto.{all_upto, length_upto}

round-script : (byte at w : ℕ) → is_script (round byte at w) ≡ true
round-script byte at w = refl

rounds-script : (number index n : ℕ) → is_script (rounds number index n) ≡ true
unfolding rounds
rounds-script number index zero = refl
rounds-script number index (suc n) =
    let more = round ((index + 1) % 256) (5 * n + 1) (word number (4 * index + n)) in
    list_all-append is_script_line (rounds number index n) more
    ∙ and_from (is_script (rounds number index n)) (is_script more) (rounds-script number index n) (round-script ((index + 1) % 256) (5 * n + 1) (word number (4 * index + n)))

step-is : (number index : ℕ) → is_step_of 500 (step number index) ≡ true
step-is number index =
    let player = (step number index).player in
    and_from (nat_le 1 player) (nat_le player 500) (le-leb 1 player (omega arith)) (le-leb player 500 (omega arith))

pub playable : (number count : ℕ) → IsPlayable (load_part number count)
playable number count = record {
  scripts = all_upto is_script (guest number) (λ index. rounds-script number index 4) 500;
  steps = subst (λ n. are_steps_of n (load_part number count).steps ≡ true) (sym (length_upto (guest number) 500)) (all_upto (is_step_of 500) (step number) (step-is number) count);
}

pub playable_as : (number count : ℕ) (guests : List (List Line)) (steps : List Step) → guests ≡ upto (guest number) 500 → steps ≡ upto (step number) count → IsPlayable (record { guests = guests; steps = steps })
playable_as number count guests steps guests_are steps_are =
    subst (λ xs. IsPlayable (record { guests = xs; steps = steps })) (sym guests_are)
    (subst (λ ys. IsPlayable (record { guests = upto (guest number) 500; steps = ys })) (sym steps_are) (playable number count))
