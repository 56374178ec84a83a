-- Laws of the machine: what it takes, what it takes again, and that each state has a finished file.
use Rattle.std.proofs.Common.{◌≡◌, ◌<◌, ◌+◌, ℕ, List, [], ◌∷◌, ◌++◌, length, sym, ◌∙◌, ap, subst, Some, Result, Ok, Err, arith, inl, inr, append_assoc, append-nil, length-append, lit≤, map}
use Rattle.std.specs.Prelude.{nat_lt, bytes_eq, codes}
use Rattle.std.proofs.lemmas.Bool.{ltb-true}
use Rattle.std.proofs.lemmas.List.{map-append}
use Rattle.std.proofs.lemmas.List.Concat.{flat_map-append}
use Rattle.std.proofs.lemmas.Option.{cond_some, same_Some}
use Rattle.std.specs.Result.{IfOk}
use Rattle.edge_words.specs.declared.fault.LineFault.{LineFault}
use Rattle.edge_words.specs.Reading.{Gives}
use Rattle.edge_words.proofs.Numbers.{same_bytes}
use Rattle.edge_words.proofs.Laws.{map_some}
use Rattle.script_lines.specs.declared.line.Line.{Line}
use Rattle.script_lines.specs.declared.step.Step.{Step}
use Rattle.run_files.specs.Run.{guest_lines, block_lines, line_text, step_text, most_steps, IsLineAt, AreLinesFrom, AreGuests, IsStepOf, AreStepsOf}
use Rattle.run_files.specs.Reading.{line_at, step_at}
use Rattle.run_files.specs.declared.machine.State.{State}
use Rattle.run_files.specs.Machine.{Progress, seen, Start, Begun, Block, Steps, Over, after_line, after_in_block, after_in_steps, lines_to, IsProgress, AreCounted}
use Rattle.edge_words.proofs.ChoiceLaws.{chosen}
use Rattle.run_files.proofs.Texts.{line_takes, step_takes}

-- ---- one more

lines_more : (place : ℕ) (lines : List Line) (line : Line) → AreLinesFrom place lines → IsLineAt (place + length lines) line → AreLinesFrom place (lines ++ line ∷ [])
lines_more place [] line fits last =
    let P : ℕ → Type 0 = λ p. IsLineAt p line in
    let here : place + 0 ≡ place = omega arith in
    (subst P here last, tt)
lines_more place (first ∷ lines) line fits last =
    let P : ℕ → Type 0 = λ p. IsLineAt p line in
    let here : place + length (first ∷ lines) ≡ place + 1 + length lines = omega arith in
    (fits.0, lines_more (place + 1) lines line fits.1 (subst P here last))

pub guests_more : (guests : List (List Line)) (block : List Line) → AreGuests guests → AreLinesFrom 1 block → AreGuests (guests ++ block ∷ [])
guests_more [] block fits last = (last, tt)
guests_more (first ∷ guests) block fits last = (fits.0, guests_more guests block fits.1 last)

steps_more : (n : ℕ) (steps : List Step) (step : Step) → AreStepsOf n steps → IsStepOf n step → AreStepsOf n (steps ++ step ∷ [])
steps_more n [] step fits last = (last, tt)
steps_more n (first ∷ steps) step fits last = (fits.0, steps_more n steps step fits.1 last)

pub length_more : {X : Type 0} (xs : List X) (x : X) → length (xs ++ x ∷ []) ≡ length xs + 1
length_more xs x = omega (arith, length-append xs (x ∷ []))

pub guest_lines_more : (guests : List (List Line)) (block : List Line) → guest_lines (guests ++ block ∷ []) ≡ guest_lines guests ++ (codes "guest" ∷ map line_text block)
guest_lines_more guests block =
    flat_map-append block_lines guests (block ∷ []) ∙ ap (λ (ls : List (List ℕ)). guest_lines guests ++ ls) (append-nil (block_lines block))

-- a line at the end of the lines behind the first
pub last_line : (first last : List ℕ) (front back : List (List ℕ)) → first ∷ (front ++ (back ++ last ∷ [])) ≡ (first ∷ (front ++ back)) ++ last ∷ []
last_line first last front back = ap (λ (ls : List (List ℕ)). first ∷ ls) (sym (append_assoc front back (last ∷ [])))

-- ---- what it takes

abbrev Takes : Progress → List ℕ → Progress → Type 0
Takes p line q = IsProgress q × (lines_to q ≡ lines_to p ++ line ∷ [])

guest_taken : (closed : List (List Line)) (opened : List Line) (line : List ℕ) → IsProgress (Block closed opened) → line ≡ codes "guest" → length closed + 1 < 1000 → Takes (Block closed opened) line (Block (closed ++ opened ∷ []) [])
guest_taken closed opened line fits e room = (
  (omega (arith, length_more closed opened), guests_more closed opened fits.1 fits.2, tt),
  ap (λ (ls : List (List ℕ)). codes "edge-run 1" ∷ (ls ++ codes "guest" ∷ [])) (guest_lines_more closed opened)
      ∙ ap (λ (l : List ℕ). (codes "edge-run 1" ∷ (guest_lines closed ++ (codes "guest" ∷ map line_text opened))) ++ l ∷ []) (sym e),
)

steps_taken : (closed : List (List Line)) (opened : List Line) (line : List ℕ) → IsProgress (Block closed opened) → line ≡ codes "steps" → Takes (Block closed opened) line (Steps (closed ++ opened ∷ []) [])
steps_taken closed opened line fits e = (
  record {
    few_guests = omega (arith, length_more closed opened);
    all_guests = guests_more closed opened fits.1 fits.2;
    few_steps = lit≤ tt;
    all_steps = tt;
  },
  ap (λ (ls : List (List ℕ)). codes "edge-run 1" ∷ (ls ++ codes "steps" ∷ [])) (guest_lines_more closed opened)
      ∙ ap (λ (l : List ℕ). (codes "edge-run 1" ∷ (guest_lines closed ++ (codes "guest" ∷ map line_text opened))) ++ l ∷ []) (sym e),
)

line_taken : (closed : List (List Line)) (opened : List Line) (text : List ℕ) (line : Line) → IsProgress (Block closed opened) → line_at (length opened + 1) text ≡ Some line → Takes (Block closed opened) text (Block closed (opened ++ line ∷ []))
line_taken closed opened text line fits read =
    let found = line_takes (length opened + 1) text line read in
    let P : ℕ → Type 0 = λ p. IsLineAt p line in
    let here : length opened + 1 ≡ 1 + length opened = omega arith in (
      (fits.0, fits.1, lines_more 1 opened line fits.2 (subst P here found.1)),
      ap (λ (ls : List (List ℕ)). codes "edge-run 1" ∷ (guest_lines closed ++ (codes "guest" ∷ ls))) (map-append line_text opened (line ∷ []))
          ∙ last_line (codes "edge-run 1") (line_text line) (guest_lines closed) (codes "guest" ∷ map line_text opened)
          ∙ ap (λ (l : List ℕ). (codes "edge-run 1" ∷ (guest_lines closed ++ (codes "guest" ∷ map line_text opened))) ++ l ∷ []) (sym found.0),
    )

block_takes : (closed : List (List Line)) (opened : List Line) (line : List ℕ) (q : Progress) → IsProgress (Block closed opened) → after_in_block closed opened line ≡ Some q → Takes (Block closed opened) line q
block_takes closed opened line q fits e =
    let P : Progress → Type 0 = λ q. Takes (Block closed opened) line q in
    elim (chosen (bytes_eq line (codes "guest")) _ _ (Some q) e) [
      | inl guest ↦
          elim (chosen (nat_lt (length closed + 1) 1000) _ _ (Some q) guest.1) [
            | inl room ↦ subst P (same_Some _ _ room.1) (guest_taken closed opened line fits (same_bytes _ _ guest.0) (ltb-true (length closed + 1) 1000 room.0))
            | inr none ↦ cc none.1
          ]
      | inr other ↦
          elim (chosen (bytes_eq line (codes "steps")) _ _ (Some q) other.1) [
            | inl steps ↦ subst P (same_Some _ _ steps.1) (steps_taken closed opened line fits (same_bytes _ _ steps.0))
            | inr lines ↦
                let read = map_some (λ (read : Line). Block closed (opened ++ read ∷ [])) (line_at (length opened + 1) line) q lines.1 in
                subst P read.2 (line_taken closed opened line read.0 fits read.1)
          ]
    ]

end_taken : (guests : List (List Line)) (steps : List Step) (line : List ℕ) → AreCounted guests steps → line ≡ codes "end" → Takes (Steps guests steps) line (Over guests steps)
end_taken guests steps line fits e = (
  fits,
  last_line (codes "edge-run 1") (codes "end") (guest_lines guests) (codes "steps" ∷ map step_text steps)
      ∙ ap (λ (l : List ℕ). (codes "edge-run 1" ∷ (guest_lines guests ++ (codes "steps" ∷ map step_text steps))) ++ l ∷ []) (sym e),
)

step_taken : (guests : List (List Line)) (steps : List Step) (text : List ℕ) (step : Step) → AreCounted guests steps → length steps < 1000000 → step_at (length guests) text ≡ Some step → Takes (Steps guests steps) text (Steps guests (steps ++ step ∷ []))
step_taken guests steps text step fits room read =
    let found = step_takes (length guests) text step fits.few_guests read in (
      record {
        few_guests = fits.few_guests;
        all_guests = fits.all_guests;
        few_steps = omega (arith, length_more steps step);
        all_steps = steps_more (length guests) steps step fits.all_steps found.1;
      },
      ap (λ (ls : List (List ℕ)). codes "edge-run 1" ∷ (guest_lines guests ++ (codes "steps" ∷ ls))) (map-append step_text steps (step ∷ []))
          ∙ last_line (codes "edge-run 1") (step_text step) (guest_lines guests) (codes "steps" ∷ map step_text steps)
          ∙ ap (λ (l : List ℕ). (codes "edge-run 1" ∷ (guest_lines guests ++ (codes "steps" ∷ map step_text steps))) ++ l ∷ []) (sym found.0),
    )

steps_takes : (guests : List (List Line)) (steps : List Step) (line : List ℕ) (q : Progress) → AreCounted guests steps → after_in_steps guests steps line ≡ Some q → Takes (Steps guests steps) line q
steps_takes guests steps line q fits e =
    let P : Progress → Type 0 = λ q. Takes (Steps guests steps) line q in
    elim (chosen (bytes_eq line (codes "end")) _ _ (Some q) e) [
      | inl end ↦ subst P (same_Some _ _ end.1) (end_taken guests steps line fits (same_bytes _ _ end.0))
      | inr other ↦
          elim (chosen (nat_lt (length steps) most_steps) _ _ (Some q) other.1) [
            | inl room ↦
                let read = map_some (λ (step : Step). Steps guests (steps ++ step ∷ [])) (step_at (length guests) line) q room.1 in
                subst P read.2 (step_taken guests steps line read.0 fits (ltb-true (length steps) most_steps room.0) read.1)
            | inr none ↦ cc none.1
          ]
    ]

begun_takes : (line : List ℕ) (q : Progress) → after_line Begun line ≡ Some q → Takes Begun line q
begun_takes line q e =
    let P : Progress → Type 0 = λ q. Takes Begun line q in
    let here : (word : List ℕ) → line ≡ word → codes "edge-run 1" ∷ (word ∷ []) ≡ codes "edge-run 1" ∷ (line ∷ []) = λ word same. ap (λ (l : List ℕ). codes "edge-run 1" ∷ (l ∷ [])) (sym same) in
    elim (chosen (bytes_eq line (codes "guest")) _ _ (Some q) e) [
      | inl guest ↦ subst P (same_Some _ _ guest.1) ((lit≤ tt, tt, tt), here _ (same_bytes _ _ guest.0))
      | inr other ↦
          elim (chosen (bytes_eq line (codes "steps")) _ _ (Some q) other.1) [
            | inl steps ↦ subst P (same_Some _ _ steps.1) (record { few_guests = lit≤ tt; all_guests = tt; few_steps = lit≤ tt; all_steps = tt }, here _ (same_bytes _ _ steps.0))
            | inr none ↦ cc none.1
          ]
    ]

pub line_takes_on : (p q : Progress) (line : List ℕ) → IsProgress p → after_line p line ≡ Some q → Takes p line q
line_takes_on Start q line fits e =
    let P : Progress → Type 0 = λ q. Takes Start line q in
    let found = cond_some (bytes_eq line (codes "edge-run 1")) Begun q e in
    subst P found.1 (tt, ap (λ (l : List ℕ). l ∷ []) (sym (same_bytes _ _ found.0)))
line_takes_on Begun q line fits e = begun_takes line q e
line_takes_on (Block closed opened) q line fits e = block_takes closed opened line q fits e
line_takes_on (Steps guests steps) q line fits e = steps_takes guests steps line q fits e
line_takes_on (Over guests steps) q line fits e = cc e

-- what one more line leads to stands as well, unless memory ran out
pub stands_on : (p : Progress) (line : List ℕ) (answer : Result State LineFault) → IsProgress p → Gives seen answer (after_line p line) → IfOk answer (λ next. IsProgress (seen next))
stands_on p line (Ok next) stands gives = (line_takes_on p (seen next) line stands gives).0
stands_on p line (Err fault) stands gives = tt
