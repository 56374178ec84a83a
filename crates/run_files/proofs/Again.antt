-- The machine takes each run file, whose lines have no line feed in them.
use Rattle.std.proofs.Common.{◌≡◌, ◌<◌, ◌≤◌, ◌+◌, ℕ, true, List, [], ◌∷◌, ◌++◌, length, refl, sym, ◌∙◌, ap, subst, Option, Some, arith, append_assoc, append-nil, length-append, map}
use Rattle.std.specs.Prelude.{codes}
use Rattle.std.specs.List.{list_all}
use Rattle.std.proofs.lemmas.Bool.{lt-ltb}
use Rattle.std.proofs.lemmas.List.Folds.{list_all-append}
use Rattle.edge_words.specs.Reading.{◌>>=◌}
use Rattle.edge_words.proofs.Lines.{lacks}
use Rattle.script_lines.specs.declared.line.Line.{Line}
use Rattle.script_lines.specs.declared.step.Step.{Step}
use Rattle.run_files.specs.declared.run.Run.{Run}
use Rattle.run_files.specs.Run.{guest_lines, line_text, step_text, run_lines, AreLinesFrom, AreGuests, AreStepsOf, IsStepOf, IsRun, IsLineAt}
use Rattle.line_reader.specs.ByLines.{after_all}
use Rattle.run_files.specs.Machine.{Progress, Start, Begun, Block, Steps, Over, after_line, machine}
use Rattle.run_files.proofs.Texts.{line_again, line_feed, no_line, step_again, step_feed, no_step}

-- ---- the lines of a block

line_goes : (closed : List (List Line)) (opened : List Line) (line : Line) → IsLineAt (length opened + 1) line → after_line (Block closed opened) (line_text line) ≡ Some (Block closed (opened ++ line ∷ []))
line_goes closed opened line fits =
    rw (no_line (length opened + 1) line (codes "guest") fits refl, no_line (length opened + 1) line (codes "steps") fits refl, line_again (length opened + 1) line fits) refl

lines_go : (closed : List (List Line)) (opened more : List Line) (rest : List (List ℕ)) → AreLinesFrom (length opened + 1) more → after_all machine (Block closed opened) (map line_text more ++ rest) ≡ after_all machine (Block closed (opened ++ more)) rest
lines_go closed opened [] rest fits = ap (λ (ls : List Line). after_all machine (Block closed ls) rest) (sym (append-nil opened))
lines_go closed opened (line ∷ more) rest fits =
    let P : ℕ → Type 0 = λ p. AreLinesFrom p more in
    let next : length opened + 1 + 1 ≡ length (opened ++ line ∷ []) + 1 = omega (arith, length-append opened (line ∷ [])) in
    ap (λ (o : Option Progress). o >>= λ q. after_all machine q (map line_text more ++ rest)) (line_goes closed opened line fits.0)
    ∙ lines_go closed (opened ++ line ∷ []) more rest (subst P next fits.1)
    ∙ ap (λ (ls : List Line). after_all machine (Block closed ls) rest) (append_assoc opened (line ∷ []) more)

-- ---- the blocks

guest_goes : (closed : List (List Line)) (opened : List Line) (lines : List (List ℕ)) → length closed + 1 < 1000 → after_all machine (Block closed opened) (codes "guest" ∷ lines) ≡ after_all machine (Block (closed ++ opened ∷ []) []) lines
guest_goes closed opened lines room = rw (lt-ltb (length closed + 1) 1000 room) refl

guests_go : (closed : List (List Line)) (opened : List Line) (blocks : List (List Line)) (rest : List (List ℕ)) → AreGuests blocks → length closed + 1 + length blocks ≤ 1000 → after_all machine (Block closed opened) (guest_lines blocks ++ (codes "steps" ∷ rest)) ≡ after_all machine (Steps (closed ++ opened ∷ blocks) []) rest
guests_go closed opened [] rest fits few = refl
guests_go closed opened (block ∷ blocks) rest fits few =
    let more = length-append closed (opened ∷ []) in
    guest_goes closed opened ((map line_text block ++ guest_lines blocks) ++ (codes "steps" ∷ rest)) (omega arith)
    ∙ ap (after_all machine (Block (closed ++ opened ∷ []) [])) (append_assoc (map line_text block) (guest_lines blocks) (codes "steps" ∷ rest))
    ∙ lines_go (closed ++ opened ∷ []) [] block (guest_lines blocks ++ (codes "steps" ∷ rest)) fits.0
    ∙ guests_go (closed ++ opened ∷ []) block blocks rest fits.1 (omega (arith, more))
    ∙ ap (λ (gs : List (List Line)). after_all machine (Steps gs []) rest) (append_assoc closed (opened ∷ []) (block ∷ blocks))

begun_goes : (guests : List (List Line)) (rest : List (List ℕ)) → AreGuests guests → length guests ≤ 1000 → after_all machine Begun (guest_lines guests ++ (codes "steps" ∷ rest)) ≡ after_all machine (Steps guests []) rest
begun_goes [] rest fits few = refl
begun_goes (block ∷ blocks) rest fits few =
    ap (after_all machine (Block [] [])) (append_assoc (map line_text block) (guest_lines blocks) (codes "steps" ∷ rest))
    ∙ lines_go [] [] block (guest_lines blocks ++ (codes "steps" ∷ rest)) fits.0
    ∙ guests_go [] block blocks rest fits.1 (omega arith)

-- ---- the steps

step_goes : (guests : List (List Line)) (done : List Step) (step : Step) (lines : List (List ℕ)) → length guests ≤ 1000 → length done < 1000000 → IsStepOf (length guests) step → after_all machine (Steps guests done) (step_text step ∷ lines) ≡ after_all machine (Steps guests (done ++ step ∷ [])) lines
step_goes guests done step lines few room fits =
    rw (no_step (length guests) step few fits, lt-ltb (length done) 1000000 room, step_again (length guests) step few fits) refl

steps_go : (guests : List (List Line)) (done steps : List Step) (rest : List (List ℕ)) → length guests ≤ 1000 → length done + length steps ≤ 1000000 → AreStepsOf (length guests) steps → after_all machine (Steps guests done) (map step_text steps ++ rest) ≡ after_all machine (Steps guests (done ++ steps)) rest
steps_go guests done [] rest few room fits = ap (λ (ss : List Step). after_all machine (Steps guests ss) rest) (sym (append-nil done))
steps_go guests done (step ∷ steps) rest few room fits =
    let more = length-append done (step ∷ []) in
    step_goes guests done step (map step_text steps ++ rest) few (omega arith) fits.0
    ∙ steps_go guests (done ++ step ∷ []) steps rest few (omega (arith, more)) fits.1
    ∙ ap (λ (ss : List Step). after_all machine (Steps guests ss) rest) (append_assoc done (step ∷ []) steps)

pub run_goes : (run : Run) → IsRun run → after_all machine Start (run_lines run) ≡ Some (Over run.guests run.steps)
run_goes run fits =
    begun_goes run.guests (map step_text run.steps ++ codes "end" ∷ []) fits.guests fits.few_guests
    ∙ steps_go run.guests [] run.steps (codes "end" ∷ []) fits.few_guests (omega (arith, fits.few_steps)) fits.steps

-- ---- line feeds

lines_feed : (place : ℕ) (lines : List Line) → AreLinesFrom place lines → list_all (lacks 10) (map line_text lines) ≡ true
lines_feed place [] fits = refl
lines_feed place (line ∷ lines) fits = rw (line_feed place line fits.0) (lines_feed (place + 1) lines fits.1)

guests_feed : (guests : List (List Line)) → AreGuests guests → list_all (lacks 10) (guest_lines guests) ≡ true
guests_feed [] fits = refl
guests_feed (block ∷ blocks) fits =
    rw (list_all-append (lacks 10) (map line_text block) (guest_lines blocks), lines_feed 1 block fits.0) (guests_feed blocks fits.1)

steps_feed : (n : ℕ) (steps : List Step) → n ≤ 1000 → AreStepsOf n steps → list_all (lacks 10) (map step_text steps) ≡ true
steps_feed n [] few fits = refl
steps_feed n (step ∷ steps) few fits = rw (step_feed n step few fits.0) (steps_feed n steps few fits.1)

pub run_feed : (run : Run) → IsRun run → list_all (lacks 10) (run_lines run) ≡ true
run_feed run fits =
    rw (
      list_all-append (lacks 10) (guest_lines run.guests) (codes "steps" ∷ (map step_text run.steps ++ codes "end" ∷ [])),
      guests_feed run.guests fits.guests,
      list_all-append (lacks 10) (map step_text run.steps) (codes "end" ∷ []),
      steps_feed (length run.guests) run.steps fits.few_guests fits.steps,
    ) refl
