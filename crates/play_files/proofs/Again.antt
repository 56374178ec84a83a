-- The machine takes each play file, whose lines have no line feed in them.
use Rattle.std.proofs.Common.{◌≡◌, ◌<◌, ◌≤◌, ◌+◌, ℕ, true, List, [], ◌∷◌, ◌++◌, length, refl, sym, ◌∙◌, ap, Option, Some, arith, append_assoc, append-nil, length-append, map}
use Rattle.std.specs.Prelude.{codes}
use Rattle.std.specs.List.{list_all}
use Rattle.std.proofs.lemmas.Bool.{lt-ltb}
use Rattle.std.proofs.lemmas.List.Folds.{list_all-append}
use Rattle.hex.specs.Hex.{IsBytes}
use Rattle.edge_words.specs.Reading.{◌>>=◌}
use Rattle.edge_words.proofs.Lines.{lacks}
use Rattle.line_reader.specs.ByLines.{after_all}
use Rattle.script_lines.specs.declared.step.Step.{Step}
use Rattle.run_files.specs.Run.{step_text, AreStepsOf, IsStepOf}
use Rattle.run_files.proofs.Texts.{step_again, step_feed, no_step}
use Rattle.play_files.specs.Play.{Play, fuel_text, random_text, request_text, play_lines, AreBytes, IsPlay}
use Rattle.play_files.specs.Machine.{Head, Progress, Start, Asking, Steps, Over, head_of, machine}
use Rattle.play_files.proofs.Lines.{fuel_law, random_law, request_law, no_request}
use Rattle.play_files.proofs.Goes.{request_leads}

-- ---- requests

request_goes : (head : Head) (done : List (List ℕ)) (text : List ℕ) (lines : List (List ℕ)) → length done < 1000 → IsBytes text → after_all machine (Asking head done) (request_text text ∷ lines) ≡ after_all machine (Asking head (done ++ text ∷ [])) lines
request_goes head done text lines room fits =
    let goes = request_leads head done (request_text text) text (no_request text fits) room (request_law.again text fits) in
    ap (λ (o : Option Progress). o >>= λ p. after_all machine p lines) goes

requests_go : (head : Head) (done texts : List (List ℕ)) (rest : List (List ℕ)) → length done + length texts ≤ 1000 → AreBytes texts → after_all machine (Asking head done) (map request_text texts ++ (codes "steps" ∷ rest)) ≡ after_all machine (Steps head (done ++ texts) []) rest
requests_go head done [] rest room fits = ap (λ (ts : List (List ℕ)). after_all machine (Steps head ts []) rest) (sym (append-nil done))
requests_go head done (text ∷ texts) rest room fits =
    let more = length-append done (text ∷ []) in
    request_goes head done text (map request_text texts ++ (codes "steps" ∷ rest)) (omega arith) fits.0
    ∙ requests_go head (done ++ text ∷ []) texts rest (omega (arith, more)) fits.1
    ∙ ap (λ (ts : List (List ℕ)). after_all machine (Steps head ts []) rest) (append_assoc done (text ∷ []) texts)

-- ---- steps

step_goes : (head : Head) (texts : List (List ℕ)) (done : List Step) (step : Step) (lines : List (List ℕ)) → length texts ≤ 1000 → length done < 1000000 → IsStepOf (length texts) step → after_all machine (Steps head texts done) (step_text step ∷ lines) ≡ after_all machine (Steps head texts (done ++ step ∷ [])) lines
step_goes head texts done step lines few room fits =
    rw (no_step (length texts) step few fits, lt-ltb (length done) 1000000 room, step_again (length texts) step few fits) refl

steps_go : (head : Head) (texts : List (List ℕ)) (done steps : List Step) (rest : List (List ℕ)) → length texts ≤ 1000 → length done + length steps ≤ 1000000 → AreStepsOf (length texts) steps → after_all machine (Steps head texts done) (map step_text steps ++ rest) ≡ after_all machine (Steps head texts (done ++ steps)) rest
steps_go head texts done [] rest few room fits = ap (λ (ss : List Step). after_all machine (Steps head texts ss) rest) (sym (append-nil done))
steps_go head texts done (step ∷ steps) rest few room fits =
    let more = length-append done (step ∷ []) in
    step_goes head texts done step (map step_text steps ++ rest) few (omega arith) fits.0
    ∙ steps_go head texts (done ++ step ∷ []) steps rest few (omega (arith, more)) fits.1
    ∙ ap (λ (ss : List Step). after_all machine (Steps head texts ss) rest) (append_assoc done (step ∷ []) steps)

-- ---- all lines

head_goes : (play : Play) (rest : List (List ℕ)) → IsPlay play → after_all machine Start (codes "edge-play 1" ∷ (fuel_text play.fuel ∷ (random_text play.random ∷ rest))) ≡ after_all machine (Asking (head_of play.fuel play.random) []) rest
head_goes play rest fits = rw (fuel_law.again play.fuel fits.fuel, random_law.again play.random fits.random) refl

pub play_goes : (play : Play) → IsPlay play → after_all machine Start (play_lines play) ≡ Some (Over (head_of play.fuel play.random) play.texts play.steps)
play_goes play fits =
    let head : Head = head_of play.fuel play.random in
    head_goes play (map request_text play.texts ++ (codes "steps" ∷ (map step_text play.steps ++ codes "end" ∷ []))) fits
    ∙ requests_go head [] play.texts (map step_text play.steps ++ codes "end" ∷ []) (omega (arith, fits.few_requests)) fits.texts
    ∙ steps_go head play.texts [] play.steps (codes "end" ∷ []) fits.few_requests (omega (arith, fits.few_steps)) fits.steps

-- ---- line feeds

pub requests_feed : (texts : List (List ℕ)) → AreBytes texts → list_all (lacks 10) (map request_text texts) ≡ true
requests_feed [] fits = refl
requests_feed (text ∷ texts) fits = rw (request_law.feed text fits.0) (requests_feed texts fits.1)

steps_feed : (n : ℕ) (steps : List Step) → n ≤ 1000 → AreStepsOf n steps → list_all (lacks 10) (map step_text steps) ≡ true
steps_feed n [] few fits = refl
steps_feed n (step ∷ steps) few fits = rw (step_feed n step few fits.0) (steps_feed n steps few fits.1)

pub play_feed : (play : Play) → IsPlay play → list_all (lacks 10) (play_lines play) ≡ true
play_feed play fits =
    rw (
      fuel_law.feed play.fuel fits.fuel,
      random_law.feed play.random fits.random,
      list_all-append (lacks 10) (map request_text play.texts) (codes "steps" ∷ (map step_text play.steps ++ codes "end" ∷ [])),
      requests_feed play.texts fits.texts,
      list_all-append (lacks 10) (map step_text play.steps) (codes "end" ∷ []),
      steps_feed (length play.texts) play.steps fits.few_requests fits.steps,
    ) refl
