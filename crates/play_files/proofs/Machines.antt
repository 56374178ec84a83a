-- Laws of the machine: what it takes, and that each state whose requests are good has a finished file.
use Rattle.std.proofs.Common.{◌≡◌, ◌<◌, ◌+◌, ℕ, suc, zero, List, [], ◌∷◌, ◌++◌, length, refl, sym, ◌∙◌, ap, subst, Some, arith, inl, inr, append_assoc, append-nil, length-append, lit≤, lit<, map}
use Rattle.std.specs.Prelude.{nat_lt, bytes_eq, codes, replicate, slice_index}
use Rattle.std.proofs.lemmas.Bool.{ltb-true}
use Rattle.std.proofs.lemmas.List.{map-append}
use Rattle.std.proofs.lemmas.Option.{cond_some, same_Some}
use Rattle.hex.specs.Hex.{IsBytes}
use Rattle.edge_words.proofs.Numbers.{same_bytes}
use Rattle.edge_words.proofs.Laws.{map_some}
use Rattle.edge_words.proofs.ChoiceLaws.{chosen}
use Rattle.line_reader.specs.ByLines.{Begins}
use Rattle.script_lines.specs.declared.step.Step.{Step}
use Rattle.run_files.specs.Run.{step_text, most_guests, most_steps, IsStepOf, AreStepsOf}
use Rattle.run_files.specs.Reading.{step_at}
use Rattle.run_files.proofs.Texts.{step_takes}
use Rattle.play_files.specs.Play.{Play, fuel_text, random_text, request_text, play_lines, IsRandom, AreBytes, IsGoodPlay}
use Rattle.play_files.specs.Reading.{fuel_in, random_in, request_in}
use Rattle.play_files.specs.Machine.{Head, Progress, Start, Begun, Fuelled, Asking, Steps, Over, head_of, after_line, after_in_requests, after_in_steps, lines_to, head_lines, AreCounted, IsProgress, AreGood}
use Rattle.play_files.proofs.Lines.{fuel_law, random_law, request_law}

-- ---- one more

pub length_more : {X : Type 0} (xs : List X) (x : X) → length (xs ++ x ∷ []) ≡ length xs + 1
length_more xs x = omega (arith, length-append xs (x ∷ []))

pub bytes_more : (texts : List (List ℕ)) (text : List ℕ) → AreBytes texts → IsBytes text → AreBytes (texts ++ text ∷ [])
bytes_more [] text fits last = (last, tt)
bytes_more (first ∷ texts) text fits last = (fits.0, bytes_more texts text fits.1 last)

steps_more : (n : ℕ) (steps : List Step) (step : Step) → AreStepsOf n steps → IsStepOf n step → AreStepsOf n (steps ++ step ∷ [])
steps_more n [] step fits last = (last, tt)
steps_more n (first ∷ steps) step fits last = (fits.0, steps_more n steps step fits.1 last)

-- a line at the end
pub last_line : (head front back : List (List ℕ)) (line : List ℕ) → head ++ (front ++ (back ++ line ∷ [])) ≡ (head ++ (front ++ back)) ++ line ∷ []
last_line head front back line =
    ap (λ (ls : List (List ℕ)). head ++ ls) (sym (append_assoc front back (line ∷ []))) ∙ sym (append_assoc head (front ++ back) (line ∷ []))

-- ---- what it takes

abbrev pub Takes : Progress → List ℕ → Progress → Type 0
Takes p line q = IsProgress q × (lines_to q ≡ lines_to p ++ line ∷ [])

fuel_taken : (line : List ℕ) (q : Progress) → after_line Begun line ≡ Some q → Takes Begun line q
fuel_taken line q e =
    let read = map_some Fuelled (fuel_in line) q e in
    let found = fuel_law.takes line read.0 read.1 in
    subst (λ (q : Progress). Takes Begun line q) read.2 (found.1, ap (λ (l : List ℕ). codes "edge-play 1" ∷ (l ∷ [])) (sym found.0))

random_taken : (fuel : ℕ) (line : List ℕ) (q : Progress) → IsProgress (Fuelled fuel) → after_line (Fuelled fuel) line ≡ Some q → Takes (Fuelled fuel) line q
random_taken fuel line q fits e =
    let read = map_some (λ (random : List ℕ). Asking (head_of fuel random) []) (random_in line) q e in
    let found = random_law.takes line read.0 read.1 in
    subst (λ (q : Progress). Takes (Fuelled fuel) line q) read.2 (
      record { head_is = record { fuel = fits; random = found.1 }; few_requests = lit≤ tt; all_bytes = tt; few_steps = lit≤ tt; all_steps = tt },
      ap (λ (l : List ℕ). codes "edge-play 1" ∷ (fuel_text fuel ∷ (l ∷ []))) (sym found.0),
    )

steps_taken : (head : Head) (texts : List (List ℕ)) (line : List ℕ) → AreCounted head texts [] → line ≡ codes "steps" → Takes (Asking head texts) line (Steps head texts [])
steps_taken head texts line fits e = (
  fits,
  sym (append_assoc (head_lines head) (map request_text texts) (codes "steps" ∷ []))
      ∙ ap (λ (l : List ℕ). (head_lines head ++ map request_text texts) ++ l ∷ []) (sym e),
)

request_taken : (head : Head) (texts : List (List ℕ)) (line text : List ℕ) → AreCounted head texts [] → length texts < 1000 → request_in line ≡ Some text → Takes (Asking head texts) line (Asking head (texts ++ text ∷ []))
request_taken head texts line text fits room read =
    let found = request_law.takes line text read in (
      record {
        head_is = fits.head_is;
        few_requests = omega (arith, length_more texts text);
        all_bytes = bytes_more texts text fits.all_bytes found.1;
        few_steps = lit≤ tt;
        all_steps = tt;
      },
      ap (λ (ls : List (List ℕ)). head_lines head ++ ls) (map-append request_text texts (text ∷ []))
          ∙ sym (append_assoc (head_lines head) (map request_text texts) (request_text text ∷ []))
          ∙ ap (λ (l : List ℕ). (head_lines head ++ map request_text texts) ++ l ∷ []) (sym found.0),
    )

requests_take : (head : Head) (texts : List (List ℕ)) (line : List ℕ) (q : Progress) → AreCounted head texts [] → after_in_requests head texts line ≡ Some q → Takes (Asking head texts) line q
requests_take head texts line q fits e =
    let P : Progress → Type 0 = λ q. Takes (Asking head texts) line q in
    elim (chosen (bytes_eq line (codes "steps")) _ _ (Some q) e) [
      | inl steps ↦ subst P (same_Some _ _ steps.1) (steps_taken head texts line fits (same_bytes _ _ steps.0))
      | inr other ↦
          elim (chosen (nat_lt (length texts) most_guests) _ _ (Some q) other.1) [
            | inl room ↦
                let read = map_some (λ (text : List ℕ). Asking head (texts ++ text ∷ [])) (request_in line) q room.1 in
                subst P read.2 (request_taken head texts line read.0 fits (ltb-true (length texts) most_guests room.0) read.1)
            | inr none ↦ cc none.1
          ]
    ]

end_taken : (head : Head) (texts : List (List ℕ)) (steps : List Step) (line : List ℕ) → AreCounted head texts steps → line ≡ codes "end" → Takes (Steps head texts steps) line (Over head texts steps)
end_taken head texts steps line fits e = (
  fits,
  last_line (head_lines head) (map request_text texts) (codes "steps" ∷ map step_text steps) (codes "end")
      ∙ ap (λ (l : List ℕ). (head_lines head ++ (map request_text texts ++ (codes "steps" ∷ map step_text steps))) ++ l ∷ []) (sym e),
)

step_taken : (head : Head) (texts : List (List ℕ)) (steps : List Step) (line : List ℕ) (step : Step) → AreCounted head texts steps → length steps < 1000000 → step_at (length texts) line ≡ Some step → Takes (Steps head texts steps) line (Steps head texts (steps ++ step ∷ []))
step_taken head texts steps line step fits room read =
    let found = step_takes (length texts) line step fits.few_requests read in (
      record {
        head_is = fits.head_is;
        few_requests = fits.few_requests;
        all_bytes = fits.all_bytes;
        few_steps = omega (arith, length_more steps step);
        all_steps = steps_more (length texts) steps step fits.all_steps found.1;
      },
      ap (λ (ls : List (List ℕ)). head_lines head ++ (map request_text texts ++ (codes "steps" ∷ ls))) (map-append step_text steps (step ∷ []))
          ∙ last_line (head_lines head) (map request_text texts) (codes "steps" ∷ map step_text steps) (step_text step)
          ∙ ap (λ (l : List ℕ). (head_lines head ++ (map request_text texts ++ (codes "steps" ∷ map step_text steps))) ++ l ∷ []) (sym found.0),
    )

steps_take : (head : Head) (texts : List (List ℕ)) (steps : List Step) (line : List ℕ) (q : Progress) → AreCounted head texts steps → after_in_steps head texts steps line ≡ Some q → Takes (Steps head texts steps) line q
steps_take head texts steps line q fits e =
    let P : Progress → Type 0 = λ q. Takes (Steps head texts steps) line q in
    elim (chosen (bytes_eq line (codes "end")) _ _ (Some q) e) [
      | inl end ↦ subst P (same_Some _ _ end.1) (end_taken head texts steps line fits (same_bytes _ _ end.0))
      | inr other ↦
          elim (chosen (nat_lt (length steps) most_steps) _ _ (Some q) other.1) [
            | inl room ↦
                let read = map_some (λ (step : Step). Steps head texts (steps ++ step ∷ [])) (step_at (length texts) line) q room.1 in
                subst P read.2 (step_taken head texts steps line read.0 fits (ltb-true (length steps) most_steps room.0) read.1)
            | inr none ↦ cc none.1
          ]
    ]

pub line_takes : (p q : Progress) (line : List ℕ) → IsProgress p → after_line p line ≡ Some q → Takes p line q
line_takes Start q line fits e =
    let found = cond_some (bytes_eq line (codes "edge-play 1")) Begun q e in
    subst (λ (q : Progress). Takes Start line q) found.1 (tt, ap (λ (l : List ℕ). l ∷ []) (sym (same_bytes _ _ found.0)))
line_takes Begun q line fits e = fuel_taken line q e
line_takes (Fuelled fuel) q line fits e = random_taken fuel line q fits e
line_takes (Asking head texts) q line fits e = requests_take head texts line q fits e
line_takes (Steps head texts steps) q line fits e = steps_take head texts steps line q fits e
line_takes (Over head texts steps) q line fits e = cc e

-- ---- each state whose requests are good has a finished file

pub zeros_fit : (n i : ℕ) → slice_index (replicate n 0) i < 256
zeros_fit zero zero = lit< tt
zeros_fit zero (suc i) = lit< tt
zeros_fit (suc n) zero = lit< tt
zeros_fit (suc n) (suc i) = zeros_fit n i

abbrev pub zeros : List ℕ
zeros = replicate 32 0

pub zeros_are : IsRandom zeros
zeros_are = (zeros_fit 32, refl)

-- the file of this fuel with nothing to do
abbrev idle : ℕ → Play
idle fuel = record { fuel = fuel; random = zeros; texts = []; steps = [] }

idle_is : (fuel : ℕ) → IsProgress (Fuelled fuel) → IsGoodPlay (idle fuel)
idle_is fuel fits = record {
  is = record { fuel = fits; random = zeros_are; few_requests = lit≤ tt; texts = tt; few_steps = lit≤ tt; steps = tt };
  requests = tt;
}

abbrev play_with : Head → List (List ℕ) → List Step → Play
play_with head texts steps = record { fuel = head.fuel; random = head.random; texts = texts; steps = steps }

counted_is : (head : Head) (texts : List (List ℕ)) (steps : List Step) → AreCounted head texts steps → AreGood (Over head texts steps) → IsGoodPlay (play_with head texts steps)
counted_is head texts steps fits good = record {
  is = record { fuel = fits.head_is.fuel; random = fits.head_is.random; few_requests = fits.few_requests; texts = fits.all_bytes; few_steps = fits.few_steps; steps = fits.all_steps };
  requests = good;
}

pub begins_to : (p : Progress) → IsProgress p → AreGood p → Begins IsGoodPlay play_lines (lines_to p)
begins_to Start fits good = record { value = idle 0; fits = idle_is 0 (lit< tt); rest = play_lines (idle 0); begins = refl }
begins_to Begun fits good = record {
  value = idle 0;
  fits = idle_is 0 (lit< tt);
  rest = fuel_text 0 ∷ (random_text zeros ∷ (codes "steps" ∷ (codes "end" ∷ [])));
  begins = refl;
}
begins_to (Fuelled fuel) fits good = record {
  value = idle fuel;
  fits = idle_is fuel fits;
  rest = random_text zeros ∷ (codes "steps" ∷ (codes "end" ∷ []));
  begins = refl;
}
begins_to (Asking head texts) fits good = record {
  value = play_with head texts [];
  fits = counted_is head texts [] fits good;
  rest = codes "steps" ∷ (codes "end" ∷ []);
  begins = refl;
}
begins_to (Steps head texts steps) fits good = record {
  value = play_with head texts steps;
  fits = counted_is head texts steps fits good;
  rest = codes "end" ∷ [];
  begins = last_line (head_lines head) (map request_text texts) (codes "steps" ∷ map step_text steps) (codes "end");
}
begins_to (Over head texts steps) fits good = record {
  value = play_with head texts steps;
  fits = counted_is head texts steps fits good;
  rest = [];
  begins = sym (append-nil (lines_to (Over head texts steps)));
}
