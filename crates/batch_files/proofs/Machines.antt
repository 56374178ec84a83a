-- Laws of the machine: what it takes, and that each state whose requests are good has a finished file.
use Rattle.std.proofs.Common.{◌≡◌, ◌<◌, ◌≤◌, ◌^◌, ℕ, List, [], ◌∷◌, ◌++◌, length, refl, sym, ◌∙◌, ap, subst, Some, arith, inl, inr, append_assoc, append-nil, lit≤, lit<, map}
use Rattle.std.specs.Prelude.{nat_lt, bytes_eq, codes}
use Rattle.std.proofs.lemmas.Bool.{ltb-true}
use Rattle.std.proofs.lemmas.List.{map-append}
use Rattle.std.proofs.lemmas.Option.{cond_some, same_Some}
use Rattle.edge_words.proofs.Numbers.{same_bytes}
use Rattle.edge_words.proofs.Laws.{map_some}
use Rattle.edge_words.proofs.ChoiceLaws.{chosen}
use Rattle.line_reader.specs.ByLines.{Begins}
use Rattle.run_files.specs.Run.{most_guests}
use Rattle.play_files.specs.Play.{fuel_text, random_text, request_text, IsRandom}
use Rattle.play_files.specs.Reading.{fuel_in, random_in, request_in}
use Rattle.play_files.proofs.Lines.{fuel_law, random_law, request_law}
use Rattle.play_files.proofs.Machines.{length_more, bytes_more, zeros, zeros_are}
use Rattle.batch_files.specs.declared.machine.Head.{Head}
use Rattle.batch_files.specs.Batch.{Batch, limit_text, workers_text, batch_lines, IsGoodBatch}
use Rattle.batch_files.specs.Reading.{limit_in, workers_in}
use Rattle.batch_files.specs.Machine.{Progress, Start, Begun, Fuelled, Drawn, Limited, Asking, Over, head_of, after_line, after_in_requests, batch_with, lines_to, head_lines, IsDrawn, AreCounted, IsProgress, AreGood}
use Rattle.batch_files.proofs.Lines.{limit_law, workers_law}

-- ---- what it takes

abbrev pub Takes : Progress → List ℕ → Progress → Type 0
Takes p line q = IsProgress q × (lines_to q ≡ lines_to p ++ line ∷ [])

fuel_taken : (line : List ℕ) (q : Progress) → after_line Begun line ≡ Some q → Takes Begun line q
fuel_taken line q e =
    let read = map_some Fuelled (fuel_in line) q e in
    let found = fuel_law.takes line read.0 read.1 in
    subst (λ (q : Progress). Takes Begun line q) read.2 (found.1, ap (λ (l : List ℕ). codes "edge-batch 1" ∷ (l ∷ [])) (sym found.0))

random_taken : (fuel : ℕ) (line : List ℕ) (q : Progress) → IsProgress (Fuelled fuel) → after_line (Fuelled fuel) line ≡ Some q → Takes (Fuelled fuel) line q
random_taken fuel line q fits e =
    let read = map_some (Drawn fuel) (random_in line) q e in
    let found = random_law.takes line read.0 read.1 in
    subst (λ (q : Progress). Takes (Fuelled fuel) line q) read.2 (
      record { fuel_fits = fits; random_fits = found.1 },
      ap (λ (l : List ℕ). codes "edge-batch 1" ∷ (fuel_text fuel ∷ (l ∷ []))) (sym found.0),
    )

limit_taken : (fuel : ℕ) (random line : List ℕ) (q : Progress) → IsDrawn fuel random → after_line (Drawn fuel random) line ≡ Some q → Takes (Drawn fuel random) line q
limit_taken fuel random line q fits e =
    let read = map_some (Limited fuel random) (limit_in line) q e in
    let found = limit_law.takes line read.0 read.1 in
    subst (λ (q : Progress). Takes (Drawn fuel random) line q) read.2 (
      (fits, found.1),
      ap (λ (l : List ℕ). codes "edge-batch 1" ∷ (fuel_text fuel ∷ (random_text random ∷ (l ∷ [])))) (sym found.0),
    )

workers_taken : (fuel : ℕ) (random : List ℕ) (limit : ℕ) (line : List ℕ) (q : Progress) → IsDrawn fuel random → limit < 2 ^ 64 → after_line (Limited fuel random limit) line ≡ Some q → Takes (Limited fuel random limit) line q
workers_taken fuel random limit line q fits small e =
    let read = map_some (λ (workers : ℕ). Asking (head_of fuel random limit workers) []) (workers_in line) q e in
    let found = workers_law.takes line read.0 read.1 in
    subst (λ (q : Progress). Takes (Limited fuel random limit) line q) read.2 (
      record {
        head_is = record { fuel = fits.fuel_fits; random = fits.random_fits; limit = small; some_workers = found.1.0; few_workers = found.1.1 };
        few_requests = lit≤ tt;
        all_bytes = tt;
      },
      ap (λ (l : List ℕ). codes "edge-batch 1" ∷ (fuel_text fuel ∷ (random_text random ∷ (limit_text limit ∷ (l ∷ []))))) (sym found.0),
    )

end_taken : (head : Head) (texts : List (List ℕ)) (line : List ℕ) → AreCounted head texts → line ≡ codes "end" → Takes (Asking head texts) line (Over head texts)
end_taken head texts line fits e = (
  fits,
  sym (append_assoc (head_lines head) (map request_text texts) (codes "end" ∷ []))
      ∙ ap (λ (l : List ℕ). (head_lines head ++ map request_text texts) ++ l ∷ []) (sym e),
)

request_taken : (head : Head) (texts : List (List ℕ)) (line text : List ℕ) → AreCounted head texts → length texts < 1000 → request_in line ≡ Some text → Takes (Asking head texts) line (Asking head (texts ++ text ∷ []))
request_taken head texts line text fits room read =
    let found = request_law.takes line text read in (
      record {
        head_is = fits.head_is;
        few_requests = omega (arith, length_more texts text);
        all_bytes = bytes_more texts text fits.all_bytes found.1;
      },
      ap (λ (ls : List (List ℕ)). head_lines head ++ ls) (map-append request_text texts (text ∷ []))
          ∙ sym (append_assoc (head_lines head) (map request_text texts) (request_text text ∷ []))
          ∙ ap (λ (l : List ℕ). (head_lines head ++ map request_text texts) ++ l ∷ []) (sym found.0),
    )

requests_take : (head : Head) (texts : List (List ℕ)) (line : List ℕ) (q : Progress) → AreCounted head texts → after_in_requests head texts line ≡ Some q → Takes (Asking head texts) line q
requests_take head texts line q fits e =
    let P : Progress → Type 0 = λ q. Takes (Asking head texts) line q in
    elim (chosen (bytes_eq line (codes "end")) _ _ (Some q) e) [
      | inl end ↦ subst P (same_Some _ _ end.1) (end_taken head texts line fits (same_bytes _ _ end.0))
      | inr other ↦
          elim (chosen (nat_lt (length texts) most_guests) _ _ (Some q) other.1) [
            | inl room ↦
                let read = map_some (λ (text : List ℕ). Asking head (texts ++ text ∷ [])) (request_in line) q room.1 in
                subst P read.2 (request_taken head texts line read.0 fits (ltb-true (length texts) most_guests room.0) read.1)
            | inr none ↦ cc none.1
          ]
    ]

pub line_takes : (p q : Progress) (line : List ℕ) → IsProgress p → after_line p line ≡ Some q → Takes p line q
line_takes Start q line fits e =
    let found = cond_some (bytes_eq line (codes "edge-batch 1")) Begun q e in
    subst (λ (q : Progress). Takes Start line q) found.1 (tt, ap (λ (l : List ℕ). l ∷ []) (sym (same_bytes _ _ found.0)))
line_takes Begun q line fits e = fuel_taken line q e
line_takes (Fuelled fuel) q line fits e = random_taken fuel line q fits e
line_takes (Drawn fuel random) q line fits e = limit_taken fuel random line q fits e
line_takes (Limited fuel random limit) q line fits e = workers_taken fuel random limit line q fits.0 fits.1 e
line_takes (Asking head texts) q line fits e = requests_take head texts line q fits e
line_takes (Over head texts) q line fits e = cc e

-- ---- each state whose requests are good has a finished file

-- the file of this head with nothing to do, on one worker
abbrev idle : ℕ → List ℕ → ℕ → Batch
idle fuel random limit = record { fuel = fuel; random = random; limit = limit; workers = 1; texts = [] }

idle_is : (fuel : ℕ) (random : List ℕ) (limit : ℕ) → fuel < 2 ^ 64 → IsRandom random → limit < 2 ^ 64 → IsGoodBatch (idle fuel random limit)
idle_is fuel random limit small drawn short = record {
  is = record { fuel = small; random = drawn; limit = short; some_workers = lit≤ tt; few_workers = lit≤ tt; few_requests = lit≤ tt; texts = tt };
  requests = tt;
}

counted_is : (head : Head) (texts : List (List ℕ)) → AreCounted head texts → AreGood (Over head texts) → IsGoodBatch (batch_with head texts)
counted_is head texts fits good = record {
  is = record {
    fuel = fits.head_is.fuel;
    random = fits.head_is.random;
    limit = fits.head_is.limit;
    some_workers = fits.head_is.some_workers;
    few_workers = fits.head_is.few_workers;
    few_requests = fits.few_requests;
    texts = fits.all_bytes;
  };
  requests = good;
}

-- the lines behind the head of a file with nothing to do
abbrev last_lines : List (List ℕ)
last_lines = workers_text 1 ∷ (codes "end" ∷ [])

pub begins_to : (p : Progress) → IsProgress p → AreGood p → Begins IsGoodBatch batch_lines (lines_to p)
begins_to Start fits good = record { value = idle 0 zeros 0; fits = idle_is 0 zeros 0 (lit< tt) zeros_are (lit< tt); rest = batch_lines (idle 0 zeros 0); begins = refl }
begins_to Begun fits good = record {
  value = idle 0 zeros 0;
  fits = idle_is 0 zeros 0 (lit< tt) zeros_are (lit< tt);
  rest = fuel_text 0 ∷ (random_text zeros ∷ (limit_text 0 ∷ last_lines));
  begins = refl;
}
begins_to (Fuelled fuel) fits good = record {
  value = idle fuel zeros 0;
  fits = idle_is fuel zeros 0 fits zeros_are (lit< tt);
  rest = random_text zeros ∷ (limit_text 0 ∷ last_lines);
  begins = refl;
}
begins_to (Drawn fuel random) fits good = record {
  value = idle fuel random 0;
  fits = idle_is fuel random 0 fits.fuel_fits fits.random_fits (lit< tt);
  rest = limit_text 0 ∷ last_lines;
  begins = refl;
}
begins_to (Limited fuel random limit) fits good = record {
  value = idle fuel random limit;
  fits = idle_is fuel random limit fits.0.fuel_fits fits.0.random_fits fits.1;
  rest = last_lines;
  begins = refl;
}
begins_to (Asking head texts) fits good = record {
  value = batch_with head texts;
  fits = counted_is head texts fits good;
  rest = codes "end" ∷ [];
  begins = sym (append_assoc (head_lines head) (map request_text texts) (codes "end" ∷ []));
}
begins_to (Over head texts) fits good = record {
  value = batch_with head texts;
  fits = counted_is head texts fits good;
  rest = [];
  begins = sym (append-nil (lines_to (Over head texts)));
}
