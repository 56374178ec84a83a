-- The machine takes each batch file, whose lines have no line feed in them.
use Rattle.std.proofs.Common.{◌≡◌, ◌<◌, ◌≤◌, ◌+◌, ℕ, true, List, [], ◌∷◌, ◌++◌, length, refl, sym, ◌∙◌, ap, Option, Some, arith, append_assoc, append-nil, length-append, map}
use Rattle.std.specs.Prelude.{codes}
use Rattle.std.specs.List.{list_all}
use Rattle.std.proofs.lemmas.List.Folds.{list_all-append}
use Rattle.hex.specs.Hex.{IsBytes}
use Rattle.edge_words.specs.Reading.{◌>>=◌}
use Rattle.edge_words.proofs.Lines.{lacks}
use Rattle.line_reader.specs.ByLines.{after_all}
use Rattle.play_files.specs.Play.{fuel_text, random_text, request_text, AreBytes}
use Rattle.play_files.proofs.Lines.{fuel_law, random_law, request_law}
use Rattle.play_files.proofs.Again.{requests_feed}
use Rattle.batch_files.specs.declared.machine.Head.{Head}
use Rattle.batch_files.specs.Batch.{Batch, limit_text, workers_text, batch_lines, IsBatch}
use Rattle.batch_files.specs.Machine.{Progress, Start, Asking, Over, head_of, machine}
use Rattle.batch_files.proofs.Lines.{limit_law, workers_law, no_request}
use Rattle.batch_files.proofs.Goes.{request_leads}

-- ---- requests

request_goes : (head : Head) (done : List (List ℕ)) (text : List ℕ) (lines : List (List ℕ)) → length done < 1000 → IsBytes text → after_all machine (Asking head done) (request_text text ∷ lines) ≡ after_all machine (Asking head (done ++ text ∷ [])) lines
request_goes head done text lines room fits =
    let goes = request_leads head done (request_text text) text (no_request text fits) room (request_law.again text fits) in
    ap (λ (o : Option Progress). o >>= λ p. after_all machine p lines) goes

requests_go : (head : Head) (done texts : List (List ℕ)) → length done + length texts ≤ 1000 → AreBytes texts → after_all machine (Asking head done) (map request_text texts ++ codes "end" ∷ []) ≡ Some (Over head (done ++ texts))
requests_go head done [] room fits = ap (λ (ts : List (List ℕ)). Some (Over head ts)) (sym (append-nil done))
requests_go head done (text ∷ texts) room fits =
    let more = length-append done (text ∷ []) in
    request_goes head done text (map request_text texts ++ codes "end" ∷ []) (omega arith) fits.0
    ∙ requests_go head (done ++ text ∷ []) texts (omega (arith, more)) fits.1
    ∙ ap (λ (ts : List (List ℕ)). Some (Over head ts)) (append_assoc done (text ∷ []) texts)

-- ---- all lines

head_goes : (batch : Batch) (rest : List (List ℕ)) → IsBatch batch
    → after_all machine Start (codes "edge-batch 1" ∷ (fuel_text batch.fuel ∷ (random_text batch.random ∷ (limit_text batch.limit ∷ (workers_text batch.workers ∷ rest))))) ≡ after_all machine (Asking (head_of batch.fuel batch.random batch.limit batch.workers) []) rest
head_goes batch rest fits =
    rw (
      fuel_law.again batch.fuel fits.fuel,
      random_law.again batch.random fits.random,
      limit_law.again batch.limit fits.limit,
      workers_law.again batch.workers (fits.some_workers, fits.few_workers),
    ) refl

pub batch_goes : (batch : Batch) → IsBatch batch → after_all machine Start (batch_lines batch) ≡ Some (Over (head_of batch.fuel batch.random batch.limit batch.workers) batch.texts)
batch_goes batch fits =
    head_goes batch (map request_text batch.texts ++ codes "end" ∷ []) fits
    ∙ requests_go (head_of batch.fuel batch.random batch.limit batch.workers) [] batch.texts (omega (arith, fits.few_requests)) fits.texts

-- ---- line feeds

pub batch_feed : (batch : Batch) → IsBatch batch → list_all (lacks 10) (batch_lines batch) ≡ true
batch_feed batch fits =
    rw (
      fuel_law.feed batch.fuel fits.fuel,
      random_law.feed batch.random fits.random,
      limit_law.feed batch.limit fits.limit,
      workers_law.feed batch.workers (fits.some_workers, fits.few_workers),
      list_all-append (lacks 10) (map request_text batch.texts) (codes "end" ∷ []),
      requests_feed batch.texts fits.texts,
    ) refl
