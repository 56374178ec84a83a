-- A batch file: the fuel and the random bytes of guests, how long each may take, on how many workers they run, and a request
-- for each.
use Rattle.std.specs.Prelude.{◌≡◌, ◌<◌, ◌≤◌, ◌^◌, ℕ, List, [], ◌∷◌, ◌++◌, length, decimal, codes, map}
use Rattle.edge_words.specs.Words.{text_of}
use Rattle.run_files.specs.Run.{most_guests}
use Rattle.play_files.specs.Play.{named_line, fuel_text, random_text, request_text, IsRandom, AreBytes}
use Rattle.play_files.specs.Requests.{AreRequestTexts, AreRequests}
use Rattle.batch_files.specs.declared.batch.BatchFile.{BatchFile}

-- what a batch file says, with each request by its text
pub record Batch : Type 0 where
  pub fuel : ℕ
  pub random : List ℕ
  pub limit : ℕ
  pub workers : ℕ
  pub texts : List (List ℕ)

-- ---- spelling

abbrev pub limit_text : ℕ → List ℕ
limit_text limit = named_line (codes "limit") (decimal limit)

abbrev pub workers_text : ℕ → List ℕ
workers_text workers = named_line (codes "workers") (decimal workers)

-- the lines of a batch file
abbrev pub batch_lines : Batch → List (List ℕ)
batch_lines batch =
    codes "edge-batch 1" ∷ (fuel_text batch.fuel ∷ (random_text batch.random ∷ (limit_text batch.limit ∷ (workers_text batch.workers
    ∷ (map request_text batch.texts ++ codes "end" ∷ [])))))

unfoldable pub batch_text : Batch → List ℕ
batch_text batch = text_of (batch_lines batch)

-- ---- what has a spelling

-- how many workers there may be
abbrev pub most_workers : ℕ
most_workers = 16

-- what has a batch file, whose size is a limit of its own, and whatever the bytes of its requests are
pub record IsBatch (batch : Batch) : Type 0 where
  pub fuel : batch.fuel < 2 ^ 64
  pub random : IsRandom batch.random
  pub limit : batch.limit < 2 ^ 64
  pub some_workers : 1 ≤ batch.workers
  pub few_workers : batch.workers ≤ most_workers
  pub few_requests : length batch.texts ≤ most_guests
  pub texts : AreBytes batch.texts

-- and each text is one request
pub record IsGoodBatch (batch : Batch) : Type 0 where
  pub is : IsBatch batch
  pub requests : AreRequestTexts batch.texts

-- ---- what was read

-- what a file says, with these texts of its requests
abbrev pub said_in : BatchFile → List (List ℕ) → Batch
said_in file texts = record { fuel = file.fuel; random = file.random; limit = file.limit; workers = file.workers; texts = texts }

-- the bytes are a batch file that says this
pub record IsBatchFile (bytes : List ℕ) (file : BatchFile) : Type 0 where
  pub texts : List (List ℕ)
  pub requests : AreRequests texts file.requests
  pub is : IsBatch (said_in file texts)
  pub spelled : bytes ≡ batch_text (said_in file texts)
