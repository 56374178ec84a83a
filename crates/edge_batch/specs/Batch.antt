-- What all workers of a batch did, in the one history.
use Rattle.std.specs.Prelude.{ℕ, List, All}
use Rattle.turnstile.specs.Log.{numbered}
use Rattle.cache_types.specs.declared.entries.Entry.{Entry}
use Rattle.cache_types.specs.declared.outer.Done.{Done}
use Rattle.cache_types.specs.Legal.{IsLegal}
use Rattle.player.specs.Plays.{Program}
use Rattle.edge_batch.specs.Blocks.{Joint, IsTimedIn, AreBlocks, Differ, HasBlock}

-- all workers together, once the history is whole: each of its entries was made through one of their passes
abbrev pub whole : List Entry → List (List ℕ) → Joint
whole history clocks = record { seen = history; mine = numbered 1 history; clocks = clocks }

-- One legal history; a block for each request, with indexes that rise from 1, whose calls are a run of the request's program
-- or are cut for a stated cause, and on the cache are exactly the entries of its guest; no guest has two blocks; each entry
-- is of a block's guest, and was made at a reading that one of the clocks gave.
pub record IsBatch {R : Type 0} (most limit : ℕ) (Began : ℕ → R → Program → Type 0) (requests : List R) (history : List Entry) (clocks : List (List ℕ)) (blocks : List Done) : Type 0 where
  pub legal : IsLegal history
  pub each : AreBlocks most limit Began (whole history clocks) 1 requests blocks
  pub differ : Differ blocks
  pub covered : All (λ (e : Entry). HasBlock blocks e.guest) history
  pub timed : All (IsTimedIn (whole history clocks)) (numbered 1 history)
