-- A worker's share, one request after another.
use Rattle.std.proofs.Common.{◌≡◌, ℕ, ◌+◌, List, [], ◌∷◌, ◌++◌, length, refl, ◌∙◌, append-nil}
use Rattle.std.specs.Prelude.{Option}
use Rattle.turnstile.specs.Pass.{TurnstileView, PassView, IsOf, IsSamePass}
use Rattle.cache_types.specs.declared.entries.Entry.{Entry}
use Rattle.cache_types.specs.declared.outer.Done.{Done}
use Rattle.cache_hub.specs.Calls.{HasWhole}
use Rattle.cache_hub.proofs.Waits.{prefix_on}
use Rattle.edge_outside.specs.Made.{made_none}
use Rattle.edge_outside.specs.Clock.{ClockContent, IsReading, AreReadings}
use Rattle.edge_work.proofs.Lists.{readings_both}
use Rattle.player.specs.Plays.{Program}
use Rattle.edge_batch.specs.Shares.{WorkedRequest, IsUnused, WorkedShare}
use Rattle.edge_batch.proofs.Pushed.{worked_none, pushed}

pub same_of : {T : Type 0} (hub : TurnstileView T) (old new : PassView T Entry) → IsOf hub old → IsSamePass old new → IsOf hub new
same_of hub old new own same = (same.0 ∙ own.0, same.1 ∙ own.1)

pub no_readings : {C : Type 0} (reads : C → ℕ → C → Type 0) (content : C → Option ClockContent) (clock : C) → AreReadings reads content clock [] clock
no_readings reads content clock = made_none (IsReading reads content) clock

module _ {T C R : Type 0} (reads : C → ℕ → C → Type 0) (content : C → Option ClockContent) (Began : ℕ → R → Program → Type 0) where
  pub share_begun : (most limit first : ℕ) (hub : TurnstileView T) (pass : PassView T Entry) (clock : C) → IsUnused hub pass → WorkedShare (AreReadings reads content) Began most limit first [] pass pass clock clock []
  share_begun most limit first hub pass clock unused = record {
    same = (refl, refl, refl);
    whole = unused.whole;
    longer = ([], append-nil pass.seen);
    readings = [];
    read = no_readings reads content clock;
    worked = worked_none most limit Began pass.seen pass.mine ([] ∷ []) first unused.nothing unused.legal;
  }

  pub share_more : (most limit first index : ℕ) (requests : List R) (request : R) (old mid new : PassView T Entry) (clock clock1 clock2 : C) (blocks : List Done) (done : Done) → index ≡ first + length requests
      → WorkedShare (AreReadings reads content) Began most limit first requests old mid clock clock1 blocks → IsSamePass mid new → HasWhole new → WorkedRequest (AreReadings reads content) (Began index request) most limit index mid new clock1 clock2 done
      → WorkedShare (AreReadings reads content) Began most limit first (requests ++ request ∷ []) old new clock clock2 (blocks ++ done ∷ [])
  share_more most limit first index requests request old mid new clock clock1 clock2 blocks done at s same whole w = record {
    same = (same.0 ∙ s.same.0, same.1 ∙ s.same.1, same.2 ∙ s.same.2);
    whole = whole;
    longer = prefix_on old.seen mid.seen new.seen s.longer w.longer;
    readings = s.readings ++ w.readings;
    read = readings_both reads content clock s.readings clock1 w.readings clock2 s.read w.read;
    worked = pushed most limit Began (AreReadings reads content) mid new clock1 clock2 s.readings first index requests request blocks done s.whole whole at s.worked w;
  }
