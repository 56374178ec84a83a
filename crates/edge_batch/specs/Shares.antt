-- What one worker does.
use Rattle.std.specs.Prelude.{◌≡◌, ◌≤◌, ◌<◌, ◌+◌, ◌^◌, ℕ, List, [], ◌∷◌, ◌++◌, length, All, Option, Some}
use mathlib.Core.List.{IsPrefix}
use Rattle.turnstile.specs.Pass.{TurnstileView, PassView, IsOf, IsSamePass}
use Rattle.cache_types.specs.declared.entries.Entry.{Entry}
use Rattle.cache_types.specs.declared.outer.Done.{Done}
use Rattle.cache_types.specs.Legal.{IsLegal}
use Rattle.cache_hub.specs.Calls.{HasWhole}
use Rattle.player.specs.Plays.{Program}
use Rattle.edge_work.specs.Outside.{IsTimed}
use Rattle.edge_batch.specs.Blocks.{joint_of, IsBlock, Worked}

-- One request was worked off: its block, the entries that the pass gained, all of its guest, and the readings of the clock.
pub record WorkedRequest {T C : Type 0} (Reads : C → List ℕ → C → Type 0) (Began : Program → Type 0) (most limit index : ℕ) (old new : PassView T Entry) (clock clock' : C) (done : Done) : Type 0 where
  pub gained : List (ℕ × Entry)
  pub readings : List ℕ
  pub mine : new.mine ≡ old.mine ++ gained
  pub longer : IsPrefix old.seen new.seen
  pub legal : IsLegal old.seen → IsLegal new.seen
  pub read : Reads clock readings clock'
  pub of_guest : All (λ (x : ℕ × Entry). x.1.guest ≡ done.guest) gained
  pub timed : All (IsTimed new.seen readings) gained
  pub block : IsBlock most limit Began (record { seen = new.seen; mine = gained; clocks = readings ∷ [] }) index done

-- a pass that a worker may begin with: nothing was made through it yet
pub record IsUnused {T : Type 0} (hub : TurnstileView T) (pass : PassView T Entry) : Type 0 where
  pub own : IsOf hub pass
  pub whole : HasWhole pass
  pub nothing : pass.mine ≡ []
  pub legal : IsLegal pass.seen

-- a share was worked off, with these readings of the worker's clock
pub record WorkedShare {T C R : Type 0} (Reads : C → List ℕ → C → Type 0) (Began : ℕ → R → Program → Type 0) (most limit first : ℕ) (requests : List R) (old new : PassView T Entry) (clock clock' : C) (blocks : List Done) : Type 0 where
  pub same : IsSamePass old new
  pub whole : HasWhole new
  pub longer : IsPrefix old.seen new.seen
  pub readings : List ℕ
  pub read : Reads clock readings clock'
  pub worked : Worked most limit Began (joint_of new readings) first requests blocks

-- a share that may be begun: its indexes fit, and there is room for its blocks, of which none stands yet
pub record IsReady {R : Type 0} (first : ℕ) (requests : List R) (capacity : ℕ) (blocks : List Done) : Type 0 where
  pub fits : first + length requests < 2 ^ 64
  pub room : length requests ≤ capacity
  pub none : blocks ≡ []

-- the worker had a pass, and has one that this was done with
abbrev pub PassWorked : {T : Type 0} → (PassView T Entry → PassView T Entry → Type 0) → Option (PassView T Entry) → Option (PassView T Entry) → Type 0
PassWorked Work (Some before) (Some after) = Work before after
PassWorked Work _ _ = ⊥
