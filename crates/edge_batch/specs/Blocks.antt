-- The blocks of guests that ran on workers, by what these workers have together.
use Rattle.std.specs.Prelude.{◌≡◌, ◌⊎◌, ℕ, ◌+◌, ◌<◌, List, [], ◌∷◌, ◌++◌, All, Contains, IsTrue, IfSome, Option}
use Rattle.turnstile.specs.Pass.{PassView}
use Rattle.cache_types.specs.declared.entries.Entry.{Entry}
use Rattle.cache_types.specs.declared.outer.Done.{Done}
use Rattle.cache_types.specs.declared.outer.Outcome.{Outcome}
use Rattle.cache_types.specs.declared.outer.Outcome.TheVariants.{OutOfMemory}
use Rattle.cache_types.specs.Entries.{newest_first, has_ended}
use Rattle.cache_types.specs.Legal.{IsLegal}
use Rattle.cache_hub.specs.Calls.{IsOpener}
use Rattle.player.specs.Plays.{Program, Answered, events_of}
use Rattle.player.specs.Runs.{are_answers}
use Rattle.edge_work.specs.Outside.{IsTimed, told_in, AreAmong, IsUnlinked, IsCause}
use Rattle.edge_work.specs.Work.{HasEnd, IsRunOf, IsAsked, IsTied}

-- what some workers have together: the history as far as they saw it, the entries made through their passes, and the
-- readings of each one's clock
pub record Joint : Type 0 where
  pub seen : List Entry
  pub mine : List (ℕ × Entry)
  pub clocks : List (List ℕ)

-- what they have by their one pass, once theirs are rejoined
abbrev pub joint_with : {T : Type 0} → PassView T Entry → List (List ℕ) → Joint
joint_with pass clocks = record { seen = pass.seen; mine = pass.mine; clocks = clocks }

-- what one worker has
abbrev pub joint_of : {T : Type 0} → PassView T Entry → List ℕ → Joint
joint_of pass readings = joint_with pass (readings ∷ [])

-- one clock gave these readings, one behind another
pub record IsRead (clocks : List (List ℕ)) (own : List ℕ) : Type 0 where
  pub clock : List ℕ
  pub of : Contains clocks clock
  pub before : List ℕ
  pub after : List ℕ
  pub part : clock ≡ before ++ (own ++ after)

-- the entry stands in the history under its number, and was made at a reading of one of the clocks
pub record IsTimedIn (j : Joint) (x : ℕ × Entry) : Type 0 where
  pub clock : List ℕ
  pub of : Contains j.clocks clock
  pub timed : IsTimed j.seen clock x

-- a guest that began, made its End, and whose calls on the cache are exactly its entries
pub record IsGuest (j : Joint) (trace : List Answered) (guest : ℕ) : Type 0 where
  pub positive : 0 < guest
  pub opener : IsOpener j.mine guest
  pub tied : IsTied j.seen guest trace
  pub ends : HasEnd trace
  pub ended : IsTrue (has_ended (newest_first j.seen) guest)

-- The block of a guest that ran: its calls are a run of its program, or are cut for a stated cause; what it was told of the
-- clock are readings of one clock, in order.
pub record HasRun (most limit : ℕ) (Began : Program → Type 0) (j : Joint) (index : ℕ) (done : Done) : Type 0 where
  pub trace : List Answered
  pub before : List Answered
  pub stopped : Option Outcome
  pub first : ℕ
  pub later : List ℕ
  pub index_is : done.index ≡ index
  pub events_are : done.trace ≡ events_of trace
  pub answers : IsTrue (are_answers trace)
  pub unlinked : All (λ (a : Answered). IsUnlinked a.call a.reply) trace
  pub runs : (next : Program) → Began next → IsRunOf next before trace stopped done.outcome
  pub cause : IfSome stopped (IsCause most first limit later j.seen (IsAsked Began before) ⊥)
  pub read : IsRead j.clocks (first ∷ later)
  pub told : AreAmong (told_in trace) later
  pub guest : ((done.guest ≡ 0) × (trace ≡ [])) ⊎ IsGuest j trace done.guest

-- the block of a guest for which no memory was found
abbrev pub unmade : ℕ → Done
unmade index = record { index = index; guest = 0; trace = []; outcome = OutOfMemory }

abbrev pub IsBlock : ℕ → ℕ → (Program → Type 0) → Joint → ℕ → Done → Type 0
IsBlock most limit Began j index done = (done ≡ unmade index) ⊎ HasRun most limit Began j index done

-- one block for each request, with indexes that rise by one; `Began` says which programs a request's guest may have
abbrev pub AreBlocks : {R : Type 0} → ℕ → ℕ → (ℕ → R → Program → Type 0) → Joint → ℕ → List R → List Done → Type 0
AreBlocks most limit Began j index [] [] = Unit {0}
AreBlocks most limit Began j index (request ∷ requests) (done ∷ blocks) = IsBlock most limit (Began index request) j index done × AreBlocks most limit Began j (index + 1) requests blocks
AreBlocks most limit Began j index _ _ = ⊥

-- guests other than 0 differ
abbrev pub Differ : List Done → Type 0
Differ [] = Unit {0}
Differ (done ∷ blocks) = All (λ (other : Done). done.guest ≡ other.guest → done.guest ≡ 0) blocks × Differ blocks

-- the guest has a block
abbrev pub HasBlock : List Done → ℕ → Type 0
HasBlock blocks guest = (done : Done) × Contains blocks done × (done.guest ≡ guest)

-- What some workers did: a block for each of their requests; no guest has two; each entry that was made through their passes
-- is one of a block's guest, and was made at a reading of one of their clocks.
pub record Worked {R : Type 0} (most limit : ℕ) (Began : ℕ → R → Program → Type 0) (j : Joint) (index : ℕ) (requests : List R) (blocks : List Done) : Type 0 where
  pub legal : IsLegal j.seen
  pub each : AreBlocks most limit Began j index requests blocks
  pub differ : Differ blocks
  pub covered : All (λ (x : ℕ × Entry). HasBlock blocks x.1.guest) j.mine
  pub timed : All (IsTimedIn j) j.mine
