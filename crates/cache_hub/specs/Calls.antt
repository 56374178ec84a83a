-- What one call does to a pass of the hub.
use Rattle.std.specs.Prelude.{◌≡◌, ℕ, ◌+◌, ◌<◌, ◌^◌, ◌==◌, Bool, false, ◌&&◌, ◌||◌, not, List, [], length, Contains, IsTrue, Option, None, Some, Result, Ok, Err, if◌then◌else◌}
use mathlib.Core.List.{IsPrefix}
use Rattle.turnstile.specs.Standing.{of_family}
use Rattle.turnstile.specs.Log.{entries_of}
use Rattle.turnstile.specs.Pass.{TurnstileView, PassView, Stood, list_after, after_turn}
use Rattle.cache_types.specs.declared.calls.CacheCall.{CacheCall}
use Rattle.cache_types.specs.declared.calls.CacheCall.TheVariants.{Begin}
use Rattle.cache_types.specs.declared.entries.Entry.{Entry}
use Rattle.cache_types.specs.declared.entries.Stepped.{Stepped}
use Rattle.cache_types.specs.declared.entries.StepFault.{StepFault}
use Rattle.cache_types.specs.declared.entries.StepFault.TheVariants as step_fault
use Rattle.cache_types.specs.Entries.{newest_first, is_end, is_live, is_not_yet}
use Rattle.cache_types.specs.Legal.{IsLegal}
use Rattle.cache_types.specs.Step.{MayCall, stepped, entry_after, is_full, WouldAppend}

-- what holds of a cache between two turns
pub record IsSound (history : List Entry) : Type 0 where
  pub legal : IsLegal history
  pub room : length history < 2 ^ 64

-- a Begin opens a guest, and every other call is one of its guest's
abbrev pub joins : ℕ → CacheCall → Option ℕ
joins guest Begin = None
joins guest _ = Some guest

-- the guest's own entries
abbrev pub own_of : ℕ → List Entry → List Entry
own_of guest entries = of_family (λ (e : Entry). e.guest) guest entries

-- the entry that a call adds, if any
abbrev pub gained_by : Entry → Option Entry
gained_by e = if is_not_yet e.reply then None else Some e

-- a step that was made added an entry, unless its reply is NotYet
abbrev pub is_entry_of : Result Stepped StepFault → Bool
is_entry_of (Ok told) = not (is_not_yet told.reply)
is_entry_of (Err fault) = false

-- The step was made: it tells the one reply that stands there, and its entry was added, unless that is NotYet. Where it
-- was added there was room.
pub record IsReplied (most : ℕ) (history : List Entry) (guest reading : ℕ) (call : CacheCall) (told : Stepped) (gained : Option Entry) : Type 0 where
  pub reply : told ≡ stepped history guest reading call
  pub entry : gained ≡ gained_by (entry_after (newest_first history) guest reading call)
  pub room : IsTrue (is_not_yet told.reply || not (is_full (newest_first history) most call))

-- there was no room for the entry that the call would add
pub record IsRefused (most : ℕ) (history : List Entry) (guest reading : ℕ) (call : CacheCall) (gained : Option Entry) : Type 0 where
  pub full : IsTrue (is_full (newest_first history) most call)
  pub would_append : WouldAppend history guest reading call
  pub nothing : gained ≡ None

-- no memory was found, and the call is no End
pub record IsUnmade (call : CacheCall) (gained : Option Entry) : Type 0 where
  pub no_end : is_end call ≡ false
  pub nothing : gained ≡ None

-- what one step of a cache that stood for this history answers and adds
abbrev pub Gives : ℕ → List Entry → ℕ → ℕ → CacheCall → Result Stepped StepFault → Option Entry → Type 0
Gives most history guest reading call (Ok told) gained = IsReplied most history guest reading call told gained
Gives most history guest reading call (Err step_fault.Full) gained = IsRefused most history guest reading call gained
Gives most history guest reading call (Err step_fault.OutOfMemory) gained = IsUnmade call gained

-- the same, and the list stays legal
pub record GivesLegal (most : ℕ) (history : List Entry) (guest reading : ℕ) (call : CacheCall) (answer : Result Stepped StepFault) (gained : Option Entry) : Type 0 where
  pub gives : Gives most history guest reading call answer gained
  pub legal : IsLegal (list_after history gained)

-- the guest's Begin is among these
abbrev pub IsOpener : List (ℕ × Entry) → ℕ → Type 0
IsOpener mine guest = (opener : Entry) × Contains mine (guest, opener) × (opener.guest ≡ guest)

module _ {T : Type 0} where
  -- what a call asks: a Begin is made for 0, and every other call for a live guest that began through this pass
  abbrev pub MayAsk : PassView T Entry → ℕ → CacheCall → Type 0
  MayAsk pass guest Begin = MayCall [] guest Begin
  MayAsk pass guest call = IsOpener pass.mine guest × MayCall (own_of guest (entries_of pass.mine)) guest call

  -- the guest began through this pass, and by its own entries it is live
  pub record HasGuest (pass : PassView T Entry) (guest : ℕ) : Type 0 where
    pub opener : IsOpener pass.mine guest
    pub live : IsTrue (is_live (newest_first (own_of guest (entries_of pass.mine))) guest)

  -- the guests of the pass stay its guests, but for one whose End this was
  abbrev pub KeepsGuests : PassView T Entry → ℕ → CacheCall → PassView T Entry → Type 0
  KeepsGuests before guest call after = (other : ℕ) → HasGuest before other → (is_end call && guest == other) ≡ false → HasGuest after other

  -- a Begin that was answered makes a guest of the pass
  abbrev pub MakesGuest : CacheCall → Stepped → PassView T Entry → Type 0
  MakesGuest call told after = call ≡ Begin → HasGuest after told.number

  -- One step was made: the cache stood for this list, which goes on from what the pass had seen. What it added, if any,
  -- is what the pass gained, under its number; where it added nothing the pass had one idle turn.
  pub record Tried (most : ℕ) (before : PassView T Entry) (guest reading : ℕ) (call : CacheCall) (answer : Result Stepped StepFault) (after : PassView T Entry) : Type 0 where
    pub list : List Entry
    pub gained : Option Entry
    pub legal : IsLegal list
    pub longer : IsPrefix before.seen list
    pub gives : Gives most list guest reading call answer gained
    pub result : after ≡ after_turn before (1 + length list) list gained
    pub stays : IsLegal after.seen

  -- all entries of a guest that began through the pass are among its own
  abbrev pub HasWhole : PassView T Entry → Type 0
  HasWhole pass = (guest : ℕ) → IsOpener pass.mine guest → own_of guest (entries_of pass.mine) ≡ own_of guest pass.seen

  -- There is one list of all entries, each made by one maker: the pass has seen its beginning, and its own entries are
  -- those of one maker there.
  abbrev pub HasShare : (T → List Entry) → TurnstileView T → PassView T Entry → Type 0
  HasShare history hub pass = Stood history (λ _. 1) (λ (e : Entry). e.guest) hub pass
