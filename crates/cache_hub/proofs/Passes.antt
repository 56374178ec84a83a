-- What a turn of the turnstile tells a pass of the hub.
use Rattle.std.proofs.Common.{◌≡◌, ℕ, ◌+◌, List, IfOk, IfErr, Option, Result, Ok, Err, sym, ap, subst}
use Rattle.turnstile.specs.Log.{IsShare}
use Rattle.turnstile.specs.Pass.{TurnstileView, PassView, Served, both_passes}
use Rattle.turnstile.specs.declared.turnstile.Busy.{Busy}
use Rattle.turnstile.proofs.Passes.{whole_family}
use Rattle.cache_types.specs.declared.entries.Entry.{Entry}
use Rattle.cache_types.specs.declared.calls.CacheCall.{CacheCall}
use Rattle.cache_types.specs.declared.entries.Stepped.{Stepped}
use Rattle.cache_types.specs.declared.entries.StepFault.{StepFault}
use Rattle.cache_types.specs.declared.entries.StepFault.TheVariants as step_fault
use Rattle.cache_hub.specs.Calls.{IsSound, joins, Gives, GivesLegal, Tried, HasWhole}
use Rattle.cache_types.specs.Legal.{IsLegal}
use Rattle.cache_hub.specs.Hub.{told_of, Called, AreApart}
use Rattle.cache_hub.proofs.Apart.{apart}

-- all entries of a family that was opened through the pass are its own
pub whole : {T : Type 0} (base : List Entry) (n : ℕ) (pass : PassView T Entry) → IsShare base n (λ e. e.guest) pass.seen pass.mine → HasWhole pass
whole base n pass share guest opens = whole_family base n (λ e. e.guest) pass.seen pass.mine guest opens.0 share opens.1

module _ {S J : Type 0} (most : S → ℕ) (history : S → List Entry) (gives : S → J → Result Stepped StepFault → Option Entry → Type 0) (hub : TurnstileView S) (before after : PassView S Entry) (guest reading : ℕ) (call : CacheCall) (job : J) where
  abbrev WasServed : Result Stepped StepFault → Type 0
  WasServed answer = Served most (λ _. 1) history (λ s. IsSound (history s)) (λ (e : Entry). e.guest) (joins guest call) gives hub before job answer after

  abbrev AreGiven : Type 0
  AreGiven = (s : S) (answer : Result Stepped StepFault) (gained : Option Entry) → gives s job answer gained → GivesLegal (most s) (history s) guest reading call answer gained

  -- a served job is one step
  pub tried : (answer : Result Stepped StepFault) → AreGiven → WasServed answer → Tried (most hub.start) before guest reading call answer after
  tried answer given s =
      record {
        list = history s.value;
        gained = s.gained;
        legal = s.fit.is_sound.legal;
        longer = s.longer;
        gives = subst (λ (m : ℕ). Gives m (history s.value) guest reading call answer s.gained) s.fit.same_setting (given s.value answer s.gained s.given).gives;
        result = s.result;
        stays = subst IsLegal (sym (ap (λ (p : PassView S Entry). p.seen) s.result)) (given s.value answer s.gained s.given).legal;
      }

  -- one try of a turn is one call
  pub called : (answer : Result (Result Stepped StepFault) Busy) → AreGiven → IfOk answer WasServed → IfErr answer (λ _. after ≡ record before { lost = before.lost + 1 })
      → Called (most hub.start) before guest reading call (told_of answer) after
  called (Ok (Ok told)) given served busy = tried (Ok told) given served
  called (Ok (Err step_fault.Full)) given served busy = tried (Err step_fault.Full) given served
  called (Ok (Err step_fault.OutOfMemory)) given served busy = tried (Err step_fault.OutOfMemory) given served
  called (Err refused) given served busy = busy

-- what two passes made before they were rejoined has no number in common
pub made_apart : {T : Type 0} (base : List Entry) (n : ℕ) (one other both : PassView T Entry) → both ≡ both_passes one other → IsShare base n (λ (e : Entry). e.guest) both.seen both.mine → AreApart one.mine other.mine
made_apart {T} base n one other both is share = apart share.seat n share.log one.mine other.mine both.mine (ap (λ (p : PassView T Entry). p.mine) is) share.made
