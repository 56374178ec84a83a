-- Tries that came to nothing, one after another.
use Rattle.std.proofs.Common.{◌≡◌, ℕ, ◌+◌, ◌<◌, Bool, true, false, true≢false, not, List, [], ◌∷◌, ◌++◌, length, Contains, IsTrue, IfOk, IsOk, Option, None, Some, Result, Ok, Err, if◌then◌else◌, refl, sym, ap, ◌∙◌, subst, arith, append_assoc}
use mathlib.Core.List.{IsPrefix}
use Rattle.std.proofs.lemmas.List.Elements.{All-push, All-nil, Contains-append_left, Contains-append_right}
use Rattle.std.proofs.lemmas.List.{length-append, append-nil}
use Rattle.std.proofs.lemmas.Option.{none-some}
use Rattle.turnstile.proofs.Lists.{same_some}
use Rattle.turnstile.specs.Pass.{PassView, after_turn}
use Rattle.cache_types.specs.declared.calls.CacheCall.{CacheCall}
use Rattle.cache_types.specs.declared.calls.CacheCall.TheVariants.{Begin, End}
use Rattle.cache_types.specs.declared.entries.Entry.{Entry}
use Rattle.cache_types.specs.declared.entries.Stepped.{Stepped}
use Rattle.cache_types.specs.declared.entries.StepFault.{StepFault}
use Rattle.cache_types.specs.declared.entries.StepFault.TheVariants as step_fault
use Rattle.cache_types.specs.declared.replies.Reply.TheVariants.{NotYet, Done}
use Rattle.cache_types.specs.Entries.{newest_first, is_not_yet}
use Rattle.cache_types.specs.Legal.{IsLegal}
use Rattle.cache_types.specs.Step.{told, entry_after, reply_after}
use Rattle.cache_hub.specs.declared.faults.CallFault.{CallFault}
use Rattle.cache_hub.specs.declared.faults.CallFault.TheVariants as call_fault
use Rattle.cache_hub.specs.declared.faults.UntilFault.{UntilFault}
use Rattle.cache_hub.specs.declared.faults.UntilFault.TheVariants as until_fault
use Rattle.cache_hub.specs.Calls.{Tried, MayAsk, gained_by}
use Rattle.cache_hub.specs.Hub.{Called}
use Rattle.cache_hub.specs.Until.{settled_of, Waited, Ended, HasEnded}

abbrev told_by : Entry → Bool → Stepped
told_by e b = if b then record { number = 0; reply = NotYet } else record { number = e.number; reply = e.reply }

-- the reply that is told is the entry's
pub told_reply : (e : Entry) → is_not_yet (told e).reply ≡ is_not_yet e.reply
told_reply e = by (is_not_yet e.reply) refl
  where
    by : (b : Bool) → is_not_yet e.reply ≡ b → is_not_yet (told e).reply ≡ is_not_yet e.reply
    by true is = ap (λ (c : Bool). is_not_yet (told_by e c).reply) is ∙ sym is
    by false is = ap (λ (c : Bool). is_not_yet (told_by e c).reply) is

pub prefix_on : {A : Type 0} (xs ys zs : List A) → IsPrefix xs ys → IsPrefix ys zs → IsPrefix xs zs
prefix_on xs ys zs a b = (a.0 ++ b.0, sym (append_assoc xs a.0 b.0) ∙ (ap (λ l. l ++ b.0) a.1 ∙ b.1))

module _ {T : Type 0} (before : PassView T Entry) (guest deadline : ℕ) (call : CacheCall) where
  abbrev later : PassView T Entry → List Entry → ℕ → ℕ → PassView T Entry
  later p seen lost idle = record p { seen = seen; lost = lost; idle = idle }

  pub waited_none : Waited before guest deadline call [] before
  waited_none =
      let l0 : before.lost ≡ before.lost + 0 = omega arith in
      let i0 : before.idle ≡ before.idle + 0 = omega arith in
      record {
        lost = 0;
        idle = 0;
        result = ap (λ n. later before before.seen n before.idle) l0 ∙ ap (λ n. later before before.seen (before.lost + 0) n) i0;
        longer = ([], append-nil before.seen);
        legal = λ l. l;
        count = refl;
        early = All-nil (λ r. r < deadline);
        unanswered = λ some. absurd (omega arith);
      }

  last_in : (xs : List ℕ) (r : ℕ) → Contains (xs ++ r ∷ []) r
  last_in xs r = Contains-append_right xs (r ∷ []) r (0, omega arith, refl)

  waited_busy : (readings : List ℕ) (between next : PassView T Entry) (r : ℕ) → r < deadline → Waited before guest deadline call readings between → next ≡ record between { lost = between.lost + 1 }
      → Waited before guest deadline call (readings ++ r ∷ []) next
  waited_busy readings between next r soon w is =
      let seen' : next.seen ≡ between.seen = ap (λ (p : PassView T Entry). p.seen) is in
      let sum : (before.lost + w.lost) + 1 ≡ before.lost + (w.lost + 1) = omega arith in
      let same : next ≡ later before between.seen (before.lost + (w.lost + 1)) (before.idle + w.idle) =
      is ∙ (ap (λ (p : PassView T Entry). record p { lost = p.lost + 1 }) w.result ∙ ap (λ n. later before between.seen n (before.idle + w.idle)) sum) in
      record {
        lost = w.lost + 1;
        idle = w.idle;
        result = same ∙ ap (λ l. later before l (before.lost + (w.lost + 1)) (before.idle + w.idle)) (sym seen');
        longer = subst (IsPrefix before.seen) (sym seen') w.longer;
        legal = λ l. subst IsLegal (sym seen') (w.legal l);
        count = length-append readings (r ∷ []) ∙ (let c = w.count in omega arith);
        early = All-push (λ r. r < deadline) readings r w.early soon;
        unanswered = λ some. let u = w.unanswered some in
            (u.0, Contains-append_left readings (r ∷ []) u.0 u.1, subst (λ (l : List Entry). IsTrue (is_not_yet (reply_after (newest_first l) guest u.0 call))) (sym seen') u.2);
      }

  no_gain : (e : Entry) (gained : Option Entry) → gained ≡ gained_by e → is_not_yet e.reply ≡ true → gained ≡ None
  no_gain e gained is idle = is ∙ ap (λ (b : Bool). if b then None else Some e) idle

  waited_idle : (most : ℕ) (readings : List ℕ) (between next : PassView T Entry) (r : ℕ) (t : Stepped) → r < deadline → Waited before guest deadline call readings between → Tried most between guest r call (Ok t) next
      → is_not_yet t.reply ≡ true → Waited before guest deadline call (readings ++ r ∷ []) next
  waited_idle most readings between next r t soon w tried idle =
      let e = entry_after (newest_first tried.list) guest r call in
      let no_reply : is_not_yet e.reply ≡ true = sym (told_reply e) ∙ (ap (λ (s : Stepped). is_not_yet s.reply) (sym tried.gives.reply) ∙ idle) in
      let none = no_gain e tried.gained tried.gives.entry no_reply in
      let is : next ≡ record between { seen = tried.list; idle = between.idle + 1 } = tried.result ∙ ap (λ (x : Option Entry). after_turn between (1 + length tried.list) tried.list x) none in
      let seen' : next.seen ≡ tried.list = ap (λ (p : PassView T Entry). p.seen) is in
      let sum : (before.idle + w.idle) + 1 ≡ before.idle + (w.idle + 1) = omega arith in
      let same : next ≡ later before tried.list (before.lost + w.lost) (before.idle + (w.idle + 1)) =
      is ∙ (ap (λ (p : PassView T Entry). record p { seen = tried.list; idle = p.idle + 1 }) w.result ∙ ap (λ n. later before tried.list (before.lost + w.lost) n) sum) in
      record {
        lost = w.lost;
        idle = w.idle + 1;
        result = same ∙ ap (λ l. later before l (before.lost + w.lost) (before.idle + (w.idle + 1))) (sym seen');
        longer = subst (IsPrefix before.seen) (sym seen') (prefix_on before.seen between.seen tried.list w.longer tried.longer);
        legal = λ _. tried.stays;
        count = length-append readings (r ∷ []) ∙ (let c = w.count in omega arith);
        early = All-push (λ r. r < deadline) readings r w.early soon;
        unanswered = λ some. (r, last_in readings r, subst (λ (l : List Entry). IsTrue (is_not_yet (reply_after (newest_first l) guest r call))) (sym seen') no_reply);
      }

  -- one more try that came to nothing
  pub waited_more : (most : ℕ) (readings : List ℕ) (between next : PassView T Entry) (r : ℕ) (answer : Result Stepped CallFault) → r < deadline → Waited before guest deadline call readings between
      → Called most between guest r call answer next → settled_of answer ≡ None → Waited before guest deadline call (readings ++ r ∷ []) next
  waited_more most readings between next r (Ok t) soon w called none = by (is_not_yet t.reply) refl none
    where
      by : (b : Bool) → is_not_yet t.reply ≡ b → if◌then◌else◌ {A = Option (Result Stepped UntilFault)} b None (Some (Ok t)) ≡ None → Waited before guest deadline call (readings ++ r ∷ []) next
      by true is none = waited_idle most readings between next r t soon w called is
      by false is none = absurd (none-some (Ok t) (sym none))
  waited_more most readings between next r (Err call_fault.Busy) soon w called none = waited_busy readings between next r soon w called
  waited_more most readings between next r (Err call_fault.Full) soon w called none = absurd (none-some (Err until_fault.Full) (sym none))
  waited_more most readings between next r (Err call_fault.OutOfMemory) soon w called none = absurd (none-some (Err until_fault.OutOfMemory) (sym none))

  -- the last try
  pub settles : (most : ℕ) (between next : PassView T Entry) (r : ℕ) (answer : Result Stepped CallFault) (given : Result Stepped UntilFault) → r < deadline
      → Called most between guest r call answer next → settled_of answer ≡ Some given → Ended most between guest deadline r call given next
  settles most between next r (Ok t) given soon called some = by (is_not_yet t.reply) refl some
    where
      by : (b : Bool) → is_not_yet t.reply ≡ b → if◌then◌else◌ {A = Option (Result Stepped UntilFault)} b None (Some (Ok t)) ≡ Some given → Ended most between guest deadline r call given next
      by true is some = absurd (none-some given some)
      by false is some = subst (λ (x : Result Stepped UntilFault). Ended most between guest deadline r call x next) (same_some some) (soon, ap not is, called)
  settles most between next r (Err call_fault.Busy) given soon called some = absurd (none-some given some)
  settles most between next r (Err call_fault.Full) given soon called some = subst (λ (x : Result Stepped UntilFault). Ended most between guest deadline r call x next) (same_some some) (soon, called)
  settles most between next r (Err call_fault.OutOfMemory) given soon called some = subst (λ (x : Result Stepped UntilFault). Ended most between guest deadline r call x next) (same_some some) (soon, called)

  -- the pass may go on asking
  pub may_still : (p : PassView T Entry) (seen : List Entry) (lost idle : ℕ) (q : PassView T Entry) → q ≡ later p seen lost idle → MayAsk p guest call → MayAsk q guest call
  may_still p seen lost idle q is may = subst (λ (x : PassView T Entry). MayAsk x guest call) (sym is) (by call may)
    where
      by : (c : CacheCall) → MayAsk p guest c → MayAsk (later p seen lost idle) guest c
      by Begin m = m
      by c m = m

-- an End that was served
pub has_ended : {T : Type 0} (most : ℕ) (before after : PassView T Entry) (guest reading number : ℕ) (answer : Result Stepped StepFault)
    → (losses : ℕ) × Tried most (record before { lost = before.lost + losses }) guest reading End answer after → IfOk answer (λ t. number ≡ t.number) → HasEnded most before guest reading number after
has_ended {T} most before after guest reading number (Ok t) w n =
    let tried = w.1 in
    let is : t ≡ record { number = number; reply = Done } = tried.gives.reply ∙ ap (λ k. record { number = k; reply = Done }) (sym (n ∙ ap (λ (s : Stepped). s.number) tried.gives.reply)) in
    (w.0, subst (λ (s : Stepped). Tried most (record before { lost = before.lost + w.0 }) guest reading End (Ok s) after) is tried)
has_ended most before after guest reading number (Err step_fault.Full) w n = absurd (true≢false (sym w.1.gives.full))
has_ended most before after guest reading number (Err step_fault.OutOfMemory) w n = absurd (true≢false w.1.gives.no_end)

pub is_ended : {T : Type 0} (most : ℕ) (before after : PassView T Entry) (guest reading : ℕ) (answer : Result Stepped StepFault)
    → (losses : ℕ) × Tried most (record before { lost = before.lost + losses }) guest reading End answer after → IsOk answer
is_ended most before after guest reading (Ok t) w = refl
is_ended most before after guest reading (Err step_fault.Full) w = absurd (true≢false (sym w.1.gives.full))
is_ended most before after guest reading (Err step_fault.OutOfMemory) w = absurd (true≢false w.1.gives.no_end)
