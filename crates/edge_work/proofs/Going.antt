-- A guest that goes on: what holds between two of its calls.
use Rattle.std.proofs.Common.{◌≡◌, ℕ, ◌+◌, ◌<◌, ◌≤◌, Bool, true, false, true≢false, not, ◌&&◌, ◌||◌, ◌==◌, List, [], ◌∷◌, ◌++◌, map, length, All, Contains, IsTrue, IsErr, IfSome, Option, None, Some, Result, Ok, if◌then◌else◌, refl, sym, ap, ◌∙◌, subst, arith, eq-eqb}
use Rattle.std.specs.List.{list_any, cons_option}
use mathlib.Core.List.{IsPrefix}
use Rattle.std.proofs.lemmas.List.Elements.{Contains-append_left, Contains-append_right, Contains-push, filter-append}
use Rattle.std.proofs.lemmas.List.{append-nil, map-append, reverse-append}
use Rattle.turnstile.specs.Log.{entries_of}
use Rattle.turnstile.specs.Pass.{IsSamePass}
use Rattle.cache_types.specs.declared.calls.CacheCall.{CacheCall}
use Rattle.cache_types.specs.declared.calls.CacheCall.TheVariants.{Begin, End}
use Rattle.cache_types.specs.declared.entries.Entry.{Entry}
use Rattle.cache_types.specs.declared.outer.OuterCall.{OuterCall}
use Rattle.cache_types.specs.declared.outer.OuterCall.TheVariants as call
use Rattle.cache_types.specs.declared.outer.OuterReply.{OuterReply}
use Rattle.cache_types.specs.declared.outer.OuterReply.TheVariants as reply
use Rattle.cache_types.specs.declared.outer.Outcome.{Outcome}
use Rattle.cache_types.specs.declared.outer.Outcome.TheVariants as outcome
use Rattle.cache_types.specs.Entries.{newest_first, is_begin, is_end, begun, has_ended, is_live}
use Rattle.cache_types.specs.Legal.{IsLegal}
use Rattle.cache_types.specs.Limits.{is_within_limits}
use Rattle.cache_hub.specs.Calls.{own_of, IsOpener, HasWhole}
use Rattle.cache_hub.proofs.Waits.{prefix_on}
use Rattle.edge_outside.specs.Faults.{Rose}
use Rattle.player.specs.declared.turn.Turn.TheVariants.{Outer, Over}
use Rattle.player.specs.Plays.{Program, Answered, stopped_due, is_end_call}
use Rattle.player.specs.May as may
use Rattle.player.specs.Runs.{Follows, is_answer, are_answers}
use Rattle.player.specs.Tickets.{IsFresh, AreFresh}
use Rattle.schedule_play.specs.Schedule.{answered_of}
use Rattle.schedule_play.specs.Blocks.{is_cache, cache_calls}
use Rattle.guest_answers.specs.declared.answer.Answer.{Answer}
use Rattle.guest_answers.specs.Wire.{frames, answer_behind, is_headless}
use Rattle.edge_work.specs.Sent.{all_written, Stays}
use Rattle.edge_work.specs.Outside.{Stand, last_of, IsTimed, told_in, AreAmong, IsUnlinked, IsCause, is_gone, NoEntry, listed, IsNamed, IsGain}
use Rattle.edge_work.specs.Work.{IsEndBehind, HasEnd, IsAsked, EndsAt, IsBrokenOff}
use Rattle.edge_work.proofs.Calls.{own_push}
use Rattle.edge_work.proofs.Ways.{Ways}

abbrev pub answered : OuterCall → OuterReply → Answered
answered c r = record { call = c; reply = r }

-- the calls that follow the program: all, or those before the stop
abbrev pub upto : Option Outcome → List Answered → List Answered → List Answered
upto None before trace = trace
upto (Some why) before trace = before

-- where a guest was stopped, its calls are those before the stop, or its End too
abbrev pub IsCutAt : List Answered → List Answered → Bool → Option Outcome → Type 0
IsCutAt before trace ended None = Unit {0}
IsCutAt before trace false (Some why) = trace ≡ before
IsCutAt before trace true (Some why) = IsEndBehind before trace × (may.is_empty before ≡ false)

abbrev pub Phase : Bool → List Answered → List Entry → List (ℕ × Entry) → ℕ → ℕ → Type 0
Phase false trace seen gained last guest = is_live (newest_first (entries_of gained)) guest ≡ true
Phase true trace seen gained last guest = (has_ended (newest_first (entries_of gained)) guest ≡ true) × HasEnd trace × EndsAt seen gained last

-- a guest that began
pub record Begun {T C : Type 0} (trace : List Answered) (ended : Bool) (new : Stand T C) (gained : List (ℕ × Entry)) : Type 0 where
  pub positive : 0 < new.guest
  pub opener : IsOpener gained new.guest
  pub own : own_of new.guest (entries_of new.pass.mine) ≡ entries_of gained
  pub phase : Phase ended trace new.pass.seen gained new.last new.guest

abbrev pub IsState : {T C : Type 0} → List Answered → List Answered → Bool → Stand T C → List (ℕ × Entry) → Type 0
IsState [] trace ended new gained = (new.guest ≡ 0) × (gained ≡ []) × (ended ≡ false)
IsState (a ∷ rest) trace ended new gained = Begun trace ended new gained

-- what the sink got: all frames, or those up to the write that failed
abbrev pub SinkIs : {T C K : Type 0} → Ways T C K → (Program → Type 0) → List ℕ → List Answered → List Answered → Bool → K → K → Type 0
SinkIs w B method before trace false old new = w.Writes old (all_written (frames method trace)) new
SinkIs w B method before trace true old new = IsBrokenOff w.Writes w.faults B method before old new

-- a stopped guest may have taken one reading more
abbrev pub extra : Option Outcome → ℕ
extra None = 1
extra (Some why) = 2

pub record Going {T C K : Type 0} (w : Ways T C K) (B : Program → Type 0) (P : Program → List Answered → Type 0) (most first limit : ℕ) (method : List ℕ) (stopped : Option Outcome) (ended : Bool) (answer : Answer) (gone : Bool) (old new : Stand T C) (sink sink' : K) : Type 0 where
  pub trace : List Answered
  pub before : List Answered
  pub gained : List (ℕ × Entry)
  pub readings : List ℕ
  pub plays : (next : Program) → B next → P next trace
  pub runs : (next : Program) → B next → Follows next (upto stopped before trace)
  pub cut : IsCutAt before trace ended stopped
  pub state : IsState trace trace ended new gained
  pub cause : IfSome stopped (IsCause most first limit readings new.pass.seen (IsAsked B before) (Rose (w.faults sink) (w.faults sink')))
  pub mine : new.pass.mine ≡ old.pass.mine ++ gained
  pub same : IsSamePass old.pass new.pass
  pub whole : HasWhole new.pass
  pub share : w.Share old.pass → w.Share new.pass
  pub said : cache_calls trace ≡ map answered_of (entries_of gained)
  pub guests : All (λ (x : ℕ × Entry). x.1.guest ≡ new.guest) gained
  pub limits : All (λ (x : ℕ × Entry). IsTrue (is_within_limits x.1.call)) gained
  pub longer : IsPrefix old.pass.seen new.pass.seen
  pub legal : IsLegal old.pass.seen → IsLegal new.pass.seen
  pub clock : w.Reads old.clock (first ∷ readings) new.clock
  pub last : new.last ≡ last_of first readings
  pub timed : All (IsTimed new.pass.seen (first ∷ readings)) gained
  pub told : AreAmong (told_in trace) readings
  pub count : length (first ∷ readings) + old.pass.lost + old.pass.idle ≤ extra stopped + length (told_in trace) + length gained + new.pass.lost + new.pass.idle
  pub answers : IsTrue (are_answers trace)
  pub unlinked : All (λ (a : Answered). IsUnlinked a.call a.reply) trace
  pub fresh : AreFresh trace
  pub answer_is : answer ≡ answer_behind method trace
  pub gone_is : gone ≡ is_gone stopped
  pub quiet : is_headless (answer_behind method trace) ≡ true → all_written (frames method trace) ≡ []
  pub faults : Stays (w.faults sink) (w.faults sink')
  pub sink_is : SinkIs w B method before trace gone sink sink'

-- calls
same_cache : (c d : CacheCall) → call.Cache c ≡ call.Cache d → c ≡ d
same_cache c d e = cc (e)

begin_is : (d : CacheCall) → is_begin d ≡ true → d ≡ Begin
begin_is Begin is = refl
begin_is d is = absurd (true≢false (sym is))

-- the first call is Begin
pub first_begins : (c : OuterCall) → may.MayAsk [] c → c ≡ call.Cache Begin
first_begins (call.Cache d) asks = ap call.Cache (begin_is d asks.0)
first_begins (call.Start address request) asks = absurd (true≢false asks.0)
first_begins (call.Poll ticket) asks = absurd (true≢false asks.0)
first_begins (call.WaitFor ticket) asks = absurd (true≢false asks.0)
first_begins (call.AnyOf tickets) asks = absurd (true≢false asks.0)
first_begins c asks = absurd (true≢false asks)

-- a ticket is given where none was before: none is given
pub fresh_reply : (held : List ℕ) (c : OuterCall) (r : OuterReply) → IsTrue (is_answer c r) → IsUnlinked c r → IsFresh held r
fresh_reply held (call.Start address request) (reply.Started ticket) is un = absurd (started un)
  where
    started : reply.Started ticket ≡ reply.LinkFailed → ⊥
    started e = cc (e)
fresh_reply held c (reply.Started ticket) is un = absurd (true≢false (sym is))
fresh_reply held c r is un = tt

some_not : (c : OuterCall) (why : Outcome) → Outer c ≡ Over why → ⊥
some_not c why e = cc (e)

same_call : (c d : OuterCall) → Outer c ≡ Outer d → c ≡ d
same_call c d e = cc (e)

-- a guest that was stopped makes End next
pub stopped_call : (trace : List Answered) (ended : Bool) (why : Outcome) (c : OuterCall) → ended ≡ false → Outer c ≡ stopped_due trace ended why → c ≡ call.Cache End
stopped_call [] ended why c isnt e = absurd (some_not c why e)
stopped_call (a ∷ trace) ended why c isnt e = same_call c (call.Cache End) (e ∙ ap (λ b. if b then Over why else Outer (call.Cache End)) isnt)

is_err : (r : OuterReply) → IsErr {T = OuterReply} {E = Outcome} (Ok r) → ⊥
is_err r e = true≢false (sym e)

pub not_cache : (c : OuterCall) (r : OuterReply) → NoEntry c (Ok r) → (is_end_call (Some c) ≡ false) × ((c ≡ call.Cache Begin) → ⊥) × (cache_calls (answered c r ∷ []) ≡ [])
not_cache (call.Cache c) r none = absurd (is_err r none)
not_cache (call.Now clock) r none = (refl, λ e. cc (e), refl)
not_cache (call.Start address request) r none = (refl, λ e. cc (e), refl)
not_cache (call.Poll ticket) r none = (refl, λ e. cc (e), refl)
not_cache (call.WaitFor ticket) r none = (refl, λ e. cc (e), refl)
not_cache (call.AnyOf tickets) r none = (refl, λ e. cc (e), refl)
not_cache (call.Head bytes) r none = (refl, λ e. cc (e), refl)
not_cache (call.Piece bytes) r none = (refl, λ e. cc (e), refl)
not_cache (call.Close whole) r none = (refl, λ e. cc (e), refl)
not_cache (call.Log endpoint line) r none = (refl, λ e. cc (e), refl)

-- what stands still stands
pub timed_more : (list list' : List Entry) (readings readings' : List ℕ) → IsPrefix list list' → ((r : ℕ) → Contains readings r → Contains readings' r) → (x : ℕ × Entry) → IsTimed list readings x → IsTimed list' readings' x
timed_more list list' readings readings' a has x t = record { before = t.before; stands = prefix_on (t.before ++ x.1 ∷ []) list list' t.stands a; number = t.number; reading = t.reading; among = has t.reading t.among; moment = t.moment }

pub cause_more : (most first limit : ℕ) (readings readings' : List ℕ) (seen seen' : List Entry) (Asked Asked' : OuterCall → Type 0) (Gone Gone' : Type 0) → ((r : ℕ) → Contains readings r → Contains readings' r) → IsPrefix seen seen' → ((c : OuterCall) → Asked c → Asked' c) → (Gone → Gone')
    → (why : Outcome) → IsCause most first limit readings seen Asked Gone why → IsCause most first limit readings' seen' Asked' Gone' why
cause_more most first limit readings readings' seen seen' Asked Asked' Gone Gone' has longer asks gone (outcome.Timeout start reading) e = (e.0, has reading e.1, e.2)
cause_more most first limit readings readings' seen seen' Asked Asked' Gone Gone' has longer asks gone outcome.HistoryFull e = (e.0, e.1, asks (call.Cache e.1) e.2, prefix_on e.0 seen seen' e.3 longer, e.4)
cause_more most first limit readings readings' seen seen' Asked Asked' Gone Gone' has longer asks gone outcome.ClientGone e = gone e
cause_more most first limit readings readings' seen seen' Asked Asked' Gone Gone' has longer asks gone outcome.OutOfMemory e = tt
cause_more most first limit readings readings' seen seen' Asked Asked' Gone Gone' has longer asks gone why e = absurd e

-- entries
pub entries_push : (xs : List (ℕ × Entry)) (x : ℕ × Entry) → entries_of (xs ++ x ∷ []) ≡ entries_of xs ++ x.1 ∷ []
entries_push xs x = map-append (λ (y : ℕ × Entry). y.1) xs (x ∷ [])

newest_push : (xs : List (ℕ × Entry)) (x : ℕ × Entry) → newest_first (entries_of (xs ++ x ∷ [])) ≡ x.1 ∷ newest_first (entries_of xs)
newest_push xs x = ap newest_first (entries_push xs x) ∙ reverse-append (entries_of xs) (x.1 ∷ [])

live_first : (e : Entry) (g : ℕ) → e.call ≡ Begin → e.number ≡ g → is_live (e ∷ []) g ≡ true
live_first e g begins named =
    ap (λ (c : CacheCall). list_any (λ b. b == g) (cons_option (if is_begin c then Some e.number else None) []) && not ((is_end c && (e.guest == g)) || false)) begins
    ∙ (ap (λ (b : Bool). (b || false) && true) (eq-eqb e.number g named))

live_next : (e : Entry) (past : List Entry) (g : ℕ) → is_begin e.call ≡ false → is_end e.call ≡ false → is_live past g ≡ true → is_live (e ∷ past) g ≡ true
live_next e past g begins ends live =
    ap (λ (b : Bool). list_any (λ x. x == g) (cons_option (if b then Some e.number else None) (begun past)) && not ((is_end e.call && (e.guest == g)) || has_ended past g)) begins
    ∙ (ap (λ (b : Bool). list_any (λ x. x == g) (begun past) && not ((b && (e.guest == g)) || has_ended past g)) ends ∙ live)

ended_next : (e : Entry) (past : List Entry) (g : ℕ) → is_end e.call ≡ true → e.guest ≡ g → has_ended (e ∷ past) g ≡ true
ended_next e past g ends named = ap (λ (b : Bool). (b && (e.guest == g)) || has_ended past g) ends ∙ ap (λ (b : Bool). b || has_ended past g) (eq-eqb e.guest g named)

-- the last of some entries was made at this reading
ends_at : (seen : List Entry) (gained : List (ℕ × Entry)) (x : ℕ × Entry) (last : ℕ) → is_end x.1.call ≡ true → IsTimed seen (last ∷ []) x → EndsAt seen (gained ++ x ∷ []) last
ends_at seen gained x last ends timed = record { older = gained; last = x; all = refl; end = ends; timed = timed }

end_is : (d : CacheCall) → is_end d ≡ true → d ≡ End
end_is End is = refl
end_is d is = absurd (true≢false (sym is))

phase_next : (trace : List Answered) (c : CacheCall) (r : OuterReply) (seen : List Entry) (gained : List (ℕ × Entry)) (x : ℕ × Entry) (last g : ℕ) → x.1.call ≡ c → x.1.guest ≡ g → is_begin x.1.call ≡ false → is_live (newest_first (entries_of gained)) g ≡ true → (is_end c ≡ true → IsTimed seen (last ∷ []) x)
    → Phase (is_end c) (trace ++ answered (call.Cache c) r ∷ []) seen (gained ++ x ∷ []) last g
phase_next trace c r seen gained x last g same named begins live timed = by (is_end c) refl
  where
    by : (b : Bool) → is_end c ≡ b → Phase b (trace ++ answered (call.Cache c) r ∷ []) seen (gained ++ x ∷ []) last g
    by true is = (
      ap (λ (l : List Entry). has_ended l g) (newest_push gained x) ∙ ended_next x.1 (newest_first (entries_of gained)) g (ap is_end same ∙ is) named,
      (trace, (r, ap (λ (d : CacheCall). trace ++ answered (call.Cache d) r ∷ []) (end_is c is))),
      ends_at seen gained x last (ap is_end same ∙ is) (timed is),
    )
    by false is = ap (λ (l : List Entry). is_live l g) (newest_push gained x) ∙ live_next x.1 (newest_first (entries_of gained)) g begins (ap is_end same ∙ is) live

same_ok : (a b : OuterReply) → ◌≡◌ {A = Result OuterReply Outcome} (Ok a) (Ok b) → a ≡ b
same_ok a b e = cc (e)

module _ {T C : Type 0} where
  state_of : (trace whole : List Answered) (a : Answered) (ended : Bool) (new : Stand T C) (gained : List (ℕ × Entry)) → Begun whole ended new gained → IsState (trace ++ a ∷ []) whole ended new gained
  state_of [] whole a ended new gained b = b
  state_of (c ∷ trace) whole a ended new gained b = b

  pub kept_guest : (x : ℕ × Entry) (old new : Stand T C) (c : CacheCall) → is_begin c ≡ false → IsNamed x old new c → new.guest ≡ old.guest
  kept_guest x old new Begin begins named = absurd (true≢false begins)
  kept_guest x old new c begins named = named

  -- the pass's entries of the guest are those that were gained
  own_next : (mid new : Stand T C) (gained : List (ℕ × Entry)) (x : ℕ × Entry) → x.1.guest ≡ new.guest → new.pass.mine ≡ mid.pass.mine ++ x ∷ [] → own_of new.guest (entries_of mid.pass.mine) ≡ entries_of gained → own_of new.guest (entries_of new.pass.mine) ≡ entries_of (gained ++ x ∷ [])
  own_next mid new gained x named mine own =
      ap (λ (l : List (ℕ × Entry)). own_of new.guest (entries_of l)) mine ∙ (ap (own_of new.guest) (entries_push mid.pass.mine x)
      ∙ (own_push (entries_of mid.pass.mine) x.1 new.guest named ∙ (ap (λ l. l ++ x.1 ∷ []) own ∙ sym (entries_push gained x))))

  begun_state : (trace whole : List Answered) (ended : Bool) (new : Stand T C) (gained : List (ℕ × Entry)) (c : OuterCall) → ((c ≡ call.Cache Begin) → ⊥) → may.MayAsk trace c → IsState trace whole ended new gained → Begun whole ended new gained
  begun_state [] whole ended new gained c isnt asks state = absurd (isnt (first_begins c asks))
  begun_state (a ∷ trace) whole ended new gained c isnt asks state = state

  -- the state behind a reply that added no entry
  pub state_other : (trace : List Answered) (c : OuterCall) (r : OuterReply) (mid new : Stand T C) (gained : List (ℕ × Entry)) → may.MayAsk trace c → NoEntry c (Ok r) → new.guest ≡ mid.guest → new.pass.mine ≡ mid.pass.mine ++ [] → IsState trace trace false mid gained
      → IsState (trace ++ answered c r ∷ []) (trace ++ answered c r ∷ []) (is_end_call (Some c)) new (gained ++ [])
  state_other trace c r mid new gained asks none same mine state =
      let n = not_cache c r none in
      let b = begun_state trace trace false mid gained c n.1 asks state in
      let mine' : new.pass.mine ≡ mid.pass.mine = mine ∙ append-nil mid.pass.mine in
      state_of trace (trace ++ answered c r ∷ []) (answered c r) (is_end_call (Some c)) new (gained ++ [])
      (subst (λ (l : List (ℕ × Entry)). Begun (trace ++ answered c r ∷ []) (is_end_call (Some c)) new l) (sym (append-nil gained)) record {
        positive = (let p = b.positive in omega arith);
        opener = subst (IsOpener gained) (sym same) b.opener;
        own = ap (λ g. own_of g (entries_of new.pass.mine)) same ∙ (ap (λ (l : List (ℕ × Entry)). own_of mid.guest (entries_of l)) mine' ∙ b.own);
        phase = subst (λ (x : Bool). Phase x (trace ++ answered c r ∷ []) new.pass.seen gained new.last new.guest) (sym n.0) (ap (is_live (newest_first (entries_of gained))) same ∙ b.phase);
      })

  -- the state behind a reply that added this entry
  pub state_entry : (trace : List Answered) (c : CacheCall) (r : OuterReply) (mid new : Stand T C) (gained : List (ℕ × Entry)) (x : ℕ × Entry) → may.MayAsk trace (call.Cache c) → x.1.call ≡ c → x.1.guest ≡ new.guest → IsNamed x mid new x.1.call → new.pass.mine ≡ mid.pass.mine ++ x ∷ [] → (is_end c ≡ true → IsTimed new.pass.seen (new.last ∷ []) x) → IsState trace trace false mid gained
      → IsState (trace ++ answered (call.Cache c) r ∷ []) (trace ++ answered (call.Cache c) r ∷ []) (is_end c) new (gained ++ x ∷ [])
  state_entry [] c r mid new gained x asks same named names mine timed state =
      let begins : x.1.call ≡ Begin = same ∙ same_cache c Begin (first_begins (call.Cache c) asks) in
      let n : IsNamed x mid new Begin = subst (IsNamed x mid new) begins names in
      let empty : gained ++ x ∷ [] ≡ x ∷ [] = ap (λ (l : List (ℕ × Entry)). l ++ x ∷ []) state.1 in
      let whole = answered (call.Cache c) r ∷ [] in
      subst (λ (l : List (ℕ × Entry)). Begun whole (is_end c) new l) (sym empty) record {
        positive = n.2;
        opener = (x.1, subst (λ k. Contains (x ∷ []) (k, x.1)) n.0 (Contains-append_right [] (x ∷ []) x (Contains-push [] x)), named);
        own = own_next mid new [] x named mine n.3;
        phase = subst (λ (b : Bool). Phase b whole new.pass.seen (x ∷ []) new.last new.guest) (sym (ap is_end (sym same ∙ begins))) (live_first x.1 new.guest begins n.1);
      }
  state_entry (a ∷ trace) c r mid new gained x asks same named names mine timed b =
      let begins : is_begin x.1.call ≡ false = ap is_begin same ∙ asks.0 in
      let kept = kept_guest x mid new x.1.call begins names in
      record {
        positive = (let p = b.positive in omega arith);
        opener = (b.opener.0, Contains-append_left gained (x ∷ []) (new.guest, b.opener.0) (subst (λ k. Contains gained (k, b.opener.0)) (sym kept) b.opener.1), b.opener.2 ∙ sym kept);
        own = own_next mid new gained x named mine (ap (λ g. own_of g (entries_of mid.pass.mine)) kept ∙ b.own);
        phase = phase_next (a ∷ trace) c r new.pass.seen gained x new.last new.guest same named begins (ap (is_live (newest_first (entries_of gained))) kept ∙ b.phase) timed;
      }

  -- the calls on the cache are the entries
  pub said_next : (trace : List Answered) (c : OuterCall) (r : OuterReply) (mid new : Stand T C) (gained : List (ℕ × Entry)) (x : Option (ℕ × Entry)) → cache_calls trace ≡ map answered_of (entries_of gained) → IsGain c (Ok r) mid new x → cache_calls (trace ++ answered c r ∷ []) ≡ map answered_of (entries_of (gained ++ listed x))
  said_next trace c r mid new gained None was gain =
      filter-append (λ (a : Answered). is_cache a.call) trace (answered c r ∷ []) ∙ (ap (λ (l : List Answered). cache_calls trace ++ l) (not_cache c r gain.0).2
      ∙ (append-nil (cache_calls trace) ∙ (was ∙ ap (λ (l : List (ℕ × Entry)). map answered_of (entries_of l)) (sym (append-nil gained)))))
  said_next trace c r mid new gained (Some x) was gain =
      let told : r ≡ reply.Cache (record { number = x.1.number; reply = x.1.reply }) = same_ok r (reply.Cache (record { number = x.1.number; reply = x.1.reply })) gain.1 in
      let one : cache_calls (answered c r ∷ []) ≡ answered_of x.1 ∷ [] = ap (λ (d : OuterCall). cache_calls (answered d r ∷ [])) gain.0 ∙ ap (λ (s : OuterReply). cache_calls (answered (call.Cache x.1.call) s ∷ [])) told in
      filter-append (λ (a : Answered). is_cache a.call) trace (answered c r ∷ []) ∙ (ap (λ (l : List Answered). cache_calls trace ++ l) one
      ∙ (ap (λ (l : List Answered). l ++ answered_of x.1 ∷ []) was ∙ sym (ap (map answered_of) (entries_push gained x) ∙ map-append answered_of (entries_of gained) (x.1 ∷ []))))
