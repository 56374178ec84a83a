-- What a guest that goes on has after one more call.
use Rattle.std.proofs.Common.{◌≡◌, ℕ, ◌<◌, ◌≤◌, Bool, true, false, true≢false, not, List, [], ◌∷◌, ◌++◌, length, All, Contains, IsTrue, IfOk, IfSome, Option, None, Some, Result, Ok, Err, refl, sym, ap, ◌∙◌, subst, arith, append_assoc}
use Rattle.std.proofs.lemmas.Bool.{and_parts}
use Rattle.std.proofs.lemmas.Bool.Decides.{nat_tests}
use Rattle.std.proofs.lemmas.List.Elements.{All-append, All-weaker, All-nil, All-cons, All-head, Contains-append_left, Contains-append_right}
use Rattle.std.proofs.lemmas.List.{length-append, append-nil}
use Rattle.turnstile.specs.Log.{entries_of}
use Rattle.turnstile.specs.Pass.{PassView}
use Rattle.cache_types.specs.declared.calls.CacheCall.{CacheCall}
use Rattle.cache_types.specs.declared.calls.CacheCall.TheVariants.{Begin, End}
use Rattle.cache_types.specs.declared.entries.Entry.{Entry}
use Rattle.cache_types.specs.declared.outer.OuterCall.{OuterCall}
use Rattle.cache_types.specs.declared.outer.OuterCall.TheVariants as call
use Rattle.cache_types.specs.declared.outer.OuterReply.{OuterReply}
use Rattle.cache_types.specs.declared.outer.Outcome.{Outcome}
use Rattle.cache_types.specs.declared.outer.Outcome.TheVariants as outcome
use Rattle.cache_types.specs.Entries.{newest_first, is_begin, is_live}
use Rattle.cache_types.specs.Limits.{is_within_limits, is_from_to}
use Rattle.cache_types.specs.Step.{IsCaller}
use Rattle.cache_hub.specs.Calls.{own_of, IsOpener, MayAsk, HasWhole}
use Rattle.cache_hub.proofs.Waits.{prefix_on}
use Rattle.edge_outside.specs.Faults.{Rose}
use Rattle.edge_outside.specs.Sink.{Write}
use Rattle.player.specs.declared.turn.Turn.{Turn}
use Rattle.player.specs.declared.turn.Turn.TheVariants.{Outer, Over}
use Rattle.player.specs.Plays.{Program, Answered, due, call_in, is_end_call}
use Rattle.player.specs.May as may
use Rattle.player.specs.Runs.{Follows, is_answer}
use Rattle.player.specs.Tickets.{held_behind, AreFresh}
use Rattle.schedule_play.proofs.Fresh.{fresh-more}
use Rattle.schedule_play.proofs.Turning.{follows-more, answers-more}
use Rattle.guest_answers.specs.declared.answer.Answer.{Answer}
use Rattle.guest_answers.specs.declared.answer.Answer.TheVariants.{Headless}
use Rattle.guest_answers.specs.Wire.{after_call, frame, frames, answer_behind, is_headless}
use Rattle.edge_work.specs.Sent.{written, all_written, lost, Stays, Sends}
use Rattle.edge_work.specs.Outside.{Stand, stand, last_of, IsTimed, told_by, told_in, AreAmong, IsUnlinked, IsCause, is_gone, MayAskOuter, listed, IsGain, Outside}
use Rattle.edge_work.specs.Next.{answer_by, gone_by, trace_by, stopped_by, ended_by}
use Rattle.edge_work.specs.Work.{IsAsked}
use Rattle.edge_work.proofs.Lists.{last_both, last_among, among, among_both, told_push, answer_push, written_push, quiet_call, frame_of_cache, stays, stays_on, rose_on, rose_from}
use Rattle.edge_work.proofs.Ways.{Ways}
use Rattle.edge_work.proofs.Going.{Going, IsState, SinkIs, Begun, IsCutAt, upto, extra, answered, timed_more, cause_more, first_begins, fresh_reply, stopped_call, kept_guest, state_other, state_entry, said_next}

-- the program's next call
runs_next : (next : Program) (before trace : List Answered) (c : OuterCall) (r : OuterReply) (stopped : Option Outcome) → Outer c ≡ due next trace false stopped → Follows next (upto stopped before trace) → Follows next (upto stopped before (trace ++ answered c r ∷ []))
runs_next next before trace c r None turn f = follows-more next trace (answered c r) f (sym turn)
runs_next next before trace c r (Some why) turn f = f

not_empty : (trace : List Answered) (why : Outcome) (c : OuterCall) → Outer c ≡ due (λ _. Over why) trace false (Some why) → may.is_empty trace ≡ false
not_empty [] why c turn = absurd (differ turn)
  where
    differ : Outer c ≡ Over why → ⊥
    differ e = cc (e)
not_empty (a ∷ trace) why c turn = refl

cut_next : (next : Program) (before trace : List Answered) (c : OuterCall) (r : OuterReply) (stopped : Option Outcome) → Outer c ≡ due next trace false stopped → IsCutAt before trace false stopped → IsCutAt before (trace ++ answered c r ∷ []) (is_end_call (Some c)) stopped
cut_next next before trace c r None turn cut = tt
cut_next next before trace c r (Some why) turn cut =
    let is : c ≡ call.Cache End = stopped_call trace false why c refl turn in
    subst (λ (b : Bool). IsCutAt before (trace ++ answered c r ∷ []) b (Some why)) (sym (ap (λ (d : OuterCall). is_end_call (Some d)) is))
    ((r, ap (λ (l : List Answered). l ++ answered c r ∷ []) cut ∙ ap (λ (d : OuterCall). before ++ answered d r ∷ []) is), ap may.is_empty (sym cut) ∙ not_empty trace why c turn)

gone_quiet : (next : Program) (answer : Answer) (trace : List Answered) (c : OuterCall) (stopped : Option Outcome) → Outer c ≡ due next trace false stopped → is_gone stopped ≡ true → frame answer c ≡ []
gone_quiet next answer trace c None turn is = absurd (true≢false (sym is))
gone_quiet next answer trace c (Some why) turn is = ap (frame answer) (stopped_call trace false why c refl turn) ∙ frame_of_cache answer End

sink_next : {T C K : Type 0} (w : Ways T C K) (B : Program → Type 0) (method : List ℕ) (before trace : List Answered) (c : OuterCall) (r : OuterReply) (answer : Answer) (gone : Bool) (sink0 sink1 sink2 : K) → answer ≡ answer_behind method trace → (gone ≡ true → frame answer c ≡ []) → SinkIs w B method before trace gone sink0 sink1
    → Sends w.Writes w.faults (frame answer c) (Ok r) sink1 sink2 → SinkIs w B method before (trace ++ answered c r ∷ []) gone sink0 sink2
sink_next w B method before trace c r answer false sink0 sink1 sink2 is quiet was sends =
    subst (λ l. w.Writes sink0 l sink2) (sym (written_push method trace (answered c r)))
    (w.writes_both sink0 (all_written (frames method trace)) sink1 (written (frame (answer_behind method trace) c)) sink2 was (subst (λ (a : Answer). w.Writes sink1 (written (frame a c)) sink2) is sends.0))
sink_next w B method before trace c r answer true sink0 sink1 sink2 is quiet was sends =
    let all = all_written (frames method before) ++ lost (frame (answer_behind method before) was.next) in
    record {
      next = was.next;
      asked = was.asked;
      some = was.some;
      writes = subst (λ l. w.Writes sink0 l sink2) (append-nil all) (w.writes_both sink0 all sink1 [] sink2 was.writes (subst (λ (l : List ℕ). w.Writes sink1 (written l) sink2) (quiet refl) sends.0));
      rose = rose_on (w.faults sink0) (w.faults sink1) (w.faults sink2) was.rose sends.1;
    }

is_off : (b : Bool) → IsTrue (not b) → b ≡ false
is_off true x = absurd (true≢false (sym x))
is_off false x = refl

module _ {T C : Type 0} where
  ask_live : (d : CacheCall) (new : Stand T C) (gained base : List (ℕ × Entry)) (trace : List Answered) → new.pass.mine ≡ base ++ gained → Begun trace false new gained → is_begin d ≡ false → IsTrue (is_within_limits d) → MayAsk new.pass new.guest d
  ask_live Begin new gained base trace mine b isnt fits = absurd (true≢false isnt)
  ask_live d new gained base trace mine b isnt fits = (
    (b.opener.0, subst (λ (l : List (ℕ × Entry)). Contains l (new.guest, b.opener.0)) (sym mine) (Contains-append_right base gained (new.guest, b.opener.0) b.opener.1), b.opener.2),
    record { caller = caller d refl; limits = fits },
  )
    where
      live : IsTrue (is_live (newest_first (own_of new.guest (entries_of new.pass.mine))) new.guest)
      live = ap (λ (l : List Entry). is_live (newest_first l) new.guest) b.own ∙ b.phase

      caller : (e : CacheCall) → is_begin e ≡ is_begin d → IsCaller (newest_first (own_of new.guest (entries_of new.pass.mine))) new.guest e
      caller Begin is = absurd (true≢false (is ∙ isnt))
      caller e is = live

  -- the hub's condition, and the link's
  pub may_ask : (trace : List Answered) (c : OuterCall) (new : Stand T C) (gained base : List (ℕ × Entry)) → new.pass.mine ≡ base ++ gained → IsState trace trace false new gained → may.MayAsk trace c → MayAskOuter new.pass new.guest c
  may_ask [] c new gained base mine state asks = subst (MayAskOuter new.pass new.guest) (sym (first_begins c asks)) (record { caller = state.0; limits = refl })
  may_ask (a ∷ trace) (call.Cache d) new gained base mine state asks = ask_live d new gained base (a ∷ trace) mine state asks.0 asks.1
  may_ask (a ∷ trace) (call.AnyOf tickets) new gained base mine state asks = let p = (and_parts (is_from_to 1 100 (length tickets)) _ asks.1).0 in grind (arith, nat_tests)
  may_ask (a ∷ trace) c new gained base mine state asks = tt

  guests_next : (gained : List (ℕ × Entry)) (x : Option (ℕ × Entry)) (trace : List Answered) (c : OuterCall) (r : OuterReply) (mid new : Stand T C) → may.MayAsk trace c → IsState trace trace false mid gained → IsGain c (Ok r) mid new x → All (λ (y : ℕ × Entry). y.1.guest ≡ mid.guest) gained → All (λ (y : ℕ × Entry). y.1.guest ≡ new.guest) (gained ++ listed x)
  guests_next gained None trace c r mid new asks state gain all = subst (All (λ (y : ℕ × Entry). y.1.guest ≡ new.guest)) (sym (append-nil gained)) (All-weaker (λ (y : ℕ × Entry). y.1.guest ≡ mid.guest) (λ (y : ℕ × Entry). y.1.guest ≡ new.guest) (λ y is. is ∙ sym gain.1) gained all)
  guests_next gained (Some x) [] c r mid new asks state gain all = subst (λ (l : List (ℕ × Entry)). All (λ (y : ℕ × Entry). y.1.guest ≡ new.guest) (l ++ x ∷ [])) (sym state.1) (All-cons (λ (y : ℕ × Entry). y.1.guest ≡ new.guest) x [] gain.2 (All-nil (λ (y : ℕ × Entry). y.1.guest ≡ new.guest)))
  guests_next gained (Some x) (a ∷ trace) c r mid new asks state gain all =
      let cache = subst (may.MayAsk (a ∷ trace)) gain.0 asks in
      let kept = kept_guest x mid new x.1.call cache.0 gain.3 in
      All-append (λ (y : ℕ × Entry). y.1.guest ≡ new.guest) gained (x ∷ []) (All-weaker (λ (y : ℕ × Entry). y.1.guest ≡ mid.guest) (λ (y : ℕ × Entry). y.1.guest ≡ new.guest) (λ y is. is ∙ sym kept) gained all) (All-cons (λ (y : ℕ × Entry). y.1.guest ≡ new.guest) x [] gain.2 (All-nil (λ (y : ℕ × Entry). y.1.guest ≡ new.guest)))

  limits_next : (gained : List (ℕ × Entry)) (x : Option (ℕ × Entry)) (trace : List Answered) (c : OuterCall) (r : OuterReply) (mid new : Stand T C) → may.MayAsk trace c → IsGain c (Ok r) mid new x → All (λ (y : ℕ × Entry). IsTrue (is_within_limits y.1.call)) gained → All (λ (y : ℕ × Entry). IsTrue (is_within_limits y.1.call)) (gained ++ listed x)
  limits_next gained None trace c r mid new asks gain all = subst (All (λ (y : ℕ × Entry). IsTrue (is_within_limits y.1.call))) (sym (append-nil gained)) all
  limits_next gained (Some x) trace c r mid new asks gain all =
      let cache = subst (may.MayAsk trace) gain.0 asks in
      All-append (λ (y : ℕ × Entry). IsTrue (is_within_limits y.1.call)) gained (x ∷ []) all (All-cons (λ (y : ℕ × Entry). IsTrue (is_within_limits y.1.call)) x [] cache.1 (All-nil (λ (y : ℕ × Entry). IsTrue (is_within_limits y.1.call))))

  state_next : (trace : List Answered) (c : OuterCall) (r : OuterReply) (mid new : Stand T C) (gained : List (ℕ × Entry)) (x : Option (ℕ × Entry)) → may.MayAsk trace c → IsGain c (Ok r) mid new x → new.pass.mine ≡ mid.pass.mine ++ listed x → (is_end_call (Some c) ≡ true → All (IsTimed new.pass.seen (new.last ∷ [])) (listed x)) → IsState trace trace false mid gained
      → IsState (trace ++ answered c r ∷ []) (trace ++ answered c r ∷ []) (is_end_call (Some c)) new (gained ++ listed x)
  state_next trace c r mid new gained None asks gain mine timed state = state_other trace c r mid new gained asks gain.0 gain.1 mine state
  state_next trace c r mid new gained (Some x) asks gain mine timed state =
      subst (λ (d : OuterCall). IsState (trace ++ answered d r ∷ []) (trace ++ answered d r ∷ []) (is_end_call (Some d)) new (gained ++ x ∷ [])) (sym gain.0)
      (state_entry trace x.1.call r mid new gained x (subst (may.MayAsk trace) gain.0 asks) refl gain.2 gain.3 mine (λ is. All-head (IsTimed new.pass.seen (new.last ∷ [])) x [] (timed (ap (λ (d : OuterCall). is_end_call (Some d)) gain.0 ∙ is))) state)

  no_gain : (c : OuterCall) (why : Outcome) (mid new : Stand T C) (x : Option (ℕ × Entry)) → IsGain c (Err why) mid new x → (new.guest ≡ mid.guest) × (x ≡ None)
  no_gain c why mid new None gain = (gain.1, refl)
  no_gain c why mid new (Some x) gain = absurd (err_ok gain.1)
    where
      err_ok : {r : OuterReply} → ◌≡◌ {A = Result OuterReply Outcome} (Err why) (Ok r) → ⊥
      err_ok e = cc (e)

  same_state : (trace whole : List Answered) (mid new : Stand T C) (gained : List (ℕ × Entry)) → new.guest ≡ mid.guest → new.pass.mine ≡ mid.pass.mine → IsState trace whole false mid gained → IsState trace whole false new gained
  same_state [] whole mid new gained same mine state = (same ∙ state.0, state.1, refl)
  same_state (a ∷ trace) whole mid new gained same mine b = record {
    positive = (let p = b.positive in omega arith);
    opener = subst (IsOpener gained) (sym same) b.opener;
    own = ap (λ g. own_of g (entries_of new.pass.mine)) same ∙ (ap (λ (l : List (ℕ × Entry)). own_of mid.guest (entries_of l)) mine ∙ b.own);
    phase = ap (is_live (newest_first (entries_of gained))) same ∙ b.phase;
  }

-- a reply was given
pub replied : {T C K : Type 0} (w : Ways T C K) (B : Program → Type 0) (P P' : Program → List Answered → Type 0) (most first limit : ℕ) (method : List ℕ) (stopped : Option Outcome) (answer : Answer) (gone : Bool) (old mid new : Stand T C) (sink0 sink1 sink2 : K) (c : OuterCall) (r : OuterReply) → (next : Program) × B next
    → (g : Going w B P most first limit method stopped false answer gone old mid sink0 sink1) → may.MayAsk g.trace c → ((next : Program) → B next → Outer c ≡ due next g.trace false stopped) → Outside w.Reads w.Share most first limit c (Ok r) mid new → Sends w.Writes w.faults (frame answer c) (Ok r) sink1 sink2
    → ((next : Program) (trace : List Answered) → P next trace → P' next (trace ++ answered c r ∷ [])) → Going w B P' most first limit method stopped (is_end_call (Some c)) (after_call method answer c) gone old new sink0 sink2
replied w B P P' most first limit method stopped answer gone old mid new sink0 sink1 sink2 c r one g asks turn o sends plays =
    let all = answered c r ∷ [] in
    let here = among first mid.last g.readings o.readings (subst (Contains (first ∷ g.readings)) (sym g.last) (last_among first g.readings)) in
    let has : (y : ℕ) → Contains (first ∷ g.readings) y → Contains (first ∷ (g.readings ++ o.readings)) y = λ y in_old. Contains-append_left (first ∷ g.readings) o.readings y in_old in
    let end : is_end_call (Some c) ≡ true → All (IsTimed new.pass.seen (new.last ∷ [])) (listed o.gained) =
    λ is. subst (λ n. All (IsTimed new.pass.seen (n ∷ [])) (listed o.gained)) (sym (o.last ∙ ap (λ (l : List ℕ). last_of mid.last l) (o.end is).0)) (o.end is).1 in
    record {
      trace = g.trace ++ all;
      before = g.before;
      gained = g.gained ++ listed o.gained;
      readings = g.readings ++ o.readings;
      plays = λ next b. plays next g.trace (g.plays next b);
      runs = λ next b. runs_next next g.before g.trace c r stopped (turn next b) (g.runs next b);
      cut = cut_next one.0 g.before g.trace c r stopped (turn one.0 one.1) g.cut;
      state = state_next g.trace c r mid new g.gained o.gained asks o.gain o.mine end g.state;
      cause = because stopped g.cause;
      mine = o.mine ∙ (ap (λ (l : List (ℕ × Entry)). l ++ listed o.gained) g.mine ∙ append_assoc old.pass.mine g.gained (listed o.gained));
      same = (let s = g.same in let t = o.same in (t.0 ∙ s.0, t.1 ∙ s.1, t.2 ∙ s.2));
      whole = o.whole;
      share = λ s. o.share (g.share s);
      said = said_next g.trace c r mid new g.gained o.gained g.said o.gain;
      guests = guests_next g.gained o.gained g.trace c r mid new asks g.state o.gain g.guests;
      limits = limits_next g.gained o.gained g.trace c r mid new asks o.gain g.limits;
      longer = prefix_on old.pass.seen mid.pass.seen new.pass.seen g.longer o.longer;
      legal = λ l. o.legal (g.legal l);
      clock = w.reads_both old.clock (first ∷ g.readings) mid.clock o.readings new.clock g.clock o.clock;
      last = o.last ∙ (ap (λ n. last_of n o.readings) g.last ∙ sym (last_both first g.readings o.readings));
      timed = All-append (IsTimed new.pass.seen (first ∷ (g.readings ++ o.readings))) g.gained (listed o.gained)
          (All-weaker (IsTimed mid.pass.seen (first ∷ g.readings)) (IsTimed new.pass.seen (first ∷ (g.readings ++ o.readings))) (timed_more mid.pass.seen new.pass.seen (first ∷ g.readings) (first ∷ (g.readings ++ o.readings)) o.longer has) g.gained g.timed)
          (All-weaker (IsTimed new.pass.seen (mid.last ∷ o.readings)) (IsTimed new.pass.seen (first ∷ (g.readings ++ o.readings))) (timed_more new.pass.seen new.pass.seen (mid.last ∷ o.readings) (first ∷ (g.readings ++ o.readings)) ([], append-nil new.pass.seen) here) (listed o.gained) o.timed);
      told = subst (λ l. AreAmong l (g.readings ++ o.readings)) (sym (told_push g.trace (answered c r))) (among_both (told_in g.trace) (told_by r) g.readings o.readings g.told o.told);
      count = (let a = g.count in let b = o.count in let d = length-append g.readings o.readings in let e = length-append g.gained (listed o.gained) in let n = ap length (told_push g.trace (answered c r)) in let m = length-append (told_in g.trace) (told_by r) in omega arith);
      answers = answers-more g.trace (answered c r) g.answers o.answers;
      unlinked = All-append (λ (a : Answered). IsUnlinked a.call a.reply) g.trace all g.unlinked (All-cons (λ (a : Answered). IsUnlinked a.call a.reply) (answered c r) [] o.unlinked (All-nil (λ (a : Answered). IsUnlinked a.call a.reply)));
      fresh = fresh-more [] g.trace (answered c r) g.fresh (fresh_reply (held_behind [] g.trace) c r o.answers o.unlinked);
      answer_is = ap (λ (a : Answer). after_call method a c) g.answer_is ∙ sym (answer_push method Headless g.trace (answered c r));
      gone_is = g.gone_is;
      quiet = λ none. quiets none;
      faults = stays_on (w.faults sink0) (w.faults sink1) (w.faults sink2) g.faults sends.1;
      sink_is = sink_next w B method g.before g.trace c r answer gone sink0 sink1 sink2 g.answer_is (λ is. gone_quiet one.0 answer g.trace c stopped (turn one.0 one.1) (sym g.gone_is ∙ is)) g.sink_is sends;
    }
  where
    because : (s : Option Outcome) → IfSome s (IsCause most first limit g.readings mid.pass.seen (IsAsked B g.before) (Rose (w.faults sink0) (w.faults sink1))) → IfSome s (IsCause most first limit (g.readings ++ o.readings) new.pass.seen (IsAsked B g.before) (Rose (w.faults sink0) (w.faults sink2)))
    because None h = tt
    because (Some why) h =
        cause_more most first limit g.readings (g.readings ++ o.readings) mid.pass.seen new.pass.seen (IsAsked B g.before) (IsAsked B g.before) (Rose (w.faults sink0) (w.faults sink1)) (Rose (w.faults sink0) (w.faults sink2)) (λ y at. Contains-append_left g.readings o.readings y at) o.longer (λ d was. was)
        (λ rose. rose_on (w.faults sink0) (w.faults sink1) (w.faults sink2) rose sends.1) why h

    quiets : is_headless (answer_behind method (g.trace ++ answered c r ∷ [])) ≡ true → all_written (frames method (g.trace ++ answered c r ∷ [])) ≡ []
    quiets none =
        let q = quiet_call method (answer_behind method g.trace) c (ap is_headless (sym (answer_push method Headless g.trace (answered c r))) ∙ none) in
        written_push method g.trace (answered c r) ∙ (ap (λ l. l ++ written (frame (answer_behind method g.trace) c)) (g.quiet q.0) ∙ ap written q.1)

stays_stop : {K : Type 0} (w : K → List Write → K → Type 0) (faults : K → ℕ) (bytes : List ℕ) (why : Outcome) (sink sink' : K) → Sends w faults bytes (Err why) sink sink' → Stays (faults sink) (faults sink')
stays_stop w faults bytes outcome.ClientGone sink sink' sends = sends.3
stays_stop w faults bytes why sink sink' sends = stays (faults sink) (faults sink') (ap faults sends)

-- the guest is to stop
pub halted : {T C K : Type 0} (w : Ways T C K) (B : Program → Type 0) (P P' : Program → List Answered → Type 0) (most first limit : ℕ) (method : List ℕ) (stopped : Option Outcome) (answer : Answer) (gone : Bool) (old mid new : Stand T C) (sink0 sink1 sink2 : K) (c : OuterCall) (why : Outcome) → (next : Program) × B next
    → (g : Going w B P most first limit method stopped false answer gone old mid sink0 sink1) → ((next : Program) → B next → Outer c ≡ due next g.trace false stopped) → Outside w.Reads w.Share most first limit c (Err why) mid new → Sends w.Writes w.faults (frame answer c) (Err why) sink1 sink2
    → ((next : Program) (trace : List Answered) → P next trace → P' next trace) → Going w B P' most first limit method (Some why) false answer (is_gone (Some why)) old new sink0 sink2
halted w B P P' most first limit method (Some was) answer gone old mid new sink0 sink1 sink2 c why one g turn o sends plays =
    absurd (true≢false (sym (ap (λ (d : OuterCall). is_end_call (Some d)) (stopped_call g.trace false was c refl (turn one.0 one.1))) ∙ o.no_end))
halted w B P P' most first limit method None answer gone old mid new sink0 sink1 sink2 c why one g turn o sends plays =
    let n = no_gain c why mid new o.gained o.gain in
    let mine : new.pass.mine ≡ mid.pass.mine = o.mine ∙ (ap (λ (x : Option (ℕ × Entry)). mid.pass.mine ++ listed x) n.1 ∙ append-nil mid.pass.mine) in
    let has : (y : ℕ) → Contains (first ∷ g.readings) y → Contains (first ∷ (g.readings ++ o.readings)) y = λ y in_old. Contains-append_left (first ∷ g.readings) o.readings y in_old in
    record {
      trace = g.trace;
      before = g.trace;
      gained = g.gained;
      readings = g.readings ++ o.readings;
      plays = λ next b. plays next g.trace (g.plays next b);
      runs = λ next b. g.runs next b;
      cut = refl;
      state = same_state g.trace g.trace mid new g.gained n.0 mine g.state;
      cause = because why o.cause sends;
      mine = mine ∙ g.mine;
      same = (let s = g.same in let t = o.same in (t.0 ∙ s.0, t.1 ∙ s.1, t.2 ∙ s.2));
      whole = o.whole;
      share = λ s. o.share (g.share s);
      said = g.said;
      guests = All-weaker (λ (y : ℕ × Entry). y.1.guest ≡ mid.guest) (λ (y : ℕ × Entry). y.1.guest ≡ new.guest) (λ y is. is ∙ sym n.0) g.gained g.guests;
      limits = g.limits;
      longer = prefix_on old.pass.seen mid.pass.seen new.pass.seen g.longer o.longer;
      legal = λ l. o.legal (g.legal l);
      clock = w.reads_both old.clock (first ∷ g.readings) mid.clock o.readings new.clock g.clock o.clock;
      last = o.last ∙ (ap (λ n. last_of n o.readings) g.last ∙ sym (last_both first g.readings o.readings));
      timed = All-weaker (IsTimed mid.pass.seen (first ∷ g.readings)) (IsTimed new.pass.seen (first ∷ (g.readings ++ o.readings))) (timed_more mid.pass.seen new.pass.seen (first ∷ g.readings) (first ∷ (g.readings ++ o.readings)) o.longer has) g.gained g.timed;
      told = subst (λ l. AreAmong l (g.readings ++ o.readings)) (append-nil (told_in g.trace)) (among_both (told_in g.trace) [] g.readings o.readings g.told tt);
      count = (let a = g.count in let b = o.count in let d = length-append g.readings o.readings in let e : length (listed o.gained) ≡ 0 = ap (λ (x : Option (ℕ × Entry)). length (listed x)) n.1 in omega arith);
      answers = g.answers;
      unlinked = g.unlinked;
      fresh = g.fresh;
      answer_is = g.answer_is;
      gone_is = refl;
      quiet = g.quiet;
      faults = stays_on (w.faults sink0) (w.faults sink1) (w.faults sink2) g.faults (stays_stop w.Writes w.faults (frame answer c) why sink1 sink2 sends);
      sink_is = stops why (subst (λ (b : Bool). SinkIs w B method g.before g.trace b sink0 sink1) g.gone_is g.sink_is) sends;
    }
  where
    because : (e : Outcome) → IsCause most first limit o.readings new.pass.seen (λ asked. asked ≡ c) (Unit {0}) e → Sends w.Writes w.faults (frame answer c) (Err e) sink1 sink2 → IsCause most first limit (g.readings ++ o.readings) new.pass.seen (IsAsked B g.trace) (Rose (w.faults sink0) (w.faults sink2)) e
    because (outcome.Timeout start reading) h s = (h.0, Contains-append_right g.readings o.readings reading h.1, h.2)
    because outcome.HistoryFull h s = (h.0, h.1, (λ next b. sym (turn next b) ∙ ap Outer (sym h.2)), h.3, h.4)
    because outcome.ClientGone h s = rose_from (w.faults sink0) (w.faults sink1) (w.faults sink2) g.faults s.2
    because outcome.OutOfMemory h s = tt
    because e h s = absurd h

    stops : (e : Outcome) → w.Writes sink0 (all_written (frames method g.trace)) sink1 → Sends w.Writes w.faults (frame answer c) (Err e) sink1 sink2 → SinkIs w B method g.trace g.trace (is_gone (Some e)) sink0 sink2
    stops outcome.ClientGone was s = record {
      next = c;
      asked = λ next b. sym (turn next b);
      some = subst (λ (a : Answer). 0 < length (frame a c)) g.answer_is s.0;
      writes = w.writes_both sink0 (all_written (frames method g.trace)) sink1 (lost (frame (answer_behind method g.trace) c)) sink2 was (subst (λ (a : Answer). w.Writes sink1 (lost (frame a c)) sink2) g.answer_is s.1);
      rose = rose_from (w.faults sink0) (w.faults sink1) (w.faults sink2) g.faults s.2;
    }
    stops e was s = subst (λ k. w.Writes sink0 (all_written (frames method g.trace)) k) (sym s) was

-- the same guest, with another player
abbrev pub again : {T C K : Type 0} (w : Ways T C K) (B : Program → Type 0) (P P' : Program → List Answered → Type 0) (most first limit : ℕ) (method : List ℕ) (stopped stopped' : Option Outcome) (ended : Bool) (answer : Answer) (gone : Bool) (old new : Stand T C) (sink sink' : K) (g : Going w B P most first limit method stopped ended answer gone old new sink sink') (before : List Answered)
    → ((next : Program) (trace : List Answered) → P next trace → P' next trace) → ((next : Program) → B next → Follows next (upto stopped' before g.trace)) → IsCutAt before g.trace ended stopped' → IfSome stopped' (IsCause most first limit g.readings new.pass.seen (IsAsked B before) (Rose (w.faults sink) (w.faults sink')))
    → extra stopped ≤ extra stopped' → gone ≡ is_gone stopped' → SinkIs w B method before g.trace gone sink sink' → Going w B P' most first limit method stopped' ended answer gone old new sink sink'
again w B P P' most first limit method stopped stopped' ended answer gone old new sink sink' g before plays runs cut cause more is sink_is = record {
  trace = g.trace;
  before = before;
  gained = g.gained;
  readings = g.readings;
  plays = λ next b. plays next g.trace (g.plays next b);
  runs = runs;
  cut = cut;
  state = g.state;
  cause = cause;
  mine = g.mine;
  same = g.same;
  whole = g.whole;
  share = g.share;
  said = g.said;
  guests = g.guests;
  limits = g.limits;
  longer = g.longer;
  legal = g.legal;
  clock = g.clock;
  last = g.last;
  timed = g.timed;
  told = g.told;
  count = (let c = g.count in omega arith);
  answers = g.answers;
  unlinked = g.unlinked;
  fresh = g.fresh;
  answer_is = g.answer_is;
  gone_is = is;
  quiet = g.quiet;
  faults = g.faults;
  sink_is = sink_is;
}

-- a player that went on may have been stopped for want of memory
pub advanced : {T C K : Type 0} (w : Ways T C K) (B : Program → Type 0) (P P' M : Program → List Answered → Type 0) (most first limit : ℕ) (method : List ℕ) (stopped stopped' : Option Outcome) (ended : Bool) (answer : Answer) (gone : Bool) (old new : Stand T C) (sink sink' : K) → (next : Program) × B next
    → (g : Going w B P most first limit method stopped ended answer gone old new sink sink') → ((next : Program) (trace : List Answered) → P next trace → may.IsStopAfter (M next trace) ended stopped stopped') → ((next : Program) (trace : List Answered) → P next trace → P' next trace)
    → (k : Going w B P' most first limit method stopped' ended answer gone old new sink sink') × (k.trace ≡ g.trace)
advanced w B P P' M most first limit method None None ended answer gone old new sink sink' one g stop plays =
    (again w B P P' most first limit method None None ended answer gone old new sink sink' g g.before plays g.runs tt tt (omega arith) g.gone_is g.sink_is, refl)
advanced w B P P' M most first limit method None (Some why) ended answer gone old new sink sink' one g stop plays =
    let h = stop one.0 g.trace (g.plays one.0 one.1) in (
      again w B P P' most first limit method None (Some why) ended answer gone old new sink sink' g g.trace plays g.runs
          (subst (λ (b : Bool). IsCutAt g.trace g.trace b (Some why)) (sym h.1) refl)
          (subst (IsCause most first limit g.readings new.pass.seen (IsAsked B g.trace) (Rose (w.faults sink) (w.faults sink'))) (sym h.2) tt)
          (omega arith)
          (g.gone_is ∙ sym (ap (λ (o : Outcome). is_gone (Some o)) h.2))
          (subst (λ (b : Bool). SinkIs w B method g.trace g.trace b sink sink') (sym g.gone_is) (subst (λ (b : Bool). SinkIs w B method g.before g.trace b sink sink') g.gone_is g.sink_is)),
      refl,
    )
advanced w B P P' M most first limit method (Some was) stopped' ended answer gone old new sink sink' one g stop plays =
    let h : stopped' ≡ Some was = stop one.0 g.trace (g.plays one.0 one.1) in
    subst (λ (s : Option Outcome). (k : Going w B P' most first limit method s ended answer gone old new sink sink') × (k.trace ≡ g.trace)) (sym h)
    (again w B P P' most first limit method (Some was) (Some was) ended answer gone old new sink sink' g g.before plays g.runs g.cut g.cause (omega arith) g.gone_is g.sink_is, refl)

-- what may be asked at a turn of the loop
pub may_turn : {T C K : Type 0} (w : Ways T C K) (B : Program → Type 0) (P : Program → List Answered → Type 0) (most first limit : ℕ) (method : List ℕ) (stopped stopped1 : Option Outcome) (ended ended1 : Bool) (answer : Answer) (gone : Bool) (old mid : Stand T C) (sink sink' : K) (c : OuterCall) (turn : Turn) → (next : Program) × B next
    → Going w B P most first limit method stopped ended answer gone old mid sink sink' → ended1 ≡ ended → ((next : Program) (trace : List Answered) → P next trace → AreFresh trace → may.MayTake trace ended1 stopped1 turn) → turn ≡ Outer c → MayAskOuter mid.pass mid.guest c
may_turn w B P most first limit method stopped stopped1 true ended1 answer gone old mid sink sink' c turn one g same takes is =
    let p : may.MayTake g.trace ended1 stopped1 (Outer c) = subst (may.MayTake g.trace ended1 stopped1) is (takes one.0 g.trace (g.plays one.0 one.1) g.fresh) in absurd (true≢false (sym same ∙ p.0))
may_turn w B P most first limit method stopped stopped1 false ended1 answer gone old mid sink sink' c turn one g same takes is =
    let p : may.MayTake g.trace ended1 stopped1 (Outer c) = subst (may.MayTake g.trace ended1 stopped1) is (takes one.0 g.trace (g.plays one.0 one.1) g.fresh) in
    may_ask g.trace c mid g.gained old.pass.mine g.mine g.state p.1

-- the reply is one to the call that waits
pub heard : (waits : Option OuterCall) (c : OuterCall) (turn : Turn) (given : Result OuterReply Outcome) → waits ≡ call_in turn → turn ≡ Outer c → IfOk given (λ r. IsTrue (is_answer c r)) → IfOk given (may.MayAnswer waits)
heard waits c turn given waited is answers = subst (λ (o : Option OuterCall). IfOk given (may.MayAnswer o)) (sym (waited ∙ ap call_in is)) (by given answers)
  where
    by : (x : Result OuterReply Outcome) → IfOk x (λ r. IsTrue (is_answer c r)) → IfOk x (may.MayAnswer (Some c))
    by (Ok r) h = h
    by (Err e) h = tt

-- one turn of the loop
pub preserved : {T C K : Type 0} (w : Ways T C K) (B : Program → Type 0) (P P1 P2 M : Program → List Answered → Type 0) (most first limit : ℕ) (method : List ℕ) (stopped stopped1 stopped2 : Option Outcome) (ended ended1 ended2 : Bool) (answer answer2 : Answer) (gone gone2 : Bool) (old mid new : Stand T C) (sink0 sink1 sink2 : K) (c : OuterCall) (given : Result OuterReply Outcome) (waits : Option OuterCall) (turn : Turn)
    → (next : Program) × B next → Going w B P most first limit method stopped ended answer gone old mid sink0 sink1 → ((next : Program) (trace : List Answered) → P next trace → may.IsStopAfter (M next trace) ended stopped stopped1) → ended1 ≡ ended → ((next : Program) (trace : List Answered) → P next trace → P1 next trace)
    → ((next : Program) (trace : List Answered) → P next trace → turn ≡ due next trace ended1 stopped1) → ((next : Program) (trace : List Answered) → P next trace → AreFresh trace → may.MayTake trace ended1 stopped1 turn) → turn ≡ Outer c → waits ≡ call_in turn
    → Outside w.Reads w.Share most first limit c given mid new → Sends w.Writes w.faults (frame answer c) given sink1 sink2 → ((next : Program) (trace : List Answered) → P1 next trace → P2 next (trace_by trace waits given)) → stopped2 ≡ stopped_by stopped1 given → ended2 ≡ ended_by ended1 waits given
    → answer2 ≡ answer_by method answer c given → gone2 ≡ gone_by gone given → Going w B P2 most first limit method stopped2 ended2 answer2 gone2 old new sink0 sink2
preserved w B P P1 P2 M most first limit method stopped stopped1 stopped2 ended ended1 ended2 answer answer2 gone gone2 old mid new sink0 sink1 sink2 c given waits turn one g stop same plays due_is takes is waited o sends plays2 s2 e2 a2 g2 =
    subst (λ (s : Option Outcome). Going w B P2 most first limit method s ended2 answer2 gone2 old new sink0 sink2) (sym s2)
    (subst (λ (b : Bool). Going w B P2 most first limit method (stopped_by stopped1 given) b answer2 gone2 old new sink0 sink2) (sym e2)
    (subst (λ (a : Answer). Going w B P2 most first limit method (stopped_by stopped1 given) (ended_by ended1 waits given) a gone2 old new sink0 sink2) (sym a2)
    (subst (λ (b : Bool). Going w B P2 most first limit method (stopped_by stopped1 given) (ended_by ended1 waits given) (answer_by method answer c given) b old new sink0 sink2) (sym g2) (by ended g stop same given o sends plays2))))
  where
    asked : waits ≡ Some c
    asked = waited ∙ ap call_in is

    by : (e : Bool) → Going w B P most first limit method stopped e answer gone old mid sink0 sink1 → ((next : Program) (trace : List Answered) → P next trace → may.IsStopAfter (M next trace) e stopped stopped1) → ended1 ≡ e → (x : Result OuterReply Outcome) → Outside w.Reads w.Share most first limit c x mid new → Sends w.Writes w.faults (frame answer c) x sink1 sink2
        → ((next : Program) (trace : List Answered) → P1 next trace → P2 next (trace_by trace waits x)) → Going w B P2 most first limit method (stopped_by stopped1 x) (ended_by ended1 waits x) (answer_by method answer c x) (gone_by gone x) old new sink0 sink2
    by true g stop same x o sends plays2 =
        let p : may.MayTake g.trace ended1 stopped1 (Outer c) = subst (may.MayTake g.trace ended1 stopped1) is (takes one.0 g.trace (g.plays one.0 one.1) g.fresh) in
        absurd (true≢false (sym same ∙ p.0))
    by false g stop same (Ok r) o sends plays2 =
        let p : may.MayTake g.trace ended1 stopped1 (Outer c) = subst (may.MayTake g.trace ended1 stopped1) is (takes one.0 g.trace (g.plays one.0 one.1) g.fresh) in
        let k = advanced w B P P1 M most first limit method stopped stopped1 false answer gone old mid sink0 sink1 one g stop plays in
        subst (λ (b : Bool). Going w B P2 most first limit method stopped1 b (after_call method answer c) gone old new sink0 sink2) (sym (ap is_end_call asked))
        (replied w B P1 P2 most first limit method stopped1 answer gone old mid new sink0 sink1 sink2 c r one k.0 (subst (λ (t : List Answered). may.MayAsk t c) (sym k.1) p.1)
        (λ next b. sym is ∙ (due_is next g.trace (g.plays next b) ∙ (ap (λ e. due next g.trace e stopped1) same ∙ ap (λ t. due next t false stopped1) (sym k.1)))) o sends
        (λ next trace p1. subst (λ (o : Option OuterCall). P2 next (trace_by trace o (Ok r))) asked (plays2 next trace p1)))
    by false g stop same (Err why) o sends plays2 =
        let k = advanced w B P P1 M most first limit method stopped stopped1 false answer gone old mid sink0 sink1 one g stop plays in
        subst (λ (b : Bool). Going w B P2 most first limit method (Some why) b answer (is_gone (Some why)) old new sink0 sink2) (sym same)
        (halted w B P1 P2 most first limit method stopped1 answer gone old mid new sink0 sink1 sink2 c why one k.0
        (λ next b. sym is ∙ (due_is next g.trace (g.plays next b) ∙ (ap (λ e. due next g.trace e stopped1) same ∙ ap (λ t. due next t false stopped1) (sym k.1)))) o sends plays2)

-- before the first call
pub begins : {T C K : Type 0} (w : Ways T C K) (B : Program → Type 0) (P : Program → List Answered → Type 0) (most first limit : ℕ) (method : List ℕ) (pass : PassView T Entry) (clock clock' : C) (sink : K) (stopped : Option Outcome) (ended : Bool) → HasWhole pass → w.Reads clock (first ∷ []) clock' → ((next : Program) → B next → P next []) → stopped ≡ None → ended ≡ false
    → Going w B P most first limit method stopped ended Headless false (stand pass 0 0 clock) (stand pass 0 first clock') sink sink
begins w B P most first limit method pass clock clock' sink stopped ended whole read plays none off =
    subst (λ (s : Option Outcome). Going w B P most first limit method s ended Headless false (stand pass 0 0 clock) (stand pass 0 first clock') sink sink) (sym none)
    (subst (λ (b : Bool). Going w B P most first limit method None b Headless false (stand pass 0 0 clock) (stand pass 0 first clock') sink sink) (sym off) record {
      trace = [];
      before = [];
      gained = [];
      readings = [];
      plays = plays;
      runs = λ next b. tt;
      cut = tt;
      state = (refl, refl, refl);
      cause = tt;
      mine = sym (append-nil pass.mine);
      same = (refl, refl, refl);
      whole = whole;
      share = λ s. s;
      said = refl;
      guests = All-nil (λ (x : ℕ × Entry). x.1.guest ≡ 0);
      limits = All-nil (λ (x : ℕ × Entry). IsTrue (is_within_limits x.1.call));
      longer = ([], append-nil pass.seen);
      legal = λ l. l;
      clock = read;
      last = refl;
      timed = All-nil (IsTimed pass.seen (first ∷ []));
      told = tt;
      count = omega arith;
      answers = refl;
      unlinked = All-nil (λ (a : Answered). IsUnlinked a.call a.reply);
      fresh = tt;
      answer_is = refl;
      gone_is = refl;
      quiet = λ _. refl;
      faults = stays (w.faults sink) (w.faults sink) refl;
      sink_is = w.writes_none sink;
    })
