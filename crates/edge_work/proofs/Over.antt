-- The end of a guest.
use Rattle.std.proofs.Common.{◌≡◌, ◌⊎◌, inl, inr, ℕ, ◌≤◌, Bool, true, false, true≢false, not, ◌||◌, List, [], ◌∷◌, ◌++◌, map, reverse, Contains, IsTrue, IfSome, Option, None, Some, is_some, if◌then◌else◌, refl, sym, ap, ◌∙◌, subst, arith}
use Rattle.std.proofs.lemmas.List.Elements.{All-weaker, Contains-append_right}
use Rattle.std.proofs.lemmas.List.{append-nil, map-append, reverse-append, reverse-reverse}
use Rattle.turnstile.specs.Log.{entries_of}
use Rattle.turnstile.specs.Pass.{PassView}
use Rattle.cache_types.specs.declared.calls.CacheCall.TheVariants.{End}
use Rattle.cache_types.specs.declared.entries.Entry.{Entry}
use Rattle.cache_types.specs.declared.outer.Done.{Done}
use Rattle.cache_types.specs.declared.outer.OuterCall.{OuterCall}
use Rattle.cache_types.specs.declared.outer.OuterCall.TheVariants as call
use Rattle.cache_types.specs.declared.outer.Outcome.{Outcome}
use Rattle.cache_types.specs.Entries.{newest_first, has_ended}
use Rattle.cache_hub.specs.Calls.{own_of, HasWhole}
use Rattle.cache_hub.proofs.Guests.{own_reverse, ended_own}
use Rattle.edge_outside.specs.Faults.{Rose}
use Rattle.edge_outside.specs.Sink.{Write}
use Rattle.player.specs.declared.turn.Turn.{Turn}
use Rattle.player.specs.declared.turn.Turn.TheVariants.{Outer, Over}
use Rattle.player.specs.Plays.{Program, Answered, due, events_of}
use Rattle.player.specs.May as may
use Rattle.player.specs.Runs.{Follows}
use Rattle.player.specs.Tickets.{AreFresh}
use Rattle.schedule_play.specs.Schedule.{answered_of}
use Rattle.schedule_play.specs.Blocks.{own, told_of, cache_calls}
use Rattle.guest_answers.specs.declared.answer.Answer.{Answer}
use Rattle.guest_answers.specs.Wire.{frames, answer_behind, is_headless, failure, sent}
use Rattle.edge_work.specs.Sent.{written, all_written, lost, Stays, Fails, Finished}
use Rattle.edge_work.specs.Outside.{Stand, stand, last_of, IsCause, is_gone}
use Rattle.edge_work.specs.Next.{is_done}
use Rattle.edge_work.specs.Work.{IsEndBehind, IsStoppedAt, IsRunOf, IsAsked, IsKnown, IsNobody, IsBrokenOff, HasSent, WorkedOne}
use Rattle.edge_work.proofs.Lists.{stays, rose_on, rose_from}
use Rattle.edge_work.proofs.Ways.{Ways}
use Rattle.edge_work.proofs.Going.{Going, IsState, SinkIs, Begun, IsCutAt, Phase, upto, extra, cause_more}
use Rattle.edge_work.proofs.Steps.{advanced}

map_reverse : {A B : Type 0} (f : A → B) (xs : List A) → map f (reverse xs) ≡ reverse (map f xs)
map_reverse f [] = refl
map_reverse f (x ∷ xs) = ap (map f) (reverse-append (x ∷ []) xs) ∙ (map-append f (reverse xs) (x ∷ []) ∙ (ap (λ l. l ++ f x ∷ []) (map_reverse f xs) ∙ sym (reverse-append (f x ∷ []) (map f xs))))

-- what the cache told a guest, in its order
pub told_own : (history : List Entry) (g : ℕ) → told_of (own (newest_first history) g) ≡ map answered_of (own_of g history)
told_own history g =
    ap told_of (sym (own_reverse g history)) ∙ (ap reverse (map_reverse answered_of (own_of g history)) ∙ reverse-reverse (map answered_of (own_of g history)))

same_why : (a b : Outcome) → Over a ≡ Over b → a ≡ b
same_why a b e = cc (e)

not_outer : (c : OuterCall) (why : Outcome) → Over why ≡ Outer c → ⊥
not_outer c why e = cc (e)

-- a player is over where it never began, and behind its End
over_ends : (next : Program) (trace : List Answered) (ended : Bool) (stopped : Option Outcome) (why : Outcome) → IsTrue (ended || is_some stopped) → Over why ≡ due next trace ended stopped → (trace ≡ []) ⊎ (ended ≡ true)
over_ends next trace true stopped why over turn = inr refl
over_ends next trace false None why over turn = absurd (true≢false (sym over))
over_ends next [] false (Some was) why over turn = inl refl
over_ends next (a ∷ trace) false (Some was) why over turn = absurd (not_outer (call.Cache End) why turn)

stopped_at : (before trace : List Answered) → IsEndBehind before trace → may.is_empty before ≡ false → IsStoppedAt before trace
stopped_at [] trace behind some = absurd (true≢false some)
stopped_at (a ∷ before) trace behind some = behind

runs_over : (next : Program) (before trace : List Answered) (ended : Bool) (stopped : Option Outcome) (why : Outcome) → (trace ≡ []) ⊎ (ended ≡ true) → (trace ≡ [] → ended ≡ false) → Over why ≡ due next trace ended stopped → IsCutAt before trace ended stopped → Follows next (upto stopped before trace) → IsRunOf next before trace stopped why
runs_over next before trace ended None why over none turn cut f = (f, sym turn)
runs_over next before [] true (Some was) why over none turn cut f = absurd (true≢false (none refl))
runs_over next before [] false (Some was) why over none turn cut f = (same_why why was turn, f, subst (λ (l : List Answered). IsStoppedAt l []) cut refl)
runs_over next before (a ∷ trace) true (Some was) why over none turn cut f = (same_why why was turn, f, stopped_at before (a ∷ trace) cut.0 cut.1)
runs_over next before (a ∷ trace) false (Some was) why (inl none) empty turn cut f = absurd (full none)
  where
    full : (a ∷ trace) ≡ [] → ⊥
    full e = cc (e)
runs_over next before (a ∷ trace) false (Some was) why (inr off) none turn cut f = absurd (true≢false (sym off))

finished_stays : {K : Type 0} (Writes : K → List Write → K → Type 0) (faults : K → ℕ) (done : Bool) (sink sink' : K) → Finished Writes faults done sink sink' → Stays (faults sink) (faults sink')
finished_stays Writes faults true sink sink' same = stays (faults sink) (faults sink') (ap faults same)
finished_stays Writes faults false sink sink' (inl got) = got.1
finished_stays Writes faults false sink sink' (inr got) = got.2

has_sent : {T C K : Type 0} (w : Ways T C K) (B : Program → Type 0) (method : List ℕ) (before trace : List Answered) (stopped : Option Outcome) (answer : Answer) (gone : Bool) (sink0 sink1 sink2 : K) → answer ≡ answer_behind method trace → gone ≡ is_gone stopped → (is_headless (answer_behind method trace) ≡ true → all_written (frames method trace) ≡ [])
    → Stays (w.faults sink0) (w.faults sink1) → SinkIs w B method before trace gone sink0 sink1 → Finished w.Writes w.faults (is_done answer gone) sink1 sink2 → HasSent w.Writes w.faults B method before trace stopped sink0 sink2
has_sent w B method before trace stopped answer gone sink0 sink1 sink2 is gs quiet stay was fin =
    by (is_headless (answer_behind method trace)) refl gone gs was (subst (λ (a : Answer). Finished w.Writes w.faults (is_done a gone) sink1 sink2) is fin)
  where
    fails : is_headless (answer_behind method trace) ≡ true → false ≡ is_gone stopped → w.Writes sink0 (all_written (frames method trace)) sink1 → Fails w.Writes w.faults sink1 sink2 → HasSent w.Writes w.faults B method before trace stopped sink0 sink2
    fails head gs was (inl got) =
        let all : w.Writes sink0 (written failure) sink2 = w.writes_both sink0 [] sink1 (written failure) sink2 (subst (λ l. w.Writes sink0 l sink1) (quiet head) was) got.0 in
        inl (sym gs, subst (λ (b : Bool). w.Writes sink0 (all_written (if b then failure ∷ [] else frames method trace)) sink2) (sym head) (subst (λ l. w.Writes sink0 l sink2) (sym (append-nil (written failure))) all))
    fails head gs was (inr got) =
        inr (inr (sym gs, head, w.writes_both sink0 [] sink1 (lost failure) sink2 (subst (λ l. w.Writes sink0 l sink1) (quiet head) was) got.0, rose_from (w.faults sink0) (w.faults sink1) (w.faults sink2) stay got.1))

    by : (h : Bool) → is_headless (answer_behind method trace) ≡ h → (b : Bool) → b ≡ is_gone stopped → SinkIs w B method before trace b sink0 sink1 → Finished w.Writes w.faults (not h || b) sink1 sink2 → HasSent w.Writes w.faults B method before trace stopped sink0 sink2
    by true head true gs was fin = inr (inl (sym gs, subst (λ k. IsBrokenOff w.Writes w.faults B method before sink0 k) (sym fin) was))
    by false head true gs was fin = inr (inl (sym gs, subst (λ k. IsBrokenOff w.Writes w.faults B method before sink0 k) (sym fin) was))
    by false head false gs was fin = inl (sym gs, subst (λ k. w.Writes sink0 (all_written (sent method trace)) k) (sym fin) (subst (λ (b : Bool). w.Writes sink0 (all_written (if b then failure ∷ [] else frames method trace)) sink1) (sym head) was))
    by true head false gs was fin = fails head gs was fin

module _ {T C : Type 0} where
  -- the guest's own entries are those of the history
  own_seen : (new : Stand T C) (gained base : List (ℕ × Entry)) (trace : List Answered) (ended : Bool) → HasWhole new.pass → new.pass.mine ≡ base ++ gained → Begun trace ended new gained → entries_of gained ≡ own_of new.guest new.pass.seen
  own_seen new gained base trace ended whole mine b =
      sym b.own ∙ whole new.guest (b.opener.0, subst (λ (l : List (ℕ × Entry)). Contains l (new.guest, b.opener.0)) (sym mine) (Contains-append_right base gained (new.guest, b.opener.0) b.opener.1), b.opener.2)

  none_ended : (trace whole : List Answered) (ended : Bool) (new : Stand T C) (gained : List (ℕ × Entry)) → IsState trace whole ended new gained → trace ≡ [] → ended ≡ false
  none_ended [] whole ended new gained state none = state.2
  none_ended (a ∷ trace) whole ended new gained state none = absurd (full none)
    where
      full : (a ∷ trace) ≡ [] → ⊥
      full e = cc (e)

  known : (trace whole : List Answered) (ended : Bool) (new : Stand T C) (gained base : List (ℕ × Entry)) → trace ≡ whole → (whole ≡ []) ⊎ (ended ≡ true) → HasWhole new.pass → new.pass.mine ≡ base ++ gained → cache_calls whole ≡ map answered_of (entries_of gained) → IsState trace whole ended new gained
      → IsNobody gained whole new.guest ⊎ IsKnown new.pass.seen gained whole new.last new.guest
  known [] whole ended new gained base same over w mine said state = inl (record { guest_is = state.0; no_calls = sym same; no_entries = state.1 })
  known (a ∷ trace) whole ended new gained base same (inl none) w mine said b = absurd (full (same ∙ none))
    where
      full : (a ∷ trace) ≡ [] → ⊥
      full e = cc (e)
  known (a ∷ trace) whole ended new gained base same (inr on) w mine said b =
      let phase : Phase true whole new.pass.seen gained new.last new.guest = subst (λ (x : Bool). Phase x whole new.pass.seen gained new.last new.guest) on b.phase in
      let own_is = own_seen new gained base whole ended w mine b in
      inr (record {
        positive = b.positive;
        opener = b.opener;
        tied = said ∙ (ap (map answered_of) own_is ∙ sym (told_own new.pass.seen new.guest));
        ends = phase.1;
        ended = sym (ended_own new.guest (newest_first new.pass.seen)) ∙ (ap (λ (l : List Entry). has_ended l new.guest) (sym (own_reverse new.guest new.pass.seen)) ∙ (ap (λ (l : List Entry). has_ended (newest_first l) new.guest) (sym own_is) ∙ phase.0));
        end = phase.2;
      })

-- the guest is over
pub ends : {T C K : Type 0} (w : Ways T C K) (B : Program → Type 0) (P P1 M : Program → List Answered → Type 0) (most first limit index : ℕ) (method : List ℕ) (stopped stopped1 : Option Outcome) (ended ended1 : Bool) (answer : Answer) (gone : Bool) (old : Stand T C) (pass : PassView T Entry) (guest last : ℕ) (clock : C) (sink0 sink1 sink2 : K) (turn : Turn) (done : Done)
    → (next : Program) × B next → Going w B P most first limit method stopped ended answer gone old (stand pass guest last clock) sink0 sink1 → ((next : Program) (trace : List Answered) → P next trace → may.IsStopAfter (M next trace) ended stopped stopped1) → ended1 ≡ ended → ((next : Program) (trace : List Answered) → P next trace → P1 next trace)
    → ((next : Program) (trace : List Answered) → P next trace → turn ≡ due next trace ended1 stopped1) → ((next : Program) (trace : List Answered) → P next trace → AreFresh trace → may.MayTake trace ended1 stopped1 turn) → turn ≡ Over done.outcome → (over : Bool) → over ≡ is_done answer gone → Finished w.Writes w.faults over sink1 sink2
    → ((next : Program) (trace : List Answered) → P1 next trace → done.trace ≡ events_of trace) → done.index ≡ index → done.guest ≡ guest → WorkedOne w.Reads w.Writes w.faults B most limit index method old.pass pass old.clock clock sink0 sink2 done
ends w B P P1 M most first limit index method stopped stopped1 ended ended1 answer gone old pass guest last clock sink0 sink1 sink2 turn done one was stop same plays due_is takes is over over_is over_fin events numbered named =
    let mid = stand pass guest last clock in
    let k = advanced w B P P1 M most first limit method stopped stopped1 ended answer gone old mid sink0 sink1 one was stop plays in
    let g = k.0 in
    let due1 : (next : Program) → B next → Over done.outcome ≡ due next g.trace ended stopped1 =
    λ next b. sym is ∙ (due_is next was.trace (was.plays next b) ∙ (ap (λ e. due next was.trace e stopped1) same ∙ ap (λ t. due next t ended stopped1) (sym k.1))) in
    let took : may.MayTake was.trace ended1 stopped1 (Over done.outcome) = subst (may.MayTake was.trace ended1 stopped1) is (takes one.0 was.trace (was.plays one.0 one.1) was.fresh) in
    let p : (g.trace ≡ []) ⊎ (ended ≡ true) = over_ends one.0 g.trace ended stopped1 done.outcome (subst (λ (e : Bool). IsTrue (e || is_some stopped1)) same took) (due1 one.0 one.1) in
    let known_is = known g.trace g.trace ended mid g.gained old.pass.mine refl p g.whole g.mine g.said g.state in
    record {
      trace = g.trace;
      before = g.before;
      stopped = stopped1;
      gained = g.gained;
      first = first;
      readings = g.readings;
      index_is = numbered;
      events_are = events one.0 g.trace (g.plays one.0 one.1);
      answers = g.answers;
      unlinked = g.unlinked;
      runs = λ next b. runs_over next g.before g.trace ended stopped1 done.outcome p (none_ended g.trace g.trace ended mid g.gained g.state) (due1 next b) g.cut (g.runs next b);
      cause = because stopped1 g.before g.readings g.cause;
      guest = subst (λ n. IsNobody g.gained g.trace n ⊎ IsKnown pass.seen g.gained g.trace (last_of first g.readings) n) (sym named) (subst (λ l. IsNobody g.gained g.trace guest ⊎ IsKnown pass.seen g.gained g.trace l guest) g.last known_is);
      mine = g.mine;
      of_guest = All-weaker (λ (x : ℕ × Entry). x.1.guest ≡ guest) (λ (x : ℕ × Entry). x.1.guest ≡ done.guest) (λ x e. e ∙ sym named) g.gained g.guests;
      limits = g.limits;
      longer = g.longer;
      legal = g.legal;
      read = g.clock;
      timed = g.timed;
      told = g.told;
      count = (let c = g.count in let e = most_two stopped1 in omega arith);
      client = has_sent w B method g.before g.trace stopped1 answer gone sink0 sink1 sink2 g.answer_is g.gone_is g.quiet g.faults g.sink_is fin;
    }
  where
    fin : Finished w.Writes w.faults (is_done answer gone) sink1 sink2
    fin = subst (λ (b : Bool). Finished w.Writes w.faults b sink1 sink2) over_is over_fin

    most_two : (s : Option Outcome) → extra s ≤ 2
    most_two None = omega arith
    most_two (Some why) = omega arith

    because : (s : Option Outcome) (before : List Answered) (readings : List ℕ) → IfSome s (IsCause most first limit readings pass.seen (IsAsked B before) (Rose (w.faults sink0) (w.faults sink1))) → IfSome s (IsCause most first limit readings pass.seen (IsAsked B before) (Rose (w.faults sink0) (w.faults sink2)))
    because None before readings e = tt
    because (Some why) before readings e =
        cause_more most first limit readings readings pass.seen pass.seen (IsAsked B before) (IsAsked B before) (Rose (w.faults sink0) (w.faults sink1)) (Rose (w.faults sink0) (w.faults sink2)) (λ y at. at) ([], append-nil pass.seen) (λ d asked. asked)
        (λ rose. rose_on (w.faults sink0) (w.faults sink1) (w.faults sink2) rose (finished_stays w.Writes w.faults (is_done answer gone) sink1 sink2 fin)) why e
