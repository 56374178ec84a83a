-- One outer call, by its kind.
use Rattle.std.proofs.Common.{◌≡◌, inl, ℕ, ◌+◌, ◌<◌, ◌≤◌, Bool, true, false, true≢false, not, ◌==◌, cond, List, [], ◌∷◌, ◌++◌, length, All, Contains, IsTrue, IfOk, IfErr, Option, None, Some, Result, Ok, Err, if◌then◌else◌, refl, sym, ap, ◌∙◌, subst, arith, eq-eqb, ne_eqb}
use mathlib.Core.List.{IsPrefix}
use Rattle.std.proofs.lemmas.List.Elements.{All-cons, All-nil, All-head, All-tail, Contains-push, filter-append}
use Rattle.std.proofs.lemmas.List.{length-append, length-reverse, append-nil, append_cancel_right, map-append}
use Rattle.turnstile.specs.Log.{entries_of}
use Rattle.turnstile.specs.Pass.{PassView, IsSamePass, after_turn}
use Rattle.cache_types.specs.declared.calls.CacheCall.{CacheCall}
use Rattle.cache_types.specs.declared.calls.CacheCall.TheVariants.{Begin, End}
use Rattle.cache_types.specs.declared.entries.Entry.{Entry}
use Rattle.cache_types.specs.declared.entries.Stepped.{Stepped}
use Rattle.cache_types.specs.declared.replies.Reply.TheVariants.{NotYet, Done}
use Rattle.cache_types.specs.declared.outer.OuterCall.{OuterCall}
use Rattle.cache_types.specs.declared.outer.OuterCall.TheVariants as call
use Rattle.cache_types.specs.declared.outer.OuterReply.{OuterReply}
use Rattle.cache_types.specs.declared.outer.OuterReply.TheVariants as reply
use Rattle.cache_types.specs.declared.outer.Outcome.{Outcome}
use Rattle.cache_types.specs.declared.outer.Outcome.TheVariants as outcome
use Rattle.cache_types.specs.Entries.{newest_first, next_number, is_end, is_not_yet}
use Rattle.cache_types.specs.Legal.{IsLegal}
use Rattle.cache_types.specs.Step.{guest_of, entry_after}
use Rattle.cache_hub.specs.declared.faults.UntilFault.{UntilFault}
use Rattle.cache_hub.specs.declared.faults.UntilFault.TheVariants as until_fault
use Rattle.cache_hub.specs.Calls.{own_of, IsOpener, Tried, HasWhole}
use Rattle.cache_hub.specs.Until.{CalledUntil, HasEnded}
use Rattle.cache_hub.proofs.Waits.{prefix_on, told_reply}
use Rattle.cache_hub.proofs.Guests.{guests_older}
use Rattle.edge_outside.specs.Clock.{ClockContent, AreReadings, TellsWhereTold}
use Rattle.edge_outside.proofs.Readings.{no_readings}
use Rattle.player.specs.Plays.{is_end_call}
use Rattle.player.specs.Runs.{is_answer}
use Rattle.edge_work.specs.Sent.{IsClientGiven}
use Rattle.edge_work.specs.Outside.{stand, last_of, IsTimed, told_by, AreAmong, IsUnlinked, IsCause, outcome_of, named, spare, NoEntry, IsNamed, IsGain, Outside}
use Rattle.edge_work.proofs.Lists.{last_push}
use Rattle.edge_work.proofs.Ways.{one_reading}

none_older : (list : List Entry) (g : ℕ) → All (λ (e : Entry). e.guest < g) list → own_of g list ≡ []
none_older [] g all = refl
none_older (e ∷ list) g all =
    let less = All-head (λ (e : Entry). e.guest < g) e list all in
    let isnt : (e.guest == g) ≡ false = ne_eqb e.guest g (λ same. absurd (omega (arith, less, same))) in
    ap (λ (b : Bool). cond b (e ∷ own_of g list) (own_of g list)) isnt ∙ none_older list g (All-tail (λ (e : Entry). e.guest < g) e list all)

own_one : (e : Entry) (g : ℕ) → e.guest ≡ g → own_of g (e ∷ []) ≡ e ∷ []
own_one e g same = ap (λ (b : Bool). cond b (e ∷ []) []) (eq-eqb e.guest g same)

pub own_push : (list : List Entry) (e : Entry) (g : ℕ) → e.guest ≡ g → own_of g (list ++ e ∷ []) ≡ own_of g list ++ e ∷ []
own_push list e g same = filter-append (λ (e : Entry). e.guest == g) list (e ∷ []) ∙ ap (λ (l : List Entry). own_of g list ++ l) (own_one e g same)

is_off : (b : Bool) → IsTrue (not b) → b ≡ false
is_off true isnt = absurd (true≢false (sym isnt))
is_off false isnt = refl

module _ {T : Type 0} where
  -- what a step that was made left: the entry is the call's
  pub record MadeStep (most : ℕ) (before : PassView T Entry) (guest reading : ℕ) (c : CacheCall) (t : Stepped) (after : PassView T Entry) : Type 0 where
    pub list : List Entry
    pub e : Entry
    pub entry : e ≡ entry_after (newest_first list) guest reading c
    pub tells : t ≡ record { number = e.number; reply = e.reply }
    pub legal : IsLegal list
    pub longer : IsPrefix before.seen list
    pub result : after ≡ record before { seen = list ++ e ∷ []; mine = before.mine ++ (1 + length list, e) ∷ [] }
    pub stays : IsLegal after.seen

  made_step : (most : ℕ) (before after : PassView T Entry) (guest reading : ℕ) (c : CacheCall) (t : Stepped) → Tried most before guest reading c (Ok t) after → is_not_yet t.reply ≡ false → MadeStep most before guest reading c t after
  made_step most before after guest reading c t tried answered =
      let e = entry_after (newest_first tried.list) guest reading c in
      let isnt : is_not_yet e.reply ≡ false = sym (told_reply e) ∙ (ap (λ (s : Stepped). is_not_yet s.reply) (sym tried.gives.reply) ∙ answered) in
      let one : tried.gained ≡ Some e = tried.gives.entry ∙ ap (λ (b : Bool). if b then None else Some e) isnt in
      record {
        list = tried.list;
        e = e;
        entry = refl;
        tells = tried.gives.reply ∙ ap (λ (b : Bool). if b then record { number = 0; reply = NotYet } else record { number = e.number; reply = e.reply }) isnt;
        legal = tried.legal;
        longer = tried.longer;
        result = tried.result ∙ ap (λ (x : Option Entry). after_turn before (1 + length tried.list) tried.list x) one;
        stays = tried.stays;
      }

  -- a guest that begins has no earlier entries
  nobody : (most : ℕ) (before after : PassView T Entry) (guest reading : ℕ) (t : Stepped) → HasWhole after → (m : MadeStep most before guest reading Begin t after) → own_of (next_number (newest_first m.list)) (entries_of before.mine) ≡ []
  nobody most before after guest reading t whole m =
      let g = next_number (newest_first m.list) in
      let e = m.e in
      let named : e.guest ≡ g = ap (λ (e : Entry). e.guest) m.entry in
      let is : g ≡ 1 + length m.list = (let p = length-reverse m.list in omega arith) in
      let old : own_of g m.list ≡ [] = none_older m.list g (subst (λ n. All (λ (e : Entry). e.guest < n) m.list) (sym is) (guests_older m.list m.legal)) in
      let mine : after.mine ≡ before.mine ++ (1 + length m.list, e) ∷ [] = ap (λ (p : PassView T Entry). p.mine) m.result in
      let seen : after.seen ≡ m.list ++ e ∷ [] = ap (λ (p : PassView T Entry). p.seen) m.result in
      let opens : IsOpener after.mine g = (e, subst (λ (l : List (ℕ × Entry)). Contains l (g, e)) (sym mine) (subst (λ n. Contains (before.mine ++ (1 + length m.list, e) ∷ []) (n, e)) (sym is) (Contains-push before.mine (1 + length m.list, e))), named) in
      let left : own_of g (entries_of after.mine) ≡ own_of g (entries_of before.mine) ++ e ∷ [] =
      ap (λ (l : List (ℕ × Entry)). own_of g (entries_of l)) mine ∙ (ap (own_of g) (map-append (λ (x : ℕ × Entry). x.1) before.mine ((1 + length m.list, e) ∷ [])) ∙ own_push (entries_of before.mine) e g named) in
      let right : own_of g after.seen ≡ [] ++ e ∷ [] = ap (own_of g) seen ∙ (own_push m.list e g named ∙ ap (λ (l : List Entry). l ++ e ∷ []) old) in
      append_cancel_right (own_of g (entries_of before.mine)) [] (e ∷ []) (sym left ∙ (whole g opens ∙ right))

  -- it stands there, and was made at this reading
  timed_one : (most : ℕ) (before after : PassView T Entry) (guest reading : ℕ) (c : CacheCall) (t : Stepped) (readings : List ℕ) → Contains readings reading → (m : MadeStep most before guest reading c t after) → All (IsTimed after.seen readings) ((1 + length m.list, m.e) ∷ [])
  timed_one most before after guest reading c t readings has m =
      let seen : after.seen ≡ m.list ++ m.e ∷ [] = ap (λ (p : PassView T Entry). p.seen) m.result in
      All-cons (IsTimed after.seen readings) (1 + length m.list, m.e) [] record {
        before = m.list;
        stands = ([], append-nil (m.list ++ m.e ∷ []) ∙ sym seen);
        number = omega arith;
        reading = reading;
        among = has;
        moment = ap (λ (e : Entry). e.moment) m.entry;
      } (All-nil (IsTimed after.seen readings))

  longer_one : (before between after : PassView T Entry) (list : List Entry) (e : Entry) → IsPrefix before.seen between.seen → IsPrefix between.seen list → after.seen ≡ list ++ e ∷ [] → IsPrefix before.seen after.seen
  longer_one before between after list e a b is = prefix_on before.seen list after.seen (prefix_on before.seen between.seen list a b) (e ∷ [], sym is)

  seen_more : (before : PassView T Entry) (list : List Entry) (after : PassView T Entry) → IsPrefix before.seen list → after.seen ≡ list → IsPrefix before.seen after.seen
  seen_more before list after a is = subst (IsPrefix before.seen) (sym is) a

module _ {T C : Type 0} where
  -- the entry names the guest
  gain : (most : ℕ) (before between after : PassView T Entry) (guest last reading : ℕ) (c : CacheCall) (t : Stepped) (clock clock' : C) → between.mine ≡ before.mine → HasWhole after → (m : MadeStep most between guest reading c t after)
      → IsGain (call.Cache c) (Ok (reply.Cache t)) (stand before guest last clock) (stand after (named c guest t.number) reading clock') (Some (1 + length m.list, m.e))
  gain most before between after guest last reading c t clock clock' same whole m = (
    ap (λ (e : Entry). call.Cache e.call) (sym m.entry),
    ap (λ (s : Stepped). Ok (reply.Cache s)) m.tells,
    ap (λ (e : Entry). e.guest) m.entry ∙ names c (ap (λ (s : Stepped). s.number) m.tells ∙ ap (λ (e : Entry). e.number) m.entry),
    subst (λ (d : CacheCall). IsNamed (1 + length m.list, m.e) (stand before guest last clock) (stand after (named c guest t.number) reading clock') d) (ap (λ (e : Entry). e.call) (sym m.entry)) (by c m (ap (λ (s : Stepped). s.number) m.tells ∙ ap (λ (e : Entry). e.number) m.entry)),
  )
    where
      names : (d : CacheCall) → t.number ≡ next_number (newest_first m.list) → guest_of (newest_first m.list) guest d ≡ named d guest t.number
      names Begin is = sym is
      names d is = refl

      by : (d : CacheCall) (k : MadeStep most between guest reading d t after) → t.number ≡ next_number (newest_first k.list) → IsNamed (1 + length k.list, k.e) (stand before guest last clock) (stand after (named d guest t.number) reading clock') d
      by Begin k is =
          let n = length-reverse k.list in
          let e : k.e.number ≡ next_number (newest_first k.list) = ap (λ (e : Entry). e.number) k.entry in (
            omega arith,
            e ∙ sym is,
            omega arith,
            ap (λ (l : List (ℕ × Entry)). own_of t.number (entries_of l)) (sym same) ∙ (ap (λ g. own_of g (entries_of between.mine)) is ∙ nobody most between after guest reading t whole k),
          )
      by d k is = refl

module _ {T C : Type 0} (reads : C → ℕ → C → Type 0) (content : C → Option ClockContent) (Share : PassView T Entry → Type 0) where
  -- a call on the cache that was answered
  pub cache_answered : (most first limit deadline : ℕ) (before after : PassView T Entry) (guest last reading : ℕ) (c : CacheCall) (t : Stepped) (clock clock' : C) → IsSamePass before after → HasWhole after → (Share before → Share after) → is_end c ≡ false
      → CalledUntil reads content most clock before guest deadline c reading (Ok t) clock' after
      → Outside (AreReadings reads content) Share most first limit (call.Cache c) (Ok (reply.Cache t)) (stand before guest last clock) (stand after (named c guest t.number) reading clock')
  cache_answered most first limit deadline before after guest last reading c t clock clock' same whole share no_end called =
      let m = made_step most called.between after guest reading c t called.ended.2 (is_off (is_not_yet t.reply) called.ended.1) in
      let w = called.waited in
      let mine0 : called.between.mine ≡ before.mine = ap (λ (p : PassView T Entry). p.mine) w.result in
      let lost0 : called.between.lost ≡ before.lost + w.lost = ap (λ (p : PassView T Entry). p.lost) w.result in
      let idle0 : called.between.idle ≡ before.idle + w.idle = ap (λ (p : PassView T Entry). p.idle) w.result in
      let lost1 : after.lost ≡ called.between.lost = ap (λ (p : PassView T Entry). p.lost) m.result in
      let idle1 : after.idle ≡ called.between.idle = ap (λ (p : PassView T Entry). p.idle) m.result in
      let mine1 : after.mine ≡ called.between.mine ++ (1 + length m.list, m.e) ∷ [] = ap (λ (p : PassView T Entry). p.mine) m.result in
      let sum = length-append called.readings (reading ∷ []) in
      let n = w.count in
      let has : Contains (last ∷ (called.readings ++ reading ∷ [])) reading = Contains-push (last ∷ called.readings) reading in
      record {
        gained = Some (1 + length m.list, m.e);
        readings = called.readings ++ reading ∷ [];
        clock = called.read;
        last = sym (last_push last called.readings reading);
        mine = mine1 ∙ ap (λ (l : List (ℕ × Entry)). l ++ (1 + length m.list, m.e) ∷ []) mine0;
        same = same;
        whole = whole;
        share = share;
        longer = longer_one before called.between after m.list m.e w.longer m.longer (ap (λ (p : PassView T Entry). p.seen) m.result);
        legal = λ _. m.stays;
        gain = gain most before called.between after guest last reading c t clock clock' mine0 whole m;
        timed = timed_one most called.between after guest reading c t (last ∷ (called.readings ++ reading ∷ [])) has m;
        end = λ is. absurd (true≢false (sym is ∙ no_end));
        told = tt;
        count = omega arith;
        answers = refl;
        unlinked = tt;
        cause = tt;
        no_end = tt;
      }

  -- one that was given up
  pub cache_refused : (most first limit deadline : ℕ) (before after : PassView T Entry) (guest last reading : ℕ) (c : CacheCall) (fault : UntilFault) (clock clock' : C) → deadline ≡ first + limit → IsSamePass before after → HasWhole after → (Share before → Share after) → is_end c ≡ false
      → CalledUntil reads content most clock before guest deadline c reading (Err fault) clock' after
      → Outside (AreReadings reads content) Share most first limit (call.Cache c) (Err (outcome_of first fault)) (stand before guest last clock) (stand after guest reading clock')
  cache_refused most first limit deadline before after guest last reading c (until_fault.Timeout r) clock clock' at same whole share no_end called =
      let w = called.waited in
      let e = called.ended in
      let sum = length-append called.readings (reading ∷ []) in
      let n = w.count in
      let result : after ≡ called.between = e.2 in
      let mine0 : after.mine ≡ before.mine = ap (λ (p : PassView T Entry). p.mine) result ∙ ap (λ (p : PassView T Entry). p.mine) w.result in
      let lost0 : after.lost ≡ before.lost + w.lost = ap (λ (p : PassView T Entry). p.lost) result ∙ ap (λ (p : PassView T Entry). p.lost) w.result in
      let idle0 : after.idle ≡ before.idle + w.idle = ap (λ (p : PassView T Entry). p.idle) result ∙ ap (λ (p : PassView T Entry). p.idle) w.result in
      let seen : after.seen ≡ called.between.seen = ap (λ (p : PassView T Entry). p.seen) result in
      record {
        gained = None;
        readings = called.readings ++ reading ∷ [];
        clock = called.read;
        last = sym (last_push last called.readings reading);
        mine = mine0 ∙ sym (append-nil before.mine);
        same = same;
        whole = whole;
        share = share;
        longer = seen_more before called.between.seen after w.longer seen;
        legal = λ l. subst IsLegal (sym seen) (w.legal l);
        gain = (refl, refl);
        timed = All-nil (IsTimed after.seen (last ∷ (called.readings ++ reading ∷ [])));
        end = λ is. absurd (true≢false (sym is ∙ no_end));
        told = tt;
        count = omega arith;
        answers = tt;
        unlinked = tt;
        cause = (refl, subst (Contains (called.readings ++ reading ∷ [])) (sym e.1) (Contains-push called.readings reading), (let a = e.0 in let b = e.1 in omega arith));
        no_end = no_end;
      }
  cache_refused most first limit deadline before after guest last reading c until_fault.Full clock clock' at same whole share no_end called =
      let w = called.waited in
      let tried = called.ended.1 in
      let sum = length-append called.readings (reading ∷ []) in
      let n = w.count in
      let result : after ≡ after_turn called.between (1 + length tried.list) tried.list None = tried.result ∙ ap (λ (x : Option Entry). after_turn called.between (1 + length tried.list) tried.list x) tried.gives.nothing in
      let mine0 : after.mine ≡ before.mine = ap (λ (p : PassView T Entry). p.mine) result ∙ ap (λ (p : PassView T Entry). p.mine) w.result in
      let lost0 : after.lost ≡ before.lost + w.lost = ap (λ (p : PassView T Entry). p.lost) result ∙ ap (λ (p : PassView T Entry). p.lost) w.result in
      let idle1 : after.idle ≡ called.between.idle + 1 = ap (λ (p : PassView T Entry). p.idle) result in
      let idle0 : called.between.idle ≡ before.idle + w.idle = ap (λ (p : PassView T Entry). p.idle) w.result in
      let seen : after.seen ≡ tried.list = ap (λ (p : PassView T Entry). p.seen) result in
      record {
        gained = None;
        readings = called.readings ++ reading ∷ [];
        clock = called.read;
        last = sym (last_push last called.readings reading);
        mine = mine0 ∙ sym (append-nil before.mine);
        same = same;
        whole = whole;
        share = share;
        longer = seen_more before tried.list after (prefix_on before.seen called.between.seen tried.list w.longer tried.longer) seen;
        legal = λ _. tried.stays;
        gain = (refl, refl);
        timed = All-nil (IsTimed after.seen (last ∷ (called.readings ++ reading ∷ [])));
        end = λ is. absurd (true≢false (sym is ∙ no_end));
        told = tt;
        count = omega arith;
        answers = tt;
        unlinked = tt;
        cause = (tried.list, c, refl, ([], append-nil tried.list ∙ sym seen), tried.gives.full);
        no_end = no_end;
      }
  cache_refused most first limit deadline before after guest last reading c until_fault.OutOfMemory clock clock' at same whole share no_end called =
      let w = called.waited in
      let tried = called.ended.1 in
      let sum = length-append called.readings (reading ∷ []) in
      let n = w.count in
      let result : after ≡ after_turn called.between (1 + length tried.list) tried.list None = tried.result ∙ ap (λ (x : Option Entry). after_turn called.between (1 + length tried.list) tried.list x) tried.gives.nothing in
      let mine0 : after.mine ≡ before.mine = ap (λ (p : PassView T Entry). p.mine) result ∙ ap (λ (p : PassView T Entry). p.mine) w.result in
      let lost0 : after.lost ≡ before.lost + w.lost = ap (λ (p : PassView T Entry). p.lost) result ∙ ap (λ (p : PassView T Entry). p.lost) w.result in
      let idle1 : after.idle ≡ called.between.idle + 1 = ap (λ (p : PassView T Entry). p.idle) result in
      let idle0 : called.between.idle ≡ before.idle + w.idle = ap (λ (p : PassView T Entry). p.idle) w.result in
      let seen : after.seen ≡ tried.list = ap (λ (p : PassView T Entry). p.seen) result in
      record {
        gained = None;
        readings = called.readings ++ reading ∷ [];
        clock = called.read;
        last = sym (last_push last called.readings reading);
        mine = mine0 ∙ sym (append-nil before.mine);
        same = same;
        whole = whole;
        share = share;
        longer = seen_more before tried.list after (prefix_on before.seen called.between.seen tried.list w.longer tried.longer) seen;
        legal = λ _. tried.stays;
        gain = (refl, refl);
        timed = All-nil (IsTimed after.seen (last ∷ (called.readings ++ reading ∷ [])));
        end = λ is. absurd (true≢false (sym is ∙ no_end));
        told = tt;
        count = omega arith;
        answers = tt;
        unlinked = tt;
        cause = tt;
        no_end = no_end;
      }

  -- a guest that made its End
  pub cache_ended : (most first limit : ℕ) (before after : PassView T Entry) (guest reading number : ℕ) (clock : C) → IsSamePass before after → HasWhole after → (Share before → Share after) → HasEnded most before guest reading number after
      → Outside (AreReadings reads content) Share most first limit (call.Cache End) (Ok (reply.Cache (record { number = number; reply = Done }))) (stand before guest reading clock) (stand after guest reading clock)
  cache_ended most first limit before after guest reading number clock same whole share ended =
      let between = record before { lost = before.lost + ended.0 } in
      let t : Stepped = record { number = number; reply = Done } in
      let m = made_step most between after guest reading End t ended.1 refl in
      let has : Contains (reading ∷ []) reading = Contains-push [] reading in
      let lost1 : after.lost ≡ before.lost + ended.0 = ap (λ (p : PassView T Entry). p.lost) m.result in
      let idle1 : after.idle ≡ before.idle = ap (λ (p : PassView T Entry). p.idle) m.result in
      let timed = timed_one most between after guest reading End t (reading ∷ []) has m in
      record {
        gained = Some (1 + length m.list, m.e);
        readings = [];
        clock = no_readings reads content clock;
        last = refl;
        mine = ap (λ (p : PassView T Entry). p.mine) m.result;
        same = same;
        whole = whole;
        share = share;
        longer = longer_one before between after m.list m.e ([], append-nil before.seen) m.longer (ap (λ (p : PassView T Entry). p.seen) m.result);
        legal = λ _. m.stays;
        gain = gain most before between after guest reading reading End t clock clock refl whole m;
        timed = timed;
        end = λ is. (refl, timed);
        told = tt;
        count = omega arith;
        answers = refl;
        unlinked = tt;
        cause = tt;
        no_end = tt;
      }

  -- a call that isn't the cache's, and took these readings
  pub other : (most first limit : ℕ) (pass : PassView T Entry) (guest last : ℕ) (c : OuterCall) (given : Result OuterReply Outcome) (readings : List ℕ) (clock clock' : C) → HasWhole pass → NoEntry c given → is_end_call (Some c) ≡ false → AreReadings reads content clock readings clock'
      → IfOk given (λ r. AreAmong (told_by r) readings) → length readings ≤ spare given → IfOk given (λ r. IsTrue (is_answer c r)) → IfOk given (IsUnlinked c) → IfErr given (IsCause most first limit readings pass.seen (λ asked. asked ≡ c) (Unit {0}))
      → Outside (AreReadings reads content) Share most first limit c given (stand pass guest last clock) (stand pass guest (last_of last readings) clock')
  other most first limit pass guest last c given readings clock clock' whole none no_end read told count answers unlinked cause =
      record {
        gained = None;
        readings = readings;
        clock = read;
        last = refl;
        mine = sym (append-nil pass.mine);
        same = (refl, refl, refl);
        whole = whole;
        share = λ h. h;
        longer = ([], append-nil pass.seen);
        legal = λ l. l;
        gain = (none, refl);
        timed = All-nil (IsTimed pass.seen (last ∷ readings));
        end = λ is. absurd (true≢false (sym is ∙ no_end));
        told = told;
        count = omega arith;
        answers = answers;
        unlinked = unlinked;
        cause = cause;
        no_end = by given;
      }
    where
      by : (g : Result OuterReply Outcome) → IfErr g (λ _. is_end_call (Some c) ≡ false)
      by (Ok r) = tt
      by (Err e) = no_end

  -- one that was answered, and read no clock
  pub quiet : (most first limit : ℕ) (pass : PassView T Entry) (guest last : ℕ) (c : OuterCall) (r : OuterReply) (clock : C) → HasWhole pass → NoEntry c (Ok r) → is_end_call (Some c) ≡ false → AreAmong (told_by r) [] → IsTrue (is_answer c r) → IsUnlinked c r
      → Outside (AreReadings reads content) Share most first limit c (Ok r) (stand pass guest last clock) (stand pass guest last clock)
  quiet most first limit pass guest last c r clock whole none no_end told answers unlinked =
      other most first limit pass guest last c (Ok r) [] clock clock whole none no_end (no_readings reads content clock) told (omega arith) answers unlinked tt

  -- one reading
  pub reading : (most first limit : ℕ) (pass : PassView T Entry) (guest last named time : ℕ) (clock clock' : C) → HasWhole pass → reads clock time clock' → TellsWhereTold (content clock) time (content clock')
      → Outside (AreReadings reads content) Share most first limit (call.Now named) (Ok (reply.Now time)) (stand pass guest last clock) (stand pass guest time clock')
  reading most first limit pass guest last named time clock clock' whole made told =
      other most first limit pass guest last (call.Now named) (Ok (reply.Now time)) (time ∷ []) clock clock' whole tt refl
      (one_reading reads content clock time clock' made told)
      (inl (refl, tt)) (omega arith) refl tt tt

  -- a call on the client
  pub to_client : (most first limit : ℕ) (pass : PassView T Entry) (guest last : ℕ) (c : OuterCall) (given : Result OuterReply Outcome) (clock : C) → HasWhole pass → NoEntry c given → is_end_call (Some c) ≡ false → is_answer c reply.Sent ≡ true → IsUnlinked c reply.Sent → IsClientGiven given
      → Outside (AreReadings reads content) Share most first limit c given (stand pass guest last clock) (stand pass guest last clock)
  to_client most first limit pass guest last c (Ok r) clock whole none no_end answers unlinked kind =
      let was : reply.Sent ≡ r = sym kind in
      quiet most first limit pass guest last c r clock whole none no_end (subst (λ (s : OuterReply). AreAmong (told_by s) []) was tt) (subst (λ (s : OuterReply). IsTrue (is_answer c s)) was answers) (subst (IsUnlinked c) was unlinked)
  to_client most first limit pass guest last c (Err outcome.ClientGone) clock whole none no_end answers unlinked kind =
      other most first limit pass guest last c (Err outcome.ClientGone) [] clock clock whole none no_end (no_readings reads content clock) tt (omega arith) tt tt tt
  to_client most first limit pass guest last c (Err outcome.OutOfMemory) clock whole none no_end answers unlinked kind =
      other most first limit pass guest last c (Err outcome.OutOfMemory) [] clock clock whole none no_end (no_readings reads content clock) tt (omega arith) tt tt tt
  to_client most first limit pass guest last c (Err why) clock whole none no_end answers unlinked kind = absurd kind
