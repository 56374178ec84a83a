-- One more request of a worker's share.
use Rattle.std.proofs.Common.{◌≡◌, ◌⊎◌, inl, inr, ℕ, ◌+◌, List, [], ◌∷◌, ◌++◌, length, All, Contains, Option, None, Some, IfSome, refl, sym, ap, ◌∙◌, subst, arith, append-nil}
use Rattle.std.proofs.lemmas.List.Elements.{All-nil, All-weaker, Contains-append_left, Contains-append_right, Contains-append_cases, Contains-push}
use mathlib.Core.List.{IsPrefix}
use Rattle.turnstile.specs.Log.{entries_of}
use Rattle.turnstile.specs.Pass.{PassView}
use Rattle.cache_types.specs.declared.entries.Entry.{Entry}
use Rattle.cache_types.specs.declared.outer.Done.{Done}
use Rattle.cache_types.specs.declared.outer.Outcome.{Outcome}
use Rattle.cache_types.specs.Legal.{IsLegal}
use Rattle.cache_hub.specs.Calls.{own_of, IsOpener, HasWhole}
use Rattle.edge_outside.specs.Faults.{Rose}
use Rattle.edge_outside.specs.Sink.{Write}
use Rattle.player.specs.Plays.{Program, Answered}
use Rattle.edge_work.specs.Outside.{last_of, IsTimed, IsCause}
use Rattle.edge_work.specs.Work.{IsAsked, IsKnown as IsKnownGuest, IsNobody, WorkedOne}
use Rattle.edge_work.proofs.Going.{cause_more}
use Rattle.edge_batch.specs.Blocks.{Joint, joint_of, IsTimedIn, IsGuest, IsBlock, unmade, HasBlock, Worked}
use Rattle.edge_batch.specs.Shares.{WorkedRequest}
use Rattle.edge_batch.proofs.Guests.{IsKnown, blocks_guests, IsOther, others, not_again}
use Rattle.edge_batch.proofs.Both.{same_clock, one_of_one, both}

-- ---- one guest

no_rise : Rose 0 0 → ⊥
no_rise (inl less) = absurd (omega arith)
no_rise (inr at) = let e = at.0 in absurd (omega arith)

guest_is : (seen : List Entry) (gained : List (ℕ × Entry)) (clocks : List (List ℕ)) (trace : List Answered) (last guest : ℕ) → IsNobody gained trace guest ⊎ IsKnownGuest seen gained trace last guest
    → ((guest ≡ 0) × (trace ≡ [])) ⊎ IsGuest (record { seen = seen; mine = gained; clocks = clocks }) trace guest
guest_is seen gained clocks trace last guest (inl none) = inl (none.guest_is, none.no_calls)
guest_is seen gained clocks trace last guest (inr known) = inr (record { positive = known.positive; opener = known.opener; tied = known.tied; ends = known.ends; ended = known.ended })

no_gone : (Began : Program → Type 0) (most limit first : ℕ) (later : List ℕ) (seen : List Entry) (before : List Answered) (stopped : Option Outcome) → IfSome stopped (IsCause most first limit later seen (IsAsked Began before) (Rose 0 0))
    → IfSome stopped (IsCause most first limit later seen (IsAsked Began before) ⊥)
no_gone Began most limit first later seen before None cause = tt
no_gone Began most limit first later seen before (Some why) cause =
    cause_more most first limit later later seen seen (IsAsked Began before) (IsAsked Began before) (Rose 0 0) ⊥ (λ r has. has) ([], append-nil seen) (λ c asked. asked) no_rise why cause

asked_weaker : (Plays Began : Program → Type 0) → ((next : Program) → Began next → Plays next) → (most limit first : ℕ) (later : List ℕ) (seen : List Entry) (before : List Answered) (stopped : Option Outcome) → IfSome stopped (IsCause most first limit later seen (IsAsked Plays before) ⊥)
    → IfSome stopped (IsCause most first limit later seen (IsAsked Began before) ⊥)
asked_weaker Plays Began plays most limit first later seen before None cause = tt
asked_weaker Plays Began plays most limit first later seen before (Some why) cause =
    cause_more most first limit later later seen seen (IsAsked Plays before) (IsAsked Began before) ⊥ ⊥ (λ r has. has) ([], append-nil seen) (λ c asked next began. asked next (plays next began)) (λ gone. gone) why cause

block_weaker : (most limit : ℕ) (Plays Began : Program → Type 0) → ((next : Program) → Began next → Plays next) → (j : Joint) (index : ℕ) (done : Done) → IsBlock most limit Plays j index done → IsBlock most limit Began j index done
block_weaker most limit Plays Began plays j index done (inl none) = inl none
block_weaker most limit Plays Began plays j index done (inr b) = inr (record {
  trace = b.trace;
  before = b.before;
  stopped = b.stopped;
  first = b.first;
  later = b.later;
  index_is = b.index_is;
  events_are = b.events_are;
  answers = b.answers;
  unlinked = b.unlinked;
  runs = λ next began. b.runs next (plays next began);
  cause = asked_weaker Plays Began plays most limit b.first b.later j.seen b.before b.stopped b.cause;
  read = b.read;
  told = b.told;
  guest = b.guest;
})

-- a guest that plays the programs of its request
pub request_weaker : {T C : Type 0} (Reads : C → List ℕ → C → Type 0) (Plays Began : Program → Type 0) → ((next : Program) → Began next → Plays next) → (most limit index : ℕ) (old new : PassView T Entry) (clock clock' : C) (done : Done)
    → WorkedRequest Reads Plays most limit index old new clock clock' done → WorkedRequest Reads Began most limit index old new clock clock' done
request_weaker Reads Plays Began plays most limit index old new clock clock' done w = record {
  gained = w.gained;
  readings = w.readings;
  mine = w.mine;
  longer = w.longer;
  legal = w.legal;
  read = w.read;
  of_guest = w.of_guest;
  timed = w.timed;
  block = block_weaker most limit Plays Began plays (record { seen = new.seen; mine = w.gained; clocks = w.readings ∷ [] }) index done w.block;
}

-- a guest for which no memory was found did nothing
pub request_unmade : {T C : Type 0} (Reads : C → List ℕ → C → Type 0) (Began : Program → Type 0) (most limit index : ℕ) (pass : PassView T Entry) (clock : C) → Reads clock [] clock → WorkedRequest Reads Began most limit index pass pass clock clock (unmade index)
request_unmade Reads Began most limit index pass clock none = record {
  gained = [];
  readings = [];
  mine = sym (append-nil pass.mine);
  longer = ([], append-nil pass.seen);
  legal = λ legal. legal;
  read = none;
  of_guest = All-nil (λ (x : ℕ × Entry). x.1.guest ≡ 0);
  timed = All-nil (IsTimed pass.seen []);
  block = inl refl;
}

-- what one guest's work did, where its sink never fails
pub request_of : {T C K : Type 0} (Reads : C → List ℕ → C → Type 0) (Writes : K → List Write → K → Type 0) (Began : Program → Type 0) (most limit index : ℕ) (method : List ℕ) (old new : PassView T Entry) (clock clock' : C) (sink sink' : K) (done : Done)
    → WorkedOne Reads Writes (λ _. 0) Began most limit index method old new clock clock' sink sink' done → WorkedRequest Reads Began most limit index old new clock clock' done
request_of Reads Writes Began most limit index method old new clock clock' sink sink' done w = record {
  gained = w.gained;
  readings = w.first ∷ w.readings;
  mine = w.mine;
  longer = w.longer;
  legal = w.legal;
  read = w.read;
  of_guest = w.of_guest;
  timed = w.timed;
  block = inr (record {
    trace = w.trace;
    before = w.before;
    stopped = w.stopped;
    first = w.first;
    later = w.readings;
    index_is = w.index_is;
    events_are = w.events_are;
    answers = w.answers;
    unlinked = w.unlinked;
    runs = w.runs;
    cause = no_gone Began most limit w.first w.readings new.seen w.before w.stopped w.cause;
    read = same_clock ((w.first ∷ w.readings) ∷ []) (w.first ∷ w.readings) (Contains-push [] (w.first ∷ w.readings));
    told = w.told;
    guest = guest_is new.seen w.gained ((w.first ∷ w.readings) ∷ []) w.trace (last_of w.first w.readings) done.guest w.guest;
  });
}

-- ---- one more

-- nothing was done yet
pub worked_none : {R : Type 0} (most limit : ℕ) (Began : ℕ → R → Program → Type 0) (seen : List Entry) (mine : List (ℕ × Entry)) (clocks : List (List ℕ)) (index : ℕ) → mine ≡ [] → IsLegal seen → Worked most limit Began (record { seen = seen; mine = mine; clocks = clocks }) index [] []
worked_none most limit Began seen mine clocks index none legal =
    let j : Joint = record { seen = seen; mine = mine; clocks = clocks } in
    record {
      legal = legal;
      each = tt;
      differ = tt;
      covered = subst (All (λ (x : ℕ × Entry). HasBlock [] x.1.guest)) (sym none) (All-nil (λ (x : ℕ × Entry). HasBlock [] x.1.guest));
      timed = subst (All (IsTimedIn j)) (sym none) (All-nil (IsTimedIn j));
    }

module _ {T R : Type 0} (most limit : ℕ) (Began : ℕ → R → Program → Type 0) where
  -- the guest of one more block is no earlier one
  other_guest : (old new : PassView T Entry) (readings own : List ℕ) (gained : List (ℕ × Entry)) → IsLegal new.seen → IsPrefix old.seen new.seen → HasWhole old → HasWhole new → new.mine ≡ old.mine ++ gained
      → (d e : Done) → IsKnown (joint_of old readings) d.guest → IsKnown (record { seen = new.seen; mine = gained; clocks = own ∷ [] }) e.guest → IsOther d e
  other_guest old new readings own gained legal longer was is mine d e (inl none) known = λ same. none
  other_guest old new readings own gained legal longer was is mine d e (inr past) (inl none) = λ same. same ∙ none
  other_guest old new readings own gained legal longer was is mine d e (inr past) (inr known) = λ same.
      let g : ℕ = d.guest in
      let opener : IsOpener gained g = subst (IsOpener gained) (sym same) known.0 in
      let among : IsOpener new.mine g = (opener.0, subst (λ (l : List (ℕ × Entry)). Contains l (g, opener.0)) (sym mine) (Contains-append_right old.mine gained (g, opener.0) opener.1), opener.2) in
      let whole : own_of g (entries_of (old.mine ++ gained)) ≡ own_of g new.seen = ap (λ (l : List (ℕ × Entry)). own_of g (entries_of l)) (sym mine) ∙ is g among in
      absurd (not_again old.seen new.seen old.mine gained g legal longer past.1 (was g past.0) whole opener)

  pub pushed : {C : Type 0} (Reads : C → List ℕ → C → Type 0) (old new : PassView T Entry) (clock clock' : C) (readings : List ℕ) (first index : ℕ) (requests : List R) (request : R) (blocks : List Done) (done : Done) → HasWhole old → HasWhole new
      → index ≡ first + length requests → Worked most limit Began (joint_of old readings) first requests blocks → (w : WorkedRequest Reads (Began index request) most limit index old new clock clock' done)
      → Worked most limit Began (joint_of new (readings ++ w.readings)) first (requests ++ request ∷ []) (blocks ++ done ∷ [])
  pushed Reads old new clock clock' readings first index requests request blocks done was is at v w =
      let a : Joint = joint_of old readings in
      let b : Joint = record { seen = new.seen; mine = w.gained; clocks = w.readings ∷ [] } in
      let c : Joint = joint_of new (readings ++ w.readings) in
      let legal : IsLegal new.seen = w.legal v.legal in
      let clock_is : Contains (c.clocks) (readings ++ w.readings) = Contains-push [] (readings ++ w.readings) in
      let cases : (x : ℕ × Entry) → Contains c.mine x → Contains a.mine x ⊎ Contains b.mine x =
      λ x has. Contains-append_cases old.mine w.gained x (subst (λ (l : List (ℕ × Entry)). Contains l x) w.mine has) in
      let one : Worked most limit Began b index (request ∷ []) (done ∷ []) = record {
        legal = legal;
        each = (w.block, tt);
        differ = (All-nil (IsOther done), tt);
        covered = All-weaker (λ (x : ℕ × Entry). x.1.guest ≡ done.guest) (λ (x : ℕ × Entry). HasBlock (done ∷ []) x.1.guest) (λ x same. (done, Contains-push [] done, sym same)) w.gained w.of_guest;
        timed = All-weaker (IsTimed new.seen w.readings) (IsTimedIn b) (λ x t. record { clock = w.readings; of = Contains-push [] w.readings; timed = t }) w.gained w.timed;
      } in
      both most limit Began a b c first index requests (request ∷ []) blocks (done ∷ [])
      (record {
        longer = w.longer;
        legal = legal;
        mine = λ x has. subst (λ (l : List (ℕ × Entry)). Contains l x) (sym w.mine) (Contains-append_left old.mine w.gained x has);
        clocks = λ r has. record {
          clock = readings ++ w.readings;
          of = clock_is;
          before = [];
          after = w.readings;
          part = ap (λ (l : List ℕ). l ++ w.readings) (one_of_one readings r has);
        };
      })
      (record {
        longer = ([], append-nil new.seen);
        legal = legal;
        mine = λ x has. subst (λ (l : List (ℕ × Entry)). Contains l x) (sym w.mine) (Contains-append_right old.mine w.gained x has);
        clocks = λ r has. record {
          clock = readings ++ w.readings;
          of = clock_is;
          before = readings;
          after = [];
          part = ap (λ (l : List ℕ). readings ++ l) (one_of_one w.readings r has ∙ sym (append-nil r));
        };
      })
      cases at v one
      (others (λ (d : Done). IsKnown a d.guest) (λ (d : Done). IsKnown b d.guest) (other_guest old new readings w.readings w.gained legal w.longer was is w.mine) blocks (done ∷ [])
      (blocks_guests most limit Began a first requests blocks v.each) (blocks_guests most limit Began b index (request ∷ []) (done ∷ []) one.each))
