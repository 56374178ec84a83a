-- What some workers have stays so when they have more.
use Rattle.std.proofs.Common.{◌≡◌, ◌⊎◌, inl, inr, ℕ, ◌+◌, true, ◌&&◌, ◌==◌, List, [], ◌∷◌, ◌++◌, Contains, length, IfSome, Option, None, Some, sym, ap, ◌∙◌, subst, arith, append_assoc}
use Rattle.std.proofs.lemmas.Bool.{or_right}
use Rattle.std.proofs.lemmas.List.{reverse-append}
use Rattle.std.proofs.lemmas.List.Elements.{Contains-append_left, Contains-append_right}
use mathlib.Core.List.{IsPrefix}
use Rattle.cache_types.specs.declared.entries.Entry.{Entry}
use Rattle.cache_types.specs.declared.outer.Done.{Done}
use Rattle.cache_types.specs.declared.outer.Outcome.{Outcome}
use Rattle.cache_types.specs.Entries.{newest_first, is_end, has_ended}
use Rattle.cache_types.specs.Legal.{IsLegal}
use Rattle.player.specs.Plays.{Program, Answered}
use Rattle.edge_work.specs.Outside.{IsCause}
use Rattle.edge_work.specs.Work.{IsAsked}
use Rattle.edge_work.proofs.Going.{timed_more, cause_more}
use Rattle.edge_work.proofs.Stays.{stays_tied}
use Rattle.edge_batch.specs.Blocks.{Joint, IsRead, IsTimedIn, IsGuest, HasRun, IsBlock, AreBlocks}

-- they saw more of one legal history, made more entries, and read their clocks further
pub record IsLater (old new : Joint) : Type 0 where
  pub longer : IsPrefix old.seen new.seen
  pub legal : IsLegal new.seen
  pub mine : (x : ℕ × Entry) → Contains old.mine x → Contains new.mine x
  pub clocks : (clock : List ℕ) → Contains old.clocks clock → IsRead new.clocks clock

pub read_later : (old new : Joint) → IsLater old new → (own : List ℕ) → IsRead old.clocks own → IsRead new.clocks own
read_later old new later own read =
    let more = later.clocks read.clock read.of in
    record {
      clock = more.clock;
      of = more.of;
      before = more.before ++ read.before;
      after = read.after ++ more.after;
      part = more.part ∙ (ap (λ (l : List ℕ). more.before ++ (l ++ more.after)) read.part ∙ turned more.before read.before own read.after more.after);
    }
  where
    turned : (a b c d e : List ℕ) → a ++ ((b ++ (c ++ d)) ++ e) ≡ (a ++ b) ++ (c ++ (d ++ e))
    turned a b c d e = simp append_assoc

pub timed_later : (old new : Joint) → IsLater old new → (x : ℕ × Entry) → IsTimedIn old x → IsTimedIn new x
timed_later old new later x at =
    let more = later.clocks at.clock at.of in
    let among : (r : ℕ) → Contains at.clock r → Contains more.clock r =
    λ r has. subst (λ (l : List ℕ). Contains l r) (sym more.part) (Contains-append_right more.before (at.clock ++ more.after) r (Contains-append_left at.clock more.after r has)) in
    record {
      clock = more.clock;
      of = more.of;
      timed = timed_more old.seen new.seen at.clock more.clock later.longer among x at.timed;
    }

ended_more : (past more : List Entry) (g : ℕ) → has_ended past g ≡ true → has_ended (more ++ past) g ≡ true
ended_more past [] g h = h
ended_more past (e ∷ more) g h = or_right (is_end e.call && (e.guest == g)) (has_ended (more ++ past) g) (ended_more past more g h)

pub ended_later : (seen history : List Entry) (g : ℕ) → IsPrefix seen history → has_ended (newest_first seen) g ≡ true → has_ended (newest_first history) g ≡ true
ended_later seen history g longer ended =
    subst (λ (l : List Entry). has_ended l g ≡ true) (sym (ap newest_first (sym longer.1) ∙ reverse-append seen longer.0)) (ended_more (newest_first seen) (newest_first longer.0) g ended)

guest_later : (old new : Joint) → IsLater old new → (trace : List Answered) (guest : ℕ) → IsGuest old trace guest → IsGuest new trace guest
guest_later old new later trace guest g = record {
  positive = g.positive;
  opener = (g.opener.0, later.mine (guest, g.opener.0) g.opener.1, g.opener.2);
  tied = stays_tied old.seen new.seen guest trace later.legal later.longer g.ended g.tied;
  ends = g.ends;
  ended = ended_later old.seen new.seen guest later.longer g.ended;
}

some_guest_later : (old new : Joint) → IsLater old new → (trace : List Answered) (guest : ℕ) → ((guest ≡ 0) × (trace ≡ [])) ⊎ IsGuest old trace guest → ((guest ≡ 0) × (trace ≡ [])) ⊎ IsGuest new trace guest
some_guest_later old new later trace guest (inl none) = inl none
some_guest_later old new later trace guest (inr g) = inr (guest_later old new later trace guest g)

pub cause_later : (most limit first : ℕ) (later : List ℕ) (seen seen' : List Entry) (Began : Program → Type 0) (before : List Answered) → IsPrefix seen seen' → (stopped : Option Outcome)
    → IfSome stopped (IsCause most first limit later seen (IsAsked Began before) ⊥) → IfSome stopped (IsCause most first limit later seen' (IsAsked Began before) ⊥)
cause_later most limit first later seen seen' Began before longer None cause = tt
cause_later most limit first later seen seen' Began before longer (Some why) cause =
    cause_more most first limit later later seen seen' (IsAsked Began before) (IsAsked Began before) ⊥ ⊥ (λ r has. has) longer (λ c asked. asked) (λ gone. gone) why cause

run_later : (most limit : ℕ) (Began : Program → Type 0) (old new : Joint) → IsLater old new → (index : ℕ) (done : Done) → HasRun most limit Began old index done → HasRun most limit Began new index done
run_later most limit Began old new more index done b = record {
  trace = b.trace;
  before = b.before;
  stopped = b.stopped;
  first = b.first;
  later = b.later;
  index_is = b.index_is;
  events_are = b.events_are;
  answers = b.answers;
  unlinked = b.unlinked;
  runs = b.runs;
  cause = cause_later most limit b.first b.later old.seen new.seen Began b.before more.longer b.stopped b.cause;
  read = read_later old new more (b.first ∷ b.later) b.read;
  told = b.told;
  guest = some_guest_later old new more b.trace done.guest b.guest;
}

pub block_later : (most limit : ℕ) (Began : Program → Type 0) (old new : Joint) → IsLater old new → (index : ℕ) (done : Done) → IsBlock most limit Began old index done → IsBlock most limit Began new index done
block_later most limit Began old new later index done (inl none) = inl none
block_later most limit Began old new later index done (inr b) = inr (run_later most limit Began old new later index done b)

module _ {R : Type 0} (most limit : ℕ) (Began : ℕ → R → Program → Type 0) where
  pub blocks_later : (old new : Joint) → IsLater old new → (index : ℕ) (requests : List R) (blocks : List Done) → AreBlocks most limit Began old index requests blocks → AreBlocks most limit Began new index requests blocks
  blocks_later old new later index [] [] each = tt
  blocks_later old new later index [] (done ∷ blocks) each = each
  blocks_later old new later index (request ∷ requests) [] each = each
  blocks_later old new later index (request ∷ requests) (done ∷ blocks) each =
      (block_later most limit (Began index request) old new later index done each.0, blocks_later old new later (index + 1) requests blocks each.1)

  -- blocks, and those behind them
  pub blocks_both : (j : Joint) (index next : ℕ) (requests others : List R) (blocks more : List Done) → next ≡ index + length requests → AreBlocks most limit Began j index requests blocks → AreBlocks most limit Began j next others more
      → AreBlocks most limit Began j index (requests ++ others) (blocks ++ more)
  blocks_both j index next [] others [] more at each rest = let e : next ≡ index = omega arith in subst (λ n. AreBlocks most limit Began j n others more) e rest
  blocks_both j index next [] others (done ∷ blocks) more at each rest = absurd each
  blocks_both j index next (request ∷ requests) others [] more at each rest = absurd each
  blocks_both j index next (request ∷ requests) others (done ∷ blocks) more at each rest =
      (each.0, blocks_both j (index + 1) next requests others blocks more (omega arith) each.1 rest)
