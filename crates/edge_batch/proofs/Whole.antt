-- What all workers did, once the history is whole.
use Rattle.std.proofs.Common.{◌≡◌, ℕ, suc, List, [], ◌∷◌, All, Contains, subst}
use Rattle.std.proofs.lemmas.List.Elements.{All-nil, All-cons, All-head, All-tail, All-weaker}
use mathlib.Core.List.{IsPrefix}
use Rattle.turnstile.specs.Log.{numbered}
use Rattle.cache_types.specs.declared.entries.Entry.{Entry}
use Rattle.cache_types.specs.declared.outer.Done.{Done}
use Rattle.cache_types.specs.Legal.{IsLegal}
use Rattle.player.specs.Plays.{Program}
use Rattle.edge_batch.specs.Blocks.{Joint, IsTimedIn, HasBlock, Worked}
use Rattle.edge_batch.specs.Batch.{whole, IsBatch}
use Rattle.edge_batch.proofs.Later.{IsLater, timed_later, blocks_later}
use Rattle.edge_batch.proofs.Both.{same_clock}

all_numbered : (P : Entry → Type 0) (n : ℕ) (list : List Entry) → All (λ (x : ℕ × Entry). P x.1) (numbered n list) → All P list
all_numbered P n [] all = All-nil P
all_numbered P n (e ∷ list) all =
    let Q : ℕ × Entry → Type 0 = λ x. P x.1 in
    All-cons P e list (All-head Q (n, e) (numbered (suc n) list) all) (all_numbered P (suc n) list (All-tail Q (n, e) (numbered (suc n) list) all))

pub whole_batch : {R : Type 0} (most limit : ℕ) (Began : ℕ → R → Program → Type 0) (j : Joint) (requests : List R) (blocks : List Done) (history : List Entry) → Worked most limit Began j 1 requests blocks → IsLegal history → IsPrefix j.seen history → j.mine ≡ numbered 1 history
    → IsBatch most limit Began requests history j.clocks blocks
whole_batch most limit Began j requests blocks history w legal longer mine =
    let new : Joint = whole history j.clocks in
    let later : IsLater j new = record {
      longer = longer;
      legal = legal;
      mine = λ x has. subst (λ (l : List (ℕ × Entry)). Contains l x) mine has;
      clocks = λ clock has. same_clock j.clocks clock has;
    } in
    record {
      legal = legal;
      each = blocks_later most limit Began j new later 1 requests blocks w.each;
      differ = w.differ;
      covered = all_numbered (λ (e : Entry). HasBlock blocks e.guest) 1 history (subst (All (λ (x : ℕ × Entry). HasBlock blocks x.1.guest)) mine w.covered);
      timed = subst (All (IsTimedIn new)) mine (All-weaker (IsTimedIn j) (IsTimedIn new) (timed_later j new later) j.mine w.timed);
    }
