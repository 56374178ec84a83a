use Rattle.std.proofs.Common.{◌≡◌, sym, subst, reverse, take, ◌+◌, ℕ, slice_index}
use Rattle.std.specs.Global.{Vec}
use Rattle.cache_core.specs.Object.{Object, object_at, Holds}
use Rattle.cache_types.specs.Objects.{has_key}
use Rattle.cache_core.proofs.Bearing.{AreBearers, bearer_added, bearer_skipped}
use Rattle.cache_core.proofs.purging.bearers_of.Goals as goal
use Rattle.cache_core.proofs.purging.bearers_of.Goals.{then-bears+in_ok-push, else-bears}

pub loop-i-preserved : goal.loop-i-preserved
loop-i-preserved c = λ held.
    let past = reverse c.args.entries.now in
    elim c.if-bears.branch [
      | then-bears+in_ok-push w ↦
          subst (λ (v : Vec ℕ). AreBearers v.items (take (c.loop-i.i + 1) c.args.candidates.now) c.args.key.now past) (sym w.bearers-is)
          (subst (λ l. AreBearers l (take (c.loop-i.i + 1) c.args.candidates.now) c.args.key.now past) (sym w.in_ok-push.ensures.items)
          (bearer_added c.loop-i.bearers.items c.args.candidates.now c.args.key.now past c.loop-i.i 0 c.loop-i-test.true
          (subst (λ b. Holds (λ (y : Object). b ≡ has_key y.renewal.terms.surrogates c.args.key.now) (object_at past (slice_index c.args.candidates.now c.loop-i.i))) w.if-bears.true (c.bears.ensures held)) (c.loop-i.invariant held)))
      | else-bears w ↦
          subst (λ (v : Vec ℕ). AreBearers v.items (take (c.loop-i.i + 1) c.args.candidates.now) c.args.key.now past) (sym w.bearers-is)
          (bearer_skipped c.loop-i.bearers.items c.args.candidates.now c.args.key.now past c.loop-i.i 0 c.loop-i-test.true
          (subst (λ b. Holds (λ (y : Object). b ≡ has_key y.renewal.terms.surrogates c.args.key.now) (object_at past (slice_index c.args.candidates.now c.loop-i.i))) w.if-bears.false (c.bears.ensures held)) (c.loop-i.invariant held))
    ]
