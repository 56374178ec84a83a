use Rattle.std.proofs.Common.{◌≡◌, ℕ, ◌+◌, List, ◌++◌, length, take, drop, sym, ◌∙◌, ap, arith, slice_range}
use Rattle.std.proofs.lemmas.Grind.{common_steps}
use Rattle.std.proofs.lemmas.List.Folds.{drop_split}
use Rattle.std.proofs.Math.Seq.{take-append_seam}
use Rattle.edge_outside.proofs.mem_source.MemSourceSource.read.Goals as goal

-- the bytes that were copied are the next ones
next_bytes : (bytes piece rest : List ℕ) (at n : ℕ) → length piece ≡ n → piece ≡ slice_range bytes at (at + n)
    → drop at bytes ≡ take n (piece ++ rest) ++ drop (at + n) bytes
next_bytes bytes piece rest at n count is =
    drop_split bytes at (at + n) (omega arith)
    ∙ ap (λ (t : List ℕ). t ++ drop (at + n) bytes) (sym is ∙ sym (ap (λ k. take k (piece ++ rest)) (sym count) ∙ take-append_seam piece rest))

pub returns-clause-content : goal.returns-clause-content
returns-clause-content c = record {
  calls = grind (arith, common_steps);
  some = grind (arith, common_steps);
  most = grind (arith, common_steps);
  count = grind (arith, common_steps);
  bytes = rw (← c.self.view_is) (next_bytes c.self.inside.bytes.items c.copy_from_slice.new.self (drop c.min-count.result c.args.into.now) c.self.inside.at c.min-count.result
      (grind (arith, common_steps)) (grind (arith, common_steps)));
  err = tt;
  to_fail = (λ e. cc e, λ told. grind (arith, common_steps));
}

pub returns-clause-call : goal.returns-clause-call
returns-clause-call c = record { content = returns-clause-content c; faults = grind (arith, common_steps) }
