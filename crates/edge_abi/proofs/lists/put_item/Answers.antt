use Rattle.std.proofs.Common.{◌∙◌, ℕ, ◌+◌, List, ◌++◌, take, drop, length, set, ap}
use Rattle.std.proofs.Math.Nat.{add-sub_cancel_left}
use Rattle.edge_abi.proofs.Joining.{item_set}
use Rattle.edge_abi.proofs.lists.put_item.Goals as goal

pub returns : goal.returns
returns c =
    let buffer : List ℕ = c.args.buffer.now in
    let item : List ℕ = c.args.item.now in
    let at : ℕ = c.args.at in
    ap (λ (n : ℕ). set (take at buffer ++ (c.copy_from_slice.new.self ++ drop n (drop at buffer))) (at + length item) 0) (add-sub_cancel_left at (length item))
    ∙ (ap (λ (xs : List ℕ). set (take at buffer ++ (xs ++ drop (length item) (drop at buffer))) (at + length item) 0) c.copy_from_slice.ensures.after
    ∙ item_set buffer item at c.requires)
