use Rattle.std.proofs.Common.{◌≡◌, ◌∙◌, ℕ, ◌+◌, ◌≤◌, ◌++◌, List, length, take, drop, ap, sym, arith, length-append}
use Rattle.edge_abi.specs.Buffers.{ended, joined}
use Rattle.edge_abi.proofs.Joining.{item_more, joined_more, joined_room}
use Rattle.edge_abi.proofs.lists.fill.Goals as goal

pub put_item-requires : goal.put_item-requires
put_item-requires c =
    let room : length (joined (take c.loop-item.item-index c.args.items.now)) + (length c.item-item.result + 1) ≤ length (joined c.args.items.now) =
    joined_room c.args.items.now c.loop-item.item-index c.item-item.result c.loop-item-test.true c.item-item.is in
    omega (arith, room, c.loop-item.invariant.len, ap length c.bytes-bytes.ensures, c.requires, c.loop-item.auto.buffer)

pub loop-item-preserved : goal.loop-item-preserved
loop-item-preserved c =
    let items : List (List ℕ) = c.args.items.now in
    let i : ℕ = c.loop-item.item-index in
    let item : List ℕ = c.item-item.result in
    let done : List ℕ = joined (take i items) in
    let at : ℕ = c.loop-item.at in
    let bytes : c.bytes-bytes.result.now ≡ item = c.bytes-bytes.ensures in
    let more : joined (take (i + 1) items) ≡ done ++ ended item = joined_more items i item c.loop-item-test.true c.item-item.is in
    let one : length (ended item) ≡ length item + 1 = length-append item _ in
    record {
      len = omega (arith, ap length more, length-append done (ended item), one, c.loop-item.invariant.len, ap length bytes);
      filled =
          c.put_item.ensures
          ∙ (ap (λ (xs : List ℕ). take at xs ++ (ended c.bytes-bytes.result.now ++ drop (at + (length c.bytes-bytes.result.now + 1)) xs)) c.loop-item.invariant.filled
          ∙ (ap (λ (xs : List ℕ). take at (done ++ drop at c.args.buffer.now) ++ (ended xs ++ drop (at + (length xs + 1)) (done ++ drop at c.args.buffer.now))) bytes
          ∙ (item_more done item c.args.buffer.now at c.loop-item.invariant.len
          ∙ (ap (λ (xs : List ℕ). xs ++ drop (at + (length item + 1)) c.args.buffer.now) (sym more)
          ∙ ap (λ (xs : List ℕ). joined (take (i + 1) items) ++ drop (at + (length xs + 1)) c.args.buffer.now) (sym bytes)))));
    }
