use Rattle.std.proofs.Common.{◌∙◌, ℕ, ◌++◌, List, length, take, drop, ap}
use Rattle.wasm_memory.specs.Bytes.{written}
use Rattle.wasm_memory.specs.Linear.{Linear, with_bytes}
use Rattle.edge_abi.specs.Buffers.{joined}
use Rattle.edge_abi.proofs.Joining.{part_put}
use Rattle.edge_abi.proofs.lists.put_joined.Goals as goal

pub returns-clause-put : goal.returns-clause-put
returns-clause-put c =
    let m : Linear = c.args.memory.now in
    let bytes : List ℕ = joined c.args.items.now in
    ap (λ (xs : List ℕ). with_bytes m (take (length m.bytes) (written m.bytes c.args.place xs)))
    (c.fill.ensures.filled ∙ ap (λ (xs : List ℕ). bytes ++ drop (length bytes) xs) c.part_mut.ensures.value)
    ∙ part_put m bytes c.args.place c.args.room c.requires.range c.requires.room
