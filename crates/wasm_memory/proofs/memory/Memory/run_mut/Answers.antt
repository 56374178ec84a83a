use Rattle.std.proofs.Common.{ap, refl, ◌∙◌, arith, ℕ, ◌+◌, ◌≤◌, List, take, drop, length}
use Rattle.std.proofs.Math.Nat.{add-sub_cancel_left}
use Rattle.wasm_memory.specs.Bytes.{bytes_at}
use Rattle.wasm_memory.specs.Linear.{Linear}
use Rattle.wasm_memory.specs.Lending.{with_part}
use Rattle.wasm_memory.proofs.Writes.{part_left}
use Rattle.wasm_memory.proofs.memory.Memory.run_mut.Goals as goal

pub returns : goal.returns
returns c =
    let bytes : List ℕ = c.self.inside.bytes.items in
    let inside : c.args.at + c.args.len ≤ length c.args.self.now.bytes = c.requires.inside in
    let within : c.args.at ≤ length bytes = omega (arith, inside, ap (λ (m : Linear). length m.bytes) c.self.view_is) in (
      (
        refl,
        λ (w : List ℕ).
            ap (λ (xs : List ℕ). let m : Linear = record { bytes = xs; most = c.self.inside.most } in m) (part_left bytes w c.args.at c.self.inside.bytes.len c.self.inside.bytes.ok.0 within)
            ∙ ap (λ (m : Linear). with_part m c.args.at w) c.self.view_is,
      ),
      record {
        writes_back = tt;
        value =
            c.slice_mut.ensures.value
            ∙ ap (λ (n : ℕ). take n (drop c.args.at bytes)) (add-sub_cancel_left c.args.at c.args.len)
            ∙ ap (λ (m : Linear). bytes_at m.bytes c.args.at c.args.len) c.self.view_is;
      },
    )
