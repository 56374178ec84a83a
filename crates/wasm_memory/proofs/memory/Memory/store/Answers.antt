use Rattle.std.proofs.Common.{◌≡◌, ap, sym, ◌∙◌, arith, ℕ, ◌+◌, ◌≤◌, List, length}
use Rattle.std.proofs.lemmas.Bool.{leb-true}
use Rattle.std.proofs.lemmas.List.{with_items_is}
use Rattle.wasm_memory.specs.Bytes.{written, set_all, bytes_of, is_inside}
use Rattle.wasm_memory.specs.Linear.{Linear, with_bytes}
use Rattle.wasm_memory.proofs.Writes.{set_number, length_bytes, length_written}
use Rattle.wasm_memory.proofs.memory.Memory.store.Goals as goal

pub returns-clause-inside : goal.returns-clause-inside
returns-clause-inside c =
    let bytes : List ℕ = c.self.inside.bytes.items in
    let number : List ℕ = bytes_of c.args.size c.args.value in
    let view : bytes ≡ c.args.self.now.bytes = ap (λ (m : Linear). m.bytes) c.self.view_is in
    let inside : c.args.place + c.args.size ≤ length c.args.self.now.bytes = leb-true (c.args.place + c.args.size) (length c.args.self.now.bytes) (ap (λ (n : ℕ). is_inside c.args.self.now.bytes c.args.place n) (sym c.from.ensures) ∙ sym c.is_inside.ensures ∙ c.if-not-is_inside.false) in
    let here : c.args.place + c.args.size ≤ length bytes = omega (arith, inside, ap length view) in
    let left : c.write.new.bytes ≡ written bytes c.args.place number =
    c.write.ensures ∙ ap (set_all c.args.place number) c.as_mut_slice.ensures.value ∙ set_number bytes c.args.place c.args.size c.args.value here in
    let fits : c.args.place + length number ≤ length bytes = omega (arith, here, length_bytes c.args.size c.args.value) in
    let same : length c.write.new.bytes ≡ c.self.inside.bytes.len = ap length left ∙ length_written bytes number c.args.place fits ∙ sym c.self.inside.bytes.ok.0 in (
      inside,
      ap (λ (xs : List ℕ). let m : Linear = record { bytes = xs; most = c.self.inside.most } in m) (with_items_is c.self.inside.bytes c.write.new.bytes same ∙ left)
          ∙ ap (λ (m : Linear). with_bytes m (written m.bytes c.args.place number)) c.self.view_is,
    )
