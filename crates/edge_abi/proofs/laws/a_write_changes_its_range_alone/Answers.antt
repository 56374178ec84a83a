use Rattle.std.proofs.Common.{◌≡◌, ℕ, ◌+◌, ◌≤◌, Bool, true, false, List, length, take, drop, refl}
use Rattle.std.proofs.lemmas.Bool.{leb-true}
use Rattle.wasm_memory.specs.Bytes.{is_inside, written}
use Rattle.wasm_memory.specs.Linear.{Linear}
use Rattle.edge_abi.specs.Memory.{put}
use Rattle.edge_abi.proofs.laws.a_write_changes_its_range_alone.Goals as goal

-- a fact of the memory that holds of what is written and of what isn't holds of a write
either : {X : Type 0} (of : Linear → X) (m : Linear) (place : ℕ) (bytes : List ℕ) → (place + length bytes ≤ length m.bytes → of (record m { bytes = written m.bytes place bytes }) ≡ of m) → of (put m place bytes) ≡ of m
unfolding put
either of m place bytes inside =
    let with : (b : Bool) → is_inside m.bytes place (length bytes) ≡ b → of (put m place bytes) ≡ of m
    = elim [ true ↦ λ e. rw e (inside (leb-true (place + length bytes) (length m.bytes) e)) | false ↦ λ e. rw e refl ] in with (is_inside m.bytes place (length bytes)) refl

pub returns-clause-below : goal.returns-clause-below
returns-clause-below c = λ m place bytes. either (λ (n : Linear). take place n.bytes) m place bytes (c.only_the_part_changes.ensures.below m.bytes bytes place)

pub returns-clause-beyond : goal.returns-clause-beyond
returns-clause-beyond c = λ m place bytes. either (λ (n : Linear). drop (place + length bytes) n.bytes) m place bytes (c.only_the_part_changes.ensures.beyond m.bytes bytes place)

pub returns-clause-len : goal.returns-clause-len
returns-clause-len c = λ m place bytes. either (λ (n : Linear). length n.bytes) m place bytes (c.only_the_part_changes.ensures.len m.bytes bytes place)

pub returns-clause-most : goal.returns-clause-most
returns-clause-most c = λ m place bytes. either (λ (n : Linear). n.most) m place bytes (λ _. refl)
