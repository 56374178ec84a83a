-- What a sink holds behind the writes of some pieces.
use Rattle.std.proofs.Common.{◌≡◌, ℕ, ◌≤◌, List, [], ◌∷◌, ◌++◌, length, take, sym, ap, ◌∙◌, append_assoc}
use Rattle.std.proofs.lemmas.List.{append-nil}
use Rattle.edge_outside.specs.Made.{Made}
use Rattle.edge_outside.specs.Sink.{SinkContent, Adds}
use Rattle.guest_answers.specs.Wire.{joined}
use Rattle.edge_work.specs.Sent.{all_written, lost}

pub held_all : (before after : SinkContent) (pieces : List (List ℕ)) → Made Adds before (all_written pieces) after → after.bytes ≡ before.bytes ++ joined pieces
unfolding Made
held_all before after [] made = ap (λ (k : SinkContent). k.bytes) made ∙ sym (append-nil before.bytes)
held_all before after ([] ∷ pieces) made = held_all before after pieces made
held_all before after ((byte ∷ bytes) ∷ pieces) made =
    held_all made.0 after pieces made.1.1 ∙ (ap (λ (l : List ℕ). l ++ joined pieces) made.1.0.ok ∙ append_assoc before.bytes (byte ∷ bytes) (joined pieces))

pub held_in_part : (before after : SinkContent) (pieces : List (List ℕ)) (last : List ℕ) → Made Adds before (all_written pieces ++ lost last) after → (n : ℕ) × (n ≤ length last) × (after.bytes ≡ before.bytes ++ (joined pieces ++ take n last))
unfolding Made
held_in_part before after [] last made = let part = made.1.0.err in (part.0, part.1, ap (λ (k : SinkContent). k.bytes) made.1.1 ∙ part.2)
held_in_part before after ([] ∷ pieces) last made = held_in_part before after pieces last made
held_in_part before after ((byte ∷ bytes) ∷ pieces) last made =
    let rest = held_in_part made.0 after pieces last made.1.1 in
    let tail = take rest.0 last in (
      rest.0,
      rest.1,
      rest.2 ∙ (ap (λ (l : List ℕ). l ++ (joined pieces ++ tail)) made.1.0.ok
          ∙ (append_assoc before.bytes (byte ∷ bytes) (joined pieces ++ tail) ∙ ap (λ (l : List ℕ). before.bytes ++ l) (sym (append_assoc (byte ∷ bytes) (joined pieces) tail)))),
    )
