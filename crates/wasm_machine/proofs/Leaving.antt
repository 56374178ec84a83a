-- Blocks end, and branches leave them.
use Rattle.std.proofs.Common.{◌≡◌, ℕ, zero, suc, ◌+◌, ◌-◌, refl, sym, ap, ◌∙◌, Some, List, [], ◌∷◌, ◌++◌, length, drop, slice_get, subst, append_assoc, length-append, arith}
use Rattle.wasm_types.specs.declared.values.Value.{Value}
use Rattle.wasm_types.specs.declared.instructions.Instr.{Instr}
use Rattle.wasm_flat.specs.declared.thread.Mark.{Mark}
use Rattle.wasm_meaning.specs.Frames.{Label}
use Rattle.wasm_flat.specs.Flat.{cut_to}
use Rattle.wasm_machine.specs.Standing.{AreOpen, LeadsTo, Closes, piled}
use Rattle.std.proofs.Math.Seq.{drop-append_seam}

-- the marks below are among the marks
pub outer_short : (code : List Instr) (below : List Value) (outer : List Mark) (ls : List Label) (ms : List Mark) (behind : List Instr) → AreOpen code below outer ls ms behind → length outer + length ls ≡ length ms
outer_short code below outer [] ms behind o = rw o.0 (omega arith)
outer_short code below outer (l ∷ ls) ms behind (m, rest, after, is, closes, height, leads, o) = rw is (omega (arith, outer_short code below outer ls rest after o))

-- the label that a branch names has its mark
abbrev pub Marked : ℕ → List Instr → List Value → List Mark → List Mark → List Label → Type 0
Marked n code below outer marks [] = Unit {0}
Marked n code below outer marks (l ∷ rest) =
    (m : Mark) × (ms : List Mark) × (inside : List Instr) × (after : List Instr)
    × (slice_get marks n ≡ Some m) × (drop n marks ≡ m ∷ ms) × Closes l.again inside l.rest after × (m.height ≡ length (piled l.below rest below)) × LeadsTo l.again code l after m × AreOpen code below outer rest ms after

pub mark_of : (n : ℕ) (code : List Instr) (below : List Value) (outer : List Mark) (ls : List Label) (marks : List Mark) (behind : List Instr) (l : Label) (rest : List Label)
    → drop n ls ≡ l ∷ rest → AreOpen code below outer ls marks behind → Marked n code below outer marks (l ∷ rest)
mark_of zero code below outer [] marks behind l rest h o = cc
mark_of (suc n) code below outer [] marks behind l rest h o = cc
mark_of zero code below outer (k ∷ ks) marks behind l rest h (m, ms, after, is, closes, height, leads, o) =
    let P : List Label → Type 0 = λ xs. Marked zero code below outer marks xs in
    subst P h (m, ms, behind, after, rw is refl, rw is refl, closes, height, leads, o)
mark_of (suc n) code below outer (k ∷ ks) marks behind l rest h (m, ms, after, is, closes, height, leads, o) =
    let w = mark_of n code below outer ks ms after l rest h o in (w.0, w.1, w.2, w.3, rw is w.4, rw is w.5, w.6, w.7, w.8, w.9)

-- the operands round the block that a branch names are the last ones
abbrev pub round_first : List Value → List Label → List Value
round_first below [] = below
round_first below (l ∷ ls) = piled l.below ls below

pub piled_drop : (n : ℕ) (vs : List Value) (ls : List Label) (below : List Value) (l : Label) (rest : List Label) → drop n ls ≡ l ∷ rest
    → (front : List Value) × (piled vs ls below ≡ front ++ piled l.below rest below)
piled_drop zero vs [] below l rest h = cc
piled_drop (suc n) vs [] below l rest h = cc
piled_drop zero vs (k ∷ ks) below l rest h = (vs, ap (λ x. vs ++ round_first below x) h)
piled_drop (suc n) vs (k ∷ ks) below l rest h =
    let w = piled_drop n k.below ks below l rest h in (vs ++ w.0, ap (λ x. vs ++ x) w.1 ∙ sym (append_assoc vs w.0 (piled l.below rest below)))

-- what a branch leaves
pub cut_piled : (front back : List Value) (height : ℕ) → height ≡ length back → cut_to height (front ++ back) ≡ back
cut_piled front back height h = let e : length (front ++ back) - height ≡ length front = omega (arith, length-append front back) in rw e (drop-append_seam front back)

pub piled_append : (vs ws : List Value) (ls : List Label) (below : List Value) → vs ++ piled ws ls below ≡ piled (vs ++ ws) ls below
piled_append vs ws [] below = sym (append_assoc vs ws below)
piled_append vs ws (l ∷ ls) below = sym (append_assoc vs ws (piled l.below ls below))

pub piled_cons : (v : Value) (vs : List Value) (ls : List Label) (below : List Value) → piled (v ∷ vs) ls below ≡ v ∷ piled vs ls below
piled_cons v vs [] below = refl
piled_cons v vs (l ∷ ls) below = refl
