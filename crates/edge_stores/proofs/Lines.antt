-- Vectors whose bytes are joined one after another.
use Rattle.std.proofs.Common.{◌≡◌, ◌∙◌, ℕ, zero, suc, ◌+◌, ◌-◌, ◌<◌, Bool, true, false, ◌&&◌, List, ◌∷◌, ◌++◌, length, refl, sym, ap, arith, append_assoc, length-append}
use Rattle.std.specs.Prelude.{nat_le, Err}
use Rattle.std.proofs.lemmas.Bool.{leb-false, lt-leb}
use Rattle.wasm_memory.specs.Linear.{Linear}
use Rattle.edge_abi.specs.declared.status.Refusal.{Refusal}
use Rattle.edge_abi.specs.declared.status.Refusal.TheVariants.{Told, OutOfMemory}
use Rattle.edge_abi.specs.Memory.{has_range, octets_at}
use Rattle.edge_abi.specs.Refusals.{Judges}
use Rattle.edge_stores.specs.Vectors.{Vector, word_at, vectors, are_inside, joined, is_line, line_of, TellsMore}

-- the vector at a place
abbrev pub vector_at : Linear → ℕ → Vector
vector_at m place = record { place = word_at m place; length = word_at m (place + 4) }

pub vectors_step : (m : Linear) (place left : ℕ) → 0 < left → vectors m place left ≡ vector_at m place ∷ vectors m (place + 8) (left - 1)
vectors_step m place zero some = absurd (omega (arith, some))
vectors_step m place (suc left) some =
    let less : left ≡ suc left - 1 = omega arith in ap (λ (n : ℕ). vector_at m place ∷ vectors m (place + 8) n) less

both_false : (a b : Bool) → a ≡ true → (a && b) ≡ false → b ≡ false
both_false true b e f = f
both_false false b e f = cc

second_false : (a b : Bool) → b ≡ false → (a && b) ≡ false
second_false true b e = e
second_false false b e = refl

-- a vector that isn't taken leaves no line
pub no_line : (m : Linear) (line : List ℕ) (v : Vector) (rest whole : List Vector)
    → are_inside m (v ∷ rest) ≡ are_inside m whole → line ++ joined m (v ∷ rest) ≡ joined m whole
    → (has_range m v.place v.length && nat_le (length line + length (octets_at m v.place v.length)) 65536) ≡ false
    → is_line m whole ≡ false
no_line m line v rest whole inside bytes over =
    let with : (b : Bool) → has_range m v.place v.length ≡ b → is_line m whole ≡ false =
    elim [
      | true ↦ λ e.
          let test : nat_le (length line + length (octets_at m v.place v.length)) 65536 ≡ false = both_false (has_range m v.place v.length) (nat_le (length line + length (octets_at m v.place v.length)) 65536) e over in
          let more : 65536 < length line + length (octets_at m v.place v.length) = leb-false (length line + length (octets_at m v.place v.length)) 65536 test in
          let len : length line + length (joined m (v ∷ rest)) ≡ length (joined m whole) = sym (length-append line (joined m (v ∷ rest))) ∙ ap length bytes in
          let part : length (joined m (v ∷ rest)) ≡ length (octets_at m v.place v.length) + length (joined m rest) = length-append (octets_at m v.place v.length) (joined m rest) in
          second_false (are_inside m whole) (nat_le (length (joined m whole)) 65536) (lt-leb (length (joined m whole)) 65536 (omega (arith, more, len, part)))
      | false ↦ λ e.
          let out : are_inside m (v ∷ rest) ≡ false = rw e refl in
          let none : are_inside m whole ≡ false = sym inside ∙ out in
          rw none refl
    ] in with (has_range m v.place v.length) refl

pub refused_line : (m : Linear) (line more : List ℕ) (v : Vector) (rest whole : List Vector) (refusal : Refusal)
    → are_inside m (v ∷ rest) ≡ are_inside m whole → line ++ joined m (v ∷ rest) ≡ joined m whole
    → TellsMore m line v (Err refusal) more → Judges (line_of m whole) (Err refusal)
refused_line m line more v rest whole OutOfMemory inside bytes told = tt
refused_line m line more v rest whole (Told said) inside bytes (is, over) =
    let none : is_line m whole ≡ false = no_line m line v rest whole inside bytes over in rw none (rw is refl)

-- a vector that is taken
pub step_inside : (m : Linear) (v : Vector) (rest whole : List Vector) → has_range m v.place v.length ≡ true → are_inside m (v ∷ rest) ≡ are_inside m whole → are_inside m rest ≡ are_inside m whole
step_inside m v rest whole inside all =
    let one : are_inside m (v ∷ rest) ≡ are_inside m rest = rw inside refl in sym one ∙ all

pub step_bytes : (m : Linear) (line more : List ℕ) (v : Vector) (rest whole : List Vector) → more ≡ line ++ octets_at m v.place v.length → line ++ joined m (v ∷ rest) ≡ joined m whole
    → more ++ joined m rest ≡ joined m whole
step_bytes m line more v rest whole is bytes = rw is (append_assoc line (octets_at m v.place v.length) (joined m rest) ∙ bytes)
