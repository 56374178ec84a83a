-- Bytes that are written one after another, and what stands there then.
use Rattle.std.proofs.Common.{◌≡◌, ℕ, zero, suc, ◌+◌, ◌*◌, ◌/◌, ◌%◌, ◌^◌, ◌<◌, ◌≤◌, refl, sym, ap, ◌∙◌, arith, List, [], ◌∷◌, ◌++◌, length, take, drop, set, add-zero, add-one, pow-suc, append_assoc, length-set, length-append, length-drop, take-append-drop, mul_comm, lit<}
use Rattle.std.proofs.Math.Arith.{mod-mul}
use Rattle.std.proofs.Math.Nat.{mod-one}
use Rattle.std.proofs.Math.Seq.{take-suc-set, take-length}
use Rattle.std.proofs.lemmas.List.{drop-set-lt, take_at, drop_at, length-take-le, drop-drop, take-append-le}
use Rattle.wasm_memory.specs.Bytes.{written, set_all, bytes_at, number_of, bytes_of}

pub set_all_is : (memory bytes : List ℕ) (place : ℕ) → place + length bytes ≤ length memory → set_all place bytes memory ≡ written memory place bytes
set_all_is memory [] place inside =
    sym (ap (λ (n : ℕ). take place memory ++ drop n memory) (add-zero place) ∙ take-append-drop place memory)
set_all_is memory (b ∷ bs) place inside =
    let after : List ℕ = set memory place b in
    let here : place < length memory = omega arith in
    let rest : place + 1 + length bs ≤ length after = omega (arith, length-set memory place b) in
    let past : place < place + 1 + length bs = omega arith in
    let same : place + 1 + length bs ≡ place + suc (length bs) = omega arith in
    set_all_is after bs (place + 1) rest
    ∙ ap (λ (xs : List ℕ). xs ++ (bs ++ drop (place + 1 + length bs) after)) (ap (λ (n : ℕ). take n after) (add-one place) ∙ take-suc-set memory place b here)
    ∙ ap (λ (xs : List ℕ). (take place memory ++ b ∷ []) ++ (bs ++ xs)) (drop-set-lt (place + 1 + length bs) memory place b past ∙ ap (λ (n : ℕ). drop n memory) same)
    ∙ append_assoc (take place memory) (b ∷ []) (bs ++ drop (place + suc (length bs)) memory)

pub length_bytes : (k n : ℕ) → length (bytes_of k n) ≡ k
length_bytes zero n = refl
length_bytes (suc k) n = ap suc (length_bytes k (n / 256))

pub set_number : (memory : List ℕ) (place k n : ℕ) → place + k ≤ length memory → set_all place (bytes_of k n) memory ≡ written memory place (bytes_of k n)
set_number memory place k n inside = set_all_is memory (bytes_of k n) place (omega (arith, length_bytes k n))

pub number_of_bytes : (k n : ℕ) → number_of (bytes_of k n) ≡ n % 256 ^ k
number_of_bytes zero n = sym (mod-one n)
number_of_bytes (suc k) n =
    let power : 256 ^ suc k ≡ 256 ^ k * 256 = pow-suc 256 k in
    ap (λ (x : ℕ). n % 256 + 256 * x) (number_of_bytes k (n / 256))
    ∙ omega (arith, mod-mul n {m = 256 ^ k} {c = 256} (some k) (lit< tt), ap (λ (x : ℕ). n % x) power, mul_comm 256 (n / 256 % 256 ^ k))
  where
    some : (j : ℕ) → zero < 256 ^ j
    some zero = lit< tt
    some (suc j) = omega (arith, some j, pow-suc 256 j)

pub written_there : (memory bytes : List ℕ) (place : ℕ) → place + length bytes ≤ length memory → bytes_at (written memory place bytes) place (length bytes) ≡ bytes
written_there memory bytes place inside =
    let before : place ≤ length memory = omega arith in
    ap (take (length bytes)) (drop_at (take place memory) (bytes ++ drop (place + length bytes) memory) place (length-take-le place memory before))
    ∙ take_at bytes (drop (place + length bytes) memory) (length bytes) refl

pub written_below : (memory bytes : List ℕ) (place : ℕ) → place + length bytes ≤ length memory → take place (written memory place bytes) ≡ take place memory
written_below memory bytes place inside =
    let before : place ≤ length memory = omega arith in
    take_at (take place memory) (bytes ++ drop (place + length bytes) memory) place (length-take-le place memory before)

pub written_beyond : (memory bytes : List ℕ) (place : ℕ) → place + length bytes ≤ length memory → drop (place + length bytes) (written memory place bytes) ≡ drop (place + length bytes) memory
written_beyond memory bytes place inside =
    let before : place ≤ length memory = omega arith in
    let front : length (take place memory ++ bytes) ≡ place + length bytes = length-append (take place memory) bytes ∙ ap (λ (n : ℕ). n + length bytes) (length-take-le place memory before) in
    ap (drop (place + length bytes)) (sym (append_assoc (take place memory) bytes (drop (place + length bytes) memory)))
    ∙ drop_at (take place memory ++ bytes) (drop (place + length bytes) memory) (place + length bytes) front

pub length_written : (memory bytes : List ℕ) (place : ℕ) → place + length bytes ≤ length memory → length (written memory place bytes) ≡ length memory
length_written memory bytes place inside =
    let before : place ≤ length memory = omega arith in
    omega (arith, length-append (take place memory) (bytes ++ drop (place + length bytes) memory), length-append bytes (drop (place + length bytes) memory), length-take-le place memory before, length-drop (place + length bytes) memory)

-- ---- a part that was lent, whatever is left in it

pub part_left : (memory part : List ℕ) (place count : ℕ) → count ≡ length memory → place ≤ length memory
    → take count ((take place memory ++ (part ++ drop (length part) (drop place memory))) ++ drop (length (take place memory ++ (part ++ drop (length part) (drop place memory)))) memory)
    ≡ take (length memory) (written memory place part)
part_left memory part place count all within =
    let behind : List ℕ = drop (length part) (drop place memory) in
    let left : List ℕ = take place memory ++ (part ++ behind) in
    let enough : count ≤ length left =
    omega (arith, all, length-append (take place memory) (part ++ behind), length-append part behind, length-take-le place memory within, length-drop (length part) (drop place memory), length-drop place memory) in
    take-append-le count left (drop (length left) memory) enough
    ∙ ap (λ (n : ℕ). take n left) all
    ∙ ap (λ (xs : List ℕ). take (length memory) (take place memory ++ (part ++ xs))) (drop-drop (length part) place memory)

pub part_fits : (memory part : List ℕ) (place : ℕ) → place + length part ≤ length memory → take (length memory) (written memory place part) ≡ written memory place part
part_fits memory part place inside =
    ap (λ (n : ℕ). take n (written memory place part)) (sym (length_written memory part place inside)) ∙ take-length (written memory place part)
