-- Items one behind the other, each with its NUL, and the part of a memory that they are written to.
use Rattle.std.proofs.Common.{◌≡◌, ◌∙◌, ℕ, suc, ◌+◌, ◌<◌, ◌≤◌, true, List, [], ◌∷◌, ◌++◌, length, take, drop, get_or, set, sym, ap, arith, length-append, append-nil, append_assoc, length-drop, take-append-drop}
use Rattle.std.proofs.Math.Seq.{take-suc, drop-cons, set-append_seam, take-length}
use Rattle.std.proofs.lemmas.Bool.{le-leb, leb-true}
use Rattle.std.proofs.lemmas.Grind.{flat_map-append}
use Rattle.std.proofs.lemmas.List.{take_at, drop_at, drop-drop, drop-append-le, length-take-le}
use Rattle.std.proofs.lemmas.List.Folds.{length-flat_map-take}
use Rattle.wasm_memory.specs.Bytes.{is_inside, bytes_at, written}
use Rattle.wasm_memory.specs.Linear.{Linear, with_bytes}
use Rattle.edge_abi.specs.Buffers.{ended, joined}
use Rattle.edge_abi.specs.Memory.{put}

length-ended : (item : List ℕ) → length (ended item) ≡ length item + 1
length-ended item = length-append item (0 ∷ [])

-- ---- one item more

pub item_set : (buffer item : List ℕ) (at : ℕ) → at + length item < length buffer
    → set (take at buffer ++ (item ++ drop (length item) (drop at buffer))) (at + length item) 0 ≡ take at buffer ++ (ended item ++ drop (at + (length item + 1)) buffer)
item_set buffer item at within =
    let k : ℕ = at + length item in
    let behind : drop (length item) (drop at buffer) ≡ get_or buffer k 0 ∷ drop (suc k) buffer = drop-drop (length item) at buffer ∙ drop-cons buffer k 0 within in
    let before : at ≤ length buffer = omega arith in
    let front : length (take at buffer ++ item) ≡ k = length-append (take at buffer) item ∙ ap (λ (n : ℕ). n + length item) (length-take-le at buffer before) in
    let next : suc k ≡ at + (length item + 1) = omega arith in
    ap (λ (xs : List ℕ). set (take at buffer ++ (item ++ xs)) k 0) behind
    ∙ (ap (λ (xs : List ℕ). set xs k 0) (sym (append_assoc (take at buffer) item (get_or buffer k 0 ∷ drop (suc k) buffer)))
    ∙ (ap (λ (n : ℕ). set ((take at buffer ++ item) ++ (get_or buffer k 0 ∷ drop (suc k) buffer)) n 0) (sym front)
    ∙ (set-append_seam (take at buffer ++ item) (get_or buffer k 0) (drop (suc k) buffer) 0
    ∙ (append_assoc (take at buffer) item (0 ∷ drop (suc k) buffer)
    ∙ (ap (λ (xs : List ℕ). take at buffer ++ xs) (sym (append_assoc item (0 ∷ []) (drop (suc k) buffer)))
    ∙ ap (λ (n : ℕ). take at buffer ++ (ended item ++ drop n buffer)) next)))))

pub item_more : (done item buffer : List ℕ) (at : ℕ) → at ≡ length done
    → take at (done ++ drop at buffer) ++ (ended item ++ drop (at + (length item + 1)) (done ++ drop at buffer)) ≡ (done ++ ended item) ++ drop (at + (length item + 1)) buffer
item_more done item buffer at e =
    let rest : drop at (done ++ drop at buffer) ≡ drop at buffer = drop_at done (drop at buffer) at (sym e) in
    let behind : drop (at + (length item + 1)) (done ++ drop at buffer) ≡ drop (at + (length item + 1)) buffer =
    sym (drop-drop (length item + 1) at (done ++ drop at buffer)) ∙ (ap (drop (length item + 1)) rest ∙ drop-drop (length item + 1) at buffer) in
    ap (λ (xs : List ℕ). xs ++ (ended item ++ drop (at + (length item + 1)) (done ++ drop at buffer))) (take_at done (drop at buffer) at (sym e))
    ∙ (ap (λ (xs : List ℕ). done ++ (ended item ++ xs)) behind ∙ sym (append_assoc done (ended item) (drop (at + (length item + 1)) buffer)))

pub joined_more : (items : List (List ℕ)) (i : ℕ) (item : List ℕ) → i < length items → item ≡ get_or items i item
    → joined (take (i + 1) items) ≡ joined (take i items) ++ ended item
joined_more items i item within is =
    let next : i + 1 ≡ suc i = omega arith in
    ap (λ (n : ℕ). joined (take n items)) next
    ∙ (ap joined (take-suc items i item within)
    ∙ (flat_map-append ended (take i items) (get_or items i item ∷ [])
    ∙ ap (λ (xs : List ℕ). joined (take i items) ++ xs) (append-nil (ended (get_or items i item)) ∙ ap ended (sym is))))

pub joined_room : (items : List (List ℕ)) (i : ℕ) (item : List ℕ) → i < length items → item ≡ get_or items i item
    → length (joined (take i items)) + (length item + 1) ≤ length (joined items)
joined_room items i item within is =
    let most : length (joined (take i items)) + length (ended (get_or items i item)) ≤ length (joined items) = length-flat_map-take ended items i item within in
    let same : length (ended (get_or items i item)) ≡ length item + 1 = ap (λ (x : List ℕ). length (ended x)) (sym is) ∙ length-ended item in
    omega (arith, most, same)

-- ---- a part of the memory whose front was written

part_front : (memory bytes : List ℕ) (place room : ℕ) → place + room ≤ length memory → length bytes ≤ room
    → written memory place (bytes ++ drop (length bytes) (bytes_at memory place room)) ≡ written memory place bytes
part_front memory bytes place room within fits =
    let rest : List ℕ = drop place memory in
    let part : List ℕ = bytes ++ drop (length bytes) (take room rest) in
    let all : length (take room rest) ≡ room = length-take-le room rest (omega (arith, length-drop place memory)) in
    let size : length part ≡ room = omega (arith, length-append bytes (drop (length bytes) (take room rest)), length-drop (length bytes) (take room rest), all) in
    let front : drop (length bytes) (take room rest ++ drop room rest) ≡ drop (length bytes) (take room rest) ++ drop room rest =
    drop-append-le (length bytes) (take room rest) (drop room rest) (omega (arith, all)) in
    let behind : drop (place + length part) memory ≡ drop room rest = ap (λ (n : ℕ). drop (place + n) memory) size ∙ sym (drop-drop room place memory) in
    let joint : drop (length bytes) (take room rest) ++ drop room rest ≡ drop (place + length bytes) memory =
    sym front ∙ (ap (drop (length bytes)) (take-append-drop room rest) ∙ drop-drop (length bytes) place memory) in
    ap (λ (xs : List ℕ). take place memory ++ xs)
    (ap (λ (xs : List ℕ). part ++ xs) behind
    ∙ (append_assoc bytes (drop (length bytes) (take room rest)) (drop room rest) ∙ ap (λ (xs : List ℕ). bytes ++ xs) joint))

length-written : (memory bytes : List ℕ) (place : ℕ) → place + length bytes ≤ length memory → length (written memory place bytes) ≡ length memory
length-written memory bytes place inside =
    let before : place ≤ length memory = omega arith in
    omega (arith, length-append (take place memory) (bytes ++ drop (place + length bytes) memory), length-append bytes (drop (place + length bytes) memory), length-take-le place memory before, length-drop (place + length bytes) memory)

pub part_put : (m : Linear) (bytes : List ℕ) (place room : ℕ) → is_inside m.bytes place room ≡ true → length bytes ≤ room
    → with_bytes m (take (length m.bytes) (written m.bytes place (bytes ++ drop (length bytes) (bytes_at m.bytes place room)))) ≡ put m place bytes
unfolding put
part_put m bytes place room range fits =
    let memory : List ℕ = m.bytes in
    let within : place + room ≤ length memory = leb-true (place + room) (length memory) range in
    let inside : place + length bytes ≤ length memory = omega arith in
    let test : is_inside memory place (length bytes) ≡ true = le-leb (place + length bytes) (length memory) inside in
    rw test (ap (with_bytes m)
    (ap (take (length memory)) (part_front memory bytes place room within fits)
    ∙ (ap (λ (n : ℕ). take n (written memory place bytes)) (sym (length-written memory bytes place inside)) ∙ take-length (written memory place bytes))))
