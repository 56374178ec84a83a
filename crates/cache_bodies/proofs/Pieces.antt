-- Pieces in a row.
use Rattle.std.specs.Prelude.{◌≡◌, ℕ, ◌+◌, ◌-◌, ◌<◌, ◌≤◌, List, [], ◌∷◌, ◌++◌, length, take, drop, refl}
use Rattle.std.specs.List.{slice_index_or}
use Rattle.std.proofs.Common.{min, arith, zero, suc, sym, ap, ◌∙◌, append_assoc, append-nil, length-append, add-one}
use Rattle.std.proofs.Math.Seq.{drop-append-add, take-append-add, take-append-le, take-suc}
use Rattle.std.proofs.Math.ListN.{drop_of_length-le}
use Rattle.std.proofs.lemmas.List.{length-drop, take_min}
use Rattle.cache_bodies.specs.declared.piece.Piece.{Piece}
use Rattle.cache_bodies.specs.Joined.{joined, Runs}

-- a piece behind the others
pub joined-push : (ps : List Piece) (p : Piece) → joined (ps ++ p ∷ []) ≡ joined ps ++ p.octets
joined-push [] p = append-nil p.octets
joined-push (q ∷ ps) p = ap (λ l. q.octets ++ l) (joined-push ps p) ∙ sym (append_assoc q.octets (joined ps) p.octets)

pub runs-push : (at : ℕ) (ps : List Piece) (p : Piece) → Runs at ps → p.place ≡ at + length (joined ps) → Runs at (ps ++ p ∷ [])
runs-push at [] p runs place = (omega (arith, place), tt)
runs-push at (q ∷ ps) p runs place =
    (runs.0, runs-push (at + length q.octets) ps p runs.1 (omega (arith, place, length-append q.octets (joined ps))))

-- the bytes before a piece, its own, and the rest
pub joined-split : (ps : List Piece) (i : ℕ) (d : Piece) → i < length ps → joined ps ≡ joined (take i ps) ++ ((slice_index_or ps i d).octets ++ joined (drop (suc i) ps))
joined-split [] i d within = absurd (omega (arith, within))
joined-split (p ∷ ps) zero d within = refl
joined-split (p ∷ ps) (suc i) d within =
    ap (λ l. p.octets ++ l) (joined-split ps i d (omega (arith, within)))
    ∙ sym (append_assoc p.octets (joined (take i ps)) ((slice_index_or ps i d).octets ++ joined (drop (suc i) ps)))

-- a piece's place is how many bytes stand before it
pub place_is : (at : ℕ) (ps : List Piece) (i : ℕ) (d : Piece) → Runs at ps → i < length ps → (slice_index_or ps i d).place ≡ at + length (joined (take i ps))
place_is at [] i d runs within = absurd (omega (arith, within))
place_is at (p ∷ ps) zero d runs within = omega (arith, runs.0)
place_is at (p ∷ ps) (suc i) d runs within =
    let later = place_is (at + length p.octets) ps i d runs.1 (omega (arith, within)) in
    omega (arith, later, length-append p.octets (joined (take i ps)))

joined-more : (ps : List Piece) (i : ℕ) (d : Piece) → i < length ps → joined (take (i + 1) ps) ≡ joined (take i ps) ++ (slice_index_or ps i d).octets
joined-more ps i d within = rw (add-one, take-suc ps i d within) (joined-push (take i ps) (slice_index_or ps i d))

-- of a piece that was found by its index: one more of them, the rest, and its place
pub more-at : (ps : List Piece) (i : ℕ) (x : Piece) → x ≡ slice_index_or ps i x → i < length ps → joined (take (i + 1) ps) ≡ joined (take i ps) ++ x.octets
more-at ps i x is within =
    joined-more ps i x within ∙ ap (λ (y : Piece). joined (take i ps) ++ y.octets) (sym is)

pub split-at : (ps : List Piece) (i : ℕ) (x : Piece) → x ≡ slice_index_or ps i x → i < length ps → joined ps ≡ joined (take i ps) ++ (x.octets ++ joined (drop (suc i) ps))
split-at ps i x is within =
    joined-split ps i x within ∙ ap (λ (y : Piece). joined (take i ps) ++ (y.octets ++ joined (drop (suc i) ps))) (sym is)

pub placed-at : (ps : List Piece) (i : ℕ) (x : Piece) → x ≡ slice_index_or ps i x → Runs 0 ps → i < length ps → length (joined (take i ps)) ≡ x.place
placed-at ps i x is runs within =
    let place : (slice_index_or ps i x).place ≡ 0 + length (joined (take i ps)) = place_is 0 ps i x runs within in
    let same : x.place ≡ (slice_index_or ps i x).place = ap (λ (y : Piece). y.place) is in omega (arith, place, same)

-- bytes behind a place, in two parts
pub drop-append : {A : Type 0} (n : ℕ) (xs ys : List A) → drop n (xs ++ ys) ≡ drop n xs ++ drop (n - length xs) ys
drop-append zero xs ys = let e : 0 - length xs ≡ 0 = omega arith in rw e refl
drop-append (suc n) [] ys = let e : suc n - 0 ≡ suc n = omega arith in rw e refl
drop-append (suc n) (x ∷ xs) ys = let e : suc n - suc (length xs) ≡ n - length xs = omega arith in rw e (drop-append n xs ys)

-- what stands in the first part
pub take_within : {A : Type 0} (xs ys : List A) (skip most : ℕ) → skip + most ≤ length xs → take most (drop skip (xs ++ ys)) ≡ take most (drop skip xs)
take_within xs ys skip zero h = refl
take_within [] ys skip (suc most) h = absurd (omega (arith, h))
take_within (x ∷ xs) ys zero (suc most) h = ap (λ l. x ∷ l) (take_within xs ys zero most (omega (arith, h)))
take_within (x ∷ xs) ys (suc skip) (suc most) h = take_within xs ys skip (suc most) (omega (arith, h))

pub take-all : {A : Type 0} (n : ℕ) (xs : List A) → length xs ≤ n → take n xs ≡ xs
take-all zero [] h = refl
take-all zero (x ∷ xs) h = absurd (omega (arith, h))
take-all (suc n) [] h = refl
take-all (suc n) (x ∷ xs) h = ap (λ l. x ∷ l) (take-all n xs (omega (arith, h)))

-- what stands in one piece stands there in all of them
pub part_is : (ps : List Piece) (i : ℕ) (x : Piece) (place most : ℕ) → x ≡ slice_index_or ps i x → Runs 0 ps → i < length ps → x.place ≤ place → place - x.place + most ≤ length x.octets → take most (drop (place - x.place) x.octets) ≡ take most (drop place (joined ps))
part_is ps i x place most is runs within le fits =
    let before : List ℕ = joined (take i ps) in
    let rest : List ℕ = joined (drop (suc i) ps) in
    let skip : ℕ = place - x.place in
    let placed : length before ≡ x.place = placed-at ps i x is runs within in
    let split : length before + skip ≡ place = omega (arith, placed, le) in
    sym (take_within x.octets rest skip most fits)
    ∙ ap (take most) (sym (drop-append-add before (x.octets ++ rest) skip))
    ∙ ap (λ n. take most (drop n (before ++ (x.octets ++ rest)))) split
    ∙ ap (λ w. take most (drop place w)) (sym (split-at ps i x is within))

-- what stands behind the place in the pieces so far, and in one more
pub behind-more : (ps : List Piece) (i : ℕ) (x : Piece) (place : ℕ) (bytes rest : List ℕ) → x ≡ slice_index_or ps i x → Runs 0 ps → i < length ps → bytes ≡ drop place (joined (take i ps)) → rest ≡ drop (place - x.place) x.octets → bytes ++ rest ≡ drop place (joined (take (i + 1) ps))
behind-more ps i x place bytes rest is runs within sofar here =
    let before : List ℕ = joined (take i ps) in
    ap (λ l. l ++ rest) sofar ∙ ap (λ l. drop place before ++ l) here
    ∙ ap (λ n. drop place before ++ drop (place - n) x.octets) (sym (placed-at ps i x is runs within))
    ∙ sym (ap (drop place) (more-at ps i x is within) ∙ drop-append place before x.octets)

-- the piece that has the last byte that is wanted
pub filled : (ps : List Piece) (i : ℕ) (x : Piece) (place most wanted : ℕ) (bytes rest : List ℕ) → x ≡ slice_index_or ps i x → Runs 0 ps → i < length ps → bytes ≡ drop place (joined (take i ps)) → rest ≡ drop (place - x.place) x.octets → most ≡ length bytes + wanted → wanted ≤ length rest → bytes ++ take wanted rest ≡ take most (drop place (joined ps))
filled ps i x place most wanted bytes rest is runs within sofar here much enough =
    let before : List ℕ = joined (take i ps) in
    let after : List ℕ = joined (drop (suc i) ps) in
    let later : List ℕ = drop (place - x.place - length x.octets) after in
    let all : drop place (joined ps) ≡ bytes ++ (rest ++ later) =
    ap (drop place) (split-at ps i x is within) ∙ drop-append place before (x.octets ++ after)
    ∙ ap (λ n. drop place before ++ drop (place - n) (x.octets ++ after)) (placed-at ps i x is runs within)
    ∙ ap (λ l. drop place before ++ l) (drop-append (place - x.place) x.octets after)
    ∙ ap (λ l. drop place before ++ (l ++ later)) (sym here) ∙ ap (λ l. l ++ (rest ++ later)) (sym sofar)
    in
    sym (ap (λ n. take n (drop place (joined ps))) much ∙ ap (take (length bytes + wanted)) all ∙ take-append-add bytes (rest ++ later) wanted
    ∙ ap (λ l. bytes ++ l) (take-append-le wanted rest later enough))

-- all that stands behind the place is no more than is wanted
pub all-of-it : (ps : List Piece) (i place most : ℕ) (bytes : List ℕ) → length ps ≤ i → bytes ≡ drop place (joined (take i ps)) → length bytes ≤ most → bytes ≡ take most (drop place (joined ps))
all-of-it ps i place most bytes past is few =
    let whole : bytes ≡ drop place (joined ps) = is ∙ ap (λ l. drop place (joined l)) (take-all i ps past) in
    sym (take-all most bytes few) ∙ ap (take most) whole

-- nothing stands behind the place in pieces that end there
pub nothing-behind : (ps : List Piece) (i : ℕ) (x : Piece) (place : ℕ) → x ≡ slice_index_or ps i x → Runs 0 ps → i < length ps → x.place ≤ place → drop place (joined (take i ps)) ≡ []
nothing-behind ps i x place is runs within le = drop_of_length-le (joined (take i ps)) (omega (arith, placed-at ps i x is runs within, le))

-- bytes that are wanted past the end aren't there
pub wanted-at-most : (most place few : ℕ) (w : List ℕ) → few ≡ min most (length w - place) → take few (drop place w) ≡ take most (drop place w)
wanted-at-most most place few w is =
    ap (λ n. take n (drop place w)) (is ∙ ap (min most) (sym (length-drop place w))) ∙ take_min most (drop place w)
