-- A stack whose items stand in a vector with the topmost one last.
use Rattle.std.proofs.Common.{◌≡◌, ℕ, ◌-◌, ◌+◌, ◌<◌, ◌≤◌, inl, inr, List, [], ◌∷◌, ◌++◌, Some, length, take, drop, get_or, reverse, refl, sym, ◌∙◌, ap, arith, slice_get, slice_set}
use Rattle.stacks.specs.Tops.{first_set}
use Rattle.std.proofs.lemmas.List.{take-append-drop, reverse-append, reverse-reverse, length-reverse, length-drop, length-append, get_or-reverse}
use Rattle.std.proofs.lemmas.Option.{slice_get-get_or}
use Rattle.std.proofs.Math.Seq.{drop-append_seam, take-append_seam, set-append_seam}
use Rattle.std.proofs.Math.ListN.{drop_of_length-le}
use Rattle.std.proofs.lemmas.Bool.{cases_lt}  -- `cases_lt` is `lt_or_ge` in other libraries, and gives their `le_total`

split_drop : {X : Type 0} (front back : List X) (n : ℕ) → length front ≡ n → drop n (front ++ back) ≡ back
split_drop front back n h = rw (← h) (drop-append_seam front back)

split_take : {X : Type 0} (front back : List X) (n : ℕ) → length front ≡ n → take n (front ++ back) ≡ front
split_take front back n h = rw (← h) (take-append_seam front back)

lowered_within : {X : Type 0} (xs : List X) (n k : ℕ) → k + n ≡ length xs → reverse (take k xs) ≡ drop n (reverse xs)
lowered_within xs n k h =
    let parts : reverse xs ≡ reverse (drop k xs) ++ reverse (take k xs) = ap reverse (sym (take-append-drop k xs)) ∙ reverse-append (take k xs) (drop k xs) in
    let len : length (reverse (drop k xs)) ≡ n = length-reverse (drop k xs) ∙ length-drop k xs ∙ omega arith in
    sym (ap (drop n) parts ∙ split_drop (reverse (drop k xs)) (reverse (take k xs)) n len)

pub lowered : {X : Type 0} (xs : List X) (n : ℕ) → reverse (take (length xs - n) xs) ≡ drop n (reverse xs)
lowered xs n =
    elim (cases_lt (length xs) n) [
      | inr h ↦ lowered_within xs n (length xs - n) (omega arith)
      | inl h ↦
          let none : length xs - n ≡ 0 = omega arith in
          let short : length (reverse xs) ≤ n = omega (arith, length-reverse xs) in
          rw none (sym (drop_of_length-le (reverse xs) short))
    ]

pub at_depth : {X : Type 0} (xs : List X) (d : ℕ) (x : X) → d < length xs → x ≡ get_or xs (length xs - 1 - d) x → slice_get (reverse xs) d ≡ Some x
at_depth xs d x h e =
    let inside : d < length (reverse xs) = omega (arith, length-reverse xs) in
    slice_get-get_or (reverse xs) d x inside ∙ ap Some (get_or-reverse xs d x h ∙ sym e)

pub topmost : {X : Type 0} (xs : List X) (n : ℕ) → n ≤ length xs → drop (length xs - n) xs ≡ reverse (take n (reverse xs))
topmost xs n h =
    let k : ℕ = length xs - n in
    let parts : reverse xs ≡ reverse (drop k xs) ++ reverse (take k xs) = ap reverse (sym (take-append-drop k xs)) ∙ reverse-append (take k xs) (drop k xs) in
    let len : length (reverse (drop k xs)) ≡ n = length-reverse (drop k xs) ∙ length-drop k xs ∙ omega arith in
    sym (ap (λ l. reverse (take n l)) parts ∙ ap reverse (split_take (reverse (drop k xs)) (reverse (take k xs)) n len) ∙ reverse-reverse (drop k xs))

over_first : {X : Type 0} (rs : List X) (x : X) → reverse (slice_set (reverse rs) (length (reverse rs) - 1) x) ≡ first_set x rs
over_first [] x = refl
over_first (z ∷ zs) x =
    let split : reverse (z ∷ zs) ≡ reverse zs ++ z ∷ [] = reverse-append (z ∷ []) zs in
    let last : length (reverse zs ++ z ∷ []) - 1 ≡ length (reverse zs) = omega (arith, length-append (reverse zs) (z ∷ [])) in
    ap (λ ys. reverse (slice_set ys (length ys - 1) x)) split
    ∙ ap (λ n. reverse (slice_set (reverse zs ++ z ∷ []) n x)) last
    ∙ ap reverse (set-append_seam (reverse zs) z [] x)
    ∙ reverse-append (reverse zs) (x ∷ [])
    ∙ ap (λ ys. x ∷ ys) (reverse-reverse zs)

pub over_last : {X : Type 0} (xs : List X) (x : X) → reverse (slice_set xs (length xs - 1) x) ≡ first_set x (reverse xs)
over_last xs x = ap (λ ys. reverse (slice_set ys (length ys - 1) x)) (sym (reverse-reverse xs)) ∙ over_first (reverse xs) x
