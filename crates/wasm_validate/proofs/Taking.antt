-- Arguments are taken from the last one on.
use Rattle.std.proofs.Common.{◌≡◌, ℕ, suc, ◌<◌, List, [], ◌∷◌, take, length, get_or, reverse, ap, ◌∙◌}
use Rattle.std.proofs.lemmas.List.{reverse-append}
use Rattle.std.proofs.Math.Seq.{take-suc}

pub last_first : {A : Type 0} (xs : List A) (n : ℕ) (d : A) → n < length xs → reverse (take (suc n) xs) ≡ get_or xs n d ∷ reverse (take n xs)
last_first {A} xs n d lt = ap (λ (l : List A). reverse l) (take-suc xs n d lt) ∙ reverse-append (take n xs) (get_or xs n d ∷ [])
