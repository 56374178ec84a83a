-- Places of a listener: those from the next one on have a connection.
use Rattle.std.proofs.Common.{◌≡◌, ℕ, suc, ◌+◌, ◌-◌, ◌<◌, ◌≤◌, ◌⊎◌, inl, inr, List, length, drop, set, get_or, Option, Some, refl, sym, ◌∙◌, ap, subst, arith, add-one}
use Rattle.std.specs.Prelude.{All, IsSome, slice_get}
use Rattle.std.proofs.Math.Seq.{drop-cons}
use Rattle.std.proofs.lemmas.Bool.{cases_lt}
use Rattle.std.proofs.lemmas.List.{drop-set-lt, drop-set-add}
use Rattle.std.proofs.lemmas.List.Elements.{All-head, All-rest, All-set, All-same}
use Rattle.std.proofs.lemmas.Option.{get_or_from_slice_get}

module _ {C : Type 0} where
  -- the next place has one
  pub next_has : (places : List (Option C)) (given : ℕ) (conn : Option C) → given < length places → All IsSome (drop given places) → slice_get places given ≡ Some conn → IsSome conn
  next_has places given conn within all is =
      let first = All-head IsSome (get_or places given conn) (drop (suc given) places) (All-same IsSome _ _ (sym (drop-cons places given conn within)) all) in
      subst IsSome (get_or_from_slice_get places given conn conn is) first

  -- once it was given, those behind it still have one
  pub rest_has : (places : List (Option C)) (given : ℕ) (x : Option C) → given < length places → All IsSome (drop given places) → All IsSome (drop (given + 1) (set places given x))
  rest_has places given x within all =
      let behind : All IsSome (drop (suc given) places) = All-rest IsSome (get_or places given x) (drop (suc given) places) (drop given places) (drop-cons places given x within) all in
      let same : drop (given + 1) (set places given x) ≡ drop (given + 1) places = drop-set-lt (given + 1) places given x (omega arith) in
      All-same IsSome _ _ same (rw (add-one) behind)

  -- filling a place leaves that so
  pub filled_has : (places : List (Option C)) (given place : ℕ) (conn : C) → All IsSome (drop given places) → All IsSome (drop given (set places place (Some conn)))
  filled_has places given place conn all = by (cases_lt place given)
    where
      by : ((place < given) ⊎ (given ≤ place)) → All IsSome (drop given (set places place (Some conn)))
      by (inl before) = All-same IsSome _ _ (drop-set-lt given places place (Some conn) before) all
      by (inr behind) =
          let at : place ≡ given + (place - given) = omega arith in
          All-same IsSome _ _ (ap (λ n. drop given (set places n (Some conn))) at ∙ drop-set-add given places (place - given) (Some conn)) (All-set IsSome (drop given places) (place - given) (Some conn) refl all)
