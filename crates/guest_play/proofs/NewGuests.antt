-- Guests of requests, one more, and how many there are.
use Rattle.std.specs.Prelude.{◌≡◌, ℕ, ◌<◌, ◌+◌, suc, zero, Bool, false, List, [], ◌∷◌, ◌++◌, length, take, Option, None, refl}
use Rattle.std.specs.List.{slice_index_or}
use Rattle.std.proofs.Common.{arith, ap, subst, sym}
use Rattle.cache_types.specs.declared.outer.Outcome.{Outcome}
use Rattle.http_front.specs.declared.heads.Incoming.{Incoming}
use Rattle.player.specs.Plays.{Program, Answered}
use Rattle.schedule_play.specs.Sits.{AreNew}
use Rattle.guest_play.specs.Guests.{EachIs}

-- each request has a program
pub programs-exist : (Is : ℕ → Incoming → Program → Type 0) → ((index : ℕ) (request : Incoming) → (program : Program) × Is index request program) → (index : ℕ) (requests : List Incoming) → (programs : List Program) × EachIs Is index requests programs
programs-exist Is each index [] = ([], tt)
programs-exist Is each index (request ∷ requests) =
    let first = each index request in
    let rest = programs-exist Is each (index + 1) requests in
    (first.0 ∷ rest.0, (first.1, rest.1))

pub programs-count : (Is : ℕ → Incoming → Program → Type 0) (index : ℕ) (requests : List Incoming) (programs : List Program) → EachIs Is index requests programs → length programs ≡ length requests
programs-count Is index [] [] are = refl
programs-count Is index [] (program ∷ programs) are = absurd are
programs-count Is index (request ∷ requests) [] are = absurd are
programs-count Is index (request ∷ requests) (program ∷ programs) are = let rest = programs-count Is (index + 1) requests programs are.1 in omega (arith, rest)

-- the program at a place is that of the request there
pub record IsAt (Is : ℕ → Incoming → Program → Type 0) (index : ℕ) (request : Incoming) (programs : List Program) (i : ℕ) : Type 0 where
  pub program : Program
  pub is : Is (index + i) request program
  pub taken : take (suc i) programs ≡ take i programs ++ program ∷ []

pub program-at : (Is : ℕ → Incoming → Program → Type 0) (index : ℕ) (requests : List Incoming) (programs : List Program) (i : ℕ) (request : Incoming) → EachIs Is index requests programs → i < length requests → request ≡ slice_index_or requests i request → IsAt Is index request programs i
program-at Is index [] programs i request are below is = absurd (omega (arith, below))
program-at Is index (first ∷ requests) [] i request are below is = absurd are
program-at Is index (first ∷ requests) (program ∷ programs) zero request are below is =
    let here : index ≡ index + 0 = omega arith in
    record { program = program; is = subst (λ (n : ℕ). Is n request program) here (subst (λ (r : Incoming). Is index r program) (sym is) are.0); taken = refl }
program-at Is index (first ∷ requests) (program ∷ programs) (suc i) request are below is =
    let rest = program-at Is (index + 1) requests programs i request are.1 (omega (arith, below)) is in
    let next : index + 1 + i ≡ index + suc i = omega arith in
    record { program = rest.program; is = subst (λ (n : ℕ). Is n request rest.program) next rest.is; taken = ap (λ (ps : List Program). program ∷ ps) rest.taken }

-- new players, one more
pub new-more : {P : Type 0} (Plays : P → Program → List Answered → Type 0) (stopped : P → Option Outcome) (ended : P → Bool) (players : List P) (programs : List Program) (player : P) (program : Program) → AreNew Plays stopped ended players programs → Plays player program [] → stopped player ≡ None → ended player ≡ false → AreNew Plays stopped ended (players ++ player ∷ []) (programs ++ program ∷ [])
new-more Plays stopped ended [] [] player program are plays isnt goes = ((plays, isnt, goes), tt)
new-more Plays stopped ended [] (other ∷ programs) player program are plays isnt goes = absurd are
new-more Plays stopped ended (other ∷ players) [] player program are plays isnt goes = absurd are
new-more Plays stopped ended (other ∷ players) (first ∷ programs) player program are plays isnt goes = (are.0, new-more Plays stopped ended players programs player program are.1 plays isnt goes)

pub new-count : {P : Type 0} (Plays : P → Program → List Answered → Type 0) (stopped : P → Option Outcome) (ended : P → Bool) (players : List P) (programs : List Program) → AreNew Plays stopped ended players programs → length players ≡ length programs
new-count Plays stopped ended [] [] are = refl
new-count Plays stopped ended [] (program ∷ programs) are = absurd are
new-count Plays stopped ended (player ∷ players) [] are = absurd are
new-count Plays stopped ended (player ∷ players) (program ∷ programs) are = let rest = new-count Plays stopped ended players programs are.1 in omega (arith, rest)
