-- How a schedule begins and ends.
use Rattle.std.specs.Prelude.{◌≡◌, ◌⊎◌, ℕ, ◌+◌, Bool, true, false, not, ◌||◌, List, [], ◌∷◌, ◌++◌, map, reverse, ◌==◌, refl, Option, None, Some}
use Rattle.std.specs.List.{list_any, list_all}
use Rattle.std.proofs.Common.{arith, ap, sym, subst, inl, inr, eq-eqb}
use Rattle.std.proofs.lemmas.List.{reverse-append}
use Rattle.std.proofs.lemmas.List.Folds.{list_all-append}
use Rattle.std.proofs.Math.Bool.{or-true}
use Rattle.std.proofs.lemmas.Bool.{ne_eqb, and_parts, and_from}
use Rattle.cache_types.specs.declared.entries.Entry.{Entry}
use Rattle.cache_types.specs.declared.outer.Outcome.{Outcome}
use Rattle.cache_types.specs.Entries.{newest_first}
use Rattle.player.specs.Plays.{Program, Answered, due, stopped_due}
use Rattle.player.specs.Runs.{IsRun, IsCut}
use Rattle.player.specs.declared.turn.Turn.TheVariants.{Over}
use Rattle.schedule_play.specs.Schedule.{Seat, new_seat, start_of, due_of, outcome_in, blocks_from}
use Rattle.schedule_play.specs.Sits.{AllTell}
use Rattle.schedule_play.specs.Blocks.{AreBlocks, differ, covers, guests_of, HasBlocks, IsStop}
use Rattle.schedule_play.specs.Ready.{IsSeatState, AllStand, NoneIs, AllDiffer, OneIs, AllSeated, IsReady, programs_of, world_of}

-- new guests may go on
pub new-stand : (programs : List Program) → AllStand [] (map new_seat programs)
new-stand [] = tt
new-stand (program ∷ programs) = (record { named = omega arith; answers = refl; fresh = tt; tied = refl; state = (inl (refl, refl), tt) }, new-stand programs)

pub new-differ : (programs : List Program) → AllDiffer (map new_seat programs)
new-differ [] = tt
new-differ (program ∷ programs) = (inl refl, new-differ programs)

pub start-ready : (programs : List Program) → IsReady (start_of programs)
start-ready programs = record { legal = tt; limits = refl; stand = new-stand programs; differ = new-differ programs; seated = tt }

pub programs-start : (programs : List Program) → programs_of (map new_seat programs) ≡ programs
programs-start [] = refl
programs-start (program ∷ programs) = ap (λ rest. program ∷ rest) (programs-start programs)

-- the run of a guest that is over
cut-run : (seat : Seat) (why how : Outcome) → IsStop why → IsCut seat.program seat.trace → ((seat.trace ≡ []) ⊎ (seat.ended ≡ true)) → (ended : Bool) → seat.ended ≡ ended → (trace : List Answered) → seat.trace ≡ trace → stopped_due trace ended why ≡ Over how → IsRun IsStop seat.program seat.trace how
cut-run seat why how stop cut end ended is [] at due = let same : why ≡ how = cc in subst (IsRun IsStop seat.program seat.trace) same (inr (stop, cut))
cut-run seat why how stop cut end true is (begin ∷ trace) at due = let same : why ≡ how = cc in subst (IsRun IsStop seat.program seat.trace) same (inr (stop, cut))
cut-run seat why how stop cut end false is (begin ∷ trace) at due = cc due

pub over-run : (past : List Entry) (seat : Seat) (how : Outcome) (stopped : Option Outcome) → IsSeatState past seat stopped → due seat.program seat.trace seat.ended stopped ≡ Over how → IsRun IsStop seat.program seat.trace how
over-run past seat how None state is = inl (state.1, is)
over-run past seat how (Some why) state is = cut-run seat why how state.0 state.1 state.2 seat.ended refl seat.trace refl is

pub blocks-are : (past : List Entry) (index : ℕ) (seats : List Seat) → AllStand past seats → AllTell seats → AreBlocks past index (programs_of seats) (blocks_from index seats)
blocks-are past index [] stand tell = tt
blocks-are past index (seat ∷ seats) stand tell =
    let how : Outcome = tell.0.0 in
    let run : IsRun IsStop seat.program seat.trace (outcome_in (due_of seat)) = subst (IsRun IsStop seat.program seat.trace) (sym (ap outcome_in tell.0.1)) (over-run past seat how seat.stopped stand.0.state tell.0.1) in
    (record { trace = seat.trace; index_is = refl; events_are = refl; answers = stand.0.answers; tied = stand.0.tied; run = run }, blocks-are past (index + 1) seats stand.1 tell.1)

pub none-any : (guest index : ℕ) (seats : List Seat) → NoneIs guest seats → list_any (λ other. other == guest) (guests_of (blocks_from index seats)) ≡ false
none-any guest index [] none = refl
none-any guest index (seat ∷ seats) none =
    let other : (seat.guest == guest) ≡ false = ne_eqb seat.guest guest none.0 in rw other (none-any guest (index + 1) seats none.1)

pub blocks-differ : (index : ℕ) (seats : List Seat) → AllDiffer seats → differ (guests_of (blocks_from index seats)) ≡ true
blocks-differ index [] apart = refl
blocks-differ index (seat ∷ seats) apart =
    and_from (seat.guest == 0 || not (list_any (λ other. other == seat.guest) (guests_of (blocks_from (index + 1) seats)))) (differ (guests_of (blocks_from (index + 1) seats)))
    (elim apart.0 [
      | inl new ↦ let zero_is : (seat.guest == 0) ≡ true = eq-eqb seat.guest 0 new in rw zero_is refl
      | inr none ↦ let no_other = none-any seat.guest (index + 1) seats none in rw no_other (or-true (seat.guest == 0))
    ])
    (blocks-differ (index + 1) seats apart.1)

pub one-any : (guest index : ℕ) (seats : List Seat) → OneIs guest seats → list_any (λ other. other == guest) (guests_of (blocks_from index seats)) ≡ true
one-any guest index [] one = absurd one
one-any guest index (seat ∷ seats) one =
    elim one [
      | inl here ↦ let same : (seat.guest == guest) ≡ true = eq-eqb seat.guest guest here in rw same refl
      | inr there ↦ rw (one-any guest (index + 1) seats there) (or-true (seat.guest == guest))
    ]

pub blocks-cover : (past : List Entry) (seats : List Seat) → AllSeated past seats → covers (guests_of (blocks_from 1 seats)) past ≡ true
blocks-cover [] seats seated = refl
blocks-cover (e ∷ past) seats seated =
    and_from (list_any (λ guest. guest == e.guest) (guests_of (blocks_from 1 seats))) (covers (guests_of (blocks_from 1 seats)) past) (one-any e.guest 1 seats seated.0) (blocks-cover past seats seated.1)

-- a world in which all are over has the blocks
pub has-blocks : (history : List Entry) (programs : List Program) (seats : List Seat) → IsReady (world_of history seats) → AllTell seats → programs_of seats ≡ programs → HasBlocks history programs (blocks_from 1 seats)
has-blocks history programs seats ready tell same = record {
  blocks_are = subst (λ ps. AreBlocks (newest_first history) 1 ps (blocks_from 1 seats)) same (blocks-are (newest_first history) 1 seats ready.stand tell);
  guests_differ = blocks-differ 1 seats ready.differ;
  entries_covered = blocks-cover (newest_first history) seats ready.seated;
}

-- a test of each element doesn't ask for their order
pub list_all-reverse : {A : Type 0} (test : A → Bool) (xs : List A) → list_all test (reverse xs) ≡ true → list_all test xs ≡ true
list_all-reverse test [] all = refl
list_all-reverse test (x ∷ xs) all =
    let split : list_all test (reverse xs ++ x ∷ []) ≡ true = subst (λ ys. list_all test ys ≡ true) (reverse-append (x ∷ []) xs) all in
    let parts = and_parts (list_all test (reverse xs)) (list_all test (x ∷ [])) (subst (λ b. b ≡ true) (list_all-append test (reverse xs) (x ∷ [])) split) in
    and_from (test x) (list_all test xs) ((and_parts (test x) true parts.1).0) (list_all-reverse test xs parts.0)
