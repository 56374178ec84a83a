-- Which guests entries have.
use Rattle.std.specs.Prelude.{◌≡◌, ℕ, ◌+◌, ◌<◌, ◌≤◌, Bool, true, false, not, ◌&&◌, ◌||◌, List, [], ◌∷◌, length, refl, ◌==◌, if◌then◌else◌, Some, None}
use Rattle.std.specs.List.{list_any, cons_option}
use Rattle.std.proofs.Common.{arith, ◌∙◌, eqb-true, eq-eqb}
use Rattle.std.proofs.Math.Bool.{or-true}
use Rattle.std.proofs.lemmas.Bool.{and_parts, ne_eqb}
use Rattle.cache_types.specs.declared.calls.CacheCall.{CacheCall}
use Rattle.cache_types.specs.declared.calls.CacheCall.TheVariants.{Begin}
use Rattle.cache_types.specs.declared.entries.Entry.{Entry}
use Rattle.cache_types.specs.Entries.{begun, has_ended, is_live, is_begin, is_end}
use Rattle.cache_types.specs.Legal.{IsLegalPast, IsGuest}
use Rattle.schedule_play.specs.Blocks.{own}

-- guests that began are named by numbers of entries
pub begun-named : (past : List Entry) (guest : ℕ) → IsLegalPast past → list_any (λ g. g == guest) (begun past) ≡ true → (1 ≤ guest) × (guest ≤ length past)
begun-named [] guest legal found = cc
begun-named (e ∷ past) guest legal found =
    let number : e.number ≡ length past + 1 = legal.0.number in
    let older : list_any (λ g. g == guest) (begun past) ≡ true → (1 ≤ guest) × (guest ≤ length (e ∷ past)) = λ there.
    let named = begun-named past guest legal.1 there in (named.0, omega (arith, named.1))
    in
    let here : e.number ≡ guest → (1 ≤ guest) × (guest ≤ length (e ∷ past)) = λ same. (omega arith, omega arith) in
    let first : (b : Bool) → (e.number == guest) ≡ b → (b || list_any (λ g. g == guest) (begun past)) ≡ true → (1 ≤ guest) × (guest ≤ length (e ∷ past)) =
    elim [ true ↦ λ is _. here (eqb-true e.number guest is) | false ↦ λ _ there. older there ]
    in
    let with : (b : Bool) → list_any (λ g. g == guest) (cons_option (if b then Some e.number else None) (begun past)) ≡ true → (1 ≤ guest) × (guest ≤ length (e ∷ past)) =
    elim [ true ↦ λ found. first (e.number == guest) refl found | false ↦ older ]
    in with (is_begin e.call) found

pub live-named : (past : List Entry) (guest : ℕ) → IsLegalPast past → is_live past guest ≡ true → (1 ≤ guest) × (guest ≤ length past)
live-named past guest legal live =
    begun-named past guest legal ((and_parts (list_any (λ g. g == guest) (begun past)) (not (has_ended past guest)) live).0)

-- an entry's guest is named by its own number or by one before it
pub entry-guest : (past : List Entry) (e : Entry) (call : CacheCall) → IsLegalPast past → e.number ≡ length past + 1 → IsGuest past e call → (1 ≤ e.guest) × (e.guest ≤ length past + 1)
entry-guest past e Begin legal number guest = (omega (arith, guest), omega (arith, guest))
entry-guest past e _ legal number guest = let named = live-named past e.guest legal guest in (named.0, omega (arith, named.1))

-- no entry is of a guest with a greater number, and none is of guest 0
pub own-fresh : (past : List Entry) (guest : ℕ) → IsLegalPast past → length past < guest → own past guest ≡ []
own-fresh [] guest legal above = refl
own-fresh (e ∷ past) guest legal above =
    let named = entry-guest past e e.call legal.1 legal.0.number legal.0.guest in
    let le : e.guest ≤ length past + 1 = named.1 in
    let other : (e.guest == guest) ≡ false = ne_eqb e.guest guest (λ same. omega arith) in
    rw other (own-fresh past guest legal.1 (omega arith))

pub own-zero : (past : List Entry) → IsLegalPast past → own past 0 ≡ []
own-zero [] legal = refl
own-zero (e ∷ past) legal =
    let named = entry-guest past e e.call legal.1 legal.0.number legal.0.guest in
    let ge : 1 ≤ e.guest = named.0 in
    let other : (e.guest == 0) ≡ false = ne_eqb e.guest 0 (λ same. omega arith) in
    rw other (own-zero past legal.1)

-- who began has an entry
abbrev pub IsSome-entry : List Entry → Type 0
IsSome-entry [] = ⊥
IsSome-entry (e ∷ trace) = Unit {0}

pub own-begun : (past : List Entry) (guest : ℕ) → IsLegalPast past → list_any (λ g. g == guest) (begun past) ≡ true → IsSome-entry (own past guest)
own-begun [] guest legal found = cc
own-begun (e ∷ past) guest legal found =
    let older : list_any (λ g. g == guest) (begun past) ≡ true → IsSome-entry (own (e ∷ past) guest) = λ there.
    let with : (b : Bool) → IsSome-entry (if b then e ∷ own past guest else own past guest) = elim [ true ↦ tt | false ↦ own-begun past guest legal.1 there ] in with (e.guest == guest)
    in
    let begins : (call : CacheCall) → IsGuest past e call → is_begin call ≡ true → e.guest ≡ e.number = λ call guest begin. begin-guest past e call guest begin in
    let first : is_begin e.call ≡ true → (b : Bool) → (e.number == guest) ≡ b → (b || list_any (λ g. g == guest) (begun past)) ≡ true → IsSome-entry (own (e ∷ past) guest) = λ begin.
    elim [
      | true ↦ λ is _. let same : (e.guest == guest) ≡ true = eq-eqb e.guest guest (begins e.call legal.0.guest begin ∙ eqb-true e.number guest is) in rw same tt
      | false ↦ λ _ there. older there
    ]
    in
    let with : (b : Bool) → is_begin e.call ≡ b → list_any (λ g. g == guest) (cons_option (if b then Some e.number else None) (begun past)) ≡ true → IsSome-entry (own (e ∷ past) guest) =
    elim [ true ↦ λ begin found. first begin (e.number == guest) refl found | false ↦ λ _ found. older found ]
    in with (is_begin e.call) refl found
  where
    begin-guest : (past : List Entry) (e : Entry) (call : CacheCall) → IsGuest past e call → is_begin call ≡ true → e.guest ≡ e.number
    begin-guest past e Begin guest begin = guest
    begin-guest past e _ guest begin = cc

pub own-live : (past : List Entry) (guest : ℕ) → IsLegalPast past → is_live past guest ≡ true → IsSome-entry (own past guest)
own-live past guest legal live =
    own-begun past guest legal ((and_parts (list_any (λ g. g == guest) (begun past)) (not (has_ended past guest)) live).0)

-- a guest that is live stays so until its End
pub live-stays : (past : List Entry) (e : Entry) (guest : ℕ) → is_live past guest ≡ true → (is_end e.call && e.guest == guest) ≡ false → is_live (e ∷ past) guest ≡ true
live-stays past e guest live goes_on =
    let parts = and_parts (list_any (λ g. g == guest) (begun past)) (not (has_ended past guest)) live in
    let began : (b : Bool) → list_any (λ g. g == guest) (cons_option (if b then Some e.number else None) (begun past)) ≡ true =
    elim [ true ↦ rw parts.0 (or-true (e.number == guest)) | false ↦ parts.0 ]
    in rw (began (is_begin e.call), goes_on) parts.1

-- a guest whose Begin this is is live after it
pub live-begun : (past : List Entry) (e : Entry) → IsLegalPast past → is_begin e.call ≡ true → is_end e.call ≡ false → has_ended past e.number ≡ false → is_live (e ∷ past) e.number ≡ true
live-begun past e legal begin no_end fresh =
    let same : (e.number == e.number) ≡ true = eq-eqb e.number e.number refl in rw (begin, no_end, fresh, same) refl

-- no guest ends that has no entry yet
pub not-ended : (past : List Entry) (guest : ℕ) → IsLegalPast past → length past < guest → has_ended past guest ≡ false
not-ended [] guest legal above = refl
not-ended (e ∷ past) guest legal above =
    let named = entry-guest past e e.call legal.1 legal.0.number legal.0.guest in
    let le : e.guest ≤ length past + 1 = named.1 in
    let other : (e.guest == guest) ≡ false = ne_eqb e.guest guest (λ same. omega arith) in
    let older : has_ended past guest ≡ false = not-ended past guest legal.1 (omega arith) in
    let with : (b : Bool) → ((b && false) || has_ended past guest) ≡ false = elim [ true ↦ older | false ↦ older ] in
    rw other (with (is_end e.call))
