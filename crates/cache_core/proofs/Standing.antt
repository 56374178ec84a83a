-- Which transactions stand, by what the parts and the waits know.
use Rattle.std.specs.Prelude.{◌≡◌, ℕ, Bool, true, false, cond, not, ◌&&◌, ◌==◌, List, [], ◌∷◌, Option, Some, None, is_some, option_map, option_and_then, refl, if◌then◌else◌}
use Rattle.std.specs.List.{list_any, cons_option, AllByRecursion}
use Rattle.std.specs.Option.{option_map_or}
use Rattle.std.proofs.Common.{arith, sym, ap, ◌∙◌, eqb-true}
use Rattle.cache_types.specs.declared.calls.CacheCall.{CacheCall}
use Rattle.cache_types.specs.declared.calls.CacheCall.TheVariants.{TxLookup}
use Rattle.cache_types.specs.declared.entries.Entry.{Entry}
use Rattle.cache_types.specs.declared.replies.Reply.{Reply}
use Rattle.cache_types.specs.Entries.{entry_at, own_entry, is_told_to_insert, is_live}
use Rattle.cache_types.specs.Laws.{is_tx_lookup, is_open_lookup}
use Rattle.cache_types.specs.Legal.{IsLegalPast}
use Rattle.cache_types.specs.Slots.{Slot, same_slot}
use Rattle.cache_types.specs.Transactions.{Transaction, transactions, goal_of, ends_by, is_open, is_held, is_own_open}
use Rattle.cache_types.proofs.Goals.{made_of}
use Rattle.cache_types.proofs.Numbers.{own_entry_past}
use Rattle.cache_types.proofs.Openings.{has_begun, guests_began, open_is}
use Rattle.cache_objects.specs.Guests.{list_at}
use Rattle.cache_waiters.specs.Holding.{newest_with}
use Rattle.cache_waiters.specs.Stands.{holder_of}
use Rattle.cache_waiters.proofs.Holders.{held_is}
use Rattle.cache_core.specs.declared.parts.Parts.{Parts}
use Rattle.cache_core.specs.declared.waits.Waits.{Waits}
use Rattle.cache_core.specs.Object.{Holds}
use Rattle.cache_core.specs.Knows.{Knows}
use Rattle.cache_core.specs.Waits.{Awaits, is_standing, holds_by, open_by}
use Rattle.cache_core.proofs.Born.{find_holds}
use Rattle.cache_core.proofs.Owning.{own_open_by}

-- the entry, where it is this guest's
abbrev pub mine : ℕ → Entry → Option Entry
mine guest e = if e.guest == guest then Some e else None

own_case : (a b : Bool) (guest : ℕ) (e : Entry) (own all : Option Entry) → e.guest == guest ≡ b → (a ≡ true → own ≡ None) → own ≡ option_and_then (mine guest) all → cond (a && b) (Some e) own ≡ option_and_then (mine guest) (cond a (Some e) all)
own_case true true guest e own all is none rest = rw is refl
own_case true false guest e own all is none rest = none refl ∙ (rw is refl)
own_case false b guest e own all is none rest = rest

-- an own entry is the entry of the number, where it is the guest's
pub own_by : (past : List Entry) → IsLegalPast past → (guest number : ℕ) → own_entry past guest number ≡ option_and_then (mine guest) (entry_at past number)
own_by [] h guest number = refl
own_by (e ∷ past) h guest number =
    own_case (e.number == number) (e.guest == guest) guest e (own_entry past guest number) (entry_at past number) refl
    (λ same. own_entry_past past h.1 guest number (omega (arith, h.0.number, eqb-true e.number number same)))
    (own_by past h.1 guest number)

-- what the parts and the waits say of a lookup
pub standing_is : (past : List Entry) (parts : Parts) (waits : Waits) → Knows parts past → Awaits waits past → (number guest : ℕ) → is_standing waits.endings parts.guests number guest ≡ (not (list_any (λ (later : Entry). ends_by later number later.call) past) && is_live past guest)
standing_is past parts waits knows awaits number guest =
    ap (λ b. not b && is_some (list_at parts.guests guest)) (awaits.over number)
    ∙ ap (λ b. not (list_any (λ (later : Entry). ends_by later number later.call) past) && b) (knows.live guest)

pub open_by_is : (past : List Entry) (parts : Parts) (waits : Waits) → Knows parts past → Awaits waits past → (e : Entry) → open_by waits.endings parts.guests e ≡ is_open_lookup past e
open_by_is past parts waits knows awaits e = ap (λ b. (is_tx_lookup e.call && is_told_to_insert e.reply) && b) (standing_is past parts waits knows awaits e.number e.guest)

own_open_case : (past : List Entry) (parts : Parts) (waits : Waits) → Knows parts past → Awaits waits past → (o : Option Entry) → option_map_or (open_by waits.endings parts.guests) o false ≡ option_map_or (is_open_lookup past) o false
own_open_case past parts waits knows awaits None = refl
own_open_case past parts waits knows awaits (Some e) = open_by_is past parts waits knows awaits e

-- an own transaction is open where its entry says so
pub own_open_held : (past : List Entry) → IsLegalPast past → (parts : Parts) (waits : Waits) → Knows parts past → Awaits waits past → (guest tx : ℕ) → option_map_or (open_by waits.endings parts.guests) (own_entry past guest tx) false ≡ is_own_open past guest tx
own_open_held past legal parts waits knows awaits guest tx =
    own_open_case past parts waits knows awaits (own_entry past guest tx) ∙ sym (own_open_by past legal guest tx)

told_begun : (past : List Entry) (told : Bool) (t : Transaction) (ts : List Transaction) → has_begun past t.guest ≡ true → AllByRecursion (λ (x : Transaction). has_begun past x.guest ≡ true) ts → AllByRecursion (λ (x : Transaction). has_begun past x.guest ≡ true) (cons_option (if told then Some t else None) ts)
told_begun past true t ts here rest = (here, rest)
told_begun past false t ts here rest = rest

begun_step : (past rest : List Entry) (n g m : ℕ) (call : CacheCall) (reply : Reply) → has_begun past g ≡ true → AllByRecursion (λ (x : Transaction). has_begun past x.guest ≡ true) (transactions rest) → AllByRecursion (λ (x : Transaction). has_begun past x.guest ≡ true) (transactions (made_of n g m call reply ∷ rest))
begun_step past rest n g m (TxLookup key headers) reply here others =
    told_begun past (is_told_to_insert reply) (record { number = n; guest = g; goal = goal_of rest key headers }) (transactions rest) here others
begun_step past rest n g m call reply here others = others

-- the guest of each transaction has begun
all_begun : (past rest : List Entry) → AllByRecursion (λ (x : Entry). has_begun past x.guest ≡ true) rest → AllByRecursion (λ (x : Transaction). has_begun past x.guest ≡ true) (transactions rest)
all_begun past [] h = tt
all_begun past (e ∷ rest) h = begun_step past rest e.number e.guest e.moment e.call e.reply h.0 (all_begun past rest h.1)

holds_case : (past : List Entry) (parts : Parts) (waits : Waits) → Knows parts past → Awaits waits past → (o : Option Transaction) → Holds (λ (x : Transaction). has_begun past x.guest ≡ true) o → holds_by waits.endings parts.guests (option_map holder_of o) ≡ option_map_or (is_open past) o false
holds_case past parts waits knows awaits None begun = refl
holds_case past parts waits knows awaits (Some t) begun = standing_is past parts waits knows awaits t.number t.guest ∙ sym (open_is past t begun)

-- a goal is held where its newest transaction stands
pub holds_is : (past : List Entry) → IsLegalPast past → (parts : Parts) (waits : Waits) → Knows parts past → Awaits waits past → (slot : Slot) → holds_by waits.endings parts.guests (option_map holder_of (newest_with (transactions past) slot)) ≡ is_held past slot
holds_is past legal parts waits knows awaits slot =
    holds_case past parts waits knows awaits (newest_with (transactions past) slot)
    (find_holds (λ (x : Transaction). has_begun past x.guest ≡ true) (λ (t : Transaction). same_slot t.goal slot) (transactions past) (all_begun past past (guests_began past legal)))
    ∙ sym (held_is past legal slot)

pub own_here : (past : List Entry) → IsLegalPast past → (guest number : ℕ) (e : Entry) → Some e ≡ entry_at past number → (e.guest == guest) ≡ true → Some e ≡ own_entry past guest number
own_here past legal guest number e at is =
    sym (own_by past legal guest number ∙ ap (option_and_then (mine guest)) (sym at) ∙ ap (λ b. if b then Some e else None) is)

pub own_not : (past : List Entry) → IsLegalPast past → (guest number : ℕ) (e : Entry) → Some e ≡ entry_at past number → (e.guest == guest) ≡ false → None ≡ own_entry past guest number
own_not past legal guest number e at is =
    sym (own_by past legal guest number ∙ ap (option_and_then (mine guest)) (sym at) ∙ ap (λ b. if b then Some e else None) is)

pub own_nothing : (past : List Entry) → IsLegalPast past → (guest number : ℕ) → None ≡ entry_at past number → None ≡ own_entry past guest number
own_nothing past legal guest number at = sym (own_by past legal guest number ∙ ap (option_and_then (mine guest)) (sym at))

pub own_open_some : (past : List Entry) → IsLegalPast past → (parts : Parts) (waits : Waits) → Knows parts past → Awaits waits past → (guest tx : ℕ) (e : Entry) → Some e ≡ own_entry past guest tx → open_by waits.endings parts.guests e ≡ is_own_open past guest tx
own_open_some past legal parts waits knows awaits guest tx e at =
    ap (λ o. option_map_or (open_by waits.endings parts.guests) o false) at ∙ own_open_held past legal parts waits knows awaits guest tx

pub own_open_none : (past : List Entry) → IsLegalPast past → (parts : Parts) (waits : Waits) → Knows parts past → Awaits waits past → (guest tx : ℕ) → None ≡ own_entry past guest tx → false ≡ is_own_open past guest tx
own_open_none past legal parts waits knows awaits guest tx at =
    ap (λ o. option_map_or (open_by waits.endings parts.guests) o false) at ∙ own_open_held past legal parts waits knows awaits guest tx
