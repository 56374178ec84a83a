-- A guest's own open transaction, by its entry.
use Rattle.std.specs.Prelude.{◌≡◌, ℕ, Bool, true, false, cond, ◌&&◌, ◌||◌, ◌==◌, List, [], ◌∷◌, Option, Some, None, refl, if◌then◌else◌}
use Rattle.std.specs.List.{filter, list_any, cons_option, AllByRecursion}
use Rattle.std.specs.Option.{option_map_or}
use Rattle.std.proofs.Common.{arith, ap, ◌∙◌, eqb-true}
use Rattle.std.proofs.lemmas.Bool.{and_parts}
use Rattle.cache_types.specs.declared.calls.CacheCall.{CacheCall}
use Rattle.cache_types.specs.declared.calls.CacheCall.TheVariants.{TxLookup}
use Rattle.cache_types.specs.declared.entries.Entry.{Entry}
use Rattle.cache_types.specs.declared.replies.Reply.{Reply}
use Rattle.cache_types.specs.Entries.{own_entry, is_told_to_insert}
use Rattle.cache_types.specs.Transactions.{Transaction, transactions, is_open, goal_of, is_own, is_own_open}
use Rattle.cache_types.specs.Laws.{is_open_lookup}
use Rattle.cache_types.specs.Legal.{IsLegalPast}
use Rattle.cache_types.proofs.Goals.{made_of}
use Rattle.cache_types.proofs.Numbers.{own_entry_past}
use Rattle.cache_core.proofs.More.{or_none}
use Rattle.cache_types.proofs.Openings.{open_is, has_begun, guests_began}

-- the entry is the guest's, has this number and is an open transaction
abbrev pub is_the_one : List Entry → ℕ → ℕ → Entry → Bool
is_the_one past guest number e = (e.number == number && e.guest == guest) && is_open_lookup past e

told_own : (past : List Entry) (guest number : ℕ) (told : Bool) (t : Transaction) (ts : List Transaction) (is : Bool) (rest : Bool) → is_open past t ≡ is → is_own guest number (filter (is_open past) ts) ≡ rest → is_own guest number (filter (is_open past) (cons_option (if told then Some t else None) ts)) ≡ (((t.number == number && t.guest == guest) && (told && is)) || rest)
told_own past guest number true t ts true rest same others = rw same (here (t.number == number && t.guest == guest))
  where
    here : (b : Bool) → (b || is_own guest number (filter (is_open past) ts)) ≡ ((b && true) || rest)
    here true = refl
    here false = others
told_own past guest number true t ts false rest same others = rw same (here (t.number == number && t.guest == guest))
  where
    here : (b : Bool) → is_own guest number (filter (is_open past) ts) ≡ ((b && false) || rest)
    here true = others
    here false = others
told_own past guest number false t ts is rest same others = here (t.number == number && t.guest == guest)
  where
    here : (b : Bool) → is_own guest number (filter (is_open past) ts) ≡ ((b && false) || rest)
    here true = others
    here false = others

none_own : (b : Bool) (rest : Bool) → rest ≡ ((b && false) || rest)
none_own true rest = refl
none_own false rest = refl

own_step : (past rest : List Entry) (guest number n g m : ℕ) (call : CacheCall) (reply : Reply) → has_begun past g ≡ true → is_own guest number (filter (is_open past) (transactions rest)) ≡ list_any (is_the_one past guest number) rest → is_own guest number (filter (is_open past) (transactions (made_of n g m call reply ∷ rest))) ≡ list_any (is_the_one past guest number) (made_of n g m call reply ∷ rest)
own_step past rest guest number n g m (TxLookup key headers) reply began same =
    let t : Transaction = record { number = n; guest = g; goal = goal_of rest key headers } in
    told_own past guest number (is_told_to_insert reply) t (transactions rest) _ (list_any (is_the_one past guest number) rest) (open_is past t began) same
own_step past rest guest number n g m call reply began same = same ∙ none_own (n == number && g == guest) (list_any (is_the_one past guest number) rest)

own_any : (past rest : List Entry) (guest number : ℕ) → AllByRecursion (λ (x : Entry). has_begun past x.guest ≡ true) rest → is_own guest number (filter (is_open past) (transactions rest)) ≡ list_any (is_the_one past guest number) rest
own_any past [] guest number h = refl
own_any past (e ∷ rest) guest number h = own_step past rest guest number e.number e.guest e.moment e.call e.reply h.0 (own_any past rest guest number h.1)

-- a guest's own transaction is open where some entry is it
pub own_open_is : (past : List Entry) → IsLegalPast past → (guest number : ℕ) → is_own_open past guest number ≡ list_any (is_the_one past guest number) past
own_open_is past h guest number = own_any past past guest number (guests_began past h)

one_case : (b p : Bool) (e : Entry) (P : Entry → Bool) (rest : Bool) (o : Option Entry) → P e ≡ p → (b ≡ true → rest ≡ false) → (b ≡ false → rest ≡ option_map_or P o false) → ((b && P e) || rest) ≡ option_map_or P (cond b (Some e) o) false
one_case true p e P rest o is here there = ap (λ r. P e || r) (here refl) ∙ or_none (P e)
one_case false p e P rest o is here there = there refl

-- one entry has the number
pub one_own : (P : Entry → Bool) (rest : List Entry) → IsLegalPast rest → (guest number : ℕ) → list_any (λ (e : Entry). (e.number == number && e.guest == guest) && P e) rest ≡ option_map_or P (own_entry rest guest number) false
one_own P [] h guest number = refl
one_own P (e ∷ rest) h guest number =
    let others = one_own P rest h.1 guest number in
    one_case (e.number == number && e.guest == guest) (P e) e P _ (own_entry rest guest number) refl
    (λ same. others ∙ ap (λ o. option_map_or P o false) (own_entry_past rest h.1 guest number (omega (arith, h.0.number, eqb-true e.number number (and_parts (e.number == number) (e.guest == guest) same).0))))
    (λ _. others)

-- the guest's own entry with this number is an open transaction
pub own_open_by : (past : List Entry) → IsLegalPast past → (guest number : ℕ) → is_own_open past guest number ≡ option_map_or (is_open_lookup past) (own_entry past guest number) false
own_open_by past h guest number = own_open_is past h guest number ∙ one_own (is_open_lookup past) past h guest number
