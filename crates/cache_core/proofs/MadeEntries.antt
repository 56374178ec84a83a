-- Which entries make objects: those whose reply is Made.
use Rattle.std.specs.Prelude.{◌≡◌, ℕ, ◌+◌, Bool, true, false, cond, ◌&&◌, ◌==◌, List, [], ◌∷◌, length, take, drop, nat_lt, Option, Some, None, is_some, option_map, option_and_then, refl, if◌then◌else◌}
use Rattle.std.specs.List.{find, cons_option}
use Rattle.std.specs.Option.{option_map_or}
use Rattle.std.proofs.Common.{arith, sym, ap, ◌∙◌, eqb-true}
use Rattle.std.proofs.lemmas.Bool.{false≢true, and_parts}
use Rattle.cache_types.specs.declared.calls.CacheCall.{CacheCall}
use Rattle.cache_types.specs.declared.calls.CacheCall.TheVariants.{Lookup, TxLookup, Insert, TxInsert, TxUpdate, TxCancel, Close, Write, Finish, Abandon, Read}
use Rattle.cache_types.specs.declared.entries.Entry.{Entry}
use Rattle.cache_types.specs.declared.replies.Reply.{Reply}
use Rattle.cache_types.specs.declared.replies.Reply.TheVariants.{NotYet, Done, Refused, Short, TooLong, Bytes, Ended, Failed}
use Rattle.cache_types.specs.Entries.{asked_in, asked_at, entry_at, own_entry, is_made, is_told_to_insert}
use Rattle.cache_types.specs.Found.{is_usable}
use Rattle.cache_types.specs.Laws.{is_tx_lookup, is_open_lookup}
use Rattle.cache_types.specs.Legal.{IsLegalPast}
use Rattle.cache_types.specs.Objects.{Insertion, insertion_for, insertion_by, insertions, insertion_at, is_finished, is_abandoned, written}
use Rattle.cache_types.specs.Transactions.{goal_of, is_held, is_own_open}
use Rattle.cache_types.specs.Answer.{answer, Finding, finding, lookup_reply, held_reply, free_reply, tx_lookup_reply, is_fresh_finding, made_if, may_update, may_close, writable, room_of, write_reply, is_short_of, finish_reply, own_object, read_reply}
use Rattle.cache_types.proofs.Goals.{made_of}
use Rattle.cache_types.proofs.Numbers.{own_is_entry}
use Rattle.cache_core.specs.Object.{Holds}
use Rattle.cache_core.proofs.Born.{insertion_number, not_made}
use Rattle.cache_core.proofs.Owning.{own_open_by}

either : (b : Bool) (x y : Reply) → is_made x ≡ false → is_made y ≡ false → is_made (if b then x else y) ≡ false
either true x y a c = a
either false x y a c = c

lookup_makes : (past : List Entry) (f : Option Finding) → is_made (lookup_reply past f) ≡ false
lookup_makes past None = refl
lookup_makes past (Some f) = refl

held_makes : (past : List Entry) (f : Option Finding) → is_made (held_reply past f) ≡ false
held_makes past None = refl
held_makes past (Some f) = either (is_usable f.renewal.terms f.age) _ NotYet refl refl

free_makes : (past : List Entry) (f : Option Finding) → is_made (free_reply past f) ≡ false
free_makes past None = refl
free_makes past (Some f) = refl

tx_makes : (past : List Entry) (held : Bool) (f : Option Finding) → is_made (tx_lookup_reply past held f) ≡ false
tx_makes past held f =
    either (is_fresh_finding f) (lookup_reply past f) (if held then held_reply past f else free_reply past f) (lookup_makes past f)
    (either held (held_reply past f) (free_reply past f) (held_makes past f) (free_makes past f))

write_makes : (past : List Entry) (object : ℕ) (piece : List ℕ) (made : Option Insertion) → is_made (write_reply past object piece made) ≡ false
write_makes past object piece None = refl
write_makes past object piece (Some made) = either (nat_lt (room_of made) (length (written past object) + length piece)) TooLong Done refl refl

finish_makes : (past : List Entry) (object : ℕ) (made : Option Insertion) → is_made (finish_reply past object made) ≡ false
finish_makes past object None = refl
finish_makes past object (Some made) = either (is_short_of past object made) Short Done refl refl

read_makes : (past : List Entry) (place most : ℕ) (object : Option ℕ) → is_made (read_reply past place most object) ≡ false
read_makes past place most None = refl
read_makes past place most (Some object) =
    either (nat_lt place (length (written past object))) (Bytes (take most (drop place (written past object)))) (if is_finished past object then Ended else (if is_abandoned past object then Failed else NotYet)) refl
    (either (is_finished past object) Ended (if is_abandoned past object then Failed else NotYet) refl (either (is_abandoned past object) Failed NotYet refl refl))

-- what a transactional lookup asked for
asks : (call : CacheCall) → is_tx_lookup call ≡ true → is_some (asked_in call) ≡ true
asks (TxLookup key headers) is = refl
asks call is = cc

asks_at : (past : List Entry) → IsLegalPast past → (guest tx : ℕ) (o : Option Entry) → own_entry past guest tx ≡ o → option_map_or (is_open_lookup past) o false ≡ true → is_some (asked_at past tx) ≡ true
asks_at past legal guest tx None own is = absurd (false≢true is)
asks_at past legal guest tx (Some e) own is =
    let told = (and_parts (is_tx_lookup e.call && is_told_to_insert e.reply) _ is).0 in
    ap (λ o. is_some (option_and_then (λ (x : Entry). asked_in x.call) o)) (own_is_entry past legal guest tx e own)
    ∙ asks e.call (and_parts (is_tx_lookup e.call) (is_told_to_insert e.reply) told).0

made_good : (b : Bool) → is_made (made_if b) ≡ true → b ≡ true
made_good true is = refl
made_good false is = absurd (false≢true is)

some_map : {X Y : Type 0} (f : X → Y) (o : Option X) → is_some o ≡ true → is_some (option_map f o) ≡ true
some_map f None is = absurd (false≢true is)
some_map f (Some x) is = refl

no_made : (reply other : Reply) {P : Type 0} → reply ≡ other → is_made other ≡ false → is_made reply ≡ true → P
no_made reply other is none made = absurd (false≢true (sym none ∙ sym (ap is_made is) ∙ made))

-- what is told that it made an object did make one
makes : (past : List Entry) → IsLegalPast past → (n g m : ℕ) (call : CacheCall) (reply : Reply) → reply ≡ answer past g m call → is_made reply ≡ true → is_some (insertion_by past (made_of n g m call reply) call) ≡ true
makes past h n g m (Insert key headers writing) reply is made = refl
makes past h n g m (TxInsert tx writing) reply is made =
    some_map (insertion_for (made_of n g m (TxInsert tx writing) reply) writing) (asked_at past tx)
    (asks_at past h g tx (own_entry past g tx) refl (sym (own_open_by past h g tx) ∙ made_good (is_own_open past g tx) (sym (ap is_made is) ∙ made)))
makes past h n g m (Lookup key headers) reply is made = no_made reply _ is (lookup_makes past (finding past m key headers)) made
makes past h n g m (TxLookup key headers) reply is made = no_made reply _ is (tx_makes past (is_held past (goal_of past key headers)) (finding past m key headers)) made
makes past h n g m (TxUpdate tx terms) reply is made = no_made reply _ is (either (may_update past g tx) Done Refused refl refl) made
makes past h n g m (TxCancel tx) reply is made = no_made reply _ is (either (is_own_open past g tx) Done Refused refl refl) made
makes past h n g m (Close tx) reply is made = no_made reply _ is (either (may_close past g tx) Done Refused refl refl) made
makes past h n g m (Write object piece) reply is made = no_made reply _ is (write_makes past object piece (writable past g object)) made
makes past h n g m (Finish object) reply is made = no_made reply _ is (finish_makes past object (writable past g object)) made
makes past h n g m (Abandon object) reply is made = no_made reply _ is (either (is_some (writable past g object)) Done Refused refl refl) made
makes past h n g m (Read hit place most) reply is made = no_made reply _ is (read_makes past place most (own_object past g hit)) made
makes past h n g m call reply is made = no_made reply _ is refl made

made_case : (n o : ℕ) (here made : Bool) (e : Entry) (inside : Option Insertion) (rest : List Insertion) (others : Option Entry) → n == o ≡ here → is_made e.reply ≡ made → Holds (λ (m : Insertion). m.object ≡ n) (if made then inside else None) → (made ≡ true → is_some inside ≡ true) → (here ≡ true → find (λ (m : Insertion). m.object == o) rest ≡ None)
    → is_some (find (λ (m : Insertion). m.object == o) rest) ≡ option_map_or (λ (x : Entry). is_made x.reply) others false
    → is_some (find (λ (m : Insertion). m.object == o) (cons_option (if made then inside else None) rest)) ≡ option_map_or (λ (x : Entry). is_made x.reply) (cond here (Some e) others) false
made_case n o true true e None rest others at is number whole none same = absurd (false≢true (whole refl))
made_case n o true true e (Some m) rest others at is number whole none same = rw (number, at, is) refl
made_case n o true false e inside rest others at is number whole none same = rw (none refl, is) refl
made_case n o false true e None rest others at is number whole none same = same
made_case n o false true e (Some m) rest others at is number whole none same = rw (number, at) same
made_case n o false false e inside rest others at is number whole none same = same

-- an object is there exactly where the entry of its number made one
pub made_is : (past : List Entry) → IsLegalPast past → (o : ℕ) → is_some (insertion_at past o) ≡ option_map_or (λ (e : Entry). is_made e.reply) (entry_at past o) false
made_is [] h o = refl
made_is (e ∷ past) h o =
    made_case e.number o (e.number == o) (is_made e.reply) e (insertion_by past e e.call) (insertions past) (entry_at past o) refl refl
    (insertion_number past e.number e.guest e.moment e.call e.reply)
    (makes past h.1 e.number e.guest e.moment e.call e.reply h.0.reply)
    (λ same. not_made past h.1 o (omega (arith, h.0.number, eqb-true e.number o same)))
    (made_is past h.1 o)
