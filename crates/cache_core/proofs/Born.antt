-- What has no number yet, nothing is known of.
use Rattle.std.specs.Prelude.{◌≡◌, ℕ, ◌+◌, ◌<◌, ◌≤◌, Bool, true, false, cond, not, ◌&&◌, ◌==◌, List, [], ◌∷◌, ◌++◌, length, take, drop, nat_lt, Option, Some, None, is_some, option_map, option_and_then, refl, if◌then◌else◌}
use Rattle.std.specs.List.{find, filter_map, cons_option, AllByRecursion}
use Rattle.std.proofs.Common.{arith, sym, ap, ◌∙◌, subst, eqb-true, ne_eqb}
use Rattle.std.proofs.lemmas.Bool.{or_from}
use Rattle.cache_types.specs.declared.calls.Field.{Field}
use Rattle.cache_types.specs.declared.calls.CacheCall.{CacheCall}
use Rattle.cache_types.specs.declared.calls.CacheCall.TheVariants.{Lookup, TxLookup, Insert, TxInsert, TxUpdate, TxCancel, Close, Write, Finish, Abandon, Read, Purge}
use Rattle.cache_types.specs.declared.entries.Entry.{Entry}
use Rattle.cache_types.specs.declared.replies.Hit.{Hit}
use Rattle.cache_types.specs.declared.replies.Reply.{Reply}
use Rattle.cache_types.specs.Entries.{asked_at, entry_at, hit_in, is_made, is_done, is_short, is_end}
use Rattle.cache_types.specs.Slots.{slot_for}
use Rattle.cache_types.specs.Objects.{Insertion, insertion_of, insertion_at, insertions, hit_of, hit_at, Renewal, renewal_for, renewal_of, renewals, last_renewal, is_made_by, is_purged, is_finished, is_abandoned, written, is_finish_of, is_abandon_of, piece_of, purges_by}
use Rattle.cache_types.specs.Found.{rules_of, last_in, found, is_usable}
use Rattle.cache_types.specs.Answer.{Finding, finding, finding_for, answer, lookup_reply, held_reply, free_reply, tx_lookup_reply, is_fresh_finding, writable, write_reply, finish_reply, read_reply, own_object, may_update, may_close, room_of, is_short_of, done_if}
use Rattle.cache_types.specs.Transactions.{is_own_open}
use Rattle.cache_types.specs.declared.replies.Reply.TheVariants.{NotYet, Made, Done, Refused, Short, TooLong, Bytes, Ended, Failed}
use Rattle.cache_types.specs.Legal.{IsLegalPast}
use Rattle.cache_types.proofs.Lists.{by_test}
use Rattle.cache_types.proofs.Goals.{made_of}
use Rattle.cache_core.specs.Object.{Holds}

holds_if : {X : Type 0} (P : X → Type 0) (b : Bool) (x : X) (o : Option X) → P x → Holds P o → Holds P (cond b (Some x) o)
holds_if P true x o p h = p
holds_if P false x o p h = h

pub find_holds : {X : Type 0} (P : X → Type 0) (p : X → Bool) (xs : List X) → AllByRecursion P xs → Holds P (find p xs)
find_holds P p [] h = tt
find_holds P p (x ∷ xs) h = holds_if P (p x) x (find p xs) h.0 (find_holds P p xs h.1)

pub cons_holds : {X : Type 0} (P : X → Type 0) (o : Option X) (xs : List X) → Holds P o → AllByRecursion P xs → AllByRecursion P (cons_option o xs)
cons_holds P None xs p h = h
cons_holds P (Some x) xs p h = (p, h)

filter_map_holds : {X Y : Type 0} (P : Y → Type 0) (f : X → Option Y) → ((x : X) → Holds P (f x)) → (xs : List X) → AllByRecursion P (filter_map f xs)
filter_map_holds P f all [] = tt
filter_map_holds P f all (x ∷ xs) = cons_holds P (f x) (filter_map f xs) (all x) (filter_map_holds P f all xs)

pub map_holds : {X Y : Type 0} (P : Y → Type 0) (f : X → Y) → ((x : X) → P (f x)) → (o : Option X) → Holds P (option_map f o)
map_holds P f all None = tt
map_holds P f all (Some x) = all x

pub if_holds : {X : Type 0} (P : X → Type 0) (b : Bool) (o : Option X) → Holds P o → Holds P (if b then o else None)
if_holds P true o h = h
if_holds P false o h = tt

pub raise_all : {X : Type 0} (f : X → ℕ) (a b : ℕ) → a ≤ b → (xs : List X) → AllByRecursion (λ x. f x ≤ a) xs → AllByRecursion (λ x. f x ≤ b) xs
raise_all f a b le [] h = tt
raise_all f a b le (x ∷ xs) h = let first : f x ≤ a = h.0 in (omega arith, raise_all f a b le xs h.1)

-- the object of an insertion has the insertion's number
pub insertion_number : (past : List Entry) (n g m : ℕ) (call : CacheCall) (reply : Reply) → Holds (λ (made : Insertion). made.object ≡ n) (insertion_of past (made_of n g m call reply))
insertion_number past n g m (Insert key headers writing) reply = if_holds _ (is_made reply) _ refl
insertion_number past n g m (TxInsert tx writing) reply = if_holds _ (is_made reply) _ (map_holds _ _ (λ a. refl) (asked_at past tx))
insertion_number past n g m call reply = if_holds _ (is_made reply) None tt

pub holds_weaker : {X : Type 0} (P Q : X → Type 0) → ((x : X) → P x → Q x) → (o : Option X) → Holds P o → Holds Q o
holds_weaker P Q f None h = tt
holds_weaker P Q f (Some x) h = f x h

pub insertions_below : (past : List Entry) → IsLegalPast past → AllByRecursion (λ (made : Insertion). made.object ≤ length past) (insertions past)
insertions_below [] h = tt
insertions_below (e ∷ past) h =
    cons_holds _ (insertion_of past e) (insertions past)
    (holds_weaker _ _ (λ made is. omega (arith, is, h.0.number)) (insertion_of past e) (insertion_number past e.number e.guest e.moment e.call e.reply))
    (raise_all (λ (made : Insertion). made.object) (length past) (length (e ∷ past)) (omega arith) (insertions past) (insertions_below past h.1))

pub found_below : (past : List Entry) → IsLegalPast past → (key : List ℕ) (headers : List Field) → Holds (λ (made : Insertion). made.object ≤ length past) (found past key headers)
found_below past h key headers =
    find_holds _ _ _ (filter_map_holds _ (λ rule. last_in past (slot_for key rule headers)) (λ rule. find_holds _ _ (insertions past) (insertions_below past h)) (rules_of past key))

finding_case : (past : List Entry) (moment : ℕ) (o : Option Insertion) → Holds (λ (made : Insertion). made.object ≤ length past) o → Holds (λ (f : Finding). f.made.object ≤ length past) (option_and_then (λ (made : Insertion). option_map (finding_for past moment made) (last_renewal past made.object)) o)
finding_case past moment None h = tt
finding_case past moment (Some made) h = map_holds _ (finding_for past moment made) (λ r. h) (last_renewal past made.object)

abbrev HitBelow : ℕ → Reply → Type 0
HitBelow bound reply = Holds (λ o. o ≤ bound) (option_map (λ (hit : Hit). hit.object) (hit_in reply))

lookup_below : (past : List Entry) (f : Option Finding) → Holds (λ (x : Finding). x.made.object ≤ length past) f → HitBelow (length past) (lookup_reply past f)
lookup_below past None h = tt
lookup_below past (Some f) h = h

held_below : (past : List Entry) (f : Option Finding) → Holds (λ (x : Finding). x.made.object ≤ length past) f → HitBelow (length past) (held_reply past f)
held_below past None h = tt
held_below past (Some f) h = by_test (is_usable f.renewal.terms f.age) (λ t. rw t h) (λ t. rw t tt)

free_below : (past : List Entry) (f : Option Finding) → Holds (λ (x : Finding). x.made.object ≤ length past) f → HitBelow (length past) (free_reply past f)
free_below past None h = tt
free_below past (Some f) h = h

tx_below : (past : List Entry) (held : Bool) (f : Option Finding) → Holds (λ (x : Finding). x.made.object ≤ length past) f → HitBelow (length past) (tx_lookup_reply past held f)
tx_below past true f h = by_test (is_fresh_finding f) (λ t. rw t (lookup_below past f h)) (λ t. rw t (held_below past f h))
tx_below past false f h = by_test (is_fresh_finding f) (λ t. rw t (lookup_below past f h)) (λ t. rw t (free_below past f h))

two_below : (n : ℕ) (b : Bool) (x y : Reply) → hit_in x ≡ None → hit_in y ≡ None → HitBelow n (if b then x else y)
two_below n true x y a b = rw a tt
two_below n false x y a b = rw b tt

write_below : (past : List Entry) (object : ℕ) (piece : List ℕ) (o : Option Insertion) → HitBelow (length past) (write_reply past object piece o)
write_below past object piece None = tt
write_below past object piece (Some made) = two_below (length past) (nat_lt (room_of made) (length (written past object) + length piece)) TooLong Done refl refl

finish_below : (past : List Entry) (object : ℕ) (o : Option Insertion) → HitBelow (length past) (finish_reply past object o)
finish_below past object None = tt
finish_below past object (Some made) = two_below (length past) (is_short_of past object made) Short Done refl refl

read_case : (n : ℕ) (more finished gone : Bool) (bytes : List ℕ) → HitBelow n (if more then Bytes bytes else (if finished then Ended else (if gone then Failed else NotYet)))
read_case n true finished gone bytes = tt
read_case n false true gone bytes = tt
read_case n false false true bytes = tt
read_case n false false false bytes = tt

read_below : (past : List Entry) (place most : ℕ) (o : Option ℕ) → HitBelow (length past) (read_reply past place most o)
read_below past place most None = tt
read_below past place most (Some object) =
    read_case (length past) (nat_lt place (length (written past object))) (is_finished past object) (is_abandoned past object) (take most (drop place (written past object)))

-- what a reply found has a number
pub answer_below : (past : List Entry) → IsLegalPast past → (g m : ℕ) (call : CacheCall) → HitBelow (length past) (answer past g m call)
answer_below past h g m (Lookup key headers) = lookup_below past (finding past m key headers) (finding_case past m (found past key headers) (found_below past h key headers))
answer_below past h g m (TxLookup key headers) = tx_below past _ (finding past m key headers) (finding_case past m (found past key headers) (found_below past h key headers))
answer_below past h g m (TxInsert tx writing) = two_below (length past) (is_own_open past g tx) Made Refused refl refl
answer_below past h g m (TxUpdate tx terms) = two_below (length past) (may_update past g tx) Done Refused refl refl
answer_below past h g m (TxCancel tx) = two_below (length past) (is_own_open past g tx) Done Refused refl refl
answer_below past h g m (Close tx) = two_below (length past) (may_close past g tx) Done Refused refl refl
answer_below past h g m (Write object piece) = write_below past object piece (writable past g object)
answer_below past h g m (Finish object) = finish_below past object (writable past g object)
answer_below past h g m (Abandon object) = two_below (length past) (is_some (writable past g object)) Done Refused refl refl
answer_below past h g m (Read hit place most) = read_below past place most (own_object past g hit)
answer_below past h g m call = tt

hit_case : (bound : ℕ) (b : Bool) (e : Entry) (rest : Option Entry) → HitBelow bound e.reply → Holds (λ o. o ≤ bound) (option_and_then hit_of rest) → Holds (λ o. o ≤ bound) (option_and_then hit_of (cond b (Some e) rest))
hit_case bound true e rest here there = here
hit_case bound false e rest here there = there

pub hit_below : (past : List Entry) → IsLegalPast past → (t : ℕ) → Holds (λ o. o ≤ length past) (hit_at past t)
hit_below [] h t = tt
hit_below (e ∷ past) h t =
    let more : (o : ℕ) → o ≤ length past → o ≤ length (e ∷ past) = λ o le. omega arith in
    hit_case (length (e ∷ past)) (e.number == t) e (entry_at past t)
    (holds_weaker _ _ more (hit_of e) (subst (HitBelow (length past)) (sym h.0.reply) (answer_below past h.1 e.guest e.moment e.call)))
    (holds_weaker _ _ more (hit_at past t) (hit_below past h.1 t))

pub renewal_number : (past : List Entry) → IsLegalPast past → (n g m : ℕ) (call : CacheCall) (reply : Reply) → length past ≤ n → Holds (λ (renewal : Renewal). renewal.object ≤ n) (renewal_of past (made_of n g m call reply))
renewal_number past h n g m (Insert key headers writing) reply le = if_holds _ (is_made reply) _ (omega arith)
renewal_number past h n g m (TxInsert tx writing) reply le = if_holds _ (is_made reply) _ (omega arith)
renewal_number past h n g m (TxUpdate tx terms) reply le = if_holds _ (is_done reply) _ (renewed (hit_at past tx) (hit_below past h tx))
  where
    renewed : (o : Option ℕ) → Holds (λ x. x ≤ length past) o → Holds (λ (renewal : Renewal). renewal.object ≤ n) (option_map (renewal_for (made_of n g m (TxUpdate tx terms) reply) terms) o)
    renewed None below = tt
    renewed (Some x) below = omega (arith, below)
renewal_number past h n g m call reply le = tt

pub renewals_below : (past : List Entry) → IsLegalPast past → AllByRecursion (λ (renewal : Renewal). renewal.object ≤ length past) (renewals past)
renewals_below [] h = tt
renewals_below (e ∷ past) h =
    cons_holds _ (renewal_of past e) (renewals past)
    (holds_weaker _ _ (λ renewal is. omega (arith, is, h.0.number)) (renewal_of past e) (renewal_number past h.1 e.number e.guest e.moment e.call e.reply (omega (arith, h.0.number))))
    (raise_all (λ (renewal : Renewal). renewal.object) (length past) (length (e ∷ past)) (omega arith) (renewals past) (renewals_below past h.1))

pub find_past : {X : Type 0} (f : X → ℕ) (bound n : ℕ) (xs : List X) → bound < n → AllByRecursion (λ x. f x ≤ bound) xs → find (λ x. f x == n) xs ≡ None
find_past f bound n [] less h = refl
find_past f bound n (x ∷ xs) less h =
    let first : f x ≤ bound = h.0 in
    rw (ne_eqb (f x) n (λ same. omega (arith, same, first, less))) (find_past f bound n xs less h.1)

pub not_made : (past : List Entry) → IsLegalPast past → (n : ℕ) → length past < n → insertion_at past n ≡ None
not_made past h n less = find_past (λ (made : Insertion). made.object) (length past) n (insertions past) less (insertions_below past h)

pub not_renewed : (past : List Entry) → IsLegalPast past → (n : ℕ) → length past < n → last_renewal past n ≡ None
not_renewed past h n less = find_past (λ (renewal : Renewal). renewal.object) (length past) n (renewals past) less (renewals_below past h)

-- what isn't made can't be written
pub not_writable : (past : List Entry) (g n : ℕ) → insertion_at past n ≡ None → writable past g n ≡ None
not_writable past g n none = rw none refl

-- nothing happened to it
pub record IsUnborn (past : List Entry) (n : ℕ) : Type 0 where
  pub purged : is_purged past n ≡ false
  pub finished : is_finished past n ≡ false
  pub abandoned : is_abandoned past n ≡ false
  pub written : written past n ≡ []

refused : (past : List Entry) (g n x : ℕ) (reply : Reply) (table : Option Insertion → Reply) → insertion_at past n ≡ None → table None ≡ Refused → reply ≡ table (writable past g x) → (x == n) ≡ true → reply ≡ Refused
refused past g n x reply table none empty is same =
    is ∙ ap table (not_writable past g x (ap (insertion_at past) (eqb-true x n same) ∙ none)) ∙ empty

no_finish : (past : List Entry) (g m : ℕ) (call : CacheCall) (reply : Reply) (n : ℕ) → insertion_at past n ≡ None → reply ≡ answer past g m call → (is_finish_of n call && is_done reply) ≡ false
no_finish past g m (Finish x) reply n none is =
    by_test (x == n) (λ h. rw (h, refused past g n x reply (finish_reply past x) none refl is h) refl) (λ h. rw h refl)
no_finish past g m call reply n none is = refl

no_short : (past : List Entry) (g m : ℕ) (call : CacheCall) (reply : Reply) (n : ℕ) → insertion_at past n ≡ None → reply ≡ answer past g m call → (is_finish_of n call && is_short reply) ≡ false
no_short past g m (Finish x) reply n none is =
    by_test (x == n) (λ h. rw (h, refused past g n x reply (finish_reply past x) none refl is h) refl) (λ h. rw h refl)
no_short past g m call reply n none is = refl

no_abandon : (past : List Entry) (g m : ℕ) (call : CacheCall) (reply : Reply) (n : ℕ) → insertion_at past n ≡ None → reply ≡ answer past g m call → (is_abandon_of n call && is_done reply) ≡ false
no_abandon past g m (Abandon x) reply n none is =
    by_test (x == n) (λ h. rw (h, refused past g n x reply (λ o. done_if (is_some o)) none refl is h) refl) (λ h. rw h refl)
no_abandon past g m call reply n none is = refl

no_bytes : (b : Bool) → ◌≡◌ {A = List ℕ} (if b then [] else []) []
no_bytes true = refl
no_bytes false = refl

no_piece : (past : List Entry) (k g m : ℕ) (call : CacheCall) (reply : Reply) (n : ℕ) → insertion_at past n ≡ None → reply ≡ answer past g m call → piece_of n (made_of k g m call reply) ≡ []
no_piece past k g m (Write x piece) reply n none is =
    by_test (x == n) (λ h. rw (refused past g n x reply (write_reply past x piece) none refl is h) refl) (λ h. rw h (no_bytes (is_done reply)))
no_piece past k g m call reply n none is = no_bytes (is_done reply)

pub no_purge : (softly : Bool) (past : List Entry) (n : ℕ) (call : CacheCall) → last_renewal past n ≡ None → purges_by softly past n call ≡ false
no_purge softly past n (Purge key soft) none = rw none (no_and (if softly then soft else not soft))
  where
    no_and : (b : Bool) → (b && false) ≡ false
    no_and true = refl
    no_and false = refl
no_purge softly past n call none = refl

no_end : (past : List Entry) (g n : ℕ) (end unfinished : Bool) → insertion_at past n ≡ None → (end && (is_made_by past n g && unfinished)) ≡ false
no_end past g n true unfinished none = rw none refl
no_end past g n false unfinished none = refl

pub unborn : (past : List Entry) → IsLegalPast past → (n : ℕ) → length past < n → IsUnborn past n
unborn [] h n less = record { purged = refl; finished = refl; abandoned = refl; written = refl }
unborn (e ∷ past) h n less =
    let before = unborn past h.1 n (omega (arith, less)) in
    let none = not_made past h.1 n (omega (arith, less)) in
    let lacking = not_renewed past h.1 n (omega (arith, less)) in
    record {
      purged = or_from (is_purged past n) _ before.purged (no_purge false past n e.call lacking);
      finished = or_from _ (is_finished past n) (no_finish past e.guest e.moment e.call e.reply n none h.0.reply) before.finished;
      abandoned = or_from (is_abandoned past n) _ before.abandoned
          (or_from _ _ (no_abandon past e.guest e.moment e.call e.reply n none h.0.reply)
          (or_from _ _ (no_short past e.guest e.moment e.call e.reply n none h.0.reply)
          (no_end past e.guest n (is_end e.call) (not (is_finished past n)) none)));
      written = ap (λ w. w ++ piece_of n e) before.written ∙ no_piece past e.number e.guest e.moment e.call e.reply n none h.0.reply;
    }
