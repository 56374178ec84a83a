-- What the waits know, with one entry more.
use Rattle.std.specs.Prelude.{◌≡◌, ℕ, Bool, true, false, ◌&&◌, ◌||◌, ◌==◌, List, [], ◌∷◌, Some, None, refl, if◌then◌else◌}
use Rattle.std.specs.List.{list_any, cons_option}
use Rattle.std.specs.Option.{option_map_or}
use Rattle.std.proofs.Common.{sym, ap, ◌∙◌, subst}
use Rattle.std.proofs.lemmas.List.{reverse-append}
use Rattle.cache_types.specs.declared.calls.CacheCall.{CacheCall}
use Rattle.cache_types.specs.declared.calls.CacheCall.TheVariants.{TxLookup, TxInsert, TxUpdate, TxCancel, Close, End}
use Rattle.cache_types.specs.declared.calls.Field.{Field}
use Rattle.cache_types.specs.declared.entries.Entry.{Entry}
use Rattle.cache_types.specs.Answer as Answer
use Rattle.cache_types.specs.Entries.{newest_first, is_made, is_done, is_told_to_insert}
use Rattle.cache_types.specs.Legal.{IsLegalPast}
use Rattle.cache_types.specs.Slots.{Slot}
use Rattle.cache_types.specs.Step.{history_after, entry_after}
use Rattle.cache_types.specs.Transactions.{Transaction, transactions, transaction_of, goal_of, ends_by}
use Rattle.cache_types.proofs.Goals.{made_of}
use Rattle.cache_waiters.specs.declared.goals.Holder.{Holder}
use Rattle.cache_waiters.specs.Stands.{Stands, holder_of}
use Rattle.cache_waiters.specs.Endings.{EndingMap, is_over, is_closed}
use Rattle.cache_core.specs.declared.waits.Waits.{Waits}
use Rattle.cache_core.specs.declared.waits.Ended.{Ended}
use Rattle.cache_core.specs.Waits.{Awaits, named_if, ended_in, ended_by}
use Rattle.cache_core.specs.declared.parts.Parts.{Parts}
use Rattle.cache_core.specs.Knows.{Knows}
use Rattle.cache_core.specs.News
use Rattle.cache_core.proofs.Arms.{by_call, knows_quiet, no_begin, no_end}

named_ends : (good : Bool) (tx n : ℕ) (closed : Bool) → (tx == n && good) ≡ option_map_or (λ (d : Ended). d.number == n) (named_if good tx closed) false
named_ends true tx n closed = by (tx == n)
  where
    by : (b : Bool) → (b && true) ≡ b
    by true = refl
    by false = refl
named_ends false tx n closed = by (tx == n)
  where
    by : (b : Bool) → (b && false) ≡ false
    by true = refl
    by false = refl

-- a call ends the lookup that it names
ends_named : (e : Entry) (n : ℕ) (call : CacheCall) → ends_by e n call ≡ option_map_or (λ (d : Ended). d.number == n) (ended_in e.reply call) false
ends_named e n (TxInsert tx writing) = named_ends (is_made e.reply) tx n false
ends_named e n (TxUpdate tx terms) = named_ends (is_done e.reply) tx n false
ends_named e n (TxCancel tx) = named_ends (is_done e.reply) tx n false
ends_named e n (Close tx) = named_ends (is_done e.reply) tx n true
ends_named e n call = refl

named_open : (good : Bool) (tx n : ℕ) → false ≡ option_map_or (λ (d : Ended). d.number == n && d.closed) (named_if good tx false) false
named_open true tx n = by (tx == n)
  where
    by : (b : Bool) → false ≡ (b && false)
    by true = refl
    by false = refl
named_open false tx n = refl

named_closed : (good : Bool) (tx n : ℕ) → (tx == n && good) ≡ option_map_or (λ (d : Ended). d.number == n && d.closed) (named_if good tx true) false
named_closed true tx n = refl
named_closed false tx n = by (tx == n)
  where
    by : (b : Bool) → (b && false) ≡ false
    by true = refl
    by false = refl

closes_named : (e : Entry) (n : ℕ) (call : CacheCall) → (Answer.is_close_of n call && is_done e.reply) ≡ option_map_or (λ (d : Ended). d.number == n && d.closed) (ended_in e.reply call) false
closes_named e n (TxInsert tx writing) = named_open (is_made e.reply) tx n
closes_named e n (TxUpdate tx terms) = named_open (is_done e.reply) tx n
closes_named e n (TxCancel tx) = named_open (is_done e.reply) tx n
closes_named e n (Close tx) = named_closed (is_done e.reply) tx n
closes_named e n call = refl

-- an entry that ends no lookup and opens no transaction
pub awaits_quiet : (waits : Waits) (past : List Entry) (e : Entry) → ended_by e ≡ None → transaction_of past e ≡ None → Awaits waits past → Awaits waits (e ∷ past)
awaits_quiet waits past e none opens awaits = record {
  goals = subst (λ o. Stands waits.goals (cons_option o (transactions past))) (sym opens) awaits.goals;
  over = λ n. awaits.over n ∙ ap (λ b. b || list_any (λ (x : Entry). ends_by x n x.call) past) (sym (ends_named e n e.call ∙ ap (λ o. option_map_or (λ (d : Ended). d.number == n) o false) none));
  closed = λ n. awaits.closed n ∙ ap (λ b. b || Answer.is_closed past n) (sym (closes_named e n e.call ∙ ap (λ o. option_map_or (λ (d : Ended). d.number == n && d.closed) o false) none));
}

ended_opens : (past : List Entry) (e : Entry) (d : Ended) (call : CacheCall) → e.call ≡ call → ended_in e.reply call ≡ Some d → transaction_of past e ≡ None
ended_opens past e d (TxInsert tx writing) is ended = by_call (λ (x : Entry). transaction_of past x ≡ None) e (TxInsert tx writing) is refl
ended_opens past e d (TxUpdate tx terms) is ended = by_call (λ (x : Entry). transaction_of past x ≡ None) e (TxUpdate tx terms) is refl
ended_opens past e d (TxCancel tx) is ended = by_call (λ (x : Entry). transaction_of past x ≡ None) e (TxCancel tx) is refl
ended_opens past e d (Close tx) is ended = by_call (λ (x : Entry). transaction_of past x ≡ None) e (Close tx) is refl
ended_opens past e d call is ended = cc

-- an entry that ended a lookup
pub awaits_ended : (old : Waits) (endings : EndingMap) (past : List Entry) (e : Entry) (d : Ended) → ended_by e ≡ Some d → ((n : ℕ) → is_over endings n ≡ (d.number == n || is_over old.endings n)) → ((n : ℕ) → is_closed endings n ≡ ((d.number == n && d.closed) || is_closed old.endings n)) → Awaits old past → Awaits (record old { endings = endings }) (e ∷ past)
awaits_ended old endings past e d ended over closed awaits = record {
  goals = subst (λ o. Stands old.goals (cons_option o (transactions past))) (sym (ended_opens past e d e.call refl ended)) awaits.goals;
  over = λ n. over n ∙ ap (λ b. d.number == n || b) (awaits.over n) ∙ ap (λ b. b || list_any (λ (x : Entry). ends_by x n x.call) past) (sym (ends_named e n e.call ∙ ap (λ o. option_map_or (λ (d : Ended). d.number == n) o false) ended));
  closed = λ n. closed n ∙ ap (λ b. (d.number == n && d.closed) || b) (awaits.closed n) ∙ ap (λ b. b || Answer.is_closed past n) (sym (closes_named e n e.call ∙ ap (λ o. option_map_or (λ (d : Ended). d.number == n && d.closed) o false) ended));
}

-- the waits with other endings that say the same
pub awaits_same : (old : Waits) (endings : EndingMap) (past : List Entry) → ((n : ℕ) → is_over endings n ≡ is_over old.endings n) → ((n : ℕ) → is_closed endings n ≡ is_closed old.endings n) → Awaits old past → Awaits (record old { endings = endings }) past
awaits_same old endings past over closed awaits = record { goals = awaits.goals; over = λ n. over n ∙ awaits.over n; closed = λ n. closed n ∙ awaits.closed n }

-- a lookup that wasn't told to insert
pub awaits_untold : (waits : Waits) (past : List Entry) (e : Entry) (key : List ℕ) (headers : List Field) → e.call ≡ TxLookup key headers → is_told_to_insert e.reply ≡ false → Awaits waits past → Awaits waits (e ∷ past)
awaits_untold waits past e key headers is untold awaits =
    by_call (λ (x : Entry). is_told_to_insert x.reply ≡ false → Awaits waits (x ∷ past)) e (TxLookup key headers) is
    (λ no. awaits_quiet waits past (made_of e.number e.guest e.moment (TxLookup key headers) e.reply) refl (rw no refl) awaits) untold

-- a lookup that was told to insert
pub awaits_told : (old new : Waits) (past : List Entry) (e : Entry) (key : List ℕ) (headers : List Field) (goal : Slot) (holder : Holder) → e.call ≡ TxLookup key headers → is_told_to_insert e.reply ≡ true → goal ≡ goal_of past key headers → holder ≡ record { number = e.number; guest = e.guest }
    → ((t : Transaction) (told : List Transaction) → t.goal ≡ goal → holder_of t ≡ holder → Stands old.goals told → Stands new.goals (t ∷ told)) → new.endings ≡ old.endings → Awaits old past → Awaits new (e ∷ past)
awaits_told old new past e key headers goal holder is told at mine stands same awaits =
    by_call (λ (x : Entry). is_told_to_insert x.reply ≡ true → x.number ≡ e.number → x.guest ≡ e.guest → Awaits new (x ∷ past)) e (TxLookup key headers) is here told refl refl
  where
    here : is_told_to_insert e.reply ≡ true → e.number ≡ e.number → e.guest ≡ e.guest → Awaits new (made_of e.number e.guest e.moment (TxLookup key headers) e.reply ∷ past)
    here bit n g =
        let t : Transaction = record { number = e.number; guest = e.guest; goal = goal_of past key headers } in
        record {
          goals = subst (λ b. Stands new.goals (cons_option (if b then Some t else None) (transactions past))) (sym bit) (stands t (transactions past) (sym at) (sym mine) awaits.goals);
          over = λ n. ap (λ m. is_over m n) same ∙ awaits.over n;
          closed = λ n. ap (λ m. is_closed m n) same ∙ awaits.closed n;
        }

opens_case : (past : List Entry) (e : Entry) (call : CacheCall) → e.call ≡ call → ((k : List ℕ) (h : List Field) → e.call ≡ TxLookup k h → ⊥) → transaction_of past e ≡ None
opens_case past e (TxLookup k h) is other = absurd (other k h is)
opens_case past e call is other = by_call (λ (x : Entry). transaction_of past x ≡ None) e call is refl

-- only a transactional lookup opens a transaction
pub opens_none : (past : List Entry) (e : Entry) → ((k : List ℕ) (h : List Field) → e.call ≡ TxLookup k h → ⊥) → transaction_of past e ≡ None
opens_none past e other = opens_case past e e.call refl other

-- the End of a guest is told nowhere
pub awaits_end : (waits : Waits) (history : List Entry) (guest reading : ℕ) → Awaits waits (newest_first history) → Awaits waits (newest_first (history_after history guest reading End))
awaits_end waits history guest reading awaits =
    let e = entry_after (newest_first history) guest reading End in
    subst (Awaits waits) (sym (reverse-append history (e ∷ []))) (awaits_quiet waits (newest_first history) e refl refl awaits)

-- the parts know a transactional lookup without being told
pub lookup_quiet : (parts : Parts) (past : List Entry) (e : Entry) (key : List ℕ) (headers : List Field) → e.call ≡ TxLookup key headers → IsLegalPast (e ∷ past) → Knows parts past → Knows parts (e ∷ past)
lookup_quiet parts past e key headers is legal knows =
    knows_quiet parts past e legal (no_begin e (TxLookup key headers) is refl) (no_end e (TxLookup key headers) is refl) (ap (News.news_by past e) is) knows
