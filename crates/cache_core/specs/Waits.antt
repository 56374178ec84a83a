-- What is known of transactions and of lookups that were ended.
use Rattle.std.specs.Prelude.{◌≡◌, ℕ, Bool, true, false, ◌&&◌, not, List, Option, None, Some, is_some, if◌then◌else◌}
use Rattle.std.specs.List.{list_any}
use Rattle.cache_types.specs.declared.calls.CacheCall.{CacheCall}
use Rattle.cache_types.specs.declared.calls.CacheCall.TheVariants.{TxInsert, TxUpdate, TxCancel, Close}
use Rattle.cache_types.specs.declared.entries.Entry.{Entry}
use Rattle.cache_types.specs.declared.replies.Reply.{Reply}
use Rattle.cache_types.specs.Entries.{is_made, is_done, is_told_to_insert}
use Rattle.cache_types.specs.Transactions.{transactions, ends_by}
use Rattle.cache_types.specs.Laws.{is_tx_lookup}
use Rattle.cache_types.specs.Answer as Answer
use Rattle.cache_objects.specs.Guests.{GuestMap, list_at}
use Rattle.cache_waiters.specs.declared.goals.Holder.{Holder}
use Rattle.cache_waiters.specs.Stands.{Stands}
use Rattle.cache_waiters.specs.Endings.{EndingMap, is_over, is_closed}
use Rattle.cache_core.specs.declared.waits.Waits.{Waits}
use Rattle.cache_core.specs.declared.waits.Ended.{Ended}

-- the waits know these entries
pub record Awaits (waits : Waits) (past : List Entry) : Type 0 where
  pub goals : Stands waits.goals (transactions past)
  pub over : (number : ℕ) → is_over waits.endings number ≡ list_any (λ (e : Entry). ends_by e number e.call) past
  pub closed : (number : ℕ) → is_closed waits.endings number ≡ Answer.is_closed past number

-- no call ended the lookup, and its guest is live
abbrev pub is_standing : EndingMap → GuestMap → ℕ → ℕ → Bool
is_standing endings guests number guest = not (is_over endings number) && is_some (list_at guests guest)

-- the newest transaction of a goal holds it
abbrev pub holds_by : EndingMap → GuestMap → Option Holder → Bool
holds_by endings guests None = false
holds_by endings guests (Some holder) = is_standing endings guests holder.number holder.guest

-- a transactional lookup that was told to insert, and that still stands
abbrev pub open_by : EndingMap → GuestMap → Entry → Bool
open_by endings guests e = (is_tx_lookup e.call && is_told_to_insert e.reply) && is_standing endings guests e.number e.guest

-- the call succeeded, and ended the lookup of this number
abbrev pub named_if : Bool → ℕ → Bool → Option Ended
named_if good number closed = if good then Some (record { number = number; closed = closed }) else None

abbrev pub ended_in : Reply → CacheCall → Option Ended
ended_in reply (TxInsert tx writing) = named_if (is_made reply) tx false
ended_in reply (TxUpdate tx terms) = named_if (is_done reply) tx false
ended_in reply (TxCancel tx) = named_if (is_done reply) tx false
ended_in reply (Close tx) = named_if (is_done reply) tx true
ended_in reply _ = None

-- the lookup that an entry ended by its call
abbrev pub ended_by : Entry → Option Ended
ended_by e = ended_in e.reply e.call
