-- What the values of a journal are, as their types have them and a journal can tell.
use Rattle.std.specs.Prelude.{◌≡◌, ◌<◌, ◌^◌, ℕ, true, List, length, IsTrue}
use Rattle.hex.specs.Hex.{IsBytes}
use Rattle.cache_types.specs.declared.entries.Entry.{Entry}
use Rattle.cache_types.specs.declared.replies.Hit.{Hit}
use Rattle.cache_types.specs.declared.replies.Reply.{Reply}
use Rattle.cache_types.specs.declared.replies.Reply.TheVariants as reply
use Rattle.cache_types.specs.declared.outer.OuterCall.{OuterCall}
use Rattle.cache_types.specs.declared.outer.OuterCall.TheVariants as outer
use Rattle.cache_types.specs.declared.outer.OuterReply.{OuterReply}
use Rattle.cache_types.specs.declared.outer.OuterReply.TheVariants as told
use Rattle.cache_types.specs.declared.outer.Outcome.{Outcome}
use Rattle.cache_types.specs.declared.outer.Outcome.TheVariants as outcome
use Rattle.cache_types.specs.declared.outer.Event.{Event}
use Rattle.cache_types.specs.declared.outer.Event.TheVariants as event
use Rattle.cache_types.specs.declared.outer.Done.{Done}
use Rattle.edge_words.specs.Reading.{AllFit}
use Rattle.edge_words.specs.Choices.{FitOption}
use Rattle.call_lines.specs.Lines.{IsCall}
use Rattle.journal_writer.specs.Journal.{is_reply_to, rise, journal_bytes}
use Rattle.journal_reader.specs.declared.journal.Journal.{Journal}

abbrev pub IsU64 : ℕ → Type 0
IsU64 n = n < 2 ^ 64

-- object, age, max_age, stale, length and metadata
abbrev pub IsHit : Hit → Type 0
IsHit hit = IsU64 hit.object × (IsU64 hit.age × (IsU64 hit.max_age × (IsU64 hit.stale × (FitOption IsU64 hit.length × IsBytes hit.metadata))))

-- a reply that a guest saw
abbrev pub IsReply : Reply → Type 0
IsReply (reply.Got bits hit) = (bits < 2 ^ 8) × FitOption IsHit hit
IsReply reply.NotYet = ⊥
IsReply (reply.Bytes bytes) = IsBytes bytes
IsReply _ = Unit {0}

pub record IsEntry (e : Entry) : Type 0 where
  pub number : IsU64 e.number
  pub guest : IsU64 e.guest
  pub moment : IsU64 e.moment
  pub call : IsCall e.call
  pub reply : IsReply e.reply

-- a call outside the cache
abbrev pub IsOuter : OuterCall → Type 0
IsOuter (outer.Cache call) = ⊥
IsOuter (outer.Now clock) = clock < 2 ^ 32
IsOuter (outer.Start address request) = IsBytes address × IsBytes request
IsOuter (outer.Poll ticket) = IsU64 ticket
IsOuter (outer.WaitFor ticket) = IsU64 ticket
IsOuter (outer.AnyOf tickets) = AllFit IsU64 tickets
IsOuter (outer.Head bytes) = IsBytes bytes
IsOuter (outer.Piece bytes) = IsBytes bytes
IsOuter (outer.Close whole) = Unit {0}
IsOuter (outer.Log endpoint line) = IsBytes endpoint × IsBytes line

abbrev pub IsTold : OuterReply → Type 0
IsTold (told.Cache stepped) = ⊥
IsTold (told.Now reading) = IsU64 reading
IsTold (told.Started ticket) = IsU64 ticket
IsTold told.NotReady = Unit {0}
IsTold (told.Ready bytes) = IsBytes bytes
IsTold told.LinkFailed = Unit {0}
IsTold (told.Index index) = index < 2 ^ 32
IsTold told.Sent = Unit {0}

abbrev pub IsEvent : Event → Type 0
IsEvent (event.Entry number) = IsU64 number
IsEvent (event.Outer call reply) = (is_reply_to call reply ≡ true) × (IsOuter call × IsTold reply)

abbrev pub IsOutcome : Outcome → Type 0
IsOutcome (outcome.Exited code) = code < 2 ^ 32
IsOutcome (outcome.Timeout first reading) = IsU64 first × IsU64 reading
IsOutcome _ = Unit {0}

pub record IsDone (done : Done) : Type 0 where
  pub index : IsU64 done.index
  pub guest : IsU64 done.guest
  pub trace : AllFit IsEvent done.trace
  pub outcome : IsOutcome done.outcome

-- a journal that has a text, whose last line counts the entries
pub record IsReadable (journal : Journal) : Type 0 where
  pub entries : AllFit IsEntry journal.history
  pub counted : IsU64 (length journal.history)
  pub guests : AllFit IsDone journal.guests
  pub indexes : IsTrue (rise journal.guests)

-- the bytes are the text of some journal
pub record IsSpelled (bytes : List ℕ) : Type 0 where
  pub journal : Journal
  pub readable : IsReadable journal
  pub spelled : bytes ≡ journal_bytes journal.history journal.guests
