-- The one spelling of a journal: the entries of a history, and a block for each guest.
use Rattle.std.specs.Prelude.{ℕ, Bool, true, false, ◌&&◌, not, List, [], ◌∷◌, ◌++◌, length, decimal, codes, map, nat_lt, IsTrue, Option, None, Some}
use Rattle.std.specs.List.{flat_map, list_all}
use Rattle.cache_types.specs.declared.entries.Entry.{Entry}
use Rattle.cache_types.specs.declared.replies.Hit.{Hit}
use Rattle.cache_types.specs.declared.replies.Reply.{Reply}
use Rattle.cache_types.specs.declared.replies.Reply.TheVariants as reply
use Rattle.cache_types.specs.declared.outer.OuterCall.{OuterCall}
use Rattle.cache_types.specs.declared.outer.OuterCall.TheVariants as outer
use Rattle.cache_types.specs.declared.outer.OuterReply.{OuterReply}
use Rattle.cache_types.specs.declared.outer.OuterReply.TheVariants as told
use Rattle.cache_types.specs.declared.outer.TrapNumber.{TrapNumber}
use Rattle.cache_types.specs.declared.outer.TrapNumber.TheVariants as trap
use Rattle.cache_types.specs.declared.outer.Outcome.{Outcome}
use Rattle.cache_types.specs.declared.outer.Outcome.TheVariants as outcome
use Rattle.cache_types.specs.declared.outer.Event.{Event}
use Rattle.cache_types.specs.declared.outer.Event.TheVariants as event
use Rattle.cache_types.specs.declared.outer.Done.{Done}
use Rattle.cache_types.specs.Entries.{is_not_yet}
use Rattle.cache_types.specs.Limits.{is_within_limits}
use Rattle.edge_words.specs.Words.{hex_word, line_of, text_of, listed}
use Rattle.call_lines.specs.Calls.{call_words, named_number}

-- ---- entries

-- a number that may be unknown
abbrev pub length_word : Option ℕ → List ℕ
length_word None = codes "?"
length_word (Some n) = decimal n

abbrev pub hit_words : Option Hit → List (List ℕ)
hit_words None = []
hit_words (Some hit) =
    decimal hit.object ∷ (decimal hit.age ∷ (decimal hit.max_age ∷ (decimal hit.stale ∷ (length_word hit.length ∷ (hex_word hit.metadata ∷ [])))))

-- NotYet is no entry's reply
abbrev pub reply_words : Reply → List (List ℕ)
reply_words reply.Begun = codes "begun" ∷ []
reply_words (reply.Got bits hit) = codes "got" ∷ (decimal bits ∷ hit_words hit)
reply_words reply.NotYet = []
reply_words reply.Made = codes "made" ∷ []
reply_words reply.Done = codes "done" ∷ []
reply_words reply.Refused = codes "refused" ∷ []
reply_words reply.Short = codes "short" ∷ []
reply_words reply.TooLong = codes "toolong" ∷ []
reply_words (reply.Bytes bytes) = codes "bytes" ∷ (hex_word bytes ∷ [])
reply_words reply.Ended = codes "ended" ∷ []
reply_words reply.Failed = codes "failed" ∷ []

-- number, guest, moment, call and reply
abbrev pub entry_words : Entry → List (List ℕ)
entry_words e =
    decimal e.number ∷ (decimal e.guest ∷ (decimal e.moment
    ∷ (call_words (decimal (named_number e.call)) e.call ++ (codes "=" ∷ reply_words e.reply))))

abbrev pub entry_text : Entry → List ℕ
entry_text e = line_of (entry_words e)

-- ---- blocks

-- The first word of a call outside the cache. A cache call stands as an entry, and has none.
abbrev pub outer_name : OuterCall → List ℕ
outer_name (outer.Cache call) = []
outer_name (outer.Now clock) = codes "now"
outer_name (outer.Start address request) = codes "start"
outer_name (outer.Poll ticket) = codes "poll"
outer_name (outer.WaitFor ticket) = codes "wait"
outer_name (outer.AnyOf tickets) = codes "any"
outer_name (outer.Head bytes) = codes "head"
outer_name (outer.Piece bytes) = codes "piece"
outer_name (outer.Close whole) = codes "close"
outer_name (outer.Log endpoint line) = codes "log"

abbrev pub close_word : Bool → List ℕ
close_word true = codes "whole"
close_word false = codes "cut"

-- the words after it, and those of the reply
abbrev pub outer_words : OuterCall → List (List ℕ)
outer_words (outer.Cache call) = []
outer_words (outer.Now clock) = decimal clock ∷ []
outer_words (outer.Start address request) = hex_word address ∷ (hex_word request ∷ [])
outer_words (outer.Poll ticket) = decimal ticket ∷ []
outer_words (outer.WaitFor ticket) = decimal ticket ∷ []
outer_words (outer.AnyOf tickets) = listed (map decimal tickets) ∷ []
outer_words (outer.Head bytes) = hex_word bytes ∷ []
outer_words (outer.Piece bytes) = hex_word bytes ∷ []
outer_words (outer.Close whole) = close_word whole ∷ []
outer_words (outer.Log endpoint line) = hex_word endpoint ∷ (hex_word line ∷ [])

abbrev pub told_words : OuterReply → List (List ℕ)
told_words (told.Cache stepped) = []
told_words (told.Now reading) = decimal reading ∷ []
told_words (told.Started ticket) = codes "=" ∷ (decimal ticket ∷ [])
told_words told.NotReady = codes "=" ∷ (codes "wait" ∷ [])
told_words (told.Ready bytes) = codes "=" ∷ (codes "ready" ∷ (hex_word bytes ∷ []))
told_words told.LinkFailed = codes "=" ∷ (codes "failed" ∷ [])
told_words (told.Index index) = codes "=" ∷ (decimal index ∷ [])
told_words told.Sent = []

abbrev pub event_words : Event → List (List ℕ)
event_words (event.Entry number) = codes "c" ∷ (decimal number ∷ [])
event_words (event.Outer call reply) = outer_name call ∷ (outer_words call ++ told_words reply)

abbrev pub event_text : Event → List ℕ
event_text e = line_of (event_words e)

abbrev pub trap_word : TrapNumber → List ℕ
trap_word trap.Unreachable = codes "unreachable"
trap_word trap.DivideByZero = codes "divide"
trap_word trap.Overflow = codes "overflow"
trap_word trap.OutOfBounds = codes "bounds"
trap_word trap.TableBounds = codes "table"
trap_word trap.NullElement = codes "null"
trap_word trap.IndirectType = codes "indirect"
trap_word trap.StackFull = codes "stack"
trap_word trap.Segment = codes "segment"

abbrev pub outcome_words : Outcome → List (List ℕ)
outcome_words outcome.Returned = codes "returned" ∷ []
outcome_words (outcome.Exited code) = codes "exited" ∷ (decimal code ∷ [])
outcome_words (outcome.Trapped number) = codes "trapped" ∷ (trap_word number ∷ [])
outcome_words outcome.OutOfFuel = codes "fuel" ∷ []
outcome_words (outcome.Timeout first reading) = codes "timeout" ∷ (decimal first ∷ (decimal reading ∷ []))
outcome_words outcome.HistoryFull = codes "full" ∷ []
outcome_words outcome.ClientGone = codes "gone" ∷ []
outcome_words outcome.Unscheduled = codes "unscheduled" ∷ []
outcome_words outcome.OutOfMemory = codes "memory" ∷ []

abbrev pub guest_text : Done → List ℕ
guest_text done = line_of (codes "guest" ∷ (decimal done.index ∷ (decimal done.guest ∷ [])))

abbrev pub over_text : Done → List ℕ
over_text done = line_of (codes "over" ∷ outcome_words done.outcome)

-- index and name, the events, and how it ended
abbrev pub done_lines : Done → List (List ℕ)
done_lines done = guest_text done ∷ (map event_text done.trace ++ over_text done ∷ [])

-- ---- the journal

abbrev pub end_text : List Entry → List ℕ
end_text history = line_of (codes "end" ∷ (decimal (length history) ∷ []))

abbrev pub journal_lines : List Entry → List Done → List (List ℕ)
journal_lines history guests =
    codes "edge-journal 1" ∷ (map entry_text history ++ (flat_map done_lines guests ++ end_text history ∷ []))

unfoldable pub journal_bytes : List Entry → List Done → List ℕ
journal_bytes history guests = text_of (journal_lines history guests)

-- ---- what has a spelling

-- an entry of a cache has a reply that a guest saw, and its call keeps the limits
abbrev pub is_told : Entry → Bool
is_told e = not (is_not_yet e.reply) && is_within_limits e.call

-- the reply is of the call's kind
abbrev pub is_reply_to : OuterCall → OuterReply → Bool
is_reply_to (outer.Now clock) (told.Now reading) = true
is_reply_to (outer.Start address request) (told.Started ticket) = true
is_reply_to (outer.Start address request) told.LinkFailed = true
is_reply_to (outer.Poll ticket) told.NotReady = true
is_reply_to (outer.Poll ticket) (told.Ready bytes) = true
is_reply_to (outer.Poll ticket) told.LinkFailed = true
is_reply_to (outer.WaitFor ticket) (told.Ready bytes) = true
is_reply_to (outer.WaitFor ticket) told.LinkFailed = true
is_reply_to (outer.AnyOf (ticket ∷ tickets)) (told.Index index) = true
is_reply_to (outer.Head bytes) told.Sent = true
is_reply_to (outer.Piece bytes) told.Sent = true
is_reply_to (outer.Close whole) told.Sent = true
is_reply_to (outer.Log endpoint line) told.Sent = true
is_reply_to _ _ = false

abbrev pub is_event : Event → Bool
is_event (event.Entry number) = true
is_event (event.Outer call reply) = is_reply_to call reply

-- the indexes rise
abbrev pub rise : List Done → Bool
rise [] = true
rise (done ∷ []) = true
rise (done ∷ (next ∷ guests)) = nat_lt done.index next.index && rise (next ∷ guests)

-- what a journal can tell
pub record IsJournal (history : List Entry) (guests : List Done) : Type 0 where
  pub entries : IsTrue (list_all is_told history)
  pub events : IsTrue (list_all (λ (done : Done). list_all is_event done.trace) guests)
  pub indexes : IsTrue (rise guests)
