-- What ties the blocks of guests to the history and to their programs.
use Rattle.std.specs.Prelude.{◌≡◌, ℕ, ◌+◌, Bool, true, false, ◌&&◌, ◌||◌, not, List, [], ◌∷◌, map, filter, reverse, ◌==◌, IsTrue}
use Rattle.std.specs.List.{list_any, list_all}
use Rattle.cache_types.specs.declared.entries.Entry.{Entry}
use Rattle.cache_types.specs.declared.outer.OuterCall.{OuterCall}
use Rattle.cache_types.specs.declared.outer.OuterCall.TheVariants as call
use Rattle.cache_types.specs.declared.outer.Outcome.{Outcome}
use Rattle.cache_types.specs.declared.outer.Outcome.TheVariants as outcome
use Rattle.cache_types.specs.declared.outer.Done.{Done}
use Rattle.cache_types.specs.Entries.{newest_first}
use Rattle.cache_types.specs.Limits.{is_within_limits}
use Rattle.player.specs.Plays.{Program, Answered, events_of}
use Rattle.player.specs.Runs.{IsRun, are_answers}
use Rattle.schedule_play.specs.Schedule.{answered_of}

-- a guest's own entries; `past` has the newest first, and so has this
abbrev pub own : List Entry → ℕ → List Entry
own past guest = filter (λ (e : Entry). e.guest == guest) past

-- what the cache told a guest, the oldest first
abbrev pub told_of : List Entry → List Answered
told_of trace = reverse (map answered_of trace)

abbrev pub is_cache : OuterCall → Bool
is_cache (call.Cache c) = true
is_cache _ = false

-- the cache calls of a trace
abbrev pub cache_calls : List Answered → List Answered
cache_calls trace = filter (λ (a : Answered). is_cache a.call) trace

-- why a schedule stops a guest
abbrev pub IsStop : Outcome → Type 0
IsStop outcome.HistoryFull = Unit {0}
IsStop outcome.Unscheduled = Unit {0}
IsStop outcome.OutOfMemory = Unit {0}
IsStop _ = ⊥

-- a block: its events are answered calls, each with an answer of its kind; those of the cache are exactly the entries of
-- its guest; and all of them are a run of its program
pub record IsBlock (past : List Entry) (program : Program) (index : ℕ) (done : Done) : Type 0 where
  pub trace : List Answered
  pub index_is : done.index ≡ index
  pub events_are : done.trace ≡ events_of trace
  pub answers : IsTrue (are_answers trace)
  pub tied : cache_calls trace ≡ told_of (own past done.guest)
  pub run : IsRun IsStop program trace done.outcome

-- one block for each program, with indexes that rise by one
abbrev pub AreBlocks : List Entry → ℕ → List Program → List Done → Type 0
AreBlocks past index [] [] = Unit {0}
AreBlocks past index (program ∷ programs) (done ∷ blocks) = IsBlock past program index done × AreBlocks past (index + 1) programs blocks
AreBlocks past index _ _ = ⊥

-- guests other than 0 differ
abbrev pub differ : List ℕ → Bool
differ [] = true
differ (guest ∷ guests) = (guest == 0 || not (list_any (λ other. other == guest) guests)) && differ guests

-- each entry is of one of these guests
abbrev pub covers : List ℕ → List Entry → Bool
covers guests past = list_all (λ (e : Entry). list_any (λ guest. guest == e.guest) guests) past

abbrev pub guests_of : List Done → List ℕ
guests_of blocks = map (λ (done : Done). done.guest) blocks

-- the blocks of a history, one for each program
pub record HasBlocks (history : List Entry) (programs : List Program) (blocks : List Done) : Type 0 where
  pub blocks_are : AreBlocks (newest_first history) 1 programs blocks
  pub guests_differ : IsTrue (differ (guests_of blocks))
  pub entries_covered : IsTrue (covers (guests_of blocks) (newest_first history))

-- each call keeps its limits
abbrev pub keep_limits : List Entry → Bool
keep_limits entries = list_all (λ (e : Entry). is_within_limits e.call) entries
