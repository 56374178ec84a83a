-- What ties the blocks of scripted guests to the history and to their scripts.
use Rattle.std.specs.Prelude.{◌≡◌, ℕ, ◌+◌, List, [], ◌∷◌, map, reverse, IsTrue}
use Rattle.cache_types.specs.declared.entries.Entry.{Entry}
use Rattle.cache_types.specs.declared.outer.Event.TheVariants as event
use Rattle.cache_types.specs.declared.outer.Done.{Done}
use Rattle.cache_types.specs.Entries.{newest_first}
use Rattle.script_lines.specs.declared.line.Line.{Line}
use Rattle.player.specs.Runs.{IsRun}
use Rattle.scripted_guest.specs.Script.{script_program}
use Rattle.schedule_play.specs.Blocks.{told_of, IsStop}
pub use Rattle.scripted_guest.specs.Script.{is_script_line, is_script}
pub use Rattle.schedule_play.specs.Blocks.{own, differ, covers, guests_of, keep_limits}

-- the numbers of entries, the oldest first
abbrev pub numbers_of : List Entry → List ℕ
numbers_of trace = reverse (map (λ (e : Entry). e.number) trace)

-- a block: its events are exactly the entries of its guest, and those are a run of its script: whole where the guest
-- returned, and cut where it was stopped
pub record IsBlock (past : List Entry) (script : List Line) (index : ℕ) (done : Done) : Type 0 where
  pub index_is : done.index ≡ index
  pub tied : done.trace ≡ map event.Entry (numbers_of (own past done.guest))
  pub run : IsRun IsStop (script_program script) (told_of (own past done.guest)) done.outcome

-- one block for each script, with indexes that rise by one
abbrev pub AreBlocks : List Entry → ℕ → List (List Line) → List Done → Type 0
AreBlocks past index [] [] = Unit {0}
AreBlocks past index (script ∷ scripts) (done ∷ blocks) = IsBlock past script index done × AreBlocks past (index + 1) scripts blocks
AreBlocks past index _ _ = ⊥

-- the blocks of a history, one for each script
pub record HasBlocks (history : List Entry) (scripts : List (List Line)) (blocks : List Done) : Type 0 where
  pub blocks_are : AreBlocks (newest_first history) 1 scripts blocks
  pub guests_differ : IsTrue (differ (guests_of blocks))
  pub entries_covered : IsTrue (covers (guests_of blocks) (newest_first history))
