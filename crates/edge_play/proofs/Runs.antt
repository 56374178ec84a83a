-- The blocks of scripts: a script calls the cache alone, so the events of a block are entries alone, and the entries of a
-- guest are all that it was told.
use Rattle.std.specs.Prelude.{◌≡◌, ℕ, ◌+◌, true, List, [], ◌∷◌, ◌++◌, map, refl, Option, None, Some}
use Rattle.std.proofs.Common.{ap, sym, ◌∙◌, subst, inl, inr}
use Rattle.std.proofs.lemmas.List.{reverse-append, map-append}
use Rattle.cache_types.specs.declared.calls.CacheCall.{CacheCall}
use Rattle.cache_types.specs.declared.calls.CacheCall.TheVariants.{End}
use Rattle.cache_types.specs.declared.entries.Entry.{Entry}
use Rattle.cache_types.specs.declared.outer.Event.{Event}
use Rattle.cache_types.specs.declared.outer.Event.TheVariants as event
use Rattle.cache_types.specs.declared.outer.Done.{Done}
use Rattle.cache_types.specs.declared.outer.Outcome.{Outcome}
use Rattle.cache_types.specs.declared.outer.OuterCall.{OuterCall}
use Rattle.cache_types.specs.declared.outer.OuterCall.TheVariants as outer
use Rattle.cache_types.specs.declared.outer.OuterReply.{OuterReply}
use Rattle.cache_types.specs.Entries.{newest_first}
use Rattle.script_lines.specs.declared.line.Line.{Line}
use Rattle.player.specs.declared.turn.Turn.TheVariants.{Outer}
use Rattle.player.specs.Plays.{Program, Answered, event_with, events_of}
use Rattle.player.specs.Runs.{Follows, behind_one, IsRun}
use Rattle.scripted_guest.specs.Script.{next_call, turn_of, script_program, values_in}
use Rattle.schedule_play.specs.Schedule.{answered_of}
use Rattle.schedule_play.specs.Blocks.{own, told_of, is_cache, cache_calls, IsStop, AreBlocks as AreBlocksOf, HasBlocks as HasBlocksOf}
use Rattle.schedule_play.proofs.Turning.{told_of-more, cache-more}
use Rattle.edge_play.specs.Blocks.{numbers_of, AreBlocks, HasBlocks}
use Rattle.edge_play.specs.Schedule.{programs_of}

-- what the cache told stands in a block by the numbers of the entries
events-told : (trace : List Entry) → events_of (told_of trace) ≡ map event.Entry (numbers_of trace)
events-told [] = refl
events-told (e ∷ older) =
    ap events_of (told_of-more e older)
    ∙ (map-append (λ (a : Answered). event_with a.call a.reply) (told_of older) (answered_of e ∷ [])
    ∙ (ap (λ (l : List Event). l ++ event.Entry e.number ∷ []) (events-told older)
    ∙ (sym (map-append event.Entry (numbers_of older) (e.number ∷ []))
    ∙ ap (map event.Entry) (sym (reverse-append (e.number ∷ []) (map (λ (f : Entry). f.number) older))))))

-- ---- each call of a script is the cache's

turn-cache : (next : Option CacheCall) (call : OuterCall) → turn_of next ≡ Outer call → is_cache call ≡ true
turn-cache None call is = cc is
turn-cache (Some c) call is = let same : outer.Cache c ≡ call = same-outer (outer.Cache c) call is in subst (λ o. is_cache o ≡ true) same refl
  where
    same-outer : (x y : OuterCall) → Outer x ≡ Outer y → x ≡ y
    same-outer x y is = cc is

-- a program that makes cache calls alone
abbrev IsCaching : Program → Type 0
IsCaching next = (replies : List OuterReply) (call : OuterCall) → next replies ≡ Outer call → is_cache call ≡ true

script-caches : (script : List Line) → IsCaching (script_program script)
script-caches script replies call is = turn-cache (next_call script (values_in replies)) call is

follows-cache : (next : Program) (trace : List Answered) → IsCaching next → Follows next trace → cache_calls trace ≡ trace
follows-cache next [] caches follows = refl
follows-cache next (a ∷ trace) caches follows =
    let here : is_cache a.call ≡ true = caches [] a.call follows.0 in
    let rest : cache_calls trace ≡ trace = follows-cache (behind_one next a.reply) trace (λ replies. caches (a.reply ∷ replies)) follows.1 in
    rw here (ap (λ (l : List Answered). a ∷ l) rest)

-- an End behind them is one more
end-cache : (trace : List Answered) (reply : OuterReply) → cache_calls trace ≡ trace → cache_calls (trace ++ record { call = outer.Cache End; reply = reply } ∷ []) ≡ trace ++ record { call = outer.Cache End; reply = reply } ∷ []
end-cache trace reply all = cache-more trace (record { call = outer.Cache End; reply = reply }) ∙ ap (λ (l : List Answered). l ++ record { call = outer.Cache End; reply = reply } ∷ []) all

run-caches : (script : List Line) (trace : List Answered) (how : Outcome) → IsRun IsStop (script_program script) trace how → cache_calls trace ≡ trace
run-caches script trace how run = elim run [
  | inl whole ↦ follows-cache (script_program script) trace (script-caches script) whole.0
  | inr cut ↦ elim cut.1 [
    | inl none ↦ rw none refl
    | inr ended ↦ subst (λ (l : List Answered). cache_calls l ≡ l) (sym ended.2) (end-cache ended.0 ended.1 (follows-cache (script_program script) ended.0 (script-caches script) ended.3))
  ]
]

-- ---- the blocks

are-blocks : (past : List Entry) (index : ℕ) (scripts : List (List Line)) (blocks : List Done) → AreBlocksOf past index (programs_of scripts) blocks → AreBlocks past index scripts blocks
are-blocks past index [] [] are = tt
are-blocks past index [] (done ∷ blocks) are = absurd are
are-blocks past index (script ∷ scripts) [] are = absurd are
are-blocks past index (script ∷ scripts) (done ∷ blocks) are =
    let block = are.0 in
    let same : block.trace ≡ told_of (own past done.guest) = sym (run-caches script block.trace done.outcome block.run) ∙ block.tied in (
      record {
        index_is = block.index_is;
        tied = block.events_are ∙ (ap events_of same ∙ events-told (own past done.guest));
        run = subst (λ (l : List Answered). IsRun IsStop (script_program script) l done.outcome) same block.run;
      },
      are-blocks past (index + 1) scripts blocks are.1,
    )

pub has-blocks : (history : List Entry) (scripts : List (List Line)) (blocks : List Done) → HasBlocksOf history (programs_of scripts) blocks → HasBlocks history scripts blocks
has-blocks history scripts blocks has = record {
  blocks_are = are-blocks (newest_first history) 1 scripts blocks has.blocks_are;
  guests_differ = has.guests_differ;
  entries_covered = has.entries_covered;
}
