-- What a scripted guest does: Begin, its lines in order, End.
use Rattle.std.specs.Prelude.{ℕ, Bool, true, false, List, [], ◌∷◌, length, nat_lt, ◌==◌, slice_get, slice_index, Option, None, Some, option_map, map, ◌&&◌, not, IsTrue, if◌then◌else◌}
use Rattle.std.specs.List.{list_all}
use Rattle.cache_types.specs.declared.calls.CacheCall.{CacheCall}
use Rattle.cache_types.specs.declared.calls.CacheCall.TheVariants.{Begin, End}
use Rattle.cache_types.specs.declared.replies.Reply.{Reply}
use Rattle.cache_types.specs.declared.replies.Reply.TheVariants.{Got, Made}
use Rattle.cache_types.specs.declared.outer.OuterCall.TheVariants as outer
use Rattle.cache_types.specs.declared.outer.OuterReply.{OuterReply}
use Rattle.cache_types.specs.declared.outer.OuterReply.TheVariants as said
use Rattle.cache_types.specs.declared.outer.Outcome.TheVariants as outcome
use Rattle.cache_types.specs.Entries.{is_begin, is_end}
use Rattle.cache_types.specs.Limits.{is_within_limits}
use Rattle.script_lines.specs.declared.line.Named.{Named}
use Rattle.script_lines.specs.declared.line.Named.TheVariants as named
use Rattle.script_lines.specs.declared.line.Line.{Line}
use Rattle.script_lines.specs.Names.{with_name}
use Rattle.player.specs.declared.turn.Turn.{Turn}
use Rattle.player.specs.declared.turn.Turn.TheVariants.{Outer, Over}
use Rattle.player.specs.Plays.{Program, Answered, replies_of}
use Rattle.player.specs.May.{may_want}

abbrev pub is_got_or_made : Reply → Bool
is_got_or_made (Got bits hit) = true
is_got_or_made Made = true
is_got_or_made _ = false

-- what a later line's `@` stands for: the entry's number where it got or made something, else 0
abbrev pub value_of : ℕ → Reply → ℕ
value_of number reply = if is_got_or_made reply then number else 0

-- the number that a line names; `values` are those of the guest's entries so far, its Begin's first
abbrev pub name_in : List ℕ → Named → ℕ
name_in values named.Nothing = 0
name_in values (named.Line n) = slice_index values n
name_in values (named.Number n) = n

-- the call with this number in the place of the entry that it names
abbrev pub call_of : List ℕ → Line → CacheCall
call_of values line = with_name (name_in values line.named) line.call

-- the call at this place behind the Begin, counted from 0: a line's, or End behind the last one
abbrev pub line_call : List Line → List ℕ → ℕ → Option CacheCall
line_call script values place =
    if nat_lt place (length script) then option_map (call_of values) (slice_get script place)
    else (if place == length script then Some End else None)

-- the next call of a guest whose entries so far have these values
abbrev pub next_call : List Line → List ℕ → Option CacheCall
next_call script [] = Some Begin
next_call script (begin ∷ values) = line_call script (begin ∷ values) (length values)

-- what a reply is worth to later lines
abbrev pub worth_of : OuterReply → ℕ
worth_of (said.Cache stepped) = value_of stepped.number stepped.reply
worth_of _ = 0

abbrev pub values_in : List OuterReply → List ℕ
values_in replies = map worth_of replies

abbrev pub turn_of : Option CacheCall → Turn
turn_of (Some call) = Outer (outer.Cache call)
turn_of None = Over outcome.Returned

-- the guest as a program of its replies: Begin, its lines in order, End; then it has returned
abbrev pub script_program : List Line → Program
script_program lines replies = turn_of (next_call lines (values_in replies))

-- memory may be wanted for a line's call, and for Begin
abbrev pub ScriptWants : Program → List Answered → Type 0
ScriptWants next trace = IsTrue (may_want (next (replies_of trace)))

-- a line of a script is neither Begin nor End, and within the limits
abbrev pub is_script_line : Line → Bool
is_script_line line = is_within_limits line.call && (not (is_begin line.call) && not (is_end line.call))

abbrev pub is_script : List Line → Bool
is_script lines = list_all is_script_line lines

-- the next call is Begin, or one of a line
abbrev pub is_asking : List Line → List ℕ → Bool
is_asking script [] = true
is_asking script (begin ∷ values) = nat_lt (length values) (length script)

abbrev pub is_end_of : Option Line → Bool
is_end_of None = false
is_end_of (Some line) = is_end line.call

-- the call at this place behind the Begin is End
abbrev pub is_end_line : List Line → ℕ → Bool
is_end_line script place = if nat_lt place (length script) then is_end_of (slice_get script place) else place == length script

-- the next call is End
abbrev pub is_end_at : List Line → List ℕ → Bool
is_end_at script [] = false
is_end_at script (begin ∷ values) = is_end_line script (length values)
