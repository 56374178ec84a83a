-- What is replied on an object's body, by what is held of the object.
use Rattle.std.specs.Prelude.{ℕ, ◌+◌, Bool, false, ◌&&◌, not, ◌==◌, List, length, take, drop, nat_lt, Option, None, Some, unwrap_or, option_and_then, if◌then◌else◌}
use Rattle.std.specs.Option.{option_map_or}
use Rattle.cache_types.specs.declared.entries.Entry.{Entry}
use Rattle.cache_types.specs.declared.replies.Reply.{Reply}
use Rattle.cache_types.specs.declared.replies.Reply.TheVariants.{NotYet, Done, Refused, Short, TooLong, Bytes, Ended, Failed}
use Rattle.cache_objects.specs.declared.standing.Standing.{Standing}
use Rattle.cache_core.specs.Knows.{renewer, standing_of}
use Rattle.cache_core.specs.Object.{Object, object_at}

-- the object is the guest's, and its body is under way
abbrev pub may_write : ℕ → Standing → Bool
may_write guest s = s.guest == guest && (not s.finished && not s.abandoned)

abbrev pub writable_by : ℕ → Standing → Option Standing
writable_by guest s = if may_write guest s then Some s else None

-- what is held of the guest's own object whose body is under way
abbrev pub writable_at : List Entry → ℕ → ℕ → Option Standing
writable_at past guest object = option_and_then (λ (x : Object). writable_by guest (standing_of (renewer past object) x)) (object_at past object)

abbrev pub write_by : List ℕ → Option Standing → Reply
write_by piece None = Refused
write_by piece (Some s) = if nat_lt (unwrap_or s.declared 67108864) (length s.body + length piece) then TooLong else Done

abbrev pub is_short_by : Standing → Bool
is_short_by s = option_map_or (λ declared. nat_lt (length s.body) declared) s.declared false

abbrev pub finish_by : Option Standing → Reply
finish_by None = Refused
finish_by (Some s) = if is_short_by s then Short else Done

abbrev pub read_by : ℕ → ℕ → Standing → Reply
read_by place most s =
    if nat_lt place (length s.body) then Bytes (take most (drop place s.body))
    else (if s.finished then Ended else (if s.abandoned then Failed else NotYet))
