-- The rows of `fastly_http_body`, in all their cases.
use Rattle.std.specs.Prelude.{ℕ, ◌+◌, true, false, not, ◌==◌, ◌||◌, List, [], ◌∷◌, ◌++◌, length, take, drop, min, Option, None, Some, is_some, Result, Ok, if◌then◌else◌}
use Rattle.cache_types.specs.declared.calls.CacheCall.TheVariants.{Finish, Abandon}
use Rattle.cache_types.specs.declared.outer.OuterCall.TheVariants as call
use Rattle.cache_types.specs.declared.outer.OuterReply.{OuterReply}
use Rattle.cache_types.specs.declared.outer.OuterReply.TheVariants as reply
use Rattle.cache_types.specs.declared.replies.Reply.{Reply}
use Rattle.cache_types.specs.declared.replies.Reply.TheVariants as said
use Rattle.wasm_memory.specs.Linear.{Linear}
use Rattle.edge_abi.specs.declared.status.Status.{Status}
use Rattle.edge_abi.specs.declared.status.Status.TheVariants as status
use Rattle.edge_abi.specs.declared.status.Refusal.{Refusal}
use Rattle.edge_abi.specs.Memory.{octets_at, put, number_put}
use Rattle.edge_abi.specs.Refusals.{and_then, unless, ranged, placed, some_or, handled}
use Rattle.edge_abi.specs.Tables.{held}
use Rattle.edge_abi.specs.Told.{Row, ask, judged, done}
use Rattle.edge_body.specs.Parts.{known_length}
use Rattle.edge_body.specs.declared.body.Part.{Part}
use Rattle.edge_body.specs.declared.body.Part.TheVariants.{Own, Rest}
use Rattle.edge_http_calls.specs.declared.tables.BodyState.{BodyState}
use Rattle.edge_http_calls.specs.declared.tables.BodyState.TheVariants as body
use Rattle.edge_http_calls.specs.declared.tables.To.{To}
use Rattle.edge_http_calls.specs.declared.tables.To.TheVariants as to
use Rattle.edge_http_calls.specs.declared.tables.HttpTables.{HttpTables}
use Rattle.edge_http_calls.specs.Tables.{with_body, without_body, with_changed}
use Rattle.edge_http_calls.specs.Requests.{newly}
use Rattle.edge_http_calls.specs.Moves.{piece_to, read_at, status_of_piece, heard, is_empty, onward, write_parts}

-- new(o4): an empty held body
abbrev pub http_body_new : HttpTables → Linear → ℕ → Row HttpTables
http_body_new t m o =
    judged t m (newly t.bodies m o) (λ _. done status.Ok (with_body t (body.Held [])) (number_put m o 4 (length t.bodies + 1)))

-- the parts of a body that is held
abbrev pub parts_of : BodyState → Option (List Part)
parts_of (body.Held parts) = Some parts
parts_of _ = None

-- what a body is written to, where it isn't held
abbrev pub target_of : BodyState → Option To
target_of (body.Held parts) = None
target_of (body.Filling object) = Some (to.Filling object)
target_of body.Down = Some to.Down

-- ---- append(h,h): the parts of the second go to the end of the first, and its handle is taken

-- the parts of the body that a number names, where it is held
abbrev pub parts_in : Option BodyState → List Part
parts_in (Some (body.Held parts)) = parts
parts_in _ = []

-- the first body, where the second is held, and another than the first
abbrev pub appendable : HttpTables → ℕ → ℕ → Result BodyState Refusal
appendable t h second =
    and_then (handled t.bodies h) (λ first.
    and_then (handled t.bodies second) (λ other.
    and_then (unless (is_some (parts_of other)) status.Inval) (λ _.
    and_then (unless (not (h == second)) status.Inval) (λ _. Ok first))))

-- a held body with these parts behind its own
abbrev pub joined : List Part → BodyState → BodyState
joined parts (body.Held first) = body.Held (first ++ parts)
joined parts state = state

-- the parts stand in the first body now
abbrev pub appended : HttpTables → Linear → ℕ → Row HttpTables
appended t m second = done status.Ok (without_body t second) m

-- what was written stays, and so do the handles
abbrev pub fails : HttpTables → Linear → Status → Row HttpTables
fails t m status = done status t m

abbrev pub appends : HttpTables → Linear → ℕ → ℕ → BodyState → Row HttpTables
appends t m h second (body.Held first) = done status.Ok (with_changed (without_body t second) h (joined (parts_in (held t.bodies second)))) m
appends t m h second (body.Filling object) = write_parts (to.Filling object) (parts_in (held t.bodies second)) (fails t m) (appended t m second)
appends t m h second body.Down = write_parts to.Down (parts_in (held t.bodies second)) (fails t m) (appended t m second)

abbrev pub http_body_append : HttpTables → Linear → ℕ → ℕ → Row HttpTables
http_body_append t m h second = judged t m (appendable t h second) (appends t m h second)

-- ---- read(h,b,n,o4): bytes off the front of a held body

abbrev pub readable : HttpTables → Linear → ℕ → ℕ → ℕ → ℕ → Result (List Part) Refusal
readable t m h b n o =
    and_then (handled t.bodies h) (λ state.
    and_then (ranged m b n) (λ _.
    and_then (placed m o 4) (λ _.
    some_or (parts_of state) status.Inval)))

-- a held body that has these parts now
abbrev pub left_with : List Part → BodyState → BodyState
left_with parts (body.Held old) = body.Held parts
left_with parts state = state

-- these bytes were read, and these parts are left
abbrev pub was_read : HttpTables → Linear → ℕ → ℕ → ℕ → List ℕ → List Part → Row HttpTables
was_read t m h b o bytes left = done status.Ok (with_changed t h (left_with left)) (number_put (put m b bytes) o 4 (length bytes))

-- at most so many bytes of the first part that has any; parts that have none are passed over
abbrev pub read_parts : HttpTables → Linear → ℕ → ℕ → ℕ → ℕ → List Part → Row HttpTables
read_parts t m h b most o [] = was_read t m h b o [] []
read_parts t m h b most o (Own bytes ∷ parts) =
    if is_empty bytes then read_parts t m h b most o parts
    else was_read t m h b o (take most bytes) (Own (drop most bytes) ∷ parts)
read_parts t m h b most o (Rest hit place length ∷ parts) =
    ask (read_at hit place most) (λ reply. heard most reply
    (λ bytes. was_read t m h b o bytes (Rest hit (onward place bytes) length ∷ parts))
    (read_parts t m h b most o parts)
    (done status.Error t m))

abbrev pub reads : HttpTables → Linear → ℕ → ℕ → ℕ → ℕ → List Part → Row HttpTables
reads t m h b n o parts = if n == 0 then done status.Ok t (number_put m o 4 0) else read_parts t m h b (min n 65536) o parts

abbrev pub http_body_read : HttpTables → Linear → ℕ → ℕ → ℕ → ℕ → Row HttpTables
http_body_read t m h b n o = judged t m (readable t m h b n o) (reads t m h b n o)

-- what is read where the first part with any bytes is an own one, and the body that is left then
abbrev pub own_bytes : ℕ → List Part → List ℕ
own_bytes most [] = []
own_bytes most (Own bytes ∷ parts) = if is_empty bytes then own_bytes most parts else take most bytes
own_bytes most (Rest hit place length ∷ parts) = []

abbrev pub own_left : ℕ → List Part → List Part
own_left most [] = []
own_left most (Own bytes ∷ parts) = if is_empty bytes then own_left most parts else Own (drop most bytes) ∷ parts
own_left most (Rest hit place length ∷ parts) = []

abbrev pub bytes_in : ℕ → BodyState → List ℕ
bytes_in most (body.Held parts) = own_bytes most parts
bytes_in most state = []

abbrev pub shortened : ℕ → BodyState → BodyState
shortened most (body.Held parts) = body.Held (own_left most parts)
shortened most state = state

-- ---- write(h,p,n,end,o4): at the back (0) or the front (1) of a held body, or one piece

abbrev pub writable : HttpTables → Linear → ℕ → ℕ → ℕ → ℕ → ℕ → Result BodyState Refusal
writable t m h p n end o =
    and_then (handled t.bodies h) (λ state.
    and_then (ranged m p n) (λ _.
    and_then (placed m o 4) (λ _.
    and_then (unless (end == 0 || end == 1) status.Inval) (λ _.
    and_then (unless (end == 0 || not (is_some (target_of state))) status.Unsupported) (λ _. Ok state)))))

-- a held body with this part at its back or front
abbrev pub grown : ℕ → Part → BodyState → BodyState
grown end part (body.Held parts) = body.Held (if end == 0 then parts ++ part ∷ [] else part ∷ parts)
grown end part state = state

-- a piece was written: at the place the number of its bytes
abbrev pub wrote : HttpTables → Linear → ℕ → ℕ → Status → Row HttpTables
wrote t m o taken status.Ok = done status.Ok t (number_put m o 4 taken)
wrote t m o taken status = done status t m

-- the first bytes of a range, as many as one piece takes, are one piece
abbrev pub writing : HttpTables → Linear → ℕ → ℕ → ℕ → To → Row HttpTables
writing t m p n o target =
    ask (piece_to target (octets_at m p (min n 65536))) (λ reply. wrote t m o (min n 65536) (status_of_piece target reply))

abbrev pub writes : HttpTables → Linear → ℕ → ℕ → ℕ → ℕ → ℕ → BodyState → Row HttpTables
writes t m h p n end o (body.Held parts) =
    done status.Ok (with_changed t h (grown end (Own (octets_at m p n)))) (number_put m o 4 n)
writes t m h p n end o (body.Filling object) = writing t m p n o (to.Filling object)
writes t m h p n end o body.Down = writing t m p n o to.Down

abbrev pub http_body_write : HttpTables → Linear → ℕ → ℕ → ℕ → ℕ → ℕ → Row HttpTables
http_body_write t m h p n end o = judged t m (writable t m h p n end o) (writes t m h p n end o)

-- ---- close(h) and abandon(h)

-- how the cache answered a Finish or an Abandon; what neither is answered is an error
abbrev pub status_of_finish : Reply → Status
status_of_finish said.Done = status.Ok
status_of_finish said.Short = status.Httpincomplete
status_of_finish said.Refused = status.Inval
status_of_finish _ = status.Error

abbrev pub status_of_abandon : Reply → Status
status_of_abandon said.Done = status.Ok
status_of_abandon said.Refused = status.Inval
status_of_abandon _ = status.Error

-- how the end of a body was taken: of one that fills an object, and of the streamed answer
abbrev pub status_of_end : (Reply → Status) → OuterReply → Status
status_of_end status_of (reply.Cache stepped) = status_of stepped.reply
status_of_end status_of _ = status.Error

abbrev pub status_of_sent : OuterReply → Status
status_of_sent reply.Sent = status.Ok
status_of_sent _ = status.Error

-- the handle is taken, however the body was closed
abbrev pub closed : HttpTables → Linear → ℕ → Status → Row HttpTables
closed t m h status = done status (without_body t h) m

abbrev pub closing : HttpTables → Linear → ℕ → BodyState → Row HttpTables
closing t m h (body.Held parts) = closed t m h status.Ok
closing t m h (body.Filling object) = ask (call.Cache (Finish object)) (λ reply. closed t m h (status_of_end status_of_finish reply))
closing t m h body.Down = ask (call.Close true) (λ reply. closed t m h (status_of_sent reply))

-- close(h): a held body is dropped, a filling one finished, the streamed answer closed whole
abbrev pub http_body_close : HttpTables → Linear → ℕ → Row HttpTables
http_body_close t m h = judged t m (handled t.bodies h) (closing t m h)

-- the handle is taken where the body was abandoned
abbrev pub abandoned : HttpTables → Linear → ℕ → Status → Row HttpTables
abandoned t m h status.Ok = done status.Ok (without_body t h) m
abandoned t m h status = done status t m

abbrev pub abandoning : HttpTables → Linear → ℕ → BodyState → Row HttpTables
abandoning t m h (body.Held parts) = abandoned t m h status.Ok
abandoning t m h (body.Filling object) = ask (call.Cache (Abandon object)) (λ reply. abandoned t m h (status_of_end status_of_abandon reply))
abandoning t m h body.Down = ask (call.Close false) (λ reply. abandoned t m h (status_of_sent reply))

-- abandon(h): a held body is dropped, a filling one abandoned, the streamed answer cut
abbrev pub http_body_abandon : HttpTables → Linear → ℕ → Row HttpTables
http_body_abandon t m h = judged t m (handled t.bodies h) (abandoning t m h)

-- ---- known_length(h,o8): none for what isn't held, and where a part's length isn't known

abbrev pub length_of : BodyState → Option ℕ
length_of (body.Held parts) = known_length parts
length_of _ = None

abbrev pub length_asked : HttpTables → Linear → ℕ → ℕ → Result ℕ Refusal
length_asked t m h o =
    and_then (handled t.bodies h) (λ state. and_then (placed m o 8) (λ _. some_or (length_of state) status.None))

abbrev pub http_body_known_length : HttpTables → Linear → ℕ → ℕ → Row HttpTables
http_body_known_length t m h o = judged t m (length_asked t m h o) (λ length. done status.Ok t (number_put m o 8 length))
