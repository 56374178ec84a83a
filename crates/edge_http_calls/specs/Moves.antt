-- Parts that are written on in pieces, and hits that are read. The replies say how far a row has come.
use Rattle.std.specs.Prelude.{ℕ, ◌+◌, Bool, List, [], ◌∷◌, length, min, max, take, drop, ◌==◌, nat_le, if◌then◌else◌}
use Rattle.cache_types.specs.declared.calls.CacheCall.TheVariants.{Write, Read}
use Rattle.cache_types.specs.declared.outer.OuterCall.{OuterCall}
use Rattle.cache_types.specs.declared.outer.OuterCall.TheVariants as call
use Rattle.cache_types.specs.declared.outer.OuterReply.{OuterReply}
use Rattle.cache_types.specs.declared.outer.OuterReply.TheVariants as reply
use Rattle.cache_types.specs.declared.replies.Reply.{Reply}
use Rattle.cache_types.specs.declared.replies.Reply.TheVariants.{Done, TooLong, Refused, Bytes, Ended}
use Rattle.edge_abi.specs.declared.status.Status.{Status}
use Rattle.edge_abi.specs.declared.status.Status.TheVariants as status
use Rattle.edge_abi.specs.Told.{Told, Wants}
use Rattle.edge_body.specs.declared.body.Part.{Part}
use Rattle.edge_body.specs.declared.body.Part.TheVariants.{Own, Rest}
use Rattle.edge_http_calls.specs.declared.tables.To.{To}
use Rattle.edge_http_calls.specs.declared.tables.To.TheVariants.{Filling, Down}

-- the call that writes a piece
abbrev pub piece_to : To → List ℕ → OuterCall
piece_to (Filling object) bytes = call.Cache (Write object bytes)
piece_to Down bytes = call.Piece bytes

-- the call that reads a hit from a place; a Read asks for 1 to 65,536 bytes
abbrev pub read_at : ℕ → ℕ → ℕ → OuterCall
read_at hit place most = call.Cache (Read hit place (max 1 (min most 65536)))

-- how the cache answered a Write; what no Write is answered is an error
abbrev pub status_of_write : Reply → Status
status_of_write Done = status.Ok
status_of_write TooLong = status.Limitexceeded
status_of_write Refused = status.Inval
status_of_write _ = status.Error

-- how a piece was taken
abbrev pub status_of_piece : To → OuterReply → Status
status_of_piece (Filling object) (reply.Cache stepped) = status_of_write stepped.reply
status_of_piece Down reply.Sent = status.Ok
status_of_piece _ _ = status.Error

-- how a part that is written on goes on, or fails
abbrev pub passed : {A : Type 0} → Status → (Status → A) → A → A
passed status.Ok fails goes = goes
passed status fails goes = fails status

-- what was read, the end, or a failure; more bytes than were asked for are none that a cache gives
abbrev pub read_in : {A : Type 0} → ℕ → Reply → (List ℕ → A) → A → A → A
read_in most (Bytes bytes) goes ended failed = if nat_le (length bytes) most then goes bytes else failed
read_in most Ended goes ended failed = ended
read_in most _ goes ended failed = failed

abbrev pub heard : {A : Type 0} → ℕ → OuterReply → (List ℕ → A) → A → A → A
heard most (reply.Cache stepped) goes ended failed = read_in most stepped.reply goes ended failed
heard most _ goes ended failed = failed

abbrev pub is_empty : List ℕ → Bool
is_empty bytes = length bytes == 0

-- the place behind what was read, capped
abbrev pub onward : ℕ → List ℕ → ℕ
onward place bytes = min (place + length bytes) 18446744073709551615

-- own bytes in pieces of at most 65,536, until none is left
abbrev pub write_own : {A : Type 0} → To → List ℕ → (Status → List OuterReply → Told A) → (List OuterReply → Told A) → List OuterReply → Told A
write_own to bytes fails ends [] = if is_empty bytes then ends [] else Wants (piece_to to (take 65536 bytes))
write_own to bytes fails ends (wrote ∷ replies) =
    if is_empty bytes then ends (wrote ∷ replies)
    else passed (status_of_piece to wrote) (λ status. fails status replies) (write_own to (drop 65536 bytes) fails ends replies)

-- a hit from a place until it ends; the bytes of each Read are one piece
abbrev pub write_hit : {A : Type 0} → To → ℕ → ℕ → (Status → List OuterReply → Told A) → (List OuterReply → Told A) → List OuterReply → Told A
write_hit to hit place fails ends [] = Wants (read_at hit place 65536)
write_hit to hit place fails ends (read ∷ []) =
    heard 65536 read (λ bytes. Wants (piece_to to bytes)) (ends []) (fails status.Error [])
write_hit to hit place fails ends (read ∷ (wrote ∷ replies)) =
    heard 65536 read
    (λ bytes. passed (status_of_piece to wrote) (λ status. fails status replies) (write_hit to hit (onward place bytes) fails ends replies))
    (ends (wrote ∷ replies))
    (fails status.Error (wrote ∷ replies))

-- all parts, one after the other
abbrev pub write_parts : {A : Type 0} → To → List Part → (Status → List OuterReply → Told A) → (List OuterReply → Told A) → List OuterReply → Told A
write_parts to [] fails ends replies = ends replies
write_parts to (Own bytes ∷ parts) fails ends replies = write_own to bytes fails (write_parts to parts fails ends) replies
write_parts to (Rest hit place length ∷ parts) fails ends replies = write_hit to hit place fails (write_parts to parts fails ends) replies
