-- A row on a body that isn't answered ok changes nothing, but for close.
use Rattle.std.proofs.Common.{ℕ, ◌==◌, Bool, true, false, List, [], ◌∷◌, length, min, take, drop}
use Rattle.std.specs.Prelude.{nat_le, if◌then◌else◌}
use Rattle.cache_types.specs.declared.calls.CacheCall.TheVariants.{Abandon}
use Rattle.cache_types.specs.declared.outer.OuterCall.{OuterCall}
use Rattle.cache_types.specs.declared.outer.OuterCall.TheVariants as call
use Rattle.cache_types.specs.declared.outer.OuterReply.{OuterReply}
use Rattle.cache_types.specs.declared.outer.OuterReply.TheVariants as reply
use Rattle.cache_types.specs.declared.replies.Reply.{Reply}
use Rattle.cache_types.specs.declared.replies.Reply.TheVariants.{Bytes, Ended}
use Rattle.wasm_memory.specs.Linear.{Linear}
use Rattle.edge_abi.specs.declared.status.Status.{Status}
use Rattle.edge_abi.specs.declared.status.Status.TheVariants as status
use Rattle.edge_abi.specs.Memory.{octets_at, put, number_put}
use Rattle.edge_abi.specs.Quiet.{IsQuiet, RowIsQuiet}
use Rattle.edge_abi.specs.Tables.{held}
use Rattle.edge_abi.specs.Told.{Told, After, Row, Wants, done}
use Rattle.edge_abi.proofs.Quiet.{ask-quiet, ok-quiet, same-quiet}
use Rattle.edge_body.specs.declared.body.Part.{Part}
use Rattle.edge_body.specs.declared.body.Part.TheVariants.{Own, Rest}
use Rattle.edge_http_calls.specs.declared.tables.BodyState.{BodyState}
use Rattle.edge_http_calls.specs.declared.tables.BodyState.TheVariants as body
use Rattle.edge_http_calls.specs.declared.tables.HttpTables.{HttpTables}
use Rattle.edge_http_calls.specs.declared.tables.To.{To}
use Rattle.edge_http_calls.specs.declared.tables.To.TheVariants as targets
use Rattle.edge_http_calls.specs.Tables.{with_changed, without_body}
use Rattle.edge_http_calls.specs.Moves.{piece_to, read_at, status_of_piece, passed, heard, read_in, onward, is_empty, write_own, write_hit, write_parts}
use Rattle.edge_http_calls.specs.Bodies.{parts_in, joined, appended, appends, fails, left_with, was_read, read_parts, reads, grown, wrote, writing, writes, status_of_end, status_of_abandon, status_of_sent, abandoned, abandoning}

-- ---- what holds of each way on holds of what is chosen

if_has : {A : Type 0} (P : A → Type 0) (b : Bool) (x y : A) → P x → P y → P (if b then x else y)
if_has P true x y px py = px
if_has P false x y px py = py

passed_has : {A : Type 0} (P : A → Type 0) (said : Status) (failing : Status → A) (goes : A) → ((other : Status) → P (failing other)) → P goes → P (passed said failing goes)
passed_has P status.Ok failing goes pf pg = pg
passed_has P said failing goes pf pg = pf said

read_has : {A : Type 0} (P : A → Type 0) (most : ℕ) (told : Reply) (goes : List ℕ → A) (ended failed : A)
    → ((bytes : List ℕ) → P (goes bytes)) → P ended → P failed → P (read_in most told goes ended failed)
read_has P most (Bytes bytes) goes ended failed pg pe pf = if_has P (nat_le (length bytes) most) (goes bytes) failed (pg bytes) pf
read_has P most Ended goes ended failed pg pe pf = pe
read_has P most _ goes ended failed pg pe pf = pf

heard_has : {A : Type 0} (P : A → Type 0) (most : ℕ) (read : OuterReply) (goes : List ℕ → A) (ended failed : A)
    → ((bytes : List ℕ) → P (goes bytes)) → P ended → P failed → P (heard most read goes ended failed)
heard_has P most (reply.Cache stepped) goes ended failed pg pe pf = read_has P most stepped.reply goes ended failed pg pe pf
heard_has P most _ goes ended failed pg pe pf = pf

-- what holds of each call, and of each end of parts that are written on, holds of the whole
module _ (P : Told (After HttpTables) → Type 0) (asks : (asked : OuterCall) → P (Wants asked)) where
  abbrev pub Has : Row HttpTables → Type 0
  Has row = (replies : List OuterReply) → P (row replies)

  own_has : (to : To) (replies : List OuterReply) (bytes : List ℕ) (failing : Status → Row HttpTables) (ends : Row HttpTables)
      → ((said : Status) → Has (failing said)) → Has ends → P (write_own to bytes failing ends replies)
  own_has to [] bytes failing ends fail end = if_has P (is_empty bytes) (ends []) (Wants (piece_to to (take 65536 bytes))) (end []) (asks (piece_to to (take 65536 bytes)))
  own_has to (wrote ∷ replies) bytes failing ends fail end =
      if_has P (is_empty bytes) (ends (wrote ∷ replies)) (passed (status_of_piece to wrote) (λ said. failing said replies) (write_own to (drop 65536 bytes) failing ends replies))
      (end (wrote ∷ replies))
      (passed_has P (status_of_piece to wrote) (λ said. failing said replies) (write_own to (drop 65536 bytes) failing ends replies)
      (λ said. fail said replies)
      (own_has to replies (drop 65536 bytes) failing ends fail end))

  hit_has : (to : To) (replies : List OuterReply) (hit place : ℕ) (failing : Status → Row HttpTables) (ends : Row HttpTables)
      → ((said : Status) → Has (failing said)) → Has ends → P (write_hit to hit place failing ends replies)
  hit_has to [] hit place failing ends fail end = asks (read_at hit place 65536)
  hit_has to (read ∷ []) hit place failing ends fail end =
      heard_has P 65536 read (λ bytes. Wants (piece_to to bytes)) (ends []) (failing status.Error []) (λ bytes. asks (piece_to to bytes)) (end []) (fail status.Error [])
  hit_has to (read ∷ (wrote ∷ replies)) hit place failing ends fail end =
      heard_has P 65536 read
      (λ bytes. passed (status_of_piece to wrote) (λ said. failing said replies) (write_hit to hit (onward place bytes) failing ends replies))
      (ends (wrote ∷ replies))
      (failing status.Error (wrote ∷ replies))
      (λ bytes.
      passed_has P (status_of_piece to wrote) (λ said. failing said replies) (write_hit to hit (onward place bytes) failing ends replies)
      (λ said. fail said replies)
      (hit_has to replies hit (onward place bytes) failing ends fail end))
      (end (wrote ∷ replies))
      (fail status.Error (wrote ∷ replies))

  pub parts_have : (to : To) (parts : List Part) (failing : Status → Row HttpTables) (ends : Row HttpTables)
      → ((said : Status) → Has (failing said)) → Has ends → Has (write_parts to parts failing ends)
  parts_have to [] failing ends fail end replies = end replies
  parts_have to (Own bytes ∷ parts) failing ends fail end replies =
      own_has to replies bytes failing (write_parts to parts failing ends) fail (λ replies. parts_have to parts failing ends fail end replies)
  parts_have to (Rest hit place len ∷ parts) failing ends fail end replies =
      hit_has to replies hit place failing (write_parts to parts failing ends) fail (λ replies. parts_have to parts failing ends fail end replies)

module _ (t : HttpTables) (m : Linear) where
  abbrev pub Calm : Told (After HttpTables) → Type 0
  Calm told = IsQuiet t m told

  abbrev pub CalmRow : Row HttpTables → Type 0
  CalmRow row = RowIsQuiet t m row

  parts_calm : (to : To) (parts : List Part) (second : ℕ) → CalmRow (write_parts to parts (fails t m) (appended t m second))
  parts_calm to parts second =
      parts_have Calm (λ asked. tt) to parts (fails t m) (appended t m second) (λ said. same-quiet t m said) (ok-quiet t (without_body t second) m m)

  pub appends_calm : (h second : ℕ) (state : BodyState) → CalmRow (appends t m h second state)
  appends_calm h second (body.Held first) = ok-quiet t (with_changed (without_body t second) h (joined (parts_in (held t.bodies second)))) m m
  appends_calm h second (body.Filling object) = parts_calm (targets.Filling object) (parts_in (held t.bodies second)) second
  appends_calm h second body.Down = parts_calm targets.Down (parts_in (held t.bodies second)) second

  -- ---- reads

  read_calm : (h b o : ℕ) (bytes : List ℕ) (left : List Part) → CalmRow (was_read t m h b o bytes left)
  read_calm h b o bytes left = ok-quiet t (with_changed t h (left_with left)) m (number_put (put m b bytes) o 4 (length bytes))

  parts_read_calm : (h b most o : ℕ) (parts : List Part) → CalmRow (read_parts t m h b most o parts)
  parts_read_calm h b most o [] = read_calm h b o [] []
  parts_read_calm h b most o (Own bytes ∷ parts) =
      if_has CalmRow (is_empty bytes) (read_parts t m h b most o parts) (was_read t m h b o (take most bytes) (Own (drop most bytes) ∷ parts))
      (parts_read_calm h b most o parts)
      (read_calm h b o (take most bytes) (Own (drop most bytes) ∷ parts))
  parts_read_calm h b most o (Rest hit place len ∷ parts) =
      ask-quiet t m (read_at hit place most)
      (λ read. heard most read (λ bytes. was_read t m h b o bytes (Rest hit (onward place bytes) len ∷ parts)) (read_parts t m h b most o parts) (done status.Error t m))
      (λ read.
      heard_has CalmRow most read (λ bytes. was_read t m h b o bytes (Rest hit (onward place bytes) len ∷ parts)) (read_parts t m h b most o parts) (done status.Error t m)
      (λ bytes. read_calm h b o bytes (Rest hit (onward place bytes) len ∷ parts))
      (parts_read_calm h b most o parts)
      (same-quiet t m status.Error))

  pub reads_calm : (h b n o : ℕ) (parts : List Part) → CalmRow (reads t m h b n o parts)
  reads_calm h b n o parts =
      if_has CalmRow (n == 0) (done status.Ok t (number_put m o 4 0)) (read_parts t m h b (min n 65536) o parts)
      (ok-quiet t t m (number_put m o 4 0))
      (parts_read_calm h b (min n 65536) o parts)

  -- ---- writes, and ends

  wrote_calm : (o count : ℕ) (said : Status) → CalmRow (wrote t m o count said)
  wrote_calm o count status.Ok = ok-quiet t t m (number_put m o 4 count)
  wrote_calm o count said = same-quiet t m said

  writing_calm : (p n o : ℕ) (to : To) → CalmRow (writing t m p n o to)
  writing_calm p n o to =
      ask-quiet t m (piece_to to (octets_at m p (min n 65536))) (λ taken. wrote t m o (min n 65536) (status_of_piece to taken)) (λ taken. wrote_calm o (min n 65536) (status_of_piece to taken))

  pub writes_calm : (h p n end o : ℕ) (state : BodyState) → CalmRow (writes t m h p n end o state)
  writes_calm h p n end o (body.Held parts) = ok-quiet t (with_changed t h (grown end (Own (octets_at m p n)))) m (number_put m o 4 n)
  writes_calm h p n end o (body.Filling object) = writing_calm p n o (targets.Filling object)
  writes_calm h p n end o body.Down = writing_calm p n o targets.Down

  abandoned_calm : (h : ℕ) (said : Status) → CalmRow (abandoned t m h said)
  abandoned_calm h status.Ok = ok-quiet t (without_body t h) m m
  abandoned_calm h said = same-quiet t m said

  pub abandoning_calm : (h : ℕ) (state : BodyState) → CalmRow (abandoning t m h state)
  abandoning_calm h (body.Held parts) = ok-quiet t (without_body t h) m m
  abandoning_calm h (body.Filling object) =
      ask-quiet t m (call.Cache (Abandon object)) (λ read. abandoned t m h (status_of_end status_of_abandon read)) (λ read. abandoned_calm h (status_of_end status_of_abandon read))
  abandoning_calm h body.Down =
      ask-quiet t m (call.Close false) (λ read. abandoned t m h (status_of_sent read)) (λ read. abandoned_calm h (status_of_sent read))
