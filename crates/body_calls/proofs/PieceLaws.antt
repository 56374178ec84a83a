-- The pieces of parts that were all written on are the parts' bytes.
use Rattle.std.proofs.Common.{◌≡◌, ◌∙◌, ℕ, Bool, true, false, List, [], ◌∷◌, ◌++◌, length, take, drop, refl, sym, ap, subst, arith, append_assoc, take-append-drop}
use Rattle.std.specs.Prelude.{nat_le}
use Rattle.std.proofs.lemmas.Bool.{eqb-true}
use Rattle.cache_types.specs.declared.calls.CacheCall.TheVariants.{Write}
use Rattle.cache_types.specs.declared.outer.OuterCall.{OuterCall}
use Rattle.cache_types.specs.declared.outer.OuterCall.TheVariants as call
use Rattle.cache_types.specs.declared.outer.OuterReply.{OuterReply}
use Rattle.cache_types.specs.declared.outer.OuterReply.TheVariants as reply
use Rattle.cache_types.specs.declared.replies.Reply.{Reply}
use Rattle.cache_types.specs.declared.replies.Reply.TheVariants as said
use Rattle.edge_abi.specs.declared.status.Status.{Status}
use Rattle.edge_abi.specs.declared.status.Status.TheVariants as status
use Rattle.edge_abi.specs.Told.{Told, After, Row, Wants}
use Rattle.edge_body.specs.declared.body.Part.{Part}
use Rattle.edge_body.specs.declared.body.Part.TheVariants.{Own, Rest}
use Rattle.edge_http_calls.specs.declared.tables.HttpTables.{HttpTables}
use Rattle.edge_http_calls.specs.declared.tables.To.{To}
use Rattle.edge_http_calls.specs.declared.tables.To.TheVariants.{Filling, Down}
use Rattle.edge_http_calls.specs.Moves.{piece_to, read_at, status_of_piece, passed, heard, onward, is_empty, write_own, write_hit, write_parts}
use Rattle.body_calls.specs.Pieces.{Answered, Makes, Tell, TellsRead, IsOk, replies_of, bytes_of, written, parts_bytes}

abbrev pub Ended : Type 0
Ended = Told (After HttpTables)

abbrev pub wants : OuterCall → Ended
wants call = Wants call

-- ---- small things

wants_same : (a b : OuterCall) → wants a ≡ wants b → a ≡ b
wants_same a b e = cc

-- a piece is written by a call that writes these bytes
piece_bytes : (to : To) (bytes : List ℕ) (made : OuterCall) → wants (piece_to to bytes) ≡ wants made → bytes_of made ≡ bytes
piece_bytes (Filling object) bytes made e = ap bytes_of (sym (wants_same (call.Cache (Write object bytes)) made e))
piece_bytes Down bytes made e = ap bytes_of (sym (wants_same (call.Piece bytes) made e))

-- a call that writes no bytes
pub no_bytes : (asked made : OuterCall) → wants asked ≡ wants made → bytes_of asked ≡ [] → bytes_of made ≡ []
no_bytes asked made e none = ap bytes_of (sym (wants_same asked made e)) ∙ none

empty_is : (bytes : List ℕ) → is_empty bytes ≡ true → bytes ≡ []
empty_is [] e = refl
empty_is (byte ∷ bytes) e = let none : length (byte ∷ bytes) ≡ 0 = eqb-true (length (byte ∷ bytes)) 0 e in absurd (omega (arith, none))

-- what a Read was answered
data Heard (most : ℕ) (read : OuterReply) : Type 0 where
  HeardBytes : (number : ℕ) (bytes : List ℕ) → read ≡ reply.Cache (record { number = number; reply = said.Bytes bytes }) → nat_le (length bytes) most ≡ true → Heard most read
  HeardEnd : (number : ℕ) → read ≡ reply.Cache (record { number = number; reply = said.Ended }) → Heard most read
  HeardNone : ((goes : List ℕ → Ended) (ended failed : Ended) → heard most read goes ended failed ≡ failed) → Heard most read

heard_in : (most number : ℕ) (told : Reply) → Heard most (reply.Cache (record { number = number; reply = told }))
heard_in most number (said.Bytes bytes) =
    let with : (b : Bool) → nat_le (length bytes) most ≡ b → Heard most (reply.Cache (record { number = number; reply = said.Bytes bytes }))
    = elim [ true ↦ λ e. HeardBytes number bytes refl e | false ↦ λ e. HeardNone (λ goes ended failed. rw e refl) ] in with (nat_le (length bytes) most) refl
heard_in most number said.Ended = HeardEnd number refl
heard_in most number _ = HeardNone (λ goes ended failed. refl)

heard_is : (most : ℕ) (read : OuterReply) → Heard most read
heard_is most (reply.Cache stepped) = heard_in most stepped.number stepped.reply
heard_is most _ = HeardNone (λ goes ended failed. refl)

-- ---- the parts

-- what this program wrote where it is answered ok
abbrev pub WritesAll : (ℕ → ℕ → List ℕ) → Row HttpTables → List ℕ → Type 0
WritesAll content program bytes = (trace : List Answered) → Makes program trace → Tell content trace → IsOk (program (replies_of trace)) → written trace ≡ bytes

-- a program that is answered ok where nothing failed
abbrev pub FailsUnlessOk : (Status → Row HttpTables) → Type 0
FailsUnlessOk failing = (said : Status) → (said ≡ status.Ok → ⊥) → (replies : List OuterReply) → IsOk (failing said replies) → ⊥

module _ (content : ℕ → ℕ → List ℕ) (to : To) (failing : Status → Row HttpTables) (failed : FailsUnlessOk failing) where
  passed_ok : (told : Status) (goes : Ended) (replies : List OuterReply) → IsOk (passed told (λ status. failing status replies) goes) → told ≡ status.Ok
  passed_ok status.Ok goes replies ok = refl
  passed_ok told goes replies ok = absurd (failed told (λ e. cc) replies ok)

  own_writes : (trace : List Answered) (bytes : List ℕ) (ends : Row HttpTables) (rest : List ℕ) → WritesAll content ends rest → Makes (write_own to bytes failing ends) trace → Tell content trace
      → IsOk (write_own to bytes failing ends (replies_of trace)) → written trace ≡ bytes ++ rest
  own_writes [] bytes ends rest law makes tells ok =
      let with : (b : Bool) → is_empty bytes ≡ b → written [] ≡ bytes ++ rest
      = elim [
        | true ↦ λ e. rw (empty_is bytes e) (law [] tt tt (rw e at ok))
        | false ↦ λ e. let bad : ⊥ = rw e at ok in absurd bad
      ] in with (is_empty bytes) refl
  own_writes (a ∷ trace) bytes ends rest law makes tells ok =
      let with : (b : Bool) → is_empty bytes ≡ b → written (a ∷ trace) ≡ bytes ++ rest
      = elim [
        | true ↦ λ e. rw (empty_is bytes e) (law (a ∷ trace) (rw e at makes) tells (rw e at ok))
        | false ↦ λ e.
            let first : bytes_of a.call ≡ take 65536 bytes = piece_bytes to (take 65536 bytes) a.call (rw e at makes.0) in
            let ok' : IsOk (passed (status_of_piece to a.reply) (λ status. failing status (replies_of trace)) (write_own to (drop 65536 bytes) failing ends (replies_of trace))) = rw e at ok in
            let well : status_of_piece to a.reply ≡ status.Ok =
            passed_ok (status_of_piece to a.reply) (write_own to (drop 65536 bytes) failing ends (replies_of trace)) (replies_of trace) ok' in
            let makes' : Makes (λ replies. write_own to (drop 65536 bytes) failing ends replies) trace = rw (e, well) at makes.1 in
            let behind : written trace ≡ drop 65536 bytes ++ rest = own_writes trace (drop 65536 bytes) ends rest law makes' tells.1 (rw well at ok') in
            ap (λ (xs : List ℕ). xs ++ written trace) first
            ∙ (ap (λ (xs : List ℕ). take 65536 bytes ++ xs) behind
            ∙ (sym (append_assoc (take 65536 bytes) (drop 65536 bytes) rest) ∙ ap (λ (xs : List ℕ). xs ++ rest) (take-append-drop 65536 bytes)))
      ] in with (is_empty bytes) refl

  read_tells : (hit place : ℕ) (made : OuterCall) (read : OuterReply) → wants (read_at hit place 65536) ≡ wants made → TellsRead content made read → TellsRead content (read_at hit place 65536) read
  read_tells hit place made read e tells = subst (λ (x : OuterCall). TellsRead content x read) (sym (wants_same (read_at hit place 65536) made e)) tells

  hit_writes : (trace : List Answered) (hit place : ℕ) (ends : Row HttpTables) (rest : List ℕ) → WritesAll content ends rest → Makes (write_hit to hit place failing ends) trace → Tell content trace
      → IsOk (write_hit to hit place failing ends (replies_of trace)) → written trace ≡ content hit place ++ rest
  hit_writes [] hit place ends rest law makes tells ok = absurd ok
  hit_writes (a ∷ []) hit place ends rest law makes tells ok =
      let told : TellsRead content (read_at hit place 65536) a.reply = read_tells hit place a.call a.reply makes.0 tells.0 in
      let none : bytes_of a.call ≡ [] = no_bytes (read_at hit place 65536) a.call makes.0 refl in
      elim (heard_is 65536 a.reply) [
        | HeardBytes number bytes is fits ↦ let bad : ⊥ = rw (is, fits) at ok in absurd bad
        | HeardEnd number is ↦
            let nothing : content hit place ≡ [] = rw is at told in
            rw (none, nothing) (law [] tt tt (rw is at ok))
        | HeardNone none_heard ↦
            let bad : IsOk (failing status.Error []) = subst (λ (x : Ended). IsOk x) (none_heard (λ bytes. Wants (piece_to to bytes)) (ends []) (failing status.Error [])) ok in
            absurd (failed status.Error (λ e. cc) [] bad)
      ]
  hit_writes (a ∷ (b ∷ trace)) hit place ends rest law makes tells ok =
      let told : TellsRead content (read_at hit place 65536) a.reply = read_tells hit place a.call a.reply makes.0 tells.0 in
      let none : bytes_of a.call ≡ [] = no_bytes (read_at hit place 65536) a.call makes.0 refl in
      elim (heard_is 65536 a.reply) [
        | HeardBytes number bytes is fits ↦
            let made : wants (piece_to to bytes) ≡ wants b.call = rw (is, fits) at makes.1.0 in
            let first : bytes_of b.call ≡ bytes = piece_bytes to bytes b.call made in
            let ok' : IsOk (passed (status_of_piece to b.reply) (λ status. failing status (replies_of trace)) (write_hit to hit (onward place bytes) failing ends (replies_of trace))) = rw (is, fits) at ok in
            let well : status_of_piece to b.reply ≡ status.Ok =
            passed_ok (status_of_piece to b.reply) (write_hit to hit (onward place bytes) failing ends (replies_of trace)) (replies_of trace) ok' in
            let makes' : Makes (λ replies. write_hit to hit (onward place bytes) failing ends replies) trace = rw (is, fits, well) at makes.1.1 in
            let behind : written trace ≡ content hit (onward place bytes) ++ rest = hit_writes trace hit (onward place bytes) ends rest law makes' tells.1.1 (rw well at ok') in
            let have : content hit place ≡ bytes ++ content hit (onward place bytes) = rw is at told in
            rw (none, first, have) (ap (λ (xs : List ℕ). bytes ++ xs) behind ∙ sym (append_assoc bytes (content hit (onward place bytes)) rest))
        | HeardEnd number is ↦
            let nothing : content hit place ≡ [] = rw is at told in
            let makes' : Makes ends (b ∷ trace) = rw is at makes.1 in
            rw (none, nothing) (law (b ∷ trace) makes' tells.1 (rw is at ok))
        | HeardNone none_heard ↦
            let bad : IsOk (failing status.Error (b.reply ∷ replies_of trace)) =
            subst (λ (x : Ended). IsOk x)
            (none_heard
            (λ bytes. passed (status_of_piece to b.reply) (λ status. failing status (replies_of trace)) (write_hit to hit (onward place bytes) failing ends (replies_of trace)))
            (ends (b.reply ∷ replies_of trace))
            (failing status.Error (b.reply ∷ replies_of trace)))
            ok in
            absurd (failed status.Error (λ e. cc) (b.reply ∷ replies_of trace) bad)
      ]

  pub parts_write : (parts : List Part) (ends : Row HttpTables) (rest : List ℕ) → WritesAll content ends rest → WritesAll content (write_parts to parts failing ends) (parts_bytes content parts ++ rest)
  parts_write [] ends rest law trace makes tells ok = law trace makes tells ok
  parts_write (Own bytes ∷ parts) ends rest law trace makes tells ok =
      own_writes trace bytes (write_parts to parts failing ends) (parts_bytes content parts ++ rest) (λ trace makes tells ok. parts_write parts ends rest law trace makes tells ok) makes tells ok
      ∙ sym (append_assoc bytes (parts_bytes content parts) rest)
  parts_write (Rest hit place len ∷ parts) ends rest law trace makes tells ok =
      hit_writes trace hit place (write_parts to parts failing ends) (parts_bytes content parts ++ rest) (λ trace makes tells ok. parts_write parts ends rest law trace makes tells ok) makes tells ok
      ∙ sym (append_assoc (content hit place) (parts_bytes content parts) rest)
