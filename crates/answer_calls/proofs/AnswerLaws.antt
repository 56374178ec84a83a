-- What an answer wrote, and what it leaves.
use Rattle.std.proofs.Common.{◌≡◌, ℕ, ◌==◌, Bool, true, false, List, [], ◌∷◌, refl, sym, ap, subst, arith}
use Rattle.std.specs.Prelude.{Result, Ok, Err}
use Rattle.cache_types.specs.declared.outer.OuterCall.{OuterCall}
use Rattle.cache_types.specs.declared.outer.OuterCall.TheVariants as call
use Rattle.cache_types.specs.declared.outer.OuterReply.{OuterReply}
use Rattle.wasm_memory.specs.Linear.{Linear}
use Rattle.edge_abi.specs.declared.status.Status.{Status}
use Rattle.edge_abi.specs.declared.status.Status.TheVariants as status
use Rattle.edge_abi.specs.declared.status.Refusal.{Refusal}
use Rattle.edge_abi.specs.declared.status.Refusal.TheVariants as refusal
use Rattle.edge_abi.specs.Statuses.{number_of}
use Rattle.edge_abi.specs.Tables.{held}
use Rattle.edge_abi.specs.Told.{Row, ask, judged}
use Rattle.edge_body.specs.Heads.{Request, Response}
use Rattle.edge_body.specs.declared.body.Part.{Part}
use Rattle.http_front.specs.Answers.{answer_text}
use Rattle.edge_http_calls.specs.declared.tables.HttpTables.{HttpTables}
use Rattle.edge_http_calls.specs.declared.tables.To.TheVariants as targets
use Rattle.edge_http_calls.specs.Bodies.{parts_in, status_of_sent}
use Rattle.body_calls.specs.declared.under_way.Then.{Then}
use Rattle.body_calls.specs.declared.under_way.Then.TheVariants.{Send}
use Rattle.body_calls.specs.Pieces.{bytes_of, written, parts_bytes}
use Rattle.body_calls.specs.UnderWays.{fails_of, ends_of, sent, headed}
use Rattle.body_calls.proofs.PieceLaws.{no_bytes, WritesAll}
use Rattle.body_calls.proofs.RowPieces.{number_same, moves_write}
use Rattle.body_calls.proofs.QuietBodies.{parts_have}
use Rattle.answer_calls.specs.Sends.{IsKept, http_resp_send_downstream, sendable, told_length}

module _ (content : ℕ → ℕ → List ℕ) (t : HttpTables) (m : Linear) where
  headed_writes : (row : Then) (left : List Part) (said : Status) → WritesAll content (headed row left t m said) (parts_bytes content left)
  headed_writes row left status.Ok trace makes tells ok = moves_write content t m targets.Down row left trace makes tells ok
  headed_writes row left said trace makes tells ok = absurd (omega (arith, number_same (number_of said) 0 ok))

  -- behind the head, which is a call that writes no bytes of the body
  sends_write : (row : Then) (left : List Part) (head : List ℕ) → WritesAll content (ask (call.Head head) (λ read. headed row left t m (status_of_sent read))) (parts_bytes content left)
  sends_write row left head [] makes tells ok = absurd ok
  sends_write row left head (a ∷ trace) makes tells ok =
      let none : bytes_of a.call ≡ [] = no_bytes (call.Head head) a.call makes.0 refl in
      let behind : written trace ≡ parts_bytes content left = headed_writes row left (status_of_sent a.reply) trace makes.1 tells.1 ok in
      rw none behind

  pub answer_writes : (request : Request) (response handle streaming : ℕ) (head : Response) → sendable t response handle streaming ≡ Ok head
      → WritesAll content (http_resp_send_downstream request t m response handle streaming) (parts_bytes content (parts_in (held t.bodies handle)))
  answer_writes request response handle streaming head is trace makes tells ok =
      let left : List Part = parts_in (held t.bodies handle) in
      let row : Then = Send response handle (streaming == 1) in
      let goes : Response → Row HttpTables = λ given. ask (call.Head (answer_text request given (told_length streaming left))) (λ read. headed row left t m (status_of_sent read)) in
      let same : http_resp_send_downstream request t m response handle streaming ≡ goes head = ap (λ (x : Result Response Refusal). judged t m x goes) is in
      subst (λ (program : Row HttpTables). WritesAll content program (parts_bytes content left)) (sym same) (sends_write row left (answer_text request head (told_length streaming left))) trace makes tells ok

module _ (t : HttpTables) (m : Linear) where
  abbrev KeptRow : Row HttpTables → Type 0
  KeptRow row = (replies : List OuterReply) → IsKept t m (row replies)

  fails_kept : (response handle : ℕ) (streamed : Bool) (said : Status) → KeptRow (fails_of (Send response handle streamed) t m said)
  fails_kept response handle streamed said [] = tt
  fails_kept response handle streamed said (reply ∷ replies) = λ bad. (refl, refl)

  sent_kept : (response handle : ℕ) (said : Status) → KeptRow (sent t m response handle said)
  sent_kept response handle status.Ok replies = λ bad. absurd (bad refl)
  sent_kept response handle said replies = λ bad. (refl, refl)

  ends_kept : (response handle : ℕ) (streamed : Bool) → KeptRow (ends_of (Send response handle streamed) t m)
  ends_kept response handle true replies = λ bad. absurd (bad refl)
  ends_kept response handle false [] = tt
  ends_kept response handle false (reply ∷ replies) = sent_kept response handle (status_of_sent reply) replies

  headed_kept : (response handle : ℕ) (streamed : Bool) (left : List Part) (said : Status) → KeptRow (headed (Send response handle streamed) left t m said)
  headed_kept response handle streamed left status.Ok replies =
      parts_have (IsKept t m) (λ asked. tt) targets.Down left (fails_of (Send response handle streamed) t m) (ends_of (Send response handle streamed) t m)
      (fails_kept response handle streamed)
      (ends_kept response handle streamed)
      replies
  headed_kept response handle streamed left said replies = λ bad. (refl, refl)

  judged_kept : (x : Result Response Refusal) (next : Response → Row HttpTables) → ((head : Response) → KeptRow (next head)) → KeptRow (judged t m x next)
  judged_kept (Err (refusal.Told said)) next kept replies = λ bad. (refl, refl)
  judged_kept (Err refusal.OutOfMemory) next kept replies = λ bad. (refl, refl)
  judged_kept (Ok head) next kept replies = kept head replies

  asked_kept : (made : OuterCall) (next : OuterReply → Row HttpTables) → ((reply : OuterReply) → KeptRow (next reply)) → KeptRow (ask made next)
  asked_kept made next kept [] = tt
  asked_kept made next kept (reply ∷ replies) = kept reply replies

  pub answer_kept : (request : Request) (response handle streaming : ℕ) → KeptRow (http_resp_send_downstream request t m response handle streaming)
  answer_kept request response handle streaming =
      let left : List Part = parts_in (held t.bodies handle) in
      judged_kept (sendable t response handle streaming)
      (λ (given : Response). ask (call.Head (answer_text request given (told_length streaming left))) (λ read. headed (Send response handle (streaming == 1)) left t m (status_of_sent read)))
      (λ (given : Response).
      asked_kept (call.Head (answer_text request given (told_length streaming left))) (λ read. headed (Send response handle (streaming == 1)) left t m (status_of_sent read))
      (λ read. headed_kept response handle (streaming == 1) left (status_of_sent read)))
