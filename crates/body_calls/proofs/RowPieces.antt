-- The same of rows that write parts on: appends, and answers behind their heads.
use Rattle.std.proofs.Common.{◌≡◌, ◌∙◌, ℕ, true, false, List, [], ◌∷◌, refl, sym, ap, subst, arith, append-nil}
use Rattle.std.specs.Prelude.{Some, Result, Ok}
use Rattle.cache_types.specs.declared.outer.OuterCall.{OuterCall}
use Rattle.cache_types.specs.declared.outer.OuterCall.TheVariants as call
use Rattle.wasm_memory.specs.Linear.{Linear}
use Rattle.edge_abi.specs.declared.status.Status.{Status}
use Rattle.edge_abi.specs.declared.status.Status.TheVariants as status
use Rattle.edge_abi.specs.declared.status.Refusal.{Refusal}
use Rattle.edge_abi.specs.Statuses.{number_of}
use Rattle.edge_abi.specs.Tables.{held}
use Rattle.edge_abi.specs.Told.{Number, Row, judged}
use Rattle.edge_body.specs.declared.body.Part.{Part}
use Rattle.edge_http_calls.specs.declared.tables.BodyState.{BodyState}
use Rattle.edge_http_calls.specs.declared.tables.HttpTables.{HttpTables}
use Rattle.edge_http_calls.specs.declared.tables.To.{To}
use Rattle.edge_http_calls.specs.Moves.{write_parts}
use Rattle.edge_http_calls.specs.Bodies.{appendable, appends, appended, fails, http_body_append, parts_in, status_of_sent, target_of}
use Rattle.body_calls.specs.declared.under_way.Then.{Then}
use Rattle.body_calls.specs.declared.under_way.Then.TheVariants.{Append, Send}
use Rattle.body_calls.specs.Pieces.{parts_bytes}
use Rattle.body_calls.specs.UnderWays.{fails_of, ends_of, moves, sent}
use Rattle.body_calls.proofs.RowSteps.{append_moves}
use Rattle.body_calls.proofs.PieceLaws.{wants, no_bytes, WritesAll, FailsUnlessOk, parts_write}

pub number_same : (a b : ℕ) → Number a ≡ Number b → a ≡ b
number_same a b e = cc

module _ (t : HttpTables) (m : Linear) where
  pub fails_answer : FailsUnlessOk (fails t m)
  fails_answer status.Ok other replies ok = other refl
  fails_answer said other replies ok = absurd (omega (arith, number_same (number_of said) 0 ok))

  pub part_fails : (then : Then) → FailsUnlessOk (fails_of then t m)
  part_fails (Append second) said other replies ok = fails_answer said other replies ok
  part_fails (Send response handle streamed) said other [] ok = ok
  part_fails (Send response handle streamed) said other (reply ∷ replies) ok = absurd (omega (arith, number_same 1 0 ok))

  sent_ends : (response handle : ℕ) (said : Status) (made : OuterCall) → sent t m response handle said [] ≡ wants made → ⊥
  sent_ends response handle status.Ok made e = cc
  sent_ends response handle said made e = cc

module _ (content : ℕ → ℕ → List ℕ) (t : HttpTables) (m : Linear) where
  appended_writes : (second : ℕ) → WritesAll content (appended t m second) []
  appended_writes second [] makes tells ok = refl
  appended_writes second (a ∷ trace) makes tells ok = let bad : appended t m second [] ≡ wants a.call = makes.0 in cc

  ends_write : (then : Then) → WritesAll content (ends_of then t m) []
  ends_write (Append second) trace makes tells ok = appended_writes second trace makes tells ok
  ends_write (Send response handle true) [] makes tells ok = refl
  ends_write (Send response handle true) (a ∷ trace) makes tells ok = let bad : ends_of (Send response handle true) t m [] ≡ wants a.call = makes.0 in cc
  ends_write (Send response handle false) [] makes tells ok = absurd ok
  ends_write (Send response handle false) (a ∷ []) makes tells ok = rw (no_bytes (call.Close true) a.call makes.0 refl) refl
  ends_write (Send response handle false) (a ∷ (b ∷ trace)) makes tells ok = absurd (sent_ends t m response handle (status_of_sent a.reply) b.call makes.1.0)

  pub moves_write : (to : To) (then : Then) (parts : List Part) → WritesAll content (moves to then parts t m) (parts_bytes content parts)
  moves_write to then parts trace makes tells ok =
      parts_write content to (fails_of then t m) (part_fails t m then) parts (ends_of then t m) [] (ends_write then) trace makes tells ok
      ∙ append-nil (parts_bytes content parts)

  pub append_writes : (h second : ℕ) (state : BodyState) (to : To) → appendable t h second ≡ Ok state → target_of state ≡ Some to
      → WritesAll content (http_body_append t m h second) (parts_bytes content (parts_in (held t.bodies second)))
  append_writes h second state to is target trace makes tells ok =
      let parts : List Part = parts_in (held t.bodies second) in
      let same : http_body_append t m h second ≡ write_parts to parts (fails t m) (appended t m second) =
      ap (λ (x : Result BodyState Refusal). judged t m x (appends t m h second)) is ∙ append_moves t m h second state to target in
      let law : WritesAll content (write_parts to parts (fails t m) (appended t m second)) (parts_bytes content parts) =
      λ trace makes tells ok. parts_write content to (fails t m) (fails_answer t m) parts (appended t m second) [] (appended_writes second) trace makes tells ok ∙ append-nil (parts_bytes content parts) in
      subst (λ (program : Row HttpTables). WritesAll content program (parts_bytes content parts)) (sym same) law trace makes tells ok
