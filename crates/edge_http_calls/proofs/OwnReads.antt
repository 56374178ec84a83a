-- A read whose first part with any bytes is an own one makes no outer call.
use Rattle.std.proofs.Common.{◌≡◌, ◌∙◌, ℕ, ◌==◌, Bool, true, false, List, [], ◌∷◌, length, min, refl, sym, ap}
use Rattle.std.specs.Prelude.{Some, Result, Ok}
use Rattle.std.proofs.lemmas.Bool.{ne_eqb}
use Rattle.cache_types.specs.declared.outer.OuterReply.{OuterReply}
use Rattle.wasm_memory.specs.Linear.{Linear}
use Rattle.edge_body.specs.declared.body.Part.{Part}
use Rattle.edge_body.specs.declared.body.Part.TheVariants.{Own, Rest}
use Rattle.edge_http_calls.specs.declared.tables.HttpTables.{HttpTables}
use Rattle.edge_abi.specs.declared.status.Status.TheVariants as status
use Rattle.edge_abi.specs.declared.status.Refusal.{Refusal}
use Rattle.edge_abi.specs.Memory.{put, number_put}
use Rattle.edge_abi.specs.Tables.{held}
use Rattle.edge_abi.specs.Told.{judged, done}
use Rattle.edge_http_calls.specs.declared.tables.BodyState.TheVariants.{Held}
use Rattle.edge_http_calls.specs.Tables.{begins_own, reads_own, with_changed}
use Rattle.edge_http_calls.specs.Moves.{is_empty}
use Rattle.edge_http_calls.specs.Bodies.{readable, reads, read_parts, was_read, left_with, own_bytes, own_left, shortened, http_body_read}

pub own_reads : (t : HttpTables) (m : Linear) (h b most o : ℕ) (parts : List Part) (replies : List OuterReply) → begins_own parts ≡ true
    → read_parts t m h b most o parts replies ≡ was_read t m h b o (own_bytes most parts) (own_left most parts) replies
own_reads t m h b most o [] replies own = refl
own_reads t m h b most o (Rest hit place len ∷ parts) replies own = cc
own_reads t m h b most o (Own bytes ∷ parts) replies own =
    let with : (empty : Bool) → is_empty bytes ≡ empty → read_parts t m h b most o (Own bytes ∷ parts) replies ≡ was_read t m h b o (own_bytes most (Own bytes ∷ parts)) (own_left most (Own bytes ∷ parts)) replies
    = elim [ true ↦ λ e. rw e (own_reads t m h b most o parts replies (rw e at own)) | false ↦ λ e. rw e refl ] in with (is_empty bytes) refl

-- such a read, as a whole
pub read_is : (t : HttpTables) (m : Linear) (h b n o : ℕ) (parts : List Part) → readable t m h b n o ≡ Ok parts → held t.bodies h ≡ Some (Held parts)
    → reads_own (held t.bodies h) ≡ true → (n ≡ 0 → ⊥) → (bytes : List ℕ) → bytes ≡ own_bytes (min n 65536) parts → (replies : List OuterReply)
    → http_body_read t m h b n o replies ≡ done status.Ok (with_changed t h (shortened (min n 65536))) (number_put (put m b bytes) o 4 (length bytes)) replies
read_is t m h b n o parts ok named own some bytes are replies =
    let most : ℕ = min n 65536 in
    let own' : begins_own parts ≡ true = rw (ap reads_own named) at own in
    let judged' : http_body_read t m h b n o replies ≡ reads t m h b n o parts replies = ap (λ (x : Result (List Part) Refusal). judged t m x (reads t m h b n o) replies) ok in
    let not_none : (n == 0) ≡ false = ne_eqb n 0 some in
    let some' : reads t m h b n o parts replies ≡ read_parts t m h b most o parts replies = rw not_none refl in
    let tables : with_changed t h (left_with (own_left most parts)) ≡ with_changed t h (shortened most) = rw named refl in
    judged'
    ∙ (some'
    ∙ (own_reads t m h b most o parts replies own'
    ∙ (ap (λ (new : HttpTables). done status.Ok new (number_put (put m b (own_bytes most parts)) o 4 (length (own_bytes most parts))) replies) tables
    ∙ ap (λ (xs : List ℕ). done status.Ok (with_changed t h (shortened most)) (number_put (put m b xs) o 4 (length xs)) replies) (sym are))))
