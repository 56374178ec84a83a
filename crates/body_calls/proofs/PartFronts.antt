-- What is read of some parts, or written on, is what they begin with, and then what is left.
use Rattle.std.proofs.Common.{◌≡◌, ℕ, Bool, true, false, List, [], ◌∷◌, refl}
use Rattle.cache_types.specs.declared.outer.OuterReply.{OuterReply}
use Rattle.wasm_memory.specs.Linear.{Linear}
use Rattle.edge_body.specs.declared.body.Part.{Part}
use Rattle.edge_body.specs.declared.body.Part.TheVariants.{Own, Rest}
use Rattle.edge_http_calls.specs.declared.tables.To.{To}
use Rattle.edge_http_calls.specs.declared.tables.HttpTables.{HttpTables}
use Rattle.edge_http_calls.specs.Moves.{is_empty}
use Rattle.edge_http_calls.specs.Bodies.{read_parts}
use Rattle.body_calls.specs.declared.under_way.Then.{Then}
use Rattle.body_calls.specs.UnderWays.{moves}
use Rattle.body_calls.specs.Fronts.{front_of, own_first, reading, going}

module _ (to : To) (row : Then) (t : HttpTables) (m : Linear) where
  pub goes_on : (parts : List Part) (replies : List OuterReply) → moves to row parts t m replies ≡ going to row (front_of 65536 parts) t m replies
  goes_on [] replies = refl
  goes_on (Rest hit place len ∷ parts) [] = refl
  goes_on (Rest hit place len ∷ parts) (read ∷ []) = refl
  goes_on (Rest hit place len ∷ parts) (read ∷ (wrote ∷ replies)) = refl
  goes_on (Own bytes ∷ parts) [] =
      let with : (b : Bool) → is_empty bytes ≡ b → moves to row (Own bytes ∷ parts) t m [] ≡ going to row (own_first 65536 bytes parts (front_of 65536 parts)) t m []
      = elim [ true ↦ λ e. rw e (goes_on parts []) | false ↦ λ e. rw e refl ] in with (is_empty bytes) refl
  goes_on (Own bytes ∷ parts) (reply ∷ replies) =
      let with : (b : Bool) → is_empty bytes ≡ b → moves to row (Own bytes ∷ parts) t m (reply ∷ replies) ≡ going to row (own_first 65536 bytes parts (front_of 65536 parts)) t m (reply ∷ replies)
      = elim [ true ↦ λ e. rw e (goes_on parts (reply ∷ replies)) | false ↦ λ e. rw e refl ] in with (is_empty bytes) refl

module _ (t : HttpTables) (m : Linear) (h b most o : ℕ) where
  pub reads_on : (parts : List Part) (replies : List OuterReply) → read_parts t m h b most o parts replies ≡ reading t m h b most o (front_of most parts) replies
  reads_on [] replies = refl
  reads_on (Rest hit place len ∷ parts) [] = refl
  reads_on (Rest hit place len ∷ parts) (read ∷ replies) = refl
  reads_on (Own bytes ∷ parts) replies =
      let with : (empty : Bool) → is_empty bytes ≡ empty → read_parts t m h b most o (Own bytes ∷ parts) replies ≡ reading t m h b most o (own_first most bytes parts (front_of most parts)) replies
      = elim [ true ↦ λ e. rw e (reads_on parts replies) | false ↦ λ e. rw e refl ] in with (is_empty bytes) refl
