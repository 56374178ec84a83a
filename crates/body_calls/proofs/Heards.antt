-- What a row does with the reply to a Read is what it does with what that says.
use Rattle.std.proofs.Common.{◌≡◌, ◌∙◌, ℕ, Bool, true, false, List, length, refl, sym, ap}
use Rattle.std.specs.Prelude.{nat_le, Option, if◌then◌else◌}
use Rattle.cache_types.specs.declared.outer.OuterReply.{OuterReply}
use Rattle.cache_types.specs.declared.outer.OuterReply.TheVariants as reply
use Rattle.cache_types.specs.declared.replies.Reply.{Reply}
use Rattle.cache_types.specs.declared.replies.Reply.TheVariants as said
use Rattle.wasm_memory.specs.Linear.{Linear}
use Rattle.edge_abi.specs.declared.status.Status.TheVariants as status
use Rattle.edge_abi.specs.Told.{Told, After, Row, done}
use Rattle.edge_body.specs.declared.body.Part.{Part}
use Rattle.edge_http_calls.specs.declared.tables.HttpTables.{HttpTables}
use Rattle.edge_http_calls.specs.declared.tables.To.{To}
use Rattle.edge_http_calls.specs.Bodies.{read_parts}
use Rattle.edge_http_calls.specs.Moves.{heard, read_in}
use Rattle.body_calls.specs.declared.replies.Heard.{Heard}
use Rattle.body_calls.specs.declared.replies.Heard.TheVariants.{Bytes, Ended, Failed}
use Rattle.body_calls.specs.declared.under_way.Then.{Then}
use Rattle.body_calls.specs.UnderWays.{fails_of, moves, written_bytes, fetched_bytes, read_on, fetched}
use Rattle.body_calls.specs.Heards.{written_on, fetched_on}

-- what follows what was heard
abbrev apart : {A : Type 0} → Heard → (List ℕ → A) → A → A → A
apart (Bytes bytes) goes ended failed = goes bytes
apart Ended goes ended failed = ended
apart Failed goes ended failed = failed

if_apart : {A : Type 0} (b : Bool) (bytes : List ℕ) (goes : List ℕ → A) (ended failed : A)
    → (if b then goes bytes else failed) ≡ apart (if b then Bytes bytes else Failed) goes ended failed
if_apart true bytes goes ended failed = refl
if_apart false bytes goes ended failed = refl

read_apart : {A : Type 0} (most : ℕ) (told : Reply) (goes : List ℕ → A) (ended failed : A) → read_in most told goes ended failed ≡ apart (read_in most told Bytes Ended Failed) goes ended failed
read_apart most (said.Bytes bytes) goes ended failed = if_apart (nat_le (length bytes) most) bytes goes ended failed
read_apart most said.Ended goes ended failed = refl
read_apart most _ goes ended failed = refl

heard_apart : {A : Type 0} (most : ℕ) (read : OuterReply) (goes : List ℕ → A) (ended failed : A) → heard most read goes ended failed ≡ apart (heard most read Bytes Ended Failed) goes ended failed
heard_apart most (reply.Cache stepped) goes ended failed = read_apart most stepped.reply goes ended failed
heard_apart most _ goes ended failed = refl

module _ (to : To) (row : Then) (hit place : ℕ) (left : List Part) (t : HttpTables) (m : Linear) where
  written_apart : (told : Heard) (replies : List OuterReply)
      → apart told (λ bytes. written_bytes to row hit place left t m bytes replies) (moves to row left t m replies) (fails_of row t m status.Error replies)
      ≡ written_on to row hit place left t m told replies
  written_apart (Bytes bytes) replies = refl
  written_apart Ended replies = refl
  written_apart Failed replies = refl

  pub written_is : (read : OuterReply) (told : Heard) → told ≡ heard 65536 read Bytes Ended Failed → (replies : List OuterReply)
      → read_on to row hit place left t m read replies ≡ written_on to row hit place left t m told replies
  written_is read told is replies =
      let bytes_on : List ℕ → Told (After HttpTables) = λ bytes. written_bytes to row hit place left t m bytes replies in
      heard_apart 65536 read bytes_on (moves to row left t m replies) (fails_of row t m status.Error replies)
      ∙ (ap (λ (x : Heard). apart x bytes_on (moves to row left t m replies) (fails_of row t m status.Error replies)) (sym is)
      ∙ written_apart told replies)

module _ (t : HttpTables) (m : Linear) (h b most o hit place : ℕ) (len : Option ℕ) (left : List Part) where
  fetched_apart : (told : Heard) → apart told (fetched_bytes t m h b o hit place len left) (read_parts t m h b most o left) (done status.Error t m) ≡ fetched_on t m h b most o hit place len left told
  fetched_apart (Bytes bytes) = refl
  fetched_apart Ended = refl
  fetched_apart Failed = refl

  pub fetched_is : (read : OuterReply) (told : Heard) → told ≡ heard most read Bytes Ended Failed → (replies : List OuterReply)
      → fetched t m h b most o hit place len left read replies ≡ fetched_on t m h b most o hit place len left told replies
  fetched_is read told is replies =
      let goes : List ℕ → Row HttpTables = fetched_bytes t m h b o hit place len left in
      ap (λ (x : Row HttpTables). x replies)
      (heard_apart most read goes (read_parts t m h b most o left) (done status.Error t m)
      ∙ (ap (λ (x : Heard). apart x goes (read_parts t m h b most o left) (done status.Error t m)) (sym is)
      ∙ fetched_apart told))
