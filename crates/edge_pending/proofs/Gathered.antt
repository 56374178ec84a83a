-- A body that is read whole, told by what its parts begin with and by what a Read said.
use Rattle.std.proofs.Common.{◌≡◌, ◌∙◌, ℕ, Bool, true, false, List, [], ◌∷◌, ◌++◌, length, refl, sym, ap}
use Rattle.std.specs.Prelude.{nat_le, if◌then◌else◌}
use Rattle.cache_types.specs.declared.outer.OuterReply.{OuterReply}
use Rattle.cache_types.specs.declared.outer.OuterReply.TheVariants as reply
use Rattle.cache_types.specs.declared.replies.Reply.{Reply}
use Rattle.cache_types.specs.declared.replies.Reply.TheVariants as said
use Rattle.edge_abi.specs.Told.{Told}
use Rattle.edge_body.specs.declared.body.Part.{Part}
use Rattle.edge_body.specs.declared.body.Part.TheVariants.{Own, Rest}
use Rattle.edge_http_calls.specs.Moves.{heard, read_in, onward}
use Rattle.edge_pending.specs.Gathers.{read_hit, gathered, read_on, read_by, going, front_of}
use Rattle.edge_pending.specs.declared.gathering.Heard.{Heard}
use Rattle.edge_pending.specs.declared.gathering.Heard.TheVariants.{Bytes, Ended, Failed}

module _ {A : Type 0} (fails : List OuterReply → Told A) (ends : List ℕ → List OuterReply → Told A) where
  pub goes_front : (had : List ℕ) (parts : List Part) (replies : List OuterReply) → gathered had parts fails ends replies ≡ going (front_of had parts) fails ends replies
  goes_front had [] replies = refl
  goes_front had (Own bytes ∷ parts) replies = goes_front (had ++ bytes) parts replies
  goes_front had (Rest hit place length ∷ parts) replies = refl

-- what follows what was heard
abbrev pub apart : {A : Type 0} → Heard → (List ℕ → A) → A → A → A
apart (Bytes bytes) goes ended failed = goes bytes
apart Ended goes ended failed = ended
apart Failed goes ended failed = failed

if_apart : {A : Type 0} (b : Bool) (bytes : List ℕ) (goes : List ℕ → A) (ended failed : A)
    → (if b then goes bytes else failed) ≡ apart (if b then Bytes bytes else Failed) goes ended failed
if_apart true bytes goes ended failed = refl
if_apart false bytes goes ended failed = refl

read_apart : {A : Type 0} (most : ℕ) (told : Reply) (goes : List ℕ → A) (ended failed : A) → read_in most told goes ended failed ≡ apart (read_in most told Bytes Ended Failed) goes ended failed
read_apart most (said.Bytes bytes) goes ended failed = if_apart (nat_le (length bytes) most) bytes goes ended failed
read_apart most said.Ended goes ended failed = refl
read_apart most _ goes ended failed = refl

pub heard_apart : {A : Type 0} (most : ℕ) (read : OuterReply) (goes : List ℕ → A) (ended failed : A) → heard most read goes ended failed ≡ apart (heard most read Bytes Ended Failed) goes ended failed
heard_apart most (reply.Cache stepped) goes ended failed = read_apart most stepped.reply goes ended failed
heard_apart most _ goes ended failed = refl

-- how a body goes on behind what was heard
module _ {A : Type 0} (hit place : ℕ) (had : List ℕ) (left : List Part) (fails : List OuterReply → Told A) (ends : List ℕ → List OuterReply → Told A) where
  by_apart : (told : Heard) (replies : List OuterReply)
      → apart told (λ bytes. read_hit hit (onward place bytes) (had ++ bytes) fails (λ now. gathered now left fails ends) replies) (gathered had left fails ends replies) (fails replies)
      ≡ read_by hit place had left fails ends told replies
  by_apart (Bytes bytes) replies = refl
  by_apart Ended replies = refl
  by_apart Failed replies = refl

  pub read_is : (read : OuterReply) (told : Heard) → told ≡ heard 65536 read Bytes Ended Failed → (replies : List OuterReply)
      → read_on hit place had left fails ends read replies ≡ read_by hit place had left fails ends told replies
  read_is read told is replies =
      heard_apart 65536 read (λ bytes. read_hit hit (onward place bytes) (had ++ bytes) fails (λ now. gathered now left fails ends) replies) (gathered had left fails ends replies) (fails replies)
      ∙ (ap (λ (x : Heard). apart x (λ bytes. read_hit hit (onward place bytes) (had ++ bytes) fails (λ now. gathered now left fails ends) replies) (gathered had left fails ends replies) (fails replies)) (sym is)
      ∙ by_apart told replies)
