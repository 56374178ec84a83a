-- What is written of some parts, told by the calls that were made and their replies.
use Rattle.std.specs.Prelude.{◌≡◌, ℕ, List, [], ◌∷◌, ◌++◌}
use Rattle.std.specs.List.{flat_map}
use Rattle.cache_types.specs.declared.calls.CacheCall.TheVariants.{Write, Read}
use Rattle.cache_types.specs.declared.outer.OuterCall.{OuterCall}
use Rattle.cache_types.specs.declared.outer.OuterCall.TheVariants as call
use Rattle.cache_types.specs.declared.outer.OuterReply.{OuterReply}
use Rattle.cache_types.specs.declared.outer.OuterReply.TheVariants as reply
use Rattle.cache_types.specs.declared.replies.Reply.{Reply}
use Rattle.cache_types.specs.declared.replies.Reply.TheVariants as said
use Rattle.edge_abi.specs.Told.{Told, After, Wants, Gives, Number}
use Rattle.edge_body.specs.declared.body.Part.{Part}
use Rattle.edge_body.specs.declared.body.Part.TheVariants.{Own, Rest}
use Rattle.edge_http_calls.specs.Moves.{onward}

-- a call that was made, and its reply
pub record Answered : Type 0 where
  pub call : OuterCall
  pub reply : OuterReply

-- what a program does next is each call in turn, when it is given the replies to those before
abbrev pub Makes : {A : Type 0} → (List OuterReply → Told A) → List Answered → Type 0
Makes program [] = Unit {0}
Makes program (a ∷ trace) = (program [] ≡ Wants a.call) × Makes (λ replies. program (a.reply ∷ replies)) trace

abbrev pub replies_of : List Answered → List OuterReply
replies_of [] = []
replies_of (a ∷ trace) = a.reply ∷ replies_of trace

-- the bytes that a call writes
abbrev pub bytes_of : OuterCall → List ℕ
bytes_of (call.Cache (Write object bytes)) = bytes
bytes_of (call.Piece bytes) = bytes
bytes_of _ = []

-- the pieces that were written, joined
abbrev pub written : List Answered → List ℕ
written trace = flat_map (λ (a : Answered). bytes_of a.call) trace

-- a row is answered ok
abbrev pub IsOk : {T : Type 0} → Told (After T) → Type 0
IsOk (Wants call) = ⊥
IsOk (Gives after left) = after.answer ≡ Number 0

-- What each hit has from a place on. A reply to a Read tells of it: bytes and what stands behind them, or that nothing is
-- there.
module _ (content : ℕ → ℕ → List ℕ) where
  abbrev pub IsTold : ℕ → ℕ → Reply → Type 0
  IsTold hit place (said.Bytes bytes) = content hit place ≡ bytes ++ content hit (onward place bytes)
  IsTold hit place said.Ended = content hit place ≡ []
  IsTold hit place _ = Unit {0}

  abbrev pub TellsRead : OuterCall → OuterReply → Type 0
  TellsRead (call.Cache (Read hit place most)) (reply.Cache stepped) = IsTold hit place stepped.reply
  TellsRead _ _ = Unit {0}

  abbrev pub Tell : List Answered → Type 0
  Tell [] = Unit {0}
  Tell (a ∷ trace) = TellsRead a.call a.reply × Tell trace

  -- the bytes of a part, and of all
  abbrev pub part_bytes : Part → List ℕ
  part_bytes (Own bytes) = bytes
  part_bytes (Rest hit place length) = content hit place

  abbrev pub parts_bytes : List Part → List ℕ
  parts_bytes parts = flat_map part_bytes parts
