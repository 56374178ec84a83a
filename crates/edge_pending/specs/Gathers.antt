-- A body that is read whole: its own bytes, and what each hit has from its place on. The replies say how far it has come.
use Rattle.std.specs.Prelude.{ℕ, List, [], ◌∷◌, ◌++◌}
use Rattle.cache_types.specs.declared.outer.OuterReply.{OuterReply}
use Rattle.edge_abi.specs.Told.{Told, Wants}
use Rattle.edge_body.specs.declared.body.Part.{Part}
use Rattle.edge_body.specs.declared.body.Part.TheVariants.{Own, Rest}
use Rattle.edge_http_calls.specs.Moves.{read_at, heard, onward}
use Rattle.edge_pending.specs.declared.gathering.Front.{Front}
use Rattle.edge_pending.specs.declared.gathering.Heard.{Heard}
use Rattle.edge_pending.specs.declared.gathering.Heard.TheVariants.{Bytes, Ended, Failed}
use Rattle.edge_pending.specs.declared.gathering.Front.TheVariants.{Hit, Whole}

module _ {A : Type 0} where
  -- a hit from a place until it ends; its bytes come behind those that are had
  abbrev pub read_hit : ℕ → ℕ → List ℕ → (List OuterReply → Told A) → (List ℕ → List OuterReply → Told A) → List OuterReply → Told A
  read_hit hit place had fails ends [] = Wants (read_at hit place 65536)
  read_hit hit place had fails ends (read ∷ replies) =
      heard 65536 read (λ bytes. read_hit hit (onward place bytes) (had ++ bytes) fails ends replies) (ends had replies) (fails replies)

  -- all parts, one after the other
  abbrev pub gathered : List ℕ → List Part → (List OuterReply → Told A) → (List ℕ → List OuterReply → Told A) → List OuterReply → Told A
  gathered had [] fails ends replies = ends had replies
  gathered had (Own bytes ∷ parts) fails ends replies = gathered (had ++ bytes) parts fails ends replies
  gathered had (Rest hit place length ∷ parts) fails ends replies = read_hit hit place had fails (λ now. gathered now parts fails ends) replies

  -- the same from the reply to a Read of a hit on
  abbrev pub read_on : ℕ → ℕ → List ℕ → List Part → (List OuterReply → Told A) → (List ℕ → List OuterReply → Told A) → OuterReply → List OuterReply → Told A
  read_on hit place had left fails ends read replies =
      heard 65536 read
      (λ bytes. read_hit hit (onward place bytes) (had ++ bytes) fails (λ now. gathered now left fails ends) replies)
      (gathered had left fails ends replies)
      (fails replies)

  -- the same from what the Read was answered on
  abbrev pub read_by : ℕ → ℕ → List ℕ → List Part → (List OuterReply → Told A) → (List ℕ → List OuterReply → Told A) → Heard → List OuterReply → Told A
  read_by hit place had left fails ends (Bytes bytes) replies = read_hit hit (onward place bytes) (had ++ bytes) fails (λ now. gathered now left fails ends) replies
  read_by hit place had left fails ends Ended replies = gathered had left fails ends replies
  read_by hit place had left fails ends Failed replies = fails replies

  -- what follows what some parts begin with
  abbrev pub going : Front → (List OuterReply → Told A) → (List ℕ → List OuterReply → Told A) → List OuterReply → Told A
  going (Hit had hit place left) fails ends replies = read_hit hit place had fails (λ now. gathered now left fails ends) replies
  going (Whole had) fails ends replies = ends had replies

-- the own bytes before the first hit, and the hit; or all, where there is none
abbrev pub front_of : List ℕ → List Part → Front
front_of had [] = Whole had
front_of had (Own bytes ∷ parts) = front_of (had ++ bytes) parts
front_of had (Rest hit place length ∷ parts) = Hit had hit place parts
