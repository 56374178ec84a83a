-- Reading the replies of a cache on lists.
use Rattle.std.specs.Prelude.{ℕ, List, [], ◌∷◌, codes, Option}
use Rattle.cache_types.specs.declared.replies.Hit.{Hit}
use Rattle.cache_types.specs.declared.replies.Reply.{Reply}
use Rattle.cache_types.specs.declared.replies.Reply.TheVariants as reply
use Rattle.edge_words.specs.Reading.{one, both, whole, number_in, number_from_to, hex_in}
use Rattle.edge_words.specs.Choices.{Row, by_name, alone, made, first_then, if_any, number_or}

-- what the words of a hit say, in their order
abbrev pub HitSaid : Type 0
HitSaid = ℕ × (ℕ × (ℕ × (ℕ × (Option ℕ × List ℕ))))

abbrev pub hit_of : HitSaid → Hit
hit_of said = record {
  object = said.0;
  age = said.1.0;
  max_age = said.1.1.0;
  stale = said.1.1.1.0;
  length = said.1.1.1.1.0;
  metadata = said.1.1.1.1.1;
}

abbrev pub hit_said : List (List ℕ) → Option HitSaid
hit_said =
    whole (both (one number_in) (both (one number_in) (both (one number_in) (both (one number_in) (both (one (number_or (codes "?"))) (one hex_in))))))

abbrev pub hit_in : List (List ℕ) → Option Hit
hit_in = made hit_of hit_said

abbrev pub got_of : ℕ × Option Hit → Reply
got_of said = reply.Got said.0 said.1

abbrev pub got_said : List (List ℕ) → Option (ℕ × Option Hit)
got_said = first_then (one (number_from_to 0 255)) (if_any hit_in)

abbrev pub bytes_said : List (List ℕ) → Option (List ℕ)
bytes_said = whole (one hex_in)

-- each reply by its first word
abbrev pub reply_rows : List (Row Reply)
reply_rows =
    (codes "begun", alone reply.Begun)
    ∷ ((codes "got", made got_of got_said)
    ∷ ((codes "made", alone reply.Made)
    ∷ ((codes "done", alone reply.Done)
    ∷ ((codes "refused", alone reply.Refused)
    ∷ ((codes "short", alone reply.Short)
    ∷ ((codes "toolong", alone reply.TooLong)
    ∷ ((codes "bytes", made reply.Bytes bytes_said)
    ∷ ((codes "ended", alone reply.Ended)
    ∷ ((codes "failed", alone reply.Failed)
    ∷ [])))))))))

abbrev pub reply_in : List (List ℕ) → Option Reply
reply_in = by_name reply_rows
