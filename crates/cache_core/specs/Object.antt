-- What is known of an object after some entries, in one record.
use Rattle.std.specs.Prelude.{ℕ, Bool, List, Option, None, Some, option_map, option_and_then}
use Rattle.cache_types.specs.declared.entries.Entry.{Entry}
use Rattle.cache_types.specs.Objects.{Insertion, insertion_at, Renewal, last_renewal, is_softened, is_purged, is_finished, is_abandoned, written}

-- what happened to the object since it was made
pub record Fate : Type 0 where
  pub softened : Bool
  pub purged : Bool
  pub finished : Bool
  pub abandoned : Bool
  pub written : List ℕ

pub record Object : Type 0 where
  pub made : Insertion
  pub renewal : Renewal
  pub fate : Fate

abbrev pub fate_of : List Entry → ℕ → Fate
fate_of past object = record {
  softened = is_softened past object;
  purged = is_purged past object;
  finished = is_finished past object;
  abandoned = is_abandoned past object;
  written = written past object;
}

abbrev pub object_by : Option Insertion → Option Renewal → Fate → Option Object
object_by made renewal fate =
    option_and_then (λ (m : Insertion). option_map (λ (r : Renewal). record { made = m; renewal = r; fate = fate }) renewal) made

-- the object, where some insertion made it
abbrev pub object_at : List Entry → ℕ → Option Object
object_at past object = object_by (insertion_at past object) (last_renewal past object) (fate_of past object)

-- the fact holds of what there is
abbrev pub Holds : {X : Type 0} → (X → Type 0) → Option X → Type 0
Holds P None = Unit {0}
Holds P (Some x) = P x

-- the fact holds of each object that there is
abbrev pub Each : (ℕ → Object → Type 0) → List Entry → Type 0
Each P past = (object : ℕ) → Holds (P object) (object_at past object)
