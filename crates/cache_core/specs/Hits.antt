-- What a lookup tells of an object, by what is held of it and its terms.
use Rattle.std.specs.Prelude.{ℕ, ◌+◌, Bool, true, false, List, length, Option, None, Some, if◌then◌else◌}
use Rattle.cache_types.specs.declared.replies.Reply.{Reply}
use Rattle.cache_types.specs.declared.replies.Reply.TheVariants.{Got, NotYet}
use Rattle.cache_types.specs.Answer.{insert_bit}
use Rattle.cache_types.specs.Found.{age_at, bits_for, is_fresh, is_usable}
use Rattle.cache_types.specs.Objects.{Renewal}
use Rattle.cache_objects.specs.declared.standing.Standing.{Standing}
use Rattle.cache_core.specs.Knows.{standing_of}
use Rattle.cache_core.specs.Object.{Object}

-- the declared length, else the bytes written where the object is finished, else unknown
abbrev pub length_held : Option ℕ → Bool → List ℕ → Option ℕ
length_held (Some declared) finished written = Some declared
length_held None finished written = if finished then Some (length written) else None

abbrev pub got_from : Bool → ℕ → ℕ → Standing → Renewal → Reply
got_from told moment object s renewal = Got (bits_for renewal.terms (age_at renewal moment) s.softened + insert_bit told) (Some (record {
  object = object;
  age = age_at renewal moment;
  max_age = renewal.terms.max_age;
  stale = renewal.terms.stale;
  length = length_held s.declared s.finished s.body;
  metadata = renewal.terms.metadata;
}))

abbrev pub got_by : Bool → ℕ → ℕ → Object → Reply
got_by told moment object x = got_from told moment object (standing_of 0 x) x.renewal

-- what a transactional lookup tells of an object: what is fresh is told; else it counts whether the goal is held
abbrev pub tx_from : Bool → ℕ → ℕ → Standing → Renewal → Reply
tx_from held moment object s renewal =
    if is_fresh renewal.terms (age_at renewal moment) s.softened then got_from false moment object s renewal
    else (if held then (if is_usable renewal.terms (age_at renewal moment) then got_from false moment object s renewal else NotYet) else got_from true moment object s renewal)

abbrev pub tx_by : Bool → ℕ → ℕ → Object → Reply
tx_by held moment object x = tx_from held moment object (standing_of 0 x) x.renewal

-- and what it tells where it finds none
abbrev pub tx_none : Bool → Reply
tx_none held = if held then NotYet else Got 8 None
