-- What is known of the objects by their numbers, and what changes of one.
use Rattle.std.specs.Prelude.{ℕ, Bool, true, false, ◌++◌, ◌==◌, List, [], Option, option_map, if◌then◌else◌}
use Rattle.std.specs.List.{list_any}
use Rattle.std.specs.BTreeMap.{BTreeMap, get}
use Rattle.std.specs.Ordering.{nat_cmp}
use Rattle.cache_objects.specs.declared.standing.Standing.{Standing}

-- what is known of each object
abbrev pub ObjectMap : Type 0
ObjectMap = BTreeMap ℕ Standing

-- of the object of this number, where one is known
abbrev pub standing_at : ObjectMap → ℕ → Option Standing
standing_at objects object = get nat_cmp objects object

-- an object that was just made
abbrev pub fresh : ℕ → ℕ → Option ℕ → Standing
fresh number guest declared = record {
  guest = guest;
  declared = declared;
  renewed = number;
  softened = false;
  purged = false;
  finished = false;
  abandoned = false;
  body = [];
}

-- softly or for good
abbrev pub purged : Bool → Standing → Standing
purged soft x = if soft then record x { softened = true } else record x { purged = true }

-- an object that isn't finished when its guest ends
abbrev pub left : Standing → Standing
left x = if x.finished then x else record x { abandoned = true }

-- it is whole
abbrev pub finished : Standing → Standing
finished x = record x { finished = true }

-- it never becomes whole
abbrev pub abandoned : Standing → Standing
abandoned x = record x { abandoned = true }

-- its terms stand in this entry from now on
abbrev pub renewed : ℕ → Standing → Standing
renewed number x = record x { renewed = number; softened = false }

-- these bytes are written behind the others
abbrev pub extended : List ℕ → Standing → Standing
extended bytes x = record x { body = x.body ++ bytes }

-- where one of these names it, the change
abbrev pub changed_at : (Standing → Standing) → List ℕ → ℕ → Option Standing → Option Standing
changed_at change named object x = if list_any (λ n. n == object) named then option_map change x else x
