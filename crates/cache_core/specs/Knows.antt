-- What the parts know of the entries.
use Rattle.std.specs.Prelude.{◌≡◌, ℕ, Bool, true, false, ◌==◌, List, [], ◌∷◌, Option, Some, is_some, unwrap_or, if◌then◌else◌}
use Rattle.std.specs.Option.{option_map_or}
use Rattle.std.specs.List.{list_any}
use Rattle.cache_types.specs.declared.entries.Entry.{Entry}
use Rattle.cache_types.specs.Entries.{is_live}
use Rattle.cache_types.specs.Objects.{insertions, renews, has_key}
use Rattle.cache_index.specs.Stands.{Stands}
use Rattle.cache_objects.specs.declared.standing.Standing.{Standing}
use Rattle.cache_objects.specs.Standings.{ObjectMap, standing_at}
use Rattle.cache_objects.specs.Guests.{list_at}
use Rattle.cache_purge.specs.Keys.{KeyMap, named_at}
use Rattle.cache_core.specs.declared.parts.Parts.{Parts}
use Rattle.cache_core.specs.Object.{Object, object_at, Each}

-- the number of the entry that renewed the object last
abbrev pub renewer : List Entry → ℕ → ℕ
renewer [] object = 0
renewer (e ∷ past) object = if renews past object e then e.number else renewer past object

-- what is held of an object that this entry renewed last
abbrev pub standing_of : ℕ → Object → Standing
standing_of number x = record {
  guest = x.made.guest;
  declared = x.made.writing.length;
  renewed = number;
  softened = x.fate.softened;
  purged = x.fate.purged;
  finished = x.fate.finished;
  abandoned = x.fate.abandoned;
  body = x.fate.written;
}

abbrev pub IsHeld : ObjectMap → List Entry → ℕ → Object → Type 0
IsHeld objects past object x = standing_at objects object ≡ Some (standing_of (renewer past object) x)

abbrev pub is_named : ℕ → List ℕ → Bool
is_named object named = list_any (λ n. n == object) named

-- the object is there, and is the guest's
abbrev pub is_guests : ℕ → Option Object → Bool
is_guests guest x = option_map_or (λ (x : Object). x.made.guest == guest) x false

-- the list names the objects of the guest and no others
abbrev pub AreMadeBy : List ℕ → List Entry → ℕ → Type 0
AreMadeBy named past guest = (object : ℕ) → is_named object named ≡ is_guests guest (object_at past object)

-- an object whose terms have the key is among those that the key's list names
abbrev pub IsNamed : KeyMap → List ℕ → ℕ → Object → Type 0
IsNamed keys key object x = has_key x.renewal.terms.surrogates key ≡ true → is_named object (named_at keys key) ≡ true

-- the parts know these entries
pub record Knows (parts : Parts) (past : List Entry) : Type 0 where
  pub told : Stands parts.index (insertions past)
  pub held : Each (IsHeld parts.objects past) past
  pub live : (guest : ℕ) → is_some (list_at parts.guests guest) ≡ is_live past guest
  pub owned : (guest : ℕ) → is_live past guest ≡ true → AreMadeBy (unwrap_or (list_at parts.guests guest) []) past guest
  pub named : (key : List ℕ) → Each (IsNamed parts.bearers key) past
