-- The target of a request for a uri (RFC 3986, section 3; RFC 9112, section 3.2.1): what follows the authority, without the
-- fragment.
use Rattle.std.specs.Prelude.{◌==◌, ◌||◌, ℕ, Bool, List, [], ◌∷◌, length, take, drop, codes, position, unwrap_or, Option, None, Some, if◌then◌else◌}
use Rattle.std.specs.List.{starts_with}

-- what follows the first `://`
abbrev pub after_mark : List ℕ → Option (List ℕ)
after_mark [] = None
after_mark (b ∷ bytes) = if starts_with ◌==◌ (b ∷ bytes) (codes "://") then Some (drop 3 (b ∷ bytes)) else after_mark bytes

-- the authority begins there, or at the start
abbrev pub from_authority : List ℕ → List ℕ
from_authority uri = unwrap_or (after_mark uri) uri

-- `/`, `?` and `#` end an authority
abbrev pub ends_authority : ℕ → Bool
ends_authority b = b == 47 || (b == 63 || b == 35)

abbrev pub is_hash : ℕ → Bool
is_hash b = b == 35

-- where the first such byte stands, or the end
abbrev pub place_of : (ℕ → Bool) → List ℕ → ℕ
place_of test bytes = unwrap_or (position test bytes) (length bytes)

abbrev pub after_authority : List ℕ → List ℕ
after_authority bytes = drop (place_of ends_authority bytes) bytes

abbrev pub before_fragment : List ℕ → List ℕ
before_fragment bytes = take (place_of is_hash bytes) bytes

-- `/` where there is nothing
abbrev pub or_root : List ℕ → List ℕ
or_root [] = codes "/"
or_root (b ∷ bytes) = b ∷ bytes

abbrev pub target_of : List ℕ → List ℕ
target_of uri = or_root (before_fragment (after_authority (from_authority uri)))
