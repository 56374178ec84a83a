-- What texts of a guest may stand in heads.
use Rattle.std.specs.Prelude.{ℕ, ◌-◌, Bool, false, not, ◌==◌, ◌&&◌, ◌||◌, nat_le, nat_eq, List, [], ◌∷◌, ◌++◌, length, map, drop, slice_index, codes, Option, None, Some, if◌then◌else◌}
use Rattle.std.specs.List.{list_all, starts_with}
use Rattle.std.specs.Char.{to_ascii_lowercase}
use Rattle.cache_types.specs.Limits.{is_from_to, is_name}
use Rattle.edge_body.specs.Heads.{is_value_byte}

-- in lower case
abbrev pub lowered : List ℕ → List ℕ
lowered text = map to_ascii_lowercase text

-- a token of at most 64 bytes (RFC 9110, section 5.6.2)
abbrev pub is_token : List ℕ → Bool
is_token text = is_name (lowered text)

-- a byte of a header's value: neither NUL, CR, LF nor one over 7E
abbrev pub is_text_byte : ℕ → Bool
is_text_byte byte = is_value_byte byte && nat_le byte 126

abbrev pub is_text : List ℕ → Bool
is_text value = list_all is_text_byte value

-- what stands behind `http://` or `https://`
abbrev pub behind_scheme : List ℕ → Option (List ℕ)
behind_scheme uri =
    if starts_with nat_eq uri (codes "http://") then Some (drop 7 uri)
    else (if starts_with nat_eq uri (codes "https://") then Some (drop 8 uri) else None)

-- it begins with at least one byte of an authority, which a slash, a question mark or a hash ends (RFC 3986, section 3.2)
abbrev pub has_authority : Option (List ℕ) → Bool
has_authority None = false
has_authority (Some []) = false
has_authority (Some (byte ∷ rest)) = not (byte == 47 || (byte == 63 || byte == 35))

-- a byte that prints, and no space
abbrev pub is_printing : ℕ → Bool
is_printing byte = is_from_to 33 126 byte

-- a uri that a request may be given
abbrev pub is_request_uri : List ℕ → Bool
is_request_uri uri = nat_le (length uri) 8192 && (list_all is_printing uri && has_authority (behind_scheme uri))

-- the text is empty or its last byte is NUL
abbrev pub is_ended : List ℕ → Bool
is_ended text = length text == 0 || slice_index text (length text - 1) == 0

-- the values of a text in which each is ended by NUL; these bytes were read of the one that stands first
abbrev pub values_behind : List ℕ → List ℕ → List (List ℕ)
values_behind part [] = []
values_behind part (byte ∷ text) = if byte == 0 then part ∷ values_behind [] text else values_behind (part ++ byte ∷ []) text

abbrev pub values_in : List ℕ → List (List ℕ)
values_in text = values_behind [] text
