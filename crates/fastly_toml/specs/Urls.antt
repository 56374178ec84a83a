-- The url of a backend: `http://` or `https://`, a host, a port if it is told, a path if there is one.
use Rattle.std.specs.Prelude.{ℕ, Bool, true, false, not, ◌+◌, ◌==◌, ◌&&◌, ◌||◌, nat_lt, nat_le, List, [], ◌∷◌, ◌++◌, length, take, drop, codes, position, unwrap_or, Option, None, Some, option_map, option_and_then, if◌then◌else◌}
use Rattle.std.specs.Option.{option_map_or}
use Rattle.std.specs.List.{list_all, list_any, starts_with}
use Rattle.edge_words.specs.Reading.{number_in}
use Rattle.fastly_toml.specs.declared.settings.Backend.{Backend}

-- where the first such byte stands, or the end
abbrev pub place_of : ℕ → List ℕ → ℕ
place_of byte bytes = unwrap_or (position (λ b. b == byte) bytes) (length bytes)

-- a byte that is shown, and no blank
abbrev pub is_shown : ℕ → Bool
is_shown b = nat_lt 32 b && nat_lt b 127

-- a byte of a host
abbrev pub is_host_byte : ℕ → Bool
is_host_byte b = is_shown b && not (list_any (λ c. c == b) (codes "/:?#@[]"))

-- a byte of a host between brackets
abbrev pub is_inner_byte : ℕ → Bool
is_inner_byte b = b == 58 || is_host_byte b

-- it isn't empty, and each of its bytes is such a byte
abbrev pub is_made_of : (ℕ → Bool) → List ℕ → Bool
is_made_of test bytes = nat_lt 0 (length bytes) && list_all test bytes

-- what stands behind a plain host: its end is the first `:`
abbrev pub after_plain : List ℕ → Option (List ℕ)
after_plain bytes = if is_made_of is_host_byte (take (place_of 58 bytes) bytes) then Some (drop (place_of 58 bytes) bytes) else None

-- what stands behind the rest of a host in brackets: its end is the first `]`
abbrev pub after_inner : List ℕ → Option (List ℕ)
after_inner bytes = if nat_lt (place_of 93 bytes) (length bytes) && is_made_of is_inner_byte (take (place_of 93 bytes) bytes)
    then Some (drop (place_of 93 bytes + 1) bytes) else None

-- what stands behind the host
abbrev pub after_host : List ℕ → Option (List ℕ)
after_host [] = None
after_host (b ∷ bytes) = if b == 91 then after_inner bytes else after_plain (b ∷ bytes)

-- a number of a port: 1 to 65535, with no leading zero
abbrev pub is_port : List ℕ → Bool
is_port digits = option_map_or (λ n. nat_lt 0 n && nat_le n 65535) (number_in digits) false

-- host and port, of which the port is 80 where none is told
abbrev pub told_or_80 : List ℕ → Bool → List ℕ
told_or_80 authority true = authority
told_or_80 authority false = authority ++ codes ":80"

-- the same, by what stands behind the host
abbrev pub with_port : List ℕ → List ℕ → Option (List ℕ)
with_port authority [] = Some (told_or_80 authority false)
with_port authority (b ∷ digits) = if b == 58 && is_port digits then Some (told_or_80 authority true) else None

abbrev pub address_of : List ℕ → Option (List ℕ)
address_of authority = option_and_then (with_port authority) (after_host authority)

-- what follows the scheme: the authority ends before the first `/`, where the path begins
abbrev pub located : Bool → List ℕ → Option Backend
located https rest =
    if list_all is_shown (drop (place_of 47 rest) rest)
    then option_map (λ address. record { address = address; https = https }) (address_of (take (place_of 47 rest) rest)) else None

abbrev pub backend_of : List ℕ → Option Backend
backend_of url =
    if starts_with ◌==◌ url (codes "http://") then located false (drop 7 url) else
    if starts_with ◌==◌ url (codes "https://") then located true (drop 8 url) else None
