-- An address is text.
use Rattle.std.specs.Prelude.{◌≡◌, ℕ, ◌<◌, List, [], ◌∷◌, true, nat_le}
use Rattle.std.specs.List.{All}
use Rattle.std.specs.Str.{IsAscii}
use Rattle.std.proofs.Common.{arith}
use Rattle.std.proofs.lemmas.Bool.{and_parts, leb-true}
use Rattle.std.proofs.lemmas.List.Elements.{All-nil, All-cons}
use Rattle.std.proofs.lemmas.Str.Ascii.{IsAscii-from_all}
use Rattle.cache_types.specs.Limits.{is_from_to}
use Rattle.player.specs.May.{is_address}

below-address : (bytes : List ℕ) → is_address bytes ≡ true → All (λ byte. byte < 128) bytes
below-address [] is = All-nil (λ byte. byte < 128)
below-address (byte ∷ bytes) is =
    let parts = and_parts (is_from_to 33 126 byte) (is_address bytes) is in
    let limits = and_parts (nat_le 33 byte) (nat_le byte 126) parts.0 in
    let below : byte < 128 = omega (arith, leb-true byte 126 limits.1) in
    All-cons (λ b. b < 128) byte bytes below (below-address bytes parts.1)

pub ascii-address : (bytes : List ℕ) → is_address bytes ≡ true → IsAscii bytes
ascii-address bytes is = IsAscii-from_all bytes (below-address bytes is)
