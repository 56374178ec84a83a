-- An address is ASCII, and so a text.
use Rattle.std.proofs.Common.{◌≡◌, ℕ, ◌<◌, true, List, arith}
use Rattle.std.specs.Prelude.{IsUtf8}
use Rattle.std.proofs.lemmas.Grind.{common_steps}
use Rattle.std.proofs.lemmas.List.Elements.{All-weaker}
use Rattle.std.proofs.lemmas.List.Sums.{AllPass-from_list_all}
use Rattle.std.proofs.lemmas.Str.{IsUtf8-from_ascii}
use Rattle.std.proofs.lemmas.Str.Ascii.{IsAscii-from_all}
use Rattle.cache_types.specs.Limits.{is_from_to}
use Rattle.edge_pending.specs.Backends.{is_address}

small : (b : ℕ) → is_from_to 33 126 b ≡ true → b < 128
small b is = grind (arith, common_steps, is)

pub address_text : (address : List ℕ) → is_address address ≡ true → IsUtf8 address
address_text address is =
    IsUtf8-from_ascii address
    (IsAscii-from_all address
    (All-weaker (λ (b : ℕ). is_from_to 33 126 b ≡ true) (λ (b : ℕ). b < 128) small address (AllPass-from_list_all (is_from_to 33 126) address is)))
