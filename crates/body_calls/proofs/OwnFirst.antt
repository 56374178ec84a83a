-- A body whose first part has bytes of its own begins with own bytes.
use Rattle.std.proofs.Common.{◌≡◌, ℕ, ◌==◌, true, false, List, [], ◌∷◌, length, refl}
use Rattle.std.specs.Prelude.{Some, slice_get}
use Rattle.edge_body.specs.declared.body.Part.{Part}
use Rattle.edge_body.specs.declared.body.Part.TheVariants.{Own, Rest}
use Rattle.edge_http_calls.specs.Tables.{begins_own}

pub own_first : (parts : List Part) (bytes : List ℕ) → slice_get parts 0 ≡ Some (Own bytes) → (length bytes == 0) ≡ false → begins_own parts ≡ true
own_first [] bytes first some = cc
own_first (Own own ∷ parts) bytes first some = let same : own ≡ bytes = cc in rw (same, some) refl
own_first (Rest hit place len ∷ parts) bytes first some = cc
