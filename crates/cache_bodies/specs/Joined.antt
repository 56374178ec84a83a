-- A body in pieces.
use Rattle.std.specs.Prelude.{◌≡◌, ◌+◌, ℕ, List, [], ◌∷◌, ◌++◌, length}
use Rattle.cache_bodies.specs.declared.piece.Piece.{Piece}

-- the bytes of the pieces, joined
abbrev pub joined : List Piece → List ℕ
joined [] = []
joined (piece ∷ pieces) = piece.octets ++ joined pieces

-- each piece tells how many bytes stand before it, the first one so many
abbrev pub Runs : ℕ → List Piece → Type 0
Runs place [] = Unit {0}
Runs place (piece ∷ pieces) = (piece.place ≡ place) × Runs (place + length piece.octets) pieces
