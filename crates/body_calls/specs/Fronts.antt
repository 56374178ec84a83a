-- What the parts of a body begin with, and what is read of them, or written on, in its terms.
use Rattle.std.specs.Prelude.{ℕ, ◌≤◌, List, [], ◌∷◌, length, take, drop, if◌then◌else◌}
use Rattle.wasm_memory.specs.Linear.{Linear}
use Rattle.edge_abi.specs.Told.{Row, ask}
use Rattle.edge_body.specs.declared.body.Part.{Part}
use Rattle.edge_body.specs.declared.body.Part.TheVariants.{Own, Rest}
use Rattle.edge_http_calls.specs.declared.tables.HttpTables.{HttpTables}
use Rattle.edge_http_calls.specs.declared.tables.To.{To}
use Rattle.edge_http_calls.specs.Moves.{piece_to, read_at, is_empty}
use Rattle.edge_http_calls.specs.Bodies.{was_read}
use Rattle.body_calls.specs.declared.fronts.Front.{Front}
use Rattle.body_calls.specs.declared.fronts.Front.TheVariants.{Bytes, Hit, Nothing}
use Rattle.body_calls.specs.declared.under_way.Then.{Then}
use Rattle.body_calls.specs.UnderWays.{ends_of, pieced, read_on, fetched}

abbrev pub own_front : ℕ → List ℕ → List Part → Front
own_front most bytes parts = Bytes (take most bytes) (Own (drop most bytes) ∷ parts)

-- an own part that has no bytes is passed over
abbrev pub own_first : ℕ → List ℕ → List Part → Front → Front
own_first most bytes parts front = if is_empty bytes then front else own_front most bytes parts

abbrev pub front_of : ℕ → List Part → Front
front_of most [] = Nothing
front_of most (Own bytes ∷ parts) = own_first most bytes parts (front_of most parts)
front_of most (Rest hit place length ∷ parts) = Hit hit place length parts

-- at most so many bytes
abbrev pub IsShort : ℕ → Front → Type 0
IsShort most (Bytes bytes left) = length bytes ≤ most
IsShort most _ = Unit {0}

-- what is read of parts that begin so
abbrev pub reading : HttpTables → Linear → ℕ → ℕ → ℕ → ℕ → Front → Row HttpTables
reading t m handle b most o (Bytes bytes left) = was_read t m handle b o bytes left
reading t m handle b most o (Hit hit from length left) = ask (read_at hit from most) (fetched t m handle b most o hit from length left)
reading t m handle b most o Nothing = was_read t m handle b o [] []

-- what is written on of parts that begin so
abbrev pub going : To → Then → Front → HttpTables → Linear → Row HttpTables
going target row (Bytes bytes left) t m = ask (piece_to target bytes) (pieced target row left t m)
going target row (Hit hit from length left) t m = ask (read_at hit from 65536) (read_on target row hit from left t m)
going target row Nothing t m = ends_of row t m
