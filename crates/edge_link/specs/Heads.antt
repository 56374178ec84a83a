-- The heads of a response (RFC 9110, section 15.2; RFC 9112, section 4): interim ones, and its own behind them.
use Rattle.std.specs.Prelude.{◌≡◌, ◌≤◌, ◌<◌, ◌==◌, ◌&&◌, not, ℕ, Bool, List, ◌++◌, length, drop, All, IsTrue}
use Rattle.std.specs.List.{flat_map}
use Rattle.httparse.specs.Grammar as grammar
use Rattle.cache_types.specs.Limits.{is_from_to}
use Rattle.edge_body.specs.Heads.{is_status}
use Rattle.http_text.specs.Fields.{headers_of, most_headers}
use Rattle.edge_link.specs.declared.heads.Head.{Head}

-- the parts of a head of the grammar
abbrev pub head_of : grammar.ResponseHead → Head
head_of tree = record { status = grammar.status_code tree; version = tree.minor; fields = headers_of tree.fields }

-- a status that says that the response is still to come, but not that the protocol changes
abbrev pub is_interim : ℕ → Bool
is_interim status = is_from_to 100 199 status && not (status == 101)

-- a head with no more headers than there is room for
abbrev pub IsSmallHead : grammar.ResponseHead → Type 0
IsSmallHead tree = grammar.IsResponseHead tree × (length tree.fields ≤ most_headers)

abbrev pub IsInterim : grammar.ResponseHead → Type 0
IsInterim tree = IsSmallHead tree × IsTrue (is_interim (grammar.status_code tree))

-- the head of a response
abbrev pub IsLast : grammar.ResponseHead → Type 0
IsLast tree = IsSmallHead tree × IsTrue (is_status (grammar.status_code tree))

-- the bytes are interim heads, this head of a response, and the rest
pub record IsLed (bytes : List ℕ) (tree : grammar.ResponseHead) (rest : List ℕ) : Type 0 where
  pub interim : List grammar.ResponseHead
  pub each : All IsInterim interim
  pub last : IsLast tree
  pub bytes_are : bytes ≡ flat_map grammar.print_response interim ++ (grammar.print_response tree ++ rest)

-- there is no response's head
abbrev pub HasNoLast : List ℕ → Type 0
HasNoLast bytes = (tree : grammar.ResponseHead) (rest : List ℕ) → ¬ (IsLed bytes tree rest)

-- a head of these parts stands at the front and has this length
abbrev pub HasHead : List ℕ → Head → ℕ → Type 0
HasHead bytes head len =
    (tree : grammar.ResponseHead) × grammar.ReadsResponse bytes tree (drop len bytes) × (len ≡ length (grammar.print_response tree))
    × (head ≡ head_of tree) × (length tree.fields ≤ most_headers)

-- none with room for its headers stands there
abbrev pub HasNoSmallHead : List ℕ → Type 0
HasNoSmallHead bytes =
    (tree : grammar.ResponseHead) (rest : List ℕ) → grammar.ReadsResponse bytes tree rest → most_headers < length tree.fields

-- a response's head of these parts ends at this place
abbrev pub Leads : List ℕ → Head → ℕ → Type 0
Leads bytes head end = (tree : grammar.ResponseHead) × IsLed bytes tree (drop end bytes) × (head ≡ head_of tree)

-- interim heads end where the rest begins
abbrev pub Passes : List ℕ → List ℕ → Type 0
Passes bytes rest = (interim : List grammar.ResponseHead) × All IsInterim interim × (bytes ≡ flat_map grammar.print_response interim ++ rest)
