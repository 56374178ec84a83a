-- Lists of pending handles in the memory of a guest, and which of them is chosen.
use Rattle.std.specs.Prelude.{ℕ, zero, suc, ◌+◌, ◌*◌, ◌==◌, ◌&&◌, not, is_some, Bool, true, List, [], ◌∷◌, length, map, position, Option, Result, Ok}
use Rattle.std.specs.List.{list_all, list_any}
use Rattle.cache_types.specs.Limits.{is_from_to}
use Rattle.wasm_memory.specs.Bytes.{number_of}
use Rattle.wasm_memory.specs.Linear.{Linear}
use Rattle.edge_abi.specs.declared.status.Status.TheVariants as status
use Rattle.edge_abi.specs.declared.status.Refusal.{Refusal}
use Rattle.edge_abi.specs.Memory.{octets_at}
use Rattle.edge_abi.specs.Refusals.{and_then, unless, ranged}
use Rattle.edge_abi.specs.Tables.{held}
use Rattle.edge_pending.specs.Tables.{is_kept, ticket_in}
use Rattle.edge_pending.specs.declared.tables.Pending.{Pending}

-- the number in four bytes
abbrev pub word_at : Linear → ℕ → ℕ
word_at m place = number_of (octets_at m place 4)

-- so many of them from a place on
abbrev pub words : Linear → ℕ → ℕ → List ℕ
words m place zero = []
words m place (suc count) = word_at m place ∷ words m (place + 4) count

-- a handle that names something
abbrev pub is_held : List (Option Pending) → ℕ → Bool
is_held table handle = is_some (held table handle)

abbrev pub are_different : List ℕ → Bool
are_different [] = true
are_different (handle ∷ handles) = not (list_any (λ other. other == handle) handles) && are_different handles

-- from 1 to 100 handles, which are different
abbrev pub is_choice : List ℕ → Bool
is_choice handles = is_from_to 1 100 (length handles) && are_different handles

-- a list of handles that name something
abbrev pub listed : List (Option Pending) → Linear → ℕ → ℕ → Result (List ℕ) Refusal
listed table m p count =
    and_then (ranged m p (4 * count)) (λ _.
    and_then (unless (list_all (is_held table) (words m p count)) status.Badf) (λ _. Ok (words m p count)))

-- where the first handle stands that keeps what came
abbrev pub first_kept : List (Option Pending) → List ℕ → Option ℕ
first_kept table handles = position (λ handle. is_kept (held table handle)) handles

abbrev pub tickets_of : List (Option Pending) → List ℕ → List ℕ
tickets_of table handles = map (λ handle. ticket_in (held table handle)) handles
