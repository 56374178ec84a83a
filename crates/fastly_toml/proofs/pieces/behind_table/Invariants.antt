use Rattle.std.proofs.Common.{◌≡◌, map, length, drop}
use Rattle.toml.specs.View.{members_view}
use Rattle.fastly_toml.specs.Files.{files_in}
use Rattle.fastly_toml.specs.Stores.{files_by}
use Rattle.fastly_toml.proofs.pieces.behind_table.Given as goal

-- behind the files of the stores that are left is behind those of all
abbrev pub invariant-loop-store : goal.invariant-loop-store
invariant-loop-store l =
    drop (length (files_in (files_by l.kind) (members_view l.store-iterator))) (map (λ piece. piece.items) l.rest)
    ≡ drop (length (files_in (files_by l.kind) (members_view l.table.entries))) (map (λ piece. piece.items) l.pieces)
