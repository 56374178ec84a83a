use Rattle.std.proofs.Common.{◌≡◌, map, length, drop}
use Rattle.toml.specs.View.{items_view}
use Rattle.fastly_toml.specs.Files.{item_files}
use Rattle.fastly_toml.proofs.pieces.behind_entries.Given as goal

-- behind the files of the entries that are left is behind those of all
abbrev pub invariant-loop-entry : goal.invariant-loop-entry
invariant-loop-entry l =
    drop (length (item_files (items_view (drop l.entry-index l.entries)))) (map (λ piece. piece.items) l.rest)
    ≡ drop (length (item_files (items_view l.entries))) (map (λ piece. piece.items) l.pieces)
