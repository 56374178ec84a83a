use Rattle.std.proofs.Common.{◌≡◌, ◌++◌, map, drop}
use Rattle.toml.specs.View.{items_view}
use Rattle.fastly_toml.specs.Files.{item_files}
use Rattle.fastly_toml.proofs.files.with_entries.Given as goal

-- the names so far and those of the entries that are left
abbrev pub invariant-loop-entry : goal.invariant-loop-entry
invariant-loop-entry l =
    map (λ name. name.now) l.names.items ++ item_files (items_view (drop l.entry-index l.entries)) ≡ map (λ name. name.now) l.initial.names.items ++ item_files (items_view l.entries)
