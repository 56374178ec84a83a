use Rattle.std.proofs.Common.{◌≡◌, ◌++◌, map}
use Rattle.toml.specs.View.{members_view}
use Rattle.fastly_toml.specs.Files.{files_in}
use Rattle.fastly_toml.specs.Stores.{files_by}
use Rattle.fastly_toml.proofs.files.with_table.Given as goal

-- the names so far and those of the stores that are left
abbrev pub invariant-loop-store : goal.invariant-loop-store
invariant-loop-store l =
    map (λ name. name.now) l.names.items ++ files_in (files_by l.kind) (members_view l.store-iterator)
    ≡ map (λ name. name.now) l.initial.names.items ++ files_in (files_by l.kind) (members_view l.table.entries)
