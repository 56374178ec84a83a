use Rattle.std.proofs.Common.{◌≡◌, map, option_map}
use Rattle.toml.specs.View.{members_view}
use Rattle.fastly_toml.specs.Maps.{put_all, map_of, stores_in, shown}
use Rattle.fastly_toml.specs.Stores.{files_by, pairs_by}
use Rattle.fastly_toml.proofs.stores.stores_in.Given as goal

-- with the stores and pieces that are left, the stores so far are all
abbrev pub invariant-loop-name : goal.invariant-loop-name
invariant-loop-name l =
    option_map (put_all (shown l.stores.entries)) (stores_in (files_by l.kind) (pairs_by l.kind) (members_view l.name-iterator) (map (λ piece. piece.items) l.rest))
    ≡ option_map map_of (stores_in (files_by l.kind) (pairs_by l.kind) (members_view l.table.entries) (map (λ piece. piece.items) l.pieces))
