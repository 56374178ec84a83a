use Rattle.std.proofs.Common.{◌≡◌, map, drop}
use Rattle.toml.specs.View.{items_view}
use Rattle.fastly_toml.specs.Maps.{put_all, map_of, item_pairs}
use Rattle.fastly_toml.proofs.stores.entry_texts.Given as goal

-- with the entries and pieces that are left, the texts so far are those of all
abbrev pub invariant-loop-entry : goal.invariant-loop-entry
invariant-loop-entry l =
    put_all l.texts.entries (item_pairs (items_view (drop l.entry-index l.entries)) (map (λ piece. piece.items) l.rest))
    ≡ map_of (item_pairs (items_view l.entries) (map (λ piece. piece.items) l.pieces))
