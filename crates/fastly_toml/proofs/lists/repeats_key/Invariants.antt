use Rattle.std.proofs.Common.{◌≡◌, drop}
use Rattle.toml.specs.View.{items_view}
use Rattle.fastly_toml.specs.Kinds.{repeats_key}
use Rattle.fastly_toml.proofs.lists.repeats_key.Given as goal

abbrev pub invariant-loop-place : goal.invariant-loop-place
invariant-loop-place l = repeats_key (items_view (drop l.place l.entries)) ≡ repeats_key (items_view l.entries)
