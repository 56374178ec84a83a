use Rattle.std.proofs.Common.{◌≡◌}
use Rattle.toml.specs.View.{members_view}
use Rattle.fastly_toml.specs.Maps.{put_all, map_of, backend_pairs}
use Rattle.fastly_toml.proofs.maps.backends_in.Given as goal

-- with the members that are left, the backends so far are all
abbrev pub invariant-loop-name : goal.invariant-loop-name
invariant-loop-name l = put_all l.backends.entries (backend_pairs (members_view l.name-iterator)) ≡ map_of (backend_pairs (members_view l.table.entries))
