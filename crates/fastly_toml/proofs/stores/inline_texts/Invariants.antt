use Rattle.std.proofs.Common.{◌≡◌}
use Rattle.toml.specs.View.{members_view}
use Rattle.fastly_toml.specs.Maps.{put_all, map_of, inline_pairs}
use Rattle.fastly_toml.proofs.stores.inline_texts.Given as goal

-- with the members that are left, the texts so far are those of all
abbrev pub invariant-loop-name : goal.invariant-loop-name
invariant-loop-name l = put_all l.texts.entries (inline_pairs (members_view l.name-iterator)) ≡ map_of (inline_pairs (members_view l.contents.entries))
