use Rattle.std.proofs.Common.{◌≡◌, option_map}
use Rattle.serde_json.specs.View.{members_view}
use Rattle.fastly_toml.specs.Texts.{pairs_of}
use Rattle.fastly_toml.specs.Maps.{put_all, map_of}
use Rattle.fastly_toml.proofs.texts.texts_of.Given as goal

-- with the members that are left, the texts so far are those of all
abbrev pub invariant-loop-name : goal.invariant-loop-name
invariant-loop-name l =
    option_map (put_all l.texts.entries) (pairs_of (members_view l.name-iterator)) ≡ option_map map_of (pairs_of (members_view l.members.entries))
