use Rattle.std.proofs.Common.{◌≡◌}
use Rattle.toml.specs.View.{members_view}
use Rattle.fastly_toml.specs.Document.{any_member}
use Rattle.fastly_toml.proofs.document.any_member.Given as goal

-- what the members that are left say is what all say
abbrev pub invariant-loop-value : goal.invariant-loop-value
invariant-loop-value g l =
    any_member (g.T.Test.holds l.test) (members_view l.value-iterator) ≡ any_member (g.T.Test.holds l.test) (members_view l.table.entries)
