use Rattle.std.proofs.Common.{◌≡◌, drop}
use Rattle.toml.specs.View.{items_view}
use Rattle.fastly_toml.specs.Document.{any_item}
use Rattle.fastly_toml.proofs.document.any_item.Given as goal

-- what the values that are left say is what all say
abbrev pub invariant-loop-value : goal.invariant-loop-value
invariant-loop-value g l =
    any_item (g.T.Test.holds l.test) (items_view (drop l.value-index l.values)) ≡ any_item (g.T.Test.holds l.test) (items_view l.values)
