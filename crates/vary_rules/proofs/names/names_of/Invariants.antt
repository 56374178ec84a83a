use Rattle.std.proofs.Common.{◌≡◌, ◌++◌, length}
use Rattle.std.specs.List.{slice_split}
use Rattle.vary_rules.specs.Rules.{is_gap, names_in, are_names}
use Rattle.vary_rules.proofs.names.names_of.Given as goal

-- the names so far and those that are left are all names, and whether all are good is whether those that are left are
abbrev pub invariant-loop-word : goal.invariant-loop-word
invariant-loop-word l =
    (l.names.items ++ names_in (slice_split is_gap l.rest) ≡ names_in (slice_split is_gap l.text))
    × (are_names (names_in (slice_split is_gap l.rest)) ≡ are_names (names_in (slice_split is_gap l.text)))

abbrev pub decreases-loop-word : goal.decreases-loop-word
decreases-loop-word l = length l.rest
