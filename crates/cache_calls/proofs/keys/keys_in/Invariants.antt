use Rattle.std.proofs.Common.{◌≡◌, ◌++◌, length}
use Rattle.cache_calls.specs.Options.{keys_in}
use Rattle.cache_calls.proofs.keys.keys_in.Given as goal

-- the keys so far, and those of what is left, are all
abbrev pub invariant-loop-word : goal.invariant-loop-word
invariant-loop-word l = l.keys ++ keys_in l.rest ≡ keys_in l.text

abbrev pub decreases-loop-word : goal.decreases-loop-word
decreases-loop-word l = length l.rest
