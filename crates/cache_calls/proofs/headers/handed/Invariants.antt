use Rattle.std.proofs.Common.{◌≡◌, take}
use Rattle.cache_calls.specs.Options.{handed}
use Rattle.cache_calls.proofs.headers.handed.Given as goal

abbrev pub invariant-loop-field : goal.invariant-loop-field
invariant-loop-field l = l.handed.items ≡ handed (take l.field-index l.fields)
