use Rattle.std.proofs.Common.{ap, sym, ◌∙◌}
use Rattle.std.proofs.lemmas.Bool.{false≢true}
use Rattle.cache_types.specs.Transactions.{is_held}
use Rattle.cache_core.proofs.holding.is_goal_held.Goals as goal

pub returns-then-fresh : goal.returns-then-fresh
returns-then-fresh c = λ stale past legal knows awaits. absurd (false≢true (sym stale ∙ c.if-fresh.true))

pub returns : goal.returns
returns c = λ stale past legal knows awaits. c.is_held.ensures past legal knows awaits ∙ ap (is_held past) (c.in_ok-goal.ensures past knows)
