use Rattle.std.proofs.Common.{sym, subst}
use Rattle.scripted_guest.specs.Scripted.{ScriptPlays}
use Rattle.scripted_guest.proofs.Answering.{stopped-plays}
use Rattle.scripted_guest.proofs.scripted.ScriptedPlayer.stop.Goals as goal

pub returns-clause-plays : goal.returns-clause-plays
returns-clause-plays c = λ next trace plays. stopped-plays _ next trace c.args.outcome (subst (λ s. ScriptPlays s next trace) (sym c.self.view_is) plays)
