use Rattle.std.proofs.Common.{◌∙◌, ap, subst}
use Rattle.std.proofs.lemmas.Result.{IfOk-weaker}
use Rattle.run_files.specs.declared.run.Run.{Run}
use Rattle.edge_load.specs.Playable.{IsHistoryOf}
use Rattle.edge_load.specs.Told.{load_line}
use Rattle.edge_load.proofs.played.load_line.Goals as goal

pub returns : goal.returns
returns g c =
    let history = c.in_ok-history.history in
    let of_run = subst (λ (run : Run). IsHistoryOf (g.S.OneCache.most c.args.cache) run history) c.in_ok-run.ensures.run c.in_ok-history.ensures in
    IfOk-weaker c.line_of.result _ _ (λ line is. record { history = history; history_is = of_run; line = is ∙ ap (load_line c.args.number) c.entries.ensures }) c.line_of.ensures
