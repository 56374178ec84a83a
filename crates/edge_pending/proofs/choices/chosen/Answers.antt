use Rattle.std.proofs.Common.{◌∙◌, ℕ, List, ap}
use Rattle.std.specs.Prelude.{slice_get}
use Rattle.std.proofs.lemmas.Result.{IfOk-weaker}
use Rattle.edge_pending.specs.Tables.{both}
use Rattle.edge_pending.proofs.RowSteps.{chosen_goes}
use Rattle.edge_pending.proofs.choices.chosen.Goals as goal

pub returns-in-Index : goal.returns-in-Index
returns-in-Index c = λ reads is.
    IfOk-weaker c.chosen_at.result _ _
    (λ step goes.
    chosen_goes reads (both c.args.http.now c.args.tables.now) c.args.memory.now c.args.handles c.args.o1 c.args.o2 c.args.o3 c.args.reply.now c.in-Index.index c.handle_at-handle.result c.in-Index.is
    (c.handle_at-handle.ensures ∙ ap (λ (l : List ℕ). slice_get l c.in-Index.index) c.items.ensures) step _ _ goes)
    (c.chosen_at.ensures reads is)
