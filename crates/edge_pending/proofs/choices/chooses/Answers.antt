use Rattle.std.proofs.Common.{◌∙◌, ℕ, List, sym, ap}
use Rattle.std.specs.Prelude.{None, slice_get}
use Rattle.std.proofs.lemmas.Result.{IfOk-weaker}
use Rattle.edge_pending.specs.Choices.{first_kept}
use Rattle.edge_pending.specs.Tables.{both}
use Rattle.edge_pending.proofs.RowSteps.{chooses_kept, chooses_same}
use Rattle.edge_pending.proofs.choices.chooses.Goals as goal

pub returns-in-Some : goal.returns-in-Some
returns-in-Some c = λ reads is.
    IfOk-weaker c.chosen_at.result _ _
    (λ step goes.
    chooses_kept reads (both c.args.http.now c.args.tables.now) c.args.memory.now c.args.handles c.args.o1 c.args.o2 c.args.o3 (first_kept c.args.tables.now.pending c.args.handles) c.in-Some.index c.handle_at-handle.result
    (ap (λ (l : List ℕ). first_kept c.args.tables.now.pending l) (sym c.items.ensures) ∙ sym c.in-Some.ensures.place)
    (c.handle_at-handle.ensures ∙ ap (λ (l : List ℕ). slice_get l c.in-Some.index) c.items-in-Some.ensures) step _ _ goes)
    (c.chosen_at.ensures reads is)

pub returns-in-None : goal.returns-in-None
returns-in-None c = λ reads is.
    IfOk-weaker c.asks_any.result _ _
    (λ step goes.
    chooses_same reads (both c.args.http.now c.args.tables.now) c.args.memory.now c.args.handles c.args.o1 c.args.o2 c.args.o3 (first_kept c.args.tables.now.pending c.args.handles) None
    (ap (λ (l : List ℕ). first_kept c.args.tables.now.pending l) (sym c.items.ensures) ∙ sym c.in-None.ensures.place) step _ _ goes)
    (c.asks_any.ensures reads c.args.http.now c.args.memory.now)
