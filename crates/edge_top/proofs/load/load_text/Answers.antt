use Rattle.std.proofs.Common.{ℕ, ◌<◌, length, subst, sym, refl}
use Rattle.edge_load.specs.Told.{load_line, IsLoadLine}
use Rattle.edge_top.proofs.Journals.{some-length}
use Rattle.edge_top.proofs.load.load_text.Goals as goal

pub returns-clause-gives : goal.returns-clause-gives
returns-clause-gives c = subst (λ (most : ℕ). IsLoadLine most c.args.number c.in_ok-load_line.field-0) c.new.ensures.most c.in_ok-load_line.ensures

pub returns-clause-some : goal.returns-clause-some
returns-clause-some c =
    let told = c.in_ok-load_line.ensures in
    subst (λ text. 0 < length text) (sym told.line) (some-length (load_line c.args.number told.history) refl)
