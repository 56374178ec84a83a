use Rattle.std.proofs.Common.{sym, ap, ◌∙◌, arith}
use Rattle.turnstile.specs.Standing.{Fits}
use Rattle.turnstile.proofs.Handing.{learns_as}
use Rattle.turnstile.specs.Pass.{TurnstileView, PassView}
use Rattle.turnstile.proofs.turnstile.Turnstile.learn.Goals as goal

pub load-requires : goal.load-requires
load-requires g c =
    let i = c.self.invariant in
    let o = c.pass.invariant in (
      ap (λ (p : PassView g.row.T.Denot g.row.T-Entry.Denot). p.table) c.pass.view_is ∙ (c.requires.own.0 ∙ sym (ap (λ (t : TurnstileView g.row.T.Denot). t.table) c.self.view_is)),
      omega arith,
      learns_as g.T.Standing.entries g.T.Standing.first (Fits g.T.Standing.setting g.T.Standing.first g.T.Standing.entries g.T.Standing.sound) g.T.Standing.family c.self.inside.table.shared.key.value _ _ _ o.0 o.2,
    )
