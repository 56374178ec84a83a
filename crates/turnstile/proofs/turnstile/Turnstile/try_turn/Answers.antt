use Rattle.std.proofs.Common.{Some, sym, ap, ◌∙◌, subst}
use Rattle.std.proofs.lemmas.Bool.Decides.{when_true}
use Rattle.turnstile.specs.Standing.{MayJoin, family_entries}
use Rattle.turnstile.specs.Log.{entries_of}
use Rattle.turnstile.specs.Pass.{TurnstileView, PassView}
use Rattle.turnstile.proofs.Passes.{ready, served}
use Rattle.turnstile.proofs.turnstile.Turnstile.try_turn.Goals as goal

pub serve-answer-requires-clause-ready : goal.serve-answer-requires-clause-ready
serve-answer-requires-clause-ready g c =
    let v = c.pass.view_is in
    let mine = ap (λ (p : PassView g.row.T.Denot g.row.T-Entry.Denot). p.mine) (sym v) in
    let from = ap (λ (p : PassView g.row.T.Denot g.row.T-Entry.Denot). p.start) v ∙ (c.requires.own.1 ∙ ap (λ (t : TurnstileView g.row.T.Denot). Some t.start) (sym c.self.view_is)) in
    ready _ _ _ _ _ (g.T.Kept.joins c.args.job.now) c.self.inside.table.shared.key.value c.pass.inside.seat.me c.claim.new.seat.me (g.T.Kept.asks c.args.job.now) (when_true _ _ c.if-claim.true c.claim.ensures.told) from
    (subst (MayJoin g.T.Standing.family (g.T.Kept.joins c.args.job.now)) mine c.requires.family)
    (subst (λ m. g.T.Kept.asks c.args.job.now (family_entries g.T.Standing.family (g.T.Kept.joins c.args.job.now) (entries_of m))) mine c.requires.asks)
    c.pass.invariant.0

pub returns-then-claim-clause-served : goal.returns-then-claim-clause-served
returns-then-claim-clause-served g c =
    let v = c.pass.view_is in
    let from = ap (λ (p : PassView g.row.T.Denot g.row.T-Entry.Denot). p.start) v ∙ c.requires.own.1 in
    served _ _ _ _ _ _ g.T.Kept.gives c.args.self.now c.pass.inside.seat.table_id c.serve-answer.new.seat.table_id c.pass.inside.seat.me c.claim.new.seat.me c.serve-answer.new.seat.me c.args.pass c.args.job.now c.serve-answer.result v
    (c.serve-answer.ensures.same.0 ∙ c.claim.ensures.same.0) from (when_true _ _ c.if-claim.true c.claim.ensures.told) c.serve-answer.ensures.served
