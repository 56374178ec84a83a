use Rattle.std.proofs.Common.{Some, None, ◌≡◌, sym, ap, ◌∙◌, subst}
use mathlib.Core.List.{IsPrefix}
use Rattle.turnstile.specs.Standing.{Fits}
use Rattle.turnstile.specs.Pass.{TurnstileView}
use Rattle.turnstile.proofs.Closing.{closed}
use Rattle.turnstile.proofs.Lists.{same_some}
use Rattle.turnstile.proofs.turnstile.Turnstile.close.Goals as goal

-- what the slot had
pub unreachable-requires : goal.unreachable-requires
unreachable-requires g c =
    let l = closed g.T.Standing.entries g.T.Standing.first (Fits g.T.Standing.setting g.T.Standing.first g.T.Standing.entries g.T.Standing.sound) g.T.Standing.family c.self.inside.table.shared.key.value c.pass.inside.seat.id c.pass.inside.seat.me.0 c.pass.inside.seat.table_id _ _ c.take-slot.result c.args.pass c.args.self
    c.pass.view_is (ap (λ (t : TurnstileView g.row.T.Denot). t.start) c.self.view_is) c.requires.all c.pass.invariant.1 c.close_with-closed.ensures.values.2 c.take-slot.ensures.value in
    let no : None ≡ Some l.0 = sym c.in-None.is ∙ l.1 in
    cc (no)

pub returns-clause-list : goal.returns-clause-list
returns-clause-list g c =
    let l = closed g.T.Standing.entries g.T.Standing.first (Fits g.T.Standing.setting g.T.Standing.first g.T.Standing.entries g.T.Standing.sound) g.T.Standing.family c.self.inside.table.shared.key.value c.pass.inside.seat.id c.pass.inside.seat.me.0 c.pass.inside.seat.table_id _ _ c.take-slot.result c.args.pass c.args.self
    c.pass.view_is (ap (λ (t : TurnstileView g.row.T.Denot). t.start) c.self.view_is) c.requires.all c.pass.invariant.1 c.close_with-closed.ensures.values.2 c.take-slot.ensures.value in
    let same : l.0 ≡ c.in-Some.value = same_some (sym l.1 ∙ c.in-Some.is) in
    ap g.T.Standing.entries (sym same) ∙ l.2.stands

pub returns-clause-numbers : goal.returns-clause-numbers
returns-clause-numbers g c =
    let l = closed g.T.Standing.entries g.T.Standing.first (Fits g.T.Standing.setting g.T.Standing.first g.T.Standing.entries g.T.Standing.sound) g.T.Standing.family c.self.inside.table.shared.key.value c.pass.inside.seat.id c.pass.inside.seat.me.0 c.pass.inside.seat.table_id _ _ c.take-slot.result c.args.pass c.args.self
    c.pass.view_is (ap (λ (t : TurnstileView g.row.T.Denot). t.start) c.self.view_is) c.requires.all c.pass.invariant.1 c.close_with-closed.ensures.values.2 c.take-slot.ensures.value in
    let same : l.0 ≡ c.in-Some.value = same_some (sym l.1 ∙ c.in-Some.is) in
    l.3

pub returns-clause-seen : goal.returns-clause-seen
returns-clause-seen g c =
    let l = closed g.T.Standing.entries g.T.Standing.first (Fits g.T.Standing.setting g.T.Standing.first g.T.Standing.entries g.T.Standing.sound) g.T.Standing.family c.self.inside.table.shared.key.value c.pass.inside.seat.id c.pass.inside.seat.me.0 c.pass.inside.seat.table_id _ _ c.take-slot.result c.args.pass c.args.self
    c.pass.view_is (ap (λ (t : TurnstileView g.row.T.Denot). t.start) c.self.view_is) c.requires.all c.pass.invariant.1 c.close_with-closed.ensures.values.2 c.take-slot.ensures.value in
    let same : l.0 ≡ c.in-Some.value = same_some (sym l.1 ∙ c.in-Some.is) in
    subst (IsPrefix c.args.pass.seen) (sym l.2.stands ∙ ap g.T.Standing.entries same) l.4

pub returns-clause-setting : goal.returns-clause-setting
returns-clause-setting g c =
    let l = closed g.T.Standing.entries g.T.Standing.first (Fits g.T.Standing.setting g.T.Standing.first g.T.Standing.entries g.T.Standing.sound) g.T.Standing.family c.self.inside.table.shared.key.value c.pass.inside.seat.id c.pass.inside.seat.me.0 c.pass.inside.seat.table_id _ _ c.take-slot.result c.args.pass c.args.self
    c.pass.view_is (ap (λ (t : TurnstileView g.row.T.Denot). t.start) c.self.view_is) c.requires.all c.pass.invariant.1 c.close_with-closed.ensures.values.2 c.take-slot.ensures.value in
    let same : l.0 ≡ c.in-Some.value = same_some (sym l.1 ∙ c.in-Some.is) in
    ap g.T.Standing.setting (sym same) ∙ l.2.same_setting

pub returns-clause-first : goal.returns-clause-first
returns-clause-first g c =
    let l = closed g.T.Standing.entries g.T.Standing.first (Fits g.T.Standing.setting g.T.Standing.first g.T.Standing.entries g.T.Standing.sound) g.T.Standing.family c.self.inside.table.shared.key.value c.pass.inside.seat.id c.pass.inside.seat.me.0 c.pass.inside.seat.table_id _ _ c.take-slot.result c.args.pass c.args.self
    c.pass.view_is (ap (λ (t : TurnstileView g.row.T.Denot). t.start) c.self.view_is) c.requires.all c.pass.invariant.1 c.close_with-closed.ensures.values.2 c.take-slot.ensures.value in
    let same : l.0 ≡ c.in-Some.value = same_some (sym l.1 ∙ c.in-Some.is) in
    ap g.T.Standing.first (sym same) ∙ l.2.same_first

pub returns-clause-sound : goal.returns-clause-sound
returns-clause-sound g c =
    let l = closed g.T.Standing.entries g.T.Standing.first (Fits g.T.Standing.setting g.T.Standing.first g.T.Standing.entries g.T.Standing.sound) g.T.Standing.family c.self.inside.table.shared.key.value c.pass.inside.seat.id c.pass.inside.seat.me.0 c.pass.inside.seat.table_id _ _ c.take-slot.result c.args.pass c.args.self
    c.pass.view_is (ap (λ (t : TurnstileView g.row.T.Denot). t.start) c.self.view_is) c.requires.all c.pass.invariant.1 c.close_with-closed.ensures.values.2 c.take-slot.ensures.value in
    let same : l.0 ≡ c.in-Some.value = same_some (sym l.1 ∙ c.in-Some.is) in
    subst g.T.Standing.sound same l.2.is_sound
