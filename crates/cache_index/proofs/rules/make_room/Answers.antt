use Rattle.std.proofs.Common.{arith, ap, ◌∙◌, sym, Some, cond, subst, IsSome, refl}
use Rattle.std.specs.Prelude.{reverse}
use Rattle.cache_index.proofs.Maps.{rules_kept, on_ok, text_cmp}
use Rattle.cache_index.specs.Kept.{rules_in, rules_at}
use Rattle.std.specs.BTreeMap.{get, is_at}
use Rattle.cache_index.proofs.rules.make_room.Goals as goal

pub returns-in-Some-clause-same : goal.returns-in-Some-clause-same
returns-in-Some-clause-same c =
    let is = c.in-Some.ensures.value in
    let w = c.reserve.new.self in
    rules_kept c.args.rules.now (c.get_mut.follows.lender w) c.args.key.now w (((c.get_mut.follows.holds w).3 (subst IsSome c.in-Some.ensures.value refl)).0)
    (ap reverse c.reserve.ensures.items ∙ ap rules_in is)

pub returns-in-Some-clause-room : goal.returns-in-Some-clause-room
returns-in-Some-clause-room c =
    let w = c.reserve.new.self in
    on_ok c.reserve.result (λ room. (w, ((c.get_mut.follows.holds w).3 (subst IsSome c.in-Some.ensures.value refl)).1, omega (arith, room))) c.reserve.ensures.ok

pub returns-clause-same : goal.returns-clause-same
returns-clause-same c =
    rules_kept c.args.rules.now c.insert.new.self c.in_ok-copy.field-0 c.reserve-2.new.self
    (λ q. c.in_ok-insert.ensures.updates.0 q ∙ ap (λ m. cond (is_at (text_cmp c.in_ok-copy.field-0) q) (Some c.reserve-2.new.self) (get text_cmp m q)) c.get_mut.follows.holds-at-none)
    (ap reverse (c.reserve-2.ensures.items ∙ c.new-list.ensures.items) ∙ ap rules_in c.in_default.ensures.value ∙ ap (λ k. rules_at c.args.rules.now k) (sym c.in_ok-copy.ensures))

pub returns-clause-room : goal.returns-clause-room
returns-clause-room c =
    (c.reserve-2.new.self, ap (λ k. get text_cmp c.insert.new.self k) (sym c.in_ok-copy.ensures) ∙ c.in_ok-insert.ensures.updates.1, omega (arith, c.in_ok-reserve.ensures.ok))
