use Rattle.std.proofs.Common.{ap, ◌∙◌, sym, Some, cond, subst, IsSome, refl, ◌++◌, ◌∷◌, []}
use Rattle.std.proofs.lemmas.Bool.{false≢true}
use Rattle.std.specs.BTreeMap.{get, is_at}
use Rattle.cache_purge.specs.Keys.{items_of, is_named, named_at}
use Rattle.cache_purge.proofs.Adding.{more_by, stays_pushed, text_cmp}
use Rattle.cache_purge.proofs.keys.add.Goals as goal

pub returns-in_err-push-clause-more : goal.returns-in_err-push-clause-more
returns-in_err-push-clause-more c =
    let w = c.push.new.self in
    more_by c.args.keys.now (c.get_mut.follows.lender w) c.args.key.now w (((c.get_mut.follows.holds w).3 (subst IsSome c.in-Some.ensures.value refl)).0)
    (λ o is. ap (is_named o) (c.in_err-push.ensures.items ∙ ap items_of c.in-Some.ensures.value) ∙ is)

pub returns-in-Some-clause-more : goal.returns-in-Some-clause-more
returns-in-Some-clause-more c =
    let w = c.push.new.self in
    more_by c.args.keys.now (c.get_mut.follows.lender w) c.args.key.now w (((c.get_mut.follows.holds w).3 (subst IsSome c.in-Some.ensures.value refl)).0)
    (λ o is. ap (is_named o) (c.in_ok-push.ensures.items ∙ ap (λ l. l ++ c.args.object ∷ []) (ap items_of c.in-Some.ensures.value)) ∙ stays_pushed (named_at c.args.keys.now c.args.key.now) c.args.object o is)

pub returns-clause-more : goal.returns-clause-more
returns-clause-more c =
    more_by c.args.keys.now c.insert.new.self c.in_ok-copy.field-0 c.push-2.new.self
    (λ q. c.in_ok-insert.ensures.updates.0 q ∙ ap (λ m. cond (is_at (text_cmp c.in_ok-copy.field-0) q) (Some c.push-2.new.self) (get text_cmp m q)) c.get_mut.follows.holds-at-none)
    (λ o is. let none = ap (is_named o) (ap items_of c.in_default.ensures.value ∙ ap (named_at c.args.keys.now) (sym c.in_ok-copy.ensures)) in absurd (false≢true (none ∙ is)))
