use Rattle.std.proofs.Common.{◌∙◌, ap, cond, bytes_eq}
use Rattle.cache_types.specs.Found.{put_first}
use Rattle.cache_index.specs.Kept.{rules_at}
use Rattle.cache_index.proofs.Maps.{on_err}
use Rattle.cache_index.proofs.Telling.{stands_more}
use Rattle.cache_index.proofs.index.Index.insert.Goals as goal

pub returns-in_err-make_room-clause-unchanged : goal.returns-in_err-make_room-clause-unchanged
returns-in_err-make_room-clause-unchanged c =
    on_err c.from_residual-in_err-make_room.result (λ told stands. record { rules = λ key. c.make_room.ensures.same key ∙ stands.rules key; objects = stands.objects })

pub returns-clause-told : goal.returns-clause-told
returns-clause-told c = λ made told object at stands. stands_more c.args.self.now _ c.args.slot c.args.object made told object at stands
    (λ q. c.renew.ensures q ∙ ap (λ rs. cond (bytes_eq c.in_ok-key.key q) (put_first c.in_ok-rule.rule rs) rs) (c.make_room.ensures.same q)
    ∙ ap (λ k. cond (bytes_eq k q) (put_first c.in_ok-rule.rule (rules_at c.args.self.now.rules q)) (rules_at c.args.self.now.rules q)) (c.in_ok-key.ensures ∙ c.key.ensures)
    ∙ ap (λ r. cond (bytes_eq c.args.slot.key q) (put_first r (rules_at c.args.self.now.rules q)) (rules_at c.args.self.now.rules q)) (c.in_ok-rule.ensures ∙ c.rule.ensures))
    c.in_ok-insert.ensures.updates.0
