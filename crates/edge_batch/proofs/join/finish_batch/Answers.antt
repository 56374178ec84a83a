use Rattle.std.proofs.Common.{◌≡◌, ◌+◌, ◌++◌, ◌∙◌, [], List, length, sym, ap}
use Rattle.turnstile.specs.Log.{entries_of, numbered}
use Rattle.cache_types.specs.declared.entries.Entry.{Entry}
use Rattle.edge_batch.specs.Blocks.{joint_with}
use Rattle.edge_batch.proofs.Whole.{whole_batch}
use Rattle.edge_batch.proofs.join.finish_batch.Goals as goal

pub returns : goal.returns
returns g c =
    let base : List Entry = g.S.OneCache.history c.args.hub.start in
    let made : List Entry = entries_of c.args.pass.mine in
    let none : base ≡ [] = c.requires.fresh in
    let all : c.finish.result ≡ made = c.finish.ensures.list ∙ ap (λ (l : List Entry). l ++ made) none in
    let numbers : c.args.pass.mine ≡ numbered 1 c.finish.result =
    c.finish.ensures.numbers ∙ (ap (λ (l : List Entry). numbered (1 + length l) made) none ∙ ap (numbered 1) (sym all)) in
    record {
      batch = λ clocks requests blocks w. whole_batch (g.S.OneCache.most c.args.hub.start) c.args._limit (g.M.GuestMaker.Began c.args._maker.now) (joint_with c.args.pass clocks) requests blocks c.finish.result w c.finish.ensures.legal c.finish.ensures.seen numbers;
    }
