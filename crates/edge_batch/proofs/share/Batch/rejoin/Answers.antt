use Rattle.std.proofs.Common.{◌≡◌, Bool, ◌++◌, ◌∷◌, ◌∙◌, ℕ, [], List, Some, sym, ap, subst}
use Rattle.std.specs.Prelude.{IsSomeAnd, if◌then◌else◌}
use mathlib.Core.List.{IsPrefix}
use Rattle.turnstile.specs.Pass.{both_passes}
use Rattle.cache_types.specs.declared.outer.Done.{Done}
use Rattle.http_front.specs.declared.heads.Incoming.{Incoming}
use Rattle.edge_batch.specs.Blocks.{joint_of, joint_with, Worked}
use Rattle.edge_batch.proofs.Both.{rejoined}
use Rattle.edge_batch.proofs.share.Batch.rejoin.Goals as goal

pub returns-in-Some-clause-worked : goal.returns-in-Some-clause-worked
returns-in-Some-clause-worked g c = λ ok clocks readings index requests at v w.
    let most : ℕ = g.S.OneCache.most c.args.self.now.hub.now.start in
    let limit : ℕ = c.args.self.now.limit in
    let Began = g.M.GuestMaker.Began c.args.self.now.maker.now in
    let pass = c.args.pass in
    let other = c.in-Some.other in
    let first : ℕ = c.args.seat.now.first in
    let more : List Incoming = c.args.seat.now.requests.now in
    let mine : List Done = c.args.blocks.now.items in
    let theirs : List Done = c.args.seat.now.blocks.items in
    let both = c.rejoin.ensures.both in
    let pass_is : c.args.seat.now.pass ≡ Some other = sym c.take.ensures.value ∙ c.in-Some.is in
    let worked : Worked most limit Began (joint_of other readings) first more theirs =
    subst (λ o. IsSomeAnd o (λ p. Worked most limit Began (joint_of p readings) first more theirs)) pass_is w in
    let together : Worked most limit Began (joint_with (both_passes pass other) (clocks ++ readings ∷ [])) index (requests ++ more) (mine ++ theirs) =
    rejoined most limit Began pass other clocks (readings ∷ []) index first requests more mine theirs c.rejoin.ensures.apart
    (subst (λ p. IsPrefix pass.seen p.seen) both c.rejoin.ensures.one_seen) (subst (λ p. IsPrefix other.seen p.seen) both c.rejoin.ensures.other_seen) at v worked in
    let items : c.append-moved.new.self.items ≡ mine ++ theirs = c.append-moved.ensures.items ∙ ap (λ (b : Bool). if b then mine ++ theirs else mine) ok in
    subst (λ p. Worked most limit Began (joint_with p (clocks ++ readings ∷ [])) index (requests ++ more) c.append-moved.new.self.items) (sym both)
    (subst (λ (blocks : List Done). Worked most limit Began (joint_with (both_passes pass other) (clocks ++ readings ∷ [])) index (requests ++ more) blocks) (sym items) together)
