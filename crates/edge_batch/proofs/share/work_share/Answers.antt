use Rattle.std.proofs.Common.{◌≡◌, ◌+◌, ◌++◌, ◌∷◌, ◌<◌, ◌∙◌, ℕ, [], List, length, take, sym, ap, subst, arith}
use Rattle.std.proofs.lemmas.Grind.{common_steps}
use Rattle.std.proofs.lemmas.List.{take_more, length-take-le}
use Rattle.cache_types.specs.declared.outer.Done.{Done}
use Rattle.http_front.specs.declared.heads.Incoming.{Incoming}
use Rattle.edge_outside.specs.Clock.{AreReadings}
use Rattle.edge_batch.specs.Shares.{WorkedShare}
use Rattle.edge_batch.proofs.Sharing.{share_begun, share_more}
use Rattle.edge_batch.proofs.share.work_share.Goals as goal

pub loop-request-init : goal.loop-request-init
loop-request-init g c =
    let Reads = AreReadings g.C.Clock.reads g.C.Clock.content in
    let Began = g.M.GuestMaker.Began c.args.maker.now in
    let most = g.S.OneCache.most c.args.hub.now.start in
    let none = c.requires.ready.none in (
      subst (λ (blocks : List Done). WorkedShare Reads Began most c.args.limit c.args.first [] c.args.pass c.args.pass c.args.hand.now.clock c.args.hand.now.clock blocks) (sym none)
          (share_begun g.C.Clock.reads g.C.Clock.content Began most c.args.limit c.args.first c.args.hub.now c.args.pass c.args.hand.now.clock c.requires.unused),
      omega arith,
      grind (arith, common_steps, none),
      c.requires.ready.room,
    )

pub loop-request-preserved : goal.loop-request-preserved
loop-request-preserved g c =
    let Reads = AreReadings g.C.Clock.reads g.C.Clock.content in
    let Began = g.M.GuestMaker.Began c.args.maker.now in
    let most = g.S.OneCache.most c.args.hub.now.start in
    let requests : List Incoming = c.args.requests.now in
    let k : ℕ = c.loop-request.request-index in
    let request : Incoming = c.request-item.result in
    let less : k < length requests = omega arith in
    let more : take (k + 1) requests ≡ take k requests ++ request ∷ [] = take_more requests k request less ∙ ap (λ (r : Incoming). take k requests ++ r ∷ []) (grind (arith, common_steps, c.request-item.is)) in
    let count : length (take k requests) ≡ k = length-take-le k requests (omega arith) in
    let at : c.loop-request.index ≡ c.args.first + length (take k requests) = c.loop-request.invariant.1 ∙ ap (λ (n : ℕ). c.args.first + n) (sym count) in
    let w = c.work_request-next.ensures in (
      subst (λ (blocks : List Done). WorkedShare Reads Began most c.args.limit c.args.first (take (k + 1) requests) c.args.pass c.work_request-next.result.0 c.args.hand.now.clock c.work_request-next.new.hand.clock blocks) (sym c.push_reserved.ensures.items)
          (subst (λ (rs : List Incoming). WorkedShare Reads Began most c.args.limit c.args.first rs c.args.pass c.work_request-next.result.0 c.args.hand.now.clock c.work_request-next.new.hand.clock (c.loop-request.blocks.items ++ c.work_request-next.result.1 ∷ [])) (sym more)
          (share_more g.C.Clock.reads g.C.Clock.content Began most c.args.limit c.args.first c.loop-request.index (take k requests) request c.args.pass c.loop-request.pass c.work_request-next.result.0 c.args.hand.now.clock c.loop-request.hand.clock c.work_request-next.new.hand.clock c.loop-request.blocks.items c.work_request-next.result.1 at c.loop-request.invariant.0 w.same w.whole w.work)),
      (let e = c.loop-request.invariant.1 in omega arith),
      (let e = c.loop-request.invariant.2 in let l = c.push_reserved.ensures.len in omega arith),
      (let e = c.loop-request.invariant.3 in let l = c.push_reserved.ensures.capacity in omega arith),
    )
