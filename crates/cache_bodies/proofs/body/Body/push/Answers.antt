use Rattle.std.proofs.Common.{arith, ap, sym, subst, ◌≡◌, ◌+◌, ◌∙◌, ◌++◌, length, length-append}
use Rattle.cache_bodies.specs.declared.piece.Piece.{Piece}
use Rattle.cache_bodies.specs.Joined.{joined, Runs}
use Rattle.cache_bodies.proofs.Pieces.{joined-push, runs-push}
use Rattle.cache_bodies.proofs.body.Body.push.Goals as goal

pub invariant_of-self-2 : goal.invariant_of-self-2
invariant_of-self-2 c =
    let old = c.self.inside.pieces.items in
    let p : Piece = record { place = c.self.inside.len; octets = c.args.octets } in
    let items = c.in_ok-push.ensures.items in
    let all = ap joined items ∙ joined-push old p in
    let long : length (joined c.push.new.self.items) ≡ length (joined old) + length c.args.octets = ap length all ∙ length-append (joined old) c.args.octets in
    (omega (arith, long, c.self.invariant.0, ap length c.bytes.ensures), subst (Runs 0) (sym items) (runs-push 0 old p c.self.invariant.1 (omega (arith, c.self.invariant.0))))

pub returns-clause-written : goal.returns-clause-written
returns-clause-written c =
    let p : Piece = record { place = c.self.inside.len; octets = c.args.octets } in
    ap joined c.in_ok-push.ensures.items ∙ joined-push c.self.inside.pieces.items p ∙ ap (λ w. w ++ c.args.octets) c.self.view_is
