use Rattle.std.proofs.Common.{◌≡◌, suc, ◌+◌, ◌-◌, ◌++◌, [], refl, sym, ◌∙◌, arith}
use Rattle.std.proofs.lemmas.Result.{err_from_is_err_and}
use Rattle.std.proofs.lemmas.List.{append-nil}
use Rattle.wasm_code.proofs.Steps.{same_ok}
use Rattle.wasm_reader.specs.Sections.{bodies_at}
use Rattle.wasm_reader.proofs.Loops.{bodies_go, bodies_fail, bodies_done}
use Rattle.wasm_reader.proofs.bodies.read_bodies.Goals as goal

pub returns-in_err-body : goal.returns-in_err-body
returns-in_err-body c =
    let most = c.args.count - suc c.loop-index.index in
    let k : c.args.count - c.loop-index.index ≡ suc most = omega arith in
    let p = err_from_is_err_and c.from_residual.result c.from_residual.ensures.1 in
    rw (p.1, p.2) (bodies_fail c.args.types.now c.args.functions.now c.loop-index.index most c.args.scope c.loop-index.bodies.items c.loop-index.rest.now c.in_err-body.field-0.0 (bodies_at c.args.types.now c.args.functions.now 0 c.args.count c.args.scope c.args.bytes.now) (rw c.params_of-params.ensures at c.in_err-body.ensures) (rw k at c.loop-index.invariant))

pub loop-index-preserved : goal.loop-index-preserved
loop-index-preserved c =
    let most = c.args.count - suc c.loop-index.index in
    let k : c.args.count - c.loop-index.index ≡ suc most = omega arith in
    let next : c.loop-index.index + 1 ≡ suc c.loop-index.index = omega arith in
    let inv = rw k at c.loop-index.invariant in
    let one = bodies_go c.args.types.now c.args.functions.now c.loop-index.index most c.args.scope c.loop-index.bodies.items c.loop-index.rest.now c.in_ok-body.after.now c.in_ok-body.body (rw c.params_of-params.ensures at c.in_ok-body.ensures) in
    rw (c.in_ok-push.ensures.items, next) (sym one ∙ inv)

pub returns : goal.returns
returns c =
    let k : c.args.count - c.loop-index.index ≡ 0 = omega arith in
    let inv = rw k at c.loop-index.invariant in
    let done = bodies_done c.args.types.now c.args.functions.now c.loop-index.index c.args.scope c.loop-index.bodies.items c.loop-index.rest.now in
    rw c.of.ensures (sym inv ∙ done ∙ same_ok (c.loop-index.bodies.items ++ []) c.loop-index.bodies.items c.loop-index.rest.now c.loop-index.rest.now (append-nil c.loop-index.bodies.items) refl)
