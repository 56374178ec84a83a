use Rattle.std.proofs.Common.{◌≡◌, suc, ◌+◌, ◌-◌, length, refl, sym, ◌∙◌, arith}
use Rattle.std.proofs.lemmas.Result.{err_from_is_err_and}
use Rattle.wasm_reader.specs.Sections.{customs_at}
use Rattle.wasm_reader.proofs.Loops.{customs_go, customs_stop, customs_fail, customs_done}
use Rattle.wasm_reader.proofs.sections.skip_customs.Goals as goal

pub loop-init : goal.loop-init
unfolding customs_at
loop-init c =
    let z : length c.args.bytes.now - 0 ≡ length c.args.bytes.now = omega arith in
    rw z refl

pub returns-in_err-after : goal.returns-in_err-after
returns-in_err-after c =
    let most = length c.args.bytes.now - (c.loop.counter + 1) in
    let k : length c.args.bytes.now - c.loop.counter ≡ suc most = omega arith in
    let p = err_from_is_err_and c.from_residual.result c.from_residual.ensures.1 in
    rw (p.1, p.2) (customs_fail most c.args.scope c.loop.rest.now c.in_err-after.field-0.0 (customs_at c.args.scope c.args.bytes.now) c.in_err-after.ensures (rw k at c.loop.invariant))

pub returns-in-None : goal.returns-in-None
returns-in-None c =
    let most = length c.args.bytes.now - (c.loop.counter + 1) in
    let k : length c.args.bytes.now - c.loop.counter ≡ suc most = omega arith in
    let none = rw c.in-None.is at c.in_ok-after.ensures in
    let inv = rw k at c.loop.invariant in
    sym inv ∙ customs_stop most c.args.scope c.loop.rest.now none

pub loop-preserved : goal.loop-preserved
loop-preserved c =
    let most = length c.args.bytes.now - (c.loop.counter + 1) in
    let k : length c.args.bytes.now - c.loop.counter ≡ suc most = omega arith in
    let some = rw c.in-Some.is at c.in_ok-after.ensures in
    let inv = rw k at c.loop.invariant in
    sym (customs_go most c.args.scope c.loop.rest.now c.in-Some.after.now some) ∙ inv

pub returns : goal.returns
returns c =
    let k : length c.args.bytes.now - c.loop.counter ≡ 0 = omega arith in
    let inv = rw k at c.loop.invariant in
    sym inv ∙ customs_done c.args.scope c.loop.rest.now
