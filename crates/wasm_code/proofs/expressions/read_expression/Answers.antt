use Rattle.std.proofs.Common.{◌≡◌, suc, true, false, ◌+◌, ◌-◌, [], length, sym, ◌∙◌, arith}
use Rattle.std.proofs.lemmas.Result.{err_from_is_err_and}
use Rattle.wasm_types.specs.Nested.{role_of}
use Rattle.wasm_code.specs.Instructions.{instrs_at, expression_at, is_last}
use Rattle.wasm_code.proofs.Loop.{with_none, turn, last_turn, no_turn, no_more}
use Rattle.wasm_code.proofs.expressions.read_expression.Goals as goal

pub loop-init : goal.loop-init
unfolding expression_at
loop-init c =
    let z : length c.args.bytes.now - 0 ≡ length c.args.bytes.now = omega arith in
    rw (z, c.new-code.ensures.items, c.new-opens.ensures.items) (with_none (instrs_at (length c.args.bytes.now) [] c.args.scope c.args.bytes.now))

pub returns-in_err-instr : goal.returns-in_err-instr
returns-in_err-instr c =
    let most = length c.args.bytes.now - (c.loop.counter + 1) in
    let k : length c.args.bytes.now - c.loop.counter ≡ suc most = omega arith in
    let p = err_from_is_err_and c.from_residual.result c.from_residual.ensures.1 in
    rw (p.1, p.2) (no_turn most c.loop.opens.items c.args.scope c.loop.code.items c.loop.rest.now c.in_err-instr.field-0.0 (expression_at c.args.scope c.args.bytes.now) c.in_err-instr.ensures (rw k at c.loop.invariant))

pub returns-then-ended : goal.returns-then-ended
returns-then-ended c =
    let most = length c.args.bytes.now - (c.loop.counter + 1) in
    let k : length c.args.bytes.now - c.loop.counter ≡ suc most = omega arith in
    let ended : is_last (role_of c.in_ok-instr.instr) c.loop.opens.items ≡ true = sym c.in_ok-ended.ensures.ended ∙ c.if-ended.true in
    let one = last_turn most c.loop.opens.items c.args.scope c.loop.code.items c.loop.rest.now c.in_ok-instr.after.now c.in_ok-instr.instr c.in_ok-instr.ensures ended in
    let inv = rw k at c.loop.invariant in
    rw c.in_ok-push.ensures.items (sym inv ∙ one)

pub loop-preserved : goal.loop-preserved
loop-preserved c =
    let most = length c.args.bytes.now - (c.loop.counter + 1) in
    let k : length c.args.bytes.now - c.loop.counter ≡ suc most = omega arith in
    let goes : is_last (role_of c.in_ok-instr.instr) c.loop.opens.items ≡ false = sym c.in_ok-ended.ensures.ended ∙ c.if-ended.false in
    let one = turn most c.loop.opens.items c.args.scope c.loop.code.items c.loop.rest.now c.in_ok-instr.after.now c.in_ok-instr.instr c.in_ok-instr.ensures goes in
    let inv = rw k at c.loop.invariant in
    rw (c.in_ok-push.ensures.items, c.in_ok-ended.ensures.after) (sym one ∙ inv)

pub returns : goal.returns
returns c =
    let k : length c.args.bytes.now - c.loop.counter ≡ 0 = omega arith in
    let inv = rw k at c.loop.invariant in
    rw c.short_of.ensures (sym inv ∙ no_more c.loop.opens.items c.args.scope c.loop.code.items c.loop.rest.now)
