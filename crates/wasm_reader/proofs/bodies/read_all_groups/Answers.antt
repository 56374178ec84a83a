use Rattle.std.proofs.Common.{◌≡◌, suc, ◌+◌, ◌-◌, [], length, replicate, sym, ◌∙◌, arith}
use Rattle.std.proofs.lemmas.List.{length-append, length-replicate}
use Rattle.std.proofs.lemmas.Result.{err_from_is_err_and}
use Rattle.wasm_reader.specs.Sections.{locals_from}
use Rattle.wasm_reader.proofs.Loops.{count_below, locals_go, locals_no_count, locals_no_kind, locals_done}
use Rattle.wasm_reader.proofs.bodies.read_all_groups.Goals as goal

pub returns-in_err-more : goal.returns-in_err-more
returns-in_err-more c =
    let most = c.args.count - (c.loop.counter + 1) in
    let k : c.args.count - c.loop.counter ≡ suc most = omega arith in
    let room : c.saturating_sub-room.result ≡ 4096 - (c.args.params + length c.loop.locals) = omega arith in
    let p = err_from_is_err_and c.from_residual.result c.from_residual.ensures.1 in
    rw (p.1, p.2) (locals_no_count c.args.params most c.loop.locals c.args.scope c.loop.rest.now c.in_err-more.field-0.0 (locals_from c.args.params [] c.args.count c.args.scope c.args.bytes.now) (rw room at c.in_err-more.ensures) (rw k at c.loop.invariant.0))

pub returns-in_err-kind : goal.returns-in_err-kind
returns-in_err-kind c =
    let most = c.args.count - (c.loop.counter + 1) in
    let k : c.args.count - c.loop.counter ≡ suc most = omega arith in
    let room : c.saturating_sub-room.result ≡ 4096 - (c.args.params + length c.loop.locals) = omega arith in
    let p = err_from_is_err_and c.from_residual-in_err-kind.result c.from_residual-in_err-kind.ensures.1 in
    rw (p.1, p.2) (locals_no_kind c.args.params most c.in_ok-more.more c.loop.locals c.args.scope c.loop.rest.now c.in_ok-more.after.now c.in_err-kind.field-0.0 (locals_from c.args.params [] c.args.count c.args.scope c.args.bytes.now) (rw room at c.in_ok-more.ensures) c.in_err-kind.ensures (rw k at c.loop.invariant.0))

-- no more locals are read than there is room for
pub with-requires : goal.with-requires
with-requires c =
    let room : c.saturating_sub-room.result ≡ 4096 - (c.args.params + length c.loop.locals) = omega arith in
    let below = count_below (4096 - (c.args.params + length c.loop.locals)) c.args.scope c.loop.rest.now c.in_ok-more.after.now c.in_ok-more.more (rw room at c.in_ok-more.ensures) in
    omega (arith, below)

pub overflow_add-len : goal.overflow_add-len
overflow_add-len c =
    let room : c.saturating_sub-room.result ≡ 4096 - (c.args.params + length c.loop.locals) = omega arith in
    let below = count_below (4096 - (c.args.params + length c.loop.locals)) c.args.scope c.loop.rest.now c.in_ok-more.after.now c.in_ok-more.more (rw room at c.in_ok-more.ensures) in
    omega (arith, below)

pub loop-preserved : goal.loop-preserved
loop-preserved c =
    let most = c.args.count - (c.loop.counter + 1) in
    let k : c.args.count - c.loop.counter ≡ suc most = omega arith in
    let room : c.saturating_sub-room.result ≡ 4096 - (c.args.params + length c.loop.locals) = omega arith in
    let inv = rw k at c.loop.invariant.0 in
    let below = count_below (4096 - (c.args.params + length c.loop.locals)) c.args.scope c.loop.rest.now c.in_ok-more.after.now c.in_ok-more.more (rw room at c.in_ok-more.ensures) in
    let one = locals_go c.args.params most c.in_ok-more.more c.loop.locals c.args.scope c.loop.rest.now c.in_ok-more.after.now c.in_ok-kind.after.now c.in_ok-kind.kind (rw room at c.in_ok-more.ensures) c.in_ok-kind.ensures in
    rw c.in_ok-locals.ensures (
      sym one ∙ inv,
      omega (arith, length-append c.loop.locals (replicate c.in_ok-more.more c.in_ok-kind.kind), length-replicate c.in_ok-more.more c.in_ok-kind.kind),
      omega (arith, below),
    )

pub returns : goal.returns
returns c =
    let k : c.args.count - c.loop.counter ≡ 0 = omega arith in
    let inv = rw k at c.loop.invariant.0 in
    sym inv ∙ locals_done c.args.params c.loop.locals c.args.scope c.loop.rest.now
