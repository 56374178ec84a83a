use Rattle.std.proofs.Common.{◌≡◌, true, false, take, arith}
use Rattle.std.proofs.lemmas.Grind.{common_steps}
use Rattle.wasm_validate.specs.Parts.{any_named, exports_at}
use Rattle.wasm_validate.proofs.Names.{seen_more}
use Rattle.wasm_validate.proofs.parts.check_exports.Goals as goal

pub returns-then-not-branch : goal.returns-then-not-branch
unfolding exports_at
returns-then-not-branch c =
    let taken : any_named c.index-exports-i.result.name (take c.loop-i.i c.args.exports.now) ≡ true = grind (arith, common_steps, c.loop-i.invariant.seen c.items.result.now) in
    grind (arith, common_steps, taken)

pub loop-i-preserved : goal.loop-i-preserved
loop-i-preserved c =
    let free : any_named c.index-exports-i.result.name (take c.loop-i.i c.args.exports.now) ≡ false = grind (arith, common_steps, c.loop-i.invariant.seen c.items.result.now) in
    record {
      rest = grind (arith, common_steps, free);
      seen = seen_more c.args.exports.now c.loop-i.i c.index-exports-i.result c.loop-i.names c.insert.new.self c.items.result c.loop-i-test.true c.index-exports-i.is c.items.ensures c.in_ok-insert.ensures.updates c.loop-i.invariant.seen;
    }
