use Rattle.std.proofs.Common.{ℕ, List, [], sym, subst, arith}
use Rattle.std.proofs.lemmas.Grind.{common_steps}
use Rattle.http_text.specs.Chunks.{IsChunked, GoesWrong, GoesOver}
use Rattle.http_text.proofs.BodyRuns.{ReadsChunks, no_reads, chunks_taken, told_as, paid, chunks_read, chunks_end, chunks_over, chunks_bad, ended_gives}
use Rattle.http_text.proofs.ChunkLaws.{none_behind}
use Rattle.edge_outside.specs.Reads.{OneRead}
use Rattle.http_text.proofs.bodies.chunked_body.Goals as goal

pub loop-used-init : goal.loop-used-init
loop-used-init g c = record {
  reads = subst (λ (t : List ℕ). ReadsChunks (OneRead g.S.Source.reads g.S.Source.faults g.S.Source.content) c.args.source.now c.args.ahead.now t c.args.ahead.now c.args.source.now)
      (sym c.new-body.ensures.items) (no_reads c.args.source.now c.args.ahead.now);
  fits = grind (arith, common_steps);
  few = omega (arith, c.requires);
}

pub returns-in-Last : goal.returns-in-Last
returns-in-Last g c =
    let more = chunks_taken c.args.source.now c.args.ahead.now c.loop-used.body.items c.loop-used.ahead c.take_chunks.new.body.items c.pass.new.self c.bytes.result.now c.in-Ok.used c.loop-used.source
    c.loop-used.invariant.reads c.bytes.ensures c.pass.ensures c.in-Ok.ensures.chunks in
    let told = told_as c.bytes.result.now c.loop-used.ahead c.pass.new.self c.in-Ok.used _ c.in-Ok.then _ c.bytes.ensures c.pass.ensures c.in-Ok.ensures.tells c.in-Last.is in
    rw (c.in-Ok-from_vec.ensures, c.pass-in-Last.ensures) (chunks_end c.args.source.now c.args.ahead.now c.take_chunks.new.body.items c.pass.new.self c.loop-used.source 0 c.in-Last.end
    (grind (arith, common_steps)) more told)

pub returns-in-Over : goal.returns-in-Over
returns-in-Over g c =
    let more = chunks_taken c.args.source.now c.args.ahead.now c.loop-used.body.items c.loop-used.ahead c.take_chunks.new.body.items c.pass.new.self c.bytes.result.now c.in-Ok.used c.loop-used.source
    c.loop-used.invariant.reads c.bytes.ensures c.pass.ensures c.in-Ok.ensures.chunks in
    let told = told_as c.bytes.result.now c.loop-used.ahead c.pass.new.self c.in-Ok.used _ c.in-Ok.then _ c.bytes.ensures c.pass.ensures c.in-Ok.ensures.tells c.in-Over.is in
    chunks_over c.args.source.now c.args.ahead.now c.take_chunks.new.body.items c.pass.new.self c.loop-used.source _ (grind (arith, common_steps)) more told (grind (arith, common_steps))

pub returns-in-Bad : goal.returns-in-Bad
returns-in-Bad g c =
    let more = chunks_taken c.args.source.now c.args.ahead.now c.loop-used.body.items c.loop-used.ahead c.take_chunks.new.body.items c.pass.new.self c.bytes.result.now c.in-Ok.used c.loop-used.source
    c.loop-used.invariant.reads c.bytes.ensures c.pass.ensures c.in-Ok.ensures.chunks in
    let told = told_as c.bytes.result.now c.loop-used.ahead c.pass.new.self c.in-Ok.used _ c.in-Ok.then _ c.bytes.ensures c.pass.ensures c.in-Ok.ensures.tells c.in-Bad.is in
    chunks_bad c.args.source.now c.args.ahead.now c.take_chunks.new.body.items c.pass.new.self c.loop-used.source _ (grind (arith, common_steps)) more told (grind (arith, common_steps))

pub returns-in-Err : goal.returns-in-Err
returns-in-Err g c =
    let more = chunks_taken c.args.source.now c.args.ahead.now c.loop-used.body.items c.loop-used.ahead c.take_chunks.new.body.items c.pass.new.self c.bytes.result.now c.in-Ok.used c.loop-used.source
    c.loop-used.invariant.reads c.bytes.ensures c.pass.ensures c.in-Ok.ensures.chunks in
    let told = told_as c.bytes.result.now c.loop-used.ahead c.pass.new.self c.in-Ok.used _ c.in-Ok.then _ c.bytes.ensures c.pass.ensures c.in-Ok.ensures.tells c.in-Open.is in
    rw c.ended.ensures
    (ended_gives IsChunked GoesWrong GoesOver c.args.source.now c.args.ahead.now more.known c.fill.new.self c.loop-used.source c.fill.new.source c.in-Err.fault more.reads
    (none_behind more.known [] c.take_chunks.new.body.items c.pass.new.self more.before told.0)
    c.in-Err.ensures.ended c.in-Err.ensures.failed c.in-Err.ensures.memory)

pub loop-used-preserved : goal.loop-used-preserved
loop-used-preserved g c =
    let more = chunks_taken c.args.source.now c.args.ahead.now c.loop-used.body.items c.loop-used.ahead c.take_chunks.new.body.items c.pass.new.self c.bytes.result.now c.in-Ok.used c.loop-used.source
    c.loop-used.invariant.reads c.bytes.ensures c.pass.ensures c.in-Ok.ensures.chunks in
    let told = told_as c.bytes.result.now c.loop-used.ahead c.pass.new.self c.in-Ok.used _ c.in-Ok.then _ c.bytes.ensures c.pass.ensures c.in-Ok.ensures.tells c.in-Open.is in
    record {
      reads = chunks_read c.args.source.now c.args.ahead.now c.take_chunks.new.body.items c.pass.new.self c.fill.new.self c.loop-used.source c.fill.new.source more told.0
          c.in_default-fill.ensures.grows c.in_default-fill.ensures.kept c.in_default-fill.ensures.piece;
      fits = omega (arith, c.take_chunks.ensures.fits);
      few = omega (arith, told.1, c.fill.ensures.most);
    }

pub loop-used-smaller : goal.loop-used-smaller
loop-used-smaller g c =
    let more = chunks_taken c.args.source.now c.args.ahead.now c.loop-used.body.items c.loop-used.ahead c.take_chunks.new.body.items c.pass.new.self c.bytes.result.now c.in-Ok.used c.loop-used.source
    c.loop-used.invariant.reads c.bytes.ensures c.pass.ensures c.in-Ok.ensures.chunks in
    let told = told_as c.bytes.result.now c.loop-used.ahead c.pass.new.self c.in-Ok.used _ c.in-Ok.then _ c.bytes.ensures c.pass.ensures c.in-Ok.ensures.tells c.in-Open.is in
    let less = paid c.loop-used.body.items c.loop-used.ahead c.take_chunks.new.body.items c.pass.new.self c.bytes.result.now c.in-Ok.used c.bytes.ensures c.pass.ensures c.in-Ok.ensures.chunks in
    omega (arith, less, told.1, c.fill.ensures.most, c.in_default-fill.ensures.grows, c.take_chunks.ensures.fits, c.loop-used.invariant.fits, c.loop-used.invariant.few)

pub returns-in_default : goal.returns-in_default
returns-in_default g c =
    (c.loop-used.invariant.reads.known, c.loop-used.invariant.reads.reads, tt)
