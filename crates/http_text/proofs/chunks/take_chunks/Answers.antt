use Rattle.std.proofs.Common.{arith}
use Rattle.std.proofs.lemmas.Grind.{common_steps}
use Rattle.http_text.specs.Fields.{most_body}
use Rattle.http_text.proofs.ChunkRuns.{told_more}
use Rattle.http_text.proofs.chunks.take_chunks.Goals as goal

pub loop-start-preserved : goal.loop-start-preserved
loop-start-preserved c =
    let told = told_more c.args.bytes.now c.args.body.now.items c.loop-start.body.items c.extend_from_slice.new.self.items c.after-rest.result.now c.loop-start.at
    c.in-Chunk.start c.in-Chunk.end c.in-Chunk.next _ most_body c.loop-start.invariant.within (omega (arith, c.loop-start.invariant.fits)) c.loop-start.invariant.chunks
    c.after-rest.ensures c.in-Chunk.ensures (grind (arith, common_steps)) (grind (arith, common_steps)) in
    record { within = told.within; fits = omega (arith, told.fits); chunks = told.chunks }

pub returns-in-Open-clause-tells : goal.returns-in-Open-clause-tells
returns-in-Open-clause-tells c = rw (c.after-rest.ensures, c.len.ensures) at c.in-Open.ensures

pub returns-in-Bad-clause-tells : goal.returns-in-Bad-clause-tells
returns-in-Bad-clause-tells c = rw (c.after-rest.ensures, c.len.ensures) at c.in-Bad.ensures
