use Rattle.std.proofs.Common.{sym, refl, ◌∙◌, arith}
use Rattle.line_reader.proofs.ByLines.{told_goes, told_bad}
use Rattle.line_reader.proofs.reader.read_lines.Goals as goal

pub returns-in-Err-Bad : goal.returns-in-Err-Bad
returns-in-Err-Bad g c =
    let machine = g.M.LineMachine.machine in
    let said = g.M.LineMachine.said in
    rw c.bad_line.ensures (
      c.loop-line.number,
      sym c.loop-line.invariant.0
          ∙ told_bad machine c.loop-line.number (said c.loop-line.state) c.loop-line.rest.now c.in-Some.line.now c.in-Some.after.now c.in-Some.ensures.parts (rw c.in-Err-Bad.field-0-is at c.in-Err-Bad.ensures.gives),
      refl,
    )

pub loop-line-preserved : goal.loop-line-preserved
loop-line-preserved g c =
    let machine = g.M.LineMachine.machine in
    let said = g.M.LineMachine.said in (
      sym (told_goes machine c.loop-line.number (said c.loop-line.state) (said c.in-Ok.next) c.loop-line.rest.now c.in-Some.line.now c.in-Some.after.now c.in-Some.ensures.parts c.in-Ok.ensures.gives)
          ∙ c.loop-line.invariant.0,
      c.in-Ok.ensures.stands,
      omega (arith, c.loop-line.invariant.2, c.in-Some.ensures.shorter),
    )
