use Rattle.std.proofs.Common.{Err, arith, subst, sym}
use Rattle.line_reader.specs.ByLines.{IsReadAs}
use Rattle.batch_files.specs.Begins.{IsCause}
use Rattle.batch_files.specs.Machine.{seen, LeadsTo, EndsWith}
use Rattle.batch_files.proofs.Found.{at_next, told_here, told_end, never_bad, only_this, file_found}
use Rattle.batch_files.proofs.reader.read_batch.Goals as goal

pub returns-in-Err-Bad-clause-line : goal.returns-in-Err-Bad-clause-line
returns-in-Err-Bad-clause-line c =
    let none = subst (λ fault. LeadsTo (seen c.loop-line.state) c.in-Some.line.now (Err fault)) c.in-Err-Bad.field-0-is c.in-Err-Bad.ensures in
    subst (IsCause c.args.bytes.now) (sym c.bad_line.ensures)
    (told_here c.args.bytes.now c.loop-line.rest.now c.in-Some.line.now c.in-Some.after.now c.loop-line.number c.loop-line.state c.if-bytes-gt-MOST_BYTES.false c.loop-line.invariant.0 c.loop-line.invariant.1 c.in-Some.ensures.parts none)

pub returns-in-Err-Bad-clause-only : goal.returns-in-Err-Bad-clause-only
returns-in-Err-Bad-clause-only c = λ file small is.
    let none = subst (λ fault. LeadsTo (seen c.loop-line.state) c.in-Some.line.now (Err fault)) c.in-Err-Bad.field-0-is c.in-Err-Bad.ensures in
    subst (λ fault. IsReadAs file (Err fault)) (sym c.bad_line.ensures) (never_bad c.args.bytes.now c.loop-line.number file small
    (told_here c.args.bytes.now c.loop-line.rest.now c.in-Some.line.now c.in-Some.after.now c.loop-line.number c.loop-line.state small c.loop-line.invariant.0 c.loop-line.invariant.1 c.in-Some.ensures.parts none) is)

pub loop-line-preserved : goal.loop-line-preserved
loop-line-preserved c = (
  at_next c.args.bytes.now c.loop-line.rest.now c.in-Some.line.now c.in-Some.after.now c.loop-line.number (seen c.loop-line.state) (seen c.in-Ok.next) c.loop-line.invariant.0 c.in-Some.ensures.parts c.in-Ok.ensures.0,
  c.in-Ok.ensures.1,
  omega (arith, c.loop-line.invariant.2, c.in-Some.ensures.shorter),
)

pub returns-in-Some-batch_of-clause-found : goal.returns-in-Some-batch_of-clause-found
returns-in-Some-batch_of-clause-found c =
    file_found c.args.bytes.now c.loop-line.rest.now c.loop-line.number c.loop-line.state c.in-Some-batch_of.file c.loop-line.invariant.0 c.loop-line.invariant.1 c.in_default.ensures.parts c.in-Some-batch_of.ensures

pub returns-in-Some-batch_of-clause-only : goal.returns-in-Some-batch_of-clause-only
returns-in-Some-batch_of-clause-only c = λ file small is.
    only_this c.args.bytes.now c.in-Some-batch_of.file file (returns-in-Some-batch_of-clause-found c) is

pub returns-in-None-clause-line : goal.returns-in-None-clause-line
returns-in-None-clause-line c =
    let none = subst (EndsWith c.loop-line.state c.loop-line.rest.now) c.in-None.is c.batch_of.ensures in
    subst (IsCause c.args.bytes.now) (sym c.bad_line-in-None.ensures)
    (told_end c.args.bytes.now c.loop-line.rest.now c.loop-line.number c.loop-line.state c.if-bytes-gt-MOST_BYTES.false c.loop-line.invariant.0 c.loop-line.invariant.1 c.in_default.ensures.parts none)

pub returns-in-None-clause-only : goal.returns-in-None-clause-only
returns-in-None-clause-only c = λ file small is.
    let none = subst (EndsWith c.loop-line.state c.loop-line.rest.now) c.in-None.is c.batch_of.ensures in
    subst (λ fault. IsReadAs file (Err fault)) (sym c.bad_line-in-None.ensures) (never_bad c.args.bytes.now c.loop-line.number file small
    (told_end c.args.bytes.now c.loop-line.rest.now c.loop-line.number c.loop-line.state small c.loop-line.invariant.0 c.loop-line.invariant.1 c.in_default.ensures.parts none) is)
