use Rattle.run_files.proofs.Found.{run_found, run_only, run_line}
use Rattle.run_files.proofs.reader.read_run.Goals as goal

pub returns-clause-found : goal.returns-clause-found
returns-clause-found c = run_found c.args.bytes.now c.read_lines.result c.read_lines.ensures

pub returns-clause-only : goal.returns-clause-only
returns-clause-only c = λ run fits small e. run_only c.args.bytes.now c.read_lines.result run c.read_lines.ensures fits e

pub returns-clause-line : goal.returns-clause-line
returns-clause-line c = run_line c.args.bytes.now c.read_lines.result c.read_lines.ensures (c.if-bytes-gt-MOST_BYTES.false)
