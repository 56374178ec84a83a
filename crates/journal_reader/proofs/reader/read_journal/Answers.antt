use Rattle.journal_reader.proofs.Found.{found, writable, only, line}
use Rattle.journal_reader.proofs.reader.read_journal.Goals as goal

pub returns-clause-found : goal.returns-clause-found
returns-clause-found c = found c.args.bytes.now c.read_lines.result c.read_lines.ensures

pub returns-clause-writable : goal.returns-clause-writable
returns-clause-writable c = writable c.args.bytes.now c.read_lines.result c.read_lines.ensures

pub returns-clause-only : goal.returns-clause-only
returns-clause-only c = λ journal fits e. only c.args.bytes.now c.read_lines.result journal c.read_lines.ensures fits e

pub returns-clause-line : goal.returns-clause-line
returns-clause-line c = line c.args.bytes.now c.read_lines.result c.read_lines.ensures
