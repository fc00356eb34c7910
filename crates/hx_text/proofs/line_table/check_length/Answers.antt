use Rattle.hx_text.proofs.LineFaults.{fault-long, fault-none}
use Rattle.hx_text.proofs.line_table.check_length.Goals as goal

pub returns-then-line-most-clause-err : goal.returns-then-line-most-clause-err
returns-then-line-most-clause-err c = fault-long c.args.most c.args.number c.args.line.now c.utf8.line c.if-line-most.true

pub returns-clause-ok : goal.returns-clause-ok
returns-clause-ok c = fault-none c.args.most c.args.number c.args.line.now c.utf8.line c.if-line-most.false
