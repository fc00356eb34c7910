use Rattle.hx_text.proofs.LineFaults.{fault-not_utf8, fault-long, fault-none}
use Rattle.hx_text.proofs.line_table.check_line.Goals as goal

pub returns-in-Err-clause-err : goal.returns-in-Err-clause-err
returns-in-Err-clause-err c = fault-not_utf8 c.args.most c.args.number c.args.line.now c.in-Err.ensures.cases.0

pub returns-in-Ok-clause-err : goal.returns-in-Ok-clause-err
returns-in-Ok-clause-err c = fault-long c.args.most c.args.number c.args.line.now c.in-Ok.ensures.cases.1 c.if-line-most.true

pub returns-in-Ok-2-clause-ok : goal.returns-in-Ok-2-clause-ok
returns-in-Ok-2-clause-ok c = (c.in-Ok.ensures.cases.0, fault-none c.args.most c.args.number c.args.line.now c.in-Ok.ensures.cases.1 c.if-line-most.false)
