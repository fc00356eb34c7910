use Rattle.std.proofs.Common.{rules}
use Rattle.hx_cluster.specs.Steps.{opening}
use Rattle.hx_script.proofs.Entries.{printed_more, log_more}
use Rattle.hx_script.proofs.history.Printer.entry.Goals as goal

pub returns-clause-gained : goal.returns-clause-gained
returns-clause-gained g c = log_more c.args.spec.now (opening c.args.spec.now) g.printed c.args.entry.now

pub returns-clause-ok : goal.returns-clause-ok
returns-clause-ok g c = search (rules, printed_more)
