use Rattle.std.proofs.Common.{map, drop}
use Rattle.hx_print.specs.Texts.{spaced, instance_name}
use Rattle.hx_text.proofs.Printing.{IsMidway}
use Rattle.hx_print.proofs.lines.print_instances.Given as goal

-- what is printed and what is left are the whole
abbrev pub invariant-loop-instance : goal.invariant-loop-instance
invariant-loop-instance l = IsMidway (spaced (map (instance_name l.spec) l.list)) l.fn.page l.page (spaced (map (instance_name l.spec) (drop l.instance-index l.list)))
