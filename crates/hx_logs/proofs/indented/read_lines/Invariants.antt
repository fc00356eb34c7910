use Rattle.std.proofs.Common.{◌≡◌, drop}
use Rattle.hx_script.proofs.AllWords.{behind}
use Rattle.hx_logs.proofs.IndentedLines.{told_lines}
use Rattle.hx_logs.proofs.indented.read_lines.Given as goal

-- what was read, and what is left
abbrev pub invariant-loop-line : goal.invariant-loop-line
invariant-loop-line g l = told_lines (g.F.LineForm.found l.form) l.lines ≡ behind l.all (told_lines (g.F.LineForm.found l.form) (drop l.line-index l.lines))
