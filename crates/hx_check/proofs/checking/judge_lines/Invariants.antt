use Rattle.hx_check.proofs.Streaming.{IsJudgedTo}
use Rattle.hx_check.proofs.checking.judge_lines.Given as goal

abbrev pub invariant-loop-place : goal.invariant-loop-place
invariant-loop-place l = IsJudgedTo l.fn.spec l.fn.judge l.lines l.spec l.judge l.place l.entries l.begun
