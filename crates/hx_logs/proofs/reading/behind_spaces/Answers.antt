use Rattle.std.proofs.Common.{arith}
use Rattle.std.proofs.lemmas.Str.{IsCharBoundary-after_ascii}
use Rattle.hx_logs.proofs.Walking.{spaces_at}
use Rattle.hx_logs.proofs.reading.behind_spaces.Goals as goal

pub range_from-requires : goal.range_from-requires
range_from-requires c = λ _.
    let at = spaces_at c.args.line.now c.requires in
    IsCharBoundary-after_ascii c.args.line.now 1 c.utf8.line (omega (arith, at.0)) (omega (arith, at.1))
