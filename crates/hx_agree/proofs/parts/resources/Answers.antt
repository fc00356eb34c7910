use Rattle.std.proofs.Common.{◌≤◌, List, length, ap, arith}
use Rattle.hx_cluster.specs.declared.description.Resource.{Resource}
use Rattle.hx_agree.proofs.Boards.{few_resources}
use Rattle.hx_agree.proofs.parts.resources.Goals as goal

pub overflow_cast-result : goal.overflow_cast-result
overflow_cast-result c =
    let b = c.args.board.now in
    let few : length b.cluster.resources ≤ 256 = few_resources b c.history.ensures.history in
    let same = ap (λ (xs : List Resource). length xs) c.resources.ensures in
    omega arith
