use Rattle.std.proofs.Common.{rules, arith}
use Rattle.std.proofs.lemmas.Grind.{common_steps}
use Rattle.hx_text.proofs.Numbers.{most_digits}
use Rattle.hx_text.proofs.pages.Page.push_u64.Goals as goal

pub returns-clause-ok : goal.returns-clause-ok
returns-clause-ok c = grind (arith, common_steps)

pub write_u64-self-inside-requires : goal.write_u64-self-inside-requires
write_u64-self-inside-requires c =
    let short = most_digits c.args.n c.ranges.n.fits in
    search rules

pub invariant_of-self-2 : goal.invariant_of-self-2
invariant_of-self-2 c = grind (arith, common_steps)
