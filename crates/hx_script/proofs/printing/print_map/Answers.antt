use Rattle.std.proofs.Common.{rules, sym, ◌≡◌}
use Rattle.hx_script.proofs.printing.print_map.Goals as goal

pub returns : goal.returns
returns c = let same : c.as_slice.result.now ≡ c.args.map.now = search rules in rw (sym same) c.print_with_part.ensures
