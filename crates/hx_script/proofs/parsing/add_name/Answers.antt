use Rattle.std.proofs.Common.{rules}
use Rattle.hx_script.proofs.Shapes.{words_2_and_more}
use Rattle.hx_script.proofs.parsing.add_name.Goals as goal

pub returns-in_ok-intern-clause-ok : goal.returns-in_ok-intern-clause-ok
returns-in_ok-intern-clause-ok c = rw (words_2_and_more c.args.words.now c.in-len2-up.len_at_least) (search rules)
