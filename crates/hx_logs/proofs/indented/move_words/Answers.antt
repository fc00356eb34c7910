use Rattle.std.proofs.Common.{rules, arith}
use Rattle.hx_script.proofs.Shapes.{words_5}
use Rattle.hx_logs.proofs.Shapes.{words_4, words_7, words_8, no_move}
use Rattle.hx_logs.proofs.indented.move_words.Goals as goal

pub returns-in-len8 : goal.returns-in-len8
returns-in-len8 c = rw (words_8 c.args.words.now c.in-len8.len_at_least c.in-len8.len_below) (first_of (cc, search rules))

pub returns-in_default-2 : goal.returns-in_default-2
returns-in_default-2 c = grind (arith, no_move)

pub returns-in_default : goal.returns-in_default
returns-in_default c = grind (arith, no_move)

pub returns-in-len5 : goal.returns-in-len5
returns-in-len5 c = rw (words_5 c.args.words.now c.in-len5.len_at_least c.in-len5.len_below) (first_of (cc, search rules))

pub returns-in-len7 : goal.returns-in-len7
returns-in-len7 c = rw (words_7 c.args.words.now c.in-len7.len_at_least c.in-len7.len_below) (first_of (cc, search rules))

pub returns-in_default-3 : goal.returns-in_default-3
returns-in_default-3 c = grind (arith, no_move)

pub returns-in-len4 : goal.returns-in-len4
returns-in-len4 c = rw (words_4 c.args.words.now c.in-len4.len_at_least c.in-len4.len_below) (first_of (cc, search rules))
