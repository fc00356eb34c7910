use Rattle.std.proofs.Common.{rules, arith, length, ap}
use Rattle.std.proofs.lemmas.Fmt.{decimal_digit}
use Rattle.std.proofs.lemmas.List.{take_more_set}
use Rattle.hx_text.proofs.Numbers.{decimal_two}
use Rattle.hx_text.proofs.writing.write_short.Goals as goal

pub bounds-bytes-at : goal.bounds-bytes-at
bounds-bytes-at c = omega (arith, c.requires.1, ap length (decimal_digit c.args.n c.if-n-lt10.true))

pub returns-then-n-lt10 : goal.returns-then-n-lt10
returns-then-n-lt10 c =
    let inside = bounds-bytes-at c in
    rw (decimal_digit c.args.n c.if-n-lt10.true) (search (rules, take_more_set))

pub write_pair-requires : goal.write_pair-requires
write_pair-requires c =
    let two = ap length (decimal_two c.args.n c.if-n-lt10.false c.requires.0) in
    (c.requires.0, omega (arith, c.requires.1, two))

pub returns : goal.returns
returns c = rw (decimal_two c.args.n c.if-n-lt10.false c.requires.0) c.write_pair.ensures
