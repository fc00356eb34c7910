use Rattle.std.proofs.Common.{arith}
use Rattle.hx_text.proofs.Numbers.{decimal_pair, length_pair}
use Rattle.hx_text.proofs.Printing.{writes_then}
use Rattle.hx_text.proofs.writing.+write_long.Goals as goal

pub write_middle-between-requires : goal.write_middle-between-requires
write_middle-between-requires t c =
    (omega (arith, c.if-n-lt1000000.true), omega (arith, c.requires.1, length_pair c.args.n c.requires.0 c.ranges.n.fits))

pub write_pair-requires : goal.write_pair-requires
write_pair-requires t c =
    let before = c.write_middle-between.ensures in
    (omega arith, omega (arith, c.requires.1, length_pair c.args.n c.requires.0 c.ranges.n.fits, before.text_end, before.same_length))

pub returns-then-n-lt1000000 : goal.returns-then-n-lt1000000
returns-then-n-lt1000000 t c = rw (decimal_pair c.args.n c.requires.0 c.ranges.n.fits) (writes_then c.write_middle-between.ensures c.write_pair.ensures)

pub write_long-between-requires : goal.write_long-between-requires
write_long-between-requires t c =
    (omega (arith, c.decreases, c.requires.0), (omega (arith, c.if-n-lt1000000.false), omega (arith, c.requires.1, length_pair c.args.n c.requires.0 c.ranges.n.fits)))

pub write_pair-requires-2 : goal.write_pair-requires-2
write_pair-requires-2 t c =
    let before = c.write_long-between.ensures in
    (omega arith, omega (arith, c.requires.1, length_pair c.args.n c.requires.0 c.ranges.n.fits, before.text_end, before.same_length))

pub returns : goal.returns
returns t c = rw (decimal_pair c.args.n c.requires.0 c.ranges.n.fits) (writes_then c.write_long-between.ensures c.write_pair-2.ensures)
