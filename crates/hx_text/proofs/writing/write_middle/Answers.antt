use Rattle.std.proofs.Common.{arith}
use Rattle.hx_text.proofs.Numbers.{decimal_pair, length_pair}
use Rattle.hx_text.proofs.Printing.{writes_then}
use Rattle.hx_text.proofs.writing.write_middle.Goals as goal

pub write_short-between-requires : goal.write_short-between-requires
write_short-between-requires c = (omega (arith, c.requires.0), omega (arith, c.requires.1, length_pair c.args.n c.if-n-lt100.false c.ranges.n.fits))

pub write_pair-requires : goal.write_pair-requires
write_pair-requires c =
    let before = c.write_short-between.ensures in
    (omega arith, omega (arith, c.requires.1, length_pair c.args.n c.if-n-lt100.false c.ranges.n.fits, before.text_end, before.same_length))

pub returns : goal.returns
returns c = rw (decimal_pair c.args.n c.if-n-lt100.false c.ranges.n.fits) (writes_then c.write_short-between.ensures c.write_pair.ensures)
