use Rattle.std.proofs.Common.{◌≡◌, ℕ, ◌+◌, ◌≤◌, List, ◌++◌, length, take, length-append, arith}
use Rattle.std.proofs.lemmas.Grind.{common_steps}
use Rattle.std.proofs.lemmas.List.{length-take-le}
use Rattle.std.proofs.KnownBytes.{Consumes-trans}
use Rattle.hx_io.proofs.whole.read_all.Goals as goal

-- the bytes kept and those of the last piece
both : (kept buf : List ℕ) (n : ℕ) → n ≤ length buf → length (kept ++ take n buf) ≡ length kept + n
both kept buf n within = omega (arith, length-append kept (take n buf), length-take-le n buf within)

pub returns-then-n-limit-clause-too_long : goal.returns-then-n-limit-clause-too_long
returns-then-n-limit-clause-too_long g c = λ is.
    let kept = c.loop-bytes.bytes.items in (
      kept ++ take c.in_ok-n.n c.read.new.buf,
      Consumes-trans _ _ _ _ _ c.loop-bytes.invariant.taken c.in_ok-n.ensures.bytes.0,
      omega (arith, both kept c.read.new.buf c.in_ok-n.n c.in_ok-n.ensures.bound.0, c.if-n-limit.true, c.len.ensures),
    )

pub returns-in_err-extend_from_slice-clause-short_of_memory : goal.returns-in_err-extend_from_slice-clause-short_of_memory
returns-in_err-extend_from_slice-clause-short_of_memory g c = λ is.
    let kept = c.loop-bytes.bytes.items in (
      kept ++ take c.in_ok-n.n c.read.new.buf,
      Consumes-trans _ _ _ _ _ c.loop-bytes.invariant.taken c.in_ok-n.ensures.bytes.0,
      omega (arith, both kept c.read.new.buf c.in_ok-n.n c.in_ok-n.ensures.bound.0, c.if-n-limit.false, c.len.ensures),
    )

pub loop-bytes-preserved : goal.loop-bytes-preserved
loop-bytes-preserved g c = grind (arith, common_steps)
