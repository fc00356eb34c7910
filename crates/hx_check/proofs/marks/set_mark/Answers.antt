use Rattle.std.proofs.Common.{◌≡◌, ◌+◌, ◌-◌, ◌++◌, List, ℕ, length, replicate, set, ap, ◌∙◌, arith}
use Rattle.std.proofs.lemmas.List.{length-append, length-replicate}
use Rattle.hx_check.proofs.Padded.{padded_set, padded_more}
use Rattle.hx_check.proofs.marks.set_mark.Goals as goal

pub loop-made-preserved : goal.loop-made-preserved
loop-made-preserved c = record {
  items = padded_more c.args.marks.now.items c.loop-made.marks.items c.push.new.self.items c.loop-made._made (omega arith) c.loop-made.invariant.items c.in_ok-push.ensures.items;
  near = omega arith;
}

pub returns : goal.returns
returns c =
    let place = c.args.session.0 in
    let long = length c.args.marks.now.items in
    let same : c.loop-made._made - long ≡ place + 1 - long = omega arith in
    ap (λ (l : List ℕ). set l place c.args.next) (c.loop-made.invariant.items ∙ ap (λ (n : ℕ). c.args.marks.now.items ++ replicate n 0) same)
    ∙ padded_set c.args.marks.now.items place c.args.next

pub index_mut-requires : goal.index_mut-requires
index_mut-requires c =
    let long = length c.args.marks.now.items in
    omega (arith, ap length c.loop-made.invariant.items, length-append c.args.marks.now.items (replicate (c.loop-made._made - long) 0), length-replicate {A = ℕ} (c.loop-made._made - long) 0)
