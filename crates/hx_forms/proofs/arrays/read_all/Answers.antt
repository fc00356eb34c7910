use Rattle.std.proofs.Common.{◌≡◌, ℕ, ◌+◌, ◌-◌, length, subst, arith}
use Rattle.std.proofs.lemmas.Grind.{common_steps}
use Rattle.hx_forms.proofs.arrays.read_all.Goals as goal

pub read_next-requires : goal.read_next-requires
read_next-requires g c =
    let n = length c.args.values.now in
    let more = n - (c.loop-place.place + 1) in
    let one_more : n - c.loop-place.place ≡ more + 1 = omega arith in
    (more, subst (λ (m : ℕ). g.F.ItemForm.kept c.args.form.now m c.loop-place.items) one_more c.loop-place.invariant.kept)

pub returns-in-Err : goal.returns-in-Err
returns-in-Err g c = grind (arith, common_steps)

pub loop-place-preserved : goal.loop-place-preserved
loop-place-preserved g c = grind (arith, common_steps)

pub returns : goal.returns
returns g c = grind (arith, common_steps)
