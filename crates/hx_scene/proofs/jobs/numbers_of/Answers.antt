use Rattle.std.proofs.Common.{◌≡◌, ◌<◌, ◌==◌, ◌-◌, true, drop, length, arith, rules, sym, ap, ◌∙◌}
use Rattle.std.proofs.lemmas.Fn.{always_returns_same}
use Rattle.hx_lists.specs.Lists.{insert_by}
use Rattle.hx_scene.proofs.Numbers.{before, numbers_in, next_with}
use Rattle.hx_scene.proofs.jobs.numbers_of.Goals as goal

pub loop-i-preserved-then-eq : goal.loop-i-preserved-then-eq
loop-i-preserved-then-eq g c =
    let jobs = c.args.jobs.now in
    let j = c.index-jobs-i.result in
    let n = c.loop-i.i in
    let lt : n - 1 < length jobs = omega (arith, c.loop-i.auto.i) in
    let mine : (j.instance.0 == c.args.instance.0) ≡ true = search rules in
    let id : c.id-id.result ≡ j.ran.message.id = search rules in
    record {
      items = c.insert_reserved.ensures.items before (always_returns_same _ _ _ (λ a r q called. search rules))
          ∙ ap (λ ns. insert_by before c.id-id.result ns) c.loop-i.invariant.items
          ∙ ap (λ m. insert_by before m (numbers_in c.args.instance (drop n jobs))) id
          ∙ sym (next_with c.args.instance jobs n (n - 1) j (omega arith) lt c.index-jobs-i.is mine);
      room = omega (arith, c.loop-i.invariant.room, c.insert_reserved.ensures.len, c.insert_reserved.ensures.capacity);
    }
