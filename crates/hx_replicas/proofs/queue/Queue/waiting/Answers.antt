use Rattle.std.proofs.Common.{sym, ◌∙◌, vec_len, arith}
use Rattle.std.proofs.lemmas.Grind.{common_steps}
use Rattle.hx_replicas.specs.Queues.{entries_of}
use Rattle.hx_replicas.proofs.Queues.{here, one_passed, only_entries, only_held}
use Rattle.hx_replicas.proofs.queue.Queue.waiting.Goals as goal
use Rattle.hx_links.proofs.Walking.{value_of_one, next_of_one}

pub get-requires : goal.get-requires
get-requires c =
    let es = entries_of c.self.inside.pool.lists in
    let there = (here es (vec_len c.loop-at.found) c.loop-at.at c.loop-at.found.items c.in-Some.node c.self.invariant.once c.loop-at.invariant c.in-Some.is).held in
    only_held c.self.inside.list c.self.inside.pool.lists c.in-Some.node c.self.invariant.one there

pub loop-at-preserved : goal.loop-at-preserved
loop-at-preserved c =
    let lists = c.self.inside.pool.lists in
    let es = entries_of lists in
    let there = (here es (vec_len c.loop-at.found) c.loop-at.at c.loop-at.found.items c.in-Some.node c.self.invariant.once c.loop-at.invariant c.in-Some.is).held in
    let only = only_entries c.self.inside.list lists c.in-Some.node c.self.invariant.one there in
    let value = sym (value_of_one lists es c.in-Some.node only there) ∙ c.get.ensures in
    let next = c.next-at.ensures ∙ next_of_one lists es c.in-Some.node only there in
    let passed = one_passed es (vec_len c.loop-at.found) c.loop-at.at c.loop-at.found.items c.in-Some.node c.self.invariant.once c.loop-at.invariant c.in-Some.is c.get.result.now value in
    rw (c.in_ok-push.ensures.items, c.in_ok-push.ensures.len, next) passed

pub loop-at-smaller : goal.loop-at-smaller
loop-at-smaller c = grind (arith, common_steps)
