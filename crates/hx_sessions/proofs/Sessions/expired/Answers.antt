use Rattle.std.proofs.Common.{Some, sym, ◌∙◌, arith, vec_len}
use Rattle.hx_sessions.specs.Places.{entries_of, IsOnlyList}
use Rattle.hx_sessions.proofs.Keeping.{one_held}
use Rattle.hx_sessions.proofs.Passing.{here, one_passed, all_passed, at_end}
use Rattle.hx_sessions.proofs.Sessions.expired.Goals as goal
use Rattle.hx_sessions.proofs.Sessions.expired.Goals.{in-Some-at+then-saturating_sub-timeout, in_default-at}
use Rattle.hx_links.proofs.Walking.{value_of_one, next_of_one}

pub get-live-requires : goal.get-live-requires
get-live-requires c =
    let one : IsOnlyList (Some c.in-Some.order) c.self.inside.pool.lists = rw c.in-Some.is at c.self.invariant.one in
    let there = (here (entries_of c.self.inside.pool.lists) c.args.now c.args.timeout (vec_len c.loop-at.ended) c.loop-at.at c.loop-at.ended.items c.in-Some-at.node c.self.invariant.once c.loop-at.invariant c.in-Some-at.is).held in
    rw one.1 (one_held c.in-Some-at.node (entries_of c.self.inside.pool.lists) there)

pub loop-at-preserved : goal.loop-at-preserved
loop-at-preserved c =
    let one : IsOnlyList (Some c.in-Some.order) c.self.inside.pool.lists = rw c.in-Some.is at c.self.invariant.one in
    let there = (here (entries_of c.self.inside.pool.lists) c.args.now c.args.timeout (vec_len c.loop-at.ended) c.loop-at.at c.loop-at.ended.items c.in-Some-at.node c.self.invariant.once c.loop-at.invariant c.in-Some-at.is).held in
    let value = sym (value_of_one c.self.inside.pool.lists (entries_of c.self.inside.pool.lists) c.in-Some-at.node one.1 there) ∙ c.get-live.ensures in
    let next = c.next-at.ensures ∙ next_of_one c.self.inside.pool.lists (entries_of c.self.inside.pool.lists) c.in-Some-at.node one.1 there in
    let passed = one_passed (entries_of c.self.inside.pool.lists) c.args.now c.args.timeout (vec_len c.loop-at.ended) c.loop-at.at c.loop-at.ended.items c.in-Some-at.node c.self.invariant.once c.loop-at.invariant c.in-Some-at.is c.get-live.result.now value (omega arith) in
    rw (c.in_ok-push.ensures.items, c.in_ok-push.ensures.len, next) passed

pub returns-clause-ended : goal.returns-clause-ended
returns-clause-ended c =
    let one : IsOnlyList (Some c.in-Some.order) c.self.inside.pool.lists = rw c.in-Some.is at c.self.invariant.one in
    rw (← c.self.view_is) (elim c.match-at.branch [
      | in-Some-at+then-saturating_sub-timeout w ↦
          let there = (here (entries_of c.self.inside.pool.lists) c.args.now c.args.timeout (vec_len c.loop-at.ended) c.loop-at.at c.loop-at.ended.items w.in-Some-at.node c.self.invariant.once c.loop-at.invariant w.in-Some-at.is).held in
          let value = sym (value_of_one c.self.inside.pool.lists (entries_of c.self.inside.pool.lists) w.in-Some-at.node one.1 there) ∙ w.get-live.ensures in
          all_passed (entries_of c.self.inside.pool.lists) c.args.now c.args.timeout (vec_len c.loop-at.ended) c.loop-at.at c.loop-at.ended.items w.in-Some-at.node c.self.invariant.once c.loop-at.invariant w.in-Some-at.is w.get-live.result.now c.self.invariant.sessions.beats value (omega arith)
      | in_default-at w ↦ at_end (entries_of c.self.inside.pool.lists) c.args.now c.args.timeout (vec_len c.loop-at.ended) c.loop-at.at c.loop-at.ended.items c.loop-at.invariant w.in_default-at.is
    ])
