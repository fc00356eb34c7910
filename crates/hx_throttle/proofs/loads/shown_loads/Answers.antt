use Rattle.std.proofs.Common.{List, take, sym, subst, arith}
use Rattle.std.proofs.lemmas.Grind.{common_steps, take_at_read}
use Rattle.hx_cluster.specs.declared.state.Message.{Message}
use Rattle.hx_cluster.specs.Ends.{load_over}
use Rattle.hx_throttle.specs.Loads.{AreLoads}
use Rattle.hx_throttle.proofs.loads.shown_loads.Goals as goal
use Rattle.hx_cluster.proofs.Absent.{no_message}

pub loop-message-preserved : goal.loop-message-preserved
loop-message-preserved c =
    let at = c.loop-message in
    let i = at.message-index in
    let mail = c.args.mail.now in
    subst (λ (ms : List Message). AreLoads c.args.rules.now (load_over c.args.shown.now ms) c.count_shown.new.loads)
    (sym (take_at_read mail i no_message c.loop-message-test.true).1)
    (c.in_ok-count_shown.ensures (take i mail) at.invariant)

pub returns : goal.returns
returns c = λ n r key at. grind (arith, common_steps, c.loop-message.invariant n r key at)
