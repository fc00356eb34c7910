use Rattle.std.proofs.Common.{◌∙◌, List, sym, ap, subst}
use Rattle.std.specs.Prelude.{true, false, is_some}
use Rattle.hx_cluster.specs.declared.planning.Candidate.{Candidate}
use Rattle.hx_throttle.specs.Loads.{AreLoads}
use Rattle.hx_throttle.specs.Throttle.{loading}
use Rattle.hx_throttle.proofs.Walk.{keyed_is, found_some, sent_where_none, chosen_sent, chosen_held, loads_sent}
use Rattle.hx_throttle.proofs.send_if_allowed.Goals as goal

pub returns-then-is_some : goal.returns-then-is_some
returns-then-is_some c =
    let sent = c.args.sent.now in
    let candidate = c.args.candidate.now in
    record {
      chosen = λ view shown loads.
          let found = sym (ap is_some (c.first_holding-holding.ensures view sent candidate (keyed_is view _ _ candidate _ shown c.transition.ensures c.keyed-keyed.ensures) loads)) ∙ found_some _ _ ∙ sym c.is_some.ensures ∙ c.if-is_some.true in
          chosen_held c.args.rules.now view sent candidate (sent_where_none c.args.rules.now view sent candidate false found);
      counted = λ view shown loads. loads;
      holding = λ view shown loads.
          c.first_holding-holding.ensures view sent candidate (keyed_is view _ _ candidate _ shown c.transition.ensures c.keyed-keyed.ensures) loads;
    }

pub returns : goal.returns
returns c =
    let rules = c.args.rules.now in
    let sent = c.args.sent.now in
    let candidate = c.args.candidate.now in
    record {
      chosen = λ view shown loads.
          let is = keyed_is view _ _ candidate _ shown c.transition.ensures c.keyed-keyed.ensures in
          let found = sym (ap is_some (c.first_holding-holding.ensures view sent candidate is loads)) ∙ found_some _ _ ∙ sym c.is_some.ensures ∙ c.if-is_some.false in
          c.in_ok-push.ensures.ok ∙ chosen_sent rules view sent candidate (sent_where_none rules view sent candidate true found);
      counted = λ view shown loads.
          let is = keyed_is view _ _ candidate _ shown c.transition.ensures c.keyed-keyed.ensures in
          let new = c.count.new.loads in
          subst (λ (xs : List Candidate). AreLoads rules (loading view xs) new) (sym c.in_ok-push.ensures.ok)
          (loads_sent rules view sent c.args.loads.now new candidate c.keyed-keyed.result is c.in_ok-count.ensures loads);
      holding = λ view shown loads.
          c.first_holding-holding.ensures view sent candidate (keyed_is view _ _ candidate _ shown c.transition.ensures c.keyed-keyed.ensures) loads;
    }
