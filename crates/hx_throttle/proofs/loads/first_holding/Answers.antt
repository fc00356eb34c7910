use Rattle.std.proofs.Common.{◌∙◌, ℕ, Some, get_or, refl, ap, arith}
use Rattle.hx_cluster.specs.declared.planning.Held.{Held}
use Rattle.std.proofs.lemmas.Bool.Decides.{nat_tests}
use Rattle.std.proofs.lemmas.Option.{slice_get-get_or}
use Rattle.hx_throttle.proofs.Walk.{load_found, matches_found, rule_passed, rule_holds, no_rule}
use Rattle.hx_throttle.proofs.loads.first_holding.Goals as goal
use Rattle.hx_throttle.proofs.loads.first_holding.Goals.{then-matches+else-rule-load, else-matches}

pub loop-place-preserved : goal.loop-place-preserved
loop-place-preserved c = λ view sent candidate is loads.
    let place = c.loop-place.place in
    let rules = c.args.rules.now in
    let here = slice_get-get_or rules place no_rule c.loop-place-test.true in
    let matched = matches_found view c.args.keyed candidate (get_or rules place no_rule) c.matches.result is c.matches.ensures in
    elim c.if-matches.branch [
      | then-matches+else-rule-load w ↦
          let load = load_found rules view sent c.args.loads.now c.args.keyed candidate place _ _ _ _ is loads here refl w.key.ensures w.load-load.ensures in
          rule_passed rules view sent candidate place no_rule c.loop-place-test.true (grind (arith, nat_tests, load, w.if-rule-load.false)) ∙ c.loop-place.invariant view sent candidate is loads
      | else-matches w ↦
          rule_passed rules view sent candidate place no_rule c.loop-place-test.true (grind (arith, nat_tests, matched, w.if-matches.false)) ∙ c.loop-place.invariant view sent candidate is loads
    ]

pub returns-then-rule-load : goal.returns-then-rule-load
returns-then-rule-load c = λ view sent candidate is loads.
    let place = c.loop-place.place in
    let rules = c.args.rules.now in
    let rule = get_or rules place no_rule in
    let here = slice_get-get_or rules place no_rule c.loop-place-test.true in
    let matched = matches_found view c.args.keyed candidate rule c.matches.result is c.matches.ensures in
    let load = load_found rules view sent c.args.loads.now c.args.keyed candidate place _ _ _ rule is loads here refl c.key.ensures c.load-load.ensures in
    ap (λ (k : ℕ). let h : Held = record { candidate = candidate; rule = place; load = k; limit = rule.limit } in Some h) load
    ∙ rule_holds rules view sent candidate place no_rule c.loop-place-test.true (grind (arith, nat_tests, load, matched, c.if-matches.true, c.if-rule-load.true))
    ∙ c.loop-place.invariant view sent candidate is loads
