use Rattle.std.proofs.Common.{◌≡◌, ◌==◌, true, None, get_or, ap, sym, ◌∙◌, arith}
use Rattle.std.proofs.lemmas.Bool.Decides.{nat_tests}
use Rattle.std.proofs.lemmas.List.{get_or_default}
use Rattle.hx_ids.specs.declared.SessionId.{SessionId}
use Rattle.hx_ids.specs.declared.InstanceId.{InstanceId}
use Rattle.hx_best.specs.declared.visits.Visit.{Visit}
use Rattle.hx_best.proofs.Gathered.{own_visited}
use Rattle.hx_best.proofs.marks.has_session.Goals as goal

pub returns-then-eq : goal.returns-then-eq
returns-then-eq c _ =
    let v : Visit = get_or c.args.visits.now c.loop-visit.visit-index (record { number = 0; mark = None }) in
    let e : SessionId × InstanceId = (record { 0 = 0 }, record { 0 = 0 }) in
    let test : ((get_or c.args.live.now v.number e).0.0 == c.args.session.0) ≡ true = sym c.if-eq.ensures in
    let same : (get_or c.args.live.now v.number e).0.0 ≡ c.args.session.0 = grind (arith, nat_tests, test) in (
      v.number,
      c.if-visit-live.true,
      own_visited c.args.visits.now c.loop-visit.visit-index (record { number = 0; mark = None }) c.loop-visit-test.true,
      λ d. ap (λ (s : SessionId × InstanceId). s.0.0) (get_or_default c.args.live.now v.number d e c.if-visit-live.true) ∙ same,
    )
