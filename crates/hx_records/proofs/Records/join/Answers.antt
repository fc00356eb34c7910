use Rattle.std.proofs.Common.{◌≡◌, ◌<◌, true, length, ap, ◌∙◌, arith}
use Rattle.std.specs.Prelude.{nat_lt}
use Rattle.std.proofs.lemmas.Bool.Decides.{nat_tests}
use Rattle.hx_ids.specs.Sessions.{no_later}
use Rattle.hx_cluster.specs.declared.state.Cluster.{Cluster}
use Rattle.hx_cluster.specs.Steps.{already_live, live_of}
use Rattle.hx_records.specs.Records.{seen}
use Rattle.hx_records.proofs.Seating.{none_later_than}
use Rattle.hx_records.proofs.Insides.{joined}
use Rattle.hx_records.proofs.Stepping.{free_none}
use Rattle.hx_records.proofs.Records.join.Goals as goal

pub open-requires-clause-clock : goal.open-requires-clause-clock
open-requires-clause-clock c =
    ap (λ (x : Cluster). no_later x.clock x.live) c.self.view_is ∙ none_later_than 0 c.args.self.now.live c.args.self.now.clock c.requires.whole.seated.beats

pub invariant_of-self-2 : goal.invariant_of-self-2
invariant_of-self-2 c =
    let i = c.args.instance in
    let range : nat_lt i.0 (length c.args.self.now.instances) ≡ true = c.requires.range in
    let there : i.0 < length c.args.self.now.instances = grind (arith, nat_tests, range) in
    let same = ap (λ (x : Cluster). length x.instances) c.self.view_is in
    let free = ap (λ (x : Cluster). already_live (live_of x.live i)) c.self.view_is ∙ c.requires.may in
    joined c.self.inside c.open.new.self c.set.new.self i c.in_ok-session.session c.self.invariant (rw (← c.self.view_is) at c.requires.whole)
    (free_none (seen c.self.inside) i free) (omega (arith, there, same, c.self.invariant.places))
    c.in_ok-session.ensures.session c.in_ok-session.ensures.ok c.set.ensures
