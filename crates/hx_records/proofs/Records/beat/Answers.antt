use Rattle.std.proofs.Common.{◌≡◌, Some, sym, ap, ◌∙◌}
use Rattle.hx_ids.specs.Sessions.{no_later}
use Rattle.hx_cluster.specs.declared.state.Cluster.{Cluster}
use Rattle.hx_cluster.specs.declared.happenings.Admin.TheVariants as steps
use Rattle.hx_cluster.specs.Steps.{session_of, after}
use Rattle.hx_records.specs.Records.{seen}
use Rattle.hx_records.proofs.Seating.{none_later_than}
use Rattle.hx_records.proofs.Insides.{heard}
use Rattle.hx_records.proofs.Stepping.{seen_heard}
use Rattle.hx_records.proofs.Records.beat.Goals as goal

pub beat-requires : goal.beat-requires
beat-requires c =
    ap (λ (x : Cluster). no_later x.clock x.live) c.self.view_is ∙ none_later_than 0 c.args.self.now.live c.args.self.now.clock c.requires.seated.beats

pub invariant_of-self : goal.invariant_of-self
invariant_of-self c =
    let at : session_of (seen c.self.inside) c.args.instance ≡ Some c.in-Some.session =
    ap (λ (x : Cluster). session_of x c.args.instance) c.self.view_is ∙ sym c.session_of.ensures ∙ c.in-Some.is in
    heard c.self.inside c.beat.new.self c.args.instance c.in-Some.session c.self.invariant (rw (← c.self.view_is) at c.requires) at c.beat.ensures.live c.beat.ensures.next

pub returns-in-Some : goal.returns-in-Some
returns-in-Some c =
    let at : session_of (seen c.self.inside) c.args.instance ≡ Some c.in-Some.session =
    ap (λ (x : Cluster). session_of x c.args.instance) c.self.view_is ∙ sym c.session_of.ensures ∙ c.in-Some.is in
    seen_heard c.self.inside c.beat.new.self c.args.instance c.in-Some.session (rw (← c.self.view_is) at c.requires) at c.beat.ensures.live
    ∙ ap (λ (x : Cluster). after x (steps.Beat c.args.instance)) c.self.view_is
