use Rattle.std.proofs.Common.{◌≡◌, Some, true, false, sym, ◌∙◌, subst}
use Rattle.hx_cluster.specs.declared.state.Cluster.{Cluster}
use Rattle.hx_cluster.specs.Ends.{instance_in, shown_of, is_live}
use Rattle.hx_records.proofs.Marked.{instance_found, live_found, dead_found, placed_dead, after_dead}
use Rattle.hx_records.proofs.Records.place_one.Goals as goal

pub returns-in_default-clause-placed : goal.returns-in_default-clause-placed
returns-in_default-clause-placed c =
    placed_dead c.args.self.now c.args.proposal.now
    (subst (λ (v : Cluster). is_live v.live c.args.proposal.now.session ≡ false) c.self.view_is
    (dead_found c.self.inside.sessions.live c.args.proposal.now.session (sym c.find.ensures.found ∙ c.in_default.is)))

pub place-requires-clause-instance : goal.place-requires-clause-instance
place-requires-clause-instance c =
    subst (λ (v : Cluster). instance_in (shown_of v.live) c.args.proposal.now.session ≡ Some c.in-Some.live.instance) c.self.view_is
    (instance_found c.self.inside.sessions.live c.args.proposal.now.session c.in-Some.live (sym c.find.ensures.found ∙ c.in-Some.is))

pub place-requires-clause-live : goal.place-requires-clause-live
place-requires-clause-live c =
    subst (λ (v : Cluster). is_live v.live c.args.proposal.now.session ≡ true) c.self.view_is
    (live_found c.self.inside.sessions.live c.args.proposal.now.session c.in-Some.live (sym c.find.ensures.found ∙ c.in-Some.is))

pub send-requires-clause-instance : goal.send-requires-clause-instance
send-requires-clause-instance c =
    subst (λ (v : Cluster). instance_in (shown_of v.live) c.args.proposal.now.session ≡ Some c.in-Some.live.instance) c.self.view_is
    (instance_found c.self.inside.sessions.live c.args.proposal.now.session c.in-Some.live (sym c.find.ensures.found ∙ c.in-Some.is))

pub returns-in_default-clause-ok : goal.returns-in_default-clause-ok
returns-in_default-clause-ok c =
    after_dead c.args.self.now c.args.proposal.now
    (subst (λ (v : Cluster). is_live v.live c.args.proposal.now.session ≡ false) c.self.view_is
    (dead_found c.self.inside.sessions.live c.args.proposal.now.session (sym c.find.ensures.found ∙ c.in_default.is)))
