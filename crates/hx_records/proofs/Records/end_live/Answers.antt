use Rattle.std.proofs.Common.{◌≡◌, Some, false, sym, ap, ◌∙◌}
use Rattle.std.specs.Prelude.{find, is_some}
use Rattle.hx_cluster.specs.declared.state.Cluster.{Cluster}
use Rattle.hx_cluster.specs.Ends.{is_session, is_live}
use Rattle.hx_records.proofs.Insides.{found_at}
use Rattle.hx_records.proofs.Seating.{live_found}
use Rattle.hx_records.proofs.Records.end_live.Goals as goal

pub end_session-requires-clause-session : goal.end_session-requires-clause-session
end_session-requires-clause-session c =
    let found : find (is_session c.args.session) c.args.self.now.live ≡ Some c.in-Some.live =
    ap (λ (x : Cluster). find (is_session c.args.session) x.live) (sym c.self.view_is) ∙ sym c.find.ensures.found ∙ c.in-Some.is in
    found_at c.args.self.now.live c.args.session c.in-Some.live found (c.requires.whole.seated.instances c.in-Some.live.instance)

pub returns-in_default : goal.returns-in_default
returns-in_default c =
    let none = ap (λ (x : Cluster). find (is_session c.args.session) x.live) (sym c.self.view_is) ∙ sym c.find.ensures.found ∙ c.in_default.is in
    let dead : is_live c.args.self.now.live c.args.session ≡ false = sym (live_found c.args.self.now.live c.args.session) ∙ ap is_some none in
    let both = sym c.requires.live ∙ dead in
    cc
