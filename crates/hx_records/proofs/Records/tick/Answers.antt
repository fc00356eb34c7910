use Rattle.std.proofs.Common.{◌≡◌, ◌≤◌, ◌+◌, ◌==◌, List, sym, ap, ◌∙◌, subst}
use Rattle.std.specs.List.{list_all}
use Rattle.hx_lists.specs.Lists.{count}
use Rattle.hx_ids.specs.declared.SessionId.{SessionId}
use Rattle.hx_cluster.specs.declared.state.Cluster.{Cluster}
use Rattle.hx_cluster.specs.Ends.{is_live}
use Rattle.hx_cluster.specs.Steps.{ended_by}
use Rattle.hx_safe.proofs.Whole.{IsWhole}
use Rattle.hx_records.proofs.Ending.{whole_tick, ended_live, ended_once}
use Rattle.hx_records.proofs.Stepping.{ended_in}
use Rattle.hx_records.proofs.Records.tick.Goals as goal

pub end_sessions-requires-clause-whole : goal.end_sessions-requires-clause-whole
end_sessions-requires-clause-whole c =
    subst (λ (x : Cluster). IsWhole (record x { clock = x.clock + c.args.n })) (sym c.self.view_is) (whole_tick c.args.self.now c.args.n c.requires.whole)

pub end_sessions-requires-clause-live : goal.end_sessions-requires-clause-live
end_sessions-requires-clause-live c =
    let k = c.args.self.now in
    let same : c.as_slice.result.now ≡ ended_by k c.args.n = c.as_slice.ensures ∙ ap ended_in (sym c.in-Ended.is ∙ c.requires.did) in
    ap (λ (ss : List SessionId). list_all (is_live c.self.inside.sessions.live) ss) same
    ∙ ap (λ (x : Cluster). list_all (is_live x.live) (ended_by k c.args.n)) c.self.view_is
    ∙ ended_live k.live (k.clock + c.args.n) k.timeout

pub end_sessions-requires-clause-distinct : goal.end_sessions-requires-clause-distinct
end_sessions-requires-clause-distinct c =
    let k = c.args.self.now in
    let same : c.as_slice.result.now ≡ ended_by k c.args.n = c.as_slice.ensures ∙ ap ended_in (sym c.in-Ended.is ∙ c.requires.did) in
    λ s. subst (λ (ss : List SessionId). count (λ x. x.0 == s.0) ss ≤ 1) (sym same) (ended_once k.live (k.clock + c.args.n) k.timeout c.requires.whole.kept.numbers s)
