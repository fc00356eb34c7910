use Rattle.std.proofs.Common.{◌≡◌, ◌≤◌, List, Option, ap, ◌∙◌, subst, arith}
use Rattle.hx_lists.specs.Lists.{count}
use Rattle.hx_ids.specs.declared.SessionId.{SessionId}
use Rattle.hx_ids.specs.declared.Live.{Live}
use Rattle.hx_cluster.specs.declared.state.Cluster.{Cluster}
use Rattle.hx_cluster.specs.Ends.{is_session}
use Rattle.hx_sessions.specs.Sessions.{first_live, live_after}
use Rattle.hx_records.proofs.Sitting.{HaveShown, none_shown, one_shown, fewer_shown, shown_to_end}
use Rattle.hx_records.proofs.Records.roster.Goals as goal

pub loop-next-init : goal.loop-next-init
loop-next-init c =
    let its : c.self.inside.sessions.live ≡ c.args.self.now.live = ap (λ (x : Cluster). x.live) c.self.view_is in
    none_shown c.args.self.now.live c.first-next.result _ (c.first-next.ensures.first ∙ ap first_live its) c.in_ok-shown.ensures.items

pub loop-next-smaller : goal.loop-next-smaller
loop-next-smaller c =
    let shown = c.loop-next.shown.items in
    let inv = subst (λ (o : Option Live). HaveShown c.args.self.now.live shown o) c.in-Some.is c.loop-next.invariant in
    let less = fewer_shown c.args.self.now.live shown c.in-Some.live inv in
    omega (arith, less, c.loop-next.shown.ok.0, c.in_ok-push.ensures.len)

pub loop-next-preserved : goal.loop-next-preserved
loop-next-preserved c =
    let its : c.self.inside.sessions.live ≡ c.args.self.now.live = ap (λ (x : Cluster). x.live) c.self.view_is in
    let l = c.in-Some.live in
    let shown = c.loop-next.shown.items in
    let inv = subst (λ (o : Option Live). HaveShown c.args.self.now.live shown o) c.in-Some.is c.loop-next.invariant in
    let once = subst (λ (ls : List Live). (s : SessionId) → count (is_session s) ls ≤ 1) its c.first-next.ensures.sessions.numbers in
    one_shown c.args.self.now.live shown _ l c.after-next.result once inv (c.after-next.ensures ∙ ap (live_after l.session) its) c.in_ok-push.ensures.items

pub returns : goal.returns
returns c =
    let shown = c.loop-next.shown.items in
    shown_to_end c.args.self.now.live shown (subst (λ (o : Option Live). HaveShown c.args.self.now.live shown o) c.in_default.is c.loop-next.invariant)
