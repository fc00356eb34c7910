-- What the steps of the leader's turn come to.
use Rattle.std.proofs.Common.{◌≡◌, ◌+◌, ◌*◌, ◌<◌, ◌&&◌, ◌==◌, Bool, true, false, List, [], ◌∷◌, length, Option, Some, None, refl, sym, ap, ◌∙◌, subst, arith}
use Rattle.std.specs.Prelude.{if◌then◌else◌, slice_get, slice_set, slice_index_or}
use Rattle.std.specs.Option.{option_map_or}
use Rattle.std.proofs.lemmas.Bool.Decides.{nat_tests}
use Rattle.std.proofs.lemmas.List.Elements.{All-weaker}
use Rattle.hx_ids.specs.declared.ControllerId.{ControllerId}
use Rattle.hx_ids.specs.declared.PassNo.{PassNo}
use Rattle.hx_cluster.specs.declared.description.Spec.{Spec}
use Rattle.hx_cluster.specs.declared.state.Cluster.{Cluster}
use Rattle.hx_cluster.specs.declared.planning.Report.{Report}
use Rattle.hx_cluster.specs.declared.planning.Target.{Target}
use Rattle.hx_cluster.specs.declared.planning.Finding.{Finding}
use Rattle.hx_cluster.specs.declared.planning.Finding.TheVariants as findings
use Rattle.hx_cluster.specs.declared.happenings.Proposal.{Proposal}
use Rattle.hx_cluster.specs.declared.happenings.Placed.{Placed}
use Rattle.hx_cluster.specs.declared.happenings.Placed.TheVariants as placings
use Rattle.hx_cluster.specs.declared.happenings.Seen.{Seen}
use Rattle.hx_cluster.specs.Steps.{has_controller}
use Rattle.hx_cluster.specs.Messages.{placed_of, after_placed, after_proposal, after_proposals, raised_pass, next_pass, after_dispatch}
use Rattle.hx_cluster.specs.Valid.{IsValid}
use Rattle.hx_pass.specs.Turns.{Call, Turn, is_first, is_due, if_due, when_own}
use Rattle.hx_pass.specs.Explained.{IsReason, IsExplained}
use Rattle.hx_control.specs.declared.PassOutcome.{PassOutcome}
use Rattle.hx_control.specs.declared.ControlFault.{ControlFault}
use Rattle.hx_control.specs.declared.ControlFault.TheVariants as faults
use Rattle.hx_control.specs.Controllers.{Controller, idle_controller}
use Rattle.hx_control.specs.Steps.{Step, Calls, Plans, Refuses, step_at, step_of, after_step}
use Rattle.hx_worlds.specs.declared.Voice.TheVariants.{Quiet}
use Rattle.hx_worlds.specs.World.{State, controller_of, with_controller}
use Rattle.hx_worlds.specs.Runs.{gives, and_then, happened}
use Rattle.hx_worlds.specs.Turns as Turns
use Rattle.hx_worlds.specs.Settles.{all_parts, most_states, enough_rounds}
use Rattle.hx_safe.proofs.Ends.{same-self}
use Rattle.hx_safe.proofs.Whole.{length-replicate}
use Rattle.hx_scripted.proofs.Standing.{Last, fixed_there}
use Rattle.hx_agreed.proofs.Lists.{put_here}
use Rattle.hx_agreed.proofs.DoingTurns.{Stands}
use Rattle.hx_bounded.specs.Ending.{IfGoesOn}
use Rattle.hx_bounded.proofs.Going.{goes_happened}
use Rattle.hx_bounded.proofs.Rounds.{ranged_there}

-- who leads, and the size, stay in a turn
pub record IsAlike (c d : Cluster) : Type 0 where
  pub leader : d.leader ≡ c.leader
  pub live : d.live ≡ c.live
  pub resources : d.resources ≡ c.resources
  pub models : d.models ≡ c.models

pub alike_self : (c : Cluster) → IsAlike c c
alike_self c = record { leader = refl; live = refl; resources = refl; models = refl }

pub alike_both : (b c d : Cluster) → IsAlike b c → IsAlike c d → IsAlike b d
alike_both b c d f g = record { leader = g.leader ∙ f.leader; live = g.live ∙ f.live; resources = g.resources ∙ f.resources; models = g.models ∙ f.models }

pub enough_alike : (c d : Cluster) → IsAlike c d → enough_rounds d ≡ enough_rounds c
enough_alike c d a = λ i. let replicas = length (a.live i) * all_parts (a.resources i) in (2 * replicas + 2) * (replicas * (most_states (a.models i) + 2) + 2)

alike_placed : (c d : Cluster) (q : Proposal) (a : Placed) → IsAlike c d → IsAlike c (after_placed d q a)
alike_placed c d q (placings.Sent id) s = record { leader = s.leader; live = s.live; resources = s.resources; models = s.models }
alike_placed c d q _ s = s

alike_proposals : (c : Cluster) (qs : List Proposal) (d : Cluster) → IsAlike c d → IsAlike c (after_proposals d qs)
alike_proposals c [] d s = s
alike_proposals c (q ∷ qs) d s = alike_proposals c qs (after_proposal d q) (alike_placed c d q (placed_of d q) s)

alike_raised : (c : Cluster) (k : ControllerId) (o : Option (Bool × PassNo)) → IsAlike c (raised_pass c k o)
alike_raised c k None = alike_self c
alike_raised c k (Some d) = record { leader = refl; live = refl; resources = refl; models = refl }

pub alike_pass : (c : Cluster) (k : ControllerId) → IsAlike c (next_pass c k)
alike_pass c k = alike_raised c k (slice_get c.controllers k.0)

pub alike_dispatch : (c : Cluster) (k : ControllerId) (qs : List Proposal) → IsAlike c (after_dispatch c k qs)
alike_dispatch c k qs = alike_proposals c qs (next_pass c k) (alike_pass c k)

-- reports stay true where passes are raised and rows are posted
reason_beside : (c : Cluster) (controllers : List (Bool × PassNo)) (posted : List Seen) (t : Target) (f : Finding) → IsReason c t f → IsReason (record c { controllers = controllers; posted = posted }) t f
reason_beside c controllers posted t findings.AtBest r = r
reason_beside c controllers posted t findings.Failed r = r
reason_beside c controllers posted t (findings.Full f) r = record { next = r.next; count = r.count; bound = r.bound; reached = r.reached; holders = r.holders; each = r.each }
reason_beside c controllers posted t _ r = absurd r

pub explained_beside : (c : Cluster) (controllers : List (Bool × PassNo)) (posted : List Seen) (report : Report) → IsExplained c report → IsExplained (record c { controllers = controllers; posted = posted }) report
explained_beside c controllers posted report e = record {
  targets = e.targets;
  reasons = All-weaker (λ x. IsReason c x.target x.finding) (λ x. IsReason (record c { controllers = controllers; posted = posted }) x.target x.finding)
      (λ x r. reason_beside c controllers posted x.target x.finding r) report.entries e.reasons;
}

explained_raised : (c : Cluster) (k : ControllerId) (o : Option (Bool × PassNo)) (report : Report) → IsExplained c report → IsExplained (raised_pass c k o) report
explained_raised c k None report e = e
explained_raised c k (Some d) report e = explained_beside c (slice_set c.controllers k.0 (d.0, record { 0 = d.1.0 + 1 })) c.posted report e

pub explained_pass : (c : Cluster) (k : ControllerId) (report : Report) → IsExplained c report → IsExplained (next_pass c k) report
explained_pass c k report e = explained_raised c k (slice_get c.controllers k.0) report e

-- a step comes to this
abbrev pub ComesTo : Controller → Step → State → Option PassOutcome → State → Type 0
ComesTo x (Calls e a) s o y = (o ≡ a) × (y ≡ with_controller (after_step s.world.cluster x (Calls e a)) (happened e s))
ComesTo x (Plans p) s o y = (o ≡ None) × (y ≡ with_controller (after_step s.world.cluster x (Plans p)) s)
ComesTo x (Refuses f) s o y = (o ≡ None) × (y ≡ with_controller (idle_controller x.id) s)

noted : (f : ControlFault) (x : Controller) (s : State) → IfGoesOn (ComesTo x (Refuses f) s) (Turns.stepped Quiet x (Refuses f) s)
noted (faults.NotLeader led_by) x s = record { to = (refl, refl) }
noted (faults.Fenced now) x s = record { to = (refl, refl) }
noted (faults.OldPass now) x s = record { to = (refl, refl) }
noted (faults.HistoryFull weight) x s = record { to = (refl, refl) }
noted faults.OtherBoard x s = record { to = (refl, refl) }
noted faults.OutOfMemory x s = record { to = (refl, refl) }

comes_to : (step : Step) (x : Controller) (s : State) → IfGoesOn (ComesTo x step s) (Turns.stepped Quiet x step s)
comes_to (Calls e a) x s =
    goes_happened (ComesTo x (Calls e a) s) e s
    (λ y. and_then (Turns.tell_outcome Quiet x.id a (with_controller (after_step s.world.cluster x (Calls e a)) y)) (λ z. gives z a)) (record { to = (refl, refl) })
comes_to (Plans p) x s = record { to = (refl, refl) }
comes_to (Refuses f) x s = noted f x s

pub step_comes : (k : ControllerId) (s : State) (left : List Call) → Turns.left_of s k ≡ left
    → IfGoesOn (ComesTo (controller_of s.world k) (step_at s.world.spec s.world.cluster (controller_of s.world k) left) s) (Turns.step Quiet k s)
step_comes k s left is =
    subst (λ (calls : List Call). IfGoesOn (ComesTo (controller_of s.world k) (step_at s.world.spec s.world.cluster (controller_of s.world k) calls) s) (Turns.step Quiet k s)) is
    (comes_to (step_of s.world.spec s.world.cluster (controller_of s.world k)) (controller_of s.world k) s)

-- the controller that is put is the leader's
pub listed : (spec : Spec) (valid : IsValid spec) (last : Last) (k : ControllerId) (x : State) → Stands spec last x → x.world.cluster.leader ≡ Some k → k.0 < length x.world.controllers
listed spec valid last k x s leads =
    let has : has_controller x.world.cluster k ≡ true = ap (λ (o : Option ControllerId). option_map_or (has_controller x.world.cluster) o true) (sym leads) ∙ (ranged_there spec valid last x s).leader in
    let fixed : length x.world.cluster.controllers ≡ spec.controllers = (fixed_there spec last x.world s.scripted).controllers ∙ length-replicate spec.controllers (false, record { 0 = 0 }) in
    let many = s.scripted.of.controllers in
    grind (arith, nat_tests, has, fixed, many)

pub put_is : (k : ControllerId) (s : State) (y : Controller) → k.0 < length s.world.controllers → y.id ≡ k → controller_of (with_controller y s).world k ≡ y
put_is k s y low same =
    ap (λ (j : ControllerId). slice_index_or (slice_set s.world.controllers j.0 y) k.0 (idle_controller k)) same ∙ put_here s.world.controllers k.0 y (idle_controller k) low

-- a turn's own call that is due
pub own_turn : (k : ControllerId) (t u : Turn) → when_own k k t u ≡ u
own_turn k t u = ap (λ (b : Bool). if b then u else t) (same-self k.0)

pub due_turn : (t u : Turn) (call : Call) (rest : List Call) → t.left ≡ call ∷ rest → is_first call (call ∷ rest) ≡ true → if_due (is_due t call t.begun.pass) u ≡ u
due_turn t u call rest left same =
    (λ i. if_due (is_first call (left i) && (t.begun.pass.0 == t.begun.pass.0)) u) ∙ (λ i. if_due (same i && same-self t.begun.pass.0 i) u)
