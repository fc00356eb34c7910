-- No event but a line changes the number of the last line.
use Rattle.std.proofs.Common.{◌≡◌, ◌+◌, Bool, true, false, List, [], ◌∷◌, Option, Some, None, refl, ◌∙◌}
use Rattle.std.specs.Prelude.{if◌then◌else◌, slice_get}
use Rattle.hx_ids.specs.declared.ControllerId.{ControllerId}
use Rattle.hx_ids.specs.declared.ResourceId.{ResourceId}
use Rattle.hx_ids.specs.declared.SessionId.{SessionId}
use Rattle.hx_ids.specs.declared.MsgId.{MsgId}
use Rattle.hx_ids.specs.declared.PartId.{PartId}
use Rattle.hx_ids.specs.declared.PassNo.{PassNo}
use Rattle.hx_ids.specs.declared.Live.{Live}
use Rattle.hx_ideal.specs.IdealState.{put_list, put_map}
use Rattle.hx_cluster.specs.declared.description.Resource.{Resource}
use Rattle.hx_cluster.specs.declared.state.Message.{Message}
use Rattle.hx_cluster.specs.declared.state.Cluster.{Cluster}
use Rattle.hx_cluster.specs.declared.happenings.Placed.{Placed}
use Rattle.hx_cluster.specs.declared.happenings.Placed.TheVariants as placings
use Rattle.hx_cluster.specs.declared.happenings.Proposal.{Proposal}
use Rattle.hx_cluster.specs.declared.happenings.Outcome.{Outcome}
use Rattle.hx_cluster.specs.declared.happenings.Admin.{Admin}
use Rattle.hx_cluster.specs.declared.happenings.Admin.TheVariants as steps
use Rattle.hx_cluster.specs.Ends.{resource_at}
use Rattle.hx_cluster.specs.Steps.{after, ended_by, live_of, without, without_all, ended_of, beaten_of, changed_at, asked_of, marked_down, with_down, is_leader, with_mode}
use Rattle.hx_cluster.specs.Messages.{placed_of, after_placed, after_proposal, after_proposals, raised_pass, next_pass, after_dispatch, pending_of, written_of, after_write}

-- steps
without_all-line : (c : Cluster) (ss : List SessionId) → (without_all c ss).line ≡ c.line
without_all-line c [] = refl
without_all-line c (s ∷ ss) = without_all-line (without c s) ss

end-line : (c : Cluster) (o : Option Live) → (ended_of c o).line ≡ c.line
end-line c None = refl
end-line c (Some l) = refl

beat-line : (c : Cluster) (o : Option Live) → (beaten_of c o).line ≡ c.line
beat-line c None = refl
beat-line c (Some l) = refl

edit-line : (c : Cluster) (r : ResourceId) (f : Resource → Resource) (o : Option Resource) → (changed_at c r f o).line ≡ c.line
edit-line c r f None = refl
edit-line c r f (Some x) = refl

asked-line : (c : Cluster) (p : PartId) (o : Option Live) → (asked_of c p o).line ≡ c.line
asked-line c p None = refl
asked-line c p (Some l) = refl

mark-line : (c : Cluster) (k : ControllerId) (down : Bool) (o : Option (Bool × PassNo)) → (marked_down c k down o).line ≡ c.line
mark-line c k down None = refl
mark-line c k down (Some d) = refl

left-line : (c : Cluster) (b : Bool) → (if b then record c { leader = None; epoch = record { 0 = c.epoch.0 + 1 } } else c).line ≡ c.line
left-line c true = refl
left-line c false = refl

pub step-line : (c : Cluster) (step : Admin) → (after c step).line ≡ c.line
step-line c (steps.End i) = end-line c (live_of c.live i)
step-line c (steps.Beat i) = beat-line c (live_of c.live i)
step-line c (steps.Tick n) = without_all-line (record c { clock = c.clock + n }) (ended_by c n)
step-line c (steps.Drop r) = edit-line c r (λ x. record x { dropped = true }) (resource_at c.resources r)
step-line c (steps.SetList p list) = edit-line c p.resource (λ x. with_mode x (put_list x.ideal.mode p.index list)) (resource_at c.resources p.resource)
step-line c (steps.SetMap p map) = edit-line c p.resource (λ x. with_mode x (put_map x.ideal.mode p.index map)) (resource_at c.resources p.resource)
step-line c (steps.Reset i p) = asked-line c p (live_of c.live i)
step-line c (steps.Stop k) =
    left-line (with_down c k true) (is_leader k (with_down c k true).leader) ∙ mark-line c k true (slice_get c.controllers k.0)
step-line c (steps.Start k) = mark-line c k false (slice_get c.controllers k.0)
step-line c _ = refl

-- passes and dispatches
raised-line : (c : Cluster) (k : ControllerId) (o : Option (Bool × PassNo)) → (raised_pass c k o).line ≡ c.line
raised-line c k None = refl
raised-line c k (Some d) = refl

pub pass-line : (c : Cluster) (k : ControllerId) → (next_pass c k).line ≡ c.line
pass-line c k = raised-line c k (slice_get c.controllers k.0)

placed-line : (c : Cluster) (q : Proposal) (a : Placed) → (after_placed c q a).line ≡ c.line
placed-line c q (placings.Sent id) = refl
placed-line c q _ = refl

proposals-line : (c : Cluster) (qs : List Proposal) → (after_proposals c qs).line ≡ c.line
proposals-line c [] = refl
proposals-line c (q ∷ qs) = proposals-line (after_proposal c q) qs ∙ placed-line c q (placed_of c q)

pub dispatch-line : (c : Cluster) (k : ControllerId) (qs : List Proposal) → (after_dispatch c k qs).line ≡ c.line
dispatch-line c k qs = proposals-line (next_pass c k) qs ∙ pass-line c k

-- writes
written-line : (c : Cluster) (s : SessionId) (id : MsgId) (outcome : Outcome) (o : Option Message) → (written_of c s id outcome o).line ≡ c.line
written-line c s id outcome None = refl
written-line c s id outcome (Some m) = refl

pub write-line : (c : Cluster) (s : SessionId) (id : MsgId) (outcome : Outcome) → (after_write c s id outcome).line ≡ c.line
write-line c s id outcome = written-line c s id outcome (pending_of c s id)
