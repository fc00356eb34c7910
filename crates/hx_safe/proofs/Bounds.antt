-- The law of counts, for each event: where a state has a limit, no more replicas have it among their ends than before the event, or no
-- more than the limit. And a limit stays, but where the live sessions are counted, whose number no count passes.
use Rattle.std.proofs.Common.{◌≡◌, ℕ, ◌+◌, ◌≤◌, Bool, true, false, List, [], ◌∷◌, length, Option, Some, None, ◌⊎◌, inl, inr, refl, sym, ◌∙◌, arith}
use Rattle.std.specs.Prelude.{if◌then◌else◌, slice_get}
use Rattle.std.proofs.lemmas.List.{length-map}
use Rattle.hx_ids.specs.declared.StateId.{StateId}
use Rattle.hx_ids.specs.declared.SessionId.{SessionId}
use Rattle.hx_ids.specs.declared.MsgId.{MsgId}
use Rattle.hx_ids.specs.declared.InstanceId.{InstanceId}
use Rattle.hx_ids.specs.declared.ControllerId.{ControllerId}
use Rattle.hx_ids.specs.declared.ResourceId.{ResourceId}
use Rattle.hx_ids.specs.declared.PassNo.{PassNo}
use Rattle.hx_ids.specs.declared.PartId.{PartId}
use Rattle.hx_ids.specs.declared.Live.{Live}
use Rattle.hx_model.specs.declared.Bound.{Bound}
use Rattle.hx_model.specs.declared.Bound.TheVariants as bounds
use Rattle.hx_model.specs.Model.{bound_of, limit_of}
use Rattle.hx_ideal.specs.IdealState.{put_list, put_map}
use Rattle.hx_cluster.specs.declared.description.Resource.{Resource}
use Rattle.hx_cluster.specs.declared.state.Message.{Message}
use Rattle.hx_cluster.specs.declared.state.Cluster.{Cluster}
use Rattle.hx_cluster.specs.declared.happenings.Outcome.{Outcome}
use Rattle.hx_cluster.specs.declared.happenings.Admin.{Admin}
use Rattle.hx_cluster.specs.declared.happenings.Admin.TheVariants as steps
use Rattle.hx_cluster.specs.declared.happenings.Event.{Event}
use Rattle.hx_cluster.specs.declared.happenings.Event.TheVariants as events
use Rattle.hx_cluster.specs.Ends.{sessions_of, has_end, count_of, limit_over, limit_at, resource_at, model_of, replicas_of}
use Rattle.hx_cluster.specs.Steps.{after, ended_by, live_of, without, without_all, ended_of, beaten_of, changed_at, asked_of, marked_down, with_down, without_leader, is_leader, with_mode}
use Rattle.hx_cluster.specs.Messages.{pending_of, written_of}
use Rattle.hx_cluster.specs.Events.{next, IsStep}
use Rattle.hx_cluster.specs.Safe.{IsBounded}
use Rattle.hx_safe.proofs.Counting.{count-length}
use Rattle.hx_safe.proofs.Kept.{IsKept, kept_beside, count_join, count_take, count_ack}
use Rattle.hx_safe.proofs.Sending.{count_pass, limit_pass, count_dispatch, limit_dispatch}
use Rattle.hx_safe.proofs.Writing.{count_write}
use Rattle.hx_safe.proofs.Leaving.{count_without_all, count_end, count_beat}
use Rattle.hx_safe.proofs.Resources.{limit_edited, limit_add}

-- a resource's edit and a reset leave the counts
edited : (c : Cluster) (r : ResourceId) (f : Resource → Resource) (o : Option Resource) (p : PartId) (t : StateId) → count_of (changed_at c r f o) p t ≡ count_of c p t
edited c r f None p t = refl
edited c r f (Some x) p t = refl

asked : (c : Cluster) (q : PartId) (o : Option Live) (p : PartId) (t : StateId) → count_of (asked_of c q o) p t ≡ count_of c p t
asked c q None p t = refl
asked c q (Some l) p t = refl

beaten : (c : Cluster) (i : InstanceId) (o : Option Live) → live_of c.live i ≡ o → (p : PartId) (t : StateId) → count_of (beaten_of c o) p t ≤ count_of c p t
beaten c i None is p t = omega arith
beaten c i (Some l) is p t = count_beat c i l is p t

-- so do a controller's mark and a leader that leaves
marked : (c : Cluster) (k : ControllerId) (down : Bool) (o : Option (Bool × PassNo)) (p : PartId) (t : StateId) → count_of (marked_down c k down o) p t ≡ count_of c p t
marked c k down None p t = refl
marked c k down (Some d) p t = refl

left : (c : Cluster) (b : Bool) (p : PartId) (t : StateId) → count_of (if b then record c { leader = None; epoch = record { 0 = c.epoch.0 + 1 } } else c) p t ≡ count_of c p t
left c true p t = refl
left c false p t = refl

stopped : (c : Cluster) (k : ControllerId) (p : PartId) (t : StateId) → count_of (without_leader k (with_down c k true)) p t ≡ count_of c p t
stopped c k p t = left (with_down c k true) (is_leader k (with_down c k true).leader) p t ∙ marked c k true (slice_get c.controllers k.0) p t

-- a step raises no count
pub counts_step : (c : Cluster) (step : Admin) → IsKept c → (p : PartId) (t : StateId) → count_of (after c step) p t ≤ count_of c p t
counts_step c (steps.Join i) k p t = omega (arith, count_join c i k p t)
counts_step c (steps.End i) k p t = count_end c (live_of c.live i) k p t
counts_step c (steps.Beat i) k p t = beaten c i (live_of c.live i) refl p t
counts_step c (steps.Tick n) k p t =
    count_without_all (record c { clock = c.clock + n }) (ended_by c n)
    (kept_beside c c.instances c.leader c.epoch c.controllers (c.clock + n) c.line c.change c.posted k) p t
counts_step c (steps.Drop r) k p t = omega (arith, edited c r (λ x. record x { dropped = true }) (resource_at c.resources r) p t)
counts_step c (steps.SetList q list) k p t = omega (arith, edited c q.resource (λ x. with_mode x (put_list x.ideal.mode q.index list)) (resource_at c.resources q.resource) p t)
counts_step c (steps.SetMap q map) k p t = omega (arith, edited c q.resource (λ x. with_mode x (put_map x.ideal.mode q.index map)) (resource_at c.resources q.resource) p t)
counts_step c (steps.Reset i q) k p t = omega (arith, asked c q (live_of c.live i) p t)
counts_step c (steps.Stop j) k p t = omega (arith, stopped c j p t)
counts_step c (steps.Start j) k p t = omega (arith, marked c j false (slice_get c.controllers j.0) p t)
counts_step c _ k p t = omega arith

-- an outcome that is written leaves the limits
limit-written : (c : Cluster) (s : SessionId) (id : MsgId) (outcome : Outcome) (o : Option Message) (p : PartId) (t : StateId)
    → limit_at (written_of c s id outcome o) p t ≡ limit_at c p t
limit-written c s id outcome None p t = refl
limit-written c s id outcome (Some m) p t = refl

-- the law for each event
pub counts_next : (c : Cluster) (e : Event) → IsKept c → IsStep c e → (p : PartId) (t : StateId) (limit : ℕ) → limit_at (next c e) p t ≡ Some limit
    → (count_of (next c e) p t ≤ count_of c p t) ⊎ (count_of (next c e) p t ≤ limit)
counts_next c (events.Admin step did) k legal p t limit e = inl (counts_step c step k p t)
counts_next c (events.Begin j begun) k legal p t limit e = inl (omega (arith, count_pass c j p t))
counts_next c (events.Dispatch j epoch pass proposals answer) k legal p t limit e =
    count_dispatch c j proposals p t limit k legal.0 (sym (limit_dispatch c j proposals p t) ∙ e)
counts_next c (events.Take s id) k legal p t limit e = inl (count_take c s id p t)
counts_next c (events.Write s id outcome) k legal p t limit e =
    inl (count_write c s id outcome k p t limit (sym (limit-written c s id outcome (pending_of c s id) p t) ∙ e))
counts_next c (events.Ack s id) k legal p t limit e = inl (count_ack c s id k p t)
counts_next c _ k legal p t limit e = inl (omega arith)

-- no count passes the number of the live sessions
few : (c : Cluster) (p : PartId) (t : StateId) → count_of c p t ≤ length c.live
few c p t = omega (arith, count-length (has_end c.rows c.mail p t) (sessions_of c.live), length-map c.live (λ (l : Live). l.session))

-- a limit is the same among other live sessions, or is their number
limit-live : (b : Bound) (replicas old new n limit : ℕ) → n ≤ new → limit_of b replicas new ≡ Some limit → (limit_of b replicas old ≡ Some limit) ⊎ (n ≤ limit)
limit-live (bounds.Count m) replicas old new n limit low e = inl e
limit-live bounds.Replicas replicas old new n limit low e = inl e
limit-live bounds.Live replicas old new n limit low e = inr (grind (arith, e))
limit-live bounds.Free replicas old new n limit low e = cc

limits-live : (c d : Cluster) (p : PartId) (t : StateId) (limit : ℕ) → ((n : ℕ) → limit_over d.models d.resources n p t ≡ limit_over c.models c.resources n p t)
    → limit_at d p t ≡ Some limit → (limit_at c p t ≡ Some limit) ⊎ (count_of d p t ≤ limit)
limits-live c d p t limit same e =
    limit-live (bound_of (model_of c.models c.resources p.resource) t) (replicas_of c.resources p.resource) (length c.live) (length d.live) (count_of d p t) limit (few d p t)
    (sym (same (length d.live)) ∙ e)

over-all : (c : Cluster) (ss : List SessionId) (n : ℕ) (p : PartId) (t : StateId) → limit_over (without_all c ss).models (without_all c ss).resources n p t ≡ limit_over c.models c.resources n p t
over-all c [] n p t = refl
over-all c (s ∷ ss) n p t = over-all (without c s) ss n p t

over-end : (c : Cluster) (o : Option Live) (n : ℕ) (p : PartId) (t : StateId) → limit_over (ended_of c o).models (ended_of c o).resources n p t ≡ limit_over c.models c.resources n p t
over-end c None n p t = refl
over-end c (Some l) n p t = refl

over-beat : (c : Cluster) (o : Option Live) (n : ℕ) (p : PartId) (t : StateId) → limit_over (beaten_of c o).models (beaten_of c o).resources n p t ≡ limit_over c.models c.resources n p t
over-beat c None n p t = refl
over-beat c (Some l) n p t = refl

-- the limits after the other steps
limit-asked : (c : Cluster) (q : PartId) (o : Option Live) (p : PartId) (t : StateId) → limit_at (asked_of c q o) p t ≡ limit_at c p t
limit-asked c q None p t = refl
limit-asked c q (Some l) p t = refl

limit-marked : (c : Cluster) (k : ControllerId) (down : Bool) (o : Option (Bool × PassNo)) (p : PartId) (t : StateId) → limit_at (marked_down c k down o) p t ≡ limit_at c p t
limit-marked c k down None p t = refl
limit-marked c k down (Some d) p t = refl

limit-left : (c : Cluster) (b : Bool) (p : PartId) (t : StateId) → limit_at (if b then record c { leader = None; epoch = record { 0 = c.epoch.0 + 1 } } else c) p t ≡ limit_at c p t
limit-left c true p t = refl
limit-left c false p t = refl

limit-stopped : (c : Cluster) (k : ControllerId) (p : PartId) (t : StateId) → limit_at (without_leader k (with_down c k true)) p t ≡ limit_at c p t
limit-stopped c k p t = limit-left (with_down c k true) (is_leader k (with_down c k true).leader) p t ∙ limit-marked c k true (slice_get c.controllers k.0) p t

limits-step : (c : Cluster) (step : Admin) → IsKept c → (p : PartId) (t : StateId) (limit : ℕ) → limit_at (after c step) p t ≡ Some limit
    → (limit_at c p t ≡ Some limit) ⊎ (count_of (after c step) p t ≤ limit)
limits-step c (steps.Join i) k p t limit e = limits-live c (after c (steps.Join i)) p t limit (λ n. refl) e
limits-step c (steps.End i) k p t limit e = limits-live c (after c (steps.End i)) p t limit (λ n. over-end c (live_of c.live i) n p t) e
limits-step c (steps.Beat i) k p t limit e = limits-live c (after c (steps.Beat i)) p t limit (λ n. over-beat c (live_of c.live i) n p t) e
limits-step c (steps.Tick n) k p t limit e =
    limits-live c (after c (steps.Tick n)) p t limit (λ m. over-all (record c { clock = c.clock + n }) (ended_by c n) m p t) e
limits-step c (steps.Add name model ideal) k p t limit e = limit_add c _ k p t limit e
limits-step c (steps.Drop r) k p t limit e = inl (sym (limit_edited c r (λ x. record x { dropped = true }) (λ x. refl) (λ x. refl) p t) ∙ e)
limits-step c (steps.SetList q list) k p t limit e = inl (sym (limit_edited c q.resource (λ x. with_mode x (put_list x.ideal.mode q.index list)) (λ x. refl) (λ x. refl) p t) ∙ e)
limits-step c (steps.SetMap q map) k p t limit e = inl (sym (limit_edited c q.resource (λ x. with_mode x (put_map x.ideal.mode q.index map)) (λ x. refl) (λ x. refl) p t) ∙ e)
limits-step c (steps.Reset i q) k p t limit e = inl (sym (limit-asked c q (live_of c.live i) p t) ∙ e)
limits-step c (steps.Stop j) k p t limit e = inl (sym (limit-stopped c j p t) ∙ e)
limits-step c (steps.Start j) k p t limit e = inl (sym (limit-marked c j false (slice_get c.controllers j.0) p t) ∙ e)
limits-step c _ k p t limit e = inl e

-- each event leaves a limit as it was, or the count meets it by itself
pub limits_next : (c : Cluster) (e : Event) → IsKept c → (p : PartId) (t : StateId) (limit : ℕ) → limit_at (next c e) p t ≡ Some limit
    → (limit_at c p t ≡ Some limit) ⊎ (count_of (next c e) p t ≤ limit)
limits_next c (events.Admin step did) k p t limit e = limits-step c step k p t limit e
limits_next c (events.Begin j begun) k p t limit e = inl (sym (limit_pass c j p t) ∙ e)
limits_next c (events.Dispatch j epoch pass proposals answer) k p t limit e = inl (sym (limit_dispatch c j proposals p t) ∙ e)
limits_next c (events.Write s id outcome) k p t limit e = inl (sym (limit-written c s id outcome (pending_of c s id) p t) ∙ e)
limits_next c _ k p t limit e = inl e

-- so the bounds are kept
pub bounded_next : (c : Cluster) (e : Event) → IsKept c → IsBounded c → IsStep c e → IsBounded (next c e)
bounded_next c e k old legal p t limit at = one (counts_next c e k legal p t limit at) (limits_next c e k p t limit at)
  where
    one : (count_of (next c e) p t ≤ count_of c p t) ⊎ (count_of (next c e) p t ≤ limit)
        → (limit_at c p t ≡ Some limit) ⊎ (count_of (next c e) p t ≤ limit) → count_of (next c e) p t ≤ limit
    one (inr low) w = low
    one (inl less) (inr low) = low
    one (inl less) (inl same) = let most = old p t limit same in omega (arith, less, most)
