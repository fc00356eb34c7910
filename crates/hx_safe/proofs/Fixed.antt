-- What no event changes of a cluster.
use Rattle.std.proofs.Common.{◌≡◌, ◌+◌, Bool, true, false, List, [], ◌∷◌, length, Option, Some, None, refl, ◌∙◌}
use Rattle.std.specs.Prelude.{if◌then◌else◌, slice_get}
use Rattle.hx_ids.specs.declared.ControllerId.{ControllerId}
use Rattle.hx_ids.specs.declared.ResourceId.{ResourceId}
use Rattle.hx_ids.specs.declared.SessionId.{SessionId}
use Rattle.hx_ids.specs.declared.MsgId.{MsgId}
use Rattle.hx_ids.specs.declared.PartId.{PartId}
use Rattle.hx_ids.specs.declared.PassNo.{PassNo}
use Rattle.hx_ids.specs.declared.Live.{Live}
use Rattle.hx_ideal.specs.IdealState.{put_list, put_map}
use Rattle.hx_cluster.specs.declared.description.Resource.{Resource}
use Rattle.hx_cluster.specs.declared.state.Message.{Message}
use Rattle.hx_cluster.specs.declared.state.Cluster.{Cluster}
use Rattle.hx_cluster.specs.declared.happenings.Placed.{Placed}
use Rattle.hx_cluster.specs.declared.happenings.Placed.TheVariants as placings
use Rattle.hx_cluster.specs.declared.happenings.Proposal.{Proposal}
use Rattle.hx_cluster.specs.declared.happenings.Outcome.{Outcome}
use Rattle.hx_cluster.specs.declared.happenings.Admin.{Admin}
use Rattle.hx_cluster.specs.declared.happenings.Admin.TheVariants as steps
use Rattle.hx_cluster.specs.declared.happenings.Event.{Event}
use Rattle.hx_cluster.specs.declared.happenings.Event.TheVariants as events
use Rattle.hx_cluster.specs.Ends.{resource_at}
use Rattle.hx_cluster.specs.Steps.{after, ended_by, live_of, without, without_all, ended_of, beaten_of, changed_at, asked_of, marked_down, with_down, without_leader, is_leader, with_mode}
use Rattle.hx_cluster.specs.Messages.{placed_of, after_placed, after_proposal, after_proposals, raised_pass, next_pass, pending_of, written_of}
use Rattle.hx_cluster.specs.Events.{next}
use Rattle.hx_safe.proofs.Ideals.{length-put}

pub record IsFixed (c d : Cluster) : Type 0 where
  pub instances : length d.instances ≡ length c.instances
  pub controllers : length d.controllers ≡ length c.controllers
  pub states : d.states ≡ c.states
  pub models : d.models ≡ c.models
  pub rules : d.rules ≡ c.rules
  pub resource_names : d.resource_names ≡ c.resource_names

pub fixed_self : (c : Cluster) → IsFixed c c
fixed_self c = record { instances = refl; controllers = refl; states = refl; models = refl; rules = refl; resource_names = refl }

pub fixed_both : {b c d : Cluster} → IsFixed b c → IsFixed c d → IsFixed b d
fixed_both one two = record {
  instances = two.instances ∙ one.instances;
  controllers = two.controllers ∙ one.controllers;
  states = two.states ∙ one.states;
  models = two.models ∙ one.models;
  rules = two.rules ∙ one.rules;
  resource_names = two.resource_names ∙ one.resource_names;
}

-- steps
pub fixed_all : (c : Cluster) (ss : List SessionId) → IsFixed c (without_all c ss)
fixed_all c [] = fixed_self c
fixed_all c (s ∷ ss) =
    let first : IsFixed c (without c s) = record { instances = refl; controllers = refl; states = refl; models = refl; rules = refl; resource_names = refl } in
    fixed_both first (fixed_all (without c s) ss)

pub fixed_end : (c : Cluster) (o : Option Live) → IsFixed c (ended_of c o)
fixed_end c None = fixed_self c
fixed_end c (Some l) = record { instances = refl; controllers = refl; states = refl; models = refl; rules = refl; resource_names = refl }

pub fixed_beat : (c : Cluster) (o : Option Live) → IsFixed c (beaten_of c o)
fixed_beat c None = fixed_self c
fixed_beat c (Some l) = record { instances = refl; controllers = refl; states = refl; models = refl; rules = refl; resource_names = refl }

pub fixed_edit : (c : Cluster) (r : ResourceId) (f : Resource → Resource) (o : Option Resource) → IsFixed c (changed_at c r f o)
fixed_edit c r f None = fixed_self c
fixed_edit c r f (Some x) = record { instances = refl; controllers = refl; states = refl; models = refl; rules = refl; resource_names = refl }

pub fixed_asked : (c : Cluster) (p : PartId) (o : Option Live) → IsFixed c (asked_of c p o)
fixed_asked c p None = fixed_self c
fixed_asked c p (Some l) = record { instances = refl; controllers = refl; states = refl; models = refl; rules = refl; resource_names = refl }

pub fixed_mark : (c : Cluster) (k : ControllerId) (down : Bool) (o : Option (Bool × PassNo)) → IsFixed c (marked_down c k down o)
fixed_mark c k down None = fixed_self c
fixed_mark c k down (Some d) = record {
  instances = refl;
  controllers = length-put c.controllers k.0 (down, d.1);
  states = refl;
  models = refl;
  rules = refl;
  resource_names = refl;
}

fixed_left : (c : Cluster) (b : Bool) → IsFixed c (if b then record c { leader = None; epoch = record { 0 = c.epoch.0 + 1 } } else c)
fixed_left c true = record { instances = refl; controllers = refl; states = refl; models = refl; rules = refl; resource_names = refl }
fixed_left c false = fixed_self c

pub fixed_stop : (c : Cluster) (k : ControllerId) → IsFixed c (without_leader k (with_down c k true))
fixed_stop c k = fixed_both (fixed_mark c k true (slice_get c.controllers k.0)) (fixed_left (with_down c k true) (is_leader k (with_down c k true).leader))

pub fixed_step : (c : Cluster) (step : Admin) → IsFixed c (after c step)
fixed_step c (steps.End i) = fixed_end c (live_of c.live i)
fixed_step c (steps.Beat i) = fixed_beat c (live_of c.live i)
fixed_step c (steps.Tick n) =
    let later : IsFixed c (record c { clock = c.clock + n }) = record { instances = refl; controllers = refl; states = refl; models = refl; rules = refl; resource_names = refl } in
    fixed_both later (fixed_all (record c { clock = c.clock + n }) (ended_by c n))
fixed_step c (steps.Drain i) = record { instances = length-put c.instances i.0 true; controllers = refl; states = refl; models = refl; rules = refl; resource_names = refl }
fixed_step c (steps.Undrain i) = record { instances = length-put c.instances i.0 false; controllers = refl; states = refl; models = refl; rules = refl; resource_names = refl }
fixed_step c (steps.Drop r) = fixed_edit c r (λ x. record x { dropped = true }) (resource_at c.resources r)
fixed_step c (steps.SetList p list) =
    fixed_edit c p.resource (λ x. with_mode x (put_list x.ideal.mode p.index list)) (resource_at c.resources p.resource)
fixed_step c (steps.SetMap p map) =
    fixed_edit c p.resource (λ x. with_mode x (put_map x.ideal.mode p.index map)) (resource_at c.resources p.resource)
fixed_step c (steps.Reset i p) = fixed_asked c p (live_of c.live i)
fixed_step c (steps.Stop k) = fixed_stop c k
fixed_step c (steps.Start k) = fixed_mark c k false (slice_get c.controllers k.0)
fixed_step c _ = record { instances = refl; controllers = refl; states = refl; models = refl; rules = refl; resource_names = refl }

-- other events
fixed_raised : (c : Cluster) (k : ControllerId) (o : Option (Bool × PassNo)) → IsFixed c (raised_pass c k o)
fixed_raised c k None = fixed_self c
fixed_raised c k (Some d) = record {
  instances = refl;
  controllers = length-put c.controllers k.0 (d.0, record { 0 = d.1.0 + 1 });
  states = refl;
  models = refl;
  rules = refl;
  resource_names = refl;
}

pub fixed_pass : (c : Cluster) (k : ControllerId) → IsFixed c (next_pass c k)
fixed_pass c k = fixed_raised c k (slice_get c.controllers k.0)

pub fixed_placed : (c : Cluster) (q : Proposal) (a : Placed) → IsFixed c (after_placed c q a)
fixed_placed c q (placings.Sent id) = record { instances = refl; controllers = refl; states = refl; models = refl; rules = refl; resource_names = refl }
fixed_placed c q _ = fixed_self c

pub fixed_proposals : (c : Cluster) (qs : List Proposal) → IsFixed c (after_proposals c qs)
fixed_proposals c [] = fixed_self c
fixed_proposals c (q ∷ qs) = fixed_both (fixed_placed c q (placed_of c q)) (fixed_proposals (after_proposal c q) qs)

fixed_written : (c : Cluster) (s : SessionId) (id : MsgId) (outcome : Outcome) (o : Option Message) → IsFixed c (written_of c s id outcome o)
fixed_written c s id outcome None = fixed_self c
fixed_written c s id outcome (Some m) = record { instances = refl; controllers = refl; states = refl; models = refl; rules = refl; resource_names = refl }

pub fixed_next : (c : Cluster) (e : Event) → IsFixed c (next c e)
fixed_next c (events.Admin step did) = fixed_step c step
fixed_next c (events.Begin k begun) = fixed_pass c k
fixed_next c (events.Dispatch k epoch pass proposals answer) = fixed_both (fixed_pass c k) (fixed_proposals (next_pass c k) proposals)
fixed_next c (events.Write s id outcome) = fixed_written c s id outcome (pending_of c s id)
fixed_next c _ = record { instances = refl; controllers = refl; states = refl; models = refl; rules = refl; resource_names = refl }
