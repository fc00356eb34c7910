-- What stands in a cluster stays in range.
use Rattle.std.proofs.Common.{◌≡◌, ℕ, ◌+◌, ◌≤◌, ◌||◌, ◌&&◌, ◌==◌, not, Bool, true, false, List, [], ◌∷◌, ◌++◌, length, length-append, Option, Some, None, refl, sym, ap, ◌∙◌, subst, arith}
use Rattle.std.specs.Prelude.{if◌then◌else◌, nat_lt, nat_le, slice_get, is_none}
use Rattle.std.specs.List.{list_all}
use Rattle.std.specs.Option.{option_map_or}
use Rattle.std.proofs.lemmas.Bool.Decides.{nat_tests}
use Rattle.hx_ids.specs.declared.InstanceId.{InstanceId}
use Rattle.hx_ids.specs.declared.StateId.{StateId}
use Rattle.hx_ids.specs.declared.ModelId.{ModelId}
use Rattle.hx_ids.specs.declared.ControllerId.{ControllerId}
use Rattle.hx_ids.specs.declared.ResourceId.{ResourceId}
use Rattle.hx_ids.specs.declared.SessionId.{SessionId}
use Rattle.hx_ids.specs.declared.MsgId.{MsgId}
use Rattle.hx_ids.specs.declared.PartId.{PartId}
use Rattle.hx_ids.specs.declared.PassNo.{PassNo}
use Rattle.hx_ids.specs.declared.Live.{Live}
use Rattle.hx_model.specs.declared.ModelParts.{ModelParts}
use Rattle.hx_model.specs.Model.{states_of}
use Rattle.hx_ideal.specs.declared.Mode.{Mode}
use Rattle.hx_ideal.specs.declared.IdealFault.{IdealFault}
use Rattle.hx_ideal.specs.IdealState.{IdealState, put_list, put_map}
use Rattle.hx_ideal.specs.Faults.{list_fault, map_fault, fault_of}
use Rattle.hx_cluster.specs.declared.description.Resource.{Resource}
use Rattle.hx_cluster.specs.declared.description.Rule.{Rule}
use Rattle.hx_cluster.specs.declared.state.Message.{Message}
use Rattle.hx_cluster.specs.declared.state.Cluster.{Cluster}
use Rattle.hx_cluster.specs.declared.happenings.Seen.{Seen}
use Rattle.hx_cluster.specs.declared.happenings.StepFault.TheVariants as faults
use Rattle.hx_cluster.specs.declared.happenings.Placed.{Placed}
use Rattle.hx_cluster.specs.declared.happenings.Placed.TheVariants as placings
use Rattle.hx_cluster.specs.declared.happenings.Proposal.{Proposal}
use Rattle.hx_cluster.specs.declared.happenings.Outcome.{Outcome}
use Rattle.hx_cluster.specs.declared.happenings.Admin.{Admin}
use Rattle.hx_cluster.specs.declared.happenings.Admin.TheVariants as steps
use Rattle.hx_cluster.specs.declared.happenings.Event.{Event}
use Rattle.hx_cluster.specs.declared.happenings.Event.TheVariants as events
use Rattle.hx_cluster.specs.Ends.{is_session, resource_at, model_at, model_of, no_model, parts_of}
use Rattle.hx_cluster.specs.Steps.{refusal_of, after, ended_by, live_of, is_of, newest, name_in_use, is_dropped, is_held, edit_fault, is_semi, is_custom, is_bare, is_in_range, without, without_all, ended_of, beaten_of, changed_at, with_mode, asked_of, marked_down, with_down, without_leader, is_leader, has_instance, has_controller}
use Rattle.hx_cluster.specs.Messages.{placed_of, after_placed, after_proposal, after_proposals, raised_pass, next_pass, pending_of, written_of}
use Rattle.hx_cluster.specs.Events.{next, has_part, is_postable, IsStep}
use Rattle.hx_cluster.proofs.Allowed.{allowed}
use Rattle.hx_cluster.specs.Valid.{is_within, is_valid_model, is_valid_rule, has_good_ideal}
use Rattle.hx_cluster.specs.Ranged.{is_ranged_resource, IsRanged}
use Rattle.hx_safe.proofs.Counting.{all-append, all-le, all-filter, all-find}
use Rattle.hx_safe.proofs.Resources.{get-append, get-set}
use Rattle.hx_safe.proofs.Ideals.{none_from, length-put, all-put, all-get, mode_listed, mode_mapped, count_listed, count_mapped, mode_of_good, good_with, bare_good}
use Rattle.hx_safe.proofs.Fixed.{IsFixed, fixed_next}

-- what stands in a later cluster is in the ranges of the earlier one
record IsInRange (c d : Cluster) : Type 0 where
  resources : list_all (is_ranged_resource c) d.resources ≡ true
  few_resources : length d.resources ≤ 256
  live : list_all (λ l. has_instance c l.instance) d.live ≡ true
  leader : option_map_or (has_controller c) d.leader true ≡ true
  parts : (p : PartId) → has_part c p ≡ true → has_part d p ≡ true
  posted : list_all (is_postable c) d.posted ≡ true

in_self : (c : Cluster) → IsRanged c → IsInRange c c
in_self c r = record {
  resources = r.resources;
  few_resources = r.few_resources;
  live = r.live;
  leader = r.leader;
  parts = λ p e. e;
  posted = r.posted;
}

-- with the same numbers of instances, models, controllers and names, the ranges are the same
ranged-same : (c d : Cluster) → IsFixed c d → (r : Resource) → is_ranged_resource d r ≡ is_ranged_resource c r
ranged-same c d same r =
    let test : ℕ → List ModelParts → ℕ → Bool = λ names models instances. nat_lt r.name names && nat_lt r.model.0 (length models) && has_good_ideal instances models r in
    ap (λ (n : ℕ). test n d.models (length d.instances)) same.resource_names
    ∙ ap (λ (ms : List ModelParts). test c.resource_names ms (length d.instances)) same.models
    ∙ ap (λ (n : ℕ). test c.resource_names c.models n) same.instances

instance-same : (c d : Cluster) → IsFixed c d → (i : InstanceId) → has_instance d i ≡ has_instance c i
instance-same c d same i = ap (nat_lt i.0) same.instances

controller-same : (c d : Cluster) → IsFixed c d → (k : ControllerId) → has_controller d k ≡ has_controller c k
controller-same c d same k = ap (nat_lt k.0) same.controllers

postable-more : (c d : Cluster) → IsFixed c d → ((p : PartId) → has_part c p ≡ true → has_part d p ≡ true) → (x : Seen) → is_postable c x ≡ true → is_postable d x ≡ true
postable-more c d same parts x e =
    let one : has_instance d x.instance ≡ true = instance-same c d same x.instance ∙ grind (arith, e) in
    let two : has_part d x.part ≡ true = parts x.part (grind (arith, e)) in
    let three : nat_lt x.state.0 d.states ≡ true = ap (nat_lt x.state.0) same.states ∙ grind (arith, e) in
    grind (arith, one, two, three)

leader-same : (c d : Cluster) → IsFixed c d → (l : Option ControllerId) → option_map_or (has_controller c) l true ≡ true → option_map_or (has_controller d) l true ≡ true
leader-same c d same None e = refl
leader-same c d same (Some k) e = controller-same c d same k ∙ e

ranged_in : (c d : Cluster) → IsRanged c → IsFixed c d → IsInRange c d → IsRanged d
ranged_in c d r same within = record {
  instances = ap (is_within 1 64) same.instances ∙ r.instances;
  controllers = ap (is_within 1 16) same.controllers ∙ r.controllers;
  states = omega (arith, same.states, r.states);
  models = ap (λ (n : ℕ). list_all (is_valid_model n) d.models) same.states ∙ ap (λ (ms : List ModelParts). list_all (is_valid_model c.states) ms) same.models ∙ r.models;
  few_models = subst (λ (ms : List ModelParts). length ms ≤ 8) (sym same.models) r.few_models;
  rules = ap (λ (n : ℕ). list_all (is_valid_rule n) d.rules) same.states ∙ ap (λ (rs : List Rule). list_all (is_valid_rule c.states) rs) same.rules ∙ r.rules;
  few_rules = subst (λ (rs : List Rule). length rs ≤ 16) (sym same.rules) r.few_rules;
  resources = all-le (is_ranged_resource c) (is_ranged_resource d) (λ x e. ranged-same c d same x ∙ e) d.resources within.resources;
  few_resources = within.few_resources;
  live = all-le (λ l. has_instance c l.instance) (λ l. has_instance d l.instance) (λ l e. instance-same c d same l.instance ∙ e) d.live within.live;
  leader = leader-same c d same d.leader within.leader;
  posted = all-le (is_postable c) (is_postable d) (postable-more c d same within.parts) d.posted within.posted;
}

-- sessions that end or are heard of
in_without : (c d : Cluster) (s : SessionId) → IsInRange c d → IsInRange c (without d s)
in_without c d s w = record {
  resources = w.resources;
  few_resources = w.few_resources;
  live = all-filter (λ l. has_instance c l.instance) (λ l. not (l.session.0 == s.0)) d.live w.live;
  leader = w.leader;
  parts = w.parts;
  posted = w.posted;
}

in_without_all : (c d : Cluster) (ss : List SessionId) → IsInRange c d → IsInRange c (without_all d ss)
in_without_all c d [] w = w
in_without_all c d (s ∷ ss) w = in_without_all c (without d s) ss (in_without c d s w)

in_end : (c : Cluster) (o : Option Live) → IsInRange c c → IsInRange c (ended_of c o)
in_end c None w = w
in_end c (Some l) w = in_without c c l.session w

in_beat : (c : Cluster) (i : InstanceId) (o : Option Live) → live_of c.live i ≡ o → IsInRange c c → IsInRange c (beaten_of c o)
in_beat c i None found w = w
in_beat c i (Some l) found w = record {
  resources = w.resources;
  few_resources = w.few_resources;
  live = rw all-append (grind (
    arith,
    all-filter (λ x. has_instance c x.instance) (λ x. not (is_session l.session x)) c.live w.live,
    all-find (λ x. has_instance c x.instance) (is_of i) c.live l w.live found,
  ));
  leader = w.leader;
  parts = w.parts;
  posted = w.posted;
}

-- a resource that is edited
in_edit : (c : Cluster) (r : ResourceId) (f : Resource → Resource) (o : Option Resource) → resource_at c.resources r ≡ o
    → ((x : Resource) → resource_at c.resources r ≡ Some x → is_ranged_resource c x ≡ true → is_ranged_resource c (f x) ≡ true)
    → ((x : Resource) → (f x).ideal.parts ≡ x.ideal.parts) → IsInRange c c → IsInRange c (changed_at c r f o)
in_edit c r f None is ranged parts w = w
in_edit c r f (Some x) is ranged parts w = record {
  resources = all-put (is_ranged_resource c) c.resources r.0 (f x) w.resources (ranged x is (all-get (is_ranged_resource c) c.resources r.0 x w.resources is));
  few_resources = omega (arith, w.few_resources, length-put c.resources r.0 (f x));
  live = w.live;
  leader = w.leader;
  parts = λ p e. ap (nat_lt p.index) (get-set (λ (y : Resource). y.ideal.parts) 0 c.resources r.0 x (f x) is (parts x) p.resource.0) ∙ e;
  posted = w.posted;
}

-- with another list or map it has no fault
abbrev ideal_of : Cluster → Resource → Mode → Option IdealFault
ideal_of c x m = fault_of x.ideal.replicas x.ideal.parts m (length c.instances) (states_of (model_at c.models x.model))

ranged_with : (c : Cluster) (x : Resource) (m : Mode) → is_ranged_resource c x ≡ true → (ideal_of c x x.ideal.mode ≡ None → ideal_of c x m ≡ None)
    → is_ranged_resource c (with_mode x m) ≡ true
ranged_with c x m e good =
    let none : ideal_of c x m ≡ None = good (none_from (ideal_of c x x.ideal.mode) (grind (arith, e))) in
    let fits : is_none (ideal_of c x m) ≡ true = ap (λ o. is_none o) none in
    grind (arith, e, fits)

in_list : (c : Cluster) (p : PartId) (list : List InstanceId) → IsInRange c c → refusal_of c (steps.SetList p list) ≡ None → IsInRange c (after c (steps.SetList p list))
in_list c p list w free = in_edit c p.resource (λ x. with_mode x (put_list x.ideal.mode p.index list)) (resource_at c.resources p.resource) refl ranged (λ x. refl) w
  where
    ranged : (x : Resource) → resource_at c.resources p.resource ≡ Some x → is_ranged_resource c x ≡ true
        → is_ranged_resource c (with_mode x (put_list x.ideal.mode p.index list)) ≡ true
    ranged x is e =
        let may : edit_fault is_semi p (list_fault (length c.instances) p.index list) (Some x) ≡ None
        = ap (edit_fault is_semi p (list_fault (length c.instances) p.index list)) (sym is) ∙ free in
        let own = (allowed is_semi p (list_fault (length c.instances) p.index list) x may).own in
        ranged_with c x (put_list x.ideal.mode p.index list) e (λ none.
        good_with x.ideal.replicas x.ideal.parts (length c.instances) (states_of (model_at c.models x.model)) x.ideal.mode (put_list x.ideal.mode p.index list) none
        (count_listed x.ideal.mode p.index list)
        (mode_listed (length c.instances) (states_of (model_at c.models x.model)) x.ideal.mode p.index list
        (mode_of_good x.ideal.replicas x.ideal.parts (length c.instances) (states_of (model_at c.models x.model)) x.ideal.mode none) own))

in_map : (c : Cluster) (p : PartId) (map : List (InstanceId × StateId)) → IsInRange c c → refusal_of c (steps.SetMap p map) ≡ None → IsInRange c (after c (steps.SetMap p map))
in_map c p map w free = in_edit c p.resource (λ x. with_mode x (put_map x.ideal.mode p.index map)) (resource_at c.resources p.resource) refl ranged (λ x. refl) w
  where
    ranged : (x : Resource) → resource_at c.resources p.resource ≡ Some x → is_ranged_resource c x ≡ true
        → is_ranged_resource c (with_mode x (put_map x.ideal.mode p.index map)) ≡ true
    ranged x is e =
        let fault : ModelParts → Option IdealFault = λ m. map_fault (length c.instances) (states_of m) p.index map in
        let here : model_of c.models c.resources p.resource ≡ model_at c.models x.model = ap (λ (o : Option Resource). option_map_or (λ (y : Resource). model_at c.models y.model) o no_model) is in
        let may : edit_fault is_custom p (fault (model_at c.models x.model)) (Some x) ≡ None
        = ap (λ (m : ModelParts). edit_fault is_custom p (fault m) (Some x)) (sym here) ∙ ap (edit_fault is_custom p (fault (model_of c.models c.resources p.resource))) (sym is) ∙ free in
        let own = (allowed is_custom p (fault (model_at c.models x.model)) x may).own in
        ranged_with c x (put_map x.ideal.mode p.index map) e (λ none.
        good_with x.ideal.replicas x.ideal.parts (length c.instances) (states_of (model_at c.models x.model)) x.ideal.mode (put_map x.ideal.mode p.index map) none
        (count_mapped x.ideal.mode p.index map)
        (mode_mapped (length c.instances) (states_of (model_at c.models x.model)) x.ideal.mode p.index map
        (mode_of_good x.ideal.replicas x.ideal.parts (length c.instances) (states_of (model_at c.models x.model)) x.ideal.mode none) own))

-- a resource that is added
few-named : (c : Cluster) (o : Option ResourceId) → name_in_use c o ≡ None → nat_le 256 (length c.resources) ≡ false
few-named c None e = one (nat_le 256 (length c.resources)) refl e
  where
    one : (b : Bool) → nat_le 256 (length c.resources) ≡ b → (if b then Some faults.TooMany else None) ≡ None → nat_le 256 (length c.resources) ≡ false
    one true is e = cc
    one false is e = is
few-named c (Some r) e = one (not (is_dropped c.resources r) || is_held c r) (nat_le 256 (length c.resources)) refl e
  where
    one : (a d : Bool) → nat_le 256 (length c.resources) ≡ d → (if a then Some (faults.NameInUse r) else if d then Some faults.TooMany else None) ≡ None
        → nat_le 256 (length c.resources) ≡ false
    one true d is e = cc
    one false true is e = cc
    one false false is e = is

in_add : (c : Cluster) (name : ℕ) (model : ModelId) (ideal : IdealState) → IsInRange c c → is_in_range c (steps.Add name model ideal) ≡ true
    → refusal_of c (steps.Add name model ideal) ≡ None → IsInRange c (after c (steps.Add name model ideal))
in_add c name model ideal w range free =
    let x : Resource = record { name = name; model = model; ideal = ideal; dropped = false } in
    let bare : is_bare ideal ≡ true = grind (arith, range) in
    let good : is_none (fault_of ideal.replicas ideal.parts ideal.mode (length c.instances) (states_of (model_at c.models model))) ≡ true
    = ap (λ o. is_none o) (bare_good ideal (length c.instances) (states_of (model_at c.models model)) bare) in
    let new : is_ranged_resource c x ≡ true = grind (arith, range, good) in
    let few = few-named c (newest c name) free in
    record {
      resources = rw all-append (grind (arith, new, w.resources));
      few_resources = grind (arith, nat_tests, few, length-append c.resources (x ∷ []));
      live = w.live;
      leader = w.leader;
      parts = λ p e. one p x (resource_at c.resources p.resource) refl e;
      posted = w.posted;
    }
  where
    one : (p : PartId) (x : Resource) (o : Option Resource) → resource_at c.resources p.resource ≡ o → has_part c p ≡ true
        → nat_lt p.index (parts_of (c.resources ++ x ∷ []) p.resource) ≡ true
    one p x None is e =
        let none : parts_of c.resources p.resource ≡ 0 = ap (λ o. option_map_or (λ (y : Resource). y.ideal.parts) o 0) is in
        let low : nat_lt p.index 0 ≡ true = sym (ap (nat_lt p.index) none) ∙ e in
        absurd (grind (arith, nat_tests, low))
    one p x (Some y) is e =
        let same : resource_at (c.resources ++ x ∷ []) p.resource ≡ resource_at c.resources p.resource = get-append c.resources (x ∷ []) p.resource.0 y is ∙ sym is in
        ap (λ (o : Option Resource). nat_lt p.index (option_map_or (λ y. y.ideal.parts) o 0)) same ∙ e

-- a controller's mark, and a leader that leaves
in_mark : (c : Cluster) (k : ControllerId) (down : Bool) (o : Option (Bool × PassNo)) → IsInRange c c → IsInRange c (marked_down c k down o)
in_mark c k down None w = w
in_mark c k down (Some d) w = record { resources = w.resources; few_resources = w.few_resources; live = w.live; leader = w.leader; parts = w.parts; posted = w.posted }

in_left : (c d : Cluster) (b : Bool) → IsInRange c d → IsInRange c (if b then record d { leader = None; epoch = record { 0 = d.epoch.0 + 1 } } else d)
in_left c d true w = record { resources = w.resources; few_resources = w.few_resources; live = w.live; leader = refl; parts = w.parts; posted = w.posted }
in_left c d false w = w

in_stop : (c : Cluster) (k : ControllerId) → IsInRange c c → IsInRange c (without_leader k (with_down c k true))
in_stop c k w = in_left c (with_down c k true) (is_leader k (with_down c k true).leader) (in_mark c k true (slice_get c.controllers k.0) w)

in_asked : (c : Cluster) (p : PartId) (o : Option Live) → IsInRange c c → IsInRange c (asked_of c p o)
in_asked c p None w = w
in_asked c p (Some l) w = record { resources = w.resources; few_resources = w.few_resources; live = w.live; leader = w.leader; parts = w.parts; posted = w.posted }

in_step : (c : Cluster) (step : Admin) → IsInRange c c → is_in_range c step ≡ true → refusal_of c step ≡ None → IsInRange c (after c step)
in_step c (steps.Join i) w range free = record {
  resources = w.resources;
  few_resources = w.few_resources;
  live = rw all-append (grind (arith, w.live, range));
  leader = w.leader;
  parts = w.parts;
  posted = w.posted;
}
in_step c (steps.End i) w range free = in_end c (live_of c.live i) w
in_step c (steps.Beat i) w range free = in_beat c i (live_of c.live i) refl w
in_step c (steps.Tick n) w range free =
    in_without_all c (record c { clock = c.clock + n }) (ended_by c n)
    (record { resources = w.resources; few_resources = w.few_resources; live = w.live; leader = w.leader; parts = w.parts; posted = w.posted })
in_step c (steps.Add name model ideal) w range free = in_add c name model ideal w range free
in_step c (steps.Drop r) w range free = in_edit c r (λ x. record x { dropped = true }) (resource_at c.resources r) refl (λ x is e. e) (λ x. refl) w
in_step c (steps.SetList p list) w range free = in_list c p list w free
in_step c (steps.SetMap p map) w range free = in_map c p map w free
in_step c (steps.Reset i p) w range free = in_asked c p (live_of c.live i) w
in_step c (steps.Lead k) w range free = record { resources = w.resources; few_resources = w.few_resources; live = w.live; leader = range; parts = w.parts; posted = w.posted }
in_step c (steps.Stop k) w range free = in_stop c k w
in_step c (steps.Start k) w range free = in_mark c k false (slice_get c.controllers k.0) w
in_step c _ w range free = record { resources = w.resources; few_resources = w.few_resources; live = w.live; leader = w.leader; parts = w.parts; posted = w.posted }

-- proposals and outcomes
in_raised : (c : Cluster) (k : ControllerId) (o : Option (Bool × PassNo)) → IsInRange c c → IsInRange c (raised_pass c k o)
in_raised c k None w = w
in_raised c k (Some d) w = record { resources = w.resources; few_resources = w.few_resources; live = w.live; leader = w.leader; parts = w.parts; posted = w.posted }

in_placed : (c d : Cluster) (q : Proposal) (a : Placed) → IsInRange c d → IsInRange c (after_placed d q a)
in_placed c d q (placings.Sent id) w = record { resources = w.resources; few_resources = w.few_resources; live = w.live; leader = w.leader; parts = w.parts; posted = w.posted }
in_placed c d q _ w = w

in_proposals : (c d : Cluster) (qs : List Proposal) → IsInRange c d → IsInRange c (after_proposals d qs)
in_proposals c d [] w = w
in_proposals c d (q ∷ qs) w = in_proposals c (after_proposal d q) qs (in_placed c d q (placed_of d q) w)

in_written : (c : Cluster) (s : SessionId) (id : MsgId) (outcome : Outcome) (o : Option Message) → IsInRange c c → IsInRange c (written_of c s id outcome o)
in_written c s id outcome None w = w
in_written c s id outcome (Some m) w = record { resources = w.resources; few_resources = w.few_resources; live = w.live; leader = w.leader; parts = w.parts; posted = w.posted }

in_next : (c : Cluster) (e : Event) → IsInRange c c → IsStep c e → IsInRange c (next c e)
in_next c (events.Admin step did) w legal = in_step c step w legal.0 legal.1
in_next c (events.Begin k begun) w legal = in_raised c k (slice_get c.controllers k.0) w
in_next c (events.Dispatch k epoch pass proposals answer) w legal = in_proposals c (next_pass c k) proposals (in_raised c k (slice_get c.controllers k.0) w)
in_next c (events.Post k epoch rows) w legal = record { resources = w.resources; few_resources = w.few_resources; live = w.live; leader = w.leader; parts = w.parts; posted = legal.1 }
in_next c (events.Write s id outcome) w legal = in_written c s id outcome (pending_of c s id) w
in_next c _ w legal = record { resources = w.resources; few_resources = w.few_resources; live = w.live; leader = w.leader; parts = w.parts; posted = w.posted }

-- each event keeps all in range
pub ranged_next : (c : Cluster) (e : Event) → IsRanged c → IsStep c e → IsRanged (next c e)
ranged_next c e r legal = ranged_in c (next c e) r (fixed_next c e) (in_next c e (in_self c r) legal)
