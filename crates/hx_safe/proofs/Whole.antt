-- All that is kept, by each event.
use Rattle.std.proofs.Common.{◌≡◌, ℕ, zero, suc, ◌+◌, ◌≤◌, ◌⊎◌, ap, ◌∙◌, length, Bool, true, false, List, [], ◌∷◌, Option, Some, None, refl, arith}
use Rattle.std.specs.Prelude.{nat_lt, replicate, if◌then◌else◌, slice_get, slice_set}
use Rattle.std.specs.List.{list_all}
use Rattle.hx_ids.specs.declared.StateId.{StateId}
use Rattle.hx_ids.specs.declared.ControllerId.{ControllerId}
use Rattle.hx_ids.specs.declared.ResourceId.{ResourceId}
use Rattle.hx_ids.specs.declared.InstanceId.{InstanceId}
use Rattle.hx_ids.specs.declared.PartId.{PartId}
use Rattle.hx_ids.specs.declared.PassNo.{PassNo}
use Rattle.hx_ids.specs.declared.Live.{Live}
use Rattle.hx_model.specs.Model.{states_of}
use Rattle.hx_ideal.specs.IdealState.{put_list, put_map}
use Rattle.hx_cluster.specs.declared.description.Resource.{Resource}
use Rattle.hx_cluster.specs.declared.description.Spec.{Spec}
use Rattle.hx_cluster.specs.declared.state.Cluster.{Cluster}
use Rattle.hx_cluster.specs.declared.happenings.Admin.{Admin}
use Rattle.hx_cluster.specs.declared.happenings.Admin.TheVariants as steps
use Rattle.hx_cluster.specs.declared.happenings.Event.{Event}
use Rattle.hx_cluster.specs.declared.happenings.Event.TheVariants as events
use Rattle.hx_cluster.specs.Ends.{resource_at, count_of, limit_at}
use Rattle.hx_cluster.specs.Steps.{opening, new_resource, refusal_of, after, ended_by, live_of, beaten_of, changed_at, with_resource, asked_of, marked_down, with_down, without_leader, is_leader}
use Rattle.hx_cluster.specs.Events.{next, replay, IsStep, IsLegal}
use Rattle.hx_cluster.specs.Safe.{IsBoundedBy, IsBounded, IsThrottled, IsSafeBy, IsSafe, SafeAlong}
use Rattle.hx_cluster.specs.Valid.{is_within, has_no_fault, is_named_state, is_valid_model, has_good_ideal, is_valid_resource, IsValid}
use Rattle.hx_cluster.specs.Ranged.{is_ranged_resource, IsRanged}
use Rattle.hx_safe.specs.Sound.{IsSound}
use Rattle.hx_safe.specs.Ordered.{IsOrdered}
use Rattle.hx_safe.specs.Along.{HoldsAlong}
use Rattle.hx_safe.proofs.Kept.{IsKept, kept_beside, kept_raised, kept_join, kept_take, kept_ack}
use Rattle.hx_safe.proofs.Sending.{kept_dispatch}
use Rattle.hx_safe.proofs.Writing.{kept_write}
use Rattle.hx_safe.proofs.Ending.{along_without_all, along_end}
use Rattle.hx_safe.proofs.Leaving.{kept_without, kept_beat}
use Rattle.hx_safe.proofs.Resources.{kept_drop, kept_mode, kept_add, kept_reset}
use Rattle.hx_safe.proofs.Bounds.{counts_next, bounded_next}
use Rattle.hx_safe.proofs.Ranges.{ranged_next}
use Rattle.hx_safe.proofs.Counting.{all-le, and-first}
use Rattle.hx_safe.proofs.Orders.{ordered_next}
use Rattle.hx_safe.proofs.Throttles.{throttled_join, throttled_beat, throttled_without, throttled_take, throttled_write, throttled_ack, throttled_raised, throttled_dispatch}
use Rattle.hx_safe.proofs.Sessions.{IsSeated, seated_join, seated_without, seated_tick, seated_beat, seated_lead, seated_raised, seated_start, seated_stop, seated_dispatch, seated_write}

pub record IsWhole (c : Cluster) : Type 0 where
  pub kept : IsKept c
  pub throttled : IsThrottled c
  pub seated : IsSeated c

-- a controller's mark, and a leader that stops
whole_start : (c : Cluster) (k : ControllerId) → IsWhole c → IsWhole (with_down c k false)
whole_start c k w = record { kept = kept (slice_get c.controllers k.0); throttled = throttled (slice_get c.controllers k.0); seated = seated_start c k w.seated }
  where
    kept : (x : Option (Bool × PassNo)) → IsKept (marked_down c k false x)
    kept None = w.kept
    kept (Some d) = kept_beside c c.instances c.leader c.epoch (slice_set c.controllers k.0 (false, d.1)) c.clock c.line c.change c.posted w.kept

    throttled : (x : Option (Bool × PassNo)) → IsThrottled (marked_down c k false x)
    throttled None = w.throttled
    throttled (Some d) = w.throttled

whole_stop : (c : Cluster) (k : ControllerId) → IsWhole c → IsWhole (without_leader k (with_down c k true))
whole_stop c k w = record { kept = kept (slice_get c.controllers k.0); throttled = throttled (slice_get c.controllers k.0); seated = seated_stop c k w.seated }
  where
    left : (x : Cluster) (b : Bool) → IsKept x → IsKept (if b then record x { leader = None; epoch = record { 0 = x.epoch.0 + 1 } } else x)
    left x true h = kept_beside x x.instances None (record { 0 = x.epoch.0 + 1 }) x.controllers x.clock x.line x.change x.posted h
    left x false h = h

    kept : (x : Option (Bool × PassNo)) → IsKept (without_leader k (marked_down c k true x))
    kept None = left c (is_leader k c.leader) w.kept
    kept (Some d) = left (marked_down c k true (Some d)) (is_leader k c.leader) (kept_beside c c.instances c.leader c.epoch (slice_set c.controllers k.0 (true, d.1)) c.clock c.line c.change c.posted w.kept)

    still : (x : Cluster) (b : Bool) → IsThrottled x → IsThrottled (if b then record x { leader = None; epoch = record { 0 = x.epoch.0 + 1 } } else x)
    still x true h = h
    still x false h = h

    throttled : (x : Option (Bool × PassNo)) → IsThrottled (without_leader k (marked_down c k true x))
    throttled None = still c (is_leader k c.leader) w.throttled
    throttled (Some d) = still (marked_down c k true (Some d)) (is_leader k c.leader) w.throttled

-- a resource's edit changes neither sessions nor messages
whole_edited : (c : Cluster) (r : ResourceId) (f : Resource → Resource) → IsWhole c → IsKept (with_resource c r f) → IsWhole (with_resource c r f)
whole_edited c r f w k = record { kept = k; throttled = throttled (resource_at c.resources r); seated = seated (resource_at c.resources r) }
  where
    throttled : (o : Option Resource) → IsThrottled (changed_at c r f o)
    throttled None = w.throttled
    throttled (Some x) = w.throttled

    seated : (o : Option Resource) → IsSeated (changed_at c r f o)
    seated None = w.seated
    seated (Some x) = record { instances = w.seated.instances; beats = w.seated.beats; leader = w.seated.leader }

whole_beat : (c : Cluster) (o : Option Live) (i : InstanceId) → live_of c.live i ≡ o → IsWhole c → IsWhole (beaten_of c o)
whole_beat c None i is w = w
whole_beat c (Some l) i is w = record { kept = kept_beat c i l w.kept is; throttled = throttled_beat c i l w.kept w.throttled is; seated = seated_beat c i l w.seated is }

whole_asked : (c : Cluster) (p : PartId) (o : Option Live) → IsWhole c → IsKept (asked_of c p o) → IsWhole (asked_of c p o)
whole_asked c p None w k = w
whole_asked c p (Some l) w k = record { kept = k; throttled = w.throttled; seated = record { instances = w.seated.instances; beats = w.seated.beats; leader = w.seated.leader } }

drained : (c : Cluster) (instances : List Bool) → IsWhole c → IsWhole (record c { instances = instances; change = c.change + 1 })
drained c instances w = record {
  kept = kept_beside c instances c.leader c.epoch c.controllers c.clock c.line (c.change + 1) c.posted w.kept;
  throttled = w.throttled;
  seated = record { instances = w.seated.instances; beats = w.seated.beats; leader = w.seated.leader };
}

whole_step : (c : Cluster) (step : Admin) → IsWhole c → refusal_of c step ≡ None → IsWhole (after c step)
whole_step c (steps.Join i) w free = record { kept = kept_join c i w.kept; throttled = throttled_join c i w.kept w.throttled; seated = seated_join c i w.seated free }
whole_step c (steps.End i) w free = record { kept = along_end IsKept kept_without c (live_of c.live i) w.kept; throttled = along_end IsThrottled throttled_without c (live_of c.live i) w.throttled; seated = along_end IsSeated seated_without c (live_of c.live i) w.seated }
whole_step c (steps.Beat i) w free = whole_beat c (live_of c.live i) i refl w
whole_step c (steps.Tick n) w free =
    let later : Cluster = record c { clock = c.clock + n } in
    record {
      kept = along_without_all IsKept kept_without later (ended_by c n) (kept_beside c c.instances c.leader c.epoch c.controllers (c.clock + n) c.line c.change c.posted w.kept);
      throttled = along_without_all IsThrottled throttled_without later (ended_by c n) w.throttled;
      seated = along_without_all IsSeated seated_without later (ended_by c n) (seated_tick c n w.seated);
    }
whole_step c (steps.Drain i) w free = drained c (slice_set c.instances i.0 true) w
whole_step c (steps.Undrain i) w free = drained c (slice_set c.instances i.0 false) w
whole_step c (steps.Add name model ideal) w free = record {
  kept = kept_add c (new_resource name model ideal) w.kept;
  throttled = w.throttled;
  seated = record { instances = w.seated.instances; beats = w.seated.beats; leader = w.seated.leader };
}
whole_step c (steps.Drop r) w free = whole_edited c r (λ x. record x { dropped = true }) w (kept_drop c r w.kept)
whole_step c (steps.SetList p list) w free = whole_edited c p.resource _ w (kept_mode c p.resource (λ m. put_list m p.index list) w.kept)
whole_step c (steps.SetMap p map) w free = whole_edited c p.resource _ w (kept_mode c p.resource (λ m. put_map m p.index map) w.kept)
whole_step c (steps.Reset i p) w free = whole_asked c p (live_of c.live i) w (kept_reset c p (live_of c.live i) w.kept free)
whole_step c (steps.Lead k) w free = record { kept = kept_beside c c.instances (Some k) c.epoch c.controllers c.clock c.line c.change c.posted w.kept; throttled = w.throttled; seated = seated_lead c k w.seated free }
whole_step c (steps.Stop k) w free = whole_stop c k w
whole_step c (steps.Start k) w free = whole_start c k w

pub whole_next : (c : Cluster) (e : Event) → IsWhole c → IsStep c e → IsWhole (next c e)
whole_next c (events.Admin step did) w legal = whole_step c step w legal.1
whole_next c (events.Line n) w legal = record {
  kept = kept_beside c c.instances c.leader c.epoch c.controllers c.clock (Some n) c.change c.posted w.kept;
  throttled = w.throttled;
  seated = record { instances = w.seated.instances; beats = w.seated.beats; leader = w.seated.leader };
}
whole_next c (events.Begin k begun) w legal = record { kept = kept_raised c k w.kept; throttled = throttled_raised c k w.throttled; seated = seated_raised c k w.seated }
whole_next c (events.Live k pass) w legal = w
whole_next c (events.Mail k pass s) w legal = w
whole_next c (events.States k pass s) w legal = w
whole_next c (events.Ideals k pass) w legal = w
whole_next c (events.Dispatch k epoch pass proposals answer) w legal = record {
  kept = kept_dispatch c k proposals w.kept legal.0;
  throttled = throttled_dispatch c k proposals w.throttled;
  seated = seated_dispatch c k proposals w.seated;
}
whole_next c (events.Post k epoch rows) w legal = record {
  kept = kept_beside c c.instances c.leader c.epoch c.controllers c.clock c.line c.change rows w.kept;
  throttled = w.throttled;
  seated = record { instances = w.seated.instances; beats = w.seated.beats; leader = w.seated.leader };
}
whole_next c (events.Fetch i s n) w legal = w
whole_next c (events.Take s id) w legal = record {
  kept = kept_take c s id w.kept;
  throttled = throttled_take c s id w.throttled;
  seated = record { instances = w.seated.instances; beats = w.seated.beats; leader = w.seated.leader };
}
whole_next c (events.Write s id outcome) w legal = record { kept = kept_write c s id outcome w.kept legal; throttled = throttled_write c s id outcome w.throttled; seated = seated_write c s id outcome w.seated }
whole_next c (events.Ack s id) w legal = record {
  kept = kept_ack c s id w.kept;
  throttled = throttled_ack c s id w.throttled;
  seated = record { instances = w.seated.instances; beats = w.seated.beats; leader = w.seated.leader };
}

safe_from : (c : Cluster) → IsBounded c → IsWhole c → IsSafe c
safe_from c bounded w = record {
  bounded = bounded;
  throttled = w.throttled;
  mail = w.kept.mail;
  rows = w.kept.rows;
  sessions = record { numbers = w.kept.numbers; below = w.kept.below; instances = w.seated.instances; beats = w.seated.beats; leader = w.seated.leader };
}

safe_along : (c : Cluster) (h : List Event) → IsBounded c → IsWhole c → IsLegal c h → SafeAlong c h
safe_along c [] b w legal = safe_from c b w
safe_along c (e ∷ es) b w legal =
    (safe_from c b w, safe_along (next c e) es (bounded_next c e w.kept b legal.0) (whole_next c e w legal.0) legal.1)

pub whole_opening : (spec : Spec) → IsSound spec → IsWhole (opening spec)
whole_opening spec sound = record {
  kept = record {
    mail = record { pending = refl; numbers = λ n. omega arith; single = λ s p. omega arith };
    rows = record { kept = refl; single = λ s p. omega arith; flags = refl };
    numbers = λ s. omega arith;
    below = refl;
    sound = sound.models;
  };
  throttled = λ n r key e. omega arith;
  seated = record { instances = λ i. omega arith; beats = refl; leader = refl };
}

pub legal_safe : (spec : Spec) → IsSound spec → (h : List Event) → IsLegal (opening spec) h → SafeAlong (opening spec) h
legal_safe spec sound h legal = safe_along (opening spec) h (λ p t limit e. omega arith) (whole_opening spec sound) legal

safe_end : (c : Cluster) (h : List Event) → SafeAlong c h → IsSafe (replay c h)
safe_end c [] safe = safe
safe_end c (e ∷ es) safe = safe_end (next c e) es safe.1

-- what an event keeps beside stands along each legal history, and at its end
pub along : (P : Cluster → Type 0) → ((c : Cluster) (e : Event) → IsKept c → P c → IsStep c e → P (next c e)) → (c : Cluster) (h : List Event) → IsWhole c → P c → IsLegal c h → HoldsAlong P c h
along P each c [] w here legal = here
along P each c (e ∷ es) w here legal = (here, along P each (next c e) es (whole_next c e w legal.0) (each c e w.kept here legal.0) legal.1)

pub at_end : (P : Cluster → Type 0) (c : Cluster) (h : List Event) → HoldsAlong P c h → P (replay c h)
at_end P c [] here = here
at_end P c (e ∷ es) here = at_end P (next c e) es here.1

-- a valid description is sound, and its opening in order and in range
pub sound_from : (spec : Spec) → IsValid spec → IsSound spec
sound_from spec valid = record { models = all-le (is_valid_model (length spec.states)) has_no_fault (λ m e. and-first (has_no_fault m) (list_all (is_named_state (length spec.states)) (states_of m)) e) spec.models valid.models }

pub length-replicate : {X : Type 0} (n : ℕ) (x : X) → length (replicate n x) ≡ n
length-replicate zero x = refl
length-replicate (suc n) x = grind (arith, length-replicate n x)

pub ranged_opening : (spec : Spec) → IsValid spec → IsRanged (opening spec)
ranged_opening spec valid = record {
  instances = ap (is_within 1 64) instances ∙ valid.some_instances;
  controllers = ap (is_within 1 16) (length-replicate spec.controllers (false, record { 0 = 0 })) ∙ valid.controllers;
  states = valid.few_states;
  models = valid.models;
  few_models = valid.few_models;
  rules = valid.rules;
  few_rules = valid.few_rules;
  resources = all-le (is_valid_resource spec) (is_ranged_resource (opening spec)) ranged spec.resources valid.resources;
  few_resources = valid.few_resources;
  live = refl;
  leader = refl;
  posted = refl;
}
  where
    instances : length (replicate (length spec.instances) false) ≡ length spec.instances
    instances = length-replicate (length spec.instances) false

    ranged : (r : Resource) → is_valid_resource spec r ≡ true → is_ranged_resource (opening spec) r ≡ true
    ranged r e =
        let name : nat_lt r.name (length spec.resource_names) ≡ true = grind (arith, e) in
        let model : nat_lt r.model.0 (length spec.models) ≡ true = grind (arith, e) in
        let good : has_good_ideal (length spec.instances) spec.models r ≡ true = grind (arith, e) in
        let fits : has_good_ideal (length (replicate (length spec.instances) false)) spec.models r ≡ true = ap (λ (n : ℕ). has_good_ideal n spec.models r) instances ∙ good in
        grind (arith, name, model, fits)

-- the laws
pub valid_safe : (spec : Spec) → IsValid spec → (h : List Event) → IsLegal (opening spec) h → SafeAlong (opening spec) h
valid_safe spec valid h legal = legal_safe spec (sound_from spec valid) h legal

pub reached_safe : (spec : Spec) → IsValid spec → (h : List Event) → IsLegal (opening spec) h → IsSafe (replay (opening spec) h)
reached_safe spec valid h legal = safe_end (opening spec) h (valid_safe spec valid h legal)

pub valid_ordered : (spec : Spec) → IsValid spec → (h : List Event) → IsLegal (opening spec) h → HoldsAlong IsOrdered (opening spec) h
valid_ordered spec valid h legal =
    along IsOrdered ordered_next (opening spec) h (whole_opening spec (sound_from spec valid)) (record { rows = refl; resets = refl; mail = refl }) legal

pub reached_ordered : (spec : Spec) → IsValid spec → (h : List Event) → IsLegal (opening spec) h → IsOrdered (replay (opening spec) h)
reached_ordered spec valid h legal = at_end IsOrdered (opening spec) h (valid_ordered spec valid h legal)

pub valid_ranged : (spec : Spec) → IsValid spec → (h : List Event) → IsLegal (opening spec) h → HoldsAlong IsRanged (opening spec) h
valid_ranged spec valid h legal =
    along IsRanged (λ c e k r step. ranged_next c e r step) (opening spec) h (whole_opening spec (sound_from spec valid)) (ranged_opening spec valid) legal

pub reached_ranged : (spec : Spec) → IsValid spec → (h : List Event) → IsLegal (opening spec) h → IsRanged (replay (opening spec) h)
reached_ranged spec valid h legal = at_end IsRanged (opening spec) h (valid_ranged spec valid h legal)

-- whatever number of replicas is allowed, a safe cluster in range keeps the rest by each event
pub whole_from : (allowed : PartId → StateId → Option ℕ) (c : Cluster) → IsSafeBy allowed c → IsRanged c → IsWhole c
whole_from allowed c safe ranged = record {
  kept = record {
    mail = safe.mail;
    rows = safe.rows;
    numbers = safe.sessions.numbers;
    below = safe.sessions.below;
    sound = all-le (is_valid_model c.states) has_no_fault (λ m e. and-first (has_no_fault m) (list_all (is_named_state c.states) (states_of m)) e) c.models ranged.models;
  };
  throttled = safe.throttled;
  seated = record { instances = safe.sessions.instances; beats = safe.sessions.beats; leader = safe.sessions.leader };
}

pub safe_by : (allowed after : PartId → StateId → Option ℕ) (c : Cluster) (e : Event) → IsSafeBy allowed c → IsRanged c → IsStep c e
    → IsBoundedBy after (next c e) → IsSafeBy after (next c e)
safe_by allowed after c e safe ranged step bounded =
    let w = whole_next c e (whole_from allowed c safe ranged) step in
    record {
      bounded = bounded;
      throttled = w.throttled;
      mail = w.kept.mail;
      rows = w.kept.rows;
      sessions = record { numbers = w.kept.numbers; below = w.kept.below; instances = w.seated.instances; beats = w.seated.beats; leader = w.seated.leader };
    }

pub counts_by : (allowed : PartId → StateId → Option ℕ) (c : Cluster) (e : Event) → IsSafeBy allowed c → IsRanged c → IsStep c e
    → (p : PartId) (t : StateId) (limit : ℕ) → limit_at (next c e) p t ≡ Some limit
    → (count_of (next c e) p t ≤ count_of c p t) ⊎ (count_of (next c e) p t ≤ limit)
counts_by allowed c e safe ranged step p t limit at = counts_next c e (whole_from allowed c safe ranged).kept step p t limit at
