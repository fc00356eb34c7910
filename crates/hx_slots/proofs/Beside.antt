-- The numbers at the opening, and as what they don't count changes.
use Rattle.std.proofs.Common.{◌≡◌, ℕ, ◌+◌, not, Bool, true, false, List, [], ◌∷◌, ◌++◌, Option, Some, None, refl, sym, ap, ◌∙◌, subst, arith}
use Rattle.std.specs.Prelude.{if◌then◌else◌, nat_lt, slice_get, slice_set}
use Rattle.std.specs.Option.{option_map_or}
use Rattle.std.proofs.lemmas.Bool.Decides.{nat_tests}
use Rattle.hx_ids.specs.declared.StateId.{StateId}
use Rattle.hx_ids.specs.declared.InstanceId.{InstanceId}
use Rattle.hx_ids.specs.declared.SessionId.{SessionId}
use Rattle.hx_ids.specs.declared.ResourceId.{ResourceId}
use Rattle.hx_ids.specs.declared.ControllerId.{ControllerId}
use Rattle.hx_ids.specs.declared.PassNo.{PassNo}
use Rattle.hx_ids.specs.declared.Epoch.{Epoch}
use Rattle.hx_ids.specs.declared.PartId.{PartId}
use Rattle.hx_ids.specs.declared.Live.{Live}
use Rattle.hx_model.specs.declared.ModelParts.{ModelParts}
use Rattle.hx_model.specs.Model.{bound_of}
use Rattle.hx_ideal.specs.IdealState.{put_list, put_map}
use Rattle.hx_counts.specs.Tally.{Numbers, ends_of, loads_of}
use Rattle.hx_cluster.specs.declared.description.Resource.{Resource}
use Rattle.hx_cluster.specs.declared.description.Rule.{Rule}
use Rattle.hx_cluster.specs.declared.description.Spec.{Spec}
use Rattle.hx_cluster.specs.declared.state.Row.{Row}
use Rattle.hx_cluster.specs.declared.state.Message.{Message}
use Rattle.hx_cluster.specs.declared.state.Cluster.{Cluster}
use Rattle.hx_cluster.specs.declared.happenings.Seen.{Seen}
use Rattle.hx_cluster.specs.declared.happenings.Admin.{Admin}
use Rattle.hx_cluster.specs.declared.happenings.Admin.TheVariants as steps
use Rattle.hx_cluster.specs.Ends.{part_eq, is_row, is_message, sessions_of, has_end, count_of, resource_at, no_model, model_at, model_of, parts_of}
use Rattle.hx_cluster.specs.Steps.{opening, after, changed_at, with_mode, marked_down, with_down, without_leader, is_leader, live_of, asked_of, new_resource}
use Rattle.hx_cluster.specs.Messages.{raised_pass, next_pass}
use Rattle.hx_cluster.specs.Events.{has_part}
use Rattle.hx_safe.proofs.Counting.{count-never, none-from-all}
use Rattle.hx_safe.proofs.Ends.{part_same}
use Rattle.hx_safe.proofs.Resources.{get-append, get-set}
use Rattle.hx_safe.proofs.Beside.{is_aside}
use Rattle.hx_slots.specs.Tallies.{is_free, is_limited, IsRaised, IsLowered, IsRowLowered, IsUnchanged, load_at, IsCounted}
use Rattle.hx_slots.proofs.Listed.{IsListed, is_message_listed, is_row_listed}
use Rattle.hx_slots.proofs.Seated.{no_end}

-- at the opening all numbers are 0
pub counted_opening : (spec : Spec) (k : Numbers) → ((p : PartId) (t : StateId) → ends_of k p t ≡ 0) → ((n key : ℕ) → loads_of k n key ≡ 0) → IsCounted (opening spec) k
counted_opening spec k no_ends no_loads = record {
  ends = λ p t. no_ends p t ∙ zero (is_limited spec.models spec.resources p t);
  loads = λ n key. no_loads n key ∙ none (slice_get spec.rules n) key;
}
  where
    zero : (b : Bool) → ◌≡◌ {A = ℕ} 0 (if b then 0 else 0)
    zero true = refl
    zero false = refl

    none : (o : Option Rule) (key : ℕ) → ◌≡◌ {A = ℕ} 0 (load_at (opening spec) o key)
    none None key = refl
    none (Some r) key = refl

-- what they don't speak of may change
pub counted_beside : (c : Cluster) (instances : List Bool) (resets : List (SessionId × PartId)) (leader : Option ControllerId) (epoch : Epoch) (controllers : List (Bool × PassNo))
    (clock : ℕ) (line : Option ℕ) (change : ℕ) (posted : List Seen) (next_session next_msg timeout states resource_names : ℕ) (k : Numbers)
    → IsCounted c k
    → IsCounted (record c {
      instances = instances;
      resets = resets;
      leader = leader;
      epoch = epoch;
      controllers = controllers;
      clock = clock;
      line = line;
      change = change;
      posted = posted;
      next_session = next_session;
      next_msg = next_msg;
      timeout = timeout;
      states = states;
      resource_names = resource_names;
    }) k
counted_beside c instances resets leader epoch controllers clock line change posted next_session next_msg timeout states resource_names k old = record {
  ends = old.ends;
  loads = old.loads;
}

pub counted_pass : (c : Cluster) (n : ControllerId) (k : Numbers) → IsCounted c k → IsCounted (next_pass c n) k
counted_pass c n k old = one (slice_get c.controllers n.0)
  where
    one : (o : Option (Bool × PassNo)) → IsCounted (raised_pass c n o) k
    one None = old
    one (Some d) = record { ends = old.ends; loads = old.loads }

counted_mark : (c : Cluster) (n : ControllerId) (down : Bool) (k : Numbers) → IsCounted c k → IsCounted (with_down c n down) k
counted_mark c n down k old = one (slice_get c.controllers n.0)
  where
    one : (o : Option (Bool × PassNo)) → IsCounted (marked_down c n down o) k
    one None = old
    one (Some d) = record { ends = old.ends; loads = old.loads }

counted_stop : (c : Cluster) (n : ControllerId) (k : Numbers) → IsCounted c k → IsCounted (without_leader n c) k
counted_stop c n k old = one (is_leader n c.leader)
  where
    one : (b : Bool) → IsCounted (if b then record c { leader = None; epoch = record { 0 = c.epoch.0 + 1 } } else c) k
    one true = record { ends = old.ends; loads = old.loads }
    one false = old

-- other resources: a state is limited as it was, or counted for no replica
counted_resources : (c : Cluster) (resources : List Resource) (change : ℕ) (k : Numbers)
    → ((p : PartId) (t : StateId) → (if is_limited c.models resources p t then count_of c p t else 0) ≡ (if is_limited c.models c.resources p t then count_of c p t else 0))
    → IsCounted c k → IsCounted (record c { resources = resources; change = change }) k
counted_resources c resources change k same old = record { ends = λ p t. old.ends p t ∙ sym (same p t); loads = old.loads }

limited_same : (models : List ModelParts) (old new : List Resource) (p : PartId) (t : StateId) → model_of models new p.resource ≡ model_of models old p.resource
    → is_limited models new p t ≡ is_limited models old p t
limited_same models old new p t same = ap (λ (m : ModelParts). not (is_free (bound_of m t))) same

-- an edit keeps a resource's model
counted_edit : (c : Cluster) (r : ResourceId) (f : Resource → Resource) (k : Numbers) → ((x : Resource) → (f x).model ≡ x.model) → IsCounted c k
    → IsCounted (changed_at c r f (resource_at c.resources r)) k
counted_edit c r f k keeps old = one (resource_at c.resources r) refl
  where
    one : (o : Option Resource) → resource_at c.resources r ≡ o → IsCounted (changed_at c r f o) k
    one None is = old
    one (Some x) is = counted_resources c (slice_set c.resources r.0 (f x)) (c.change + 1) k
        (λ p t. ap (λ (b : Bool). if b then count_of c p t else 0) (limited_same c.models c.resources (slice_set c.resources r.0 (f x)) p t
        (get-set (λ (y : Resource). model_at c.models y.model) no_model c.resources r.0 x (f x) is (ap (model_at c.models) (keeps x)) p.resource.0))) old

-- a part that isn't there has no ends
no_part : (c : Cluster) (p : PartId) (t : StateId) → IsListed c → resource_at c.resources p.resource ≡ None → count_of c p t ≡ 0
no_part c p t k none = count-never (has_end c.rows c.mail p t) each (sessions_of c.live)
  where
    parts : parts_of c.resources p.resource ≡ 0
    parts = ap (λ (o : Option Resource). option_map_or (λ (x : Resource). x.ideal.parts) o 0) none

    absent : (q : PartId) → has_part c q ≡ true → (b : Bool) → part_eq q p ≡ b → b ≡ false
    absent q e true is =
        let there : has_part c p ≡ true = subst (λ (x : PartId). has_part c x ≡ true) (part_same q p is) e in
        let low : nat_lt p.index 0 ≡ true = sym (ap (nat_lt p.index) parts) ∙ there in
        grind (arith, nat_tests, low)
    absent q e false is = refl

    each : (u : SessionId) → has_end c.rows c.mail p t u ≡ false
    each u =
        no_end c.rows c.mail u p t
        (none-from-all (is_row_listed c) (is_row u p) (λ r e. let other = absent r.part (grind (arith, e)) (part_eq r.part p) refl in grind (arith, other)) c.rows k.rows)
        (none-from-all (is_message_listed c) (is_message u p) (λ m e. let other = absent m.part (grind (arith, e)) (part_eq m.part p) refl in grind (arith, other)) c.mail k.mail)

-- so a resource that is added changes no number
counted_add : (c : Cluster) (x : Resource) (k : Numbers) → IsListed c → IsCounted c k → IsCounted (record c { resources = c.resources ++ x ∷ []; change = c.change + 1 }) k
counted_add c x k listed old = counted_resources c (c.resources ++ x ∷ []) (c.change + 1) k (λ p t. one p t (resource_at c.resources p.resource) refl) old
  where
    nothing : (a b : Bool) (n : ℕ) → n ≡ 0 → (if a then n else 0) ≡ (if b then n else 0)
    nothing a b n e = grind (arith, e)

    one : (p : PartId) (t : StateId) (o : Option Resource) → resource_at c.resources p.resource ≡ o
        → (if is_limited c.models (c.resources ++ x ∷ []) p t then count_of c p t else 0) ≡ (if is_limited c.models c.resources p t then count_of c p t else 0)
    one p t None is = nothing (is_limited c.models (c.resources ++ x ∷ []) p t) (is_limited c.models c.resources p t) (count_of c p t) (no_part c p t listed is)
    one p t (Some y) is =
        let same : resource_at (c.resources ++ x ∷ []) p.resource ≡ resource_at c.resources p.resource = get-append c.resources (x ∷ []) p.resource.0 y is ∙ sym is in
        ap (λ (b : Bool). if b then count_of c p t else 0) (limited_same c.models c.resources (c.resources ++ x ∷ []) p t
        (ap (λ (o : Option Resource). option_map_or (λ (z : Resource). model_at c.models z.model) o no_model) same))

-- a step that is no join, end, beat, tick or reset
pub counted_step : (c : Cluster) (step : Admin) (k : Numbers) → IsListed c → is_aside step ≡ true → IsCounted c k → IsCounted (after c step) k
counted_step c (steps.Join i) k listed e old = cc
counted_step c (steps.End i) k listed e old = cc
counted_step c (steps.Beat i) k listed e old = cc
counted_step c (steps.Tick n) k listed e old = cc
counted_step c (steps.Reset i p) k listed e old = cc
counted_step c (steps.Drain i) k listed e old = record { ends = old.ends; loads = old.loads }
counted_step c (steps.Undrain i) k listed e old = record { ends = old.ends; loads = old.loads }
counted_step c (steps.Add name model ideal) k listed e old = counted_add c (new_resource name model ideal) k listed old
counted_step c (steps.Drop r) k listed e old = counted_edit c r (λ x. record x { dropped = true }) k (λ x. refl) old
counted_step c (steps.SetList p list) k listed e old = counted_edit c p.resource (λ x. with_mode x (put_list x.ideal.mode p.index list)) k (λ x. refl) old
counted_step c (steps.SetMap p map) k listed e old = counted_edit c p.resource (λ x. with_mode x (put_map x.ideal.mode p.index map)) k (λ x. refl) old
counted_step c (steps.Lead n) k listed e old = record { ends = old.ends; loads = old.loads }
counted_step c (steps.Stop n) k listed e old = counted_stop (with_down c n true) n k (counted_mark c n true k old)
counted_step c (steps.Start n) k listed e old = counted_mark c n false k old

-- and a reset
pub counted_reset : (c : Cluster) (i : InstanceId) (p : PartId) (k : Numbers) → IsCounted c k → IsCounted (after c (steps.Reset i p)) k
counted_reset c i p k old = one (live_of c.live i)
  where
    one : (o : Option Live) → IsCounted (asked_of c p o) k
    one None = old
    one (Some l) = record { ends = old.ends; loads = old.loads }

-- and a tick's clock
pub counted_clock : (c : Cluster) (n : ℕ) (k : Numbers) → IsCounted c k → IsCounted (record c { clock = c.clock + n }) k
counted_clock c n k old = record { ends = old.ends; loads = old.loads }

-- what a call counts doesn't see the live sessions, the rows and the messages
pub raised_beside : (c : Cluster) (live : List Live) (rows : List Row) (mail : List Message) (next_session : ℕ) (i : InstanceId) (has : Option StateId) (m : Message) (k new : Numbers)
    → IsRaised c i has m k new → IsRaised (record c { live = live; rows = rows; mail = mail; next_session = next_session }) i has m k new
raised_beside c live rows mail next_session i has m k new is = record { ends = is.ends; loads = is.loads }

pub lowered_beside : (c : Cluster) (live : List Live) (rows : List Row) (mail : List Message) (next_session : ℕ) (i : InstanceId) (has : Option StateId) (m : Message) (k new : Numbers)
    → IsLowered c i has m k new → IsLowered (record c { live = live; rows = rows; mail = mail; next_session = next_session }) i has m k new
lowered_beside c live rows mail next_session i has m k new is = record { ends = is.ends; loads = is.loads }

pub row_lowered_beside : (c : Cluster) (live : List Live) (rows : List Row) (mail : List Message) (next_session : ℕ) (p : PartId) (s : StateId) (k new : Numbers)
    → IsRowLowered c p s k new → IsRowLowered (record c { live = live; rows = rows; mail = mail; next_session = next_session }) p s k new
row_lowered_beside c live rows mail next_session p s k new is = record { ends = is.ends; loads = is.loads }

-- numbers that are the same count the same cluster
pub counted_unchanged : (c : Cluster) (k new : Numbers) → IsUnchanged k new → IsCounted c k → IsCounted c new
counted_unchanged c k new same old = record { ends = λ p t. same.ends p t ∙ old.ends p t; loads = λ n key. same.loads n key ∙ old.loads n key }
