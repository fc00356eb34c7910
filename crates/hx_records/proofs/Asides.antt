-- Steps that leave the live sessions, the rows and the messages as they are.
use Rattle.std.proofs.Common.{◌≡◌, ℕ, ◌+◌, Bool, true, false, List, length, Option, Some, None, refl, sym, ap, ◌∙◌, subst}
use Rattle.std.specs.Prelude.{if◌then◌else◌, slice_get, Result, Ok, Err, OnOk, OnErr}
use Rattle.hx_ids.specs.declared.InstanceId.{InstanceId}
use Rattle.hx_ids.specs.declared.PartId.{PartId}
use Rattle.hx_ids.specs.declared.ModelId.{ModelId}
use Rattle.hx_ids.specs.declared.ResourceId.{ResourceId}
use Rattle.hx_ids.specs.declared.ControllerId.{ControllerId}
use Rattle.hx_ids.specs.declared.PassNo.{PassNo}
use Rattle.hx_ids.specs.declared.Live.{Live}
use Rattle.hx_ideal.specs.IdealState.{IdealState, put_list, put_map}
use Rattle.hx_cluster.specs.declared.description.Resource.{Resource}
use Rattle.hx_cluster.specs.declared.state.Row.{Row}
use Rattle.hx_cluster.specs.declared.state.Message.{Message}
use Rattle.hx_cluster.specs.declared.state.Cluster.{Cluster}
use Rattle.hx_cluster.specs.declared.happenings.Admin.{Admin}
use Rattle.hx_cluster.specs.declared.happenings.Admin.TheVariants as steps
use Rattle.hx_cluster.specs.Ends.{resource_at}
use Rattle.hx_cluster.specs.Steps.{refusal_of, after, changed_at, with_mode, marked_down, with_down, without_leader, is_leader}
use Rattle.hx_safe.proofs.Beside.{is_aside, beside_step}
use Rattle.hx_safe.proofs.Fixed.{fixed_step}
use Rattle.hx_safe.proofs.Whole.{IsWhole}
use Rattle.hx_slots.specs.Tallies.{IsCounted}
use Rattle.hx_slots.proofs.Listed.{listed_kept}
use Rattle.hx_slots.proofs.Beside.{counted_step}
use Rattle.hx_records.specs.declared.Records.TheInside.{Inside}
use Rattle.hx_records.specs.Records.{seen, AreRecords}

abbrev pub with_lists : Cluster → List Live → List Row → List Message → Cluster
with_lists c live rows mail = record c { live = live; rows = rows; mail = mail }

-- a step does the same whatever they are
edit-lists : (c : Cluster) (live : List Live) (rows : List Row) (mail : List Message) (r : ResourceId) (f : Resource → Resource) (o : Option Resource)
    → with_lists (changed_at c r f o) live rows mail ≡ changed_at (with_lists c live rows mail) r f o
edit-lists c live rows mail r f None = refl
edit-lists c live rows mail r f (Some x) = refl

mark-lists : (c : Cluster) (live : List Live) (rows : List Row) (mail : List Message) (k : ControllerId) (down : Bool) (o : Option (Bool × PassNo))
    → with_lists (marked_down c k down o) live rows mail ≡ marked_down (with_lists c live rows mail) k down o
mark-lists c live rows mail k down None = refl
mark-lists c live rows mail k down (Some d) = refl

stop-lists : (c : Cluster) (live : List Live) (rows : List Row) (mail : List Message) (k : ControllerId)
    → with_lists (without_leader k c) live rows mail ≡ without_leader k (with_lists c live rows mail)
stop-lists c live rows mail k = one (is_leader k c.leader)
  where
    one : (b : Bool) → with_lists (if b then record c { leader = None; epoch = record { 0 = c.epoch.0 + 1 } } else c) live rows mail
        ≡ (if b then record (with_lists c live rows mail) { leader = None; epoch = record { 0 = c.epoch.0 + 1 } } else with_lists c live rows mail)
    one true = refl
    one false = refl

pub aside_lists : (c : Cluster) (live : List Live) (rows : List Row) (mail : List Message) (step : Admin) → is_aside step ≡ true
    → with_lists (after c step) live rows mail ≡ after (with_lists c live rows mail) step
aside_lists c live rows mail (steps.Join i) aside = cc
aside_lists c live rows mail (steps.End i) aside = cc
aside_lists c live rows mail (steps.Beat i) aside = cc
aside_lists c live rows mail (steps.Tick n) aside = cc
aside_lists c live rows mail (steps.Reset i p) aside = cc
aside_lists c live rows mail (steps.Drain i) aside = refl
aside_lists c live rows mail (steps.Undrain i) aside = refl
aside_lists c live rows mail (steps.Add name model ideal) aside = refl
aside_lists c live rows mail (steps.Drop r) aside = edit-lists c live rows mail r (λ x. record x { dropped = true }) (resource_at c.resources r)
aside_lists c live rows mail (steps.SetList p list) aside =
    edit-lists c live rows mail p.resource (λ x. with_mode x (put_list x.ideal.mode p.index list)) (resource_at c.resources p.resource)
aside_lists c live rows mail (steps.SetMap p map) aside =
    edit-lists c live rows mail p.resource (λ x. with_mode x (put_map x.ideal.mode p.index map)) (resource_at c.resources p.resource)
aside_lists c live rows mail (steps.Lead k) aside = refl
aside_lists c live rows mail (steps.Stop k) aside =
    stop-lists (with_down c k true) live rows mail k
    ∙ ap (without_leader k) (mark-lists c live rows mail k true (slice_get c.controllers k.0))
aside_lists c live rows mail (steps.Start k) aside = mark-lists c live rows mail k false (slice_get c.controllers k.0)

pub seen_aside : (a : Inside) (step : Admin) (rest : Cluster) → is_aside step ≡ true → rest ≡ after a.rest step → seen (record a { rest = rest }) ≡ after (seen a) step
seen_aside a step rest aside is =
    ap (λ (c : Cluster). with_lists c a.sessions.live a.slots.rows a.slots.mail) is ∙ aside_lists a.rest a.sessions.live a.slots.rows a.slots.mail step aside

pub stepped : (a : Inside) (step : Admin) (rest : Cluster) → AreRecords a → IsWhole (seen a) → is_aside step ≡ true → rest ≡ after a.rest step → AreRecords (record a { rest = rest })
stepped a step rest old whole aside is =
    let beside = beside_step a.rest step aside in
    let fixed = fixed_step a.rest step in
    record {
      live = ap (λ (c : Cluster). c.live) is ∙ beside.live ∙ old.live;
      rows = ap (λ (c : Cluster). c.rows) is ∙ beside.rows ∙ old.rows;
      mail = ap (λ (c : Cluster). c.mail) is ∙ beside.mail ∙ old.mail;
      count = old.count;
      next = old.next ∙ sym (ap (λ (c : Cluster). c.next_session) is ∙ beside.next_session);
      places = old.places ∙ sym (ap (λ (c : Cluster). length c.instances) is ∙ fixed.instances);
      seats = old.seats;
      counted = subst (λ (c : Cluster). IsCounted c a.counts) (sym (seen_aside a step rest aside is)) (counted_step (seen a) step a.counts (listed_kept (seen a) whole.kept) aside old.counted);
    }

-- and where it is not made all stays
pub unstepped : (a : Inside) (rest : Cluster) → AreRecords a → rest ≡ a.rest → AreRecords (record a { rest = rest })
unstepped a rest old is = subst (λ (c : Cluster). AreRecords (record a { rest = c })) (sym is) old

pub either_way : {T E R P Q : Type 0} (r : Result T E) → OnOk r P → OnErr r Q → (P → R) → (Q → R) → R
either_way (Ok x) ok err f g = f ok
either_way (Err e) ok err f g = g err

-- steps by what they are not
pub aside_is : (step : Admin) → ((i : InstanceId) → step ≡ steps.Join i → ⊥) → ((i : InstanceId) → step ≡ steps.End i → ⊥) → ((i : InstanceId) → step ≡ steps.Beat i → ⊥)
    → ((n : ℕ) → step ≡ steps.Tick n → ⊥) → ((i : InstanceId) (p : PartId) → step ≡ steps.Reset i p → ⊥) → is_aside step ≡ true
aside_is (steps.Join i) join end beat tick reset = absurd (join i refl)
aside_is (steps.End i) join end beat tick reset = absurd (end i refl)
aside_is (steps.Beat i) join end beat tick reset = absurd (beat i refl)
aside_is (steps.Tick n) join end beat tick reset = absurd (tick n refl)
aside_is (steps.Reset i p) join end beat tick reset = absurd (reset i p refl)
aside_is (steps.Drain i) join end beat tick reset = refl
aside_is (steps.Undrain i) join end beat tick reset = refl
aside_is (steps.Add name model ideal) join end beat tick reset = refl
aside_is (steps.Drop r) join end beat tick reset = refl
aside_is (steps.SetList p list) join end beat tick reset = refl
aside_is (steps.SetMap p map) join end beat tick reset = refl
aside_is (steps.Lead k) join end beat tick reset = refl
aside_is (steps.Stop k) join end beat tick reset = refl
aside_is (steps.Start k) join end beat tick reset = refl

pub refusal_alike : (a : Inside) (step : Admin) → ((i : InstanceId) → step ≡ steps.Join i → ⊥) → ((i : InstanceId) → step ≡ steps.End i → ⊥) → ((i : InstanceId) → step ≡ steps.Beat i → ⊥)
    → ((name : ℕ) (model : ModelId) (ideal : IdealState) → step ≡ steps.Add name model ideal → ⊥) → ((i : InstanceId) (p : PartId) → step ≡ steps.Reset i p → ⊥)
    → refusal_of a.rest step ≡ refusal_of (seen a) step
refusal_alike a (steps.Join i) join end beat add reset = absurd (join i refl)
refusal_alike a (steps.End i) join end beat add reset = absurd (end i refl)
refusal_alike a (steps.Beat i) join end beat add reset = absurd (beat i refl)
refusal_alike a (steps.Add name model ideal) join end beat add reset = absurd (add name model ideal refl)
refusal_alike a (steps.Reset i p) join end beat add reset = absurd (reset i p refl)
refusal_alike a (steps.Tick n) join end beat add reset = refl
refusal_alike a (steps.Drain i) join end beat add reset = refl
refusal_alike a (steps.Undrain i) join end beat add reset = refl
refusal_alike a (steps.Drop r) join end beat add reset = refl
refusal_alike a (steps.SetList p list) join end beat add reset = refl
refusal_alike a (steps.SetMap p map) join end beat add reset = refl
refusal_alike a (steps.Lead k) join end beat add reset = refl
refusal_alike a (steps.Stop k) join end beat add reset = refl
refusal_alike a (steps.Start k) join end beat add reset = refl
