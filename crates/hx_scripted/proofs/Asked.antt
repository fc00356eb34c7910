-- What a line asks for is in range for a cluster of its description.
use Rattle.std.proofs.Common.{◌≡◌, ℕ, zero, suc, ◌+◌, ◌<◌, ◌&&◌, ◌==◌, Bool, true, false, List, [], ◌∷◌, length, Option, Some, None, refl, sym, ap, ◌∙◌, arith}
use Rattle.std.specs.Prelude.{nat_lt, is_some, option_map, replicate}
use Rattle.std.specs.List.{list_all}
use Rattle.std.proofs.lemmas.Bool.Decides.{nat_tests}
use Rattle.hx_ids.specs.declared.InstanceId.{InstanceId}
use Rattle.hx_ids.specs.declared.StateId.{StateId}
use Rattle.hx_ids.specs.declared.ControllerId.{ControllerId}
use Rattle.hx_ids.specs.declared.ResourceId.{ResourceId}
use Rattle.hx_ids.specs.declared.ModelId.{ModelId}
use Rattle.hx_ideal.specs.declared.kinds.ModeKind.{ModeKind}
use Rattle.hx_ideal.specs.declared.kinds.ModeKind.TheVariants as kinds
use Rattle.hx_ideal.specs.declared.TheConstants.{MOST_PARTS, MOST_REPLICAS}
use Rattle.hx_cluster.specs.declared.description.Resource.{Resource}
use Rattle.hx_cluster.specs.declared.description.Spec.{Spec}
use Rattle.hx_cluster.specs.declared.state.Cluster.{Cluster}
use Rattle.hx_cluster.specs.declared.happenings.Admin.{Admin}
use Rattle.hx_cluster.specs.declared.happenings.Admin.TheVariants as steps
use Rattle.hx_cluster.specs.Steps.{opening, or_this, newest_from, newest, has_instance, has_resource, has_controller, is_empty_list, is_bare_mode, is_bare, is_in_range}
use Rattle.hx_cluster.specs.Valid.{is_within, IsValid}
use Rattle.hx_script.specs.declared.What.{What}
use Rattle.hx_script.specs.declared.What.TheVariants as asks
use Rattle.hx_script.specs.Asked.{part_at, step_asked}
use Rattle.hx_script.specs.Modes.{mode_numbered}
use Rattle.hx_script.specs.NewIdeals.{bare_mode, bare_ideal}
use Rattle.hx_script.specs.Ranges as Ranges
use Rattle.hx_safe.proofs.Counting.{and-first, and-second, and-both}
use Rattle.hx_safe.proofs.Ends.{same-self}
use Rattle.hx_safe.proofs.Fixed.{IsFixed}
use Rattle.hx_safe.proofs.Whole.{length-replicate}

-- the step that a line asks for, if it asks for one, is in range
abbrev pub IsAskedWell : Cluster → Option Admin → Type 0
IsAskedWell c None = Unit {0}
IsAskedWell c (Some step) = is_in_range c step ≡ true

pub instance_there : (spec : Spec) (c : Cluster) (i : InstanceId) → IsFixed (opening spec) c → Ranges.has_instance spec i ≡ true → has_instance c i ≡ true
instance_there spec c i same is =
    let instances : length c.instances ≡ length spec.instances = same.instances ∙ length-replicate (length spec.instances) false in
    ap (nat_lt i.0) instances ∙ is

pub controller_there : (spec : Spec) (c : Cluster) (k : ControllerId) → IsFixed (opening spec) c → nat_lt k.0 spec.controllers ≡ true → has_controller c k ≡ true
controller_there spec c k same is =
    let controllers : length c.controllers ≡ spec.controllers = same.controllers ∙ length-replicate spec.controllers (false, record { 0 = 0 }) in
    ap (nat_lt k.0) controllers ∙ is

-- the newest resource of a name is one of them
newest-low : (n : ℕ) (rs : List Resource) (name : ℕ) (r : ResourceId) → newest_from n rs name ≡ Some r → r.0 < n + length rs
newest-low n [] name r e = cc
newest-low n (x ∷ rs) name r e = one (newest_from (n + 1) rs name) refl (x.name == name) e (λ is. newest-low (n + 1) rs name r is)
  where
    one : (o : Option ResourceId) → newest_from (n + 1) rs name ≡ o → (b : Bool) → or_this b n o ≡ Some r → (newest_from (n + 1) rs name ≡ Some r → r.0 < (n + 1) + length rs) → r.0 < n + length (x ∷ rs)
    one (Some later) is b e more =
        let same : later ≡ r = cc in
        let low = more (is ∙ ap (λ (l : ResourceId). Some l) same) in
        omega arith
    one None is true e more =
        let same : ◌≡◌ {A = ResourceId} (record { 0 = n }) r = cc in
        let number : n ≡ r.0 = ap (λ (l : ResourceId). l.0) same in
        omega arith
    one None is false e more = cc

resource_there : (c : Cluster) (name : ℕ) (r : ResourceId) → newest c name ≡ Some r → has_resource c r ≡ true
resource_there c name r e = let low = newest-low 0 c.resources name r e in grind (arith, nat_tests, low)

-- a step on the newest resource of a name
on-newest : (c : Cluster) (name : ℕ) (step : ResourceId → Admin) → ((r : ResourceId) → has_resource c r ≡ true → is_in_range c (step r) ≡ true)
    → IsAskedWell c (option_map step (newest c name))
on-newest c name step well = one (newest c name) refl
  where
    one : (o : Option ResourceId) → newest c name ≡ o → IsAskedWell c (option_map step o)
    one None is = tt
    one (Some r) is = well r (resource_there c name r is)

-- a resource as a line adds it
all-empty : (X : Type 0) (n : ℕ) → list_all is_empty_list (replicate {A = List X} n []) ≡ true
all-empty X zero = refl
all-empty X (suc n) = all-empty X n

many-empty : (X : Type 0) (n : ℕ) → (length (replicate {A = List X} n []) == n) ≡ true
many-empty X n = rw length-replicate (same-self n)

bare-mode : (o : Option ModeKind) (parts : ℕ) → is_bare_mode parts (bare_mode o parts) ≡ true
bare-mode None parts = and-both _ _ (many-empty (InstanceId × StateId) parts) (all-empty (InstanceId × StateId) parts)
bare-mode (Some kinds.FullAuto) parts = refl
bare-mode (Some kinds.SemiAuto) parts = and-both _ _ (many-empty InstanceId parts) (all-empty InstanceId parts)
bare-mode (Some kinds.Customized) parts = and-both _ _ (many-empty (InstanceId × StateId) parts) (all-empty (InstanceId × StateId) parts)

bare-ideal : (replicas parts mode : ℕ) → is_within 1 MOST_REPLICAS replicas ≡ true → is_within 1 MOST_PARTS parts ≡ true → is_bare (bare_ideal replicas parts mode) ≡ true
bare-ideal replicas parts mode few some =
    let m = bare-mode (mode_numbered mode) parts in
    and-both _ _ (grind (arith, nat_tests, few, some)) m

add-there : (spec : Spec) (c : Cluster) (name : ℕ) (model : ModelId) (replicas parts mode : ℕ) → IsValid spec → IsFixed (opening spec) c
    → Ranges.is_in_range spec (asks.Add name model replicas parts mode) ≡ true → is_in_range c (steps.Add name model (bare_ideal replicas parts mode)) ≡ true
add-there spec c name model replicas parts mode valid same is =
    let one = and-second (Ranges.has_resource_name spec name) (Ranges.has_model spec model && (is_within 1 MOST_REPLICAS replicas && (is_within 1 MOST_PARTS parts && is_some (mode_numbered mode)))) is in
    let two = and-second (Ranges.has_model spec model) (is_within 1 MOST_REPLICAS replicas && (is_within 1 MOST_PARTS parts && is_some (mode_numbered mode))) one in
    let three = and-second (is_within 1 MOST_REPLICAS replicas) (is_within 1 MOST_PARTS parts && is_some (mode_numbered mode)) two in
    let named : nat_lt name c.resource_names ≡ true =
    ap (nat_lt name) same.resource_names ∙ and-first (Ranges.has_resource_name spec name) (Ranges.has_model spec model && (is_within 1 MOST_REPLICAS replicas && (is_within 1 MOST_PARTS parts && is_some (mode_numbered mode)))) is in
    let models : length c.models ≡ length spec.model_names = ap length same.models ∙ sym valid.each_named in
    let modelled : nat_lt model.0 (length c.models) ≡ true =
    ap (nat_lt model.0) models ∙ and-first (Ranges.has_model spec model) (is_within 1 MOST_REPLICAS replicas && (is_within 1 MOST_PARTS parts && is_some (mode_numbered mode))) one in
    and-both (nat_lt name c.resource_names && nat_lt model.0 (length c.models)) (is_bare (bare_ideal replicas parts mode))
    (and-both (nat_lt name c.resource_names) (nat_lt model.0 (length c.models)) named modelled)
    (bare-ideal replicas parts mode
    (and-first (is_within 1 MOST_REPLICAS replicas) (is_within 1 MOST_PARTS parts && is_some (mode_numbered mode)) two)
    (and-first (is_within 1 MOST_PARTS parts) (is_some (mode_numbered mode)) three))

pub asked_well : (spec : Spec) (c : Cluster) (what : What) → IsValid spec → IsFixed (opening spec) c → Ranges.is_in_range spec what ≡ true → IsAskedWell c (step_asked c what)
asked_well spec c (asks.Join i) valid same is = instance_there spec c i same is
asked_well spec c (asks.Beat i) valid same is = instance_there spec c i same is
asked_well spec c (asks.Drain i) valid same is = instance_there spec c i same is
asked_well spec c (asks.Undrain i) valid same is = instance_there spec c i same is
asked_well spec c (asks.Tick n) valid same is = refl
asked_well spec c (asks.Expire i) valid same is = instance_there spec c i same is
asked_well spec c (asks.Die i) valid same is = instance_there spec c i same is
asked_well spec c (asks.Add name model replicas parts mode) valid same is = add-there spec c name model replicas parts mode valid same is
asked_well spec c (asks.Drop name) valid same is = on-newest c name (λ r. steps.Drop r) (λ r there. there)
asked_well spec c (asks.List name index list) valid same is = on-newest c name (λ r. steps.SetList (part_at index r) list) (λ r there. there)
asked_well spec c (asks.Map name index map) valid same is = on-newest c name (λ r. steps.SetMap (part_at index r) map) (λ r there. there)
asked_well spec c (asks.Reset i name index) valid same is =
    on-newest c name (λ r. steps.Reset i (part_at index r))
    (λ r there. and-both (has_instance c i) (has_resource c r) (instance_there spec c i same (and-first (Ranges.has_instance spec i) (Ranges.is_part spec name index) is)) there)
asked_well spec c (asks.Lead k) valid same is = controller_there spec c k same is
asked_well spec c (asks.Stop k) valid same is = controller_there spec c k same is
asked_well spec c (asks.Start k) valid same is = controller_there spec c k same is
asked_well spec c _ valid same is = tt
