-- Resources that are added, dropped or edited, and replicas that are asked to leave ERROR.
use Rattle.std.proofs.Common.{◌≡◌, ℕ, zero, suc, ◌+◌, ◌≤◌, ◌||◌, ◌&&◌, ◌==◌, not, Bool, true, false, List, [], ◌∷◌, ◌++◌, length, Option, Some, None, ◌⊎◌, inl, inr, refl, sym, ap, ◌∙◌, subst, arith}
use Rattle.std.specs.Prelude.{if◌then◌else◌, nat_lt, nat_le, slice_get, slice_set, unwrap_or}
use Rattle.std.specs.List.{list_any}
use Rattle.std.specs.Option.{option_map_or}
use Rattle.std.proofs.lemmas.Bool.Decides.{nat_tests}
use Rattle.hx_ids.specs.declared.StateId.{StateId}
use Rattle.hx_ids.specs.declared.SessionId.{SessionId}
use Rattle.hx_ids.specs.declared.ResourceId.{ResourceId}
use Rattle.hx_ids.specs.declared.PartId.{PartId}
use Rattle.hx_ids.specs.declared.Live.{Live}
use Rattle.hx_model.specs.declared.ModelParts.{ModelParts}
use Rattle.hx_model.specs.Model.{bound_of, limit_of, is_legal, has_state, error}
use Rattle.hx_ideal.specs.declared.Mode.{Mode}
use Rattle.hx_cluster.specs.declared.description.Resource.{Resource}
use Rattle.hx_cluster.specs.declared.state.Row.{Row}
use Rattle.hx_cluster.specs.declared.state.Message.{Message}
use Rattle.hx_cluster.specs.declared.state.Cluster.{Cluster}
use Rattle.hx_cluster.specs.declared.happenings.StepFault.TheVariants as faults
use Rattle.hx_cluster.specs.Ends.{part_eq, is_row, is_message, is_live, sessions_of, state_of, has_end, count_of, limit_at, resource_at, no_model, model_at, model_of, replicas_of, parts_of}
use Rattle.hx_cluster.specs.Steps.{changed_at, with_resource, with_mode, asked_of, flag_before, is_flag, is_error, reset_fault}
use Rattle.hx_cluster.specs.Events.{has_part}
use Rattle.hx_cluster.specs.Safe.{is_row_written, is_pending, is_kept}
use Rattle.hx_safe.proofs.Counting.{count-never, all-le, all-insert, none-from-all, find-none}
use Rattle.hx_safe.proofs.Ends.{part_same}
use Rattle.hx_safe.proofs.Kept.{IsKept}

-- what is known of a resource is known of it behind others
pub get-append : {X : Type 0} (xs ys : List X) (n : ℕ) (x : X) → slice_get xs n ≡ Some x → slice_get (xs ++ ys) n ≡ Some x
get-append [] ys n x e = cc
get-append (y ∷ xs) ys zero x e = e
get-append (y ∷ xs) ys (suc n) x e = get-append xs ys n x e

-- and so is what an edit leaves as it was
pub get-set : {X Y : Type 0} (h : X → Y) (d : Y) (xs : List X) (n : ℕ) (x y : X) → slice_get xs n ≡ Some x → h y ≡ h x → (k : ℕ)
    → option_map_or h (slice_get (slice_set xs n y) k) d ≡ option_map_or h (slice_get xs k) d
get-set h d [] n x y e same k = cc
get-set h d (z ∷ xs) zero x y e same zero = same ∙ (let is : z ≡ x = grind (arith, e) in ap h (sym is))
get-set h d (z ∷ xs) zero x y e same (suc k) = refl
get-set h d (z ∷ xs) (suc n) x y e same zero = refl
get-set h d (z ∷ xs) (suc n) x y e same (suc k) = get-set h d xs n x y e same k

-- a model, the replicas and the parts of a resource, if there is one
abbrev model_from : List ModelParts → Option Resource → ModelParts
model_from models o = option_map_or (λ x. model_at models x.model) o no_model

abbrev replicas_from : Option Resource → ℕ
replicas_from o = option_map_or (λ x. x.ideal.replicas) o 0

abbrev parts_from : Option Resource → ℕ
parts_from o = option_map_or (λ x. x.ideal.parts) o 0

-- among other resources, that of each part that is there has the same model and as many parts
abbrev HaveSameParts : Cluster → List Resource → Type 0
HaveSameParts c resources = (p : PartId) → has_part c p ≡ true
    → (model_of c.models resources p.resource ≡ model_of c.models c.resources p.resource) × (parts_of resources p.resource ≡ parts_of c.resources p.resource)

-- a message, a row and a limit see of a resource its model, its replicas and its parts
pending-same : (c : Cluster) (resources : List Resource) (change : ℕ) → HaveSameParts c resources → (m : Message) → is_pending c m ≡ true
    → is_pending (record c { resources = resources; change = change }) m ≡ true
pending-same c resources change h m e =
    let same = h m.part (grind (arith, e)) in
    let test : ModelParts → ℕ → Bool = λ x n.
    is_live c.live m.session && nat_lt m.part.index n && is_legal x m.from m.to && nat_lt m.id.0 c.next_msg && (not m.written || m.taken)
    && (if m.written then is_row_written m (state_of c.rows m.session m.part) else (unwrap_or (state_of c.rows m.session m.part) x.initial).0 == m.from.0) in
    ap (λ (x : ModelParts). test x (parts_of resources m.part.resource)) same.0 ∙ ap (λ (n : ℕ). test (model_of c.models c.resources m.part.resource) n) same.1 ∙ e

kept-same : (c : Cluster) (resources : List Resource) (change : ℕ) → HaveSameParts c resources → (r : Row) → is_kept c r ≡ true
    → is_kept (record c { resources = resources; change = change }) r ≡ true
kept-same c resources change h r e =
    let same = h r.part (grind (arith, e)) in
    let test : ModelParts → ℕ → Bool = λ x n. is_live c.live r.session && nat_lt r.part.index n && (has_state x r.state || (r.state.0 == error.0)) in
    ap (λ (x : ModelParts). test x (parts_of resources r.part.resource)) same.0 ∙ ap (λ (n : ℕ). test (model_of c.models c.resources r.part.resource) n) same.1 ∙ e

pub limit-same : (c : Cluster) (resources : List Resource) (change : ℕ) (p : PartId) (t : StateId)
    → model_of c.models resources p.resource ≡ model_of c.models c.resources p.resource → replicas_of resources p.resource ≡ replicas_of c.resources p.resource
    → limit_at (record c { resources = resources; change = change }) p t ≡ limit_at c p t
limit-same c resources change p t models replicas =
    ap (λ (m : ModelParts). limit_of (bound_of m t) (replicas_of resources p.resource) (length c.live)) models
    ∙ ap (λ (n : ℕ). limit_of (bound_of (model_of c.models c.resources p.resource) t) n (length c.live)) replicas

-- so resources with the same models and parts keep all
kept_resources : (c : Cluster) (resources : List Resource) (change : ℕ) → IsKept c → HaveSameParts c resources → IsKept (record c { resources = resources; change = change })
kept_resources c resources change k same = record {
  mail = record {
    pending = all-le (is_pending c) (is_pending (record c { resources = resources; change = change })) (pending-same c resources change same) c.mail k.mail.pending;
    numbers = k.mail.numbers;
    single = k.mail.single;
  };
  rows = record {
    kept = all-le (is_kept c) (is_kept (record c { resources = resources; change = change })) (kept-same c resources change same) c.rows k.rows.kept;
    single = k.rows.single;
    flags = k.rows.flags;
  };
  numbers = k.numbers;
  below = k.below;
  sound = k.sound;
}

-- a resource that is edited
kept_edited : (c : Cluster) (r : ResourceId) (f : Resource → Resource) → IsKept c → ((x : Resource) → (f x).model ≡ x.model)
    → ((x : Resource) → (f x).ideal.parts ≡ x.ideal.parts) → IsKept (with_resource c r f)
kept_edited c r f k model parts = one (resource_at c.resources r) refl
  where
    one : (o : Option Resource) → resource_at c.resources r ≡ o → IsKept (changed_at c r f o)
    one None is = k
    one (Some x) is = kept_resources c (slice_set c.resources r.0 (f x)) (c.change + 1) k (λ p e. (
      get-set (λ (y : Resource). model_at c.models y.model) no_model c.resources r.0 x (f x) is (ap (model_at c.models) (model x)) p.resource.0,
      get-set (λ (y : Resource). y.ideal.parts) 0 c.resources r.0 x (f x) is (parts x) p.resource.0,
    ))

-- and with the same replicas it has the same limits
pub limit_edited : (c : Cluster) (r : ResourceId) (f : Resource → Resource) → ((x : Resource) → (f x).model ≡ x.model)
    → ((x : Resource) → (f x).ideal.replicas ≡ x.ideal.replicas) → (p : PartId) (t : StateId) → limit_at (with_resource c r f) p t ≡ limit_at c p t
limit_edited c r f model replicas p t = one (resource_at c.resources r) refl
  where
    one : (o : Option Resource) → resource_at c.resources r ≡ o → limit_at (changed_at c r f o) p t ≡ limit_at c p t
    one None is = refl
    one (Some x) is = limit-same c (slice_set c.resources r.0 (f x)) (c.change + 1) p t
        (get-set (λ (y : Resource). model_at c.models y.model) no_model c.resources r.0 x (f x) is (ap (model_at c.models) (model x)) p.resource.0)
        (get-set (λ (y : Resource). y.ideal.replicas) 0 c.resources r.0 x (f x) is (replicas x) p.resource.0)

pub kept_drop : (c : Cluster) (r : ResourceId) → IsKept c → IsKept (with_resource c r (λ x. record x { dropped = true }))
kept_drop c r k = kept_edited c r (λ x. record x { dropped = true }) k (λ x. refl) (λ x. refl)

pub kept_mode : (c : Cluster) (r : ResourceId) (f : Mode → Mode) → IsKept c → IsKept (with_resource c r (λ x. with_mode x (f x.ideal.mode)))
kept_mode c r f k = kept_edited c r (λ x. with_mode x (f x.ideal.mode)) k (λ x. refl) (λ x. refl)

-- a part that is there has a resource, and that is the same behind others
there : (c : Cluster) (x : Resource) (p : PartId) → has_part c p ≡ true → resource_at (c.resources ++ x ∷ []) p.resource ≡ resource_at c.resources p.resource
there c x p e = one (resource_at c.resources p.resource) refl e
  where
    one : (o : Option Resource) → resource_at c.resources p.resource ≡ o → nat_lt p.index (option_map_or (λ y. y.ideal.parts) o 0) ≡ true
        → resource_at (c.resources ++ x ∷ []) p.resource ≡ resource_at c.resources p.resource
    one None is e = grind (arith, nat_tests, e)
    one (Some y) is e = get-append c.resources (x ∷ []) p.resource.0 y is ∙ sym is

-- a part that isn't there has no ends
pub absent-ends : (c : Cluster) (p : PartId) (t : StateId) → IsKept c → resource_at c.resources p.resource ≡ None → count_of c p t ≡ 0
absent-ends c p t k none = count-never (has_end c.rows c.mail p t) each (sessions_of c.live)
  where
    absent : (q : PartId) → has_part c q ≡ true → (b : Bool) → part_eq q p ≡ b → b ≡ false
    absent q e true is =
        let there : has_part c p ≡ true = subst (λ (r : PartId). has_part c r ≡ true) (part_same q p is) e in
        let parts : parts_of c.resources p.resource ≡ 0 = ap (λ o. option_map_or (λ (y : Resource). y.ideal.parts) o 0) none in
        let low : nat_lt p.index 0 ≡ true = sym (ap (nat_lt p.index) parts) ∙ there in
        grind (arith, nat_tests, low)
    absent q e false is = refl

    each : (u : SessionId) → has_end c.rows c.mail p t u ≡ false
    each u =
        let rows : list_any (is_row u p) c.rows ≡ false = none-from-all (is_kept c) (is_row u p) (λ r e. let other = absent r.part (grind (arith, e)) (part_eq r.part p) refl in grind (arith, other)) c.rows k.rows.kept in
        let mail : list_any (is_message u p) c.mail ≡ false = none-from-all (is_pending c) (is_message u p) (λ m e. let other = absent m.part (grind (arith, e)) (part_eq m.part p) refl in grind (arith, other)) c.mail k.mail.pending in
        rw (find-none (is_row u p) c.rows rows, find-none (is_message u p) c.mail mail) refl

-- so a resource that is added changes nothing for those that were there
pub kept_add : (c : Cluster) (x : Resource) → IsKept c → IsKept (record c { resources = c.resources ++ x ∷ []; change = c.change + 1 })
kept_add c x k =
    kept_resources c (c.resources ++ x ∷ []) (c.change + 1) k (λ p e. let same = there c x p e in (ap (model_from c.models) same, ap parts_from same))

-- whose limits are the same too
pub limit_add : (c : Cluster) (x : Resource) → IsKept c → (p : PartId) (t : StateId) (limit : ℕ)
    → limit_at (record c { resources = c.resources ++ x ∷ []; change = c.change + 1 }) p t ≡ Some limit
    → (limit_at c p t ≡ Some limit) ⊎ (count_of c p t ≤ limit)
limit_add c x k p t limit e = one (resource_at c.resources p.resource) refl
  where
    one : (o : Option Resource) → resource_at c.resources p.resource ≡ o → (limit_at c p t ≡ Some limit) ⊎ (count_of c p t ≤ limit)
    one None is = inr (omega (arith, absent-ends c p t k is))
    one (Some y) is =
        let same : resource_at (c.resources ++ x ∷ []) p.resource ≡ resource_at c.resources p.resource = get-append c.resources (x ∷ []) p.resource.0 y is ∙ sym is in
        inl (sym (limit-same c (c.resources ++ x ∷ []) (c.change + 1) p t (ap (model_from c.models) same) (ap replicas_from same)) ∙ e)

-- a replica in ERROR that is asked to leave it
pub kept_reset : (c : Cluster) (p : PartId) (o : Option Live) → IsKept c → reset_fault c p o ≡ None → IsKept (asked_of c p o)
kept_reset c p None k e = k
kept_reset c p (Some l) k e = record {
  mail = record { pending = k.mail.pending; numbers = k.mail.numbers; single = k.mail.single };
  rows = record {
    kept = k.rows.kept;
    single = k.rows.single;
    flags = all-insert (λ f. is_error (state_of c.rows f.0 f.1)) flag_before (l.session, p) c.resets ∙ grind (arith, k.rows.flags, asked (nat_le (parts_of c.resources p.resource) p.index) (is_error (state_of c.rows l.session p)) refl e);
  };
  numbers = k.numbers;
  below = k.below;
  sound = k.sound;
}
  where
    asked : (a b : Bool) → is_error (state_of c.rows l.session p) ≡ b
        → (if a then Some (faults.NoPart (parts_of c.resources p.resource)) else if not b then Some (faults.NotError (state_of c.rows l.session p)) else if list_any (is_flag l.session p) c.resets then Some faults.AlreadyAsked else None) ≡ None
        → is_error (state_of c.rows l.session p) ≡ true
    asked true b is e = cc
    asked false true is e = is
    asked false false is e = cc
