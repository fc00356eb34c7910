-- What a plan sends fits the view that it was made of.
use Rattle.std.proofs.Common.{◌≡◌, ℕ, ◌+◌, ◌≤◌, ◌&&◌, ◌||◌, ◌==◌, not, Bool, true, false, List, [], ◌∷◌, Option, Some, None, refl, sym, ap, ◌∙◌, subst, arith}
use Rattle.std.specs.Prelude.{nat_lt, is_none, unwrap_or, if◌then◌else◌}
use Rattle.std.specs.List.{All, list_all, filter_map}
use Rattle.std.specs.Option.{is_some, option_map}
use Rattle.std.proofs.lemmas.Bool.Decides.{nat_tests}
use Rattle.std.proofs.lemmas.List.Elements.{All-nil, All-cons}
use Rattle.hx_lists.specs.Lists.{count}
use Rattle.hx_ids.specs.declared.StateId.{StateId}
use Rattle.hx_ids.specs.declared.SessionId.{SessionId}
use Rattle.hx_ids.specs.declared.PartId.{PartId}
use Rattle.hx_model.specs.declared.ModelParts.{ModelParts}
use Rattle.hx_model.specs.Model.{is_legal}
use Rattle.hx_model.specs.Walks.{dist}
use Rattle.hx_hops.specs.Hops.{hop}
use Rattle.hx_hops.proofs.Shortest.{hop_first}
use Rattle.hx_cluster.specs.declared.description.Rule.{Rule}
use Rattle.hx_cluster.specs.declared.state.Message.{Message}
use Rattle.hx_cluster.specs.declared.planning.View.{View}
use Rattle.hx_cluster.specs.declared.planning.Target.{Target}
use Rattle.hx_cluster.specs.declared.planning.Candidate.{Candidate}
use Rattle.hx_cluster.specs.Ends.{is_shown, state_of, message_of, model_of, parts_of}
use Rattle.hx_cluster.specs.Views.{is_well_formed}
use Rattle.hx_best.specs.Targets.{all_targets}
use Rattle.hx_gen.specs.Candidates.{is_at_goal, candidate_of, comes_before}
use Rattle.hx_select.specs.Selection.{has_room, accepted_of}
use Rattle.hx_throttle.specs.Throttle.{is_sent}
use Rattle.hx_pass.specs.Plans.{all_candidates, throttled_of}
use Rattle.hx_safe.proofs.Counting.{and-first, and-second, and-three, and-six, all-le}
use Rattle.hx_safe.proofs.Models.{state_same}
use Rattle.hx_safe.specs.Calm.{is_same_state}
use Rattle.hx_lawful.specs.Gate.{IsFit, is_for, stands_in}
use Rattle.hx_lawful.proofs.Covering.{state_alike}
use Rattle.hx_lawful.proofs.Sorting.{count-sort, all-sort}
use Rattle.hx_lawful.specs.Fitting.{leads_elsewhere, AreFit}
use Rattle.hx_lawful.proofs.Choosing.{all-made, count-made, all-chosen, count-chosen}
use Rattle.hx_lawful.proofs.Targeted.{is_own, is_of_replica, own_targets, once_targets}

-- whether a candidate fits a view, and leads elsewhere
abbrev pub fits : List ModelParts → View → Candidate → Bool
fits models view x =
    is_shown view.live x.session && nat_lt x.part.index (parts_of view.ideals.resources x.part.resource) && is_none (message_of view.mail x.session x.part)
    && ((stands_in models view x.session x.part).0 == x.from.0) && is_legal (model_of models view.ideals.resources x.part.resource) x.from x.to && leads_elsewhere x

none_is : {X : Type 0} (o : Option X) → is_none o ≡ true → o ≡ None
none_is None e = refl
none_is (Some x) e = cc

pub fit_from : (models : List ModelParts) (view : View) (x : Candidate) → fits models view x ≡ true → IsFit models view x
fit_from models view x e =
    let parts = and-six (is_shown view.live x.session) (nat_lt x.part.index (parts_of view.ideals.resources x.part.resource)) (is_none (message_of view.mail x.session x.part))
    ((stands_in models view x.session x.part).0 == x.from.0) (is_legal (model_of models view.ideals.resources x.part.resource) x.from x.to) (leads_elsewhere x) e in
    record { shown = parts.0; part = parts.1; idle = none_is (message_of view.mail x.session x.part) parts.2; from = same parts.3; legal = parts.4 }
  where
    same : {a b : ℕ} → (a == b) ≡ true → a ≡ b
    same e = grind (arith, nat_tests, e)

pub elsewhere_from : (models : List ModelParts) (view : View) (x : Candidate) → fits models view x ≡ true → leads_elsewhere x ≡ true
elsewhere_from models view x e =
    and-second (is_shown view.live x.session && nat_lt x.part.index (parts_of view.ideals.resources x.part.resource) && is_none (message_of view.mail x.session x.part)
    && ((stands_in models view x.session x.part).0 == x.from.0) && is_legal (model_of models view.ideals.resources x.part.resource) x.from x.to) (leads_elsewhere x) e

-- a hop leads elsewhere
hop_elsewhere : (m : ModelParts) (s goal t : StateId) → hop m s goal ≡ Some t → not (t.0 == s.0) ≡ true
hop_elsewhere m s goal t e = one (t.0 == s.0) refl
  where
    one : (b : Bool) → (t.0 == s.0) ≡ b → not b ≡ true
    one false is = refl
    one true is =
        let same : t ≡ s = state_same t s is in
        let nearer : dist m t goal + 1 ≡ dist m s goal = (hop_first m s goal t e).nearer in
        let alike : dist m t goal ≡ dist m s goal = ap (λ (u : StateId). dist m u goal) same in
        absurd (omega (arith, nearer, alike))

-- the candidate of a target is of its session and part, and fits
abbrev pub step_of : Target → StateId → StateId → Candidate
step_of t from to = record { session = t.session; instance = t.instance; part = t.part; from = from; to = to; place = t.place }

pub made_of : (models : List ModelParts) (view : View) (t : Target) (x : Candidate) → candidate_of models view t ≡ Some x
    → (to : StateId) × (x ≡ step_of t (unwrap_or t.state (model_of models view.ideals.resources t.part.resource).initial) to)
    × (hop (model_of models view.ideals.resources t.part.resource) (unwrap_or t.state (model_of models view.ideals.resources t.part.resource).initial) t.goal ≡ Some to)
    × (message_of view.mail t.session t.part ≡ None)
made_of models view t x e = one (message_of view.mail t.session t.part) refl (is_at_goal m t) (hop m from t.goal) refl e
  where
    m : ModelParts
    m = model_of models view.ideals.resources t.part.resource

    from : StateId
    from = unwrap_or t.state (model_of models view.ideals.resources t.part.resource).initial

    here : (h : Option StateId) → option_map (step_of t from) h ≡ Some x → (to : StateId) × (x ≡ step_of t from to) × (h ≡ Some to)
    here None e = cc
    here (Some to) e = (to, taken e, refl)
      where
        taken : Some (step_of t from to) ≡ Some x → x ≡ step_of t from to
        taken e = cc

    one : (o : Option Message) → message_of view.mail t.session t.part ≡ o → (b : Bool) (h : Option StateId) → hop m from t.goal ≡ h
        → (if is_some o || b then None else option_map (step_of t from) h) ≡ Some x
        → (to : StateId) × (x ≡ step_of t from to) × (hop m from t.goal ≡ Some to) × (message_of view.mail t.session t.part ≡ None)
    one (Some y) idle b h is e = cc
    one None idle true h is e = cc
    one None idle false h is e = let made = here h e in (made.0, made.1, is ∙ made.2, idle)

fits_made : (models : List ModelParts) (view : View) (t : Target) (x : Candidate) → is_own view t ≡ true → candidate_of models view t ≡ Some x → fits models view x ≡ true
fits_made models view t x own e =
    let made = made_of models view t x e in
    subst (λ (y : Candidate). fits models view y ≡ true) (sym made.1) (here made.0 made.2 made.3)
  where
    m : ModelParts
    m = model_of models view.ideals.resources t.part.resource

    from : StateId
    from = unwrap_or t.state (model_of models view.ideals.resources t.part.resource).initial

    here : (to : StateId) → hop m from t.goal ≡ Some to → message_of view.mail t.session t.part ≡ None → fits models view (step_of t from to) ≡ true
    here to hops idle =
        let parts = and-three (is_shown view.live t.session) (nat_lt t.part.index (parts_of view.ideals.resources t.part.resource)) (is_same_state t.state (state_of view.rows t.session t.part)) own in
        let state = state_alike t.state (state_of view.rows t.session t.part) parts.2 in
        let stands : ((stands_in models view t.session t.part).0 == from.0) ≡ true
        = same (ap (λ (o : Option StateId). (unwrap_or o (model_of models view.ideals.resources t.part.resource).initial).0) (sym state)) in
        all parts.0 parts.1 (ap is_none idle) stands (hop_first m from t.goal to hops).legal (hop_elsewhere m from t.goal to hops)
      where
        same : {a b : ℕ} → a ≡ b → (a == b) ≡ true
        same e = grind (arith, nat_tests, e)

        all : {a b d f g h : Bool} → a ≡ true → b ≡ true → d ≡ true → f ≡ true → g ≡ true → h ≡ true → (a && b && d && f && g && h) ≡ true
        all one two three four five six = rw (one, two, three, four, five, six) refl

of_replica : (models : List ModelParts) (view : View) (s : SessionId) (p : PartId) (t : Target) (x : Candidate) → candidate_of models view t ≡ Some x → is_for s p x ≡ true → is_of_replica s p t ≡ true
of_replica models view s p t x e here =
    let made = made_of models view t x e in
    subst (λ (y : Candidate). is_for s p y ≡ true) made.1 here

-- so are all candidates, those that are accepted and those that are sent
pub fits_all : (models : List ModelParts) (rules : List Rule) (view : View) → list_all (fits models view) (throttled_of models rules view).sent ≡ true
fits_all models rules view =
    all-chosen (fits models view) (is_sent rules view) (accepted_of models view (all_candidates models view))
    (all-chosen (fits models view) (has_room models view) (all_candidates models view)
    (all-sort (fits models view) (comes_before models view) _
    ∙ all-made (fits models view) (candidate_of models view) (is_own view) (λ t x own e. fits_made models view t x own e) (all_targets models view) (own_targets models view)))

pub once_all : (models : List ModelParts) (rules : List Rule) (instances : ℕ) (view : View) → is_well_formed models instances view ≡ true → (s : SessionId) (p : PartId)
    → count (is_for s p) (throttled_of models rules view).sent ≤ 1
once_all models rules instances view formed s p =
    let sent = count-chosen (is_for s p) (is_sent rules view) (accepted_of models view (all_candidates models view)) in
    let accepted = count-chosen (is_for s p) (has_room models view) (all_candidates models view) in
    let sorted = count-sort (is_for s p) (comes_before models view) (filter_map (candidate_of models view) (all_targets models view)) in
    let made = count-made (is_for s p) (candidate_of models view) (is_of_replica s p) (λ t x e here. of_replica models view s p t x e here) (all_targets models view) in
    omega (arith, sent, accepted, sorted, made, once_targets models instances view formed s p)

-- the law
each_fit : (models : List ModelParts) (view : View) (xs : List Candidate) → list_all (fits models view) xs ≡ true → All (IsFit models view) xs
each_fit models view [] e = All-nil (IsFit models view)
each_fit models view (x ∷ xs) e =
    All-cons (IsFit models view) x xs (fit_from models view x (and-first (fits models view x) (list_all (fits models view) xs) e))
    (each_fit models view xs (and-second (fits models view x) (list_all (fits models view) xs) e))

pub plan_fits : (models : List ModelParts) (rules : List Rule) (instances : ℕ) (view : View) → is_well_formed models instances view ≡ true → AreFit models view (throttled_of models rules view).sent
plan_fits models rules instances view formed =
    let sent = (throttled_of models rules view).sent in
    record {
      each = each_fit models view sent (fits_all models rules view);
      elsewhere = all-le (fits models view) leads_elsewhere (elsewhere_from models view) sent (fits_all models rules view);
      single = once_all models rules instances view formed;
    }
