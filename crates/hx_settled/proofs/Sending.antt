-- The board sends each proposal of a plan of what it shows at one moment.
use Rattle.std.proofs.Common.{◌≡◌, ℕ, ◌≤◌, ◌||◌, ◌&&◌, ◌==◌, not, Bool, true, false, List, [], ◌∷◌, ◌++◌, append_assoc, length, map, Option, Some, None, refl, sym, ap, ◌∙◌, subst}
use Rattle.std.specs.Prelude.{is_none, slice_get, if◌then◌else◌, IsSomeAnd}
use Rattle.std.specs.List.{All, list_all, fold, filter_map}
use Rattle.std.specs.Option.{is_some, option_map_or}
use Rattle.std.proofs.lemmas.List.Elements.{All-nil, All-cons, All-head, All-tail, All-append}
use Rattle.hx_lists.specs.Lists.{count}
use Rattle.hx_lists.specs.Choices.{with_chosen}
use Rattle.hx_ids.specs.declared.SessionId.{SessionId}
use Rattle.hx_ids.specs.declared.StateId.{StateId}
use Rattle.hx_ids.specs.declared.PartId.{PartId}
use Rattle.hx_ids.specs.declared.PassNo.{PassNo}
use Rattle.hx_ids.specs.declared.ControllerId.{ControllerId}
use Rattle.hx_ids.specs.declared.Live.{Live}
use Rattle.hx_model.specs.declared.ModelParts.{ModelParts}
use Rattle.hx_model.specs.Model.{error, dropped}
use Rattle.hx_cluster.specs.declared.description.Resource.{Resource}
use Rattle.hx_cluster.specs.declared.description.Rule.{Rule}
use Rattle.hx_cluster.specs.declared.state.Cluster.{Cluster}
use Rattle.hx_cluster.specs.declared.planning.View.{View}
use Rattle.hx_cluster.specs.declared.planning.Target.{Target}
use Rattle.hx_cluster.specs.declared.planning.Candidate.{Candidate}
use Rattle.hx_cluster.specs.Ends.{part_eq, is_live, is_shown, state_of, message_of, limit_at, resource_at, model_at, model_of}
use Rattle.hx_cluster.specs.Steps.{is_dropped, is_drained, is_error}
use Rattle.hx_cluster.specs.Messages.{placed_of, placed_all, after_proposal, raised_pass}
use Rattle.hx_cluster.specs.Events.{dispatched_of}
use Rattle.hx_cluster.specs.Safe.{IsSafe}
use Rattle.hx_cluster.specs.Ranged.{IsRanged}
use Rattle.hx_cluster.specs.Views.{is_well_formed}
use Rattle.hx_best.specs.Wants.{wants_of, is_wanted}
use Rattle.hx_best.specs.Goals.{is_asked, wanted_goal, goal}
use Rattle.hx_best.specs.Targets.{all_targets, IsTargetIn, IsTargetOf}
use Rattle.hx_gen.specs.Candidates.{is_at_goal, hop_of, candidate_of, comes_before}
use Rattle.hx_select.specs.Selection.{has_room, accepted_of}
use Rattle.hx_throttle.specs.Throttle.{is_sent as may_be_sent}
use Rattle.hx_pass.specs.Plans.{all_candidates, throttled_of, proposal, plan}
use Rattle.hx_pass.specs.Explained.{view_at}
use Rattle.hx_control.specs.Steps.{is_sent}
use Rattle.hx_safe.proofs.Counting.{and-first, and-second, and-both, all-append}
use Rattle.hx_safe.proofs.Ends.{same-self, part_eq-self}
use Rattle.hx_safe.proofs.Kept.{IsKept, kept_raised}
use Rattle.hx_safe.proofs.Sending.{kept_proposal}
use Rattle.hx_safe.proofs.Whole.{whole_from}
use Rattle.hx_lawful.specs.Gate.{Shows, IsWithin, is_for}
use Rattle.hx_lawful.proofs.Comparing.{HadRoom, had_room, sent_there}
use Rattle.hx_lawful.proofs.Fitting.{fits, fit_from, elsewhere_from, fits_all, once_all, made_of}
use Rattle.hx_lawful.proofs.Placing.{within_none, within_more}
use Rattle.hx_lawful.proofs.Unrefused.{IsBoard, board_of, none_before, part_there, shows_raised}
use Rattle.hx_settled.proofs.Moments.{shown_is_live, view_formed, view_shows}
use Rattle.hx_settled.proofs.Hopping.{are_targets}
use Rattle.hx_settled.proofs.Explaining.{all-made, all-sorted}

-- a dropped resource has no candidate where it has no row
abbrev IsStaying : View → Candidate → Type 0
IsStaying view x = (is_dropped view.ideals.resources x.part.resource && is_none (state_of view.rows x.session x.part)) ≡ false

stays : (models : List ModelParts) (view : View) (t : Target) (x : Candidate) → IsTargetOf models view t → candidate_of models view t ≡ Some x → IsStaying view x
stays models view t x is e =
    let made = made_of models view t x e in
    subst (IsStaying view) (sym made.1) (of_resource (resource_at view.ideals.resources t.part.resource) is refl)
  where
    m : ModelParts
    m = model_of models view.ideals.resources t.part.resource

    away : is_at_goal m t ≡ true → ⊥
    away at = one (is_some (message_of view.mail t.session t.part)) (is_at_goal m t) at e
      where
        one : (a b : Bool) → b ≡ true → (if a || b then None else hop_of m t) ≡ Some x → ⊥
        one true b at e = absurd (let both = e in cc)
        one false true at e = absurd (let both = e in cc)
        one false false at e = absurd (let both : false ≡ true = at in cc)

    gone : (r : Resource) → IsTargetIn models view t r → (d : Bool) → r.dropped ≡ d → (o : Option StateId) → state_of view.rows t.session t.part ≡ o → (d && is_none o) ≡ false
    gone r is false dropping o state = refl
    gone r is true dropping (Some s) state = refl
    gone r is true dropping None state = absurd (away (at_goal (ap (λ (u : Target). u.state) is.own ∙ state) (ap (λ (u : Target). u.goal) is.own ∙ its_goal)))
      where
        its_goal : goal models view r t.part t.session t.instance ≡ dropped
        its_goal i =
            if is_error (state i) then (if is_asked view t.session t.part then (model_at models r.model).initial else error)
            else if dropping i || not (is_wanted (wants_of view r t.part.index) t.instance) then dropped
            else if is_drained view.ideals.drained t.instance then (model_at models r.model).initial
            else wanted_goal (model_at models r.model) view r t.part (wants_of view r t.part.index) t.instance

        either : (a : Bool) → (a || true) ≡ true
        either true = refl
        either false = refl

        at_goal : t.state ≡ None → t.goal ≡ dropped → is_at_goal m t ≡ true
        at_goal none there =
            (λ i. option_map_or (λ s. s.0 == t.goal.0) (none i) ((t.goal.0 == m.initial.0) || (there i).0 == dropped.0)) ∙ either (t.goal.0 == m.initial.0)

    of_resource : (o : Option Resource) → IsSomeAnd o (IsTargetIn models view t) → resource_at view.ideals.resources t.part.resource ≡ o
        → (is_dropped view.ideals.resources t.part.resource && is_none (state_of view.rows t.session t.part)) ≡ false
    of_resource None is at = absurd is
    of_resource (Some r) is at =
        ap (λ (o : Option Resource). option_map_or (λ y. y.dropped) o false && is_none (state_of view.rows t.session t.part)) at
        ∙ gone r is r.dropped refl (state_of view.rows t.session t.part) refl

-- nor has it any that is sent
chosen_from : {X : Type 0} (P : X → Type 0) (takes : List X → X → Bool) (chosen xs : List X) → All P chosen → All P xs → All P (fold (with_chosen takes) chosen xs)
chosen_from P takes chosen [] old all = old
chosen_from {X} P takes chosen (x ∷ xs) old all = chosen_from P takes (with_chosen takes chosen x) xs (All-append P chosen (if takes chosen x then x ∷ [] else []) old (one (takes chosen x))) (All-tail P x xs all)
  where
    one : (b : Bool) → All P (if b then x ∷ [] else [])
    one true = All-cons P x [] (All-head P x xs all) (All-nil P)
    one false = All-nil P

pub all_sent : (models : List ModelParts) (rules : List Rule) (view : View) (P : Candidate → Type 0) → All P (all_candidates models view) → All P (throttled_of models rules view).sent
all_sent models rules view P all =
    chosen_from P (may_be_sent rules view) [] (accepted_of models view (all_candidates models view)) (All-nil P)
    (chosen_from P (has_room models view) [] (all_candidates models view) (All-nil P) all)

all_stay : (models : List ModelParts) (rules : List Rule) (view : View) → All (IsStaying view) (throttled_of models rules view).sent
all_stay models rules view =
    all_sent models rules view (IsStaying view)
    (all-sorted (IsStaying view) (comes_before models view) (filter_map (candidate_of models view) (all_targets models view))
    (all-made (IsStaying view) (IsTargetOf models view) (candidate_of models view) (stays models view) (all_targets models view) (are_targets models view)))

-- a board on which each shown session is live, and each replica as it was shown
record IsAsShown (view : View) (b : Cluster) : Type 0 where
  live : (s : SessionId) → is_shown view.live s ≡ true → is_live b.live s ≡ true
  resources : b.resources ≡ view.ideals.resources
  states : (s : SessionId) (p : PartId) → state_of b.rows s p ≡ state_of view.rows s p

item_of : {X : Type 0} (P : X → Type 0) (before rest : List X) (x : X) → All P (before ++ x ∷ rest) → P x
item_of P [] rest x all = All-head P x rest all
item_of P (y ∷ before) rest x all = item_of P before rest x (All-tail P y (before ++ x ∷ rest) all)

fit_of : (q : Candidate → Bool) (before rest : List Candidate) (x : Candidate) → list_all q (before ++ x ∷ rest) ≡ true → q x ≡ true
fit_of q before rest x all = and-first (q x) (list_all q rest) (and-second (list_all q before) (list_all q (x ∷ rest)) (sym (all-append q before (x ∷ rest)) ∙ all))

sent_along : (models : List ModelParts) (rules : List Rule) (view : View) (b : Cluster) (sent : List Candidate) → IsBoard models rules view b → IsAsShown view b → list_all (fits models view) sent ≡ true
    → All (IsStaying view) sent → ((s : SessionId) (p : PartId) → count (is_for s p) sent ≤ 1)
    → ((before rest : List Candidate) (x : Candidate) → sent ≡ before ++ x ∷ rest → HadRoom models rules view before x)
    → (before rest : List Candidate) (d : Cluster) → sent ≡ before ++ rest → IsKept d → IsWithin view b d before → list_all is_sent (placed_all d (map proposal rest)) ≡ true
sent_along models rules view b sent board shown fit stay once room before [] d e k w = refl
sent_along models rules view b sent board shown fit stay once room before (x ∷ rest) d e k w =
    let here : fits models view x ≡ true = fit_of (fits models view) before rest x (ap (list_all (fits models view)) (sym e) ∙ fit) in
    let there : IsStaying view x = item_of (IsStaying view) before rest x (subst (All (IsStaying view)) e stay) in
    let is = fit_from models view x here in
    let self : is_for x.session x.part x ≡ true = and-both (x.session.0 == x.session.0) (part_eq x.part x.part) (same-self x.session.0) (part_eq-self x.part) in
    let nobody = none_before x.session x.part before rest x self (subst (λ (xs : List Candidate). count (is_for x.session x.part) xs ≤ 1) e (once x.session x.part)) in
    let live : is_live d.live x.session ≡ true = ap (λ (ls : List Live). is_live ls x.session) w.live ∙ shown.live x.session is.shown in
    let kept : (is_dropped d.resources x.part.resource && is_none (state_of d.rows x.session x.part)) ≡ false
    = (λ i. is_dropped (w.resources i) x.part.resource && is_none (state_of (w.rows i) x.session x.part))
    ∙ (λ i. is_dropped (shown.resources i) x.part.resource && is_none (shown.states x.session x.part i)) ∙ there in
    let answer = sent_there models rules view b d before x board.models_same board.rules_same board.shows w is (elsewhere_from models view x here) nobody live kept (room before rest x e) board.counts board.loads in
    and-both (is_sent (placed_of d (proposal x))) (list_all is_sent (placed_all (after_proposal d (proposal x)) (map proposal rest))) (ap is_sent answer)
    (sent_along models rules view b sent board shown fit stay once room (before ++ x ∷ []) rest (after_proposal d (proposal x)) (e ∙ sym (append_assoc before (x ∷ []) rest))
    (kept_proposal d (proposal x) k (part_there models view b d before x board.shows w here)) (within_more view b d before x board.shows is.shown k w))

sent_whole : (models : List ModelParts) (rules : List Rule) (instances : ℕ) (view : View) (b : Cluster) → b.models ≡ models → b.rules ≡ rules → Shows b view → IsKept b → IsAsShown view b
    → is_well_formed models instances view ≡ true → list_all is_sent (placed_all b (plan models rules view).proposals) ≡ true
sent_whole models rules instances view b same alike shows k shown formed =
    sent_along models rules view b (throttled_of models rules view).sent (board_of models rules view b same alike shows k) shown (fits_all models rules view) (all_stay models rules view)
    (once_all models rules instances view formed) (λ before rest x e. had_room models rules view before rest x e) [] (throttled_of models rules view).sent b refl k (within_none view b)

as_shown : (c : Cluster) → IsAsShown (view_at c) c
as_shown c = record { live = λ s shown. sym (shown_is_live c s) ∙ shown; resources = refl; states = λ s p. refl }

pub plan_sent : (c : Cluster) → IsSafe c → IsRanged c → list_all is_sent (placed_all c (plan c.models c.rules (view_at c)).proposals) ≡ true
plan_sent c safe ranged =
    sent_whole c.models c.rules (length c.instances) (view_at c) c refl refl (view_shows c safe) (whole_from (limit_at c) c safe ranged).kept (as_shown c) (view_formed c safe ranged)

-- a controller's dispatch raises its pass first, which changes nothing of this
pub dispatch_sent : (c : Cluster) (k : ControllerId) → IsSafe c → IsRanged c
    → list_all is_sent (dispatched_of c k (plan c.models c.rules (view_at c)).proposals).placed ≡ true
dispatch_sent c k safe ranged = one (slice_get c.controllers k.0) refl
  where
    one : (o : Option (Bool × PassNo)) → slice_get c.controllers k.0 ≡ o → list_all is_sent (placed_all (raised_pass c k o) (plan c.models c.rules (view_at c)).proposals) ≡ true
    one None at = plan_sent c safe ranged
    one (Some d) at =
        sent_whole c.models c.rules (length c.instances) (view_at c) (raised_pass c k (Some d)) refl refl
        (subst (λ (o : Option (Bool × PassNo)). Shows (raised_pass c k o) (view_at c)) at (shows_raised c (view_at c) k (view_shows c safe)))
        (subst (λ (o : Option (Bool × PassNo)). IsKept (raised_pass c k o)) at (kept_raised c k (whole_from (limit_at c) c safe ranged).kept))
        (record { live = (as_shown c).live; resources = refl; states = λ s p. refl }) (view_formed c safe ranged)
