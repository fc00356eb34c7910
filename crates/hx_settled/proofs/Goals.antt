-- What goals depend on, and which replicas leave ERROR.
use Rattle.std.proofs.Common.{◌≡◌, ℕ, ◌||◌, ◌&&◌, ◌==◌, not, Bool, true, false, List, length, find, Option, Some, None, refl, sym, ap, ◌∙◌, subst, arith}
use Rattle.std.specs.Prelude.{if◌then◌else◌, nat_lt, unwrap_or, IsSomeAnd}
use Rattle.std.specs.List.{All, list_all, filter_map, before_first}
use Rattle.std.specs.Option.{option_map_or}
use Rattle.std.proofs.lemmas.Bool.Decides.{nat_tests}
use Rattle.hx_lists.specs.Lists.{count}
use Rattle.hx_ids.specs.declared.InstanceId.{InstanceId}
use Rattle.hx_ids.specs.declared.StateId.{StateId}
use Rattle.hx_ids.specs.declared.SessionId.{SessionId}
use Rattle.hx_ids.specs.declared.PartId.{PartId}
use Rattle.hx_model.specs.declared.ModelParts.{ModelParts}
use Rattle.hx_model.specs.Faults.{fault_of}
use Rattle.hx_model.specs.Model.{error, dropped, has_state}
use Rattle.hx_model.proofs.Facts.{sound_facts}
use Rattle.hx_hops.specs.Hops.{hop}
use Rattle.hx_hops.proofs.Shortest.{hop_at_goal}
use Rattle.hx_ideal.specs.declared.Mode.{Mode}
use Rattle.hx_ideal.specs.declared.Mode.TheVariants as modes
use Rattle.hx_cluster.specs.declared.description.Resource.{Resource}
use Rattle.hx_cluster.specs.declared.state.Row.{Row}
use Rattle.hx_cluster.specs.declared.state.Message.{Message}
use Rattle.hx_cluster.specs.declared.planning.Ideals.{Ideals}
use Rattle.hx_cluster.specs.declared.planning.View.{View}
use Rattle.hx_cluster.specs.declared.planning.Target.{Target}
use Rattle.hx_cluster.specs.declared.planning.Candidate.{Candidate}
use Rattle.hx_cluster.specs.Ends.{session_in, state_of, model_at, model_of, no_model, resource_at}
use Rattle.hx_cluster.specs.Steps.{is_error, is_drained}
use Rattle.hx_cluster.specs.Valid.{has_no_fault}
use Rattle.hx_cluster.specs.Views.{is_well_formed}
use Rattle.hx_best.specs.Wants.{Wants, Listed, Mapped, wants_in, wants_of, is_wanted}
use Rattle.hx_best.specs.Goals.{best_below, is_in_error, is_asked, is_eligible, wanted_goal, goal}
use Rattle.hx_best.specs.Targets.{all_targets, IsTargetIn, IsTargetOf}
use Rattle.hx_gen.specs.Candidates.{candidate_of, comes_before}
use Rattle.hx_pass.specs.Plans.{all_candidates}
use Rattle.hx_safe.proofs.Models.{state_same}
use Rattle.hx_lawful.proofs.Fitting.{made_of}
use Rattle.hx_settled.specs.Resets.{LeavesErrorAsked}
use Rattle.hx_settled.proofs.Hopping.{are_targets, good_in, listed_plain}
use Rattle.hx_settled.proofs.Explaining.{all-made, all-sorted}

-- two views with the same sessions and ideals, in which the same replicas are in ERROR
module _ (models : List ModelParts) (live : List (SessionId × InstanceId)) (ideals : Ideals) (mail_v mail_w : List Message) (rows_v rows_w : List Row)
    (errors : (s : SessionId) (p : PartId) → is_error (state_of rows_v s p) ≡ is_error (state_of rows_w s p)) where
  abbrev pub v : View
  v = record { live = live; mail = mail_v; rows = rows_v; ideals = ideals }

  abbrev pub w : View
  w = record { live = live; mail = mail_w; rows = rows_w; ideals = ideals }

  eligible : (p : PartId) (j : InstanceId) → is_eligible v p j ≡ is_eligible w p j
  eligible p j i = option_map_or (λ s. not (is_drained ideals.drained j) && not (errors s p i)) (session_in live j) false

  wants_by : (mode : Mode) (replicas k : ℕ) → wants_in mode v replicas k ≡ wants_in mode w replicas k
  wants_by modes.Full replicas k = refl
  wants_by (modes.Semi lists) replicas k = refl
  wants_by (modes.Custom maps) replicas k = refl

  pub wants : (r : Resource) (k : ℕ) → wants_of v r k ≡ wants_of w r k
  wants r k = wants_by r.ideal.mode r.ideal.replicas k

  wanted : (m : ModelParts) (r : Resource) (p : PartId) (places : Wants) (j : InstanceId) → wanted_goal m v r p places j ≡ wanted_goal m w r p places j
  wanted m r p (Listed list) j i = best_below m r.ideal.replicas (length live) (count (λ u. eligible p u i) (before_first (λ u. u.0 == j.0) list))
  wanted m r p (Mapped entries) j i = option_map_or (λ e. e.1) (find (λ e. e.0.0 == j.0) entries) dropped

  pub goals : (r : Resource) (p : PartId) (s : SessionId) (j : InstanceId)
      → goal models (record { live = live; mail = mail_v; rows = rows_v; ideals = ideals }) r p s j ≡ goal models (record { live = live; mail = mail_w; rows = rows_w; ideals = ideals }) r p s j
  goals r p s j i =
      if errors s p i then (if is_asked w s p then (model_at models r.model).initial else error)
      else if r.dropped || not (is_wanted (wants r p.index i) j) then dropped
      else if is_drained ideals.drained j then (model_at models r.model).initial
      else wanted (model_at models r.model) r p (wants r p.index i) j i

pub goal_same : (models : List ModelParts) (v w : View) → v.live ≡ w.live → v.ideals ≡ w.ideals → ((s : SessionId) (p : PartId) → is_in_error v s p ≡ is_in_error w s p)
    → (r : Resource) (p : PartId) (s : SessionId) (i : InstanceId) → goal models v r p s i ≡ goal models w r p s i
goal_same models v w live ideals errors r p s j =
    goals models v.live v.ideals v.mail w.mail v.rows w.rows errors r p s j ∙ (λ k. goal models (record { live = live k; mail = w.mail; rows = w.rows; ideals = ideals k }) r p s j)

-- a candidate that leaves ERROR has a reset flag
asked_in : (models : List ModelParts) (instances : ℕ) (view : View) → list_all has_no_fault models ≡ true → is_well_formed models instances view ≡ true → (t : Target) (x : Candidate)
    → IsTargetOf models view t → candidate_of models view t ≡ Some x → LeavesErrorAsked view x
asked_in models instances view sound formed t x is e = of_resource (resource_at view.ideals.resources t.part.resource) refl is
  where
    of_resource : (o : Option Resource) → resource_at view.ideals.resources t.part.resource ≡ o → IsSomeAnd o (IsTargetIn models view t) → LeavesErrorAsked view x
    of_resource None at is = absurd is
    of_resource (Some r) at is =
        let made = made_of models view t x e in
        subst (LeavesErrorAsked view) (sym made.1) (stands t.state refl made.0 (subst (λ (y : ModelParts). hop y (unwrap_or t.state y.initial) t.goal ≡ Some made.0) model made.2))
      where
        m : ModelParts
        m = model_at models r.model

        model : model_of models view.ideals.resources t.part.resource ≡ model_at models r.model
        model = ap (λ (o : Option Resource). option_map_or (λ y. model_at models y.model) o no_model) at

        none : fault_of (model_at models r.model) ≡ None
        none = (good_in models instances view sound formed r t.part.resource at).0

        clash : (b : Bool) → b ≡ true → b ≡ false → ⊥
        clash true e w = absurd (let no_one : true ≡ false = w in cc)
        clash false e w = absurd (let no_one : false ≡ true = e in cc)

        low : (n : ℕ) → (n == 0) ≡ true → nat_lt n 2 ≡ true
        low n e = grind (arith, nat_tests, e)

        stands : (o : Option StateId) → t.state ≡ o → (to : StateId) → hop m (unwrap_or o m.initial) t.goal ≡ Some to
            → ((unwrap_or o (model_of models view.ideals.resources t.part.resource).initial).0 == error.0) ≡ true → is_asked view t.session t.part ≡ true
        stands None state to next at_error =
            let here : (m.initial.0 == error.0) ≡ true = sym (ap (λ (y : ModelParts). y.initial.0 == error.0) model) ∙ at_error in
            absurd (clash (has_state m m.initial) (sound_facts m none).initial (listed_plain m none m.initial (low m.initial.0 here)))
        stands (Some s) state to next at_error = one (is_asked view t.session t.part) refl
          where
            one : (b : Bool) → is_asked view t.session t.part ≡ b → b ≡ true
            one true asked = refl
            one false asked =
                let in_error : is_in_error view t.session t.part ≡ true = ap is_error (sym (ap (λ (u : Target). u.state) is.own) ∙ state) ∙ at_error in
                let its_goal : t.goal ≡ error = ap (λ (u : Target). u.goal) is.own
                ∙ (λ i. if in_error i then (if asked i then m.initial else error) else otherwise) in
                let same : s ≡ t.goal = state_same s error at_error ∙ sym its_goal in
                absurd (let both = sym (hop_at_goal m s t.goal same) ∙ next in cc)
              where
                otherwise : StateId
                otherwise =
                    if r.dropped || not (is_wanted (wants_of view r t.part.index) t.instance) then dropped
                    else if is_drained view.ideals.drained t.instance then m.initial
                    else wanted_goal m view r t.part (wants_of view r t.part.index) t.instance

pub leave_error : (models : List ModelParts) (instances : ℕ) (view : View) → list_all has_no_fault models ≡ true → is_well_formed models instances view ≡ true
    → All (LeavesErrorAsked view) (all_candidates models view)
leave_error models instances view sound formed =
    all-sorted (LeavesErrorAsked view) (comes_before models view) (filter_map (candidate_of models view) (all_targets models view))
    (all-made (LeavesErrorAsked view) (IsTargetOf models view) (candidate_of models view) (asked_in models instances view sound formed) (all_targets models view) (are_targets models view))
