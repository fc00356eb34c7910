-- A view with the rows and messages of a part alone: what is found of that part is the same.
use Rattle.std.proofs.Common.{◌≡◌, ℕ, ◌∙◌, ◌&&◌, ◌||◌, not, Bool, false, List, length, refl, ap}
use Rattle.std.specs.Prelude.{◌==◌, map, filter, Option, None, Some, if◌then◌else◌}
use Rattle.std.specs.List.{before_first}
use Rattle.std.specs.Option.{is_some, option_map_or}
use Rattle.std.proofs.lemmas.List.Elements.{filter_agree}
use Rattle.hx_ids.specs.declared.PartId.{PartId}
use Rattle.hx_ids.specs.declared.InstanceId.{InstanceId}
use Rattle.hx_ids.specs.declared.SessionId.{SessionId}
use Rattle.hx_ids.specs.declared.StateId.{StateId}
use Rattle.hx_model.specs.Model.{error, dropped}
use Rattle.hx_model.specs.declared.ModelParts.{ModelParts}
use Rattle.hx_ideal.specs.declared.Mode.{Mode}
use Rattle.hx_ideal.specs.declared.Mode.TheVariants as modes
use Rattle.hx_cluster.specs.declared.state.Row.{Row}
use Rattle.hx_cluster.specs.declared.state.Message.{Message}
use Rattle.hx_cluster.specs.declared.description.Resource.{Resource}
use Rattle.hx_cluster.specs.declared.planning.Ideals.{Ideals}
use Rattle.hx_cluster.specs.declared.planning.View.{View}
use Rattle.hx_cluster.specs.declared.planning.Target.{Target}
use Rattle.hx_cluster.specs.Ends.{state_of, row_of, session_in, model_at}
use Rattle.hx_cluster.specs.Steps.{is_error, is_drained}
use Rattle.hx_parts.specs.Parts.{items_at}
use Rattle.hx_parts.proofs.Narrow.{row-at, state-at}
use Rattle.hx_best.specs.Wants.{Wants, Listed, Mapped, wants_of, wants_in, is_wanted, place_in, by_instance}
use Rattle.hx_best.specs.Goals.{is_in_error, is_asked, is_eligible, eligible_before, best_below, wanted_goal, goal}
use Rattle.hx_best.specs.Targets.{is_target, target, targets_at}
use Rattle.hx_pass.specs.Local.{IsAlike, ShowSame}
use Rattle.hx_pass.proofs.Filtered.{map-agree}

-- a view with these
abbrev pub alone : PartId → View → View
alone p v = record { live = v.live; mail = items_at (λ m. m.part) p v.mail; rows = items_at (λ r. r.part) p v.rows; ideals = v.ideals }

-- views that are alike and show the same of a part are one then
pub alone_same : (p : PartId) (v w : View) → IsAlike v w → ShowSame v w p → alone p v ≡ alone p w
alone_same p v w alike same =
    let at : List (SessionId × InstanceId) → List Message → List Row → Ideals → View = λ live mail rows ideals. record { live = live; mail = mail; rows = rows; ideals = ideals } in
    let mine : List Message = items_at (λ m. m.part) p v.mail in
    let own : List Row = items_at (λ r. r.part) p v.rows in
    let mail : List Message = items_at (λ m. m.part) p w.mail in
    let rows : List Row = items_at (λ r. r.part) p w.rows in
    ap (λ (live : List (SessionId × InstanceId)). at live mine own v.ideals) alike.live
    ∙ ap (λ (ms : List Message). at w.live ms own v.ideals) same.mail
    ∙ ap (λ (rs : List Row). at w.live mail rs v.ideals) same.rows
    ∙ ap (λ (ideals : Ideals). at w.live mail rows ideals) alike.ideals

module _ (models : List ModelParts) (v : View) (p : PartId) where
  -- whether a replica is in ERROR, who can take a state, and the goal
  error_alone : (s : SessionId) → is_in_error (alone p v) s p ≡ is_in_error v s p
  error_alone s = ap is_error (state-at v.rows s p)

  eligible_alone : (i : InstanceId) → is_eligible (alone p v) p i ≡ is_eligible v p i
  eligible_alone i = one (session_in v.live i)
    where
      one : (o : Option SessionId) → option_map_or (λ s. not (is_drained v.ideals.drained i) && not (is_in_error (alone p v) s p)) o false
          ≡ option_map_or (λ s. not (is_drained v.ideals.drained i) && not (is_in_error v s p)) o false
      one None = refl
      one (Some s) = ap (λ (b : Bool). not (is_drained v.ideals.drained i) && not b) (error_alone s)

  rank_alone : (list : List InstanceId) (i : InstanceId) → eligible_before (alone p v) p list i ≡ eligible_before v p list i
  rank_alone list i = ap length (filter_agree (is_eligible (alone p v) p) (is_eligible v p) eligible_alone (before_first (λ j. j.0 == i.0) list))

  wanted_alone : (m : ModelParts) (r : Resource) (wants : Wants) (i : InstanceId) → wanted_goal m (alone p v) r p wants i ≡ wanted_goal m v r p wants i
  wanted_alone m r (Listed list) i = ap (best_below m r.ideal.replicas (length v.live)) (rank_alone list i)
  wanted_alone m r (Mapped map) i = refl

  -- where it is wanted
  mode_alone : (mode : Mode) (replicas k : ℕ) → wants_in mode (alone p v) replicas k ≡ wants_in mode v replicas k
  mode_alone modes.Full replicas k = refl
  mode_alone (modes.Semi lists) replicas k = refl
  mode_alone (modes.Custom maps) replicas k = refl

  wants_alone : (r : Resource) → wants_of (alone p v) r p.index ≡ wants_of v r p.index
  wants_alone r = mode_alone r.ideal.mode r.ideal.replicas p.index

  goal_alone : (r : Resource) (s : SessionId) (i : InstanceId) → goal models (alone p v) r p s i ≡ goal models v r p s i
  goal_alone r s i =
      let m : ModelParts = model_at models r.model in
      let by : Bool → Wants → StateId → StateId = λ b wants g. if b then (if is_asked v s p then m.initial else error)
      else if r.dropped || not (is_wanted wants i) then dropped
      else if is_drained v.ideals.drained i then m.initial
      else g in
      ap (λ (b : Bool). by b (wants_of (alone p v) r p.index) (wanted_goal m (alone p v) r p (wants_of (alone p v) r p.index) i)) (error_alone s)
      ∙ ap (λ (wants : Wants). by (is_in_error v s p) wants (wanted_goal m (alone p v) r p wants i)) (wants_alone r)
      ∙ ap (by (is_in_error v s p) (wants_of v r p.index)) (wanted_alone m r (wants_of v r p.index) i)

  -- its targets
  is_target_alone : (r : Resource) (e : SessionId × InstanceId) → is_target (alone p v) r p e ≡ is_target v r p e
  is_target_alone r e =
      ap (λ (o : Option Row). is_some o || is_wanted (wants_of (alone p v) r p.index) e.1) (row-at v.rows e.0 p)
      ∙ ap (λ (wants : Wants). is_some (row_of v.rows e.0 p) || is_wanted wants e.1) (wants_alone r)

  target_alone : (r : Resource) (e : SessionId × InstanceId) → target models (alone p v) r p e ≡ target models v r p e
  target_alone r e =
      let at : Option StateId → StateId → Wants → Target = λ state g wants. record {
        session = e.0;
        instance = e.1;
        part = p;
        state = state;
        goal = g;
        place = if r.dropped then 0 else place_in wants e.1;
      } in
      ap (λ (state : Option StateId). at state (goal models (alone p v) r p e.0 e.1) (wants_of (alone p v) r p.index)) (state-at v.rows e.0 p)
      ∙ ap (λ (g : StateId). at (state_of v.rows e.0 p) g (wants_of (alone p v) r p.index)) (goal_alone r e.0 e.1)
      ∙ ap (at (state_of v.rows e.0 p) (goal models v r p e.0 e.1)) (wants_alone r)

  pub targets_alone : (r : Resource) → targets_at models (alone p v) r p ≡ targets_at models v r p
  targets_alone r =
      ap (λ (es : List (SessionId × InstanceId)). map (target models (alone p v) r p) es) (filter_agree (is_target (alone p v) r p) (is_target v r p) (is_target_alone r) (by_instance v.live))
      ∙ map-agree (target models (alone p v) r p) (target models v r p) (target_alone r) (filter (is_target v r p) (by_instance v.live))
