-- What a script came to in a scene is its run.
use Rattle.std.proofs.Common.{◌≡◌, ℕ, Bool, List, [], ◌++◌, Option, None, Some, refl, sym, ap, subst, ◌∙◌}
use Rattle.std.specs.Prelude.{Result, Err}
use Rattle.std.proofs.lemmas.List.{append-nil}
use Rattle.hx_cluster.specs.declared.description.Spec.{Spec}
use Rattle.hx_cluster.specs.Steps.{opening}
use Rattle.hx_board.specs.Board.{Held, weight_at}
use Rattle.hx_board.specs.declared.faults.RoomFault.{RoomFault}
use Rattle.hx_board.specs.declared.faults.RoomFault.TheVariants as rooms
use Rattle.hx_script.specs.declared.Line.{Line}
use Rattle.hx_worlds.specs.World.{World, State, Answers, Told}
use Rattle.hx_worlds.specs.Items.{Item, items_text}
use Rattle.hx_worlds.specs.Runs.{Deed, GoesOn, Stops, items_of, state_of, after_items}
use Rattle.hx_worlds.specs.Scripts.{do_script, opening_state, sim_run}
use Rattle.hx_scene.specs.Scenes.{SceneState, at, lists_of}
use Rattle.hx_scene.specs.Heard.{heard, items_heard}
use Rattle.hx_scene.specs.Doing.{left, Reaches, Ends, StopsHere, Fails, DoesDeed}
use Rattle.hx_scene.proofs.Reaching.{told_gives}
use Rattle.hx_app.specs.declared.input.Scenario.{Scenario}
use Rattle.hx_app.specs.declared.simulation.Simulated.{Simulated}
use Rattle.hx_app.specs.Simulation.{failure_lists, opening_scene, full_at, IsSimulated}
use Rattle.hx_app.proofs.Opening.{world_is, lists_are, opening_counted}

-- a scene after the run of a script, and its page
pub record IsRun (muted : Bool) (spec : Spec) (lines : List Line) (u : SceneState) (text : List ℕ) (weight : Option ℕ) : Type 0 where
  pub page : text ≡ heard muted (items_text spec (opening spec) (items_of (sim_run spec lines)))
  pub history : u.board.history ≡ (state_of (sim_run spec lines)).world.history
  pub full : weight ≡ full_at (sim_run spec lines)

module _ (muted : Bool) (spec : Spec) (lines : List Line) where
  abbrev pub s : SceneState
  s = opening_scene muted spec lines

  abbrev pub told : Answers
  told = Told (failure_lists spec)

  opening_is : at s told ≡ opening_state spec
  opening_is = ap (λ (w : World). record { world = w; answers = told }) (world_is muted spec lines)

  -- where the answers are told, a script goes where it goes in the scene
  run_is : (u : SceneState) (page : List ℕ) (g : State → Deed) (e : Reaches (do_script lines) s [] g u page) → sim_run spec lines ≡ after_items e.items (g (at u (left e.asked told)))
  run_is u page g e =
      ap (do_script lines) (sym opening_is)
      ∙ e.goes told (told_gives (failure_lists spec) (lists_of s) (lists_are muted spec lines) e.asked (e.keeps.told (opening_counted muted spec lines)).1)

  page_is : (items : List Item) (page : List ℕ) (r : Deed) → sim_run spec lines ≡ r → items_of r ≡ items ++ [] → page ≡ items_heard s items
      → page ≡ heard muted (items_text spec (opening spec) (items_of (sim_run spec lines)))
  page_is items page r is of text = text ∙ ap (items_heard s) (sym (append-nil items) ∙ sym of ∙ sym (ap items_of is))

  pub run_ended : (u : SceneState) (page : List ℕ) → Ends (do_script lines) s [] tt u page → IsRun muted spec lines u page None
  run_ended u page e =
      let is = run_is u page (λ x. GoesOn [] x tt) e in
      let r : Deed = GoesOn (e.items ++ []) (at u (left e.asked told)) tt in
      record {
        page = page_is e.items page r is refl e.text;
        history = sym (ap (λ (d : Deed). (state_of d).world.history) is);
        full = sym (ap full_at is);
      }

  pub run_stopped : (u : SceneState) (page : List ℕ) (weight : ℕ) → StopsHere (do_script lines) s [] u page → weight ≡ weight_at u.board → IsRun muted spec lines u page (Some weight)
  run_stopped u page weight e weighs =
      let is = run_is u page (λ x. Stops [] x) e in
      let r : Deed = Stops (e.items ++ []) (at u (left e.asked told)) in
      record {
        page = page_is e.items page r is refl e.text;
        history = sym (ap (λ (d : Deed). (state_of d).world.history) is);
        full = ap Some weighs ∙ sym (ap full_at is);
      }

-- as a run that was simulated: from a world that was opened, on an empty page
module _ (muted : Bool) (scenario : Scenario) (run : Simulated) (lines : List Line) (w u : SceneState) (before page : List ℕ) (given : lines ≡ scenario.lines) (opened : w ≡ opening_scene muted scenario.spec scenario.lines) (blank : before ≡ [])
    (printed : run.page ≡ page) (closed : run.board ≡ u.board)
  where
    is_simulated : (weight : Option ℕ) → IsRun muted scenario.spec scenario.lines u page weight → run.full ≡ weight → IsSimulated scenario muted run
    is_simulated weight is full = record { page = printed ∙ is.page; history = ap (λ (b : Held). b.history) closed ∙ is.history; full = full ∙ is.full }

    from_opening : (g : State → Deed) → Reaches (do_script lines) w before g u page → Reaches (do_script scenario.lines) (opening_scene muted scenario.spec scenario.lines) [] g u page
    from_opening g e =
        subst (λ p. Reaches (do_script scenario.lines) (opening_scene muted scenario.spec scenario.lines) p g u page) blank
        (subst (λ s. Reaches (do_script scenario.lines) s before g u page) opened (subst (λ ls. Reaches (do_script ls) w before g u page) given e))

    pub simulated_ended : Ends (do_script lines) w before tt u page → run.full ≡ None → IsSimulated scenario muted run
    simulated_ended e full = is_simulated None (run_ended muted scenario.spec scenario.lines u page (from_opening (λ x. GoesOn [] x tt) e)) full

    pub simulated_full : {R : Type 0} (result : Result R RoomFault) (fault : RoomFault) (weight : ℕ) → DoesDeed (do_script lines) w before u page result → result ≡ Err fault → fault ≡ rooms.HistoryFull weight
        → run.full ≡ Some weight → IsSimulated scenario muted run
    simulated_full {R} result fault weight does is is_full full =
        let failed : Fails (do_script lines) w before fault u page = subst (λ (r : Result R RoomFault). DoesDeed (do_script lines) w before u page r) is does in
        let stopped : Fails (do_script lines) w before (rooms.HistoryFull weight) u page = subst (λ (f : RoomFault). Fails (do_script lines) w before f u page) is_full failed in
        is_simulated (Some weight) (run_stopped muted scenario.spec scenario.lines u page weight (from_opening (λ x. Stops [] x) stopped.0) stopped.1) full
