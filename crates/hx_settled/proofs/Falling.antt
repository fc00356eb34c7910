-- A transition along a hop that is done leaves one transition less.
use Rattle.std.proofs.Common.{◌≡◌, ℕ, zero, ◌+◌, ◌≤◌, ◌||◌, ◌&&◌, ◌==◌, not, Bool, true, false, List, [], ◌∷◌, length, map, filter, Option, Some, None, refl, sym, ap, ◌∙◌, subst, arith}
use Rattle.std.specs.Prelude.{if◌then◌else◌, nat_lt, unwrap_or, IsSomeAnd}
use Rattle.std.specs.List.{All, list_any, filter_map}
use Rattle.std.specs.Option.{option_map, option_map_or, is_some}
use Rattle.std.proofs.lemmas.Bool.Decides.{nat_tests}
use Rattle.std.proofs.lemmas.List.Elements.{All-weaker}
use Rattle.hx_lists.specs.Lists.{count}
use Rattle.hx_ids.specs.declared.InstanceId.{InstanceId}
use Rattle.hx_ids.specs.declared.StateId.{StateId}
use Rattle.hx_ids.specs.declared.SessionId.{SessionId}
use Rattle.hx_ids.specs.declared.MsgId.{MsgId}
use Rattle.hx_ids.specs.declared.PartId.{PartId}
use Rattle.hx_model.specs.declared.ModelParts.{ModelParts}
use Rattle.hx_model.specs.Model.{error, dropped}
use Rattle.hx_model.specs.Walks.{dist}
use Rattle.hx_hops.specs.Hops.{hop}
use Rattle.hx_hops.proofs.Legal.{dist-shortest}
use Rattle.hx_ideal.specs.declared.Mode.{Mode}
use Rattle.hx_ideal.specs.declared.Mode.TheVariants as modes
use Rattle.hx_cluster.specs.declared.description.Resource.{Resource}
use Rattle.hx_cluster.specs.declared.state.Message.{Message}
use Rattle.hx_cluster.specs.declared.state.Cluster.{Cluster}
use Rattle.hx_cluster.specs.declared.planning.Ideals.{Ideals}
use Rattle.hx_cluster.specs.declared.planning.Target.{Target}
use Rattle.hx_cluster.specs.declared.planning.Candidate.{Candidate}
use Rattle.hx_cluster.specs.declared.happenings.Outcome.TheVariants as outcomes
use Rattle.hx_cluster.specs.Ends.{part_eq, state_of, message_of, resource_at, no_model, model_at, model_of, parts_of}
use Rattle.hx_cluster.specs.Steps.{is_error, is_flag, is_drained}
use Rattle.hx_cluster.specs.Reads.{live_shown, ideals_shown}
use Rattle.hx_cluster.specs.Messages.{message_from, pending_of, row_put, written_of, after_write}
use Rattle.hx_cluster.specs.Safe.{IsSafe}
use Rattle.hx_cluster.specs.Ranged.{IsRanged}
use Rattle.hx_best.specs.Wants.{Listed, wants_in, in_turn, by_instance, place_in}
use Rattle.hx_best.specs.Goals.{goal}
use Rattle.hx_best.specs.Targets.{is_target, all_targets, is_shown_as, IsTargetIn, IsTargetOf}
use Rattle.hx_gen.specs.Candidates.{is_at_goal, hop_of, candidate_of, comes_before}
use Rattle.hx_pass.specs.Plans.{throttled_of, proposal}
use Rattle.hx_pass.specs.Left.{left_of}
use Rattle.hx_pass.specs.Explained.{view_at}
use Rattle.hx_safe.proofs.Counting.{and-first, and-second}
use Rattle.hx_safe.proofs.Ends.{session_same, part_same, put-other, put-here}
use Rattle.hx_lawful.proofs.Viewing.{sessions_once}
use Rattle.hx_lawful.proofs.Fitting.{made_of, step_of}
use Rattle.hx_settled.specs.Hops.{IsHop}
use Rattle.hx_settled.specs.Places.{Place, places_of, left_at}
use Rattle.hx_settled.specs.Ways.{target_at, IsOnItsWay, HasSameGoals}
use Rattle.hx_settled.proofs.Moments.{sound_of, view_formed}
use Rattle.hx_settled.proofs.Hopping.{are_targets, to_no_error, good_in, away_in, hop_there}
use Rattle.hx_settled.proofs.Explaining.{all-made, all-sorted}
use Rattle.hx_settled.proofs.Sending.{all_sent}
use Rattle.hx_settled.proofs.Goals.{goal_same}
use Rattle.hx_settled.proofs.Summing.{sum-more}
use Rattle.hx_settled.proofs.Placed.{IsPlaceOf, are_places, left_all, no_target}
use Rattle.hx_settled.proofs.Single.{is_place, one_place}
use Rattle.hx_settled.proofs.Spending.{IsUnwritten, unwritten, in_error_from, put_error, no_flag}

-- how far a state is from a goal
abbrev steps : ModelParts → Option StateId → StateId → ℕ
steps m o g = if option_map_or (λ s. s.0 == g.0) o ((g.0 == m.initial.0) || (g.0 == dropped.0)) then 0 else dist m (unwrap_or o m.initial) g

no_way : (m : ModelParts) (to goal : StateId) → (to.0 == goal.0) ≡ true → 0 ≡ dist m to goal
no_way m to goal same = let low = dist-shortest m zero to goal same in omega (arith, low)

put_steps : (m : ModelParts) (to goal : StateId) → ((to.0 == dropped.0) ≡ true → (goal.0 == dropped.0) ≡ true) → steps m (if to.0 == dropped.0 then None else Some to) goal ≡ dist m to goal
put_steps m to goal drops = one (to.0 == dropped.0) refl
  where
    alike : (a b : ℕ) → (a == 1) ≡ true → (b == 1) ≡ true → (a == b) ≡ true
    alike a b one two = grind (arith, nat_tests, one, two)

    either : (a b : Bool) → b ≡ true → (a || b) ≡ true
    either true b e = refl
    either false b e = e

    two : (b : Bool) → (to.0 == goal.0) ≡ b → (if b then 0 else dist m to goal) ≡ dist m to goal
    two true same = no_way m to goal same
    two false same = refl

    one : (b : Bool) → (to.0 == dropped.0) ≡ b → steps m (if b then None else Some to) goal ≡ dist m to goal
    one true is =
        ap (λ (b : Bool). if b then 0 else dist m m.initial goal) (either (goal.0 == m.initial.0) (goal.0 == dropped.0) (drops is)) ∙ no_way m to goal (alike to.0 goal.0 is (drops is))
    one false is = two (to.0 == goal.0) refl

-- a hop is from where its target stands
hop_from : (m : ModelParts) (t : Target) (x : Candidate) → hop_of m t ≡ Some x → x.from ≡ unwrap_or t.state m.initial
hop_from m t x e = one (hop m (unwrap_or t.state m.initial) t.goal) e
  where
    one : (o : Option StateId) → option_map (λ to. record { session = t.session; instance = t.instance; part = t.part; from = unwrap_or t.state m.initial; to = to; place = t.place }) o ≡ Some x
        → x.from ≡ unwrap_or t.state m.initial
    one None e = absurd (let both = e in cc)
    one (Some to) e = cc

-- a session has one instance
same_instance : (live : List (SessionId × InstanceId)) (s : SessionId) (i j : InstanceId) → count (λ (e : SessionId × InstanceId). e.0.0 == s.0) live ≤ 1
    → list_any (is_shown_as s i) live ≡ true → list_any (is_shown_as s j) live ≡ true → i ≡ j
same_instance [] s i j once one two = absurd (let no_one : false ≡ true = one in cc)
same_instance (x ∷ live) s i j once one two = split (x.0.0 == s.0) refl once one two (same_instance live s i j)
  where
    none : (k : InstanceId) (ys : List (SessionId × InstanceId)) → count (λ (e : SessionId × InstanceId). e.0.0 == s.0) ys ≤ 0 → list_any (is_shown_as s k) ys ≡ false
    none k [] few = refl
    none k (y ∷ ys) few = grind (arith, few, none k ys)

    its : (k : InstanceId) → ((x.1.0 == k.0) || list_any (is_shown_as s k) live) ≡ true → count (λ (e : SessionId × InstanceId). e.0.0 == s.0) live ≤ 0 → x.1 ≡ k
    its k e few =
        let others = none k live few in
        let here : (x.1.0 == k.0) ≡ true = first (x.1.0 == k.0) (list_any (is_shown_as s k) live) e others in
        let same : x.1.0 ≡ k.0 = grind (arith, nat_tests, here) in
        ap (λ (n : ℕ). record { 0 = n }) same
      where
        first : (a b : Bool) → (a || b) ≡ true → b ≡ false → a ≡ true
        first true b e w = refl
        first false b e w = absurd (let both : false ≡ true = sym w ∙ e in cc)

    split : (b : Bool) → (x.0.0 == s.0) ≡ b → length (if b then x ∷ filter (λ (e : SessionId × InstanceId). e.0.0 == s.0) live else filter (λ (e : SessionId × InstanceId). e.0.0 == s.0) live) ≤ 1
        → ((b && (x.1.0 == i.0)) || list_any (is_shown_as s i) live) ≡ true → ((b && (x.1.0 == j.0)) || list_any (is_shown_as s j) live) ≡ true
        → (count (λ (e : SessionId × InstanceId). e.0.0 == s.0) live ≤ 1 → list_any (is_shown_as s i) live ≡ true → list_any (is_shown_as s j) live ≡ true → i ≡ j) → i ≡ j
    split true is few one two rest = let none_more : count (λ (e : SessionId × InstanceId). e.0.0 == s.0) live ≤ 0 = omega (arith, few) in sym (its i one none_more) ∙ its j two none_more
    split false is few one two rest = rest few one two

-- what no item passes is left by a filter
all_left : {X : Type 0} (q : X → Bool) (xs : List X) → list_any q xs ≡ false → filter (λ x. not (q x)) xs ≡ xs
all_left q [] e = refl
all_left q (x ∷ xs) e = grind (arith, e, all_left q xs)

-- a message on its way follows its target's hop
way_hop : (c : Cluster) → IsSafe c → IsRanged c → (m : Message) → nat_lt m.part.index (parts_of c.resources m.part.resource) ≡ true → (way : IsOnItsWay c m)
    → IsHop (model_at c.models way.resource.model) (target_at c m.session m.part way.resource way.instance) way.hop
way_hop c safe ranged m low way =
    subst (λ (y : Candidate). IsHop model t y) (head hopped.0 (sym hopped.1.next ∙ way.next)) hopped.1
  where
    model : ModelParts
    model = model_at c.models way.resource.model

    t : Target
    t = target_at c m.session m.part way.resource way.instance

    head : (x : Candidate) → Some x ≡ Some way.hop → x ≡ way.hop
    head x e = cc

    wanted : (b : Bool) → is_target (view_at c) way.resource m.part (m.session, way.instance) ≡ b → b ≡ true
    wanted true is = refl
    wanted false is = let both = sym (no_target c model way.resource m.part (m.session, way.instance) is) ∙ way.away in sym both

    inside : IsTargetIn c.models (view_at c) (target_at c m.session m.part way.resource way.instance) way.resource
    inside = record {
      shown = way.shown;
      part = sym (ap (λ (o : Option Resource). nat_lt m.part.index (option_map_or (λ y. y.ideal.parts) o 0)) way.there) ∙ low;
      wanted = wanted (is_target (view_at c) way.resource m.part (m.session, way.instance)) refl;
      own = refl;
    }

    hopped : (x : Candidate) × IsHop (model_at c.models way.resource.model) (target_at c m.session m.part way.resource way.instance) x
    hopped =
        let sound = sound_of c safe ranged in
        let formed = view_formed c safe ranged in
        let away = away_in c.models (length c.instances) (view_at c) sound formed way.resource t way.there inside way.away in
        hop_there model t (good_in c.models (length c.instances) (view_at c) sound formed way.resource m.part.resource way.there).0 away.from away.end away.apart

-- and stays on it while its replica stands and goals are the same
pub stays_on : (c d : Cluster) (m : Message) → HasSameGoals c d → state_of d.rows m.session m.part ≡ state_of c.rows m.session m.part → IsOnItsWay c m → IsOnItsWay d m
stays_on c d m same stands way = record {
  resource = way.resource;
  instance = way.instance;
  there = ap (λ (x : Ideals). resource_at x.resources m.part.resource) same.ideals ∙ way.there;
  shown = ap (list_any (is_shown_as m.session way.instance)) same.live ∙ way.shown;
  away = (λ i. is_at_goal (model_at (same.models i) way.resource.model) (targets_same i)) ∙ way.away;
  hop = way.hop;
  next = (λ i. hop_of (model_at (same.models i) way.resource.model) (targets_same i)) ∙ way.next;
  to = way.to;
}
  where
    goals : goal d.models (view_at d) way.resource m.part m.session way.instance ≡ goal c.models (view_at c) way.resource m.part m.session way.instance
    goals =
        ap (λ (ms : List ModelParts). goal ms (view_at d) way.resource m.part m.session way.instance) same.models
        ∙ goal_same c.models (view_at d) (view_at c) same.live same.ideals same.errors way.resource m.part m.session way.instance

    wants : (mode : Mode) (replicas k : ℕ) → wants_in mode (view_at d) replicas k ≡ wants_in mode (view_at c) replicas k
    wants modes.Full replicas k = λ i. Listed (in_turn (filter (λ j. not (is_drained (same.ideals i).drained j)) (map (λ e. e.1) (by_instance (same.live i)))) replicas k)
    wants (modes.Semi lists) replicas k = refl
    wants (modes.Custom maps) replicas k = refl

    targets_same : target_at d m.session m.part way.resource way.instance ≡ target_at c m.session m.part way.resource way.instance
    targets_same i = record {
      session = m.session;
      instance = way.instance;
      part = m.part;
      state = stands i;
      goal = goals i;
      place = if way.resource.dropped then 0 else place_in (wants way.resource.ideal.mode way.resource.ideal.replicas m.part.index i) way.instance;
    }

module _ (c : Cluster) (safe : IsSafe c) (ranged : IsRanged c) (s : SessionId) (id : MsgId) (m : Message) (u : IsUnwritten c m) (apart : (m.from.0 == error.0) ≡ false) where
  abbrev d : Cluster
  d = written_of c s id outcomes.Ok (Some m)

  plain : is_error (state_of c.rows m.session m.part) ≡ false
  plain = in_error_from c m u ∙ apart

  -- goals are what they were
  errors : (v : SessionId) (q : PartId) → is_error (state_of c.rows v q) ≡ is_error (state_of (row_put c.rows m.session m.part m.to) v q)
  errors v q = one ((v.0 == m.session.0) && part_eq q m.part) refl
    where
      one : (b : Bool) → ((v.0 == m.session.0) && part_eq q m.part) ≡ b → is_error (state_of c.rows v q) ≡ is_error (state_of (row_put c.rows m.session m.part m.to) v q)
      one false ne = sym (ap is_error (put-other c.rows m.session v m.part q m.to ne))
      one true at =
          let session : v ≡ m.session = session_same v m.session (and-first (v.0 == m.session.0) (part_eq q m.part) at) in
          let part : q ≡ m.part = part_same q m.part (and-second (v.0 == m.session.0) (part_eq q m.part) at) in
          let after : is_error (state_of (row_put c.rows m.session m.part m.to) m.session m.part) ≡ false
          = put_error c.rows m.session m.part m.to ∙ to_no_error (model_of c.models c.resources m.part.resource) u.sound m.from m.to u.legal in
          (λ i. is_error (state_of c.rows (session i) (part i))) ∙ plain ∙ sym after ∙ (λ i. is_error (state_of (row_put c.rows m.session m.part m.to) (sym session i) (sym part i)))

  ideals : ideals_shown c ≡ ideals_shown d
  ideals i = record {
    resources = c.resources;
    drained = c.instances;
    resets = sym (all_left (is_flag m.session m.part) c.resets (no_flag c safe m.session m.part plain)) i;
  }

  goals : (r : Resource) (p : PartId) (v : SessionId) (i : InstanceId) → goal c.models (view_at c) r p v i ≡ goal c.models (view_at d) r p v i
  goals r p v j = goal_same c.models (view_at c) (view_at d) refl ideals errors r p v j

  -- each other replica is where it was
  other_place : (x : Place) → is_place m.session m.part x ≡ false → left_at c x ≡ left_at d x
  other_place x ne i =
      option_map_or (λ r. steps (model_of c.models c.resources x.part.resource) (sym (put-other c.rows m.session x.session m.part x.part m.to ne) i) (goals r x.part x.session x.instance i))
      (resource_at c.resources x.part.resource) 0

  -- and this one is one nearer
  this_place : (way : IsOnItsWay c m)
      → left_at c (record { part = m.part; session = m.session; instance = way.instance }) ≡ left_at d (record { part = m.part; session = m.session; instance = way.instance }) + 1
  this_place way =
      let hopped = way_hop c safe ranged m u.part way in
      let near : dist model m.to t.goal + 1 ≡ dist model (unwrap_or t.state model.initial) t.goal
      = (λ i. dist model (sym way.to i) t.goal + 1) ∙ hopped.nearer ∙ ap (λ (v : StateId). dist model v t.goal) (hop_from model t way.hop way.next) in
      let drops : (m.to.0 == dropped.0) ≡ true → (t.goal.0 == dropped.0) ≡ true = λ e. hopped.drops (ap (λ (v : StateId). v.0 == dropped.0) way.to ∙ e) in
      before ∙ sym near ∙ ap (λ (n : ℕ). n + 1) (sym (after drops))
    where
      model : ModelParts
      model = model_at c.models way.resource.model

      t : Target
      t = target_at c m.session m.part way.resource way.instance

      before : left_at c (record { part = m.part; session = m.session; instance = way.instance }) ≡ dist model (unwrap_or t.state model.initial) t.goal
      before =
          (λ i. option_map_or (λ r. steps (option_map_or (λ x. model_at c.models x.model) (way.there i) no_model) (state_of c.rows m.session m.part)
          (goal c.models (view_at c) r m.part m.session way.instance)) (way.there i) 0)
          ∙ ap (λ (b : Bool). if b then 0 else dist model (unwrap_or t.state model.initial) t.goal) way.away

      after : ((m.to.0 == dropped.0) ≡ true → (t.goal.0 == dropped.0) ≡ true) → left_at d (record { part = m.part; session = m.session; instance = way.instance }) ≡ dist model m.to t.goal
      after drops =
          (λ i. option_map_or (λ r. steps (option_map_or (λ x. model_at c.models x.model) (way.there i) no_model) (put-here c.rows m.session m.part m.to i)
          (sym (goals r m.part m.session way.instance) i)) (way.there i) 0)
          ∙ put_steps model m.to t.goal drops

  falls : IsOnItsWay c m → left_of c ≡ left_of (written_of c s id outcomes.Ok (Some m)) + 1
  falls way =
      left_all c
      ∙ sum-more (left_at c) (left_at d) (is_place m.session m.part) 1 (places_of c)
      (All-weaker (IsPlaceOf c) (λ x. left_at c x ≡ left_at d x + (if is_place m.session m.part x then 1 else 0)) (λ x is. each x is (is_place m.session m.part x) refl) (places_of c) (are_places c))
      (one_place c safe m.session m.part u.live u.part)
      ∙ ap (λ (n : ℕ). n + 1) (sym (left_all d))
    where
      plus_none : (n : ℕ) → n ≡ n + 0
      plus_none n = omega arith

      each : (x : Place) → IsPlaceOf c x → (b : Bool) → is_place m.session m.part x ≡ b → left_at c x ≡ left_at d x + (if b then 1 else 0)
      each x is false ne = other_place x ne ∙ plus_none (left_at d x)
      each x is true at =
          let session : x.session ≡ m.session = session_same x.session m.session (and-first (x.session.0 == m.session.0) (part_eq x.part m.part) at) in
          let part : x.part ≡ m.part = part_same x.part m.part (and-second (x.session.0 == m.session.0) (part_eq x.part m.part) at) in
          let here : list_any (is_shown_as m.session x.instance) (live_shown c) ≡ true = (λ i. list_any (is_shown_as (sym session i) x.instance) (live_shown c)) ∙ is.shown in
          let instance : x.instance ≡ way.instance
          = same_instance (live_shown c) m.session x.instance way.instance (sessions_once c safe.sessions.numbers m.session) here way.shown in
          (λ i. left_at c (record { part = part i; session = session i; instance = instance i })) ∙ this_place way
          ∙ (λ i. left_at d (record { part = sym part i; session = sym session i; instance = sym instance i }) + 1)

  -- the others stay on their ways
  same_goals : HasSameGoals c (written_of c s id outcomes.Ok (Some m))
  same_goals = record { models = refl; live = refl; ideals = sym ideals; errors = λ v q. sym (errors v q) }

  others_stay : (x : Message) → ((x.session.0 == m.session.0) && part_eq x.part m.part) ≡ false → IsOnItsWay c x → IsOnItsWay (written_of c s id outcomes.Ok (Some m)) x
  others_stay x ne way = stays_on c (written_of c s id outcomes.Ok (Some m)) x same_goals (put-other c.rows m.session x.session m.part x.part m.to ne) way

pub way_falls : (c : Cluster) (s : SessionId) (id : MsgId) (m : Message) → IsSafe c → IsRanged c → pending_of c s id ≡ Some m → m.written ≡ false → (m.from.0 == error.0) ≡ false → IsOnItsWay c m
    → left_of c ≡ left_of (after_write c s id outcomes.Ok) + 1
way_falls c s id m safe ranged is fresh apart way =
    falls c safe ranged s id m (unwritten c safe ranged s id m is fresh) apart way ∙ ap (λ (o : Option Message). left_of (written_of c s id outcomes.Ok o) + 1) (sym is)

pub ways_stay : (c : Cluster) (s : SessionId) (id : MsgId) (m x : Message) → IsSafe c → IsRanged c → pending_of c s id ≡ Some m → m.written ≡ false → (m.from.0 == error.0) ≡ false
    → ((x.session.0 == m.session.0) && part_eq x.part m.part) ≡ false → IsOnItsWay c x → IsOnItsWay (after_write c s id outcomes.Ok) x
ways_stay c s id m x safe ranged is fresh apart ne way =
    subst (λ (o : Option Message). IsOnItsWay (written_of c s id outcomes.Ok o) x) (sym is)
    (others_stay c safe ranged s id m (unwritten c safe ranged s id m is fresh) apart x ne way)

-- each message of a plan is on its way
sent_way : (c : Cluster) (id : MsgId) (t : Target) (x : Candidate) → IsTargetOf c.models (view_at c) t → candidate_of c.models (view_at c) t ≡ Some x → IsOnItsWay c (message_from c id (proposal x))
sent_way c id t x is e =
    let made = made_of c.models (view_at c) t x e in
    subst (λ (y : Candidate). candidate_of c.models (view_at c) t ≡ Some y → IsOnItsWay c (message_from c id (proposal y))) (sym made.1)
    (of_resource (resource_at c.resources t.part.resource) refl is made.0) e
  where
    of_resource : (o : Option Resource) → resource_at c.resources t.part.resource ≡ o → IsSomeAnd o (IsTargetIn c.models (view_at c) t) → (to : StateId)
        → candidate_of c.models (view_at c) t ≡ Some (step_of t (unwrap_or t.state (model_of c.models c.resources t.part.resource).initial) to)
        → IsOnItsWay c (message_from c id (proposal (step_of t (unwrap_or t.state (model_of c.models c.resources t.part.resource).initial) to)))
    of_resource None at is to e = absurd is
    of_resource (Some r) at is to e =
        let y : Candidate = step_of t (unwrap_or t.state (model_of c.models c.resources t.part.resource).initial) to in
        let model : model_of c.models c.resources t.part.resource ≡ model_at c.models r.model = ap (λ (o : Option Resource). option_map_or (λ x. model_at c.models x.model) o no_model) at in
        let parts = away_of (is_some (message_of c.mail t.session t.part)) (is_at_goal (model_of c.models c.resources t.part.resource) t) refl (hop_of (model_of c.models c.resources t.part.resource) t) y e in
        record {
          resource = r;
          instance = t.instance;
          there = at;
          shown = is.shown;
          away = (λ i. is_at_goal (sym model i) (sym is.own i)) ∙ parts.0;
          hop = y;
          next = (λ i. hop_of (sym model i) (sym is.own i)) ∙ parts.1;
          to = refl;
        }
      where
        away_of : (a b : Bool) → is_at_goal (model_of c.models c.resources t.part.resource) t ≡ b → (h : Option Candidate) (y : Candidate) → (if a || b then None else h) ≡ Some y
            → (is_at_goal (model_of c.models c.resources t.part.resource) t ≡ false) × (h ≡ Some y)
        away_of true b is h y e = absurd (let both = e in cc)
        away_of false true is h y e = absurd (let both = e in cc)
        away_of false false is h y e = (is, e)

pub plans_on_their_way : (c : Cluster) (id : MsgId) → All (λ x. IsOnItsWay c (message_from c id (proposal x))) (throttled_of c.models c.rules (view_at c)).sent
plans_on_their_way c id =
    let P : Candidate → Type 0 = λ x. IsOnItsWay c (message_from c id (proposal x)) in
    all_sent c.models c.rules (view_at c) P
    (all-sorted P (comes_before c.models (view_at c)) (filter_map (candidate_of c.models (view_at c)) (all_targets c.models (view_at c)))
    (all-made P (IsTargetOf c.models (view_at c)) (candidate_of c.models (view_at c)) (sent_way c id) (all_targets c.models (view_at c)) (are_targets c.models (view_at c))))
