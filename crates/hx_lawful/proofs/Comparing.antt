-- A candidate that a plan sends has room on the board under its bound and under each rule.
use Rattle.std.proofs.Common.{◌≡◌, ℕ, ◌+◌, ◌≤◌, ◌<◌, ◌||◌, ◌&&◌, ◌==◌, not, Bool, true, false, List, [], ◌∷◌, ◌++◌, length, Option, Some, None, refl, sym, ap, ◌∙◌, arith}
use Rattle.std.specs.Prelude.{nat_lt, nat_le, unwrap_or, is_none, if◌then◌else◌}
use Rattle.std.specs.List.{list_any}
use Rattle.std.specs.Option.{option_map_or}
use Rattle.std.proofs.lemmas.Bool.Decides.{nat_tests}
use Rattle.hx_lists.specs.Lists.{count}
use Rattle.hx_ids.specs.declared.StateId.{StateId}
use Rattle.hx_ids.specs.declared.ResourceId.{ResourceId}
use Rattle.hx_ids.specs.declared.SessionId.{SessionId}
use Rattle.hx_ids.specs.declared.PartId.{PartId}
use Rattle.hx_ids.specs.declared.Live.{Live}
use Rattle.hx_model.specs.declared.Bound.{Bound}
use Rattle.hx_model.specs.declared.Bound.TheVariants.{Count, Replicas, Live as AllLive, Free}
use Rattle.hx_model.specs.declared.ModelParts.{ModelParts}
use Rattle.hx_model.specs.Model.{bound_of, limit_of}
use Rattle.hx_cluster.specs.declared.description.Resource.{Resource}
use Rattle.hx_cluster.specs.declared.description.Rule.{Rule}
use Rattle.hx_cluster.specs.declared.state.Cluster.{Cluster}
use Rattle.hx_cluster.specs.declared.planning.View.{View}
use Rattle.hx_cluster.specs.declared.planning.Candidate.{Candidate}
use Rattle.hx_cluster.specs.declared.happenings.Proposal.{Proposal}
use Rattle.hx_cluster.specs.declared.happenings.Placed.TheVariants as placings
use Rattle.hx_cluster.specs.Ends.{is_live, is_shown, shown_of, sessions_of, row_of, state_of, message_of, row_at, message_at, has_end, count_over, count_of, limit_at, model_of, replicas_of, parts_of, matches, key_of, load_over, load_of}
use Rattle.hx_cluster.specs.Steps.{is_dropped}
use Rattle.hx_cluster.specs.Messages.{proposal_load, throttled_from, bounded, placed_of}
use Rattle.hx_select.specs.Selection.{shown_sessions, goes_to, filling, limit_for, has_room, accepted_of}
use Rattle.hx_throttle.specs.Throttle.{key_for, counts_too, loading, holds_back, is_sent}
use Rattle.hx_pass.specs.Plans.{all_candidates, throttled_of, proposal}
use Rattle.hx_safe.proofs.Counting.{and-first, and-second, and-both, count-length}
use Rattle.hx_safe.proofs.Ends.{session_same, row_at-state, stands_at}
use Rattle.hx_safe.specs.Onward.{is_front, has_same_replicas}
use Rattle.hx_safe.proofs.Fronts.{front-get}
use Rattle.hx_lawful.specs.Gate.{Shows, IsWithin, IsFit, is_for}
use Rattle.hx_lawful.proofs.Counts.{chosen-split}
use Rattle.hx_lawful.proofs.Gating.{idle_there, same_state_there, same_model_there, first_tests}
use Rattle.hx_lawful.specs.Fitting.{leads_elsewhere}
use Rattle.hx_lawful.proofs.Choosing.{count-chosen}
use Rattle.hx_lawful.proofs.Placing.{limit_alike, key_there}
use Rattle.hx_lawful.proofs.Fits.{resource_of_part}

-- a candidate of a plan had room beside those that were sent before it, under its bound and under each rule
pub record HadRoom (models : List ModelParts) (rules : List Rule) (view : View) (before : List Candidate) (x : Candidate) : Type 0 where
  pub bound : (limit : ℕ) → limit_for models view x ≡ Some limit
      → count_over (shown_sessions view) view.rows view.mail x.part x.to + count (goes_to x.part x.to) before < limit
  pub throttles : list_any (holds_back view before x) rules ≡ false

below_limit : (models : List ModelParts) (view : View) (accepted : List Candidate) (x : Candidate) (limit : ℕ) → has_room models view accepted x ≡ true → limit_for models view x ≡ Some limit
    → filling view accepted x < limit
below_limit models view accepted x limit e at =
    let low : nat_lt (filling view accepted x) limit ≡ true = sym (ap (λ (o : Option ℕ). option_map_or (nat_lt (filling view accepted x)) o true) at) ∙ e in
    below low
  where
    below : {a b : ℕ} → nat_lt a b ≡ true → a < b
    below e = grind (arith, nat_tests, e)

pub had_room : (models : List ModelParts) (rules : List Rule) (view : View) (before rest : List Candidate) (x : Candidate) → (throttled_of models rules view).sent ≡ before ++ x ∷ rest
    → HadRoom models rules view before x
had_room models rules view before rest x e =
    let all = all_candidates models view in
    let sent = chosen-split (is_sent rules view) (accepted_of models view all) before x rest e in
    let accepted = chosen-split (has_room models view) all sent.front x sent.rest sent.parts in
    record {
      bound = λ limit at.
          let low = below_limit models view sent.front x limit accepted.taken at in
          let fewer = count-chosen (goes_to x.part x.to) (is_sent rules view) sent.front in
          let same = ap (count (goes_to x.part x.to)) sent.before in
          omega (arith, low, fewer, same);
      throttles = none (list_any (holds_back view before x) rules) sent.taken;
    }
  where
    none : (b : Bool) → not b ≡ true → b ≡ false
    none true e = cc
    none false e = refl

-- no rule of the board has less room
room_under : (view : View) (b d : Cluster) (before : List Candidate) (x : Candidate) → Shows b view → is_shown view.live x.session ≡ true → is_live d.live x.session ≡ true
    → IsWithin view b d before → ((r : Rule) (key : ℕ) → load_of b r key ≤ load_over view.live view.mail r key) → (r : Rule)
    → (matches r x.from x.to && nat_le r.limit (proposal_load d (proposal x) r)) ≡ true → holds_back view before x r ≡ true
room_under view b d before x shows shown live w loads r e =
    let match : matches r x.from x.to ≡ true = and-first (matches r x.from x.to) (nat_le r.limit (proposal_load d (proposal x) r)) e in
    let full : nat_le r.limit (proposal_load d (proposal x) r) ≡ true = and-second (matches r x.from x.to) (nat_le r.limit (proposal_load d (proposal x) r)) e in
    let there : is_live b.live x.session ≡ true = ap (λ (ls : List Live). is_live ls x.session) (sym w.live) ∙ live in
    let keys : key_of r.scope (shown_of d.live) x.session x.part ≡ key_for view r x
    = ap (λ (ls : List Live). key_of r.scope (shown_of ls) x.session x.part) w.live ∙ key_there view b x shows shown there r in
    let load : proposal_load d (proposal x) r ≡ load_of d r (key_for view r x) = ap (load_of d r) keys in
    and-both (matches r x.from x.to) (nat_le r.limit (loading view before r (key_for view r x))) match
    (more r.limit (proposal_load d (proposal x) r) (load_of d r (key_for view r x)) (load_of b r (key_for view r x)) (load_over view.live view.mail r (key_for view r x))
    (count (counts_too view r (key_for view r x)) before) full load (w.loads r (key_for view r x)) (loads r (key_for view r x)))
  where
    more : (limit n l m y z : ℕ) → nat_le limit n ≡ true → n ≡ l → l ≤ m + z → m ≤ y → nat_le limit (y + z) ≡ true
    more limit n l m y z full load one two = grind (arith, nat_tests, full, load, one, two)

any_not : {X : Type 0} (p q : X → Bool) → ((x : X) → p x ≡ true → q x ≡ true) → (xs : List X) → list_any q xs ≡ false → list_any p xs ≡ false
any_not p q h [] e = refl
any_not p q h (x ∷ xs) e = grind (arith, e, h x, any_not p q h xs)

pub under_rules : (d : Cluster) (q : Proposal) (k : ℕ) (rules : List Rule) → list_any (λ r. matches r q.from q.to && nat_le r.limit (proposal_load d q r)) rules ≡ false
    → throttled_from d q k rules ≡ placings.Sent (record { 0 = d.next_msg })
under_rules d q k [] e = refl
under_rules d q k (r ∷ rules) e = one (matches r q.from q.to && nat_le r.limit (proposal_load d q r)) e (under_rules d q (k + 1) rules)
  where
    rest : Bool
    rest = list_any (λ (x : Rule). matches x q.from q.to && nat_le x.limit (proposal_load d q x)) rules

    one : (b : Bool) → (b || rest) ≡ false → (rest ≡ false → throttled_from d q (k + 1) rules ≡ placings.Sent (record { 0 = d.next_msg }))
        → (if b then placings.OverThrottle k (proposal_load d q r) r.limit else throttled_from d q (k + 1) rules) ≡ placings.Sent (record { 0 = d.next_msg })
    one true e more = cc
    one false e more = more e

pub under_bound : (d : Cluster) (q : Proposal) (o : Option ℕ) → ((limit : ℕ) → o ≡ Some limit → count_of d q.part q.to < limit)
    → throttled_from d q 0 d.rules ≡ placings.Sent (record { 0 = d.next_msg }) → bounded d q o ≡ placings.Sent (record { 0 = d.next_msg })
under_bound d q None room sent = sent
under_bound d q (Some limit) room sent = one (nat_le limit (count_of d q.part q.to)) refl
  where
    one : (b : Bool) → nat_le limit (count_of d q.part q.to) ≡ b
        → (if b then placings.OverBound (count_of d q.part q.to) limit else throttled_from d q 0 d.rules) ≡ placings.Sent (record { 0 = d.next_msg })
    one false is = sent
    one true is = let low = room limit refl in absurd (grind (arith, nat_tests, is, low))

-- the replica has no end in the state that it goes to
elsewhere_there : (models : List ModelParts) (view : View) (b d : Cluster) (before : List Candidate) (x : Candidate) → Shows b view → IsWithin view b d before → IsFit models view x
    → leads_elsewhere x ≡ true → list_any (is_for x.session x.part) before ≡ false → is_live d.live x.session ≡ true → has_end d.rows d.mail x.part x.to x.session ≡ false
elsewhere_there models view b d before x shows w fit leads nobody live =
    let idle = idle_there b d view before models x shows w fit nobody in
    let state = same_state_there b d view before models x shows w fit live in
    let row : row_at x.to (row_of d.rows x.session x.part) ≡ stands_at x.to (state_of view.rows x.session x.part)
    = row_at-state x.to d.rows x.session x.part ∙ ap (stands_at x.to) state in
    neither (row_at x.to (row_of d.rows x.session x.part)) (message_at x.to (message_of d.mail x.session x.part))
    (row ∙ one (state_of view.rows x.session x.part) fit.from) (ap (message_at x.to) idle)
  where
    neither : (a c : Bool) → a ≡ false → c ≡ false → (a || c) ≡ false
    neither a c one two = rw (one, two) refl

    initial : StateId
    initial = (model_of models view.ideals.resources x.part.resource).initial

    one : (o : Option StateId) → (unwrap_or o initial).0 ≡ x.from.0 → stands_at x.to o ≡ false
    one None at = refl
    one (Some t) at = grind (arith, nat_tests, at, leads)

-- so fewer sessions than are live have it
fewer : (p : SessionId → Bool) (live : List Live) (s : SessionId) → is_live live s ≡ true → p s ≡ false → count p (sessions_of live) < length live
fewer p [] s there e = cc
fewer p (l ∷ live) s there e = one (l.session.0 == s.0) refl there (λ w. fewer p live s w e)
  where
    most : (ls : List Live) → length (sessions_of ls) ≡ length ls
    most [] = refl
    most (x ∷ ls) = grind (arith, most ls)

    split : (c : Bool) → p l.session ≡ c → count p (sessions_of live) < length live → count p (l.session ∷ sessions_of live) < length (l ∷ live)
    split true is low = grind (arith, is, low)
    split false is low = grind (arith, is, low)

    one : (c : Bool) → (l.session.0 == s.0) ≡ c → (c || is_live live s) ≡ true → (is_live live s ≡ true → count p (sessions_of live) < length live)
        → count p (l.session ∷ sessions_of live) < length (l ∷ live)
    one true is w rest =
        let no : p l.session ≡ false = ap p (session_same l.session s is) ∙ e in
        let low = count-length p (sessions_of live) in
        let same = most live in
        grind (arith, no, low, same)
    one false is w rest = split (p l.session) refl (rest w)

-- a resource that was shown has the same replicas
replicas_there : (xs ys : List Resource) → is_front has_same_replicas xs ys ≡ true → (r : ResourceId) (i : ℕ) → nat_lt i (parts_of xs r) ≡ true → replicas_of ys r ≡ replicas_of xs r
replicas_there xs ys front r i low =
    let was = resource_of_part xs r i low in
    let x = was.0 in
    let there = front-get has_same_replicas xs ys r.0 x front was.1 in
    let y = there.0 in
    let same : y.ideal.replicas ≡ x.ideal.replicas = grind (arith, nat_tests, there.2) in
    ap (λ (o : Option Resource). option_map_or (λ z. z.ideal.replicas) o 0) there.1 ∙ same ∙ sym (ap (λ (o : Option Resource). option_map_or (λ z. z.ideal.replicas) o 0) was.1)

-- the bound of the state has room: for a number by counting, and for all live sessions since the replica is of one of them
room_by : (n room old now shown live : ℕ) (bound : Bound) (limit : ℕ) → now ≡ old → ((most : ℕ) → limit_of bound old shown ≡ Some most → room < most) → n ≤ room → n < live
    → limit_of bound now live ≡ Some limit → n < limit
room_by n room old now shown live (Count m) limit same had few low at =
    let is : m ≡ limit = taken at in
    let here = had m refl in
    omega (arith, is, here, few)
  where
    taken : {a b : ℕ} → Some a ≡ Some b → a ≡ b
    taken e = cc
room_by n room old now shown live Replicas limit same had few low at =
    let is : now ≡ limit = taken at in
    let here = had old refl in
    omega (arith, is, here, few, same)
  where
    taken : {a b : ℕ} → Some a ≡ Some b → a ≡ b
    taken e = cc
room_by n room old now shown live AllLive limit same had few low at =
    let is : live ≡ limit = taken at in
    omega (arith, is, low)
  where
    taken : {a b : ℕ} → Some a ≡ Some b → a ≡ b
    taken e = cc
room_by n room old now shown live Free limit same had few low at = cc

room_there : (models : List ModelParts) (rules : List Rule) (view : View) (b d : Cluster) (before : List Candidate) (x : Candidate) → b.models ≡ models → Shows b view → IsWithin view b d before
    → IsFit models view x → leads_elsewhere x ≡ true → list_any (is_for x.session x.part) before ≡ false → is_live d.live x.session ≡ true → HadRoom models rules view before x
    → ((p : PartId) (t : StateId) (limit : ℕ) → limit_at b p t ≡ Some limit → count_of b p t ≤ count_over (shown_sessions view) view.rows view.mail p t)
    → (limit : ℕ) → limit_at d x.part x.to ≡ Some limit → count_of d x.part x.to < limit
room_there models rules view b d before x same shows w fit leads nobody live had counts limit at =
    let old : limit_at b x.part x.to ≡ Some limit = sym (limit_alike b d x.part x.to w.models w.resources w.live) ∙ at in
    let here = w.counts x.part x.to limit old in
    let there = counts x.part x.to limit old in
    let room : ℕ = count_over (shown_sessions view) view.rows view.mail x.part x.to + count (goes_to x.part x.to) before in
    let few : count_of d x.part x.to ≤ room = omega (arith, here, there) in
    let model = same_model_there b d view before models x shows w fit (w.models ∙ same) in
    let bound : bound_of (model_of d.models d.resources x.part.resource) x.to ≡ bound_of (model_of models view.ideals.resources x.part.resource) x.to
    = ap (λ (m : ModelParts). bound_of m x.to) model in
    let replicas : replicas_of d.resources x.part.resource ≡ replicas_of view.ideals.resources x.part.resource
    = ap (λ (rs : List Resource). replicas_of rs x.part.resource) w.resources
    ∙ replicas_there view.ideals.resources b.resources shows.replicas x.part.resource x.part.index fit.part in
    let alone = fewer (has_end d.rows d.mail x.part x.to) d.live x.session live (elsewhere_there models view b d before x shows w fit leads nobody live) in
    room_by (count_of d x.part x.to) room (replicas_of view.ideals.resources x.part.resource) (replicas_of d.resources x.part.resource) (length view.live) (length d.live)
    (bound_of (model_of models view.ideals.resources x.part.resource) x.to) limit replicas (λ most is. had.bound most is) few alone
    (ap (λ (y : Bound). limit_of y (replicas_of d.resources x.part.resource) (length d.live)) (sym bound) ∙ at)

-- so the board sends it
pub sent_there : (models : List ModelParts) (rules : List Rule) (view : View) (b d : Cluster) (before : List Candidate) (x : Candidate) → b.models ≡ models → b.rules ≡ rules → Shows b view
    → IsWithin view b d before → IsFit models view x → leads_elsewhere x ≡ true → list_any (is_for x.session x.part) before ≡ false → is_live d.live x.session ≡ true
    → (is_dropped d.resources x.part.resource && is_none (state_of d.rows x.session x.part)) ≡ false → HadRoom models rules view before x
    → ((p : PartId) (t : StateId) (limit : ℕ) → limit_at b p t ≡ Some limit → count_of b p t ≤ count_over (shown_sessions view) view.rows view.mail p t)
    → ((r : Rule) (key : ℕ) → load_of b r key ≤ load_over view.live view.mail r key)
    → placed_of d (proposal x) ≡ placings.Sent (record { 0 = d.next_msg })
sent_there models rules view b d before x same alike shows w fit leads nobody live there had counts loads =
    first_tests models view b d before x (w.models ∙ same) shows w fit nobody live there
    ∙ under_bound d (proposal x) (limit_at d x.part x.to) (λ limit at. room_there models rules view b d before x same shows w fit leads nobody live had counts limit at)
    (under_rules d (proposal x) 0 d.rules
    (ap (list_any (λ r. matches r x.from x.to && nat_le r.limit (proposal_load d (proposal x) r))) (w.rules ∙ alike)
    ∙ any_not (λ r. matches r x.from x.to && nat_le r.limit (proposal_load d (proposal x) r)) (holds_back view before x)
    (λ r e. room_under view b d before x shows fit.shown live w loads r e) rules had.throttles))
