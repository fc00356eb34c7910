-- No dispatch of a lawful history has a proposal that the board refuses.
use Rattle.std.proofs.Common.{◌≡◌, ℕ, ◌≤◌, ◌||◌, ◌&&◌, ◌==◌, not, Bool, true, false, List, [], ◌∷◌, ◌++◌, append_assoc, append-nil, length, map, Option, Some, None, refl, sym, ap, ◌∙◌, subst, arith}
use Rattle.std.specs.Prelude.{nat_lt, is_none, slice_get, if◌then◌else◌}
use Rattle.std.specs.List.{list_any, list_all}
use Rattle.std.proofs.lemmas.Bool.Decides.{nat_tests}
use Rattle.hx_lists.specs.Lists.{count}
use Rattle.hx_ids.specs.declared.StateId.{StateId}
use Rattle.hx_ids.specs.declared.SessionId.{SessionId}
use Rattle.hx_ids.specs.declared.ControllerId.{ControllerId}
use Rattle.hx_ids.specs.declared.Epoch.{Epoch}
use Rattle.hx_ids.specs.declared.PassNo.{PassNo}
use Rattle.hx_ids.specs.declared.PartId.{PartId}
use Rattle.hx_model.specs.declared.ModelParts.{ModelParts}
use Rattle.hx_cluster.specs.declared.description.Resource.{Resource}
use Rattle.hx_cluster.specs.declared.description.Rule.{Rule}
use Rattle.hx_cluster.specs.declared.description.Spec.{Spec}
use Rattle.hx_cluster.specs.declared.state.Cluster.{Cluster}
use Rattle.hx_cluster.specs.declared.planning.View.{View}
use Rattle.hx_cluster.specs.declared.planning.Candidate.{Candidate}
use Rattle.hx_cluster.specs.declared.happenings.Proposal.{Proposal}
use Rattle.hx_cluster.specs.declared.happenings.Placed.TheVariants as placings
use Rattle.hx_cluster.specs.declared.happenings.Dispatched.{Dispatched}
use Rattle.hx_cluster.specs.declared.happenings.Event.{Event}
use Rattle.hx_cluster.specs.declared.happenings.Event.TheVariants as events
use Rattle.hx_cluster.specs.Ends.{part_eq, is_live, state_of, message_of, count_over, count_of, limit_at, load_over, load_of, parts_of}
use Rattle.hx_cluster.specs.Steps.{opening, is_dropped, has_controller}
use Rattle.hx_cluster.specs.Reads.{pass_of}
use Rattle.hx_cluster.specs.Messages.{placed_idle, placed_of, placed_all, after_proposal, after_proposals, raised_pass, next_pass}
use Rattle.hx_cluster.specs.Events.{has_part, is_epoch, replay, IsStep, IsLegal, next}
use Rattle.hx_cluster.specs.Safe.{IsSafe}
use Rattle.hx_cluster.specs.Valid.{IsValid}
use Rattle.hx_cluster.specs.Ranged.{IsRanged}
use Rattle.hx_cluster.specs.Views.{is_well_formed}
use Rattle.hx_select.specs.Selection.{shown_sessions}
use Rattle.hx_pass.specs.Plans.{throttled_of, proposal, plan}
use Rattle.hx_pass.specs.Turns.{Send, Post, Turn, is_first, turn_of}
use Rattle.hx_pass.specs.Lawful.{IsProper, IsProperAlong, IsLawful}
use Rattle.hx_safe.proofs.Counting.{and-first, and-second, and-both, all-append, count-append}
use Rattle.hx_safe.proofs.Ends.{same-self, part_eq-self}
use Rattle.hx_safe.proofs.Kept.{IsKept, kept_raised}
use Rattle.hx_safe.proofs.Fixed.{fixed_pass}
use Rattle.hx_safe.proofs.Sending.{kept_proposal}
use Rattle.hx_safe.proofs.Whole.{reached_safe, reached_ranged, whole_from}
use Rattle.hx_lawful.specs.Reading.{is_read}
use Rattle.hx_lawful.specs.Gate.{Shows, IsWithin, is_for}
use Rattle.hx_lawful.proofs.Fits.{front-part}
use Rattle.hx_lawful.proofs.Filling.{counts_shown}
use Rattle.hx_lawful.proofs.Loading.{loads_shown}
use Rattle.hx_lawful.proofs.Showing.{lawful_shows}
use Rattle.hx_lawful.proofs.Covered.{legal_front, proper_front}
use Rattle.hx_lawful.proofs.Whole.{fixed_along, read_law}
use Rattle.hx_lawful.specs.Unrefused.{is_sent_or_gone, is_unrefused, IsUnrefused}
use Rattle.hx_lawful.proofs.Fitting.{fits, fit_from, elsewhere_from, fits_all, once_all}
use Rattle.hx_lawful.proofs.Placing.{within_none, within_more}
use Rattle.hx_lawful.proofs.Comparing.{HadRoom, had_room, sent_there}

-- a board that a view shows, as far as it counts
pub record IsBoard (models : List ModelParts) (rules : List Rule) (view : View) (b : Cluster) : Type 0 where
  pub models_same : b.models ≡ models
  pub rules_same : b.rules ≡ rules
  pub shows : Shows b view
  pub kept : IsKept b
  pub counts : (p : PartId) (t : StateId) (limit : ℕ) → limit_at b p t ≡ Some limit → count_of b p t ≤ count_over (shown_sessions view) view.rows view.mail p t
  pub loads : (r : Rule) (key : ℕ) → load_of b r key ≤ load_over view.live view.mail r key

pub board_of : (models : List ModelParts) (rules : List Rule) (view : View) (b : Cluster) → b.models ≡ models → b.rules ≡ rules → Shows b view → IsKept b → IsBoard models rules view b
board_of models rules view b same alike shows k = record {
  models_same = same;
  rules_same = alike;
  shows = shows;
  kept = k;
  counts = λ p t limit at. counts_shown b view p t limit shows k.sound k.numbers at;
  loads = λ r key. loads_shown b view r key shows k.mail;
}

-- a candidate's replica has none before it
pub none_before : (s : SessionId) (p : PartId) (before rest : List Candidate) (x : Candidate) → is_for s p x ≡ true → count (is_for s p) (before ++ x ∷ rest) ≤ 1 → list_any (is_for s p) before ≡ false
none_before s p before rest x here most =
    let both = count-append (is_for s p) before (x ∷ rest) in
    none before (grind (arith, here, most, both))
  where
    none : (xs : List Candidate) → count (is_for s p) xs ≤ 0 → list_any (is_for s p) xs ≡ false
    none [] e = refl
    none (y ∷ ys) e = grind (arith, e, none ys)

-- the answer to a candidate
answer_there : (models : List ModelParts) (rules : List Rule) (view : View) (b d : Cluster) (before : List Candidate) (x : Candidate) → IsBoard models rules view b → IsWithin view b d before
    → fits models view x ≡ true → list_any (is_for x.session x.part) before ≡ false → HadRoom models rules view before x → is_sent_or_gone (placed_of d (proposal x)) ≡ true
answer_there models rules view b d before x board w fit nobody had =
    one (is_live d.live x.session) refl (is_dropped d.resources x.part.resource && is_none (state_of d.rows x.session x.part)) refl
  where
    one : (live : Bool) → is_live d.live x.session ≡ live → (gone : Bool) → (is_dropped d.resources x.part.resource && is_none (state_of d.rows x.session x.part)) ≡ gone
        → is_sent_or_gone (placed_of d (proposal x)) ≡ true
    one false is gone there =
        ap (λ (a : Bool). is_sent_or_gone (if not a then placings.Ended else if is_dropped d.resources x.part.resource && is_none (state_of d.rows x.session x.part) then placings.ResourceDropped
        else placed_idle d (proposal x) (message_of d.mail x.session x.part))) is
    one true is true there =
        ap (λ (a : Bool). is_sent_or_gone (if not a then placings.Ended else if is_dropped d.resources x.part.resource && is_none (state_of d.rows x.session x.part) then placings.ResourceDropped
        else placed_idle d (proposal x) (message_of d.mail x.session x.part))) is
        ∙ ap (λ (a : Bool). is_sent_or_gone (if a then placings.ResourceDropped else placed_idle d (proposal x) (message_of d.mail x.session x.part))) there
    one true is false there =
        ap is_sent_or_gone (sent_there models rules view b d before x board.models_same board.rules_same board.shows w (fit_from models view x fit) (elsewhere_from models view x fit) nobody is there had
        board.counts board.loads)

-- and to all
pub part_there : (models : List ModelParts) (view : View) (b d : Cluster) (before : List Candidate) (x : Candidate) → Shows b view → IsWithin view b d before → fits models view x ≡ true → has_part d x.part ≡ true
part_there models view b d before x shows w fit =
    let there = (fit_from models view x fit).part in
    ap (λ (rs : List Resource). nat_lt x.part.index (parts_of rs x.part.resource)) w.resources
    ∙ ap (nat_lt x.part.index) (front-part models view.ideals.resources b.resources shows.resources x.part.resource x.part.index there).0 ∙ there

answers_along : (models : List ModelParts) (rules : List Rule) (view : View) (b : Cluster) (sent : List Candidate) → IsBoard models rules view b → list_all (fits models view) sent ≡ true
    → ((s : SessionId) (p : PartId) → count (is_for s p) sent ≤ 1) → ((before rest : List Candidate) (x : Candidate) → sent ≡ before ++ x ∷ rest → HadRoom models rules view before x)
    → (before rest : List Candidate) (d : Cluster) → sent ≡ before ++ rest → IsKept d → IsWithin view b d before → list_all is_sent_or_gone (placed_all d (map proposal rest)) ≡ true
answers_along models rules view b sent board fit once room before [] d e k w = refl
answers_along models rules view b sent board fit once room before (x ∷ rest) d e k w =
    let here : fits models view x ≡ true = middle before rest x (ap (list_all (fits models view)) (sym e) ∙ fit) in
    let self : is_for x.session x.part x ≡ true = and-both (x.session.0 == x.session.0) (part_eq x.part x.part) (same-self x.session.0) (part_eq-self x.part) in
    let nobody = none_before x.session x.part before rest x self (subst (λ (xs : List Candidate). count (is_for x.session x.part) xs ≤ 1) e (once x.session x.part)) in
    let first = answer_there models rules view b d before x board w here nobody (room before rest x e) in
    and-both (is_sent_or_gone (placed_of d (proposal x))) (list_all is_sent_or_gone (placed_all (after_proposal d (proposal x)) (map proposal rest))) first
    (answers_along models rules view b sent board fit once room (before ++ x ∷ []) rest (after_proposal d (proposal x)) (e ∙ sym (append_assoc before (x ∷ []) rest))
    (kept_proposal d (proposal x) k (part_there models view b d before x board.shows w here)) (within_more view b d before x board.shows (fit_from models view x here).shown k w))
  where
    middle : (bs rs : List Candidate) (y : Candidate) → list_all (fits models view) (bs ++ y ∷ rs) ≡ true → fits models view y ≡ true
    middle bs rs y all =
        and-first (fits models view y) (list_all (fits models view) rs)
        (and-second (list_all (fits models view) bs) (list_all (fits models view) (y ∷ rs)) (sym (all-append (fits models view) bs (y ∷ rs)) ∙ all))

pub plan_unrefused : (models : List ModelParts) (rules : List Rule) (instances : ℕ) (view : View) (b : Cluster) → b.models ≡ models → b.rules ≡ rules → Shows b view → IsKept b
    → is_well_formed models instances view ≡ true → list_all is_sent_or_gone (placed_all b (plan models rules view).proposals) ≡ true
plan_unrefused models rules instances view b same alike shows k formed =
    answers_along models rules view b (throttled_of models rules view).sent (board_of models rules view b same alike shows k) (fits_all models rules view) (once_all models rules instances view formed)
    (λ before rest x e. had_room models rules view before rest x e) [] (throttled_of models rules view).sent b refl k (within_none view b)

-- so it is of a safe board
pub board_unrefused : (b : Cluster) (instances : ℕ) (view : View) → IsSafe b → IsRanged b → Shows b view → is_well_formed b.models instances view ≡ true
    → list_all is_sent_or_gone (placed_all b (plan b.models b.rules view).proposals) ≡ true
board_unrefused b instances view safe ranged shows formed = plan_unrefused b.models b.rules instances view b refl refl shows (whole_from (limit_at b) b safe ranged).kept formed

-- and what was sent of a front of the plan is all that has changed
within_along : (models : List ModelParts) (view : View) (b : Cluster) (before some : List Candidate) (d : Cluster) → Shows b view → list_all (fits models view) some ≡ true → IsKept d
    → IsWithin view b d before → IsWithin view b (after_proposals d (map proposal some)) (before ++ some)
within_along models view b before [] d shows fit k w = subst (IsWithin view b d) (sym (append-nil before)) w
within_along models view b before (x ∷ some) d shows fit k w =
    let here = and-first (fits models view x) (list_all (fits models view) some) fit in
    subst (IsWithin view b (after_proposals (after_proposal d (proposal x)) (map proposal some))) (append_assoc before (x ∷ []) some)
    (within_along models view b (before ++ x ∷ []) some (after_proposal d (proposal x)) shows (and-second (fits models view x) (list_all (fits models view) some) fit)
    (kept_proposal d (proposal x) k (part_there models view b d before x shows w here)) (within_more view b d before x shows (fit_from models view x here).shown k w))

pub plan_within : (b : Cluster) (view : View) (before after : List Candidate) → IsSafe b → IsRanged b → Shows b view
    → (throttled_of b.models b.rules view).sent ≡ before ++ after → IsWithin view b (after_proposals b (map proposal before)) before
plan_within b view before after safe ranged shows e =
    let fit = sym (all-append (fits b.models view) before after) ∙ ap (list_all (fits b.models view)) (sym e) ∙ fits_all b.models b.rules view in
    within_along b.models view b [] before b shows (and-first (list_all (fits b.models view) before) (list_all (fits b.models view) after) fit)
    (whole_from (limit_at b) b safe ranged).kept (within_none view b)

-- a pass that is raised changes nothing that a view shows
pub shows_raised : (c : Cluster) (view : View) (k : ControllerId) → Shows c view → Shows (next_pass c k) view
shows_raised c view k shows = one (slice_get c.controllers k.0)
  where
    one : (o : Option (Bool × PassNo)) → Shows (raised_pass c k o) view
    one None = shows
    one (Some x) = record {
      mail = shows.mail;
      single = shows.single;
      unshown = shows.unshown;
      instances = shows.instances;
      rows = shows.rows;
      resources = shows.resources;
      replicas = shows.replicas;
    }

-- the dispatch of a lawful history
dispatch_unrefused : (spec : Spec) (before : List Event) (k : ControllerId) (epoch : Epoch) (pass : PassNo) (proposals : List Proposal) (answer : Dispatched) → IsValid spec → IsLawful spec before
    → IsStep (replay (opening spec) before) (events.Dispatch k epoch pass proposals answer) → IsProper spec before (events.Dispatch k epoch pass proposals answer)
    → list_all is_sent_or_gone answer.placed ≡ true
dispatch_unrefused spec before k epoch pass proposals answer valid lawful step proper =
    let c = replay (opening spec) before in
    let t : Turn = turn_of spec k before in
    let b = next_pass c k in
    let first = and-first (is_first Send t.left) (pass.0 == t.begun.pass.0) proper.0 in
    let read : is_read t ≡ true = either (is_first Send t.left) (is_first Post t.left) first in
    let in_epoch : is_epoch c t.begun.epoch ≡ true = same c.epoch.0 epoch.0 t.begun.epoch.0 step.1 proper.1 in
    let in_pass : ((pass_of c k).0 == t.begun.pass.0) ≡ true
    = same (pass_of c k).0 pass.0 t.begun.pass.0 (and-second (has_controller c k) ((pass_of c k).0 == pass.0) step.2) (and-second (is_first Send t.left) (pass.0 == t.begun.pass.0) proper.0) in
    let shows = lawful_shows spec before k valid lawful read (and-both (is_epoch c t.begun.epoch) ((pass_of c k).0 == t.begun.pass.0) in_epoch in_pass) in
    let kept = (whole_from (limit_at c) c (reached_safe spec valid before lawful.0) (reached_ranged spec valid before lawful.0)).kept in
    let fixed = fixed_along (opening spec) before in
    let passed = fixed_pass c k in
    let all = plan_unrefused spec.models spec.rules (length spec.instances) t.view b (passed.models ∙ fixed.models) (passed.rules ∙ fixed.rules) (shows_raised c t.view k shows) (kept_raised c k kept)
    (read_law spec valid before lawful.0 k read) in
    ap (λ (a : Dispatched). list_all is_sent_or_gone a.placed) step.3 ∙ ap (λ (qs : List Proposal). list_all is_sent_or_gone (placed_all b qs)) proper.2 ∙ all
  where
    either : (a b : Bool) → a ≡ true → (a || b) ≡ true
    either true b e = refl
    either false b e = cc

    same : (a b d : ℕ) → (a == b) ≡ true → (b == d) ≡ true → (a == d) ≡ true
    same a b d one two = grind (arith, nat_tests, one, two)

-- each event of a lawful history
legal_at : (c : Cluster) (h : List Event) (e : Event) (more : List Event) → IsLegal c (h ++ e ∷ more) → IsStep (replay c h) e
legal_at c [] e more legal = legal.0
legal_at c (x ∷ h) e more legal = legal_at (next c x) h e more legal.1

proper_at : (spec : Spec) (before h : List Event) (e : Event) (more : List Event) → IsProperAlong spec before (h ++ e ∷ more) → IsProper spec (before ++ h) e
proper_at spec before [] e more proper = subst (λ (g : List Event). IsProper spec g e) (sym (append-nil before)) proper.0
proper_at spec before (x ∷ h) e more proper = subst (λ (g : List Event). IsProper spec g e) (append_assoc before (x ∷ []) h) (proper_at spec (before ++ x ∷ []) h e more proper.1)

event_unrefused : (spec : Spec) (before : List Event) (e : Event) → IsValid spec → IsLawful spec before → IsStep (replay (opening spec) before) e → IsProper spec before e → is_unrefused e ≡ true
event_unrefused spec before (events.Dispatch k epoch pass proposals answer) valid lawful step proper = dispatch_unrefused spec before k epoch pass proposals answer valid lawful step proper
event_unrefused spec before _ valid lawful step proper = refl

unrefused_along : (spec : Spec) (before es : List Event) → IsValid spec → IsLawful spec (before ++ es) → list_all is_unrefused es ≡ true
unrefused_along spec before [] valid lawful = refl
unrefused_along spec before (e ∷ es) valid lawful =
    let front : IsLawful spec before = (legal_front (opening spec) before (e ∷ es) lawful.0, proper_front spec [] before (e ∷ es) lawful.1) in
    let here = event_unrefused spec before e valid front (legal_at (opening spec) before e es lawful.0) (proper_at spec [] before e es lawful.1) in
    and-both (is_unrefused e) (list_all is_unrefused es) here
    (unrefused_along spec (before ++ e ∷ []) es valid (subst (IsLawful spec) (sym (append_assoc before (e ∷ []) es)) lawful))

pub lawful_unrefused : (spec : Spec) (h : List Event) → IsValid spec → IsLawful spec h → IsUnrefused h
lawful_unrefused spec h valid lawful = unrefused_along spec [] h valid lawful
