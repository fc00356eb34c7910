-- What a plan proposes passes the board's first tests.
use Rattle.std.proofs.Common.{◌≡◌, ◌&&◌, ◌||◌, ◌==◌, not, Bool, true, false, List, Option, Some, None, refl, sym, ap, ◌∙◌, subst, arith}
use Rattle.std.specs.Prelude.{if◌then◌else◌, unwrap_or, is_none}
use Rattle.std.specs.List.{list_any}
use Rattle.std.proofs.lemmas.Bool.Decides.{nat_tests}
use Rattle.hx_ids.specs.declared.StateId.{StateId}
use Rattle.hx_model.specs.declared.ModelParts.{ModelParts}
use Rattle.hx_model.specs.Model.{is_legal}
use Rattle.hx_cluster.specs.declared.description.Resource.{Resource}
use Rattle.hx_cluster.specs.declared.state.Row.{Row}
use Rattle.hx_cluster.specs.declared.state.Message.{Message}
use Rattle.hx_cluster.specs.declared.state.Cluster.{Cluster}
use Rattle.hx_cluster.specs.declared.planning.View.{View}
use Rattle.hx_cluster.specs.declared.planning.Candidate.{Candidate}
use Rattle.hx_cluster.specs.declared.happenings.Proposal.{Proposal}
use Rattle.hx_cluster.specs.declared.happenings.Placed.{Placed}
use Rattle.hx_cluster.specs.declared.happenings.Placed.TheVariants as placings
use Rattle.hx_cluster.specs.declared.state.Cluster.{Cluster}
use Rattle.hx_cluster.specs.declared.happenings.Proposal.{Proposal}
use Rattle.hx_ids.specs.declared.Live.{Live}
use Rattle.hx_cluster.specs.Ends.{is_message, is_live, state_of, message_of, limit_at, model_of}
use Rattle.hx_cluster.specs.Steps.{is_dropped}
use Rattle.hx_cluster.specs.Messages.{standing_of, initial_of, bounded, placed_idle, placed_of}
use Rattle.hx_pass.specs.Plans.{proposal}
use Rattle.hx_safe.proofs.Counting.{all-find, find-passes}
use Rattle.hx_safe.specs.Calm.{is_among, is_same_state, has_stayed}
use Rattle.hx_lawful.specs.Gate.{Shows, IsWithin, IsFit, is_for}
use Rattle.hx_lawful.proofs.Fits.{front-part}
use Rattle.hx_lawful.proofs.Covering.{shown_message, state_alike}

-- its replica has no message on the board
pub idle_there : (b d : Cluster) (view : View) (before : List Candidate) (models : List ModelParts) (x : Candidate) → Shows b view → IsWithin view b d before → IsFit models view x
    → list_any (is_for x.session x.part) before ≡ false → message_of d.mail x.session x.part ≡ None
idle_there b d view before models x shows within fit nobody = within.messages x.session x.part nobody ∙ one (message_of b.mail x.session x.part) refl
  where
    clash : (y : Message) → message_of view.mail x.session x.part ≡ Some y → message_of view.mail x.session x.part ≡ None → (m : Message) → ◌≡◌ {A = Option Message} (Some m) None
    clash y there none m = let both = sym there ∙ none in cc

    one : (o : Option Message) → message_of b.mail x.session x.part ≡ o → o ≡ None
    one None is = refl
    one (Some m) is =
        let at = find-passes (is_message x.session x.part) b.mail m is in
        let among : is_among view.mail m ≡ true = all-find (is_among view.mail) (is_message x.session x.part) b.mail m shows.mail is in
        let there = shown_message view.mail m x.session x.part at among (shows.single x.session x.part) in
        clash there.0 there.1 fit.idle m

-- and stands where it was shown
pub same_state_there : (b d : Cluster) (view : View) (before : List Candidate) (models : List ModelParts) (x : Candidate) → Shows b view → IsWithin view b d before → IsFit models view x
    → is_live d.live x.session ≡ true → state_of d.rows x.session x.part ≡ state_of view.rows x.session x.part
same_state_there b d view before models x shows within fit live =
    let here : is_live b.live x.session ≡ true = ap (λ (ls : List Live). is_live ls x.session) (sym within.live) ∙ live in
    let stayed = shows.rows x.session x.part here fit.shown in
    let alone : has_stayed (state_of b.rows x.session x.part) (state_of view.rows x.session x.part) None ≡ true
    = subst (λ (o : Option Message). has_stayed (state_of b.rows x.session x.part) (state_of view.rows x.session x.part) o ≡ true) fit.idle stayed in
    ap (λ (rs : List Row). state_of rs x.session x.part) within.rows
    ∙ state_alike (state_of b.rows x.session x.part) (state_of view.rows x.session x.part) (first (is_same_state (state_of b.rows x.session x.part) (state_of view.rows x.session x.part)) alone)
  where
    first : (a : Bool) → (a || false) ≡ true → a ≡ true
    first true e = refl
    first false e = e

pub same_model_there : (b d : Cluster) (view : View) (before : List Candidate) (models : List ModelParts) (x : Candidate) → Shows b view → IsWithin view b d before → IsFit models view x → d.models ≡ models
    → model_of d.models d.resources x.part.resource ≡ model_of models view.ideals.resources x.part.resource
same_model_there b d view before models x shows within fit same =
    ap (λ (ms : List ModelParts). model_of ms d.resources x.part.resource) same
    ∙ ap (λ (rs : List Resource). model_of models rs x.part.resource) within.resources
    ∙ (front-part models view.ideals.resources b.resources shows.resources x.part.resource x.part.index fit.part).1

-- the answer by the tests
abbrev answer_by : Cluster → Proposal → Option Message → Bool → Bool → Placed
answer_by d q (Some m) f l = placings.Busy m.id
answer_by d q None f l = if not f then placings.WrongFrom (state_of d.rows q.session q.part) else if not l then placings.Illegal else bounded d q (limit_at d q.part q.to)

abbrev placed_by : Cluster → Proposal → Bool → Bool → Option Message → Bool → Bool → Placed
placed_by d q a g o f l = if not a then placings.Ended else if g then placings.ResourceDropped else answer_by d q o f l

by_tests : (d : Cluster) (q : Proposal) (a g : Bool) (o : Option Message) (f l : Bool) → a ≡ true → g ≡ false → o ≡ None → f ≡ true → l ≡ true
    → placed_by d q a g o f l ≡ bounded d q (limit_at d q.part q.to)
by_tests d q a g o f l one two three four five = rw (one, two, three, four, five) refl

placed_same : (d : Cluster) (q : Proposal) (o : Option Message) → message_of d.mail q.session q.part ≡ o
    → placed_of d q
    ≡ placed_by d q (is_live d.live q.session) (is_dropped d.resources q.part.resource && is_none (state_of d.rows q.session q.part)) o
    ((standing_of d q.session q.part).0 == q.from.0) (is_legal (model_of d.models d.resources q.part.resource) q.from q.to)
placed_same d q None is = ap (λ o. if not (is_live d.live q.session) then placings.Ended else if is_dropped d.resources q.part.resource && is_none (state_of d.rows q.session q.part) then placings.ResourceDropped else placed_idle d q o) is
placed_same d q (Some m) is = ap (λ o. if not (is_live d.live q.session) then placings.Ended else if is_dropped d.resources q.part.resource && is_none (state_of d.rows q.session q.part) then placings.ResourceDropped else placed_idle d q o) is

-- so nothing but a bound, a throttle, the end of its session or a drop of its resource refuses it
pub first_tests : (models : List ModelParts) (view : View) (b d : Cluster) (before : List Candidate) (x : Candidate) → d.models ≡ models → Shows b view → IsWithin view b d before → IsFit models view x
    → list_any (is_for x.session x.part) before ≡ false → is_live d.live x.session ≡ true → (is_dropped d.resources x.part.resource && is_none (state_of d.rows x.session x.part)) ≡ false
    → placed_of d (proposal x) ≡ bounded d (proposal x) (limit_at d x.part x.to)
first_tests models view b d before x same shows within fit nobody live there =
    let idle = idle_there b d view before models x shows within fit nobody in
    let state = same_state_there b d view before models x shows within fit live in
    let model = same_model_there b d view before models x shows within fit same in
    let stands : (standing_of d x.session x.part).0 ≡ x.from.0
    = ap (λ (o : Option StateId). (unwrap_or o (initial_of d x.part)).0) state
    ∙ ap (λ (m : ModelParts). (unwrap_or (state_of view.rows x.session x.part) m.initial).0) model ∙ fit.from in
    let at : ((standing_of d x.session x.part).0 == x.from.0) ≡ true = grind (arith, nat_tests, stands) in
    let legal : is_legal (model_of d.models d.resources x.part.resource) x.from x.to ≡ true = ap (λ (m : ModelParts). is_legal m x.from x.to) model ∙ fit.legal in
    placed_same d (proposal x) None idle
    ∙ by_tests d (proposal x) (is_live d.live x.session) (is_dropped d.resources x.part.resource && is_none (state_of d.rows x.session x.part)) None
    ((standing_of d x.session x.part).0 == x.from.0) (is_legal (model_of d.models d.resources x.part.resource) x.from x.to)
    live there refl at legal
