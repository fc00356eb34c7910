-- A roll that goes on with each event of a cluster.
use Rattle.std.proofs.Common.{◌≡◌, ℕ, ◌+◌, ◌==◌, Bool, true, false, not, List, [], ◌∷◌, ◌++◌, map, filter, slice_get, Option, Some, None, if◌then◌else◌, refl, sym, ap, ◌∙◌, subst}
use Rattle.std.specs.Prelude.{option_map, IfSome}
use Rattle.std.proofs.lemmas.Bool.{eqb-true}
use Rattle.std.proofs.lemmas.List.{map-append}
use Rattle.std.proofs.lemmas.Option.{get_or_from_slice_get}
use Rattle.std.proofs.Math.Seq.{map-set_same}
use Rattle.hx_ids.specs.declared.InstanceId.{InstanceId}
use Rattle.hx_ids.specs.declared.SessionId.{SessionId}
use Rattle.hx_ids.specs.declared.MsgId.{MsgId}
use Rattle.hx_ids.specs.declared.ResourceId.{ResourceId}
use Rattle.hx_ids.specs.declared.ControllerId.{ControllerId}
use Rattle.hx_ids.specs.declared.PartId.{PartId}
use Rattle.hx_ids.specs.declared.PassNo.{PassNo}
use Rattle.hx_ids.specs.declared.Live.{Live}
use Rattle.hx_cluster.specs.declared.description.Resource.{Resource}
use Rattle.hx_cluster.specs.declared.description.Spec.{Spec}
use Rattle.hx_cluster.specs.declared.state.Cluster.{Cluster}
use Rattle.hx_cluster.specs.declared.state.Message.{Message}
use Rattle.hx_cluster.specs.declared.happenings.Admin.{Admin}
use Rattle.hx_cluster.specs.declared.happenings.Admin.TheVariants as steps
use Rattle.hx_cluster.specs.declared.happenings.Outcome.{Outcome}
use Rattle.hx_cluster.specs.declared.happenings.Proposal.{Proposal}
use Rattle.hx_cluster.specs.declared.happenings.Placed.{Placed}
use Rattle.hx_cluster.specs.declared.happenings.Placed.TheVariants as placings
use Rattle.hx_cluster.specs.declared.happenings.Event.{Event}
use Rattle.hx_cluster.specs.declared.happenings.Event.TheVariants as events
use Rattle.hx_cluster.specs.Ends.{shown_of, session_in, resource_at}
use Rattle.hx_cluster.specs.Steps.{is_leader, live_of, ended_of, beaten_of, asked_of, changed_at, marked_down, after, did_of}
use Rattle.hx_cluster.specs.Steps as Steps
use Rattle.hx_cluster.specs.Messages.{after_placed, after_proposals, raised_pass, next_pass, pending_of, written_of, placed_of}
use Rattle.hx_cluster.specs.Events.{next, IsStep, IsLegal}
use Rattle.hx_print.specs.declared.roll.Roll.{Roll}
use Rattle.hx_print.specs.Texts.{names_of, roll_of, event_text, log_text}
use Rattle.hx_print.specs.Rolls.{without, without_all, ended_live, beaten_live, roll_after_step, roll_after, rolled_text}

-- who is shown when one has ended
shown-without : (s : SessionId) (live : List Live) → shown_of (filter (λ l. not (l.session.0 == s.0)) live) ≡ without s (shown_of live)
shown-without s [] = refl
shown-without s (l ∷ live) = one (l.session.0 == s.0) refl (shown-without s live)
  where
    one : (b : Bool) → (l.session.0 == s.0) ≡ b → shown_of (filter (λ l. not (l.session.0 == s.0)) live) ≡ without s (shown_of live)
        → shown_of (filter (λ l. not (l.session.0 == s.0)) (l ∷ live)) ≡ without s (shown_of (l ∷ live))
    one true is rest = rw is rest
    one false is rest = rw is (ap (λ es. (l.session, l.instance) ∷ es) rest)

-- the session of an instance
pub session-shown : (i : InstanceId) (live : List Live) → session_in (shown_of live) i ≡ option_map (λ l. l.session) (live_of live i)
session-shown i [] = refl
session-shown i (l ∷ live) = one (l.instance.0 == i.0) refl (session-shown i live)
  where
    one : (b : Bool) → (l.instance.0 == i.0) ≡ b → session_in (shown_of live) i ≡ option_map (λ l. l.session) (live_of live i)
        → session_in (shown_of (l ∷ live)) i ≡ option_map (λ l. l.session) (live_of (l ∷ live) i)
    one true is rest = rw is refl
    one false is rest = rw is rest

-- the cluster after an end, a beat and a tick
ended_roll : (c : Cluster) (o : Option Live) → roll_of (ended_of c o) ≡ record (roll_of c) { live = ended_live (shown_of c.live) (option_map (λ l. l.session) o) }
ended_roll c None = refl
ended_roll c (Some l) = ap (λ (live : List (SessionId × InstanceId)). let r : Roll = record { resources = names_of c.resources; live = live } in r) (shown-without l.session c.live)

-- the instance of a session that was found
found_instance : (i : InstanceId) (live : List Live) (o : Option Live) → live_of live i ≡ o → IfSome o (λ l. l.instance ≡ i)
found_instance i [] None e = tt
found_instance i [] (Some l) e = cc
found_instance i (x ∷ live) o e = one (x.instance.0 == i.0) refl e (found_instance i live o)
  where
    one : (b : Bool) → (x.instance.0 == i.0) ≡ b → (if b then Some x else live_of live i) ≡ o → (live_of live i ≡ o → IfSome o (λ l. l.instance ≡ i)) → IfSome o (λ l. l.instance ≡ i)
    one true is e rest =
        subst (λ (p : Option Live). IfSome p (λ l. l.instance ≡ i)) e
        (ap (λ (n : ℕ). let j : InstanceId = record { 0 = n } in j) (eqb-true x.instance.0 i.0 is))
    one false is e rest = rest e

beaten_roll : (c : Cluster) (i : InstanceId) (o : Option Live) → IfSome o (λ l. l.instance ≡ i)
    → roll_of (beaten_of c o) ≡ record (roll_of c) { live = beaten_live (shown_of c.live) i (option_map (λ l. l.session) o) }
beaten_roll c i None found = refl
beaten_roll c i (Some l) found =
    ap (λ (live : List (SessionId × InstanceId)). let r : Roll = record { resources = names_of c.resources; live = live } in r)
    (map-append (λ (x : Live). (x.session, x.instance)) (filter (λ x. not (x.session.0 == l.session.0)) c.live) (record l { beat = c.clock } ∷ [])
    ∙ ap (λ es. es ++ (l.session, l.instance) ∷ []) (shown-without l.session c.live)
    ∙ ap (λ j. without l.session (shown_of c.live) ++ (l.session, j) ∷ []) found)

ticked_roll : (c : Cluster) (ss : List SessionId) → roll_of (Steps.without_all c ss) ≡ record (roll_of c) { live = without_all ss (shown_of c.live) }
ticked_roll c [] = refl
ticked_roll c (s ∷ ss) =
    ticked_roll (Steps.without c s) ss
    ∙ ap (λ (live : List (SessionId × InstanceId)). let r : Roll = record { resources = names_of c.resources; live = without_all ss live } in r) (shown-without s c.live)

-- a changed resource has its name still
named_roll : (c : Cluster) (r : ResourceId) (f : Resource → Resource) → ((x : Resource) → (f x).name ≡ x.name) → (o : Option Resource) → resource_at c.resources r ≡ o → roll_of (changed_at c r f o) ≡ roll_of c
named_roll c r f same None at = refl
named_roll c r f same (Some x) at =
    ap (λ (names : List ℕ). let t : Roll = record { resources = names; live = shown_of c.live } in t)
    (map-set_same (λ (x : Resource). x.name) c.resources r.0 (f x) x (same x ∙ ap (λ (y : Resource). y.name) (sym (get_or_from_slice_get c.resources r.0 x x at))))

-- what leaves names and sessions as they are
asked_roll : (c : Cluster) (p : PartId) (o : Option Live) → roll_of (asked_of c p o) ≡ roll_of c
asked_roll c p None = refl
asked_roll c p (Some l) = refl

marked_roll : (c : Cluster) (k : ControllerId) (down : Bool) (o : Option (Bool × PassNo)) → roll_of (marked_down c k down o) ≡ roll_of c
marked_roll c k down None = refl
marked_roll c k down (Some d) = refl

left_roll : (c : Cluster) (b : Bool) → roll_of (if b then record c { leader = None; epoch = record { 0 = c.epoch.0 + 1 } } else c) ≡ roll_of c
left_roll c true = refl
left_roll c false = refl

raised_roll : (c : Cluster) (k : ControllerId) (o : Option (Bool × PassNo)) → roll_of (raised_pass c k o) ≡ roll_of c
raised_roll c k None = refl
raised_roll c k (Some d) = refl

placed_roll : (c : Cluster) (q : Proposal) (answer : Placed) → roll_of (after_placed c q answer) ≡ roll_of c
placed_roll c q (placings.Sent id) = refl
placed_roll c q _ = refl

sent_roll : (c : Cluster) (qs : List Proposal) → roll_of (after_proposals c qs) ≡ roll_of c
sent_roll c [] = refl
sent_roll c (q ∷ qs) = sent_roll (after_placed c q (placed_of c q)) qs ∙ placed_roll c q (placed_of c q)

written_roll : (c : Cluster) (s : SessionId) (id : MsgId) (outcome : Outcome) (o : Option Message) → roll_of (written_of c s id outcome o) ≡ roll_of c
written_roll c s id outcome None = refl
written_roll c s id outcome (Some m) = refl

-- each step
step_next : (c : Cluster) (step : Admin) → roll_of (after c step) ≡ roll_after_step (roll_of c) step (did_of c step)
step_next c (steps.Join i) =
    ap (λ (live : List (SessionId × InstanceId)). let r : Roll = record { resources = names_of c.resources; live = live } in r)
    (map-append (λ (x : Live). (x.session, x.instance)) c.live ((record { session = record { 0 = c.next_session }; instance = i; beat = c.clock }) ∷ []))
step_next c (steps.End i) =
    ended_roll c (live_of c.live i)
    ∙ ap (λ (s : Option SessionId). let r : Roll = record { resources = names_of c.resources; live = ended_live (shown_of c.live) s } in r) (sym (session-shown i c.live))
step_next c (steps.Beat i) =
    beaten_roll c i (live_of c.live i) (found_instance i c.live (live_of c.live i) refl)
    ∙ ap (λ (s : Option SessionId). let r : Roll = record { resources = names_of c.resources; live = beaten_live (shown_of c.live) i s } in r) (sym (session-shown i c.live))
step_next c (steps.Tick n) = ticked_roll (record c { clock = c.clock + n }) (Steps.ended_by c n)
step_next c (steps.Drain i) = refl
step_next c (steps.Undrain i) = refl
step_next c (steps.Add name model ideal) =
    ap (λ (names : List ℕ). let r : Roll = record { resources = names; live = shown_of c.live } in r)
    (map-append (λ (x : Resource). x.name) c.resources ((record { name = name; model = model; ideal = ideal; dropped = false }) ∷ []))
step_next c (steps.Drop r) = named_roll c r _ (λ x. refl) (resource_at c.resources r) refl
step_next c (steps.SetList p list) = named_roll c p.resource _ (λ x. refl) (resource_at c.resources p.resource) refl
step_next c (steps.SetMap p map) = named_roll c p.resource _ (λ x. refl) (resource_at c.resources p.resource) refl
step_next c (steps.Reset i p) = asked_roll c p (live_of c.live i)
step_next c (steps.Lead k) = refl
step_next c (steps.Stop k) = left_roll (Steps.with_down c k true) (is_leader k (Steps.with_down c k true).leader) ∙ marked_roll c k true (slice_get c.controllers k.0)
step_next c (steps.Start k) = marked_roll c k false (slice_get c.controllers k.0)

pub roll_next : (c : Cluster) (e : Event) → IsStep c e → roll_of (next c e) ≡ roll_after (roll_of c) e
roll_next c (events.Admin step did) legal = step_next c step ∙ ap (roll_after_step (roll_of c) step) (sym legal.2)
roll_next c (events.Begin k begun) legal = raised_roll c k (slice_get c.controllers k.0)
roll_next c (events.Dispatch k epoch pass proposals answer) legal = sent_roll (next_pass c k) proposals ∙ raised_roll c k (slice_get c.controllers k.0)
roll_next c (events.Write s id outcome) legal = written_roll c s id outcome (pending_of c s id)
roll_next c _ legal = refl

-- the log of legal events
pub log_rolled : (spec : Spec) (c : Cluster) (es : List Event) → IsLegal c es → rolled_text spec (roll_of c) es ≡ log_text spec c es
log_rolled spec c [] legal = refl
log_rolled spec c (e ∷ es) legal =
    ap (λ (r : Roll). event_text spec (roll_of c) e ++ rolled_text spec r es) (sym (roll_next c e legal.0))
    ∙ ap (λ t. event_text spec (roll_of c) e ++ t) (log_rolled spec (next c e) es legal.1)
