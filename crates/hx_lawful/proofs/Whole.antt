-- A controller's turn along a whole history, and what holds of it at the end.
use Rattle.std.proofs.Common.{◌≡◌, ℕ, ◌≤◌, ◌&&◌, ◌==◌, Bool, true, false, List, [], ◌∷◌, length, refl, sym, ap, ◌∙◌, subst, arith}
use Rattle.std.specs.Prelude.{if◌then◌else◌}
use Rattle.std.specs.List.{list_all}
use Rattle.hx_ids.specs.declared.ControllerId.{ControllerId}
use Rattle.hx_ids.specs.declared.SessionId.{SessionId}
use Rattle.hx_model.specs.declared.ModelParts.{ModelParts}
use Rattle.hx_cluster.specs.declared.description.Spec.{Spec}
use Rattle.hx_cluster.specs.declared.state.Cluster.{Cluster}
use Rattle.hx_cluster.specs.declared.planning.View.{View}
use Rattle.hx_cluster.specs.declared.happenings.Begun.{Begun}
use Rattle.hx_cluster.specs.declared.happenings.Event.{Event}
use Rattle.hx_cluster.specs.declared.happenings.Event.TheVariants as events
use Rattle.hx_cluster.specs.Steps.{opening}
use Rattle.hx_cluster.specs.Reads.{ideals_shown}
use Rattle.hx_cluster.specs.Events.{next, replay, IsStep, IsLegal}
use Rattle.hx_cluster.specs.Safe.{HasMail, HasRows, HasSessions}
use Rattle.hx_cluster.specs.Valid.{has_no_fault, IsValid}
use Rattle.hx_cluster.specs.Ranged.{IsRanged}
use Rattle.hx_cluster.specs.Views.{is_well_formed}
use Rattle.hx_pass.specs.Turns.{Call, Live, Mail, States, Ideals, Send, Turn, is_first, is_due, is_of_epoch, idle_turn, begun_turn, with_live, gone_on, if_due, when_own, turn_after, turn_from, turn_of, view_of}
use Rattle.hx_safe.proofs.Counting.{and-first}
use Rattle.hx_safe.proofs.Ends.{session_same}
use Rattle.hx_safe.proofs.Fixed.{IsFixed, fixed_self, fixed_both, fixed_next}
use Rattle.hx_safe.proofs.Ranges.{ranged_next}
use Rattle.hx_safe.proofs.Whole.{IsWhole, whole_next, whole_opening, sound_from, ranged_opening, length-replicate}
use Rattle.hx_lawful.specs.Reading.{is_read, view_with, IsTurn}
use Rattle.hx_safe.proofs.On.{on_next}
use Rattle.hx_lawful.proofs.Viewing.{beside, with_mail, with_states}
use Rattle.hx_lawful.proofs.Turning.{turn_on, turn_idle, turn_begun, turn_live, turn_mail, turn_states, turn_ideals, turn_send}
use Rattle.std.proofs.lemmas.Bool.{cond_both}

-- what is known of the cluster in which a call is made
record IsGround (c : Cluster) : Type 0 where
  ranged : IsRanged c
  sound : list_all has_no_fault c.models ≡ true
  mail : HasMail c
  rows : HasRows c
  sessions : HasSessions c

-- a call that is due
due_live : (c : Cluster) (begun : Begun) (view : View) (left : List Call) → IsGround c → IsTurn c (record { left = left; begun = begun; view = view }) → is_first Live left ≡ true
    → IsTurn c (with_live c (record { left = left; begun = begun; view = view }))
due_live c begun view (Live ∷ rest) g h e =
    subst (λ (v : View). IsTurn c (with_live c (record { left = Live ∷ rest; begun = begun; view = v }))) (sym (h.nothing refl))
    (turn_live c begun h.epoch g.ranged g.sessions)
due_live c begun view _ g h e = cc

due_mail : (c : Cluster) (begun : Begun) (view : View) (left : List Call) (s : SessionId) → IsGround c → IsTurn c (record { left = left; begun = begun; view = view }) → is_first (Mail s) left ≡ true
    → IsTurn c (gone_on (record { left = left; begun = begun; view = view }) (with_mail c s view))
due_mail c begun view (Mail u ∷ rest) s g h e =
    subst (λ (v : SessionId). IsTurn c (gone_on (record { left = Mail u ∷ rest; begun = begun; view = view }) (with_mail c v view))) (session_same u s e)
    (turn_mail c begun view u rest g.sound g.mail h)
due_mail c begun view _ s g h e = cc

due_states : (c : Cluster) (begun : Begun) (view : View) (left : List Call) (s : SessionId) → IsGround c → IsTurn c (record { left = left; begun = begun; view = view }) → is_first (States s) left ≡ true
    → IsTurn c (gone_on (record { left = left; begun = begun; view = view }) (with_states c s view))
due_states c begun view (States u ∷ rest) s g h e =
    subst (λ (v : SessionId). IsTurn c (gone_on (record { left = States u ∷ rest; begun = begun; view = view }) (with_states c v view))) (session_same u s e)
    (turn_states c begun view u rest g.rows h)
due_states c begun view _ s g h e = cc

due_ideals : (c : Cluster) (begun : Begun) (view : View) (left : List Call) → IsTurn c (record { left = left; begun = begun; view = view }) → is_first Ideals left ≡ true
    → IsTurn c (gone_on (record { left = left; begun = begun; view = view }) (beside view c))
due_ideals c begun view (Ideals ∷ rest) h e = turn_ideals c begun view rest h
due_ideals c begun view _ h e = cc

due_send : (c : Cluster) (begun : Begun) (view : View) (left : List Call) → IsTurn c (record { left = left; begun = begun; view = view }) → is_first Send left ≡ true
    → IsTurn c (gone_on (record { left = left; begun = begun; view = view }) view)
due_send c begun view (Send ∷ rest) h e = turn_send c begun view rest h
due_send c begun view _ h e = cc

-- a call of one's own that is due or not, and one of another
pub own_or_other : (P : Turn → Type 0) (k j : ControllerId) (t after : Turn) → P t → P after → P (when_own k j t after)
own_or_other P k j t after old new = cond_both (j.0 == k.0) after t P (λ e. new) (λ e. old)

due : (c : Cluster) (b : Bool) (t : Turn) → IsRanged c → (b ≡ true → IsTurn c t) → IsTurn c (if_due b t)
due c true t ranged new = new refl
due c false t ranged new = turn_idle c ranged

turn_call : (c : Cluster) (k : ControllerId) (t : Turn) (e : Event) → IsGround c → IsStep c e → IsTurn c t → IsTurn c (turn_after c k t e)
turn_call c k t (events.Begin j begun) g step h =
    let epoch : begun.epoch.0 ≤ c.epoch.0 = let same : begun.epoch.0 ≡ c.epoch.0 = ap (λ (b : Begun). b.epoch.0) step.2 in omega (arith, same) in
    own_or_other (IsTurn c) k j t (begun_turn begun) h (turn_begun c begun epoch g.ranged)
turn_call c k t (events.Live j pass) g step h =
    own_or_other (IsTurn c) k j t (if_due (is_due t Live pass) (with_live c t)) h
    (due c (is_due t Live pass) (with_live c t) g.ranged (λ e. due_live c t.begun t.view t.left g h (and-first (is_first Live t.left) (pass.0 == t.begun.pass.0) e)))
turn_call c k t (events.Mail j pass s) g step h =
    own_or_other (IsTurn c) k j t (if_due (is_due t (Mail s) pass) (gone_on t (with_mail c s t.view))) h
    (due c (is_due t (Mail s) pass) (gone_on t (with_mail c s t.view)) g.ranged (λ e. due_mail c t.begun t.view t.left s g h (and-first (is_first (Mail s) t.left) (pass.0 == t.begun.pass.0) e)))
turn_call c k t (events.States j pass s) g step h =
    own_or_other (IsTurn c) k j t (if_due (is_due t (States s) pass) (gone_on t (with_states c s t.view))) h
    (due c (is_due t (States s) pass) (gone_on t (with_states c s t.view)) g.ranged (λ e. due_states c t.begun t.view t.left s g h (and-first (is_first (States s) t.left) (pass.0 == t.begun.pass.0) e)))
turn_call c k t (events.Ideals j pass) g step h =
    own_or_other (IsTurn c) k j t (if_due (is_due t Ideals pass) (gone_on t (beside t.view c))) h
    (due c (is_due t Ideals pass) (gone_on t (beside t.view c)) g.ranged (λ e. due_ideals c t.begun t.view t.left h (and-first (is_first Ideals t.left) (pass.0 == t.begun.pass.0) e)))
turn_call c k t (events.Dispatch j epoch pass proposals answer) g step h =
    own_or_other (IsTurn c) k j t (if_due (is_due t Send pass && is_of_epoch t epoch) (gone_on t t.view)) h
    (due c (is_due t Send pass && is_of_epoch t epoch) (gone_on t t.view) g.ranged
    (λ e. due_send c t.begun t.view t.left h (and-first (is_first Send t.left) (pass.0 == t.begun.pass.0) (and-first (is_due t Send pass) (is_of_epoch t epoch) e))))
turn_call c k t (events.Post j epoch rows) g step h = own_or_other (IsTurn c) k j t idle_turn h (turn_idle c g.ranged)
turn_call c k t _ g step h = h

-- what is known at each event
ground : (c : Cluster) → IsWhole c → IsRanged c → IsGround c
ground c w ranged = record {
  ranged = ranged;
  sound = w.kept.sound;
  mail = w.kept.mail;
  rows = w.kept.rows;
  sessions = record { numbers = w.kept.numbers; below = w.kept.below; instances = w.seated.instances; beats = w.seated.beats; leader = w.seated.leader };
}

pub turn_next : (c : Cluster) (k : ControllerId) (t : Turn) (e : Event) → IsWhole c → IsRanged c → IsStep c e → IsTurn c t → IsTurn (next c e) (turn_after c k t e)
turn_next c k t e w ranged step h =
    turn_on c (next c e) (turn_after c k t e) (on_next c e w.kept.numbers) (fixed_next c e) (ranged_next c e ranged step)
    (turn_call c k t e (ground c w ranged) step h)

turn_along : (c : Cluster) (k : ControllerId) (t : Turn) (h : List Event) → IsWhole c → IsRanged c → IsLegal c h → IsTurn c t → IsTurn (replay c h) (turn_from c k t h)
turn_along c k t [] w ranged legal at = at
turn_along c k t (e ∷ es) w ranged legal at =
    turn_along (next c e) k (turn_after c k t e) es (whole_next c e w legal.0) (ranged_next c e ranged legal.0) legal.1 (turn_next c k t e w ranged legal.0 at)

pub fixed_along : (c : Cluster) (h : List Event) → IsFixed c (replay c h)
fixed_along c [] = fixed_self c
fixed_along c (e ∷ es) = fixed_both (fixed_next c e) (fixed_along (next c e) es)

-- the laws
pub turn_law : (spec : Spec) → IsValid spec → (h : List Event) → IsLegal (opening spec) h → (k : ControllerId) → IsTurn (replay (opening spec) h) (turn_of spec k h)
turn_law spec valid h legal k =
    let ranged = ranged_opening spec valid in
    turn_along (opening spec) k idle_turn h (whole_opening spec (sound_from spec valid)) ranged legal (turn_idle (opening spec) ranged)

-- with the models and instances of the description
formed_of_spec : (spec : Spec) (h : List Event) (view : View) → is_well_formed (replay (opening spec) h).models (length (replay (opening spec) h).instances) view ≡ true
    → is_well_formed spec.models (length spec.instances) view ≡ true
formed_of_spec spec h view e =
    let d = replay (opening spec) h in
    let same = fixed_along (opening spec) h in
    let instances : length d.instances ≡ length spec.instances = same.instances ∙ length-replicate (length spec.instances) false in
    ap (λ (n : ℕ). is_well_formed spec.models n view) (sym instances) ∙ ap (λ (ms : List ModelParts). is_well_formed ms (length d.instances) view) (sym same.models) ∙ e

pub shown_law : (spec : Spec) → IsValid spec → (h : List Event) → IsLegal (opening spec) h → (k : ControllerId)
    → is_well_formed spec.models (length spec.instances) (view_with (replay (opening spec) h) (turn_of spec k h)) ≡ true
shown_law spec valid h legal k =
    formed_of_spec spec h (view_with (replay (opening spec) h) (turn_of spec k h)) (turn_law spec valid h legal k).well_formed

pub read_law : (spec : Spec) → IsValid spec → (h : List Event) → IsLegal (opening spec) h → (k : ControllerId) → is_read (turn_of spec k h) ≡ true
    → is_well_formed spec.models (length spec.instances) (view_of spec k h) ≡ true
read_law spec valid h legal k read =
    let t = turn_of spec k h in
    let c = replay (opening spec) h in
    ap (λ (b : Bool). is_well_formed spec.models (length spec.instances) (if b then t.view else record t.view { ideals = ideals_shown c })) (sym read) ∙ shown_law spec valid h legal k
