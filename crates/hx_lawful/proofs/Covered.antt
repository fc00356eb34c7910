-- In every lawful history what a controller was shown covers the board.
use Rattle.std.proofs.Common.{◌≡◌, ℕ, ◌+◌, ◌≤◌, ◌&&◌, ◌||◌, ◌==◌, not, Bool, true, false, List, [], ◌∷◌, ◌++◌, append_assoc, Option, Some, None, ◌⊎◌, inl, inr, refl, sym, ap, ◌∙◌, subst, arith}
use Rattle.std.specs.Prelude.{if◌then◌else◌, nat_lt}
use Rattle.std.specs.List.{list_any, list_all}
use Rattle.std.proofs.lemmas.Bool.Decides.{nat_tests}
use Rattle.hx_ids.specs.declared.ControllerId.{ControllerId}
use Rattle.hx_ids.specs.declared.SessionId.{SessionId}
use Rattle.hx_ids.specs.declared.PassNo.{PassNo}
use Rattle.hx_ids.specs.declared.Epoch.{Epoch}
use Rattle.hx_cluster.specs.declared.description.Spec.{Spec}
use Rattle.hx_cluster.specs.declared.state.Message.{Message}
use Rattle.hx_cluster.specs.declared.state.Cluster.{Cluster}
use Rattle.hx_cluster.specs.declared.planning.View.{View}
use Rattle.hx_cluster.specs.declared.happenings.Begun.{Begun}
use Rattle.hx_cluster.specs.declared.happenings.Proposal.{Proposal}
use Rattle.hx_cluster.specs.declared.happenings.Event.{Event}
use Rattle.hx_cluster.specs.declared.happenings.Event.TheVariants as events
use Rattle.hx_cluster.specs.Ends.{is_shown}
use Rattle.hx_cluster.specs.Steps.{opening, is_leader, has_controller}
use Rattle.hx_cluster.specs.Messages.{next_pass, after_proposals}
use Rattle.hx_cluster.specs.Reads.{pass_of}
use Rattle.hx_cluster.specs.Events.{begun_of, next, replay, is_epoch, is_pass, IsStep, IsLegal}
use Rattle.hx_cluster.specs.Safe.{HasMail}
use Rattle.hx_cluster.specs.Valid.{IsValid}
use Rattle.hx_cluster.specs.Ranged.{IsRanged}
use Rattle.hx_pass.specs.Turns.{Call, Live, Mail, States, Ideals, Send, Post, Turn, is_first, is_due, is_of_epoch, idle_turn, begun_turn, with_live, gone_on, if_due, when_own, turn_after, turn_from, turn_of}
use Rattle.hx_pass.specs.Lawful.{IsProper, IsProperAlong, IsLawful}
use Rattle.hx_safe.proofs.Counting.{and-first, and-second, and-both, all-append, all-le}
use Rattle.hx_safe.proofs.Ends.{session_same}
use Rattle.hx_safe.proofs.Ranges.{ranged_next}
use Rattle.hx_safe.proofs.Whole.{IsWhole, whole_next, whole_opening, sound_from, ranged_opening}
use Rattle.hx_safe.specs.Calm.{is_dispatch}
use Rattle.hx_safe.proofs.On.{on_next}
use Rattle.hx_lawful.specs.Reading.{is_unread, IsTurn}
use Rattle.hx_lawful.specs.Covers.{mail_begun_after, mail_begun_from, mail_begun, begins_by, stands, is_led, IsCovered, Covers}
use Rattle.hx_lawful.proofs.Viewing.{beside, with_mail, with_states}
use Rattle.hx_lawful.proofs.Turning.{turn_idle}
use Rattle.hx_lawful.proofs.Whole.{turn_next}
use Rattle.hx_lawful.proofs.Leads.{LeadCase, case_next, ends_pass, pass_next, pass_own}
use Rattle.hx_lawful.proofs.Covering.{none_if, covered_calm}
use Rattle.hx_lawful.proofs.Owning.{covered_begin, covered_live, covered_mail, covered_states, covered_ideals}
use Rattle.hx_safe.proofs.Counting.{if-passed, if-unasked}

-- what is known after a part of a history
record IsCoverage (c : Cluster) (turns : ControllerId → Turn) (begun : ControllerId → List Message) (h : List Event) : Type 0 where
  whole : IsWhole c
  ranged : IsRanged c
  first : 1 ≤ c.epoch.0
  turn : (k : ControllerId) → IsTurn c (turns k)
  leads : (k : ControllerId) → ((turns k).begun.epoch.0 == c.epoch.0) ≡ true → is_leader k c.leader ≡ true
  led : list_all (is_led c) h ≡ true
  covered : (k : ControllerId) → stands c k (turns k) ≡ true → IsCovered c k (turns k) (begun k) h

-- leaders
one_leader : (j k : ControllerId) (l : Option ControllerId) → is_leader j l ≡ true → is_leader k l ≡ true → (j.0 == k.0) ≡ true
one_leader j k None one two = cc
one_leader j k (Some l) one two = grind (arith, nat_tests, one, two)

leads_on : (c d : Cluster) (k : ControllerId) → LeadCase c d → d.epoch.0 ≡ c.epoch.0 → is_leader k c.leader ≡ true → is_leader k d.leader ≡ true
leads_on c d k (inl same) at e = ap (is_leader k) same.0 ∙ e
leads_on c d k (inr (inl rise)) at e = absurd (grind (arith, rise, at))
leads_on c d k (inr (inr none)) at e = let both = sym (ap (is_leader k) none.0) ∙ e in cc

begins_led : (c : Cluster) (k : ControllerId) (e : Event) → IsStep c e → is_leader k c.leader ≡ true → (epoch : Epoch) → begins_by k epoch e ≡ true
begins_led c k (events.Begin j begun) step leads epoch = last (begun.epoch.0 == epoch.0) (j.0 == k.0) (one_leader j k c.leader step.1 leads)
  where
    last : (a b : Bool) → b ≡ true → (not a || b) ≡ true
    last true b e = e
    last false b e = refl
begins_led c k _ legal leads epoch = refl

begins_next : (c d : Cluster) (k : ControllerId) (h : List Event) (e : Event) → list_all (begins_by k c.epoch) h ≡ true → d.epoch.0 ≡ c.epoch.0 → begins_by k d.epoch e ≡ true
    → list_all (begins_by k d.epoch) (h ++ e ∷ []) ≡ true
begins_next c d k h e all at here =
    let old : list_all (begins_by k d.epoch) h ≡ true = ap (λ (n : ℕ). list_all (begins_by k (record { 0 = n })) h) at ∙ all in
    all-append (begins_by k d.epoch) h (e ∷ []) ∙ and-both (list_all (begins_by k d.epoch) h) (list_all (begins_by k d.epoch) (e ∷ [])) old (and-both (begins_by k d.epoch e) true here refl)

-- each begin stays led
led_one : (c d : Cluster) → LeadCase c d → (x : Event) → is_led c x ≡ true → is_led d x ≡ true
led_one c d (inl same) (events.Begin j begun) e =
    ap (λ (n : ℕ). nat_lt begun.epoch.0 n || ((begun.epoch.0 == n) && is_leader j d.leader)) (ap (λ (x : Epoch). x.0) same.1)
    ∙ ap (λ (l : Option ControllerId). nat_lt begun.epoch.0 c.epoch.0 || ((begun.epoch.0 == c.epoch.0) && is_leader j l)) same.0 ∙ e
led_one c d (inr (inl rise)) (events.Begin j begun) e =
    let below : nat_lt begun.epoch.0 d.epoch.0 ≡ true = low (is_leader j c.leader) e in
    first (nat_lt begun.epoch.0 d.epoch.0) ((begun.epoch.0 == d.epoch.0) && is_leader j d.leader) below
  where
    low : (l : Bool) → (nat_lt begun.epoch.0 c.epoch.0 || ((begun.epoch.0 == c.epoch.0) && l)) ≡ true → nat_lt begun.epoch.0 d.epoch.0 ≡ true
    low l w = grind (arith, nat_tests, w, rise)

    first : (a b : Bool) → a ≡ true → (a || b) ≡ true
    first true b w = refl
    first false b w = cc
led_one c d (inr (inr none)) (events.Begin j begun) e =
    let nobody : is_leader j c.leader ≡ false = ap (is_leader j) none.0 in
    let below : nat_lt begun.epoch.0 c.epoch.0 ≡ true = low (nat_lt begun.epoch.0 c.epoch.0) (begun.epoch.0 == c.epoch.0) (is_leader j c.leader) e nobody in
    first (nat_lt begun.epoch.0 d.epoch.0) ((begun.epoch.0 == d.epoch.0) && is_leader j d.leader) (ap (nat_lt begun.epoch.0) (ap (λ (x : Epoch). x.0) none.1) ∙ below)
  where
    low : (a b l : Bool) → (a || (b && l)) ≡ true → l ≡ false → a ≡ true
    low true b l w u = refl
    low false true true w u = cc
    low false true false w u = cc
    low false false l w u = cc

    first : (a b : Bool) → a ≡ true → (a || b) ≡ true
    first true b w = refl
    first false b w = cc
led_one c d cases _ e = refl

led_here : (c : Cluster) (e : Event) → IsStep c e → is_led c e ≡ true
led_here c (events.Begin j begun) step =
    let same : begun.epoch.0 ≡ c.epoch.0 = ap (λ (b : Begun). b.epoch.0) step.2 in
    let leads : is_leader j c.leader ≡ true = step.1 in
    last (nat_lt begun.epoch.0 c.epoch.0) (begun.epoch.0 == c.epoch.0) (is_leader j c.leader) (grind (arith, nat_tests, same)) leads
  where
    last : (a b l : Bool) → b ≡ true → l ≡ true → (a || (b && l)) ≡ true
    last true b l e w = refl
    last false true true e w = refl
    last false true false e w = cc
    last false false l e w = cc
led_here c _ legal = refl

led_next : (c d : Cluster) (h : List Event) (e : Event) → LeadCase c d → IsStep c e → list_all (is_led c) h ≡ true → list_all (is_led d) (h ++ e ∷ []) ≡ true
led_next c d h e cases step all =
    all-append (is_led d) h (e ∷ [])
    ∙ and-both (list_all (is_led d) h) (list_all (is_led d) (e ∷ [])) (all-le (is_led c) (is_led d) (led_one c d cases) h all)
    (and-both (is_led d e) true (led_one c d cases e (led_here c e step)) refl)

-- what a turn's begin is after an event: as it was, none, or the leader's own
abbrev BegunCase : Cluster → ControllerId → Turn → Turn → Type 0
BegunCase c k t after = (after.begun ≡ t.begun) ⊎ ((after.begun.epoch.0 ≡ 0) ⊎ ((is_leader k c.leader ≡ true) × (after.begun.epoch.0 ≡ c.epoch.0)))

case_own : (c : Cluster) (k j : ControllerId) (t after : Turn) → ((j.0 == k.0) ≡ true → BegunCase c k t after) → BegunCase c k t (when_own k j t after)
case_own c k j t after f = one (j.0 == k.0) refl
  where
    one : (b : Bool) → (j.0 == k.0) ≡ b → BegunCase c k t (if b then after else t)
    one true is = f is
    one false is = inl refl

case_due : (c : Cluster) (k : ControllerId) (b : Bool) (t after : Turn) → BegunCase c k t after → BegunCase c k t (if_due b after)
case_due c k true t after f = f
case_due c k false t after f = inr (inl refl)

controller_same : (a b : ControllerId) → (a.0 == b.0) ≡ true → a ≡ b
controller_same a b e = let same : a.0 ≡ b.0 = grind (arith, nat_tests, e) in ap (λ (n : ℕ). record { 0 = n }) same

case_turn : (c : Cluster) (k : ControllerId) (t : Turn) (e : Event) → IsStep c e → BegunCase c k t (turn_after c k t e)
case_turn c k t (events.Begin j begun) step =
    case_own c k j t (begun_turn begun)
    (λ is. inr (inr (ap (λ (x : ControllerId). is_leader x c.leader) (sym (controller_same j k is)) ∙ step.1, ap (λ (b : Begun). b.epoch.0) step.2)))
case_turn c k t (events.Live j pass) step = case_own c k j t (if_due (is_due t Live pass) (with_live c t)) (λ is. case_due c k (is_due t Live pass) t (with_live c t) (inl refl))
case_turn c k t (events.Mail j pass s) step =
    case_own c k j t (if_due (is_due t (Mail s) pass) (gone_on t (with_mail c s t.view))) (λ is. case_due c k (is_due t (Mail s) pass) t (gone_on t (with_mail c s t.view)) (inl refl))
case_turn c k t (events.States j pass s) step =
    case_own c k j t (if_due (is_due t (States s) pass) (gone_on t (with_states c s t.view))) (λ is. case_due c k (is_due t (States s) pass) t (gone_on t (with_states c s t.view)) (inl refl))
case_turn c k t (events.Ideals j pass) step =
    case_own c k j t (if_due (is_due t Ideals pass) (gone_on t (beside t.view c))) (λ is. case_due c k (is_due t Ideals pass) t (gone_on t (beside t.view c)) (inl refl))
case_turn c k t (events.Dispatch j epoch pass proposals answer) step =
    case_own c k j t (if_due (is_due t Send pass && is_of_epoch t epoch) (gone_on t t.view)) (λ is. case_due c k (is_due t Send pass && is_of_epoch t epoch) t (gone_on t t.view) (inl refl))
case_turn c k t (events.Post j epoch rows) step = case_own c k j t idle_turn (λ is. inr (inl refl))
case_turn c k t _ step = inl refl

leads_next : (c d : Cluster) (k : ControllerId) (t after : Turn) → LeadCase c d → c.epoch.0 ≤ d.epoch.0 → 1 ≤ c.epoch.0 → t.begun.epoch.0 ≤ c.epoch.0
    → ((t.begun.epoch.0 == c.epoch.0) ≡ true → is_leader k c.leader ≡ true) → BegunCase c k t after → (after.begun.epoch.0 == d.epoch.0) ≡ true → is_leader k d.leader ≡ true
leads_next c d k t after cases on first low leads (inl same) at =
    let old : after.begun.epoch.0 ≡ t.begun.epoch.0 = ap (λ (b : Begun). b.epoch.0) same in
    let both : d.epoch.0 ≡ c.epoch.0 = grind (arith, nat_tests, at, old, low, on) in
    leads_on c d k cases both (leads (grind (arith, nat_tests, at, old, low, on)))
leads_next c d k t after cases on first low leads (inr (inl none)) at = absurd (grind (arith, nat_tests, at, none, first, on))
leads_next c d k t after cases on first low leads (inr (inr own)) at =
    let both : d.epoch.0 ≡ c.epoch.0 = let here = own.1 in grind (arith, nat_tests, at, here) in
    leads_on c d k cases both own.0

-- where the turn's numbers stand after an event of another, they stood before it
stands_before : (c : Cluster) (k : ControllerId) (t : Turn) (e : Event) → IsWhole c → IsTurn c t → ends_pass k e ≡ false → stands (next c e) k t ≡ true
    → (stands c k t ≡ true) × ((next c e).epoch.0 ≡ c.epoch.0)
stands_before c k t e w h other at =
    let d = next c e in
    let on = (on_next c e w.kept.numbers).epoch in
    let low = h.epoch in
    let epoch : (d.epoch.0 == t.begun.epoch.0) ≡ true = and-first (is_epoch d t.begun.epoch) ((pass_of d k).0 == t.begun.pass.0) at in
    let pass : ((pass_of d k).0 == t.begun.pass.0) ≡ true = and-second (is_epoch d t.begun.epoch) ((pass_of d k).0 == t.begun.pass.0) at in
    let same : d.epoch.0 ≡ c.epoch.0 = grind (arith, nat_tests, epoch, on, low) in
    let old : (c.epoch.0 == t.begun.epoch.0) ≡ true = grind (arith, nat_tests, epoch, on, low) in
    let kept : ((pass_of c k).0 == t.begun.pass.0) ≡ true = ap (λ (p : PassNo). p.0 == t.begun.pass.0) (sym (pass_next c e k other)) ∙ pass in
    (and-both (is_epoch c t.begun.epoch) ((pass_of c k).0 == t.begun.pass.0) old kept, same)

-- an event that isn't a dispatch, nor the controller's own
other_event : (c : Cluster) (turns : ControllerId → Turn) (begun : ControllerId → List Message) (h : List Event) (k : ControllerId) (e : Event) → IsCoverage c turns begun h → IsStep c e
    → is_dispatch e ≡ false → ends_pass k e ≡ false → stands (next c e) k (turns k) ≡ true → IsCovered (next c e) k (turns k) (begun k) (h ++ e ∷ [])
other_event c turns begun h k e s step quiet other at =
    let before = stands_before c k (turns k) e s.whole (s.turn k) other at in
    let cov = s.covered k before.0 in
    covered_calm c k (turns k) (begun k) h (h ++ e ∷ []) e s.whole (s.turn k) quiet (leads_on c (next c e) k (case_next c e step) before.1 cov.leads)
    (begins_next c (next c e) k h e cov.begins before.1 (begins_led c k e step cov.leads (next c e).epoch)) cov

-- the controller's own reads
idle_falls : (c : Cluster) (k : ControllerId) → 1 ≤ c.epoch.0 → stands c k idle_turn ≡ true → ⊥
idle_falls c k first e =
    let epoch : (c.epoch.0 == 0) ≡ true = and-first (is_epoch c (record { 0 = 0 })) ((pass_of c k).0 == 0) e in
    grind (arith, nat_tests, epoch, first)

own_read : (c : Cluster) (k : ControllerId) (b due : Bool) (t after : Turn) (begun : List Message) (more : List Event) → 1 ≤ c.epoch.0
    → (due ≡ true → stands c k after ≡ true → IsCovered c k after begun more) → (b ≡ false → stands c k t ≡ true → IsCovered c k t begun more)
    → stands c k (if b then if_due due after else t) ≡ true → IsCovered c k (if b then if_due due after else t) begun more
own_read c k true true t after begun more first own other at = own refl at
own_read c k true false t after begun more first own other at = absurd (idle_falls c k first at)
own_read c k false due t after begun more first own other at = other refl at

due_mail : (c : Cluster) (k : ControllerId) (opened : Begun) (view : View) (left : List Call) (s : SessionId) (begun : List Message) (h more : List Event) → is_first (Mail s) left ≡ true
    → list_all (begins_by k c.epoch) more ≡ true → IsCovered c k (record { left = left; begun = opened; view = view }) begun h
    → IsCovered c k (gone_on (record { left = left; begun = opened; view = view }) (with_mail c s view)) begun more
due_mail c k opened view [] s begun h more e begins cov = cc
due_mail c k opened view (Live ∷ rest) s begun h more e begins cov = cc
due_mail c k opened view (States u ∷ rest) s begun h more e begins cov = cc
due_mail c k opened view (Ideals ∷ rest) s begun h more e begins cov = cc
due_mail c k opened view (Send ∷ rest) s begun h more e begins cov = cc
due_mail c k opened view (Post ∷ rest) s begun h more e begins cov = cc
due_mail c k opened view (Mail u ∷ rest) s begun h more e begins cov =
    subst (λ (v : SessionId). IsCovered c k (gone_on (record { left = Mail u ∷ rest; begun = opened; view = view }) (with_mail c v view)) begun more) (session_same u s e)
    (covered_mail c k u rest opened view begun h more begins cov)

due_states : (c : Cluster) (k : ControllerId) (opened : Begun) (view : View) (left : List Call) (s : SessionId) (begun : List Message) (h more : List Event) → list_all (is_unread view) left ≡ true
    → is_first (States s) left ≡ true → list_all (begins_by k c.epoch) more ≡ true → IsCovered c k (record { left = left; begun = opened; view = view }) begun h
    → IsCovered c k (gone_on (record { left = left; begun = opened; view = view }) (with_states c s view)) begun more
due_states c k opened view [] s begun h more unread e begins cov = cc
due_states c k opened view (Live ∷ rest) s begun h more unread e begins cov = cc
due_states c k opened view (Mail u ∷ rest) s begun h more unread e begins cov = cc
due_states c k opened view (Ideals ∷ rest) s begun h more unread e begins cov = cc
due_states c k opened view (Send ∷ rest) s begun h more unread e begins cov = cc
due_states c k opened view (Post ∷ rest) s begun h more unread e begins cov = cc
due_states c k opened view (States u ∷ rest) s begun h more unread e begins cov =
    let here : is_unread view (States u) ≡ true = and-first (is_unread view (States u)) (list_all (is_unread view) rest) unread in
    let none = and-second (is_shown view.live u) (not (list_any (λ r. r.session.0 == u.0) view.rows)) here in
    subst (λ (v : SessionId). IsCovered c k (gone_on (record { left = States u ∷ rest; begun = opened; view = view }) (with_states c v view)) begun more) (session_same u s e)
    (covered_states c k u rest opened view begun h more (none_if (list_any (λ r. r.session.0 == u.0) view.rows) none) begins cov)

due_ideals : (c : Cluster) (k : ControllerId) (opened : Begun) (view : View) (left : List Call) (begun : List Message) (h more : List Event) → is_first Ideals left ≡ true
    → list_all (begins_by k c.epoch) more ≡ true → IsCovered c k (record { left = left; begun = opened; view = view }) begun h
    → IsCovered c k (gone_on (record { left = left; begun = opened; view = view }) (beside view c)) begun more
due_ideals c k opened view [] begun h more e begins cov = cc
due_ideals c k opened view (Live ∷ rest) begun h more e begins cov = cc
due_ideals c k opened view (Mail u ∷ rest) begun h more e begins cov = cc
due_ideals c k opened view (States u ∷ rest) begun h more e begins cov = cc
due_ideals c k opened view (Send ∷ rest) begun h more e begins cov = cc
due_ideals c k opened view (Post ∷ rest) begun h more e begins cov = cc
due_ideals c k opened view (Ideals ∷ rest) begun h more e begins cov = covered_ideals c k rest opened view begun h more begins cov

-- the begin of the controller itself, and of another
own_begin : (c : Cluster) (turns : ControllerId → Turn) (begun : ControllerId → List Message) (h : List Event) (k j : ControllerId) (answer : Begun) (b : Bool) → (j.0 == k.0) ≡ b
    → IsCoverage c turns begun h → IsStep c (events.Begin j answer)
    → stands (next_pass c j) k (if b then begun_turn answer else turns k) ≡ true
    → IsCovered (next_pass c j) k (if b then begun_turn answer else turns k) (if b then c.mail else begun k) (h ++ events.Begin j answer ∷ [])
own_begin c turns begun h k j answer true is s step at =
    let e : Event = events.Begin j answer in
    let d = next_pass c j in
    let cases = case_next c e step in
    let leads : is_leader j c.leader ≡ true = step.1 in
    let numbers : d.epoch.0 ≡ c.epoch.0 = same_epoch c d answer k step.2 at in
    let mine : is_leader k c.leader ≡ true = ap (λ (x : ControllerId). is_leader x c.leader) (sym (controller_same j k is)) ∙ leads in
    let old : list_all (begins_by k c.epoch) h ≡ true = all-le (is_led c) (begins_by k c.epoch) (λ x w. by_leader c k x mine w) h s.led in
    subst (λ (x : ControllerId). IsCovered (next_pass c x) k (begun_turn answer) c.mail (h ++ e ∷ [])) (sym (controller_same j k is))
    (covered_begin c k answer (h ++ e ∷ [])
    (subst (λ (x : ControllerId). is_leader k (next_pass c x).leader ≡ true) (controller_same j k is) (leads_on c d k cases numbers mine))
    (subst (λ (x : ControllerId). list_all (begins_by k (next_pass c x).epoch) (h ++ e ∷ []) ≡ true) (controller_same j k is)
    (begins_next c d k h e old numbers (begins_led c k e step mine d.epoch))))
  where
    same_epoch : (c d : Cluster) (answer : Begun) (k : ControllerId) → answer ≡ begun_of c j → stands d k (begun_turn answer) ≡ true → d.epoch.0 ≡ c.epoch.0
    same_epoch c d answer k same at =
        let epoch : (d.epoch.0 == answer.epoch.0) ≡ true = and-first (is_epoch d answer.epoch) ((pass_of d k).0 == answer.pass.0) at in
        let here : answer.epoch.0 ≡ c.epoch.0 = ap (λ (b : Begun). b.epoch.0) same in
        grind (arith, nat_tests, epoch, here)

    by_leader : (c : Cluster) (k : ControllerId) (x : Event) → is_leader k c.leader ≡ true → is_led c x ≡ true → begins_by k c.epoch x ≡ true
    by_leader c k (events.Begin i b) mine w = one (nat_lt b.epoch.0 c.epoch.0) refl (b.epoch.0 == c.epoch.0) refl (is_leader i c.leader) refl w
      where
        one : (low : Bool) → nat_lt b.epoch.0 c.epoch.0 ≡ low → (at : Bool) → (b.epoch.0 == c.epoch.0) ≡ at → (l : Bool) → is_leader i c.leader ≡ l → (low || (at && l)) ≡ true
            → (not (b.epoch.0 == c.epoch.0) || (i.0 == k.0)) ≡ true
        one true is at there l lead w = if-unasked (b.epoch.0 == c.epoch.0) (i.0 == k.0) (grind (arith, nat_tests, is))
        one false is true there true lead w = if-passed (b.epoch.0 == c.epoch.0) (i.0 == k.0) (one_leader i k c.leader lead mine)
        one false is true there false lead w = cc
        one false is false there l lead w = cc
    by_leader c k _ mine w = refl
own_begin c turns begun h k j answer false is s step at = other_event c turns begun h k (events.Begin j answer) s step refl (turned is) at
  where
    turned : (j.0 == k.0) ≡ false → (k.0 == j.0) ≡ false
    turned e = grind (arith, nat_tests, e)

-- a dispatch ends the controller's own pass, and no other controller makes one in its epoch
own_dispatch : (c : Cluster) (turns : ControllerId → Turn) (begun : ControllerId → List Message) (h : List Event) (k j : ControllerId) (epoch : Epoch) (pass : PassNo) (proposals : List Proposal)
    (b due : Bool) → (j.0 == k.0) ≡ b → IsCoverage c turns begun h → is_epoch c epoch ≡ true → is_pass c j pass ≡ true → is_of_epoch (turns j) epoch ≡ true
    → (due ≡ true → (pass.0 == (turns k).begun.pass.0) ≡ true) → ((b ≡ false) → (stands c k (turns k) ≡ true))
    → stands (after_proposals (next_pass c j) proposals) k (if b then if_due due (gone_on (turns k) (turns k).view) else turns k) ≡ true → 1 ≤ (after_proposals (next_pass c j) proposals).epoch.0 → ⊥
own_dispatch c turns begun h k j epoch pass proposals true false is s at held of due before stand first = idle_falls (after_proposals (next_pass c j) proposals) k first stand
own_dispatch c turns begun h k j epoch pass proposals true true is s at held of due before stand first =
    let d = after_proposals (next_pass c j) proposals in
    let same = controller_same j k is in
    let mine : is_pass c k pass ≡ true = subst (λ (x : ControllerId). is_pass c x pass ≡ true) same held in
    let has : has_controller c k ≡ true = and-first (has_controller c k) ((pass_of c k).0 == pass.0) mine in
    let now : ((pass_of c k).0 == pass.0) ≡ true = and-second (has_controller c k) ((pass_of c k).0 == pass.0) mine in
    let raised : (pass_of d k).0 ≡ (pass_of c k).0 + 1
    = subst (λ (x : ControllerId). (pass_of (after_proposals (next_pass c x) proposals) k).0 ≡ (pass_of c k).0 + 1) (sym same) (pass_own c k proposals has) in
    let stood : ((pass_of d k).0 == (turns k).begun.pass.0) ≡ true = and-second (is_epoch d (turns k).begun.epoch) ((pass_of d k).0 == (turns k).begun.pass.0) stand in
    let given = due refl in
    grind (arith, nat_tests, raised, stood, now, given)
own_dispatch c turns begun h k j epoch pass proposals false due is s at held of given before stand first =
    let cov = s.covered k (before refl) in
    let theirs : is_leader j c.leader ≡ true = s.leads j (grind (arith, nat_tests, at, of)) in
    let same = one_leader j k c.leader theirs cov.leads in
    let both = sym same ∙ is in
    no both
  where
    no : true ≡ false → ⊥
    no e = cc

-- a dispatch is made in the epoch of its controller's begin
abbrev IsInEpoch : (ControllerId → Turn) → Event → Type 0
IsInEpoch turns (events.Dispatch j epoch pass proposals answer) = is_of_epoch (turns j) epoch ≡ true
IsInEpoch turns _ = Unit {0}

post_case : (c : Cluster) (turns : ControllerId → Turn) (begun : ControllerId → List Message) (h : List Event) (k : ControllerId) (e : Event) (b : Bool) → IsCoverage c turns begun h → IsStep c e
    → is_dispatch e ≡ false → ends_pass k e ≡ false → 1 ≤ (next c e).epoch.0 → stands (next c e) k (if b then idle_turn else turns k) ≡ true
    → IsCovered (next c e) k (if b then idle_turn else turns k) (begun k) (h ++ e ∷ [])
post_case c turns begun h k e true s step quiet other first at = absurd (idle_falls (next c e) k first at)
post_case c turns begun h k e false s step quiet other first at = other_event c turns begun h k e s step quiet other at

-- a read, which leaves the cluster as it is: the controller's own that is due goes on, and another's changes nothing of its turn
read_case : (c : Cluster) (turns : ControllerId → Turn) (begun : ControllerId → List Message) (h : List Event) (k : ControllerId) (e : Event) (b due : Bool) (after : Turn) → IsCoverage c turns begun h → IsStep c e
    → next c e ≡ c → is_dispatch e ≡ false → ends_pass k e ≡ false → begins_by k c.epoch e ≡ true → stands c k after ≡ stands c k (turns k)
    → (due ≡ true → list_all (begins_by k c.epoch) (h ++ e ∷ []) ≡ true → IsCovered c k (turns k) (begun k) h → IsCovered c k after (begun k) (h ++ e ∷ []))
    → stands c k (if b then if_due due after else turns k) ≡ true → IsCovered c k (if b then if_due due after else turns k) (begun k) (h ++ e ∷ [])
read_case c turns begun h k e b due after s step same quiet other free as_before own at =
    own_read c k b due (turns k) after (begun k) (h ++ e ∷ []) s.first
    (λ is st. let cov = s.covered k (sym as_before ∙ st) in own is (begins_next c c k h e cov.begins refl free) cov)
    (λ ne st. subst (λ (d : Cluster). IsCovered d k (turns k) (begun k) (h ++ e ∷ [])) same
    (other_event c turns begun h k e s step quiet other (subst (λ (d : Cluster). stands d k (turns k) ≡ true) (sym same) st))) at

covered_next : (c : Cluster) (turns : ControllerId → Turn) (begun : ControllerId → List Message) (h : List Event) (k : ControllerId) (e : Event) → IsCoverage c turns begun h → IsStep c e
    → IsInEpoch turns e → 1 ≤ (next c e).epoch.0 → stands (next c e) k (turn_after c k (turns k) e) ≡ true
    → IsCovered (next c e) k (turn_after c k (turns k) e) (mail_begun_after c k (begun k) e) (h ++ e ∷ [])
covered_next c turns begun h k (events.Begin j answer) s step proper first at = own_begin c turns begun h k j answer (j.0 == k.0) refl s step at
covered_next c turns begun h k (events.Live j pass) s step proper first at =
    let t = turns k in
    read_case c turns begun h k (events.Live j pass) (j.0 == k.0) (is_due t Live pass) (with_live c t) s step refl refl refl refl refl
    (λ due begins cov. covered_live c k t (begun k) h (h ++ events.Live j pass ∷ []) begins cov) at
covered_next c turns begun h k (events.Mail j pass u) s step proper first at =
    let t = turns k in
    read_case c turns begun h k (events.Mail j pass u) (j.0 == k.0) (is_due t (Mail u) pass) (gone_on t (with_mail c u t.view)) s step refl refl refl refl refl
    (λ due. due_mail c k t.begun t.view t.left u (begun k) h (h ++ events.Mail j pass u ∷ []) (and-first (is_first (Mail u) t.left) (pass.0 == t.begun.pass.0) due)) at
covered_next c turns begun h k (events.States j pass u) s step proper first at =
    let t = turns k in
    read_case c turns begun h k (events.States j pass u) (j.0 == k.0) (is_due t (States u) pass) (gone_on t (with_states c u t.view)) s step refl refl refl refl refl
    (λ due. due_states c k t.begun t.view t.left u (begun k) h (h ++ events.States j pass u ∷ []) (s.turn k).unread (and-first (is_first (States u) t.left) (pass.0 == t.begun.pass.0) due)) at
covered_next c turns begun h k (events.Ideals j pass) s step proper first at =
    let t = turns k in
    read_case c turns begun h k (events.Ideals j pass) (j.0 == k.0) (is_due t Ideals pass) (gone_on t (beside t.view c)) s step refl refl refl refl refl
    (λ due. due_ideals c k t.begun t.view t.left (begun k) h (h ++ events.Ideals j pass ∷ []) (and-first (is_first Ideals t.left) (pass.0 == t.begun.pass.0) due)) at
covered_next c turns begun h k (events.Dispatch j epoch pass proposals answer) s step proper first at =
    let t = turns k in
    let e = events.Dispatch j epoch pass proposals answer in
    let due : Bool = is_due t Send pass && is_of_epoch t epoch in
    absurd (own_dispatch c turns begun h k j epoch pass proposals (j.0 == k.0) due refl s step.1 step.2 proper
    (λ is. and-second (is_first Send t.left) (pass.0 == t.begun.pass.0) (and-first (is_due t Send pass) (is_of_epoch t epoch) is))
    (λ ne. (stands_before c k t e s.whole (s.turn k) (turned ne) (sym (ap (λ (b : Bool). stands (next c e) k (if b then if_due due (gone_on t t.view) else t)) ne) ∙ at)).0)
    at first)
  where
    turned : (j.0 == k.0) ≡ false → (k.0 == j.0) ≡ false
    turned e = grind (arith, nat_tests, e)
covered_next c turns begun h k (events.Post j epoch rows) s step proper first at = post_case c turns begun h k (events.Post j epoch rows) (j.0 == k.0) s step refl refl first at
covered_next c turns begun h k e s step proper first at = other_event c turns begun h k e s step refl refl at

coverage_next : (c : Cluster) (turns : ControllerId → Turn) (begun : ControllerId → List Message) (h : List Event) (e : Event) → IsCoverage c turns begun h → IsStep c e → IsInEpoch turns e
    → IsCoverage (next c e) (λ k. turn_after c k (turns k) e) (λ k. mail_begun_after c k (begun k) e) (h ++ e ∷ [])
coverage_next c turns begun h e s step proper =
    let d = next c e in
    let on = (on_next c e s.whole.kept.numbers).epoch in
    let first : 1 ≤ d.epoch.0 = omega (arith, on, s.first) in
    let cases = case_next c e step in
    record {
      whole = whole_next c e s.whole step;
      ranged = ranged_next c e s.ranged step;
      first = first;
      turn = λ k. turn_next c k (turns k) e s.whole s.ranged step (s.turn k);
      leads = λ k at. leads_next c d k (turns k) (turn_after c k (turns k) e) cases on s.first (s.turn k).epoch (s.leads k) (case_turn c k (turns k) e step) at;
      led = led_next c d h e cases step s.led;
      covered = λ k at. covered_next c turns begun h k e s step proper first at;
    }

coverage_opening : (spec : Spec) → IsValid spec → IsCoverage (opening spec) (λ k. idle_turn) (λ k. []) []
coverage_opening spec valid =
    let ranged = ranged_opening spec valid in
    record {
      whole = whole_opening spec (sound_from spec valid);
      ranged = ranged;
      first = omega arith;
      turn = λ k. turn_idle (opening spec) ranged;
      leads = λ k at. cc;
      led = refl;
      covered = λ k at. absurd (idle_falls (opening spec) k (omega arith) at);
    }

-- one event more
pub replay_more : (c : Cluster) (h : List Event) (e : Event) → replay c (h ++ e ∷ []) ≡ next (replay c h) e
replay_more c [] e = refl
replay_more c (x ∷ h) e = replay_more (next c x) h e

turn_more : (c : Cluster) (k : ControllerId) (t : Turn) (h : List Event) (e : Event) → turn_from c k t (h ++ e ∷ []) ≡ turn_after (replay c h) k (turn_from c k t h) e
turn_more c k t [] e = refl
turn_more c k t (x ∷ h) e = turn_more (next c x) k (turn_after c k t x) h e

mail_more : (c : Cluster) (k : ControllerId) (mail : List Message) (h : List Event) (e : Event) → mail_begun_from c k mail (h ++ e ∷ []) ≡ mail_begun_after (replay c h) k (mail_begun_from c k mail h) e
mail_more c k mail [] e = refl
mail_more c k mail (x ∷ h) e = mail_more (next c x) k (mail_begun_after c k mail x) h e

append_none : (h : List Event) → h ++ [] ≡ h
append_none [] = refl
append_none (e ∷ h) = ap (λ (es : List Event). e ∷ es) (append_none h)

abbrev CoversAll : Spec → List Event → Type 0
CoversAll spec h = IsCoverage (replay (opening spec) h) (λ k. turn_of spec k h) (λ k. mail_begun spec k h) h

in_epoch : (spec : Spec) (before : List Event) (e : Event) → IsProper spec before e → IsInEpoch (λ k. turn_of spec k before) e
in_epoch spec before (events.Dispatch j epoch pass proposals answer) proper = proper.1
in_epoch spec before _ proper = tt

covers_more : (spec : Spec) (before : List Event) (e : Event) → CoversAll spec before → IsStep (replay (opening spec) before) e → IsProper spec before e → CoversAll spec (before ++ e ∷ [])
covers_more spec before e all step proper =
    let o = opening spec in
    let c = replay o before in
    let h : List Event = before ++ e ∷ [] in
    let turns : ControllerId → Turn = λ k. turn_after c k (turn_of spec k before) e in
    let begun : ControllerId → List Message = λ k. mail_begun_after c k (mail_begun spec k before) e in
    let here : IsCoverage (next c e) turns begun h = coverage_next c (λ k. turn_of spec k before) (λ k. mail_begun spec k before) before e all step (in_epoch spec before e proper) in
    let one : IsCoverage (replay o h) turns begun h = subst (λ (d : Cluster). IsCoverage d turns begun h) (sym (replay_more o before e)) here in
    let same_turns : turns ≡ (λ k. turn_of spec k h) = (λ i k. sym (turn_more o k idle_turn before e) i) in
    let same_begun : begun ≡ (λ k. mail_begun spec k h) = (λ i k. sym (mail_more o k [] before e) i) in
    let two = subst (λ (ts : ControllerId → Turn). IsCoverage (replay o h) ts begun h) same_turns one in
    subst (λ (ms : ControllerId → List Message). IsCoverage (replay o h) (λ k. turn_of spec k h) ms h) same_begun two

covers_along : (spec : Spec) (before es : List Event) → CoversAll spec before → IsLegal (replay (opening spec) before) es → IsProperAlong spec before es → CoversAll spec (before ++ es)
covers_along spec before [] all legal proper = subst (CoversAll spec) (sym (append_none before)) all
covers_along spec before (e ∷ es) all legal proper =
    let more = covers_more spec before e all legal.0 proper.0 in
    let rest : IsLegal (replay (opening spec) (before ++ e ∷ [])) es = subst (λ (d : Cluster). IsLegal d es) (sym (replay_more (opening spec) before e)) legal.1 in
    subst (CoversAll spec) (append_assoc before (e ∷ []) es) (covers_along spec (before ++ e ∷ []) es more rest proper.1)

pub lawful_covers : (spec : Spec) → IsValid spec → (h : List Event) → IsLawful spec h → (k : ControllerId) → Covers spec h k
lawful_covers spec valid h lawful k = (covers_along spec [] h (coverage_opening spec valid) lawful.0 lawful.1).covered k

-- a front of a lawful history is lawful
pub legal_front : (c : Cluster) (h more : List Event) → IsLegal c (h ++ more) → IsLegal c h
legal_front c [] more legal = tt
legal_front c (e ∷ es) more legal = (legal.0, legal_front (next c e) es more legal.1)

pub proper_front : (spec : Spec) (before h more : List Event) → IsProperAlong spec before (h ++ more) → IsProperAlong spec before h
proper_front spec before [] more proper = tt
proper_front spec before (e ∷ es) more proper = (proper.0, proper_front spec (before ++ e ∷ []) es more proper.1)

-- so at each place of a lawful history
pub covers_at : (spec : Spec) (h more : List Event) (k : ControllerId) → IsValid spec → IsLawful spec (h ++ more) → Covers spec h k
covers_at spec h more k valid lawful = lawful_covers spec valid h (legal_front (opening spec) h more lawful.0, proper_front spec [] h more lawful.1) k

-- and what is known there of the board's messages and of the turn
pub record IsHere (spec : Spec) (h : List Event) (k : ControllerId) : Type 0 where
  pub begun : List Message
  pub mail : HasMail (replay (opening spec) h)
  pub turn : IsTurn (replay (opening spec) h) (turn_of spec k h)
  pub covered : stands (replay (opening spec) h) k (turn_of spec k h) ≡ true → IsCovered (replay (opening spec) h) k (turn_of spec k h) begun h

pub covers_here : (spec : Spec) → IsValid spec → (h : List Event) → IsLawful spec h → (k : ControllerId) → IsHere spec h k
covers_here spec valid h lawful k =
    let all = covers_along spec [] h (coverage_opening spec valid) lawful.0 lawful.1 in
    record { begun = mail_begun spec k h; mail = all.whole.kept.mail; turn = all.turn k; covered = all.covered k }
