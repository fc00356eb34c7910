-- A controller's turn keeps its shape along every legal history, and what it was shown is well formed.
use Rattle.std.proofs.Common.{◌≡◌, ℕ, ◌≤◌, ◌||◌, ◌==◌, not, Bool, true, false, List, [], ◌∷◌, ◌++◌, length, filter, map, refl, sym, ap, ◌∙◌, arith, ◌&&◌}
use Rattle.std.specs.Prelude.{if◌then◌else◌, nat_lt}
use Rattle.std.specs.List.{list_any, list_all}
use Rattle.std.proofs.lemmas.Bool.Decides.{nat_tests}
use Rattle.hx_lists.specs.Lists.{count}
use Rattle.hx_ids.specs.declared.InstanceId.{InstanceId}
use Rattle.hx_ids.specs.declared.SessionId.{SessionId}
use Rattle.hx_ids.specs.declared.Live.{Live as LiveSession}
use Rattle.hx_cluster.specs.declared.state.Message.{Message}
use Rattle.hx_cluster.specs.declared.state.Row.{Row}
use Rattle.hx_cluster.specs.declared.state.Cluster.{Cluster}
use Rattle.hx_cluster.specs.declared.planning.Ideals.{Ideals as IdealsShown}
use Rattle.hx_cluster.specs.declared.planning.View.{View}
use Rattle.hx_cluster.specs.declared.happenings.Begun.{Begun}
use Rattle.hx_cluster.specs.Ends.{is_live, is_shown, shown_of, instance_in}
use Rattle.hx_cluster.specs.Reads.{instance_before, live_shown, mail_shown, states_shown, ideals_shown, nothing_shown}
use Rattle.hx_cluster.specs.Safe.{HasMail, HasRows, HasSessions}
use Rattle.hx_cluster.specs.Valid.{has_no_fault}
use Rattle.hx_cluster.specs.Ranged.{IsRanged}
use Rattle.hx_cluster.specs.Views.{is_well_formed}
use Rattle.hx_pass.specs.Turns.{Call, Live, Mail, States, Ideals, Send, Post, Turn, same_call, is_first, idle_turn, begun_turn, calls_after_live}
use Rattle.hx_safe.proofs.Counting.{and-first, and-second, and-both, any-append, all-append, all-le, all-map}
use Rattle.hx_safe.proofs.Ends.{same-self}
use Rattle.hx_safe.proofs.Fixed.{IsFixed}
use Rattle.hx_safe.specs.Onward.{is_front, is_same_kind, has_same_replicas, IsOn}
use Rattle.hx_lawful.specs.Reading.{may_follow, is_in_order_from, is_in_order, is_unread, is_read, view_with, IsTurn}
use Rattle.hx_safe.proofs.Fronts.{front-self, front-both, kind-self, kind-both, replicas-self, replicas-both}
use Rattle.hx_lawful.proofs.Calls.{both_left, no_mail_behind, order_rest, live_no_more, calls_in_order, calls_once, call_no_more}
use Rattle.hx_lawful.proofs.Sorting.{all-sort}
use Rattle.hx_lawful.proofs.Viewing.{beside, formed_same, formed_on, formed_nothing, with_mail, formed_mail, with_states, formed_states, with_sessions, formed_live, own_shown, sessions_once, each_shown}

-- a turn goes along with the cluster
formed_along : (c d : Cluster) (view : View) (b : Bool) → IsOn c d → IsFixed c d → IsRanged d
    → is_well_formed c.models (length c.instances) (if b then view else beside view c) ≡ true
    → is_well_formed d.models (length d.instances) (if b then view else beside view d) ≡ true
formed_along c d view true on same ranged e = formed_same c d view same e
formed_along c d view false on same ranged e = formed_on c d view on same ranged e

pub turn_on : (c d : Cluster) (t : Turn) → IsOn c d → IsFixed c d → IsRanged d → IsTurn c t → IsTurn d t
turn_on c d t on same ranged h = record {
  epoch = trans_le h.epoch on.epoch;
  order = h.order;
  once = h.once;
  unread = h.unread;
  nothing = h.nothing;
  mail_first = h.mail_first;
  below = all-le (λ e. nat_lt e.0.0 c.next_session) (λ e. nat_lt e.0.0 d.next_session) (λ e low. later e.0.0 low) t.view.live h.below;
  own = λ s live shown. own s (old t.view.live h.below s shown) live shown;
  well_formed = formed_along c d t.view (is_read t) on same ranged h.well_formed;
  resources = λ e. front-both is_same_kind kind-both t.view.ideals.resources c.resources d.resources (h.resources e) on.resources;
  replicas = λ e. front-both has_same_replicas replicas-both t.view.ideals.resources c.resources d.resources (h.replicas e) on.replicas;
}
  where
    trans_le : {x y z : ℕ} → x ≤ y → y ≤ z → x ≤ z
    trans_le one two = omega (arith, one, two)

    later : (n : ℕ) → nat_lt n c.next_session ≡ true → nat_lt n d.next_session ≡ true
    later n low = grind (arith, nat_tests, low, on.next_session)

    old : (live : List (SessionId × InstanceId)) → list_all (λ e. nat_lt e.0.0 c.next_session) live ≡ true → (s : SessionId) → is_shown live s ≡ true → nat_lt s.0 c.next_session ≡ true
    old [] low s e = cc
    old (x ∷ live) low s e = grind (arith, nat_tests, low, e, old live (and-second (nat_lt x.0.0 c.next_session) (list_all (λ e. nat_lt e.0.0 c.next_session) live) low) s)

    own : (s : SessionId) → nat_lt s.0 c.next_session ≡ true → is_live d.live s ≡ true → is_shown t.view.live s ≡ true → instance_in (shown_of d.live) s ≡ instance_in t.view.live s
    own s low live shown = on.instances s low live ∙ h.own s (on.live s low live) shown

-- no turn is under way, and a turn that begins
pub turn_idle : (c : Cluster) → IsRanged c → IsTurn c idle_turn
turn_idle c ranged = record {
  epoch = omega arith;
  order = refl;
  once = λ call. omega arith;
  unread = refl;
  nothing = λ e. refl;
  mail_first = λ s e. cc;
  below = refl;
  own = λ s live shown. cc;
  well_formed = formed_nothing c ranged;
  resources = λ e. refl;
  replicas = λ e. refl;
}

pub turn_begun : (c : Cluster) (begun : Begun) → begun.epoch.0 ≤ c.epoch.0 → IsRanged c → IsTurn c (begun_turn begun)
turn_begun c begun epoch ranged =
    let idle = turn_idle c ranged in
    record {
      epoch = epoch;
      order = refl;
      once = once;
      unread = refl;
      nothing = λ e. refl;
      mail_first = λ s e. cc;
      below = idle.below;
      own = idle.own;
      well_formed = idle.well_formed;
      resources = λ e. refl;
      replicas = λ e. refl;
    }
  where
    once : (call : Call) → count (same_call call) (Live ∷ []) ≤ 1
    once Live = omega arith
    once (Mail s) = omega arith
    once (States s) = omega arith
    once Ideals = omega arith
    once Send = omega arith
    once Post = omega arith

-- live is read
calls_unread : (live : List (SessionId × InstanceId)) → list_all (is_unread (record nothing_shown { live = live })) (calls_after_live live) ≡ true
calls_unread live =
    let view : View = record nothing_shown { live = live } in
    let mail : list_all (is_unread view) (map (λ (e : SessionId × InstanceId). Mail e.0) live) ≡ true
    = all-map (is_unread view) (λ (e : SessionId × InstanceId). Mail e.0) live ∙ all-le (λ e. is_shown live e.0) (λ (e : SessionId × InstanceId). is_unread view (Mail e.0)) (λ e w. grind (arith, w)) live (each_shown live) in
    let states : list_all (is_unread view) (map (λ (e : SessionId × InstanceId). States e.0) live) ≡ true
    = all-map (is_unread view) (λ (e : SessionId × InstanceId). States e.0) live ∙ all-le (λ e. is_shown live e.0) (λ (e : SessionId × InstanceId). is_unread view (States e.0)) (λ e w. grind (arith, w)) live (each_shown live) in
    all-append (is_unread view) (map (λ (e : SessionId × InstanceId). Mail e.0) live ++ map (λ (e : SessionId × InstanceId). States e.0) live) (Ideals ∷ Send ∷ Post ∷ [])
    ∙ and-both (list_all (is_unread view) (map (λ (e : SessionId × InstanceId). Mail e.0) live ++ map (λ (e : SessionId × InstanceId). States e.0) live)) (list_all (is_unread view) (Ideals ∷ Send ∷ Post ∷ []))
    (all-append (is_unread view) (map (λ (e : SessionId × InstanceId). Mail e.0) live) (map (λ (e : SessionId × InstanceId). States e.0) live)
    ∙ and-both (list_all (is_unread view) (map (λ (e : SessionId × InstanceId). Mail e.0) live)) (list_all (is_unread view) (map (λ (e : SessionId × InstanceId). States e.0) live)) mail states) refl

first_after_live : (live : List (SessionId × InstanceId)) (call : Call) → (is_first Live (calls_after_live live) ≡ false) × ((is_first Send (calls_after_live live) || is_first Post (calls_after_live live)) ≡ false)
first_after_live [] call = (refl, refl)
first_after_live (e ∷ live) call = (refl, refl)

pub turn_live : (c : Cluster) (begun : Begun) → begun.epoch.0 ≤ c.epoch.0 → IsRanged c → HasSessions c
    → IsTurn c (record { left = calls_after_live (live_shown c); begun = begun; view = with_sessions c })
turn_live c begun epoch ranged sessions =
    let first = first_after_live (live_shown c) Live in
    record {
      epoch = epoch;
      order = calls_in_order (live_shown c);
      once = calls_once (live_shown c) (sessions_once c sessions.numbers);
      unread = calls_unread (live_shown c);
      nothing = λ e. let both = sym first.0 ∙ e in cc;
      mail_first = λ s e. both_left (live_shown c) s e;
      below = all-sort (λ (e : SessionId × InstanceId). nat_lt e.0.0 c.next_session) instance_before (shown_of c.live)
          ∙ all-map (λ (e : SessionId × InstanceId). nat_lt e.0.0 c.next_session) (λ (l : LiveSession). (l.session, l.instance)) c.live ∙ sessions.below;
      own = λ s live shown. own_shown c sessions.numbers s;
      well_formed = ap (λ (b : Bool). is_well_formed c.models (length c.instances) (if b then with_sessions c else beside (with_sessions c) c)) first.1
          ∙ formed_live c ranged sessions.numbers sessions.instances;
      resources = λ e. let both = sym first.1 ∙ e in cc;
      replicas = λ e. let both = sym first.1 ∙ e in cc;
    }

-- the rest of the calls
rest_once : (a : Call) (rest : List Call) → ((call : Call) → count (same_call call) (a ∷ rest) ≤ 1) → (call : Call) → count (same_call call) rest ≤ 1
rest_once a rest once call = few (same_call call a) (once call)
  where
    few : (b : Bool) → length (if b then a ∷ filter (same_call call) rest else filter (same_call call) rest) ≤ 1 → count (same_call call) rest ≤ 1
    few true e = grind (arith, e)
    few false e = e

-- behind mail and states nothing of the ideals was read
unread_behind : (a : Call) (rest : List Call) → is_in_order (a ∷ rest) ≡ true → (s : SessionId) → (same_call (Mail s) a || same_call (States s) a) ≡ true
    → (is_first Send rest || is_first Post rest) ≡ false
unread_behind a [] order s is = refl
unread_behind a (b ∷ rest) order s is = one a b (and-first (may_follow a b) (is_in_order_from b rest) order) is
  where
    one : (a b : Call) → may_follow a b ≡ true → (same_call (Mail s) a || same_call (States s) a) ≡ true → (same_call b Send || same_call b Post) ≡ false
    one a Live e is = refl
    one a (Mail t) e is = refl
    one a (States t) e is = refl
    one a Ideals e is = refl
    one Live _ e is = cc
    one (Mail t) _ e is = cc
    one (States t) _ e is = cc
    one Ideals _ e is = cc
    one Send _ e is = cc
    one Post _ e is = cc

weaker : (a b : Bool) → b ≡ true → (a || b) ≡ true
weaker true b e = refl
weaker false b e = e

-- what is shown of one session says nothing of another
none_of_session : {X : Type 0} (of : X → SessionId) (u v : SessionId) (xs : List X) → (u.0 == v.0) ≡ false
    → list_any (λ x. (of x).0 == v.0) (filter (λ x. (of x).0 == u.0) xs) ≡ false
none_of_session of u v [] ne = refl
none_of_session of u v (x ∷ xs) ne = grind (arith, nat_tests, ne, none_of_session of u v xs ne)

-- each other call is as unread as it was
unread_rest : (old new : View) (call : Call) → ((x : Call) → same_call call x ≡ false → is_unread old x ≡ true → is_unread new x ≡ true) → (rest : List Call)
    → list_any (same_call call) rest ≡ false → list_all (is_unread old) rest ≡ true → list_all (is_unread new) rest ≡ true
unread_rest old new call each [] ne e = refl
unread_rest old new call each (x ∷ rest) ne e =
    and-both (is_unread new x) (list_all (is_unread new) rest) (each x (grind (arith, ne)) (and-first (is_unread old x) (list_all (is_unread old) rest) e))
    (unread_rest old new call each rest (grind (arith, ne)) (and-second (is_unread old x) (list_all (is_unread old) rest) e))

-- a call is made: what was shown with it is known, and what was behind it is left
turn_rest : (c : Cluster) (begun : Begun) (view : View) (mail : List Message) (rows : List Row) (ideals : IdealsShown) (call : Call) (rest : List Call)
    → list_all (is_unread (record view { mail = mail; rows = rows; ideals = ideals })) rest ≡ true
    → ((s : SessionId) → list_any (same_call (Mail s)) rest ≡ true → list_any (same_call (States s)) rest ≡ true)
    → is_well_formed c.models (length c.instances) (view_with c (record { left = rest; begun = begun; view = record view { mail = mail; rows = rows; ideals = ideals } })) ≡ true
    → ((is_first Send rest || is_first Post rest) ≡ true → is_front is_same_kind ideals.resources c.resources ≡ true)
    → ((is_first Send rest || is_first Post rest) ≡ true → is_front has_same_replicas ideals.resources c.resources ≡ true)
    → IsTurn c (record { left = call ∷ rest; begun = begun; view = view })
    → IsTurn c (record { left = rest; begun = begun; view = record view { mail = mail; rows = rows; ideals = ideals } })
turn_rest c begun view mail rows ideals call rest unread mail_first formed resources replicas h = record {
  epoch = h.epoch;
  order = order_rest call rest h.order;
  once = rest_once call rest h.once;
  unread = unread;
  nothing = λ e. let both = sym (live_no_more call rest h.order) ∙ e in cc;
  mail_first = mail_first;
  below = h.below;
  own = h.own;
  well_formed = formed;
  resources = resources;
  replicas = replicas;
}

-- mail or rows are read
turn_read : (c : Cluster) (begun : Begun) (view : View) (mail : List Message) (rows : List Row) (call : Call) (rest : List Call) → (is_first Send rest || is_first Post rest) ≡ false
    → ((x : Call) → same_call call x ≡ false → is_unread view x ≡ true → is_unread (record view { mail = mail; rows = rows }) x ≡ true)
    → ((s : SessionId) → list_any (same_call (Mail s)) rest ≡ true → list_any (same_call (States s)) rest ≡ true)
    → is_well_formed c.models (length c.instances) (beside (record view { mail = mail; rows = rows }) c) ≡ true
    → IsTurn c (record { left = call ∷ rest; begun = begun; view = view }) → IsTurn c (record { left = rest; begun = begun; view = record view { mail = mail; rows = rows } })
turn_read c begun view mail rows call rest behind each mail_first formed h =
    let new : View = record view { mail = mail; rows = rows } in
    turn_rest c begun view mail rows view.ideals call rest
    (unread_rest view new call each rest (call_no_more call rest (h.once call)) (and-second (is_unread view call) (list_all (is_unread view) rest) h.unread)) mail_first
    (ap (λ (b : Bool). is_well_formed c.models (length c.instances) (if b then new else beside new c)) behind ∙ formed)
    (λ e. let both = sym behind ∙ e in cc) (λ e. let both = sym behind ∙ e in cc) h

both_parts : (a b : Bool) → (a && not b) ≡ true → (a ≡ true) × (b ≡ false)
both_parts true false e = (refl, refl)
both_parts true true e = cc
both_parts false b e = cc

-- a session's mail is read
unread_mail : (c : Cluster) (view : View) (u : SessionId) (call : Call) → same_call (Mail u) call ≡ false → is_unread view call ≡ true → is_unread (with_mail c u view) call ≡ true
unread_mail c view u (Mail v) ne e =
    grind (arith, e, none_of_session (λ (x : Message). x.session) u v c.mail ne, any-append (λ (m : Message). m.session.0 == v.0) view.mail (mail_shown c u))
unread_mail c view u _ ne e = e

pub turn_mail : (c : Cluster) (begun : Begun) (view : View) (u : SessionId) (rest : List Call) → list_all has_no_fault c.models ≡ true → HasMail c
    → IsTurn c (record { left = Mail u ∷ rest; begun = begun; view = view }) → IsTurn c (record { left = rest; begun = begun; view = with_mail c u view })
turn_mail c begun view u rest sound mail h =
    let new = both_parts (is_shown view.live u) (list_any (λ m. m.session.0 == u.0) view.mail) (and-first (is_unread view (Mail u)) (list_all (is_unread view) rest) h.unread) in
    turn_read c begun view (view.mail ++ mail_shown c u) view.rows (Mail u) rest (unread_behind (Mail u) rest h.order u (grind (arith, same-self u.0))) (unread_mail c view u)
    (λ s e. h.mail_first s (weaker (same_call (Mail s) (Mail u)) (list_any (same_call (Mail s)) rest) e)) (formed_mail c view u sound mail new.0 new.1 h.well_formed) h

-- a session's states are read
unread_states : (c : Cluster) (view : View) (u : SessionId) (call : Call) → same_call (States u) call ≡ false → is_unread view call ≡ true → is_unread (with_states c u view) call ≡ true
unread_states c view u (States v) ne e =
    grind (arith, e, none_of_session (λ (x : Row). x.session) u v c.rows ne, any-append (λ (r : Row). r.session.0 == v.0) view.rows (states_shown c u))
unread_states c view u _ ne e = e

pub turn_states : (c : Cluster) (begun : Begun) (view : View) (u : SessionId) (rest : List Call) → HasRows c
    → IsTurn c (record { left = States u ∷ rest; begun = begun; view = view }) → IsTurn c (record { left = rest; begun = begun; view = with_states c u view })
turn_states c begun view u rest rows h =
    let new = both_parts (is_shown view.live u) (list_any (λ r. r.session.0 == u.0) view.rows) (and-first (is_unread view (States u)) (list_all (is_unread view) rest) h.unread) in
    turn_read c begun view view.mail (view.rows ++ states_shown c u) (States u) rest (unread_behind (States u) rest h.order u (grind (arith, same-self u.0))) (unread_states c view u)
    (λ s e. let both = sym (no_mail_behind (States u) rest s h.order refl) ∙ e in cc) (formed_states c view u rows new.0 new.1 h.well_formed) h

-- the ideals are read
either_way : (c : Cluster) (view : View) (b : Bool) → is_well_formed c.models (length c.instances) (beside view c) ≡ true
    → is_well_formed c.models (length c.instances) (if b then beside view c else beside (beside view c) c) ≡ true
either_way c view true e = e
either_way c view false e = e

pub turn_ideals : (c : Cluster) (begun : Begun) (view : View) (rest : List Call) → IsTurn c (record { left = Ideals ∷ rest; begun = begun; view = view })
    → IsTurn c (record { left = rest; begun = begun; view = beside view c })
turn_ideals c begun view rest h =
    turn_rest c begun view view.mail view.rows (ideals_shown c) Ideals rest h.unread (λ s e. let both = sym (no_mail_behind Ideals rest s h.order refl) ∙ e in cc)
    (either_way c view (is_first Send rest || is_first Post rest) h.well_formed)
    (λ e. front-self is_same_kind kind-self c.resources) (λ e. front-self has_same_replicas replicas-self c.resources) h

-- the proposals are sent
post_behind : (rest : List Call) → is_in_order (Send ∷ rest) ≡ true → (is_first Send rest || is_first Post rest) ≡ true
post_behind (Post ∷ rest) e = refl
post_behind _ e = cc

pub turn_send : (c : Cluster) (begun : Begun) (view : View) (rest : List Call) → IsTurn c (record { left = Send ∷ rest; begun = begun; view = view })
    → IsTurn c (record { left = rest; begun = begun; view = view })
turn_send c begun view rest h =
    turn_rest c begun view view.mail view.rows view.ideals Send rest h.unread (λ s e. let both = sym (no_mail_behind Send rest s h.order refl) ∙ e in cc)
    (ap (λ (b : Bool). is_well_formed c.models (length c.instances) (if b then view else beside view c)) (post_behind rest h.order) ∙ h.well_formed)
    (λ e. h.resources refl) (λ e. h.replicas refl) h
