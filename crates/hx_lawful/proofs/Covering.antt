-- What covers the board goes on covering it as events happen, but for dispatches.
use Rattle.std.proofs.Common.{◌≡◌, ◌+◌, ◌≤◌, ◌||◌, ◌==◌, not, Bool, true, false, List, [], ◌∷◌, length, filter, map, Option, Some, None, refl, sym, ap, ◌∙◌, subst, arith}
use Rattle.std.specs.Prelude.{if◌then◌else◌, nat_lt}
use Rattle.std.specs.List.{list_any, list_all}
use Rattle.std.specs.Option.{option_map_or}
use Rattle.std.proofs.lemmas.Bool.Decides.{nat_tests}
use Rattle.hx_lists.specs.Lists.{count, insert_by}
use Rattle.hx_ids.specs.declared.StateId.{StateId}
use Rattle.hx_ids.specs.declared.InstanceId.{InstanceId}
use Rattle.hx_ids.specs.declared.ControllerId.{ControllerId}
use Rattle.hx_ids.specs.declared.SessionId.{SessionId}
use Rattle.hx_ids.specs.declared.MsgId.{MsgId}
use Rattle.hx_ids.specs.declared.PartId.{PartId}
use Rattle.hx_ids.specs.declared.Live.{Live as LiveSession}
use Rattle.hx_model.specs.Model.{dropped}
use Rattle.hx_cluster.specs.declared.state.Row.{Row}
use Rattle.hx_cluster.specs.declared.state.Message.{Message}
use Rattle.hx_cluster.specs.declared.state.Cluster.{Cluster}
use Rattle.hx_cluster.specs.declared.happenings.Outcome.{Outcome}
use Rattle.hx_cluster.specs.declared.happenings.Admin.{Admin}
use Rattle.hx_cluster.specs.declared.happenings.Admin.TheVariants as steps
use Rattle.hx_cluster.specs.declared.happenings.Event.{Event}
use Rattle.hx_cluster.specs.declared.happenings.Event.TheVariants as events
use Rattle.hx_cluster.specs.Ends.{part_eq, is_row, is_message, is_session, is_live, is_shown, state_of, message_of}
use Rattle.hx_cluster.specs.Steps.{is_leader, after, ended_by, live_of, without, without_all, ended_of, beaten_of, asked_of}
use Rattle.hx_cluster.specs.Reads.{ideals_shown}
use Rattle.hx_cluster.specs.Messages.{is_same, pending_of, row_before, restated, row_put, state_after, has_id, written_of}
use Rattle.hx_cluster.specs.Events.{next}
use Rattle.hx_cluster.specs.Safe.{is_row_written, is_pending, is_kept}
use Rattle.hx_cluster.specs.Views.{is_good_message}
use Rattle.hx_pass.specs.Turns.{Mail, States, Turn}
use Rattle.hx_safe.proofs.Counting.{and-first, and-second, and-both, count-none, all-le, all-map, all-filter, all-insert, all-find, find-passes, none-find}
use Rattle.hx_safe.proofs.Models.{state_same}
use Rattle.hx_safe.proofs.Ends.{session_same, part_same, same-self}
use Rattle.hx_safe.proofs.Kept.{IsKept, number-below}
use Rattle.hx_safe.proofs.Beside.{beside_step, beside_pass}
use Rattle.hx_safe.proofs.Whole.{IsWhole}
use Rattle.hx_safe.specs.Onward.{IsOn}
use Rattle.hx_safe.specs.Calm.{is_among, is_same_state, has_stayed, is_dispatch, IsCalm}
use Rattle.hx_safe.proofs.On.{on_next}
use Rattle.hx_safe.proofs.Calming.{calm_next}
use Rattle.hx_safe.proofs.Mail.{all_quiet}
use Rattle.hx_safe.proofs.Waiting.{any-single, any-le, any-one}
use Rattle.hx_lawful.specs.Reading.{is_read, view_with, IsTurn}
use Rattle.hx_lawful.specs.Covers.{begins_by, is_left, has_mail, has_states, has_nothing, is_shown_or_bare, is_shown_of, IsCovered}
use Rattle.hx_lawful.proofs.Fits.{message_once}
use Rattle.hx_lawful.proofs.Sorting.{none-all, each_there}
use Rattle.hx_lawful.proofs.Viewing.{good_view}

-- none fails what each passes
all-none : {X : Type 0} (q : X → Bool) (xs : List X) → list_all (λ x. not (q x)) xs ≡ true → list_any q xs ≡ false
all-none q [] e = refl
all-none q (x ∷ xs) e = grind (arith, e, all-none q xs)

-- no row of a session comes where it has no message
no_row_put : (s u : SessionId) (p : PartId) (st : StateId) (rows : List Row) → (u.0 == s.0) ≡ false → list_all (λ r. not (r.session.0 == s.0)) rows ≡ true
    → list_all (λ r. not (r.session.0 == s.0)) (row_put rows u p st) ≡ true
no_row_put s u p st rows ne all = one (st.0 == dropped.0) (list_any (is_row u p) rows)
  where
    q : Row → Bool
    q r = not (r.session.0 == s.0)

    each : (r : Row) (b : Bool) → not (r.session.0 == s.0) ≡ true → not ((if b then record r { state = st } else r).session.0 == s.0) ≡ true
    each r true e = e
    each r false e = e

    one : (gone there : Bool)
        → list_all (λ r. not (r.session.0 == s.0)) (if gone then filter (λ r. not (is_row u p r)) rows else if there then map (restated u p st) rows else insert_by row_before (record { session = u; part = p; state = st }) rows) ≡ true
    one true there = all-filter (λ r. not (r.session.0 == s.0)) (λ r. not (is_row u p r)) rows all
    one false true =
        all-map (λ r. not (r.session.0 == s.0)) (restated u p st) rows
        ∙ all-le (λ r. not (r.session.0 == s.0)) (λ r. not ((restated u p st r).session.0 == s.0)) (λ r e. each r (is_row u p r) e) rows all
    one false false =
        all-insert (λ r. not (r.session.0 == s.0)) row_before (record { session = u; part = p; state = st }) rows
        ∙ and-both (not (u.0 == s.0)) (list_all (λ r. not (r.session.0 == s.0)) rows) (ap not ne) all

no_row_all : (s : SessionId) (c : Cluster) (ss : List SessionId) → list_all (λ r. not (r.session.0 == s.0)) c.rows ≡ true → list_all (λ r. not (r.session.0 == s.0)) (without_all c ss).rows ≡ true
no_row_all s c [] all = all
no_row_all s c (u ∷ ss) all = no_row_all s (without c u) ss (all-filter (λ r. not (r.session.0 == s.0)) (λ r. not (r.session.0 == u.0)) c.rows all)

no_row_end : (s : SessionId) (c : Cluster) (o : Option LiveSession) → list_all (λ r. not (r.session.0 == s.0)) c.rows ≡ true → list_all (λ r. not (r.session.0 == s.0)) (ended_of c o).rows ≡ true
no_row_end s c None all = all
no_row_end s c (Some l) all = all-filter (λ r. not (r.session.0 == s.0)) (λ r. not (r.session.0 == l.session.0)) c.rows all

no_row_beat : (s : SessionId) (c : Cluster) (o : Option LiveSession) → list_all (λ r. not (r.session.0 == s.0)) c.rows ≡ true → list_all (λ r. not (r.session.0 == s.0)) (beaten_of c o).rows ≡ true
no_row_beat s c None all = all
no_row_beat s c (Some l) all = all

no_row_asked : (s : SessionId) (c : Cluster) (p : PartId) (o : Option LiveSession) → list_all (λ r. not (r.session.0 == s.0)) c.rows ≡ true → list_all (λ r. not (r.session.0 == s.0)) (asked_of c p o).rows ≡ true
no_row_asked s c p None all = all
no_row_asked s c p (Some l) all = all

no_row_step : (s : SessionId) (c : Cluster) (step : Admin) → list_all (λ r. not (r.session.0 == s.0)) c.rows ≡ true → list_all (λ r. not (r.session.0 == s.0)) (after c step).rows ≡ true
no_row_step s c (steps.Join i) all = all
no_row_step s c (steps.End i) all = no_row_end s c (live_of c.live i) all
no_row_step s c (steps.Beat i) all = no_row_beat s c (live_of c.live i) all
no_row_step s c (steps.Tick n) all = no_row_all s (record c { clock = c.clock + n }) (ended_by c n) all
no_row_step s c (steps.Reset i p) all = no_row_asked s c p (live_of c.live i) all
no_row_step s c step all = ap (list_all (λ r. not (r.session.0 == s.0))) (beside_step c step refl).rows ∙ all

no_row_written : (s : SessionId) (c : Cluster) (u : SessionId) (id : MsgId) (outcome : Outcome) (o : Option Message) → pending_of c u id ≡ o → list_all (λ m. not (m.session.0 == s.0)) c.mail ≡ true
    → list_all (λ r. not (r.session.0 == s.0)) c.rows ≡ true → list_all (λ r. not (r.session.0 == s.0)) (written_of c u id outcome o).rows ≡ true
no_row_written s c u id outcome None found mail all = all
no_row_written s c u id outcome (Some m) found mail all =
    no_row_put s m.session m.part (state_after m outcome) c.rows (turned (m.session.0 == s.0) (all-find (λ x. not (x.session.0 == s.0)) (has_id u id) c.mail m mail found)) all
  where
    turned : (b : Bool) → not b ≡ true → b ≡ false
    turned true e = cc
    turned false e = refl

no_row_next : (s : SessionId) (c : Cluster) (e : Event) → is_dispatch e ≡ false → list_all (λ m. not (m.session.0 == s.0)) c.mail ≡ true
    → list_all (λ r. not (r.session.0 == s.0)) c.rows ≡ true → list_all (λ r. not (r.session.0 == s.0)) (next c e).rows ≡ true
no_row_next s c (events.Admin step did) quiet mail all = no_row_step s c step all
no_row_next s c (events.Begin k begun) quiet mail all = ap (list_all (λ r. not (r.session.0 == s.0))) (beside_pass c k).rows ∙ all
no_row_next s c (events.Dispatch k epoch pass proposals answer) quiet mail all = cc
no_row_next s c (events.Write u id outcome) quiet mail all = no_row_written s c u id outcome (pending_of c u id) refl mail all
no_row_next s c _ quiet mail all = all

-- a session without rows and messages stays so
bare_from : (c : Cluster) (s : SessionId) → list_all (λ r. not (r.session.0 == s.0)) c.rows ≡ true → list_all (λ m. not (m.session.0 == s.0)) c.mail ≡ true → has_nothing c s ≡ true
bare_from c s rows mail =
    and-both (not (list_any (λ r. r.session.0 == s.0) c.rows)) (not (list_any (λ m. m.session.0 == s.0) c.mail))
    (ap not (all-none (λ (r : Row). r.session.0 == s.0) c.rows rows)) (ap not (all-none (λ (m : Message). m.session.0 == s.0) c.mail mail))

pub none_if : (b : Bool) → not b ≡ true → b ≡ false
none_if true e = cc
none_if false e = refl

bare_next : (s : SessionId) (c : Cluster) (e : Event) → is_dispatch e ≡ false → has_nothing c s ≡ true → has_nothing (next c e) s ≡ true
bare_next s c e quiet bare =
    let rows = none-all (λ (r : Row). r.session.0 == s.0) c.rows (none_if (list_any (λ r. r.session.0 == s.0) c.rows)
    (and-first (not (list_any (λ r. r.session.0 == s.0) c.rows)) (not (list_any (λ m. m.session.0 == s.0) c.mail)) bare)) in
    let mail = none-all (λ (m : Message). m.session.0 == s.0) c.mail (none_if (list_any (λ m. m.session.0 == s.0) c.mail)
    (and-second (not (list_any (λ r. r.session.0 == s.0) c.rows)) (not (list_any (λ m. m.session.0 == s.0) c.mail)) bare)) in
    bare_from (next c e) s (no_row_next s c e quiet mail rows)
    (all_quiet (λ m. not (m.session.0 == s.0)) (record { taken = λ m w. w; written = λ m w. w }) c e quiet mail)

-- and a session with a new number has none
bare_new : (s : SessionId) (c : Cluster) → IsKept c → nat_lt s.0 c.next_session ≡ false → has_nothing c s ≡ true
bare_new s c k new =
    bare_from c s
    (all-le (is_kept c) (λ r. not (r.session.0 == s.0)) (λ r e. other r.session (live_row r e)) c.rows k.rows.kept)
    (all-le (is_pending c) (λ m. not (m.session.0 == s.0)) (λ m e. other m.session (live_message m e)) c.mail k.mail.pending)
  where
    live_row : (r : Row) → is_kept c r ≡ true → is_live c.live r.session ≡ true
    live_row r e = grind (arith, e)

    live_message : (m : Message) → is_pending c m ≡ true → is_live c.live m.session ≡ true
    live_message m e = grind (arith, e)

    other : (u : SessionId) → is_live c.live u ≡ true → not (u.0 == s.0) ≡ true
    other u live = let low = number-below c.next_session u c.live k.below live in grind (arith, nat_tests, low, new)

-- at most one shown message is of a session's part
pub shown_once : (c : Cluster) (t : Turn) → IsTurn c t → (s : SessionId) (p : PartId) → count (is_message s p) t.view.mail ≤ 1
shown_once c t h s p = one (list_any (is_message s p) t.view.mail) refl
  where
    view_mail : (d : Bool) → (if d then t.view else record t.view { ideals = ideals_shown c }).mail ≡ t.view.mail
    view_mail true = refl
    view_mail false = refl

    each : list_all (λ m. count (is_message m.session m.part) t.view.mail == 1) t.view.mail ≡ true
    each =
        let good = (good_view c.models (length c.instances) (view_with c t) h.well_formed).mail in
        subst (λ (ms : List Message). list_all (λ m. count (is_message m.session m.part) ms == 1) ms ≡ true) (view_mail (is_read t))
        (all-le (is_good_message c.models (view_with c t)) (λ m. count (is_message m.session m.part) (view_with c t).mail == 1) (λ m w. message_once c.models (view_with c t) m w) (view_with c t).mail good)

    one : (b : Bool) → list_any (is_message s p) t.view.mail ≡ b → count (is_message s p) t.view.mail ≤ 1
    one false is = let none = count-none (is_message s p) t.view.mail is in omega (arith, none)
    one true is =
        let found = any-one (is_message s p) t.view.mail is in
        let x = found.0 in
        let once = found.2 (λ m. count (is_message m.session m.part) t.view.mail == 1) each in
        let session = session_same x.session s (and-first (x.session.0 == s.0) (part_eq x.part p) found.1) in
        let part = part_same x.part p (and-second (x.session.0 == s.0) (part_eq x.part p) found.1) in
        let here : (count (is_message s p) t.view.mail == 1) ≡ true
        = subst (λ (q : PartId). (count (is_message s q) t.view.mail == 1) ≡ true) part (subst (λ (u : SessionId). (count (is_message u x.part) t.view.mail == 1) ≡ true) session once) in
        grind (arith, nat_tests, here)

-- a pending message that was shown is the one that was shown of its replica
same_replica : (m x : Message) (s : SessionId) (p : PartId) → is_message s p m ≡ true → is_same m x ≡ true → is_message s p x ≡ true
same_replica m x s p at same =
    let session : (m.session.0 == x.session.0) ≡ true = grind (arith, same) in
    let part : part_eq m.part x.part ≡ true = grind (arith, same) in
    grind (arith, nat_tests, at, session, part)

pub shown_message : (mail : List Message) (m : Message) (s : SessionId) (p : PartId) → is_message s p m ≡ true → is_among mail m ≡ true → count (is_message s p) mail ≤ 1
    → (y : Message) × (message_of mail s p ≡ Some y) × (is_same m y ≡ true)
shown_message mail m s p at among single = one (message_of mail s p) refl
  where
    all : list_all (λ x. not (is_message s p x) || is_same m x) mail ≡ true
    all = any-single (is_same m) (is_message s p) (is_same m) (λ x w. same_replica m x s p at w) (λ x w. w) mail among single

    second : (a b : Bool) → (not a || b) ≡ true → a ≡ true → b ≡ true
    second true b e w = e
    second false b e w = cc

    one : (o : Option Message) → message_of mail s p ≡ o → (y : Message) × (message_of mail s p ≡ Some y) × (is_same m y ≡ true)
    one None is =
        let none = none-find (is_message s p) mail is in
        let there = any-le (is_same m) (is_message s p) (λ x w. same_replica m x s p at w) mail among in
        absurd (no (sym none ∙ there))
      where
        no : false ≡ true → ⊥
        no e = cc
    one (Some y) is =
        (y, is, second (is_message s p y) (is_same m y) (all-find (λ x. not (is_message s p x) || is_same m x) (is_message s p) mail y all is) (find-passes (is_message s p) mail y is))

-- where a message put its replica, one that is the same did
written_alike : (m y : Message) (now : Option StateId) → is_same m y ≡ true → is_row_written m now ≡ true → is_row_written y now ≡ true
written_alike m y None same e = let to : (m.to.0 == y.to.0) ≡ true = grind (arith, same) in grind (arith, nat_tests, to, e)
written_alike m y (Some t) same e = let to : (m.to.0 == y.to.0) ≡ true = grind (arith, same) in grind (arith, nat_tests, to, e)

pub state_alike : (a b : Option StateId) → is_same_state a b ≡ true → a ≡ b
state_alike None None e = refl
state_alike (Some s) (Some t) e = ap (λ (x : StateId). Some x) (state_same s t e)
state_alike None (Some t) e = cc
state_alike (Some s) None e = cc

-- a replica that stayed, and stayed again
stayed_again : (now mid old : Option StateId) (o v : Option Message) → ((m : Message) → o ≡ Some m → is_row_written m now ≡ true → (y : Message) × (v ≡ Some y) × (is_same m y ≡ true))
    → has_stayed now mid o ≡ true → has_stayed mid old v ≡ true → has_stayed now old v ≡ true
stayed_again now mid old o v shown one two = split (is_same_state now mid) refl
  where
    put : (m : Message) → o ≡ Some m → is_row_written m now ≡ true → has_stayed now old v ≡ true
    put m is written =
        let found = shown m is written in
        let there : is_row_written found.0 now ≡ true = written_alike m found.0 now found.2 written in
        subst (λ (w : Option Message). has_stayed now old w ≡ true) (sym found.1) (last (is_same_state now old) (is_row_written found.0 now) there)
      where
        last : (a b : Bool) → b ≡ true → (a || b) ≡ true
        last true b e = refl
        last false b e = e

    moved : (w : Option Message) → o ≡ w → option_map_or (λ x. is_row_written x now) w false ≡ true → has_stayed now old v ≡ true
    moved None is e = cc
    moved (Some m) is e = put m is e

    rest : (a b : Bool) → (a || b) ≡ true → a ≡ false → b ≡ true
    rest true b e w = cc
    rest false b e w = e

    split : (b : Bool) → is_same_state now mid ≡ b → has_stayed now old v ≡ true
    split true is = subst (λ (x : Option StateId). has_stayed x old v ≡ true) (sym (state_alike now mid is)) two
    split false is = moved o refl (rest (is_same_state now mid) (option_map_or (λ x. is_row_written x now) o false) one is)

-- a read that shows nothing new of a session
pub live_of_all : (f : SessionId → Bool) (live : List LiveSession) (s : SessionId) → list_all (λ l. f l.session) live ≡ true → is_live live s ≡ true → f s ≡ true
live_of_all f [] s all e = cc
live_of_all f (l ∷ live) s all e = one (is_session s l) refl e (λ w. live_of_all f live s (and-second (f l.session) (list_all (λ x. f x.session) live) all) w)
  where
    one : (b : Bool) → is_session s l ≡ b → (b || is_live live s) ≡ true → (is_live live s ≡ true → f s ≡ true) → f s ≡ true
    one true is w rest = subst (λ (u : SessionId). f u ≡ true) (session_same l.session s is) (and-first (f l.session) (list_all (λ x. f x.session) live) all)
    one false is w rest = rest w

pub live_all : (f : SessionId → Bool) (live : List LiveSession) → ((s : SessionId) → is_live live s ≡ true → f s ≡ true) → list_all (λ l. f l.session) live ≡ true
live_all f live h =
    all-le (λ l. is_live live l.session) (λ l. f l.session) (λ l e. h l.session e) live
    (each_there (λ (l x : LiveSession). x.session.0 == l.session.0) (λ l. same-self l.session.0) live)

-- the calls that are left, and the sessions whose mail was read
mail_read : (c : Cluster) (t : Turn) → IsTurn c t → (s : SessionId) → has_states t s ≡ true → has_mail t s ≡ true
mail_read c t h s e =
    let shown = and-first (is_shown t.view.live s) (not (is_left t (States s))) e in
    let states = none_if (is_left t (States s)) (and-second (is_shown t.view.live s) (not (is_left t (States s))) e) in
    and-both (is_shown t.view.live s) (not (is_left t (Mail s))) shown (ap not (one (is_left t (Mail s)) refl states))
  where
    one : (b : Bool) → is_left t (Mail s) ≡ b → is_left t (States s) ≡ false → b ≡ false
    one true is none = sym (h.mail_first s is) ∙ none
    one false is none = refl

-- a quiet event, where the turn stays as it was
pub covered_calm : (c : Cluster) (k : ControllerId) (t : Turn) (begun : List Message) (h more : List Event) (e : Event) → IsWhole c → IsTurn c t → is_dispatch e ≡ false
    → is_leader k (next c e).leader ≡ true → list_all (begins_by k (next c e).epoch) more ≡ true → IsCovered c k t begun h → IsCovered (next c e) k t begun more
covered_calm c k t begun h more e w turn quiet leads begins cov =
    let d = next c e in
    let on = on_next c e w.kept.numbers in
    let calm = calm_next c e w.kept.mail quiet in
    record {
      leads = leads;
      begins = begins;
      pending = all_quiet (is_among begun) (record { taken = λ m v. v; written = λ m v. v }) c e quiet cov.pending;
      unshown = λ read. live_all (λ s. is_shown t.view.live s || has_nothing d s) d.live (λ s live. shown_or_bare on (cov.unshown read) s live);
      mail = λ s read. all_quiet (is_shown_of s t.view.mail) (record { taken = λ m v. v; written = λ m v. v }) c e quiet (cov.mail s read);
      rows = λ s p read live. stayed on calm s p read live;
    }
  where
    either : (a b d : Bool) → (b ≡ true → d ≡ true) → (a || b) ≡ true → (a || d) ≡ true
    either true b d f v = refl
    either false b d f v = f v

    last : (a b : Bool) → b ≡ true → (a || b) ≡ true
    last true b v = refl
    last false b v = v

    shown_or_bare : IsOn c (next c e) → list_all (is_shown_or_bare c t) c.live ≡ true → (s : SessionId) → is_live (next c e).live s ≡ true
        → (is_shown t.view.live s || has_nothing (next c e) s) ≡ true
    shown_or_bare on all s live = one (nat_lt s.0 c.next_session) refl
      where
        one : (b : Bool) → nat_lt s.0 c.next_session ≡ b → (is_shown t.view.live s || has_nothing (next c e) s) ≡ true
        one true low =
            either (is_shown t.view.live s) (has_nothing c s) (has_nothing (next c e) s) (λ bare. bare_next s c e quiet bare)
            (live_of_all (λ u. is_shown t.view.live u || has_nothing c u) c.live s all (on.live s low live))
        one false new = last (is_shown t.view.live s) (has_nothing (next c e) s) (bare_next s c e quiet (bare_new s c w.kept new))

    old : (shown : List (SessionId × InstanceId)) (s : SessionId) → list_all (λ x. nat_lt x.0.0 c.next_session) shown ≡ true → is_shown shown s ≡ true → nat_lt s.0 c.next_session ≡ true
    old [] s all v = cc
    old (x ∷ xs) s all v = grind (arith, nat_tests, all, v, old xs s (and-second (nat_lt x.0.0 c.next_session) (list_all (λ y. nat_lt y.0.0 c.next_session) xs) all))

    stayed : IsOn c (next c e) → IsCalm c (next c e) → (s : SessionId) (p : PartId) → has_states t s ≡ true → is_live (next c e).live s ≡ true
        → has_stayed (state_of (next c e).rows s p) (state_of t.view.rows s p) (message_of t.view.mail s p) ≡ true
    stayed on calm s p read live =
        let shown = and-first (is_shown t.view.live s) (not (is_left t (States s))) read in
        let before : is_live c.live s ≡ true = on.live s (old t.view.live s turn.below shown) live in
        let mail = cov.mail s (mail_read c t turn s read) in
        stayed_again (state_of (next c e).rows s p) (state_of c.rows s p) (state_of t.view.rows s p) (message_of c.mail s p) (message_of t.view.mail s p)
        (λ m found written. there mail m found) (calm.rows s p live) (cov.rows s p read before)
      where
        among : (a b : Bool) → (not a || b) ≡ true → a ≡ true → b ≡ true
        among true b v u = v
        among false b v u = cc

        there : list_all (is_shown_of s t.view.mail) c.mail ≡ true → (m : Message) → message_of c.mail s p ≡ Some m
            → (y : Message) × (message_of t.view.mail s p ≡ Some y) × (is_same m y ≡ true)
        there mail m found =
            let at : is_message s p m ≡ true = find-passes (is_message s p) c.mail m found in
            let shown : is_shown_of s t.view.mail m ≡ true = all-find (is_shown_of s t.view.mail) (is_message s p) c.mail m mail found in
            let in_view = among (m.session.0 == s.0) (is_among t.view.mail m) shown (and-first (m.session.0 == s.0) (part_eq m.part p) at) in
            shown_message t.view.mail m s p at in_view (shown_once c t turn s p)
