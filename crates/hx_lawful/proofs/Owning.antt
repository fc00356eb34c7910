-- What covers the board goes on covering it as its controller begins and reads.
use Rattle.std.proofs.Common.{◌≡◌, ◌&&◌, ◌||◌, ◌==◌, not, Bool, true, false, List, [], ◌∷◌, ◌++◌, filter, find, Option, Some, None, refl, sym, ap, ◌∙◌, subst, arith}
use Rattle.std.specs.Prelude.{if◌then◌else◌}
use Rattle.std.specs.List.{list_any, list_all}
use Rattle.std.specs.Option.{option_map, option_map_or, option_or}
use Rattle.std.proofs.lemmas.Bool.Decides.{nat_tests}
use Rattle.std.proofs.lemmas.List.Folds.{find-append}
use Rattle.hx_lists.specs.Lists.{insert_by, sort_by}
use Rattle.hx_ids.specs.declared.StateId.{StateId}
use Rattle.hx_ids.specs.declared.InstanceId.{InstanceId}
use Rattle.hx_ids.specs.declared.ControllerId.{ControllerId}
use Rattle.hx_ids.specs.declared.SessionId.{SessionId}
use Rattle.hx_ids.specs.declared.PartId.{PartId}
use Rattle.hx_cluster.specs.declared.state.Row.{Row}
use Rattle.hx_cluster.specs.declared.state.Message.{Message}
use Rattle.hx_cluster.specs.declared.state.Cluster.{Cluster}
use Rattle.hx_cluster.specs.declared.planning.View.{View}
use Rattle.hx_cluster.specs.declared.happenings.Begun.{Begun}
use Rattle.hx_cluster.specs.declared.happenings.Event.{Event}
use Rattle.hx_cluster.specs.Ends.{part_eq, is_row, is_message, is_live, is_shown, shown_of, state_of, message_of}
use Rattle.hx_cluster.specs.Steps.{is_leader}
use Rattle.hx_cluster.specs.Reads.{instance_before, live_shown, mail_shown, states_shown}
use Rattle.hx_cluster.specs.Messages.{is_same, next_pass}
use Rattle.hx_cluster.specs.Safe.{is_row_written}
use Rattle.hx_cluster.proofs.Shown.{shown_is_live}
use Rattle.hx_pass.specs.Turns.{Call, Mail, States, Ideals, Turn, begun_turn, with_live}
use Rattle.hx_safe.proofs.Counting.{and-first, and-both, any-append, all-le, find-none, none-from-all}
use Rattle.hx_safe.proofs.Ends.{session_same, find-filter_kept}
use Rattle.hx_safe.proofs.Beside.{beside_pass}
use Rattle.hx_safe.specs.Calm.{is_among, is_same_state, has_stayed}
use Rattle.hx_safe.proofs.Calming.{same_self, among_self, stayed_same}
use Rattle.hx_lawful.specs.Covers.{begins_by, is_left, has_mail, has_states, has_nothing, is_shown_of, IsCovered}
use Rattle.hx_lawful.proofs.Calls.{mail_left, states_left}
use Rattle.hx_lawful.proofs.Sorting.{none-all, all-passed}
use Rattle.hx_lawful.proofs.Viewing.{beside, with_mail, with_states}
use Rattle.hx_lawful.proofs.Covering.{live_all}

-- a begin
pub covered_begin : (c : Cluster) (k : ControllerId) (begun : Begun) (more : List Event) → is_leader k (next_pass c k).leader ≡ true
    → list_all (begins_by k (next_pass c k).epoch) more ≡ true → IsCovered (next_pass c k) k (begun_turn begun) c.mail more
covered_begin c k begun more leads begins = record {
  leads = leads;
  begins = begins;
  pending = ap (list_all (is_among c.mail)) (beside_pass c k).mail ∙ among_self c.mail;
  unshown = λ e. cc;
  mail = λ s e. cc;
  rows = λ s p e live. cc;
}

-- live
any-insert : {X : Type 0} (p : X → Bool) (before : X → X → Bool) (x : X) (xs : List X) → list_any p (insert_by before x xs) ≡ list_any p (x ∷ xs)
any-insert p before x [] = refl
any-insert p before x (y ∷ xs) = grind (arith, any-insert p before x xs)

any-sort : {X : Type 0} (p : X → Bool) (before : X → X → Bool) (xs : List X) → list_any p (sort_by before xs) ≡ list_any p xs
any-sort p before [] = refl
any-sort p before (x ∷ xs) = grind (arith, any-insert p before x (sort_by before xs), any-sort p before xs)

pub covered_live : (c : Cluster) (k : ControllerId) (t : Turn) (begun : List Message) (h more : List Event) → list_all (begins_by k c.epoch) more ≡ true
    → IsCovered c k t begun h → IsCovered c k (with_live c t) begun more
covered_live c k t begun h more begins cov = record {
  leads = cov.leads;
  begins = begins;
  pending = cov.pending;
  unshown = λ read. live_all (λ s. is_shown (live_shown c) s || has_nothing c s) c.live (λ s live. first (is_shown (live_shown c) s) (has_nothing c s) (shown s live));
  mail = λ s e. absurd (never (is_shown (live_shown c) s) (is_left (with_live c t) (Mail s)) (mail_left (live_shown c) s) e);
  rows = λ s p e live. absurd (never (is_shown (live_shown c) s) (is_left (with_live c t) (States s)) (states_left (live_shown c) s) e);
}
  where
    first : (a b : Bool) → a ≡ true → (a || b) ≡ true
    first true b e = refl
    first false b e = cc

    shown : (s : SessionId) → is_live c.live s ≡ true → is_shown (live_shown c) s ≡ true
    shown s live = any-sort (λ (e : SessionId × InstanceId). e.0.0 == s.0) instance_before (shown_of c.live) ∙ shown_is_live c.live s ∙ live

    never : (a b : Bool) → b ≡ a → (a && not b) ≡ true → ⊥
    never true true same e = cc
    never true false same e = cc
    never false b same e = cc

-- a session's mail
filtered : (u : SessionId) (mail : List Message) → list_all (is_shown_of u (filter (λ m. m.session.0 == u.0) mail)) mail ≡ true
filtered u [] = refl
filtered u (x ∷ mail) = one (x.session.0 == u.0) refl (filtered u mail)
  where
    more : (m : Message) → is_shown_of u (filter (λ y. y.session.0 == u.0) mail) m ≡ true → is_shown_of u (x ∷ filter (λ y. y.session.0 == u.0) mail) m ≡ true
    more m e = weak (m.session.0 == u.0) (is_among (filter (λ y. y.session.0 == u.0) mail) m) (is_same m x) e
      where
        weak : (a b d : Bool) → (not a || b) ≡ true → (not a || (d || b)) ≡ true
        weak true true true e = refl
        weak true true false e = refl
        weak true false d e = cc
        weak false b d e = refl

    one : (b : Bool) → (x.session.0 == u.0) ≡ b → list_all (is_shown_of u (filter (λ y. y.session.0 == u.0) mail)) mail ≡ true
        → list_all (is_shown_of u (if b then x ∷ filter (λ y. y.session.0 == u.0) mail else filter (λ y. y.session.0 == u.0) mail)) (x ∷ mail) ≡ true
    one true is rest =
        and-both (is_shown_of u (x ∷ filter (λ y. y.session.0 == u.0) mail) x) (list_all (is_shown_of u (x ∷ filter (λ y. y.session.0 == u.0) mail)) mail)
        (here (x.session.0 == u.0) (is_same x x) (is_among (filter (λ y. y.session.0 == u.0) mail) x) (same_self x))
        (all-le (is_shown_of u (filter (λ y. y.session.0 == u.0) mail)) (is_shown_of u (x ∷ filter (λ y. y.session.0 == u.0) mail)) more mail rest)
      where
        here : (a d b : Bool) → d ≡ true → (not a || (d || b)) ≡ true
        here true true b e = refl
        here false true b e = refl
        here a false b e = cc
    one false is rest =
        and-both (is_shown_of u (filter (λ y. y.session.0 == u.0) mail) x) (list_all (is_shown_of u (filter (λ y. y.session.0 == u.0) mail)) mail)
        (out (x.session.0 == u.0) (is_among (filter (λ y. y.session.0 == u.0) mail) x) is) rest
      where
        out : (a b : Bool) → a ≡ false → (not a || b) ≡ true
        out true b e = cc
        out false b e = refl

shown_more : (s : SessionId) (old new : List Message) (m : Message) → (is_shown_of s old m || is_shown_of s new m) ≡ true → is_shown_of s (old ++ new) m ≡ true
shown_more s old new m e = one (m.session.0 == s.0) (is_among old m) (is_among new m) (any-append (is_same m) old new) e
  where
    one : (a b d : Bool) → {f : Bool} → f ≡ (b || d) → ((not a || b) || (not a || d)) ≡ true → (not a || f) ≡ true
    one true b d is e = is ∙ e
    one false b d is e = refl

stayed_more : (now old : Option StateId) (o more : Option Message) → has_stayed now old o ≡ true → has_stayed now old (option_or o more) ≡ true
stayed_more now old (Some m) more e = e
stayed_more now old None more e = first (is_same_state now old) (option_map_or (λ x. is_row_written x now) more false) e
  where
    first : (a b : Bool) → (a || false) ≡ true → (a || b) ≡ true
    first true b e = refl
    first false b e = cc

pub covered_mail : (c : Cluster) (k : ControllerId) (u : SessionId) (rest : List Call) (opened : Begun) (view : View) (begun : List Message) (h more : List Event)
    → list_all (begins_by k c.epoch) more ≡ true → IsCovered c k (record { left = Mail u ∷ rest; begun = opened; view = view }) begun h
    → IsCovered c k (record { left = rest; begun = opened; view = with_mail c u view }) begun more
covered_mail c k u rest opened view begun h more begins cov = record {
  leads = cov.leads;
  begins = begins;
  pending = cov.pending;
  unshown = cov.unshown;
  mail = λ s read. mail s (s.0 == u.0) refl read;
  rows = λ s p read live.
      let was = cov.rows s p read live in
      subst (λ (o : Option Message). has_stayed (state_of c.rows s p) (state_of view.rows s p) o ≡ true) (sym (find-append (is_message s p) view.mail (mail_shown c u)))
      (stayed_more (state_of c.rows s p) (state_of view.rows s p) (message_of view.mail s p) (message_of (mail_shown c u) s p) was);
}
  where
    left : (a b : Bool) → a ≡ true → (a || b) ≡ true
    left true b e = refl
    left false b e = cc

    right : (a b : Bool) → b ≡ true → (a || b) ≡ true
    right true b e = refl
    right false b e = e

    mail : (s : SessionId) (b : Bool) → (s.0 == u.0) ≡ b → has_mail (record { left = rest; begun = opened; view = with_mail c u view }) s ≡ true
        → list_all (is_shown_of s (view.mail ++ mail_shown c u)) c.mail ≡ true
    mail s true is read =
        subst (λ (v : SessionId). list_all (is_shown_of v (view.mail ++ mail_shown c u)) c.mail ≡ true) (sym (session_same s u is))
        (all-le (is_shown_of u (mail_shown c u)) (is_shown_of u (view.mail ++ mail_shown c u))
        (λ m e. shown_more u view.mail (mail_shown c u) m (right (is_shown_of u view.mail m) (is_shown_of u (mail_shown c u) m) e)) c.mail (filtered u c.mail))
    mail s false is read =
        let before : has_mail (record { left = Mail u ∷ rest; begun = opened; view = view }) s ≡ true = grind (arith, is, read) in
        all-le (is_shown_of s view.mail) (is_shown_of s (view.mail ++ mail_shown c u))
        (λ m e. shown_more s view.mail (mail_shown c u) m (left (is_shown_of s view.mail m) (is_shown_of s (mail_shown c u) m) e)) c.mail (cov.mail s before)

-- a session's states
or_none : {X : Type 0} (a b : Option X) → b ≡ None → option_or a b ≡ a
or_none None b e = e
or_none (Some x) b e = refl

or_second : {X : Type 0} (a b : Option X) → a ≡ None → option_or a b ≡ b
or_second None b e = refl
or_second (Some x) b e = cc

pub covered_states : (c : Cluster) (k : ControllerId) (u : SessionId) (rest : List Call) (opened : Begun) (view : View) (begun : List Message) (h more : List Event)
    → list_any (λ r. r.session.0 == u.0) view.rows ≡ false
    → list_all (begins_by k c.epoch) more ≡ true → IsCovered c k (record { left = States u ∷ rest; begun = opened; view = view }) begun h
    → IsCovered c k (record { left = rest; begun = opened; view = with_states c u view }) begun more
covered_states c k u rest opened view begun h more unread begins cov = record {
  leads = cov.leads;
  begins = begins;
  pending = cov.pending;
  unshown = cov.unshown;
  mail = cov.mail;
  rows = λ s p read live. rows s p (s.0 == u.0) refl read live;
}
  where
    here : (p : PartId) → state_of (view.rows ++ states_shown c u) u p ≡ state_of c.rows u p
    here p =
        let none : find (is_row u p) view.rows ≡ None = find-none (is_row u p) view.rows
        (none-from-all (λ r. not (r.session.0 == u.0)) (is_row u p) (λ r e. out r (r.session.0 == u.0) (part_eq r.part p) e) view.rows (none-all (λ r. r.session.0 == u.0) view.rows unread)) in
        ap (option_map (λ r. r.state)) (find-append (is_row u p) view.rows (states_shown c u)
        ∙ or_second (find (is_row u p) view.rows) (find (is_row u p) (states_shown c u)) none
        ∙ find-filter_kept (is_row u p) (λ r. r.session.0 == u.0) (λ r e. and-first (r.session.0 == u.0) (part_eq r.part p) e) c.rows)
      where
        out : (r : Row) (a b : Bool) → not a ≡ true → (a && b) ≡ false
        out r true b e = cc
        out r false b e = refl

    there : (s : SessionId) (p : PartId) → (s.0 == u.0) ≡ false → state_of (view.rows ++ states_shown c u) s p ≡ state_of view.rows s p
    there s p ne =
        let none : find (is_row s p) (states_shown c u) ≡ None = find-none (is_row s p) (states_shown c u)
        (none-from-all (λ r. r.session.0 == u.0) (is_row s p) (λ r e. grind (arith, nat_tests, e, ne)) (states_shown c u) (all-passed (λ r. r.session.0 == u.0) c.rows)) in
        ap (option_map (λ r. r.state)) (find-append (is_row s p) view.rows (states_shown c u) ∙ or_none (find (is_row s p) view.rows) (find (is_row s p) (states_shown c u)) none)

    rows : (s : SessionId) (p : PartId) (b : Bool) → (s.0 == u.0) ≡ b → has_states (record { left = rest; begun = opened; view = with_states c u view }) s ≡ true → is_live c.live s ≡ true
        → has_stayed (state_of c.rows s p) (state_of (view.rows ++ states_shown c u) s p) (message_of view.mail s p) ≡ true
    rows s p true is read live =
        subst (λ (v : SessionId). has_stayed (state_of c.rows v p) (state_of (view.rows ++ states_shown c u) v p) (message_of view.mail v p) ≡ true) (sym (session_same s u is))
        (stayed_same (state_of c.rows u p) (state_of (view.rows ++ states_shown c u) u p) (message_of view.mail u p) (sym (here p)))
    rows s p false is read live =
        let before : has_states (record { left = States u ∷ rest; begun = opened; view = view }) s ≡ true = grind (arith, is, read) in
        subst (λ (o : Option StateId). has_stayed (state_of c.rows s p) o (message_of view.mail s p) ≡ true) (sym (there s p is)) (cov.rows s p before live)

-- the ideals
pub covered_ideals : (c : Cluster) (k : ControllerId) (rest : List Call) (opened : Begun) (view : View) (begun : List Message) (h more : List Event)
    → list_all (begins_by k c.epoch) more ≡ true → IsCovered c k (record { left = Ideals ∷ rest; begun = opened; view = view }) begun h
    → IsCovered c k (record { left = rest; begun = opened; view = beside view c }) begun more
covered_ideals c k rest opened view begun h more begins cov = record {
  leads = cov.leads;
  begins = begins;
  pending = cov.pending;
  unshown = cov.unshown;
  mail = cov.mail;
  rows = cov.rows;
}
