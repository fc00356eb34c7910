-- No part has more ends in a limited state on the board than in a view that shows it.
use Rattle.std.proofs.Common.{◌≡◌, ℕ, ◌≤◌, ◌&&◌, ◌||◌, ◌==◌, not, Bool, true, false, List, [], ◌∷◌, length, filter, find, map, Option, Some, None, refl, sym, ap, ◌∙◌, subst, arith}
use Rattle.std.specs.Prelude.{if◌then◌else◌}
use Rattle.std.specs.List.{list_any, list_all}
use Rattle.std.specs.Option.{option_map, option_map_or}
use Rattle.std.proofs.lemmas.Bool.Decides.{nat_tests}
use Rattle.hx_lists.specs.Lists.{count}
use Rattle.hx_ids.specs.declared.StateId.{StateId}
use Rattle.hx_ids.specs.declared.InstanceId.{InstanceId}
use Rattle.hx_ids.specs.declared.SessionId.{SessionId}
use Rattle.hx_ids.specs.declared.PartId.{PartId}
use Rattle.hx_ids.specs.declared.Live.{Live}
use Rattle.hx_model.specs.declared.Bound.{Bound}
use Rattle.hx_model.specs.Model.{limit_of, error}
use Rattle.hx_cluster.specs.declared.state.Row.{Row}
use Rattle.hx_cluster.specs.declared.state.Message.{Message}
use Rattle.hx_cluster.specs.declared.state.Cluster.{Cluster}
use Rattle.hx_cluster.specs.declared.planning.View.{View}
use Rattle.hx_cluster.specs.Ends.{part_eq, is_row, is_message, is_session, is_live, is_shown, sessions_of, row_of, state_of, message_of, row_at, message_at, has_end, count_over, count_of, limit_at, replicas_of}
use Rattle.hx_cluster.specs.Messages.{is_same}
use Rattle.hx_cluster.specs.Safe.{is_row_written}
use Rattle.hx_cluster.specs.Valid.{has_no_fault}
use Rattle.hx_select.specs.Selection.{shown_sessions}
use Rattle.hx_safe.proofs.Counting.{and-first, and-second, and-both, all-map, all-find, find-passes, count-map}
use Rattle.hx_safe.proofs.Models.{good_model}
use Rattle.hx_safe.proofs.Ends.{session_same, same-self, row_at-state, stands_at}
use Rattle.hx_safe.specs.Calm.{is_among, has_stayed}
use Rattle.hx_lawful.specs.Covers.{has_nothing}
use Rattle.hx_lawful.specs.Gate.{Shows}
use Rattle.hx_lawful.proofs.Counts.{answers, are_apart, count-inject, any_here, any_behind}
use Rattle.hx_lawful.proofs.Covering.{none_if, live_of_all, live_all, shown_message}

-- sessions that stand once stand apart
apart_from : (xs : List SessionId) → ((s : SessionId) → count (λ (u : SessionId). u.0 == s.0) xs ≤ 1) → are_apart (λ (a b : SessionId). b.0 == a.0) xs ≡ true
apart_from [] once = refl
apart_from (x ∷ xs) once =
    let here : list_all (λ (z : SessionId). not (z.0 == x.0)) xs ≡ true = none xs (grind (arith, once x, same-self x.0)) in
    and-both (list_all (λ (z : SessionId). not (z.0 == x.0)) xs) (are_apart (λ (a b : SessionId). b.0 == a.0) xs) here (apart_from xs (λ s. few s (x.0 == s.0) (once s)))
  where
    none : (ys : List SessionId) → count (λ (u : SessionId). u.0 == x.0) ys ≤ 0 → list_all (λ (z : SessionId). not (z.0 == x.0)) ys ≡ true
    none [] e = refl
    none (y ∷ ys) e = grind (arith, e, none ys)

    few : (s : SessionId) (b : Bool) → length (if b then x ∷ filter (λ (u : SessionId). u.0 == s.0) xs else filter (λ (u : SessionId). u.0 == s.0) xs) ≤ 1
        → count (λ (u : SessionId). u.0 == s.0) xs ≤ 1
    few s true e = grind (arith, e)
    few s false e = e

-- a session with an end on the board was shown
shown_with : (b : Cluster) (view : View) → Shows b view → (s : SessionId) → is_live b.live s ≡ true → (has_nothing b s ≡ true → true ≡ false) → is_shown view.live s ≡ true
shown_with b view shows s live some = one (is_shown view.live s) refl (live_of_all (λ u. is_shown view.live u || has_nothing b u) b.live s shows.unshown live)
  where
    one : (a : Bool) → is_shown view.live s ≡ a → (a || has_nothing b s) ≡ true → a ≡ true
    one true is e = refl
    one false is e = sym (some e)

-- what is found in a list passes no test that nothing there passes
found_nowhere : {X : Type 0} (p q : X → Bool) (xs : List X) (x : X) → ((y : X) → q y ≡ true → p y ≡ true) → find q xs ≡ Some x → list_any p xs ≡ false → true ≡ false
found_nowhere {X} p q xs x h is bare = clash (p x) (h x (find-passes q xs x is)) (all-find (λ y. not (p y)) q xs x (none xs bare) is)
  where
    clash : (a : Bool) → a ≡ true → not a ≡ true → true ≡ false
    clash true e w = cc
    clash false e w = cc

    none : (ys : List X) → list_any p ys ≡ false → list_all (λ y. not (p y)) ys ≡ true
    none [] e = refl
    none (y ∷ ys) e = grind (arith, e, none ys)

no_message : (b : Cluster) (s : SessionId) (p : PartId) (m : Message) → message_of b.mail s p ≡ Some m → has_nothing b s ≡ true → true ≡ false
no_message b s p m is bare =
    found_nowhere (λ x. x.session.0 == s.0) (is_message s p) b.mail m (λ x e. and-first (x.session.0 == s.0) (part_eq x.part p) e) is
    (none_if (list_any (λ x. x.session.0 == s.0) b.mail) (and-second (not (list_any (λ r. r.session.0 == s.0) b.rows)) (not (list_any (λ x. x.session.0 == s.0) b.mail)) bare))

no_row : (b : Cluster) (s : SessionId) (p : PartId) (r : Row) → row_of b.rows s p ≡ Some r → has_nothing b s ≡ true → true ≡ false
no_row b s p r is bare =
    found_nowhere (λ x. x.session.0 == s.0) (is_row s p) b.rows r (λ x e. and-first (x.session.0 == s.0) (part_eq x.part p) e) is
    (none_if (list_any (λ x. x.session.0 == s.0) b.rows) (and-first (not (list_any (λ x. x.session.0 == s.0) b.rows)) (not (list_any (λ m. m.session.0 == s.0) b.mail)) bare))

-- and has the end in the view
message_end : (b : Cluster) (view : View) → Shows b view → (s : SessionId) (p : PartId) (t : StateId) (m : Message) → message_of b.mail s p ≡ Some m → message_at t (Some m) ≡ true
    → message_at t (message_of view.mail s p) ≡ true
message_end b view shows s p t m is e =
    let at = find-passes (is_message s p) b.mail m is in
    let among : is_among view.mail m ≡ true = all-find (is_among view.mail) (is_message s p) b.mail m shows.mail is in
    let there = shown_message view.mail m s p at among (shows.single s p) in
    ap (message_at t) there.1 ∙ alike there.0 there.2
  where
    alike : (y : Message) → is_same m y ≡ true → message_at t (Some y) ≡ true
    alike y same =
        let from : (m.from.0 == y.from.0) ≡ true = grind (arith, same) in
        let to : (m.to.0 == y.to.0) ≡ true = grind (arith, same) in
        grind (arith, nat_tests, e, from, to)

row_end : (t : StateId) (u : StateId) (old : Option StateId) (o : Option Message) → (u.0 == t.0) ≡ true → (t.0 == error.0) ≡ false → has_stayed (Some u) old o ≡ true
    → (stands_at t old || message_at t o) ≡ true
row_end t u (Some v) o at plain e = one (u.0 == v.0) refl o e
  where
    one : (a : Bool) → (u.0 == v.0) ≡ a → (o : Option Message) → (a || option_map_or (λ x. is_row_written x (Some u)) o false) ≡ true → ((v.0 == t.0) || message_at t o) ≡ true
    one true is o e = grind (arith, nat_tests, is, at)
    one false is None e = cc
    one false is (Some y) e = grind (arith, nat_tests, at, plain, e)
row_end t u None None at plain e = cc
row_end t u None (Some y) at plain e = grind (arith, nat_tests, at, plain, e)

-- ERROR has no limit
plain_state : (b : Cluster) (p : PartId) (t : StateId) (limit : ℕ) → list_all has_no_fault b.models ≡ true → limit_at b p t ≡ Some limit → (t.0 == error.0) ≡ false
plain_state b p t limit sound e = one (t.0 == error.0) refl
  where
    one : (a : Bool) → (t.0 == error.0) ≡ a → a ≡ false
    one false is = refl
    one true is =
        let good = good_model b.models b.resources p.resource sound in
        let free : limit_at b p t ≡ None = ap (λ (x : Bound). limit_of x (replicas_of b.resources p.resource) (length b.live)) (good.reserved t (grind (arith, nat_tests, is))) in
        let both = sym free ∙ e in cc

ends_shown : (b : Cluster) (view : View) → Shows b view → (p : PartId) (t : StateId) → (t.0 == error.0) ≡ false → (s : SessionId) → is_live b.live s ≡ true → has_end b.rows b.mail p t s ≡ true
    → (is_shown view.live s ≡ true) × (has_end view.rows view.mail p t s ≡ true)
ends_shown b view shows p t plain s live e = one (row_of b.rows s p) refl (message_of b.mail s p) refl e
  where
    by_message : (m : Message) → message_of b.mail s p ≡ Some m → message_at t (Some m) ≡ true → (is_shown view.live s ≡ true) × (has_end view.rows view.mail p t s ≡ true)
    by_message m is at = (
      shown_with b view shows s live (no_message b s p m is),
      any_behind (row_at t (row_of view.rows s p)) (message_at t (message_of view.mail s p)) (message_end b view shows s p t m is at),
    )

    by_row : (r : Row) → row_of b.rows s p ≡ Some r → (r.state.0 == t.0) ≡ true → (is_shown view.live s ≡ true) × (has_end view.rows view.mail p t s ≡ true)
    by_row r is at =
        let shown = shown_with b view shows s live (no_row b s p r is) in
        let now : state_of b.rows s p ≡ Some r.state = ap (option_map (λ x. x.state)) is in
        let stayed = subst (λ (o : Option StateId). has_stayed o (state_of view.rows s p) (message_of view.mail s p) ≡ true) now (shows.rows s p live shown) in
        let ends = row_end t r.state (state_of view.rows s p) (message_of view.mail s p) at plain stayed in
        (shown, ap (λ (x : Bool). x || message_at t (message_of view.mail s p)) (row_at-state t view.rows s p) ∙ ends)

    one : (r : Option Row) → row_of b.rows s p ≡ r → (m : Option Message) → message_of b.mail s p ≡ m → (row_at t r || message_at t m) ≡ true
        → (is_shown view.live s ≡ true) × (has_end view.rows view.mail p t s ≡ true)
    one None is None at w = cc
    one None is (Some m) at w = by_message m at w
    one (Some r) is None at w = by_row r is (left (r.state.0 == t.0) w)
      where
        left : (x : Bool) → (x || false) ≡ true → x ≡ true
        left true v = refl
        left false v = v
    one (Some r) is (Some m) at w = two (r.state.0 == t.0) refl w
      where
        two : (x : Bool) → (r.state.0 == t.0) ≡ x → (x || message_at t (Some m)) ≡ true → (is_shown view.live s ≡ true) × (has_end view.rows view.mail p t s ≡ true)
        two true here v = by_row r is here
        two false here v = by_message m at v

answer_there : (view : View) (p : PartId) (t : StateId) (s : SessionId) (live : List (SessionId × InstanceId)) → is_shown live s ≡ true → has_end view.rows view.mail p t s ≡ true
    → list_any (λ (y : SessionId). has_end view.rows view.mail p t y && (y.0 == s.0)) (map (λ (e : SessionId × InstanceId). e.0) live) ≡ true
answer_there view p t s [] shown e = cc
answer_there view p t s (x ∷ live) shown e = one (x.0.0 == s.0) refl shown (λ w. answer_there view p t s live w e)
  where
    rest_of : Bool
    rest_of = list_any (λ (y : SessionId). has_end view.rows view.mail p t y && (y.0 == s.0)) (map (λ (z : SessionId × InstanceId). z.0) live)

    one : (a : Bool) → (x.0.0 == s.0) ≡ a → (a || is_shown live s) ≡ true
        → (is_shown live s ≡ true → list_any (λ (y : SessionId). has_end view.rows view.mail p t y && (y.0 == s.0)) (map (λ (z : SessionId × InstanceId). z.0) live) ≡ true)
        → ((has_end view.rows view.mail p t x.0 && (x.0.0 == s.0)) || list_any (λ (y : SessionId). has_end view.rows view.mail p t y && (y.0 == s.0)) (map (λ (z : SessionId × InstanceId). z.0) live)) ≡ true
    one true is w rest =
        let here : has_end view.rows view.mail p t x.0 ≡ true = subst (λ (u : SessionId). has_end view.rows view.mail p t u ≡ true) (sym (session_same x.0 s is)) e in
        any_here (has_end view.rows view.mail p t x.0) (x.0.0 == s.0) (list_any (λ (y : SessionId). has_end view.rows view.mail p t y && (y.0 == s.0)) (map (λ (z : SessionId × InstanceId). z.0) live)) here is
    one false is w rest =
        any_behind (has_end view.rows view.mail p t x.0 && (x.0.0 == s.0)) (list_any (λ (y : SessionId). has_end view.rows view.mail p t y && (y.0 == s.0)) (map (λ (z : SessionId × InstanceId). z.0) live)) (rest w)

-- so the board counts no more than the view
pub counts_shown : (b : Cluster) (view : View) (p : PartId) (t : StateId) (limit : ℕ) → Shows b view → list_all has_no_fault b.models ≡ true → ((s : SessionId) → count (is_session s) b.live ≤ 1)
    → limit_at b p t ≡ Some limit → count_of b p t ≤ count_over (shown_sessions view) view.rows view.mail p t
counts_shown b view p t limit shows sound numbers e =
    let plain = plain_state b p t limit sound e in
    let once : (s : SessionId) → count (λ (u : SessionId). u.0 == s.0) (sessions_of b.live) ≤ 1
    = λ s. few s (count-map (λ (u : SessionId). u.0 == s.0) (λ (l : Live). l.session) b.live) in
    count-inject (λ (a y : SessionId). y.0 == a.0) (λ (a c : SessionId). c.0 == a.0) (λ a c y one two. grind (arith, nat_tests, one, two)) (has_end b.rows b.mail p t) (has_end view.rows view.mail p t)
    (shown_sessions view) (sessions_of b.live) (apart_from (sessions_of b.live) once)
    (all-map (λ s. not (has_end b.rows b.mail p t s) || answers (λ (a y : SessionId). y.0 == a.0) (has_end view.rows view.mail p t) (shown_sessions view) s) (λ (l : Live). l.session) b.live
    ∙ live_all (λ s. not (has_end b.rows b.mail p t s) || answers (λ (a y : SessionId). y.0 == a.0) (has_end view.rows view.mail p t) (shown_sessions view) s) b.live
    (λ s live. each plain s live (has_end b.rows b.mail p t s) refl))
  where
    few : (s : SessionId) → {n : ℕ} → n ≡ count (is_session s) b.live → n ≤ 1
    few s same = let one = numbers s in omega (arith, same, one)

    each : (t.0 == error.0) ≡ false → (s : SessionId) → is_live b.live s ≡ true → (a : Bool) → has_end b.rows b.mail p t s ≡ a
        → (not a || answers (λ (x y : SessionId). y.0 == x.0) (has_end view.rows view.mail p t) (shown_sessions view) s) ≡ true
    each plain s live false is = refl
    each plain s live true is = let there = ends_shown b view shows p t plain s live is in answer_there view p t s view.live there.0 there.1
