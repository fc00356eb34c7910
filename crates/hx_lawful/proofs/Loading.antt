-- No rule counts more messages on the board than in a view that shows it.
use Rattle.std.proofs.Common.{◌≡◌, ℕ, ◌≤◌, ◌&&◌, ◌||◌, ◌==◌, not, Bool, true, false, List, [], ◌∷◌, length, filter, Option, refl, sym, ap, ◌∙◌, subst, arith}
use Rattle.std.specs.Prelude.{if◌then◌else◌}
use Rattle.std.specs.List.{list_any, list_all}
use Rattle.std.specs.Option.{option_map_or}
use Rattle.std.proofs.lemmas.Bool.Decides.{nat_tests}
use Rattle.hx_lists.specs.Lists.{count}
use Rattle.hx_ids.specs.declared.InstanceId.{InstanceId}
use Rattle.hx_ids.specs.declared.SessionId.{SessionId}
use Rattle.hx_ids.specs.declared.MsgId.{MsgId}
use Rattle.hx_ids.specs.declared.PartId.{PartId}
use Rattle.hx_cluster.specs.declared.description.Rule.{Rule}
use Rattle.hx_cluster.specs.declared.description.Scope.{Scope}
use Rattle.hx_cluster.specs.declared.description.Scope.TheVariants as scopes
use Rattle.hx_cluster.specs.declared.state.Message.{Message}
use Rattle.hx_cluster.specs.declared.state.Cluster.{Cluster}
use Rattle.hx_cluster.specs.declared.planning.View.{View}
use Rattle.hx_cluster.specs.Ends.{is_live, is_shown, shown_of, instance_in, matches, key_of, is_counted, load_over, load_of}
use Rattle.hx_cluster.specs.Messages.{is_same}
use Rattle.hx_cluster.specs.Safe.{HasMail, is_pending}
use Rattle.hx_safe.proofs.Counting.{and-first, and-second, and-both}
use Rattle.hx_safe.proofs.Ends.{session_same, part_same, same-self}
use Rattle.hx_safe.proofs.Models.{state_same}
use Rattle.hx_safe.specs.Calm.{is_among}
use Rattle.hx_lawful.specs.Covers.{has_nothing}
use Rattle.hx_lawful.specs.Gate.{Shows}
use Rattle.hx_lawful.proofs.Counts.{answers, are_apart, count-inject, any_here, any_behind}
use Rattle.hx_lawful.proofs.Covering.{none_if, live_of_all}
use Rattle.hx_lawful.proofs.Showing.{all_each}

-- messages whose numbers stand once stand apart
apart_mail : (xs : List Message) → ((id : MsgId) → count (λ m. m.id.0 == id.0) xs ≤ 1) → are_apart (λ (a b : Message). b.id.0 == a.id.0) xs ≡ true
apart_mail [] once = refl
apart_mail (x ∷ xs) once =
    let here : list_all (λ (z : Message). not (z.id.0 == x.id.0)) xs ≡ true = none xs (grind (arith, once x.id, same-self x.id.0)) in
    and-both (list_all (λ (z : Message). not (z.id.0 == x.id.0)) xs) (are_apart (λ (a b : Message). b.id.0 == a.id.0) xs) here (apart_mail xs (λ n. few n (x.id.0 == n.0) (once n)))
  where
    none : (ys : List Message) → count (λ m. m.id.0 == x.id.0) ys ≤ 0 → list_all (λ (z : Message). not (z.id.0 == x.id.0)) ys ≡ true
    none [] e = refl
    none (y ∷ ys) e = grind (arith, e, none ys)

    few : (n : MsgId) (b : Bool) → length (if b then x ∷ filter (λ m. m.id.0 == n.0) xs else filter (λ m. m.id.0 == n.0) xs) ≤ 1 → count (λ m. m.id.0 == n.0) xs ≤ 1
    few n true e = grind (arith, e)
    few n false e = e

-- a shown session has the same key there
pub key_alike : (scope : Scope) (old new : List (SessionId × InstanceId)) (s : SessionId) (p : PartId) → instance_in old s ≡ instance_in new s → key_of scope old s p ≡ key_of scope new s p
key_alike scopes.Cluster old new s p same = refl
key_alike scopes.Instance old new s p same = ap (λ (o : Option InstanceId). option_map_or (λ i. i.0) o 0) same
key_alike scopes.Resource old new s p same = refl

-- so what a rule counts on the board it counts in the view
counted_alike : (b : Cluster) (view : View) → Shows b view → (r : Rule) (key : ℕ) (m y : Message) → is_live b.live m.session ≡ true → is_shown view.live m.session ≡ true
    → is_same m y ≡ true → is_counted (shown_of b.live) r key m ≡ true → is_counted view.live r key y ≡ true
counted_alike b view shows r key m y live shown same e =
    let session : m.session ≡ y.session = session_same m.session y.session (grind (arith, same)) in
    let part : m.part ≡ y.part = part_same m.part y.part (grind (arith, same)) in
    let from = state_same m.from y.from (grind (arith, same)) in
    let to = state_same m.to y.to (grind (arith, same)) in
    let counted : (is_shown (shown_of b.live) m.session && matches r m.from m.to) ≡ true
    = and-first (is_shown (shown_of b.live) m.session && matches r m.from m.to) (key_of r.scope (shown_of b.live) m.session m.part == key) e in
    let at : (key_of r.scope (shown_of b.live) m.session m.part == key) ≡ true
    = and-second (is_shown (shown_of b.live) m.session && matches r m.from m.to) (key_of r.scope (shown_of b.live) m.session m.part == key) e in
    let match : matches r m.from m.to ≡ true = and-second (is_shown (shown_of b.live) m.session) (matches r m.from m.to) counted in
    let one : is_shown view.live y.session ≡ true = subst (λ (s : SessionId). is_shown view.live s ≡ true) session shown in
    let two : matches r y.from y.to ≡ true = ap (λ f. matches r f y.to) (sym from) ∙ ap (λ t. matches r m.from t) (sym to) ∙ match in
    let keys : key_of r.scope view.live y.session y.part ≡ key_of r.scope (shown_of b.live) m.session m.part
    = ap (λ (s : SessionId). key_of r.scope view.live s y.part) (sym session) ∙ ap (λ (p : PartId). key_of r.scope view.live m.session p) (sym part)
    ∙ sym (key_alike r.scope (shown_of b.live) view.live m.session m.part (shows.instances m.session live shown)) in
    let three : (key_of r.scope view.live y.session y.part == key) ≡ true = ap (λ (n : ℕ). n == key) keys ∙ at in
    and-both (is_shown view.live y.session && matches r y.from y.to) (key_of r.scope view.live y.session y.part == key)
    (and-both (is_shown view.live y.session) (matches r y.from y.to) one two) three

-- a pending message is of a shown session
shown_sender : (b : Cluster) (view : View) → Shows b view → HasMail b → (m : Message) → ((p : Message → Bool) → list_all p b.mail ≡ true → p m ≡ true) → is_shown view.live m.session ≡ true
shown_sender b view shows mail m there = one (is_shown view.live m.session) refl (live_of_all (λ u. is_shown view.live u || has_nothing b u) b.live m.session shows.unshown (live (there (is_pending b) mail.pending)))
  where
    live : is_pending b m ≡ true → is_live b.live m.session ≡ true
    live e = grind (arith, e)

    none : (xs : List Message) → list_any (λ x. x.session.0 == m.session.0) xs ≡ false → list_all (λ x. not (x.session.0 == m.session.0)) xs ≡ true
    none [] e = refl
    none (x ∷ xs) e = grind (arith, e, none xs)

    clash : (a : Bool) → a ≡ true → not a ≡ true → false ≡ true
    clash true e w = cc
    clash false e w = cc

    one : (a : Bool) → is_shown view.live m.session ≡ a → (a || has_nothing b m.session) ≡ true → a ≡ true
    one true is e = refl
    one false is e =
        let bare = none_if (list_any (λ x. x.session.0 == m.session.0) b.mail)
        (and-second (not (list_any (λ r. r.session.0 == m.session.0) b.rows)) (not (list_any (λ x. x.session.0 == m.session.0) b.mail)) e) in
        clash (m.session.0 == m.session.0) (same-self m.session.0) (there (λ x. not (x.session.0 == m.session.0)) (none b.mail bare))

pub loads_shown : (b : Cluster) (view : View) (r : Rule) (key : ℕ) → Shows b view → HasMail b → load_of b r key ≤ load_over view.live view.mail r key
loads_shown b view r key shows mail =
    count-inject is_same (λ (a c : Message). c.id.0 == a.id.0) (λ a c y one two. ids a c y one two) (is_counted (shown_of b.live) r key) (is_counted view.live r key) view.mail b.mail
    (apart_mail b.mail mail.numbers)
    (all_each b.mail (λ m. not (is_counted (shown_of b.live) r key m) || answers is_same (is_counted view.live r key) view.mail m)
    (λ m there. each m there (is_counted (shown_of b.live) r key m) refl))
  where
    ids : (a c y : Message) → is_same a y ≡ true → is_same c y ≡ true → (c.id.0 == a.id.0) ≡ true
    ids a c y one two =
        let first : (a.id.0 == y.id.0) ≡ true = grind (arith, one) in
        let second : (c.id.0 == y.id.0) ≡ true = grind (arith, two) in
        grind (arith, nat_tests, first, second)

    live : (m : Message) → is_pending b m ≡ true → is_live b.live m.session ≡ true
    live m e = grind (arith, e)

    found : (m : Message) → is_live b.live m.session ≡ true → is_shown view.live m.session ≡ true → is_counted (shown_of b.live) r key m ≡ true → (ys : List Message) → list_any (is_same m) ys ≡ true
        → list_any (λ y. is_counted view.live r key y && is_same m y) ys ≡ true
    found m lives shown counted [] e = cc
    found m lives shown counted (y ∷ ys) e = one (is_same m y) refl e (λ w. found m lives shown counted ys w)
      where
        one : (a : Bool) → is_same m y ≡ a → (a || list_any (is_same m) ys) ≡ true → (list_any (is_same m) ys ≡ true → list_any (λ z. is_counted view.live r key z && is_same m z) ys ≡ true)
            → ((is_counted view.live r key y && is_same m y) || list_any (λ z. is_counted view.live r key z && is_same m z) ys) ≡ true
        one true is w rest =
            any_here (is_counted view.live r key y) (is_same m y) (list_any (λ z. is_counted view.live r key z && is_same m z) ys) (counted_alike b view shows r key m y lives shown is counted) is
        one false is w rest = any_behind (is_counted view.live r key y && is_same m y) (list_any (λ z. is_counted view.live r key z && is_same m z) ys) (rest w)

    each : (m : Message) → ((p : Message → Bool) → list_all p b.mail ≡ true → p m ≡ true) → (a : Bool) → is_counted (shown_of b.live) r key m ≡ a
        → (not a || answers is_same (is_counted view.live r key) view.mail m) ≡ true
    each m there false is = refl
    each m there true is =
        found m (live m (there (is_pending b) mail.pending)) (shown_sender b view shows mail m there) is view.mail (there (is_among view.mail) shows.mail)
