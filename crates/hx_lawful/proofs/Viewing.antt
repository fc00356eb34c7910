-- Views that stay well formed as more is shown.
use Rattle.std.proofs.Common.{◌≡◌, ℕ, ◌≤◌, ◌&&◌, ◌==◌, not, Bool, true, false, List, ◌++◌, length, Option, refl, sym, ap, ◌∙◌, subst, arith, filter}
use Rattle.std.specs.Prelude.{nat_lt, nat_le}
use Rattle.std.specs.List.{list_any, list_all}
use Rattle.std.specs.Option.{option_map}
use Rattle.std.proofs.lemmas.Bool.Decides.{nat_tests}
use Rattle.hx_lists.specs.Lists.{count}
use Rattle.hx_ids.specs.declared.InstanceId.{InstanceId}
use Rattle.hx_ids.specs.declared.SessionId.{SessionId}
use Rattle.hx_ids.specs.declared.Live.{Live}
use Rattle.hx_model.specs.declared.ModelParts.{ModelParts}
use Rattle.hx_cluster.specs.declared.state.Cluster.{Cluster}
use Rattle.hx_cluster.specs.declared.planning.View.{View}
use Rattle.hx_cluster.specs.Ends.{part_eq, is_row, is_message, is_session, is_shown, shown_of, instance_in}
use Rattle.hx_cluster.specs.Steps.{is_of}
use Rattle.hx_cluster.specs.Reads.{instance_before, live_shown, mail_shown, states_shown, ideals_shown, nothing_shown}
use Rattle.hx_cluster.specs.Safe.{HasMail, HasRows, is_pending, is_kept}
use Rattle.hx_cluster.specs.Valid.{has_no_fault}
use Rattle.hx_cluster.specs.Ranged.{is_ranged_resource, IsRanged}
use Rattle.hx_cluster.specs.Views.{is_good_session, is_good_message, is_good_row, is_good_resource, is_well_formed}
use Rattle.hx_safe.proofs.Counting.{and-both, and-six, and-first, and-second, count-append, count-filter, count-map, count-none, all-append, all-le, all-map, all-filter, all-both, none-from-all}
use Rattle.hx_safe.proofs.Ends.{session_same, same-self, part_eq-self}
use Rattle.hx_safe.proofs.Fixed.{IsFixed}
use Rattle.hx_safe.specs.Onward.{IsOn}
use Rattle.hx_lawful.proofs.Fits.{message_fits, message_once, message_good, row_fits, row_once, row_good, message_on, row_on, pending_fits, kept_fits, resource_good, FitsMessage, FitsRow}
use Rattle.hx_lawful.proofs.Sorting.{count-sort, all-sort, find-sort, each_there, exactly, all-passed, none-all}

-- the parts of a well-formed view
pub record IsGoodView (models : List ModelParts) (instances : ℕ) (view : View) : Type 0 where
  pub sessions : list_all (is_good_session instances view.live) view.live ≡ true
  pub mail : list_all (is_good_message models view) view.mail ≡ true
  pub rows : list_all (is_good_row models view) view.rows ≡ true
  pub few : nat_le (length view.ideals.resources) 256 ≡ true
  pub drained : (length view.ideals.drained == instances) ≡ true
  pub resources : list_all (is_good_resource models instances) view.ideals.resources ≡ true

pub good_view : (models : List ModelParts) (instances : ℕ) (view : View) → is_well_formed models instances view ≡ true → IsGoodView models instances view
good_view models instances view e =
    let parts = and-six (list_all (is_good_session instances view.live) view.live) (list_all (is_good_message models view) view.mail) (list_all (is_good_row models view) view.rows)
    (nat_le (length view.ideals.resources) 256) (length view.ideals.drained == instances) (list_all (is_good_resource models instances) view.ideals.resources) e in
    record { sessions = parts.0; mail = parts.1; rows = parts.2; few = parts.3; drained = parts.4; resources = parts.5 }

all-true : (a b d f g h : Bool) → a ≡ true → b ≡ true → d ≡ true → f ≡ true → g ≡ true → h ≡ true → (a && b && d && f && g && h) ≡ true
all-true a b d f g h one two three four five six =
    and-both (a && b && d && f && g) h (and-both (a && b && d && f) g (and-both (a && b && d) f (and-both (a && b) d (and-both a b one two) three) four) five) six

pub well_formed : (models : List ModelParts) (instances : ℕ) (view : View) → IsGoodView models instances view → is_well_formed models instances view ≡ true
well_formed models instances view g =
    all-true (list_all (is_good_session instances view.live) view.live) (list_all (is_good_message models view) view.mail) (list_all (is_good_row models view) view.rows)
    (nat_le (length view.ideals.resources) 256) (length view.ideals.drained == instances) (list_all (is_good_resource models instances) view.ideals.resources)
    g.sessions g.mail g.rows g.few g.drained g.resources

-- the ideals of a cluster in range
few_shown : (c : Cluster) → IsRanged c → nat_le (length c.resources) 256 ≡ true
few_shown c r = grind (arith, nat_tests, r.few_resources)

good_shown : (c : Cluster) → IsRanged c → list_all (is_good_resource c.models (length c.instances)) c.resources ≡ true
good_shown c r = all-le (is_ranged_resource c) (is_good_resource c.models (length c.instances)) (resource_good c) c.resources r.resources

-- with the ideals of a later cluster
abbrev pub beside : View → Cluster → View
beside view c = record view { ideals = ideals_shown c }

good_on : (c d : Cluster) (view : View) → IsOn c d → IsFixed c d → IsRanged d → IsGoodView c.models (length c.instances) (beside view c) → IsGoodView c.models (length c.instances) (beside view d)
good_on c d view on same ranged g = record {
  sessions = g.sessions;
  mail = all-le (is_good_message c.models (beside view c)) (is_good_message c.models (beside view d)) (λ m e.
      message_good c.models (beside view d) m (message_on c.models view.live c.resources d.resources m on.resources (message_fits c.models (beside view c) m e))
      (message_once c.models (beside view c) m e)) view.mail g.mail;
  rows = all-le (is_good_row c.models (beside view c)) (is_good_row c.models (beside view d)) (λ r e.
      row_good c.models (beside view d) r (row_on c.models view.live c.resources d.resources r on.resources (row_fits c.models (beside view c) r e))
      (row_once c.models (beside view c) r e)) view.rows g.rows;
  few = few_shown d ranged;
  drained = grind (arith, nat_tests, same.instances);
  resources = ap (λ (n : ℕ). list_all (is_good_resource c.models n) d.resources) (sym same.instances)
      ∙ ap (λ (ms : List ModelParts). list_all (is_good_resource ms (length d.instances)) d.resources) (sym same.models) ∙ good_shown d ranged;
}

-- a view in which the models and instances of a cluster are those of an earlier one
pub formed_same : (c d : Cluster) (view : View) → IsFixed c d → is_well_formed c.models (length c.instances) view ≡ true → is_well_formed d.models (length d.instances) view ≡ true
formed_same c d view same e =
    ap (λ (ms : List ModelParts). is_well_formed ms (length d.instances) view) same.models ∙ ap (λ (n : ℕ). is_well_formed c.models n view) same.instances ∙ e

pub formed_on : (c d : Cluster) (view : View) → IsOn c d → IsFixed c d → IsRanged d → is_well_formed c.models (length c.instances) (beside view c) ≡ true
    → is_well_formed d.models (length d.instances) (beside view d) ≡ true
formed_on c d view on same ranged e =
    formed_same c d (beside view d) same
    (well_formed c.models (length c.instances) (beside view d) (good_on c d view on same ranged (good_view c.models (length c.instances) (beside view c) e)))

-- nothing was shown
pub formed_nothing : (c : Cluster) → IsRanged c → is_well_formed c.models (length c.instances) (beside nothing_shown c) ≡ true
formed_nothing c ranged = well_formed c.models (length c.instances) (beside nothing_shown c) (record {
  sessions = refl;
  mail = refl;
  rows = refl;
  few = few_shown c ranged;
  drained = same-self (length c.instances);
  resources = good_shown c ranged;
})

-- where no item of a session was there and those of it that are kept come, once each, all are good: those that were there, and those that come
old_good : {X : Type 0} (Fits : X → Type 0) (it : X → X → Bool) (at good new : X → Bool) (xs ys : List X) → ((x y : X) → not (at x) ≡ true → at y ≡ true → it x y ≡ false)
    → ((x : X) → good x ≡ true → Fits x) → ((x : X) → good x ≡ true → (count (it x) xs == 1) ≡ true)
    → ((x : X) → Fits x → (count (it x) (xs ++ filter at ys) == 1) ≡ true → new x ≡ true) → list_any at xs ≡ false → list_all good xs ≡ true → list_all new xs ≡ true
old_good {X} Fits it at good new xs ys apart fits single make unread all =
    all-le (λ x. good x && not (at x)) new (λ x e. each x (and-first (good x) (not (at x)) e) (and-second (good x) (not (at x)) e)) xs
    (all-both good (λ x. not (at x)) xs all (none-all at xs unread))
  where
    each : (x : X) → good x ≡ true → not (at x) ≡ true → new x ≡ true
    each x e ne =
        let none : count (it x) (filter at ys) ≡ 0 = count-none (it x) (filter at ys) (none-from-all at (it x) (λ y here. apart x y ne here) (filter at ys) (all-passed at ys)) in
        let once = single x e in
        let more = count-append (it x) xs (filter at ys) in
        make x (fits x e) (grind (arith, nat_tests, none, once, more))

new_good : {X : Type 0} (Fits : X → Type 0) (it : X → X → Bool) (at kept new : X → Bool) (xs ys : List X) → ((x y : X) → at x ≡ true → not (at y) ≡ true → it x y ≡ false)
    → ((x : X) → it x x ≡ true) → ((x : X) → count (it x) ys ≤ 1) → ((x : X) → kept x ≡ true → at x ≡ true → Fits x)
    → ((x : X) → Fits x → (count (it x) (xs ++ filter at ys) == 1) ≡ true → new x ≡ true) → list_all kept ys ≡ true → list_any at xs ≡ false → list_all new (filter at ys) ≡ true
new_good {X} Fits it at kept new xs ys apart self single fits make all unread =
    all-le (λ x. (kept x && at x) && list_any (it x) (filter at ys)) new
    (λ x e. one x (and-first (kept x && at x) (list_any (it x) (filter at ys)) e) (and-second (kept x && at x) (list_any (it x) (filter at ys)) e)) (filter at ys)
    (all-both (λ x. kept x && at x) (λ x. list_any (it x) (filter at ys)) (filter at ys)
    (all-both kept at (filter at ys) (all-filter kept at ys all) (all-passed at ys)) (each_there it self (filter at ys)))
  where
    one : (x : X) → (kept x && at x) ≡ true → list_any (it x) (filter at ys) ≡ true → new x ≡ true
    one x both there =
        let here = and-second (kept x) (at x) both in
        let few = count-filter (it x) at ys in
        let low : count (it x) (filter at ys) ≤ 1 = grind (arith, few, single x) in
        let once = exactly (it x) (filter at ys) there low in
        let none : count (it x) xs ≡ 0 = count-none (it x) xs (none-from-all (λ y. not (at y)) (it x) (λ y ne. apart x y here ne) xs (none-all at xs unread)) in
        let more = count-append (it x) xs (filter at ys) in
        make x (fits x (and-first (kept x) (at x) both) here) (grind (arith, nat_tests, none, once, more))

all_good : {X : Type 0} (Fits : X → Type 0) (it : X → X → Bool) (at good kept new : X → Bool) (xs ys : List X) → ((x y : X) → not (at x) ≡ true → at y ≡ true → it x y ≡ false)
    → ((x y : X) → at x ≡ true → not (at y) ≡ true → it x y ≡ false) → ((x : X) → it x x ≡ true) → ((x : X) → good x ≡ true → (count (it x) xs == 1) ≡ true)
    → ((x : X) → count (it x) ys ≤ 1) → ((x : X) → good x ≡ true → Fits x) → ((x : X) → kept x ≡ true → at x ≡ true → Fits x)
    → ((x : X) → Fits x → (count (it x) (xs ++ filter at ys) == 1) ≡ true → new x ≡ true)
    → list_any at xs ≡ false → list_all good xs ≡ true → list_all kept ys ≡ true → list_all new (xs ++ filter at ys) ≡ true
all_good Fits it at good kept new xs ys before behind self once few fits comes make unread old all =
    all-append new xs (filter at ys)
    ∙ and-both (list_all new xs) (list_all new (filter at ys)) (old_good Fits it at good new xs ys before fits once make unread old)
    (new_good Fits it at kept new xs ys behind self few comes make all unread)

shown_at : (live : List (SessionId × InstanceId)) (u s : SessionId) → is_shown live s ≡ true → (u.0 == s.0) ≡ true → is_shown live u ≡ true
shown_at live u s shown at = subst (λ (v : SessionId). is_shown live v ≡ true) (sym (session_same u s at)) shown

-- the mail of a shown session
abbrev pub with_mail : Cluster → SessionId → View → View
with_mail c s view = record view { mail = view.mail ++ mail_shown c s }

pub formed_mail : (c : Cluster) (view : View) (s : SessionId) → list_all has_no_fault c.models ≡ true → HasMail c → is_shown view.live s ≡ true
    → list_any (λ m. m.session.0 == s.0) view.mail ≡ false → is_well_formed c.models (length c.instances) (beside view c) ≡ true
    → is_well_formed c.models (length c.instances) (beside (with_mail c s view) c) ≡ true
formed_mail c view s sound mail shown unread e =
    let g = good_view c.models (length c.instances) (beside view c) e in
    well_formed c.models (length c.instances) (beside (with_mail c s view) c) (record {
      sessions = g.sessions;
      mail = all_good (FitsMessage c.models view.live c.resources) (λ m. is_message m.session m.part) (λ m. m.session.0 == s.0) (is_good_message c.models (beside view c)) (is_pending c)
          (is_good_message c.models (beside (with_mail c s view) c)) view.mail c.mail (λ m x ne at. grind (arith, nat_tests, ne, at)) (λ m x at ne. grind (arith, nat_tests, ne, at))
          (λ m. and-both (m.session.0 == m.session.0) (part_eq m.part m.part) (same-self m.session.0) (part_eq-self m.part)) (message_once c.models (beside view c))
          (λ m. mail.single m.session m.part) (message_fits c.models (beside view c)) (λ m pending at. pending_fits c view.live m sound (shown_at view.live m.session s shown at) pending)
          (message_good c.models (beside (with_mail c s view) c)) unread g.mail mail.pending;
      rows = g.rows;
      few = g.few;
      drained = g.drained;
      resources = g.resources;
    })

-- the rows of a shown session
abbrev pub with_states : Cluster → SessionId → View → View
with_states c s view = record view { rows = view.rows ++ states_shown c s }

pub formed_states : (c : Cluster) (view : View) (s : SessionId) → HasRows c → is_shown view.live s ≡ true
    → list_any (λ r. r.session.0 == s.0) view.rows ≡ false → is_well_formed c.models (length c.instances) (beside view c) ≡ true
    → is_well_formed c.models (length c.instances) (beside (with_states c s view) c) ≡ true
formed_states c view s rows shown unread e =
    let g = good_view c.models (length c.instances) (beside view c) e in
    well_formed c.models (length c.instances) (beside (with_states c s view) c) (record {
      sessions = g.sessions;
      mail = g.mail;
      rows = all_good (FitsRow c.models view.live c.resources) (λ r. is_row r.session r.part) (λ r. r.session.0 == s.0) (is_good_row c.models (beside view c)) (is_kept c)
          (is_good_row c.models (beside (with_states c s view) c)) view.rows c.rows (λ r x ne at. grind (arith, nat_tests, ne, at)) (λ r x at ne. grind (arith, nat_tests, ne, at))
          (λ r. and-both (r.session.0 == r.session.0) (part_eq r.part r.part) (same-self r.session.0) (part_eq-self r.part)) (row_once c.models (beside view c))
          (λ r. rows.single r.session r.part) (row_fits c.models (beside view c)) (λ r kept at. kept_fits c view.live r (shown_at view.live r.session s shown at) kept)
          (row_good c.models (beside (with_states c s view) c)) unread g.rows rows.kept;
      few = g.few;
      drained = g.drained;
      resources = g.resources;
    })

-- the live sessions
abbrev pub with_sessions : Cluster → View
with_sessions c = record nothing_shown { live = live_shown c }

shown_once : (c : Cluster) → ((s : SessionId) → count (is_session s) c.live ≤ 1) → (s : SessionId) → count (λ (e : SessionId × InstanceId). e.0.0 == s.0) (live_shown c) ≤ 1
shown_once c numbers s =
    let sorted = count-sort (λ (e : SessionId × InstanceId). e.0.0 == s.0) instance_before (shown_of c.live) in
    let mapped = count-map (λ (e : SessionId × InstanceId). e.0.0 == s.0) (λ (l : Live). (l.session, l.instance)) c.live in
    omega (arith, sorted, mapped, numbers s)

instance_once : (c : Cluster) → ((i : InstanceId) → count (is_of i) c.live ≤ 1) → (i : InstanceId) → count (λ (e : SessionId × InstanceId). e.1.0 == i.0) (live_shown c) ≤ 1
instance_once c instances i =
    let sorted = count-sort (λ (e : SessionId × InstanceId). e.1.0 == i.0) instance_before (shown_of c.live) in
    let mapped = count-map (λ (e : SessionId × InstanceId). e.1.0 == i.0) (λ (l : Live). (l.session, l.instance)) c.live in
    omega (arith, sorted, mapped, instances i)

pub sessions_once : (c : Cluster) → ((s : SessionId) → count (is_session s) c.live ≤ 1) → (s : SessionId) → count (λ (e : SessionId × InstanceId). e.0.0 == s.0) (live_shown c) ≤ 1
sessions_once c numbers s = shown_once c numbers s

good_sessions : (c : Cluster) → IsRanged c → ((s : SessionId) → count (is_session s) c.live ≤ 1) → ((i : InstanceId) → count (is_of i) c.live ≤ 1)
    → list_all (is_good_session (length c.instances) (live_shown c)) (live_shown c) ≡ true
good_sessions c ranged numbers instances =
    let live : List (SessionId × InstanceId) = live_shown c in
    let ranges : list_all (λ (e : SessionId × InstanceId). nat_lt e.1.0 (length c.instances)) live ≡ true
    = all-sort (λ (e : SessionId × InstanceId). nat_lt e.1.0 (length c.instances)) instance_before (shown_of c.live)
    ∙ all-map (λ (e : SessionId × InstanceId). nat_lt e.1.0 (length c.instances)) (λ (l : Live). (l.session, l.instance)) c.live ∙ ranged.live in
    let one = each_there (λ (e o : SessionId × InstanceId). o.0.0 == e.0.0) (λ e. same-self e.0.0) live in
    let two = each_there (λ (e o : SessionId × InstanceId). o.1.0 == e.1.0) (λ e. same-self e.1.0) live in
    all-le (λ e. (nat_lt e.1.0 (length c.instances) && list_any (λ (o : SessionId × InstanceId). o.0.0 == e.0.0) live) && list_any (λ (o : SessionId × InstanceId). o.1.0 == e.1.0) live)
    (is_good_session (length c.instances) live) each live
    (all-both (λ e. nat_lt e.1.0 (length c.instances) && list_any (λ (o : SessionId × InstanceId). o.0.0 == e.0.0) live) (λ e. list_any (λ (o : SessionId × InstanceId). o.1.0 == e.1.0) live) live
    (all-both (λ (e : SessionId × InstanceId). nat_lt e.1.0 (length c.instances)) (λ e. list_any (λ (o : SessionId × InstanceId). o.0.0 == e.0.0) live) live ranges one) two)
  where
    each : (e : SessionId × InstanceId)
        → ((nat_lt e.1.0 (length c.instances) && list_any (λ (o : SessionId × InstanceId). o.0.0 == e.0.0) (live_shown c)) && list_any (λ (o : SessionId × InstanceId). o.1.0 == e.1.0) (live_shown c)) ≡ true
        → is_good_session (length c.instances) (live_shown c) e ≡ true
    each e w =
        let low = and-first (nat_lt e.1.0 (length c.instances) && list_any (λ (o : SessionId × InstanceId). o.0.0 == e.0.0) (live_shown c)) (list_any (λ (o : SessionId × InstanceId). o.1.0 == e.1.0) (live_shown c)) w in
        let number = exactly (λ (o : SessionId × InstanceId). o.0.0 == e.0.0) (live_shown c)
        (and-second (nat_lt e.1.0 (length c.instances)) (list_any (λ (o : SessionId × InstanceId). o.0.0 == e.0.0) (live_shown c)) low) (shown_once c numbers e.0) in
        let instance = exactly (λ (o : SessionId × InstanceId). o.1.0 == e.1.0) (live_shown c)
        (and-second (nat_lt e.1.0 (length c.instances) && list_any (λ (o : SessionId × InstanceId). o.0.0 == e.0.0) (live_shown c)) (list_any (λ (o : SessionId × InstanceId). o.1.0 == e.1.0) (live_shown c)) w)
        (instance_once c instances e.1) in
        and-both (nat_lt e.1.0 (length c.instances) && (count (λ (o : SessionId × InstanceId). o.0.0 == e.0.0) (live_shown c) == 1)) (count (λ (o : SessionId × InstanceId). o.1.0 == e.1.0) (live_shown c) == 1)
        (and-both (nat_lt e.1.0 (length c.instances)) (count (λ (o : SessionId × InstanceId). o.0.0 == e.0.0) (live_shown c) == 1)
        (and-first (nat_lt e.1.0 (length c.instances)) (list_any (λ (o : SessionId × InstanceId). o.0.0 == e.0.0) (live_shown c)) low) number) instance

pub formed_live : (c : Cluster) → IsRanged c → ((s : SessionId) → count (is_session s) c.live ≤ 1) → ((i : InstanceId) → count (is_of i) c.live ≤ 1)
    → is_well_formed c.models (length c.instances) (beside (with_sessions c) c) ≡ true
formed_live c ranged numbers instances = well_formed c.models (length c.instances) (beside (with_sessions c) c) (record {
  sessions = good_sessions c ranged numbers instances;
  mail = refl;
  rows = refl;
  few = few_shown c ranged;
  drained = same-self (length c.instances);
  resources = good_shown c ranged;
})

-- a live session is shown with its instance
pub own_shown : (c : Cluster) → ((s : SessionId) → count (is_session s) c.live ≤ 1) → (s : SessionId) → instance_in (shown_of c.live) s ≡ instance_in (live_shown c) s
own_shown c numbers s =
    let mapped = count-map (λ (e : SessionId × InstanceId). e.0.0 == s.0) (λ (l : Live). (l.session, l.instance)) c.live in
    let once : count (λ (e : SessionId × InstanceId). e.0.0 == s.0) (shown_of c.live) ≤ 1 = omega (arith, mapped, numbers s) in
    ap (λ (o : Option (SessionId × InstanceId)). option_map (λ e. e.1) o) (sym (find-sort (λ (e : SessionId × InstanceId). e.0.0 == s.0) instance_before (shown_of c.live) once))

-- and each shown session is among the shown
pub each_shown : (live : List (SessionId × InstanceId)) → list_all (λ e. is_shown live e.0) live ≡ true
each_shown live = each_there (λ (e o : SessionId × InstanceId). o.0.0 == e.0.0) (λ e. same-self e.0.0) live
