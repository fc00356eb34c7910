-- What a cluster shows at one moment is well formed, shows it, and agrees with it.
use Rattle.std.proofs.Common.{◌≡◌, ℕ, ◌≤◌, ◌&&◌, ◌||◌, ◌==◌, Bool, true, false, List, [], ◌∷◌, length, map, Option, Some, None, refl, sym, ap, ◌∙◌, arith}
use Rattle.std.specs.List.{list_any, list_all}
use Rattle.std.specs.Option.{option_map_or}
use Rattle.hx_lists.specs.Lists.{count, insert_by, sort_by}
use Rattle.hx_ids.specs.declared.InstanceId.{InstanceId}
use Rattle.hx_ids.specs.declared.StateId.{StateId}
use Rattle.hx_ids.specs.declared.SessionId.{SessionId}
use Rattle.hx_ids.specs.declared.PartId.{PartId}
use Rattle.hx_ids.specs.declared.Live.{Live}
use Rattle.hx_cluster.specs.declared.description.Rule.{Rule}
use Rattle.hx_cluster.specs.declared.state.Message.{Message}
use Rattle.hx_cluster.specs.declared.state.Cluster.{Cluster}
use Rattle.hx_cluster.specs.Ends.{part_eq, is_row, is_message, is_session, is_live, is_shown, shown_of, has_end, state_of, message_of, count_over, count_of, limit_at, matches, key_of, is_counted, load_over, load_of}
use Rattle.hx_cluster.specs.Messages.{is_same}
use Rattle.hx_cluster.specs.Reads.{instance_before, live_shown}
use Rattle.hx_cluster.specs.Safe.{IsSafe, HasMail, HasRows, is_pending, is_kept, is_row_written}
use Rattle.hx_cluster.specs.Ranged.{IsRanged}
use Rattle.hx_cluster.specs.Valid.{has_no_fault}
use Rattle.hx_cluster.specs.Views.{is_good_message, is_good_row, is_well_formed}
use Rattle.hx_select.specs.Selection.{shown_sessions}
use Rattle.hx_pass.specs.Explained.{view_at}
use Rattle.hx_safe.proofs.Counting.{and-first, and-second, and-both, all-le, all-both, count-map}
use Rattle.hx_safe.proofs.Ends.{same-self, part_eq-self}
use Rattle.hx_safe.proofs.Whole.{whole_from}
use Rattle.hx_safe.specs.Calm.{has_stayed}
use Rattle.hx_safe.specs.Onward.{is_same_kind, has_same_replicas}
use Rattle.hx_safe.proofs.Fronts.{front-self, kind-self, replicas-self}
use Rattle.hx_lawful.specs.Covers.{has_nothing}
use Rattle.hx_lawful.specs.Gate.{Shows}
use Rattle.hx_lawful.proofs.Covering.{live_all}
use Rattle.hx_lawful.proofs.Fits.{message_good, row_good, pending_fits, kept_fits}
use Rattle.hx_lawful.proofs.Loading.{key_alike}
use Rattle.hx_lawful.proofs.Sorting.{count-sort, each_there, exactly}
use Rattle.hx_lawful.proofs.Viewing.{good_view, well_formed, beside, with_sessions, formed_live, own_shown}
use Rattle.hx_settled.specs.Moments.{AgreesWith}

-- tests over a list in order, and over what is made of each item
any-insert : {X : Type 0} (p : X → Bool) (before : X → X → Bool) (x : X) (xs : List X) → list_any p (insert_by before x xs) ≡ list_any p (x ∷ xs)
any-insert p before x [] = refl
any-insert p before x (y ∷ xs) = grind (arith, any-insert p before x xs)

pub any-sort : {X : Type 0} (p : X → Bool) (before : X → X → Bool) (xs : List X) → list_any p (sort_by before xs) ≡ list_any p xs
any-sort p before [] = refl
any-sort p before (x ∷ xs) = any-insert p before x (sort_by before xs) ∙ ap (λ (b : Bool). p x || b) (any-sort p before xs)

pub any-map : {X Y : Type 0} (p : Y → Bool) (f : X → Y) (xs : List X) → list_any p (map f xs) ≡ list_any (λ x. p (f x)) xs
any-map p f [] = refl
any-map p f (x ∷ xs) = ap (λ (b : Bool). p (f x) || b) (any-map p f xs)

-- a session is shown exactly where it is live
pub shown_is_live : (c : Cluster) (s : SessionId) → is_shown (live_shown c) s ≡ is_live c.live s
shown_is_live c s =
    any-sort (λ (e : SessionId × InstanceId). e.0.0 == s.0) instance_before (shown_of c.live)
    ∙ any-map (λ (e : SessionId × InstanceId). e.0.0 == s.0) (λ (l : Live). (l.session, l.instance)) c.live

-- what is known of each item that is among its like holds of all
all_among : {X : Type 0} (same : X → X → Bool) → ((x : X) → same x x ≡ true) → (p q : X → Bool) (xs : List X) → list_all p xs ≡ true
    → ((x : X) → p x ≡ true → list_any (same x) xs ≡ true → q x ≡ true) → list_all q xs ≡ true
all_among same self p q xs all each =
    all-le (λ x. p x && list_any (same x) xs) q (λ x e. each x (and-first (p x) (list_any (same x) xs) e) (and-second (p x) (list_any (same x) xs) e)) xs
    (all-both p (λ x. list_any (same x) xs) xs all (each_there same self xs))

replica-self : (s : SessionId) (p : PartId) → ((s.0 == s.0) && part_eq p p) ≡ true
replica-self s p = and-both (s.0 == s.0) (part_eq p p) (same-self s.0) (part_eq-self p)

-- each message and each row is good
good_mail : (c : Cluster) → list_all has_no_fault c.models ≡ true → HasMail c → list_all (is_good_message c.models (view_at c)) c.mail ≡ true
good_mail c sound mail =
    all_among (λ m. is_message m.session m.part) (λ m. replica-self m.session m.part) (is_pending c) (is_good_message c.models (view_at c)) c.mail mail.pending
    (λ m pending there.
    let live : is_live c.live m.session ≡ true = grind (arith, pending) in
    message_good c.models (view_at c) m (pending_fits c (live_shown c) m sound (shown_is_live c m.session ∙ live) pending)
    (exactly (is_message m.session m.part) c.mail there (mail.single m.session m.part)))

good_rows : (c : Cluster) → HasRows c → list_all (is_good_row c.models (view_at c)) c.rows ≡ true
good_rows c rows =
    all_among (λ r. is_row r.session r.part) (λ r. replica-self r.session r.part) (is_kept c) (is_good_row c.models (view_at c)) c.rows rows.kept
    (λ r kept there.
    let live : is_live c.live r.session ≡ true = grind (arith, kept) in
    row_good c.models (view_at c) r (kept_fits c (live_shown c) r (shown_is_live c r.session ∙ live) kept)
    (exactly (is_row r.session r.part) c.rows there (rows.single r.session r.part)))

pub sound_of : (c : Cluster) → IsSafe c → IsRanged c → list_all has_no_fault c.models ≡ true
sound_of c safe ranged = (whole_from (limit_at c) c safe ranged).kept.sound

pub view_formed : (c : Cluster) → IsSafe c → IsRanged c → is_well_formed c.models (length c.instances) (view_at c) ≡ true
view_formed c safe ranged =
    let shown = good_view c.models (length c.instances) (beside (with_sessions c) c) (formed_live c ranged safe.sessions.numbers safe.sessions.instances) in
    well_formed c.models (length c.instances) (view_at c) (record {
      sessions = shown.sessions;
      mail = good_mail c (sound_of c safe ranged) safe.mail;
      rows = good_rows c safe.rows;
      few = shown.few;
      drained = shown.drained;
      resources = shown.resources;
    })

-- it shows the cluster
same_message-self : (m : Message) → is_same m m ≡ true
same_message-self m =
    grind (arith, same-self m.id.0, same-self m.session.0, part_eq-self m.part, same-self m.from.0, same-self m.to.0, same-self m.initial.0, same-self m.epoch.0)

stayed-self : (o : Option StateId) (m : Option Message) → has_stayed o o m ≡ true
stayed-self None m = refl
stayed-self (Some s) m = ap (λ (b : Bool). b || option_map_or (λ x. is_row_written x (Some s)) m false) (same-self s.0)

pub view_shows : (c : Cluster) → IsSafe c → Shows c (view_at c)
view_shows c safe = record {
  mail = each_there is_same same_message-self c.mail;
  single = safe.mail.single;
  unshown = live_all (λ s. is_shown (live_shown c) s || has_nothing c s) c.live (λ s live. ap (λ (b : Bool). b || has_nothing c s) (shown_is_live c s ∙ live));
  instances = λ s live shown. own_shown c safe.sessions.numbers s;
  rows = λ s p live shown. stayed-self (state_of c.rows s p) (message_of c.mail s p);
  resources = front-self is_same_kind kind-self c.resources;
  replicas = front-self has_same_replicas replicas-self c.resources;
}

-- and agrees with it
pub counts_alike : (c : Cluster) (p : PartId) (t : StateId) → count_over (shown_sessions (view_at c)) c.rows c.mail p t ≡ count_of c p t
counts_alike c p t =
    let h : SessionId → Bool = has_end c.rows c.mail p t in
    count-map h (λ (e : SessionId × InstanceId). e.0) (live_shown c)
    ∙ count-sort (λ (e : SessionId × InstanceId). h e.0) instance_before (shown_of c.live)
    ∙ count-map (λ (e : SessionId × InstanceId). h e.0) (λ (l : Live). (l.session, l.instance)) c.live
    ∙ sym (count-map h (λ (l : Live). l.session) c.live)

pub loads_alike : (c : Cluster) → ((s : SessionId) → count (is_session s) c.live ≤ 1) → (r : Rule) (key : ℕ) → load_over (live_shown c) c.mail r key ≡ load_of c r key
loads_alike c numbers r key = λ i. count (λ m. counted m i) c.mail
  where
    shown : (s : SessionId) → is_shown (live_shown c) s ≡ is_shown (shown_of c.live) s
    shown s = any-sort (λ (e : SessionId × InstanceId). e.0.0 == s.0) instance_before (shown_of c.live)

    keys : (s : SessionId) (p : PartId) → key_of r.scope (live_shown c) s p ≡ key_of r.scope (shown_of c.live) s p
    keys s p = key_alike r.scope (live_shown c) (shown_of c.live) s p (sym (own_shown c numbers s))

    counted : (m : Message) → is_counted (live_shown c) r key m ≡ is_counted (shown_of c.live) r key m
    counted m i = shown m.session i && matches r m.from m.to && (keys m.session m.part i == key)

pub view_agrees : (c : Cluster) → IsSafe c → AgreesWith c (view_at c)
view_agrees c safe = record {
  live = shown_is_live c;
  instances = λ s. sym (own_shown c safe.sessions.numbers s);
  rows = λ s p. refl;
  messages = λ s p. refl;
  counts = counts_alike c;
  loads = loads_alike c safe.sessions.numbers;
}
