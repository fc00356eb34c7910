-- How sessions end: their messages and rows go one at a time, and the sessions one after another.
use Rattle.std.proofs.Common.{◌≡◌, ℕ, get_or, ◌+◌, ◌<◌, ◌≤◌, ◌==◌, not, Bool, true, false, List, [], ◌∷◌, length, filter, find, drop, Some, None, refl, sym, ap, ◌∙◌, subst, arith}
use Rattle.std.specs.List.{list_any, list_all}
use Rattle.std.proofs.lemmas.List.{drop_all}
use Rattle.std.proofs.lemmas.Option.{slice_get-get_or}
use Rattle.hx_lists.specs.Lists.{count}
use Rattle.hx_ids.specs.declared.SessionId.{SessionId}
use Rattle.hx_ids.specs.declared.MsgId.{MsgId}
use Rattle.hx_ids.specs.declared.PartId.{PartId}
use Rattle.hx_ids.specs.declared.Live.{Live}
use Rattle.hx_ids.specs.Expiry.{is_expired, expired}
use Rattle.hx_cluster.specs.declared.state.Row.{Row}
use Rattle.hx_cluster.specs.declared.state.Message.{Message}
use Rattle.hx_cluster.specs.declared.state.Cluster.{Cluster}
use Rattle.hx_cluster.specs.Ends.{is_session, is_live, is_row}
use Rattle.hx_cluster.specs.Steps.{without, without_all}
use Rattle.hx_cluster.specs.Messages.{has_id}
use Rattle.hx_safe.proofs.Counting.{count-filter, count-map, all-filter, all-map, find-passes, none-find}
use Rattle.hx_safe.proofs.Ends.{same-self, part_eq-self}
use Rattle.hx_safe.proofs.Leaving.{kept_without, live-without}
use Rattle.hx_safe.proofs.Kept.{kept_beside}
use Rattle.hx_safe.proofs.Sessions.{seated_without, seated_tick}
use Rattle.hx_safe.proofs.Throttles.{throttled_without}
use Rattle.hx_safe.proofs.Whole.{IsWhole}
use Rattle.hx_slots.proofs.Listed.{IsListed, listed_unsent, listed_row_gone}
use Rattle.hx_records.proofs.Sitting.{drop_at}

abbrev pub of_message : SessionId → Message → Bool
of_message s m = m.session.0 == s.0

abbrev pub of_row : SessionId → Row → Bool
of_row s r = r.session.0 == s.0

-- one that goes leaves the others of another test
filter-filter : {X : Type 0} (p k : X → Bool) → ((x : X) → p x ≡ true → k x ≡ true) → (xs : List X) → filter p (filter k xs) ≡ filter p xs
filter-filter p k h [] = refl
filter-filter p k h (x ∷ xs) = grind (arith, h x, filter-filter p k h xs)

filter-all : {X : Type 0} (p : X → Bool) (xs : List X) → list_any p xs ≡ false → filter (λ x. not (p x)) xs ≡ xs
filter-all p [] e = refl
filter-all p (x ∷ xs) e = grind (arith, e, filter-all p xs)

no-more : {X : Type 0} (k : X → Bool) (xs : List X) → length (filter k xs) ≤ length xs
no-more k [] = omega arith
no-more k (z ∷ xs) = grind (arith, no-more k xs)

fewer : {X : Type 0} (p k : X → Bool) (xs : List X) (x : X) → find p xs ≡ Some x → k x ≡ false → length (filter k xs) < length xs
fewer p k [] x e out = cc
fewer p k (y ∷ xs) x e out = one (p y) refl (λ later. fewer p k xs x later out)
  where
    one : (b : Bool) → p y ≡ b → (find p xs ≡ Some x → length (filter k xs) < length xs) → length (filter k (y ∷ xs)) < length (y ∷ xs)
    one true is again =
        let same : y ≡ x = grind (arith, e, is) in
        let gone : k y ≡ false = ap k same ∙ out in
        let all = no-more k xs in
        grind (arith, gone, all)
    one false is again = let later : find p xs ≡ Some x = grind (arith, e, is) in let less = again later in either (k y) refl less
      where
        either : (b : Bool) → k y ≡ b → length (filter k xs) < length xs → length (filter k (y ∷ xs)) < length (y ∷ xs)
        either true at less = grind (arith, at, less)
        either false at less = grind (arith, at, less)

-- the rows or the messages of a cluster: a list beside the rest, of which some may go
pub record Part (X : Type 0) : Type 0 where
  pub items : Cluster → List X
  pub put : Cluster → List X → Cluster
  pub over : (c : Cluster) (xs ys : List X) → put (put c xs) ys ≡ put c ys
  pub here : (c : Cluster) (xs : List X) → items (put c xs) ≡ xs
  pub stays : (c : Cluster) (k : X → Bool) → IsListed c → IsListed (put c (filter k (items c)))

abbrev pub the_mail : Part Message
the_mail = record { items = λ c. c.mail; put = λ c ms. record c { mail = ms }; over = λ c xs ys. refl; here = λ c xs. refl; stays = λ c k h. listed_unsent c k h }

abbrev pub the_rows : Part Row
the_rows = record { items = λ c. c.rows; put = λ c rs. record c { rows = rs }; over = λ c xs ys. refl; here = λ c xs. refl; stays = λ c k h. listed_row_gone c k h }

-- a message by its number, and a row by its part, is the session's
pub id_within : (s : SessionId) (id : MsgId) (m : Message) → has_id s id m ≡ true → of_message s m ≡ true
id_within s id m e = grind (arith, e)

pub id_own : (s : SessionId) (m : Message) → of_message s m ≡ true → has_id s m.id m ≡ true
id_own s m e = grind (arith, e, same-self m.id.0)

pub row_within : (s : SessionId) (p : PartId) (r : Row) → is_row s p r ≡ true → of_row s r ≡ true
row_within s p r e = grind (arith, e)

pub row_own : (s : SessionId) (r : Row) → of_row s r ≡ true → is_row s r.part r ≡ true
row_own s r e = grind (arith, e, part_eq-self r.part)

-- a session's own go one at a time
pub record IsPartEnding {X : Type 0} (p : Part X) (own : X → Bool) (old c : Cluster) : Type 0 where
  pub listed : IsListed c
  pub same : c ≡ p.put old (p.items c)
  pub rest : filter (λ x. not (own x)) (p.items c) ≡ filter (λ x. not (own x)) (p.items old)

pub part_goes : {X : Type 0} (p : Part X) (own gone : X → Bool) (old c d : Cluster) → ((x : X) → gone x ≡ true → own x ≡ true) → IsPartEnding p own old c → d ≡ p.put c (filter (λ x. not (gone x)) (p.items c))
    → IsPartEnding p own old d
part_goes {X} p own gone old c d within e is = subst (IsPartEnding p own old) (sym is) (record {
  listed = p.stays c (λ x. not (gone x)) e.listed;
  same = ap (λ (x : Cluster). p.put x left) e.same ∙ p.over old (p.items c) left ∙ ap (p.put old) (sym (p.here c left));
  rest = ap (filter (λ x. not (own x))) (p.here c left) ∙ filter-filter (λ x. not (own x)) (λ x. not (gone x)) (λ x w. other x (gone x) refl w) (p.items c) ∙ e.rest;
})
  where
    left : List X
    left = filter (λ x. not (gone x)) (p.items c)

    other : (x : X) (b : Bool) → gone x ≡ b → not (own x) ≡ true → not b ≡ true
    other x true at w = let its : own x ≡ true = within x at in grind (arith, its, w)
    other x false at w = refl

pub part_fewer : {X : Type 0} (p : Part X) (own gone : X → Bool) (c d : Cluster) (x : X) → (own x ≡ true → gone x ≡ true) → find own (p.items c) ≡ Some x → d ≡ p.put c (filter (λ x. not (gone x)) (p.items c))
    → length (p.items d) < length (p.items c)
part_fewer {X} p own gone c d x at found is =
    let less = fewer own (λ y. not (gone y)) (p.items c) x found (ap not (at (find-passes own (p.items c) x found))) in
    subst (λ (ys : List X). length ys < length (p.items c)) (sym (ap p.items is ∙ p.here c (filter (λ y. not (gone y)) (p.items c)))) less

pub part_ended : {X : Type 0} (p : Part X) (own : X → Bool) (old c : Cluster) → IsPartEnding p own old c → find own (p.items c) ≡ None → c ≡ p.put old (filter (λ x. not (own x)) (p.items old))
part_ended p own old c e none = e.same ∙ ap (p.put old) (sym (filter-all own (p.items c) (none-find own (p.items c) none)) ∙ e.rest)

-- so none is left
pub none_left : {X : Type 0} (p : X → Bool) (xs : List X) → list_all (λ x. not (p x)) (filter (λ x. not (p x)) xs) ≡ true
none_left p [] = refl
none_left {X} p (x ∷ xs) = one (p x) refl (none_left p xs)
  where
    one : (b : Bool) → p x ≡ b → list_all (λ y. not (p y)) (filter (λ y. not (p y)) xs) ≡ true → list_all (λ y. not (p y)) (filter (λ y. not (p y)) (x ∷ xs)) ≡ true
    one true is rest = grind (arith, is, rest)
    one false is rest = grind (arith, is, rest)

-- sessions end one after another
pub whole_without : (c : Cluster) (s : SessionId) → IsWhole c → IsWhole (without c s)
whole_without c s w = record { kept = kept_without c s w.kept; throttled = throttled_without c s w.throttled; seated = seated_without c s w.seated }

pub whole_tick : (c : Cluster) (n : ℕ) → IsWhole c → IsWhole (record c { clock = c.clock + n })
whole_tick c n w = record { kept = kept_beside c c.instances c.leader c.epoch c.controllers (c.clock + n) c.line c.change c.posted w.kept; throttled = w.throttled; seated = seated_tick c n w.seated }

pub record AreEnding (old : Cluster) (all left : List SessionId) (n : ℕ) (c : Cluster) : Type 0 where
  pub whole : IsWhole c
  pub rest : without_all c left ≡ without_all old all
  pub live : list_all (is_live c.live) left ≡ true
  pub distinct : (s : SessionId) → count (λ x. x.0 == s.0) left ≤ 1
  pub change : c.change ≡ old.change + n

pub sessions_begin : (c : Cluster) (ss : List SessionId) → IsWhole c → list_all (is_live c.live) ss ≡ true → ((s : SessionId) → count (λ x. x.0 == s.0) ss ≤ 1) → AreEnding c ss ss 0 c
sessions_begin c ss w live one = record { whole = w; rest = refl; live = live; distinct = one; change = omega arith }

still : (c : Cluster) (s : SessionId) (ss : List SessionId) → list_all (is_live c.live) ss ≡ true → count (λ x. x.0 == s.0) ss ≤ 0 → list_all (is_live (without c s).live) ss ≡ true
still c s [] a e = refl
still c s (u ∷ ss) a e = one (u.0 == s.0) refl (λ all few. still c s ss all few)
  where
    one : (b : Bool) → (u.0 == s.0) ≡ b → (list_all (is_live c.live) ss ≡ true → count (λ x. x.0 == s.0) ss ≤ 0 → list_all (is_live (without c s).live) ss ≡ true)
        → list_all (is_live (without c s).live) (u ∷ ss) ≡ true
    one true at again = grind (arith, at, e)
    one false at again =
        let here : is_live c.live u ≡ true = grind (arith, a) in
        let stays = live-without c.live s u at here in
        let few : count (λ (x : SessionId). x.0 == s.0) ss ≤ 0 = grind (arith, at, e) in
        let more = again (grind (arith, a)) few in
        grind (arith, stays, more)

pub session_goes : (old c d : Cluster) (all left : List SessionId) (n : ℕ) (s : SessionId) → AreEnding old all (s ∷ left) n c → d ≡ without c s → AreEnding old all left (n + 1) d
session_goes old c d all left n s e is = subst (AreEnding old all left (n + 1)) (sym is) (record {
  whole = whole_without c s e.whole;
  rest = e.rest;
  live = still c s left (let live = e.live in grind (arith, live)) (none-here (e.distinct s));
  distinct = λ u. less u (e.distinct u);
  change = let h = e.change in omega (arith, h);
})
  where
    less : (u : SessionId) → count (λ x. x.0 == u.0) (s ∷ left) ≤ 1 → count (λ x. x.0 == u.0) left ≤ 1
    less u e = one (s.0 == u.0) refl e
      where
        one : (b : Bool) → (s.0 == u.0) ≡ b → count (λ x. x.0 == u.0) (s ∷ left) ≤ 1 → count (λ x. x.0 == u.0) left ≤ 1
        one true at e = grind (arith, at, e)
        one false at e = grind (arith, at, e)

    none-here : count (λ x. x.0 == s.0) (s ∷ left) ≤ 1 → count (λ x. x.0 == s.0) left ≤ 0
    none-here e = let self = same-self s.0 in grind (arith, self, e)

drop-at : {X : Type 0} (xs : List X) (n : ℕ) (d : X) → n < length xs → drop n xs ≡ get_or xs n d ∷ drop (n + 1) xs
drop-at xs n d fits = drop_at xs n (get_or xs n d) (slice_get-get_or xs n d fits)

pub next_ends : (old c : Cluster) (all : List SessionId) (n : ℕ) (d : SessionId) → n < length all → AreEnding old all (drop n all) n c → AreEnding old all (get_or all n d ∷ drop (n + 1) all) n c
next_ends old c all n d fits e = subst (λ (left : List SessionId). AreEnding old all left n c) (drop-at all n d fits) e

pub next_live : (old c : Cluster) (all : List SessionId) (n : ℕ) (d : SessionId) → n < length all → AreEnding old all (drop n all) n c → is_live c.live (get_or all n d) ≡ true
next_live old c all n d fits e = let live = (next_ends old c all n d fits e).live in grind (arith, live)

pub next_goes : (old c d : Cluster) (all : List SessionId) (n : ℕ) (s : SessionId) → n < length all → AreEnding old all (drop n all) n c → d ≡ without c (get_or all n s)
    → AreEnding old all (drop (n + 1) all) (n + 1) d
next_goes old c d all n s fits e is = session_goes old c d all (drop (n + 1) all) n (get_or all n s) (next_ends old c all n s fits e) is

pub all_ended : (old c : Cluster) (all : List SessionId) (n : ℕ) → length all ≤ n → AreEnding old all (drop n all) n c → c ≡ without_all old all
all_ended old c all n past e = sym (ap (without_all c) (drop_all n all past)) ∙ e.rest

-- those that a tick ends are live, and distinct
pub ended_live : (live : List Live) (now timeout : ℕ) → list_all (is_live live) (expired live now timeout) ≡ true
ended_live live now timeout =
    all-map (is_live live) (λ (l : Live). l.session) (filter (is_expired now timeout) live)
    ∙ all-filter (λ (l : Live). is_live live l.session) (is_expired now timeout) live (each live live (λ s e. e))
  where
    each : (all some : List Live) → ((s : SessionId) → is_live some s ≡ true → is_live all s ≡ true) → list_all (λ (l : Live). is_live all l.session) some ≡ true
    each all [] h = refl
    each all (l ∷ some) h =
        let here : is_live all l.session ≡ true = h l.session (let self = same-self l.session.0 in grind (arith, self)) in
        let more = each all some (λ s e. h s (grind (arith, e))) in
        grind (arith, here, more)

pub ended_once : (live : List Live) (now timeout : ℕ) → ((s : SessionId) → count (is_session s) live ≤ 1) → (s : SessionId) → count (λ x. x.0 == s.0) (expired live now timeout) ≤ 1
ended_once live now timeout one s =
    let same = count-map (λ (x : SessionId). x.0 == s.0) (λ (l : Live). l.session) (filter (is_expired now timeout) live) in
    let less = count-filter (is_session s) (is_expired now timeout) live in
    let most = one s in
    omega (arith, same, less, most)
