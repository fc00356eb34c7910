-- A resource is held by a live session where one that sits at a place holds it.
use Rattle.std.proofs.Common.{◌≡◌, ℕ, zero, suc, ◌≤◌, ◌==◌, ◌&&◌, ◌||◌, Bool, true, false, List, [], ◌∷◌, find, Option, Some, None, refl, sym, ap, ◌∙◌, subst, arith}
use Rattle.std.specs.Prelude.{slice_index_or, option_map}
use Rattle.std.specs.List.{list_any}
use Rattle.hx_lists.specs.Lists.{count}
use Rattle.hx_ids.specs.declared.InstanceId.{InstanceId}
use Rattle.hx_ids.specs.declared.ResourceId.{ResourceId}
use Rattle.hx_ids.specs.declared.SessionId.{SessionId}
use Rattle.hx_ids.specs.declared.PartId.{PartId}
use Rattle.hx_ids.specs.declared.Live.{Live}
use Rattle.hx_cluster.specs.declared.state.Row.{Row}
use Rattle.hx_cluster.specs.declared.state.Message.{Message}
use Rattle.hx_cluster.specs.declared.state.Cluster.{Cluster}
use Rattle.hx_cluster.specs.Ends.{is_session, is_live}
use Rattle.hx_cluster.specs.Steps.{is_of, live_of, is_held}
use Rattle.hx_safe.proofs.Counting.{find-any, find-passes, find-single, and-first, and-second, and-both}
use Rattle.hx_safe.proofs.Ends.{same-self, session_same}
use Rattle.hx_records.specs.Places.{session_holds, seat_holds}
use Rattle.hx_records.specs.Records.{seat_at}
use Rattle.hx_records.proofs.Seating.{Seats, SitAt}

any-le : {X : Type 0} (p q : X → Bool) → ((x : X) → p x ≡ true → q x ≡ true) → (xs : List X) → list_any p xs ≡ true → list_any q xs ≡ true
any-le p q h [] e = cc
any-le p q h (x ∷ xs) e = grind (arith, e, h x, any-le p q h xs)

any-find : {X : Type 0} (p : X → Bool) (xs : List X) → list_any p xs ≡ true → (x : X) × (find p xs ≡ Some x)
any-find p [] e = cc
any-find {X} p (x ∷ xs) e = one (p x) refl (λ w. any-find p xs w)
  where
    one : (b : Bool) → p x ≡ b → (list_any p xs ≡ true → (y : X) × (find p xs ≡ Some y)) → (y : X) × (find p (x ∷ xs) ≡ Some y)
    one true is again = (x, grind (arith, is))
    one false is again = let rest = again (grind (arith, is, e)) in (rest.0, (let found = rest.1 in grind (arith, is, found)))

any-at : (p : Option SessionId → Bool) (xs : Seats) → list_any p xs ≡ true → (n : ℕ) × (p (slice_index_or xs n None) ≡ true)
any-at p [] e = cc
any-at p (x ∷ xs) e = one (p x) refl (λ w. any-at p xs w)
  where
    one : (b : Bool) → p x ≡ b → (list_any p xs ≡ true → (n : ℕ) × (p (slice_index_or xs n None) ≡ true)) → (n : ℕ) × (p (slice_index_or (x ∷ xs) n None) ≡ true)
    one true is again = (0, is)
    one false is again = let rest = again (grind (arith, is, e)) in (suc rest.0, rest.1)

at-any : (p : Option SessionId → Bool) (xs : Seats) (n : ℕ) (s : SessionId) → slice_index_or xs n None ≡ Some s → p (Some s) ≡ true → list_any p xs ≡ true
at-any p [] n s e here = cc
at-any p (x ∷ xs) zero s e here = let at : p x ≡ true = ap p e ∙ here in grind (arith, at)
at-any p (x ∷ xs) (suc n) s e here = let rest = at-any p xs n s e here in grind (arith, rest)

same-tests : (a b : Bool) → (a ≡ true → b ≡ true) → (b ≡ true → a ≡ true) → a ≡ b
same-tests true b f g = sym (f refl)
same-tests false true f g = g refl
same-tests false false f g = refl

or-le : (a b x y : Bool) → (a ≡ true → x ≡ true) → (b ≡ true → y ≡ true) → (a || b) ≡ true → (x || y) ≡ true
or-le true b x y f g e = let h = f refl in grind (arith, h)
or-le false b x y f g e = let h = g e in grind (arith, h)

-- one that holds is live
holds-live : (c : Cluster) (r : ResourceId) (s : SessionId) → is_live c.live s ≡ true → session_holds c r s ≡ true → is_held c r ≡ true
holds-live c r s live =
    or-le _ _ _ _
    (any-le _ _ (λ x e. and-both _ _ (and-first _ _ e) (at x.session (and-second (x.part.resource.0 == r.0) (x.session.0 == s.0) e))) c.rows)
    (any-le _ _ (λ m e. and-both _ _ (and-first _ _ e) (at m.session (and-second (m.part.resource.0 == r.0) (m.session.0 == s.0) e))) c.mail)
  where
    at : (u : SessionId) → (u.0 == s.0) ≡ true → is_live c.live u ≡ true
    at u e = subst (λ (v : SessionId). is_live c.live v ≡ true) (sym (session_same u s e)) live

-- a live one sits at its place
live-sits : (c : Cluster) (seats : Seats) (p : Option SessionId → Bool) (s : SessionId) → SitAt seats c.live → ((i : InstanceId) → count (is_of i) c.live ≤ 1)
    → is_live c.live s ≡ true → p (Some s) ≡ true → list_any p seats ≡ true
live-sits c seats p s sit one live here =
    let found = any-find (is_session s) c.live live in
    let l = found.0 in
    let at = find-single (is_session s) (is_of l.instance) c.live l found.1 (same-self l.instance.0) (one l.instance) in
    let its : l.session ≡ s = session_same l.session s (find-passes (is_session s) c.live l found.1) in
    let seat : seat_at seats l.instance ≡ Some s = sit l.instance ∙ ap (λ (o : Option Live). option_map (λ x. x.session) o) at ∙ ap (λ (u : SessionId). Some u) its in
    at-any p seats l.instance.0 s seat here

-- the live session of a row or a message that is found of a resource sits at a place that holds it
holder-sits : {X : Type 0} (c : Cluster) (r : ResourceId) (seats : Seats) (part_of : X → PartId) (session_of : X → SessionId) (xs : List X) (x : X) → SitAt seats c.live → ((i : InstanceId) → count (is_of i) c.live ≤ 1)
    → (list_any (λ y. ((part_of y).resource.0 == r.0) && ((session_of y).0 == (session_of x).0)) xs ≡ true → seat_holds c r (Some (session_of x)) ≡ true)
    → find (λ y. ((part_of y).resource.0 == r.0) && is_live c.live (session_of y)) xs ≡ Some x → list_any (seat_holds c r) seats ≡ true
holder-sits {X} c r seats part_of session_of xs x sit one holds is =
    let on : X → Bool = λ y. ((part_of y).resource.0 == r.0) && is_live c.live (session_of y) in
    let its : X → Bool = λ y. ((part_of y).resource.0 == r.0) && ((session_of y).0 == (session_of x).0) in
    let w = find-passes on xs x is in
    let any : list_any its xs ≡ true = find-any on its xs x is (and-both _ _ (and-first ((part_of x).resource.0 == r.0) (is_live c.live (session_of x)) w) (same-self (session_of x).0)) in
    live-sits c seats (seat_holds c r) (session_of x) sit one (and-second ((part_of x).resource.0 == r.0) (is_live c.live (session_of x)) w) (holds any)

pub seats_hold : (c : Cluster) (r : ResourceId) (seats : Seats) → SitAt seats c.live → ((i : InstanceId) → count (is_of i) c.live ≤ 1)
    → list_any (seat_holds c r) seats ≡ is_held c r
seats_hold c r seats sit one = same-tests _ _ there back
  where
    there : list_any (seat_holds c r) seats ≡ true → is_held c r ≡ true
    there e =
        let at = any-at (seat_holds c r) seats e in
        let i : InstanceId = record { 0 = at.0 } in
        let holds : seat_holds c r (option_map (λ l. l.session) (live_of c.live i)) ≡ true = ap (seat_holds c r) (sym (sit i)) ∙ at.1 in
        turn i (live_of c.live i) refl holds
      where
        turn : (i : InstanceId) (o : Option Live) → live_of c.live i ≡ o → seat_holds c r (option_map (λ l. l.session) o) ≡ true → is_held c r ≡ true
        turn i None is w = cc
        turn i (Some l) is w = holds-live c r l.session (find-any (is_of i) (is_session l.session) c.live l is (same-self l.session.0)) w

    row : (x : Row) → find (λ x. (x.part.resource.0 == r.0) && is_live c.live x.session) c.rows ≡ Some x → list_any (seat_holds c r) seats ≡ true
    row x = holder-sits c r seats (λ (x : Row). x.part) (λ (x : Row). x.session) c.rows x sit one (λ its. grind (arith, its))

    message : (m : Message) → find (λ m. (m.part.resource.0 == r.0) && is_live c.live m.session) c.mail ≡ Some m → list_any (seat_holds c r) seats ≡ true
    message m = holder-sits c r seats (λ (x : Message). x.part) (λ (x : Message). x.session) c.mail m sit one (λ its. grind (arith, its))

    either : (b : Bool) → list_any (λ (x : Row). (x.part.resource.0 == r.0) && is_live c.live x.session) c.rows ≡ b
        → (b || list_any (λ (m : Message). (m.part.resource.0 == r.0) && is_live c.live m.session) c.mail) ≡ true → list_any (seat_holds c r) seats ≡ true
    either true is w = let found = any-find _ c.rows is in row found.0 found.1
    either false is w = let found = any-find _ c.mail w in message found.0 found.1

    back : is_held c r ≡ true → list_any (seat_holds c r) seats ≡ true
    back w = either (list_any (λ (x : Row). (x.part.resource.0 == r.0) && is_live c.live x.session) c.rows) refl w
