-- A pass that sends nothing while no message is pending explains each replica.
use Rattle.std.proofs.Common.{◌≡◌, ℕ, ◌+◌, ◌≤◌, ◌&&◌, ◌||◌, ◌==◌, not, Bool, true, false, List, [], ◌∷◌, length, map, filter, find, get_or, Option, Some, None, refl, sym, ap, ◌∙◌, subst, arith}
use Rattle.std.specs.Prelude.{if◌then◌else◌, nat_lt, unwrap_or}
use Rattle.std.specs.List.{All, list_any, filter_map, cons_option}
use Rattle.std.specs.Option.{option_map_or, is_some}
use Rattle.std.proofs.lemmas.Bool.Decides.{nat_tests}
use Rattle.std.proofs.lemmas.List.{length-map}
use Rattle.std.proofs.lemmas.List.Elements.{All-nil, All-cons, All-head, All-tail, All-map, All-weaker}
use Rattle.hx_lists.specs.Lists.{count, insert_by, sort_by}
use Rattle.hx_ids.specs.declared.InstanceId.{InstanceId}
use Rattle.hx_ids.specs.declared.SessionId.{SessionId}
use Rattle.hx_ids.specs.declared.PartId.{PartId}
use Rattle.hx_ids.specs.declared.Live.{Live}
use Rattle.hx_model.specs.declared.ModelParts.{ModelParts}
use Rattle.hx_cluster.specs.declared.description.Rule.{Rule}
use Rattle.hx_cluster.specs.declared.state.Message.{Message}
use Rattle.hx_cluster.specs.declared.state.Cluster.{Cluster}
use Rattle.hx_cluster.specs.declared.planning.View.{View}
use Rattle.hx_cluster.specs.declared.planning.Target.{Target}
use Rattle.hx_cluster.specs.declared.planning.Candidate.{Candidate}
use Rattle.hx_cluster.specs.declared.planning.Full.{Full}
use Rattle.hx_cluster.specs.declared.planning.Selection.{Selection}
use Rattle.hx_cluster.specs.declared.planning.Throttled.{Throttled}
use Rattle.hx_cluster.specs.declared.planning.Finding.TheVariants as findings
use Rattle.hx_cluster.specs.Ends.{part_eq, is_live, shown_of, has_end, count_over, count_of, limit_over, limit_at, message_of, model_of}
use Rattle.hx_cluster.specs.Reads.{instance_before, live_shown}
use Rattle.hx_cluster.specs.Safe.{IsSafe}
use Rattle.hx_cluster.specs.Ranged.{IsRanged}
use Rattle.hx_cluster.specs.Views.{is_well_formed}
use Rattle.hx_best.specs.Targets.{all_targets}
use Rattle.hx_gen.specs.Candidates.{is_at_goal, hop_of, candidate_of, comes_before}
use Rattle.hx_select.specs.Selection.{shown_sessions, filling, limit_for, has_room, holds, full}
use Rattle.hx_throttle.specs.Throttle.{held_of}
use Rattle.hx_report.specs.Findings.{is_failed, is_of, finding_of, entry}
use Rattle.hx_pass.specs.Plans.{all_candidates, selection_of, throttled_of, proposal, plan}
use Rattle.hx_pass.specs.Explained.{view_at, IsFull, IsReason, IsExplained}
use Rattle.hx_safe.proofs.Counting.{and-first, and-second, and-both, all-find, find-passes, find-any, any-count}
use Rattle.hx_safe.proofs.Ends.{session_same, part_same, same-self, part_eq-self}
use Rattle.hx_lawful.proofs.Fitting.{made_of}
use Rattle.hx_lawful.proofs.Targeted.{is_of_replica, once_targets}
use Rattle.hx_settled.specs.Hops.{HasHop}
use Rattle.hx_settled.specs.Nothing.{IsAllFull}
use Rattle.hx_settled.specs.Ways.{IsOfItsTarget}
use Rattle.hx_settled.proofs.Moments.{any-sort, any-map, shown_is_live, sound_of, view_formed, counts_alike}
use Rattle.hx_settled.proofs.Hopping.{have_hops}
use Rattle.hx_settled.proofs.Filling.{all_full_at}

-- where at most one item passes each one's test, each is found by its own
pub all_found : {X : Type 0} (is : X → X → Bool) → ((x : X) → is x x ≡ true) → (xs : List X) → ((x : X) → count (is x) xs ≤ 1) → All (λ x. find (is x) xs ≡ Some x) xs
all_found is self [] once = All-nil (λ x. find (is x) [] ≡ Some x)
all_found {X} is self (x ∷ xs) once =
    All-cons (λ y. find (is y) (x ∷ xs) ≡ Some y) x xs (here x xs (self x))
    (All-weaker (λ y. find (is y) xs ≡ Some y) (λ y. find (is y) (x ∷ xs) ≡ Some y) behind xs (all_found is self xs (λ y. few (is y) x xs (once y))))
  where
    here : (y : X) (ys : List X) → is y y ≡ true → find (is y) (y ∷ ys) ≡ Some y
    here y ys e = ap (λ (b : Bool). if b then Some y else find (is y) ys) e

    few : (p : X → Bool) (y : X) (ys : List X) → count p (y ∷ ys) ≤ 1 → count p ys ≤ 1
    few p y ys e = one (p y) e
      where
        one : (b : Bool) → length (if b then y ∷ filter p ys else filter p ys) ≤ 1 → count p ys ≤ 1
        one true e = omega (arith, e)
        one false e = e

    behind : (y : X) → find (is y) xs ≡ Some y → find (is y) (x ∷ xs) ≡ Some y
    behind y e = one (is y x) refl (once y)
      where
        there : 1 ≤ count (is y) xs
        there = any-count (is y) xs (find-any (is y) (is y) xs y e (self y))

        one : (b : Bool) → is y x ≡ b → length (if b then x ∷ filter (is y) xs else filter (is y) xs) ≤ 1 → (if b then Some x else find (is y) xs) ≡ Some y
        one true at most = absurd (omega (arith, there, most))
        one false at most = e

-- facts of all items hold in any order, and of what is found
all-insert : {X : Type 0} (P : X → Type 0) (before : X → X → Bool) (x : X) (xs : List X) → P x → All P xs → All P (insert_by before x xs)
all-insert P before x [] h all = All-cons P x [] h all
all-insert {X} P before x (y ∷ xs) h all = one (before y x) (all-insert P before x xs h (All-tail P y xs all))
  where
    one : (b : Bool) → All P (insert_by before x xs) → All P (if b then y ∷ insert_by before x xs else x ∷ y ∷ xs)
    one true rest = All-cons P y (insert_by before x xs) (All-head P y xs all) rest
    one false rest = All-cons P x (y ∷ xs) h all

pub all-sorted : {X : Type 0} (P : X → Type 0) (before : X → X → Bool) (xs : List X) → All P xs → All P (sort_by before xs)
all-sorted P before [] all = all
all-sorted P before (x ∷ xs) all = all-insert P before x (sort_by before xs) (All-head P x xs all) (all-sorted P before xs (All-tail P x xs all))

pub all-found : {X : Type 0} (P : X → Type 0) (q : X → Bool) (xs : List X) (x : X) → All P xs → find q xs ≡ Some x → P x
all-found P q [] x all e = absurd (let both = e in cc)
all-found {X} P q (y ∷ xs) x all e = one (q y) e (all-found P q xs x (All-tail P y xs all))
  where
    one : (b : Bool) → (if b then Some y else find q xs) ≡ Some x → (find q xs ≡ Some x → P x) → P x
    one true e rest = subst P (head e) (All-head P y xs all)
      where
        head : Some y ≡ Some x → y ≡ x
        head e = cc
    one false e rest = rest e

-- and of what is made of each
pub all-made : {X Y : Type 0} (P : Y → Type 0) (Q : X → Type 0) (f : X → Option Y) → ((x : X) (y : Y) → Q x → f x ≡ Some y → P y) → (xs : List X) → All Q xs → All P (filter_map f xs)
all-made P Q f h [] all = All-nil P
all-made {X} {Y} P Q f h (x ∷ xs) all = one (f x) refl (all-made P Q f h xs (All-tail Q x xs all))
  where
    one : (o : Option Y) → f x ≡ o → All P (filter_map f xs) → All P (cons_option o (filter_map f xs))
    one None is rest = rest
    one (Some y) is rest = All-cons P y (filter_map f xs) (h x y (All-head Q x xs all) is) rest

-- what is made of an item that is found is among what is made
any-made : {X Y : Type 0} (p : X → Bool) (f : X → Option Y) (q : Y → Bool) (xs : List X) (x : X) (y : Y) → find p xs ≡ Some x → f x ≡ Some y → q y ≡ true → list_any q (filter_map f xs) ≡ true
any-made p f q [] x y e is at = absurd (let both = e in cc)
any-made {X} {Y} p f q (z ∷ xs) x y e is at = one (p z) e (λ w. any-made p f q xs x y w is at)
  where
    any : (o : Option Y) → list_any q (filter_map f xs) ≡ true → list_any q (cons_option o (filter_map f xs)) ≡ true
    any None e = e
    any (Some w) e = either (q w) (list_any q (filter_map f xs)) e
      where
        either : (a b : Bool) → b ≡ true → (a || b) ≡ true
        either true b e = refl
        either false b e = e

    one : (b : Bool) → (if b then Some z else find p xs) ≡ Some x → (find p xs ≡ Some x → list_any q (filter_map f xs) ≡ true) → list_any q (cons_option (f z) (filter_map f xs)) ≡ true
    one true e rest =
        let made : f z ≡ Some y = ap f (head e) ∙ is in
        ap (λ (o : Option Y). list_any q (cons_option o (filter_map f xs))) made ∙ ap (λ (b : Bool). b || list_any q (filter_map f xs)) at
      where
        head : Some z ≡ Some x → z ≡ x
        head e = cc
    one false e rest = any (f z) (rest e)

find-map : {X Y : Type 0} (q : Y → Bool) (f : X → Y) (xs : List X) (y : Y) → find q (map f xs) ≡ Some y → (x : X) × (find (λ z. q (f z)) xs ≡ Some x) × (f x ≡ y)
find-map q f [] y e = absurd (let both = e in cc)
find-map {X} {Y} q f (z ∷ xs) y e = one (q (f z)) e (find-map q f xs y)
  where
    one : (b : Bool) → (if b then Some (f z) else find q (map f xs)) ≡ Some y → (find q (map f xs) ≡ Some y → (x : X) × (find (λ w. q (f w)) xs ≡ Some x) × (f x ≡ y))
        → (x : X) × ((if b then Some z else find (λ w. q (f w)) xs) ≡ Some x) × (f x ≡ y)
    one true e rest = (z, refl, head e)
      where
        head : Some (f z) ≡ Some y → f z ≡ y
        head e = cc
    one false e rest = rest e

found_not : {X : Type 0} (q : X → Bool) (xs : List X) → list_any q xs ≡ true → find q xs ≡ None → ⊥
found_not q [] e is = absurd (let both : false ≡ true = e in cc)
found_not {X} q (x ∷ xs) e is = one (q x) e is (found_not q xs)
  where
    one : (b : Bool) → (b || list_any q xs) ≡ true → (if b then Some x else find q xs) ≡ None → (list_any q xs ≡ true → find q xs ≡ None → ⊥) → ⊥
    one true e is rest = absurd (let both = is in cc)
    one false e is rest = rest e is

-- a target is found by its replica, and a candidate is that of the target so found
abbrev IsFound : List Target → Target → Type 0
IsFound ts t = find (is_of_replica t.session t.part) ts ≡ Some t

targets_found : (models : List ModelParts) (instances : ℕ) (view : View) → is_well_formed models instances view ≡ true → All (IsFound (all_targets models view)) (all_targets models view)
targets_found models instances view formed =
    all_found (λ t. is_of_replica t.session t.part) (λ t. and-both (t.session.0 == t.session.0) (part_eq t.part t.part) (same-self t.session.0) (part_eq-self t.part)) (all_targets models view)
    (λ t. once_targets models instances view formed t.session t.part)

own_keys : (models : List ModelParts) (view : View) (t : Target) (x : Candidate) → candidate_of models view t ≡ Some x → (t.session ≡ x.session) × (t.part ≡ x.part)
own_keys models view t x e =
    let made = made_of models view t x e in
    (sym (ap (λ (y : Candidate). y.session) made.1), sym (ap (λ (y : Candidate). y.part) made.1))

pub candidates_found : (models : List ModelParts) (instances : ℕ) (view : View) → is_well_formed models instances view ≡ true
    → All (IsOfItsTarget models view) (all_candidates models view)
candidates_found models instances view formed =
    all-sorted (IsOfItsTarget models view) (comes_before models view) (filter_map (candidate_of models view) (all_targets models view))
    (all-made (IsOfItsTarget models view) (IsFound (all_targets models view)) (candidate_of models view) each (all_targets models view)
    (targets_found models instances view formed))
  where
    each : (t : Target) (x : Candidate) → IsFound (all_targets models view) t → candidate_of models view t ≡ Some x → IsOfItsTarget models view x
    each t x found e =
        let keys = own_keys models view t x e in
        record {
          target = t;
          own = (λ i. find (is_of_replica (sym keys.0 i) (sym keys.1 i)) (all_targets models view)) ∙ found;
          made = e;
        }

-- what the pass finds of a target, where no message is pending and nothing was sent or held
finding_plain : (models : List ModelParts) (rules : List Rule) (view : View) (t : Target) → view.mail ≡ [] → (throttled_of models rules view).sent ≡ [] → IsAllFull models view
    → finding_of view (selection_of models view) (throttled_of models rules view) t
    ≡ (if is_failed view t then findings.Failed
    else option_map_or findings.Full (find (λ f. is_of t f.candidate) (map (full models view []) (all_candidates models view))) findings.AtBest)
finding_plain models rules view t empty sent all i =
    if is_failed view t then findings.Failed
    else option_map_or (λ m. findings.Pending m.id) (message_of (empty i) t.session t.part)
    (if list_any (is_of t) (sent i) then findings.Sent
    else option_map_or findings.Held (find (λ h. is_of t h.candidate) (held_of rules view (all.accepted i)))
    (option_map_or findings.Full (find (λ f. is_of t f.candidate) (all.full i)) findings.AtBest))

-- a candidate without room is full
length-insert : {X : Type 0} (before : X → X → Bool) (x : X) (xs : List X) → length (insert_by before x xs) ≡ length (x ∷ xs)
length-insert before x [] = refl
length-insert before x (y ∷ xs) = grind (arith, length-insert before x xs)

length-sort : {X : Type 0} (before : X → X → Bool) (xs : List X) → length (sort_by before xs) ≡ length xs
length-sort before [] = refl
length-sort before (x ∷ xs) = grind (arith, length-insert before x (sort_by before xs), length-sort before xs)

pub many_shown : (c : Cluster) → length (live_shown c) ≡ length c.live
many_shown c = length-sort instance_before (shown_of c.live) ∙ length-map c.live (λ (l : Live). (l.session, l.instance))

or_none : (b : Bool) → (b || false) ≡ b
or_none true = refl
or_none false = refl

plus_none : (n : ℕ) → n + 0 ≡ n
plus_none n = omega arith

some_held : (k : SessionId → Bool) (s : SessionId) (xs : List SessionId) → list_any (λ (h : SessionId). h.0 == s.0) (filter k xs) ≡ (list_any (λ (h : SessionId). h.0 == s.0) xs && k s)
some_held k s [] = refl
some_held k s (x ∷ xs) = one (k x) refl (x.0 == s.0) refl (some_held k s xs)
  where
    one : (a : Bool) → k x ≡ a → (b : Bool) → (x.0 == s.0) ≡ b → list_any (λ (h : SessionId). h.0 == s.0) (filter k xs) ≡ (list_any (λ (h : SessionId). h.0 == s.0) xs && k s)
        → list_any (λ (h : SessionId). h.0 == s.0) (if a then x ∷ filter k xs else filter k xs) ≡ ((b || list_any (λ (h : SessionId). h.0 == s.0) xs) && k s)
    one true is true at rest = let here : k s ≡ true = subst (λ u. k u ≡ true) (session_same x s at) is in grind (arith, at, here)
    one false is true at rest = let here : k s ≡ false = subst (λ u. k u ≡ false) (session_same x s at) is in grind (arith, rest, here)
    one true is false at rest = ap (λ (b : Bool). b || list_any (λ (h : SessionId). h.0 == s.0) (filter k xs)) at ∙ rest
    one false is false at rest = rest

shown_numbers : (c : Cluster) (s : SessionId) → list_any (λ (h : SessionId). h.0 == s.0) (shown_sessions (view_at c)) ≡ is_live c.live s
shown_numbers c s = any-map (λ (h : SessionId). h.0 == s.0) (λ (e : SessionId × InstanceId). e.0) (live_shown c) ∙ shown_is_live c s

full_is : (c : Cluster) (t : Target) (x : Candidate) → is_of t x ≡ true → hop_of (model_of c.models c.resources t.part.resource) t ≡ Some x → not (has_room c.models (view_at c) [] x) ≡ true
    → IsFull c t (full c.models (view_at c) [] x)
full_is c t x own next roomless = one (limit_for c.models (view_at c) x) refl roomless
  where
    part : x.part ≡ t.part
    part = part_same x.part t.part (and-second (x.session.0 == t.session.0) (part_eq x.part t.part) own)

    ends : SessionId → Bool
    ends = has_end c.rows c.mail x.part x.to

    counted : filling (view_at c) [] x ≡ count_of c t.part x.to
    counted = plus_none (count_over (shown_sessions (view_at c)) c.rows c.mail x.part x.to) ∙ counts_alike c x.part x.to ∙ ap (λ (p : PartId). count_of c p x.to) part

    limited : limit_at c t.part x.to ≡ limit_for c.models (view_at c) x
    limited i = limit_over c.models c.resources (sym (many_shown c) i) (sym part i) x.to

    held : (s : SessionId) → list_any (λ (h : SessionId). h.0 == s.0) (filter (holds (view_at c) [] x) (shown_sessions (view_at c))) ≡ (is_live c.live s && has_end c.rows c.mail t.part x.to s)
    held s =
        some_held (holds (view_at c) [] x) s (shown_sessions (view_at c))
        ∙ (λ i. shown_numbers c s i && or_none (has_end c.rows c.mail x.part x.to s) i)
        ∙ ap (λ (p : PartId). is_live c.live s && has_end c.rows c.mail p x.to s) part

    each : length (filter (holds (view_at c) [] x) (shown_sessions (view_at c))) ≡ filling (view_at c) [] x
    each = (λ i. length (filter (λ s. or_none (has_end c.rows c.mail x.part x.to s) i) (shown_sessions (view_at c)))) ∙ sym (plus_none (count_over (shown_sessions (view_at c)) c.rows c.mail x.part x.to))

    one : (o : Option ℕ) → limit_for c.models (view_at c) x ≡ o → not (option_map_or (nat_lt (filling (view_at c) [] x)) o true) ≡ true → IsFull c t (full c.models (view_at c) [] x)
    one None is e = absurd (let both : false ≡ true = e in cc)
    one (Some limit) is e =
        let bound : unwrap_or (limit_for c.models (view_at c) x) 0 ≡ limit = ap (λ (o : Option ℕ). unwrap_or o 0) is in
        record {
          next = next;
          count = counted;
          bound = limited ∙ is ∙ ap (λ (n : ℕ). Some n) (sym bound);
          reached = low (filling (view_at c) [] x) limit (unwrap_or (limit_for c.models (view_at c) x) 0) bound e;
          holders = held;
          each = each;
        }
      where
        low : (n limit bound : ℕ) → bound ≡ limit → not (nat_lt n limit) ≡ true → bound ≤ n
        low n limit bound same e = grind (arith, nat_tests, same, e)

-- so each finding is a reason
reason : (c : Cluster) → IsSafe c → IsRanged c → c.mail ≡ [] → (throttled_of c.models c.rules (view_at c)).sent ≡ [] → (t : Target) → IsFound (all_targets c.models (view_at c)) t
    → HasHop (model_of c.models c.resources t.part.resource) t → IsReason c t (finding_of (view_at c) (selection_of c.models (view_at c)) (throttled_of c.models c.rules (view_at c)) t)
reason c safe ranged empty sent t found hops =
    subst (IsReason c t) (sym (finding_plain c.models c.rules (view_at c) t empty sent all)) (failed (is_failed (view_at c) t) refl)
  where
    view : View
    view = view_at c

    m : ModelParts
    m = model_of c.models c.resources t.part.resource

    all : IsAllFull c.models (view_at c)
    all = all_full_at c ranged empty sent

    xs : List Candidate
    xs = all_candidates c.models (view_at c)

    idle : message_of c.mail t.session t.part ≡ None
    idle = ap (λ (ms : List Message). message_of ms t.session t.part) empty

    -- the candidate of the target
    made : (x : Candidate) → is_at_goal m t ≡ false → hop_of m t ≡ Some x → candidate_of c.models (view_at c) t ≡ Some x
    made x away next = (λ i. if is_some (idle i) || away i then None else hop_of m t) ∙ next

    taken : (x : Candidate) → candidate_of c.models (view_at c) t ≡ Some x → hop_of m t ≡ Some x
    taken x e = one (is_some (message_of c.mail t.session t.part) || is_at_goal m t) e
      where
        one : (b : Bool) → (if b then None else hop_of m t) ≡ Some x → hop_of m t ≡ Some x
        one true e = absurd (let both = e in cc)
        one false e = e

    of_target : (x : Candidate) → is_of t x ≡ true → IsOfItsTarget c.models (view_at c) x → hop_of m t ≡ Some x
    of_target x own from =
        let session : x.session ≡ t.session = session_same x.session t.session (and-first (x.session.0 == t.session.0) (part_eq x.part t.part) own) in
        let part : x.part ≡ t.part = part_same x.part t.part (and-second (x.session.0 == t.session.0) (part_eq x.part t.part) own) in
        let here : Some t ≡ Some from.target = sym found ∙ (λ i. find (is_of_replica (sym session i) (sym part i)) (all_targets c.models (view_at c))) ∙ from.own in
        taken x (ap (candidate_of c.models (view_at c)) (head from.target here) ∙ from.made)
      where
        head : (u : Target) → Some t ≡ Some u → t ≡ u
        head u e = cc

    at_best : find (λ f. is_of t f.candidate) (map (full c.models (view_at c) []) (all_candidates c.models (view_at c))) ≡ None → (b : Bool) → is_at_goal m t ≡ b → b ≡ true
    at_best none true is = refl
    at_best none false is =
        let next = hops is in
        let candidate = made next.0 is next.1.next in
        let keys = own_keys c.models (view_at c) t next.0 candidate in
        let own : is_of t next.0 ≡ true = (λ i. (sym keys.0 i).0 == t.session.0 && part_eq (sym keys.1 i) t.part) ∙ and-both (t.session.0 == t.session.0) (part_eq t.part t.part) (same-self t.session.0) (part_eq-self t.part) in
        let among : list_any (is_of t) (all_candidates c.models (view_at c)) ≡ true
        = any-sort (is_of t) (comes_before c.models (view_at c)) (filter_map (candidate_of c.models (view_at c)) (all_targets c.models (view_at c)))
        ∙ any-made (is_of_replica t.session t.part) (candidate_of c.models (view_at c)) (is_of t) (all_targets c.models (view_at c)) t next.0 found candidate own in
        absurd (found_not (λ (f : Full). is_of t f.candidate) (map (full c.models (view_at c) []) (all_candidates c.models (view_at c)))
        (any-map (λ (f : Full). is_of t f.candidate) (full c.models (view_at c) []) (all_candidates c.models (view_at c)) ∙ among) none)

    because : (o : Option Full) → find (λ f. is_of t f.candidate) (map (full c.models (view_at c) []) (all_candidates c.models (view_at c))) ≡ o
        → IsReason c t (option_map_or findings.Full o findings.AtBest)
    because None is = at_best is (is_at_goal m t) refl
    because (Some f) is =
        let there = find-map (λ (f : Full). is_of t f.candidate) (full c.models (view_at c) []) (all_candidates c.models (view_at c)) f is in
        let x = there.0 in
        let own : is_of t x ≡ true = find-passes (is_of t) (all_candidates c.models (view_at c)) x there.1 in
        let from = all-found (IsOfItsTarget c.models (view_at c)) (is_of t) (all_candidates c.models (view_at c)) x
        (candidates_found c.models (length c.instances) (view_at c) (view_formed c safe ranged)) there.1 in
        let roomless = all-find (λ y. not (has_room c.models (view_at c) [] y)) (is_of t) (all_candidates c.models (view_at c)) x all.roomless there.1 in
        subst (IsFull c t) there.2 (full_is c t x own (of_target x own from) roomless)

    failed : (b : Bool) → is_failed (view_at c) t ≡ b
        → IsReason c t (if b then findings.Failed else option_map_or findings.Full (find (λ f. is_of t f.candidate) (map (full c.models (view_at c) []) (all_candidates c.models (view_at c)))) findings.AtBest)
    failed true is = is
    failed false is = because (find (λ f. is_of t f.candidate) (map (full c.models (view_at c) []) (all_candidates c.models (view_at c)))) refl

-- and the report explains the cluster
same_targets : (view : View) (selection : Selection) (throttled : Throttled) (ts : List Target) → map (λ e. e.target) (map (entry view selection throttled) ts) ≡ ts
same_targets view selection throttled [] = refl
same_targets view selection throttled (t ∷ ts) = ap (λ (us : List Target). t ∷ us) (same_targets view selection throttled ts)

pub settled_explained : (c : Cluster) → IsSafe c → IsRanged c → c.mail ≡ [] → (plan c.models c.rules (view_at c)).proposals ≡ [] → IsExplained c (plan c.models c.rules (view_at c)).report
settled_explained c safe ranged empty none =
    let ts = all_targets c.models (view_at c) in
    let formed = view_formed c safe ranged in
    let found = targets_found c.models (length c.instances) (view_at c) formed in
    let hops = have_hops c.models (length c.instances) (view_at c) (sound_of c safe ranged) formed in
    record {
      targets = same_targets (view_at c) (selection_of c.models (view_at c)) (throttled_of c.models c.rules (view_at c)) ts;
      reasons = All-map (λ e. IsReason c e.target e.finding) (entry (view_at c) (selection_of c.models (view_at c)) (throttled_of c.models c.rules (view_at c))) ts
          (λ k d low. reason c safe ranged empty (unmapped (throttled_of c.models c.rules (view_at c)).sent none) (get_or ts k d) (found k d low) (hops k d low));
    }
  where
    unmapped : (xs : List Candidate) → map proposal xs ≡ [] → xs ≡ []
    unmapped [] e = refl
    unmapped (x ∷ xs) e = absurd (let both = e in cc)
