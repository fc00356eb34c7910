-- Each event raises the change number, or reads show the same after it.
use Rattle.std.proofs.Common.{◌≡◌, ℕ, ◌+◌, ◌≤◌, ◌<◌, ◌==◌, not, Bool, true, false, List, [], ◌∷◌, ◌++◌, length, filter, find, Option, Some, None, refl, sym, ap, ◌∙◌, inl, inr, subst, arith}
use Rattle.std.specs.Prelude.{if◌then◌else◌, nat_lt, slice_get}
use Rattle.std.specs.List.{list_all}
use Rattle.std.proofs.lemmas.Bool.Decides.{nat_tests}
use Rattle.hx_lists.specs.Lists.{count, insert_by, sort_by}
use Rattle.hx_ids.specs.declared.InstanceId.{InstanceId}
use Rattle.hx_ids.specs.declared.ControllerId.{ControllerId}
use Rattle.hx_ids.specs.declared.PassNo.{PassNo}
use Rattle.hx_ids.specs.declared.ResourceId.{ResourceId}
use Rattle.hx_ids.specs.declared.SessionId.{SessionId}
use Rattle.hx_ids.specs.declared.MsgId.{MsgId}
use Rattle.hx_ids.specs.declared.PartId.{PartId}
use Rattle.hx_ids.specs.declared.Live.{Live}
use Rattle.hx_ideal.specs.IdealState.{put_list, put_map}
use Rattle.hx_cluster.specs.declared.description.Resource.{Resource}
use Rattle.hx_cluster.specs.declared.state.Message.{Message}
use Rattle.hx_cluster.specs.declared.state.Cluster.{Cluster}
use Rattle.hx_cluster.specs.declared.happenings.Admin.{Admin}
use Rattle.hx_cluster.specs.declared.happenings.Admin.TheVariants as steps
use Rattle.hx_cluster.specs.declared.happenings.Outcome.{Outcome}
use Rattle.hx_cluster.specs.declared.happenings.Proposal.{Proposal}
use Rattle.hx_cluster.specs.declared.happenings.Placed.{Placed}
use Rattle.hx_cluster.specs.declared.happenings.Placed.TheVariants as placings
use Rattle.hx_cluster.specs.declared.happenings.Event.{Event}
use Rattle.hx_cluster.specs.declared.happenings.Event.TheVariants as events
use Rattle.hx_cluster.specs.Ends.{is_session, shown_of, resource_at}
use Rattle.hx_cluster.specs.Reads.{instance_before}
use Rattle.hx_cluster.specs.Steps.{is_of, live_of, without, without_all, ended_of, beaten_of, ended_by, changed_at, with_mode, asked_of, marked_down, with_down, without_leader, is_leader, after}
use Rattle.hx_cluster.specs.Messages.{after_placed, raised_pass, next_pass, pending_of, written_of}
use Rattle.hx_cluster.specs.Events.{next}
use Rattle.hx_cluster.specs.Safe.{IsSafe}
use Rattle.hx_safe.proofs.Counting.{and-first, and-second, and-both, find-any, find-passes, any-count}
use Rattle.hx_settled.specs.Standing.{ShowsTheSame, IsCounted}
use Rattle.hx_lawful.proofs.Leads.{along_proposals}

-- the same twice
same_self : (c : Cluster) → ShowsTheSame c c
same_self c = record { live = refl; mail = refl; rows = refl; ideals = refl }

counted_self : (c : Cluster) → IsCounted c c
counted_self c = inr (refl, same_self c)

counted_both : {c d e : Cluster} → IsCounted c d → IsCounted d e → IsCounted c e
counted_both (inl one) (inl two) = inl (omega (arith, one, two))
counted_both (inl one) (inr two) = inl (omega (arith, one, two.0))
counted_both (inr one) (inl two) = inl (omega (arith, one.0, two))
counted_both (inr one) (inr two) = inr (
  two.0 ∙ one.0,
  record { live = two.1.live ∙ one.1.live; mail = two.1.mail ∙ one.1.mail; rows = two.1.rows ∙ one.1.rows; ideals = two.1.ideals ∙ one.1.ideals },
)

more : (n : ℕ) → n < n + 1
more n = omega arith

-- sessions of different instances stand in one order, however they were put in
abbrev Pair : Type 0
Pair = SessionId × InstanceId

swapped : (x y : Pair) (zs : List Pair) → (x.1.0 == y.1.0) ≡ false
    → insert_by instance_before x (insert_by instance_before y zs) ≡ insert_by instance_before y (insert_by instance_before x zs)
swapped x y [] ne = one (nat_lt y.1.0 x.1.0) (nat_lt x.1.0 y.1.0) refl refl
  where
    one : (a b : Bool) → nat_lt y.1.0 x.1.0 ≡ a → nat_lt x.1.0 y.1.0 ≡ b → (if a then y ∷ x ∷ [] else x ∷ y ∷ []) ≡ (if b then x ∷ y ∷ [] else y ∷ x ∷ [])
    one true true yx xy = absurd (grind (arith, nat_tests, yx, xy))
    one true false yx xy = refl
    one false true yx xy = refl
    one false false yx xy = absurd (grind (arith, nat_tests, yx, xy, ne))
swapped x y (z ∷ zs) ne = one (nat_lt z.1.0 x.1.0) (nat_lt z.1.0 y.1.0) refl refl (swapped x y zs ne)
  where
    I : Pair → List Pair → List Pair
    I = insert_by instance_before

    one : (a b : Bool) → nat_lt z.1.0 x.1.0 ≡ a → nat_lt z.1.0 y.1.0 ≡ b → I x (I y zs) ≡ I y (I x zs)
        → I x (if b then z ∷ I y zs else y ∷ z ∷ zs) ≡ I y (if a then z ∷ I x zs else x ∷ z ∷ zs)
    one true true zx zy e = grind (arith, zx, zy, e)
    one true false zx zy e =
        let low : nat_lt y.1.0 x.1.0 ≡ true = grind (arith, nat_tests, zx, zy, ne) in
        grind (arith, zx, zy, low)
    one false true zx zy e =
        let low : nat_lt x.1.0 y.1.0 ≡ true = grind (arith, nat_tests, zx, zy, ne) in
        grind (arith, zx, zy, low)
    one false false zx zy e = two (nat_lt y.1.0 x.1.0) (nat_lt x.1.0 y.1.0) refl refl
      where
        two : (a b : Bool) → nat_lt y.1.0 x.1.0 ≡ a → nat_lt x.1.0 y.1.0 ≡ b → (if a then y ∷ I x (z ∷ zs) else x ∷ y ∷ z ∷ zs) ≡ (if b then x ∷ I y (z ∷ zs) else y ∷ x ∷ z ∷ zs)
        two true true yx xy = absurd (grind (arith, nat_tests, yx, xy))
        two true false yx xy = grind (arith, zx)
        two false true yx xy = grind (arith, zy)
        two false false yx xy = absurd (grind (arith, nat_tests, yx, xy, ne))

-- a session that stands last is put in last
put_last : (xs : List Pair) (y : Pair) → list_all (λ x. not (x.1.0 == y.1.0)) xs ≡ true → sort_by instance_before (xs ++ y ∷ []) ≡ insert_by instance_before y (sort_by instance_before xs)
put_last [] y apart = refl
put_last (x ∷ xs) y apart =
    let here = and-first (not (x.1.0 == y.1.0)) (list_all (λ z. not (z.1.0 == y.1.0)) xs) apart in
    ap (insert_by instance_before x) (put_last xs y (and-second (not (x.1.0 == y.1.0)) (list_all (λ z. not (z.1.0 == y.1.0)) xs) apart))
    ∙ swapped x y (sort_by instance_before xs) (no (x.1.0 == y.1.0) here)
  where
    no : (b : Bool) → not b ≡ true → b ≡ false
    no true e = sym e
    no false e = refl

-- and a session that is taken out and put in stands where it stood
abbrev is_other : Live → Live → Bool
is_other l x = not (is_session l.session x)

none_there : (l : Live) (xs : List Live) → count (is_session l.session) xs ≤ 0 → filter (is_other l) xs ≡ xs
none_there l [] few = refl
none_there l (x ∷ xs) few = one (is_session l.session x) few (none_there l xs)
  where
    one : (b : Bool) → length (if b then x ∷ filter (is_session l.session) xs else filter (is_session l.session) xs) ≤ 0 → (count (is_session l.session) xs ≤ 0 → filter (is_other l) xs ≡ xs)
        → (if not b then x ∷ filter (is_other l) xs else filter (is_other l) xs) ≡ x ∷ xs
    one true few rest = absurd (omega (arith, few))
    one false few rest = ap (λ (ys : List Live). x ∷ ys) (rest few)

abbrev shown : Live → Pair
shown l = (l.session, l.instance)

taken_out : (l : Live) (live : List Live) → count (is_session l.session) live ≤ 1 → count (is_of l.instance) live ≤ 1 → find (is_of l.instance) live ≡ Some l
    → sort_by instance_before (shown_of live) ≡ insert_by instance_before (shown l) (sort_by instance_before (shown_of (filter (is_other l) live)))
taken_out l [] numbers instances e = absurd (let both = e in cc)
taken_out l (x ∷ live) numbers instances e = one (is_of l.instance x) refl e numbers instances (taken_out l live)
  where
    here : x ≡ l → count (is_session l.session) live ≤ 0
        → sort_by instance_before (shown_of (x ∷ live)) ≡ insert_by instance_before (shown l) (sort_by instance_before (shown_of (filter (is_other l) (x ∷ live))))
    here same few =
        let self : is_session l.session x ≡ true = subst (λ (y : Live). is_session l.session y ≡ true) (sym same) (eq l.session.0) in
        let out : filter (is_other l) (x ∷ live) ≡ live = ap (λ (b : Bool). if not b then x ∷ filter (is_other l) live else filter (is_other l) live) self ∙ none_there l live few in
        ap (λ (y : Live). insert_by instance_before (shown y) (sort_by instance_before (shown_of live))) same
        ∙ ap (λ (ys : List Live). insert_by instance_before (shown l) (sort_by instance_before (shown_of ys))) (sym out)
      where
        eq : (n : ℕ) → (n == n) ≡ true
        eq n = grind (arith, nat_tests)

    one : (b : Bool) → is_of l.instance x ≡ b → (if b then Some x else find (is_of l.instance) live) ≡ Some l → count (is_session l.session) (x ∷ live) ≤ 1 → count (is_of l.instance) (x ∷ live) ≤ 1
        → (count (is_session l.session) live ≤ 1 → count (is_of l.instance) live ≤ 1 → find (is_of l.instance) live ≡ Some l
        → sort_by instance_before (shown_of live) ≡ insert_by instance_before (shown l) (sort_by instance_before (shown_of (filter (is_other l) live))))
        → sort_by instance_before (shown_of (x ∷ live)) ≡ insert_by instance_before (shown l) (sort_by instance_before (shown_of (filter (is_other l) (x ∷ live))))
    one true is e numbers instances rest =
        here (head e) (few (is_session l.session x) (subst (λ (y : Live). is_session l.session y ≡ true) (sym (head e)) (eq l.session.0)) numbers)
      where
        eq : (n : ℕ) → (n == n) ≡ true
        eq n = grind (arith, nat_tests)

        head : Some x ≡ Some l → x ≡ l
        head e = cc

        few : (b : Bool) → b ≡ true → length (if b then x ∷ filter (is_session l.session) live else filter (is_session l.session) live) ≤ 1 → count (is_session l.session) live ≤ 0
        few true is most = omega (arith, most)
        few false is most = absurd (let no_one : false ≡ true = is in cc)
    one false is e numbers instances rest = two (is_session l.session x) refl numbers
      where
        there : 1 ≤ count (is_session l.session) live
        there = any-count (is_session l.session) live (find-any (is_of l.instance) (is_session l.session) live l e (eq l.session.0))
          where
            eq : (n : ℕ) → (n == n) ≡ true
            eq n = grind (arith, nat_tests)

        fewer : count (is_of l.instance) live ≤ 1
        fewer = drop_one is instances
          where
            drop_one : is_of l.instance x ≡ false → count (is_of l.instance) (x ∷ live) ≤ 1 → count (is_of l.instance) live ≤ 1
            drop_one is most = let same = ap (λ (b : Bool). length (if b then x ∷ filter (is_of l.instance) live else filter (is_of l.instance) live)) is in omega (arith, most, same)

        apart : (x.instance.0 == l.instance.0) ≡ false
        apart = is

        two : (b : Bool) → is_session l.session x ≡ b → length (if b then x ∷ filter (is_session l.session) live else filter (is_session l.session) live) ≤ 1
            → insert_by instance_before (shown x) (sort_by instance_before (shown_of live))
            ≡ insert_by instance_before (shown l) (sort_by instance_before (shown_of (if not b then x ∷ filter (is_other l) live else filter (is_other l) live)))
        two true at most = absurd (omega (arith, most, there))
        two false at most =
            ap (insert_by instance_before (shown x)) (rest most fewer e)
            ∙ swapped (shown x) (shown l) (sort_by instance_before (shown_of (filter (is_other l) live))) apart

-- a beat
beat_same : (c : Cluster) (l : Live) → count (is_session l.session) c.live ≤ 1 → count (is_of l.instance) c.live ≤ 1 → find (is_of l.instance) c.live ≡ Some l → ShowsTheSame c (beaten_of c (Some l))
beat_same c l numbers instances e = record {
  live =
      ap (sort_by instance_before) (shown_append (filter (is_other l) c.live))
      ∙ put_last (shown_of (filter (is_other l) c.live)) (shown l) (others c.live e numbers instances)
      ∙ sym (taken_out l c.live numbers instances e);
  mail = refl;
  rows = refl;
  ideals = refl;
}
  where
    shown_append : (xs : List Live) → shown_of (xs ++ (record l { beat = c.clock }) ∷ []) ≡ shown_of xs ++ shown l ∷ []
    shown_append [] = refl
    shown_append (x ∷ xs) = ap (λ (ps : List Pair). shown x ∷ ps) (shown_append xs)

    -- no other session is of its instance
    others : (xs : List Live) → find (is_of l.instance) xs ≡ Some l → count (is_session l.session) xs ≤ 1 → count (is_of l.instance) xs ≤ 1
        → list_all (λ (p : Pair). not (p.1.0 == l.instance.0)) (shown_of (filter (is_other l) xs)) ≡ true
    others [] e numbers instances = refl
    others (x ∷ xs) e numbers instances = one (is_of l.instance x) refl e numbers instances (others xs)
      where
        none : (ys : List Live) → count (is_of l.instance) ys ≤ 0 → list_all (λ (p : Pair). not (p.1.0 == l.instance.0)) (shown_of (filter (is_other l) ys)) ≡ true
        none [] few = refl
        none (y ∷ ys) few = grind (arith, few, none ys)

        one : (b : Bool) → is_of l.instance x ≡ b → (if b then Some x else find (is_of l.instance) xs) ≡ Some l → count (is_session l.session) (x ∷ xs) ≤ 1
            → length (if b then x ∷ filter (is_of l.instance) xs else filter (is_of l.instance) xs) ≤ 1
            → (find (is_of l.instance) xs ≡ Some l → count (is_session l.session) xs ≤ 1 → count (is_of l.instance) xs ≤ 1
            → list_all (λ (p : Pair). not (p.1.0 == l.instance.0)) (shown_of (filter (is_other l) xs)) ≡ true)
            → list_all (λ (p : Pair). not (p.1.0 == l.instance.0)) (shown_of (filter (is_other l) (x ∷ xs))) ≡ true
        one true is e numbers instances rest =
            let same : x ≡ l = head e in
            let self : is_session l.session x ≡ true = subst (λ (y : Live). is_session l.session y ≡ true) (sym same) (eq l.session.0) in
            ap (λ (b : Bool). list_all (λ (p : Pair). not (p.1.0 == l.instance.0)) (shown_of (if not b then x ∷ filter (is_other l) xs else filter (is_other l) xs))) self
            ∙ none xs (omega (arith, instances))
          where
            eq : (n : ℕ) → (n == n) ≡ true
            eq n = grind (arith, nat_tests)

            head : Some x ≡ Some l → x ≡ l
            head e = cc
        one false is e numbers instances rest = two (is_session l.session x) numbers
          where
            two : (b : Bool) → length (if b then x ∷ filter (is_session l.session) xs else filter (is_session l.session) xs) ≤ 1
                → list_all (λ (p : Pair). not (p.1.0 == l.instance.0)) (shown_of (if not b then x ∷ filter (is_other l) xs else filter (is_other l) xs)) ≡ true
            two true numbers = rest e (omega (arith, numbers)) instances
            two false numbers =
                and-both (not (x.instance.0 == l.instance.0)) (list_all (λ (p : Pair). not (p.1.0 == l.instance.0)) (shown_of (filter (is_other l) xs))) (ap not is) (rest e numbers instances)

-- a beat is of the live session of an instance
counted_beat : (c : Cluster) (i : InstanceId) → ((s : SessionId) → count (is_session s) c.live ≤ 1) → ((j : InstanceId) → count (is_of j) c.live ≤ 1) → IsCounted c (beaten_of c (live_of c.live i))
counted_beat c i numbers instances = one (live_of c.live i) refl
  where
    one : (o : Option Live) → live_of c.live i ≡ o → IsCounted c (beaten_of c o)
    one None e = counted_self c
    one (Some l) e =
        let at : l.instance ≡ i = instance_same l.instance i (find-passes (is_of i) c.live l e) in
        inr (refl, beat_same c l (numbers l.session) (instances l.instance) (ap (λ (j : InstanceId). find (is_of j) c.live) at ∙ e))
      where
        instance_same : (a b : InstanceId) → (a.0 == b.0) ≡ true → a ≡ b
        instance_same a b e = let same : a.0 ≡ b.0 = grind (arith, nat_tests, e) in ap (λ (n : ℕ). record { 0 = n }) same

-- sessions that end
changes_more : (c : Cluster) (ss : List SessionId) → c.change ≤ (without_all c ss).change
changes_more c [] = omega arith
changes_more c (s ∷ ss) = let rest = changes_more (without c s) ss in omega (arith, rest)

counted_ends : (c : Cluster) (clock : ℕ) (ss : List SessionId) → IsCounted c (without_all (record c { clock = clock }) ss)
counted_ends c clock [] = inr (refl, record { live = refl; mail = refl; rows = refl; ideals = refl })
counted_ends c clock (s ∷ ss) = let rest = changes_more (without (record c { clock = clock }) s) ss in inl (omega (arith, rest))

counted_end : (c : Cluster) (o : Option Live) → IsCounted c (ended_of c o)
counted_end c None = counted_self c
counted_end c (Some l) = inl (more c.change)

-- resources, flags and controllers
counted_resource : (c : Cluster) (r : ResourceId) (f : Resource → Resource) (o : Option Resource) → IsCounted c (changed_at c r f o)
counted_resource c r f None = counted_self c
counted_resource c r f (Some x) = inl (more c.change)

counted_reset : (c : Cluster) (p : PartId) (o : Option Live) → IsCounted c (asked_of c p o)
counted_reset c p None = counted_self c
counted_reset c p (Some l) = inl (more c.change)

counted_down : (c : Cluster) (k : ControllerId) (down : Bool) (o : Option (Bool × PassNo)) → IsCounted c (marked_down c k down o)
counted_down c k down None = counted_self c
counted_down c k down (Some d) = inr (refl, record { live = refl; mail = refl; rows = refl; ideals = refl })

counted_stop : (c : Cluster) (k : ControllerId) → IsCounted c (without_leader k c)
counted_stop c k = one (is_leader k c.leader)
  where
    one : (b : Bool) → IsCounted c (if b then record c { leader = None; epoch = record { 0 = c.epoch.0 + 1 } } else c)
    one true = inr (refl, record { live = refl; mail = refl; rows = refl; ideals = refl })
    one false = counted_self c

counted_raised : (c : Cluster) (k : ControllerId) (o : Option (Bool × PassNo)) → IsCounted c (raised_pass c k o)
counted_raised c k None = counted_self c
counted_raised c k (Some d) = inr (refl, record { live = refl; mail = refl; rows = refl; ideals = refl })

pub counted_pass : (c : Cluster) (k : ControllerId) → IsCounted c (next_pass c k)
counted_pass c k = counted_raised c k (slice_get c.controllers k.0)

-- messages
counted_placed : (c : Cluster) (q : Proposal) (a : Placed) → IsCounted c (after_placed c q a)
counted_placed c q (placings.Sent id) = inl (more c.change)
counted_placed c q _ = counted_self c

counted_written : (c : Cluster) (s : SessionId) (id : MsgId) (outcome : Outcome) (o : Option Message) → IsCounted c (written_of c s id outcome o)
counted_written c s id outcome None = counted_self c
counted_written c s id outcome (Some m) = inl (more c.change)

-- each event
counted_step : (c : Cluster) (step : Admin) → ((s : SessionId) → count (is_session s) c.live ≤ 1) → ((j : InstanceId) → count (is_of j) c.live ≤ 1) → IsCounted c (after c step)
counted_step c (steps.Join i) numbers instances = inl (more c.change)
counted_step c (steps.End i) numbers instances = counted_end c (live_of c.live i)
counted_step c (steps.Beat i) numbers instances = counted_beat c i numbers instances
counted_step c (steps.Tick n) numbers instances = counted_ends c (c.clock + n) (ended_by c n)
counted_step c (steps.Drain i) numbers instances = inl (more c.change)
counted_step c (steps.Undrain i) numbers instances = inl (more c.change)
counted_step c (steps.Add name model ideal) numbers instances = inl (more c.change)
counted_step c (steps.Drop r) numbers instances = counted_resource c r (λ x. record x { dropped = true }) (resource_at c.resources r)
counted_step c (steps.SetList p list) numbers instances = counted_resource c p.resource (λ x. with_mode x (put_list x.ideal.mode p.index list)) (resource_at c.resources p.resource)
counted_step c (steps.SetMap p entries) numbers instances = counted_resource c p.resource (λ x. with_mode x (put_map x.ideal.mode p.index entries)) (resource_at c.resources p.resource)
counted_step c (steps.Reset i p) numbers instances = counted_reset c p (live_of c.live i)
counted_step c (steps.Lead k) numbers instances = inr (refl, record { live = refl; mail = refl; rows = refl; ideals = refl })
counted_step c (steps.Stop k) numbers instances = counted_both (counted_down c k true (slice_get c.controllers k.0)) (counted_stop (with_down c k true) k)
counted_step c (steps.Start k) numbers instances = counted_down c k false (slice_get c.controllers k.0)

pub counted_next : (c : Cluster) (e : Event) → ((s : SessionId) → count (is_session s) c.live ≤ 1) → ((j : InstanceId) → count (is_of j) c.live ≤ 1) → IsCounted c (next c e)
counted_next c (events.Admin step did) numbers instances = counted_step c step numbers instances
counted_next c (events.Line n) numbers instances = inr (refl, record { live = refl; mail = refl; rows = refl; ideals = refl })
counted_next c (events.Begin k begun) numbers instances = counted_pass c k
counted_next c (events.Dispatch k epoch pass proposals answer) numbers instances = counted_both (counted_pass c k) (along_proposals IsCounted counted_self (λ b c d one two. counted_both one two) counted_placed (next_pass c k) proposals)
counted_next c (events.Post k epoch rows) numbers instances = inr (refl, record { live = refl; mail = refl; rows = refl; ideals = refl })
counted_next c (events.Take s id) numbers instances = inl (more c.change)
counted_next c (events.Write s id outcome) numbers instances = counted_written c s id outcome (pending_of c s id)
counted_next c (events.Ack s id) numbers instances = inl (more c.change)
counted_next c _ numbers instances = counted_self c

pub counted_safe : (c : Cluster) (e : Event) → IsSafe c → IsCounted c (next c e)
counted_safe c e safe = counted_next c e safe.sessions.numbers safe.sessions.instances
