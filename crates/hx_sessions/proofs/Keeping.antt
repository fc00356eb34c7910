-- Each change of the pool and of the map of nodes keeps what holds of the fields.
use Rattle.std.proofs.Common.{◌≡◌, ℕ, ◌+◌, ◌≤◌, ◌<◌, ◌^◌, ◌==◌, Bool, true, false, not, List, [], ◌∷◌, ◌++◌, map, Option, Some, None, is_some, refl, sym, ap, ◌∙◌, subst, arith}
use Rattle.std.specs.Prelude.{if◌then◌else◌}
use Rattle.std.specs.List.{list_any}
use Rattle.std.specs.Map.{lookup}
use Rattle.std.specs.Prelude.{Result, Ok, Err, OnOk, OnErr, is_err}
use Rattle.std.proofs.lemmas.Bool.{eqb-true}
use Rattle.std.proofs.lemmas.Bool.Decides.{nat_tests}
use Rattle.hx_lists.specs.Lists.{count}
use Rattle.hx_ids.specs.declared.SessionId.{SessionId}
use Rattle.hx_ids.specs.declared.InstanceId.{InstanceId}
use Rattle.hx_ids.specs.declared.Live.{Live}
use Rattle.hx_links.specs.declared.Node.{Node}
use Rattle.hx_links.specs.declared.ListId.{ListId}
use Rattle.hx_links.specs.Pool.{is_at, is_in, holds, value_in, value_of, pushed, replaced, moved_back}
use Rattle.hx_links.specs.Pool as links
use Rattle.std.proofs.lemmas.List.{map-append}
use Rattle.hx_links.proofs.Reading.{value_some, only_entry}
use Rattle.hx_links.proofs.Vacancy.{same_node}
use Rattle.hx_ids.specs.Sessions.{is_session, is_live, session_at, no_later, without, with_beat, beaten}
use Rattle.hx_sessions.specs.Sessions.{AreSessions, new_live}
use Rattle.hx_sessions.specs.Places.{entries_of, live_of, node_of, IsOnlyList, ArePlaced}
use Rattle.hx_sessions.proofs.Placing.{Entries, Marks, node_of-in, node_of-none, value_at-node, marks, live-without, node_of-without, node_of-push, moved_replaced}
use Rattle.hx_sessions.proofs.Living.{count-filter, count-push, count-zero, find-passes, same_session, below-none, sessions_open, sessions_filter, sessions_beat, beaten-last}
use Rattle.hx_links.proofs.Walking.{NodesOnce}

abbrev pub Lists : Type 0
Lists = List Entries

-- what holds where a call succeeds, and where it fails
pub where_ok : {T E : Type 0} (r : Result T E) (P : Type 0) → is_err r ≡ false → OnOk r P → P
where_ok (Ok x) P e h = h
where_ok (Err x) P e h = absurd (cc)

pub where_err : {T E : Type 0} (r : Result T E) (P : Type 0) → is_err r ≡ true → OnErr r P → P
where_err (Ok x) P e h = absurd (cc)
where_err (Err x) P e h = h

-- the entries are the same
pub same_gets : (nodes nodes' : List (ℕ × Node)) → nodes' ≡ nodes → (q : ℕ) → lookup (λ k. q == k) nodes' ≡ lookup (λ k. q == k) nodes
same_gets nodes nodes' is q = ap (lookup (λ k. q == k)) is

-- a pool of one list
only_entries : (order : Option ListId) (lists : Lists) (n : Node) → IsOnlyList order lists → is_in n (entries_of lists) ≡ true → lists ≡ entries_of lists ∷ []
only_entries None lists n one there = let gone : false ≡ true = subst (λ (ls : Lists). is_in n (entries_of ls) ≡ true) one there in absurd (cc)
only_entries (Some l) lists n one there = one.1

only_kept : (order : Option ListId) (lists lists' : Lists) (es es' : Entries) → IsOnlyList order lists → lists ≡ es ∷ [] → lists' ≡ es' ∷ [] → IsOnlyList order lists'
only_kept None lists lists' es es' one is is' = absurd (cc)
only_kept (Some l) lists lists' es es' one is is' = (one.0, is' ∙ ap (λ (ls : Lists). entries_of ls ∷ []) (sym is'))

the_value : (v : Option Live) → is_some v ≡ true → (l : Live) × (v ≡ Some l)
the_value None e = absurd (cc)
the_value (Some l) e = (l, refl)

any-push : {X : Type 0} (p : X → Bool) (xs : List X) (x : X) → p x ≡ true → list_any p (xs ++ x ∷ []) ≡ true
any-push p [] x e = rw e refl
any-push p (y ∷ xs) x e = grind (arith, any-push p xs x)

pub one_held : (n : Node) (es : Entries) → is_in n es ≡ true → holds (es ∷ []) n ≡ true
one_held n es there = rw there refl

one_value : (n : Node) (l : Live) (es : Entries) → is_in n es ≡ true → value_in n es ≡ Some l → value_of (es ∷ []) n ≡ Some l
one_value n l es there found = rw there found

none_left : (n : Node) (es : Entries) → count (is_at n) (links.without n es) ≡ 0
none_left n [] = refl
none_left n (x ∷ es) = grind (arith, none_left n es)

-- what holds of the fields, from what holds of the entries
placed_by : (order : Option ListId) (lists : Lists) (es : Entries) (nodes : List (ℕ × Node)) (next : ℕ) → IsOnlyList order lists → entries_of lists ≡ es
    → NodesOnce es → ((q : ℕ) → lookup (λ k. q == k) nodes ≡ node_of q es) → next < 2 ^ 64 → AreSessions (record { live = live_of es; next = next }) → ArePlaced order lists nodes next
placed_by order lists es nodes next one is once placed fits are =
    record {
      one = one;
      once = subst NodesOnce (sym is) once;
      placed = λ q. placed q ∙ ap (node_of q) (sym is);
      fits = fits;
      sessions = subst (λ (ys : Entries). AreSessions (record { live = live_of ys; next = next })) (sym is) are;
    }

-- distinct nodes, with one more last
once_push : (n : Node) (l : Live) (es : Entries) → NodesOnce es → count (is_at n) es ≡ 0 → NodesOnce (es ++ (n, l) ∷ [])
once_push n l es once none m = by_test (is_at m (n, l)) refl
  where
    by_test : (b : Bool) → is_at m (n, l) ≡ b → count (is_at m) (es ++ (n, l) ∷ []) ≤ 1
    by_test true at =
        let zero : count (is_at m) es ≡ 0 = subst (λ (i : Node). count (is_at i) es ≡ 0) (same_node n m (eqb-true n.0 m.0 at)) none in
        grind (arith, count-push (is_at m) es (n, l))
    by_test false at = grind (arith, count-push (is_at m) es (n, l), once m)

once_without : (n : Node) (es : Entries) → NodesOnce es → NodesOnce (links.without n es)
once_without n es once m = omega (arith, once m, count-filter (is_at m) (λ e. not (is_at n e)) es)

without_push : (n : Node) (l : Live) (es : Entries) → is_in n es ≡ false → links.without n (es ++ (n, l) ∷ []) ≡ es
without_push n l [] off = let self : is_at n (n, l) ≡ true = grind (arith, nat_tests) in rw self refl
without_push n l (x ∷ es) off = let other : is_at n x ≡ false = grind arith in rw other (ap (λ ys. x ∷ ys) (without_push n l es (grind arith)))

none_node : (s : SessionId) (es : Entries) → is_live (live_of es) s ≡ false → node_of s.0 es ≡ None
none_node s [] off = refl
none_node s (x ∷ es) off = let other : is_session s x.1 ≡ false = grind arith in rw other (none_node s es (grind arith))

-- where a live session stands
pub record StandsIn (lists : Lists) (s : SessionId) (n : Node) (l : Live) : Type 0 where
  pub only : lists ≡ entries_of lists ∷ []
  pub held : holds lists n ≡ true
  pub value : value_of lists n ≡ Some l
  pub node : node_of s.0 (entries_of lists) ≡ Some n
  pub found : session_at (live_of (entries_of lists)) s ≡ Some l
  pub live : is_live (live_of (entries_of lists)) s ≡ true
  pub same : l.session ≡ s
  pub inner : value_in n (entries_of lists) ≡ Some l
  pub marked : Marks n l (entries_of lists)

live_found : (s : SessionId) (l : Live) (live : List Live) → session_at live s ≡ Some l → is_live live s ≡ true
live_found s l [] e = absurd (cc)
live_found s l (k ∷ live) e = grind (arith, live_found s l live)

module _ (order : Option ListId) (lists : Lists) (nodes : List (ℕ × Node)) (next : ℕ) (kept : ArePlaced order lists nodes next) where
  pub stands_in : (s : SessionId) (n : Node) → lookup (λ k. s.0 == k) nodes ≡ Some n → (l : Live) × StandsIn lists s n l
  stands_in s n e =
      let node : node_of s.0 (entries_of lists) ≡ Some n = sym (kept.placed s.0) ∙ e in
      let there : is_in n (entries_of lists) ≡ true = node_of-in s.0 n (entries_of lists) node in
      let only : lists ≡ entries_of lists ∷ [] = only_entries order lists n kept.one there in
      let some = the_value (value_in n (entries_of lists)) (value_some n (entries_of lists) ∙ there) in
      let found : session_at (live_of (entries_of lists)) s ≡ Some some.0 = sym (value_at-node s n (entries_of lists) kept.once node) ∙ some.1 in
      let same : some.0.session ≡ s = same_session some.0.session s (find-passes (is_session s) (live_of (entries_of lists)) some.0 found) in
      let own : node_of some.0.session.0 (entries_of lists) ≡ Some n = subst (λ (t : SessionId). node_of t.0 (entries_of lists) ≡ Some n) (sym same) node in (
        some.0,
        record {
          only = only;
          held = subst (λ (ls : Lists). holds ls n ≡ true) (sym only) (one_held n (entries_of lists) there);
          value = subst (λ (ls : Lists). value_of ls n ≡ Some some.0) (sym only) (one_value n some.0 (entries_of lists) there some.1);
          node = node;
          found = found;
          live = live_found s some.0 (live_of (entries_of lists)) found;
          same = same;
          inner = some.1;
          marked = marks n some.0 (entries_of lists) kept.once kept.sessions.numbers own some.1;
        },
      )

  pub stands_nowhere : (s : SessionId) → lookup (λ k. s.0 == k) nodes ≡ None → is_live (live_of (entries_of lists)) s ≡ false
  stands_nowhere s e = node_of-none s (entries_of lists) (sym (kept.placed s.0) ∙ e)

  -- a session ends
  module _ (s : SessionId) (n : Node) (l : Live) (stands : StandsIn lists s n l) where
    pub ended_lists : (lists' : Lists) → lists' ≡ map (links.without n) lists → lists' ≡ links.without n (entries_of lists) ∷ []
    ended_lists lists' is = is ∙ ap (λ (ls : Lists). map (links.without n) ls) stands.only

    pub ended_live : (lists' : Lists) → lists' ≡ map (links.without n) lists → live_of (entries_of lists') ≡ without s (live_of (entries_of lists))
    ended_live lists' is =
        ap (λ (ls : Lists). live_of (entries_of ls)) (ended_lists lists' is) ∙ live-without n l (entries_of lists) stands.marked
        ∙ ap (λ (t : SessionId). without t (live_of (entries_of lists))) stands.same

    ended_node : (q : ℕ) → node_of q (links.without n (entries_of lists)) ≡ (if s.0 == q then None else node_of q (entries_of lists))
    ended_node q = node_of-without q n l (entries_of lists) stands.marked ∙ ap (λ (t : SessionId). if t.0 == q then None else node_of q (entries_of lists)) stands.same

    without_live : live_of (links.without n (entries_of lists)) ≡ without s (live_of (entries_of lists))
    without_live = live-without n l (entries_of lists) stands.marked ∙ ap (λ (t : SessionId). without t (live_of (entries_of lists))) stands.same

    pub ended_kept : (lists' : Lists) (nodes' : List (ℕ × Node)) → lists' ≡ map (links.without n) lists
        → ((q : ℕ) → lookup (λ k. q == k) nodes' ≡ (if s.0 == q then None else lookup (λ k. q == k) nodes)) → ArePlaced order lists' nodes' next
    ended_kept lists' nodes' is gets =
        placed_by order lists' (links.without n (entries_of lists)) nodes' next
        (only_kept order lists lists' (entries_of lists) (links.without n (entries_of lists)) kept.one stands.only (ended_lists lists' is))
        (ap entries_of (ended_lists lists' is))
        (once_without n (entries_of lists) kept.once)
        (λ q. gets q ∙ ap (λ o. if s.0 == q then None else o) (kept.placed q) ∙ sym (ended_node q))
        kept.fits
        (subst (λ (live : List Live). AreSessions (record { live = live; next = next })) (sym without_live) (sessions_filter (λ k. not (is_session s k)) (live_of (entries_of lists)) next kept.sessions))

    -- a session has a beat
    pub beaten_lists : (lists1 lists2 : Lists) (now : ℕ) → lists1 ≡ map (moved_back n) lists → lists2 ≡ map (map (replaced n (with_beat now l))) lists1
        → lists2 ≡ (links.without n (entries_of lists) ++ (n, with_beat now l) ∷ []) ∷ []
    beaten_lists lists1 lists2 now one two =
        two ∙ ap (λ (ls : Lists). map (map (replaced n (with_beat now l))) ls) (one ∙ ap (λ (ls : Lists). map (moved_back n) ls) stands.only)
        ∙ ap (λ (es : Entries). es ∷ []) (moved_replaced n l (with_beat now l) (entries_of lists) (kept.once n) stands.inner)

    -- a node that comes last is still held
    pub moved_held : (lists1 : Lists) → lists1 ≡ map (moved_back n) lists → holds lists1 n ≡ true
    moved_held lists1 one =
        let self : is_at n (n, l) ≡ true = grind (arith, nat_tests) in
        let last : moved_back n (entries_of lists) ≡ links.without n (entries_of lists) ++ (n, l) ∷ [] = ap (λ (es : Entries). links.without n (entries_of lists) ++ es) (only_entry n (entries_of lists) l (kept.once n) stands.inner) in
        let there : is_in n (moved_back n (entries_of lists)) ≡ true = ap (is_in n) last ∙ any-push (is_at n) (links.without n (entries_of lists)) (n, l) self in
        ap (λ (ls : Lists). holds ls n) (one ∙ ap (λ (ls : Lists). map (moved_back n) ls) stands.only) ∙ one_held n (moved_back n (entries_of lists)) there

    last_live : (now : ℕ) → live_of (links.without n (entries_of lists) ++ (n, with_beat now l) ∷ []) ≡ without s (live_of (entries_of lists)) ++ with_beat now l ∷ []
    last_live now = map-append (λ (e : Node × Live). e.1) (links.without n (entries_of lists)) ((n, with_beat now l) ∷ []) ∙ ap (λ ls. ls ++ with_beat now l ∷ []) without_live

    pub beaten_live : (lists1 lists2 : Lists) (now : ℕ) → lists1 ≡ map (moved_back n) lists → lists2 ≡ map (map (replaced n (with_beat now l))) lists1
        → live_of (entries_of lists2) ≡ beaten s now (live_of (entries_of lists))
    beaten_live lists1 lists2 now one two =
        ap (λ (ls : Lists). live_of (entries_of ls)) (beaten_lists lists1 lists2 now one two) ∙ last_live now
        ∙ sym (beaten-last s l now (live_of (entries_of lists)) kept.sessions.numbers stands.found)

    pub beaten_kept : (lists1 lists2 : Lists) (now : ℕ) → lists1 ≡ map (moved_back n) lists → lists2 ≡ map (map (replaced n (with_beat now l))) lists1
        → no_later now (live_of (entries_of lists)) ≡ true → ArePlaced order lists2 nodes next
    beaten_kept lists1 lists2 now one two late =
        placed_by order lists2 (links.without n (entries_of lists) ++ (n, with_beat now l) ∷ []) nodes next
        (only_kept order lists lists2 (entries_of lists) (links.without n (entries_of lists) ++ (n, with_beat now l) ∷ []) kept.one stands.only (beaten_lists lists1 lists2 now one two))
        (ap entries_of (beaten_lists lists1 lists2 now one two))
        (once_push n (with_beat now l) (links.without n (entries_of lists)) (once_without n (entries_of lists) kept.once) (none_left n (entries_of lists)))
        (λ q. kept.placed q ∙ by_test q (s.0 == q) refl)
        kept.fits
        (subst (λ (live : List Live). AreSessions (record { live = live; next = next })) (sym (last_live now)) (sessions_beat s l now (live_of (entries_of lists)) next kept.sessions late stands.found))
      where
        left : Entries
        left = links.without n (entries_of lists)

        none : node_of l.session.0 left ≡ None
        none =
            let self : (s.0 == s.0) ≡ true = grind (arith, nat_tests) in
            let gone : node_of s.0 left ≡ None = ended_node s.0 ∙ (rw self refl) in
            subst (λ (t : SessionId). node_of t.0 left ≡ None) (sym stands.same) gone

        pushed_node : (q : ℕ) → node_of q (left ++ (n, with_beat now l) ∷ []) ≡ (if s.0 == q then Some n else node_of q left)
        pushed_node q = node_of-push q n (with_beat now l) left none ∙ ap (λ (t : SessionId). if t.0 == q then Some n else node_of q left) stands.same

        by_test : (q : ℕ) (b : Bool) → (s.0 == q) ≡ b → node_of q (entries_of lists) ≡ node_of q (left ++ (n, with_beat now l) ∷ [])
        by_test q true same =
            subst (λ (i : ℕ). node_of i (entries_of lists) ≡ Some n) (eqb-true s.0 q same) stands.node ∙ sym (pushed_node q ∙ (rw same refl))
        by_test q false other = sym (pushed_node q ∙ (rw other refl) ∙ ended_node q ∙ (rw other refl))

  -- a session is opened: the pool's one list is there, and has one entry more
  module _ (list : ListId) (lists1 : Lists) (n : Node) (i : InstanceId) (now : ℕ) (one : IsOnlyList (Some list) lists1) (entries : entries_of lists1 ≡ entries_of lists) (fresh : holds lists1 n ≡ false) where
    pub only_one : lists1 ≡ entries_of lists ∷ []
    only_one = one.1 ∙ ap (λ (es : Entries). es ∷ []) entries

    pub opened_lists : (lists2 : Lists) → lists2 ≡ pushed lists1 list.0 (n, new_live next i now) → lists2 ≡ (entries_of lists ++ (n, new_live next i now) ∷ []) ∷ []
    opened_lists lists2 is =
        is ∙ ap (λ (k : ℕ). pushed lists1 k (n, new_live next i now)) one.0
        ∙ ap (λ (ls : Lists). pushed ls 0 (n, new_live next i now)) only_one

    off : is_in n (entries_of lists) ≡ false
    off = let none : holds (entries_of lists ∷ []) n ≡ false = subst (λ (ls : Lists). holds ls n ≡ false) only_one fresh in grind arith

    pub opened_kept : (lists2 : Lists) (nodes' : List (ℕ × Node)) → lists2 ≡ pushed lists1 list.0 (n, new_live next i now)
        → ((q : ℕ) → lookup (λ k. q == k) nodes' ≡ (if next == q then Some n else lookup (λ k. q == k) nodes))
        → no_later now (live_of (entries_of lists)) ≡ true → next + 1 < 2 ^ 64 → ArePlaced (Some list) lists2 nodes' (next + 1)
    opened_kept lists2 nodes' is gets late fits =
        placed_by (Some list) lists2 (entries_of lists ++ (n, new_live next i now) ∷ []) nodes' (next + 1)
        (only_kept (Some list) lists1 lists2 (entries_of lists) (entries_of lists ++ (n, new_live next i now) ∷ []) one only_one (opened_lists lists2 is))
        (ap entries_of (opened_lists lists2 is))
        (once_push n (new_live next i now) (entries_of lists) kept.once (count-zero (is_at n) (entries_of lists) off))
        (λ q. gets q ∙ ap (λ o. if next == q then Some n else o) (kept.placed q)
        ∙ sym (node_of-push q n (new_live next i now) (entries_of lists) none))
        fits
        (subst (λ (live : List Live). AreSessions (record { live = live; next = next + 1 })) (sym longer) (sessions_open (record { live = live_of (entries_of lists); next = next }) i now kept.sessions late))
      where
        none : node_of next (entries_of lists) ≡ None
        none = none_node (record { 0 = next }) (entries_of lists) (below-none (live_of (entries_of lists)) next (record { 0 = next }) kept.sessions.below (omega arith))

        longer : live_of (entries_of lists ++ (n, new_live next i now) ∷ []) ≡ live_of (entries_of lists) ++ new_live next i now ∷ []
        longer = map-append (λ (e : Node × Live). e.1) (entries_of lists) ((n, new_live next i now) ∷ [])

    -- the session is not opened after all
    pub unopened_kept : (lists2 lists3 : Lists) (nodes' : List (ℕ × Node)) → lists2 ≡ pushed lists1 list.0 (n, new_live next i now)
        → lists3 ≡ map (links.without n) lists2 → ((q : ℕ) → lookup (λ k. q == k) nodes' ≡ lookup (λ k. q == k) nodes) → (ArePlaced (Some list) lists3 nodes' next) × (entries_of lists3 ≡ entries_of lists)
    unopened_kept lists2 lists3 nodes' is gone gets = (
      placed_by (Some list) lists3 (entries_of lists) nodes' next
          (only_kept (Some list) lists1 lists3 (entries_of lists) (entries_of lists) one only_one back)
          (ap entries_of back) kept.once (λ q. gets q ∙ kept.placed q) kept.fits kept.sessions,
      ap entries_of back,
    )
      where
        back : lists3 ≡ entries_of lists ∷ []
        back = gone ∙ ap (λ (ls : Lists). map (links.without n) ls) (opened_lists lists2 is) ∙ ap (λ (es : Entries). es ∷ []) (without_push n (new_live next i now) (entries_of lists) off)
