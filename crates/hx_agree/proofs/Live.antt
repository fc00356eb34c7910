-- Live sessions, by instance, and those in which nothing was done.
use Rattle.std.proofs.Common.{◌≡◌, ℕ, ◌<◌, ◌==◌, ◌&&◌, ◌||◌, not, Bool, true, false, List, find, length, Option, Some, None, refl, sym, ap, ◌∙◌, subst, arith}
use Rattle.std.specs.Prelude.{is_none}
use Rattle.std.specs.Option.{option_map}
use Rattle.std.specs.List.{list_any, list_all}
use Rattle.std.proofs.lemmas.Bool.Decides.{nat_tests}
use Rattle.hx_ids.specs.declared.InstanceId.{InstanceId}
use Rattle.hx_ids.specs.declared.SessionId.{SessionId}
use Rattle.hx_ids.specs.declared.PartId.{PartId}
use Rattle.hx_ids.specs.declared.Live.{Live}
use Rattle.hx_ids.specs.Words.{instance}
use Rattle.hx_cluster.specs.declared.state.Row.{Row}
use Rattle.hx_cluster.specs.declared.state.Message.{Message}
use Rattle.hx_cluster.specs.declared.state.Cluster.{Cluster}
use Rattle.hx_cluster.specs.Ends.{part_eq, is_row, is_message, is_session as is_session_at, is_live, row_of, state_of, message_of}
use Rattle.hx_cluster.specs.Steps.{is_of, live_of, session_of, has_instance}
use Rattle.hx_cluster.specs.Events.{has_part}
use Rattle.hx_cluster.specs.Safe.{IsSafe, is_kept, is_pending}
use Rattle.hx_cluster.specs.Ranged.{IsRanged}
use Rattle.hx_replicas.specs.Participants.{is_session}
use Rattle.hx_worlds.specs.Agree.{Stationed, has_any, is_untouched, is_cared_for}
use Rattle.hx_safe.proofs.Counting.{and-first, and-second, and-both, and-three, and-six, all-find, find-passes, find-any, none-find, find-single}
use Rattle.hx_safe.proofs.Ends.{same-self, session_same, part_same, part_eq-self}
use Rattle.hx_agree.specs.Tests.{at_each_part, is_taken, is_untouched_at, is_cared_at, are_cared_for, has_session}
use Rattle.hx_agree.proofs.Below.{all_below, below_all, any_below, below_any}
use Rattle.hx_safe.proofs.Counting.{all_found}
use Rattle.hx_agree.proofs.Places.{at_part, each_part}
use Rattle.hx_safe.proofs.Sessions.{session_live}

pub is_mine : (o : Option SessionId) (s : SessionId) → o ≡ Some s → is_session o s ≡ true
is_mine None s e = cc
is_mine (Some t) s e = let same : t ≡ s = cc in subst (λ (u : SessionId). (t.0 == u.0) ≡ true) same (same-self t.0)

pub mine_is : (o : Option SessionId) (s : SessionId) → is_session o s ≡ true → o ≡ Some s
mine_is None s e = cc
mine_is (Some t) s e = ap (λ (u : SessionId). Some u) (session_same t s e)

module _ (c : Cluster) (safe : IsSafe c) (ranged : IsRanged c) where
  -- a part that isn't there has no row and no message
  pub no_row : (s : SessionId) (q : PartId) → has_part c q ≡ false → state_of c.rows s q ≡ None
  no_row s q lacks = one (row_of c.rows s q) refl
    where
      one : (o : Option Row) → row_of c.rows s q ≡ o → option_map (λ r. r.state) o ≡ None
      one None is = refl
      one (Some r) is =
          let kept : is_kept c r ≡ true = all-find (is_kept c) (is_row s q) c.rows r safe.rows.kept is in
          let has : has_part c r.part ≡ true = (and-three (is_live c.live r.session) (has_part c r.part) _ kept).1 in
          let same : r.part ≡ q = part_same r.part q (and-second (r.session.0 == s.0) (part_eq r.part q) (find-passes (is_row s q) c.rows r is)) in
          let yes : has_part c q ≡ true = subst (λ (p : PartId). has_part c p ≡ true) same has in
          cc

  pub no_message : (s : SessionId) (q : PartId) → has_part c q ≡ false → message_of c.mail s q ≡ None
  no_message s q lacks = one (message_of c.mail s q) refl
    where
      one : (o : Option Message) → message_of c.mail s q ≡ o → o ≡ None
      one None is = refl
      one (Some m) is =
          let pending : is_pending c m ≡ true = all-find (is_pending c) (is_message s q) c.mail m safe.mail.pending is in
          let has : has_part c m.part ≡ true = (and-six (is_live c.live m.session) (has_part c m.part) _ _ _ _ pending).1 in
          let same : m.part ≡ q = part_same m.part q (and-second (m.session.0 == s.0) (part_eq m.part q) (find-passes (is_message s q) c.mail m is)) in
          let yes : has_part c q ≡ true = subst (λ (p : PartId). has_part c p ≡ true) same has in
          cc

  -- a message of a session is that of its part
  pub message_at : (s : SessionId) (p : Message → Bool) (m : Message) → find p c.mail ≡ Some m → m.session ≡ s → message_of c.mail s m.part ≡ Some m
  message_at s p m is mine =
      find-single p (is_message s m.part) c.mail m is
      (and-both (m.session.0 == s.0) (part_eq m.part m.part) (subst (λ (t : SessionId). (m.session.0 == t.0) ≡ true) mine (same-self m.session.0)) (part_eq-self m.part))
      (safe.mail.single s m.part)

  -- each live session is that of an instance: one that is found among them
  found_session : (p : Live → Bool) (l : Live) → find p c.live ≡ Some l → session_of c l.instance ≡ Some l.session
  found_session p l found =
      ap (option_map (λ (x : Live). x.session)) (find-single p (is_of l.instance) c.live l found (same-self l.instance.0) (safe.sessions.instances l.instance))

  found_instance : (p : Live → Bool) (l : Live) → find p c.live ≡ Some l → l.instance.0 < length c.instances
  found_instance p l found =
      let has : has_instance c l.instance ≡ true = all-find (λ x. has_instance c x.instance) p c.live l ranged.live found in
      grind (arith, nat_tests, has)

  live_found : (s : SessionId) → is_live c.live s ≡ true → (l : Live) × (find (is_session_at s) c.live ≡ Some l)
  live_found s is = one (find (is_session_at s) c.live) refl
    where
      one : (o : Option Live) → find (is_session_at s) c.live ≡ o → (l : Live) × (find (is_session_at s) c.live ≡ Some l)
      one None e = let no = none-find (is_session_at s) c.live e in absurd (let both : true ≡ false = sym is ∙ no in cc)
      one (Some l) e = (l, e)

  pub live_has_session : (n : ℕ) (s : SessionId) → length c.instances ≡ n → is_live c.live s ≡ true → has_session n c s ≡ true
  live_has_session n s long is =
      let l = live_found s is in
      let in_range : l.0.instance.0 < length c.instances = found_instance (is_session_at s) l.0 l.1 in
      let same : l.0.session ≡ s = session_same l.0.session s (find-passes (is_session_at s) c.live l.0 l.1) in
      any_below (λ i. is_session (session_of c (instance i)) s) n l.0.instance.0 (omega arith)
      (is_mine (session_of c l.0.instance) s (found_session (is_session_at s) l.0 l.1 ∙ ap (λ (t : SessionId). Some t) same))

  pub has_session_live : (n : ℕ) (s : SessionId) → has_session n c s ≡ true → is_live c.live s ≡ true
  has_session_live n s e =
      let i = below_any (λ i. is_session (session_of c (instance i)) s) n e in
      session_live c (instance i.0) s (mine_is (session_of c (instance i.0)) s i.1)

  -- nothing was done in a session, at its parts
  at_row : (s : SessionId) (q : PartId) (r : Row) → row_of c.rows s q ≡ Some r → list_any (λ x. x.session.0 == s.0) c.rows ≡ true
  at_row s q r is = find-any (is_row s q) (λ x. x.session.0 == s.0) c.rows r is (and-first (r.session.0 == s.0) (part_eq r.part q) (find-passes (is_row s q) c.rows r is))

  untouched_there : (s : SessionId) → is_untouched c s ≡ true → (q : PartId) → is_untouched_at c s q ≡ true
  untouched_there s e q = and-both (is_none (state_of c.rows s q)) (not (is_taken (message_of c.mail s q))) (row (row_of c.rows s q) refl) (message (message_of c.mail s q) refl)
    where
      none : not (list_any (λ r. r.session.0 == s.0) c.rows) ≡ true
      none = and-first _ (not (list_any (λ m. (m.session.0 == s.0) && m.taken) c.mail)) e

      untaken : not (list_any (λ m. (m.session.0 == s.0) && m.taken) c.mail) ≡ true
      untaken = and-second (not (list_any (λ r. r.session.0 == s.0) c.rows)) _ e

      row : (o : Option Row) → row_of c.rows s q ≡ o → is_none (option_map (λ r. r.state) o) ≡ true
      row None is = refl
      row (Some r) is = let yes = at_row s q r is in let no : not true ≡ true = subst (λ b. not b ≡ true) yes none in cc

      message : (o : Option Message) → message_of c.mail s q ≡ o → not (is_taken o) ≡ true
      message None is = refl
      message (Some m) is = by m.taken refl
        where
          by : (b : Bool) → m.taken ≡ b → not b ≡ true
          by false t = refl
          by true t =
              let mine = and-first (m.session.0 == s.0) (part_eq m.part q) (find-passes (is_message s q) c.mail m is) in
              let yes = find-any (is_message s q) (λ x. (x.session.0 == s.0) && x.taken) c.mail m is (and-both (m.session.0 == s.0) m.taken mine t) in
              let no : not true ≡ true = subst (λ b. not b ≡ true) yes untaken in
              cc

  -- and of the parts that are there it is enough
  row_gone : (o : Option Row) → is_none (option_map (λ r. r.state) o) ≡ true → o ≡ None
  row_gone None e = refl
  row_gone (Some r) e = cc

  there_untouched : (s : SessionId) → ((q : PartId) → has_part c q ≡ true → is_untouched_at c s q ≡ true) → is_untouched c s ≡ true
  there_untouched s h = and-both _ _ (ap not rows) (ap not mail)
    where
      rows : list_any (λ r. r.session.0 == s.0) c.rows ≡ false
      rows = one (find (λ r. r.session.0 == s.0) c.rows) refl
        where
          one : (o : Option Row) → find (λ r. r.session.0 == s.0) c.rows ≡ o → list_any (λ r. r.session.0 == s.0) c.rows ≡ false
          one None is = none-find (λ r. r.session.0 == s.0) c.rows is
          one (Some r) is =
              let kept : is_kept c r ≡ true = all-find (is_kept c) (λ x. x.session.0 == s.0) c.rows r safe.rows.kept is in
              let has : has_part c r.part ≡ true = (and-three (is_live c.live r.session) (has_part c r.part) _ kept).1 in
              let mine : (r.session.0 == s.0) ≡ true = find-passes (λ x. x.session.0 == s.0) c.rows r is in
              let here : list_any (is_row s r.part) c.rows ≡ true = find-any (λ x. x.session.0 == s.0) (is_row s r.part) c.rows r is (and-both _ _ mine (part_eq-self r.part)) in
              let gone : list_any (is_row s r.part) c.rows ≡ false =
              none-find (is_row s r.part) c.rows (row_gone (row_of c.rows s r.part) (and-first _ (not (is_taken (message_of c.mail s r.part))) (h r.part has))) in
              cc

      mail : list_any (λ m. (m.session.0 == s.0) && m.taken) c.mail ≡ false
      mail = one (find (λ m. (m.session.0 == s.0) && m.taken) c.mail) refl
        where
          one : (o : Option Message) → find (λ m. (m.session.0 == s.0) && m.taken) c.mail ≡ o → list_any (λ m. (m.session.0 == s.0) && m.taken) c.mail ≡ false
          one None is = none-find (λ m. (m.session.0 == s.0) && m.taken) c.mail is
          one (Some m) is =
              let pending : is_pending c m ≡ true = all-find (is_pending c) (λ x. (x.session.0 == s.0) && x.taken) c.mail m safe.mail.pending is in
              let has : has_part c m.part ≡ true = (and-six (is_live c.live m.session) (has_part c m.part) _ _ _ _ pending).1 in
              let both : ((m.session.0 == s.0) && m.taken) ≡ true = find-passes (λ x. (x.session.0 == s.0) && x.taken) c.mail m is in
              let mine = session_same m.session s (and-first (m.session.0 == s.0) m.taken both) in
              let found = message_at s (λ x. (x.session.0 == s.0) && x.taken) m is mine in
              let untaken : not (is_taken (message_of c.mail s m.part)) ≡ true = and-second (is_none (state_of c.rows s m.part)) _ (h m.part has) in
              let no : not m.taken ≡ true = subst (λ (o : Option Message). not (is_taken o) ≡ true) found untaken in
              let yes = and-second (m.session.0 == s.0) m.taken both in
              let never : not true ≡ true = subst (λ b. not b ≡ true) yes no in
              cc

  pub untouched_parts : (s : SessionId) → is_untouched c s ≡ true → at_each_part c (is_untouched_at c s) ≡ true
  untouched_parts s e = each_part c (is_untouched_at c s) (λ q has. untouched_there s e q)

  pub parts_untouched : (s : SessionId) → at_each_part c (is_untouched_at c s) ≡ true → is_untouched c s ≡ true
  parts_untouched s e = there_untouched s (at_part c (is_untouched_at c s) e)

  -- each live session is cared for, by instance
  either : (a b d : Bool) → (b ≡ true → d ≡ true) → (a || b) ≡ true → (a || d) ≡ true
  either true b d h e = refl
  either false b d h e = h e

  pub cared_for : (n : ℕ) (ps : List Stationed) → list_all (is_cared_for c ps) c.live ≡ true → are_cared_for n c ps ≡ true
  cared_for n ps e = below_all (λ i. is_cared_at c ps (session_of c (instance i))) n (λ i lt. one (instance i) (live_of c.live (instance i)) refl)
    where
      one : (i : InstanceId) (o : Option Live) → live_of c.live i ≡ o → is_cared_at c ps (option_map (λ l. l.session) o) ≡ true
      one i None is = refl
      one i (Some l) is =
          either (has_any l.session ps) (is_untouched c l.session) (at_each_part c (is_untouched_at c l.session)) (untouched_parts l.session)
          (all-find (is_cared_for c ps) (is_of i) c.live l e is)

  pub cared_live : (n : ℕ) (ps : List Stationed) → length c.instances ≡ n → are_cared_for n c ps ≡ true → list_all (is_cared_for c ps) c.live ≡ true
  cared_live n ps long e =
      all_found (λ (l x : Live). is_of l.instance x) (is_cared_for c ps) c.live (λ l. same-self l.instance.0) (λ l. safe.sessions.instances l.instance)
      (λ l is. let in_range = found_instance (is_of l.instance) l is in
      let at : is_cared_at c ps (session_of c l.instance) ≡ true = all_below (λ i. is_cared_at c ps (session_of c (instance i))) n e l.instance.0 (omega arith) in
      let here : is_cared_at c ps (Some l.session) ≡ true = subst (λ (o : Option SessionId). is_cared_at c ps o ≡ true) (found_session (is_of l.instance) l is) at in
      either (has_any l.session ps) (at_each_part c (is_untouched_at c l.session)) (is_untouched c l.session) (parts_untouched l.session) here)
