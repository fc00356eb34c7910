-- What is read session by session at one moment has the same look-ups as what a cluster has.
use Rattle.std.proofs.Common.{◌≡◌, ℕ, ◌+◌, ◌≤◌, ◌||◌, ◌==◌, Bool, true, false, List, [], ◌∷◌, ◌++◌, length, filter, find, Option, Some, None, refl, sym, ap, ◌∙◌, subst, arith}
use Rattle.std.specs.Prelude.{if◌then◌else◌}
use Rattle.std.specs.List.{list_any, list_all, flat_map}
use Rattle.std.specs.Option.{option_or}
use Rattle.std.proofs.lemmas.Bool.Decides.{nat_tests}
use Rattle.std.proofs.lemmas.List.Folds.{find-append}
use Rattle.hx_lists.specs.Lists.{count}
use Rattle.hx_ids.specs.declared.InstanceId.{InstanceId}
use Rattle.hx_ids.specs.declared.SessionId.{SessionId}
use Rattle.hx_ids.specs.declared.PartId.{PartId}
use Rattle.hx_cluster.specs.declared.description.Rule.{Rule}
use Rattle.hx_cluster.specs.declared.state.Row.{Row}
use Rattle.hx_cluster.specs.declared.state.Message.{Message}
use Rattle.hx_cluster.specs.declared.state.Cluster.{Cluster}
use Rattle.hx_cluster.specs.Ends.{part_eq, is_row, is_message, is_live, is_shown, row_of, message_of, is_counted, load_over}
use Rattle.hx_cluster.specs.Reads.{live_shown, ideals_shown}
use Rattle.hx_cluster.specs.Safe.{IsSafe, HasMail, HasRows, is_pending, is_kept}
use Rattle.hx_pass.specs.Plans.{plan}
use Rattle.hx_pass.specs.Explained.{view_at}
use Rattle.hx_safe.proofs.Counting.{and-first, and-second, all-le, count-append, find-none, none-from-all, any-count}
use Rattle.hx_safe.proofs.Ends.{session_same, find-filter_kept}
use Rattle.hx_lawful.proofs.Viewing.{sessions_once}
use Rattle.hx_settled.specs.Standing.{read_at}
use Rattle.hx_settled.proofs.Moments.{shown_is_live}
use Rattle.hx_settled.proofs.Lookups.{plan_same}

-- items gathered session by session
module _ {X : Type 0} (of : X → SessionId) where
  abbrev is_at : SessionId → X → Bool
  is_at s x = (of x).0 == s.0

  abbrev pub gathered : List X → List (SessionId × InstanceId) → List X
  gathered xs live = flat_map (λ e. filter (is_at e.0) xs) live

  -- what is asked of one session is found among its own
  none_of_other : (q : X → Bool) (s u : SessionId) → ((x : X) → q x ≡ true → ((of x).0 == s.0) ≡ true) → (u.0 == s.0) ≡ false → (xs : List X) → list_any q (filter (is_at u) xs) ≡ false
  none_of_other q s u own ne [] = refl
  none_of_other q s u own ne (x ∷ xs) = one (is_at u x) refl (q x) refl (none_of_other q s u own ne xs)
    where
      one : (a : Bool) → is_at u x ≡ a → (b : Bool) → q x ≡ b → list_any q (filter (is_at u) xs) ≡ false → list_any q (if a then x ∷ filter (is_at u) xs else filter (is_at u) xs) ≡ false
      one false at b is rest = rest
      one true at false is rest = ap (λ (c : Bool). c || list_any q (filter (is_at u) xs)) is ∙ rest
      one true at true is rest = let here = own x is in absurd (grind (arith, nat_tests, at, here, ne))

  first_or : {Y : Type 0} (o : Option Y) (b : Bool) → option_or o (if b then o else None) ≡ o
  first_or None true = refl
  first_or None false = refl
  first_or (Some y) b = refl

  found_gathered : (q : X → Bool) (s : SessionId) → ((x : X) → q x ≡ true → ((of x).0 == s.0) ≡ true) → (xs : List X) (live : List (SessionId × InstanceId))
      → find q (gathered xs live) ≡ (if is_shown live s then find q xs else None)
  found_gathered q s own xs [] = refl
  found_gathered q s own xs (e ∷ live) =
      find-append q (filter (is_at e.0) xs) (gathered xs live) ∙ ap (option_or (find q (filter (is_at e.0) xs))) (found_gathered q s own xs live) ∙ one (e.0.0 == s.0) refl
    where
      one : (b : Bool) → (e.0.0 == s.0) ≡ b → option_or (find q (filter (is_at e.0) xs)) (if is_shown live s then find q xs else None) ≡ (if b || is_shown live s then find q xs else None)
      one true at =
          ap (λ (o : Option X). option_or o (if is_shown live s then find q xs else None))
          (find-filter_kept q (is_at e.0) (λ x is. let here = own x is in let same : ((of x).0 == e.0.0) ≡ true = grind (arith, nat_tests, here, at) in same) xs)
          ∙ first_or (find q xs) (is_shown live s)
      one false at = ap (λ (o : Option X). option_or o (if is_shown live s then find q xs else None)) (find-none q (filter (is_at e.0) xs) (none_of_other q s e.0 own at xs))

  pub find_gathered : (q : X → Bool) (s : SessionId) → ((x : X) → q x ≡ true → ((of x).0 == s.0) ≡ true) → (xs : List X) (live : List (SessionId × InstanceId))
      → list_all (λ x. is_shown live (of x)) xs ≡ true → find q (gathered xs live) ≡ find q xs
  find_gathered q s own xs live all = found_gathered q s own xs live ∙ one (is_shown live s) refl
    where
      one : (b : Bool) → is_shown live s ≡ b → (if b then find q xs else None) ≡ find q xs
      one true is = refl
      one false is = sym (find-none q xs (none-from-all (λ x. is_shown live (of x)) q (λ x shown. two x (q x) refl shown) xs all))
        where
          two : (x : X) (b : Bool) → q x ≡ b → is_shown live (of x) ≡ true → b ≡ false
          two x false at shown = refl
          two x true at shown =
              let same : of x ≡ s = session_same (of x) s (own x at) in
              sym (subst (λ (u : SessionId). is_shown live u ≡ true) same shown) ∙ is

  -- and each is there once
  counted_none : (q : X → Bool) (live : List (SessionId × InstanceId)) → count q (gathered [] live) ≡ 0
  counted_none q [] = refl
  counted_none q (e ∷ live) = counted_none q live

  abbrev of_it : X → SessionId × InstanceId → Bool
  of_it x e = e.0.0 == (of x).0

  counted_more : (q : X → Bool) (x : X) (xs : List X) (live : List (SessionId × InstanceId)) → count q (gathered (x ∷ xs) live) ≡ count q (gathered xs live) + (if q x then count (of_it x) live else 0)
  counted_more q x xs [] = one (q x)
    where
      one : (b : Bool) → 0 ≡ 0 + (if b then 0 else 0)
      one true = omega arith
      one false = omega arith
  counted_more q x xs (e ∷ live) = one (is_at e.0 x) refl (of_it x e) refl (q x) refl (counted_more q x xs live)
    where
      alike : (a b : Bool) → is_at e.0 x ≡ a → of_it x e ≡ b → a ≡ b
      alike true true at it = refl
      alike false false at it = refl
      alike true false at it = absurd (grind (arith, nat_tests, at, it))
      alike false true at it = absurd (grind (arith, nat_tests, at, it))

      one : (a : Bool) → is_at e.0 x ≡ a → (b : Bool) → of_it x e ≡ b → (d : Bool) → q x ≡ d
          → count q (gathered (x ∷ xs) live) ≡ count q (gathered xs live) + (if d then count (of_it x) live else 0)
          → count q ((if a then x ∷ filter (is_at e.0) xs else filter (is_at e.0) xs) ++ gathered (x ∷ xs) live)
          ≡ count q (filter (is_at e.0) xs ++ gathered xs live) + (if d then length (if b then e ∷ filter (of_it x) live else filter (of_it x) live) else 0)
      one a at b it d is rest = two a b (alike a b at it) d is rest
        where
          two : (a b : Bool) → a ≡ b → (d : Bool) → q x ≡ d → count q (gathered (x ∷ xs) live) ≡ count q (gathered xs live) + (if d then count (of_it x) live else 0)
              → count q ((if a then x ∷ filter (is_at e.0) xs else filter (is_at e.0) xs) ++ gathered (x ∷ xs) live)
              ≡ count q (filter (is_at e.0) xs ++ gathered xs live) + (if d then length (if b then e ∷ filter (of_it x) live else filter (of_it x) live) else 0)
          two true true same true is rest =
              let parts = count-append q (filter (is_at e.0) xs) (gathered (x ∷ xs) live) in
              let old = count-append q (filter (is_at e.0) xs) (gathered xs live) in
              let here : count q (x ∷ (filter (is_at e.0) xs ++ gathered (x ∷ xs) live)) ≡ count q (filter (is_at e.0) xs ++ gathered (x ∷ xs) live) + 1
              = ap (λ (c : Bool). length (if c then x ∷ filter q (filter (is_at e.0) xs ++ gathered (x ∷ xs) live) else filter q (filter (is_at e.0) xs ++ gathered (x ∷ xs) live))) is ∙ plus (filter q (filter (is_at e.0) xs ++ gathered (x ∷ xs) live)) in
              omega (arith, parts, old, here, rest)
            where
              plus : (ys : List X) → length (x ∷ ys) ≡ length ys + 1
              plus ys = omega arith
          two true true same false is rest =
              let parts = count-append q (filter (is_at e.0) xs) (gathered (x ∷ xs) live) in
              let old = count-append q (filter (is_at e.0) xs) (gathered xs live) in
              let here : count q (x ∷ (filter (is_at e.0) xs ++ gathered (x ∷ xs) live)) ≡ count q (filter (is_at e.0) xs ++ gathered (x ∷ xs) live)
              = ap (λ (c : Bool). length (if c then x ∷ filter q (filter (is_at e.0) xs ++ gathered (x ∷ xs) live) else filter q (filter (is_at e.0) xs ++ gathered (x ∷ xs) live))) is in
              omega (arith, parts, old, here, rest)
          two false false same d is rest =
              let parts = count-append q (filter (is_at e.0) xs) (gathered (x ∷ xs) live) in
              let old = count-append q (filter (is_at e.0) xs) (gathered xs live) in
              omega (arith, parts, old, rest)
          two true false same d is rest = absurd (let no_one : true ≡ false = same in cc)
          two false true same d is rest = absurd (let no_one : false ≡ true = same in cc)

  pub count_gathered : (q : X → Bool) (live : List (SessionId × InstanceId)) → ((s : SessionId) → count (λ (e : SessionId × InstanceId). e.0.0 == s.0) live ≤ 1) → (xs : List X)
      → list_all (λ x. is_shown live (of x)) xs ≡ true → count q (gathered xs live) ≡ count q xs
  count_gathered q live once [] all = counted_none q live
  count_gathered q live once (x ∷ xs) all =
      let there = any-count (of_it x) live (and-first (is_shown live (of x)) (list_all (λ y. is_shown live (of y)) xs) all) in
      let rest = count_gathered q live once xs (and-second (is_shown live (of x)) (list_all (λ y. is_shown live (of y)) xs) all) in
      one (q x) refl (once (of x)) there rest (counted_more q x xs live)
    where
      one : (b : Bool) → q x ≡ b → count (of_it x) live ≤ 1 → 1 ≤ count (of_it x) live → count q (gathered xs live) ≡ count q xs
          → count q (gathered (x ∷ xs) live) ≡ count q (gathered xs live) + (if b then count (of_it x) live else 0) → count q (gathered (x ∷ xs) live) ≡ length (if b then x ∷ filter q xs else filter q xs)
      one true is most there rest more = omega (arith, most, there, rest, more)
      one false is most there rest more = omega (arith, rest, more)

-- so rows, messages and loads are those of the cluster
mail_of_shown : (c : Cluster) → HasMail c → list_all (λ m. is_shown (live_shown c) m.session) c.mail ≡ true
mail_of_shown c mail = all-le (is_pending c) (λ m. is_shown (live_shown c) m.session) (λ m e. shown_is_live c m.session ∙ live m e) c.mail mail.pending
  where
    live : (m : Message) → is_pending c m ≡ true → is_live c.live m.session ≡ true
    live m e = grind (arith, e)

rows_of_shown : (c : Cluster) → HasRows c → list_all (λ r. is_shown (live_shown c) r.session) c.rows ≡ true
rows_of_shown c rows = all-le (is_kept c) (λ r. is_shown (live_shown c) r.session) (λ r e. shown_is_live c r.session ∙ live r e) c.rows rows.kept
  where
    live : (r : Row) → is_kept c r ≡ true → is_live c.live r.session ≡ true
    live r e = grind (arith, e)

pub rows_read : (c : Cluster) → HasRows c → (s : SessionId) (p : PartId) → row_of (read_at c).rows s p ≡ row_of c.rows s p
rows_read c rows s p = find_gathered (λ (r : Row). r.session) (is_row s p) s (λ r e. and-first (r.session.0 == s.0) (part_eq r.part p) e) c.rows (live_shown c) (rows_of_shown c rows)

pub messages_read : (c : Cluster) → HasMail c → (s : SessionId) (p : PartId) → message_of (read_at c).mail s p ≡ message_of c.mail s p
messages_read c mail s p = find_gathered (λ (m : Message). m.session) (is_message s p) s (λ m e. and-first (m.session.0 == s.0) (part_eq m.part p) e) c.mail (live_shown c) (mail_of_shown c mail)

loads_read : (c : Cluster) → IsSafe c → (r : Rule) (key : ℕ) → load_over (live_shown c) (read_at c).mail r key ≡ load_over (live_shown c) c.mail r key
loads_read c safe r key = count_gathered (λ (m : Message). m.session) (is_counted (live_shown c) r key) (live_shown c) (sessions_once c safe.sessions.numbers) c.mail (mail_of_shown c safe.mail)

pub plan_read : (c : Cluster) → IsSafe c → plan c.models c.rules (read_at c) ≡ plan c.models c.rules (view_at c)
plan_read c safe =
    plan_same c.models c.rules (live_shown c) (ideals_shown c) (read_at c).mail c.mail (read_at c).rows c.rows (rows_read c safe.rows) (messages_read c safe.mail) (loads_read c safe)
