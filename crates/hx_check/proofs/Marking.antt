-- A message that can be taken was fetched exactly where its number is below its session's mark.
use Rattle.std.proofs.Common.{◌≡◌, ℕ, zero, suc, ◌≤◌, ◌==◌, ◌||◌, ◌&&◌, not, Bool, true, false, List, [], ◌∷◌, ◌++◌, filter, get_or, None, Some, refl, sym, ap, ◌∙◌, subst, append-nil, append_assoc, arith}
use Rattle.std.specs.Prelude.{nat_lt, nat_le, find, is_none, if◌then◌else◌}
use Rattle.std.specs.List.{list_any, list_all}
use Rattle.std.proofs.lemmas.Bool.{and_parts, and_from, eqb-true}
use Rattle.std.proofs.lemmas.Bool.Decides.{nat_tests}
use Rattle.hx_ids.specs.Words as Ids
use Rattle.hx_ids.specs.declared.SessionId.{SessionId}
use Rattle.hx_ids.specs.declared.MsgId.{MsgId}
use Rattle.hx_cluster.specs.declared.description.Spec.{Spec}
use Rattle.hx_cluster.specs.declared.state.Message.{Message}
use Rattle.hx_cluster.specs.declared.state.Cluster.{Cluster}
use Rattle.hx_cluster.specs.declared.happenings.Event.{Event}
use Rattle.hx_cluster.specs.declared.happenings.Event.TheVariants as events
use Rattle.hx_cluster.specs.Ends.{is_live}
use Rattle.hx_cluster.specs.Steps.{opening}
use Rattle.hx_cluster.specs.Reads.{mail_shown}
use Rattle.hx_cluster.specs.Messages.{has_id, pending_of}
use Rattle.hx_cluster.specs.Marks.{take_fault}
use Rattle.hx_cluster.specs.Events.{next, replay, IsLegal, can_take}
use Rattle.hx_cluster.specs.declared.happenings.TakeFault.TheVariants as takes
use Rattle.hx_cluster.specs.Valid.{IsValid}
use Rattle.hx_cluster.specs.Safe.{is_pending, IsSafe, SafeAlong}
use Rattle.hx_pass.specs.Lawful.{shown_by, fetched_from}
use Rattle.hx_safe.proofs.Counting.{any-append, any-filter_kept, all-append, all-le, and-both}
use Rattle.hx_safe.proofs.Whole.{valid_safe}
use Rattle.hx_safe.proofs.Mail.{IsSteady, all_next, next_msg_next}
use Rattle.hx_check.specs.Standing.{Standing, with_mark, marks_after, stood_after, stood_from, standing_of, opening_standing, MarksTell}
use Rattle.hx_safe.proofs.Ends.{session_same}
use Rattle.hx_check.proofs.Same.{by_number}
use Rattle.hx_check.proofs.Standings.{stood_cluster}

-- a mark that is set, and the others
mark_set : (marks : List ℕ) (s mark : ℕ) → get_or (with_mark marks s mark) s 0 ≡ mark
mark_set [] zero mark = refl
mark_set [] (suc s) mark = mark_set [] s mark
mark_set (x ∷ xs) zero mark = refl
mark_set (x ∷ xs) (suc s) mark = mark_set xs s mark

below_suc : (t s : ℕ) → (suc t == suc s) ≡ false → (t == s) ≡ false
below_suc t s e = grind (arith, nat_tests, e)

mark_kept : (marks : List ℕ) (s mark t : ℕ) → (t == s) ≡ false → get_or (with_mark marks s mark) t 0 ≡ get_or marks t 0
mark_kept [] zero mark zero e = cc
mark_kept [] zero mark (suc t) e = refl
mark_kept [] (suc s) mark zero e = refl
mark_kept [] (suc s) mark (suc t) e = mark_kept [] s mark t (below_suc t s e)
mark_kept (x ∷ xs) zero mark zero e = cc
mark_kept (x ∷ xs) zero mark (suc t) e = refl
mark_kept (x ∷ xs) (suc s) mark zero e = refl
mark_kept (x ∷ xs) (suc s) mark (suc t) e = mark_kept xs s mark t (below_suc t s e)

-- no mark is above the next number
abbrev IsLow : List ℕ → ℕ → Type 0
IsLow marks most = (s : ℕ) → get_or marks s 0 ≤ most

-- whether two answers are the same
abbrev agree : Bool → Bool → Bool
agree true b = b
agree false b = not b

agree_self : (b : Bool) → agree b b ≡ true
agree_self true = refl
agree_self false = refl

agree_same : (a b : Bool) → agree a b ≡ true → a ≡ b
agree_same true b e = sym e
agree_same false true e = cc
agree_same false false e = refl

-- the mark tells of a message whether it is among some
abbrev is_told : List ℕ → List Message → Message → Bool
is_told marks shown m = agree (nat_lt m.id.0 (get_or marks m.session.0 0)) (list_any (has_id m.session m.id) shown)

steady : (marks : List ℕ) (shown : List Message) → IsSteady (is_told marks shown)
steady marks shown = record { taken = λ m e. e; written = λ m e. e }

record AreMarks (c : Cluster) (marks : List ℕ) (shown : List Message) : Type 0 where
  low : IsLow marks c.next_msg
  below : list_all (λ m. nat_lt m.id.0 c.next_msg) shown ≡ true
  told : list_all (is_told marks shown) c.mail ≡ true

-- a message with a number from the next one on is not among those with numbers below
not_among : (s : SessionId) (id : MsgId) (n : ℕ) (shown : List Message) → list_all (λ m. nat_lt m.id.0 n) shown ≡ true → n ≤ id.0 → list_any (has_id s id) shown ≡ false
not_among s id n [] all le = refl
not_among s id n (m ∷ ms) all le =
    let both = and_parts (nat_lt m.id.0 n) (list_all (λ m. nat_lt m.id.0 n) ms) all in
    let rest = not_among s id n ms both.1 le in
    let other : (m.id.0 == id.0) ≡ false = grind (arith, nat_tests, both.0, le) in
    grind (arith, rest, other)

new_told : (c : Cluster) (marks : List ℕ) (shown : List Message) → AreMarks c marks shown → (m : Message) → nat_le c.next_msg m.id.0 ≡ true → is_told marks shown m ≡ true
new_told c marks shown are m new =
    let at : c.next_msg ≤ m.id.0 = grind (arith, nat_tests, new) in
    let low = are.low m.session.0 in
    let unmarked : nat_lt m.id.0 (get_or marks m.session.0 0) ≡ false = grind (arith, nat_tests, at, low) in
    let absent = not_among m.session m.id c.next_msg shown are.below at in
    ap (λ b. agree b (list_any (has_id m.session m.id) shown)) unmarked ∙ ap (agree false) absent

raised_below : (a b : ℕ) (ms : List Message) → a ≤ b → list_all (λ m. nat_lt m.id.0 a) ms ≡ true → list_all (λ m. nat_lt m.id.0 b) ms ≡ true
raised_below a b ms le all = all-le (λ (m : Message). nat_lt m.id.0 a) (λ (m : Message). nat_lt m.id.0 b) (λ (m : Message) (e : nat_lt m.id.0 a ≡ true). grind (arith, nat_tests, e, le)) ms all

-- an event other than a fetch keeps the marks and what was shown
kept_marks : (c : Cluster) (marks : List ℕ) (shown : List Message) (e : Event) → AreMarks c marks shown → AreMarks (next c e) marks shown
kept_marks c marks shown e are =
    let rises = next_msg_next c e in
    record {
      low = λ s. omega (arith, are.low s, rises);
      below = raised_below c.next_msg (next c e).next_msg shown rises are.below;
      told = all_next (is_told marks shown) (steady marks shown) c e (new_told c marks shown are) are.told;
    }

-- a fetch shows all messages of its session
mail_there : (ms : List Message) → list_all (λ m. list_any (has_id m.session m.id) ms) ms ≡ true
mail_there [] = refl
mail_there (n ∷ ms) =
    let self : has_id n.session n.id n ≡ true = grind (arith, nat_tests) in
    let rest = all-le (λ (m : Message). list_any (has_id m.session m.id) ms) (λ (m : Message). list_any (has_id m.session m.id) (n ∷ ms)) (λ (m : Message) (e : list_any (has_id m.session m.id) ms ≡ true). grind (arith, e)) ms (mail_there ms) in
    grind (arith, self, rest)

both_all : (p q : Message → Bool) (ms : List Message) → list_all p ms ≡ true → list_all q ms ≡ true → list_all (λ m. p m && q m) ms ≡ true
both_all p q [] a b = refl
both_all p q (m ∷ ms) a b =
    let x = and_parts (p m) (list_all p ms) a in
    let y = and_parts (q m) (list_all q ms) b in
    and_from (p m && q m) (list_all (λ m. p m && q m) ms) (and_from (p m) (q m) x.0 y.0) (both_all p q ms x.1 y.1)

others_none : (s t : SessionId) (id : MsgId) (ms : List Message) → (t.0 == s.0) ≡ false → list_any (has_id t id) (filter (λ m. m.session.0 == s.0) ms) ≡ false
others_none s t id [] other = refl
others_none s t id (m ∷ ms) other = one (m.session.0 == s.0) refl (others_none s t id ms other)
  where
    one : (b : Bool) → (m.session.0 == s.0) ≡ b → list_any (has_id t id) (filter (λ m. m.session.0 == s.0) ms) ≡ false → list_any (has_id t id) (if b then m ∷ filter (λ m. m.session.0 == s.0) ms else filter (λ m. m.session.0 == s.0) ms) ≡ false
    one true is rest =
        let differs : (m.session.0 == t.0) ≡ false = grind (arith, nat_tests, is, other) in
        grind (arith, rest, differs)
    one false is rest = rest

shown_below : (n : ℕ) (s : SessionId) (ms : List Message) → list_all (λ m. nat_lt m.id.0 n) ms ≡ true → list_all (λ m. nat_lt m.id.0 n) (filter (λ m. m.session.0 == s.0) ms) ≡ true
shown_below n s [] all = refl
shown_below n s (m ∷ ms) all =
    let both = and_parts (nat_lt m.id.0 n) (list_all (λ m. nat_lt m.id.0 n) ms) all in
    one (m.session.0 == s.0) refl both.0 (shown_below n s ms both.1)
  where
    one : (b : Bool) → (m.session.0 == s.0) ≡ b → nat_lt m.id.0 n ≡ true → list_all (λ m. nat_lt m.id.0 n) (filter (λ m. m.session.0 == s.0) ms) ≡ true
        → list_all (λ m. nat_lt m.id.0 n) (if b then m ∷ filter (λ m. m.session.0 == s.0) ms else filter (λ m. m.session.0 == s.0) ms) ≡ true
    one true is here rest = and_from (nat_lt m.id.0 n) (list_all (λ m. nat_lt m.id.0 n) (filter (λ m. m.session.0 == s.0) ms)) here rest
    one false is here rest = rest

fetched_marks : (c : Cluster) (marks : List ℕ) (shown : List Message) (s : SessionId) → list_all (λ m. nat_lt m.id.0 c.next_msg) c.mail ≡ true → AreMarks c marks shown
    → AreMarks c (with_mark marks s.0 c.next_msg) (shown ++ mail_shown c s)
fetched_marks c marks shown s numbered are = record {
  low = λ t. one_low t (t == s.0) refl;
  below = all-append (λ (m : Message). nat_lt m.id.0 c.next_msg) shown (mail_shown c s)
      ∙ and-both (list_all (λ m. nat_lt m.id.0 c.next_msg) shown) (list_all (λ m. nat_lt m.id.0 c.next_msg) (mail_shown c s)) are.below (shown_below c.next_msg s c.mail numbered);
  told = all-le (λ (m : Message). (nat_lt m.id.0 c.next_msg && list_any (has_id m.session m.id) c.mail) && is_told marks shown m) (is_told marks' shown')
      (λ (m : Message) (e : ((nat_lt m.id.0 c.next_msg && list_any (has_id m.session m.id) c.mail) && is_told marks shown m) ≡ true). one_told m e (m.session.0 == s.0) refl) c.mail
      (both_all (λ m. nat_lt m.id.0 c.next_msg && list_any (has_id m.session m.id) c.mail) (is_told marks shown) c.mail
      (both_all (λ m. nat_lt m.id.0 c.next_msg) (λ m. list_any (has_id m.session m.id) c.mail) c.mail numbered (mail_there c.mail)) are.told);
}
  where
    marks' : List ℕ
    marks' = with_mark marks s.0 c.next_msg

    shown' : List Message
    shown' = shown ++ mail_shown c s

    one_low : (t : ℕ) (b : Bool) → (t == s.0) ≡ b → get_or (with_mark marks s.0 c.next_msg) t 0 ≤ c.next_msg
    one_low t true is =
        let at : t ≡ s.0 = eqb-true t s.0 is in
        let set : get_or (with_mark marks s.0 c.next_msg) t 0 ≡ c.next_msg = ap (λ n. get_or (with_mark marks s.0 c.next_msg) n 0) at ∙ mark_set marks s.0 c.next_msg in
        omega (arith, set)
    one_low t false is = omega (arith, mark_kept marks s.0 c.next_msg t is, are.low t)

    one_told : (m : Message) → ((nat_lt m.id.0 c.next_msg && list_any (has_id m.session m.id) c.mail) && is_told marks shown m) ≡ true → (b : Bool) → (m.session.0 == s.0) ≡ b → is_told marks' shown' m ≡ true
    one_told m e true is =
        let outer = and_parts (nat_lt m.id.0 c.next_msg && list_any (has_id m.session m.id) c.mail) (is_told marks shown m) e in
        let inner = and_parts (nat_lt m.id.0 c.next_msg) (list_any (has_id m.session m.id) c.mail) outer.0 in
        let at : m.session.0 ≡ s.0 = eqb-true m.session.0 s.0 is in
        let set : get_or marks' m.session.0 0 ≡ c.next_msg = ap (λ n. get_or marks' n 0) at ∙ mark_set marks s.0 c.next_msg in
        let marked : nat_lt m.id.0 (get_or marks' m.session.0 0) ≡ true = ap (nat_lt m.id.0) set ∙ inner.0 in
        let now : list_any (has_id m.session m.id) (mail_shown c s) ≡ true =
        any-filter_kept (has_id m.session m.id) (λ (x : Message). x.session.0 == s.0) (λ (x : Message) (h : has_id m.session m.id x ≡ true). grind (arith, nat_tests, h, is)) c.mail inner.1 in
        let among : list_any (has_id m.session m.id) shown' ≡ true = any-append (has_id m.session m.id) shown (mail_shown c s) ∙ grind (arith, now) in
        ap (λ b. agree b (list_any (has_id m.session m.id) shown')) marked ∙ among
    one_told m e false is =
        let outer = and_parts (nat_lt m.id.0 c.next_msg && list_any (has_id m.session m.id) c.mail) (is_told marks shown m) e in
        let kept : get_or marks' m.session.0 0 ≡ get_or marks m.session.0 0 = mark_kept marks s.0 c.next_msg m.session.0 is in
        let none = others_none s m.session m.id c.mail is in
        let among : list_any (has_id m.session m.id) shown' ≡ list_any (has_id m.session m.id) shown = any-append (has_id m.session m.id) shown (mail_shown c s) ∙ grind (arith, none) in
        ap (λ n. agree (nat_lt m.id.0 n) (list_any (has_id m.session m.id) shown')) kept ∙ ap (agree (nat_lt m.id.0 (get_or marks m.session.0 0))) among ∙ outer.1

-- all along a legal history
mail_numbered : (c : Cluster) → IsSafe c → list_all (λ m. nat_lt m.id.0 c.next_msg) c.mail ≡ true
mail_numbered c safe = all-le (is_pending c) (λ (m : Message). nat_lt m.id.0 c.next_msg) (λ (m : Message) (e : is_pending c m ≡ true). grind (arith, e)) c.mail safe.mail.pending

event_marks : (c : Cluster) (marks : List ℕ) (shown : List Message) (e : Event) → list_all (λ m. nat_lt m.id.0 c.next_msg) c.mail ≡ true → AreMarks c marks shown
    → AreMarks (next c e) (marks_after c marks e) (shown ++ shown_by c e)
event_marks c marks shown (events.Fetch i None n) numbered are = subst (AreMarks c marks) (sym (append-nil shown)) are
event_marks c marks shown (events.Fetch i (Some s) n) numbered are = fetched_marks c marks shown s numbered are
event_marks c marks shown e numbered are = subst (AreMarks (next c e) marks) (sym (append-nil shown)) (kept_marks c marks shown e are)

along : (w : Standing) (shown : List Message) (h : List Event) → SafeAlong w.cluster h → AreMarks w.cluster w.marks shown
    → AreMarks (stood_from w h).cluster (stood_from w h).marks (shown ++ fetched_from w.cluster h)
along w shown [] safe are = subst (AreMarks w.cluster w.marks) (sym (append-nil shown)) are
along w shown (e ∷ h) safe are =
    subst (AreMarks (stood_from (stood_after w e) h).cluster (stood_from (stood_after w e) h).marks) (append_assoc shown (shown_by w.cluster e) (fetched_from (next w.cluster e) h))
    (along (stood_after w e) (shown ++ shown_by w.cluster e) h safe.1 (event_marks w.cluster w.marks shown e (mail_numbered w.cluster safe.0) are))

low_opening : (spec : Spec) → IsLow [] (opening spec).next_msg
low_opening spec s = omega arith

marks_opening : (spec : Spec) → AreMarks (opening spec) [] []
marks_opening spec = record { low = low_opening spec; below = refl; told = refl }

-- a pending message is among the mail
among_mail : (s : SessionId) (id : MsgId) (ms : List Message) → is_none (take_fault (find (has_id s id) ms)) ≡ true → list_any (has_id s id) ms ≡ true
among_mail s id [] e = cc
among_mail s id (m ∷ ms) e = one (has_id s id m) refl (among_mail s id ms) e
  where
    one : (b : Bool) → has_id s id m ≡ b → (is_none (take_fault (find (has_id s id) ms)) ≡ true → list_any (has_id s id) ms ≡ true)
        → is_none (take_fault (if b then Some m else find (has_id s id) ms)) ≡ true → (b || list_any (has_id s id) ms) ≡ true
    one true is rest e = refl
    one false is rest e = rest e

taken_pending : (c : Cluster) (s : SessionId) (id : MsgId) → can_take c s id ≡ true → list_any (has_id s id) c.mail ≡ true
taken_pending c s id e = one (is_live c.live s) refl e
  where
    one : (b : Bool) → is_live c.live s ≡ b → is_none (if b then take_fault (pending_of c s id) else Some takes.SessionEnded) ≡ true → list_any (has_id s id) c.mail ≡ true
    one true is e = among_mail s id c.mail e
    one false is e = cc

told_of : (marks : List ℕ) (shown : List Message) (s : SessionId) (id : MsgId) (ms : List Message) → list_all (is_told marks shown) ms ≡ true → list_any (has_id s id) ms ≡ true
    → nat_lt id.0 (get_or marks s.0 0) ≡ list_any (has_id s id) shown
told_of marks shown s id [] all any = cc
told_of marks shown s id (m ∷ ms) all any = one (has_id s id m) refl (told_of marks shown s id ms) any
  where
    both : (is_told marks shown m ≡ true) × (list_all (is_told marks shown) ms ≡ true)
    both = and_parts (is_told marks shown m) (list_all (is_told marks shown) ms) all

    one : (b : Bool) → has_id s id m ≡ b
        → (list_all (is_told marks shown) ms ≡ true → list_any (has_id s id) ms ≡ true → nat_lt id.0 (get_or marks s.0 0) ≡ list_any (has_id s id) shown)
        → (b || list_any (has_id s id) ms) ≡ true → nat_lt id.0 (get_or marks s.0 0) ≡ list_any (has_id s id) shown
    one true is rest any =
        let ids = and_parts (m.session.0 == s.0) (m.id.0 == id.0) is in
        let session : m.session ≡ s = session_same m.session s ids.0 in
        let number : m.id ≡ id = by_number Ids.message m.id.0 id.0 ids.1 in
        ap (λ (x : MsgId). nat_lt x.0 (get_or marks s.0 0)) (sym number)
        ∙ ap (λ (x : SessionId). nat_lt m.id.0 (get_or marks x.0 0)) (sym session)
        ∙ agree_same (nat_lt m.id.0 (get_or marks m.session.0 0)) (list_any (has_id m.session m.id) shown) both.0
        ∙ ap (λ (x : SessionId). list_any (has_id x m.id) shown) session
        ∙ ap (λ (x : MsgId). list_any (has_id s x) shown) number
    one false is rest any = rest both.1 any

pub marks_tell : (spec : Spec) (h : List Event) → IsValid spec → IsLegal (opening spec) h → MarksTell spec h
marks_tell spec h valid legal s id can =
    let are = along (opening_standing spec) [] h (valid_safe spec valid h legal) (marks_opening spec) in
    let there : list_any (has_id s id) (standing_of spec h).cluster.mail ≡ true = ap (λ (c : Cluster). list_any (has_id s id) c.mail) (stood_cluster (opening_standing spec) h) ∙ taken_pending (replay (opening spec) h) s id can in
    told_of (standing_of spec h).marks (fetched_from (opening spec) h) s id (standing_of spec h).cluster.mail are.told there
