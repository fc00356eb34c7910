-- A message waits for its write as long as its session is live, and its replica with it.
use Rattle.std.proofs.Common.{◌≡◌, ℕ, ◌+◌, ◌≤◌, ◌&&◌, ◌||◌, ◌==◌, not, Bool, true, false, List, [], ◌∷◌, ◌++◌, filter, map, get_or, Option, Some, None, refl, ap, ◌∙◌, subst, arith}
use Rattle.std.specs.Prelude.{if◌then◌else◌, nat_lt, is_none}
use Rattle.std.specs.List.{list_any, list_all, All}
use Rattle.std.proofs.lemmas.Bool.Decides.{nat_tests}
use Rattle.std.proofs.lemmas.List.Elements.{All-append, All-cons, All-nil}
use Rattle.hx_lists.specs.Lists.{count}
use Rattle.hx_ids.specs.declared.SessionId.{SessionId}
use Rattle.hx_ids.specs.declared.MsgId.{MsgId}
use Rattle.hx_ids.specs.declared.PartId.{PartId}
use Rattle.hx_ids.specs.declared.Live.{Live}
use Rattle.hx_model.specs.Model.{is_legal}
use Rattle.hx_cluster.specs.declared.state.Message.{Message}
use Rattle.hx_cluster.specs.declared.state.Cluster.{Cluster}
use Rattle.hx_cluster.specs.declared.happenings.AckFault.TheVariants as acks
use Rattle.hx_cluster.specs.declared.happenings.Placed.{Placed}
use Rattle.hx_cluster.specs.declared.happenings.Placed.TheVariants as placings
use Rattle.hx_cluster.specs.declared.happenings.Proposal.{Proposal}
use Rattle.hx_cluster.specs.declared.happenings.Outcome.{Outcome}
use Rattle.hx_cluster.specs.declared.happenings.Admin.{Admin}
use Rattle.hx_cluster.specs.declared.happenings.Admin.TheVariants as steps
use Rattle.hx_cluster.specs.declared.happenings.Event.{Event}
use Rattle.hx_cluster.specs.declared.happenings.Event.TheVariants as events
use Rattle.hx_cluster.specs.Ends.{part_eq, is_message, is_live, model_of}
use Rattle.hx_cluster.specs.Steps.{after, ended_by, live_of, without, without_all, ended_of, beaten_of, asked_of}
use Rattle.hx_cluster.specs.Messages.{is_same, sent_by, sent_all, standing_of, placed_of, message_from, after_placed, after_proposal, after_proposals, next_pass, has_id, as_taken, as_written, pending_of, written_of, after_take}
use Rattle.hx_cluster.specs.Marks.{ack_fault}
use Rattle.hx_cluster.specs.Events.{next, has_part, can_take, can_ack, IsStep, IsLegal}
use Rattle.hx_cluster.specs.Safe.{HasMail, is_pending, is_at_its_place}
use Rattle.hx_cluster.specs.Runs.{taken_by, sent_in, writes_run, StandsUntilWritten, EachStands, is_same_replica, no_other_before_write, RunsFrom, EachRun}
use Rattle.hx_safe.proofs.Counting.{and-first, and-second, and-both, and-six, count-le, any-append, any-filter_kept, any-count, all-single, find-passes, find-any}
use Rattle.hx_safe.proofs.Ends.{session_same, part_same}
use Rattle.hx_safe.proofs.Kept.{number-below}
use Rattle.hx_safe.proofs.Sending.{room_from}
use Rattle.hx_safe.proofs.Beside.{beside_step, beside_pass}
use Rattle.hx_safe.proofs.Whole.{IsWhole, whole_next}
use Rattle.hx_safe.proofs.On.{on_next, other-live}
use Rattle.hx_safe.proofs.Calming.{same_self, live-all}
use Rattle.hx_safe.proofs.Past.{IsTaken, taken_message}

-- a pending message is this one, unwritten, and where it was taken it is taken
abbrev pub waits : Message → Bool → Message → Bool
waits m taken x = is_same m x && (not taken || x.taken) && not x.written

pub record IsWaiting (c : Cluster) (m : Message) (taken : Bool) : Type 0 where
  pub old : nat_lt m.session.0 c.next_session ≡ true
  pub there : is_live c.live m.session ≡ true → list_any (waits m taken) c.mail ≡ true

-- tests of lists
pub any-le : {X : Type 0} (p q : X → Bool) (h : (x : X) → p x ≡ true → q x ≡ true) (xs : List X) → list_any p xs ≡ true → list_any q xs ≡ true
any-le p q h [] e = cc
any-le p q h (x ∷ xs) e = grind (arith, e, h x, any-le p q h xs)

any-map : {X Y : Type 0} (p : Y → Bool) (f : X → Y) (xs : List X) → list_any p (map f xs) ≡ list_any (λ x. p (f x)) xs
any-map p f [] = refl
any-map p f (x ∷ xs) = grind (arith, any-map p f xs)

any-both : {X : Type 0} (p r : X → Bool) (xs : List X) → list_any p xs ≡ true → list_all r xs ≡ true → list_any (λ x. p x && r x) xs ≡ true
any-both p r [] e all = cc
any-both p r (x ∷ xs) e all = grind (arith, e, all, any-both p r xs)

pub any-one : {X : Type 0} (p : X → Bool) (xs : List X) → list_any p xs ≡ true → (x : X) × (p x ≡ true) × ((q : X → Bool) → list_all q xs ≡ true → q x ≡ true)
any-one p [] e = cc
any-one {X} p (x ∷ xs) e = one (p x) refl e (λ w. any-one p xs w)
  where
    one : (b : Bool) → p x ≡ b → (b || list_any p xs) ≡ true → (list_any p xs ≡ true → (y : X) × (p y ≡ true) × ((q : X → Bool) → list_all q xs ≡ true → q y ≡ true))
        → (y : X) × (p y ≡ true) × ((q : X → Bool) → list_all q (x ∷ xs) ≡ true → q y ≡ true)
    one true is w rest = (x, is, λ q all. and-first (q x) (list_all q xs) all)
    one false is w rest = let more = rest w in (more.0, more.1, λ q all. more.2 q (and-second (q x) (list_all q xs) all))

-- where at most one passes a test, and what passes another passes it too
pub any-single : {X : Type 0} (p q r : X → Bool) → ((x : X) → p x ≡ true → q x ≡ true) → ((x : X) → p x ≡ true → r x ≡ true) → (xs : List X) → list_any p xs ≡ true → count q xs ≤ 1
    → list_all (λ x. not (q x) || r x) xs ≡ true
any-single p q r h g [] e most = cc
any-single {X} p q r h g (x ∷ xs) e most = one (p x) refl e (λ w few. any-single p q r h g xs w few)
  where
    none : (ys : List X) → count q ys ≤ 0 → list_all (λ y. not (q y) || r y) ys ≡ true
    none [] few = refl
    none (y ∷ ys) few = grind (arith, few, none ys)

    there : (ys : List X) → list_any p ys ≡ true → 1 ≤ count q ys
    there ys w = any-count q ys (any-le p q h ys w)

    one : (b : Bool) → p x ≡ b → (b || list_any p xs) ≡ true → (list_any p xs ≡ true → count q xs ≤ 1 → list_all (λ y. not (q y) || r y) xs ≡ true)
        → list_all (λ y. not (q y) || r y) (x ∷ xs) ≡ true
    one true is w rest =
        let passes = h x is in
        let also = g x is in
        let others = none xs (grind (arith, most, passes)) in
        grind (arith, also, others)
    one false is w rest =
        let low = there xs w in
        let fails : q x ≡ false = gone (q x) refl low in
        let others = rest w (grind (arith, most, fails)) in
        grind (arith, fails, others)
      where
        gone : (b : Bool) → q x ≡ b → 1 ≤ count q xs → b ≡ false
        gone true at low = absurd (grind (arith, most, at, low))
        gone false at low = refl

-- what waits is of the message's session, part and number
waits_parts : (m x : Message) (taken : Bool) → waits m taken x ≡ true → (is_same m x ≡ true) × ((not taken || x.taken) ≡ true) × (x.written ≡ false)
waits_parts m x taken e =
    let front = and-first (is_same m x && (not taken || x.taken)) (not x.written) e in
    (and-first (is_same m x) (not taken || x.taken) front, and-second (is_same m x) (not taken || x.taken) front, turned x.written (and-second (is_same m x && (not taken || x.taken)) (not x.written) e))
  where
    turned : (b : Bool) → not b ≡ true → b ≡ false
    turned true e = cc
    turned false e = refl

waits_from : (m x : Message) (taken : Bool) → is_same m x ≡ true → (not taken || x.taken) ≡ true → not x.written ≡ true → waits m taken x ≡ true
waits_from m x taken one two three =
    and-both (is_same m x && (not taken || x.taken)) (not x.written) (and-both (is_same m x) (not taken || x.taken) one two) three

same_session : (m x : Message) → is_same m x ≡ true → (m.session.0 == x.session.0) ≡ true
same_session m x e = grind (arith, e)

same_number : (m x : Message) → is_same m x ≡ true → (m.id.0 == x.id.0) ≡ true
same_number m x e = grind (arith, e)

same_part : (m x : Message) → is_same m x ≡ true → part_eq m.part x.part ≡ true
same_part m x e = grind (arith, e)

same_from : (m x : Message) → is_same m x ≡ true → (m.from.0 == x.from.0) ≡ true
same_from m x e = grind (arith, e)

-- steps
any_without : (m : Message) (taken : Bool) (c : Cluster) (s : SessionId) → (m.session.0 == s.0) ≡ false → list_any (waits m taken) c.mail ≡ true → list_any (waits m taken) (without c s).mail ≡ true
any_without m taken c s ne e = any-filter_kept (waits m taken) (λ x. not (x.session.0 == s.0)) (λ x w. each x (same_session m x (waits_parts m x taken w).0)) c.mail e
  where
    each : (x : Message) → (m.session.0 == x.session.0) ≡ true → not (x.session.0 == s.0) ≡ true
    each x same = grind (arith, nat_tests, same, ne)

any_without_all : (m : Message) (taken : Bool) (c : Cluster) (ss : List SessionId) → is_live (without_all c ss).live m.session ≡ true → list_any (waits m taken) c.mail ≡ true
    → list_any (waits m taken) (without_all c ss).mail ≡ true
any_without_all m taken c [] live e = e
any_without_all m taken c (s ∷ ss) live e =
    any_without_all m taken (without c s) ss live (any_without m taken c s (other-live c.live s m.session (live-all (without c s) ss m.session live)) e)

any_end : (m : Message) (taken : Bool) (c : Cluster) (o : Option Live) → is_live (ended_of c o).live m.session ≡ true → list_any (waits m taken) c.mail ≡ true → list_any (waits m taken) (ended_of c o).mail ≡ true
any_end m taken c None live e = e
any_end m taken c (Some l) live e = any_without m taken c l.session (other-live c.live l.session m.session live) e

any_beat : (m : Message) (taken : Bool) (c : Cluster) (o : Option Live) → list_any (waits m taken) c.mail ≡ true → list_any (waits m taken) (beaten_of c o).mail ≡ true
any_beat m taken c None e = e
any_beat m taken c (Some l) e = e

any_asked : (m : Message) (taken : Bool) (c : Cluster) (p : PartId) (o : Option Live) → list_any (waits m taken) c.mail ≡ true → list_any (waits m taken) (asked_of c p o).mail ≡ true
any_asked m taken c p None e = e
any_asked m taken c p (Some l) e = e

any_step : (m : Message) (taken : Bool) (c : Cluster) (step : Admin) → is_live (after c step).live m.session ≡ true → list_any (waits m taken) c.mail ≡ true → list_any (waits m taken) (after c step).mail ≡ true
any_step m taken c (steps.Join i) live e = e
any_step m taken c (steps.End i) live e = any_end m taken c (live_of c.live i) live e
any_step m taken c (steps.Beat i) live e = any_beat m taken c (live_of c.live i) e
any_step m taken c (steps.Tick n) live e = any_without_all m taken (record c { clock = c.clock + n }) (ended_by c n) live e
any_step m taken c (steps.Reset i p) live e = any_asked m taken c p (live_of c.live i) e
any_step m taken c step live e = ap (list_any (waits m taken)) (beside_step c step refl).mail ∙ e

-- proposals
any_placed : (m : Message) (taken : Bool) (c : Cluster) (q : Proposal) (a : Placed) → list_any (waits m taken) c.mail ≡ true → list_any (waits m taken) (after_placed c q a).mail ≡ true
any_placed m taken c q (placings.Sent id) e = any-append (waits m taken) c.mail (message_from c id q ∷ []) ∙ first (list_any (waits m taken) c.mail) (list_any (waits m taken) (message_from c id q ∷ [])) e
  where
    first : (a b : Bool) → a ≡ true → (a || b) ≡ true
    first true b w = refl
    first false b w = cc
any_placed m taken c q _ e = e

any_proposals : (m : Message) (taken : Bool) (c : Cluster) (qs : List Proposal) → list_any (waits m taken) c.mail ≡ true → list_any (waits m taken) (after_proposals c qs).mail ≡ true
any_proposals m taken c [] e = e
any_proposals m taken c (q ∷ qs) e = any_proposals m taken (after_proposal c q) qs (any_placed m taken c q (placed_of c q) e)

-- marks
any_taken : (m : Message) (taken : Bool) (s : SessionId) (id : MsgId) (mail : List Message) → list_any (waits m taken) mail ≡ true → list_any (waits m taken) (map (as_taken s id) mail) ≡ true
any_taken m taken s id mail e = any-map (waits m taken) (as_taken s id) mail ∙ any-le (waits m taken) (λ x. waits m taken (as_taken s id x)) (λ x w. one x (has_id s id x) w) mail e
  where
    marked : (b : Bool) → (not b || true) ≡ true
    marked true = refl
    marked false = refl

    unwritten : (x : Message) → waits m taken x ≡ true → not x.written ≡ true
    unwritten x w = and-second (is_same m x && (not taken || x.taken)) (not x.written) w

    one : (x : Message) (b : Bool) → waits m taken x ≡ true → waits m taken (if b then record x { taken = true } else x) ≡ true
    one x true w = waits_from m (record x { taken = true }) taken (waits_parts m x taken w).0 (marked taken) (unwritten x w)
    one x false w = w

any_written : (m : Message) (taken : Bool) (c : Cluster) (s : SessionId) (id : MsgId) (outcome : Outcome) (o : Option Message) → writes_run m (events.Write s id outcome) ≡ false
    → list_any (waits m taken) c.mail ≡ true → list_any (waits m taken) (written_of c s id outcome o).mail ≡ true
any_written m taken c s id outcome None other e = e
any_written m taken c s id outcome (Some w) other e =
    any-map (waits m taken) (as_written s id) c.mail ∙ any-le (waits m taken) (λ x. waits m taken (as_written s id x)) (λ x w. one x (has_id s id x) refl w) c.mail e
  where
    one : (x : Message) (b : Bool) → has_id s id x ≡ b → waits m taken x ≡ true → waits m taken (if b then record x { written = true } else x) ≡ true
    one x true is w =
        let same = (waits_parts m x taken w).0 in
        let session = same_session m x same in
        let number = same_number m x same in
        absurd (grind (arith, nat_tests, is, other, session, number))
    one x false is w = w

any_acked : (m : Message) (taken : Bool) (c : Cluster) (s : SessionId) (id : MsgId) → HasMail c → can_ack c s id ≡ true → list_any (waits m taken) c.mail ≡ true
    → list_any (waits m taken) (filter (λ x. not (has_id s id x)) c.mail) ≡ true
any_acked m taken c s id mail can e = one (is_live c.live s) (pending_of c s id) refl can
  where
    written_if : (b : Bool) → is_none (if b then None else Some acks.NotWritten) ≡ true → b ≡ true
    written_if true w = refl
    written_if false w = cc

    keep : (y : Message) → pending_of c s id ≡ Some y → y.written ≡ true → list_any (waits m taken) (filter (λ x. not (has_id s id x)) c.mail) ≡ true
    keep y found written =
        let few : count (has_id s id) c.mail ≤ 1 = omega (arith, mail.numbers id, count-le (has_id s id) (λ x. x.id.0 == id.0) (λ x w. grind (arith, w)) c.mail) in
        let all : list_all (λ x. not (has_id s id x) || x.written) c.mail ≡ true
        = all-single (has_id s id) (is_pending c) (λ x. not (has_id s id x) || x.written) c.mail y (λ x other p. out (has_id s id x) x.written other) found few
        (last (has_id s id y) y.written written) mail.pending in
        any-le (λ x. waits m taken x && (not (has_id s id x) || x.written)) (waits m taken) (λ x w. and-first (waits m taken x) (not (has_id s id x) || x.written) w) (filter (λ x. not (has_id s id x)) c.mail)
        (any-filter_kept (λ x. waits m taken x && (not (has_id s id x) || x.written)) (λ x. not (has_id s id x))
        (λ x w. stays (has_id s id x) x.written (and-second (waits m taken x) (not (has_id s id x) || x.written) w) (waits_parts m x taken (and-first (waits m taken x) (not (has_id s id x) || x.written) w)).2)
        c.mail (any-both (waits m taken) (λ x. not (has_id s id x) || x.written) c.mail e all))
      where
        out : (a b : Bool) → a ≡ false → (not a || b) ≡ true
        out a b w = grind (arith, w)

        last : (a b : Bool) → b ≡ true → (not a || b) ≡ true
        last a b w = grind (arith, w)

        stays : (a b : Bool) → (not a || b) ≡ true → b ≡ false → not a ≡ true
        stays a b w u = grind (arith, w, u)

    one : (live : Bool) (o : Option Message) → pending_of c s id ≡ o → is_none (if live then ack_fault o else Some acks.SessionEnded) ≡ true
        → list_any (waits m taken) (filter (λ x. not (has_id s id x)) c.mail) ≡ true
    one false o found w = cc
    one true None found w = cc
    one true (Some y) found w = keep y found (written_if y.written w)

any_next : (m : Message) (taken : Bool) (c : Cluster) (e : Event) → HasMail c → IsStep c e → writes_run m e ≡ false → is_live (next c e).live m.session ≡ true
    → list_any (waits m taken) c.mail ≡ true → list_any (waits m taken) (next c e).mail ≡ true
any_next m taken c (events.Admin step did) mail legal other live e = any_step m taken c step live e
any_next m taken c (events.Begin k begun) mail legal other live e = ap (list_any (waits m taken)) (beside_pass c k).mail ∙ e
any_next m taken c (events.Dispatch k epoch pass proposals answer) mail legal other live e =
    any_proposals m taken (next_pass c k) proposals (ap (list_any (waits m taken)) (beside_pass c k).mail ∙ e)
any_next m taken c (events.Take s id) mail legal other live e = any_taken m taken s id c.mail e
any_next m taken c (events.Write s id outcome) mail legal other live e = any_written m taken c s id outcome (pending_of c s id) other e
any_next m taken c (events.Ack s id) mail legal other live e = any_acked m taken c s id mail legal e
any_next m taken c _ mail legal other live e = e

waiting_next : (c : Cluster) (e : Event) (m : Message) (taken : Bool) → IsWhole c → IsStep c e → writes_run m e ≡ false → IsWaiting c m taken → IsWaiting (next c e) m taken
waiting_next c e m taken w legal other h =
    let on = on_next c e w.kept.numbers in
    record {
      old = grind (arith, nat_tests, h.old, on.next_session);
      there = λ live. any_next m taken c e w.kept.mail legal other live (h.there (on.live m.session h.old live));
    }

-- where it waits, its replica stands at from
stands_at_from : (c : Cluster) (m : Message) (taken : Bool) → HasMail c → list_any (waits m taken) c.mail ≡ true → (standing_of c m.session m.part).0 ≡ m.from.0
stands_at_from c m taken mail e =
    let one = any-one (waits m taken) c.mail e in
    let x = one.0 in
    let parts = waits_parts m x taken one.1 in
    let pending : is_pending c x ≡ true = one.2 (is_pending c) mail.pending in
    let place : is_at_its_place c x ≡ true
    = (and-six (is_live c.live x.session) (has_part c x.part) (is_legal (model_of c.models c.resources x.part.resource) x.from x.to) (nat_lt x.id.0 c.next_msg) (not x.written || x.taken) (is_at_its_place c x) pending).5 in
    let stands : ((standing_of c x.session x.part).0 == x.from.0) ≡ true = unwritten x parts.2 place in
    let session = session_same m.session x.session (same_session m x parts.0) in
    let part = part_same m.part x.part (same_part m x parts.0) in
    let from = same_from m x parts.0 in
    let here : (standing_of c x.session x.part).0 ≡ m.from.0 = grind (arith, nat_tests, stands, from) in
    ap (λ (u : SessionId). (standing_of c u m.part).0) session ∙ ap (λ (p : PartId). (standing_of c x.session p).0) part ∙ here
  where
    unwritten : (x : Message) → x.written ≡ false → is_at_its_place c x ≡ true → ((standing_of c x.session x.part).0 == x.from.0) ≡ true
    unwritten x none place = grind (arith, none, place)

pub stands_until : (c : Cluster) (h : List Event) (m : Message) → IsWhole c → IsLegal c h → IsWaiting c m false → StandsUntilWritten c m h
stands_until c [] m w legal wait = λ live. stands_at_from c m false w.kept.mail (wait.there live)
stands_until c (e ∷ es) m w legal wait = (
  λ live. stands_at_from c m false w.kept.mail (wait.there live),
  λ other. stands_until (next c e) es m (whole_next c e w legal.0) legal.1 (waiting_next c e m false w legal.0 other wait),
)

-- a message that is sent waits
next_session_proposals : (c : Cluster) (qs : List Proposal) → (after_proposals c qs).next_session ≡ c.next_session
next_session_proposals c [] = refl
next_session_proposals c (q ∷ qs) = next_session_proposals (after_proposal c q) qs ∙ one (placed_of c q)
  where
    one : (a : Placed) → (after_placed c q a).next_session ≡ c.next_session
    one (placings.Sent id) = refl
    one _ = refl

abbrev are_below : Cluster → Bool
are_below c = list_all (λ l. nat_lt l.session.0 c.next_session) c.live

below_placed : (c : Cluster) (q : Proposal) (a : Placed) → are_below c ≡ true → are_below (after_placed c q a) ≡ true
below_placed c q (placings.Sent id) e = e
below_placed c q _ e = e

waits_last : (mail : List Message) (m : Message) → m.written ≡ false → list_any (waits m false) (mail ++ m ∷ []) ≡ true
waits_last mail m none = any-append (waits m false) mail (m ∷ []) ∙ last (list_any (waits m false) mail) (waits m false m) (waits_from m m false (same_self m) refl (ap not none))
  where
    last : (a b : Bool) → b ≡ true → (a || (b || false)) ≡ true
    last true b e = refl
    last false true e = refl
    last false false e = cc

sent_waits : (c : Cluster) (qs : List Proposal) → are_below c ≡ true → All (λ m. IsWaiting (after_proposals c qs) m false) (sent_all c qs)
sent_waits c [] below = All-nil (λ m. IsWaiting c m false)
sent_waits c (q ∷ qs) below =
    All-append (λ m. IsWaiting (after_proposals (after_proposal c q) qs) m false) (sent_by c q (placed_of c q)) (sent_all (after_proposal c q) qs) (one (placed_of c q) refl)
    (sent_waits (after_proposal c q) qs (below_placed c q (placed_of c q) below))
  where
    one : (a : Placed) → placed_of c q ≡ a → All (λ m. IsWaiting (after_proposals (after_placed c q a) qs) m false) (sent_by c q a)
    one (placings.Sent id) is =
        let m = message_from c id q in
        let d = after_placed c q (placings.Sent id) in
        let low : nat_lt q.session.0 c.next_session ≡ true = number-below c.next_session q.session c.live below (room_from c q id is).live in
        All-cons (λ m. IsWaiting (after_proposals d qs) m false) m [] (record {
          old = ap (nat_lt q.session.0) (next_session_proposals d qs) ∙ low;
          there = λ live. any_proposals m false d qs (waits_last c.mail m refl);
        }) (All-nil (λ m. IsWaiting (after_proposals d qs) m false))
    one _ is = All-nil (λ m. IsWaiting (after_proposals c qs) m false)

each_by : (P Q : Message → Type 0) → ((m : Message) → P m → Q m) → (ms : List Message) → All P ms → All Q ms
each_by P Q h ms all = λ k d low. h (get_or ms k d) (all k d low)

sent_stand : (c : Cluster) (e : Event) (es : List Event) → IsWhole c → IsStep c e → IsLegal (next c e) es → All (λ m. StandsUntilWritten (next c e) m es) (sent_in c e)
sent_stand c (events.Dispatch k epoch pass proposals answer) es w legal rest =
    let d = next c (events.Dispatch k epoch pass proposals answer) in
    let beside = beside_pass c k in
    let below : are_below (next_pass c k) ≡ true
    = ap (λ (ls : List Live). list_all (λ l. nat_lt l.session.0 (next_pass c k).next_session) ls) beside.live
    ∙ ap (λ (n : ℕ). list_all (λ (l : Live). nat_lt l.session.0 n) c.live) beside.next_session ∙ w.kept.below in
    each_by (λ m. IsWaiting d m false) (λ m. StandsUntilWritten d m es)
    (λ m wait. stands_until d es m (whole_next c (events.Dispatch k epoch pass proposals answer) w legal) rest wait) (sent_all (next_pass c k) proposals) (sent_waits (next_pass c k) proposals below)
sent_stand c (events.Admin step did) es w legal rest = All-nil (λ m. StandsUntilWritten (next c (events.Admin step did)) m es)
sent_stand c (events.Line n) es w legal rest = All-nil (λ m. StandsUntilWritten (next c (events.Line n)) m es)
sent_stand c (events.Begin k begun) es w legal rest = All-nil (λ m. StandsUntilWritten (next c (events.Begin k begun)) m es)
sent_stand c (events.Live k pass) es w legal rest = All-nil (λ m. StandsUntilWritten (next c (events.Live k pass)) m es)
sent_stand c (events.Mail k pass s) es w legal rest = All-nil (λ m. StandsUntilWritten (next c (events.Mail k pass s)) m es)
sent_stand c (events.States k pass s) es w legal rest = All-nil (λ m. StandsUntilWritten (next c (events.States k pass s)) m es)
sent_stand c (events.Ideals k pass) es w legal rest = All-nil (λ m. StandsUntilWritten (next c (events.Ideals k pass)) m es)
sent_stand c (events.Post k epoch rows) es w legal rest = All-nil (λ m. StandsUntilWritten (next c (events.Post k epoch rows)) m es)
sent_stand c (events.Fetch i s n) es w legal rest = All-nil (λ m. StandsUntilWritten (next c (events.Fetch i s n)) m es)
sent_stand c (events.Take s id) es w legal rest = All-nil (λ m. StandsUntilWritten (next c (events.Take s id)) m es)
sent_stand c (events.Write s id outcome) es w legal rest = All-nil (λ m. StandsUntilWritten (next c (events.Write s id outcome)) m es)
sent_stand c (events.Ack s id) es w legal rest = All-nil (λ m. StandsUntilWritten (next c (events.Ack s id)) m es)

pub each_stands : (c : Cluster) (h : List Event) → IsWhole c → IsLegal c h → EachStands c h
each_stands c [] w legal = tt
each_stands c (e ∷ es) w legal = (sent_stand c e es w legal.0 legal.1, each_stands (next c e) es (whole_next c e w legal.0) legal.1)

-- while a message that was taken waits, no other of its replica is taken
alone_until : (c : Cluster) (h : List Event) (m : Message) → IsWhole c → IsLegal c h → IsWaiting c m true → no_other_before_write c m h ≡ true
alone_until c [] m w legal wait = refl
alone_until c (e ∷ es) m w legal wait =
    one (writes_run m e) refl (λ other. alone_until (next c e) es m (whole_next c e w legal.0) legal.1 (waiting_next c e m true w legal.0 other wait))
  where
    clash : (n : Message) → IsTaken c n → is_same_replica m (Some n) ≡ true → not true ≡ true
    clash n taken at =
        let session : n.session ≡ m.session = session_same n.session m.session (and-first (n.session.0 == m.session.0) (part_eq n.part m.part) at) in
        let live : is_live c.live m.session ≡ true = subst (λ (u : SessionId). is_live c.live u ≡ true) session taken.live in
        let all : list_all (λ x. not (is_message m.session m.part x) || x.taken) c.mail ≡ true
        = any-single (waits m true) (is_message m.session m.part) (λ x. x.taken)
        (λ x v. let same = (waits_parts m x true v).0 in let a = same_session m x same in let b = same_part m x same in grind (arith, nat_tests, a, b))
        (λ x v. (waits_parts m x true v).1) c.mail (wait.there live) (w.kept.mail.single m.session m.part) in
        let here : (not (is_message m.session m.part n) || n.taken) ≡ true = taken.there (λ x. not (is_message m.session m.part x) || x.taken) all in
        absurd (no (is_message m.session m.part n) n.taken here at taken.untaken)
      where
        no : (a b : Bool) → (not a || b) ≡ true → a ≡ true → b ≡ false → ⊥
        no true true e at u = cc
        no true false e at u = cc
        no false b e at u = cc

    free : (o : Option Message) → taken_by c e ≡ o → not (is_same_replica m o) ≡ true
    free None is = refl
    free (Some n) is = two (is_same_replica m (Some n)) refl
      where
        two : (b : Bool) → is_same_replica m (Some n) ≡ b → not b ≡ true
        two true at = clash n (taken_message c e legal.0 n is) at
        two false at = refl

    one : (b : Bool) → writes_run m e ≡ b → (writes_run m e ≡ false → no_other_before_write (next c e) m es ≡ true)
        → (if b then true else (not (is_same_replica m (taken_by c e)) && no_other_before_write (next c e) m es)) ≡ true
    one true is rest = refl
    one false is rest = and-both (not (is_same_replica m (taken_by c e))) (no_other_before_write (next c e) m es) (free (taken_by c e) refl) (rest is)

-- a run begins with a message that is legal and waits, taken
run_at : (c : Cluster) (s : SessionId) (id : MsgId) (es : List Event) → IsWhole c → can_take c s id ≡ true → IsLegal (after_take c s id) es → (o : Option Message) → pending_of c s id ≡ o
    → RunsFrom (after_take c s id) es o
run_at c s id es w can rest None found = tt
run_at c s id es w can rest (Some m) found =
    let taken : IsTaken c m = taken_message c (events.Take s id) can m found in
    let pending : is_pending c m ≡ true = taken.there (is_pending c) w.kept.mail.pending in
    let parts = and-six (is_live c.live m.session) (has_part c m.part) (is_legal (model_of c.models c.resources m.part.resource) m.from m.to) (nat_lt m.id.0 c.next_msg) (not m.written || m.taken) (is_at_its_place c m) pending in
    let unwritten : not m.written ≡ true = left m.written m.taken parts.4 taken.untaken in
    let here : has_id s id m ≡ true = find-passes (has_id s id) c.mail m found in
    record {
      legal = parts.2;
      alone = alone_until (after_take c s id) es m (whole_next c (events.Take s id) w can) rest (record {
        old = number-below c.next_session m.session c.live w.kept.below taken.live;
        there = λ live. any-map (waits m true) (as_taken s id) c.mail
            ∙ find-any (has_id s id) (λ x. waits m true (as_taken s id x)) c.mail m found (marked (has_id s id m) here unwritten);
      });
    }
  where
    left : (a b : Bool) → (not a || b) ≡ true → b ≡ false → not a ≡ true
    left true true e u = cc
    left true false e u = cc
    left false b e u = refl

    marked : (b : Bool) → b ≡ true → not m.written ≡ true → waits m true (if b then record m { taken = true } else m) ≡ true
    marked true e u = waits_from m (record m { taken = true }) true (same_self m) refl u
    marked false e u = cc

run_from : (c : Cluster) (e : Event) (es : List Event) → IsWhole c → IsStep c e → IsLegal (next c e) es → RunsFrom (next c e) es (taken_by c e)
run_from c (events.Take s id) es w legal rest = run_at c s id es w legal rest (pending_of c s id) refl
run_from c _ es w legal rest = tt

pub each_run : (c : Cluster) (h : List Event) → IsWhole c → IsLegal c h → EachRun c h
each_run c [] w legal = tt
each_run c (e ∷ es) w legal = (run_from c e es w legal.0 legal.1, each_run (next c e) es (whole_next c e w legal.0) legal.1)
