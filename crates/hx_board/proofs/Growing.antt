-- A board after one event more.
use Rattle.std.proofs.Common.{◌≡◌, ℕ, zero, suc, ◌+◌, ◌-◌, ◌*◌, ◌≤◌, ◌<◌, ◌^◌, ◌==◌, not, Bool, true, false, List, [], ◌∷◌, ◌++◌, length, filter, map, Option, Some, None, refl, sym, ap, ◌∙◌, subst, arith}
use Rattle.std.specs.Prelude.{if◌then◌else◌, drop, nat_lt, nat_le, slice_get, is_none}
use Rattle.std.specs.List.{list_all}
use Rattle.std.proofs.lemmas.Bool.Decides.{nat_tests}
use Rattle.hx_ids.specs.declared.SessionId.{SessionId}
use Rattle.hx_ids.specs.declared.MsgId.{MsgId}
use Rattle.hx_ids.specs.declared.PassNo.{PassNo}
use Rattle.hx_ids.specs.declared.ResourceId.{ResourceId}
use Rattle.hx_ids.specs.declared.ControllerId.{ControllerId}
use Rattle.hx_ids.specs.declared.Live.{Live}
use Rattle.hx_cluster.specs.declared.description.Resource.{Resource}
use Rattle.hx_cluster.specs.declared.state.Message.{Message}
use Rattle.hx_cluster.specs.declared.state.Cluster.{Cluster}
use Rattle.hx_cluster.specs.declared.happenings.Outcome.{Outcome}
use Rattle.hx_cluster.specs.declared.happenings.Proposal.{Proposal}
use Rattle.hx_cluster.specs.declared.happenings.Placed.{Placed}
use Rattle.hx_cluster.specs.declared.happenings.Placed.TheVariants as placings
use Rattle.hx_cluster.specs.declared.happenings.Admin.{Admin}
use Rattle.hx_cluster.specs.declared.happenings.Admin.TheVariants as steps
use Rattle.hx_cluster.specs.declared.happenings.Did.TheVariants as dids
use Rattle.hx_cluster.specs.declared.happenings.Event.{Event}
use Rattle.hx_cluster.specs.declared.happenings.Event.TheVariants as events
use Rattle.hx_ideal.specs.IdealState.{put_list, put_map}
use Rattle.hx_cluster.specs.Ends.{resource_at, is_live, is_session}
use Rattle.hx_cluster.specs.Steps.{opening, after, live_of, without, without_all, ended_of, ended_by, beaten_of, changed_at, with_resource, asked_of, marked_down, with_down, is_leader, refusal_of, not_live, did_of, with_mode, has_controller}
use Rattle.hx_cluster.specs.declared.happenings.WriteRefusal.TheVariants as writes
use Rattle.hx_cluster.specs.Messages.{placed_of, after_placed, after_proposal, after_proposals, raised_pass, next_pass, after_dispatch, pending_of, as_written, after_take, written_of, after_write, after_ack}
use Rattle.hx_cluster.specs.Marks.{take_refusal, write_fault, write_refusal, ack_refusal}
use Rattle.hx_cluster.specs.Events.{next, replay, is_later, is_pass, IsStep, IsLegal}
use Rattle.hx_cluster.specs.Weight.{step_weight, weight_of, weight_of_all, owed_in, owed_of}
use Rattle.hx_cluster.specs.Numbered.{is_end}
use Rattle.hx_cluster.specs.Room.{half, HasRoom}
use Rattle.hx_safe.specs.Weighed.{IsWeighed}
use Rattle.hx_cluster.specs.Ranged.{IsRanged}
use Rattle.hx_cluster.specs.Valid.{is_within}
use Rattle.hx_calls.proofs.Front.{take-get}
use Rattle.hx_safe.specs.Ordered.{rises}
use Rattle.hx_safe.proofs.Counting.{all-le}
use Rattle.hx_safe.proofs.Whole.{reached_ranged}
use Rattle.hx_safe.proofs.Weighing.{reached_weighed, found-live, owed_proposals, paid_without, paid_take, paid_write, paid_ack}
use Rattle.hx_history.specs.declared.entries.History.{History}
use Rattle.hx_board.specs.declared.board.Board.TheInside.{Inside}
use Rattle.hx_board.specs.Board.{Held, held, weight_at, lines_in, opens, IsBoard}
use Rattle.hx_board.specs.Refusals.{read_refusal}
use Rattle.hx_board.proofs.Free.{read_free}
use Rattle.hx_safe.proofs.Weighing.{length-filter, length-removed}
use Rattle.hx_calls.proofs.Alike.{tail-same}

-- histories with one event more
pub replay-more : (c : Cluster) (h : List Event) (e : Event) → replay c (h ++ e ∷ []) ≡ next (replay c h) e
replay-more c [] e = refl
replay-more c (x ∷ h) e = replay-more (next c x) h e

pub legal-more : (c : Cluster) (h : List Event) (e : Event) → IsLegal c h → IsStep (replay c h) e → IsLegal c (h ++ e ∷ [])
legal-more c [] e legal step = (step, tt)
legal-more c (x ∷ h) e legal step = (legal.0, legal-more (next c x) h e legal.1 step)

pub weight-more : (h : List Event) (e : Event) → weight_of_all (h ++ e ∷ []) ≡ weight_of_all h + weight_of e
weight-more [] e = omega arith
weight-more (x ∷ h) e = omega (arith, weight-more h e)

lines-front : (x : Event) (h k : List Event) → lines_in (h ++ k) ≡ lines_in h ++ lines_in k → lines_in (x ∷ h ++ k) ≡ lines_in (x ∷ h) ++ lines_in k
lines-front (events.Line n) h k same = ap (λ (ns : List ℕ). n ∷ ns) same
lines-front (events.Admin step did) h k same = same
lines-front (events.Begin c begun) h k same = same
lines-front (events.Live c pass) h k same = same
lines-front (events.Mail c pass s) h k same = same
lines-front (events.States c pass s) h k same = same
lines-front (events.Ideals c pass) h k same = same
lines-front (events.Dispatch c epoch pass proposals answer) h k same = same
lines-front (events.Post c epoch rows) h k same = same
lines-front (events.Fetch i s n) h k same = same
lines-front (events.Take s id) h k same = same
lines-front (events.Write s id outcome) h k same = same
lines-front (events.Ack s id) h k same = same

pub lines-more : (h : List Event) (e : Event) → lines_in (h ++ e ∷ []) ≡ lines_in h ++ lines_in (e ∷ [])
lines-more [] e = refl
lines-more (x ∷ h) e = lines-front x h (e ∷ []) (lines-more h e)

pub append-none : {X : Type 0} (xs : List X) → xs ++ [] ≡ xs
append-none [] = refl
append-none (x ∷ xs) = ap (λ ys. x ∷ ys) (append-none xs)

-- only a line that is taken changes the last line
line_all : (c : Cluster) (ss : List SessionId) → (without_all c ss).line ≡ c.line
line_all c [] = refl
line_all c (s ∷ ss) = line_all (without c s) ss

line_edited : (c : Cluster) (r : ResourceId) (f : Resource → Resource) → (with_resource c r f).line ≡ c.line
line_edited c r f = one (resource_at c.resources r)
  where
    one : (o : Option Resource) → (changed_at c r f o).line ≡ c.line
    one None = refl
    one (Some x) = refl

line_down : (c : Cluster) (k : ControllerId) (down : Bool) → (with_down c k down).line ≡ c.line
line_down c k down = one (slice_get c.controllers k.0)
  where
    one : (o : Option (Bool × PassNo)) → (marked_down c k down o).line ≡ c.line
    one None = refl
    one (Some d) = refl

line_step : (c : Cluster) (step : Admin) → (after c step).line ≡ c.line
line_step c (steps.Join i) = refl
line_step c (steps.End i) = one (live_of c.live i)
  where
    one : (o : Option Live) → (ended_of c o).line ≡ c.line
    one None = refl
    one (Some l) = refl
line_step c (steps.Beat i) = one (live_of c.live i)
  where
    one : (o : Option Live) → (beaten_of c o).line ≡ c.line
    one None = refl
    one (Some l) = refl
line_step c (steps.Tick n) = line_all (record c { clock = c.clock + n }) (ended_by c n)
line_step c (steps.Drain i) = refl
line_step c (steps.Undrain i) = refl
line_step c (steps.Add name model ideal) = refl
line_step c (steps.Drop r) = line_edited c r (λ x. record x { dropped = true })
line_step c (steps.SetList p list) = line_edited c p.resource _
line_step c (steps.SetMap p map) = line_edited c p.resource _
line_step c (steps.Reset i p) = one (live_of c.live i)
  where
    one : (o : Option Live) → (asked_of c p o).line ≡ c.line
    one None = refl
    one (Some l) = refl
line_step c (steps.Lead k) = refl
line_step c (steps.Stop k) = left (with_down c k true) (is_leader k (with_down c k true).leader) ∙ line_down c k true
  where
    left : (x : Cluster) (b : Bool) → (if b then record x { leader = None; epoch = record { 0 = x.epoch.0 + 1 } } else x).line ≡ x.line
    left x true = refl
    left x false = refl
line_step c (steps.Start k) = line_down c k false

line_raised : (c : Cluster) (k : ControllerId) → (next_pass c k).line ≡ c.line
line_raised c k = one (slice_get c.controllers k.0)
  where
    one : (o : Option (Bool × PassNo)) → (raised_pass c k o).line ≡ c.line
    one None = refl
    one (Some d) = refl

line_placed : (c : Cluster) (q : Proposal) (p : Placed) → (after_placed c q p).line ≡ c.line
line_placed c q (placings.Sent id) = refl
line_placed c q placings.Ended = refl
line_placed c q placings.ResourceDropped = refl
line_placed c q (placings.Busy id) = refl
line_placed c q (placings.WrongFrom has) = refl
line_placed c q placings.Illegal = refl
line_placed c q (placings.OverBound n bound) = refl
line_placed c q (placings.OverThrottle rule load limit) = refl

line_proposals : (c : Cluster) (qs : List Proposal) → (after_proposals c qs).line ≡ c.line
line_proposals c [] = refl
line_proposals c (q ∷ qs) = line_proposals (after_proposal c q) qs ∙ line_placed c q (placed_of c q)

line_next : (c : Cluster) (e : Event) → lines_in (e ∷ []) ≡ [] → (next c e).line ≡ c.line
line_next c (events.Line n) other = cc
line_next c (events.Admin step did) other = line_step c step
line_next c (events.Begin k begun) other = line_raised c k
line_next c (events.Live k pass) other = refl
line_next c (events.Mail k pass s) other = refl
line_next c (events.States k pass s) other = refl
line_next c (events.Ideals k pass) other = refl
line_next c (events.Dispatch k epoch pass proposals answer) other = line_proposals (next_pass c k) proposals ∙ line_raised c k
line_next c (events.Post k epoch rows) other = refl
line_next c (events.Fetch i s n) other = refl
line_next c (events.Take s id) other = refl
line_next c (events.Write s id outcome) other = one (pending_of c s id)
  where
    one : (o : Option Message) → (written_of c s id outcome o).line ≡ c.line
    one None = refl
    one (Some m) = refl
line_next c (events.Ack s id) other = refl

-- a raised pass owes as before
pub owed_raised : (c : Cluster) (k : ControllerId) → owed_of (next_pass c k) ≡ owed_of c
owed_raised c k = one (slice_get c.controllers k.0)
  where
    one : (o : Option (Bool × PassNo)) → owed_of (raised_pass c k o) ≡ owed_of c
    one None = refl
    one (Some d) = refl

-- what becomes of a message was owed
pub none-is : {E : Type 0} (o : Option E) → o ≡ None → is_none o ≡ true
none-is None e = refl
none-is (Some x) e = cc

pub owed_take : (c : Cluster) (s : SessionId) (id : MsgId) → take_refusal c s id ≡ None → owed_of (after_take c s id) + 1 ≤ owed_of c
owed_take c s id free = omega (arith, paid_take c s id (none-is (take_refusal c s id) free))

pub owed_write : (c : Cluster) (s : SessionId) (id : MsgId) (outcome : Outcome) → write_refusal c s id ≡ None → owed_of (after_write c s id outcome) + 1 ≤ owed_of c
owed_write c s id outcome free = one (pending_of c s id) refl
  where
    paid : owed_in (map (as_written s id) c.mail) + 1 ≤ owed_in c.mail
    paid = paid_write c s id (none-is (write_refusal c s id) free)

    missing : (live : Bool) → (if live then write_fault None else Some writes.SessionEnded) ≡ None → ⊥
    missing true e = cc
    missing false e = cc

    one : (o : Option Message) → pending_of c s id ≡ o → owed_of (written_of c s id outcome o) + 1 ≤ owed_of c
    one None is = absurd (missing (is_live c.live s) (subst (λ (o : Option Message). (if is_live c.live s then write_fault o else Some writes.SessionEnded) ≡ None) is free))
    one (Some m) is = omega (arith, paid)

pub owed_ack : (c : Cluster) (s : SessionId) (id : MsgId) → ack_refusal c s id ≡ None → owed_of (after_ack c s id) + 1 ≤ owed_of c
owed_ack c s id free = omega (arith, paid_ack c s id (none-is (ack_refusal c s id) free))

-- an end answers nothing, weighs nothing, and was owed
pub end_did : (c : Cluster) (step : Admin) → is_end step ≡ true → did_of c step ≡ dids.Done
end_did c (steps.End i) e = refl
end_did c (steps.Join i) e = cc
end_did c (steps.Tick n) e = cc
end_did c (steps.Add name model ideal) e = cc
end_did c (steps.Lead k) e = cc
end_did c _ e = refl

pub end_weight : (step : Admin) → is_end step ≡ true → step_weight step ≡ 0
end_weight (steps.End i) e = refl
end_weight _ e = cc

pub owed_end : (c : Cluster) (step : Admin) → is_end step ≡ true → refusal_of c step ≡ None → owed_of (after c step) + 1 ≤ owed_of c
owed_end c (steps.End i) e free = one (live_of c.live i) refl free
  where
    one : (o : Option Live) → live_of c.live i ≡ o → not_live o ≡ None → owed_of (ended_of c o) + 1 ≤ owed_of c
    one None is f = cc
    one (Some l) is f = omega (arith, paid_without c l.session (found-live c.live i l is))
owed_end c _ e free = cc

-- other steps owe no more than before, but for the end of the session that a join opens
owed-filter : (k : Message → Bool) (ms : List Message) → owed_in (filter k ms) ≤ owed_in ms
owed-filter k [] = omega arith
owed-filter k (m ∷ ms) = grind (arith, owed-filter k ms)

owed_without : (c : Cluster) (s : SessionId) → owed_of (without c s) ≤ owed_of c
owed_without c s = omega (arith, length-filter (λ l. not (l.session.0 == s.0)) c.live, owed-filter (λ m. not (m.session.0 == s.0)) c.mail)

owed_all : (c : Cluster) (ss : List SessionId) → owed_of (without_all c ss) ≤ owed_of c
owed_all c [] = omega arith
owed_all c (s ∷ ss) = omega (arith, owed_all (without c s) ss, owed_without c s)

owed_edited : (c : Cluster) (r : ResourceId) (f : Resource → Resource) → owed_of (with_resource c r f) ≤ owed_of c
owed_edited c r f = one (resource_at c.resources r)
  where
    one : (o : Option Resource) → owed_of (changed_at c r f o) ≤ owed_of c
    one None = omega arith
    one (Some x) = omega arith

owed_down : (c : Cluster) (k : ControllerId) (down : Bool) → owed_of (with_down c k down) ≤ owed_of c
owed_down c k down = one (slice_get c.controllers k.0)
  where
    one : (o : Option (Bool × PassNo)) → owed_of (marked_down c k down o) ≤ owed_of c
    one None = omega arith
    one (Some d) = omega arith

pub push-length : {X : Type 0} (xs : List X) (x : X) → length (xs ++ x ∷ []) ≡ length xs + 1
push-length [] x = refl
push-length (y ∷ xs) x = grind (arith, push-length xs x)

pub owed_step : (c : Cluster) (step : Admin) → owed_of (after c step) ≤ owed_of c + opens step
owed_step c (steps.Join i) = omega (arith, push-length c.live (record { session = record { 0 = c.next_session }; instance = i; beat = c.clock }))
owed_step c (steps.End i) = one (live_of c.live i)
  where
    one : (o : Option Live) → owed_of (ended_of c o) ≤ owed_of c + 0
    one None = omega arith
    one (Some l) = omega (arith, owed_without c l.session)
owed_step c (steps.Beat i) = one (live_of c.live i) refl
  where
    one : (o : Option Live) → live_of c.live i ≡ o → owed_of (beaten_of c o) ≤ owed_of c + 0
    one None is = omega arith
    one (Some l) is =
        omega (arith, length-removed (is_session l.session) c.live (found-live c.live i l is), push-length (filter (λ x. not (is_session l.session x)) c.live) (record l { beat = c.clock }))
owed_step c (steps.Tick n) = omega (arith, owed_all (record c { clock = c.clock + n }) (ended_by c n))
owed_step c (steps.Drain i) = omega arith
owed_step c (steps.Undrain i) = omega arith
owed_step c (steps.Add name model ideal) = omega arith
owed_step c (steps.Drop r) = omega (arith, owed_edited c r (λ x. record x { dropped = true }))
owed_step c (steps.SetList p list) = omega (arith, owed_edited c p.resource (λ x. with_mode x (put_list x.ideal.mode p.index list)))
owed_step c (steps.SetMap p map) = omega (arith, owed_edited c p.resource (λ x. with_mode x (put_map x.ideal.mode p.index map)))
owed_step c (steps.Reset i p) = one (live_of c.live i)
  where
    one : (o : Option Live) → owed_of (asked_of c p o) ≤ owed_of c + 0
    one None = omega arith
    one (Some l) = omega arith
owed_step c (steps.Lead k) = omega arith
owed_step c (steps.Stop k) = omega (arith, left (with_down c k true) (is_leader k (with_down c k true).leader), owed_down c k true)
  where
    left : (x : Cluster) (b : Bool) → owed_of (if b then record x { leader = None; epoch = record { 0 = x.epoch.0 + 1 } } else x) ≤ owed_of x
    left x true = omega arith
    left x false = omega arith
owed_step c (steps.Start k) = omega (arith, owed_down c k false)

pub opens_paid : (step : Admin) → opens step ≤ step_weight step
opens_paid (steps.Join i) = omega arith
opens_paid _ = omega arith

pub opens_one : (step : Admin) → opens step ≤ 1
opens_one (steps.Join i) = omega arith
opens_one _ = omega arith

-- what a dispatch sends owes three events each
pub owed_dispatch : (c : Cluster) (k : ControllerId) (qs : List Proposal) → owed_of (after_dispatch c k qs) ≤ owed_of c + 3 * length qs
owed_dispatch c k qs = omega (arith, owed_raised c k, owed_proposals (next_pass c k) qs)

-- the numbers of a board's cluster are far from the end of their type
pub room_of : (a : Inside) → IsBoard a → HasRoom a.records
room_of a b =
    let weighed = subst (λ (c : Cluster). IsWeighed c (weight_of_all a.history.entries.items)) b.replays (reached_weighed a.spec b.valid a.history.entries.items b.legal) in
    let ranged = subst (λ (c : Cluster). IsRanged c) b.replays (reached_ranged a.spec b.valid a.history.entries.items b.legal) in
    let small : weight_of_all a.history.entries.items ≤ 2 ^ 40 = omega (arith, b.weighs, b.within, b.limited) in
    record {
      ids = record {
        instances = few (length a.records.instances) ranged.instances;
        resources = omega (arith, ranged.few_resources);
      };
      sessions = omega (arith, weighed.sessions, small);
      messages = omega (arith, weighed.messages, small);
      changes = omega (arith, weighed.changes, small);
      epochs = omega (arith, weighed.epochs, small);
      passes = all-le (λ d. nat_le d.1.0 (weight_of_all a.history.entries.items)) (λ d. nat_lt d.1.0 half) (λ d e. low d.1.0 (weight_of_all a.history.entries.items) small e) a.records.controllers weighed.passes;
    }
  where
    few : (n : ℕ) → is_within 1 64 n ≡ true → n < 2 ^ 32
    few n e = let low : nat_le n 64 ≡ true = grind (arith, e) in let most : n ≤ 64 = grind (arith, nat_tests, low) in omega (arith, most)

    low : (n w : ℕ) → w ≤ 2 ^ 40 → nat_le n w ≡ true → nat_lt n half ≡ true
    low n w small e = let le : n ≤ w = grind (arith, nat_tests, e) in let less : n < half = omega (arith, le, small) in grind (arith, nat_tests, less)

-- what a call that records an event leaves of a board: the cluster, the history, what it weighs and what is owed; the rest stays
pub record IsGrown (a : Inside) (after : Cluster) (past : History) (weight owed : ℕ) (e : Event) : Type 0 where
  pub step : IsStep a.records e
  pub other : lines_in (e ∷ []) ≡ []
  pub records : after ≡ next a.records e
  pub history : past.entries.items ≡ a.history.entries.items ++ e ∷ []
  pub weighs : weight ≡ a.weight + weight_of e
  pub within : weight ≤ a.limit
  pub pays : owed_of (next a.records e) ≤ owed
  pub few : owed ≤ weight
  pub room : owed ≤ past.entries.spare

pub grown : (a : Inside) (after : Cluster) (past : History) (weight owed : ℕ) (e : Event) → IsBoard a → IsGrown a after past weight owed e
    → IsBoard (record a { records = after; history = past; weight = weight; owed = owed })
grown a after past weight owed e h g =
    let from = opening a.spec in
    let before = a.history.entries.items in
    let step : IsStep (replay from before) e = subst (λ (c : Cluster). IsStep c e) (sym h.replays) g.step in
    let legal : IsLegal from (before ++ e ∷ []) = legal-more from before e h.legal step in
    let replays : replay from (before ++ e ∷ []) ≡ next a.records e = replay-more from before e ∙ ap (λ (c : Cluster). next c e) h.replays in
    let same : lines_in (before ++ e ∷ []) ≡ lines_in before = lines-more before e ∙ ap (λ (ns : List ℕ). lines_in before ++ ns) g.other ∙ append-none (lines_in before) in
    let now : lines_in past.entries.items ≡ lines_in before = ap lines_in g.history ∙ same in
    let line : after.line ≡ a.records.line = ap (λ (c : Cluster). c.line) g.records ∙ line_next a.records e g.other in
    record {
      valid = h.valid;
      legal = subst (λ (es : List Event). IsLegal from es) (sym g.history) legal;
      replays = ap (λ (es : List Event). replay from es) g.history ∙ replays ∙ sym g.records;
      taken = ap length now ∙ h.taken;
      front = now ∙ h.front;
      later = (λ i. list_all (is_later (line i)) (drop a.taken a.lines.items)) ∙ h.later;
      rising = h.rising;
      weighs = omega (arith, ap weight_of_all g.history, weight-more before e, g.weighs, h.weighs);
      within = g.within;
      limited = h.limited;
      owed = omega (arith, ap owed_of g.records, g.pays);
      few = g.few;
      room = g.room;
    }

-- room was made for so many events more
abbrev pub IsRoomy : ℕ → ℕ → History → History → Type 0
IsRoomy owed more before made = record {
  items : made.entries.items ≡ before.entries.items;
  spare : before.entries.spare ≤ made.entries.spare;
  room : owed + more ≤ made.entries.spare;
}

-- an event was recorded
abbrev pub IsRecorded : History → History → Event → Type 0
IsRecorded made past e = record {
  items : past.entries.items ≡ made.entries.items ++ e ∷ [];
  spare : past.entries.spare + 1 ≡ made.entries.spare;
}

-- room that was made for nothing changes no board
pub roomy : (a : Inside) (made : History) → IsBoard a → made.entries.items ≡ a.history.entries.items → a.history.entries.spare ≤ made.entries.spare
    → IsBoard (record a { history = made })
roomy a made h items spare = record {
  valid = h.valid;
  legal = subst (λ (es : List Event). IsLegal (opening a.spec) es) (sym items) h.legal;
  replays = ap (λ (es : List Event). replay (opening a.spec) es) items ∙ h.replays;
  taken = ap (λ (es : List Event). length (lines_in es)) items ∙ h.taken;
  front = ap lines_in items ∙ h.front;
  later = h.later;
  rising = h.rising;
  weighs = ap (λ (es : List Event). weight_of_all es + a.charges) items ∙ h.weighs;
  within = h.within;
  limited = h.limited;
  owed = h.owed;
  few = h.few;
  room = omega (arith, h.room, spare);
}

-- nor does a call that is refused after it
pub still : (a : Inside) (after : Cluster) (made : History) → IsBoard a → after ≡ a.records → made.entries.items ≡ a.history.entries.items → a.history.entries.spare ≤ made.entries.spare
    → IsBoard (record a { records = after; history = made })
still a after made h same items spare = subst (λ (c : Cluster). IsBoard (record a { records = c; history = made })) (sym same) (roomy a made h items spare)

-- a charge adds to the weight alone
pub charged_more : (a : Inside) (n : ℕ) → IsBoard a → weight_at (held a) + n ≤ a.limit → IsBoard (record a { charges = a.charges + n; weight = a.weight + n })
charged_more a n h fits = record {
  valid = h.valid;
  legal = h.legal;
  replays = h.replays;
  taken = h.taken;
  front = h.front;
  later = h.later;
  rising = h.rising;
  weighs = omega (arith, h.weighs);
  within = omega (arith, h.weighs, fits);
  limited = h.limited;
  owed = h.owed;
  few = omega (arith, h.few);
  room = h.room;
}

-- an event that owes nothing more is recorded in room that was made for it
pub recorded : (a : Inside) (seen : Held) (after : Cluster) (made past : History) (weight : ℕ) (x e : Event) → IsBoard a → held a ≡ seen → IsStep seen.cluster e → lines_in (e ∷ []) ≡ [] → after ≡ next a.records e
    → owed_of (next a.records e) ≡ owed_of a.records → weight ≡ a.weight + weight_of e → weight_at seen + weight_of e ≤ seen.limit → IsRoomy a.owed 1 a.history made → IsRecorded made past x → x ≡ e
    → IsBoard (record a { records = after; history = past; weight = weight })
recorded a seen after made past weight x e h view step other records pays weighs fits roomy told same =
    let room : weight_at (held a) + weight_of e ≤ a.limit = subst (λ (v : Held). weight_at v + weight_of e ≤ v.limit) (sym view) fits in
    grown a after past weight a.owed e h (record {
      step = subst (λ (v : Held). IsStep v.cluster e) (sym view) step;
      other = other;
      records = records;
      history = told.items ∙ (λ i. roomy.items i ++ same i ∷ []);
      weighs = weighs;
      within = omega (arith, room, h.weighs, weighs);
      pays = omega (arith, pays, h.owed);
      few = omega (arith, h.few, weighs);
      room = omega (arith, roomy.room, told.spare);
    })

-- a read of a controller's pass changes nothing else
pub shown : (a : Inside) (seen : Held) (made past : History) (k : ControllerId) (pass : PassNo) (e : Event) → IsBoard a → held a ≡ seen → has_controller seen.cluster k ≡ true → read_refusal seen k pass ≡ None
    → (is_pass seen.cluster k pass ≡ true → IsStep seen.cluster e) → lines_in (e ∷ []) ≡ [] → next a.records e ≡ a.records → weight_of e ≡ 1 → IsRoomy a.owed 1 a.history made → IsRecorded made past e
    → IsBoard (record a { history = past; weight = a.weight + 1 })
shown a seen made past k pass e h view there free step other stays weight roomy told =
    let may = read_free seen k pass free in
    let now : is_pass seen.cluster k pass ≡ true = grind (arith, there, may.now) in
    let weighs : a.weight + 1 ≡ a.weight + weight_of e = omega (arith, weight) in
    let fits : weight_at seen + weight_of e ≤ seen.limit = omega (arith, may.fits, weight) in
    recorded a seen a.records made past (a.weight + 1) e e h view (step now) other (sym stays) (ap owed_of stays) weighs fits roomy told refl

-- an event that was owed finds room, weighs nothing, and is paid
pub paid_room : (a : Inside) (left : ℕ) → IsBoard a → left + 1 ≤ owed_of a.records → 1 ≤ a.history.entries.spare
paid_room a left h pays = omega (arith, pays, h.owed, h.room)

pub paid : (a : Inside) (after : Cluster) (past : History) (e : Event) → IsBoard a → IsStep a.records e → lines_in (e ∷ []) ≡ [] → weight_of e ≡ 0 → after ≡ next a.records e → owed_of (next a.records e) + 1 ≤ owed_of a.records
    → IsRecorded a.history past e → IsBoard (record a { records = after; history = past; owed = a.owed - 1 })
paid a after past e h step other weight records pays told =
    grown a after past a.weight (a.owed - 1) e h (record {
      step = step;
      other = other;
      records = records;
      history = told.items;
      weighs = omega (arith, weight);
      within = h.within;
      pays = omega (arith, pays, h.owed);
      few = omega (arith, h.few);
      room = omega (arith, pays, h.owed, h.room, told.spare);
    })

-- what a call that takes a line leaves of a board
pub record IsLined (a : Inside) (after : Cluster) (past : History) (n : ℕ) : Type 0 where
  pub follows : slice_get a.lines.items a.taken ≡ Some n
  pub records : after ≡ next a.records (events.Line n)
  pub history : past.entries.items ≡ a.history.entries.items ++ events.Line n ∷ []
  pub within : a.weight + 1 ≤ a.limit
  pub room : a.owed ≤ past.entries.spare

drop-get : {X : Type 0} (xs : List X) (k : ℕ) (x : X) → slice_get xs k ≡ Some x → drop k xs ≡ x ∷ drop (k + 1) xs
drop-get [] k x e = cc
drop-get (y ∷ xs) zero x e = grind (arith, e)
drop-get (y ∷ xs) (suc k) x e = grind (arith, drop-get xs k x e)

rises-get : (xs : List ℕ) (k : ℕ) (x : ℕ) → rises nat_lt xs ≡ true → slice_get xs k ≡ Some x → list_all (nat_lt x) (drop (k + 1) xs) ≡ true
rises-get [] k x up e = cc
rises-get (y ∷ xs) zero x up e = grind (arith, up, e)
rises-get (y ∷ xs) (suc k) x up e =
    let here : drop k xs ≡ x ∷ drop (suc k + 1) (y ∷ xs) = drop-get (y ∷ xs) (suc k) x e in
    let same : drop (suc k + 1) (y ∷ xs) ≡ drop (k + 1) xs = tail-same (sym here ∙ drop-get xs k x e) in
    ap (list_all (nat_lt x)) same ∙ rises-get xs k x (grind (arith, up)) e

pub lined : (a : Inside) (after : Cluster) (past : History) (n : ℕ) → IsBoard a → IsLined a after past n → IsBoard (record a { records = after; history = past; taken = a.taken + 1; weight = a.weight + 1 })
lined a after past n h g =
    let from = opening a.spec in
    let before = a.history.entries.items in
    let e = events.Line n in
    let left : list_all (is_later a.records.line) (n ∷ drop (a.taken + 1) a.lines.items) ≡ true = subst (λ (ns : List ℕ). list_all (is_later a.records.line) ns ≡ true) (drop-get a.lines.items a.taken n g.follows) h.later in
    let step : IsStep (replay from before) e = subst (λ (c : Cluster). IsStep c e) (sym h.replays) (let now : is_later a.records.line n ≡ true = grind (arith, left) in now) in
    let legal : IsLegal from (before ++ e ∷ []) = legal-more from before e h.legal step in
    let replays : replay from (before ++ e ∷ []) ≡ next a.records e = replay-more from before e ∙ ap (λ (c : Cluster). next c e) h.replays in
    let now : lines_in past.entries.items ≡ lines_in before ++ n ∷ [] = ap lines_in g.history ∙ lines-more before e in
    let line : after.line ≡ Some n = ap (λ (c : Cluster). c.line) g.records in
    record {
      valid = h.valid;
      legal = subst (λ (es : List Event). IsLegal from es) (sym g.history) legal;
      replays = ap (λ (es : List Event). replay from es) g.history ∙ replays ∙ sym g.records;
      taken = ap length now ∙ push-length (lines_in before) n ∙ ap (λ (k : ℕ). k + 1) h.taken;
      front = now ∙ ap (λ (ns : List ℕ). ns ++ n ∷ []) h.front ∙ sym (take-get a.lines.items a.taken n g.follows);
      later = (λ i. list_all (is_later (line i)) (drop (a.taken + 1) a.lines.items)) ∙ rises-get a.lines.items a.taken n h.rising g.follows;
      rising = h.rising;
      weighs = omega (arith, ap weight_of_all g.history, weight-more before e, h.weighs);
      within = g.within;
      limited = h.limited;
      owed = omega (arith, ap owed_of g.records, h.owed);
      few = omega (arith, h.few);
      room = g.room;
    }

-- at the opening every line is to come
pub all-later : (ns : List ℕ) → list_all (is_later None) ns ≡ true
all-later [] = refl
all-later (n ∷ ns) = all-later ns
