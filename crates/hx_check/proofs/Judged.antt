-- How entries are judged: refused by the cluster, at fault beside it, or made.
use Rattle.std.proofs.Common.{◌≡◌, ℕ, ◌<◌, ◌==◌, ◌&&◌, not, Bool, true, false, List, map, length, set, Option, None, Some, Result, Ok, Err, if◌then◌else◌, true≢false, refl, sym, ap, ◌∙◌, subst}
use Rattle.std.specs.Prelude.{IfOk, is_none, is_some, nat_lt}
use Rattle.std.specs.Cmp.Lexicographic.{pointwise}
use Rattle.std.specs.List.{list_all}
use Rattle.std.specs.Option.{option_eq}
use Rattle.std.proofs.lemmas.Bool.{and_from, and_parts}
use Rattle.hx_ids.specs.declared.ControllerId.{ControllerId}
use Rattle.hx_ids.specs.declared.Epoch.{Epoch}
use Rattle.hx_ids.specs.declared.PassNo.{PassNo}
use Rattle.hx_ids.specs.declared.InstanceId.{InstanceId}
use Rattle.hx_ids.specs.declared.SessionId.{SessionId}
use Rattle.hx_ids.specs.declared.MsgId.{MsgId}
use Rattle.hx_cluster.specs.declared.description.Spec.{Spec}
use Rattle.hx_cluster.specs.declared.state.Cluster.{Cluster}
use Rattle.hx_cluster.specs.declared.happenings.Admin.{Admin}
use Rattle.hx_cluster.specs.declared.happenings.Admin.TheVariants as steps
use Rattle.hx_ids.specs.declared.ResourceId.{ResourceId}
use Rattle.hx_ids.specs.declared.ModelId.{ModelId}
use Rattle.hx_ideal.specs.IdealState.{IdealState}
use Rattle.hx_script.specs.Modes.{mode_numbered}
use Rattle.hx_script.specs.NewIdeals.{bare_ideal}
use Rattle.hx_cluster.specs.declared.happenings.Did.{Did}
use Rattle.hx_cluster.specs.declared.happenings.Proposal.{Proposal}
use Rattle.hx_cluster.specs.declared.happenings.Event.{Event}
use Rattle.hx_cluster.specs.declared.happenings.Event.TheVariants as events
use Rattle.hx_cluster.specs.declared.happenings.Outcome.{Outcome}
use Rattle.hx_cluster.specs.declared.happenings.Seen.{Seen}
use Rattle.hx_cluster.specs.Steps.{refusal_of, after, did_of, is_in_range, has_instance, has_controller, is_leader, session_of}
use Rattle.hx_cluster.specs.Reads.{messages_for, pass_of}
use Rattle.hx_cluster.specs.Messages.{after_dispatch}
use Rattle.hx_cluster.specs.Events.{next, begun_of, dispatched_of, is_proposable, is_later, is_pass, is_epoch, can_take, can_write, can_ack}
use Rattle.hx_pass.specs.Plans.{plan}
use Rattle.hx_pass.specs.Turns.{Turn, Send, Post, idle_turn, begun_turn, is_first, is_due, is_of_epoch, if_due, when_own, turn_after, posted_of}
use Rattle.hx_script.specs.declared.log.LogMove.{LogMove}
use Rattle.hx_script.specs.declared.log.LogEntry.{LogEntry}
use Rattle.hx_script.specs.declared.log.LogEntry.TheVariants as logs
use Rattle.hx_check.specs.declared.Cause.{Cause}
use Rattle.hx_check.specs.declared.Cause.TheVariants as causes
use Rattle.hx_check.specs.declared.turns.Read.{Read}
use Rattle.hx_check.specs.declared.turns.Read.TheVariants as reads
use Rattle.hx_check.specs.Standing.{Standing, turn_in, is_marked, marks_after, stood_after}
use Rattle.hx_check.specs.Answers.{same_session, is_part, is_move, proposal_of, are_answers, where_so, stepped_if, answered}
use Rattle.hx_check.specs.Judge.{same_proposal, judged, judged_answer, judged_entry}
use Rattle.hx_check.specs.Judging.{read_told, read_event, read_on, sent_on, answer_of, may_fetch, may_place, may_post, taken_as, marked, is_placed, sent_as, IsBareIdeal, IsJudgedAs, IsAnsweredAs}
use Rattle.hx_safe.proofs.Fixed.{fixed_next}
use Rattle.hx_safe.proofs.Counting.{all-map, all-le}
use Rattle.hx_safe.proofs.Ends.{session_same, same-self}
use Rattle.hx_check.proofs.Same.{options_same, option_itself}
use Rattle.hx_check.proofs.Turning.{turns_stay, turns_own}

-- the cluster answers otherwise
pub refused : (w v : Standing) (so : Bool) (e : Event) → so ≡ false → IsAnsweredAs w (where_so so e) (Some causes.Step) v
refused w v so e differs = λ spec. subst (λ (b : Bool). IsJudgedAs w (judged_answer spec w (where_so b e)) (Some causes.Step) v) (sym differs) refl

-- it answers so, and the event is at fault, or happens
as_judged : (w v : Standing) (so : Bool) (e : Event) (cause : Option Cause) → so ≡ true → ((spec : Spec) → IsJudgedAs w (judged spec w e) cause v) → IsAnsweredAs w (where_so so e) cause v
as_judged w v so e cause agreed is = λ spec. subst (λ (b : Bool). IsJudgedAs w (judged_answer spec w (where_so b e)) cause v) (sym agreed) (is spec)

pub faulty : (w v : Standing) (so : Bool) (e : Event) (cause : Cause) → so ≡ true → ((spec : Spec) → judged spec w e ≡ Err cause) → IsAnsweredAs w (where_so so e) (Some cause) v
faulty w v so e cause agreed is = as_judged w v so e (Some cause) agreed (λ spec. subst (λ (r : Result Event Cause). IsJudgedAs w r (Some cause) v) (sym (is spec)) refl)

pub happened : (w v : Standing) (so : Bool) (e : Event) → so ≡ true → ((spec : Spec) → judged spec w e ≡ Ok e) → v ≡ stood_after w e → IsAnsweredAs w (where_so so e) None v
happened w v so e agreed is stands = as_judged w v so e None agreed (λ spec. subst (λ (r : Result Event Cause). IsJudgedAs w r None v) (sym (is spec)) (refl, stands))

-- where an event leaves a standing whose turns it doesn't touch, and one of which it touches one turn
pub stood_still : (w : Standing) (e : Event) → ((k : ControllerId) (t : Turn) → turn_after w.cluster k t e ≡ t)
    → stood_after w e ≡ record { cluster = next w.cluster e; turns = w.turns; marks = marks_after w.cluster w.marks e }
stood_still w e same = ap (λ ts. record { cluster = next w.cluster e; turns = ts; marks = marks_after w.cluster w.marks e }) (turns_stay w.cluster e same 0 w.turns)

pub stood_own : (w : Standing) (e : Event) (j : ControllerId) (f : Turn → Turn) → ((k : ControllerId) (t : Turn) → turn_after w.cluster k t e ≡ when_own k j t (f t))
    → j.0 < length w.turns
    → stood_after w e ≡ record { cluster = next w.cluster e; turns = set w.turns j.0 (f (turn_in w j)); marks = marks_after w.cluster w.marks e }
stood_own w e j f own lt = ap (λ ts. record { cluster = next w.cluster e; turns = ts; marks = marks_after w.cluster w.marks e }) (turns_own w.cluster e j f own w.turns lt)

-- a step
pub step_refused : (w v : Standing) (agrees : Bool) (step : Admin) → answer_of w.cluster step ≡ None → IsAnsweredAs w (stepped_if w.cluster agrees step) (Some causes.Step) v
step_refused w v agrees step none =
    refused w v _ _ (three agrees (is_in_range w.cluster step) (is_none (refusal_of w.cluster step)) (did_of w.cluster step) none)
  where
    three : (a b c : Bool) (did : Did) → (if b && c then Some did else None) ≡ None → (a && b && c) ≡ false
    three false b c did e = refl
    three true false c did e = refl
    three true true false did e = refl
    three true true true did e = cc

pub step_differs : (w v : Standing) (agrees : Bool) (step : Admin) → agrees ≡ false → IsAnsweredAs w (stepped_if w.cluster agrees step) (Some causes.Step) v
step_differs w v agrees step differs = refused w v _ _ (ap (λ (b : Bool). b && is_in_range w.cluster step && is_none (refusal_of w.cluster step)) differs)

-- what its answer says
pub record IsFree (c : Cluster) (step : Admin) (did : Did) : Type 0 where
  pub range : is_in_range c step ≡ true
  pub free : refusal_of c step ≡ None
  pub answers : did ≡ did_of c step

pub step_free : (c : Cluster) (step : Admin) (did : Did) → answer_of c step ≡ Some did → IsFree c step did
step_free c step did e = one (is_in_range c step) (refusal_of c step) refl refl e
  where
    one : (b : Bool) (o : Option _) → is_in_range c step ≡ b → refusal_of c step ≡ o → (if b && is_none o then Some (did_of c step) else None) ≡ Some did → IsFree c step did
    one true None range free e = let same : did ≡ did_of c step = cc in record { range = range; free = free; answers = same }
    one true (Some fault) range free e = cc
    one false o range free e = cc

pub step_made : (w v : Standing) (agrees : Bool) (step : Admin) (did : Did) → answer_of w.cluster step ≡ Some did → agrees ≡ true
    → v ≡ record w { cluster = after w.cluster step } → IsAnsweredAs w (stepped_if w.cluster agrees step) None v
step_made w v agrees step did some agreed is =
    let free = step_free w.cluster step did some in
    let so : (agrees && is_in_range w.cluster step && is_none (refusal_of w.cluster step)) ≡ true =
    ap (λ (b : Bool). b && is_in_range w.cluster step && is_none (refusal_of w.cluster step)) agreed
    ∙ ap (λ (b : Bool). b && is_none (refusal_of w.cluster step)) free.range
    ∙ ap (λ o. is_none o) free.free in
    happened w v _ (events.Admin step (did_of w.cluster step)) so (λ spec. refl) (is ∙ sym (stood_still w (events.Admin step (did_of w.cluster step)) (λ k t. refl)))

-- a read
read_judged : (spec : Spec) (w : Standing) (k : ControllerId) (pass : PassNo) (read : Read)
    → judged spec w (read_event k pass read) ≡ (if not (is_due (turn_in w k) (read_told read) pass) then Err causes.Order else Ok (read_event k pass read))
read_judged spec w k pass reads.Live = refl
read_judged spec w k pass (reads.Mail s) = refl
read_judged spec w k pass (reads.States s) = refl
read_judged spec w k pass reads.Ideals = refl

read_turn : (c : Cluster) (k j : ControllerId) (t : Turn) (pass : PassNo) (read : Read)
    → turn_after c k t (read_event j pass read) ≡ when_own k j t (if_due (is_due t (read_told read) pass) (read_on c t read))
read_turn c k j t pass reads.Live = refl
read_turn c k j t pass (reads.Mail s) = refl
read_turn c k j t pass (reads.States s) = refl
read_turn c k j t pass reads.Ideals = refl

read_stands : (w : Standing) (k : ControllerId) (pass : PassNo) (read : Read) (ts : List Turn)
    → record { cluster = next w.cluster (read_event k pass read); turns = ts; marks = marks_after w.cluster w.marks (read_event k pass read) } ≡ record w { turns = ts }
read_stands w k pass reads.Live ts = refl
read_stands w k pass (reads.Mail s) ts = refl
read_stands w k pass (reads.States s) ts = refl
read_stands w k pass reads.Ideals ts = refl

pub read_late : (w v : Standing) (k : ControllerId) (pass : PassNo) (read : Read) → is_pass w.cluster k pass ≡ true → is_due (turn_in w k) (read_told read) pass ≡ false
    → IsAnsweredAs w (where_so (is_pass w.cluster k pass) (read_event k pass read)) (Some causes.Order) v
read_late w v k pass read agreed differs =
    faulty w v _ (read_event k pass read) causes.Order agreed
    (λ spec. read_judged spec w k pass read ∙ ap (λ (b : Bool). if not b then Err causes.Order else Ok (read_event k pass read)) differs)

pub read_made : (w v : Standing) (k : ControllerId) (pass : PassNo) (read : Read) → is_pass w.cluster k pass ≡ true → is_due (turn_in w k) (read_told read) pass ≡ true
    → k.0 < length w.turns → v ≡ record w { turns = set w.turns k.0 (read_on w.cluster (turn_in w k) read) }
    → IsAnsweredAs w (where_so (is_pass w.cluster k pass) (read_event k pass read)) None v
read_made w v k pass read agreed due lt is =
    let e = read_event k pass read in
    happened w v _ e agreed (λ spec. read_judged spec w k pass read ∙ ap (λ (b : Bool). if not b then Err causes.Order else Ok e) due)
    (is
    ∙ ap (λ (b : Bool). record w { turns = set w.turns k.0 (if_due b (read_on w.cluster (turn_in w k) read)) }) (sym due)
    ∙ sym (read_stands w k pass read (set w.turns k.0 (if_due (is_due (turn_in w k) (read_told read) pass) (read_on w.cluster (turn_in w k) read))))
    ∙ sym (stood_own w e k (λ t. if_due (is_due t (read_told read) pass) (read_on w.cluster t read)) (λ j t. read_turn w.cluster j k t pass read) lt))

-- a line
pub line_made : (w v : Standing) (n : ℕ) → is_later w.cluster.line n ≡ true → v ≡ record w { cluster = next w.cluster (events.Line n) } → IsAnsweredAs w (answered w (logs.Line n)) None v
line_made w v n agreed is = happened w v _ (events.Line n) agreed (λ spec. refl) (is ∙ sym (stood_still w (events.Line n) (λ k t. refl)))

-- a begin
pub begin_refused : (w v : Standing) (k : ControllerId) (epoch : Epoch) (pass : PassNo) → (has_controller w.cluster k && is_leader k w.cluster.leader) ≡ false
    → IsAnsweredAs w (answered w (logs.Begin k epoch pass)) (Some causes.Step) v
begin_refused w v k epoch pass differs =
    refused w v _ _ (ap (λ (b : Bool). b && ((begun_of w.cluster k).epoch.0 == epoch.0) && ((begun_of w.cluster k).pass.0 == pass.0)) differs)

pub begin_differs : (w v : Standing) (k : ControllerId) (epoch : Epoch) (pass : PassNo) → (((begun_of w.cluster k).epoch.0 == epoch.0) && ((begun_of w.cluster k).pass.0 == pass.0)) ≡ false
    → IsAnsweredAs w (answered w (logs.Begin k epoch pass)) (Some causes.Step) v
begin_differs w v k epoch pass differs =
    refused w v _ _ (last (has_controller w.cluster k && is_leader k w.cluster.leader) ((begun_of w.cluster k).epoch.0 == epoch.0) ((begun_of w.cluster k).pass.0 == pass.0) differs)
  where
    last : (a b c : Bool) → (b && c) ≡ false → (a && b && c) ≡ false
    last true b c e = e
    last false b c e = refl

pub begin_made : (w v : Standing) (k : ControllerId) (epoch : Epoch) (pass : PassNo) → has_controller w.cluster k ≡ true → is_leader k w.cluster.leader ≡ true
    → ((begun_of w.cluster k).epoch.0 == epoch.0) ≡ true → ((begun_of w.cluster k).pass.0 == pass.0) ≡ true → k.0 < length w.turns
    → v ≡ record w { cluster = next w.cluster (events.Begin k (begun_of w.cluster k)); turns = set w.turns k.0 (begun_turn (begun_of w.cluster k)) }
    → IsAnsweredAs w (answered w (logs.Begin k epoch pass)) None v
begin_made w v k epoch pass there leads same too lt is =
    let e = events.Begin k (begun_of w.cluster k) in
    happened w v _ e (and_from _ _ (and_from _ _ (and_from _ _ there leads) same) too) (λ spec. refl)
    (is ∙ sym (stood_own w e k (λ t. begun_turn (begun_of w.cluster k)) (λ j t. refl) lt))

-- a post of rows that the turn was shown
post_judged : (spec : Spec) (w : Standing) (k : ControllerId) (epoch : Epoch) (rows : List Seen) (b : Bool) → (is_first Post (turn_in w k).left && is_of_epoch (turn_in w k) epoch) ≡ b
    → judged spec w (events.Post k epoch rows) ≡ (if not b then Err causes.Order else Ok (events.Post k epoch rows))
post_judged spec w k epoch rows b is = ap (λ (b : Bool). if not b then Err causes.Order else Ok (events.Post k epoch rows)) is

pub post_refused : (w v : Standing) (k : ControllerId) (epoch : Epoch) (n : ℕ) → may_post w.cluster k epoch (posted_of (turn_in w k).view) n ≡ false → IsAnsweredAs w (answered w (logs.Post k epoch n)) (Some causes.Step) v
post_refused w v k epoch n differs = refused w v _ _ differs

pub post_late : (w v : Standing) (k : ControllerId) (epoch : Epoch) (n : ℕ) → may_post w.cluster k epoch (posted_of (turn_in w k).view) n ≡ true → (is_first Post (turn_in w k).left && is_of_epoch (turn_in w k) epoch) ≡ false
    → IsAnsweredAs w (answered w (logs.Post k epoch n)) (Some causes.Order) v
post_late w v k epoch n may late = faulty w v _ _ causes.Order may (λ spec. post_judged spec w k epoch (posted_of (turn_in w k).view) false late)

pub post_made : (w v : Standing) (k : ControllerId) (epoch : Epoch) (n : ℕ) → may_post w.cluster k epoch (posted_of (turn_in w k).view) n ≡ true → (is_first Post (turn_in w k).left && is_of_epoch (turn_in w k) epoch) ≡ true
    → k.0 < length w.turns → v ≡ record w { cluster = record w.cluster { posted = posted_of (turn_in w k).view }; turns = set w.turns k.0 idle_turn }
    → IsAnsweredAs w (answered w (logs.Post k epoch n)) None v
post_made w v k epoch n may due lt is =
    let e = events.Post k epoch (posted_of (turn_in w k).view) in
    happened w v _ e may (λ spec. post_judged spec w k epoch (posted_of (turn_in w k).view) true due) (is ∙ sym (stood_own w e k (λ t. idle_turn) (λ j t. refl) lt))

-- a fetch, by the session that stands
same_way : (a b : Option SessionId) → option_eq same_session a b ≡ true → a ≡ b
same_way a b e = options_same same_session session_same a b e

may_fetch_so : (c : Cluster) (i : InstanceId) (s : Option SessionId) (n : ℕ)
    → may_fetch c i s n ≡ (has_instance c i && option_eq same_session s (session_of c i) && (length (messages_for c s) == n))
may_fetch_so c i s n = one (option_eq same_session (session_of c i) s) (option_eq same_session s (session_of c i)) refl refl
  where
    -- whichever way they are compared
    back : (a b : Option SessionId) → option_eq same_session a b ≡ true → option_eq same_session b a ≡ true
    back a b e = subst (λ (o : Option SessionId). option_eq same_session o a ≡ true) (same_way a b e) (option_itself same_session (λ s. same-self s.0) a)

    one : (x y : Bool) → option_eq same_session (session_of c i) s ≡ x → option_eq same_session s (session_of c i) ≡ y
        → may_fetch c i s n ≡ (has_instance c i && option_eq same_session s (session_of c i) && (length (messages_for c s) == n))
    one true y is too =
        ap (λ (o : Option SessionId). has_instance c i && option_eq same_session (session_of c i) s && (length (messages_for c o) == n)) (same_way (session_of c i) s is)
        ∙ ap (λ (b : Bool). has_instance c i && b && (length (messages_for c s) == n)) (is ∙ sym (back (session_of c i) s is))
    one false true is too = absurd (true≢false (sym (back s (session_of c i) too) ∙ is))
    one false false is too =
        ap (λ (b : Bool). has_instance c i && b && (length (messages_for c (session_of c i)) == n)) is
        ∙ none (has_instance c i) (length (messages_for c (session_of c i)) == n) (length (messages_for c s) == n)
        ∙ ap (λ (b : Bool). has_instance c i && b && (length (messages_for c s) == n)) (sym too)
      where
        none : (a b d : Bool) → (a && false && b) ≡ (a && false && d)
        none true b d = refl
        none false b d = refl

marked_after : (c : Cluster) (marks : List ℕ) (i : InstanceId) (s : Option SessionId) (n : ℕ) → marked marks s c.next_msg ≡ marks_after c marks (events.Fetch i s n)
marked_after c marks i None n = refl
marked_after c marks i (Some s) n = refl

pub fetch_refused : (w v : Standing) (i : InstanceId) (s : Option SessionId) (n : ℕ) → may_fetch w.cluster i s n ≡ false → IsAnsweredAs w (answered w (logs.Fetch i s n)) (Some causes.Step) v
fetch_refused w v i s n differs = refused w v _ _ (sym (may_fetch_so w.cluster i s n) ∙ differs)

pub fetch_answered : (w v : Standing) (i : InstanceId) (s : Option SessionId) (n : ℕ) → may_fetch w.cluster i s n ≡ true → v ≡ record w { marks = marked w.marks s w.cluster.next_msg }
    → IsAnsweredAs w (answered w (logs.Fetch i s n)) None v
fetch_answered w v i s n agreed is =
    let e = events.Fetch i s n in
    happened w v _ e (sym (may_fetch_so w.cluster i s n) ∙ agreed) (λ spec. refl)
    (is ∙ ap (λ ms. record w { marks = ms }) (marked_after w.cluster w.marks i s n) ∙ sym (stood_still w e (λ k t. refl)))

-- what becomes of a message
take_judged : (spec : Spec) (w : Standing) (s : SessionId) (id : MsgId) (b : Bool) → is_marked w s id ≡ b
    → judged spec w (events.Take s id) ≡ (if not b then Err causes.Fetch else Ok (events.Take s id))
take_judged spec w s id b is = ap (λ (b : Bool). if not b then Err causes.Fetch else Ok (events.Take s id)) is

pub take_answered : (w v : Standing) (s : SessionId) (id : MsgId) (made shown : Bool) → made ≡ can_take w.cluster s id → shown ≡ is_marked w s id
    → (made ≡ true → v ≡ record w { cluster = next w.cluster (events.Take s id) })
    → IsAnsweredAs w (answered w (logs.Take s id)) (taken_as made shown) v
take_answered w v s id false shown may is stands = refused w v _ _ (sym may)
take_answered w v s id true false may is stands = faulty w v _ _ causes.Fetch (sym may) (λ spec. take_judged spec w s id false (sym is))
take_answered w v s id true true may is stands =
    happened w v _ _ (sym may) (λ spec. take_judged spec w s id true (sym is)) (stands refl ∙ sym (stood_still w (events.Take s id) (λ k t. refl)))

pub write_answered : (w v : Standing) (s : SessionId) (id : MsgId) (outcome : Outcome) (made : Bool) → made ≡ can_write w.cluster s id
    → (made ≡ true → v ≡ record w { cluster = next w.cluster (events.Write s id outcome) })
    → IsAnsweredAs w (answered w (logs.Write s id outcome)) (if made then None else Some causes.Step) v
write_answered w v s id outcome false may stands = refused w v _ _ (sym may)
write_answered w v s id outcome true may stands = happened w v _ _ (sym may) (λ spec. refl) (stands refl ∙ sym (stood_still w (events.Write s id outcome) (λ k t. refl)))

pub ack_answered : (w v : Standing) (s : SessionId) (id : MsgId) (made : Bool) → made ≡ can_ack w.cluster s id
    → (made ≡ true → v ≡ record w { cluster = next w.cluster (events.Ack s id) })
    → IsAnsweredAs w (answered w (logs.Ack s id)) (if made then None else Some causes.Step) v
ack_answered w v s id false may stands = refused w v _ _ (sym may)
ack_answered w v s id true may stands = happened w v _ _ (sym may) (λ spec. refl) (stands refl ∙ sym (stood_still w (events.Ack s id) (λ k t. refl)))

-- the same of a standing as it is seen, whose cluster makes the event where it may
pub mark_answered : (w now : Standing) (new : Cluster) (entry : LogEntry) (e : Event) (made : Bool) (cause told : Option Cause) → w ≡ now → told ≡ cause → new ≡ (if made then next w.cluster e else w.cluster)
    → ((v : Standing) → (made ≡ true → v ≡ record w { cluster = next w.cluster e }) → IsAnsweredAs w (answered w entry) cause v) → IsAnsweredAs now (answered now entry) told (record w { cluster = new })
mark_answered w now new entry e made cause told same is stands each =
    let v : Standing = record w { cluster = new } in
    subst (λ (o : Option Cause). IsAnsweredAs now (answered now entry) o v) (sym is)
    (subst (λ (x : Standing). IsAnsweredAs x (answered x entry) cause v) same
    (each v (λ so. ap (λ (x : Cluster). record w { cluster = x }) (stands ∙ ap (λ (b : Bool). if b then next w.cluster e else w.cluster) so))))

-- a dispatch: what the cluster answers, and then its order and its plan
pub dispatch_refused : (spec : Spec) (w v : Standing) (k : ControllerId) (epoch : Epoch) (pass : PassNo) (moves : List LogMove) → is_placed w.cluster k epoch pass moves ≡ false
    → IsJudgedAs w (judged_entry spec w (Some (logs.Dispatch k epoch pass moves))) (Some causes.Step) v
dispatch_refused spec w v k epoch pass moves differs = refused w v _ (events.Dispatch k epoch pass (map proposal_of moves) (dispatched_of w.cluster k (map proposal_of moves))) differs spec

pub dispatch_sent : (spec : Spec) (w mid v : Standing) (k : ControllerId) (epoch : Epoch) (pass : PassNo) (moves : List LogMove) (cause : Option Cause)
    → is_placed w.cluster k epoch pass moves ≡ true → mid ≡ record w { cluster = after_dispatch w.cluster k (map proposal_of moves) } → k.0 < length w.turns
    → cause ≡ sent_as spec (turn_in mid k) epoch pass (map proposal_of moves)
    → (cause ≡ None → v ≡ record mid { turns = set mid.turns k.0 (sent_on (turn_in mid k)) })
    → IsJudgedAs w (judged_entry spec w (Some (logs.Dispatch k epoch pass moves))) cause v
dispatch_sent spec w mid v k epoch pass moves cause may at lt is stands =
    subst (λ (b : Bool). IsJudgedAs w (judged_answer spec w (where_so b e)) cause v) (sym may)
    (one (is_due t Send pass && is_of_epoch t epoch) (pointwise same_proposal qs (plan spec.models spec.rules t.view).proposals) refl refl (is ∙ ap (λ m. sent_as spec (turn_in m k) epoch pass qs) at))
  where
    t : Turn
    t = turn_in w k

    qs : List Proposal
    qs = map proposal_of moves

    e : Event
    e = events.Dispatch k epoch pass qs (dispatched_of w.cluster k qs)

    own : (j : ControllerId) (u : Turn) → turn_after w.cluster j u e ≡ when_own j k u (if_due (is_due u Send pass && is_of_epoch u epoch) (sent_on u))
    own j u = refl

    one : (due planned : Bool) → (is_due t Send pass && is_of_epoch t epoch) ≡ due → pointwise same_proposal qs (plan spec.models spec.rules t.view).proposals ≡ planned
        → cause ≡ (if not due then Some causes.Order else if not planned then Some causes.Plan else None)
        → IsJudgedAs w (if not (is_due t Send pass && is_of_epoch t epoch) then Err causes.Order else if not (pointwise same_proposal qs (plan spec.models spec.rules t.view).proposals) then Err causes.Plan else Ok e) cause v
    one false planned due_is planned_is c =
        subst (λ (b : Bool). IsJudgedAs w (if not b then Err causes.Order else if not (pointwise same_proposal qs (plan spec.models spec.rules t.view).proposals) then Err causes.Plan else Ok e) cause v) (sym due_is) c
    one true false due_is planned_is c =
        subst (λ (b : Bool). IsJudgedAs w (if not b then Err causes.Order else if not (pointwise same_proposal qs (plan spec.models spec.rules t.view).proposals) then Err causes.Plan else Ok e) cause v) (sym due_is)
        (subst (λ (b : Bool). IsJudgedAs w (if not b then Err causes.Plan else Ok e) cause v) (sym planned_is) c)
    one true true due_is planned_is c =
        subst (λ (b : Bool). IsJudgedAs w (if not b then Err causes.Order else if not (pointwise same_proposal qs (plan spec.models spec.rules t.view).proposals) then Err causes.Plan else Ok e) cause v) (sym due_is)
        (subst (λ (b : Bool). IsJudgedAs w (if not b then Err causes.Plan else Ok e) cause v) (sym planned_is) (
          c,
          stands c
              ∙ ap (λ (m : Standing). record m { turns = set m.turns k.0 (sent_on (turn_in m k)) }) at
              ∙ ap {A = Bool} {B = Standing} (λ b. record w { cluster = after_dispatch w.cluster k qs; turns = set w.turns k.0 (if_due b (sent_on t)) }) (sym due_is)
              ∙ sym (stood_own w e k (λ u. if_due (is_due u Send pass && is_of_epoch u epoch) (sent_on u)) own lt),
        ))

-- a resource that is added
pub added : (w v : Standing) (name : ℕ) (r : ResourceId) (model : ModelId) (ideal : IdealState) (replicas parts mode : ℕ) (cause : Option Cause)
    → IsBareIdeal replicas parts mode (Some ideal)
    → IsAnsweredAs w (stepped_if w.cluster (r.0 == length w.cluster.resources) (steps.Add name model ideal)) cause v
    → IsAnsweredAs w (answered w (logs.Add name r model replicas parts mode)) cause v
added w v name r model ideal replicas parts mode cause bare is =
    subst (λ (b : Bool). IsAnsweredAs w (stepped_if w.cluster b (steps.Add name model (bare_ideal replicas parts mode))) cause v) (sym (both (r.0 == length w.cluster.resources) (is_some (mode_numbered mode)) bare.0))
    (subst (λ (i : IdealState). IsAnsweredAs w (stepped_if w.cluster (r.0 == length w.cluster.resources) (steps.Add name model i)) cause v) bare.1 is)
  where
    both : (a b : Bool) → b ≡ true → (a && b) ≡ a
    both true b e = e
    both false b e = refl

-- the proposals of moves that may be made
pub all_proposable : (c : Cluster) (moves : List LogMove) → list_all (is_move c) moves ≡ true → list_all (is_proposable c) (map proposal_of moves) ≡ true
all_proposable c moves all =
    all-map (is_proposable c) proposal_of moves ∙ all-le (is_move c) (λ m. is_proposable c (proposal_of m)) (λ m e. (and_parts (is_part c m.part) (is_proposable c (proposal_of m)) e).1) moves all

-- what a dispatch leaves
pub placed_there : (w mid : Standing) (k : ControllerId) (epoch : Epoch) (pass : PassNo) (moves : List LogMove) → is_placed w.cluster k epoch pass moves ≡ true
    → mid ≡ record w { cluster = after_dispatch w.cluster k (map proposal_of moves) } → has_controller mid.cluster k ≡ true
placed_there w mid k epoch pass moves may at =
    let e = events.Dispatch k epoch pass (map proposal_of moves) (dispatched_of w.cluster k (map proposal_of moves)) in
    let first = (and_parts (may_place w.cluster k epoch pass moves) (are_answers w.cluster k moves) may).0 in
    let passes = (and_parts (list_all (is_move w.cluster) moves && is_epoch w.cluster epoch) (is_pass w.cluster k pass) first).1 in
    ap (λ (x : Standing). has_controller x.cluster k) at ∙ ap (λ (n : ℕ). nat_lt k.0 n) (fixed_next w.cluster e).controllers ∙ (and_parts (has_controller w.cluster k) ((pass_of w.cluster k).0 == pass.0) passes).0

pub placed_models : (w mid : Standing) (k : ControllerId) (moves : List LogMove) → mid ≡ record w { cluster = after_dispatch w.cluster k (map proposal_of moves) }
    → w.cluster.models ≡ mid.cluster.models
placed_models w mid k moves at =
    let e = events.Dispatch k w.cluster.epoch (record { 0 = 0 }) (map proposal_of moves) (dispatched_of w.cluster k (map proposal_of moves)) in
    sym (ap (λ (x : Standing). x.cluster.models) at ∙ (fixed_next w.cluster e).models)

pub both_ok : {X E : Type 0} (r : Result X E) (P Q R : X → Type 0) → IfOk r P → IfOk r Q → ((x : X) → P x → Q x → R x) → IfOk r R
both_ok (Ok x) P Q R p q f = f x p q
both_ok (Err e) P Q R p q f = tt
