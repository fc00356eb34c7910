-- What participants do in a world: they fetch, are delivered messages, and take, write and acknowledge them.
use Rattle.std.specs.Prelude.{ℕ, ◌+◌, Bool, true, false, not, ◌==◌, ◌&&◌, List, [], ◌∷◌, ◌++◌, map, filter, find, length, Option, None, Some, is_some, option_map, if◌then◌else◌, nat_lt}
use Rattle.std.specs.Option.{option_eq}
use Rattle.hx_lists.specs.Lists.{sort_by}
use Rattle.hx_ids.specs.declared.InstanceId.{InstanceId}
use Rattle.hx_ids.specs.declared.SessionId.{SessionId}
use Rattle.hx_ids.specs.declared.MsgId.{MsgId}
use Rattle.hx_cluster.specs.declared.state.Message.{Message}
use Rattle.hx_cluster.specs.declared.happenings.Mail.{Mail}
use Rattle.hx_cluster.specs.declared.happenings.Outcome.{Outcome}
use Rattle.hx_cluster.specs.declared.happenings.Outcome.TheVariants as outcomes
use Rattle.hx_cluster.specs.declared.happenings.Event.TheVariants as events
use Rattle.hx_cluster.specs.Reads.{fetched}
use Rattle.hx_cluster.specs.Events.{can_take, can_write, can_ack}
use Rattle.hx_print.specs.declared.Note.{Note}
use Rattle.hx_print.specs.declared.Note.TheVariants as notes
use Rattle.hx_print.specs.Texts.{accept_text}
use Rattle.hx_lists.specs.Counts.{count_up}
use Rattle.hx_handler.specs.Makings.{tried_of}
use Rattle.hx_replicas.specs.declared.DeliverFault.{DeliverFault}
use Rattle.hx_replicas.specs.declared.DeliverFault.TheVariants as faults
use Rattle.hx_replicas.specs.Participants.{slot_of, deliver_fault, accept, accepted_by, accepted_all, makes, leaves_error, made_ready, hand_out, finish, adopt}
use Rattle.hx_worlds.specs.declared.Voice.{Voice}
use Rattle.hx_worlds.specs.declared.Voice.TheVariants.{Quiet}
use Rattle.hx_worlds.specs.World.{Job, State, participant_of, with_participant, with_jobs, with_bag, answer_of, answered}
use Rattle.hx_worlds.specs.Runs.{Deed, done, and_then, make, happen, note, say_if_loud, for_each}

-- the open jobs of an instance, by number
abbrev pub is_job_of : InstanceId → Job → Bool
is_job_of i j = j.instance.0 == i.0

abbrev pub is_job : InstanceId → MsgId → Job → Bool
is_job i id j = is_job_of i j && (j.message.id.0 == id.0)

abbrev pub job_before : Job → Job → Bool
job_before a b = nat_lt a.message.id.0 b.message.id.0

abbrev pub jobs_of : InstanceId → State → List Job
jobs_of i x = sort_by job_before (filter (is_job_of i) x.world.jobs)

abbrev pub job_of : InstanceId → MsgId → State → Option Job
job_of i id x = find (is_job i id) x.world.jobs

abbrev pub with_job : Job → State → State
with_job j x = with_jobs (x.world.jobs ++ j ∷ []) x

abbrev pub without_job : InstanceId → MsgId → State → State
without_job i id x = with_jobs (filter (λ j. not (is_job i id j)) x.world.jobs) x

abbrev pub as_written_job : InstanceId → MsgId → Job → Job
as_written_job i id j = if is_job i id j then record j { is_written = true } else j

abbrev pub with_written : InstanceId → MsgId → State → State
with_written i id x = with_jobs (map (as_written_job i id) x.world.jobs) x

-- a job ends by its outcome, and its handler goes back
abbrev pub end_job : Job → State → State
end_job j x =
    without_job j.instance j.message.id
    (with_participant j.instance (finish (participant_of x.world j.instance) j.message (Some j.outcome) j.handler) x)

abbrev pub end_jobs : List Job → State → State
end_jobs [] x = x
end_jobs (j ∷ js) x = end_jobs js (end_job j x)

-- a session is adopted. The open jobs end without a call
abbrev pub adopted : InstanceId → Option SessionId → State → State
adopted i session x = with_participant i (adopt (participant_of x.world i) session) x

abbrev pub adopt_in : InstanceId → Option SessionId → State → State
adopt_in i session x = adopted i session (end_jobs (jobs_of i x) x)

-- the bag has each message as it was fetched last
abbrev pub put_in_bag : List Message → Message → List Message
put_in_bag [] m = m ∷ []
put_in_bag (x ∷ xs) m = if x.id.0 == m.id.0 then m ∷ xs else x ∷ put_in_bag xs m

abbrev pub put_all : List Message → List Message → List Message
put_all bag [] = bag
put_all bag (m ∷ ms) = put_all (put_in_bag bag m) ms

abbrev pub in_bag : MsgId → State → Option Message
in_bag id x = find (λ m. m.id.0 == id.0) x.world.bag

-- fetch: another session is adopted, and the messages go into the bag
abbrev pub same_session : Option SessionId → Option SessionId → Bool
same_session a b = option_eq (λ s t. s.0 == t.0) a b

abbrev pub bagged : List Message → State → State
bagged ms x = with_bag (put_all x.world.bag ms) x

abbrev pub fetched_as : InstanceId → Mail → State → State
fetched_as i mail x =
    bagged mail.messages (if same_session (participant_of x.world i).session mail.session then x else adopt_in i mail.session x)

abbrev pub fetch_mail : InstanceId → Mail → State → Deed
fetch_mail i mail x = and_then (happen (events.Fetch i mail.session (length mail.messages)) x) (λ y. done (fetched_as i mail y))

abbrev pub do_fetch : InstanceId → State → Deed
do_fetch i x = fetch_mail i (fetched x.world.cluster i) x

-- a delivery
abbrev pub note_of : DeliverFault → Note
note_of (faults.OtherSession mine) = notes.OtherSession mine
note_of (faults.Running m) = notes.Running m
note_of (faults.Repeat m) = notes.Repeat m
note_of (faults.WrongFrom has) = notes.WrongFrom has

abbrev pub delivered : Voice → InstanceId → Message → Option DeliverFault → State → Deed
delivered v i m (Some f) x = note v (note_of f) x
delivered v i m None x =
    say_if_loud v 1 (accept_text x.world.spec i m.id) (with_participant i (accept (participant_of x.world i) m) x)

abbrev pub deliver : Voice → InstanceId → Message → State → Deed
deliver v i m x = delivered v i m (deliver_fault (participant_of x.world i) m) x

abbrev pub deliver_from_bag : Voice → InstanceId → Option Message → State → Deed
deliver_from_bag v i None x = note v notes.NoMessage x
deliver_from_bag v i (Some m) x = deliver v i m x

abbrev pub do_deliver : Voice → InstanceId → MsgId → State → Deed
do_deliver v i id x = deliver_from_bag v i (in_bag id x) x

-- handing out a message: where it makes a handler, the making is answered, and may fail
abbrev pub is_failed : Outcome → Bool
is_failed outcomes.Ok = false
is_failed outcomes.Failed = true

abbrev pub fails_to_make : InstanceId → Message → State → Bool
fails_to_make i m x = is_failed (answer_of x.answers i m.part true (tried_of (participant_of x.world i).tried m.part + 1))

abbrev pub if_answered : Bool → State → State
if_answered is x = if is then answered x else x

abbrev pub handed_out : InstanceId → Message → Bool → State → State
handed_out i m is_faulted x =
    if_answered (makes (slot_of (participant_of x.world i) m.part) m)
    (with_participant i (hand_out (participant_of x.world i) m is_faulted) x)

-- the handler that goes out with it, by its runs
abbrev pub handler_of : InstanceId → Message → Bool → State → Option ℕ
handler_of i m is_faulted x = (made_ready (slot_of (participant_of x.world i) m.part) m is_faulted).handler

-- its run: a handler runs, and answers; leaving ERROR is a reset, and always succeeds; without a handler it fails
abbrev pub runs_handler : Message → Option ℕ → Bool
runs_handler m handler = is_some handler && not (leaves_error m)

abbrev pub outcome_of_run : InstanceId → Message → Option ℕ → State → Outcome
outcome_of_run i m None x = if leaves_error m then outcomes.Ok else outcomes.Failed
outcome_of_run i m (Some runs) x = if leaves_error m then outcomes.Ok else answer_of x.answers i m.part false (runs + 1)

abbrev pub handler_after : Message → Option ℕ → Option ℕ
handler_after m handler = if runs_handler m handler then option_map count_up handler else handler

abbrev pub job_run : InstanceId → Message → Option ℕ → State → Job
job_run i m handler x = record {
  instance = i;
  message = m;
  handler = handler_after m handler;
  outcome = outcome_of_run i m handler x;
  is_written = false;
}

abbrev pub ran : InstanceId → Message → Option ℕ → State → State
ran i m handler x = with_job (job_run i m handler x) (if_answered (runs_handler m handler) x)

-- take: the accepted message is handed out and taken, and its transition runs. After a refusal it is put back
abbrev pub put_back : InstanceId → Message → Option ℕ → State → State
put_back i m handler x = with_participant i (finish (participant_of x.world i) m None handler) x

abbrev pub take_job : Voice → InstanceId → Message → Option ℕ → State → Deed
take_job v i m handler x =
    if can_take x.world.cluster m.session m.id
    then and_then (make (events.Take m.session m.id) x) (λ y. done (ran i m handler y))
    else note v notes.SessionEnded (put_back i m handler x)

abbrev pub take_handed : Voice → InstanceId → Message → Bool → State → Deed
take_handed v i m is_faulted x = take_job v i m (handler_of i m is_faulted x) (handed_out i m is_faulted x)

abbrev pub take_accepted : Voice → InstanceId → Option Message → State → Deed
take_accepted v i None x = note v notes.NoJob x
take_accepted v i (Some m) x = take_handed v i m (fails_to_make i m x) x

abbrev pub do_take : Voice → InstanceId → MsgId → State → Deed
do_take v i id x = take_accepted v i (accepted_by (participant_of x.world i) id) x

-- write: the outcome comes to the board. After a refusal the job ends
abbrev pub write_job : Voice → Option Job → State → Deed
write_job v None x = note v notes.NoJob x
write_job v (Some j) x =
    if j.is_written then note v notes.NoJob x
    else if can_write x.world.cluster j.message.session j.message.id
    then and_then (make (events.Write j.message.session j.message.id j.outcome) x) (λ y. done (with_written j.instance j.message.id y))
    else note v notes.SessionEnded (end_job j x)

abbrev pub do_write : Voice → InstanceId → MsgId → State → Deed
do_write v i id x = write_job v (job_of i id x) x

-- ack: the message is removed. The job ends, also after a refusal
abbrev pub ack_job : Voice → Option Job → State → Deed
ack_job v None x = note v notes.NoJob x
ack_job v (Some j) x =
    if not j.is_written then note v notes.NoJob x
    else if can_ack x.world.cluster j.message.session j.message.id
    then and_then (make (events.Ack j.message.session j.message.id) x) (λ y. done (end_job j y))
    else note v notes.SessionEnded (end_job j x)

abbrev pub do_ack : Voice → InstanceId → MsgId → State → Deed
do_ack v i id x = ack_job v (job_of i id x) x

-- work: the open jobs are carried to their ends, what is fetched is delivered, and each accepted message is taken, written and acknowledged
abbrev pub carry : InstanceId → MsgId → State → Deed
carry i id x = and_then (do_write Quiet i id x) (λ y. do_ack Quiet i id y)

abbrev pub carry_jobs : InstanceId → State → Deed
carry_jobs i x = for_each (λ j y. carry i j.message.id y) (jobs_of i x) x

abbrev pub run_message : InstanceId → Message → State → Deed
run_message i m x = and_then (do_take Quiet i m.id x) (λ y. carry i m.id y)

abbrev pub run_accepted : InstanceId → State → Deed
run_accepted i x = for_each (run_message i) (accepted_all (participant_of x.world i)) x

abbrev pub fetch_and_deliver : InstanceId → Mail → State → Deed
fetch_and_deliver i mail x = and_then (fetch_mail i mail x) (λ y. for_each (deliver Quiet i) mail.messages y)

abbrev pub do_work : InstanceId → State → Deed
do_work i x =
    and_then (carry_jobs i x) (λ y.
    and_then (fetch_and_deliver i (fetched y.world.cluster i) y) (λ z. run_accepted i z))
