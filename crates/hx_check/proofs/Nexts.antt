-- The next event of a lawful history by a line of a log is exactly the event with which the history stays lawful and whose text tells
-- the line's entry.
use Rattle.std.proofs.Common.{◌≡◌, ◌==◌, Bool, true, false, not, ◌&&◌, List, Option, None, Some, Ok, Err, true≢false, refl, sym, ap, ◌∙◌, subst}
use Rattle.std.specs.Prelude.{is_some, if◌then◌else◌}
use Rattle.std.specs.Cmp.Lexicographic.{pointwise}
use Rattle.std.proofs.lemmas.Bool.{and_parts, and_from}
use Rattle.hx_ids.specs.declared.ControllerId.{ControllerId}
use Rattle.hx_ids.specs.declared.PassNo.{PassNo}
use Rattle.hx_cluster.specs.declared.description.Spec.{Spec}
use Rattle.hx_cluster.specs.declared.state.Cluster.{Cluster}
use Rattle.hx_cluster.specs.declared.happenings.Event.{Event}
use Rattle.hx_cluster.specs.declared.happenings.Event.TheVariants as events
use Rattle.hx_cluster.specs.Valid.{IsValid}
use Rattle.hx_cluster.specs.Steps.{opening, has_controller}
use Rattle.hx_cluster.specs.Reads.{pass_of}
use Rattle.hx_cluster.specs.Events.{replay, IsStep, is_pass}
use Rattle.hx_pass.specs.Plans.{plan}
use Rattle.hx_pass.specs.Turns.{Turn, Call, Live, Mail, States, Ideals, Send, Post, is_first, is_due, is_of_epoch, turn_of, posted_of}
use Rattle.hx_pass.specs.Lawful.{IsProper, IsLawful}
use Rattle.hx_script.specs.declared.log.LogEntry.{LogEntry}
use Rattle.hx_script.specs.declared.log.LogLine.{LogLine}
use Rattle.hx_script.specs.LogEntries.{entry_told_by}
use Rattle.hx_check.specs.declared.Cause.TheVariants as causes
use Rattle.hx_check.specs.Standing.{Standing, standing_of, opening_standing, turn_in}
use Rattle.hx_check.specs.Answers.{answered, answered_in}
use Rattle.hx_check.specs.Judge.{is_in_turn, same_proposal, is_planned, is_fetched, judged, judged_answer, judged_entry, event_of, next_event, IsNext}
use Rattle.hx_check.proofs.Same.{lists_same, list_itself, proposals_same, proposal_itself}
use Rattle.hx_check.proofs.Telling.{IsPostOf, Tells, answered_tells}
use Rattle.hx_check.proofs.Tellable.{steps_tell}
use Rattle.hx_check.proofs.Told.{tells_answered}
use Rattle.hx_check.proofs.Standings.{stood_cluster, turn_there, lawful_more, lawful_last}
use Rattle.hx_check.proofs.Marking.{marks_tell}

-- what the judge tests of an answered event
pub record IsGood (spec : Spec) (w : Standing) (e : Event) : Type 0 where
  pub turn : is_in_turn w e ≡ true
  pub planned : is_planned spec w e ≡ true
  pub fetched : is_fetched w e ≡ true

judged_good : (spec : Spec) (w : Standing) (e f : Event) → event_of (judged spec w e) ≡ Some f → IsGood spec w e × (e ≡ f)
judged_good spec w e f is = one (is_in_turn w e) (is_planned spec w e) (is_fetched w e) refl refl refl is
  where
    one : (a b c : Bool) → is_in_turn w e ≡ a → is_planned spec w e ≡ b → is_fetched w e ≡ c
        → event_of (if not a then Err causes.Order else if not b then Err causes.Plan else if not c then Err causes.Fetch else Ok e) ≡ Some f → IsGood spec w e × (e ≡ f)
    one true true true ea eb ec is = (record { turn = ea; planned = eb; fetched = ec }, cc)
    one true true false ea eb ec is = cc
    one true false c ea eb ec is = cc
    one false b c ea eb ec is = cc

good_judged : (spec : Spec) (w : Standing) (e : Event) → IsGood spec w e → judged spec w e ≡ Ok e
good_judged spec w e good = rw (good.turn, good.planned, good.fetched) refl

-- an event that is answered and passes the tests
pub record IsPassed (spec : Spec) (w : Standing) (entry : LogEntry) (e : Event) : Type 0 where
  pub answers : answered w entry ≡ Some e
  pub good : IsGood spec w e

passed_entry : (spec : Spec) (w : Standing) (entry : LogEntry) (e : Event) → event_of (judged_entry spec w (Some entry)) ≡ Some e → IsPassed spec w entry e
passed_entry spec w entry e is = one (answered w entry) refl is
  where
    one : (o : Option Event) → answered w entry ≡ o → event_of (judged_answer spec w o) ≡ Some e → IsPassed spec w entry e
    one None told is = cc
    one (Some f) told is =
        let good = judged_good spec w f e is in
        record { answers = told ∙ ap Some good.1; good = subst (IsGood spec w) good.1 good.0 }

module _ (spec : Spec) (h : List Event) (valid : IsValid spec) (lawful : IsLawful spec h) where
  abbrev w : Standing
  w = standing_of spec h

  abbrev c : Cluster
  c = replay (opening spec) h

  at_end : w.cluster ≡ c
  at_end = stood_cluster (opening_standing spec) h

  turn : (k : ControllerId) → has_controller c k ≡ true → turn_in w k ≡ turn_of spec k h
  turn k has = turn_there spec h k has

  passing : (k : ControllerId) (call : Call) (pass : PassNo) → is_pass c k pass ≡ true → is_due (turn_in w k) call pass ≡ is_due (turn_of spec k h) call pass
  passing k call pass is = ap (λ t. is_due t call pass) (turn k (and_parts (has_controller c k) ((pass_of c k).0 == pass.0) is).0)

  -- the tests say that the event is proper
  proper : (e : Event) → IsStep c e → IsPostOf w e → IsGood spec w e → IsProper spec h e
  proper (events.Live k pass) step post good = sym (passing k Live pass step) ∙ good.turn
  proper (events.Mail k pass s) step post good = sym (passing k (Mail s) pass step) ∙ good.turn
  proper (events.States k pass s) step post good = sym (passing k (States s) pass step) ∙ good.turn
  proper (events.Ideals k pass) step post good = sym (passing k Ideals pass step) ∙ good.turn
  proper (events.Dispatch k epoch pass qs answer) step post good =
      let same = turn k (and_parts (has_controller c k) ((pass_of c k).0 == pass.0) step.2).0 in
      let both = and_parts (is_due (turn_in w k) Send pass) (is_of_epoch (turn_in w k) epoch) good.turn in (
        ap (λ t. is_due t Send pass) (sym same) ∙ both.0,
        ap (λ t. is_of_epoch t epoch) (sym same) ∙ both.1,
        lists_same same_proposal proposals_same qs (plan spec.models spec.rules (turn_in w k).view).proposals good.planned
            ∙ ap (λ (t : Turn). (plan spec.models spec.rules t.view).proposals) same,
      )
  proper (events.Post k epoch rows) step post good =
      let same = turn k step.0 in
      let both = and_parts (is_first Post (turn_in w k).left) (is_of_epoch (turn_in w k) epoch) good.turn in (
        ap (λ (t : Turn). is_first Post t.left) (sym same) ∙ both.0,
        ap (λ t. is_of_epoch t epoch) (sym same) ∙ both.1,
        post ∙ ap (λ (t : Turn). posted_of t.view) same,
      )
  proper (events.Take s id) step post good = sym (marks_tell spec h valid lawful.0 s id step) ∙ good.fetched
  proper _ step post good = tt

  posts : (e : Event) → IsStep c e → IsProper spec h e → IsPostOf w e
  posts (events.Post k epoch rows) step is = is.2 ∙ ap (λ (t : Turn). posted_of t.view) (sym (turn k step.0))
  posts _ step is = tt

  good : (e : Event) → IsStep c e → IsProper spec h e → IsGood spec w e
  good (events.Live k pass) step is = record { turn = passing k Live pass step ∙ is; planned = refl; fetched = refl }
  good (events.Mail k pass s) step is = record { turn = passing k (Mail s) pass step ∙ is; planned = refl; fetched = refl }
  good (events.States k pass s) step is = record { turn = passing k (States s) pass step ∙ is; planned = refl; fetched = refl }
  good (events.Ideals k pass) step is = record { turn = passing k Ideals pass step ∙ is; planned = refl; fetched = refl }
  good (events.Dispatch k epoch pass qs answer) step is =
      let same = turn k (and_parts (has_controller c k) ((pass_of c k).0 == pass.0) step.2).0 in
      record {
        turn = ap (λ t. is_due t Send pass && is_of_epoch t epoch) same ∙ and_from (is_due (turn_of spec k h) Send pass) (is_of_epoch (turn_of spec k h) epoch) is.0 is.1;
        planned = ap (λ (t : Turn). pointwise same_proposal qs (plan spec.models spec.rules t.view).proposals) same
            ∙ ap (pointwise same_proposal qs) (sym is.2)
            ∙ list_itself same_proposal proposal_itself qs;
        fetched = refl;
      }
  good (events.Post k epoch rows) step is =
      let same = turn k step.0 in
      record {
        turn = ap (λ (t : Turn). is_first Post t.left && is_of_epoch t epoch) same ∙ and_from (is_first Post (turn_of spec k h).left) (is_of_epoch (turn_of spec k h) epoch) is.0 is.1;
        planned = refl;
        fetched = refl;
      }
  good (events.Take s id) step is = record { turn = refl; planned = refl; fetched = marks_tell spec h valid lawful.0 s id step ∙ is }
  good _ step is = record { turn = refl; planned = refl; fetched = refl }

  -- both ways
  pub next_is : (l : LogLine) (e : Event) → next_event spec h l ≡ Some e → IsNext spec h l e
  next_is l e is = one l.entry refl is
    where
      one : (o : Option LogEntry) → l.entry ≡ o → event_of (judged_entry spec w o) ≡ Some e → IsNext spec h l e
      one None told is = cc
      one (Some entry) told is =
          let passed = passed_entry spec w entry e is in
          let tells : Tells w c entry e = answered_tells w c entry e (ap (λ (d : Cluster). answered_in w d entry) (sym at_end) ∙ passed.answers) in
          (lawful_more spec h e lawful tells.step (proper e tells.step tells.post passed.good), tells.told ∙ sym told)

  next_of : (l : LogLine) (e : Event) (entry : LogEntry) → l.entry ≡ Some entry → IsNext spec h l e → next_event spec h l ≡ Some e
  next_of l e entry told next =
      let last = lawful_last spec h e next.0 in
      let tells : Tells w c entry e = record { step = last.0; told = next.1 ∙ told; post = posts e last.0 last.1 } in
      let answers : answered w entry ≡ Some e = ap (λ (d : Cluster). answered_in w d entry) at_end ∙ tells_answered w c e entry tells in
      ap (λ o. event_of (judged_entry spec w o)) told
      ∙ ap (λ o. event_of (judged_answer spec w o)) answers
      ∙ ap event_of (good_judged spec w e (good e last.0 last.1))

  pub is_next : (l : LogLine) (e : Event) → IsNext spec h l e → next_event spec h l ≡ Some e
  is_next l e next = one l.entry refl
    where
      one : (o : Option LogEntry) → l.entry ≡ o → next_event spec h l ≡ Some e
      one (Some entry) told = next_of l e entry told next
      one None told =
          let tells = steps_tell c e (lawful_last spec h e next.0).0 in
          let nothing : is_some (entry_told_by c e) ≡ false = ap is_some (next.1 ∙ told) in
          absurd (true≢false (sym tells ∙ nothing))

  pub one_next : (l : LogLine) (e other : Event) → IsNext spec h l e → IsNext spec h l other → e ≡ other
  one_next l e other is too = let same : Some e ≡ Some other = sym (is_next l e is) ∙ is_next l other too in cc

pub none_next : (spec : Spec) (h : List Event) (l : LogLine) → l.entry ≡ None → next_event spec h l ≡ None
none_next spec h l is = ap (λ o. event_of (judged_entry spec (standing_of spec h) o)) is
