-- The answers to runs.
use Rattle.std.proofs.Common.{◌≡◌, ℕ, Bool, false, List, [], ◌++◌, None, Some, Result, Ok, Err, refl, sym, ap, ap₂, subst, ◌∙◌}
use Rattle.std.specs.Prelude.{IfOk}
use Rattle.std.proofs.lemmas.List.{append-nil}
use Rattle.hx_cluster.specs.Steps.{opening}
use Rattle.hx_print.specs.Texts.{history_full_text}
use Rattle.hx_worlds.specs.Items.{items_text}
use Rattle.hx_worlds.specs.Runs.{Deed, GoesOn, Stops, items_of, state_of, is_stopped}
use Rattle.hx_worlds.specs.Scripts.{sim_run, end_text}
use Rattle.hx_worlds.specs.Summaries.{summary_of}
use Rattle.hx_app.specs.Constants as statuses
use Rattle.hx_app.specs.declared.replies.Reply.{Reply}
use Rattle.hx_app.specs.declared.input.Scenario.{Scenario}
use Rattle.hx_app.specs.declared.input.InputFault.{InputFault}
use Rattle.hx_app.specs.declared.simulation.Simulated.{Simulated}
use Rattle.hx_app.specs.Replies.{Answer, AnswersAs}
use Rattle.hx_app.specs.Answers.{answer_by, ended_status, sim_answer, summary_text, summary_answer}
use Rattle.hx_app.specs.Simulation.{IsSimulated, full_at}

record IsDone (r : Deed) : Type 0 where
  pub status : ended_status (is_stopped r) ≡ statuses.done
  pub text : end_text r ≡ []
  pub summary : summary_text r ≡ summary_of (state_of r).world.history

done : (r : Deed) → full_at r ≡ None → IsDone r
done (GoesOn items x answer) e = record { status = refl; text = refl; summary = refl }
done (Stops items x) e = cc

record IsFull (r : Deed) (weight : ℕ) : Type 0 where
  pub status : ended_status (is_stopped r) ≡ statuses.history_full
  pub text : end_text r ≡ history_full_text weight
  pub summary : summary_text r ≡ history_full_text weight

some_same : (n m : ℕ) → Some n ≡ Some m → n ≡ m
some_same n m e = cc

full : (r : Deed) (weight : ℕ) → full_at r ≡ Some weight → IsFull r weight
full (GoesOn items x answer) weight e = cc
full (Stops items x) weight e = let same = some_same x.world.weight weight e in record { status = refl; text = ap history_full_text same; summary = ap history_full_text same }

abbrev run_of : Scenario → Deed
run_of s = sim_run s.spec s.lines

-- of one that is printed
module _ (s : Scenario) (run : Simulated) (is : IsSimulated s false run) where
  pub sim_done : (reply : Reply) → run.full ≡ None → reply.status.0 ≡ statuses.done → reply.text ≡ run.page → AnswersAs (sim_answer s) reply
  sim_done reply none status text =
      let d = done (run_of s) (sym is.full ∙ none) in
      let log = items_text s.spec (opening s.spec) (items_of (run_of s)) in
      record { status = status ∙ sym d.status; text = text ∙ is.page ∙ sym (append-nil log) ∙ ap (λ t. log ++ t) (sym d.text) }

  pub sim_full : (reply : Reply) (weight : ℕ) → run.full ≡ Some weight → reply.status.0 ≡ statuses.history_full → reply.text ≡ run.page ++ history_full_text weight → AnswersAs (sim_answer s) reply
  sim_full reply weight some status text =
      let d = full (run_of s) weight (sym is.full ∙ some) in
      record { status = status ∙ sym d.status; text = text ∙ ap₂ (λ (a b : List ℕ). a ++ b) is.page (sym d.text) }

  -- where there was memory for the text
  pub sim_ends_full : {E : Type 0} (r : Result Reply E) (weight : ℕ) → run.full ≡ Some weight → IfOk r (λ reply. reply.status.0 ≡ statuses.history_full)
      → IfOk r (λ reply. reply.text ≡ run.page ++ history_full_text weight) → IfOk r (AnswersAs (sim_answer s))
  sim_ends_full (Ok reply) weight some status text = sim_full reply weight some status text
  sim_ends_full (Err e) weight some status text = tt

-- of one whose summary alone is told
module _ (s : Scenario) (muted : Bool) (run : Simulated) (is : IsSimulated s muted run) where
  pub summary_done : (reply : Reply) → run.full ≡ None → reply.status.0 ≡ statuses.done → reply.text ≡ summary_of run.board.history → AnswersAs (summary_answer s) reply
  summary_done reply none status text =
      let d = done (run_of s) (sym is.full ∙ none) in
      record { status = status ∙ sym d.status; text = text ∙ ap summary_of is.history ∙ sym d.summary }

  pub summary_full : (reply : Reply) (weight : ℕ) → run.full ≡ Some weight → reply.status.0 ≡ statuses.history_full → reply.text ≡ history_full_text weight → AnswersAs (summary_answer s) reply
  summary_full reply weight some status text =
      let d = full (run_of s) weight (sym is.full ∙ some) in
      record { status = status ∙ sym d.status; text = text ∙ sym d.summary }

  pub summary_ends_full : {E : Type 0} (r : Result Reply E) (weight : ℕ) (page : List ℕ) → run.full ≡ Some weight → page ≡ [] → IfOk r (λ reply. reply.status.0 ≡ statuses.history_full)
      → IfOk r (λ reply. reply.text ≡ page ++ history_full_text weight) → IfOk r (AnswersAs (summary_answer s))
  summary_ends_full (Ok reply) weight page some none status text = summary_full reply weight some status (text ∙ ap (λ t. t ++ history_full_text weight) none)
  summary_ends_full (Err e) weight page some none status text = tt

-- the answer to an input is that to what was found of it
pub answers_found : {E : Type 0} (run : Scenario → Answer) (found read : Result Scenario InputFault) (r : Result Reply E) → found ≡ read → IfOk r (AnswersAs (answer_by run read)) → IfOk r (AnswersAs (answer_by run found))
answers_found run found read r is h = subst (λ (x : Result Scenario InputFault). IfOk r (AnswersAs (answer_by run x))) (sym is) h
