use Rattle.std.proofs.Common.{◌≡◌, ◌+◌, ◌<◌, Bool, true, Option, length, drop, sym, ap, ◌∙◌, subst, arith}
use Rattle.std.proofs.lemmas.Grind.{common_steps}
use Rattle.hx_cluster.specs.declared.description.Spec.{Spec}
use Rattle.hx_script.specs.Logs.{sort_of}
use Rattle.hx_script.specs.declared.log.Sort.TheVariants as sorts
use Rattle.hx_logs.proofs.Walking.{left_from}
use Rattle.hx_check.specs.declared.Cause.{Cause}
use Rattle.hx_check.specs.Judge.{judged_entry, judged_from}
use Rattle.hx_check.specs.Judging.{IsJudgedAs}
use Rattle.hx_check.specs.Streams.{entry_at, names_left}
use Rattle.hx_check.proofs.Streaming.{judged_past, past_remark, past_indented, at_loose, at_fault, past_head, past_all, names_past_other, names_past_entry, readable_on, kept_both, models_on, models_kept}
use Rattle.hx_check.proofs.checking.judge_lines.Goals as goal

pub loop-place-preserved-in-PassedOver : goal.loop-place-preserved-in-PassedOver
loop-place-preserved-in-PassedOver c =
    let l = c.loop-place in
    let is : sort_of c.get.result.now ≡ sorts.PassedOver = sym c.sort_of.ensures ∙ c.in-PassedOver.is in
    judged_past c.args.spec.now c.args.judge.now c.args.lines.now l.spec l.judge l.place l.entries l.begun c.get.result.now sorts.PassedOver l.invariant c.get.ensures is (λ e. cc) (omega arith)
    (past_remark c.args.spec.now l.judge l.entries l.begun l.spec l.place c.args.lines.now c.get.result.now c.get.ensures is)

pub loop-place-preserved-then-begun : goal.loop-place-preserved-then-begun
loop-place-preserved-then-begun c =
    let l = c.loop-place in
    let is : sort_of c.get.result.now ≡ sorts.Indented = sym c.sort_of.ensures ∙ c.in-Indented.is in
    judged_past c.args.spec.now c.args.judge.now c.args.lines.now l.spec l.judge l.place l.entries l.begun c.get.result.now sorts.Indented l.invariant c.get.ensures is (λ e. cc) (omega arith)
    (ap (λ (b : Bool). judged_from c.args.spec.now l.judge l.entries (left_from b l.spec (l.place + 1) (drop l.place c.args.lines.now)).0) c.if-begun.true
    ∙ past_indented c.args.spec.now l.judge l.entries l.spec l.place c.args.lines.now c.get.result.now c.get.ensures is
    ∙ ap (λ (b : Bool). judged_from c.args.spec.now l.judge l.entries (left_from b l.spec (l.place + 1 + 1) (drop (l.place + 1) c.args.lines.now)).0) (sym c.if-begun.true))

pub returns-in-Indented-clause-verdict : goal.returns-in-Indented-clause-verdict
returns-in-Indented-clause-verdict c =
    let is : sort_of c.get.result.now ≡ sorts.Indented = sym c.sort_of.ensures ∙ c.in-Indented.is in
    sym (c.loop-place.invariant.verdict
    ∙ ap (λ (b : Bool). judged_from c.args.spec.now c.loop-place.judge c.loop-place.entries (left_from b c.loop-place.spec (c.loop-place.place + 1) (drop c.loop-place.place c.args.lines.now)).0) c.if-begun.false
    ∙ at_loose c.args.spec.now c.loop-place.judge c.loop-place.entries c.loop-place.spec c.loop-place.place c.args.lines.now c.get.result.now c.get.ensures is)

pub returns-in-Indented-clause-names : goal.returns-in-Indented-clause-names
returns-in-Indented-clause-names c =
    let is : sort_of c.get.result.now ≡ sorts.Indented = sym c.sort_of.ensures ∙ c.in-Indented.is in
    c.loop-place.invariant.names ∙ names_past_other c.loop-place.spec c.args.lines.now c.loop-place.place c.get.result.now sorts.Indented c.get.ensures is (λ e. cc)

pub returns-in-Some-clause-verdict : goal.returns-in-Some-clause-verdict
returns-in-Some-clause-verdict c =
    let is : sort_of c.get.result.now ≡ sorts.Head = sym c.sort_of.ensures ∙ c.in-Head.is in
    let judged = subst (λ (o : Option Cause). IsJudgedAs c.loop-place.judge (judged_entry c.loop-place.spec c.loop-place.judge (entry_at c.loop-place.spec c.loop-place.place c.args.lines.now)) o c.judge_head.new.judge) c.in-Some.is c.in_ok-found.ensures.cause in
    sym (c.loop-place.invariant.verdict ∙ at_fault c.args.spec.now c.loop-place.judge c.judge_head.new.judge c.loop-place.entries c.loop-place.begun c.loop-place.spec c.loop-place.place c.args.lines.now c.get.result.now c.in-Some.cause c.get.ensures is c.loop-place.invariant.kept judged)

pub returns-in-Some-clause-names : goal.returns-in-Some-clause-names
returns-in-Some-clause-names c =
    let is : sort_of c.get.result.now ≡ sorts.Head = sym c.sort_of.ensures ∙ c.in-Head.is in
    c.loop-place.invariant.names ∙ names_past_entry c.loop-place.spec c.args.lines.now c.loop-place.place c.get.result.now c.get.ensures is ∙ ap (λ (s : Spec). names_left s (c.loop-place.place + 1) c.args.lines.now) (sym c.in_ok-found.ensures.names)

pub returns-in-Some-clause-left : goal.returns-in-Some-clause-left
returns-in-Some-clause-left c =
    let lt : c.loop-place.place < length c.args.lines.now = omega arith in
    readable_on c.loop-place.spec c.judge_head.new.spec c.loop-place.place c.args.lines.now c.loop-place.invariant.readable lt c.in_ok-found.ensures.names

pub loop-place-preserved : goal.loop-place-preserved
loop-place-preserved c =
    let is : sort_of c.get.result.now ≡ sorts.Head = sym c.sort_of.ensures ∙ c.in-Head.is in
    let lt : c.loop-place.place < length c.args.lines.now = omega arith in
    let judged = subst (λ (o : Option Cause). IsJudgedAs c.loop-place.judge (judged_entry c.loop-place.spec c.loop-place.judge (entry_at c.loop-place.spec c.loop-place.place c.args.lines.now)) o c.judge_head.new.judge) c.in_default.is c.in_ok-found.ensures.cause in
    record {
      verdict = c.loop-place.invariant.verdict
          ∙ past_head c.args.spec.now c.loop-place.judge c.judge_head.new.judge c.loop-place.entries c.loop-place.begun c.loop-place.spec c.loop-place.place c.args.lines.now c.get.result.now c.get.ensures is c.loop-place.invariant.kept judged
          ∙ ap (λ (s : Spec). judged_from c.args.spec.now c.judge_head.new.judge (c.loop-place.entries + 1) (left_from true s (c.loop-place.place + 1 + 1) (drop (c.loop-place.place + 1) c.args.lines.now)).0) (sym c.in_ok-found.ensures.names);
      names = c.loop-place.invariant.names ∙ names_past_entry c.loop-place.spec c.args.lines.now c.loop-place.place c.get.result.now c.get.ensures is ∙ ap (λ (s : Spec). names_left s (c.loop-place.place + 1) c.args.lines.now) (sym c.in_ok-found.ensures.names);
      readable = readable_on c.loop-place.spec c.judge_head.new.spec c.loop-place.place c.args.lines.now c.loop-place.invariant.readable lt c.in_ok-found.ensures.names;
      kept = kept_both c.args.spec.now c.loop-place.spec c.judge_head.new.spec c.loop-place.invariant.kept c.in_ok-found.ensures.kept;
      models = models_kept c.loop-place.spec c.judge_head.new.spec c.in_ok-found.ensures.kept ∙ c.loop-place.invariant.models ∙ sym (models_on c.loop-place.judge c.judge_head.new.judge (judged_entry c.loop-place.spec c.loop-place.judge (entry_at c.loop-place.spec c.loop-place.place c.args.lines.now)) judged);
      counted = omega (arith, c.loop-place.invariant.counted);
    }

pub returns-clause-verdict : goal.returns-clause-verdict
returns-clause-verdict c =
    sym (c.loop-place.invariant.verdict ∙ past_all c.args.spec.now c.loop-place.judge c.loop-place.entries c.loop-place.begun c.loop-place.spec c.loop-place.place c.args.lines.now (omega arith))

pub returns-in_err-found-clause-kept : goal.returns-in_err-found-clause-kept
returns-in_err-found-clause-kept c = grind (arith, common_steps)

pub returns-in-Some-clause-kept : goal.returns-in-Some-clause-kept
returns-in-Some-clause-kept c = grind (arith, common_steps)
