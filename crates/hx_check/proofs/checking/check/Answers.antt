use Rattle.std.proofs.Common.{◌≡◌, ℕ, take, sym, ap, ◌∙◌, subst, arith}
use Rattle.std.proofs.lemmas.Grind.{common_steps}
use Rattle.hx_cluster.specs.declared.description.Spec.{Spec}
use Rattle.hx_cluster.specs.Valid.{IsValid}
use Rattle.hx_script.specs.Logs.{log_of}
use Rattle.hx_script.specs.Parsing.{KeepsAllButNames}
use Rattle.hx_check.proofs.LogsValid.{log_valid}
use Rattle.hx_check.proofs.Streaming.{restored, whole_verdict, kept_both}
use Rattle.hx_check.proofs.checking.check.Goals as goal

pub new-requires : goal.new-requires
new-requires c = subst IsValid (sym c.in_ok-add_names.ensures.ok) (log_valid c.args.spec.now c.args.lines.now c.requires.valid)

pub returns-in_err-stop-clause-kept : goal.returns-in_err-stop-clause-kept
returns-in_err-stop-clause-kept c =
    let full = c.add_names.new.spec in
    let back : Spec = record full { resource_names = c.truncate.new.self } in
    let same : back ≡ c.args.spec.now = restored c.args.spec.now full c.truncate.new.self c.add_names.ensures.kept (c.truncate.ensures ∙ ap (λ (n : ℕ). take n full.resource_names) c.len-known.ensures.len) in
    subst (λ (s : Spec). KeepsAllButNames s c.judge_lines.new.spec) same c.judge_lines.ensures.kept

pub returns-in_err-add_names-2-clause-kept : goal.returns-in_err-add_names-2-clause-kept
returns-in_err-add_names-2-clause-kept c =
    let full = c.add_names.new.spec in
    let back : Spec = record full { resource_names = c.truncate.new.self } in
    let same : back ≡ c.args.spec.now = restored c.args.spec.now full c.truncate.new.self c.add_names.ensures.kept (c.truncate.ensures ∙ ap (λ (n : ℕ). take n full.resource_names) c.len-known.ensures.len) in
    kept_both c.args.spec.now c.judge_lines.new.spec c.add_names-2.new.spec (subst (λ (s : Spec). KeepsAllButNames s c.judge_lines.new.spec) same c.judge_lines.ensures.kept) c.add_names-2.ensures.kept

pub returns-clause-verdict : goal.returns-clause-verdict
returns-clause-verdict c =
    let full = c.add_names.new.spec in
    let back : Spec = record full { resource_names = c.truncate.new.self } in
    let same : back ≡ c.args.spec.now = restored c.args.spec.now full c.truncate.new.self c.add_names.ensures.kept (c.truncate.ensures ∙ ap (λ (n : ℕ). take n full.resource_names) c.len-known.ensures.len) in
    whole_verdict c.args.spec.now full back c.in_ok-judge.judge c.args.lines.now c.in_ok-stop.stop.verdict c.in_ok-add_names.ensures.ok c.add_names.ensures.kept same c.in_ok-judge.ensures c.in_ok-stop.ensures.verdict

pub returns-clause-names : goal.returns-clause-names
returns-clause-names c =
    let full = c.add_names.new.spec in
    let back : Spec = record full { resource_names = c.truncate.new.self } in
    let same : back ≡ c.args.spec.now = restored c.args.spec.now full c.truncate.new.self c.add_names.ensures.kept (c.truncate.ensures ∙ ap (λ (n : ℕ). take n full.resource_names) c.len-known.ensures.len) in
    c.in_ok-add_names-2.ensures.ok ∙ sym c.in_ok-stop.ensures.names ∙ ap (λ (s : Spec). (log_of s c.args.lines.now).1) same

pub returns-clause-kept : goal.returns-clause-kept
returns-clause-kept c =
    let full = c.add_names.new.spec in
    let back : Spec = record full { resource_names = c.truncate.new.self } in
    let same : back ≡ c.args.spec.now = restored c.args.spec.now full c.truncate.new.self c.add_names.ensures.kept (c.truncate.ensures ∙ ap (λ (n : ℕ). take n full.resource_names) c.len-known.ensures.len) in
    kept_both c.args.spec.now c.judge_lines.new.spec c.add_names-2.new.spec (subst (λ (s : Spec). KeepsAllButNames s c.judge_lines.new.spec) same c.judge_lines.ensures.kept) c.add_names-2.ensures.kept

pub judge_lines-requires-clause-readable : goal.judge_lines-requires-clause-readable
judge_lines-requires-clause-readable c = grind (arith, common_steps)
