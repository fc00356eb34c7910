use Rattle.std.proofs.Common.{rules, ◌≡◌, ◌∙◌, ℕ, List, length, sym, ap, subst, refl}
use Rattle.hx_model.specs.declared.ModelParts.{ModelParts}
use Rattle.hx_cluster.specs.declared.planning.View.{View}
use Rattle.hx_pass.specs.Known.{IsKnown}
use Rattle.hx_pass.proofs.Listed.{known_none, known_some}
use Rattle.hx_pass.proofs.known.Known.of.Goals as goal

pub returns-in_default : goal.returns-in_default
returns-in_default c =
    known_none c.args.described.now.spec.now.models (length c.args.described.now.spec.now.instances) c.args.view.now c.in_ok-lists.field-0 c.in_ok-lists.ensures c.in_default.not-Some

pub invariant_of-result : goal.invariant_of-result
invariant_of-result c =
    let spec = c.args.described.now.spec.now in
    let models : spec.models ≡ c.in_ok-models.models = search rules in
    let count : length spec.instances ≡ c.len.result = search rules in
    subst (λ (n : ℕ). IsKnown c.in_ok-models.models n c.in_ok-kept.kept c.in-Some.lists.accepted c.in-Some.lists.waiting.items c.in-Some.lists.posted.items) count
    (known_some spec.models (length spec.instances) c.args.view.now c.in_ok-lists.field-0 c.in-Some.lists c.in_ok-lists.ensures c.in-Some.is
    c.in_ok-models.models models c.in_ok-kept.kept (sym c.in_ok-kept.ensures))

pub returns : goal.returns
returns c =
    let spec = c.args.described.now.spec.now in
    let models : c.in_ok-models.models ≡ spec.models = search rules in
    let count : c.len.result ≡ length spec.instances = search rules in
    let known = known_some spec.models (length spec.instances) c.args.view.now c.in_ok-lists.field-0 c.in-Some.lists c.in_ok-lists.ensures c.in-Some.is
    spec.models refl c.args.view.now refl in (
      known.formed,
      ap (λ (m : List ModelParts). record { models = m; instances = c.len.result; view = c.in_ok-kept.kept }) models
          ∙ ap (λ (n : ℕ). record { models = spec.models; instances = n; view = c.in_ok-kept.kept }) count
          ∙ ap (λ (v : View). record { models = spec.models; instances = length spec.instances; view = v }) c.in_ok-kept.ensures,
    )
