use Rattle.std.proofs.Common.{◌≡◌, ◌∙◌, false, true, List, sym, ap, subst, refl}
use Rattle.hx_model.specs.declared.ModelParts.{ModelParts}
use Rattle.hx_cluster.specs.declared.planning.View.{View}
use Rattle.hx_cluster.specs.declared.planning.Candidate.{Candidate}
use Rattle.hx_cluster.specs.declared.happenings.Seen.{Seen}
use Rattle.hx_cluster.specs.Views.{is_well_formed}
use Rattle.hx_best.specs.Targets.{all_targets}
use Rattle.hx_parts.specs.Parts.{IsByPart}
use Rattle.hx_parts.specs.Marks.{is_marked}
use Rattle.hx_pass.specs.Local.{DifferWithin}
use Rattle.hx_pass.specs.Known.{Knowing, IsKnown}
use Rattle.hx_pass.proofs.Listed.{known_none, known_some}
use Rattle.hx_pass.proofs.Accepted.{accepted_by_part}
use Rattle.hx_pass.proofs.PostedAgain.{posted_by_part}
use Rattle.hx_pass.proofs.known.Known.again.Goals as goal
use Rattle.hx_pass.proofs.known.Known.again.Goals.{In_ok-lists}

-- what was known, with the models that are lent
is_known : (c : In_ok-lists) → IsKnown c.as_slice-all.result.now c.self.inside.instances c.self.inside.view c.self.inside.lists.accepted c.self.inside.lists.waiting.items c.self.inside.lists.posted.items
is_known c =
    subst (λ (m : List ModelParts). IsKnown m c.self.inside.instances c.self.inside.view c.self.inside.lists.accepted c.self.inside.lists.waiting.items c.self.inside.lists.posted.items)
    (sym c.as_slice-all.ensures) c.self.invariant

differ : (c : In_ok-lists) → DifferWithin (is_marked c.args.marks.now) c.self.inside.view c.args.view.now
differ c = subst (λ (k : Knowing). DifferWithin (is_marked c.args.marks.now) k.view c.args.view.now) (sym c.self.view_is) c.requires.differ

pub again-requires-clause-accepted : goal.again-requires-clause-accepted
again-requires-clause-accepted c =
    subst (λ (cs : List Candidate). IsByPart (λ c. c.part) cs) (sym c.self.invariant.accepted_are) (accepted_by_part c.self.inside.models c.self.inside.view (all_targets c.self.inside.models c.self.inside.view))

pub again-requires-clause-posted : goal.again-requires-clause-posted
again-requires-clause-posted c =
    subst (λ (rows : List Seen). IsByPart (λ s. s.part) rows) (sym c.self.invariant.posted_are) (posted_by_part c.self.inside.view)

pub returns-in_default : goal.returns-in_default
returns-in_default c =
    let at = (goal.at.returns-in_default c).In_ok-lists in
    let told = c.in_ok-lists.ensures c.self.inside.view c.args.view.now (is_known at) (differ at) c.in_ok-narrow.ensures in
    let bad = known_none c.as_slice-all.result.now c.self.inside.instances c.args.view.now c.in_ok-lists.field-0 told c.in_default.not-Some in
    subst (λ (k : Knowing). is_well_formed k.models k.instances c.args.view.now ≡ false) c.self.view_is
    (subst (λ (m : List ModelParts). is_well_formed m c.self.inside.instances c.args.view.now ≡ false) c.as_slice-all.ensures bad)

pub invariant_of-result : goal.invariant_of-result
invariant_of-result c =
    let at = (goal.at.invariant_of-result c).In_ok-lists in
    let told = c.in_ok-lists.ensures c.self.inside.view c.args.view.now (is_known at) (differ at) c.in_ok-narrow.ensures in
    known_some c.as_slice-all.result.now c.self.inside.instances c.args.view.now c.in_ok-lists.field-0 c.in-Some.lists told c.in-Some.is
    c.self.inside.models c.as_slice-all.ensures c.widened.result (sym c.widened.ensures)

pub returns : goal.returns
returns c =
    let at = (goal.at.returns c).In_ok-lists in
    let told = c.in_ok-lists.ensures c.self.inside.view c.args.view.now (is_known at) (differ at) c.in_ok-narrow.ensures in
    let known = known_some c.as_slice-all.result.now c.self.inside.instances c.args.view.now c.in_ok-lists.field-0 c.in-Some.lists told c.in-Some.is
    c.self.inside.models c.as_slice-all.ensures c.args.view.now refl in (
      subst (λ (k : Knowing). is_well_formed k.models k.instances c.args.view.now ≡ true) c.self.view_is known.formed,
      ap (λ (v : View). record { models = c.self.inside.models; instances = c.self.inside.instances; view = v }) c.widened.ensures
          ∙ ap (λ (k : Knowing). record { models = k.models; instances = k.instances; view = c.args.view.now }) c.self.view_is,
    )
