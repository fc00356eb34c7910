use Rattle.std.proofs.Common.{◌≡◌, List, [], ◌∷◌, length, vec_len, refl, subst, arith}
use Rattle.std.proofs.lemmas.Bool.Decides.{nat_tests}
use Rattle.hx_model.specs.declared.ModelParts.{ModelParts}
use Rattle.hx_cluster.specs.declared.planning.Candidate.{Candidate}
use Rattle.hx_pass.specs.Plans.{all_candidates}
use Rattle.hx_pass.proofs.Waiting.{none_left}
use Rattle.hx_pass.specs.Known.{Knowing}
use Rattle.hx_pass.proofs.known.Known.is_still.Goals as goal
use Rattle.hx_pass.proofs.known.Known.is_still.Goals.{then-is_empty, else-is_empty}

none_there : (cs : List Candidate) → length cs ≡ 0 → cs ≡ []
none_there [] none = refl
none_there (c ∷ cs) none = absurd (omega (arith, none))

pub returns-then-is_empty-2 : goal.returns-then-is_empty-2
returns-then-is_empty-2 c = elim c.if-is_empty.branch [
  | then-is_empty w ↦ λ same.
      let a = c.self.inside in
      let zero : vec_len a.lists.waiting ≡ 0 = grind (arith, nat_tests, w.is_empty-then-is_empty.ensures, w.value-is, c.if-is_empty-2.true) in
      let none : a.lists.waiting.items ≡ [] = none_there a.lists.waiting.items (grind (arith, zero, a.lists.waiting.ok)) in
      subst (λ (k : Knowing). all_candidates c.args.spec.now.models k.view ≡ []) c.self.view_is
      (subst (λ (ms : List ModelParts). all_candidates ms a.view ≡ []) (c.same.ensures.0 same)
      (none_left (all_candidates a.models a.view) a.lists.accepted a.lists.waiting.items c.self.invariant.waiting_are (c.is_empty.ensures.0 w.if-is_empty.true) none))
  | else-is_empty w ↦ absurd (grind (arith, w.value-is, w.if-is_empty.false, c.if-is_empty-2.true))
]
