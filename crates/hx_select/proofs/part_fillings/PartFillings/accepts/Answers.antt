use Rattle.std.proofs.Common.{◌≡◌, ◌∙◌, ℕ, true, false, sym, ap}
use Rattle.std.specs.Prelude.{is_some, Option}
use Rattle.hx_ids.specs.declared.PartId.{PartId}
use Rattle.hx_select.specs.Fillings.{limit_in}
use Rattle.hx_select.proofs.PartFilling.{unlimited, has_any, judged}
use Rattle.hx_select.proofs.part_fillings.PartFillings.accepts.Goals as goal

pub returns-in-Some-clause-answer : goal.returns-in-Some-clause-answer
returns-in-Some-clause-answer c = λ accepted are.
    c.admits.ensures.answer c.args.models.now accepted (c.turn_to.ensures.kept c.args.models.now c.args.index.now accepted are) (sym c.limit_of.ensures ∙ c.in-Some.is)

pub returns-in-Some-clause-kept : goal.returns-in-Some-clause-kept
returns-in-Some-clause-kept c = λ accepted are.
    c.admits.ensures.kept c.args.models.now accepted (c.turn_to.ensures.kept c.args.models.now c.args.index.now accepted are) (sym c.limit_of.ensures ∙ c.in-Some.is)

pub returns-in-None-clause-kept : goal.returns-in-None-clause-kept
returns-in-None-clause-kept c = λ accepted are.
    let models = c.args.models.now in
    let view = c.args.index.now in
    let candidate = c.args.candidate.now in
    let p = c.turn_to.new.self.part in
    let free = sym c.limit_of.ensures ∙ c.in-None.is in
    let unbound : is_some (limit_in models view p candidate.to) ≡ false = ap (λ (q : PartId). is_some (limit_in models view q candidate.to)) c.turn_to.ensures.part ∙ ap (λ (o : Option ℕ). is_some o) free in
    judged models view accepted candidate p c.turn_to.new.self.fillings.items true (has_any models view accepted candidate free)
    (unlimited models view accepted p c.turn_to.new.self.fillings.items (c.turn_to.ensures.kept models view accepted are) candidate (sym c.turn_to.ensures.part) unbound)
