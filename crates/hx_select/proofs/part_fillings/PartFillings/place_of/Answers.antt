use Rattle.std.proofs.Common.{◌≡◌, ◌∙◌, List, length, Some, sym, ap, subst, arith}
use Rattle.std.specs.List.{position}
use Rattle.std.proofs.lemmas.Grind.{common_steps}
use Rattle.hx_select.specs.declared.part_fillings.Filling.{Filling}
use Rattle.hx_select.specs.PartFillings.{ArePartFillings, is_of}
use Rattle.hx_select.proofs.PartFilling.{stands_last, asked}
use Rattle.hx_select.proofs.part_fillings.PartFillings.place_of.Goals as goal

pub returns-clause-place : goal.returns-clause-place
returns-clause-place c =
    let fillings = c.args.self.now.fillings.items in
    let long : length fillings ≡ c.len-place.result = grind (arith, common_steps) in
    ap (position (is_of c.args.state)) c.in_ok-push.ensures.items
    ∙ stands_last c.args.state c.count_of-count.result fillings (sym c.known.ensures ∙ c.in_default.is) ∙ ap Some long

pub returns-clause-kept : goal.returns-clause-kept
returns-clause-kept c = λ models accepted are.
    let p = c.args.self.now.part in
    subst (λ (fs : List Filling). ArePartFillings models c.args.index.now accepted p fs) (sym c.in_ok-push.ensures.items)
    (asked models c.args.index.now accepted p c.args.self.now.fillings.items are c.args.state c.count_of-count.result c.count_of-count.ensures)
