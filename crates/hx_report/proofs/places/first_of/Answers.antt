use Rattle.std.proofs.Common.{◌∙◌, sym, ap}
use Rattle.std.specs.Prelude.{slice_get}
use Rattle.std.specs.Option.{option_and_then}
use Rattle.hx_report.specs.Places.{is_for}
use Rattle.hx_report.proofs.Placing.{found_placed, got}
use Rattle.hx_report.proofs.places.first_of.Goals as goal

pub returns-in-Some : goal.returns-in-Some
returns-in-Some g c = λ are.
    got c.args.items.now c.in-Some.place c.get-in-Some.result c.get-in-Some.ensures.lookup.0 c.get-in-Some.ensures.lookup.1
    ∙ ap (option_and_then (slice_get c.args.items.now)) (sym c.in-Some.is ∙ c.copied.ensures ∙ c.get.ensures.value ∙ are c.args.session c.args.part)
    ∙ found_placed (λ x. is_for c.args.session c.args.part (g.T.OfCandidate.candidate_of x)) c.args.items.now

pub returns-in-None : goal.returns-in-None
returns-in-None g c = λ are.
    ap (option_and_then (slice_get c.args.items.now)) (sym c.in-None.is ∙ c.copied.ensures ∙ c.get.ensures.value ∙ are c.args.session c.args.part)
    ∙ found_placed (λ x. is_for c.args.session c.args.part (g.T.OfCandidate.candidate_of x)) c.args.items.now
