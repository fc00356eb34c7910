use Rattle.std.proofs.Common.{rules, tests, ap, ◌∙◌, List, Option}
use Rattle.std.specs.List.{list_any}
use Rattle.std.proofs.lemmas.Iterator.{YieldsList-from_slice}
use Rattle.std.proofs.lemmas.Iterator.Search.{any_from_yields_List}
use Rattle.hx_ids.specs.declared.SessionId.{SessionId}
use Rattle.hx_records.specs.Records.{seen}
use Rattle.hx_records.specs.Places.{seat_holds}
use Rattle.hx_records.proofs.Held.{seats_hold}
use Rattle.hx_records.proofs.Records.is_held.Goals as goal

pub returns : goal.returns
returns c =
    let test = seat_holds c.args.self.now c.args.resource in
    let seats = c.as_slice-seats.result.now in
    let any = any_from_yields_List test _ _ c.any.result c.any.ensures.ran (YieldsList-from_slice seats cc) (λ x b q k. search (rules, tests)) in
    any
    ∙ ap (λ (xs : List (Option SessionId)). list_any test xs) c.as_slice-seats.ensures
    ∙ rw (← c.self.view_is) (seats_hold (seen c.self.inside) c.args.resource c.self.inside.seats c.self.invariant.seats (rw (← c.self.view_is) at c.requires.seated.instances))
