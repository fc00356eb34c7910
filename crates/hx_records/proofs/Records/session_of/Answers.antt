use Rattle.std.proofs.Common.{◌≡◌, Option, None, Some, option_copied, sym, ap, ◌∙◌}
use Rattle.std.specs.Prelude.{unwrap_or, slice_get}
use Rattle.std.proofs.lemmas.Option.{unwrap_or-slice_get, get_or_from_slice_get}
use Rattle.hx_ids.specs.declared.SessionId.{SessionId}
use Rattle.hx_records.proofs.Records.session_of.Goals as goal

pub returns-in_err-get : goal.returns-in_err-get
returns-in_err-get c =
    let i = c.args.instance in
    let seats = c.self.inside.seats in
    let none : slice_get seats i.0 ≡ None = sym c.get.ensures ∙ ap option_copied c.in_err-get.was in
    rw (← c.self.view_is)
    (c.from_residual.ensures ∙ sym (ap (λ (o : Option (Option SessionId)). unwrap_or o None) none) ∙ unwrap_or-slice_get seats i.0 None ∙ c.self.invariant.seats i)

pub returns : goal.returns
returns c =
    let i = c.args.instance in
    let seats = c.self.inside.seats in
    let some : slice_get seats i.0 ≡ Some c.in_ok-get.field-0.now = sym c.get.ensures ∙ ap option_copied c.in_ok-get.was in
    rw (← c.self.view_is) (sym (get_or_from_slice_get seats i.0 c.in_ok-get.field-0.now None some) ∙ c.self.invariant.seats i)
