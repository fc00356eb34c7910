use Rattle.std.proofs.Common.{List, None, ap, ◌∙◌}
use Rattle.std.specs.Prelude.{◌==◌, if◌then◌else◌}
use Rattle.hx_ids.specs.declared.SessionId.{SessionId}
use Rattle.hx_slots.specs.Index.{Ready, kept_of}
use Rattle.hx_slots.proofs.row_index.RowIndex.forget.Goals as goal

pub returns : goal.returns
returns c = λ s. c.remove.ensures.updates.0 s ∙ ap (λ (es : List (SessionId × Ready)). if c.args.session.0 == s.0 then None else kept_of es s) c.self.view_is
