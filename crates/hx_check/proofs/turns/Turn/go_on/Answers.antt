use Rattle.std.proofs.Common.{List, ap, ◌∙◌}
use Rattle.hx_pass.specs.Turns as turns
use Rattle.hx_check.specs.Judging.{sent_on}
use Rattle.hx_check.proofs.Calls.{next_left}
use Rattle.hx_check.proofs.turns.Turn.go_on.Goals as goal

pub returns-then-self-len : goal.returns-then-self-len
returns-then-self-len c =
    let a = c.self.inside in
    ap {A = List turns.Call} {B = turns.Turn} (λ l. record { left = l; begun = a.begun; view = a.view }) (next_left a.calls.items a.done) ∙ ap sent_on c.self.view_is
