-- What contracts see of a board on which an event is recorded.
use Rattle.std.proofs.Common.{◌≡◌, [], ◌∷◌, ◌++◌, ap, ◌∙◌}
use Rattle.hx_cluster.specs.declared.state.Cluster.{Cluster}
use Rattle.hx_cluster.specs.declared.happenings.Event.{Event}
use Rattle.hx_cluster.specs.Events.{next}
use Rattle.hx_history.specs.declared.entries.History.{History}
use Rattle.hx_board.specs.declared.board.Board.TheInside.{Inside}
use Rattle.hx_board.specs.Board.{Held, held, happened}

pub told : (a : Inside) (seen : Held) (after : Cluster) (made past : History) (x e : Event) → held a ≡ seen → after ≡ next a.records e → made.entries.items ≡ a.history.entries.items
    → past.entries.items ≡ made.entries.items ++ x ∷ [] → x ≡ e → held (record a { records = after; history = past }) ≡ happened seen e
told a seen after made past x e view records kept items same =
    let history : past.entries.items ≡ a.history.entries.items ++ e ∷ [] = items ∙ (λ i. kept i ++ same i ∷ []) in
    let now : held (record a { records = after; history = past }) ≡ happened (held a) e =
    (λ i. record { cluster = records i; history = history i; charges = a.charges; spec = a.spec; lines = a.lines.items; limit = a.limit }) in
    now ∙ ap (λ (v : Held). happened v e) view
