use Rattle.std.proofs.Common.{◌≡◌, List, ap, ◌∙◌}
use Rattle.std.proofs.lemmas.Result.{IfOk-weaker}
use Rattle.hx_ids.specs.declared.InstanceId.{InstanceId}
use Rattle.hx_ids.specs.declared.SessionId.{SessionId}
use Rattle.hx_cluster.specs.declared.happenings.Seen.{Seen}
use Rattle.hx_cluster.specs.Reads.{live_shown}
use Rattle.hx_parts.specs.Parts.{HasSameAt}
use Rattle.hx_sim.specs.Viewing.{rows_seen, IsViewOf}
use Rattle.hx_sim.proofs.Standing.{board_rows}
use Rattle.hx_sim.proofs.Holding.{view_kept}
use Rattle.hx_sim.proofs.rows.rows_by_part.Goals as goal

pub returns : goal.returns
returns c =
    let b = c.args.board.now.cluster in
    let rows = c.deref-2.result.now in
    let are : rows ≡ rows_seen b (live_shown b) =
    c.deref-2.ensures.value ∙ c.in_ok-rows.ensures
    ∙ ap (λ (shown : List (SessionId × InstanceId)). rows_seen b shown) (c.deref.ensures.value ∙ c.in_ok-shown.ensures) in
    IfOk-weaker c.new.result (HasSameAt (λ (r : Seen). r.part) rows) (λ kept. IsViewOf kept b) (λ kept same. view_kept b (board_rows c.args.board.now c.history.ensures.history) rows kept are same) c.new.ensures
