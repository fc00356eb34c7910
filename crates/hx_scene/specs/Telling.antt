-- How the board is charged for what is said.
use Rattle.std.specs.Prelude.{◌≡◌, ℕ, List, Result, OnOk, OnErr}
use Rattle.hx_lists.specs.Answers.{RefusedAs}
use Rattle.hx_board.specs.Board.{charged}
use Rattle.hx_board.specs.Refusals.{full}
use Rattle.hx_board.specs.declared.faults.RoomFault.{RoomFault}
use Rattle.hx_board.specs.declared.faults.RoomFault.TheVariants as rooms
use Rattle.hx_ids.specs.declared.PartId.{PartId}
use Rattle.hx_cluster.specs.declared.description.Spec.{Spec}
use Rattle.hx_print.specs.Texts.{sent_text, waiting_text, moved_text, settled_text, settle_text, summary_text, failed_line, seen_line, route_line}
use Rattle.hx_scene.specs.declared.telling.Summary.{Summary}
use Rattle.hx_scene.specs.declared.telling.Line.{Line}
use Rattle.hx_scene.specs.declared.telling.Line.TheVariants as lines
use Rattle.hx_scene.specs.declared.telling.PartLine.{PartLine}
use Rattle.hx_scene.specs.declared.telling.PartLine.TheVariants.{Failed, Seen, Route}
use Rattle.hx_scene.specs.Scenes.{SceneState}

-- the charge is made, unless the history has no room for it
pub record IsCharged {R : Type 0} (n : ℕ) (s u : SceneState) (result : Result R RoomFault) : Type 0 where
  pub refused : RefusedAs (full s.board n rooms.HistoryFull) result
  pub ok : OnOk result (u ≡ record s { board = charged s.board n })
  pub err : OnErr result (u ≡ s)

abbrev pub text_of : Summary → List ℕ
text_of s = summary_text s.sent s.ok s.failed s.joined s.ended

-- what is said in one line
abbrev pub line_text : Line → List ℕ
line_text (lines.Sent k n) = sent_text k n
line_text (lines.Waiting k n) = waiting_text k n
line_text (lines.Moved k from to) = moved_text k from to
line_text (lines.Settled k) = settled_text k
line_text (lines.Settle k n) = settle_text k n
line_text (lines.Summary summary) = text_of summary

-- what is said in one line on a part, by its resource's name
abbrev pub part_line : Spec → List ℕ → PartId → PartLine → List ℕ
part_line spec name p (Failed i) = failed_line spec name i p
part_line spec name p (Seen holders) = seen_line spec name p holders.now
part_line spec name p (Route state instances) = route_line spec name p state instances.now
