-- Which calls of a board are refused, and why: the first cause that fits. Room comes last of what is told here.
use Rattle.std.specs.Prelude.{ℕ, ◌+◌, ◌*◌, Bool, not, ◌==◌, List, length, Option, None, Some, option_map, nat_lt, if◌then◌else◌}
use Rattle.std.specs.Option.{option_or}
use Rattle.hx_ids.specs.declared.ControllerId.{ControllerId}
use Rattle.hx_ids.specs.declared.Epoch.{Epoch}
use Rattle.hx_ids.specs.declared.PassNo.{PassNo}
use Rattle.hx_cluster.specs.declared.happenings.Admin.{Admin}
use Rattle.hx_cluster.specs.declared.happenings.Proposal.{Proposal}
use Rattle.hx_cluster.specs.declared.happenings.Seen.{Seen}
use Rattle.hx_cluster.specs.Steps.{refusal_of, is_leader}
use Rattle.hx_cluster.specs.Reads.{pass_of}
use Rattle.hx_cluster.specs.Events.{is_epoch}
use Rattle.hx_cluster.specs.Weight.{step_weight}
use Rattle.hx_board.specs.declared.faults.HistoryFull.{HistoryFull}
use Rattle.hx_board.specs.declared.faults.RoomFault.{RoomFault}
use Rattle.hx_board.specs.declared.faults.RoomFault.TheVariants as rooms
use Rattle.hx_board.specs.declared.faults.BoardFault.{BoardFault}
use Rattle.hx_board.specs.declared.faults.BoardFault.TheVariants as steps
use Rattle.hx_board.specs.declared.faults.BeginFault.{BeginFault}
use Rattle.hx_board.specs.declared.faults.BeginFault.TheVariants as begins
use Rattle.hx_board.specs.declared.faults.ReadRefusal.{ReadRefusal}
use Rattle.hx_board.specs.declared.faults.ReadRefusal.TheVariants as reads
use Rattle.hx_board.specs.declared.faults.DispatchRefusal.{DispatchRefusal}
use Rattle.hx_board.specs.declared.faults.DispatchRefusal.TheVariants as dispatches
use Rattle.hx_board.specs.declared.faults.PostRefusal.{PostRefusal}
use Rattle.hx_board.specs.declared.faults.PostRefusal.TheVariants as posts
use Rattle.hx_board.specs.Board.{Held, weight_at, next_line_of}

-- so much more has no room, and the fault that says what the history weighs
abbrev pub full : {E : Type 0} → Held → ℕ → (ℕ → E) → Option E
full b more fault = if nat_lt b.limit (weight_at b + more) then Some (fault (weight_at b)) else None

abbrev pub charge_refusal : Held → ℕ → Option HistoryFull
charge_refusal b n = full b n (λ w. record { weight = w })

-- a step by its own refusal, then for want of room
abbrev pub step_refusal : Held → Admin → Option BoardFault
step_refusal b step = option_or (option_map steps.Step (refusal_of b.cluster step)) (full b (step_weight step) steps.HistoryFull)

-- a line that there is
abbrev pub line_fault : Held → Option ℕ → Option RoomFault
line_fault b None = None
line_fault b (Some n) = full b 1 rooms.HistoryFull

abbrev pub line_refusal : Held → Option RoomFault
line_refusal b = line_fault b (next_line_of b)

abbrev pub begin_refusal : Held → ControllerId → Option BeginFault
begin_refusal b k =
    if is_leader k b.cluster.leader then full b 1 begins.HistoryFull
    else Some (begins.NotLeader b.cluster.leader)

-- the pass that stands
abbrev pub is_old : Held → ControllerId → PassNo → Bool
is_old b k pass = not ((pass_of b.cluster k).0 == pass.0)

abbrev pub read_refusal : Held → ControllerId → PassNo → Option ReadRefusal
read_refusal b k pass =
    if is_old b k pass then Some (reads.OldPass (pass_of b.cluster k))
    else full b 1 reads.HistoryFull

abbrev pub dispatch_refusal : Held → ControllerId → Epoch → PassNo → List Proposal → Option DispatchRefusal
dispatch_refusal b k epoch pass proposals =
    if not (is_epoch b.cluster epoch) then Some (dispatches.Fenced b.cluster.epoch)
    else if is_old b k pass then Some (dispatches.OldPass (pass_of b.cluster k))
    else full b (1 + 4 * length proposals) dispatches.HistoryFull

abbrev pub post_refusal : Held → Epoch → List Seen → Option PostRefusal
post_refusal b epoch rows =
    if not (is_epoch b.cluster epoch) then Some (posts.Fenced b.cluster.epoch)
    else full b (1 + length rows) posts.HistoryFull

abbrev pub fetch_refusal : Held → Option RoomFault
fetch_refusal b = full b 1 rooms.HistoryFull
