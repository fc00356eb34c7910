-- What a board owns may go to another thread.
use denote.RattleType.{RattleType}
use denote.Param.Send.{IsSend, sendable}
use denote.Builtin.{u32}
use Rattle.std.proofs.Crossing.{crosses}
use Rattle.std.proofs.MapsCrossing.{crosses as maps}
use Rattle.std.specs.contracts.alloc.Global as heap
use Rattle.std.specs.contracts.impls.GlobalAllocator.TheImpl.{ghosts}
use Rattle.std.specs.contracts.vec.Vec as vec
use Rattle.hx_lists.specs.contracts.Seq as seq
use Rattle.hx_ids.specs.contracts.names.Names as names
use Rattle.hx_model.specs.contracts.Model as model
use Rattle.hx_cluster.specs.contracts.happenings.Event as event
use Rattle.hx_cluster.specs.contracts.description.Resource as resource
use Rattle.hx_cluster.specs.contracts.description.Spec as spec
use Rattle.hx_history.specs.contracts.entries.History as history
use Rattle.hx_counts.specs.contracts.Counts as counts
use Rattle.hx_sessions.specs.contracts.Sessions as sessions
use Rattle.hx_slots.specs.contracts.Slots as slots
use Rattle.hx_records.specs.contracts.Records as records
use Rattle.hx_board.specs.contracts.board.Board as board
use Rattle.hx_world_tests.proofs.tests.boards.calls.boards_go_to_other_threads.Goals as goal

both : {A B : Type 0} → A → B → A × B
both a b = (a, b)

seq_send : (T : RattleType) → IsSend T → IsSend (seq.the_row T)
seq_send T sent = search (sendable, crosses) depth 60 fits 100000

names_send : IsSend names.the_row
names_send = search (sendable, crosses) depth 60 fits 100000

model_send : IsSend model.the_row
model_send = search (sendable, crosses) depth 60 fits 100000

resource_send : IsSend resource.the_row
resource_send = search (sendable, crosses) depth 60 fits 100000

spec_send : IsSend spec.the_row
spec_send = search (sendable, crosses, names_send, model_send, resource_send) depth 60 fits 100000

event_send : IsSend event.the_row
event_send = search (sendable, crosses) depth 60 fits 100000

history_send : IsSend history.the_row
history_send = search (sendable, crosses, event_send) depth 60 fits 100000

counts_send : IsSend counts.the_row
counts_send = search (sendable, crosses, maps) depth 60 fits 100000

sessions_send : IsSend sessions.the_row
sessions_send = search (sendable, crosses, maps) depth 60 fits 100000

slots_send : IsSend slots.the_row
slots_send = search (sendable, crosses, maps) depth 60 fits 100000

records_send : IsSend records.the_row
records_send = search (sendable, both, seq_send, counts_send, sessions_send, slots_send) depth 60 fits 100000

lines_send : IsSend (vec.the_row u32 heap.the_row ghosts)
lines_send = search (sendable, crosses) depth 30

-- a board's parts in order, and then its numbers
board_send : IsSend board.the_row
board_send = record {
  owned = λ d vs x. (
    (λ vss. (
      tt,
      (
        spec_send.owned x.0.spec vss.0,
        (
          records_send.owned x.0.records vss.1.0,
          (
            history_send.owned x.0.history vss.1.1.0,
            (lines_send.owned x.0.lines vss.1.1.1.0, ((tt, tt), ((tt, tt), ((tt, tt), ((tt, tt), ((tt, tt), tt)))))),
          ),
        ),
      ),
    )),
    tt,
  );
  leaving = λ k d w. tt;
}

pub movable-requires-send-T : goal.movable-requires-send-T
movable-requires-send-T c κs = search (sendable, board_send)
