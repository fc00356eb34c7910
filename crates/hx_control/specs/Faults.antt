-- The faults of a controller's step that the board's refusals are.
use Rattle.hx_board.specs.declared.faults.BeginFault.{BeginFault}
use Rattle.hx_board.specs.declared.faults.BeginFault.TheVariants as begins
use Rattle.hx_board.specs.declared.faults.ReadRefusal.{ReadRefusal}
use Rattle.hx_board.specs.declared.faults.ReadRefusal.TheVariants as reads
use Rattle.hx_board.specs.declared.faults.DispatchRefusal.{DispatchRefusal}
use Rattle.hx_board.specs.declared.faults.DispatchRefusal.TheVariants as dispatches
use Rattle.hx_board.specs.declared.faults.PostRefusal.{PostRefusal}
use Rattle.hx_board.specs.declared.faults.PostRefusal.TheVariants as posts
use Rattle.hx_control.specs.declared.ControlFault.{ControlFault}
use Rattle.hx_control.specs.declared.ControlFault.TheVariants as faults

abbrev pub of_begin : BeginFault → ControlFault
of_begin (begins.NotLeader led_by) = faults.NotLeader led_by
of_begin (begins.HistoryFull weight) = faults.HistoryFull weight
of_begin begins.OutOfMemory = faults.OutOfMemory

abbrev pub of_read : ReadRefusal → ControlFault
of_read (reads.OldPass now) = faults.OldPass now
of_read (reads.HistoryFull weight) = faults.HistoryFull weight
of_read reads.OutOfMemory = faults.OutOfMemory

abbrev pub of_dispatch : DispatchRefusal → ControlFault
of_dispatch (dispatches.Fenced now) = faults.Fenced now
of_dispatch (dispatches.OldPass now) = faults.OldPass now
of_dispatch (dispatches.HistoryFull weight) = faults.HistoryFull weight
of_dispatch dispatches.OutOfMemory = faults.OutOfMemory

abbrev pub of_post : PostRefusal → ControlFault
of_post (posts.Fenced now) = faults.Fenced now
of_post (posts.HistoryFull weight) = faults.HistoryFull weight
of_post posts.OutOfMemory = faults.OutOfMemory
