use Rattle.std.proofs.Common.{◌≡◌, length}
use Rattle.hx_slots.specs.Slots.{AreSlots, rows_of, messages_of}
use Rattle.std.specs.Prelude.{None}
use Rattle.hx_slots.specs.Index.{kept_of}
use Rattle.hx_slots.specs.Mirror.{AreMirrored}
use Rattle.hx_slots.proofs.Slots.pop_row.Given as goal

abbrev pub invariant-loop-slot : goal.invariant-loop-slot
invariant-loop-slot l =
    AreSlots l.self-inside.slots l.self-inside.mail l.self-inside.changes l.self-inside.paid
    × (rows_of l.self-inside.slots ≡ l.fn.self.rows)
    × (messages_of l.self-inside.mail ≡ l.fn.self.mail)
    × AreMirrored l.self-inside.slots l.self-inside.index
    × (kept_of l.self-inside.index l.fn.session ≡ None)

abbrev pub decreases-loop-slot : goal.decreases-loop-slot
decreases-loop-slot l = length l.self-inside.slots
