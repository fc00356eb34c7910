use Rattle.std.proofs.Common.{◌+◌, Bool, sym, ◌∙◌}
use Rattle.hx_ids.specs.declared.PartId.{PartId}
use Rattle.hx_replicas.specs.Participants.{Slot}
use Rattle.hx_agree.specs.Tests.{is_settled_at, are_slots_settled}
use Rattle.hx_agree.proofs.Lists.{first_fails, first_passes}
use Rattle.hx_agree.proofs.settled.Known.are_slots_settled.Goals as goal

pub returns-then-not-is_settled_at : goal.returns-then-not-is_settled_at
returns-then-not-is_settled_at g c =
    let w = c.args.participant.now.plain in
    let test : PartId → Bool = is_settled_at (1 + c.args.self.now.sent) c.args.self.now.spec.now.models c.args.self.now.board.now.cluster w c.args.self.now.session in
    first_fails (λ (x : Slot). x.part) test w.slots c.loop-place.place c.part_at-part.result
    (are_slots_settled (1 + c.args.self.now.sent) c.args.self.now.spec.now.models c.args.self.now.board.now.cluster w c.args.self.now.session)
    c.part_at-part.ensures c.loop-place.invariant (sym c.is_settled_at.ensures ∙ c.if-not-is_settled_at.true)

pub loop-place-preserved : goal.loop-place-preserved
loop-place-preserved g c =
    let w = c.args.participant.now.plain in
    let test : PartId → Bool = is_settled_at (1 + c.args.self.now.sent) c.args.self.now.spec.now.models c.args.self.now.board.now.cluster w c.args.self.now.session in
    first_passes (λ (x : Slot). x.part) test w.slots c.loop-place.place c.part_at-part.result
    (are_slots_settled (1 + c.args.self.now.sent) c.args.self.now.spec.now.models c.args.self.now.board.now.cluster w c.args.self.now.session)
    c.part_at-part.ensures c.loop-place.invariant (sym c.is_settled_at.ensures ∙ c.if-not-is_settled_at.false)
