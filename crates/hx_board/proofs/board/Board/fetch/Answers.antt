use Rattle.std.proofs.Common.{◌≡◌, inr, refl, sym, ap, ◌∙◌, length, arith}
use Rattle.hx_cluster.specs.declared.happenings.Event.TheVariants as events
use Rattle.hx_cluster.specs.declared.happenings.Mail.{Mail}
use Rattle.hx_cluster.specs.Steps.{session_of}
use Rattle.hx_cluster.specs.Reads.{messages_for, fetched}
use Rattle.hx_board.specs.Board.{Held}
use Rattle.hx_board.specs.declared.faults.RoomFault.TheVariants as rooms
use Rattle.hx_board.proofs.Free.{full_free, full_told}
use Rattle.hx_board.proofs.Told.{told}
use Rattle.hx_board.proofs.Growing.{roomy, recorded}
use Rattle.hx_board.proofs.board.Board.fetch.Goals as goal

pub invariant_of-self : goal.invariant_of-self
invariant_of-self c = roomy c.self.inside c.make_room.new.history c.self.invariant c.in_err-make_room.ensures.items c.in_err-make_room.ensures.spare

pub invariant_of-self-in_err-mail : goal.invariant_of-self-in_err-mail
invariant_of-self-in_err-mail c = roomy c.self.inside c.make_room.new.history c.self.invariant c.in_ok-make_room.ensures.items c.in_ok-make_room.ensures.spare

pub invariant_of-self-in_default-try_from : goal.invariant_of-self-in_default-try_from
invariant_of-self-in_default-try_from c = roomy c.self.inside c.make_room.new.history c.self.invariant c.in_ok-make_room.ensures.items c.in_ok-make_room.ensures.spare

pub invariant_of-self-2 : goal.invariant_of-self-2
invariant_of-self-2 c =
    let v = c.args.self.now in
    let i = c.args.instance in
    let mail = c.in_ok-mail.mail in
    let told : mail ≡ fetched v.cluster i = c.in_ok-mail.ensures ∙ ap (λ (w : Held). fetched w.cluster i) c.self.view_is in
    let session : mail.session ≡ session_of v.cluster i = ap (λ (m : Mail). m.session) told in
    let count : c.in-Ok.count ≡ length (messages_for v.cluster mail.session) =
    grind (arith, c.in-Ok.ensures, c.len.ensures, ap (λ (m : Mail). length m.messages) told, ap (λ s. length (messages_for v.cluster s)) session) in
    let fits = full_free v 1 (λ weight. weight) (sym c.full.ensures ∙ c.in_default.is) in
    recorded c.self.inside _ _ _ _ _ _ (events.Fetch i mail.session c.in-Ok.count) c.self.invariant c.self.view_is (c.requires, session, count) refl refl refl refl fits
    c.in_ok-make_room.ensures c.record.ensures refl

pub returns-in-Some-clause-refused : goal.returns-in-Some-clause-refused
returns-in-Some-clause-refused c = inr (full_told c.args.self.now 1 rooms.HistoryFull c.in-Some.weight (sym c.full.ensures ∙ c.in-Some.is))

pub returns-clause-ok : goal.returns-clause-ok
returns-clause-ok c =
    let i = c.args.instance in
    let mail = c.in_ok-mail.mail in
    let count : c.in-Ok.count ≡ length mail.messages = grind (arith, c.in-Ok.ensures, c.len.ensures) in
    told c.self.inside _ _ c.make_room.new.history c.record.new.history _ (events.Fetch i mail.session (length mail.messages)) c.self.view_is refl c.in_ok-make_room.ensures.items c.record.ensures.items (ap (events.Fetch i mail.session) count)
