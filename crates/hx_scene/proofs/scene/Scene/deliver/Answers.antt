use Rattle.std.proofs.Common.{◌≡◌, true, arith, None, Some, ap, sym, subst, ◌∙◌}
use Rattle.hx_replicas.specs.Participants.{Participant, Fits, is_session}
use Rattle.hx_replicas.specs.Jobs.{ParticipantState}
use Rattle.hx_scene.specs.Scenes.{SceneState}
use Rattle.hx_scene.proofs.Reaching.{does_after}
use Rattle.hx_scene.proofs.Standing.{has_staff}
use Rattle.hx_scene.proofs.Delivering.{same_scene, fits_it, accepted_reaches, accepted_scene, refused_reaches, reserved_none, is_reserved, plain_reserved, is_accepted, plain_accepted, is_refused, fault_before}
use Rattle.hx_scene.proofs.scene.Scene.deliver.Goals as goal

pub index_mut-participant-requires : goal.index_mut-participant-requires
index_mut-participant-requires g c =
    let lt = has_staff _ c.self.invariant.0 c.args.instance (rw (← c.self.view_is) at c.requires.instance) in
    omega (arith, lt, c.self.inside.participants.ok.0)

pub invariant_of-self : goal.invariant_of-self
invariant_of-self g c =
    let lt = has_staff _ c.self.invariant.0 c.args.instance (rw (← c.self.view_is) at c.requires.instance) in
    (same_scene c.args.instance c.index_mut-participant.result.now c.reserve.new.self (is_reserved c.args.instance c.index_mut-participant.result.now c.reserve.new.self lt c.index_mut-participant.ensures.value c.reserve.ensures.rest) (plain_reserved c.index_mut-participant.result.now c.reserve.new.self c.reserve.ensures.rest) c.self.invariant.0, c.self.invariant.1)

pub returns-in_err-reserve-clause-does : goal.returns-in_err-reserve-clause-does
returns-in_err-reserve-clause-does g c =
    let lt = has_staff _ c.self.invariant.0 c.args.instance (rw (← c.self.view_is) at c.requires.instance) in
    rw (← c.self.view_is)
    (reserved_none _ c.args.instance c.index_mut-participant.result.now c.reserve.new.self c.args.out.now c.from_residual.result c.from_residual.ensures.1 (is_reserved c.args.instance c.index_mut-participant.result.now c.reserve.new.self lt c.index_mut-participant.ensures.value c.reserve.ensures.rest)
    (plain_reserved c.index_mut-participant.result.now c.reserve.new.self c.reserve.ensures.rest))

pub deliver-requires-clause-fits : goal.deliver-requires-clause-fits
deliver-requires-clause-fits g c κs within mine =
    let lt = has_staff _ c.self.invariant.0 c.args.instance (rw (← c.self.view_is) at c.requires.instance) in
    subst (λ (w : Participant). Fits w c.args.message.now) (sym (plain_reserved c.index_mut-participant.result.now c.reserve.new.self c.reserve.ensures.rest))
    (fits_it c.args.instance c.args.message.now c.index_mut-participant.result.now lt c.index_mut-participant.ensures.value c.self.invariant.0 (rw (← c.self.view_is) at c.requires.bagged)
    (subst (λ (w : Participant). is_session w.session c.args.message.now.session ≡ true) (plain_reserved c.index_mut-participant.result.now c.reserve.new.self c.reserve.ensures.rest) mine))

pub invariant_of-self-in-Ok : goal.invariant_of-self-in-Ok
invariant_of-self-in-Ok g c =
    let lt = has_staff _ c.self.invariant.0 c.args.instance (rw (← c.self.view_is) at c.requires.instance) in (
      accepted_scene c.args.voice c.args.instance c.args.message.now c.index_mut-participant.result.now c.deliver.new.self (is_accepted c.args.instance c.index_mut-participant.result.now c.reserve.new.self c.deliver.new.self c.args.message.now lt c.index_mut-participant.ensures.value c.reserve.ensures.rest c.in-Ok.ensures.ok)
          (plain_accepted c.index_mut-participant.result.now c.reserve.new.self c.deliver.new.self c.args.message.now c.reserve.ensures.rest c.in-Ok.ensures.ok) (fault_before c.index_mut-participant.result.now c.reserve.new.self c.args.message.now None c.reserve.ensures.rest c.in-Ok.ensures.decides)
          c.self.invariant.0 (rw (← c.self.view_is) at c.requires.bagged),
      c.self.invariant.1,
    )

pub invariant_of-self-in-Err : goal.invariant_of-self-in-Err
invariant_of-self-in-Err g c =
    let lt = has_staff _ c.self.invariant.0 c.args.instance (rw (← c.self.view_is) at c.requires.instance) in (
      same_scene c.args.instance c.index_mut-participant.result.now c.deliver.new.self (is_refused c.args.instance c.index_mut-participant.result.now c.reserve.new.self c.deliver.new.self lt c.index_mut-participant.ensures.value c.reserve.ensures.rest c.in-Err.ensures.err)
          (ap (λ (r : ParticipantState). r.plain) c.in-Err.ensures.err ∙ plain_reserved c.index_mut-participant.result.now c.reserve.new.self c.reserve.ensures.rest) c.self.invariant.0,
      c.self.invariant.1,
    )

pub returns-in-Ok-clause-does : goal.returns-in-Ok-clause-does
returns-in-Ok-clause-does g c =
    let lt = has_staff _ c.self.invariant.0 c.args.instance (rw (← c.self.view_is) at c.requires.instance) in
    rw (← c.self.view_is)
    (does_after
    (accepted_reaches c.args.voice c.args.instance c.args.message.now c.index_mut-participant.result.now c.deliver.new.self (is_accepted c.args.instance c.index_mut-participant.result.now c.reserve.new.self c.deliver.new.self c.args.message.now lt c.index_mut-participant.ensures.value c.reserve.ensures.rest c.in-Ok.ensures.ok)
    (plain_accepted c.index_mut-participant.result.now c.reserve.new.self c.deliver.new.self c.args.message.now c.reserve.ensures.rest c.in-Ok.ensures.ok) (fault_before c.index_mut-participant.result.now c.reserve.new.self c.args.message.now None c.reserve.ensures.rest c.in-Ok.ensures.decides) c.args.out.now)
    (λ r. tt) c.say_accept.new.self c.say_accept.new.out c.say_accept.result c.say_accept.ensures.does)

pub returns-in-Ok-clause-bag : goal.returns-in-Ok-clause-bag
returns-in-Ok-clause-bag g c = c.say_accept.ensures.bag ∙ ap (λ (s : SceneState). s.bag) c.self.view_is

pub returns-in-Err-clause-does : goal.returns-in-Err-clause-does
returns-in-Err-clause-does g c =
    let lt = has_staff _ c.self.invariant.0 c.args.instance (rw (← c.self.view_is) at c.requires.instance) in
    rw (← c.self.view_is)
    (does_after
    (refused_reaches c.args.voice c.args.instance c.args.message.now c.index_mut-participant.result.now c.deliver.new.self c.in-Err.fault c.args.out.now (is_refused c.args.instance c.index_mut-participant.result.now c.reserve.new.self c.deliver.new.self lt c.index_mut-participant.ensures.value c.reserve.ensures.rest c.in-Err.ensures.err)
    (ap (λ (r : ParticipantState). r.plain) c.in-Err.ensures.err ∙ plain_reserved c.index_mut-participant.result.now c.reserve.new.self c.reserve.ensures.rest) (fault_before c.index_mut-participant.result.now c.reserve.new.self c.args.message.now (Some c.in-Err.fault) c.reserve.ensures.rest c.in-Err.ensures.decides))
    (λ r. tt) c.note.new.self c.note.new.out c.note.result (rw c.note_of.ensures at c.note.ensures.does))

pub returns-in-Err-clause-bag : goal.returns-in-Err-clause-bag
returns-in-Err-clause-bag g c = c.note.ensures.bag ∙ ap (λ (s : SceneState). s.bag) c.self.view_is
