-- How the reads of a kept turn go on.
use Rattle.std.proofs.Common.{◌≡◌, true, List, [], ◌∷◌, ◌++◌, map, None, refl, sym, ap, ◌∙◌, subst, append_assoc}
use Rattle.std.specs.Prelude.{Ok}
use Rattle.hx_ids.specs.declared.SessionId.{SessionId}
use Rattle.hx_ids.specs.declared.InstanceId.{InstanceId}
use Rattle.hx_cluster.specs.declared.description.Spec.{Spec}
use Rattle.hx_cluster.specs.declared.happenings.Event.TheVariants as events
use Rattle.hx_cluster.specs.Steps.{has_controller}
use Rattle.hx_cluster.specs.Reads.{live_shown}
use Rattle.hx_pass.specs.Turns.{Call, Live, Mail, States, Ideals, Send, Post, with_live, calls_after_live}
use Rattle.hx_board.specs.Board.{Held, happened}
use Rattle.hx_board.specs.Refusals.{read_refusal}
use Rattle.hx_control.specs.declared.controller.Next.{Next}
use Rattle.hx_control.specs.declared.controller.Controller.TheInside.{Inside}
use Rattle.hx_control.specs.Controllers.{Controller}
use Rattle.hx_control.specs.Steps.{step_of}
use Rattle.hx_control.specs.Turning.{calls_after_mail, left_of, controller}
use Rattle.hx_control.specs.Made.{Tries}
use Rattle.hx_control.proofs.Making.{read_tried, live_turn, next_step}

-- the calls behind the read of live
pub all_left : (live : List (SessionId × InstanceId)) (left : List Call) → left ≡ map (λ e. Mail e.0) live ++ calls_after_mail live → left ≡ calls_after_live live
all_left live left is = is ∙ sym (append_assoc (map (λ e. Mail e.0) live) (map (λ e. States e.0) live) (Ideals ∷ Send ∷ Post ∷ []))

module _ (spec : Spec) (b d : Held) (a : Inside) where
  live_gone : has_controller b.cluster a.id ≡ true → left_of a.next a.view.live ≡ Live ∷ [] → read_refusal b a.id a.begun.pass ≡ None
      → (shown : List (SessionId × InstanceId)) (next : Next) → shown ≡ live_shown b.cluster → left_of next shown ≡ calls_after_live shown
      → d ≡ happened b (events.Live a.id a.begun.pass)
      → Tries (step_of spec b.cluster (controller a)) b d (controller a) (controller (record a { next = next; view = record a.view { live = shown }; draft = None })) (Ok None)
  live_gone there first none shown next is left done =
      read_tried spec b d (controller a) _ (events.Live a.id a.begun.pass) (with_live b.cluster (controller a).turn) there refl
      (next_step spec b.cluster (controller a) (Live ∷ []) first) (live_turn b.cluster (controller a) [] first) none done
      (λ i. record { id = a.id; turn = record { left = (left ∙ ap calls_after_live is) i; begun = a.begun; view = record a.view { live = is i } }; plan = None })

-- the same of what contracts see
module _ (spec : Spec) (b d : Held) (a : Inside) (x : Controller) (seen : controller a ≡ x) where
  pub live_done : has_controller b.cluster x.id ≡ true → x.turn.left ≡ Live ∷ [] → read_refusal b a.id a.begun.pass ≡ None
      → (shown : List (SessionId × InstanceId)) (next : Next) → shown ≡ live_shown b.cluster → left_of next shown ≡ calls_after_live shown
      → d ≡ happened b (events.Live a.id a.begun.pass)
      → Tries (step_of spec b.cluster x) b d x (controller (record a { next = next; view = record a.view { live = shown }; draft = None })) (Ok None)
  live_done there first none shown next is left done =
      subst (λ (v : Controller). has_controller b.cluster v.id ≡ true → v.turn.left ≡ Live ∷ [] → Tries (step_of spec b.cluster v) b d v (controller (record a { next = next; view = record a.view { live = shown }; draft = None })) (Ok None)) seen
      (λ there first. live_gone spec b d a there first none shown next is left done) there first
