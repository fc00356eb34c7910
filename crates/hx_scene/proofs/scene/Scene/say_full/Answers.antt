use Rattle.std.proofs.Common.{◌+◌, List, length, sym, ap, ◌∙◌}
use Rattle.hx_worlds.specs.Runs.{say}
use Rattle.hx_scene.specs.Scenes.{at}
use Rattle.hx_scene.proofs.Fronts.{muted_as}
use Rattle.hx_scene.proofs.Saying.{say_full, say_muted, say_cut, say_whole, same_line}
use Rattle.hx_print.specs.Texts.{full_text, full_line}
use Rattle.hx_cluster.specs.Reads.{live_shown}
use Rattle.hx_ids.specs.declared.SessionId.{SessionId}
use Rattle.hx_ids.specs.declared.InstanceId.{InstanceId}
use Rattle.hx_scene.proofs.scene.Scene.say_full.Goals as goal

pub returns-in_err-charge : goal.returns-in_err-charge
returns-in_err-charge g c = say_full _ _ c.args.out.now c.from_residual.result c.in_err-charge.ensures (λ a. ap (λ (holders : List SessionId). say (1 + length holders) (full_text c.args.self.now.spec c.args.self.now.board.cluster.resources (live_shown c.args.self.now.board.cluster) c.args.full.now) (at c.args.self.now a)) (sym c.as_slice-holders.ensures)) c.from_residual.ensures.1

pub returns-then-self : goal.returns-then-self
returns-then-self g c = say_muted _ _ c.args.out.now c.in_ok-charge.ensures (muted_as c.self.view_is c.if-self.true) (λ a. ap (λ (holders : List SessionId). say (1 + length holders) (full_text c.args.self.now.spec c.args.self.now.board.cluster.resources (live_shown c.args.self.now.board.cluster) c.args.full.now) (at c.args.self.now a)) (sym c.as_slice-holders.ensures))

pub returns-in_err-print_full : goal.returns-in_err-print_full
returns-in_err-print_full g c =
    say_cut _ c.from_residual-in_err-print_full.result c.in_ok-charge.ensures (muted_as c.self.view_is c.if-self.false) c.in_err-print_full.ensures
    (λ a. ap (λ (holders : List SessionId). say (1 + length holders) (full_text c.args.self.now.spec c.args.self.now.board.cluster.resources (live_shown c.args.self.now.board.cluster) c.args.full.now) (at c.args.self.now a)) (sym c.as_slice-holders.ensures)
    ∙ ap (λ (shown : List (SessionId × InstanceId)). say (1 + length c.as_slice-holders.result.now) (full_text c.args.self.now.spec c.args.self.now.board.cluster.resources shown c.args.full.now) (at c.args.self.now a)) (sym c.requires)
    ∙ same_line (λ spec name. full_line spec name c.args.shown.now c.args.full.now) c.args.full.now.candidate.part.resource c.name_in.result.now c.in_ok-charge.ensures c.self.view_is c.name_in.ensures a) c.from_residual-in_err-print_full.ensures.1

pub returns : goal.returns
returns g c =
    say_whole _ c.in_ok-charge.ensures (muted_as c.self.view_is c.if-self.false) c.in_ok-print_full.ensures
    (λ a. ap (λ (holders : List SessionId). say (1 + length holders) (full_text c.args.self.now.spec c.args.self.now.board.cluster.resources (live_shown c.args.self.now.board.cluster) c.args.full.now) (at c.args.self.now a)) (sym c.as_slice-holders.ensures)
    ∙ ap (λ (shown : List (SessionId × InstanceId)). say (1 + length c.as_slice-holders.result.now) (full_text c.args.self.now.spec c.args.self.now.board.cluster.resources shown c.args.full.now) (at c.args.self.now a)) (sym c.requires)
    ∙ same_line (λ spec name. full_line spec name c.args.shown.now c.args.full.now) c.args.full.now.candidate.part.resource c.name_in.result.now c.in_ok-charge.ensures c.self.view_is c.name_in.ensures a)
