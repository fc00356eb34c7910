use Rattle.std.proofs.Common.{◌≡◌, ℕ, length, sym, ap, ◌∙◌, subst, arith}
use Rattle.std.proofs.lemmas.Grind.{common_steps}
use Rattle.hx_cluster.specs.Reads.{live_shown}
use Rattle.hx_formed.proofs.Alike.{forgotten}
use Rattle.hx_control.specs.Turning.{IsLeft}
use Rattle.hx_control.proofs.Few.{few_live}
use Rattle.hx_control.proofs.Going.{live_done, all_left}
use Rattle.hx_control.proofs.controller.Controller.read_live.Goals as goal

pub invariant_of-self : goal.invariant_of-self
invariant_of-self c =
    let long : length c.from_vec.result ≡ c.len.result = grind (arith, common_steps) in
    let shown : length c.from_vec.result ≡ length (live_shown c.args.board.now.cluster) = ap length (c.from_vec.ensures ∙ c.in_ok-live.ensures.shown) in
    record {
      left = subst (λ (n : ℕ). IsLeft c.mail_at-self-inside.result n) (sym long) c.mail_at-self-inside.ensures.left;
      few = omega (arith, shown, few_live c.args.board.now c.history.ensures.history);
      formed = forgotten c.forget.new.self _ c.forget.ensures;
      drafted = tt;
      posts = λ is. absurd (c.mail_at-self-inside.ensures.reads is);
      wants = c.self.invariant.wants;
    }

pub returns : goal.returns
returns c =
    λ spec. live_done spec c.args.board.now c.read_live.new.self c.self.inside c.args.self.now c.self.view_is c.requires.controller c.requires.next c.in_ok-live.ensures.refused
    c.from_vec.result c.mail_at-self-inside.result (c.from_vec.ensures ∙ c.in_ok-live.ensures.shown)
    (all_left c.from_vec.result _ (c.mail_at-self-inside.ensures.calls c.from_vec.result (let long : length c.from_vec.result ≡ c.len.result = grind (arith, common_steps) in long))) c.in_ok-live.ensures.ok

pub returns-in_err-live : goal.returns-in_err-live
returns-in_err-live c = grind (arith, common_steps)
