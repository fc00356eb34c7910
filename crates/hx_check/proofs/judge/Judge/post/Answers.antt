use Rattle.std.proofs.Common.{◌≡◌, ◌&&◌, true, List, None, set, refl, sym, ap, ◌∙◌, subst}
use Rattle.hx_cluster.specs.declared.happenings.Event.TheVariants as events
use Rattle.hx_cluster.specs.Steps.{has_controller}
use Rattle.hx_pass.specs.Turns.{Turn, Post, idle_turn, is_first, is_of_epoch, posted_of}
use Rattle.hx_script.specs.declared.log.LogEntry.TheVariants as logs
use Rattle.hx_check.specs.Standing.{Standing, turn_in}
use Rattle.hx_check.specs.Answers.{answered}
use Rattle.hx_cluster.specs.declared.happenings.Seen.{Seen}
use Rattle.hx_check.specs.Judging.{may_post, AreTurns, IsAnsweredAs}
use Rattle.hx_check.proofs.Judged.{post_made}
use Rattle.hx_check.proofs.Turning.{turn_below, turns_with, kept_next}
use Rattle.hx_check.proofs.judge.Judge.post.Goals as goal

pub invariant_of-self-2 : goal.invariant_of-self-2
invariant_of-self-2 c =
    let a = c.self.inside in
    let k = c.args.c in
    let w : Standing = record { cluster = a.replayed; turns = a.turns.items; marks = a.marks.items } in
    let kept = kept_next a.replayed c.publish.new.self (events.Post k c.args.epoch c.as_slice-2.result.now) a.hops.items a.turns.items c.in_ok-publish.ensures.ok c.self.invariant in
    (kept.0, subst (λ (ts : List Turn). AreTurns c.publish.new.self ts) (sym c.end_turn.ensures) (turns_with c.publish.new.self a.turns.items k.0 idle_turn kept.1 refl))

pub returns : goal.returns
returns c =
    let a = c.self.inside in
    let k = c.args.c in
    let w : Standing = record { cluster = a.replayed; turns = a.turns.items; marks = a.marks.items } in
    let there : has_controller a.replayed k ≡ true = subst (λ (x : Standing). has_controller x.cluster k ≡ true) (sym c.self.view_is) (sym c.has_controller.ensures ∙ c.if-not-has_controller.false) in
    let rows : List Seen = posted_of (turn_in w k).view in
    let n = c.args.count in
    let epoch = c.args.epoch in
    let v : Standing = record { cluster = c.publish.new.self; turns = c.end_turn.new.turns.items; marks = a.marks.items } in
    let shown : c.in_ok-rows.rows.items ≡ posted_of (turn_in c.args.self.now k).view = c.in_ok-rows.ensures ∙ ap posted_of (c.view.ensures ∙ ap (λ (t : Turn). t.view) c.turn_of.ensures) in
    let may_now : may_post c.args.self.now.cluster k epoch (posted_of (turn_in c.args.self.now k).view) n ≡ true =
    ap (λ (rs : List Seen). may_post c.args.self.now.cluster k epoch rs n) (sym (c.as_slice.ensures.value ∙ shown)) ∙ sym c.may_post.ensures ∙ c.if-not-may_post.false in
    let may = subst (λ (x : Standing). may_post x.cluster k epoch (posted_of (turn_in x k).view) n ≡ true) (sym c.self.view_is) may_now in
    let due_now : (is_first Post (turn_in c.args.self.now k).left && is_of_epoch (turn_in c.args.self.now k) epoch) ≡ true =
    ap (λ (t : Turn). is_first Post t.left && is_of_epoch t epoch) (sym c.turn_of-2.ensures) ∙ sym c.is_posting.ensures ∙ c.if-not-is_posting.false in
    let due = subst (λ (x : Standing). (is_first Post (turn_in x k).left && is_of_epoch (turn_in x k) epoch) ≡ true) (sym c.self.view_is) due_now in
    let shown_here : c.in_ok-rows.rows.items ≡ rows = subst (λ (x : Standing). c.in_ok-rows.rows.items ≡ posted_of (turn_in x k).view) (sym c.self.view_is) shown in
    let posts : c.publish.new.self ≡ record a.replayed { posted = rows } = c.in_ok-publish.ensures.ok ∙ ap (λ (rs : List Seen). record a.replayed { posted = rs }) (c.as_slice-2.ensures.value ∙ shown_here) in
    let stands : v ≡ record w { cluster = record a.replayed { posted = rows }; turns = set a.turns.items k.0 idle_turn } =
    (λ i. record { cluster = posts i; turns = c.end_turn.ensures i; marks = a.marks.items }) in
    subst (λ (x : Standing). IsAnsweredAs x (answered x (logs.Post k epoch n)) None v) c.self.view_is
    (post_made w v k epoch n may due (turn_below a.replayed a.turns.items k c.self.invariant.1 there) stands)
