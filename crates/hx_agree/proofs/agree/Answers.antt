use Rattle.std.proofs.Common.{◌≡◌, ℕ, length, map, sym, ap, ◌∙◌}
use Rattle.std.specs.List.{sum_by}
use Rattle.hx_lists.specs.Lists.{numbers_below}
use Rattle.hx_control.specs.Controllers.{Controller}
use Rattle.hx_replicas.specs.Jobs.{ParticipantState}
use Rattle.hx_worlds.specs.Agree.{Agree}
use Rattle.hx_worlds.specs.Summaries.{joined_in, sent_in}
use Rattle.hx_agree.specs.Tests.{board_state, stationed, are_cared_for}
use Rattle.hx_agree.proofs.Boards.{next_session_is, next_message_is}
use Rattle.hx_agree.proofs.Lists.{in_order_numbers, numbers_in_order}
use Rattle.hx_agree.proofs.Whole.{IsTested, tested_agree, agree_tested, fails}
use Rattle.hx_agree.proofs.agree.Goals as goal
use Rattle.hx_agree.proofs.agree.Goals.{After-history}
use Rattle.hx_agree.proofs.agree.Given.{Over}

-- parts that agree pass the tests
tested : (g : Over) (c : After-history g) → Agree c.args.spec.now (board_state c.args.board.now) c.args.controllers.now (map stationed c.args.participants.now)
    → IsTested c.args.spec.now c.args.board.now c.args.controllers.now c.args.participants.now (sum_by joined_in c.args.board.now.history) (sum_by sent_in c.args.board.now.history)
tested g c =
    let b = c.args.board.now in
    let told = c.history.ensures.history in
    agree_tested c.args.spec.now b told (sum_by joined_in b.history) (sum_by sent_in b.history) (next_session_is b told) (next_message_is b told) c.args.controllers.now c.args.participants.now

pub returns-then-not-of_spec : goal.returns-then-not-of_spec
returns-then-not-of_spec g c = fails c.of_spec.result c.if-not-of_spec.true (λ a. c.of_spec.ensures.1 a.staffed.spec)

pub returns-then-not-are_controllers : goal.returns-then-not-are_controllers
returns-then-not-are_controllers g c =
    fails c.are_controllers.result c.if-not-are_controllers.true
    (λ a. c.are_controllers.ensures ∙ numbers_in_order (λ (k : Controller). k.id.0) c.args.controllers.now c.args.spec.now.controllers (tested g (goal.at.returns-then-not-are_controllers g c).After-history a).controllers)

pub returns-then-not-are_participants : goal.returns-then-not-are_participants
returns-then-not-are_participants g c =
    let many : length c.args.spec.now.instances ≡ c.len-instances.result = sym c.len-instances.ensures.len in
    fails c.are_participants.result c.if-not-are_participants.true
    (λ a. c.are_participants.ensures
    ∙ numbers_in_order (λ (p : ParticipantState). p.instance.0) c.args.participants.now c.len-instances.result ((tested g (goal.at.returns-then-not-are_participants g c).After-history a).participants ∙ ap numbers_below many))

pub returns-then-not-are_idle : goal.returns-then-not-are_idle
returns-then-not-are_idle g c = fails c.are_idle.result c.if-not-are_idle.true (λ a. c.are_idle.ensures.1 a.turns)

pub returns-then-not-are_quiet : goal.returns-then-not-are_quiet
returns-then-not-are_quiet g c =
    fails c.are_quiet.result c.if-not-are_quiet.true
    (λ a. c.are_quiet.ensures ∙ (tested g (goal.at.returns-then-not-are_quiet g c).After-history a).quiet)

pub returns-then-not-have_begun : goal.returns-then-not-have_begun
returns-then-not-have_begun g c =
    let b = c.args.board.now in
    let told = c.history.ensures.history in
    fails c.have_begun.result c.if-not-have_begun.true
    (λ a. let t = agree_tested c.args.spec.now b told c.joined_on.result (sum_by sent_in b.history) c.joined_on.ensures (next_message_is b told) c.args.controllers.now c.args.participants.now a in
    c.have_begun.ensures ∙ t.begun)

pub returns-then-not-are_cared_for : goal.returns-then-not-are_cared_for
returns-then-not-are_cared_for g c =
    fails c.are_cared_for.result c.if-not-are_cared_for.true
    (λ a. c.are_cared_for.ensures ∙ ap (λ (n : ℕ). are_cared_for n c.args.board.now.cluster (map stationed c.args.participants.now)) c.len-instances.ensures.len ∙ (tested g (goal.at.returns-then-not-are_cared_for g c).After-history a).cared)

pub returns : goal.returns
returns g c =
    let b = c.args.board.now in
    let told = c.history.ensures.history in
    let ps = c.args.participants.now in
    let many : c.len-instances.result ≡ length c.args.spec.now.instances = c.len-instances.ensures.len in (
      λ e. tested_agree c.args.spec.now b told c.joined_on.result c.sent_on.result c.joined_on.ensures c.sent_on.ensures c.args.controllers.now ps (record {
        spec_is = c.of_spec.ensures.0 c.if-not-of_spec.false;
        controllers = in_order_numbers (λ (k : Controller). k.id.0) c.args.controllers.now c.args.spec.now.controllers (sym c.are_controllers.ensures ∙ c.if-not-are_controllers.false);
        participants = in_order_numbers (λ (p : ParticipantState). p.instance.0) ps c.len-instances.result (sym c.are_participants.ensures ∙ c.if-not-are_participants.false) ∙ ap numbers_below many;
        idle = c.are_idle.ensures.0 c.if-not-are_idle.false;
        quiet = sym c.are_quiet.ensures ∙ c.if-not-are_quiet.false;
        begun = sym c.have_begun.ensures ∙ c.if-not-have_begun.false;
        cared = ap (λ (m : ℕ). are_cared_for m b.cluster (map stationed ps)) (sym many) ∙ sym c.are_cared_for.ensures ∙ c.if-not-are_cared_for.false;
        settled = sym c.are_settled.ensures ∙ e;
      }),
      λ a. let t = agree_tested c.args.spec.now b told c.joined_on.result c.sent_on.result c.joined_on.ensures c.sent_on.ensures c.args.controllers.now ps a in
          c.are_settled.ensures ∙ t.settled,
    )
