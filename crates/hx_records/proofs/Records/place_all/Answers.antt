use Rattle.std.proofs.Common.{◌≡◌, ◌+◌, ◌++◌, ◌∷◌, [], List, length, length-append, refl, sym, ap, ◌∙◌, subst, arith}
use Rattle.std.proofs.Math.Seq.{take-length}
use Rattle.hx_cluster.specs.declared.state.Cluster.{Cluster}
use Rattle.hx_cluster.specs.declared.happenings.Placed.{Placed}
use Rattle.hx_calls.proofs.Placing.{IsGrown, grown_more}
use Rattle.hx_records.specs.Records.{IsPlacedFrom}
use Rattle.hx_records.proofs.Placing.{kept_placed, placed_none, placed_more, placed_each, placed_still}
use Rattle.hx_records.proofs.Records.place_all.Goals as goal

pub loop-proposal-init : goal.loop-proposal-init
loop-proposal-init c =
    let start = c.args.self.now in
    let all = c.args.proposals.now in
    let fresh = c.in_ok-placed.ensures in
    record {
      placed = subst (λ (ps : List Placed). IsPlacedFrom start all ps start) (sym fresh.items) (placed_none start all c.requires.kept c.requires.range);
      count = ap (λ (ps : List Placed). length ps) fresh.items;
      space = omega (arith, fresh.capacity);
      grown = record { same = refl; mail = take-length start.mail; longer = omega arith; next = omega arith; change = omega arith };
    }

pub place_one-requires-clause-kept : goal.place_one-requires-clause-kept
place_one-requires-clause-kept c = kept_placed c.args.self.now c.args.proposals.now c.loop-proposal.placed.items c.loop-proposal.self c.loop-proposal.invariant.placed

pub loop-proposal-preserved : goal.loop-proposal-preserved
loop-proposal-preserved c =
    let start = c.args.self.now in
    let all = c.args.proposals.now in
    let old = c.loop-proposal.invariant in
    let i = c.loop-proposal.proposal-index in
    let answer = c.in-Ok.answer in
    let items = c.loop-proposal.placed.items in
    let next = c.place_one.new.self in
    let pushed = c.push_reserved.ensures in
    record {
      placed =
          subst (λ (ps : List Placed). IsPlacedFrom start all ps next) (sym pushed.items)
          (placed_more start all items c.loop-proposal.self next _ answer _ i old.placed old.count c.loop-proposal-test.true refl c.in-Ok.ensures.ok c.in-Ok.ensures.placed);
      count = ap (λ (ps : List Placed). length ps) pushed.items ∙ omega (arith, length-append items (answer ∷ []), old.count);
      space = omega (arith, old.space, pushed.capacity);
      grown = subst (λ (x : Cluster). IsGrown (i + 1) start x) (sym c.in-Ok.ensures.ok) (grown_more i start c.loop-proposal.self _ old.grown);
    }

pub unsend_all-requires : goal.unsend_all-requires
unsend_all-requires c =
    let placed = c.loop-proposal.placed.items in
    (c.args.self.now, placed_still c.args.self.now c.args.proposals.now placed c.deref.result.now c.loop-proposal.self c.place_one.new.self c.loop-proposal.invariant.placed c.deref.ensures.value c.in-Err.ensures.err)

pub returns-in-Err-clause-err : goal.returns-in-Err-clause-err
returns-in-Err-clause-err c =
    let placed = c.loop-proposal.placed.items in
    c.unsend_all.ensures c.args.self.now
    (placed_still c.args.self.now c.args.proposals.now placed c.deref.result.now c.loop-proposal.self c.place_one.new.self c.loop-proposal.invariant.placed c.deref.ensures.value c.in-Err.ensures.err)

pub returns-clause-placed : goal.returns-clause-placed
returns-clause-placed c =
    let old = c.loop-proposal.invariant in
    c.from_vec.ensures
    ∙ (placed_each c.args.self.now c.args.proposals.now c.loop-proposal.placed.items c.loop-proposal.self c.loop-proposal.proposal-index old.placed old.count c.loop-proposal-test.false).0

pub returns-clause-after : goal.returns-clause-after
returns-clause-after c =
    let old = c.loop-proposal.invariant in
    (placed_each c.args.self.now c.args.proposals.now c.loop-proposal.placed.items c.loop-proposal.self c.loop-proposal.proposal-index old.placed old.count c.loop-proposal-test.false).1
