use Rattle.std.proofs.Common.{◌≡◌, arith, ℕ, true, List, ◌++◌, ◌+◌, subst, sym, append-nil}
use Rattle.std.specs.Prelude.{option_copied}
use Rattle.std.specs.List.{flat_map}
use Rattle.hx_lists.specs.Lists.{numbers_below}
use Rattle.hx_ids.specs.declared.PartId.{PartId}
use Rattle.hx_cluster.specs.declared.planning.Target.{Target}
use Rattle.hx_best.specs.Targets.{targets_at}
use Rattle.hx_best.specs.Places.{Placing}
use Rattle.hx_best.specs.Still.{HasMoving, those_among}
use Rattle.hx_best.proofs.Moves.{part_among, more_among, skipped_among}
use Rattle.hx_best.proofs.moving.add_moving_of.Goals as goal

pub loop-index-init : goal.loop-index-init
loop-index-init c =
    let x = c.args.places.now in
    let marks = option_copied c.args.marks in
    let next = c.next_among-index in record {
      within = next.ensures.within;
      among = next.ensures.found;
      moving = λ all has. skipped_among x.models x.view marks x.resource c.args.resource 0 next.result all c.args.found.now.items (omega arith) next.ensures.skipped
          (subst (λ (ts : List Target). HasMoving x.models x.view ts c.args.found.now.items) (sym (append-nil all)) has);
    }

pub loop-index-preserved : goal.loop-index-preserved
loop-index-preserved c =
    let x = c.args.places.now in
    let marks = option_copied c.args.marks in
    let at : ℕ → List Target = λ k. targets_at x.models x.view x.resource (record { resource = c.args.resource; index = k }) in
    let k = c.loop-index.index in
    let old = c.loop-index.found.items in
    let new = c.add_moving.new.found.items in
    let next = c.next_among-index-in-loop-index in
    let each : those_among marks (at k) ≡ at k = part_among x.models x.view marks x.resource (record { resource = c.args.resource; index = k }) true (c.loop-index.invariant.among c.loop-index-test.true) in
    let added = subst (λ (s : Placing × PartId). (all : List Target) → HasMoving s.0.models s.0.view all old → HasMoving s.0.models s.0.view (all ++ targets_at s.0.models s.0.view s.0.resource s.1) new)
    c.of-shown.ensures c.in_ok-add_moving.ensures in
    record {
      within = next.ensures.within;
      among = next.ensures.found;
      moving = λ all has.
          let so_far = all ++ those_among marks (flat_map at (numbers_below k)) in
          skipped_among x.models x.view marks x.resource c.args.resource (k + 1) next.result all new next.ensures.behind next.ensures.skipped
          (more_among x.models x.view marks at k all new
          (subst (λ (ts : List Target). HasMoving x.models x.view (so_far ++ ts) new) (sym each) (added so_far (c.loop-index.invariant.moving all has))));
    }
