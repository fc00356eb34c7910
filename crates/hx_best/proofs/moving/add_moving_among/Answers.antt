use Rattle.std.proofs.Common.{◌≡◌, ◌∙◌, ℕ, List, ◌++◌, length, arith, ap, sym, subst, append-nil}
use Rattle.std.specs.Prelude.{option_copied}
use Rattle.std.specs.List.{flat_map}
use Rattle.hx_lists.specs.Lists.{numbers_below}
use Rattle.hx_cluster.specs.declared.description.Resource.{Resource}
use Rattle.hx_cluster.specs.declared.planning.Target.{Target}
use Rattle.hx_cluster.specs.declared.planning.View.{View}
use Rattle.hx_best.specs.Targets.{targets}
use Rattle.hx_best.specs.Still.{HasMoving, those_among}
use Rattle.hx_best.proofs.Found.{targets_read}
use Rattle.hx_best.proofs.Moves.{more_among}
use Rattle.hx_best.proofs.moving.add_moving_among.Goals as goal

pub loop-number-init : goal.loop-number-init
loop-number-init c all has = subst (λ (ts : List Target). HasMoving c.args.models.now c.args.index.now ts c.args.found.now.items) (sym (append-nil all)) has

pub loop-number-preserved : goal.loop-number-preserved
loop-number-preserved c all has =
    let models = c.args.models.now in
    let view = c.args.index.now in
    let marks = option_copied c.args.marks in
    let of : ℕ → List Target = λ n. targets models view (record { 0 = n }) in
    let n = c.loop-number.number in
    let new = c.add_moving_in.new.found.items in
    let so_far = all ++ those_among marks (flat_map of (numbers_below n)) in
    let of_one =
    targets_read models view c.view.result.now c.as_slice-resources.result.now c.in_ok-count.count n c.index-resources-number.result c.view.ensures c.as_slice-resources.ensures c.in_ok-count.ensures c.loop-number-test.true c.index-resources-number.is in
    more_among models view marks of n all new
    (subst (λ (ts : List Target). HasMoving models view (so_far ++ those_among marks ts) new) (sym of_one) (c.in_ok-add_moving_in.ensures so_far (c.loop-number.invariant all has)))

pub returns : goal.returns
returns c all has =
    let models = c.args.models.now in
    let view = c.args.index.now in
    let of : ℕ → List Target = λ n. targets models view (record { 0 = n }) in
    let end : c.loop-number.number ≡ c.in_ok-count.count = omega (arith, c.loop-number-test.false, c.loop-number.auto.number-end) in
    let whole = end ∙ c.in_ok-count.ensures ∙ ap (λ (resources : List Resource). length resources) c.as_slice-resources.ensures ∙ ap (λ (view : View). length view.ideals.resources) c.view.ensures in
    subst (λ (n : ℕ). HasMoving models view (all ++ those_among (option_copied c.args.marks) (flat_map of (numbers_below n))) c.loop-number.found.items) whole (c.loop-number.invariant all has)
