use Rattle.std.proofs.Common.{◌≡◌, ◌∙◌, ◌++◌, ℕ, ◌+◌, List, refl, sym, ap, subst, length, get_or, append-nil, arith}
use mir.Val.{bool_byte}
use Rattle.std.proofs.lemmas.List.{length-append}
use Rattle.hx_ids.specs.declared.InstanceId.{InstanceId}
use Rattle.hx_cluster.specs.declared.planning.Target.{Target}
use Rattle.hx_best.specs.Goals.{best_below, is_eligible}
use Rattle.hx_best.specs.Places.{Placing, model_in, order_of, rows_at}
use Rattle.hx_best.specs.Listed.{PutsEntry}
use Rattle.hx_best.proofs.Marking.{count_more, byte_small}
use Rattle.hx_best.proofs.Entries.{noted_next, all_at}
use Rattle.hx_best.proofs.Putting.{found_none, found_first, none_noted, front_kept, entry_added, all_found, of_some, of_none}
use Rattle.hx_best.proofs.marks.Shown.add_entries.Goals as goal

pub loop-place-init : goal.loop-place-init
loop-place-init c =
    let x = c.args.self.now.0 in
    let old = c.args.found.now.items in record {
      found = sym (append-nil old) ∙ ap (λ (ts : List Target). old ++ ts) (sym (found_none x c.args.self.now.1 c.args.list.now (order_of x)));
      noted = λ j r has. cc (none_noted j, has);
      rank = refl;
      few = omega arith;
    }

pub put_entry-requires-clause-first : goal.put_entry-requires-clause-first
put_entry-requires-clause-first c =
    let x = c.args.self.now.0 in
    let ts = found_first x c.args.self.now.1 c.args.list.now c.requires.plain c.requires.kept c.requires.list c.loop-place.place in
    let long = ap length c.loop-place.invariant.found ∙ length-append c.args.found.now.items ts in
    omega (arith, long)

pub returns-in-None-clause-kept : goal.returns-in-None-clause-kept
returns-in-None-clause-kept c =
    let x = c.args.self.now.0 in
    let p = c.args.self.now.1 in
    let i : InstanceId = get_or c.args.list.now c.loop-place.place (record { 0 = 0 }) in
    let now = c.loop-place.found.items in
    let new = c.put_entry.new.found.items in
    let same : new ≡ now =
    of_none c.in_ok-eligible.field-0 (new ≡ now) (λ b. (b ≡ is_eligible x.view p i) × PutsEntry x p c.len-first.result i c.below-wanted.result c.loop-place.place now new) c.in-None.is c.in_ok-eligible.ensures.put in
    front_kept c.args.found.now.items new _ (same ∙ c.loop-place.invariant.found)

pub loop-place-preserved : goal.loop-place-preserved
loop-place-preserved c =
    let x = c.args.self.now.0 in
    let p = c.args.self.now.1 in
    let k = c.loop-place.place in
    let d : InstanceId = record { 0 = 0 } in
    let below = subst (λ (x : Placing). c.below-wanted.result ≡ best_below (model_in x) x.resource.ideal.replicas (length x.view.live) c.loop-place.rank) c.places.ensures c.below-wanted.ensures in
    let small = byte_small c.in-Some.eligible in
    let i : InstanceId = get_or c.args.list.now k d in
    let now = c.loop-place.found.items in
    let new = c.put_entry.new.found.items in
    let from : c.len-first.result ≡ length c.args.found.now.items = omega arith in
    let put = of_some c.in_ok-eligible.field-0 c.in-Some.eligible (new ≡ now) (λ b. (b ≡ is_eligible x.view p i) × PutsEntry x p c.len-first.result i c.below-wanted.result k now new) c.in-Some.is c.in_ok-eligible.ensures.put in
    record {
      found = entry_added x p c.args.list.now c.requires.plain c.requires.kept c.requires.list k d c.loop-place.rank c.len-first.result c.below-wanted.result c.args.found.now.items now new c.loop-place-test.true c.loop-place.invariant.found from c.loop-place.invariant.rank below put.1;
      noted = noted_next x p (λ (i : InstanceId). i) c.args.list.now c.loop-place.met c.put_entry.new.met k d c.loop-place-test.true c.loop-place.invariant.noted c.in_ok-eligible.ensures.noted;
      rank = ap (λ (n : ℕ). n + bool_byte c.in-Some.eligible) c.loop-place.invariant.rank
          ∙ rw (put.0) (sym (count_more (is_eligible x.view p) c.args.list.now k d c.loop-place-test.true));
      few = omega (arith, small, c.loop-place.invariant.few);
    }

pub returns-clause-kept : goal.returns-clause-kept
returns-clause-kept c = front_kept c.args.found.now.items c.loop-place.found.items _ c.loop-place.invariant.found

pub returns-clause-all : goal.returns-clause-all
returns-clause-all c all =
    let x = c.args.self.now.0 in
    let p = c.args.self.now.1 in
    all_found x p c.args.list.now c.requires.plain c.requires.kept c.requires.list c.loop-place.place c.args.found.now.items c.loop-place.found.items c.loop-place-test.false c.loop-place.invariant.found
    (all_at _ (rows_at x p) (λ j r lt. c.loop-place.invariant.noted j r (c.has_all_rows.ensures all j lt)))
