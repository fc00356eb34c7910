use Rattle.std.proofs.Common.{◌≡◌, get_or, Some, None, true, false}
use Rattle.std.specs.List.{position}
use Rattle.hx_worlds.specs.World.{Missing}
use Rattle.hx_worlds.specs.Jobs.{is_job}
use Rattle.hx_scene.specs.Scenes.{plain_job, at}
use Rattle.hx_scene.proofs.Adopting.{IsNumber, no_job, number_is, all_numbers, adopting_first, adopting_next, never_none, next_place, next_can, rests, adopts, adopted_keeps}
use Rattle.hx_scene.proofs.Written.{place_is}
use Rattle.hx_scene.proofs.jobs.adopt.Goals as goal
use Rattle.hx_scene.proofs.jobs.adopt.Goals.{In-loop-id, In-Some}
use Rattle.hx_scene.proofs.jobs.adopt.Given.{Over}

-- the next number is that of the instance's next job
next : (g : Over) (c : In-loop-id g) → IsNumber c.args.instance c.args.jobs.now.items c.loop-id.id-index (get_or c.args.numbers.now c.loop-id.id-index (record { 0 = 0 }))
next g c = number_is c.loop-id.id-index (record { 0 = 0 }) c.requires.numbers c.loop-id-test.true

-- which stands at the place that was found
stands : (g : Over) (c : In-Some g) → position (λ j. is_job c.args.instance (get_or c.args.numbers.now c.loop-id.id-index (record { 0 = 0 })) (plain_job j)) c.loop-id.jobs.items ≡ Some c.in-Some.place
stands g c = place_is c.loop-id.jobs.items c.args.instance (get_or c.args.numbers.now c.loop-id.id-index (record { 0 = 0 })) c.deref.result.now (Some c.in-Some.place) c.place_of.result c.deref.ensures.value c.place_of.ensures c.in-Some.is

pub loop-id-init : goal.loop-id-init
loop-id-init g c = adopting_first c.args.instance c.args.jobs.now.items c.args.participants.now.items c.requires.parts

pub unreachable-requires : goal.unreachable-requires
unreachable-requires g c =
    let n = next g (goal.at.unreachable-requires g c).In-loop-id in
    let none = place_is c.loop-id.jobs.items c.args.instance (get_or c.args.numbers.now c.loop-id.id-index (record { 0 = 0 })) c.deref.result.now None c.place_of.result c.deref.ensures.value c.place_of.ensures c.in_default.is in
    let never : true ≡ false = never_none c.loop-id.invariant no_job n.within (get_or c.args.numbers.now c.loop-id.id-index (record { 0 = 0 })) n.named none in (cc)

pub end_at-requires-clause-place : goal.end_at-requires-clause-place
end_at-requires-clause-place g c κs within =
    let point = goal.at.end_at-requires-clause-place g c in
    let n = next g point.In-loop-id in
    next_place c.loop-id.invariant no_job n.within (get_or c.args.numbers.now c.loop-id.id-index (record { 0 = 0 })) n.named c.in-Some.place (stands g point.In-Some)

pub end_at-requires-clause-can : goal.end_at-requires-clause-can
end_at-requires-clause-can g c κs within =
    let point = goal.at.end_at-requires-clause-can g c in
    let n = next g point.In-loop-id in
    next_can c.loop-id.invariant no_job n.within (get_or c.args.numbers.now c.loop-id.id-index (record { 0 = 0 })) n.named c.in-Some.place (stands g point.In-Some)

pub loop-id-preserved : goal.loop-id-preserved
loop-id-preserved g c =
    let point = goal.at.loop-id-preserved g c in
    let n = next g point.In-loop-id in
    adopting_next c.loop-id.invariant no_job n.within (get_or c.args.numbers.now c.loop-id.id-index (record { 0 = 0 })) n.named c.in-Some.place (stands g point.In-Some)
    c.end_at.new.jobs.items c.end_at.new.participants.items (at c.requires.parts.scene Missing) c.end_at.ensures.jobs c.end_at.ensures.plain c.end_at.ensures.kept

pub adopt-requires-after_bounds : goal.adopt-requires-after_bounds
adopt-requires-after_bounds g c κs within =
    rests c.requires.parts c.loop-id.invariant (all_numbers c.args.instance c.args.jobs.now.items c.loop-id.id-index c.requires.numbers c.loop-id-test.false) c.requires.instance c.index_mut.result.now c.index_mut.result.now c.index_mut.ensures.value

pub returns-clause-adopts : goal.returns-clause-adopts
returns-clause-adopts g c =
    adopts c.requires.parts c.loop-id.invariant (all_numbers c.args.instance c.args.jobs.now.items c.loop-id.id-index c.requires.numbers c.loop-id-test.false) c.requires.instance c.index_mut.result.now c.adopt.new.self c.index_mut.ensures.value c.args.session
    c.adopt.ensures.plain

pub returns-clause-kept : goal.returns-clause-kept
returns-clause-kept g c =
    adopted_keeps c.requires.parts c.loop-id.invariant (all_numbers c.args.instance c.args.jobs.now.items c.loop-id.id-index c.requires.numbers c.loop-id-test.false) c.requires.instance c.index_mut.result.now c.adopt.new.self c.index_mut.ensures.value c.args.session
    c.adopt.ensures.plain c.adopt.ensures.made c.adopt.ensures.listed
