use Rattle.std.proofs.Common.{◌≡◌, sym, subst, arith}
use Rattle.std.specs.Prelude.{is_some}
use Rattle.std.specs.Option.{ForSome}
use Rattle.hx_replicas.specs.declared.slots.Work.TheVariants.{Out}
use Rattle.hx_replicas.specs.Participants.{slot_of}
use Rattle.hx_replicas.specs.Jobs.{Done}
use Rattle.hx_scene.specs.Ending.{CanEnd}
use Rattle.hx_scene.proofs.Ending.{GoesBack, open_of, can_then, goes_back, back_plain, back_keeps, can_out, can_listed}
use Rattle.hx_scene.proofs.jobs.end_at.Goals as goal
use Rattle.hx_scene.proofs.jobs.end_at.Goals.{After-ran, After-finish}
use Rattle.hx_scene.proofs.jobs.end_at.Given.{Over}

-- the job that stood at the place can end
can : (g : Over) (c : After-ran g) → CanEnd c.args.participants.now.items (open_of c.ran.inside)
can g c = can_then c.args.jobs.now.items c.requires.place c.ran.view_is c.remove.ensures.value c.requires.can

-- it goes back to its participant
back : (g : Over) (c : After-finish g) → GoesBack c.args.jobs.now.items c.args.participants.now.items c.args.place (open_of c.ran.inside) c.index_mut.result.now c.finish.new.self
back g c =
    goes_back c.requires.place c.ran.view_is c.remove.ensures.value (can_then c.args.jobs.now.items c.requires.place c.ran.view_is c.remove.ensures.value c.requires.can) c.index_mut.ensures.value c.finish.ensures.plain c.done.ensures c.finish.ensures.made
    c.finish.ensures.listed

pub index_mut-requires : goal.index_mut-requires
index_mut-requires g c =
    let lt = (can g (goal.at.index_mut-requires g c).After-ran).instance in
    omega (arith, lt, c.args.participants.now.ok.0)

pub finish-requires-clause-out : goal.finish-requires-clause-out
finish-requires-clause-out g c κs within =
    subst (λ (d : Done). (slot_of c.index_mut.result.now.plain d.message.part).work ≡ Out d.message (is_some d.handler)) (sym c.done.ensures)
    (can_out c.args.participants.now.items (open_of c.ran.inside) c.index_mut.result.now c.index_mut.ensures.value (can g (goal.at.finish-requires-clause-out g c).After-ran))

pub finish-requires-clause-listed : goal.finish-requires-clause-listed
finish-requires-clause-listed g c κs within =
    subst (λ (d : Done). ForSome d.handler (λ h. h.listed ≡ c.index_mut.result.now.listed)) (sym c.done.ensures)
    (can_listed c.args.participants.now.items (open_of c.ran.inside) c.index_mut.result.now c.index_mut.ensures.value (can g (goal.at.finish-requires-clause-listed g c).After-ran))

pub returns-clause-plain : goal.returns-clause-plain
returns-clause-plain g c = back_plain (back g (goal.at.returns-clause-plain g c).After-finish)

pub returns-clause-kept : goal.returns-clause-kept
returns-clause-kept g c = back_keeps (back g (goal.at.returns-clause-kept g c).After-finish) c.remove.new.self.items c.remove.ensures.by_index.2
