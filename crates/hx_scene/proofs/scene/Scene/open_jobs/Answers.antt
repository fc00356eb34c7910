use Rattle.std.proofs.Common.{◌≡◌, List, map, subst}
use Rattle.std.specs.Prelude.{IfOk, filter}
use Rattle.hx_lists.specs.Lists.{sort_by}
use Rattle.hx_worlds.specs.Jobs.{is_job_of, job_before}
use Rattle.hx_scene.specs.Scenes.{OpenState, plain_job}
use Rattle.hx_scene.proofs.scene.Scene.open_jobs.Goals as goal

pub returns : goal.returns
returns g c =
    let jobs : c.as_slice.result.now ≡ c.self.inside.jobs.items = c.as_slice.ensures.value in
    rw (← c.self.view_is)
    (subst (λ (js : List OpenState). IfOk c.numbers_of.result (λ numbers. numbers.items ≡ map (λ j. j.message.id) (sort_by job_before (filter (is_job_of c.args.instance) (map plain_job js))))) jobs c.numbers_of.ensures)
