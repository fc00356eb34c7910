use Rattle.std.proofs.Common.{ap, ◌∙◌, codes, ◌^◌, ◌-◌}
use Rattle.clap.specs.Matches.{found_of}
use Rattle.clap.specs.Walk.{rows_of}
use Rattle.clap.proofs.WalkLemmas.{first_value-rows, one_text-rows}
use Rattle.hx_words.specs.Tasks.{number_in, mode_in}
use Rattle.hx_words.proofs.Chosen.{task_is}
use Rattle.hx_words.proofs.reading.task_of.Goals as goal

pub returns-clause-value : goal.returns-clause-value
returns-clause-value c =
    let f = found_of c.args.matches.now in
    task_is (rows_of f) c.mode_in.result c.number_in-lanes.result c.number_in-rounds.result c.number_in-seed.result c.number_in-size.result
    (c.mode_in.ensures ∙ ap mode_in (first_value-rows f (codes "mode")))
    (c.number_in-lanes.ensures.value ∙ ap (number_in 1 16 4) (one_text-rows f (codes "lanes")))
    (c.number_in-rounds.ensures.value ∙ ap (number_in 0 1000 10) (one_text-rows f (codes "rounds")))
    (c.number_in-seed.ensures.value ∙ ap (number_in 0 (2 ^ 64 - 1) 1) (one_text-rows f (codes "seed")))
    (c.number_in-size.ensures.value ∙ ap (number_in 1 256 64) (one_text-rows f (codes "size")))
