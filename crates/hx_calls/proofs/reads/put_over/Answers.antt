use Rattle.std.proofs.Common.{◌+◌, ◌<◌, List, [], ◌∷◌, ◌++◌, length, take, sym, ap, ◌∙◌, arith}
use Rattle.std.proofs.lemmas.Grind.{common_steps, elements}
use Rattle.std.proofs.lemmas.List.{take_more_set}
use Rattle.std.proofs.lemmas.Option.{slice_get_within}
use Rattle.std.proofs.Math.ListN.{length-set}
use Rattle.hx_cluster.specs.declared.description.Resource.{Resource}
use Rattle.hx_calls.proofs.Front.{take-get}
use Rattle.hx_calls.proofs.reads.put_over.Goals as goal

pub returns-in-Some-clause-front : goal.returns-in-Some-clause-front
returns-in-Some-clause-front c =
    take-get c.args.kept.now c.args.place c.in-Some.there.now (sym c.in-Some.ensures)
    ∙ ap (λ (r : Resource). take c.args.place c.args.kept.now ++ r ∷ []) (c.same.ensures.0 c.if-same.true)

pub returns-in-Some-clause-long : goal.returns-in-Some-clause-long
returns-in-Some-clause-long c = slice_get_within c.args.kept.now c.args.place c.in-Some.there.now (sym c.in-Some.ensures)

pub returns-in_ok-clone-in-Some-2-clause-front : goal.returns-in_ok-clone-in-Some-2-clause-front
returns-in_ok-clone-in-Some-2-clause-front c =
    let within : c.args.place < length c.args.kept.now = slice_get_within c.args.kept.now c.args.place c.in-Some.there.now (sym c.in-Some.ensures) in
    ap (λ (rs : List Resource). take (c.args.place + 1) rs) c.set.ensures
    ∙ take_more_set c.args.kept.now c.args.place c.in_ok-clone-in-Some-2.field-0 within
    ∙ ap (λ (r : Resource). take c.args.place c.args.kept.now ++ r ∷ []) c.in_ok-clone-in-Some-2.ensures.cases

pub returns-in_ok-clone-in-Some-2-clause-long : goal.returns-in_ok-clone-in-Some-2-clause-long
returns-in_ok-clone-in-Some-2-clause-long c =
    let within : c.args.place < length c.args.kept.now = slice_get_within c.args.kept.now c.args.place c.in-Some.there.now (sym c.in-Some.ensures) in
    omega (arith, ap length c.set.ensures, length-set {A = Resource}, within)

pub returns-in_ok-push-in-None-clause-long : goal.returns-in_ok-push-in-None-clause-long
returns-in_ok-push-in-None-clause-long c = grind (arith, common_steps)

pub set-requires : goal.set-requires
set-requires c = grind (arith, elements)

pub returns-in_ok-push-in-None-clause-front : goal.returns-in_ok-push-in-None-clause-front
returns-in_ok-push-in-None-clause-front c = grind (arith, elements)
