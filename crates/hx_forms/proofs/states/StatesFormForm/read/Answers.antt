use Rattle.std.proofs.Common.{◌≤◌, List, [], length, map, subst, arith}
use Rattle.std.proofs.lemmas.List.{length-map}
use Rattle.serde_json.specs.View.{view}
use Rattle.hx_ids.specs.declared.StateId.{StateId}
use Rattle.hx_model.specs.declared.Bound.{Bound}
use Rattle.hx_forms.specs.Found.{read_all}
use Rattle.hx_forms.specs.Reading.{Reads}
use Rattle.hx_forms.specs.ModelForm.{state_in}
use Rattle.hx_forms.proofs.Sizes.{few_states}
use Rattle.hx_forms.proofs.states.StatesFormForm.read.Goals as goal

pub returns-clause-known : goal.returns-clause-known
returns-clause-known c =
    let values = map view c.in_ok-values.values.now in
    let few : length values ≤ 16 = omega (arith, c.in_ok-values.ensures.few, length-map c.in_ok-values.values.now view) in
    let reads : Reads c.read_all.result (read_all state_in (record { names = c.args.self.names; states = [] }) values) =
    subst (λ (states : List (StateId × Bound)). Reads c.read_all.result (read_all state_in (record { names = c.args.self.names; states = states }) values)) c.new.ensures c.read_all.ensures.read in
    few_states c.args.self.names values c.read_all.result few reads
