use Rattle.std.proofs.Common.{map, subst}
use Rattle.serde_json.specs.View.{view}
use Rattle.hx_forms.specs.Found.{array_up_to, read_all}
use Rattle.hx_forms.specs.Reading.{Reads}
use Rattle.hx_forms.specs.declared.tables.ModelTable.{ModelTable}
use Rattle.hx_forms.specs.ModelForm.{built_in, model_in}
use Rattle.hx_forms.proofs.Chains.{reads_behind}
use Rattle.hx_forms.proofs.models.ModelsFormForm.read.Goals as goal

pub returns-clause-read : goal.returns-clause-read
returns-clause-read c =
    let values = map view c.in_ok-values.values.now in
    reads_behind (array_up_to 5 (view c.args.value.now)) (λ ds. read_all model_in built_in ds) values c.read_all.result c.in_ok-values.ensures.read
    (subst (λ (t : ModelTable). Reads c.read_all.result (read_all model_in t values)) c.in_ok-built_in.ensures c.read_all.ensures.read)
