-- What holds of the tables that are read.
use Rattle.std.specs.Prelude.{◌≡◌, ◌≤◌, length}
use Rattle.hx_forms.specs.declared.tables.ModelTable.{ModelTable}

-- few models, as many as names, with few states
pub record AreFew (table : ModelTable) : Type 0 where
  pub states : length table.states ≤ 256
  pub names : length table.names ≤ 256
  pub models : length table.names ≡ length table.models
