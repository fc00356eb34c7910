use Rattle.std.proofs.Common.{◌≡◌, ◌-◌, length, map, drop}
use Rattle.serde_json.specs.View.{view}
use Rattle.hx_forms.specs.Found.{read_from, read_all}
use Rattle.hx_forms.proofs.arrays.read_all.Given as goal

-- what is left is read from here as all is read from the start, and what holds of the items is kept
abbrev pub invariant-loop-place : goal.invariant-loop-place
invariant-loop-place g l = record {
  rest : read_from l.place (g.F.ItemForm.found l.form) l.items (map view (drop l.place l.values)) ≡ read_all (g.F.ItemForm.found l.form) l.initial.items (map view l.values);
  kept : g.F.ItemForm.kept l.form (length l.values - l.place) l.items;
}
