-- The input that is made of seed 7 and one partition: its description, its script, and its run.
use Rattle.std.specs.Prelude.{◌≡◌, [], ◌∷◌, None, Ok, codes}
use Rattle.std.specs.Fmt.{digits}
use Rattle.std.specs.Str.{is_utf8, chars}
use Rattle.std.proofs.Common.{refl}
use Rattle.serde_json.proofs.OnLiterals.{serde_json_on_literals}
use Rattle.hx_cluster.specs.declared.description.Spec.{Spec}
use Rattle.hx_cluster.specs.declared.description.Scope.TheVariants as scopes
use Rattle.hx_worlds.specs.Summaries.{summary_of}
use Rattle.hx_desc.specs.Description.{input_spec}
use Rattle.hx_genwork.specs.Made.{made, script}
use Rattle.hx_rows.proofs.Fixtures.{bare, by_lists, rule, fault, world_after}

abbrev the_spec : Spec
the_spec = record bare {
  instances = codes "i00" ∷ codes "i01" ∷ codes "i02" ∷ codes "i03" ∷ codes "i04" ∷ codes "i05"
      ∷ codes "i06" ∷ codes "i07" ∷ codes "i08" ∷ codes "i09" ∷ codes "i10" ∷ codes "i11" ∷ [];
  resource_names = codes "db" ∷ [];
  rules = rule scopes.Instance None 4 ∷ [];
  resources = by_lists 0 0 3 ((2 ∷ 3 ∷ 4 ∷ 5 ∷ []) ∷ []) ∷ [];
}

pub made_description : input_spec (made 7 1) ≡ Ok the_spec
unfolding digits is_utf8 chars serde_json_on_literals
made_description = refl

pub made_script : fault the_spec script ≡ None
unfolding digits
made_script = refl

-- each of twelve instances is drained once, and 23 messages are sent
pub made_run : summary_of (world_after the_spec script).history ≡ codes "= summary sent 23 ok 23 failed 0 sessions 12 ended 0\n"
unfolding digits
made_run = refl
