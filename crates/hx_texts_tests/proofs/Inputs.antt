-- What the definitions make of whole inputs, from their bytes.
use Rattle.std.specs.Prelude.{◌≡◌, false, [], ◌∷◌, Ok, Err, codes}
use Rattle.std.specs.Str.{is_utf8, chars}
use Rattle.std.proofs.Common.{refl}
use Rattle.serde_json.proofs.OnLiterals.{serde_json_on_literals}
use Rattle.hx_ideal.specs.declared.Mode.TheVariants.{Semi}
use Rattle.hx_cluster.specs.declared.description.Spec.{Spec}
use Rattle.hx_forms.specs.declared.faults.DescKind.TheVariants as kinds
use Rattle.hx_desc.specs.Demo.{demo, instances_of}
use Rattle.hx_desc.specs.Description.{input_spec}

pub without_separator : input_spec (codes "{\"version\": 1}") ≡ Err (record { kind = kinds.NoSeparator; path = codes "$" })
without_separator = refl

pub not_json : input_spec (codes "{\"version\n---\n") ≡ Err (record { kind = kinds.BadJson; path = codes "$" })
unfolding is_utf8 chars serde_json_on_literals
not_json = refl

pub demo_line : input_spec (codes "builtin demo\r\n---\n") ≡ Ok demo
demo_line = refl

-- three instances, and one partition of MasterSlave with a preference list
abbrev three_on_a_list : Spec
three_on_a_list = record demo {
  resources = (record {
    name = 0;
    model = record { 0 = 0 };
    ideal = record { replicas = 3; parts = 1; mode = Semi (instances_of (0 ∷ 1 ∷ 2 ∷ []) ∷ []) };
    dropped = false;
  }) ∷ [];
}

pub one_partition : input_spec (codes "{\"version\":1,\"controllers\":2,\"timeout\":30,\"instances\":[\"n1\",\"n2\",\"n3\"],\n \"resources\":[{\"name\":\"db\",\"model\":\"MasterSlave\",\"replicas\":3,\"partitions\":1,\n \"mode\":\"SEMI_AUTO\",\"lists\":[[\"n1\",\"n2\",\"n3\"]]}]}\n---\n") ≡ Ok three_on_a_list
unfolding is_utf8 chars serde_json_on_literals
one_partition = refl
