-- Inputs whose descriptions are at fault, from their bytes: what stands wrong first, and where.
use Rattle.std.specs.Prelude.{◌≡◌, ◌++◌, Err, codes}
use Rattle.std.specs.Fmt.{digits}
use Rattle.std.specs.Str.{is_utf8, chars}
use Rattle.std.proofs.Common.{refl}
use Rattle.serde_json.proofs.OnLiterals.{serde_json_on_literals}
use Rattle.hx_forms.specs.declared.faults.DescKind.TheVariants as kinds
use Rattle.hx_desc.specs.Description.{input_spec}

-- a text without its end
pub text_without_end : input_spec (
    codes "{\"a\":\"b\n---\n")
    ≡ Err (record { kind = kinds.BadJson; path = codes "$" })
unfolding digits is_utf8 chars serde_json_on_literals
text_without_end = refl

-- a bound of zero in the first state of the first model
pub bound_of_zero : input_spec (
    codes "{\"version\":1,\"controllers\":2,\"timeout\":30,\"instances\":[\"n1\",\"n2\","
    ++ codes "\"n3\"],\"resources\":[{\"name\":\"db\",\"model\":\"MasterSlave\",\"replicas\":3,"
    ++ codes "\"partitions\":1,\"mode\":\"SEMI_AUTO\",\"lists\":[[\"n1\",\"n2\",\"n3\"]]}],"
    ++ codes "\"models\":[{\"name\":\"Swap\",\"states\":[{\"name\":\"P\","
    ++ codes "\"bound\":\"0\"},{\"name\":\"Q\",\"bound\":\"2\"},{\"name\":\"OFFLINE\","
    ++ codes "\"bound\":\"-1\"}],\"initial\":\"OFFLINE\",\"transitions\":[\"OFFLINE>Q\",\"Q>P\","
    ++ codes "\"P>Q\",\"Q>OFFLINE\",\"OFFLINE>DROPPED\"]}]}\n---\n")
    ≡ Err (record { kind = kinds.ZeroBound; path = codes "$.models[0].states[0].bound" })
unfolding digits is_utf8 chars serde_json_on_literals
bound_of_zero = refl

-- an instance that nothing names, second in a preference list
pub unknown_in_list : input_spec (
    codes "{\"version\":1,\"controllers\":2,\"timeout\":30,\"instances\":[\"n1\",\"n2\","
    ++ codes "\"n3\"],\"resources\":[{\"name\":\"db\",\"model\":\"MasterSlave\",\"replicas\":3,"
    ++ codes "\"partitions\":1,\"mode\":\"SEMI_AUTO\",\"lists\":[[\"n1\",\"n9\",\"n3\"]]}]}\n---\n")
    ≡ Err (record { kind = kinds.UnknownInstance; path = codes "$.resources[0].lists[0][1]" })
unfolding digits is_utf8 chars serde_json_on_literals
unknown_in_list = refl
