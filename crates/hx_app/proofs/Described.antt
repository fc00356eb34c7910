-- A description that was read may be extended by a script.
use Rattle.std.proofs.Common.{◌≡◌, ℕ, ◌≤◌, List, length, Ok, arith}
use Rattle.hx_cluster.specs.declared.description.Spec.{Spec}
use Rattle.hx_script.specs.Parsing.{IsReadable}
use Rattle.hx_desc.specs.Description.{input_spec}
use Rattle.hx_desc.proofs.Few.{input_small}
use Rattle.hx_app.specs.Constants.{most_bytes}

pub readable : (bytes : List ℕ) (spec : Spec) (lines : List (List ℕ)) → input_spec bytes ≡ Ok spec → length lines ≤ most_bytes → IsReadable spec lines
readable bytes spec lines is few =
    let small = input_small bytes spec is in
    record { models = small.models; states = small.states; names = omega (arith, small.names, few) }
