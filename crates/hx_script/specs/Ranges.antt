-- Script lines in range: they name what the description has, and their numbers are those of the grammar.
use Rattle.std.specs.Prelude.{ℕ, ◌-◌, ◌^◌, Bool, true, ◌&&◌, nat_lt, is_some, length}
use Rattle.std.specs.List.{list_all}
use Rattle.hx_ids.specs.declared.InstanceId.{InstanceId}
use Rattle.hx_ids.specs.declared.StateId.{StateId}
use Rattle.hx_ids.specs.declared.ModelId.{ModelId}
use Rattle.hx_ids.specs.declared.MsgId.{MsgId}
use Rattle.hx_ids.specs.declared.ControllerId.{ControllerId}
use Rattle.hx_ideal.specs.declared.TheConstants.{MOST_PARTS, MOST_REPLICAS}
use Rattle.hx_cluster.specs.declared.description.Spec.{Spec}
use Rattle.hx_cluster.specs.Valid.{is_within}
use Rattle.hx_script.specs.declared.What.{What}
use Rattle.hx_script.specs.declared.What.TheVariants as asks
use Rattle.hx_script.specs.declared.Line.{Line}
use Rattle.hx_script.specs.Modes.{mode_numbered}

-- what the description has
abbrev pub has_instance : Spec → InstanceId → Bool
has_instance spec i = nat_lt i.0 (length spec.instances)

abbrev pub has_state : Spec → StateId → Bool
has_state spec t = nat_lt t.0 (length spec.states)

abbrev pub has_entry : Spec → InstanceId × StateId → Bool
has_entry spec e = has_instance spec e.0 && has_state spec e.1

abbrev pub has_model : Spec → ModelId → Bool
has_model spec m = nat_lt m.0 (length spec.model_names)

abbrev pub has_controller : Spec → ControllerId → Bool
has_controller spec k = nat_lt k.0 spec.controllers

abbrev pub has_resource_name : Spec → ℕ → Bool
has_resource_name spec name = nat_lt name (length spec.resource_names)

-- a partition's number of the grammar, and the name of its resource
abbrev pub is_part : Spec → ℕ → ℕ → Bool
is_part spec name part = has_resource_name spec name && is_within 0 (2 ^ 32 - 1) part

abbrev pub is_message : MsgId → Bool
is_message m = is_within 1 (2 ^ 64 - 1) m.0

-- what a line asks for is in range
abbrev pub is_in_range : Spec → What → Bool
is_in_range spec (asks.Join i) = has_instance spec i
is_in_range spec (asks.Beat i) = has_instance spec i
is_in_range spec (asks.Drain i) = has_instance spec i
is_in_range spec (asks.Undrain i) = has_instance spec i
is_in_range spec (asks.Tick n) = is_within 0 (2 ^ 64 - 1) n
is_in_range spec (asks.Expire i) = has_instance spec i
is_in_range spec (asks.Die i) = has_instance spec i
is_in_range spec (asks.Add name model replicas parts mode) =
    has_resource_name spec name && (has_model spec model && (is_within 1 MOST_REPLICAS replicas && (is_within 1 MOST_PARTS parts && is_some (mode_numbered mode))))
is_in_range spec (asks.Drop name) = has_resource_name spec name
is_in_range spec (asks.List name part list) = is_part spec name part && list_all (has_instance spec) list
is_in_range spec (asks.Map name part entries) = is_part spec name part && list_all (has_entry spec) entries
is_in_range spec (asks.Reset i name part) = has_instance spec i && is_part spec name part
is_in_range spec (asks.Lead k) = has_controller spec k
is_in_range spec (asks.Stop k) = has_controller spec k
is_in_range spec (asks.Start k) = has_controller spec k
is_in_range spec (asks.Begin k) = has_controller spec k
is_in_range spec (asks.Read k kind) = has_controller spec k
is_in_range spec (asks.Send k) = has_controller spec k
is_in_range spec (asks.Post k) = has_controller spec k
is_in_range spec (asks.Pass k) = has_controller spec k
is_in_range spec (asks.Fetch i) = has_instance spec i
is_in_range spec (asks.Deliver i m) = has_instance spec i && is_message m
is_in_range spec (asks.Take i m) = has_instance spec i && is_message m
is_in_range spec (asks.Write i m) = has_instance spec i && is_message m
is_in_range spec (asks.Ack i m) = has_instance spec i && is_message m
is_in_range spec (asks.Work i) = has_instance spec i
is_in_range spec asks.Settle = true
is_in_range spec asks.View = true
is_in_range spec (asks.Route name part state) = is_part spec name part && has_state spec state
is_in_range spec asks.Summary = true

abbrev pub is_line_in_range : Spec → Line → Bool
is_line_in_range spec line = is_in_range spec line.what
