-- What a printer of a history has printed.
use Rattle.std.specs.Prelude.{◌≡◌, List}
use Rattle.hx_cluster.specs.declared.description.Spec.{Spec}
use Rattle.hx_cluster.specs.declared.happenings.Event.{Event}
use Rattle.hx_cluster.specs.Steps.{opening}
use Rattle.hx_cluster.specs.Events.{replay}
use Rattle.hx_print.specs.declared.roll.Roll.{Roll}
use Rattle.hx_print.specs.Texts.{roll_of}

-- it is ready for the entry behind these, from a description on
abbrev pub HasPrinted : Spec → List Event → Roll → Type 0
HasPrinted spec printed printer = printer ≡ roll_of (replay (opening spec) printed)
