-- The ideal state of a resource that a line adds: its lists or maps are empty.
use Rattle.std.specs.Prelude.{ℕ, Option, unwrap_or}
use Rattle.hx_ideal.specs.declared.Mode.{Mode}
use Rattle.hx_ideal.specs.declared.kinds.ModeKind.{ModeKind}
use Rattle.hx_ideal.specs.declared.kinds.ModeKind.TheVariants as kinds
use Rattle.hx_ideal.specs.IdealState.{IdealState}
use Rattle.hx_ideal.specs.ModeKinds.{bare_of}
use Rattle.hx_script.specs.Modes.{mode_numbered}

-- a number that is no mode counts as that of the last one
abbrev pub bare_mode : Option ModeKind → ℕ → Mode
bare_mode kind parts = bare_of (unwrap_or kind kinds.Customized) parts

abbrev pub bare_ideal : ℕ → ℕ → ℕ → IdealState
bare_ideal replicas parts mode = record { replicas = replicas; parts = parts; mode = bare_mode (mode_numbered mode) parts }
