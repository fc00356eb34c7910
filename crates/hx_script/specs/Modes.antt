-- The numbers by which script lines and log entries tell modes.
use Rattle.std.specs.Prelude.{ℕ, ◌==◌, Option, None, Some, if◌then◌else◌}
use Rattle.hx_ideal.specs.declared.kinds.ModeKind.{ModeKind}
use Rattle.hx_ideal.specs.declared.kinds.ModeKind.TheVariants.{FullAuto, SemiAuto, Customized}

abbrev pub mode_number : ModeKind → ℕ
mode_number FullAuto = 0
mode_number SemiAuto = 1
mode_number Customized = 2

-- the mode that has a number
abbrev pub mode_numbered : ℕ → Option ModeKind
mode_numbered n = if n == 0 then Some FullAuto else if n == 1 then Some SemiAuto else if n == 2 then Some Customized else None
