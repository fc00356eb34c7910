-- The kinds of modes, and their names.
use Rattle.std.specs.Prelude.{ℕ, List, [], Option, None, Some, if◌then◌else◌, codes, replicate}
use Rattle.std.specs.Str.{bytes_eq}
use Rattle.hx_ideal.specs.declared.Mode.{Mode}
use Rattle.hx_ideal.specs.declared.Mode.TheVariants as modes
use Rattle.hx_ideal.specs.declared.kinds.ModeKind.{ModeKind}
use Rattle.hx_ideal.specs.declared.kinds.ModeKind.TheVariants.{FullAuto, SemiAuto, Customized}

abbrev pub kind_of : Mode → ModeKind
kind_of modes.Full = FullAuto
kind_of (modes.Semi lists) = SemiAuto
kind_of (modes.Custom maps) = Customized

abbrev pub kind_name : ModeKind → List ℕ
kind_name FullAuto = codes "FULL_AUTO"
kind_name SemiAuto = codes "SEMI_AUTO"
kind_name Customized = codes "CUSTOMIZED"

-- the kind that has a name
abbrev pub kind_named : List ℕ → Option ModeKind
kind_named name =
    if bytes_eq name (codes "FULL_AUTO") then Some FullAuto
    else if bytes_eq name (codes "SEMI_AUTO") then Some SemiAuto
    else if bytes_eq name (codes "CUSTOMIZED") then Some Customized
    else None

-- the mode of a kind with an empty list or map for each of so many partitions
abbrev pub bare_of : ModeKind → ℕ → Mode
bare_of FullAuto parts = modes.Full
bare_of SemiAuto parts = modes.Semi (replicate parts [])
bare_of Customized parts = modes.Custom (replicate parts [])
