use Rattle.std.specs.Prelude.{◌++◌, ◌∷◌, []}
use Rattle.hx_cluster.proofs.entries.longer.Given as goal

-- the targets before, and the one at the end
abbrev pub ghost-any : goal.ghost-any
ghost-any a = a.of.now.0.now.value ++ a.of.now.1.now ∷ []
