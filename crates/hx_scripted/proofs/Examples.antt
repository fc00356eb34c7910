-- A script whose history is lawful, and why its lines have to be in range, with numbers that rise.
use Rattle.std.proofs.Common.{◌≡◌, ℕ, true, List, [], ◌∷◌, length, refl, rules}
use Rattle.std.specs.Prelude.{None}
use Rattle.hx_ids.specs.Words.{instance, controller}
use Rattle.hx_cluster.specs.Valid.{IsValid}
use Rattle.hx_pass.specs.Lawful.{IsLawful}
use Rattle.hx_script.specs.declared.What.{What}
use Rattle.hx_script.specs.declared.What.TheVariants as asks
use Rattle.hx_script.specs.declared.Line.{Line}
use Rattle.hx_worlds.specs.Scripts.{are_next_lines, sim_history}
use Rattle.hx_scripted.proofs.DoingLines.{lawful_scripts}
use Rattle.hx_worlds.proofs.Examples.{spec}

valid : IsValid spec
valid = search rules

abbrev line : ℕ → What → Line
line n what = record { number = n; what = what }

-- it joins, a controller leads and passes, and it works: seventeen events
abbrev lines : List Line
lines = line 1 (asks.Join (instance 0)) ∷ line 2 (asks.Lead (controller 0)) ∷ line 4 (asks.Pass (controller 0)) ∷ line 7 (asks.Work (instance 0)) ∷ []

given : are_next_lines spec None lines ≡ true
given = refl

happened : length (sim_history spec lines) ≡ 17
happened = refl

lawful : IsLawful spec (sim_history spec lines)
lawful = lawful_scripts spec lines valid given

-- a number that falls
falling : IsLawful spec (sim_history spec (line 2 asks.Summary ∷ line 1 asks.Summary ∷ [])) → ⊥
falling l = let later = l.0.1.0 in cc

-- an instance that isn't there
elsewhere : IsLawful spec (sim_history spec (line 1 (asks.Join (instance 1)) ∷ [])) → ⊥
elsewhere l = let there = l.0.1.0.0 in cc
