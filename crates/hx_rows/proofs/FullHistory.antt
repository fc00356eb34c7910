-- A history that may weigh thirteen: the dispatch of the third line finds no room. A run ends there, with what was printed before; a
-- world goes on with its next line, and finds the turn as the third line left it.
use Rattle.std.specs.Prelude.{◌≡◌, List, ◌++◌, take, drop, codes}
use Rattle.std.specs.Fmt.{digits}
use Rattle.std.proofs.Common.{refl}
use Rattle.hx_script.specs.declared.Line.{Line}
use Rattle.hx_worlds.specs.World.{State, opening_world, told_by}
use Rattle.hx_worlds.specs.Items.{items_text}
use Rattle.hx_worlds.specs.Runs.{items_of, state_of, for_each}
use Rattle.hx_worlds.specs.Scripts.{do_line, do_script, run_text}
use Rattle.hx_rows.proofs.Fixtures.{demo, read}

abbrev the_lines : List Line
the_lines = (read demo (codes "join n1\nlead c1\npass c1\nread c1 live\n")).0

abbrev small : State
small = record { world = opening_world demo 13; answers = told_by demo }

pub run_ends : run_text demo (do_script the_lines small)
    ≡ codes "line 1\njoin n1 s1\n"
    ++ codes "line 2\nlead c1 e1\n"
    ++ codes "line 3\nbegin c1 e1 p1\nlive c1 p1\nmail c1 p1 s1\nstates c1 p1 s1\nideals c1 p1\n"
    ++ codes "history full 11\n"
unfolding digits
run_ends = refl

abbrev after_three : State
after_three = state_of (for_each do_line (take 3 the_lines) small)

pub world_goes_on : items_text demo after_three.world.cluster (items_of (for_each do_line (drop 3 the_lines) after_three))
    ≡ codes "line 4\n! 4 out-of-turn send\n"
unfolding digits
world_goes_on = refl
