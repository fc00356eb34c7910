-- Verdicts, worked out: a log that is lawful, and one at fault by each cause.
use Rattle.std.specs.Prelude.{◌≡◌, ℕ, List, ◌++◌, codes}
use Rattle.std.specs.Fmt.{digits}
use Rattle.std.proofs.Common.{refl}
use Rattle.hx_text.specs.Lines.{lines_of}
use Rattle.hx_print.proofs.Rows.{demo}
use Rattle.hx_check.specs.Judge.{verdict_of, verdict_text}

abbrev verdict : List ℕ → List ℕ
verdict log = verdict_text (verdict_of demo (lines_of log))

abbrev begun : List ℕ
begun = codes "join n1 s1\nlead c1 e1\nbegin c1 e1 p1\nlive c1 p1\nmail c1 p1 s1\nstates c1 p1 s1\nideals c1 p1\n"

abbrev sent : List ℕ
sent = begun ++ codes "send c1 e1 p1\n  sent m1 s1 db#0/0 OFFLINE>ONLINE\n  sent m2 s1 db#0/1 OFFLINE>ONLINE\npost c1 e1 0\n"

-- a log that is lawful, and what is added to the description by one
lawful : verdict (sent ++ codes "fetch n1 s1 2\ntake s1 m1\nwrite s1 m1 ok\nack s1 m1\nadd logs#1 MasterSlave 3 8 SEMI_AUTO\ndrop logs#1\n") ≡ codes "lawful 15\n"
unfolding digits
lawful = refl

-- one space too many
no_line : verdict (codes "line 1\njoin  n1 s1\n") ≡ codes "unlawful 2 grammar\n"
unfolding digits
no_line = refl

-- another session than the next; an answer that the cluster doesn't give; a resource under another's name
other_session : verdict (codes "line 1\njoin n1 s2\n") ≡ codes "unlawful 2 step\n"
unfolding digits
other_session = refl

other_answer : verdict (begun ++ codes "send c1 e1 p1\n  sent m2 s1 db#0/0 OFFLINE>ONLINE\n  sent m1 s1 db#0/1 OFFLINE>ONLINE\n") ≡ codes "unlawful 8 step\n"
unfolding digits
other_answer = refl

other_name : verdict (sent ++ codes "add logs#1 MasterSlave 3 8 SEMI_AUTO\ndrop db#1\n") ≡ codes "unlawful 13 step\n"
unfolding digits
other_name = refl

-- a read that isn't the next of its turn
out_of_order : verdict (codes "join n1 s1\nlead c1 e1\nbegin c1 e1 p1\nmail c1 p1 s1\n") ≡ codes "unlawful 4 order\n"
unfolding digits
out_of_order = refl

-- nothing is sent where the plan sends two
unplanned : verdict (begun ++ codes "send c1 e1 p1\npost c1 e1 0\n") ≡ codes "unlawful 8 plan\n"
unfolding digits
unplanned = refl

-- a message that no fetch showed
unfetched : verdict (sent ++ codes "take s1 m1\n") ≡ codes "unlawful 12 fetch\n"
unfolding digits
unfetched = refl
