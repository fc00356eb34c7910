-- Verdicts on whole logs, and a script at fault.
use Rattle.std.specs.Prelude.{◌≡◌, ◌++◌, Some, codes}
use Rattle.std.specs.Fmt.{digits}
use Rattle.std.proofs.Common.{refl}
use Rattle.hx_script.specs.declared.faults.ScriptKind.TheVariants as kinds
use Rattle.hx_rows.proofs.Fixtures.{fault, verdict, demo, one_list}

-- the whole output of the demo is the log of a lawful history, with 21 entries
pub lawful_log : verdict demo (
    codes "line 1\njoin n1 s1\nline 2\nlead c1 e1\nline 3\nbegin c1 e1 p1\nlive c1 p1\n"
    ++ codes "mail c1 p1 s1\nstates c1 p1 s1\nideals c1 p1\nsend c1 e1 p1\n"
    ++ codes "  sent m1 s1 db#0/0 OFFLINE>ONLINE\n  sent m2 s1 db#0/1 OFFLINE>ONLINE\n"
    ++ codes "? c1 sent 2\npost c1 e1 0\nline 4\nfetch n1 s1 2\ntake s1 m1\nwrite s1 m1 ok\n"
    ++ codes "ack s1 m1\ntake s1 m2\nwrite s1 m2 ok\nack s1 m2\nline 5\n= db#0/0 n1:ONLINE\n"
    ++ codes "= db#0/1 n1:ONLINE\n= db#0/0 n1:ONLINE\n= db#0/1 n1:ONLINE\n")
    ≡ codes "lawful 21\n"
unfolding digits
lawful_log = refl

-- with the reads of mail and of states exchanged, the eighth line is out of the turn's order
pub read_out_of_order : verdict demo (
    codes "line 1\njoin n1 s1\nline 2\nlead c1 e1\nline 3\nbegin c1 e1 p1\nlive c1 p1\n"
    ++ codes "states c1 p1 s1\nmail c1 p1 s1\nideals c1 p1\nsend c1 e1 p1\n"
    ++ codes "  sent m1 s1 db#0/0 OFFLINE>ONLINE\n  sent m2 s1 db#0/1 OFFLINE>ONLINE\n"
    ++ codes "? c1 sent 2\npost c1 e1 0\nline 4\nfetch n1 s1 2\ntake s1 m1\nwrite s1 m1 ok\n"
    ++ codes "ack s1 m1\ntake s1 m2\nwrite s1 m2 ok\nack s1 m2\nline 5\n= db#0/0 n1:ONLINE\n"
    ++ codes "= db#0/1 n1:ONLINE\n= db#0/0 n1:ONLINE\n= db#0/1 n1:ONLINE\n")
    ≡ codes "unlawful 8 order\n"
unfolding digits
read_out_of_order = refl

-- six good lines, and one whose first word is none
pub unknown_word : fault one_list (
    codes "join n1\njoin n2\njoin n3\nlead c1\nsettle\nview\njion n1\n")
    ≡ Some (record { line = 7; kind = kinds.UnknownWord })
unfolding digits
unknown_word = refl
