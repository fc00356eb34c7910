-- Messages that come again, to another participant, or of another session; and resources that go and come.
use Rattle.std.specs.Prelude.{◌≡◌, [], ◌∷◌, ◌++◌, None, Some, codes}
use Rattle.std.specs.Fmt.{digits}
use Rattle.std.proofs.Common.{refl}
use Rattle.hx_cluster.specs.declared.description.Spec.{Spec}
use Rattle.hx_model.specs.declared.Bound.TheVariants as bounds
use Rattle.hx_cluster.specs.declared.description.Scope.TheVariants as scopes
use Rattle.hx_rows.proofs.Fixtures.{built_in, built_in_states, built_in_names, bare, own_model, by_lists, by_maps, taken_in_turn, rule, output, one_asked, one_list, pass_of_one, three_named}

-- a message is delivered while it is accepted, and after it was acknowledged
pub repeat : output one_list (
    codes "join n1\nlead c1\npass c1\nfetch n1\ndeliver n1 m1\ndeliver n1 m1\ntake n1 m1\n"
    ++ codes "write n1 m1\nack n1 m1\ndeliver n1 m1\n")
    ≡ one_asked
    ++ codes "line 4\nfetch n1 s1 1\n"
    ++ codes "line 5\n? n1 accept m1\n"
    ++ codes "line 6\n! 6 running m1\n"
    ++ codes "line 7\ntake s1 m1\n"
    ++ codes "line 8\nwrite s1 m1 ok\n"
    ++ codes "line 9\nack s1 m1\n"
    ++ codes "line 10\n! 10 repeat m1\n= db#0/0 n1:SLAVE\n"
unfolding digits
repeat = refl

-- a resource is dropped, and its name is free once no replica holds it
pub drop_add : output one_list (
    codes "join n1\nlead c1\npass c1\ndrop db\nadd db MasterSlave 3 1 SEMI_AUTO\nsettle\n"
    ++ codes "add db MasterSlave 3 1 SEMI_AUTO\n")
    ≡ one_asked
    ++ codes "line 4\ndrop db#0\n"
    ++ codes "line 5\n! 5 name-in-use 0\n"
    ++ codes "line 6\n" ++ pass_of_one (codes "p3")
    ++ codes "post c1 e1 0\nfetch n1 s1 1\ntake s1 m1\nwrite s1 m1 ok\nack s1 m1\n"
    ++ pass_of_one (codes "p5")
    ++ codes "  sent m2 s1 db#0/0 SLAVE>OFFLINE\npost c1 e1 1\nfetch n1 s1 1\ntake s1 m2\n"
    ++ codes "write s1 m2 ok\nack s1 m2\n"
    ++ pass_of_one (codes "p7")
    ++ codes "  sent m3 s1 db#0/0 OFFLINE>DROPPED\npost c1 e1 1\nfetch n1 s1 1\ntake s1 m3\n"
    ++ codes "write s1 m3 ok\nack s1 m3\n"
    ++ pass_of_one (codes "p9")
    ++ codes "post c1 e1 0\n? settle c1 4\n"
    ++ codes "line 7\nadd db#1 MasterSlave 3 1 SEMI_AUTO\n= db#1/0 -\n"
unfolding digits
drop_add = refl

-- repeated deliveries, messages of another session, a fenced dispatch, and a session that dies
abbrev repeats_and_death_spec : Spec
repeats_and_death_spec = record bare {
  instances = codes "n3" ∷ codes "n4" ∷ codes "n5" ∷ [];
  resource_names = codes "db0" ∷ codes "db1" ∷ codes "db2" ∷ [];
  model_names = built_in_names ++ codes "M0" ∷ [];
  models = built_in ++ own_model 3 ((3, bounds.Free) ∷ (4, bounds.Replicas) ∷ []) ((3, 4)
      ∷ (4, 3) ∷ (3, 1) ∷ []) ∷ [];
  controllers = 1;
  rules = rule scopes.Instance (Some (2, 3)) 1 ∷ [];
  resources = by_lists 0 1 3 ((1 ∷ 0 ∷ 2 ∷ []) ∷ [])
      ∷ by_maps 1 1 3 ([] ∷ ((0, 4) ∷ (2, 4) ∷ (1, 5) ∷ []) ∷ [] ∷ [])
      ∷ taken_in_turn 2 3 4 2 ∷ [];
}

pub repeats_and_death : output repeats_and_death_spec (
    codes "join n4\njoin n3\njoin n5\nlead c1\nbegin c1\nread c1 live\nread c1 mail\n"
    ++ codes "read c1 states\ndeliver n3 m2\ntake n3 m2\nview\nwrite n5 m2\npass c1\n"
    ++ codes "deliver n4 m1\ntake n4 m1\ndeliver n5 m1\nbegin c1\npost c1\npass c1\npass c1\n"
    ++ codes "reset n3 db2 0\ntake n3 m7\ndeliver n4 m5\ntake n4 m5\nwrite n4 m5\nack n4 m5\n"
    ++ codes "read c1 live\nsettle\nbegin c1\nwork n3\ntake n3 m7\nbegin c1\nread c1 live\n"
    ++ codes "read c1 mail\nread c1 states\nlead c1\nsend c1\ndeliver n5 m7\nbegin c1\n"
    ++ codes "read c1 live\nread c1 mail\nread c1 states\nread c1 ideals\nfetch n3\n"
    ++ codes "undrain n4\nwork n3\nstop c1\ndeliver n4 m10\ntake n4 m10\nwrite n4 m10\n"
    ++ codes "ack n4 m10\ntake n5 m11\npass c1\nmap db0 2\njoin n3\nwrite n3 m15\npass c1\n"
    ++ codes "drain n5\nsend c1\nwork n3\nwork n3\ntick 0\npass c1\ntick 5\ndie n4\n"
    ++ codes "begin c1\nread c1 live\nread c1 mail\ndeliver n5 m22\ntake n5 m22\nsend c1\n"
    ++ codes "deliver n3 m23\ntake n3 m23\nwrite n3 m23\nack n3 m23\nread c1 states\n"
    ++ codes "begin c1\nack n5 m24\njoin n4\n")
    ≡ codes "line 1\njoin n4 s1\n"
    ++ codes "line 2\njoin n3 s2\n"
    ++ codes "line 3\njoin n5 s3\n"
    ++ codes "line 4\nlead c1 e1\n"
    ++ codes "line 5\nbegin c1 e1 p1\n"
    ++ codes "line 6\nlive c1 p1\n"
    ++ codes "line 7\nmail c1 p1 s2\nmail c1 p1 s1\nmail c1 p1 s3\n"
    ++ codes "line 8\nstates c1 p1 s2\nstates c1 p1 s1\nstates c1 p1 s3\n"
    ++ codes "line 9\n! 9 no-message\n"
    ++ codes "line 10\n! 10 no-job\n"
    ++ codes "line 11\n= db0#0/0 -\n= db1#1/0 -\n= db1#1/1 -\n= db1#1/2 -\n= db2#2/0 -\n"
    ++ codes "= db2#2/1 -\n"
    ++ codes "line 12\n! 12 no-job\n"
    ++ codes "line 13\nideals c1 p1\nsend c1 e1 p1\n  sent m1 s1 db0#0/0 OFFLINE>ONLINE\n"
    ++ codes "  sent m2 s2 db0#0/0 OFFLINE>ONLINE\n  sent m3 s3 db0#0/0 OFFLINE>ONLINE\n"
    ++ codes "  sent m4 s1 db1#1/1 OFFLINE>ONLINE\n  sent m5 s2 db2#2/0 SLAVE>OFFLINE\n"
    ++ codes "  sent m6 s1 db2#2/0 SLAVE>OFFLINE\n  sent m7 s3 db2#2/0 SLAVE>OFFLINE\n"
    ++ codes "  sent m8 s2 db2#2/1 SLAVE>OFFLINE\n  sent m9 s1 db2#2/1 SLAVE>OFFLINE\n"
    ++ codes "  sent m10 s3 db2#2/1 SLAVE>OFFLINE\n? c1 sent 10\npost c1 e1 0\n"
    ++ codes "line 14\n! 14 no-message\n"
    ++ codes "line 15\n! 15 no-job\n"
    ++ codes "line 16\n! 16 no-message\n"
    ++ codes "line 17\nbegin c1 e1 p3\n"
    ++ codes "line 18\n! 18 out-of-turn live\n"
    ++ codes "line 19\nlive c1 p3\nmail c1 p3 s2\nmail c1 p3 s1\nmail c1 p3 s3\n"
    ++ codes "states c1 p3 s2\nstates c1 p3 s1\nstates c1 p3 s3\nideals c1 p3\n"
    ++ codes "send c1 e1 p3\n? c1 waiting 10\npost c1 e1 0\n"
    ++ codes "line 20\nbegin c1 e1 p5\nlive c1 p5\nmail c1 p5 s2\nmail c1 p5 s1\n"
    ++ codes "mail c1 p5 s3\nstates c1 p5 s2\nstates c1 p5 s1\nstates c1 p5 s3\n"
    ++ codes "ideals c1 p5\nsend c1 e1 p5\n? c1 waiting 10\npost c1 e1 0\n"
    ++ codes "line 21\n! 21 not-error -\n"
    ++ codes "line 22\n! 22 no-job\n"
    ++ codes "line 23\n! 23 no-message\n"
    ++ codes "line 24\n! 24 no-job\n"
    ++ codes "line 25\n! 25 no-job\n"
    ++ codes "line 26\n! 26 no-job\n"
    ++ codes "line 27\n! 27 out-of-turn begin\n"
    ++ codes "line 28\nbegin c1 e1 p7\nlive c1 p7\nmail c1 p7 s2\nmail c1 p7 s1\n"
    ++ codes "mail c1 p7 s3\nstates c1 p7 s2\nstates c1 p7 s1\nstates c1 p7 s3\n"
    ++ codes "ideals c1 p7\nsend c1 e1 p7\npost c1 e1 0\nfetch n3 s2 3\ntake s2 m2\n"
    ++ codes "write s2 m2 ok\nack s2 m2\ntake s2 m5\nwrite s2 m5 ok\nack s2 m5\ntake s2 m8\n"
    ++ codes "write s2 m8 ok\nack s2 m8\nfetch n4 s1 4\ntake s1 m1\nwrite s1 m1 ok\n"
    ++ codes "ack s1 m1\ntake s1 m4\nwrite s1 m4 ok\nack s1 m4\ntake s1 m6\nwrite s1 m6 ok\n"
    ++ codes "ack s1 m6\ntake s1 m9\nwrite s1 m9 ok\nack s1 m9\nfetch n5 s3 3\ntake s3 m3\n"
    ++ codes "write s3 m3 ok\nack s3 m3\ntake s3 m7\nwrite s3 m7 ok\nack s3 m7\ntake s3 m10\n"
    ++ codes "write s3 m10 ok\nack s3 m10\nbegin c1 e1 p9\nlive c1 p9\nmail c1 p9 s2\n"
    ++ codes "mail c1 p9 s1\nmail c1 p9 s3\nstates c1 p9 s2\nstates c1 p9 s1\n"
    ++ codes "states c1 p9 s3\nideals c1 p9\nsend c1 e1 p9\npost c1 e1 10\n? settle c1 2\n"
    ++ codes "line 29\nbegin c1 e1 p11\n"
    ++ codes "line 30\nfetch n3 s2 0\n"
    ++ codes "line 31\n! 31 no-job\n"
    ++ codes "line 32\nbegin c1 e1 p12\n"
    ++ codes "line 33\nlive c1 p12\n"
    ++ codes "line 34\nmail c1 p12 s2\nmail c1 p12 s1\nmail c1 p12 s3\n"
    ++ codes "line 35\nstates c1 p12 s2\nstates c1 p12 s1\nstates c1 p12 s3\n"
    ++ codes "line 36\n! 36 led-by c1 e1\n"
    ++ codes "line 37\n! 37 out-of-turn ideals\n"
    ++ codes "line 38\n! 38 repeat m7\n"
    ++ codes "line 39\nbegin c1 e1 p13\n"
    ++ codes "line 40\nlive c1 p13\n"
    ++ codes "line 41\nmail c1 p13 s2\nmail c1 p13 s1\nmail c1 p13 s3\n"
    ++ codes "line 42\nstates c1 p13 s2\nstates c1 p13 s1\nstates c1 p13 s3\n"
    ++ codes "line 43\nideals c1 p13\n"
    ++ codes "line 44\nfetch n3 s2 0\n"
    ++ codes "line 45\n! 45 already-so\n"
    ++ codes "line 46\nfetch n3 s2 0\n"
    ++ codes "line 47\nstop c1\n"
    ++ codes "line 48\n! 48 other-session s1\n"
    ++ codes "line 49\n! 49 no-job\n"
    ++ codes "line 50\n! 50 no-job\n"
    ++ codes "line 51\n! 51 no-job\n"
    ++ codes "line 52\n! 52 no-job\n"
    ++ codes "line 53\n! 53 fenced 2\n"
    ++ codes "line 54\n! 54 wrong-mode\n"
    ++ codes "line 55\n! 55 already-live s2\n"
    ++ codes "line 56\n! 56 no-job\n"
    ++ codes "line 57\n! 57 not-leader -\n"
    ++ codes "line 58\ndrain n5\n"
    ++ codes "line 59\n! 59 out-of-turn begin\n"
    ++ codes "line 60\nfetch n3 s2 0\n"
    ++ codes "line 61\nfetch n3 s2 0\n"
    ++ codes "line 62\ntick 0\n"
    ++ codes "line 63\n! 63 not-leader -\n"
    ++ codes "line 64\ntick 5\n"
    ++ codes "line 65\nend n4 s1\n"
    ++ codes "line 66\n! 66 not-leader -\n"
    ++ codes "line 67\n! 67 out-of-turn begin\n"
    ++ codes "line 68\n! 68 out-of-turn begin\n"
    ++ codes "line 69\n! 69 no-message\n"
    ++ codes "line 70\n! 70 no-job\n"
    ++ codes "line 71\n! 71 out-of-turn begin\n"
    ++ codes "line 72\n! 72 no-message\n"
    ++ codes "line 73\n! 73 no-job\n"
    ++ codes "line 74\n! 74 no-job\n"
    ++ codes "line 75\n! 75 no-job\n"
    ++ codes "line 76\n! 76 out-of-turn begin\n"
    ++ codes "line 77\n! 77 not-leader -\n"
    ++ codes "line 78\n! 78 no-job\n"
    ++ codes "line 79\njoin n4 s4\n= db0#0/0 n3:ONLINE n5:ONLINE\n= db1#1/0 -\n= db1#1/1 -\n"
    ++ codes "= db1#1/2 -\n= db2#2/0 n3:OFFLINE n5:OFFLINE\n= db2#2/1 n3:OFFLINE n5:OFFLINE\n"
unfolding digits
repeats_and_death = refl

-- throttles, an expired session, and a message that comes to an instance without a session
abbrev wrong_session_spec : Spec
wrong_session_spec = record three_named {
  instances = codes "n0" ∷ codes "n1" ∷ codes "n2" ∷ codes "n3" ∷ codes "n7" ∷ [];
  states = built_in_states ++ codes "Z" ∷ codes "X" ∷ [];
  models = built_in ++ own_model 8 ((8, bounds.Free) ∷ (9, bounds.Count 1) ∷ (4, bounds.Live)
      ∷ (3, bounds.Count 1) ∷ []) ((8, 4) ∷ (3, 9) ∷ (8, 9) ∷ (4, 8) ∷ (8, 3) ∷ (9, 4) ∷ (8, 1)
      ∷ (4, 9) ∷ (9, 8) ∷ (4, 3) ∷ (9, 3) ∷ (3, 4) ∷ [])
      ∷ own_model 2 ((9, bounds.Free) ∷ (4, bounds.Count 1) ∷ (3, bounds.Free) ∷ (2, bounds.Free)
      ∷ []) ((4, 2) ∷ (2, 1) ∷ (9, 4) ∷ (2, 3) ∷ (9, 3) ∷ (9, 2) ∷ (3, 2) ∷ (3, 9) ∷ (4, 3)
      ∷ (2, 9) ∷ (3, 4) ∷ (4, 9) ∷ (2, 4) ∷ []) ∷ [];
  rules = rule scopes.Cluster None 2 ∷ rule scopes.Instance None 3
      ∷ rule scopes.Cluster None 3 ∷ [];
  resources = by_maps 0 4 4 (((1, 4) ∷ (3, 2) ∷ (0, 4) ∷ []) ∷ [])
      ∷ by_maps 1 4 1 (((4, 9) ∷ (2, 2) ∷ []) ∷ ((2, 2) ∷ (4, 9) ∷ (0, 9) ∷ (3, 9) ∷ (1, 2) ∷ [])
      ∷ [] ∷ [])
      ∷ by_lists 2 1 3 ((1 ∷ 0 ∷ []) ∷ (1 ∷ 3 ∷ []) ∷ (0 ∷ 4 ∷ 3 ∷ []) ∷ []) ∷ [];
}

pub wrong_session : output wrong_session_spec (
    codes "join n0\njoin n2\njoin n3\nlead c1\nfetch n3\nwrite n2 m1\nreset n3 db1 0\n"
    ++ codes "work n0\nexpire n0\nlead c1\njoin n0\nsend c1\npass c1\npass c1\nwrite n2 m1\n"
    ++ codes "work n0\ndeliver n1 m1\ntake n1 m1\nwrite n1 m1\nack n1 m1\n")
    ≡ codes "line 1\njoin n0 s1\n"
    ++ codes "line 2\njoin n2 s2\n"
    ++ codes "line 3\njoin n3 s3\n"
    ++ codes "line 4\nlead c1 e1\n"
    ++ codes "line 5\nfetch n3 s3 0\n"
    ++ codes "line 6\n! 6 no-job\n"
    ++ codes "line 7\n! 7 not-error -\n"
    ++ codes "line 8\nfetch n0 s1 0\n"
    ++ codes "line 9\nend n0 s1\n"
    ++ codes "line 10\n! 10 led-by c1 e1\n"
    ++ codes "line 11\njoin n0 s4\n"
    ++ codes "line 12\n! 12 out-of-turn begin\n"
    ++ codes "line 13\nbegin c1 e1 p1\nlive c1 p1\nmail c1 p1 s4\nmail c1 p1 s2\n"
    ++ codes "mail c1 p1 s3\nstates c1 p1 s4\nstates c1 p1 s2\nstates c1 p1 s3\n"
    ++ codes "ideals c1 p1\nsend c1 e1 p1\n  sent m1 s4 db0#0/0 MASTER>OFFLINE\n"
    ++ codes "  sent m2 s4 db1#1/1 MASTER>X\n? c1 sent 2\npost c1 e1 0\n"
    ++ codes "line 14\nbegin c1 e1 p3\nlive c1 p3\nmail c1 p3 s4\nmail c1 p3 s2\n"
    ++ codes "mail c1 p3 s3\nstates c1 p3 s4\nstates c1 p3 s2\nstates c1 p3 s3\n"
    ++ codes "ideals c1 p3\nsend c1 e1 p3\n? c1 waiting 2\npost c1 e1 0\n"
    ++ codes "line 15\n! 15 no-job\n"
    ++ codes "line 16\nfetch n0 s4 2\ntake s4 m1\nwrite s4 m1 ok\nack s4 m1\ntake s4 m2\n"
    ++ codes "write s4 m2 ok\nack s4 m2\n"
    ++ codes "line 17\n! 17 other-session -\n"
    ++ codes "line 18\n! 18 no-job\n"
    ++ codes "line 19\n! 19 no-job\n"
    ++ codes "line 20\n! 20 no-job\n= db0#0/0 n0:OFFLINE\n= db1#1/0 -\n= db1#1/1 n0:X\n"
    ++ codes "= db1#1/2 -\n= db2#2/0 -\n= db2#2/1 -\n= db2#2/2 -\n"
unfolding digits
wrong_session = refl

-- all mishaps of one instance: expiry, repeats, and a controller that doesn't lead
abbrev one_instance_spec : Spec
one_instance_spec = record bare {
  instances = codes "n2" ∷ [];
  resource_names = codes "db0" ∷ codes "db1" ∷ [];
  model_names = built_in_names ++ codes "M0" ∷ codes "M1" ∷ [];
  models = built_in ++ own_model 5 ((5, bounds.Free) ∷ []) ((5, 1) ∷ [])
      ∷ own_model 3 ((3, bounds.Free) ∷ []) ((3, 1) ∷ []) ∷ [];
  controllers = 3;
  rules = rule scopes.Cluster None 1 ∷ rule scopes.Cluster None 2 ∷ [];
  resources = by_maps 0 1 1 ([] ∷ [] ∷ []) ∷ by_maps 1 2 2 (((0, 7) ∷ []) ∷ []) ∷ [];
}

pub one_instance : output one_instance_spec (
    codes "lead c1\npass c1\njoin n2\njoin n2\nreset n2 db0 0\ndrop db0\ndeliver n2 m1\n"
    ++ codes "reset n2 db1 3\nlead c2\npost c2\npass c1\nfetch n2\nwork n2\ntake n2 m2\n"
    ++ codes "work n2\nack n2 m3\nbeat n2\ndeliver n2 m1\ntake n2 m1\nwrite n2 m1\n"
    ++ codes "expire n2\npass c1\npass c1\nlead c1\nexpire n2\ndrain n2\nread c2 live\n"
    ++ codes "join n2\nread c1 live\ndrain n2\nread c1 mail\ndeliver n2 m7\ndeliver n2 m12\n"
    ++ codes "beat n2\nwork n2\npost c2\n")
    ≡ codes "line 1\nlead c1 e1\n"
    ++ codes "line 2\nbegin c1 e1 p1\nlive c1 p1\nideals c1 p1\nsend c1 e1 p1\n? c1 settled\n"
    ++ codes "post c1 e1 0\n"
    ++ codes "line 3\njoin n2 s1\n"
    ++ codes "line 4\n! 4 already-live s1\n"
    ++ codes "line 5\n! 5 not-error -\n"
    ++ codes "line 6\ndrop db0#0\n"
    ++ codes "line 7\n! 7 no-message\n"
    ++ codes "line 8\n! 8 no-part 1\n"
    ++ codes "line 9\n! 9 led-by c1 e1\n"
    ++ codes "line 10\n! 10 out-of-turn begin\n"
    ++ codes "line 11\n" ++ pass_of_one (codes "p3")
    ++ codes "  sent m1 s1 db1#1/0 OFFLINE>STANDBY\n? c1 sent 1\npost c1 e1 0\n"
    ++ codes "line 12\nfetch n2 s1 1\n"
    ++ codes "line 13\nfetch n2 s1 1\ntake s1 m1\nwrite s1 m1 ok\nack s1 m1\n"
    ++ codes "line 14\n! 14 no-job\n"
    ++ codes "line 15\nfetch n2 s1 0\n"
    ++ codes "line 16\n! 16 no-job\n"
    ++ codes "line 17\nbeat n2 s1\n"
    ++ codes "line 18\n! 18 repeat m1\n"
    ++ codes "line 19\n! 19 no-job\n"
    ++ codes "line 20\n! 20 no-job\n"
    ++ codes "line 21\nend n2 s1\n"
    ++ codes "line 22\nbegin c1 e1 p5\nlive c1 p5\nideals c1 p5\nsend c1 e1 p5\n"
    ++ codes "? c1 settled\npost c1 e1 0\n"
    ++ codes "line 23\nbegin c1 e1 p7\nlive c1 p7\nideals c1 p7\nsend c1 e1 p7\n"
    ++ codes "? c1 settled\npost c1 e1 0\n"
    ++ codes "line 24\n! 24 led-by c1 e1\n"
    ++ codes "line 25\n! 25 not-live\n"
    ++ codes "line 26\ndrain n2\n"
    ++ codes "line 27\n! 27 out-of-turn begin\n"
    ++ codes "line 28\njoin n2 s2\n"
    ++ codes "line 29\n! 29 out-of-turn begin\n"
    ++ codes "line 30\n! 30 already-so\n"
    ++ codes "line 31\n! 31 out-of-turn begin\n"
    ++ codes "line 32\n! 32 no-message\n"
    ++ codes "line 33\n! 33 no-message\n"
    ++ codes "line 34\nbeat n2 s2\n"
    ++ codes "line 35\nfetch n2 s2 0\n"
    ++ codes "line 36\n! 36 out-of-turn begin\n= db1#1/0 -\n"
unfolding digits
one_instance = refl
