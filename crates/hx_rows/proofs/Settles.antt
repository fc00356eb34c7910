-- Scripts that settle: preference lists, maps and instances taken in turn, bounds, throttles, and a handler that fails.
use Rattle.std.specs.Prelude.{◌≡◌, [], ◌∷◌, ◌++◌, None, Some, codes}
use Rattle.std.specs.Fmt.{digits}
use Rattle.std.proofs.Common.{refl}
use Rattle.hx_cluster.specs.declared.description.Spec.{Spec}
use Rattle.hx_model.specs.declared.Bound.TheVariants as bounds
use Rattle.hx_cluster.specs.declared.description.Scope.TheVariants as scopes
use Rattle.hx_rows.proofs.Fixtures.{built_in, built_in_states, built_in_names, bare, own_model, by_lists, by_maps, taken_in_turn, rule, failed_make, failed_run, output, one_list, three_at_slave, three_read, three_settled, two_wanted, pass_of_three, pass_of_one, pass_of_two, two_asked, demo as demo_spec}

-- no line at all: there is the view alone
pub empty : output demo_spec (
    [])
    ≡ codes "= db#0/0 -\n= db#0/1 -\n"
unfolding digits
empty = refl

-- one instance joins, a controller leads and makes one pass, and the instance does what it is sent
pub demo : output demo_spec (
    codes "join n1\nlead c1\npass c1\nwork n1\nview\n")
    ≡ codes "line 1\njoin n1 s1\n"
    ++ codes "line 2\nlead c1 e1\n"
    ++ codes "line 3\n" ++ pass_of_one (codes "p1")
    ++ codes "  sent m1 s1 db#0/0 OFFLINE>ONLINE\n  sent m2 s1 db#0/1 OFFLINE>ONLINE\n"
    ++ codes "? c1 sent 2\npost c1 e1 0\n"
    ++ codes "line 4\nfetch n1 s1 2\ntake s1 m1\nwrite s1 m1 ok\nack s1 m1\ntake s1 m2\n"
    ++ codes "write s1 m2 ok\nack s1 m2\n"
    ++ codes "line 5\n= db#0/0 n1:ONLINE\n= db#0/1 n1:ONLINE\n= db#0/0 n1:ONLINE\n"
    ++ codes "= db#0/1 n1:ONLINE\n"
unfolding digits
demo = refl

-- three instances join and settle, one at MASTER and two at SLAVE
pub settle : output one_list (
    codes "join n1\njoin n2\njoin n3\nlead c1\nsettle\n")
    ≡ three_settled
    ++ codes "= db#0/0 n1:MASTER n2:SLAVE n3:SLAVE\n"
unfolding digits
settle = refl

-- the instance at MASTER is drained, and the next of the list takes its place
pub drain : output one_list (
    codes "join n1\njoin n2\njoin n3\nlead c1\nsettle\ndrain n1\nsettle\n")
    ≡ three_settled
    ++ codes "line 6\ndrain n1\n"
    ++ codes "line 7\n" ++ pass_of_three (codes "p7")
    ++ codes "  sent m5 s1 db#0/0 MASTER>SLAVE\npost c1 e1 3\nfetch n1 s1 1\ntake s1 m5\n"
    ++ codes "write s1 m5 ok\nack s1 m5\nfetch n2 s2 0\nfetch n3 s3 0\n"
    ++ pass_of_three (codes "p9")
    ++ codes "  sent m6 s2 db#0/0 SLAVE>MASTER\n  sent m7 s1 db#0/0 SLAVE>OFFLINE\n"
    ++ codes "post c1 e1 3\nfetch n1 s1 1\ntake s1 m7\nwrite s1 m7 ok\nack s1 m7\n"
    ++ codes "fetch n2 s2 1\ntake s2 m6\nwrite s2 m6 ok\nack s2 m6\nfetch n3 s3 0\n"
    ++ pass_of_three (codes "p11")
    ++ codes "post c1 e1 3\n? settle c1 3\n= db#0/0 n1:OFFLINE n2:MASTER n3:SLAVE\n"
unfolding digits
drain = refl

-- with another list the MASTER changes: the first leaves it before the second comes
abbrev swap_spec : Spec
swap_spec = record bare {
  states = built_in_states ++ codes "P" ∷ codes "Q" ∷ [];
  resource_names = codes "db" ∷ [];
  model_names = built_in_names ++ codes "Swap" ∷ [];
  models = built_in ++ own_model 4 ((8, bounds.Count 1) ∷ (9, bounds.Count 2) ∷ (4, bounds.Free)
      ∷ []) ((4, 9) ∷ (9, 8) ∷ (8, 9) ∷ (9, 4) ∷ (4, 1) ∷ []) ∷ [];
  resources = by_lists 0 3 3 ((0 ∷ 1 ∷ 2 ∷ []) ∷ []) ∷ [];
}

pub swap : output swap_spec (
    codes "join n1\njoin n2\njoin n3\nlead c1\nsettle\nlist db 0 n2 n1 n3\nsettle\n")
    ≡ three_read
    ++ codes "  sent m1 s1 db#0/0 OFFLINE>Q\n  sent m2 s2 db#0/0 OFFLINE>Q\npost c1 e1 0\n"
    ++ codes "fetch n1 s1 1\ntake s1 m1\nwrite s1 m1 ok\nack s1 m1\nfetch n2 s2 1\n"
    ++ codes "take s2 m2\nwrite s2 m2 ok\nack s2 m2\nfetch n3 s3 0\n"
    ++ pass_of_three (codes "p3")
    ++ codes "  sent m3 s1 db#0/0 Q>P\npost c1 e1 2\nfetch n1 s1 1\ntake s1 m3\n"
    ++ codes "write s1 m3 ok\nack s1 m3\nfetch n2 s2 0\nfetch n3 s3 0\n"
    ++ pass_of_three (codes "p5")
    ++ codes "  sent m4 s3 db#0/0 OFFLINE>Q\npost c1 e1 2\nfetch n1 s1 0\nfetch n2 s2 0\n"
    ++ codes "fetch n3 s3 1\ntake s3 m4\nwrite s3 m4 ok\nack s3 m4\n"
    ++ pass_of_three (codes "p7")
    ++ codes "post c1 e1 3\n? settle c1 4\n"
    ++ codes "line 6\nlist db#0/0 n2 n1 n3\n"
    ++ codes "line 7\n" ++ pass_of_three (codes "p9")
    ++ codes "post c1 e1 3\n? settle c1 1\n? full n1 db#0/0 P>Q 2 of 2 n2 n3\n"
    ++ codes "? full n2 db#0/0 Q>P 1 of 1 n1\n= db#0/0 n1:P n2:Q n3:Q\n"
unfolding digits
swap = refl

-- a map wants two at MASTER, of which the bound allows one: the report names the holder
pub two_masters : output two_wanted (
    codes "join n1\njoin n2\nlead c1\nsettle\n")
    ≡ two_asked
    ++ codes "post c1 e1 0\nfetch n1 s1 1\ntake s1 m1\nwrite s1 m1 ok\nack s1 m1\n"
    ++ codes "fetch n2 s2 1\ntake s2 m2\nwrite s2 m2 ok\nack s2 m2\n"
    ++ pass_of_two (codes "p3")
    ++ codes "  sent m3 s1 db#0/0 SLAVE>MASTER\npost c1 e1 2\nfetch n1 s1 1\ntake s1 m3\n"
    ++ codes "write s1 m3 ok\nack s1 m3\nfetch n2 s2 0\n"
    ++ pass_of_two (codes "p5")
    ++ codes "post c1 e1 2\n? settle c1 3\n? full n2 db#0/0 SLAVE>MASTER 1 of 1 n1\n"
    ++ codes "= db#0/0 n1:MASTER n2:SLAVE\n"
unfolding digits
two_masters = refl

-- one message at a time for each instance
abbrev throttle_spec : Spec
throttle_spec = record bare {
  resource_names = codes "db" ∷ [];
  rules = rule scopes.Instance None 1 ∷ [];
  resources = by_lists 0 1 1 ((0 ∷ []) ∷ (0 ∷ []) ∷ (0 ∷ []) ∷ (0 ∷ []) ∷ (0 ∷ []) ∷ (0 ∷ [])
      ∷ (0 ∷ []) ∷ (0 ∷ []) ∷ []) ∷ [];
}

pub throttle : output throttle_spec (
    codes "join n1\nlead c1\nsettle\n")
    ≡ codes "line 1\njoin n1 s1\n"
    ++ codes "line 2\nlead c1 e1\n"
    ++ codes "line 3\n" ++ pass_of_one (codes "p1")
    ++ codes "  sent m1 s1 db#0/0 OFFLINE>ONLINE\npost c1 e1 0\nfetch n1 s1 1\ntake s1 m1\n"
    ++ codes "write s1 m1 ok\nack s1 m1\n"
    ++ pass_of_one (codes "p3")
    ++ codes "  sent m2 s1 db#0/1 OFFLINE>ONLINE\npost c1 e1 1\nfetch n1 s1 1\ntake s1 m2\n"
    ++ codes "write s1 m2 ok\nack s1 m2\n"
    ++ pass_of_one (codes "p5")
    ++ codes "  sent m3 s1 db#0/2 OFFLINE>ONLINE\npost c1 e1 2\nfetch n1 s1 1\ntake s1 m3\n"
    ++ codes "write s1 m3 ok\nack s1 m3\n"
    ++ pass_of_one (codes "p7")
    ++ codes "  sent m4 s1 db#0/3 OFFLINE>ONLINE\npost c1 e1 3\nfetch n1 s1 1\ntake s1 m4\n"
    ++ codes "write s1 m4 ok\nack s1 m4\n"
    ++ pass_of_one (codes "p9")
    ++ codes "  sent m5 s1 db#0/4 OFFLINE>ONLINE\npost c1 e1 4\nfetch n1 s1 1\ntake s1 m5\n"
    ++ codes "write s1 m5 ok\nack s1 m5\n"
    ++ pass_of_one (codes "p11")
    ++ codes "  sent m6 s1 db#0/5 OFFLINE>ONLINE\npost c1 e1 5\nfetch n1 s1 1\ntake s1 m6\n"
    ++ codes "write s1 m6 ok\nack s1 m6\n"
    ++ pass_of_one (codes "p13")
    ++ codes "  sent m7 s1 db#0/6 OFFLINE>ONLINE\npost c1 e1 6\nfetch n1 s1 1\ntake s1 m7\n"
    ++ codes "write s1 m7 ok\nack s1 m7\n"
    ++ pass_of_one (codes "p15")
    ++ codes "  sent m8 s1 db#0/7 OFFLINE>ONLINE\npost c1 e1 7\nfetch n1 s1 1\ntake s1 m8\n"
    ++ codes "write s1 m8 ok\nack s1 m8\n"
    ++ pass_of_one (codes "p17")
    ++ codes "post c1 e1 8\n? settle c1 9\n= db#0/0 n1:ONLINE\n= db#0/1 n1:ONLINE\n"
    ++ codes "= db#0/2 n1:ONLINE\n= db#0/3 n1:ONLINE\n= db#0/4 n1:ONLINE\n"
    ++ codes "= db#0/5 n1:ONLINE\n= db#0/6 n1:ONLINE\n= db#0/7 n1:ONLINE\n"
unfolding digits
throttle = refl

-- a handler fails, its replica is reset, and it succeeds
abbrev failure_spec : Spec
failure_spec = record bare {
  resource_names = codes "db" ∷ [];
  resources = by_lists 0 0 3 ((0 ∷ 1 ∷ 2 ∷ []) ∷ []) ∷ [];
  failures = failed_run 0 0 0 2 ∷ [];
}

pub failure : output failure_spec (
    codes "join n1\njoin n2\njoin n3\nlead c1\nsettle\nreset n1 db 0\nsettle\n")
    ≡ three_at_slave
    ++ codes "write s1 m4 failed\nack s1 m4\nfetch n2 s2 0\nfetch n3 s3 0\n"
    ++ pass_of_three (codes "p5")
    ++ codes "  sent m5 s2 db#0/0 SLAVE>MASTER\npost c1 e1 3\nfetch n1 s1 0\nfetch n2 s2 1\n"
    ++ codes "take s2 m5\nwrite s2 m5 ok\nack s2 m5\nfetch n3 s3 0\n"
    ++ pass_of_three (codes "p7")
    ++ codes "post c1 e1 3\n? settle c1 4\n? failed n1 db#0/0\n"
    ++ codes "line 6\nreset n1 s1 db#0/0\n"
    ++ codes "line 7\n" ++ pass_of_three (codes "p9")
    ++ codes "  sent m6 s1 db#0/0 ERROR>OFFLINE\npost c1 e1 3\nfetch n1 s1 1\ntake s1 m6\n"
    ++ codes "write s1 m6 ok\nack s1 m6\nfetch n2 s2 0\nfetch n3 s3 0\n"
    ++ pass_of_three (codes "p11")
    ++ codes "  sent m7 s2 db#0/0 MASTER>SLAVE\n  sent m8 s1 db#0/0 OFFLINE>SLAVE\n"
    ++ codes "post c1 e1 3\nfetch n1 s1 1\ntake s1 m8\nwrite s1 m8 ok\nack s1 m8\n"
    ++ codes "fetch n2 s2 1\ntake s2 m7\nwrite s2 m7 ok\nack s2 m7\nfetch n3 s3 0\n"
    ++ pass_of_three (codes "p13")
    ++ codes "  sent m9 s1 db#0/0 SLAVE>MASTER\npost c1 e1 3\nfetch n1 s1 1\ntake s1 m9\n"
    ++ codes "write s1 m9 ok\nack s1 m9\nfetch n2 s2 0\nfetch n3 s3 0\n"
    ++ pass_of_three (codes "p15")
    ++ codes "post c1 e1 3\n? settle c1 4\n= db#0/0 n1:MASTER n2:SLAVE n3:SLAVE\n"
unfolding digits
failure = refl

-- instances are taken in turn, and a route names those at ONLINE
abbrev full_auto_spec : Spec
full_auto_spec = record bare {
  resource_names = codes "db" ∷ [];
  resources = taken_in_turn 0 1 2 3 ∷ [];
}

pub full_auto : output full_auto_spec (
    codes "join n1\njoin n2\njoin n3\nlead c1\nsettle\nroute db 1 ONLINE\n")
    ≡ three_read
    ++ codes "  sent m1 s1 db#0/0 OFFLINE>ONLINE\n  sent m2 s2 db#0/0 OFFLINE>ONLINE\n"
    ++ codes "  sent m3 s3 db#0/1 OFFLINE>ONLINE\n  sent m4 s1 db#0/1 OFFLINE>ONLINE\n"
    ++ codes "  sent m5 s2 db#0/2 OFFLINE>ONLINE\n  sent m6 s3 db#0/2 OFFLINE>ONLINE\n"
    ++ codes "post c1 e1 0\nfetch n1 s1 2\ntake s1 m1\nwrite s1 m1 ok\nack s1 m1\n"
    ++ codes "take s1 m4\nwrite s1 m4 ok\nack s1 m4\nfetch n2 s2 2\ntake s2 m2\n"
    ++ codes "write s2 m2 ok\nack s2 m2\ntake s2 m5\nwrite s2 m5 ok\nack s2 m5\n"
    ++ codes "fetch n3 s3 2\ntake s3 m3\nwrite s3 m3 ok\nack s3 m3\ntake s3 m6\n"
    ++ codes "write s3 m6 ok\nack s3 m6\n"
    ++ pass_of_three (codes "p3")
    ++ codes "post c1 e1 6\n? settle c1 2\n"
    ++ codes "line 6\n= route db#0/1 ONLINE n1 n3\n= db#0/0 n1:ONLINE n2:ONLINE\n"
    ++ codes "= db#0/1 n1:ONLINE n3:ONLINE\n= db#0/2 n2:ONLINE n3:ONLINE\n"
unfolding digits
full_auto = refl

-- a settle under throttles of several scopes
abbrev throttled_settle_spec : Spec
throttled_settle_spec = record bare {
  instances = codes "n1" ∷ codes "n3" ∷ codes "n5" ∷ [];
  states = built_in_states ++ codes "Y" ∷ [];
  resource_names = codes "db0" ∷ codes "db1" ∷ [];
  model_names = built_in_names ++ codes "M0" ∷ [];
  models = built_in ++ own_model 5 ((3, bounds.Free) ∷ (2, bounds.Count 3) ∷ (8, bounds.Count 3)
      ∷ (5, bounds.Free) ∷ []) ((8, 3) ∷ (2, 8) ∷ (8, 5) ∷ (5, 3) ∷ (3, 5) ∷ (3, 2) ∷ (2, 3)
      ∷ (5, 1) ∷ []) ∷ [];
  controllers = 3;
  rules = rule scopes.Cluster None 1 ∷ rule scopes.Resource None 3
      ∷ rule scopes.Cluster None 3 ∷ [];
  resources = by_lists 0 0 1 ((2 ∷ 1 ∷ 0 ∷ []) ∷ (1 ∷ 2 ∷ []) ∷ [])
      ∷ by_maps 1 0 4 (((0, 2) ∷ []) ∷ []) ∷ [];
}

pub throttled_settle : output throttled_settle_spec (
    codes "join n3\njoin n5\nlead c1\ndeliver n1 m1\ntake n1 m1\nwrite n1 m1\nview\n"
    ++ codes "beat n5\nsettle\ndie n1\n")
    ≡ codes "line 1\njoin n3 s1\n"
    ++ codes "line 2\njoin n5 s2\n"
    ++ codes "line 3\nlead c1 e1\n"
    ++ codes "line 4\n! 4 no-message\n"
    ++ codes "line 5\n! 5 no-job\n"
    ++ codes "line 6\n! 6 no-job\n"
    ++ codes "line 7\n= db0#0/0 -\n= db0#0/1 -\n= db1#1/0 -\n"
    ++ codes "line 8\nbeat n5 s2\n"
    ++ codes "line 9\n" ++ pass_of_two (codes "p1")
    ++ codes "  sent m1 s2 db0#0/0 OFFLINE>SLAVE\npost c1 e1 0\nfetch n3 s1 0\n"
    ++ codes "fetch n5 s2 1\ntake s2 m1\nwrite s2 m1 ok\nack s2 m1\n"
    ++ pass_of_two (codes "p3")
    ++ codes "  sent m2 s2 db0#0/0 SLAVE>MASTER\npost c1 e1 1\nfetch n3 s1 0\nfetch n5 s2 1\n"
    ++ codes "take s2 m2\nwrite s2 m2 ok\nack s2 m2\n"
    ++ pass_of_two (codes "p5")
    ++ codes "  sent m3 s1 db0#0/1 OFFLINE>SLAVE\npost c1 e1 1\nfetch n3 s1 1\ntake s1 m3\n"
    ++ codes "write s1 m3 ok\nack s1 m3\nfetch n5 s2 0\n"
    ++ pass_of_two (codes "p7")
    ++ codes "  sent m4 s1 db0#0/1 SLAVE>MASTER\npost c1 e1 2\nfetch n3 s1 1\ntake s1 m4\n"
    ++ codes "write s1 m4 ok\nack s1 m4\nfetch n5 s2 0\n"
    ++ pass_of_two (codes "p9")
    ++ codes "post c1 e1 2\n? settle c1 5\n"
    ++ codes "line 10\n! 10 not-live\n= db0#0/0 n5:MASTER\n= db0#0/1 n3:MASTER\n= db1#1/0 -\n"
unfolding digits
throttled_settle = refl

-- a settle with a handler that fails, and messages of other sessions
abbrev failed_settle_spec : Spec
failed_settle_spec = record bare {
  instances = codes "n0" ∷ codes "n1" ∷ codes "n2" ∷ codes "n4" ∷ codes "n6" ∷ [];
  states = built_in_states ++ codes "Z" ∷ codes "Y" ∷ [];
  resource_names = codes "db0" ∷ codes "db1" ∷ codes "db2" ∷ [];
  model_names = built_in_names ++ codes "M0" ∷ [];
  models = built_in ++ own_model 8 ((8, bounds.Free) ∷ (9, bounds.Live) ∷ (2, bounds.Free)
      ∷ (5, bounds.Free) ∷ []) ((2, 9) ∷ (5, 2) ∷ (5, 9) ∷ (8, 1) ∷ (8, 5) ∷ (9, 2) ∷ (9, 8)
      ∷ (8, 9) ∷ (9, 5) ∷ []) ∷ [];
  timeout = 10;
  rules = rule scopes.Resource (Some (5, 5)) 2 ∷ [];
  resources = taken_in_turn 0 0 3 2 ∷ by_lists 1 1 1 ((2 ∷ 0 ∷ 1 ∷ 4 ∷ 3 ∷ []) ∷ [])
      ∷ by_lists 2 1 3 ((3 ∷ 2 ∷ 1 ∷ 4 ∷ 0 ∷ []) ∷ [] ∷ (0 ∷ []) ∷ []) ∷ [];
  failures = failed_run 0 1 0 2 ∷ failed_make 0 2 1 3 ∷ failed_run 1 0 1 1
      ∷ failed_run 4 1 0 1 ∷ [];
}

pub failed_settle : output failed_settle_spec (
    codes "join n0\njoin n1\njoin n4\nlead c1\nbegin c2\nread c2 live\nread c2 mail\n"
    ++ codes "read c2 states\ndeliver n2 m2\ntake n2 m2\nwrite n2 m2\nbegin c1\nwork n6\n"
    ++ codes "send c1\nwork n1\nwork n6\nsettle\nsend c1\npost c1\ndrain n1\nbegin c1\n"
    ++ codes "read c1 live\nread c2 states\nbegin c1\ndeliver n1 m2\ntake n1 m2\n"
    ++ codes "write n1 m2\nsettle\nview\nbegin c1\nread c1 live\npass c1\nbegin c1\n"
    ++ codes "deliver n6 m6\ntick 3\ndeliver n6 m4\ntake n6 m4\nwrite n6 m4\ntake n2 m9\n"
    ++ codes "stop c2\nread c1 states\nbeat n2\n")
    ≡ codes "line 1\njoin n0 s1\n"
    ++ codes "line 2\njoin n1 s2\n"
    ++ codes "line 3\njoin n4 s3\n"
    ++ codes "line 4\nlead c1 e1\n"
    ++ codes "line 5\n! 5 not-leader c1\n"
    ++ codes "line 6\n! 6 out-of-turn begin\n"
    ++ codes "line 7\n! 7 out-of-turn begin\n"
    ++ codes "line 8\n! 8 out-of-turn begin\n"
    ++ codes "line 9\n! 9 no-message\n"
    ++ codes "line 10\n! 10 no-job\n"
    ++ codes "line 11\n! 11 no-job\n"
    ++ codes "line 12\nbegin c1 e1 p1\n"
    ++ codes "line 13\nfetch n6 - 0\n"
    ++ codes "line 14\n! 14 out-of-turn live\n"
    ++ codes "line 15\nfetch n1 s2 0\n"
    ++ codes "line 16\nfetch n6 - 0\n"
    ++ codes "line 17\nlive c1 p1\nmail c1 p1 s1\nmail c1 p1 s2\nmail c1 p1 s3\n"
    ++ codes "states c1 p1 s1\nstates c1 p1 s2\nstates c1 p1 s3\nideals c1 p1\n"
    ++ codes "send c1 e1 p1\n  sent m1 s1 db0#0/0 OFFLINE>SLAVE\n"
    ++ codes "  sent m2 s2 db0#0/0 OFFLINE>SLAVE\n  sent m3 s3 db0#0/0 OFFLINE>SLAVE\n"
    ++ codes "  sent m4 s1 db0#0/1 OFFLINE>SLAVE\n  sent m5 s2 db0#0/1 OFFLINE>SLAVE\n"
    ++ codes "  sent m6 s3 db0#0/1 OFFLINE>SLAVE\n  sent m7 s1 db1#1/0 OFFLINE>ONLINE\n"
    ++ codes "  sent m8 s3 db2#2/0 OFFLINE>ONLINE\n  sent m9 s2 db2#2/0 OFFLINE>ONLINE\n"
    ++ codes "  sent m10 s1 db2#2/0 OFFLINE>ONLINE\n  sent m11 s1 db2#2/2 OFFLINE>ONLINE\n"
    ++ codes "post c1 e1 0\nfetch n0 s1 5\ntake s1 m1\nwrite s1 m1 ok\nack s1 m1\n"
    ++ codes "take s1 m4\nwrite s1 m4 ok\nack s1 m4\ntake s1 m7\nwrite s1 m7 ok\nack s1 m7\n"
    ++ codes "take s1 m10\nwrite s1 m10 ok\nack s1 m10\ntake s1 m11\nwrite s1 m11 ok\n"
    ++ codes "ack s1 m11\nfetch n1 s2 3\ntake s2 m2\nwrite s2 m2 ok\nack s2 m2\ntake s2 m5\n"
    ++ codes "write s2 m5 failed\nack s2 m5\ntake s2 m9\nwrite s2 m9 ok\nack s2 m9\n"
    ++ codes "fetch n4 s3 3\ntake s3 m3\nwrite s3 m3 ok\nack s3 m3\ntake s3 m6\n"
    ++ codes "write s3 m6 ok\nack s3 m6\ntake s3 m8\nwrite s3 m8 ok\nack s3 m8\n"
    ++ pass_of_three (codes "p3")
    ++ codes "  sent m12 s1 db0#0/0 SLAVE>MASTER\n  sent m13 s1 db0#0/1 SLAVE>MASTER\n"
    ++ codes "post c1 e1 11\nfetch n0 s1 2\ntake s1 m12\nwrite s1 m12 ok\nack s1 m12\n"
    ++ codes "take s1 m13\nwrite s1 m13 ok\nack s1 m13\nfetch n1 s2 0\nfetch n4 s3 0\n"
    ++ pass_of_three (codes "p5")
    ++ codes "post c1 e1 11\n? settle c1 3\n? failed n1 db0#0/1\n"
    ++ codes "line 18\n! 18 out-of-turn begin\n"
    ++ codes "line 19\n! 19 out-of-turn begin\n"
    ++ codes "line 20\ndrain n1\n"
    ++ codes "line 21\nbegin c1 e1 p7\n"
    ++ codes "line 22\nlive c1 p7\n"
    ++ codes "line 23\n! 23 out-of-turn begin\n"
    ++ codes "line 24\nbegin c1 e1 p8\n"
    ++ codes "line 25\n! 25 repeat m2\n"
    ++ codes "line 26\n! 26 no-job\n"
    ++ codes "line 27\n! 27 no-job\n"
    ++ codes "line 28\nlive c1 p8\nmail c1 p8 s1\nmail c1 p8 s2\nmail c1 p8 s3\n"
    ++ codes "states c1 p8 s1\nstates c1 p8 s2\nstates c1 p8 s3\nideals c1 p8\n"
    ++ codes "send c1 e1 p8\n  sent m14 s2 db0#0/0 SLAVE>OFFLINE\n"
    ++ codes "  sent m15 s2 db2#2/0 ONLINE>OFFLINE\npost c1 e1 11\nfetch n0 s1 0\n"
    ++ codes "fetch n1 s2 2\ntake s2 m14\nwrite s2 m14 ok\nack s2 m14\ntake s2 m15\n"
    ++ codes "write s2 m15 ok\nack s2 m15\nfetch n4 s3 0\n"
    ++ pass_of_three (codes "p10")
    ++ codes "  sent m16 s2 db0#0/0 OFFLINE>DROPPED\npost c1 e1 11\nfetch n0 s1 0\n"
    ++ codes "fetch n1 s2 1\ntake s2 m16\nwrite s2 m16 ok\nack s2 m16\nfetch n4 s3 0\n"
    ++ pass_of_three (codes "p12")
    ++ codes "post c1 e1 10\n? settle c1 3\n? failed n1 db0#0/1\n"
    ++ codes "line 29\n= db0#0/0 n0:MASTER n4:SLAVE\n= db0#0/1 n0:MASTER n1:ERROR n4:SLAVE\n"
    ++ codes "= db1#1/0 n0:ONLINE\n= db2#2/0 n0:ONLINE n1:OFFLINE n4:ONLINE\n= db2#2/1 -\n"
    ++ codes "= db2#2/2 n0:ONLINE\n"
    ++ codes "line 30\nbegin c1 e1 p14\n"
    ++ codes "line 31\nlive c1 p14\n"
    ++ codes "line 32\nmail c1 p14 s1\nmail c1 p14 s2\nmail c1 p14 s3\nstates c1 p14 s1\n"
    ++ codes "states c1 p14 s2\nstates c1 p14 s3\nideals c1 p14\nsend c1 e1 p14\n"
    ++ codes "? c1 settled\n? failed n1 db0#0/1\npost c1 e1 10\n"
    ++ codes "line 33\nbegin c1 e1 p16\n"
    ++ codes "line 34\n! 34 other-session -\n"
    ++ codes "line 35\ntick 3\n"
    ++ codes "line 36\n! 36 other-session -\n"
    ++ codes "line 37\n! 37 no-job\n"
    ++ codes "line 38\n! 38 no-job\n"
    ++ codes "line 39\n! 39 no-job\n"
    ++ codes "line 40\nstop c2\n"
    ++ codes "line 41\n! 41 out-of-turn live\n"
    ++ codes "line 42\n! 42 not-live\n= db0#0/0 n0:MASTER n4:SLAVE\n"
    ++ codes "= db0#0/1 n0:MASTER n1:ERROR n4:SLAVE\n= db1#1/0 n0:ONLINE\n"
    ++ codes "= db2#2/0 n0:ONLINE n1:OFFLINE n4:ONLINE\n= db2#2/1 -\n= db2#2/2 n0:ONLINE\n"
unfolding digits
failed_settle = refl
