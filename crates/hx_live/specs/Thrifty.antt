-- Histories in which no controller and no instance made more calls than a number of rounds allows, and none was longer than it may be.
use Rattle.std.specs.Prelude.{ℕ, ◌+◌, ◌*◌, Bool, false, ◌==◌, ◌&&◌, List, length, nat_le}
use Rattle.std.specs.List.{list_all, sum_by}
use Rattle.hx_lists.specs.Lists.{count, numbers_below}
use Rattle.hx_cluster.specs.declared.description.Spec.{Spec}
use Rattle.hx_cluster.specs.declared.happenings.Admin.TheVariants as steps
use Rattle.hx_cluster.specs.declared.happenings.Event.{Event}
use Rattle.hx_cluster.specs.declared.happenings.Event.TheVariants as events

-- the calls of a controller with a number, and the fetches of an instance
abbrev pub is_begin : ℕ → Event → Bool
is_begin k (events.Begin j begun) = j.0 == k
is_begin k _ = false

abbrev pub is_live_read : ℕ → Event → Bool
is_live_read k (events.Live j pass) = j.0 == k
is_live_read k _ = false

abbrev pub is_mail_read : ℕ → Event → Bool
is_mail_read k (events.Mail j pass s) = j.0 == k
is_mail_read k _ = false

abbrev pub is_states_read : ℕ → Event → Bool
is_states_read k (events.States j pass s) = j.0 == k
is_states_read k _ = false

abbrev pub is_ideals_read : ℕ → Event → Bool
is_ideals_read k (events.Ideals j pass) = j.0 == k
is_ideals_read k _ = false

abbrev pub is_dispatch : ℕ → Event → Bool
is_dispatch k (events.Dispatch j epoch pass proposals answer) = j.0 == k
is_dispatch k _ = false

abbrev pub is_post : ℕ → Event → Bool
is_post k (events.Post j epoch rows) = j.0 == k
is_post k _ = false

abbrev pub is_fetch : ℕ → Event → Bool
is_fetch i (events.Fetch j s n) = j.0 == i
is_fetch i _ = false

-- at most so many events pass a test
abbrev pub at_most : ℕ → (Event → Bool) → List Event → Bool
at_most n test h = nat_le (count test h) n

-- a controller's calls, in n rounds with so many instances
abbrev pub is_thrifty_controller : ℕ → ℕ → List Event → ℕ → Bool
is_thrifty_controller n instances h k =
    at_most n (is_begin k) h && at_most n (is_live_read k) h && at_most n (is_ideals_read k) h
    && at_most n (is_dispatch k) h && at_most n (is_post k) h
    && at_most (n * instances) (is_mail_read k) h && at_most (n * instances) (is_states_read k) h

-- the partitions of all resources, of those that were added too
abbrev pub parts_added : Event → ℕ
parts_added (events.Admin (steps.Add name model ideal) did) = ideal.parts
parts_added _ = 0

abbrev pub all_partitions : Spec → List Event → ℕ
all_partitions spec h = sum_by (λ r. r.ideal.parts) spec.resources + sum_by parts_added h

-- how many proposals or rows an event has
abbrev pub items_of : Event → ℕ
items_of (events.Dispatch k epoch pass proposals answer) = length proposals
items_of (events.Post k epoch rows) = length rows
items_of _ = 0

abbrev pub is_short : ℕ → Event → Bool
is_short most e = nat_le (items_of e) most

-- a thrifty history, for a number of rounds
abbrev pub is_thrifty : Spec → List Event → ℕ → Bool
is_thrifty spec h n =
    list_all (is_thrifty_controller n (length spec.instances) h) (numbers_below spec.controllers)
    && list_all (λ i. at_most n (is_fetch i) h) (numbers_below (length spec.instances))
    && list_all (is_short (length spec.instances * all_partitions spec h)) h
