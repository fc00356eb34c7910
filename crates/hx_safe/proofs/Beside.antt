-- Events that leave the live sessions, the rows, the messages, the flags and the next numbers as they are.
use Rattle.std.proofs.Common.{◌≡◌, ◌+◌, Bool, true, false, Option, Some, None, refl}
use Rattle.std.specs.Prelude.{if◌then◌else◌, slice_get}
use Rattle.hx_ids.specs.declared.ControllerId.{ControllerId}
use Rattle.hx_ids.specs.declared.ResourceId.{ResourceId}
use Rattle.hx_ids.specs.declared.PassNo.{PassNo}
use Rattle.hx_ideal.specs.IdealState.{put_list, put_map}
use Rattle.hx_cluster.specs.declared.description.Resource.{Resource}
use Rattle.hx_cluster.specs.declared.state.Cluster.{Cluster}
use Rattle.hx_cluster.specs.declared.happenings.Admin.{Admin}
use Rattle.hx_cluster.specs.declared.happenings.Admin.TheVariants as steps
use Rattle.hx_cluster.specs.Ends.{resource_at}
use Rattle.hx_cluster.specs.Steps.{after, changed_at, marked_down, with_down, without_leader, is_leader, with_mode}
use Rattle.hx_cluster.specs.Messages.{raised_pass, next_pass}

pub record IsBeside (c d : Cluster) : Type 0 where
  pub live : d.live ≡ c.live
  pub rows : d.rows ≡ c.rows
  pub mail : d.mail ≡ c.mail
  pub resets : d.resets ≡ c.resets
  pub next_session : d.next_session ≡ c.next_session
  pub next_msg : d.next_msg ≡ c.next_msg

pub beside_self : (c : Cluster) → IsBeside c c
beside_self c = record { live = refl; rows = refl; mail = refl; resets = refl; next_session = refl; next_msg = refl }

pub beside_edit : (c : Cluster) (r : ResourceId) (f : Resource → Resource) (o : Option Resource) → IsBeside c (changed_at c r f o)
beside_edit c r f None = beside_self c
beside_edit c r f (Some x) = record { live = refl; rows = refl; mail = refl; resets = refl; next_session = refl; next_msg = refl }

pub beside_mark : (c : Cluster) (k : ControllerId) (down : Bool) (o : Option (Bool × PassNo)) → IsBeside c (marked_down c k down o)
beside_mark c k down None = beside_self c
beside_mark c k down (Some d) = record { live = refl; rows = refl; mail = refl; resets = refl; next_session = refl; next_msg = refl }

beside_left : (c d : Cluster) (b : Bool) → IsBeside c d → IsBeside c (if b then record d { leader = None; epoch = record { 0 = d.epoch.0 + 1 } } else d)
beside_left c d true h = record { live = h.live; rows = h.rows; mail = h.mail; resets = h.resets; next_session = h.next_session; next_msg = h.next_msg }
beside_left c d false h = h

pub beside_stop : (c : Cluster) (k : ControllerId) → IsBeside c (without_leader k (with_down c k true))
beside_stop c k =
    beside_left c (with_down c k true) (is_leader k (with_down c k true).leader) (beside_mark c k true (slice_get c.controllers k.0))

beside_raised : (c : Cluster) (k : ControllerId) (o : Option (Bool × PassNo)) → IsBeside c (raised_pass c k o)
beside_raised c k None = beside_self c
beside_raised c k (Some d) = record { live = refl; rows = refl; mail = refl; resets = refl; next_session = refl; next_msg = refl }

pub beside_pass : (c : Cluster) (k : ControllerId) → IsBeside c (next_pass c k)
beside_pass c k = beside_raised c k (slice_get c.controllers k.0)

-- a step that is no join, end, beat, tick or reset
abbrev pub is_aside : Admin → Bool
is_aside (steps.Join i) = false
is_aside (steps.End i) = false
is_aside (steps.Beat i) = false
is_aside (steps.Tick n) = false
is_aside (steps.Reset i p) = false
is_aside _ = true

pub beside_step : (c : Cluster) (step : Admin) → is_aside step ≡ true → IsBeside c (after c step)
beside_step c (steps.Join i) e = cc
beside_step c (steps.End i) e = cc
beside_step c (steps.Beat i) e = cc
beside_step c (steps.Tick n) e = cc
beside_step c (steps.Reset i p) e = cc
beside_step c (steps.Drop r) e = beside_edit c r (λ x. record x { dropped = true }) (resource_at c.resources r)
beside_step c (steps.SetList p list) e =
    beside_edit c p.resource (λ x. with_mode x (put_list x.ideal.mode p.index list)) (resource_at c.resources p.resource)
beside_step c (steps.SetMap p map) e =
    beside_edit c p.resource (λ x. with_mode x (put_map x.ideal.mode p.index map)) (resource_at c.resources p.resource)
beside_step c (steps.Stop k) e = beside_stop c k
beside_step c (steps.Start k) e = beside_mark c k false (slice_get c.controllers k.0)
beside_step c _ e = record { live = refl; rows = refl; mail = refl; resets = refl; next_session = refl; next_msg = refl }
