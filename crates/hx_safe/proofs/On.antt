-- Every step leads on.
use Rattle.std.proofs.Common.{◌≡◌, ◌+◌, ◌≤◌, ◌==◌, not, Bool, true, false, List, [], ◌∷◌, ◌++◌, filter, Option, Some, None, refl, sym, ap, ◌∙◌, subst, arith}
use Rattle.std.specs.Prelude.{if◌then◌else◌, nat_lt, slice_get, is_some}
use Rattle.std.proofs.lemmas.Bool.Decides.{nat_tests}
use Rattle.hx_lists.specs.Lists.{count}
use Rattle.hx_ids.specs.declared.InstanceId.{InstanceId}
use Rattle.hx_ids.specs.declared.ControllerId.{ControllerId}
use Rattle.hx_ids.specs.declared.ResourceId.{ResourceId}
use Rattle.hx_ids.specs.declared.SessionId.{SessionId}
use Rattle.hx_ids.specs.declared.MsgId.{MsgId}
use Rattle.hx_ids.specs.declared.PartId.{PartId}
use Rattle.hx_ids.specs.declared.PassNo.{PassNo}
use Rattle.hx_ids.specs.declared.Live.{Live}
use Rattle.hx_ideal.specs.IdealState.{put_list, put_map}
use Rattle.hx_cluster.specs.declared.description.Resource.{Resource}
use Rattle.hx_cluster.specs.declared.state.Message.{Message}
use Rattle.hx_cluster.specs.declared.state.Cluster.{Cluster}
use Rattle.hx_cluster.specs.declared.happenings.Placed.{Placed}
use Rattle.hx_cluster.specs.declared.happenings.Placed.TheVariants as placings
use Rattle.hx_cluster.specs.declared.happenings.Proposal.{Proposal}
use Rattle.hx_cluster.specs.declared.happenings.Outcome.{Outcome}
use Rattle.hx_cluster.specs.declared.happenings.Admin.{Admin}
use Rattle.hx_cluster.specs.declared.happenings.Admin.TheVariants as steps
use Rattle.hx_cluster.specs.declared.happenings.Event.{Event}
use Rattle.hx_cluster.specs.declared.happenings.Event.TheVariants as events
use Rattle.hx_cluster.specs.Ends.{is_session, is_live, shown_of, instance_in, resource_at}
use Rattle.hx_cluster.specs.Steps.{after, ended_by, live_of, without, without_all, ended_of, beaten_of, changed_at, asked_of, marked_down, with_down, without_leader, is_leader, with_mode, new_resource}
use Rattle.hx_cluster.specs.Messages.{placed_of, after_placed, after_proposal, after_proposals, raised_pass, next_pass, pending_of, written_of}
use Rattle.hx_cluster.specs.Events.{next}
use Rattle.hx_cluster.proofs.Shown.{instance_in_shown}
use Rattle.hx_safe.proofs.Counting.{any-append}
use Rattle.hx_safe.proofs.Throttles.{instance_on, live-on, instance-join, instance-beat, instance-without}
use Rattle.hx_safe.specs.Onward.{is_front, is_same_kind, has_same_replicas, IsOn}
use Rattle.hx_safe.proofs.Fronts.{front-self, front-append, front-put, front-both, kind-self, kind-both, replicas-self, replicas-both}

-- a session that was there has the instance that it had
abbrev HasOldInstances : Cluster → Cluster → Type 0
HasOldInstances c d = (s : SessionId) → nat_lt s.0 c.next_session ≡ true → is_live d.live s ≡ true → instance_on d.live s ≡ instance_on c.live s

live-before : (c d : Cluster) → HasOldInstances c d → (s : SessionId) → nat_lt s.0 c.next_session ≡ true → is_live d.live s ≡ true → is_live c.live s ≡ true
live-before c d same s low e =
    live-on c.live s ∙ ap (λ (o : Option InstanceId). is_some o) (sym (same s low e)) ∙ sym (live-on d.live s) ∙ e

shown-same : (c d : Cluster) → HasOldInstances c d → (s : SessionId) → nat_lt s.0 c.next_session ≡ true → is_live d.live s ≡ true
    → instance_in (shown_of d.live) s ≡ instance_in (shown_of c.live) s
shown-same c d same s low e = instance_in_shown d.live s ∙ same s low e ∙ sym (instance_in_shown c.live s)

-- clusters of which only other parts differ
on_same : (c d : Cluster) → d.models ≡ c.models → d.rules ≡ c.rules → d.resources ≡ c.resources → c.epoch.0 ≤ d.epoch.0 → c.next_session ≤ d.next_session → HasOldInstances c d → IsOn c d
on_same c d models rules resources epoch sessions same = record {
  models = models;
  rules = rules;
  resources = subst (λ (rs : List Resource). is_front is_same_kind c.resources rs ≡ true) (sym resources) (front-self is_same_kind kind-self c.resources);
  replicas = subst (λ (rs : List Resource). is_front has_same_replicas c.resources rs ≡ true) (sym resources) (front-self has_same_replicas replicas-self c.resources);
  epoch = epoch;
  next_session = sessions;
  live = live-before c d same;
  instances = shown-same c d same;
}

pub on_self : (c : Cluster) → IsOn c c
on_self c = on_same c c refl refl refl (omega arith) (omega arith) (λ s low e. refl)

pub on_both : (b c d : Cluster) → IsOn b c → IsOn c d → IsOn b d
on_both b c d one two = record {
  models = two.models ∙ one.models;
  rules = two.rules ∙ one.rules;
  resources = front-both is_same_kind kind-both b.resources c.resources d.resources one.resources two.resources;
  replicas = front-both has_same_replicas replicas-both b.resources c.resources d.resources one.replicas two.replicas;
  epoch = omega (arith, one.epoch, two.epoch);
  next_session = omega (arith, one.next_session, two.next_session);
  live = λ s low e. one.live s low (two.live s (later s low) e);
  instances = λ s low e. two.instances s (later s low) e ∙ one.instances s low (two.live s (later s low) e);
}
  where
    later : (s : SessionId) → nat_lt s.0 b.next_session ≡ true → nat_lt s.0 c.next_session ≡ true
    later s low = grind (arith, nat_tests, low, one.next_session)

-- sessions that join, end or are heard of
on_join : (c : Cluster) (i : InstanceId) → IsOn c (after c (steps.Join i))
on_join c i = on_same c (after c (steps.Join i)) refl refl refl (omega arith) (omega arith) same
  where
    new : Live
    new = record { session = record { 0 = c.next_session }; instance = i; beat = c.clock }

    same : HasOldInstances c (after c (steps.Join i))
    same s low e =
        let other : (c.next_session == s.0) ≡ false = grind (arith, nat_tests, low) in
        let there : is_live c.live s ≡ true = grind (arith, sym (any-append (is_session s) c.live (new ∷ [])) ∙ e, other) in
        instance-join c.live new s there

gone : (live : List Live) (s u : SessionId) → (u.0 == s.0) ≡ true → is_live (filter (λ l. not (l.session.0 == s.0)) live) u ≡ false
gone [] s u same = refl
gone (l ∷ live) s u same = grind (arith, nat_tests, same, gone live s u)

pub other-live : (live : List Live) (s u : SessionId) → is_live (filter (λ l. not (l.session.0 == s.0)) live) u ≡ true → (u.0 == s.0) ≡ false
other-live live s u e = one (u.0 == s.0) refl
  where
    one : (b : Bool) → (u.0 == s.0) ≡ b → b ≡ false
    one true is = sym e ∙ gone live s u is
    one false is = refl

on_without : (c : Cluster) (s : SessionId) → IsOn c (without c s)
on_without c s =
    on_same c (without c s) refl refl refl (omega arith) (omega arith)
    (λ u low e. instance-without c.live s u (other-live c.live s u e))

on_all : (c : Cluster) (ss : List SessionId) → IsOn c (without_all c ss)
on_all c [] = on_self c
on_all c (s ∷ ss) = on_both c (without c s) (without_all (without c s) ss) (on_without c s) (on_all (without c s) ss)

on_end : (c : Cluster) (o : Option Live) → IsOn c (ended_of c o)
on_end c None = on_self c
on_end c (Some l) = on_without c l.session

on_beat : (c : Cluster) (i : InstanceId) (o : Option Live) → ((s : SessionId) → count (is_session s) c.live ≤ 1) → live_of c.live i ≡ o → IsOn c (beaten_of c o)
on_beat c i None numbers found = on_self c
on_beat c i (Some l) numbers found =
    on_same c (beaten_of c (Some l)) refl refl refl (omega arith) (omega arith) (λ s low e. instance-beat c i l numbers found s)

-- resources
on_edit : (c : Cluster) (r : ResourceId) (f : Resource → Resource) (o : Option Resource) → resource_at c.resources r ≡ o
    → ((x : Resource) → is_same_kind x (f x) ≡ true) → ((x : Resource) → has_same_replicas x (f x) ≡ true) → IsOn c (changed_at c r f o)
on_edit c r f None is kind replicas = on_self c
on_edit c r f (Some x) is kind replicas = record {
  models = refl;
  rules = refl;
  resources = front-put is_same_kind kind-self c.resources r.0 x (f x) is (kind x);
  replicas = front-put has_same_replicas replicas-self c.resources r.0 x (f x) is (replicas x);
  epoch = omega arith;
  next_session = omega arith;
  live = λ s low e. e;
  instances = λ s low e. refl;
}

on_add : (c : Cluster) (x : Resource) → IsOn c (record c { resources = c.resources ++ x ∷ []; change = c.change + 1 })
on_add c x = record {
  models = refl;
  rules = refl;
  resources = front-append is_same_kind kind-self c.resources (x ∷ []);
  replicas = front-append has_same_replicas replicas-self c.resources (x ∷ []);
  epoch = omega arith;
  next_session = omega arith;
  live = λ s low e. e;
  instances = λ s low e. refl;
}

-- flags and marks
on_asked : (c : Cluster) (p : PartId) (o : Option Live) → IsOn c (asked_of c p o)
on_asked c p None = on_self c
on_asked c p (Some l) = on_same c (asked_of c p (Some l)) refl refl refl (omega arith) (omega arith) (λ s low e. refl)

on_mark : (c : Cluster) (k : ControllerId) (down : Bool) (o : Option (Bool × PassNo)) → IsOn c (marked_down c k down o)
on_mark c k down None = on_self c
on_mark c k down (Some d) = on_same c (marked_down c k down (Some d)) refl refl refl (omega arith) (omega arith) (λ s low e. refl)

on_left : (c : Cluster) (b : Bool) → IsOn c (if b then record c { leader = None; epoch = record { 0 = c.epoch.0 + 1 } } else c)
on_left c true = on_same c (record c { leader = None; epoch = record { 0 = c.epoch.0 + 1 } }) refl refl refl (omega arith) (omega arith) (λ s low e. refl)
on_left c false = on_self c

on_stop : (c : Cluster) (k : ControllerId) → IsOn c (without_leader k (with_down c k true))
on_stop c k =
    on_both c (with_down c k true) (without_leader k (with_down c k true)) (on_mark c k true (slice_get c.controllers k.0))
    (on_left (with_down c k true) (is_leader k (with_down c k true).leader))

on_step : (c : Cluster) (step : Admin) → ((s : SessionId) → count (is_session s) c.live ≤ 1) → IsOn c (after c step)
on_step c (steps.Join i) numbers = on_join c i
on_step c (steps.End i) numbers = on_end c (live_of c.live i)
on_step c (steps.Beat i) numbers = on_beat c i (live_of c.live i) numbers refl
on_step c (steps.Tick n) numbers =
    let later : Cluster = record c { clock = c.clock + n } in
    on_both c later (after c (steps.Tick n)) (on_same c later refl refl refl (omega arith) (omega arith) (λ s low e. refl)) (on_all later (ended_by c n))
on_step c (steps.Add name model ideal) numbers = on_add c (new_resource name model ideal)
on_step c (steps.Drop r) numbers = on_edit c r (λ x. record x { dropped = true }) (resource_at c.resources r) refl kind-self replicas-self
on_step c (steps.SetList p list) numbers =
    on_edit c p.resource (λ x. with_mode x (put_list x.ideal.mode p.index list)) (resource_at c.resources p.resource) refl kind-self replicas-self
on_step c (steps.SetMap p map) numbers =
    on_edit c p.resource (λ x. with_mode x (put_map x.ideal.mode p.index map)) (resource_at c.resources p.resource) refl kind-self replicas-self
on_step c (steps.Reset i p) numbers = on_asked c p (live_of c.live i)
on_step c (steps.Stop k) numbers = on_stop c k
on_step c (steps.Start k) numbers = on_mark c k false (slice_get c.controllers k.0)
on_step c (steps.Drain i) numbers = on_same c (after c (steps.Drain i)) refl refl refl (omega arith) (omega arith) (λ s low e. refl)
on_step c (steps.Undrain i) numbers = on_same c (after c (steps.Undrain i)) refl refl refl (omega arith) (omega arith) (λ s low e. refl)
on_step c (steps.Lead k) numbers = on_same c (after c (steps.Lead k)) refl refl refl (omega arith) (omega arith) (λ s low e. refl)

-- passes, proposals and messages
on_raised : (c : Cluster) (k : ControllerId) (o : Option (Bool × PassNo)) → IsOn c (raised_pass c k o)
on_raised c k None = on_self c
on_raised c k (Some d) = on_same c (raised_pass c k (Some d)) refl refl refl (omega arith) (omega arith) (λ s low e. refl)

pub on_placed : (c : Cluster) (q : Proposal) (a : Placed) → IsOn c (after_placed c q a)
on_placed c q (placings.Sent id) = on_same c (after_placed c q (placings.Sent id)) refl refl refl (omega arith) (omega arith) (λ s low e. refl)
on_placed c q _ = on_self c

on_proposals : (c : Cluster) (qs : List Proposal) → IsOn c (after_proposals c qs)
on_proposals c [] = on_self c
on_proposals c (q ∷ qs) = on_both c (after_proposal c q) (after_proposals (after_proposal c q) qs) (on_placed c q (placed_of c q)) (on_proposals (after_proposal c q) qs)

on_written : (c : Cluster) (s : SessionId) (id : MsgId) (outcome : Outcome) (o : Option Message) → IsOn c (written_of c s id outcome o)
on_written c s id outcome None = on_self c
on_written c s id outcome (Some m) = on_same c (written_of c s id outcome (Some m)) refl refl refl (omega arith) (omega arith) (λ s low e. refl)

pub on_next : (c : Cluster) (e : Event) → ((s : SessionId) → count (is_session s) c.live ≤ 1) → IsOn c (next c e)
on_next c (events.Admin step did) numbers = on_step c step numbers
on_next c (events.Begin k begun) numbers = on_raised c k (slice_get c.controllers k.0)
on_next c (events.Dispatch k epoch pass proposals answer) numbers =
    on_both c (next_pass c k) (after_proposals (next_pass c k) proposals) (on_raised c k (slice_get c.controllers k.0)) (on_proposals (next_pass c k) proposals)
on_next c (events.Write s id outcome) numbers = on_written c s id outcome (pending_of c s id)
on_next c e numbers = on_same c (next c e) refl refl refl (omega arith) (omega arith) (λ s low w. refl)
