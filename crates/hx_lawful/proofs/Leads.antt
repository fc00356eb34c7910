-- Who leads, in which epoch, and in which pass, as events happen.
use Rattle.std.proofs.Common.{◌≡◌, ℕ, zero, suc, ◌+◌, ◌≤◌, ◌==◌, Bool, true, false, List, [], ◌∷◌, length, Option, Some, None, ◌⊎◌, inl, inr, refl, sym, ap, ◌∙◌, arith}
use Rattle.std.specs.Prelude.{if◌then◌else◌, nat_lt, slice_get, slice_set}
use Rattle.std.specs.Option.{option_map_or}
use Rattle.std.proofs.lemmas.Bool.Decides.{nat_tests}
use Rattle.hx_ids.specs.declared.ControllerId.{ControllerId}
use Rattle.hx_ids.specs.declared.Epoch.{Epoch}
use Rattle.hx_ids.specs.declared.ResourceId.{ResourceId}
use Rattle.hx_ids.specs.declared.SessionId.{SessionId}
use Rattle.hx_ids.specs.declared.MsgId.{MsgId}
use Rattle.hx_ids.specs.declared.PartId.{PartId}
use Rattle.hx_ids.specs.declared.PassNo.{PassNo}
use Rattle.hx_ids.specs.declared.Live.{Live}
use Rattle.hx_ideal.specs.IdealState.{put_list, put_map}
use Rattle.hx_cluster.specs.declared.description.Resource.{Resource}
use Rattle.hx_cluster.specs.declared.state.Message.{Message}
use Rattle.hx_cluster.specs.declared.state.Cluster.{Cluster}
use Rattle.hx_cluster.specs.declared.happenings.Placed.{Placed}
use Rattle.hx_cluster.specs.declared.happenings.Placed.TheVariants as placings
use Rattle.hx_cluster.specs.declared.happenings.Proposal.{Proposal}
use Rattle.hx_cluster.specs.declared.happenings.Outcome.{Outcome}
use Rattle.hx_cluster.specs.declared.happenings.Admin.{Admin}
use Rattle.hx_cluster.specs.declared.happenings.Admin.TheVariants as steps
use Rattle.hx_cluster.specs.declared.happenings.Event.{Event}
use Rattle.hx_cluster.specs.declared.happenings.Event.TheVariants as events
use Rattle.hx_cluster.specs.Ends.{resource_at}
use Rattle.hx_cluster.specs.Steps.{refusal_of, lead_fault, after, ended_by, live_of, without, without_all, ended_of, beaten_of, changed_at, asked_of, marked_down, with_down, is_leader, with_mode, has_controller}
use Rattle.hx_cluster.specs.Messages.{placed_of, after_placed, after_proposal, after_proposals, raised_pass, next_pass, pending_of, written_of}
use Rattle.hx_cluster.specs.Reads.{pass_of}
use Rattle.hx_cluster.specs.Events.{next, IsStep}
use Rattle.hx_safe.proofs.Resources.{get-set}
use Rattle.hx_safe.proofs.Sessions.{mark-other}

-- leader, epoch and controllers stay
record KeepsLead (c d : Cluster) : Type 0 where
  leader : d.leader ≡ c.leader
  epoch : d.epoch ≡ c.epoch
  controllers : d.controllers ≡ c.controllers

keeps_self : (c : Cluster) → KeepsLead c c
keeps_self c = record { leader = refl; epoch = refl; controllers = refl }

keeps_both : {b c d : Cluster} → KeepsLead b c → KeepsLead c d → KeepsLead b d
keeps_both one two = record { leader = two.leader ∙ one.leader; epoch = two.epoch ∙ one.epoch; controllers = two.controllers ∙ one.controllers }

keeps_all : (c : Cluster) (ss : List SessionId) → KeepsLead c (without_all c ss)
keeps_all c [] = keeps_self c
keeps_all c (s ∷ ss) =
    let first : KeepsLead c (without c s) = record { leader = refl; epoch = refl; controllers = refl } in
    keeps_both first (keeps_all (without c s) ss)

keeps_end : (c : Cluster) (o : Option Live) → KeepsLead c (ended_of c o)
keeps_end c None = keeps_self c
keeps_end c (Some l) = record { leader = refl; epoch = refl; controllers = refl }

keeps_beat : (c : Cluster) (o : Option Live) → KeepsLead c (beaten_of c o)
keeps_beat c None = keeps_self c
keeps_beat c (Some l) = record { leader = refl; epoch = refl; controllers = refl }

keeps_edit : (c : Cluster) (r : ResourceId) (f : Resource → Resource) (o : Option Resource) → KeepsLead c (changed_at c r f o)
keeps_edit c r f None = keeps_self c
keeps_edit c r f (Some x) = record { leader = refl; epoch = refl; controllers = refl }

keeps_asked : (c : Cluster) (p : PartId) (o : Option Live) → KeepsLead c (asked_of c p o)
keeps_asked c p None = keeps_self c
keeps_asked c p (Some l) = record { leader = refl; epoch = refl; controllers = refl }

keeps_placed : (c : Cluster) (q : Proposal) (a : Placed) → KeepsLead c (after_placed c q a)
keeps_placed c q (placings.Sent id) = record { leader = refl; epoch = refl; controllers = refl }
keeps_placed c q _ = keeps_self c

-- what each proposal does to a cluster, all of them do
pub along_proposals : (R : Cluster → Cluster → Type 0) → ((c : Cluster) → R c c) → ((b c d : Cluster) → R b c → R c d → R b d) → ((c : Cluster) (q : Proposal) (a : Placed) → R c (after_placed c q a))
    → (c : Cluster) (qs : List Proposal) → R c (after_proposals c qs)
along_proposals R self both placed c [] = self c
along_proposals R self both placed c (q ∷ qs) = both c (after_proposal c q) (after_proposals (after_proposal c q) qs) (placed c q (placed_of c q)) (along_proposals R self both placed (after_proposal c q) qs)

keeps_written : (c : Cluster) (s : SessionId) (id : MsgId) (outcome : Outcome) (o : Option Message) → KeepsLead c (written_of c s id outcome o)
keeps_written c s id outcome None = keeps_self c
keeps_written c s id outcome (Some m) = record { leader = refl; epoch = refl; controllers = refl }

-- an event leaves the leader and the epoch, or raises the epoch, or makes a leader where there was none
abbrev pub LeadCase : Cluster → Cluster → Type 0
LeadCase c d = ((d.leader ≡ c.leader) × (d.epoch ≡ c.epoch)) ⊎ ((c.epoch.0 + 1 ≤ d.epoch.0) ⊎ ((c.leader ≡ None) × (d.epoch ≡ c.epoch)))

case_keeps : (c d : Cluster) → KeepsLead c d → LeadCase c d
case_keeps c d k = inl (k.leader, k.epoch)

case_mark : (c : Cluster) (k : ControllerId) (down : Bool) (o : Option (Bool × PassNo)) → ((marked_down c k down o).leader ≡ c.leader) × ((marked_down c k down o).epoch ≡ c.epoch)
case_mark c k down None = (refl, refl)
case_mark c k down (Some d) = (refl, refl)

case_left : (c d : Cluster) (b : Bool) → (d.leader ≡ c.leader) × (d.epoch ≡ c.epoch) → LeadCase c (if b then record d { leader = None; epoch = record { 0 = d.epoch.0 + 1 } } else d)
case_left c d true same = let e : d.epoch.0 ≡ c.epoch.0 = ap (λ (x : Epoch). x.0) same.1 in inr (inl (omega (arith, e)))
case_left c d false same = inl same

case_lead : (c : Cluster) (k : ControllerId) → lead_fault c k c.leader ≡ None → LeadCase c (record c { leader = Some k })
case_lead c k free = one c.leader refl free
  where
    one : (o : Option ControllerId) → c.leader ≡ o → lead_fault c k o ≡ None → LeadCase c (record c { leader = Some k })
    one (Some l) is e = cc
    one None is e = inr (inr (is, refl))

case_step : (c : Cluster) (step : Admin) → refusal_of c step ≡ None → LeadCase c (after c step)
case_step c (steps.End i) free = case_keeps c (after c (steps.End i)) (keeps_end c (live_of c.live i))
case_step c (steps.Beat i) free = case_keeps c (after c (steps.Beat i)) (keeps_beat c (live_of c.live i))
case_step c (steps.Tick n) free =
    let later : KeepsLead c (record c { clock = c.clock + n }) = record { leader = refl; epoch = refl; controllers = refl } in
    case_keeps c (after c (steps.Tick n)) (keeps_both later (keeps_all (record c { clock = c.clock + n }) (ended_by c n)))
case_step c (steps.Drop r) free = case_keeps c (after c (steps.Drop r)) (keeps_edit c r (λ x. record x { dropped = true }) (resource_at c.resources r))
case_step c (steps.SetList p list) free =
    case_keeps c (after c (steps.SetList p list)) (keeps_edit c p.resource (λ x. with_mode x (put_list x.ideal.mode p.index list)) (resource_at c.resources p.resource))
case_step c (steps.SetMap p map) free =
    case_keeps c (after c (steps.SetMap p map)) (keeps_edit c p.resource (λ x. with_mode x (put_map x.ideal.mode p.index map)) (resource_at c.resources p.resource))
case_step c (steps.Reset i p) free = case_keeps c (after c (steps.Reset i p)) (keeps_asked c p (live_of c.live i))
case_step c (steps.Lead k) free = case_lead c k free
case_step c (steps.Stop k) free = case_left c (with_down c k true) (is_leader k (with_down c k true).leader) (case_mark c k true (slice_get c.controllers k.0))
case_step c (steps.Start k) free = inl (case_mark c k false (slice_get c.controllers k.0))
case_step c _ free = inl (refl, refl)

case_raised : (c : Cluster) (k : ControllerId) (o : Option (Bool × PassNo)) → ((raised_pass c k o).leader ≡ c.leader) × ((raised_pass c k o).epoch ≡ c.epoch)
case_raised c k None = (refl, refl)
case_raised c k (Some d) = (refl, refl)

pub case_next : (c : Cluster) (e : Event) → IsStep c e → LeadCase c (next c e)
case_next c (events.Admin step did) legal = case_step c step legal.1
case_next c (events.Begin k begun) legal = inl (case_raised c k (slice_get c.controllers k.0))
case_next c (events.Dispatch k epoch pass proposals answer) legal =
    let one = case_raised c k (slice_get c.controllers k.0) in
    let two = along_proposals KeepsLead keeps_self (λ b c d one two. keeps_both one two) keeps_placed (next_pass c k) proposals in
    inl (two.leader ∙ one.0, two.epoch ∙ one.1)
case_next c (events.Write s id outcome) legal = case_keeps c (next c (events.Write s id outcome)) (keeps_written c s id outcome (pending_of c s id))
case_next c _ legal = inl (refl, refl)

-- the pass of a controller
pass_keeps : (c d : Cluster) (k : ControllerId) → KeepsLead c d → pass_of d k ≡ pass_of c k
pass_keeps c d k keeps = ap (λ (xs : List (Bool × PassNo)). option_map_or (λ x. x.1) (slice_get xs k.0) (record { 0 = 0 })) keeps.controllers

pass_mark : (c : Cluster) (j k : ControllerId) (down : Bool) (o : Option (Bool × PassNo)) → slice_get c.controllers j.0 ≡ o → pass_of (marked_down c j down o) k ≡ pass_of c k
pass_mark c j k down None is = refl
pass_mark c j k down (Some d) is = get-set (λ (x : Bool × PassNo). x.1) (record { 0 = 0 }) c.controllers j.0 d (down, d.1) is refl k.0

pass_left : (c : Cluster) (k : ControllerId) (b : Bool) → pass_of (if b then record c { leader = None; epoch = record { 0 = c.epoch.0 + 1 } } else c) k ≡ pass_of c k
pass_left c k true = refl
pass_left c k false = refl

pass_step : (c : Cluster) (step : Admin) (k : ControllerId) → pass_of (after c step) k ≡ pass_of c k
pass_step c (steps.End i) k = pass_keeps c (after c (steps.End i)) k (keeps_end c (live_of c.live i))
pass_step c (steps.Beat i) k = pass_keeps c (after c (steps.Beat i)) k (keeps_beat c (live_of c.live i))
pass_step c (steps.Tick n) k =
    let later : KeepsLead c (record c { clock = c.clock + n }) = record { leader = refl; epoch = refl; controllers = refl } in
    pass_keeps c (after c (steps.Tick n)) k (keeps_both later (keeps_all (record c { clock = c.clock + n }) (ended_by c n)))
pass_step c (steps.Drop r) k = pass_keeps c (after c (steps.Drop r)) k (keeps_edit c r (λ x. record x { dropped = true }) (resource_at c.resources r))
pass_step c (steps.SetList p list) k =
    pass_keeps c (after c (steps.SetList p list)) k (keeps_edit c p.resource (λ x. with_mode x (put_list x.ideal.mode p.index list)) (resource_at c.resources p.resource))
pass_step c (steps.SetMap p map) k =
    pass_keeps c (after c (steps.SetMap p map)) k (keeps_edit c p.resource (λ x. with_mode x (put_map x.ideal.mode p.index map)) (resource_at c.resources p.resource))
pass_step c (steps.Reset i p) k = pass_keeps c (after c (steps.Reset i p)) k (keeps_asked c p (live_of c.live i))
pass_step c (steps.Stop j) k =
    pass_left (with_down c j true) k (is_leader j (with_down c j true).leader) ∙ pass_mark c j k true (slice_get c.controllers j.0) refl
pass_step c (steps.Start j) k = pass_mark c j k false (slice_get c.controllers j.0) refl
pass_step c _ k = refl

pass_raised : (c : Cluster) (j k : ControllerId) (o : Option (Bool × PassNo)) → (k.0 == j.0) ≡ false → pass_of (raised_pass c j o) k ≡ pass_of c k
pass_raised c j k None ne = refl
pass_raised c j k (Some d) ne = ap (λ o. option_map_or (λ (x : Bool × PassNo). x.1) o (record { 0 = 0 })) (mark-other c.controllers j.0 k.0 (d.0, record { 0 = d.1.0 + 1 }) ne)

-- a begin or a dispatch of the controller itself
abbrev pub ends_pass : ControllerId → Event → Bool
ends_pass k (events.Begin j begun) = k.0 == j.0
ends_pass k (events.Dispatch j epoch pass proposals answer) = k.0 == j.0
ends_pass k _ = false

pub pass_next : (c : Cluster) (e : Event) (k : ControllerId) → ends_pass k e ≡ false → pass_of (next c e) k ≡ pass_of c k
pass_next c (events.Admin step did) k ne = pass_step c step k
pass_next c (events.Begin j begun) k ne = pass_raised c j k (slice_get c.controllers j.0) ne
pass_next c (events.Dispatch j epoch pass proposals answer) k ne =
    pass_keeps (next_pass c j) (after_proposals (next_pass c j) proposals) k (along_proposals KeepsLead keeps_self (λ b c d one two. keeps_both one two) keeps_placed (next_pass c j) proposals) ∙ pass_raised c j k (slice_get c.controllers j.0) ne
pass_next c (events.Write s id outcome) k ne = pass_keeps c (next c (events.Write s id outcome)) k (keeps_written c s id outcome (pending_of c s id))
pass_next c _ k ne = refl

-- its own raises it
get-here : {X : Type 0} (xs : List X) (n : ℕ) (x y : X) → slice_get xs n ≡ Some x → slice_get (slice_set xs n y) n ≡ Some y
get-here [] n x y e = cc
get-here (z ∷ xs) zero x y e = refl
get-here (z ∷ xs) (suc n) x y e = get-here xs n x y e

get-none : {X : Type 0} (xs : List X) (n : ℕ) → slice_get xs n ≡ None → nat_lt n (length xs) ≡ false
get-none [] n e = grind (arith, nat_tests)
get-none (x ∷ xs) zero e = cc
get-none (x ∷ xs) (suc n) e = let rest = get-none xs n e in grind (arith, nat_tests, rest)

pub pass_own : (c : Cluster) (k : ControllerId) (proposals : List Proposal) → has_controller c k ≡ true → (pass_of (after_proposals (next_pass c k) proposals) k).0 ≡ (pass_of c k).0 + 1
pass_own c k proposals has = ap (λ (p : PassNo). p.0) (pass_keeps (next_pass c k) (after_proposals (next_pass c k) proposals) k (along_proposals KeepsLead keeps_self (λ b c d one two. keeps_both one two) keeps_placed (next_pass c k) proposals)) ∙ one (slice_get c.controllers k.0) refl
  where
    one : (o : Option (Bool × PassNo)) → slice_get c.controllers k.0 ≡ o → (pass_of (raised_pass c k o) k).0 ≡ (pass_of c k).0 + 1
    one None is = let both = sym (get-none c.controllers k.0 is) ∙ has in cc
    one (Some d) is =
        let new = ap (λ o. (option_map_or (λ (x : Bool × PassNo). x.1) o (record { 0 = 0 })).0) (get-here c.controllers k.0 d (d.0, record { 0 = d.1.0 + 1 }) is) in
        let old = ap (λ o. (option_map_or (λ (x : Bool × PassNo). x.1) o (record { 0 = 0 })).0 + 1) is in
        new ∙ sym old
