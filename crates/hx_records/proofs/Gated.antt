-- What the kept numbers say of a proposal.
use Rattle.std.proofs.Common.{◌≡◌, ℕ, Option, Some, sym, ◌∙◌, subst}
use Rattle.std.specs.Prelude.{slice_get}
use Rattle.hx_ids.specs.declared.StateId.{StateId}
use Rattle.hx_ids.specs.declared.InstanceId.{InstanceId}
use Rattle.hx_ids.specs.declared.PartId.{PartId}
use Rattle.hx_counts.specs.Tally.{ends_of, loads_of}
use Rattle.hx_cluster.specs.declared.description.Rule.{Rule}
use Rattle.hx_cluster.specs.declared.state.Cluster.{Cluster}
use Rattle.hx_cluster.specs.declared.happenings.Proposal.{Proposal}
use Rattle.hx_cluster.specs.Ends.{count_of, limit_at, instance_in, shown_of}
use Rattle.hx_cluster.specs.Messages.{proposal_load}
use Rattle.hx_cluster.proofs.Shown.{instance_in_shown}
use Rattle.hx_slots.specs.Tallies.{key_on}
use Rattle.hx_slots.proofs.Gates.{ends_kept, load_its}
use Rattle.hx_records.specs.declared.Records.TheInside.{Inside}
use Rattle.hx_records.specs.Records.{seen, AreRecords}

pub load_here : (a : Inside) (now : Cluster) (q : Proposal) (r : Rule) (i : InstanceId) (n : ℕ) → seen a ≡ now → AreRecords a
    → slice_get now.rules n ≡ Some r → instance_in (shown_of now.live) q.session ≡ Some i
    → loads_of a.counts n (key_on r.scope i q.part) ≡ proposal_load now q r
load_here a now q r i n is h =
    subst (λ (v : Cluster). slice_get v.rules n ≡ Some r → instance_in (shown_of v.live) q.session ≡ Some i → loads_of a.counts n (key_on r.scope i q.part) ≡ proposal_load v q r) is
    (λ rule at. load_its (seen a) a.counts q i n r h.counted (sym (instance_in_shown a.sessions.live q.session) ∙ at) rule)

pub count_here : (a : Inside) (now : Cluster) (p : PartId) (t : StateId) (limit : ℕ) → seen a ≡ now → AreRecords a
    → limit_at now p t ≡ Some limit → ends_of a.counts p t ≡ count_of now p t
count_here a now p t limit is h =
    subst (λ (v : Cluster). limit_at v p t ≡ Some limit → ends_of a.counts p t ≡ count_of v p t) is
    (λ limited. ends_kept (seen a) a.counts p t limit h.counted limited)
