-- What an edit that isn't refused may rely on.
use Rattle.std.proofs.Common.{◌≡◌, ℕ, List, length, ◌<◌, Bool, true, false, not, refl, Option, Some, None, subst, arith, rules}
use Rattle.std.specs.Prelude.{nat_le, if◌then◌else◌, IsSome}
use Rattle.std.proofs.lemmas.Bool.Decides.{nat_tests}
use Rattle.hx_ids.specs.declared.InstanceId.{InstanceId}
use Rattle.hx_ids.specs.declared.StateId.{StateId}
use Rattle.hx_ids.specs.declared.PartId.{PartId}
use Rattle.hx_model.specs.Model.{states_of}
use Rattle.hx_ideal.specs.Faults.{map_fault}
use Rattle.hx_ideal.specs.declared.Mode.{Mode}
use Rattle.hx_ideal.specs.declared.Mode.TheVariants as modes
use Rattle.hx_ideal.specs.declared.IdealFault.{IdealFault}
use Rattle.hx_ideal.specs.IdealState.{lists_of, maps_of}
use Rattle.hx_cluster.specs.declared.description.Resource.{Resource}
use Rattle.hx_cluster.specs.declared.happenings.StepFault.TheVariants as faults
use Rattle.hx_cluster.specs.declared.state.Cluster.{Cluster}
use Rattle.hx_cluster.specs.declared.happenings.Admin.TheVariants as steps
use Rattle.hx_cluster.specs.Ends.{resource_at, model_of}
use Rattle.hx_cluster.specs.Steps.{refusal_of, edit_fault, ideal_fault, is_semi, is_custom}

-- the mode is the one that is wanted, the part is there, and nothing is wrong with the list or map itself
pub record IsAllowed (takes : Mode → Bool) (p : PartId) (fault : Option IdealFault) (r : Resource) : Type 0 where
  pub mode : takes r.ideal.mode ≡ true
  pub part : p.index < r.ideal.parts
  pub own : fault ≡ None

pub allowed : (takes : Mode → Bool) (p : PartId) (fault : Option IdealFault) (r : Resource) → edit_fault takes p fault (Some r) ≡ None → IsAllowed takes p fault r
allowed takes p fault r e = one r.dropped (takes r.ideal.mode) refl (nat_le r.ideal.parts p.index) refl fault refl e
  where
    one : (a b : Bool) → takes r.ideal.mode ≡ b → (d : Bool) → nat_le r.ideal.parts p.index ≡ d → (f : Option IdealFault) → fault ≡ f
        → (if a then Some faults.ResourceDropped else if not b then Some faults.WrongMode else if d then Some (faults.NoPart r.ideal.parts) else ideal_fault f) ≡ None
        → IsAllowed takes p fault r
    one true b x d y f z e = cc
    one false false x d y f z e = cc
    one false true x true y f z e = cc
    one false true x false y (Some f) z e = cc
    one false true x false y None z e = record { mode = x; part = grind (arith, nat_tests, y); own = z }

pub semi_lists : (m : Mode) → is_semi m ≡ true → IsSome (lists_of m)
semi_lists modes.Full e = cc
semi_lists (modes.Semi lists) e = search rules
semi_lists (modes.Custom maps) e = cc

pub custom_maps : (m : Mode) → is_custom m ≡ true → IsSome (maps_of m)
custom_maps modes.Full e = cc
custom_maps (modes.Semi lists) e = cc
custom_maps (modes.Custom maps) e = search rules

-- a step that isn't refused lets the resource be edited
pub may_map : (c : Cluster) (p : PartId) (map given : List (InstanceId × StateId)) (n : ℕ) (states : List StateId) (x : Resource) → refusal_of c (steps.SetMap p map) ≡ None
    → resource_at c.resources p.resource ≡ Some x → n ≡ length c.instances
    → states ≡ states_of (model_of c.models c.resources p.resource) → given ≡ map
    → edit_fault is_custom p (map_fault n states p.index given) (Some x) ≡ None
may_map c p map given n states x may here instances model is =
    let P : Option Resource → Type 0 = λ o. edit_fault is_custom p (map_fault (length c.instances) (states_of (model_of c.models c.resources p.resource)) p.index map) o ≡ None in
    rw (instances, model, is) (subst P here may)
