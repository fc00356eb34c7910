-- What a turn of the board sends and posts is what the board has.
use Rattle.std.proofs.Common.{◌≡◌, ◌<◌, ◌≤◌, ◌&&◌, ℕ, Bool, true, false, List, length, sym, ap, ◌∙◌, subst, arith}
use Rattle.std.specs.List.{list_all}
use Rattle.hx_cluster.specs.declared.description.Spec.{Spec}
use Rattle.hx_cluster.specs.declared.planning.Plan.{Plan}
use Rattle.hx_cluster.specs.declared.planning.Report.{Report}
use Rattle.std.specs.Prelude.{◌^◌, Result, Ok, Err, IfOk}
use Rattle.std.specs.declared.alloc.AllocError.{AllocError}
use Rattle.hx_cluster.specs.declared.planning.View.{View}
use Rattle.hx_ids.specs.declared.ControllerId.{ControllerId}
use Rattle.hx_cluster.specs.declared.state.Cluster.{Cluster}
use Rattle.hx_cluster.specs.declared.happenings.Proposal.{Proposal}
use Rattle.hx_cluster.specs.declared.happenings.Dispatched.{Dispatched}
use Rattle.hx_cluster.specs.declared.happenings.Seen.{Seen}
use Rattle.hx_cluster.specs.Messages.{next_pass}
use Rattle.hx_cluster.specs.Events.{is_proposable, is_postable, dispatched_of}
use Rattle.hx_cluster.specs.Views.{is_well_formed}
use Rattle.hx_lists.specs.Lists.{numbers_below}
use Rattle.hx_gen.specs.Modelled.{has_models}
use Rattle.hx_gen.proofs.Modelled.{well_formed-modelled}
use Rattle.hx_pass.specs.Plans.{plan}
use Rattle.hx_pass.specs.Turns.{posted_of}
use Rattle.hx_board.specs.Board.{Held, HasHistory}
use Rattle.hx_control.specs.Steps.{has_parts_of, is_of_cluster}
use Rattle.hx_control.proofs.Proposed.{HasGiven, proposed, posted}
use Rattle.hx_control.proofs.Given.{given, instances_given}
use Rattle.hx_calls.proofs.Placing.{placed_each}

given_of : (spec : Spec) (b : Held) → HasHistory b → b.spec ≡ spec → HasGiven spec b.cluster
given_of spec b told same = subst (λ (s : Spec). HasGiven s b.cluster) same (given b told)

pub proposals_fit : (spec : Spec) (b : Held) (p : Plan) (view : View) → HasHistory b → b.spec ≡ spec → p.proposals ≡ (plan spec.models spec.rules view).proposals
    → is_of_cluster spec b.cluster view ≡ true → list_all (is_proposable b.cluster) p.proposals ≡ true
proposals_fit spec b p view told same is of =
    subst (λ (qs : List Proposal). list_all (is_proposable b.cluster) qs ≡ true) (sym is) (proposed spec b.cluster view (given_of spec b told same) of)

-- a length that fits 32 bits
pub few_of : (n m : ℕ) → n ≡ m → n ≤ 4294967295 → m < 2 ^ 32
few_of n m same few = omega (arith, same, few)

-- each of a few proposals gets one answer
pub placed_few : (c : Cluster) (k : ControllerId) (ps : List Proposal) (answer : Dispatched) → answer ≡ dispatched_of c k ps → length ps < 2 ^ 32 → length answer.placed < 2 ^ 32
placed_few c k ps answer is few =
    subst (λ (n : ℕ). n < 2 ^ 32) (sym (ap (λ (d : Dispatched). length d.placed) is ∙ placed_each (next_pass c k) ps)) few

pub rows_fit : (spec : Spec) (b : Held) (rows : List Seen) (view : View) → HasHistory b → b.spec ≡ spec → rows ≡ posted_of view
    → is_of_cluster spec b.cluster view ≡ true → list_all (is_postable b.cluster) rows ≡ true
rows_fit spec b rows view told same is of =
    subst (λ (rs : List Seen). list_all (is_postable b.cluster) rs ≡ true) (sym is) (posted spec b.cluster view (given_of spec b told same) of)

pub view_unformed : (spec : Spec) (b : Held) (view : View) → HasHistory b → b.spec ≡ spec → is_well_formed spec.models (length spec.instances) view ≡ false
    → is_of_cluster spec b.cluster view ≡ false
view_unformed spec b view told same bad =
    let many : length b.cluster.instances ≡ length spec.instances = instances_given b told ∙ ap (λ (s : Spec). length s.instances) same in
    ap (λ (formed : Bool). formed && list_all (has_parts_of b.cluster view) (numbers_below (length view.ideals.resources)))
    (subst (λ (n : ℕ). is_well_formed spec.models n view ≡ false) (sym many) bad)

-- the resources of a view of the board have models of its description
pub of_cluster_modelled : (spec : Spec) (c : Cluster) (view : View) → is_of_cluster spec c view ≡ true → has_models spec.models view ≡ true
of_cluster_modelled spec c view of =
    well_formed-modelled spec.models (length c.instances) view
    (first (is_well_formed spec.models (length c.instances) view) (list_all (has_parts_of c view) (numbers_below (length view.ideals.resources))) of)
  where
    first : (a b : Bool) → (a && b) ≡ true → a ≡ true
    first a b both = grind (arith, both)

-- a report is the one that is told where it is told at all
pub report_if : (r : Result Report AllocError) (of : Report) (A B : Type 0) → IfOk r (λ report. report ≡ of) → IfOk r (λ report. A → B → report ≡ of)
report_if (Ok report) of A B is = λ a b. is
report_if (Err e) of A B is = tt
