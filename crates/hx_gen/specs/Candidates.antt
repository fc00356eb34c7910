-- The next transitions of the replicas that aren't at their goals.
use Rattle.std.specs.Prelude.{ℕ, Bool, ◌==◌, ◌&&◌, ◌||◌, nat_lt, List, Option, None, option_map, unwrap_or, if◌then◌else◌}
use Rattle.std.specs.List.{filter_map}
use Rattle.std.specs.Option.{is_some}
use Rattle.hx_lists.specs.Lists.{sort_by}
use Rattle.hx_model.specs.declared.ModelParts.{ModelParts}
use Rattle.hx_model.specs.Model.{rank_of}
use Rattle.hx_hops.specs.Hops.{hop}
use Rattle.hx_cluster.specs.declared.planning.View.{View}
use Rattle.hx_cluster.specs.declared.planning.Target.{Target}
use Rattle.hx_cluster.specs.declared.planning.Candidate.{Candidate}
use Rattle.hx_cluster.specs.Ends.{message_of, model_of}
pub use Rattle.hx_best.specs.Still.{is_at_goal}

-- the transition towards the goal, of a replica that has no message and isn't at its goal
abbrev pub hop_of : ModelParts → Target → Option Candidate
hop_of m t =
    let from = unwrap_or t.state m.initial in
    option_map (λ to. record { session = t.session; instance = t.instance; part = t.part; from = from; to = to; place = t.place }) (hop m from t.goal)

abbrev pub candidate_of : List ModelParts → View → Target → Option Candidate
candidate_of models view t =
    let m = model_of models view.ideals.resources t.part.resource in
    if is_some (message_of view.mail t.session t.part) || is_at_goal m t then None else hop_of m t

-- the order of candidates: by part, then rank, then place, then instance
abbrev pub less_or_then : ℕ → ℕ → Bool → Bool
less_or_then a b rest = nat_lt a b || ((a == b) && rest)

abbrev pub rank_in : List ModelParts → View → Candidate → ℕ
rank_in models view c = rank_of (model_of models view.ideals.resources c.part.resource) c.from c.to

abbrev pub comes_before : List ModelParts → View → Candidate → Candidate → Bool
comes_before models view a b =
    less_or_then a.part.resource.0 b.part.resource.0 (
    less_or_then a.part.index b.part.index (
    less_or_then (rank_in models view a) (rank_in models view b) (
    less_or_then a.place b.place (nat_lt a.instance.0 b.instance.0))))

abbrev pub candidates : List ModelParts → View → List Target → List Candidate
candidates models view targets = sort_by (comes_before models view) (filter_map (candidate_of models view) targets)
