-- A plan is the same of two views in which its look-ups are.
use Rattle.std.proofs.Common.{◌≡◌, ℕ, ◌+◌, ◌||◌, ◌&&◌, ◌==◌, not, true, List, [], ◌∷◌, length, map, filter, Some, None, refl}
use Rattle.std.specs.Prelude.{if◌then◌else◌, nat_lt, nat_le, unwrap_or}
use Rattle.std.specs.List.{list_any, flat_map, filter_map}
use Rattle.std.specs.Option.{option_map, option_map_or, option_to_list, is_some}
use Rattle.hx_lists.specs.Lists.{count, sort_by, numbers_below}
use Rattle.hx_lists.specs.Choices.{chosen_of, left_after}
use Rattle.hx_ids.specs.declared.InstanceId.{InstanceId}
use Rattle.hx_ids.specs.declared.ResourceId.{ResourceId}
use Rattle.hx_ids.specs.declared.StateId.{StateId}
use Rattle.hx_ids.specs.declared.SessionId.{SessionId}
use Rattle.hx_ids.specs.declared.PartId.{PartId}
use Rattle.hx_model.specs.declared.ModelParts.{ModelParts}
use Rattle.hx_cluster.specs.declared.description.Resource.{Resource}
use Rattle.hx_cluster.specs.declared.description.Rule.{Rule}
use Rattle.hx_cluster.specs.declared.state.Row.{Row}
use Rattle.hx_cluster.specs.declared.state.Message.{Message}
use Rattle.hx_cluster.specs.declared.planning.Ideals.{Ideals}
use Rattle.hx_cluster.specs.declared.planning.View.{View}
use Rattle.hx_cluster.specs.declared.planning.Target.{Target}
use Rattle.hx_cluster.specs.declared.planning.Candidate.{Candidate}
use Rattle.hx_cluster.specs.declared.planning.Finding.TheVariants as findings
use Rattle.hx_cluster.specs.Ends.{state_of, row_of, message_of, row_at, message_at, has_end, model_of, resource_at, matches, load_over}
use Rattle.hx_cluster.specs.Steps.{is_error}
use Rattle.hx_best.specs.Wants.{wants_of, is_wanted, place_in, by_instance}
use Rattle.hx_best.specs.Goals.{goal}
use Rattle.hx_best.specs.Targets.{target, targets_at, targets, all_targets}
use Rattle.hx_gen.specs.Candidates.{is_at_goal, hop_of, candidate_of, comes_before}
use Rattle.hx_select.specs.Selection.{shown_sessions, goes_to, filling, limit_for, has_room, full}
use Rattle.hx_throttle.specs.Throttle.{key_for, counts_too, holds_back, is_sent, held_by}
use Rattle.hx_report.specs.Findings.{is_failed, fate_of, finding_of}
use Rattle.hx_pass.specs.Plans.{all_candidates, selection_of, throttled_of, proposal, plan}
use Rattle.hx_settled.proofs.Goals.{wants, goals}

-- two views with the same sessions and ideals, in which each replica has the same row and the same message, and each rule the same loads
module _ (models : List ModelParts) (rules : List Rule) (live : List (SessionId × InstanceId)) (ideals : Ideals) (mail_v mail_w : List Message) (rows_v rows_w : List Row)
    (rows : (s : SessionId) (p : PartId) → row_of rows_v s p ≡ row_of rows_w s p) (messages : (s : SessionId) (p : PartId) → message_of mail_v s p ≡ message_of mail_w s p)
    (loads : (r : Rule) (key : ℕ) → load_over live mail_v r key ≡ load_over live mail_w r key) where
  abbrev pub v : View
  v = record { live = live; mail = mail_v; rows = rows_v; ideals = ideals }

  abbrev pub w : View
  w = record { live = live; mail = mail_w; rows = rows_w; ideals = ideals }

  -- targets
  errors : (s : SessionId) (p : PartId) → is_error (state_of rows_v s p) ≡ is_error (state_of rows_w s p)
  errors s p i = is_error (option_map (λ r. r.state) (rows s p i))

  wanted_same : (r : Resource) (k : ℕ) → wants_of v r k ≡ wants_of w r k
  wanted_same = wants models live ideals mail_v mail_w rows_v rows_w errors

  goals_same : (r : Resource) (p : PartId) (s : SessionId) (j : InstanceId) → goal models v r p s j ≡ goal models w r p s j
  goals_same = goals models live ideals mail_v mail_w rows_v rows_w errors

  target_same : (r : Resource) (p : PartId) (e : SessionId × InstanceId) → target models v r p e ≡ target models w r p e
  target_same r p e i = record {
    session = e.0;
    instance = e.1;
    part = p;
    state = option_map (λ x. x.state) (rows e.0 p i);
    goal = goals_same r p e.0 e.1 i;
    place = if r.dropped then 0 else place_in (wanted_same r p.index i) e.1;
  }

  targets_of_part : (r : Resource) (p : PartId) → targets_at models v r p ≡ targets_at models w r p
  targets_of_part r p i = map (λ e. target_same r p e i) (filter (λ e. is_some (rows e.0 p i) || is_wanted (wanted_same r p.index i) e.1) (by_instance live))

  targets_of : (n : ResourceId) → targets models v n ≡ targets models w n
  targets_of n i = option_map_or (λ r. flat_map (λ k. targets_of_part r (record { resource = n; index = k }) i) (numbers_below r.ideal.parts)) (resource_at ideals.resources n) []

  targets_same : all_targets models v ≡ all_targets models w
  targets_same i = flat_map (λ n. targets_of (record { 0 = n }) i) (numbers_below (length ideals.resources))

  -- candidates
  candidate_same : (t : Target) → candidate_of models v t ≡ candidate_of models w t
  candidate_same t i =
      if is_some (messages t.session t.part i) || is_at_goal (model_of models ideals.resources t.part.resource) t then None
      else hop_of (model_of models ideals.resources t.part.resource) t

  candidates_same : all_candidates models v ≡ all_candidates models w
  candidates_same i = sort_by (comes_before models w) (filter_map (λ t. candidate_same t i) (targets_same i))

  -- bounds
  ends : (p : PartId) (t : StateId) (s : SessionId) → has_end rows_v mail_v p t s ≡ has_end rows_w mail_w p t s
  ends p t s i = row_at t (rows s p i) || message_at t (messages s p i)

  fillings : (accepted : List Candidate) (x : Candidate) → filling v accepted x ≡ filling w accepted x
  fillings accepted x i = length (filter (λ s. ends x.part x.to s i) (shown_sessions w)) + count (goes_to x.part x.to) accepted

  room : (accepted : List Candidate) (x : Candidate) → has_room models v accepted x ≡ has_room models w accepted x
  room accepted x i = option_map_or (nat_lt (fillings accepted x i)) (limit_for models w x) true

  full_same : (accepted : List Candidate) (x : Candidate) → full models v accepted x ≡ full models w accepted x
  full_same accepted x i = record {
    candidate = x;
    count = fillings accepted x i;
    bound = unwrap_or (limit_for models w x) 0;
    holders = filter (λ s. ends x.part x.to s i || list_any (λ a. goes_to x.part x.to a && (a.session.0 == s.0)) accepted) (shown_sessions w);
  }

  selected : selection_of models v ≡ selection_of models w
  selected i = record {
    accepted = chosen_of (λ accepted x. room accepted x i) (candidates_same i);
    full = left_after (λ accepted x. room accepted x i) (λ accepted x. full_same accepted x i ∷ []) [] (candidates_same i);
  }

  -- throttles
  held_back : (sent : List Candidate) (x : Candidate) (r : Rule) → holds_back v sent x r ≡ holds_back w sent x r
  held_back sent x r i = matches r x.from x.to && nat_le r.limit (loads r (key_for w r x) i + count (counts_too w r (key_for w r x)) sent)

  sent_same : (sent : List Candidate) (x : Candidate) → is_sent rules v sent x ≡ is_sent rules w sent x
  sent_same sent x i = not (list_any (λ r. held_back sent x r i) rules)

  held_same : (rs : List Rule) (n : ℕ) (sent : List Candidate) (x : Candidate) → held_by rs n v sent x ≡ held_by rs n w sent x
  held_same [] n sent x = refl
  held_same (r ∷ rs) n sent x =
      let rest = held_same rs (n + 1) sent x in
      λ i. if held_back sent x r i
      then Some (record { candidate = x; rule = n; load = loads r (key_for w r x) i + count (counts_too w r (key_for w r x)) sent; limit = r.limit })
      else rest i

  throttled_same : throttled_of models rules v ≡ throttled_of models rules w
  throttled_same i = record {
    sent = chosen_of (λ sent x. sent_same sent x i) (selected i).accepted;
    held = left_after (λ sent x. sent_same sent x i) (λ sent x. option_to_list (held_same rules 0 sent x i)) [] (selected i).accepted;
  }

  -- findings
  finding_same : (t : Target) → finding_of v (selection_of models v) (throttled_of models rules v) t ≡ finding_of w (selection_of models w) (throttled_of models rules w) t
  finding_same t i =
      if is_failed w t then findings.Failed
      else option_map_or (λ m. findings.Pending m.id) (messages t.session t.part i) (fate_of (selected i) (throttled_same i) t)

  pub plan_same : plan models rules v ≡ plan models rules w
  plan_same i = record {
    proposals = map proposal (throttled_same i).sent;
    report = record { entries = map (λ t. record { target = t; finding = finding_same t i }) (targets_same i) };
  }
