-- The accepted candidates of a part are those that a view with its rows and messages alone gives.
use Rattle.std.proofs.Common.{◌≡◌, ℕ, ◌∙◌, ◌||◌, nat_lt, Bool, true, false, List, [], length, refl, sym, ap, subst, arith}
use Rattle.std.specs.Prelude.{Option, None, Some, filter, option_map, unwrap_or, if◌then◌else◌}
use Rattle.std.specs.Cmp.{IsStrictWeakOrder}
use Rattle.std.specs.List.{filter_map}
use Rattle.std.specs.Option.{is_some, option_map_or}
use Rattle.std.proofs.lemmas.Bool.Decides.{nat_tests}
use Rattle.hx_lists.specs.Lists.{count, sort_by, numbers_below}
use Rattle.hx_lists.specs.Choices.{chosen_of}
use Rattle.hx_ids.specs.declared.PartId.{PartId}
use Rattle.hx_ids.specs.declared.ResourceId.{ResourceId}
use Rattle.hx_model.specs.declared.ModelParts.{ModelParts}
use Rattle.hx_cluster.specs.declared.state.Message.{Message}
use Rattle.hx_cluster.specs.declared.description.Resource.{Resource}
use Rattle.hx_cluster.specs.declared.planning.View.{View}
use Rattle.hx_cluster.specs.declared.planning.Target.{Target}
use Rattle.hx_cluster.specs.declared.planning.Candidate.{Candidate}
use Rattle.hx_cluster.specs.Ends.{part_eq, part_before, message_of, model_of, resource_at, count_over}
use Rattle.hx_parts.specs.Parts.{items_at, IsByPart}
use Rattle.hx_parts.proofs.Narrow.{message-at, count-at}
use Rattle.hx_best.specs.Targets.{target, targets_at, targets_in, targets, all_targets}
use Rattle.hx_gen.specs.declared.Ranked.{Ranked}
use Rattle.hx_gen.proofs.Ranks.{before_ranks}
use Rattle.hx_gen.specs.Candidates.{is_at_goal, hop_of, candidate_of, comes_before, rank_in, candidates}
use Rattle.hx_select.specs.Selection.{shown_sessions, goes_to, filling, limit_for, has_room, accepted_of}
use Rattle.hx_pass.specs.Plans.{all_candidates}
use Rattle.hx_pass.specs.Local.{accepted_in}
use Rattle.hx_parts.proofs.Rising.{rises, rises-sort}
use Rattle.hx_pass.proofs.Sorted.{rises-chosen, rises-wider, sorted_rises, sort-filter}
use Rattle.hx_pass.proofs.Filtered.{filter-wider, filter-map_none, filter-flat_map, filter-filter_map, filter-chosen}
use Rattle.hx_pass.proofs.Marked.{part_is}
use Rattle.hx_pass.proofs.Alone.{alone, targets_alone}

-- whether a target and a candidate are of a part
abbrev pub target_at : PartId → Target → Bool
target_at p t = part_eq t.part p

abbrev pub candidate_at : PartId → Candidate → Bool
candidate_at p c = part_eq c.part p

-- candidates come one before another by a strict weak order
order_of : (models : List ModelParts) (v : View) → IsStrictWeakOrder (comes_before models v)
order_of models v =
    let ranked : Candidate → Ranked = λ c. record { candidate = c; rank = rank_in models v c } in
    record {
      one_way = λ x y e. before_ranks.one_way (ranked x) (ranked y) e;
      chain = λ x y z e h. before_ranks.chain (ranked x) (ranked y) (ranked z) e h;
    }

kept_by : {X : Type 0} (f : X → Candidate) (part : PartId) → ((x : X) → (f x).part ≡ part) → (o : Option X) (c : Candidate) → option_map f o ≡ Some c → c.part ≡ part
kept_by f part own None c e = cc
kept_by f part own (Some x) c e = sym (ap (λ (o : Option Candidate). (unwrap_or o c).part) e) ∙ own x

module _ (models : List ModelParts) (v : View) (p : PartId) where
  -- targets
  part_targets : (r : Resource) (q : PartId) → items_at (λ t. t.part) p (targets_at models v r q) ≡ items_at (λ t. t.part) p (targets_at models (alone p v) r q)
  part_targets r q = one (part_eq q p) refl
    where
      one : (b : Bool) → part_eq q p ≡ b → items_at (λ t. t.part) p (targets_at models v r q) ≡ items_at (λ t. t.part) p (targets_at models (alone p v) r q)
      one true e =
          subst (λ (x : PartId). items_at (λ t. t.part) p (targets_at models v r x) ≡ items_at (λ t. t.part) p (targets_at models (alone p v) r x)) (sym (part_is q p e))
          (ap (λ (ts : List Target). items_at (λ t. t.part) p ts) (sym (targets_alone models v p r)))
      one false e = filter-map_none (target_at p) (target models v r q) (λ x. e) _ ∙ sym (filter-map_none (target_at p) (target models (alone p v) r q) (λ x. e) _)

  resource_targets : (n : ResourceId) → items_at (λ t. t.part) p (targets models v n) ≡ items_at (λ t. t.part) p (targets models (alone p v) n)
  resource_targets n = one (resource_at v.ideals.resources n)
    where
      one : (o : Option Resource) → items_at (λ t. t.part) p (option_map_or (targets_in models v n) o []) ≡ items_at (λ t. t.part) p (option_map_or (targets_in models (alone p v) n) o [])
      one None = refl
      one (Some r) = filter-flat_map (target_at p) (λ k. targets_at models v r (record { resource = n; index = k })) (λ k. targets_at models (alone p v) r (record { resource = n; index = k }))
          (λ k. part_targets r (record { resource = n; index = k })) (numbers_below r.ideal.parts)

  pub all_targets_at : items_at (λ t. t.part) p (all_targets models v) ≡ items_at (λ t. t.part) p (all_targets models (alone p v))
  all_targets_at = filter-flat_map (target_at p) (λ n. targets models v (record { 0 = n })) (λ n. targets models (alone p v) (record { 0 = n }))
      (λ n. resource_targets (record { 0 = n })) (numbers_below (length v.ideals.resources))

  -- candidates
  of_target : (t : Target) (c : Candidate) (b : Bool) (o : Option Candidate) → (o ≡ Some c → c.part ≡ t.part) → (if b then None else o) ≡ Some c → c.part ≡ t.part
  of_target t c true o own e = cc
  of_target t c false o own e = own e

  candidate_kept : (t : Target) (c : Candidate) → candidate_of models v t ≡ Some c → candidate_at p c ≡ target_at p t
  candidate_kept t c e =
      let m : ModelParts = model_of models v.ideals.resources t.part.resource in
      ap (λ (q : PartId). part_eq q p) (of_target t c (is_some (message_of v.mail t.session t.part) || is_at_goal m t) (hop_of m t) (kept_by _ t.part (λ to. refl) _ c) e)

  candidate_same : (t : Target) → target_at p t ≡ true → candidate_of models v t ≡ candidate_of models (alone p v) t
  candidate_same t e =
      let m : ModelParts = model_of models v.ideals.resources t.part.resource in
      ap (λ (o : Option Message). if is_some o || is_at_goal m t then None else hop_of m t)
      (subst (λ (q : PartId). message_of v.mail t.session q ≡ message_of (items_at (λ m. m.part) p v.mail) t.session q) (sym (part_is t.part p e)) (sym (message-at v.mail t.session p)))

  -- room for them
  goes_there : (c a : Candidate) → candidate_at p c ≡ true → goes_to c.part c.to a ≡ true → candidate_at p a ≡ true
  goes_there c a e h = grind (arith, nat_tests, e, h)

  filling_same : (chosen : List Candidate) (c : Candidate) → candidate_at p c ≡ true → filling v chosen c ≡ filling (alone p v) (filter (candidate_at p) chosen) c
  filling_same chosen c e =
      let shown : count_over (shown_sessions v) v.rows v.mail c.part c.to ≡ count_over (shown_sessions v) (items_at (λ r. r.part) p v.rows) (items_at (λ m. m.part) p v.mail) c.part c.to =
      subst (λ (q : PartId). count_over (shown_sessions v) v.rows v.mail q c.to ≡ count_over (shown_sessions v) (items_at (λ r. r.part) p v.rows) (items_at (λ m. m.part) p v.mail) q c.to)
      (sym (part_is c.part p e)) (sym (count-at (shown_sessions v) v.rows v.mail p c.to)) in
      let more : count (goes_to c.part c.to) chosen ≡ count (goes_to c.part c.to) (filter (candidate_at p) chosen) =
      ap length (sym (filter-wider (goes_to c.part c.to) (candidate_at p) (λ a h. goes_there c a e h) chosen)) in
      omega (arith, shown, more)

  room_same : (chosen : List Candidate) (c : Candidate) → candidate_at p c ≡ true → has_room models v chosen c ≡ has_room models (alone p v) (filter (candidate_at p) chosen) c
  room_same chosen c e = ap (λ (n : ℕ). option_map_or (nat_lt n) (limit_for models v c) true) (filling_same chosen c e)

  -- those of some targets
  pub candidates_of_part : (ts : List Target) → items_at (λ c. c.part) p (candidates models v ts) ≡ candidates models (alone p v) (items_at (λ t. t.part) p ts)
  candidates_of_part ts =
      sort-filter (comes_before models v) (order_of models v) (candidate_at p) (filter_map (candidate_of models v) ts)
      ∙ ap (sort_by (comes_before models v)) (filter-filter_map (candidate_of models v) (candidate_of models (alone p v)) (target_at p) (candidate_at p) candidate_kept candidate_same ts)

  -- and of all
  pub candidates_alone : items_at (λ c. c.part) p (all_candidates models v) ≡ candidates models (alone p v) (items_at (λ t. t.part) p (all_targets models (alone p v)))
  candidates_alone = candidates_of_part (all_targets models v) ∙ ap (candidates models (alone p v)) all_targets_at

  -- the accepted among those of some targets
  pub accepted_of_part : (ts : List Target) → items_at (λ c. c.part) p (accepted_of models v (candidates models v ts))
      ≡ accepted_of models (alone p v) (candidates models (alone p v) (items_at (λ t. t.part) p ts))
  accepted_of_part ts =
      filter-chosen (has_room models v) (has_room models (alone p v)) (candidate_at p) room_same (candidates models v ts)
      ∙ ap (chosen_of (has_room models (alone p v))) (candidates_of_part ts)

  -- and among those of all
  pub accepted_alone : items_at (λ c. c.part) p (accepted_in models v)
      ≡ accepted_of models (alone p v) (candidates models (alone p v) (items_at (λ t. t.part) p (all_targets models (alone p v))))
  accepted_alone = accepted_of_part (all_targets models v) ∙ ap (λ (ts : List Target). accepted_of models (alone p v) (candidates models (alone p v) ts)) all_targets_at

-- accepted candidates stand in order of part
behind : (models : List ModelParts) (v : View) (a b : Candidate) → comes_before models v a b ≡ false → part_before a.part b.part ≡ false
behind models v a b e = grind (arith, nat_tests, e)

pub accepted_by_part : (models : List ModelParts) (v : View) (ts : List Target) → IsByPart (λ c. c.part) (accepted_of models v (candidates models v ts))
accepted_by_part models v ts =
    let cs : List Candidate = filter_map (candidate_of models v) ts in
    let before : Candidate → Candidate → Bool = λ a b. part_before a.part b.part in
    let rise : rises (comes_before models v) (candidates models v ts) ≡ true = rises-sort (comes_before models v) (order_of models v) cs in
    sorted_rises before (accepted_of models v (candidates models v ts))
    (rises-wider (comes_before models v) before (behind models v) (accepted_of models v (candidates models v ts)) (rises-chosen (comes_before models v) (has_room models v) (candidates models v ts) rise))
