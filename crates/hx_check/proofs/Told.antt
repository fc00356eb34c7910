-- An event that the cluster answers is the one that its entry tells.
use Rattle.std.proofs.Common.{◌≡◌, ℕ, zero, suc, ◌==◌, Bool, true, ◌&&◌, List, [], ◌∷◌, map, length, None, Some, refl, sym, ap, ◌∙◌, subst, arith}
use Rattle.std.specs.Prelude.{is_none, is_some, nat_lt, nat_le, slice_get, replicate}
use Rattle.std.specs.Option.{option_map, option_map_or, option_eq}
use Rattle.std.specs.List.{list_all}
use Rattle.std.specs.Cmp.Lexicographic.{pointwise}
use Rattle.std.proofs.lemmas.Bool.{and_parts, and_from, eqb-true}
use Rattle.std.proofs.lemmas.Bool.Decides.{nat_tests}
use Rattle.hx_ids.specs.declared.InstanceId.{InstanceId}
use Rattle.hx_ids.specs.declared.SessionId.{SessionId}
use Rattle.hx_ids.specs.declared.PartId.{PartId}
use Rattle.hx_ideal.specs.declared.Mode.{Mode}
use Rattle.hx_ideal.specs.declared.Mode.TheVariants as modes
use Rattle.hx_ideal.specs.ModeKinds.{kind_of}
use Rattle.hx_ideal.specs.IdealState.{IdealState}
use Rattle.hx_cluster.specs.declared.description.Resource.{Resource}
use Rattle.hx_cluster.specs.declared.state.Cluster.{Cluster}
use Rattle.hx_cluster.specs.declared.happenings.Admin.{Admin}
use Rattle.hx_cluster.specs.declared.happenings.Admin.TheVariants as steps
use Rattle.hx_cluster.specs.declared.happenings.Proposal.{Proposal}
use Rattle.hx_cluster.specs.declared.happenings.Placed.{Placed}
use Rattle.hx_cluster.specs.declared.happenings.Seen.{Seen}
use Rattle.hx_cluster.specs.declared.happenings.Begun.{Begun}
use Rattle.hx_cluster.specs.declared.happenings.Dispatched.{Dispatched}
use Rattle.hx_cluster.specs.declared.happenings.Event.{Event}
use Rattle.hx_cluster.specs.declared.happenings.Event.TheVariants as events
use Rattle.hx_cluster.specs.Ends.{shown_of, session_in, parts_of}
use Rattle.hx_cluster.specs.Steps.{refusal_of, did_of, is_in_range, has_instance, has_controller, has_resource, is_leader, session_of, ended_by, is_empty_list, is_bare_mode, is_bare}
use Rattle.hx_cluster.specs.Reads.{messages_for}
use Rattle.hx_cluster.specs.Messages.{placed_all, next_pass}
use Rattle.hx_cluster.specs.Events.{begun_of, dispatched_of, is_proposable, is_postable, is_later, is_pass, is_epoch, can_take, can_write, can_ack}
use Rattle.hx_calls.proofs.Placing.{placed_each}
use Rattle.hx_pass.specs.Turns.{posted_of}
use Rattle.hx_print.specs.Texts.{names_of, roll_of}
use Rattle.hx_script.specs.declared.log.LogMove.{LogMove}
use Rattle.hx_script.specs.declared.log.LogEntry.{LogEntry}
use Rattle.hx_script.specs.declared.log.LogEntry.TheVariants as logs
use Rattle.hx_script.specs.LogEntries.{part_told, ended_told, move_told, moves_told, step_told}
use Rattle.hx_script.specs.Modes.{mode_number, mode_numbered}
use Rattle.hx_script.specs.NewIdeals.{bare_ideal}
use Rattle.hx_script.proofs.WordsAgain.{option_map_from}
use Rattle.hx_check.specs.Standing.{Standing, turn_in}
use Rattle.hx_check.specs.Answers.{same_session, same_ended, same_answer, is_session_now, has_name, is_named, is_part, where_so, stepped_if, proposal_of, is_move, are_answers, posted_if, answered_in}
use Rattle.hx_safe.proofs.Ends.{same-self}
use Rattle.hx_check.proofs.Same.{option_itself, list_itself, ended_itself, answer_itself}
use Rattle.hx_check.proofs.Telling.{Tells}
use Rattle.hx_print.proofs.Followed.{session-shown}

where_true : (b : Bool) (e : Event) → b ≡ true → where_so b e ≡ Some e
where_true b e is = rw is refl

some_is : (a b : LogEntry) → Some a ≡ Some b → a ≡ b
some_is a b e = cc

-- empty lists alone are so many empty lists
empties : {X : Type 0} (lists : List (List X)) (n : ℕ) → (length lists == n) ≡ true → list_all is_empty_list lists ≡ true → replicate n [] ≡ lists
empties lists n e all = ap (λ m. replicate m []) (sym (eqb-true (length lists) n e)) ∙ empty_all lists all
  where
    empty_all : {X : Type 0} (lists : List (List X)) → list_all is_empty_list lists ≡ true → replicate (length lists) [] ≡ lists
    empty_all [] all = refl
    empty_all ([] ∷ lists) all = ap (λ ls. [] ∷ ls) (empty_all lists all)
    empty_all ((x ∷ xs) ∷ lists) all = cc

bare_again : (replicas parts : ℕ) (mode : Mode) → is_bare_mode parts mode ≡ true → bare_ideal replicas parts (mode_number (kind_of mode)) ≡ (record { replicas = replicas; parts = parts; mode = mode })
bare_again replicas parts modes.Full e = refl
bare_again replicas parts (modes.Semi lists) e =
    let both = and_parts (length lists == parts) (list_all is_empty_list lists) e in
    ap (λ ls. let s : IdealState = record { replicas = replicas; parts = parts; mode = modes.Semi ls } in s) (empties lists parts both.0 both.1)
bare_again replicas parts (modes.Custom maps) e =
    let both = and_parts (length maps == parts) (list_all is_empty_list maps) e in
    ap (λ ls. let s : IdealState = record { replicas = replicas; parts = parts; mode = modes.Custom ls } in s) (empties maps parts both.0 both.1)

mode_known : (mode : Mode) → is_some (mode_numbered (mode_number (kind_of mode))) ≡ true
mode_known modes.Full = refl
mode_known (modes.Semi lists) = refl
mode_known (modes.Custom maps) = refl

-- a resource that is there has its name
named_there : (resources : List Resource) (n : ℕ) → nat_lt n (length resources) ≡ true → has_name (slice_get (names_of resources) n) (slice_get resources n) ≡ true
named_there [] n e = absurd (grind (arith, nat_tests, e))
named_there (x ∷ xs) zero e = same-self x.name
named_there (x ∷ xs) (suc n) e = named_there xs n (grind (arith, nat_tests, e))

module _ (w : Standing) (c : Cluster) where
  stepped : (agrees : Bool) (step : Admin) → agrees ≡ true → is_in_range c step ≡ true → refusal_of c step ≡ None → stepped_if c agrees step ≡ Some (events.Admin step (did_of c step))
  stepped agrees step so range may =
      where_true (agrees && is_in_range c step && is_none (refusal_of c step)) (events.Admin step (did_of c step))
      (and_from (agrees && is_in_range c step) (is_none (refusal_of c step)) (and_from agrees (is_in_range c step) so range) (ap is_none may))

  -- what is told of a step is answered by it
  abbrev IsAnswered : Admin → LogEntry → Type 0
  IsAnswered step entry = answered_in w c entry ≡ Some (events.Admin step (did_of c step))

  told_by_step : (step : Admin) (told entry : LogEntry) → Some told ≡ Some entry → IsAnswered step told → IsAnswered step entry
  told_by_step step told entry e is = subst (IsAnswered step) (some_is told entry e) is

  session_now : (i : InstanceId) (s : SessionId) → session_in (shown_of c.live) i ≡ Some s → is_session_now c i s ≡ true
  session_now i s e = ap (λ o. option_eq same_session o (Some s)) (sym (session-shown i c.live) ∙ e) ∙ same-self s.0

  -- of steps that tell the session that is live
  session_step : (step : Admin) (i : InstanceId) (tell : SessionId → LogEntry) (entry : LogEntry) → option_map tell (session_in (shown_of c.live) i) ≡ Some entry
      → ((s : SessionId) → is_session_now c i s ≡ true → IsAnswered step (tell s)) → IsAnswered step entry
  session_step step i tell entry e is =
      let from = option_map_from tell (session_in (shown_of c.live) i) entry e in
      subst (IsAnswered step) from.2 (is from.0 (session_now i from.0 from.1))

  part_there : (p : PartId) → has_resource c p.resource ≡ true → is_part c (part_told (names_of c.resources) p) ≡ true
  part_there p e = named_there c.resources p.resource.0 e

  admin_answered : (step : Admin) (entry : LogEntry) → is_in_range c step ≡ true → refusal_of c step ≡ None → step_told (roll_of c) step (did_of c step) ≡ Some entry → IsAnswered step entry
  admin_answered (steps.Join i) entry range may told =
      told_by_step (steps.Join i) (logs.Join i (record { 0 = c.next_session })) entry told (stepped (c.next_session == c.next_session) (steps.Join i) (same-self c.next_session) range may)
  admin_answered (steps.End i) entry range may told = session_step (steps.End i) i (logs.End i) entry told (λ s now. stepped (is_session_now c i s) (steps.End i) now range may)
  admin_answered (steps.Beat i) entry range may told = session_step (steps.Beat i) i (logs.Beat i) entry told (λ s now. stepped (is_session_now c i s) (steps.Beat i) now range may)
  admin_answered (steps.Tick n) entry range may told =
      let ended : List (InstanceId × SessionId) = map (ended_told (shown_of c.live)) (ended_by c n) in
      told_by_step (steps.Tick n) (logs.Tick n ended) entry told (stepped (pointwise same_ended ended ended) (steps.Tick n) (list_itself same_ended ended_itself ended) range may)
  admin_answered (steps.Drain i) entry range may told = told_by_step (steps.Drain i) (logs.Drain i) entry told (stepped true (steps.Drain i) refl range may)
  admin_answered (steps.Undrain i) entry range may told = told_by_step (steps.Undrain i) (logs.Undrain i) entry told (stepped true (steps.Undrain i) refl range may)
  admin_answered (steps.Add name model ideal) entry range may told =
      let bare = (and_parts (nat_lt name c.resource_names && nat_lt model.0 (length c.models)) (is_bare ideal) range).1 in
      let mode = (and_parts (nat_lt 0 ideal.replicas && nat_le ideal.replicas 64 && nat_lt 0 ideal.parts && nat_le ideal.parts 1024) (is_bare_mode ideal.parts ideal.mode) bare).1 in
      let number = mode_number (kind_of ideal.mode) in
      let again : bare_ideal ideal.replicas ideal.parts number ≡ ideal = bare_again ideal.replicas ideal.parts ideal.mode mode in
      told_by_step (steps.Add name model ideal) (logs.Add name (record { 0 = length c.resources }) model ideal.replicas ideal.parts number) entry told
      (ap (λ (x : IdealState). stepped_if c ((length c.resources == length c.resources) && is_some (mode_numbered number)) (steps.Add name model x)) again
      ∙ stepped ((length c.resources == length c.resources) && is_some (mode_numbered number)) (steps.Add name model ideal)
      (and_from (length c.resources == length c.resources) (is_some (mode_numbered number)) (same-self (length c.resources)) (mode_known ideal.mode)) range may)
  admin_answered (steps.Drop r) entry range may told =
      told_by_step (steps.Drop r) (logs.Drop (slice_get (names_of c.resources) r.0) r) entry told
      (stepped (is_named c (slice_get (names_of c.resources) r.0) r) (steps.Drop r) (named_there c.resources r.0 range) range may)
  admin_answered (steps.SetList p list) entry range may told =
      told_by_step (steps.SetList p list) (logs.List (part_told (names_of c.resources) p) list) entry told
      (stepped (is_part c (part_told (names_of c.resources) p)) (steps.SetList p list) (part_there p range) range may)
  admin_answered (steps.SetMap p entries) entry range may told =
      told_by_step (steps.SetMap p entries) (logs.Map (part_told (names_of c.resources) p) entries) entry told
      (stepped (is_part c (part_told (names_of c.resources) p)) (steps.SetMap p entries) (part_there p range) range may)
  admin_answered (steps.Reset i p) entry range may told =
      let both = and_parts (has_instance c i) (has_resource c p.resource) range in
      session_step (steps.Reset i p) i (λ s. logs.Reset i s (part_told (names_of c.resources) p)) entry told
      (λ s now. stepped (is_part c (part_told (names_of c.resources) p) && is_session_now c i s) (steps.Reset i p)
      (and_from (is_part c (part_told (names_of c.resources) p)) (is_session_now c i s) (part_there p both.1) now) range may)
  admin_answered (steps.Lead k) entry range may told =
      told_by_step (steps.Lead k) (logs.Lead k c.epoch) entry told (stepped (c.epoch.0 == c.epoch.0) (steps.Lead k) (same-self c.epoch.0) range may)
  admin_answered (steps.Stop k) entry range may told = told_by_step (steps.Stop k) (logs.Stop k) entry told (stepped true (steps.Stop k) refl range may)
  admin_answered (steps.Start k) entry range may told = told_by_step (steps.Start k) (logs.Start k) entry told (stepped true (steps.Start k) refl range may)

  -- proposals with their answers
  moves_there : (qs : List Proposal) (answers : List Placed) → length answers ≡ length qs → list_all (is_proposable c) qs ≡ true
      → (list_all (is_move c) (moves_told (names_of c.resources) qs answers) ≡ true) × (map proposal_of (moves_told (names_of c.resources) qs answers) ≡ qs) × (map (λ m. m.answer) (moves_told (names_of c.resources) qs answers) ≡ answers)
  moves_there [] [] e all = (refl, refl, refl)
  moves_there [] (a ∷ more) e all = cc
  moves_there (q ∷ qs) [] e all = cc
  moves_there (q ∷ qs) (a ∷ more) e all =
      let both = and_parts (is_proposable c q) (list_all (is_proposable c) qs) all in
      let rest = moves_there qs more (omega (arith, e)) both.1 in
      let there = part_there q.part (has_its_resource q both.0) in (
        and_from (is_move c (move_told (names_of c.resources) q a)) _ (and_from (is_part c (part_told (names_of c.resources) q.part)) (is_proposable c q) there both.0) rest.0,
        ap (λ ps. q ∷ ps) rest.1,
        ap (λ bs. a ∷ bs) rest.2,
      )
    where
      resource_below : (resources : List Resource) (n index : ℕ) → nat_lt index (option_map_or (λ x. x.ideal.parts) (slice_get resources n) 0) ≡ true → nat_lt n (length resources) ≡ true
      resource_below [] n index e = absurd (grind (arith, nat_tests, e))
      resource_below (x ∷ xs) zero index e = grind (arith, nat_tests)
      resource_below (x ∷ xs) (suc n) index e = let more = resource_below xs n index e in grind (arith, nat_tests, more)

      has_its_resource : (q : Proposal) → is_proposable c q ≡ true → has_resource c q.part.resource ≡ true
      has_its_resource q e =
          let two = and_parts (nat_lt q.part.index (parts_of c.resources q.part.resource) && nat_lt q.from.0 c.states) (nat_lt q.to.0 c.states) e in
          resource_below c.resources q.part.resource.0 q.part.index (and_parts (nat_lt q.part.index (parts_of c.resources q.part.resource)) (nat_lt q.from.0 c.states) two.0).0

  -- an event that is answered is told by its entry
  pub tells_answered : (e : Event) (entry : LogEntry) → Tells w c entry e → answered_in w c entry ≡ Some e
  tells_answered (events.Admin step did) entry t =
      let right : did ≡ did_of c step = t.step.2 in
      let told : step_told (roll_of c) step (did_of c step) ≡ Some entry = ap (step_told (roll_of c) step) (sym right) ∙ t.told in
      admin_answered step entry t.step.0 t.step.1 told ∙ ap (λ d. Some (events.Admin step d)) (sym right)
  tells_answered (events.Line n) entry t = subst (λ x. answered_in w c x ≡ Some (events.Line n)) (some_is (logs.Line n) entry t.told) (where_true (is_later c.line n) (events.Line n) t.step)
  tells_answered (events.Begin k begun) entry t =
      let right : begun ≡ begun_of c k = t.step.2 in
      subst (λ x. answered_in w c x ≡ Some (events.Begin k begun)) (some_is (logs.Begin k begun.epoch begun.pass) entry t.told)
      (ap (λ (b : Begun). answered_in w c (logs.Begin k b.epoch b.pass)) right
      ∙ where_true (has_controller c k && is_leader k c.leader && ((begun_of c k).epoch.0 == (begun_of c k).epoch.0) && ((begun_of c k).pass.0 == (begun_of c k).pass.0)) (events.Begin k (begun_of c k))
      (and_from (has_controller c k && is_leader k c.leader && ((begun_of c k).epoch.0 == (begun_of c k).epoch.0)) ((begun_of c k).pass.0 == (begun_of c k).pass.0)
      (and_from (has_controller c k && is_leader k c.leader) ((begun_of c k).epoch.0 == (begun_of c k).epoch.0) (and_from (has_controller c k) (is_leader k c.leader) t.step.0 t.step.1) (same-self (begun_of c k).epoch.0))
      (same-self (begun_of c k).pass.0))
      ∙ ap (λ b. Some (events.Begin k b)) (sym right))
  tells_answered (events.Live k pass) entry t = subst (λ x. answered_in w c x ≡ Some (events.Live k pass)) (some_is (logs.Live k pass) entry t.told) (where_true (is_pass c k pass) (events.Live k pass) t.step)
  tells_answered (events.Mail k pass s) entry t = subst (λ x. answered_in w c x ≡ Some (events.Mail k pass s)) (some_is (logs.Mail k pass s) entry t.told) (where_true (is_pass c k pass) (events.Mail k pass s) t.step)
  tells_answered (events.States k pass s) entry t = subst (λ x. answered_in w c x ≡ Some (events.States k pass s)) (some_is (logs.States k pass s) entry t.told) (where_true (is_pass c k pass) (events.States k pass s) t.step)
  tells_answered (events.Ideals k pass) entry t = subst (λ x. answered_in w c x ≡ Some (events.Ideals k pass)) (some_is (logs.Ideals k pass) entry t.told) (where_true (is_pass c k pass) (events.Ideals k pass) t.step)
  tells_answered (events.Dispatch k epoch pass qs answer) entry t =
      let right : answer ≡ dispatched_of c k qs = t.step.3 in
      let there = moves_there qs (placed_all (next_pass c k) qs) (placed_each (next_pass c k) qs) t.step.0 in
      let moves : List LogMove = moves_told (names_of c.resources) qs (placed_all (next_pass c k) qs) in
      let placed : map (λ m. m.answer) moves ≡ placed_all (next_pass c k) (map proposal_of moves) = there.2 ∙ ap (placed_all (next_pass c k)) (sym there.1) in
      let answers : are_answers c k moves ≡ true =
      ap (λ given. pointwise same_answer given (placed_all (next_pass c k) (map proposal_of moves))) placed ∙ list_itself same_answer answer_itself (placed_all (next_pass c k) (map proposal_of moves)) in
      subst (λ x. answered_in w c x ≡ Some (events.Dispatch k epoch pass qs answer)) (some_is (logs.Dispatch k epoch pass moves) entry (ap (λ (a : Dispatched). Some (logs.Dispatch k epoch pass (moves_told (names_of c.resources) qs a.placed))) (sym right) ∙ t.told))
      (where_true (list_all (is_move c) moves && is_epoch c epoch && is_pass c k pass && are_answers c k moves) (events.Dispatch k epoch pass (map proposal_of moves) (dispatched_of c k (map proposal_of moves)))
      (and_from (list_all (is_move c) moves && is_epoch c epoch && is_pass c k pass) (are_answers c k moves)
      (and_from (list_all (is_move c) moves && is_epoch c epoch) (is_pass c k pass) (and_from (list_all (is_move c) moves) (is_epoch c epoch) there.0 t.step.1) t.step.2) answers)
      ∙ ap (λ ps. Some (events.Dispatch k epoch pass ps (dispatched_of c k ps))) there.1
      ∙ ap (λ a. Some (events.Dispatch k epoch pass qs a)) (sym right))
  tells_answered (events.Post k epoch rows) entry t =
      let shown : List Seen = posted_of (turn_in w k).view in
      let right : rows ≡ shown = t.post in
      let postable : list_all (is_postable c) shown ≡ true = ap (list_all (is_postable c)) (sym right) ∙ t.step.1 in
      subst (λ x. answered_in w c x ≡ Some (events.Post k epoch rows)) (some_is (logs.Post k epoch (length rows)) entry t.told)
      (ap (λ n. posted_if c k epoch n shown) (ap length right)
      ∙ where_true (has_controller c k && is_epoch c epoch && (length shown == length shown) && list_all (is_postable c) shown) (events.Post k epoch shown)
      (and_from (has_controller c k && is_epoch c epoch && (length shown == length shown)) (list_all (is_postable c) shown)
      (and_from (has_controller c k && is_epoch c epoch) (length shown == length shown) (and_from (has_controller c k) (is_epoch c epoch) t.step.0 t.step.2) (same-self (length shown))) postable)
      ∙ ap (λ rs. Some (events.Post k epoch rs)) (sym right))
  tells_answered (events.Fetch i s n) entry t =
      let session : s ≡ session_of c i = t.step.1 in
      let count : n ≡ length (messages_for c s) = t.step.2 in
      let same : option_eq same_session s (session_of c i) ≡ true = ap (λ o. option_eq same_session s o) (sym session) ∙ option_itself same_session (λ x. same-self x.0) s in
      let counted : (length (messages_for c s) == n) ≡ true = ap (λ m. length (messages_for c s) == m) count ∙ same-self (length (messages_for c s)) in
      subst (λ x. answered_in w c x ≡ Some (events.Fetch i s n)) (some_is (logs.Fetch i s n) entry t.told)
      (where_true (has_instance c i && option_eq same_session s (session_of c i) && (length (messages_for c s) == n)) (events.Fetch i s n)
      (and_from (has_instance c i && option_eq same_session s (session_of c i)) (length (messages_for c s) == n) (and_from (has_instance c i) (option_eq same_session s (session_of c i)) t.step.0 same) counted))
  tells_answered (events.Take s id) entry t = subst (λ x. answered_in w c x ≡ Some (events.Take s id)) (some_is (logs.Take s id) entry t.told) (where_true (can_take c s id) (events.Take s id) t.step)
  tells_answered (events.Write s id outcome) entry t = subst (λ x. answered_in w c x ≡ Some (events.Write s id outcome)) (some_is (logs.Write s id outcome) entry t.told) (where_true (can_write c s id) (events.Write s id outcome) t.step)
  tells_answered (events.Ack s id) entry t = subst (λ x. answered_in w c x ≡ Some (events.Ack s id)) (some_is (logs.Ack s id) entry t.told) (where_true (can_ack c s id) (events.Ack s id) t.step)
