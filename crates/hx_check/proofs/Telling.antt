-- What an entry tells is the event that the cluster answers so.
use Rattle.std.proofs.Common.{◌≡◌, ℕ, zero, suc, ◌==◌, Bool, true, false, ◌&&◌, List, [], ◌∷◌, map, length, Option, None, Some, refl, sym, ap, ◌∙◌, subst}
use Rattle.std.specs.Prelude.{is_none, is_some, slice_get, if◌then◌else◌}
use Rattle.std.specs.Option.{option_map, option_eq}
use Rattle.std.specs.List.{list_all}
use Rattle.std.specs.Cmp.Lexicographic.{pointwise}
use Rattle.std.proofs.lemmas.Bool.{and_parts, and_from, eqb-true}
use Rattle.hx_ids.specs.Words as Ids
use Rattle.hx_ids.specs.declared.InstanceId.{InstanceId}
use Rattle.hx_ids.specs.declared.ControllerId.{ControllerId}
use Rattle.hx_ids.specs.declared.ResourceId.{ResourceId}
use Rattle.hx_ids.specs.declared.SessionId.{SessionId}
use Rattle.hx_ids.specs.declared.Epoch.{Epoch}
use Rattle.hx_ids.specs.declared.PassNo.{PassNo}
use Rattle.hx_cluster.specs.declared.description.Resource.{Resource}
use Rattle.hx_cluster.specs.declared.state.Cluster.{Cluster}
use Rattle.hx_cluster.specs.declared.happenings.Admin.{Admin}
use Rattle.hx_cluster.specs.declared.happenings.Admin.TheVariants as steps
use Rattle.hx_cluster.specs.declared.happenings.Seen.{Seen}
use Rattle.hx_cluster.specs.declared.happenings.Event.{Event}
use Rattle.hx_cluster.specs.declared.happenings.Event.TheVariants as events
use Rattle.hx_cluster.specs.Ends.{shown_of, session_in}
use Rattle.hx_cluster.specs.Steps.{refusal_of, did_of, is_in_range, has_instance, has_controller, is_leader, session_of, ended_by}
use Rattle.hx_cluster.specs.Reads.{messages_for}
use Rattle.hx_cluster.specs.Messages.{placed_all, next_pass}
use Rattle.hx_cluster.specs.Events.{IsStep, begun_of, dispatched_of, is_proposable, is_postable, is_later, is_pass, is_epoch, can_take, can_write, can_ack}
use Rattle.hx_pass.specs.Turns.{posted_of}
use Rattle.hx_print.specs.Texts.{names_of}
use Rattle.hx_script.specs.declared.log.LogPart.{LogPart}
use Rattle.hx_script.specs.declared.log.LogMove.{LogMove}
use Rattle.hx_script.specs.declared.log.LogEntry.{LogEntry}
use Rattle.hx_script.specs.declared.log.LogEntry.TheVariants as logs
use Rattle.hx_script.specs.LogEntries.{part_told, ended_told, moves_told, entry_told_by}
use Rattle.hx_ideal.specs.ModeKinds.{kind_of}
use Rattle.hx_ideal.specs.declared.kinds.ModeKind.TheVariants as kinds
use Rattle.hx_script.specs.Modes.{mode_number, mode_numbered}
use Rattle.hx_script.specs.NewIdeals.{bare_mode, bare_ideal}
use Rattle.hx_check.specs.Standing.{Standing, turn_in}
use Rattle.hx_check.specs.Answers.{same_session, same_ended, same_answer, is_session_now, has_name, is_named, part_of, is_part, where_so, stepped_if, begun_if, proposal_of, is_move, are_answers, dispatched_if, posted_if, fetched_if, answered_in}
use Rattle.hx_safe.proofs.Ends.{session_same}
use Rattle.hx_print.proofs.Followed.{session-shown}
use Rattle.hx_check.proofs.Same.{options_same, lists_same, ended_same, answers_same, by_number}

-- a post is of the rows that the controller was shown
abbrev pub IsPostOf : Standing → Event → Type 0
IsPostOf w (events.Post k epoch rows) = rows ≡ posted_of (turn_in w k).view
IsPostOf w _ = Unit {0}

-- the event that an entry tells from a cluster on
pub record Tells (w : Standing) (c : Cluster) (entry : LogEntry) (e : Event) : Type 0 where
  pub step : IsStep c e
  pub told : entry_told_by c e ≡ Some entry
  pub post : IsPostOf w e

so_from : (b : Bool) (e f : Event) → where_so b e ≡ Some f → (b ≡ true) × (e ≡ f)
so_from true e f is = (refl, cc)
so_from false e f is = cc

none_from : {A : Type 0} (o : Option A) → is_none o ≡ true → o ≡ None
none_from None e = refl
none_from (Some x) e = cc

module _ (w : Standing) (c : Cluster) where
  -- where the tests say so, the event is told
  told_where : (entry : LogEntry) (b : Bool) (e f : Event) → where_so b e ≡ Some f → (b ≡ true → Tells w c entry e) → Tells w c entry f
  told_where entry b e f is tells = let from = so_from b e f is in subst (Tells w c entry) from.1 (tells from.0)

  -- a step
  stepped_tells : (entry : LogEntry) (agrees : Bool) (step : Admin) (e : Event) → stepped_if c agrees step ≡ Some e
      → (agrees ≡ true → entry_told_by c (events.Admin step (did_of c step)) ≡ Some entry) → Tells w c entry e
  stepped_tells entry agrees step e is told =
      told_where entry (agrees && is_in_range c step && is_none (refusal_of c step)) (events.Admin step (did_of c step)) e is
      (λ so. let outer = and_parts (agrees && is_in_range c step) (is_none (refusal_of c step)) so in
      let inner = and_parts agrees (is_in_range c step) outer.0 in
      record { step = (inner.1, none_from (refusal_of c step) outer.1, refl); told = told inner.0; post = tt })

  -- a session of an instance
  session_told : (i : InstanceId) (s : SessionId) → is_session_now c i s ≡ true → session_in (shown_of c.live) i ≡ Some s
  session_told i s is = session-shown i c.live ∙ options_same same_session session_same (session_of c i) (Some s) is

  -- a resource under its name
  named_told : (name : Option ℕ) (r : ResourceId) → is_named c name r ≡ true → slice_get (names_of c.resources) r.0 ≡ name
  named_told name r is = names_at r.0 c.resources name is
    where
      named : (name : Option ℕ) (o : Option Resource) → has_name name o ≡ true → option_map (λ x. x.name) o ≡ name
      named None None e = cc
      named None (Some x) e = cc
      named (Some n) None e = cc
      named (Some n) (Some x) e = ap Some (eqb-true x.name n e)

      names_get : (resources : List Resource) (n : ℕ) → slice_get (names_of resources) n ≡ option_map (λ x. x.name) (slice_get resources n)
      names_get [] n = refl
      names_get (x ∷ xs) zero = refl
      names_get (x ∷ xs) (suc n) = names_get xs n

      names_at : (n : ℕ) (resources : List Resource) (name : Option ℕ) → has_name name (slice_get resources n) ≡ true → slice_get (names_of resources) n ≡ name
      names_at n resources name e = names_get resources n ∙ named name (slice_get resources n) e

  part_named : (p : LogPart) → is_part c p ≡ true → part_told (names_of c.resources) (part_of p) ≡ p
  part_named p is = ap (λ (name : Option ℕ). let q : LogPart = record { name = name; resource = p.resource; index = p.index } in q) (named_told p.name p.resource is)

  -- proposals with their answers
  moves_named : (moves : List LogMove) → list_all (is_move c) moves ≡ true → moves_told (names_of c.resources) (map proposal_of moves) (map (λ m. m.answer) moves) ≡ moves
  moves_named [] e = refl
  moves_named (m ∷ ms) e =
      let both = and_parts (is_move c m) (list_all (is_move c) ms) e in
      let part = and_parts (is_part c m.part) (is_proposable c (proposal_of m)) both.0 in
      ap (λ (p : LogPart). let n : LogMove = record { session = m.session; part = p; from = m.from; to = m.to; answer = m.answer } in n ∷ moves_told (names_of c.resources) (map proposal_of ms) (map (λ m. m.answer) ms)) (part_named m.part part.0)
      ∙ ap (λ ns. m ∷ ns) (moves_named ms both.1)

  all_proposable : (moves : List LogMove) → list_all (is_move c) moves ≡ true → list_all (is_proposable c) (map proposal_of moves) ≡ true
  all_proposable [] e = refl
  all_proposable (m ∷ ms) e =
      let both = and_parts (is_move c m) (list_all (is_move c) ms) e in
      and_from (is_proposable c (proposal_of m)) (list_all (is_proposable c) (map proposal_of ms)) (and_parts (is_part c m.part) (is_proposable c (proposal_of m)) both.0).1 (all_proposable ms both.1)

  dispatched_tells : (k : ControllerId) (epoch : Epoch) (pass : PassNo) (moves : List LogMove) (e : Event) → dispatched_if c k epoch pass moves ≡ Some e
      → Tells w c (logs.Dispatch k epoch pass moves) e
  dispatched_tells k epoch pass moves e is =
      told_where (logs.Dispatch k epoch pass moves) (list_all (is_move c) moves && is_epoch c epoch && is_pass c k pass && are_answers c k moves)
      (events.Dispatch k epoch pass (map proposal_of moves) (dispatched_of c k (map proposal_of moves))) e is
      (λ so. let three = and_parts (list_all (is_move c) moves && is_epoch c epoch && is_pass c k pass) (are_answers c k moves) so in
      let two = and_parts (list_all (is_move c) moves && is_epoch c epoch) (is_pass c k pass) three.0 in
      let one = and_parts (list_all (is_move c) moves) (is_epoch c epoch) two.0 in
      let answers = lists_same same_answer answers_same (map (λ m. m.answer) moves) (placed_all (next_pass c k) (map proposal_of moves)) three.1 in
      record {
        step = (all_proposable moves one.0, one.1, two.1, refl);
        told = ap (λ placed. Some (logs.Dispatch k epoch pass (moves_told (names_of c.resources) (map proposal_of moves) placed))) (sym answers)
            ∙ ap (λ ms. Some (logs.Dispatch k epoch pass ms)) (moves_named moves one.0);
        post = tt;
      })

  begun_tells : (k : ControllerId) (epoch : Epoch) (pass : PassNo) (e : Event) → begun_if c k epoch pass ≡ Some e → Tells w c (logs.Begin k epoch pass) e
  begun_tells k epoch pass e is =
      told_where (logs.Begin k epoch pass) (has_controller c k && is_leader k c.leader && ((begun_of c k).epoch.0 == epoch.0) && ((begun_of c k).pass.0 == pass.0)) (events.Begin k (begun_of c k)) e is
      (λ so. let three = and_parts (has_controller c k && is_leader k c.leader && ((begun_of c k).epoch.0 == epoch.0)) ((begun_of c k).pass.0 == pass.0) so in
      let two = and_parts (has_controller c k && is_leader k c.leader) ((begun_of c k).epoch.0 == epoch.0) three.0 in
      let one = and_parts (has_controller c k) (is_leader k c.leader) two.0 in
      record {
        step = (one.0, one.1, refl);
        told = ap (λ (x : Epoch). Some (logs.Begin k x (begun_of c k).pass)) (by_number Ids.epoch (begun_of c k).epoch.0 epoch.0 two.1) ∙ ap (λ (x : PassNo). Some (logs.Begin k epoch x)) (by_number Ids.pass (begun_of c k).pass.0 pass.0 three.1);
        post = tt;
      })

  posted_tells : (k : ControllerId) (epoch : Epoch) (n : ℕ) (e : Event) → posted_if c k epoch n (posted_of (turn_in w k).view) ≡ Some e → Tells w c (logs.Post k epoch n) e
  posted_tells k epoch n e is =
      let rows : List Seen = posted_of (turn_in w k).view in
      told_where (logs.Post k epoch n) (has_controller c k && is_epoch c epoch && (length rows == n) && list_all (is_postable c) rows) (events.Post k epoch rows) e is
      (λ so. let three = and_parts (has_controller c k && is_epoch c epoch && (length rows == n)) (list_all (is_postable c) rows) so in
      let two = and_parts (has_controller c k && is_epoch c epoch) (length rows == n) three.0 in
      let one = and_parts (has_controller c k) (is_epoch c epoch) two.0 in
      record {
        step = (one.0, three.1, one.1);
        told = ap (λ m. Some (logs.Post k epoch m)) (eqb-true (length rows) n two.1);
        post = refl;
      })

  fetched_tells : (i : InstanceId) (s : Option SessionId) (n : ℕ) (e : Event) → fetched_if c i s n ≡ Some e → Tells w c (logs.Fetch i s n) e
  fetched_tells i s n e is =
      told_where (logs.Fetch i s n) (has_instance c i && option_eq same_session s (session_of c i) && (length (messages_for c s) == n)) (events.Fetch i s n) e is
      (λ so. let two = and_parts (has_instance c i && option_eq same_session s (session_of c i)) (length (messages_for c s) == n) so in
      let one = and_parts (has_instance c i) (option_eq same_session s (session_of c i)) two.0 in
      record {
        step = (one.0, options_same same_session session_same s (session_of c i) one.1, sym (eqb-true (length (messages_for c s)) n two.1));
        told = refl;
        post = tt;
      })

  -- a mode by its number
  mode_told : (mode parts : ℕ) → is_some (mode_numbered mode) ≡ true → mode_number (kind_of (bare_mode (mode_numbered mode) parts)) ≡ mode
  mode_told mode parts e = one (mode == 0) (mode == 1) (mode == 2) refl refl refl e
    where
      one : (x y z : Bool) → (mode == 0) ≡ x → (mode == 1) ≡ y → (mode == 2) ≡ z
          → is_some (if x then Some kinds.FullAuto else if y then Some kinds.SemiAuto else if z then Some kinds.Customized else None) ≡ true
          → mode_number (kind_of (bare_mode (if x then Some kinds.FullAuto else if y then Some kinds.SemiAuto else if z then Some kinds.Customized else None) parts)) ≡ mode
      one true y z ex ey ez e = sym (eqb-true mode 0 ex)
      one false true z ex ey ez e = sym (eqb-true mode 1 ey)
      one false false true ex ey ez e = sym (eqb-true mode 2 ez)
      one false false false ex ey ez e = cc

  -- what each entry tells
  pub answered_tells : (entry : LogEntry) (e : Event) → answered_in w c entry ≡ Some e → Tells w c entry e
  answered_tells (logs.Line n) e is = told_where (logs.Line n) (is_later c.line n) (events.Line n) e is (λ so. record { step = so; told = refl; post = tt })
  answered_tells (logs.Join i s) e is =
      stepped_tells (logs.Join i s) (s.0 == c.next_session) (steps.Join i) e is
      (λ so. ap (λ (t : SessionId). Some (logs.Join i t)) (sym (session_same s (record { 0 = c.next_session }) so)))
  answered_tells (logs.End i s) e is = stepped_tells (logs.End i s) (is_session_now c i s) (steps.End i) e is (λ so. ap (λ o. option_map (logs.End i) o) (session_told i s so))
  answered_tells (logs.Beat i s) e is = stepped_tells (logs.Beat i s) (is_session_now c i s) (steps.Beat i) e is (λ so. ap (λ o. option_map (logs.Beat i) o) (session_told i s so))
  answered_tells (logs.Tick n ended) e is =
      let told : List (InstanceId × SessionId) = map (ended_told (shown_of c.live)) (ended_by c n) in
      stepped_tells (logs.Tick n ended) (pointwise same_ended ended told) (steps.Tick n) e is (λ so. ap (λ xs. Some (logs.Tick n xs)) (sym (lists_same same_ended ended_same ended told so)))
  answered_tells (logs.Drain i) e is = stepped_tells (logs.Drain i) true (steps.Drain i) e is (λ so. refl)
  answered_tells (logs.Undrain i) e is = stepped_tells (logs.Undrain i) true (steps.Undrain i) e is (λ so. refl)
  answered_tells (logs.Add name r model replicas parts mode) e is =
      stepped_tells (logs.Add name r model replicas parts mode) ((r.0 == length c.resources) && is_some (mode_numbered mode)) (steps.Add name model (bare_ideal replicas parts mode)) e is
      (λ so. let both = and_parts (r.0 == length c.resources) (is_some (mode_numbered mode)) so in
      ap (λ (x : ResourceId). Some (logs.Add name x model replicas parts (mode_number (kind_of (bare_mode (mode_numbered mode) parts))))) (sym (by_number Ids.resource r.0 (length c.resources) both.0))
      ∙ ap (λ n. Some (logs.Add name r model replicas parts n)) (mode_told mode parts both.1))
  answered_tells (logs.Drop name r) e is = stepped_tells (logs.Drop name r) (is_named c name r) (steps.Drop r) e is (λ so. ap (λ o. Some (logs.Drop o r)) (named_told name r so))
  answered_tells (logs.List p list) e is = stepped_tells (logs.List p list) (is_part c p) (steps.SetList (part_of p) list) e is (λ so. ap (λ q. Some (logs.List q list)) (part_named p so))
  answered_tells (logs.Map p entries) e is = stepped_tells (logs.Map p entries) (is_part c p) (steps.SetMap (part_of p) entries) e is (λ so. ap (λ q. Some (logs.Map q entries)) (part_named p so))
  answered_tells (logs.Reset i s p) e is =
      stepped_tells (logs.Reset i s p) (is_part c p && is_session_now c i s) (steps.Reset i (part_of p)) e is
      (λ so. let both = and_parts (is_part c p) (is_session_now c i s) so in
      ap (λ o. option_map (λ s. logs.Reset i s (part_told (names_of c.resources) (part_of p))) o) (session_told i s both.1) ∙ ap (λ q. Some (logs.Reset i s q)) (part_named p both.0))
  answered_tells (logs.Lead k epoch) e is = stepped_tells (logs.Lead k epoch) (epoch.0 == c.epoch.0) (steps.Lead k) e is (λ so. ap (λ (x : Epoch). Some (logs.Lead k x)) (sym (by_number Ids.epoch epoch.0 c.epoch.0 so)))
  answered_tells (logs.Stop k) e is = stepped_tells (logs.Stop k) true (steps.Stop k) e is (λ so. refl)
  answered_tells (logs.Start k) e is = stepped_tells (logs.Start k) true (steps.Start k) e is (λ so. refl)
  answered_tells (logs.Begin k epoch pass) e is = begun_tells k epoch pass e is
  answered_tells (logs.Live k pass) e is = told_where (logs.Live k pass) (is_pass c k pass) (events.Live k pass) e is (λ so. record { step = so; told = refl; post = tt })
  answered_tells (logs.Mail k pass s) e is = told_where (logs.Mail k pass s) (is_pass c k pass) (events.Mail k pass s) e is (λ so. record { step = so; told = refl; post = tt })
  answered_tells (logs.States k pass s) e is = told_where (logs.States k pass s) (is_pass c k pass) (events.States k pass s) e is (λ so. record { step = so; told = refl; post = tt })
  answered_tells (logs.Ideals k pass) e is = told_where (logs.Ideals k pass) (is_pass c k pass) (events.Ideals k pass) e is (λ so. record { step = so; told = refl; post = tt })
  answered_tells (logs.Dispatch k epoch pass moves) e is = dispatched_tells k epoch pass moves e is
  answered_tells (logs.Post k epoch n) e is = posted_tells k epoch n e is
  answered_tells (logs.Fetch i s n) e is = fetched_tells i s n e is
  answered_tells (logs.Take s id) e is = told_where (logs.Take s id) (can_take c s id) (events.Take s id) e is (λ so. record { step = so; told = refl; post = tt })
  answered_tells (logs.Write s id outcome) e is = told_where (logs.Write s id outcome) (can_write c s id) (events.Write s id outcome) e is (λ so. record { step = so; told = refl; post = tt })
  answered_tells (logs.Ack s id) e is = told_where (logs.Ack s id) (can_ack c s id) (events.Ack s id) e is (λ so. record { step = so; told = refl; post = tt })
