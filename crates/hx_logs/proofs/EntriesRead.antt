-- The words by which a log tells an entry are read as the entry.
use Rattle.std.proofs.Common.{◌≡◌, ℕ, Bool, true, not, ◌&&◌, ◌==◌, List, [], ◌∷◌, ◌++◌, map, drop, Option, Some, Result, Ok, codes, refl, ap, ◌∙◌, arith}
use Rattle.std.specs.Prelude.{is_some}
use Rattle.std.proofs.lemmas.Bool.Decides.{nat_tests}
use Rattle.std.proofs.lemmas.Bool.{and_parts, and_from}
use Rattle.std.proofs.lemmas.List.Folds.{list_all-append}
use Rattle.std.specs.Fmt.{decimal}
use Rattle.std.specs.List.{list_all, after_first}
use Rattle.std.specs.Option.{option_map_or}
use Rattle.hx_ids.specs.declared.InstanceId.{InstanceId}
use Rattle.hx_ids.specs.declared.ModelId.{ModelId}
use Rattle.hx_ids.specs.declared.ResourceId.{ResourceId}
use Rattle.hx_ids.specs.declared.SessionId.{SessionId}
use Rattle.hx_ids.specs.declared.MsgId.{MsgId}
use Rattle.hx_ids.specs.declared.Epoch.{Epoch}
use Rattle.hx_ids.specs.declared.PassNo.{PassNo}
use Rattle.hx_ids.specs.declared.ControllerId.{ControllerId}
use Rattle.hx_ids.specs.Names.{place_after}
use Rattle.hx_cluster.specs.declared.description.Spec.{Spec}
use Rattle.hx_cluster.specs.declared.happenings.Placed.{Placed}
use Rattle.hx_cluster.specs.declared.happenings.Placed.TheVariants as placings
use Rattle.hx_cluster.specs.Valid.{IsValid}
use Rattle.hx_print.specs.Texts.{name_at, instance_name, state_name, model_name, controller_name, session_name, message_name, epoch_name, pass_name, outcome_name, or_dash, numbered, mapped_name, move_text, placed_words}
use Rattle.hx_script.specs.declared.faults.ScriptKind.{ScriptKind}
use Rattle.hx_script.specs.declared.log.LogMove.{LogMove}
use Rattle.hx_script.specs.declared.log.LogEntry.{LogEntry}
use Rattle.hx_script.specs.declared.log.LogEntry.TheVariants as logs
use Rattle.hx_script.specs.Grammar.{map_ok, then_ok, instance_word, state_word, model_word, controller_word, mode_word, pair_word, all_words}
use Rattle.hx_script.specs.LineTexts.{mode_text}
use Rattle.hx_script.specs.Logs.{exact_words, short_number, long_number, session_word, message_id_word, epoch_word, pass_word, unless_dash, is_hash, resource_number, part_named, move_word, outcome_word, instance_and_session, controller_and_pass, pass_and_session, epoch_and_pass, session_and_message, ended_words, then_move, over_bound, over_throttle, move_words, told_words}
use Rattle.hx_script.specs.Modes.{mode_numbered}
use Rattle.hx_script.specs.Ranges.{has_instance, has_state, has_entry, has_model, has_controller, has_resource_name}
use Rattle.hx_script.proofs.Joined.{joined}
use Rattle.hx_logs.specs.Printed.{is_short, is_long, is_named, is_part, is_ended, is_answer, is_move, is_entry_in_range}
use Rattle.hx_logs.proofs.Cuts.{split_joined}
use Rattle.hx_logs.proofs.WordsRead

-- the words of an entry's line
abbrev pub words_told : Spec → LogEntry → List (List ℕ)
words_told spec (logs.Line n) = codes "line" ∷ decimal n ∷ []
words_told spec (logs.Join i s) = codes "join" ∷ instance_name spec i ∷ session_name s ∷ []
words_told spec (logs.End i s) = codes "end" ∷ instance_name spec i ∷ session_name s ∷ []
words_told spec (logs.Beat i s) = codes "beat" ∷ instance_name spec i ∷ session_name s ∷ []
words_told spec (logs.Tick n ended) = codes "tick" ∷ decimal n ∷ []
words_told spec (logs.Drain i) = codes "drain" ∷ instance_name spec i ∷ []
words_told spec (logs.Undrain i) = codes "undrain" ∷ instance_name spec i ∷ []
words_told spec (logs.Add name r model replicas parts mode) =
    codes "add" ∷ numbered (name_at spec.resource_names name) r ∷ model_name spec model ∷ decimal replicas ∷ decimal parts ∷ mode_text mode ∷ []
words_told spec (logs.Drop name r) = codes "drop" ∷ numbered (WordsRead.name_told spec name) r ∷ []
words_told spec (logs.List p list) = codes "list" ∷ WordsRead.part_text spec p ∷ map (instance_name spec) list
words_told spec (logs.Map p entries) = codes "map" ∷ WordsRead.part_text spec p ∷ map (mapped_name spec) entries
words_told spec (logs.Reset i s p) = codes "reset" ∷ instance_name spec i ∷ session_name s ∷ WordsRead.part_text spec p ∷ []
words_told spec (logs.Lead k e) = codes "lead" ∷ controller_name k ∷ epoch_name e ∷ []
words_told spec (logs.Stop k) = codes "stop" ∷ controller_name k ∷ []
words_told spec (logs.Start k) = codes "start" ∷ controller_name k ∷ []
words_told spec (logs.Begin k e pass) = codes "begin" ∷ controller_name k ∷ epoch_name e ∷ pass_name pass ∷ []
words_told spec (logs.Live k pass) = codes "live" ∷ controller_name k ∷ pass_name pass ∷ []
words_told spec (logs.Mail k pass s) = codes "mail" ∷ controller_name k ∷ pass_name pass ∷ session_name s ∷ []
words_told spec (logs.States k pass s) = codes "states" ∷ controller_name k ∷ pass_name pass ∷ session_name s ∷ []
words_told spec (logs.Ideals k pass) = codes "ideals" ∷ controller_name k ∷ pass_name pass ∷ []
words_told spec (logs.Dispatch k e pass moves) = codes "send" ∷ controller_name k ∷ epoch_name e ∷ pass_name pass ∷ []
words_told spec (logs.Post k e rows) = codes "post" ∷ controller_name k ∷ epoch_name e ∷ decimal rows ∷ []
words_told spec (logs.Fetch i s n) = codes "fetch" ∷ instance_name spec i ∷ or_dash session_name s ∷ decimal n ∷ []
words_told spec (logs.Take s m) = codes "take" ∷ session_name s ∷ message_name m ∷ []
words_told spec (logs.Write s m outcome) = codes "write" ∷ session_name s ∷ message_name m ∷ outcome_name outcome ∷ []
words_told spec (logs.Ack s m) = codes "ack" ∷ session_name s ∷ message_name m ∷ []

-- and of its indented lines
abbrev pub ended_told : Spec → InstanceId × SessionId → List (List ℕ)
ended_told spec t = codes "end" ∷ instance_name spec t.0 ∷ session_name t.1 ∷ []

abbrev pub behind_spaces : List (List ℕ) → List (List ℕ)
behind_spaces [] = []
behind_spaces (w ∷ ws) = drop 2 w ∷ ws

abbrev pub answer_told : Spec → Placed → List (List ℕ)
answer_told spec answer = behind_spaces (placed_words spec answer)

abbrev pub proposal_told : Spec → LogMove → List (List ℕ)
proposal_told spec m = session_name m.session ∷ WordsRead.part_text spec m.part ∷ move_text spec m.from m.to ∷ []

abbrev pub move_told : Spec → LogMove → List (List ℕ)
move_told spec m = answer_told spec m.answer ++ proposal_told spec m

abbrev pub indented_told : Spec → LogEntry → List (List (List ℕ))
indented_told spec (logs.Tick n ended) = map (ended_told spec) ended
indented_told spec (logs.Dispatch k e pass moves) = map (move_told spec) moves
indented_told spec _ = []

-- all words are dark
abbrev pub are_dark : List (List ℕ) → Bool
are_dark ws = list_all WordsRead.is_dark ws

dark_list : {A : Type 0} (text : A → List ℕ) (test : A → Bool) → ((x : A) → test x ≡ true → WordsRead.is_dark (text x) ≡ true) → (xs : List A) → list_all test xs ≡ true → are_dark (map text xs) ≡ true
dark_list text test dark [] e = refl
dark_list text test dark (x ∷ xs) e = let both = and_parts (test x) (list_all test xs) e in and_from _ _ (dark x both.0) (dark_list text test dark xs both.1)

dark_two : (v w : List ℕ) → WordsRead.is_dark v ≡ true → WordsRead.is_dark w ≡ true → are_dark (v ∷ w ∷ []) ≡ true
dark_two v w one two = and_from _ _ one (and_from _ _ two refl)

dark_three : (u v w : List ℕ) → WordsRead.is_dark u ≡ true → WordsRead.is_dark v ≡ true → WordsRead.is_dark w ≡ true → are_dark (u ∷ v ∷ w ∷ []) ≡ true
dark_three u v w one two three = and_from _ _ one (dark_two v w two three)

-- three tests
abbrev Three : Bool → Bool → Bool → Type 0
Three a b c = (a ≡ true) × (b ≡ true) × (c ≡ true)

three_parts : (a b c : Bool) → (a && (b && c)) ≡ true → Three a b c
three_parts a b c e = let one = and_parts a (b && c) e in let two = and_parts b c one.1 in (one.0, two.0, two.1)

all_spaceless : (ws : List (List ℕ)) → are_dark ws ≡ true → list_all (list_all (λ b. not (b == 32))) ws ≡ true
all_spaceless [] e = refl
all_spaceless (w ∷ ws) e =
    let both = and_parts (WordsRead.is_dark w) (are_dark ws) e in
    and_from _ _ (WordsRead.all_so WordsRead.is_dark_byte (λ b. not (b == 32)) (λ b dark. grind (arith, nat_tests, dark)) w both.0) (all_spaceless ws both.1)

-- dark words with one space between are cut again
pub cut_again : (vs : List (List ℕ)) (w : List ℕ) (ws : List (List ℕ)) → are_dark (vs ++ w ∷ ws) ≡ true → exact_words (joined (vs ++ w ∷ ws)) ≡ vs ++ w ∷ ws
cut_again [] w ws dark = split_joined (λ b. b == 32) w ws (all_spaceless (w ∷ ws) dark) refl
cut_again (v ∷ vs) w ws dark = split_joined (λ b. b == 32) v (vs ++ w ∷ ws) (all_spaceless (v ∷ vs ++ w ∷ ws) dark) refl

module _ (spec : Spec) (valid : IsValid spec) where
  -- the forms that several entries share
  instance_session_read : (i : InstanceId) (s : SessionId) → (has_instance spec i && is_long s.0) ≡ true → instance_and_session spec (instance_name spec i ∷ session_name s ∷ []) ≡ Ok (i, s)
  instance_session_read i s is =
      let both = and_parts (has_instance spec i) (is_long s.0) is in
      WordsRead.two_read (instance_word spec (instance_name spec i)) (session_word (session_name s)) (λ i s. (i, s)) i s (WordsRead.instance_read spec valid i both.0) (WordsRead.session_read s both.1)

  epoch_pass_read : (k : ControllerId) (e : Epoch) (pass : PassNo) → (has_controller spec k && (is_long e.0 && is_long pass.0)) ≡ true → epoch_and_pass spec (controller_name k ∷ epoch_name e ∷ pass_name pass ∷ []) ≡ Ok (k, e, pass)
  epoch_pass_read k e pass is =
      let all = three_parts (has_controller spec k) (is_long e.0) (is_long pass.0) is in
      WordsRead.three_read (controller_word spec (controller_name k)) (epoch_word (epoch_name e)) (pass_word (pass_name pass)) (λ k e p. (k, e, p)) k e pass
      (WordsRead.controller_read spec valid k all.0) (WordsRead.epoch_read e all.1) (WordsRead.pass_read pass all.2)

  dark_instance_session : (i : InstanceId) (s : SessionId) → (has_instance spec i && is_long s.0) ≡ true → are_dark (instance_name spec i ∷ session_name s ∷ []) ≡ true
  dark_instance_session i s is =
      let both = and_parts (has_instance spec i) (is_long s.0) is in
      dark_two (instance_name spec i) (session_name s) (WordsRead.dark_instance spec valid i both.0) (WordsRead.dark_long s.0 both.1)

  dark_epoch_pass : (k : ControllerId) (e : Epoch) (pass : PassNo) → (has_controller spec k && (is_long e.0 && is_long pass.0)) ≡ true → are_dark (controller_name k ∷ epoch_name e ∷ pass_name pass ∷ []) ≡ true
  dark_epoch_pass k e pass is =
      let all = three_parts (has_controller spec k) (is_long e.0) (is_long pass.0) is in
      dark_three (controller_name k) (epoch_name e) (pass_name pass) (WordsRead.dark_controller spec valid k all.0) (WordsRead.dark_long e.0 all.1) (WordsRead.dark_long pass.0 all.2)

  dark_pass_session : (k : ControllerId) (pass : PassNo) (s : SessionId) → (has_controller spec k && (is_long pass.0 && is_long s.0)) ≡ true → are_dark (controller_name k ∷ pass_name pass ∷ session_name s ∷ []) ≡ true
  dark_pass_session k pass s is =
      let all = three_parts (has_controller spec k) (is_long pass.0) (is_long s.0) is in
      dark_three (controller_name k) (pass_name pass) (session_name s) (WordsRead.dark_controller spec valid k all.0) (WordsRead.dark_long pass.0 all.1) (WordsRead.dark_long s.0 all.2)

  pass_session_read : (k : ControllerId) (pass : PassNo) (s : SessionId) → (has_controller spec k && (is_long pass.0 && is_long s.0)) ≡ true
      → pass_and_session spec (controller_name k ∷ pass_name pass ∷ session_name s ∷ []) ≡ Ok (k, pass, s)
  pass_session_read k pass s is =
      let all = three_parts (has_controller spec k) (is_long pass.0) (is_long s.0) is in
      WordsRead.three_read (controller_word spec (controller_name k)) (pass_word (pass_name pass)) (session_word (session_name s)) (λ k p s. (k, p, s)) k pass s
      (WordsRead.controller_read spec valid k all.0) (WordsRead.pass_read pass all.1) (WordsRead.session_read s all.2)

  pass_read_by : (k : ControllerId) (pass : PassNo) → (has_controller spec k && is_long pass.0) ≡ true
      → controller_and_pass spec (controller_name k ∷ pass_name pass ∷ []) ≡ Ok (k, pass)
  pass_read_by k pass is =
      let both = and_parts (has_controller spec k) (is_long pass.0) is in
      WordsRead.two_read (controller_word spec (controller_name k)) (pass_word (pass_name pass)) (λ k p. (k, p)) k pass (WordsRead.controller_read spec valid k both.0) (WordsRead.pass_read pass both.1)

  dark_pass_by : (k : ControllerId) (pass : PassNo) → (has_controller spec k && is_long pass.0) ≡ true → are_dark (controller_name k ∷ pass_name pass ∷ []) ≡ true
  dark_pass_by k pass is =
      let both = and_parts (has_controller spec k) (is_long pass.0) is in
      dark_two (controller_name k) (pass_name pass) (WordsRead.dark_controller spec valid k both.0) (WordsRead.dark_long pass.0 both.1)

  session_message_read : (s : SessionId) (m : MsgId) → (is_long s.0 && is_long m.0) ≡ true → session_and_message (session_name s ∷ message_name m ∷ []) ≡ Ok (s, m)
  session_message_read s m is =
      let both = and_parts (is_long s.0) (is_long m.0) is in
      WordsRead.two_read (session_word (session_name s)) (message_id_word (message_name m)) (λ s m. (s, m)) s m (WordsRead.session_read s both.0) (WordsRead.message_read m both.1)

  dark_session_message : (s : SessionId) (m : MsgId) → (is_long s.0 && is_long m.0) ≡ true → are_dark (session_name s ∷ message_name m ∷ []) ≡ true
  dark_session_message s m is =
      let both = and_parts (is_long s.0) (is_long m.0) is in
      dark_two (session_name s) (message_name m) (WordsRead.dark_long s.0 both.0) (WordsRead.dark_long m.0 both.1)

  -- a proposal behind its answer
  moved : (q : LogMove) (a : Placed) (answer : Result Placed ScriptKind) → (is_long q.session.0 && (is_part spec q.part && (has_state spec q.from && has_state spec q.to))) ≡ true → answer ≡ Ok a
      → then_move spec (proposal_told spec q) answer ≡ Ok (record q { answer = a })
  moved q a answer is told =
      let all = three_parts (is_long q.session.0) (is_part spec q.part) (has_state spec q.from && has_state spec q.to) is in
      let states = and_parts (has_state spec q.from) (has_state spec q.to) all.2 in
      ap (then_move spec (proposal_told spec q)) told
      ∙ WordsRead.three_read (session_word (session_name q.session)) (part_named spec (WordsRead.part_text spec q.part)) (move_word spec (move_text spec q.from q.to))
      (λ s p m. let r : LogMove = record { session = s; part = p; from = m.0; to = m.1; answer = a } in r) q.session q.part (q.from, q.to)
      (WordsRead.session_read q.session all.0) (WordsRead.part_read spec valid q.part all.1) (WordsRead.move_read spec valid q.from q.to states.0 states.1)

  placed_read : (q : LogMove) (a : Placed) → is_answer spec a ≡ true → (is_long q.session.0 && (is_part spec q.part && (has_state spec q.from && has_state spec q.to))) ≡ true
      → move_words spec (answer_told spec a ++ proposal_told spec q) ≡ Ok (record q { answer = a })
  placed_read q placings.Ended good is = moved q placings.Ended (Ok placings.Ended) is refl
  placed_read q placings.ResourceDropped good is = moved q placings.ResourceDropped (Ok placings.ResourceDropped) is refl
  placed_read q placings.Illegal good is = moved q placings.Illegal (Ok placings.Illegal) is refl
  placed_read q (placings.Sent m) good is = moved q (placings.Sent m) (map_ok placings.Sent (message_id_word (message_name m))) is (ap (map_ok placings.Sent) (WordsRead.message_read m good))
  placed_read q (placings.Busy m) good is = moved q (placings.Busy m) (map_ok placings.Busy (message_id_word (message_name m))) is (ap (map_ok placings.Busy) (WordsRead.message_read m good))
  placed_read q (placings.WrongFrom has) good is =
      moved q (placings.WrongFrom has) (map_ok placings.WrongFrom (unless_dash (state_word spec) (or_dash (state_name spec) has))) is (ap (map_ok placings.WrongFrom) (WordsRead.state_or_read spec valid has good))
  placed_read q (placings.OverBound count bound) good is =
      let both = and_parts (is_short count) (is_short bound) good in
      moved q (placings.OverBound count bound) (over_bound (decimal count) (codes "of") (decimal bound)) is
      (WordsRead.two_read (short_number (decimal count)) (short_number (decimal bound)) placings.OverBound count bound (WordsRead.short_read count both.0) (WordsRead.short_read bound both.1))
  placed_read q (placings.OverThrottle rule load limit) good is =
      let all = three_parts (is_short rule) (is_short load) (is_short limit) good in
      moved q (placings.OverThrottle rule load limit) (over_throttle (decimal rule) (decimal load) (codes "of") (decimal limit)) is
      (WordsRead.three_read (short_number (decimal rule)) (short_number (decimal load)) (short_number (decimal limit)) placings.OverThrottle rule load limit
      (WordsRead.short_read rule all.0) (WordsRead.short_read load all.1) (WordsRead.short_read limit all.2))

  dark_answer : (a : Placed) → is_answer spec a ≡ true → are_dark (answer_told spec a) ≡ true
  dark_answer placings.Ended good = refl
  dark_answer placings.ResourceDropped good = refl
  dark_answer placings.Illegal good = refl
  dark_answer (placings.Sent m) good = and_from _ _ (WordsRead.dark_long m.0 good) refl
  dark_answer (placings.Busy m) good = and_from _ _ (WordsRead.dark_long m.0 good) refl
  dark_answer (placings.WrongFrom has) good = and_from _ _ (WordsRead.dark_state_or spec valid has good) refl
  dark_answer (placings.OverBound count bound) good =
      let both = and_parts (is_short count) (is_short bound) good in
      and_from _ _ (WordsRead.dark_short count both.0) (and_from _ _ (WordsRead.dark_short bound both.1) refl)
  dark_answer (placings.OverThrottle rule load limit) good =
      let all = three_parts (is_short rule) (is_short load) (is_short limit) good in
      and_from _ _ (WordsRead.dark_short rule all.0) (and_from _ _ (WordsRead.dark_short load all.1) (and_from _ _ (WordsRead.dark_short limit all.2) refl))

  dark_proposal : (q : LogMove) → (is_long q.session.0 && (is_part spec q.part && (has_state spec q.from && has_state spec q.to))) ≡ true → are_dark (proposal_told spec q) ≡ true
  dark_proposal q is =
      let all = three_parts (is_long q.session.0) (is_part spec q.part) (has_state spec q.from && has_state spec q.to) is in
      let states = and_parts (has_state spec q.from) (has_state spec q.to) all.2 in
      dark_three (session_name q.session) (WordsRead.part_text spec q.part) (move_text spec q.from q.to) (WordsRead.dark_long q.session.0 all.0) (WordsRead.dark_part spec valid q.part all.1) (WordsRead.dark_move spec valid q.from q.to states.0 states.1)

  -- the indented lines
  ended_read : (t : InstanceId × SessionId) → is_ended spec t ≡ true → ended_words spec (exact_words (joined (ended_told spec t))) ≡ Ok t
  ended_read t is =
      ap (ended_words spec) (cut_again [] (codes "end") (instance_name spec t.0 ∷ session_name t.1 ∷ []) (dark_instance_session t.0 t.1 is)) ∙ instance_session_read t.0 t.1 is

  dark_move_told : (q : LogMove) → is_move spec q ≡ true → are_dark (move_told spec q) ≡ true
  dark_move_told q is =
      let both = and_parts (is_answer spec q.answer) (is_long q.session.0 && (is_part spec q.part && (has_state spec q.from && has_state spec q.to))) is in
      list_all-append WordsRead.is_dark (answer_told spec q.answer) (proposal_told spec q) ∙ and_from _ _ (dark_answer q.answer both.0) (dark_proposal q both.1)

  move_read : (q : LogMove) → is_move spec q ≡ true → move_words spec (exact_words (joined (move_told spec q))) ≡ Ok q
  move_read q is =
      let both = and_parts (is_answer spec q.answer) (is_long q.session.0 && (is_part spec q.part && (has_state spec q.from && has_state spec q.to))) is in
      ap (move_words spec) (cut_again (answer_told spec q.answer) (session_name q.session) (WordsRead.part_text spec q.part ∷ move_text spec q.from q.to ∷ []) (dark_move_told q is))
      ∙ placed_read q q.answer both.0 both.1

  lines_read : {A : Type 0} (word : List (List ℕ) → Result A ScriptKind) (text : A → List (List ℕ)) (test : A → Bool) → ((x : A) → test x ≡ true → word (exact_words (joined (text x))) ≡ Ok x)
      → (xs : List A) → list_all test xs ≡ true → all_words (λ l. word (exact_words l)) (map joined (map text xs)) ≡ Ok xs
  lines_read word text test reads [] e = refl
  lines_read word text test reads (x ∷ xs) e =
      let both = and_parts (test x) (list_all test xs) e in
      ap (λ r. then_ok r (λ x. map_ok (λ xs. x ∷ xs) (all_words (λ l. word (exact_words l)) (map joined (map text xs))))) (reads x both.0)
      ∙ ap (map_ok (λ xs. x ∷ xs)) (lines_read word text test reads xs both.1)

  -- an entry's words, with its indented lines
  pub entry_read : (entry : LogEntry) → is_entry_in_range spec entry ≡ true → told_words spec (words_told spec entry) (map joined (indented_told spec entry)) ≡ Ok entry
  entry_read (logs.Line n) is = ap (map_ok logs.Line) (WordsRead.short_read n is)
  entry_read (logs.Join i s) is = ap (map_ok (λ (t : InstanceId × SessionId). logs.Join t.0 t.1)) (instance_session_read i s is)
  entry_read (logs.End i s) is = ap (map_ok (λ (t : InstanceId × SessionId). logs.End t.0 t.1)) (instance_session_read i s is)
  entry_read (logs.Beat i s) is = ap (map_ok (λ (t : InstanceId × SessionId). logs.Beat t.0 t.1)) (instance_session_read i s is)
  entry_read (logs.Tick n ended) is =
      let both = and_parts (is_long n) (list_all (is_ended spec) ended) is in
      WordsRead.two_read (long_number (decimal n)) (all_words (λ l. ended_words spec (exact_words l)) (map joined (map (ended_told spec) ended))) logs.Tick n ended
      (WordsRead.long_read n both.0) (lines_read (ended_words spec) (ended_told spec) (is_ended spec) ended_read ended both.1)
  entry_read (logs.Drain i) is = ap (map_ok logs.Drain) (WordsRead.instance_read spec valid i is)
  entry_read (logs.Undrain i) is = ap (map_ok logs.Undrain) (WordsRead.instance_read spec valid i is)
  entry_read (logs.Add name r model replicas parts mode) is =
      let one = and_parts (has_resource_name spec name) (is_short r.0 && (has_model spec model && (is_short replicas && (is_short parts && is_some (mode_numbered mode))))) is in
      let two = and_parts (is_short r.0) (has_model spec model && (is_short replicas && (is_short parts && is_some (mode_numbered mode)))) one.1 in
      let three = and_parts (has_model spec model) (is_short replicas && (is_short parts && is_some (mode_numbered mode))) two.1 in
      let rest = three_parts (is_short replicas) (is_short parts) (is_some (mode_numbered mode)) three.1 in
      let text = name_at spec.resource_names name in
      let names = WordsRead.added_name_read text r (WordsRead.told_is_name spec valid (Some name) one.0) two.0 in
      let word = numbered text r in
      let end : ℕ → ResourceId → ModelId → Result LogEntry ScriptKind = λ n q m. then_ok (short_number (decimal replicas)) (λ replicas. then_ok (short_number (decimal parts)) (λ parts. map_ok (logs.Add n q m replicas parts) (mode_word (mode_text mode)))) in
      ap (λ o. then_ok o (λ n. then_ok (resource_number (after_first is_hash word)) (λ q. then_ok (model_word spec (model_name spec model)) (λ m. end (place_after spec.resource_names n) q m)))) names.0
      ∙ ap (λ o. then_ok o (λ q. then_ok (model_word spec (model_name spec model)) (λ m. end (place_after spec.resource_names text) q m))) names.1
      ∙ ap (λ o. then_ok o (λ m. end (place_after spec.resource_names text) r m)) (WordsRead.model_read spec valid model three.0)
      ∙ ap (λ n. end n r model) (WordsRead.added_place spec valid name one.0)
      ∙ WordsRead.three_read (short_number (decimal replicas)) (short_number (decimal parts)) (mode_word (mode_text mode)) (logs.Add name r model) replicas parts mode
      (WordsRead.short_read replicas rest.0) (WordsRead.short_read parts rest.1) (WordsRead.mode_read mode rest.2)
  entry_read (logs.Drop name r) is =
      let both = and_parts (is_named spec name) (is_short r.0) is in
      ap (map_ok (λ (q : Option ℕ × ResourceId). logs.Drop q.0 q.1)) (WordsRead.resource_named_read spec valid name r both.0 both.1)
  entry_read (logs.List p list) is =
      let both = and_parts (is_part spec p) (list_all (has_instance spec) list) is in
      WordsRead.two_read (part_named spec (WordsRead.part_text spec p)) (all_words (instance_word spec) (map (instance_name spec) list)) logs.List p list
      (WordsRead.part_read spec valid p both.0) (WordsRead.all_read (instance_word spec) (instance_name spec) (has_instance spec) (WordsRead.instance_read spec valid) list both.1)
  entry_read (logs.Map p entries) is =
      let both = and_parts (is_part spec p) (list_all (has_entry spec) entries) is in
      WordsRead.two_read (part_named spec (WordsRead.part_text spec p)) (all_words (pair_word spec) (map (mapped_name spec) entries)) logs.Map p entries
      (WordsRead.part_read spec valid p both.0) (WordsRead.all_read (pair_word spec) (mapped_name spec) (has_entry spec) (WordsRead.pair_read spec valid) entries both.1)
  entry_read (logs.Reset i s p) is =
      let all = three_parts (has_instance spec i) (is_long s.0) (is_part spec p) is in
      WordsRead.three_read (instance_word spec (instance_name spec i)) (session_word (session_name s)) (part_named spec (WordsRead.part_text spec p)) logs.Reset i s p
      (WordsRead.instance_read spec valid i all.0) (WordsRead.session_read s all.1) (WordsRead.part_read spec valid p all.2)
  entry_read (logs.Lead k e) is =
      let both = and_parts (has_controller spec k) (is_long e.0) is in
      ap (map_ok (λ (t : ControllerId × Epoch). logs.Lead t.0 t.1)) (WordsRead.two_read (controller_word spec (controller_name k)) (epoch_word (epoch_name e)) (λ k e. (k, e)) k e
      (WordsRead.controller_read spec valid k both.0) (WordsRead.epoch_read e both.1))
  entry_read (logs.Stop k) is = ap (map_ok logs.Stop) (WordsRead.controller_read spec valid k is)
  entry_read (logs.Start k) is = ap (map_ok logs.Start) (WordsRead.controller_read spec valid k is)
  entry_read (logs.Begin k e pass) is = ap (map_ok (λ (t : ControllerId × Epoch × PassNo). logs.Begin t.0 t.1 t.2)) (epoch_pass_read k e pass is)
  entry_read (logs.Live k pass) is = ap (map_ok (λ (t : ControllerId × PassNo). logs.Live t.0 t.1)) (pass_read_by k pass is)
  entry_read (logs.Mail k pass s) is = ap (map_ok (λ (t : ControllerId × PassNo × SessionId). logs.Mail t.0 t.1 t.2)) (pass_session_read k pass s is)
  entry_read (logs.States k pass s) is = ap (map_ok (λ (t : ControllerId × PassNo × SessionId). logs.States t.0 t.1 t.2)) (pass_session_read k pass s is)
  entry_read (logs.Ideals k pass) is = ap (map_ok (λ (t : ControllerId × PassNo). logs.Ideals t.0 t.1)) (pass_read_by k pass is)
  entry_read (logs.Dispatch k e pass moves) is =
      let both = and_parts (has_controller spec k && (is_long e.0 && is_long pass.0)) (list_all (is_move spec) moves) is in
      WordsRead.two_read (epoch_and_pass spec (controller_name k ∷ epoch_name e ∷ pass_name pass ∷ [])) (all_words (λ l. move_words spec (exact_words l)) (map joined (map (move_told spec) moves)))
      (λ (t : ControllerId × Epoch × PassNo) ms. logs.Dispatch t.0 t.1 t.2 ms) (k, e, pass) moves
      (epoch_pass_read k e pass both.0) (lines_read (move_words spec) (move_told spec) (is_move spec) move_read moves both.1)
  entry_read (logs.Post k e rows) is =
      let all = three_parts (has_controller spec k) (is_long e.0) (is_short rows) is in
      WordsRead.three_read (controller_word spec (controller_name k)) (epoch_word (epoch_name e)) (short_number (decimal rows)) logs.Post k e rows
      (WordsRead.controller_read spec valid k all.0) (WordsRead.epoch_read e all.1) (WordsRead.short_read rows all.2)
  entry_read (logs.Fetch i s n) is =
      let all = three_parts (has_instance spec i) (option_map_or (λ s. is_long s.0) s true) (is_short n) is in
      WordsRead.three_read (instance_word spec (instance_name spec i)) (unless_dash session_word (or_dash session_name s)) (short_number (decimal n)) logs.Fetch i s n
      (WordsRead.instance_read spec valid i all.0) (WordsRead.session_or_read s all.1) (WordsRead.short_read n all.2)
  entry_read (logs.Take s m) is = ap (map_ok (λ (t : SessionId × MsgId). logs.Take t.0 t.1)) (session_message_read s m is)
  entry_read (logs.Write s m outcome) is =
      let both = and_parts (is_long s.0) (is_long m.0) is in
      WordsRead.three_read (session_word (session_name s)) (message_id_word (message_name m)) (outcome_word (outcome_name outcome)) logs.Write s m outcome
      (WordsRead.session_read s both.0) (WordsRead.message_read m both.1) (WordsRead.outcome_read outcome)
  entry_read (logs.Ack s m) is = ap (map_ok (λ (t : SessionId × MsgId). logs.Ack t.0 t.1)) (session_message_read s m is)

  -- no blank stands in its words
  pub dark_entry : (entry : LogEntry) → is_entry_in_range spec entry ≡ true → are_dark (words_told spec entry) ≡ true
  dark_entry (logs.Line n) is = and_from _ _ (WordsRead.dark_short n is) refl
  dark_entry (logs.Join i s) is = dark_instance_session i s is
  dark_entry (logs.End i s) is = dark_instance_session i s is
  dark_entry (logs.Beat i s) is = dark_instance_session i s is
  dark_entry (logs.Tick n ended) is = and_from _ _ (WordsRead.dark_long n (and_parts (is_long n) (list_all (is_ended spec) ended) is).0) refl
  dark_entry (logs.Drain i) is = and_from _ _ (WordsRead.dark_instance spec valid i is) refl
  dark_entry (logs.Undrain i) is = and_from _ _ (WordsRead.dark_instance spec valid i is) refl
  dark_entry (logs.Add name r model replicas parts mode) is =
      let one = and_parts (has_resource_name spec name) (is_short r.0 && (has_model spec model && (is_short replicas && (is_short parts && is_some (mode_numbered mode))))) is in
      let two = and_parts (is_short r.0) (has_model spec model && (is_short replicas && (is_short parts && is_some (mode_numbered mode)))) one.1 in
      let three = and_parts (has_model spec model) (is_short replicas && (is_short parts && is_some (mode_numbered mode))) two.1 in
      let rest = three_parts (is_short replicas) (is_short parts) (is_some (mode_numbered mode)) three.1 in
      and_from _ _ (WordsRead.dark_numbered (name_at spec.resource_names name) r (WordsRead.told_is_name spec valid (Some name) one.0) two.0)
      (and_from _ _ (WordsRead.dark_model spec valid model three.0)
      (dark_three (decimal replicas) (decimal parts) (mode_text mode) (WordsRead.dark_short replicas rest.0) (WordsRead.dark_short parts rest.1) (WordsRead.dark_mode (mode_numbered mode))))
  dark_entry (logs.Drop name r) is =
      let both = and_parts (is_named spec name) (is_short r.0) is in
      and_from _ _ (WordsRead.dark_numbered (WordsRead.name_told spec name) r (WordsRead.told_is_name spec valid name both.0) both.1) refl
  dark_entry (logs.List p list) is =
      let both = and_parts (is_part spec p) (list_all (has_instance spec) list) is in
      and_from _ _ (WordsRead.dark_part spec valid p both.0) (dark_list (instance_name spec) (has_instance spec) (WordsRead.dark_instance spec valid) list both.1)
  dark_entry (logs.Map p entries) is =
      let both = and_parts (is_part spec p) (list_all (has_entry spec) entries) is in
      and_from _ _ (WordsRead.dark_part spec valid p both.0) (dark_list (mapped_name spec) (has_entry spec) (WordsRead.dark_pair spec valid) entries both.1)
  dark_entry (logs.Reset i s p) is =
      let all = three_parts (has_instance spec i) (is_long s.0) (is_part spec p) is in
      dark_three (instance_name spec i) (session_name s) (WordsRead.part_text spec p) (WordsRead.dark_instance spec valid i all.0) (WordsRead.dark_long s.0 all.1) (WordsRead.dark_part spec valid p all.2)
  dark_entry (logs.Lead k e) is =
      let both = and_parts (has_controller spec k) (is_long e.0) is in
      dark_two (controller_name k) (epoch_name e) (WordsRead.dark_controller spec valid k both.0) (WordsRead.dark_long e.0 both.1)
  dark_entry (logs.Stop k) is = and_from _ _ (WordsRead.dark_controller spec valid k is) refl
  dark_entry (logs.Start k) is = and_from _ _ (WordsRead.dark_controller spec valid k is) refl
  dark_entry (logs.Begin k e pass) is = dark_epoch_pass k e pass is
  dark_entry (logs.Live k pass) is = dark_pass_by k pass is
  dark_entry (logs.Mail k pass s) is = dark_pass_session k pass s is
  dark_entry (logs.States k pass s) is = dark_pass_session k pass s is
  dark_entry (logs.Ideals k pass) is = dark_pass_by k pass is
  dark_entry (logs.Dispatch k e pass moves) is = dark_epoch_pass k e pass (and_parts (has_controller spec k && (is_long e.0 && is_long pass.0)) (list_all (is_move spec) moves) is).0
  dark_entry (logs.Post k e rows) is =
      let all = three_parts (has_controller spec k) (is_long e.0) (is_short rows) is in
      dark_three (controller_name k) (epoch_name e) (decimal rows) (WordsRead.dark_controller spec valid k all.0) (WordsRead.dark_long e.0 all.1) (WordsRead.dark_short rows all.2)
  dark_entry (logs.Fetch i s n) is =
      let all = three_parts (has_instance spec i) (option_map_or (λ s. is_long s.0) s true) (is_short n) is in
      dark_three (instance_name spec i) (or_dash session_name s) (decimal n) (WordsRead.dark_instance spec valid i all.0) (WordsRead.dark_or s all.1) (WordsRead.dark_short n all.2)
  dark_entry (logs.Take s m) is = dark_session_message s m is
  dark_entry (logs.Write s m outcome) is =
      let both = and_parts (is_long s.0) (is_long m.0) is in
      dark_three (session_name s) (message_name m) (outcome_name outcome) (WordsRead.dark_long s.0 both.0) (WordsRead.dark_long m.0 both.1) (WordsRead.dark_outcome outcome)
  dark_entry (logs.Ack s m) is = dark_session_message s m is

  -- nor in those of its indented lines
  dark_lines : {A : Type 0} (text : A → List (List ℕ)) (test : A → Bool) → ((x : A) → test x ≡ true → are_dark (text x) ≡ true) → (xs : List A) → list_all test xs ≡ true → list_all are_dark (map text xs) ≡ true
  dark_lines text test dark [] e = refl
  dark_lines text test dark (x ∷ xs) e = let both = and_parts (test x) (list_all test xs) e in and_from _ _ (dark x both.0) (dark_lines text test dark xs both.1)

  dark_ended : (t : InstanceId × SessionId) → is_ended spec t ≡ true → are_dark (ended_told spec t) ≡ true
  dark_ended t is = dark_instance_session t.0 t.1 is

  pub dark_indented : (entry : LogEntry) → is_entry_in_range spec entry ≡ true → list_all are_dark (indented_told spec entry) ≡ true
  dark_indented (logs.Tick n ended) is = dark_lines (ended_told spec) (is_ended spec) dark_ended ended (and_parts (is_long n) (list_all (is_ended spec) ended) is).1
  dark_indented (logs.Dispatch k e pass moves) is =
      dark_lines (move_told spec) (is_move spec) dark_move_told moves (and_parts (has_controller spec k && (is_long e.0 && is_long pass.0)) (list_all (is_move spec) moves) is).1
  dark_indented _ is = refl
