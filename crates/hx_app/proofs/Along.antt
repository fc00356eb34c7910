-- Lines that are done in turn, from an opening on.
use Rattle.std.proofs.Common.{◌≡◌, ℕ, ◌+◌, ◌<◌, ◌≤◌, true, List, [], ◌++◌, map, take, drop, length, None, Some, refl, sym, ap, subst, ◌∙◌}
use Rattle.std.specs.Prelude.{slice_index_or, Result, Ok, Err, IsErrAnd}
use Rattle.hx_cluster.specs.declared.description.Spec.{Spec}
use Rattle.hx_cluster.specs.Valid.{IsValid}
use Rattle.hx_board.specs.Board.{next_line_of}
use Rattle.hx_board.specs.declared.faults.RoomFault.{RoomFault}
use Rattle.hx_script.specs.declared.Line.{Line}
use Rattle.hx_worlds.specs.World.{State, Answers, Answered, Missing}
use Rattle.hx_worlds.specs.Runs.{Deed, for_each}
use Rattle.hx_worlds.specs.Scripts.{do_line, is_next_line}
use Rattle.hx_scripted.proofs.DoingLines.{line_done}
use Rattle.hx_scene.specs.Scenes.{SceneState, at}
use Rattle.hx_scene.specs.Kept.{IsScene}
use Rattle.hx_scene.specs.Doing.{Reaches, Ends, Fails, DoesDeed, left}
use Rattle.hx_scene.proofs.Reaching.{here, each_more, each_fails, each_end, answered_gives}
use Rattle.hx_app.specs.Simulation.{IsFresh, numbers_of}
use Rattle.hx_app.proofs.Numbers.{last_from, next_is, next_given, last_more}

-- so many lines are done
pub record IsAlong (lines : List Line) (i : ℕ) (s u : SceneState) (p q : List ℕ) : Type 0 where
  pub reached : Reaches (for_each do_line lines) s p (for_each do_line (drop i lines)) u q
  pub spec : u.spec ≡ s.spec
  pub numbers : u.board.lines ≡ numbers_of lines
  pub last : u.board.cluster.line ≡ last_from None (take i (numbers_of lines))

pub along_none : (lines : List Line) (s : SceneState) (p : List ℕ) → IsFresh lines s → IsAlong lines 0 s s p p
along_none lines s p fresh = record { reached = here (for_each do_line lines) s p; spec = refl; numbers = fresh.numbers; last = fresh.line }

module _ (lines : List Line) (i : ℕ) (d : Line) (s u : SceneState) (p q : List ℕ) (fresh : IsFresh lines s) (along : IsAlong lines i s u p q) (kept : IsScene u) (below : i < length lines) where
  abbrev pub line : Line
  line = slice_index_or lines i d

  -- the next one is the board's, and can be given
  pub next_line : next_line_of u.board ≡ Some line.number
  next_line = next_is s.spec lines i d u.board fresh.given kept.history along.numbers along.last below

  pub line_given : is_next_line u.spec u.board.cluster.line line ≡ true
  line_given =
      subst (λ (spec : Spec). is_next_line spec u.board.cluster.line line ≡ true) (sym along.spec)
      (ap (λ last. is_next_line s.spec last line) along.last ∙ next_given s.spec None lines i d fresh.given below)

  -- it is done, or fails
  valid : IsValid u.spec
  valid = subst (λ (spec : Spec). IsValid spec) kept.own kept.history.valid

  pub along_more : (v : SceneState) (r : List ℕ) → Ends (do_line line) u q tt v r → IsAlong lines (i + 1) s v p r
  along_more v r e =
      let a : Answers = Answered (map (λ x. x.outcome) e.asked ++ []) in
      record {
        reached = each_more do_line lines i d below along.reached e;
        spec = (e.brings Missing).spec ∙ along.spec;
        numbers = e.keeps.lines ∙ along.numbers;
        last =
            line_done u.spec line (at u a) (at v (left e.asked a)) (e.items ++ []) valid kept.of_history line_given (e.goes a (answered_gives e.asked []))
            ∙ sym (last_more None lines i d below);
      }

  pub along_fails : (fault : RoomFault) (v : SceneState) (r : List ℕ) → Fails (do_line line) u q fault v r → Fails (for_each do_line lines) s p fault v r
  along_fails fault v r e = each_fails do_line lines i d fault v r below along.reached e

pub along_all : (lines : List Line) (i : ℕ) (s u : SceneState) (p q : List ℕ) → length lines ≤ i → IsAlong lines i s u p q → Ends (for_each do_line lines) s p tt u q
along_all lines i s u p q past along = each_end do_line lines i past along.reached

-- a failure that is handed on
pub fails_on : {R : Type 0} (f : State → Deed) (s u : SceneState) (p q : List ℕ) (r : Result R RoomFault) (fault : RoomFault) → IsErrAnd r (λ e. e ≡ fault) → Fails f s p fault u q → DoesDeed f s p u q r
fails_on f s u p q (Ok x) fault is e = absurd is
fails_on f s u p q (Err other) fault is e = subst (λ (x : RoomFault). Fails f s p x u q) (sym is) e
