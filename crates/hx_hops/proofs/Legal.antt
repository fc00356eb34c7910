-- Legal transitions and steps.
use Rattle.std.proofs.Common.{◌≡◌, ℕ, suc, zero, ◌+◌, ◌≤◌, ◌<◌, ◌==◌, ◌&&◌, ◌||◌, Bool, true, false, List, [], ◌∷◌, length, get_or, refl, sym, ap, ◌∙◌, true≢false, arith}
use Rattle.std.specs.Prelude.{if◌then◌else◌, nat_lt}
use Rattle.std.specs.List.{list_any}
use Rattle.std.proofs.lemmas.Bool.Decides.{nat_tests}
use Rattle.hx_ids.specs.declared.StateId.{StateId}
use Rattle.hx_model.specs.declared.ModelParts.{ModelParts}
use Rattle.hx_model.specs.Model.{error, is_between, is_legal}
use Rattle.hx_model.specs.Walks.{steps_from, has_walk, least_from, dist}
use Rattle.hx_model.proofs.Steps.{any-steps_from, any_at}
use Rattle.hx_model.proofs.Found.{dist-le}
use Rattle.hx_hops.specs.Hops.{leads}

pub state_same : (a b : StateId) → (a.0 == b.0) ≡ true → a ≡ b
state_same a b e = let same : a.0 ≡ b.0 = grind (arith, nat_tests) in ap (λ (n : ℕ). record { 0 = n }) same

pub and_left : (a b : Bool) → (a && b) ≡ true → a ≡ true
and_left true b e = refl
and_left false b e = cc

pub and_right : (a b : Bool) → (a && b) ≡ true → b ≡ true
and_right true b e = e
and_right false b e = cc

-- an item that passes, where some does
pub any_exists : {X : Type 0} (p : X → Bool) (xs : List X) (d : X) → list_any p xs ≡ true → (i : ℕ) × (i < length xs) × (p (get_or xs i d) ≡ true)
any_exists p [] d e = absurd (true≢false (sym e))
any_exists {X} p (x ∷ xs) d e = one (p x) refl (any_exists p xs d) e
  where
    one : (b : Bool) → p x ≡ b → (list_any p xs ≡ true → (i : ℕ) × (i < length xs) × (p (get_or xs i d) ≡ true)) → (b || list_any p xs) ≡ true → (i : ℕ) × (i < length (x ∷ xs)) × (p (get_or (x ∷ xs) i d) ≡ true)
    one true is more h = (0, omega arith, is)
    one false is more h = let found = more h in (suc found.0, omega (arith, found.1), found.2)

-- a step that passes is a legal transition
pub step_exists : (m : ModelParts) (p : StateId → Bool) (s : StateId) → list_any p (steps_from m s) ≡ true → (t : StateId) × (is_legal m s t ≡ true) × (p t ≡ true)
step_exists m p s e = one (list_any (λ u. (u.0.0 == s.0) && p u.1) m.transitions) refl (sym (any-steps_from m p s) ∙ e)
  where
    one : (b : Bool) → list_any (λ u. (u.0.0 == s.0) && p u.1) m.transitions ≡ b → (b || ((s.0 == 0) && p m.initial)) ≡ true → (t : StateId) × (is_legal m s t ≡ true) × (p t ≡ true)
    one true is h =
        let d : StateId × StateId = (error, error) in
        let found = any_exists (λ (u : StateId × StateId). (u.0.0 == s.0) && p u.1) m.transitions d is in
        let u = get_or m.transitions found.0 d in
        let from : (u.0.0 == s.0) ≡ true = and_left (u.0.0 == s.0) (p u.1) found.2 in
        let listed : list_any (is_between s u.1) m.transitions ≡ true = any_at (is_between s u.1) m.transitions found.0 d found.1 (grind (arith, nat_tests, from)) in
        (u.1, grind (arith, listed), and_right (u.0.0 == s.0) (p u.1) found.2)
    one false is h =
        let at : (s.0 == 0) ≡ true = and_left (s.0 == 0) (p m.initial) h in
        (m.initial, grind (arith, nat_tests, at), and_right (s.0 == 0) (p m.initial) h)

-- and a legal transition is a step
pub step_any : (m : ModelParts) (p : StateId → Bool) (s t : StateId) → is_legal m s t ≡ true → p t ≡ true → list_any p (steps_from m s) ≡ true
step_any m p s t legal pass = any-steps_from m p s ∙ one (list_any (is_between s t) m.transitions) refl legal
  where
    one : (b : Bool) → list_any (is_between s t) m.transitions ≡ b → (b || ((s.0 == 0) && (t.0 == m.initial.0))) ≡ true
        → (list_any (λ u. (u.0.0 == s.0) && p u.1) m.transitions || ((s.0 == 0) && p m.initial)) ≡ true
    one true is h =
        let d : StateId × StateId = (error, error) in
        let found = any_exists (is_between s t) m.transitions d is in
        let u = get_or m.transitions found.0 d in
        let from : (u.0.0 == s.0) ≡ true = and_left (u.0.0 == s.0) (u.1.0 == t.0) found.2 in
        let to : u.1 ≡ t = state_same u.1 t (and_right (u.0.0 == s.0) (u.1.0 == t.0) found.2) in
        let passes : p u.1 ≡ true = ap p to ∙ pass in
        let any : list_any (λ (u : StateId × StateId). (u.0.0 == s.0) && p u.1) m.transitions ≡ true = any_at (λ (u : StateId × StateId). (u.0.0 == s.0) && p u.1) m.transitions found.0 d found.1 ((λ k. from k && passes k)) in
        ap (λ b. b || ((s.0 == 0) && p m.initial)) any
    one false is h =
        let at : (s.0 == 0) ≡ true = and_left (s.0 == 0) (t.0 == m.initial.0) h in
        let same : t ≡ m.initial = state_same t m.initial (and_right (s.0 == 0) (t.0 == m.initial.0) h) in
        let passes : p m.initial ≡ true = sym (ap p same) ∙ pass in
        grind (arith, at, passes)

-- a walk as a list of states
pub walk_path : (m : ModelParts) (n : ℕ) (s goal : StateId) → has_walk m n s goal ≡ true → (path : List StateId) × (leads m s path goal ≡ true) × (length path ≡ n)
walk_path m zero s goal w = ([], w, refl)
walk_path m (suc n) s goal w =
    let step = step_exists m (λ t. has_walk m n t goal) s w in
    let rest = walk_path m n step.0 goal step.2 in
    (step.0 ∷ rest.0, (λ k. step.1 k && rest.1 k), ap suc rest.2)

pub path_walk : (m : ModelParts) (path : List StateId) (s goal : StateId) → leads m s path goal ≡ true → has_walk m (length path) s goal ≡ true
path_walk m [] s goal e = e
path_walk m (t ∷ path) s goal e =
    step_any m (λ u. has_walk m (length path) u goal) s t (and_left (is_legal m s t) (leads m t path goal) e) (path_walk m path t goal (and_right (is_legal m s t) (leads m t path goal) e))

least_most : (p : ℕ → Bool) (n few : ℕ) → least_from p n few ≤ n + few
least_most p n zero = omega arith
least_most p n (suc few) = one (p n) (least_most p (n + 1) few)
  where
    one : (b : Bool) → least_from p (n + 1) few ≤ n + 1 + few → (if b then n else least_from p (n + 1) few) ≤ n + suc few
    one true more = omega arith
    one false more = omega arith

least_passes : (p : ℕ → Bool) (n few : ℕ) → least_from p n few < n + few → p (least_from p n few) ≡ true
least_passes p n zero lt = absurd (omega arith)
least_passes p n (suc few) lt = one (p n) refl (least_passes p (n + 1) few) lt
  where
    one : (b : Bool) → p n ≡ b → (least_from p (n + 1) few < n + 1 + few → p (least_from p (n + 1) few) ≡ true) → (if b then n else least_from p (n + 1) few) < n + suc few → p (if b then n else least_from p (n + 1) few) ≡ true
    one true is more lt = is
    one false is more lt = more (omega arith)

pub dist-most : (m : ModelParts) (s goal : StateId) → dist m s goal ≤ length m.states + 2
dist-most m s goal = omega (arith, least_most (λ n. has_walk m n s goal) 0 (length m.states + 2))

pub dist_walk : (m : ModelParts) (s goal : StateId) → dist m s goal < length m.states + 2 → has_walk m (dist m s goal) s goal ≡ true
dist_walk m s goal lt = least_passes (λ n. has_walk m n s goal) 0 (length m.states + 2) (omega arith)

-- no walk is shorter than the distance
pub dist-shortest : (m : ModelParts) (n : ℕ) (s goal : StateId) → has_walk m n s goal ≡ true → dist m s goal ≤ n
dist-shortest m n s goal w = one (nat_lt n (length m.states + 2)) refl
  where
    most : dist m s goal ≤ length m.states + 2
    most = dist-most m s goal

    one : (b : Bool) → nat_lt n (length m.states + 2) ≡ b → dist m s goal ≤ n
    one true e = dist-le m n s goal (below n (length m.states + 2) e) w
      where
        below : (a b : ℕ) → nat_lt a b ≡ true → a < b
        below a b e = grind (arith, nat_tests)
    one false e = far n (length m.states + 2) (dist m s goal) e most
      where
        far : (a b c : ℕ) → nat_lt a b ≡ false → c ≤ b → c ≤ a
        far a b c e h = grind (arith, nat_tests)

pub path-shortest : (m : ModelParts) (path : List StateId) (s goal : StateId) → leads m s path goal ≡ true → dist m s goal ≤ length path
path-shortest m path s goal e = dist-shortest m (length path) s goal (path_walk m path s goal e)
