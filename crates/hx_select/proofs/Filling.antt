-- What the tables of fillings say after they have changed.
use Rattle.std.proofs.Common.{◌≡◌, ℕ, ◌+◌, Bool, true, false, List, [], ◌∷◌, ◌++◌, filter, map, cond, refl, sym, ap, ◌∙◌, arith}
use Rattle.std.specs.Prelude.{◌==◌, ◌&&◌, ◌||◌, Option, None, Some, unwrap_or, if◌then◌else◌}
use Rattle.std.specs.Ordering.{is_eq}
use Rattle.std.specs.List.{list_any}
use Rattle.std.proofs.lemmas.Bool.Decides.{nat_tests}
use Rattle.hx_lists.specs.Lists.{count}
use Rattle.hx_ids.specs.declared.InstanceId.{InstanceId}
use Rattle.hx_ids.specs.declared.StateId.{StateId}
use Rattle.hx_ids.specs.declared.SessionId.{SessionId}
use Rattle.hx_ids.specs.declared.PartId.{PartId}
use Rattle.hx_cluster.specs.declared.planning.View.{View}
use Rattle.hx_cluster.specs.declared.planning.Candidate.{Candidate}
use Rattle.hx_select.specs.Selection.{goes_to}
use Rattle.hx_select.specs.Fillings.{filling_in, is_taken, end_cmp, taken_cmp}

-- keys that tie are the same
end_tied : (p q : PartId) (t u : StateId) → is_eq (end_cmp (p, t) (q, u)) ≡ true → (p ≡ q) × (t ≡ u)
end_tied p q t u e =
    let resource : p.resource.0 ≡ q.resource.0 = grind (arith, nat_tests, e) in
    let index : p.index ≡ q.index = grind (arith, nat_tests, e) in
    let state : t.0 ≡ u.0 = grind (arith, nat_tests, e) in
    (ap (λ (n : ℕ). let x : PartId = record { resource = record { 0 = n }; index = p.index } in x) resource ∙ ap (λ (n : ℕ). let x : PartId = record { resource = q.resource; index = n } in x) index, ap (λ (n : ℕ). let x : StateId = record { 0 = n } in x) state)

end_is_goal : (p : PartId) (t : StateId) (c : Candidate) → is_eq (end_cmp (c.part, c.to) (p, t)) ≡ goes_to p t c
end_is_goal p t c = grind (arith, nat_tests)

taken_is_goal : (p : PartId) (t : StateId) (s : SessionId) (c : Candidate) → is_eq (taken_cmp (c.part, c.to, c.session) (p, t, s)) ≡ (goes_to p t c && (c.session.0 == s.0))
taken_is_goal p t s c = grind (arith, nat_tests)

-- a number that is counted anew is the one that stood for it
pub counted_anew : (base : PartId → StateId → ℕ) (old new : PartId → StateId → Option ℕ) (part : PartId) (state : StateId) (n : ℕ)
    → old part state ≡ None → n ≡ base part state
    → ((p : PartId) (t : StateId) → new p t ≡ cond (is_eq (end_cmp (part, state) (p, t))) (Some n) (old p t))
    → (p : PartId) (t : StateId) → unwrap_or (new p t) (base p t) ≡ unwrap_or (old p t) (base p t)
counted_anew base old new part state n none is put p t = one (is_eq (end_cmp (part, state) (p, t))) refl
  where
    one : (b : Bool) → is_eq (end_cmp (part, state) (p, t)) ≡ b → unwrap_or (new p t) (base p t) ≡ unwrap_or (old p t) (base p t)
    one true e =
        let same = end_tied part p state t e in
        let absent : old p t ≡ None = ap (λ (q : PartId). old q t) (sym same.0) ∙ ap (old part) (sym same.1) ∙ none in
        let there : n ≡ base p t = is ∙ ap (base part) same.1 ∙ ap (λ (q : PartId). base q t) same.0 in
        grind (arith, put p t, e, absent, there)
    one false e = grind (arith, put p t, e)

pub count-push : {X : Type 0} (p : X → Bool) (xs : List X) (x : X) → count p (xs ++ x ∷ []) ≡ count p xs + (if p x then 1 else 0)
count-push p [] x = grind arith
count-push p (y ∷ xs) x = grind (arith, count-push p xs x)

-- one more is accepted
pub counted_more : (view : View) (accepted : List Candidate) (c : Candidate) (n base : ℕ) (old new : Option ℕ) (p : PartId) (t : StateId)
    → n ≡ filling_in view accepted c.part c.to
    → new ≡ cond (is_eq (end_cmp (c.part, c.to) (p, t))) (Some (n + 1)) old
    → unwrap_or old base ≡ filling_in view accepted p t
    → unwrap_or new base ≡ filling_in view (accepted ++ c ∷ []) p t
counted_more view accepted c n base old new p t is put before = one (is_eq (end_cmp (c.part, c.to) (p, t))) refl
  where
    one : (b : Bool) → is_eq (end_cmp (c.part, c.to) (p, t)) ≡ b → unwrap_or new base ≡ filling_in view (accepted ++ c ∷ []) p t
    one true e =
        let same = end_tied c.part p c.to t e in
        let goes : goes_to p t c ≡ true = sym (end_is_goal p t c) ∙ e in
        let there : n ≡ filling_in view accepted p t = is ∙ ap (filling_in view accepted c.part) same.1 ∙ ap (λ (q : PartId). filling_in view accepted q t) same.0 in
        let now : unwrap_or new base ≡ n + 1 = ap (λ (o : Option ℕ). unwrap_or o base) (put ∙ ap (λ (b : Bool). cond b (Some (n + 1)) old) e) in
        let more : count (goes_to p t) (accepted ++ c ∷ []) ≡ count (goes_to p t) accepted + 1 = count-push (goes_to p t) accepted c ∙ ap (λ (b : Bool). count (goes_to p t) accepted + (if b then 1 else 0)) goes in
        omega (arith, there, now, more)
    one false e =
        let goes : goes_to p t c ≡ false = sym (end_is_goal p t c) ∙ e in
        let now : unwrap_or new base ≡ unwrap_or old base = ap (λ (o : Option ℕ). unwrap_or o base) (put ∙ ap (λ (b : Bool). cond b (Some (n + 1)) old) e) in
        let more : count (goes_to p t) (accepted ++ c ∷ []) ≡ count (goes_to p t) accepted + 0 = count-push (goes_to p t) accepted c ∙ ap (λ (b : Bool). count (goes_to p t) accepted + (if b then 1 else 0)) goes in
        omega (arith, before, now, more)

any-push : {X : Type 0} (p : X → Bool) (xs : List X) (x : X) → list_any p (xs ++ x ∷ []) ≡ (list_any p xs || p x)
any-push p [] x = grind arith
any-push p (y ∷ xs) x = grind (arith, any-push p xs x)

pub held_more : (accepted : List Candidate) (c : Candidate) (old new : Bool) (p : PartId) (t : StateId) (s : SessionId)
    → new ≡ cond (is_eq (taken_cmp (c.part, c.to, c.session) (p, t, s))) true old → old ≡ is_taken accepted p t s → new ≡ is_taken (accepted ++ c ∷ []) p t s
held_more accepted c old new p t s put before =
    let tie = taken_is_goal p t s c in
    let more = any-push (λ (a : Candidate). goes_to p t a && (a.session.0 == s.0)) accepted c in
    grind (arith, put, before, tie, more)

-- one session more
pub holders-push : (holds : SessionId → Bool) (live : List (SessionId × InstanceId)) (e : SessionId × InstanceId)
    → filter holds (map (λ x. x.0) (live ++ e ∷ [])) ≡ filter holds (map (λ x. x.0) live) ++ (if holds e.0 then e.0 ∷ [] else [])
holders-push holds [] e = grind arith
holders-push holds (x ∷ live) e = grind (arith, holders-push holds live e)
