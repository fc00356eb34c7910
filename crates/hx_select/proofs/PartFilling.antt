-- What the fillings of a part say after they have changed.
use Rattle.std.proofs.Common.{◌≡◌, ℕ, ◌+◌, Bool, true, false, List, [], ◌∷◌, ◌++◌, length, get_or, cond, append-nil, refl, sym, ap, ◌∙◌, subst, arith}
use Rattle.std.specs.Prelude.{◌==◌, not, nat_lt, find, Option, None, Some, is_some, slice_get, option_map, unwrap_or, if◌then◌else◌}
use Rattle.std.specs.Option.{option_or, option_map_or}
use Rattle.std.specs.List.{list_all, position, position_or_len}
use Rattle.std.proofs.Math.ListN.{set}
use Rattle.std.proofs.lemmas.Bool.Decides.{nat_tests}
use Rattle.std.proofs.lemmas.List.Folds.{find_at, find-set, find_past, find-append, list_all-append}
use Rattle.std.proofs.lemmas.List.Quantifiers.{position-Some}
use Rattle.std.proofs.lemmas.Option.{slice_get_read}
use Rattle.hx_lists.specs.Lists.{count}
use Rattle.hx_lists.specs.Choices.{with_chosen}
use Rattle.hx_ids.specs.declared.StateId.{StateId}
use Rattle.hx_ids.specs.declared.PartId.{PartId}
use Rattle.hx_model.specs.declared.ModelParts.{ModelParts}
use Rattle.hx_cluster.specs.declared.planning.View.{View}
use Rattle.hx_cluster.specs.declared.planning.Candidate.{Candidate}
use Rattle.hx_cluster.specs.Ends.{part_before}
use Rattle.hx_parts.specs.Index.{count_in}
use Rattle.hx_select.specs.declared.part_fillings.Filling.{Filling}
use Rattle.hx_select.specs.Selection.{goes_to, has_room}
use Rattle.hx_select.specs.Fillings.{limit_in, filling_in}
use Rattle.hx_select.specs.PartFillings.{is_of, count_at, ArePartFillings}
use Rattle.hx_select.proofs.Filling.{count-push}

same_state : (t u : StateId) → (t.0 == u.0) ≡ true → t ≡ u
same_state t u e =
    let number : t.0 ≡ u.0 = grind (arith, nat_tests, e) in
    ap (λ (n : ℕ). let x : StateId = record { 0 = n } in x) number

first_is : {X : Type 0} (q : X → Bool) (xs : List X) (i : ℕ) → position q xs ≡ Some i → i ≡ position_or_len q xs
first_is q xs i is = one (nat_lt (position_or_len q xs) (length xs)) is
  where
    one : (b : Bool) → cond b (Some (position_or_len q xs)) None ≡ Some i → i ≡ position_or_len q xs
    one true e = cc
    one false e = cc

position-push : {X : Type 0} (q : X → Bool) (xs : List X) (x : X) → position q (xs ++ x ∷ []) ≡ option_or (position q xs) (if q x then Some (length xs) else None)
position-push q [] x = grind (arith, nat_tests)
position-push q (y ∷ xs) x = grind (arith, nat_tests, position-push q xs x)

-- a state that isn't found stands last
pub stands_last : (s : StateId) (n : ℕ) (fillings : List Filling) → position (is_of s) fillings ≡ None → position (is_of s) (fillings ++ record { state = s; count = n } ∷ []) ≡ Some (length fillings)
stands_last s n fillings none =
    let itself : (s.0 == s.0) ≡ true = grind (arith, nat_tests) in
    position-push (is_of s) fillings (record { state = s; count = n }) ∙ rw (none, itself) refl

-- nobody was accepted for a part behind the one that they were accepted for last
none_later : (p q : PartId) (t : StateId) (accepted : List Candidate) → part_before p q ≡ true → list_all (λ a. not (part_before p a.part)) accepted ≡ true → count (goes_to q t) accepted ≡ 0
none_later p q t [] later behind = refl
none_later p q t (a ∷ accepted) later behind = grind (arith, nat_tests, later, behind, none_later p q t accepted later)

behind_later : (p q : PartId) (accepted : List Candidate) → part_before p q ≡ true → list_all (λ a. not (part_before p a.part)) accepted ≡ true → list_all (λ a. not (part_before q a.part)) accepted ≡ true
behind_later p q [] later behind = refl
behind_later p q (a ∷ accepted) later behind = grind (arith, nat_tests, later, behind, behind_later p q accepted later)

module _ (models : List ModelParts) (view : View) (accepted : List Candidate) (p : PartId) where
  pub turned : (q : PartId) (fillings : List Filling) → ArePartFillings models view accepted p fillings → part_before p q ≡ true → ArePartFillings models view accepted q []
  turned q fillings are later = record {
    counted = λ t limited. let none = none_later p q t accepted later are.behind in omega (arith, none);
    behind = behind_later p q accepted later are.behind;
  }

  module _ (fillings : List Filling) (are : ArePartFillings models view accepted p fillings) where
    -- a state that is asked for
    pub asked : (s : StateId) (n : ℕ) → n ≡ count_in view p s → ArePartFillings models view accepted p (fillings ++ record { state = s; count = n } ∷ [])
    asked s n is = record { counted = λ t limited. one t (s.0 == t.0) refl (find (is_of t) fillings) refl ∙ are.counted t limited; behind = are.behind }
      where
        one : (t : StateId) (b : Bool) → (s.0 == t.0) ≡ b → (o : Option Filling) → find (is_of t) fillings ≡ o
            → unwrap_or (count_at (fillings ++ record { state = s; count = n } ∷ []) t) (count_in view p t) ≡ unwrap_or (count_at fillings t) (count_in view p t)
        one t true e None none =
            let own : count_in view p s ≡ count_in view p t = ap (count_in view p) (same_state s t e) in
            rw (find-append (is_of t) fillings (record { state = s; count = n } ∷ []), none, e) (is ∙ own)
        one t false e None none = rw (find-append (is_of t) fillings (record { state = s; count = n } ∷ []), none, e) refl
        one t b e (Some f) some = rw (find-append (is_of t) fillings (record { state = s; count = n } ∷ []), some) refl

    -- the number of a limited state
    pub counts : (s : StateId) (place : ℕ) (f : Filling) → position (is_of s) fillings ≡ Some place → f ≡ get_or fillings place f
        → is_some (limit_in models view p s) ≡ true → f.count ≡ filling_in view accepted p s
    counts s place f is read limited =
        let found : find (is_of s) fillings ≡ Some f =
        find_at (is_of s) fillings ∙ ap (slice_get fillings) (sym (first_is (is_of s) fillings place is))
        ∙ slice_get_read fillings (length fillings) place f refl (position-Some (is_of s) fillings place f is).0 read in
        ap (λ (o : Option Filling). unwrap_or (option_map (λ f. f.count) o) (count_in view p s)) (sym found) ∙ are.counted s limited

    -- one more is accepted
    module _ (c : Candidate) (own : c.part ≡ p) where
      goes_where : (t : StateId) → goes_to p t c ≡ (c.to.0 == t.0)
      goes_where t = rw own (grind (arith, nat_tests))

      counted_too : (t : StateId) (b : Bool) → (c.to.0 == t.0) ≡ b → filling_in view (accepted ++ c ∷ []) p t ≡ filling_in view accepted p t + (if b then 1 else 0)
      counted_too t b e =
          let more : count (goes_to p t) (accepted ++ c ∷ []) ≡ count (goes_to p t) accepted + (if b then 1 else 0) =
          count-push (goes_to p t) accepted c ∙ ap (λ (b : Bool). count (goes_to p t) accepted + (if b then 1 else 0)) (goes_where t ∙ e) in
          omega (arith, more)

      behind_too : list_all (λ a. not (part_before p a.part)) (accepted ++ c ∷ []) ≡ true
      behind_too =
          let itself : part_before p c.part ≡ false = rw own (grind (arith, nat_tests)) in
          list_all-append (λ a. not (part_before p a.part)) accepted (c ∷ []) ∙ rw (are.behind, itself) refl

      -- for a state without a limit
      pub unlimited : is_some (limit_in models view p c.to) ≡ false → ArePartFillings models view (accepted ++ c ∷ []) p fillings
      unlimited free = record { counted = λ t limited. one t limited (c.to.0 == t.0) refl; behind = behind_too }
        where
          one : (t : StateId) → is_some (limit_in models view p t) ≡ true → (b : Bool) → (c.to.0 == t.0) ≡ b → unwrap_or (count_at fillings t) (count_in view p t) ≡ filling_in view (accepted ++ c ∷ []) p t
          one t limited true e =
              let own_limit : is_some (limit_in models view p c.to) ≡ is_some (limit_in models view p t) = ap (λ (u : StateId). is_some (limit_in models view p u)) (same_state c.to t e) in
              cc (own_limit, limited, free)
          one t limited false e = let more = counted_too t false e in let before = are.counted t limited in omega (arith, more, before)

      -- for one below its limit
      pub raised : (place n : ℕ) (f : Filling) → position (is_of c.to) fillings ≡ Some place → f ≡ record { state = c.to; count = n + 1 } → n ≡ filling_in view accepted p c.to
          → ArePartFillings models view (accepted ++ c ∷ []) p (set fillings place f)
      raised place n f is put full = record { counted = λ t limited. one t limited (c.to.0 == t.0) refl; behind = behind_too }
        where
          stood : (get_or fillings place f).state ≡ c.to
          stood = same_state (get_or fillings place f).state c.to (position-Some (is_of c.to) fillings place f is).1

          one : (t : StateId) → is_some (limit_in models view p t) ≡ true → (b : Bool) → (c.to.0 == t.0) ≡ b
              → unwrap_or (count_at (set fillings place f) t) (count_in view p t) ≡ filling_in view (accepted ++ c ∷ []) p t
          one t limited true e =
              let same = same_state c.to t e in
              let at : position (is_of t) fillings ≡ Some place = ap (λ (u : StateId). position (is_of u) fillings) (sym same) ∙ is in
              let passes : is_of t f ≡ true = ap (is_of t) put ∙ e in
              let found : find (is_of t) (set fillings place f) ≡ Some f = find-set (is_of t) fillings place f (first_is (is_of t) fillings place at) (position-Some (is_of t) fillings place f at).0 passes in
              let more = counted_too t true e in
              let full_too : n ≡ filling_in view accepted p t = full ∙ ap (filling_in view accepted p) same in
              ap (λ (o : Option Filling). unwrap_or (option_map (λ f. f.count) o) (count_in view p t)) found ∙ ap (λ (f : Filling). f.count) put ∙ omega (arith, more, full_too)
          one t limited false e =
              let other : is_of t f ≡ false = ap (is_of t) put ∙ e in
              let was : is_of t (get_or fillings place f) ≡ false = ap (λ (u : StateId). u.0 == t.0) stood ∙ e in
              let past = find_past (is_of t) fillings place f f was other in
              let more = counted_too t false e in
              let before = are.counted t limited in
              ap (λ (o : Option Filling). unwrap_or (option_map (λ f. f.count) o) (count_in view p t)) past ∙ before ∙ omega (arith, more)

-- whether there is room, by the number of a limited state
module _ (models : List ModelParts) (view : View) (accepted : List Candidate) (c : Candidate) where
  pub has_some : (bound n : ℕ) → limit_in models view c.part c.to ≡ Some bound → n ≡ filling_in view accepted c.part c.to → nat_lt n bound ≡ has_room models view accepted c
  has_some bound n limit full =
      ap (λ (k : ℕ). nat_lt k bound) full ∙ sym (ap (λ (o : Option ℕ). option_map_or (nat_lt (filling_in view accepted c.part c.to)) o true) limit)

  pub has_any : limit_in models view c.part c.to ≡ None → has_room models view accepted c ≡ true
  has_any free = ap (λ (o : Option ℕ). option_map_or (nat_lt (filling_in view accepted c.part c.to)) o true) free

  pub judged : (p : PartId) (fillings : List Filling) (b : Bool) → has_room models view accepted c ≡ b → ArePartFillings models view (accepted ++ (if b then c ∷ [] else [])) p fillings
      → ArePartFillings models view (with_chosen (has_room models view) accepted c) p fillings
  judged p fillings b room are = subst (λ (d : Bool). ArePartFillings models view (accepted ++ (if d then c ∷ [] else [])) p fillings) (sym room) are

  pub unjudged : (p : PartId) (fillings : List Filling) → has_room models view accepted c ≡ false → ArePartFillings models view accepted p fillings
      → ArePartFillings models view (with_chosen (has_room models view) accepted c) p fillings
  unjudged p fillings room are = judged p fillings false room (subst (λ (cs : List Candidate). ArePartFillings models view cs p fillings) (sym (append-nil accepted)) are)
