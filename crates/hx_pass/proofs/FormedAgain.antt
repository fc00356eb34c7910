-- A view is well formed, where an earlier one was, if it is among the parts that changed.
use Rattle.std.proofs.Common.{◌≡◌, ℕ, ◌∙◌, ◌&&◌, ◌||◌, ◌==◌, nat_lt, not, Bool, true, false, List, [], ◌∷◌, length, refl, sym, ap, arith}
use Rattle.std.specs.Prelude.{filter}
use Rattle.std.specs.List.{list_all}
use Rattle.std.proofs.lemmas.Bool.Decides.{nat_tests}
use Rattle.hx_lists.specs.Lists.{count}
use Rattle.hx_ids.specs.declared.PartId.{PartId}
use Rattle.hx_ids.specs.declared.SessionId.{SessionId}
use Rattle.hx_ids.specs.declared.InstanceId.{InstanceId}
use Rattle.hx_ids.specs.declared.StateId.{StateId}
use Rattle.hx_model.specs.Model.{error, dropped, has_state}
use Rattle.hx_model.specs.declared.ModelParts.{ModelParts}
use Rattle.hx_cluster.specs.declared.state.Row.{Row}
use Rattle.hx_cluster.specs.declared.state.Message.{Message}
use Rattle.hx_cluster.specs.declared.planning.Ideals.{Ideals}
use Rattle.hx_cluster.specs.declared.planning.View.{View}
use Rattle.hx_cluster.specs.Ends.{part_eq, is_row, is_message, is_shown, model_of, parts_of}
use Rattle.hx_cluster.specs.Views.{is_good_part, is_good_state, is_good_row, is_good_message, is_well_formed}
use Rattle.hx_parts.specs.Parts.{items_at}
use Rattle.hx_pass.specs.Local.{IsAlike, ShowSame, DifferWithin, narrowed}
use Rattle.hx_lists.proofs.Conditions.{all-filter}
use Rattle.hx_parts.proofs.Rising.{both}
use Rattle.hx_pass.proofs.Filtered.{filter-wider}
use Rattle.hx_pass.proofs.Marked.{part_is, marked_kept, others_out}
use Rattle.hx_pass.proofs.FoundAgain.{narrowed_alike, narrowed_shows}

-- all items pass a test if those that pass another one do, and those that fail it
all-split : {X : Type 0} (p q : X → Bool) (xs : List X) → list_all p xs ≡ (list_all p (filter q xs) && list_all p (filter (λ x. not (q x)) xs))
all-split p q [] = refl
all-split p q (x ∷ xs) = grind (arith, all-split p q xs)

-- tests that agree where another one passes
all-agree : {X : Type 0} (p r q : X → Bool) → ((x : X) → q x ≡ true → p x ≡ r x) → (xs : List X) → list_all p (filter q xs) ≡ list_all r (filter q xs)
all-agree p r q same [] = refl
all-agree p r q same (x ∷ xs) = grind (arith, same x, all-agree p r q same xs)

part_self : (p : PartId) → part_eq p p ≡ true
part_self p = grind (arith, nat_tests)

-- all items pass if those of each part do
all-parts : {X : Type 0} (part_of : X → PartId) (q : X → Bool) (xs : List X) → ((p : PartId) → list_all q (items_at part_of p xs) ≡ true) → list_all q xs ≡ true
all-parts part_of q [] h = refl
all-parts part_of q (x ∷ xs) h =
    grind (arith, part_self (part_of x), h (part_of x), all-parts part_of q xs (λ p. grind (arith, h p)))

-- where a list shows the same as an earlier one of the parts that aren't marked, and a test passes the earlier one's items, it passes
-- all items if it passes those of the marked parts
module _ {X : Type 0} (part_of : X → PartId) (marked : PartId → Bool) (earlier xs : List X) (same : (p : PartId) → marked p ≡ false → items_at part_of p earlier ≡ items_at part_of p xs)
    (old new kept : X → Bool) (as_old : (x : X) → marked (part_of x) ≡ false → old x ≡ new x) (as_kept : (x : X) → marked (part_of x) ≡ true → kept x ≡ new x)
    (good : list_all old earlier ≡ true) where
  of_other : (p : PartId) → marked p ≡ false → list_all new (items_at part_of p xs) ≡ true
  of_other p m =
      sym (ap (list_all new) (same p m))
      ∙ sym (all-agree old new (λ x. part_eq (part_of x) p) (λ x e. as_old x (ap marked (part_is (part_of x) p e) ∙ m)) earlier)
      ∙ all-filter old (λ x. part_eq (part_of x) p) earlier good

  others : list_all new (filter (λ x. not (marked (part_of x))) xs) ≡ true
  others = all-parts part_of new (filter (λ x. not (marked (part_of x))) xs) (λ p. one p (marked p) refl)
    where
      one : (p : PartId) (b : Bool) → marked p ≡ b → list_all new (items_at part_of p (filter (λ x. not (marked (part_of x))) xs)) ≡ true
      one p true m = ap (list_all new) (others_out part_of (λ q. not (marked q)) p (ap not m) xs)
      one p false m = ap (list_all new) (marked_kept part_of (λ q. not (marked q)) p (ap not m) xs) ∙ of_other p m

  pub marked_good : list_all new xs ≡ list_all kept (filter (λ x. marked (part_of x)) xs)
  marked_good =
      let split = all-split new (λ x. marked (part_of x)) xs in
      let agree = all-agree kept new (λ x. marked (part_of x)) as_kept xs in
      grind (arith, split, agree, others)

-- as many items of a part pass a test that only items of the part pass, where the items of the part are the same
as_many : {X : Type 0} (part_of : X → PartId) (p : PartId) (test : X → Bool) → ((x : X) → test x ≡ true → part_eq (part_of x) p ≡ true) → (xs ys : List X)
    → items_at part_of p xs ≡ items_at part_of p ys → count test xs ≡ count test ys
as_many part_of p test mine xs ys same =
    ap length (sym (filter-wider test (λ x. part_eq (part_of x) p) mine xs)) ∙ ap (count test) same ∙ ap length (filter-wider test (λ x. part_eq (part_of x) p) mine ys)

-- how many rows and messages a session has of a part is what a view shows of the part
module _ (v w : View) (p : PartId) (same : ShowSame v w p) where
  rows_as_many : (s : SessionId) → count (is_row s p) v.rows ≡ count (is_row s p) w.rows
  rows_as_many s = as_many (λ r. r.part) p (is_row s p) (λ r e. (both (r.session.0 == s.0) (part_eq r.part p) e).1) v.rows w.rows same.rows

  mail_as_many : (s : SessionId) → count (is_message s p) v.mail ≡ count (is_message s p) w.mail
  mail_as_many s = as_many (λ m. m.part) p (is_message s p) (λ m e. (both (m.session.0 == s.0) (part_eq m.part p) e).1) v.mail w.mail same.mail

-- which parts and states are good depends on the sessions and on what is wanted
module _ (models : List ModelParts) (v w : View) (alike : IsAlike v w) where
  same_part : (s : SessionId) (p : PartId) → is_good_part v s p ≡ is_good_part w s p
  same_part s p =
      let good : List (SessionId × InstanceId) → Ideals → Bool = λ live ideals. is_shown live s && nat_lt p.index (parts_of ideals.resources p.resource) in
      ap (λ (live : List (SessionId × InstanceId)). good live v.ideals) alike.live ∙ ap (good w.live) alike.ideals

  same_state : (p : PartId) (t : StateId) → is_good_state models v p t ≡ is_good_state models w p t
  same_state p t =
      let good : Ideals → Bool = λ ideals. (t.0 == error.0) || has_state (model_of models ideals.resources p.resource) t in
      ap good alike.ideals

  -- so rows and messages are good in views that show the same of their part
  same_row : (r : Row) → ShowSame v w r.part → is_good_row models v r ≡ is_good_row models w r
  same_row r same =
      let good : Bool → Bool → ℕ → Bool = λ part state n. part && state && (n == 1) in
      ap (λ (b : Bool). good b (is_good_state models v r.part r.state) (count (is_row r.session r.part) v.rows)) (same_part r.session r.part)
      ∙ ap (λ (b : Bool). good (is_good_part w r.session r.part) b (count (is_row r.session r.part) v.rows)) (same_state r.part r.state)
      ∙ ap (good (is_good_part w r.session r.part) (is_good_state models w r.part r.state)) (rows_as_many v w r.part same r.session)

  same_message : (m : Message) → ShowSame v w m.part → is_good_message models v m ≡ is_good_message models w m
  same_message m same =
      let good : Bool → Bool → Bool → ℕ → Bool = λ part from to n. part && from && ((m.to.0 == dropped.0) || to) && (n == 1) in
      ap (λ (b : Bool). good b (is_good_state models v m.part m.from) (is_good_state models v m.part m.to) (count (is_message m.session m.part) v.mail)) (same_part m.session m.part)
      ∙ ap (λ (b : Bool). good (is_good_part w m.session m.part) b (is_good_state models v m.part m.to) (count (is_message m.session m.part) v.mail)) (same_state m.part m.from)
      ∙ ap (λ (b : Bool). good (is_good_part w m.session m.part) (is_good_state models w m.part m.from) b (count (is_message m.session m.part) v.mail)) (same_state m.part m.to)
      ∙ ap (good (is_good_part w m.session m.part) (is_good_state models w m.part m.from) (is_good_state models w m.part m.to)) (mail_as_many v w m.part same m.session)

-- so a view is well formed if it is with the rows and messages of the marked parts alone
module _ (models : List ModelParts) (marked : PartId → Bool) (v w : View) (differ : DifferWithin marked v w) where
  rows_again : list_all (is_good_row models v) v.rows ≡ true → list_all (is_good_row models w) w.rows ≡ list_all (is_good_row models (narrowed marked w)) (narrowed marked w).rows
  rows_again good = marked_good (λ r. r.part) marked v.rows w.rows (λ p m. (differ.same p m).rows)
      (is_good_row models v) (is_good_row models w) (is_good_row models (narrowed marked w))
      (λ r m. same_row models v w differ.alike r (differ.same r.part m))
      (λ r m. same_row models (narrowed marked w) w (narrowed_alike marked w) r (narrowed_shows marked w r.part m)) good

  mail_again : list_all (is_good_message models v) v.mail ≡ true
      → list_all (is_good_message models w) w.mail ≡ list_all (is_good_message models (narrowed marked w)) (narrowed marked w).mail
  mail_again good = marked_good (λ m. m.part) marked v.mail w.mail (λ p m. (differ.same p m).mail)
      (is_good_message models v) (is_good_message models w) (is_good_message models (narrowed marked w))
      (λ m e. same_message models v w differ.alike m (differ.same m.part e))
      (λ m e. same_message models (narrowed marked w) w (narrowed_alike marked w) m (narrowed_shows marked w m.part e)) good

  pub formed_again : (instances : ℕ) → is_well_formed models instances v ≡ true → is_well_formed models instances w ≡ is_well_formed models instances (narrowed marked w)
  formed_again instances formed =
      let mail : list_all (is_good_message models v) v.mail ≡ true = grind (arith, formed) in
      let rows : list_all (is_good_row models v) v.rows ≡ true = grind (arith, formed) in
      grind (arith, mail_again mail, rows_again rows)
