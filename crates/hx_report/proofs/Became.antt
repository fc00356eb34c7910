-- What became of a target's candidate, by what is found of it.
use Rattle.std.proofs.Common.{◌≡◌, ℕ, Bool, true, false, List, find, Bor, refl, sym, ap, ◌∙◌, subst, arith}
use Rattle.std.specs.Prelude.{Option, None, Some, is_some, option_copied}
use Rattle.std.specs.BTreeMap.{BTreeMap}
use Rattle.hx_ids.specs.declared.SessionId.{SessionId}
use Rattle.hx_ids.specs.declared.PartId.{PartId}
use Rattle.hx_cluster.specs.declared.planning.Candidate.{Candidate}
use Rattle.hx_cluster.specs.declared.planning.Target.{Target}
use Rattle.hx_cluster.specs.declared.planning.Held.{Held}
use Rattle.hx_cluster.specs.declared.planning.Full.{Full}
use Rattle.hx_cluster.specs.declared.planning.Selection.{Selection}
use Rattle.hx_cluster.specs.declared.planning.Throttled.{Throttled}
use Rattle.hx_cluster.specs.declared.planning.Finding.TheVariants as findings
use Rattle.hx_report.specs.Findings.{is_of, fate_of}
use Rattle.hx_report.specs.Places.{ArePlaces}
use Rattle.hx_report.proofs.Placing.{found_any}

copied_some : {X : Type 0} (o : Option (Bor X)) → is_some (option_copied o) ≡ is_some o
copied_some None = refl
copied_some (Some x) = refl

-- a look-up in a table of a list, by a slice that has the list's items
pub found_in : {X : Type 0} (candidate_of : X → Candidate) (t : Target) (places : BTreeMap (SessionId × PartId) ℕ) (xs slice : List X) (found o : Option (Bor X)) → slice ≡ xs → ArePlaces candidate_of xs places
    → (ArePlaces candidate_of slice places → option_copied found ≡ find (λ x. is_of t (candidate_of x)) slice) → found ≡ o → find (λ x. is_of t (candidate_of x)) xs ≡ option_copied o
found_in candidate_of t places xs slice found o same are gives is =
    sym (gives (subst (λ (ys : List _). ArePlaces candidate_of ys places) (sym same) are) ∙ ap (find (λ x. is_of t (candidate_of x))) same) ∙ ap option_copied is

-- whether it finds one
pub is_found : {X : Type 0} (candidate_of : X → Candidate) (t : Target) (places : BTreeMap (SessionId × PartId) ℕ) (xs slice : List X) (found : Option (Bor X)) (b : Bool) → slice ≡ xs → ArePlaces candidate_of xs places
    → (ArePlaces candidate_of slice places → option_copied found ≡ find (λ x. is_of t (candidate_of x)) slice) → is_some found ≡ b → is_some (find (λ x. is_of t (candidate_of x)) xs) ≡ b
is_found candidate_of t places xs slice found b same are gives is = ap is_some (found_in candidate_of t places xs slice found found same are gives refl) ∙ copied_some found ∙ is

module _ (selection : Selection) (throttled : Throttled) (t : Target) where
  pub fate_sent : is_some (find (is_of t) throttled.sent) ≡ true → findings.Sent ≡ fate_of selection throttled t
  fate_sent sent = grind (arith, sent, found_any (is_of t) throttled.sent)

  pub fate_held : (h : Held) → is_some (find (is_of t) throttled.sent) ≡ false → find (λ x. is_of t x.candidate) throttled.held ≡ Some h → findings.Held h ≡ fate_of selection throttled t
  fate_held h sent held = grind (arith, sent, found_any (is_of t) throttled.sent, held)

  pub fate_full : (f : Full) → is_some (find (is_of t) throttled.sent) ≡ false → find (λ x. is_of t x.candidate) throttled.held ≡ None
      → find (λ x. is_of t x.candidate) selection.full ≡ Some f → findings.Full f ≡ fate_of selection throttled t
  fate_full f sent held full = grind (arith, sent, found_any (is_of t) throttled.sent, held, full)

  pub fate_best : is_some (find (is_of t) throttled.sent) ≡ false → find (λ x. is_of t x.candidate) throttled.held ≡ None
      → find (λ x. is_of t x.candidate) selection.full ≡ None → findings.AtBest ≡ fate_of selection throttled t
  fate_best sent held full = grind (arith, sent, found_any (is_of t) throttled.sent, held, full)
