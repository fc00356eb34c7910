-- Events that come one by one, and the log with one more.
use Rattle.std.proofs.Common.{◌≡◌, ℕ, List, [], ◌∷◌, ◌++◌, fold, Result, OnOk, refl, sym, ap, ◌∙◌, append_assoc}
use Rattle.std.proofs.lemmas.List.{append-nil}
use Rattle.std.proofs.lemmas.Result.{on_ok_weaker}
use Rattle.hx_cluster.specs.declared.description.Spec.{Spec}
use Rattle.hx_cluster.specs.declared.state.Cluster.{Cluster}
use Rattle.hx_cluster.specs.declared.happenings.Event.{Event}
use Rattle.hx_cluster.specs.Steps.{opening}
use Rattle.hx_cluster.specs.Events.{next, replay, IsStep, IsLegal}
use Rattle.hx_print.specs.declared.roll.Roll.{Roll}
use Rattle.hx_text.specs.Texts.{PutsFront}
use Rattle.hx_text.proofs.Printing.{IsMidway, puts_next}
use Rattle.hx_print.specs.Texts.{roll_of, event_text, entry_text, log_text}
use Rattle.hx_print.specs.Rolls.{roll_after, rolled_text}
use Rattle.hx_print.proofs.Followed.{roll_next}
use Rattle.hx_script.specs.History.{HasPrinted}

-- a roll that goes on with each event
followed_all : (c : Cluster) (es : List Event) → IsLegal c es → fold roll_after (roll_of c) es ≡ roll_of (replay c es)
followed_all c [] legal = refl
followed_all c (e ∷ es) legal =
    ap (λ (r : Roll). fold roll_after r es) (sym (roll_next c e legal.0)) ∙ followed_all (next c e) es legal.1

-- a printer that begins with a history
pub printed_all : (spec : Spec) (es : List Event) (first last : Roll) → IsLegal (opening spec) es → first ≡ roll_of (opening spec) → last ≡ fold roll_after first es → HasPrinted spec es last
printed_all spec es first last legal opened followed =
    followed
    ∙ ap (λ (r : Roll). fold roll_after r es) opened
    ∙ followed_all (opening spec) es legal

-- a front of an event's text is a front of the log
pub puts_event : (spec : Spec) (first roll : Roll) (all left rest : List Event) (e : Event) (old page new : List ℕ) → left ≡ e ∷ rest
    → IsMidway (rolled_text spec first all) old page (rolled_text spec roll left) → PutsFront (event_text spec roll e) page new
    → PutsFront (rolled_text spec first all) old new
puts_event spec first roll all left rest e old page new is m p =
    let next : rolled_text spec roll left ≡ event_text spec roll e ++ rolled_text spec (roll_after roll e) rest = ap (rolled_text spec roll) is in
    puts_next (rolled_text spec first all) old page new (event_text spec roll e) (rolled_text spec (roll_after roll e) rest) (record { whole = ap (λ t. page ++ t) (sym next) ∙ m.whole; grown = m.grown }) p

-- one event more
replay_more : (c : Cluster) (es : List Event) (e : Event) → replay c (es ++ e ∷ []) ≡ next (replay c es) e
replay_more c [] e = refl
replay_more c (d ∷ es) e = replay_more (next c d) es e

legal_last : (c : Cluster) (es : List Event) (e : Event) → IsLegal c (es ++ e ∷ []) → IsStep (replay c es) e
legal_last c [] e legal = legal.0
legal_last c (d ∷ es) e legal = legal_last (next c d) es e legal.1

-- a printer that goes on with an entry
pub printed_more : {T E : Type 0} (r : Result T E) (spec : Spec) (printed : List Event) (e : Event) (before after : Roll) → HasPrinted spec printed before
    → IsLegal (opening spec) (printed ++ e ∷ []) → OnOk r (after ≡ roll_after before e) → OnOk r (HasPrinted spec (printed ++ e ∷ []) after)
printed_more r spec printed e before after is legal followed =
    let c = opening spec in
    let next = sym (roll_next (replay c printed) e (legal_last c printed e legal)) ∙ ap (λ (d : Cluster). roll_of d) (sym (replay_more c printed e)) in
    on_ok_weaker r (λ f. f ∙ ap (λ (t : Roll). roll_after t e) is ∙ next) followed

-- the log
pub log_more : (spec : Spec) (c : Cluster) (es : List Event) (e : Event) → log_text spec c (es ++ e ∷ []) ≡ log_text spec c es ++ entry_text spec (replay c es) e
log_more spec c [] e = append-nil (entry_text spec c e)
log_more spec c (d ∷ es) e =
    ap (λ t. entry_text spec c d ++ t) (log_more spec (next c d) es e)
    ∙ sym (append_assoc (entry_text spec c d) (log_text spec (next c d) es) (entry_text spec (replay (next c d) es) e))
