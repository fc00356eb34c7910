-- What was read of a script before a refusal.
use Rattle.std.proofs.Common.{◌≡◌, ℕ, ◌+◌, ◌-◌, ◌<◌, List, [], ◌∷◌, ◌++◌, length, take, slice_get, Option, Some, Result, Ok, Err, sym, ap, ◌∙◌, subst, append_assoc, arith}
use Rattle.std.specs.Prelude.{IfErr, IsErrAnd}
use Rattle.std.proofs.lemmas.List.{append-nil, take_more, length-take-le}
use Rattle.std.proofs.lemmas.Option.{slice_get_within, get_or_from_slice_get}
use Rattle.hx_text.specs.Lines.{words_of}
use Rattle.hx_cluster.specs.declared.description.Spec.{Spec}
use Rattle.hx_script.specs.declared.What.{What}
use Rattle.hx_script.specs.declared.Line.{Line}
use Rattle.hx_script.specs.declared.faults.ScriptKind.{ScriptKind}
use Rattle.hx_script.specs.declared.faults.ScriptRefusal.{ScriptRefusal}
use Rattle.hx_script.specs.declared.faults.ScriptRefusal.TheVariants.{OutOfMemory}
use Rattle.hx_script.specs.Grammar.{asked_by, spec_with, spec_after, line_asked, numbered, script_from, script_of}
use Rattle.hx_script.specs.Parsing.{HasRead, Leaves}
use Rattle.hx_script.proofs.LinesAgain.{begun}

-- a script with one more line
one_more : (lines : List (List ℕ)) (n m : ℕ) (spec mid : Spec) (done : List Line) (line : List ℕ) (what : Option What) → n + length lines ≡ m → script_from n lines spec ≡ Ok (done, mid)
    → asked_by mid line ≡ Ok what → script_from n (lines ++ line ∷ []) spec ≡ Ok (done ++ line_asked m what, spec_after mid line)
one_more [] n m spec mid done line what count e asks =
    let here : n ≡ m = omega (arith, count) in
    let same : ([], spec) ≡ (done, mid) = cc in
    subst (λ (r : List Line × Spec). script_from n (line ∷ []) spec ≡ Ok (r.0 ++ line_asked m what, spec_after r.1 line)) same
    (ap (λ a. numbered n a (script_from (n + 1) [] (spec_after spec line))) (subst (λ (r : List Line × Spec). asked_by r.1 line ≡ Ok what) (sym same) asks)
    ∙ ap (λ ls. Ok (ls, spec_after spec line)) (append-nil (line_asked n what) ∙ ap (λ k. line_asked k what) here))
one_more (first ∷ lines) n m spec mid done line what count e asks =
    let b = begun n first lines spec done mid e in
    let later = one_more lines (n + 1) m (spec_after spec first) mid b.rest line what (omega (arith, count)) b.more asks in
    ap (λ a. numbered n a (script_from (n + 1) (lines ++ line ∷ []) (spec_after spec first))) b.asks
    ∙ ap (numbered n (Ok b.what)) later
    ∙ ap (λ ls. Ok (ls, spec_after mid line)) (sym (append_assoc (line_asked n b.what) b.rest (line_asked m what)) ∙ ap (λ ls. ls ++ line_asked m what) (sym b.whole))

-- the lines up to a place were read, and then the one there
pub read_one : (lines : List (List ℕ)) (i : ℕ) (line : List ℕ) (old spec : Spec) (done : List Line) (what : Option What) → slice_get lines i ≡ Some line → asked_by spec line ≡ Ok what
    → script_of (take i lines) old ≡ Ok (done, spec) → script_of (take (i + 1) lines) old ≡ Ok (done ++ line_asked (i + 1) what, spec_after spec line)
read_one lines i line old spec done what at asks read =
    let within : i < length lines = slice_get_within lines i line at in
    let front : length (take i lines) ≡ i = length-take-le i lines (omega (arith, within)) in
    ap (λ ls. script_of ls old) (take_more lines i line within ∙ ap (λ l. take i lines ++ l ∷ []) (get_or_from_slice_get lines i line line at))
    ∙ one_more (take i lines) 1 (i + 1) old spec done line what (omega (arith, front)) read asks

-- at a line with a fault, which brings no name
pub read_to_fault : (lines : List (List ℕ)) (i : ℕ) (line : List ℕ) (old spec new : Spec) (done : List Line) (kind : ScriptKind) → asked_by spec line ≡ Err kind → new ≡ spec_after spec line
    → script_of (take i lines) old ≡ Ok (done, spec) → HasRead lines (i + 1 - 1) old new
read_to_fault lines i line old spec new done kind asks after read = (
  done,
  ap (λ k. script_of (take k lines) old) (omega arith) ∙ read ∙ ap (λ (s : Spec). Ok (done, s)) (sym (after ∙ ap (spec_with spec (words_of line)) asks)),
)

-- for want of memory behind a line
pub wanted_behind : {A : Type 0} (lines : List (List ℕ)) (i : ℕ) (line : List ℕ) (old spec new : Spec) (done : List Line) (what : Option What) (r : Result A ScriptRefusal) → slice_get lines i ≡ Some line
    → asked_by spec line ≡ Ok what → new ≡ spec_after spec line → script_of (take i lines) old ≡ Ok (done, spec) → IsErrAnd r (λ e. e ≡ OutOfMemory) → IfErr r (λ e. Leaves lines e old new)
wanted_behind lines i line old spec new done what (Ok x) at asks after read is = absurd is
wanted_behind lines i line old spec new done what (Err e) at asks after read is =
    let within : i < length lines = slice_get_within lines i line at in
    let more = done ++ line_asked (i + 1) what in
    subst (λ x. Leaves lines x old new) (sym is)
    (i + 1, omega (arith, within), (more, read_one lines i line old spec done what at asks read ∙ ap (λ (s : Spec). Ok (more, s)) (sym after)))
