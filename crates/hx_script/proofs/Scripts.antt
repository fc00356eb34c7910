-- Scripts, read line by line.
use Rattle.std.proofs.Common.{◌≡◌, ℕ, ◌+◌, ◌≤◌, suc, Bool, true, false, List, [], ◌∷◌, ◌++◌, length, drop, slice_get, Option, Some, Result, Ok, Err, refl, sym, ap, ◌∙◌, append_assoc, add-one, arith, if◌then◌else◌}
use Rattle.std.proofs.lemmas.List.{append-nil, length-append, drop_all}
use Rattle.std.proofs.lemmas.Option.{slice_get_within, get_or_from_slice_get}
use Rattle.std.proofs.Math.Seq.{drop-cons}
use Rattle.std.specs.List.{list_any}
use Rattle.std.specs.Str.{bytes_eq}
use Rattle.hx_ids.specs.Names.{interned}
use Rattle.hx_text.specs.Lines.{words_of}
use Rattle.hx_cluster.specs.declared.description.Spec.{Spec}
use Rattle.hx_script.specs.declared.What.{What}
use Rattle.hx_script.specs.declared.Line.{Line}
use Rattle.hx_script.specs.declared.faults.ScriptKind.{ScriptKind}
use Rattle.hx_script.specs.declared.faults.ScriptFault.{ScriptFault}
use Rattle.hx_script.specs.Grammar.{map_ok, asked_by, is_add, two_and_more, with_second, with_name, spec_with, spec_after, line_asked, numbered, script_from}
use Rattle.hx_script.specs.Parsing.{KeepsAllButNames}

-- the lines that were read, before those that follow
abbrev pub before : List Line → Result (List Line × Spec) ScriptFault → Result (List Line × Spec) ScriptFault
before done rest = map_ok (λ r. (done ++ r.0, r.1)) rest

before-more : (done ls : List Line) (rest : Result (List Line × Spec) ScriptFault) → before done (map_ok (λ r. (ls ++ r.0, r.1)) rest) ≡ before (done ++ ls) rest
before-more done ls (Ok r) = ap (λ all. Ok (all, r.1)) (sym (append_assoc done ls r.0))
before-more done ls (Err fault) = refl

-- the lines from a place on begin with the line there
script_from-drop : (lines : List (List ℕ)) (i : ℕ) (line : List ℕ) (n : ℕ) (spec : Spec) → slice_get lines i ≡ Some line
    → script_from n (drop i lines) spec ≡ numbered n (asked_by spec line) (script_from (n + 1) (drop (i + 1) lines) (spec_after spec line))
script_from-drop lines i line n spec at =
    ap (λ ls. script_from n ls spec) (drop-cons lines i line (slice_get_within lines i line at))
    ∙ ap (λ l. script_from n (l ∷ drop (suc i) lines) spec) (get_or_from_slice_get lines i line line at)
    ∙ ap (λ k. script_from n (line ∷ drop k lines) spec) (sym (add-one i))

-- behind the last line nothing is left
pub read_whole : (lines : List (List ℕ)) (n : ℕ) (spec : Spec) (done : List Line) (whole : Result (List Line × Spec) ScriptFault) → length lines ≤ n
    → whole ≡ before done (script_from (n + 1) (drop n lines) spec) → whole ≡ Ok (done, spec)
read_whole lines n spec done whole past all =
    all ∙ ap (λ ls. before done (script_from (n + 1) ls spec)) (drop_all n lines past) ∙ ap (λ ls. Ok (ls, spec)) (append-nil done)

-- a line that is good, and a fault
pub after_line : (lines : List (List ℕ)) (i : ℕ) (line : List ℕ) (spec : Spec) (done : List Line) (what : Option What) (whole : Result (List Line × Spec) ScriptFault) → slice_get lines i ≡ Some line
    → asked_by spec line ≡ Ok what → whole ≡ before done (script_from (i + 1) (drop i lines) spec)
    → whole ≡ before (done ++ line_asked (i + 1) what) (script_from (i + 1 + 1) (drop (i + 1) lines) (spec_after spec line))
after_line lines i line spec done what whole at asks all =
    all
    ∙ ap (before done) (script_from-drop lines i line (i + 1) spec at ∙ ap (λ a. numbered (i + 1) a (script_from (i + 1 + 1) (drop (i + 1) lines) (spec_after spec line))) asks)
    ∙ before-more done (line_asked (i + 1) what) (script_from (i + 1 + 1) (drop (i + 1) lines) (spec_after spec line))

pub at_fault : (lines : List (List ℕ)) (i : ℕ) (line : List ℕ) (spec : Spec) (done : List Line) (kind : ScriptKind) (whole : Result (List Line × Spec) ScriptFault) → slice_get lines i ≡ Some line
    → asked_by spec line ≡ Err kind → whole ≡ before done (script_from (i + 1) (drop i lines) spec)
    → whole ≡ Err (record { line = i + 1; kind = kind })
at_fault lines i line spec done kind whole at asks all =
    all ∙ ap (before done) (script_from-drop lines i line (i + 1) spec at ∙ ap (λ a. numbered (i + 1) a (script_from (i + 1 + 1) (drop (i + 1) lines) (spec_after spec line))) asks)

-- what a line keeps: all but the resource names, of which there is at most one more
pub record AddsName (old new : Spec) : Type 0 where
  pub kept : KeepsAllButNames old new
  pub few : length new.resource_names ≤ length old.resource_names + 1

pub keeps_itself : (spec : Spec) → KeepsAllButNames spec spec
keeps_itself spec = record { rest = refl; names = ([], sym (append-nil spec.resource_names)) }

adds_none : (spec : Spec) → AddsName spec spec
adds_none spec = record { kept = keeps_itself spec; few = omega arith }

interned-more : (names : List (List ℕ)) (name : List ℕ) (b : Bool) → list_any (bytes_eq name) names ≡ b → (more : List (List ℕ)) × ((interned names name ≡ names ++ more) × (length more ≤ 1))
interned-more names name true is = rw is ([], (sym (append-nil names), omega arith))
interned-more names name false is = rw is (name ∷ [], (refl, omega arith))

adds_name : (spec : Spec) (words : Result (List ℕ × List ℕ × List (List ℕ)) ScriptKind) → AddsName spec (with_second spec words)
adds_name spec (Err kind) = adds_none spec
adds_name spec (Ok words) =
    let more = interned-more spec.resource_names words.1 (list_any (bytes_eq words.1) spec.resource_names) refl in
    record {
      kept = record { rest = refl; names = (more.0, more.1.0) };
      few = omega (arith, ap length more.1.0, length-append spec.resource_names more.0, more.1.1);
    }

adds_if : (spec : Spec) (words : List (List ℕ)) (b : Bool) → AddsName spec (if b then with_name spec words else spec)
adds_if spec words true = adds_name spec (two_and_more words)
adds_if spec words false = adds_none spec

pub adds_with : (spec : Spec) (words : List (List ℕ)) (asked : Result (Option What) ScriptKind) → AddsName spec (spec_with spec words asked)
adds_with spec words (Err kind) = adds_none spec
adds_with spec words (Ok what) = adds_if spec words (is_add what)

pub adds_after : (spec : Spec) (line : List ℕ) → AddsName spec (spec_after spec line)
adds_after spec line = adds_with spec (words_of line) (asked_by spec line)

pub kept_on : (a b c : Spec) → KeepsAllButNames a b → KeepsAllButNames b c → KeepsAllButNames a c
kept_on a b c ab bc = record {
  rest = bc.rest ∙ ap (λ (s : Spec). record s { resource_names = c.resource_names }) ab.rest;
  names = (ab.names.0 ++ bc.names.0, bc.names.1 ∙ ap (λ ns. ns ++ bc.names.0) ab.names.1 ∙ append_assoc a.resource_names ab.names.0 bc.names.0);
}

-- what holds after a line where a loop over all lines keeps it
pub kept_after : (old spec : Spec) (line : List ℕ) → KeepsAllButNames old spec → KeepsAllButNames old (spec_after spec line)
kept_after old spec line kept = kept_on old spec (spec_after spec line) kept (adds_after spec line).kept

pub few_after : (old spec : Spec) (line : List ℕ) (i : ℕ) → length spec.resource_names ≤ length old.resource_names + i → length (spec_after spec line).resource_names ≤ length old.resource_names + (i + 1)
few_after old spec line i few = omega (arith, few, (adds_after spec line).few)
