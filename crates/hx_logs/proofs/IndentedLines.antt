-- Any number of indented lines, each cut into its words and read.
use Rattle.std.proofs.Common.{◌≡◌, ℕ, ◌+◌, ◌<◌, List, [], ◌∷◌, ◌++◌, Bor, length, map, get_or, drop, Result, Ok, Err, sym, ap, ◌∙◌}
use Rattle.hx_script.specs.declared.faults.ScriptKind.{ScriptKind}
use Rattle.hx_script.specs.Grammar.{all_words}
use Rattle.hx_script.specs.Logs.{exact_words}
use Rattle.hx_script.proofs.AllWords.{behind, all_words-more, all_words-fault}

-- what some lines tell
abbrev pub told_lines : {A : Type 0} → (List (List ℕ) → Result A ScriptKind) → List (Bor (List ℕ)) → Result (List A) ScriptKind
told_lines told lines = all_words (λ l. told (exact_words l)) (map (λ w. w.now) lines)

-- what the words of a line tell
cut_told : {A : Type 0} (told : List (List ℕ) → Result A ScriptKind) (line : List ℕ) (words cut : List (Bor (List ℕ))) (r : Result A ScriptKind) → words ≡ cut → map (λ w. w.now) cut ≡ exact_words line
    → r ≡ told (map (λ w. w.now) words) → told (exact_words line) ≡ r
cut_told told line words cut r same are is = ap told (sym (ap (map (λ (w : Bor (List ℕ)). w.now)) same ∙ are)) ∙ sym is

-- one more line that is good
pub line_put : {A : Type 0} (told : List (List ℕ) → Result A ScriptKind) (lines : List (Bor (List ℕ))) (i : ℕ) (d : Bor (List ℕ)) (words cut : List (Bor (List ℕ))) (done more : List A) (x : A) → i < length lines
    → words ≡ cut → map (λ w. w.now) cut ≡ exact_words (get_or lines i d).now → Ok x ≡ told (map (λ w. w.now) words) → more ≡ done ++ x ∷ []
    → told_lines told lines ≡ behind done (told_lines told (drop i lines)) → told_lines told lines ≡ behind more (told_lines told (drop (i + 1) lines))
line_put told lines i d words cut done more x lt same are is put so_far =
    rw put (all_words-more (λ (w : Bor (List ℕ)). w.now) (λ l. told (exact_words l)) lines i d done x lt (cut_told told (get_or lines i d).now words cut (Ok x) same are is) so_far)

-- a line that is not
pub line_fault : {A : Type 0} (told : List (List ℕ) → Result A ScriptKind) (lines : List (Bor (List ℕ))) (i : ℕ) (d : Bor (List ℕ)) (words cut : List (Bor (List ℕ))) (done : List A) (k : ScriptKind) → i < length lines
    → words ≡ cut → map (λ w. w.now) cut ≡ exact_words (get_or lines i d).now → Err k ≡ told (map (λ w. w.now) words)
    → told_lines told lines ≡ behind done (told_lines told (drop i lines)) → Err k ≡ told_lines told lines
line_fault told lines i d words cut done k lt same are is so_far =
    sym (all_words-fault (λ (w : Bor (List ℕ)). w.now) (λ l. told (exact_words l)) lines i d done k lt (cut_told told (get_or lines i d).now words cut (Err k) same are is) so_far)
