-- Any number of words, read one by one.
use Rattle.std.proofs.Common.{◌≡◌, ℕ, ◌+◌, ◌<◌, List, [], ◌∷◌, ◌++◌, length, map, get_or, drop, Result, Ok, Err, refl, sym, ap, ◌∙◌, append_assoc, add-one, drop-cons}
use Rattle.hx_script.specs.declared.faults.ScriptKind.{ScriptKind}
use Rattle.hx_script.specs.Grammar.{all_words, map_ok, then_ok}

-- what was read before, and what the words behind it say
abbrev pub behind : {A : Type 0} → List A → Result (List A) ScriptKind → Result (List A) ScriptKind
behind done rest = map_ok (λ xs. done ++ xs) rest

behind-more : {A : Type 0} (done : List A) (x : A) (rest : Result (List A) ScriptKind) → behind done (map_ok (λ xs. x ∷ xs) rest) ≡ behind (done ++ x ∷ []) rest
behind-more done x (Ok xs) = ap Ok (sym (append_assoc done (x ∷ []) xs))
behind-more done x (Err k) = refl

-- the words from a place on begin with the word there
all_words-drop : {W A : Type 0} (now : W → List ℕ) (word : List ℕ → Result A ScriptKind) (words : List W) (i : ℕ) (d : W) → i < length words
    → all_words word (map now (drop i words)) ≡ then_ok (word (now (get_or words i d))) (λ x. map_ok (λ xs. x ∷ xs) (all_words word (map now (drop (i + 1) words))))
all_words-drop now word words i d lt = rw add-one (ap (λ ws. all_words word (map now ws)) (drop-cons words i d lt))

-- one more word that is good
pub all_words-more : {W A : Type 0} (now : W → List ℕ) (word : List ℕ → Result A ScriptKind) (words : List W) (i : ℕ) (d : W) (done : List A) (x : A) → i < length words
    → word (now (get_or words i d)) ≡ Ok x → all_words word (map now words) ≡ behind done (all_words word (map now (drop i words)))
    → all_words word (map now words) ≡ behind (done ++ x ∷ []) (all_words word (map now (drop (i + 1) words)))
all_words-more now word words i d done x lt good so_far =
    so_far
    ∙ ap (behind done) (all_words-drop now word words i d lt ∙ ap (λ r. then_ok r (λ x. map_ok (λ xs. x ∷ xs) (all_words word (map now (drop (i + 1) words))))) good)
    ∙ behind-more done x (all_words word (map now (drop (i + 1) words)))

-- which is put behind what was read
pub all_words-put : {W A : Type 0} (now : W → List ℕ) (word : List ℕ → Result A ScriptKind) (words : List W) (i : ℕ) (d : W) (done more : List A) (x : A) → i < length words
    → word (now (get_or words i d)) ≡ Ok x → more ≡ done ++ x ∷ [] → all_words word (map now words) ≡ behind done (all_words word (map now (drop i words)))
    → all_words word (map now words) ≡ behind more (all_words word (map now (drop (i + 1) words)))
all_words-put now word words i d done more x lt good put so_far = rw put (all_words-more now word words i d done x lt good so_far)

-- a word that is not
pub all_words-fault : {W A : Type 0} (now : W → List ℕ) (word : List ℕ → Result A ScriptKind) (words : List W) (i : ℕ) (d : W) (done : List A) (k : ScriptKind) → i < length words
    → word (now (get_or words i d)) ≡ Err k → all_words word (map now words) ≡ behind done (all_words word (map now (drop i words)))
    → all_words word (map now words) ≡ Err k
all_words-fault now word words i d done k lt bad so_far =
    so_far ∙ ap (behind done) (all_words-drop now word words i d lt ∙ ap (λ r. then_ok r (λ x. map_ok (λ xs. x ∷ xs) (all_words word (map now (drop (i + 1) words))))) bad)
