-- A JSON value that is written, and a line feed behind it, are read back as that value.
use Rattle.std.proofs.Common.{◌≡◌, ℕ, ◌≤◌, Bool, true, false, cond, ◌&&◌, List, [], ◌∷◌, ◌++◌, Option, Some, option_and_then, refl, sym, ap, ap₂, ◌∙◌, append_assoc, append-nil}
use Rattle.json.specs.Token.{Token, begin_object, end_object, begin_array, end_array, key, string, number, boolean, null, bad}
use Rattle.json.specs.Word.{ends_word, word}
use Rattle.json.specs.Lex.{Lexeme, token, comma, colon, string_token, lex, between, fresh, punctuate, tokens}
use Rattle.json.specs.Json as json
use Rattle.json.specs.Tree as tree
use Rattle.json.specs.Tree.{json_tokens, HasNumbers}
use Rattle.json.specs.Print.{escape, quoted, token_text, begins, ends, separator, print_from, print, IsPrintable, ArePrintable}
use Rattle.json.proofs.Printed.Strings.{content-escape, lex-escape}
use Rattle.json.proofs.Printed.Numbers.{lex-number, in_word-ended}
use Rattle.json.proofs.Printed.Tokens.{tokens-print}
use Rattle.json.proofs.Printed.Trees.{value-json_tokens, ArePrintable-json_tokens}
use Rattle.serde_json.specs.Data.{Data}
use Rattle.serde_json.specs.Read.{read, of_json, max_depth}

abbrev token_lexemes : Token → List Lexeme
token_lexemes begin_object = token begin_object ∷ []
token_lexemes end_object = token end_object ∷ []
token_lexemes begin_array = token begin_array ∷ []
token_lexemes end_array = token end_array ∷ []
token_lexemes (key s) = token (string s) ∷ colon ∷ []
token_lexemes (string s) = token (string s) ∷ []
token_lexemes (number s) = token (number s) ∷ []
token_lexemes (boolean b) = token (boolean b) ∷ []
token_lexemes null = token null ∷ []
token_lexemes bad = []

-- after a value stands a comma, a closing bracket or what comes behind the tokens
ends_before : (r : List ℕ) (ts : List Token) → ends_word r ≡ true → ends_word (print_from true ts ++ r) ≡ true
unfolding print_from
ends_before r [] h = h
ends_before r (begin_object ∷ ts) h = refl
ends_before r (end_object ∷ ts) h = refl
ends_before r (begin_array ∷ ts) h = refl
ends_before r (end_array ∷ ts) h = refl
ends_before r (key s ∷ ts) h = refl
ends_before r (string s ∷ ts) h = refl
ends_before r (number s ∷ ts) h = refl
ends_before r (boolean b ∷ ts) h = refl
ends_before r (null ∷ ts) h = refl
ends_before r (bad ∷ ts) h = refl

ends_after : (ts : List Token) → ends_word (print_from true ts ++ 10 ∷ []) ≡ true
ends_after ts = ends_before (10 ∷ []) ts refl

ends_alone : (ts : List Token) → ends_word (print_from true ts) ≡ true
ends_alone ts = ap ends_word (sym (append-nil (print_from true ts))) ∙ ends_before [] ts refl

lex-quoted : (s r : List ℕ) → lex between (quoted s ++ r) ≡ token (string s) ∷ lex between r
unfolding lex
lex-quoted s r =
    let e = append_assoc (escape s) (34 ∷ []) r in
    ap (λ l. lex between (34 ∷ l)) e ∙ ap₂ (λ o l. token (string_token o) ∷ l) (content-escape s r) (lex-escape s r)

lex-token : (t : Token) (r : List ℕ) → IsPrintable t → (ends t ≡ true → ends_word r ≡ true) → lex between (token_text t ++ r) ≡ token_lexemes t ++ lex between r
unfolding lex word
lex-token begin_object r h ended = refl
lex-token end_object r h ended = refl
lex-token begin_array r h ended = refl
lex-token end_array r h ended = refl
lex-token (key s) r h ended = ap (lex between) (append_assoc (quoted s) (58 ∷ []) r) ∙ lex-quoted s (58 ∷ r)
lex-token (string s) r h ended = lex-quoted s r
lex-token (number s) r h ended = lex-number s r h (ended refl)
lex-token (boolean true) r h ended = ap₂ (λ b l. token (cond b (boolean true) bad) ∷ l) (ended refl) (in_word-ended r (ended refl))
lex-token (boolean false) r h ended = ap₂ (λ b l. token (cond b (boolean false) bad) ∷ l) (ended refl) (in_word-ended r (ended refl))
lex-token null r h ended = ap₂ (λ b l. token (cond b null bad) ∷ l) (ended refl) (in_word-ended r (ended refl))
lex-token bad r h ended = absurd h

lex-comma : (b : Bool) (r : List ℕ) → lex between (cond b (44 ∷ []) [] ++ r) ≡ cond b (comma ∷ []) [] ++ lex between r
unfolding lex
lex-comma true r = refl
lex-comma false r = refl

regroup : (a b c d : List ℕ) → (a ++ (b ++ c)) ++ d ≡ a ++ (b ++ (c ++ d))
regroup a b c d = append_assoc a (b ++ c) d ∙ ap (λ s. a ++ s) (append_assoc b c d)

-- the line feed adds no lexeme
lex-line : (c : Bool) (ts : List Token) → ArePrintable ts → lex between (print_from c ts ++ 10 ∷ []) ≡ lex between (print_from c ts)
unfolding lex print_from ArePrintable
lex-line c [] h = refl
lex-line c (t ∷ ts) h =
    let rest = print_from (ends t) ts in
    ap (lex between) (regroup (separator c t) (token_text t) rest (10 ∷ []))
    ∙ lex-comma (c && begins t) (token_text t ++ (rest ++ 10 ∷ []))
    ∙ ap (λ l. cond (c && begins t) (comma ∷ []) [] ++ l)
    (lex-token t (rest ++ 10 ∷ []) h.0 (λ e. ap (λ b. ends_word (print_from b ts ++ 10 ∷ [])) e ∙ ends_after ts)
    ∙ ap (λ l. token_lexemes t ++ l) (lex-line (ends t) ts h.1)
    ∙ sym (lex-token t rest h.0 (λ e. ap (λ b. ends_word (print_from b ts)) e ∙ ends_alone ts)))
    ∙ sym (lex-comma (c && begins t) (token_text t ++ rest))

tokens-line : (ts : List Token) → ArePrintable ts → tokens (print ts ++ 10 ∷ []) ≡ ts
tokens-line ts h = ap (punctuate fresh) (lex-line false ts h) ∙ tokens-print ts h

abbrev whole : Option (json.Json × List Token) → Option Data
whole o = option_and_then of_json (option_and_then (λ p. json.if_last p.0 p.1) o)

pub read_line : (j : json.Json) (d : Data) → HasNumbers j → tree.depth j ≤ max_depth → of_json j ≡ Some d → read (print (json_tokens j) ++ 10 ∷ []) ≡ Some d
read_line j d numbers shallow is =
    ap whole
    (ap (json.value max_depth) (tokens-line (json_tokens j) (ArePrintable-json_tokens j numbers) ∙ sym (append-nil (json_tokens j)))
    ∙ value-json_tokens j max_depth [] shallow)
    ∙ is
