-- The words that a line is made of.
use Rattle.std.specs.Prelude.{List, ◌++◌, map, decimal, ℕ}
use Rattle.hx_print.specs.declared.lines.Token.{Token}
use Rattle.hx_print.specs.declared.lines.Token.TheVariants as tokens
use Rattle.hx_cluster.specs.declared.description.Spec.{Spec}
use Rattle.hx_print.specs.declared.lines.Rest.{Rest}
use Rattle.hx_print.specs.declared.lines.Rest.TheVariants as rests
use Rattle.hx_print.specs.Texts.{instance_name, pair_name, holder_names, controller_name, session_name, message_name, epoch_name, pass_name, numbered, part_of_name}

-- the word of a token
abbrev pub token_word : Token → List ℕ
token_word (tokens.Text t) = t.now
token_word (tokens.Number n) = decimal n
token_word (tokens.Controller k) = controller_name k
token_word (tokens.Session s) = session_name s
token_word (tokens.Message m) = message_name m
token_word (tokens.Epoch e) = epoch_name e
token_word (tokens.Pass p) = pass_name p
token_word (tokens.Resource name r) = numbered name.now r
token_word (tokens.Part name p) = part_of_name name.now p
token_word (tokens.Pair a sign b) = a.now ++ sign.now ++ b.now

abbrev pub words_of : List Token → List (List ℕ)
words_of ts = map token_word ts

-- the words at the end of a line
abbrev pub rest_words : Spec → Rest → List (List ℕ)
rest_words spec (rests.Instances list) = map (instance_name spec) list.now
rest_words spec (rests.Pairs sign entries) = map (pair_name spec sign.now) entries.now
rest_words spec (rests.Holders shown holders) = holder_names spec shown.now holders.now
