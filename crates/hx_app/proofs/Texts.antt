-- The text of the description that is made is what is written for a JSON value, and a line feed.
use Rattle.std.proofs.Common.{◌≡◌, ℕ, zero, suc, ◌+◌, ◌/◌, ◌%◌, ◌^◌, ◌<◌, true, false, List, [], ◌∷◌, ◌++◌, map, length, codes, decimal, bytes_eq, refl, sym, ap, ap₂, ◌∙◌, append_assoc, arith}
use Rattle.std.specs.Fmt.{digits}
use Rattle.std.specs.List.{list_all, join_with_byte}
use Rattle.std.proofs.lemmas.Bool.{and_from}
use Rattle.json.specs.Print.{escape_byte}
use Rattle.serde_json.specs.Data.{Data, number, string, object, unsigned, no_members, member}
use Rattle.serde_json.specs.View.{items_of}
use Rattle.serde_json.specs.Written.{compact_text, items_text}
use Rattle.hx_lists.specs.Lists.{numbers_below}
use Rattle.hx_genwork.specs.Made as made
use Rattle.hx_genwork.specs.Made.{drawn, all_instances, list_of, lists_after, instances_array, description}
use Rattle.hx_text.specs.Lines.{separator}
use Rattle.hx_app.specs.Values.{names_value, lists_value, only}
use Rattle.hx_app.proofs.Cases.{below_12}
use Rattle.hx_app.proofs.Bytes.{are_printed, printed-append, printed-decimal, printed-join}

-- the members in the order in which they are written
abbrev pub throttle_written : Data
throttle_written = object (member (codes "scope") (string (codes "instance")) (member (codes "limit") (number (unsigned 4)) no_members))

abbrev resource_with : Data → Data → Data
resource_with count lists = object
    (member (codes "name") (string (codes "db")) (member (codes "model") (string (codes "MasterSlave")) (member (codes "replicas") (number (unsigned 3))
    (member (codes "partitions") count (member (codes "mode") (string (codes "SEMI_AUTO")) (member (codes "lists") lists no_members))))))

abbrev made_with : Data → Data → Data
made_with count lists = object
    (member (codes "version") (number (unsigned 1)) (member (codes "controllers") (number (unsigned 2)) (member (codes "timeout") (number (unsigned 30))
    (member (codes "instances") (names_value all_instances) (member (codes "throttles") (only throttle_written) (member (codes "resources") (only (resource_with count lists)) no_members))))))

abbrev pub resource_written : ℕ → ℕ → Data
resource_written seed size = resource_with (number (unsigned size)) (lists_value (lists_after seed size))

abbrev pub made_written : ℕ → ℕ → Data
made_written seed size = made_with (number (unsigned size)) (lists_value (lists_after seed size))

-- ---- the lists

abbrev pub list_from : ℕ → List ℕ
list_from y = map (λ j. (y + j) % 12) (numbers_below 4)

pub first_below : (x : ℕ) → x / 2 ^ 33 % 12 < 12
first_below x = omega arith

list_text : (y : ℕ) → y < 12 → compact_text (names_value (list_from y)) ≡ instances_array (list_from y)
unfolding digits escape_byte
list_text = below_12 (λ y. compact_text (names_value (list_from y)) ≡ instances_array (list_from y)) refl refl refl refl refl refl refl refl refl refl refl refl

list_printed : (y : ℕ) → y < 12 → are_printed (instances_array (list_from y)) ≡ true
unfolding digits
list_printed = below_12 (λ y. are_printed (instances_array (list_from y)) ≡ true) refl refl refl refl refl refl refl refl refl refl refl refl

lists_text : (x n : ℕ) → map compact_text (map names_value (lists_after x n)) ≡ map instances_array (lists_after x n)
lists_text x zero = refl
lists_text x (suc n) = ap₂ (λ t ts. t ∷ ts) (list_text (drawn x / 2 ^ 33 % 12) (first_below (drawn x))) (lists_text (drawn x) n)

lists_printed : (x n : ℕ) → list_all are_printed (map instances_array (lists_after x n)) ≡ true
lists_printed x zero = refl
lists_printed x (suc n) = and_from _ _ (list_printed (drawn x / 2 ^ 33 % 12) (first_below (drawn x))) (lists_printed (drawn x) n)

-- commas between the items, and the closing bracket
items_joined : (ds : List Data) → items_text false (items_of ds) ≡ join_with_byte 44 (map compact_text ds) ++ 93 ∷ []
items_joined [] = refl
items_joined (d ∷ []) = refl
items_joined (d ∷ e ∷ ds) =
    ap (λ t. compact_text d ++ 44 ∷ t) (items_joined (e ∷ ds)) ∙ sym (append_assoc (compact_text d) (44 ∷ join_with_byte 44 (map compact_text (e ∷ ds))) (93 ∷ []))

all_lists_text : (seed size : ℕ) → compact_text (lists_value (lists_after seed size)) ≡ made.array (map instances_array (lists_after seed size))
all_lists_text seed size =
    ap (λ t. 91 ∷ t) (items_joined (map names_value (lists_after seed size)) ∙ ap (λ ts. join_with_byte 44 ts ++ 93 ∷ []) (lists_text seed size))

-- ---- the line

abbrev pub front : List ℕ
front = codes "{\"version\":1,\"controllers\":2,\"timeout\":30,\"instances\":[\"i00\",\"i01\",\"i02\",\"i03\",\"i04\",\"i05\",\"i06\",\"i07\",\"i08\",\"i09\",\"i10\",\"i11\"],\"throttles\":[{\"scope\":\"instance\",\"limit\":4}],\"resources\":[{\"name\":\"db\",\"model\":\"MasterSlave\",\"replicas\":3,\"partitions\":"

abbrev pub middle : List ℕ
middle = codes ",\"mode\":\"SEMI_AUTO\",\"lists\":"

abbrev pub line : ℕ → ℕ → List ℕ
line seed size = front ++ (decimal size ++ (middle ++ (made.array (map instances_array (lists_after seed size)) ++ codes "}]}")))

behind : (a b c d : List ℕ) → (a ++ (b ++ c)) ++ d ≡ a ++ (b ++ (c ++ d))
behind a b c d = append_assoc a (b ++ c) d ∙ ap (λ t. a ++ t) (append_assoc b c d)

abbrev before_instances : List ℕ
before_instances = codes "{\"version\":1,\"controllers\":2,\"timeout\":30,\"instances\":"

abbrev after_instances : List ℕ
after_instances = codes ",\"throttles\":[{\"scope\":\"instance\",\"limit\":4}],\"resources\":[{\"name\":\"db\",\"model\":\"MasterSlave\",\"replicas\":3,\"partitions\":"

instances_text : instances_array all_instances ≡ codes "[\"i00\",\"i01\",\"i02\",\"i03\",\"i04\",\"i05\",\"i06\",\"i07\",\"i08\",\"i09\",\"i10\",\"i11\"]"
unfolding digits
instances_text = refl

pub description-line : (seed size : ℕ) → description seed size ≡ line seed size ++ 10 ∷ []
description-line seed size =
    let lists = made.array (map instances_array (lists_after seed size)) in
    ap (λ t. before_instances ++ t ++ after_instances ++ decimal size ++ middle ++ lists ++ codes "}]}\n") instances_text
    ∙ ap (λ t. front ++ t) (append_assoc (decimal size ++ middle) lists (codes "}]}\n") ∙ append_assoc (decimal size) middle (lists ++ codes "}]}\n"))
    ∙ sym (ap (λ t. front ++ t) (behind (decimal size) (middle ++ lists) (codes "}]}") (10 ∷ [])))

two_behind : (a b : List ℕ) → ((a ++ b) ++ 93 ∷ []) ++ 125 ∷ [] ≡ a ++ (b ++ codes "]}")
two_behind a b = append_assoc (a ++ b) (93 ∷ []) (125 ∷ []) ∙ append_assoc a b (codes "]}")

text_with : (count lists : Data) → compact_text (made_with count lists) ≡ front ++ (compact_text count ++ (middle ++ (compact_text lists ++ codes "}]}")))
unfolding digits escape_byte
text_with count lists =
    ap (λ t. front ++ t)
    (two_behind (compact_text count) (middle ++ (compact_text lists ++ 125 ∷ []))
    ∙ ap (λ t. compact_text count ++ (middle ++ t)) (append_assoc (compact_text lists) (125 ∷ []) (codes "]}")))

pub line-written : (seed size : ℕ) → compact_text (made_written seed size) ≡ line seed size
line-written seed size =
    text_with (number (unsigned size)) (lists_value (lists_after seed size))
    ∙ ap (λ t. front ++ (decimal size ++ (middle ++ (t ++ codes "}]}")))) (all_lists_text seed size)

pub line-printed : (seed size : ℕ) → size < 2 ^ 64 → are_printed (line seed size) ≡ true
line-printed seed size small =
    let lists = join_with_byte 44 (map instances_array (lists_after seed size)) in
    printed-append front (decimal size ++ (middle ++ (made.array (map instances_array (lists_after seed size)) ++ codes "}]}"))) refl
    (printed-append (decimal size) (middle ++ (made.array (map instances_array (lists_after seed size)) ++ codes "}]}")) (printed-decimal size small)
    (printed-append middle (made.array (map instances_array (lists_after seed size)) ++ codes "}]}") refl
    (printed-append (made.array (map instances_array (lists_after seed size))) (codes "}]}")
    (printed-append lists (93 ∷ []) (printed-join (map instances_array (lists_after seed size)) (lists_printed seed size)) refl)
    refl)))

pub line-other : (seed size : ℕ) → bytes_eq (line seed size) separator ≡ false
line-other seed size = refl

pub line-some : (seed size : ℕ) → 0 < length (line seed size)
line-some seed size = omega arith
