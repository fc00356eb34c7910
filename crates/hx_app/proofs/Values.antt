-- The description that is made is read as its JSON value.
use Rattle.std.proofs.Common.{◌≡◌, ℕ, ◌^◌, ◌<◌, ◌≤◌, List, [], ◌∷◌, ◌++◌, map, Some, option_and_then, option_map, codes, refl, sym, ap, ◌∙◌, arith}
use Rattle.json.specs.Tree as tree
use Rattle.json.specs.Tree.{json_tokens, HasNumbers, ItemsHaveNumbers}
use Rattle.json.proofs.Printed.Decimals.{IsNumber-decimal}
use Rattle.serde_json.specs.Data.{Data, number, string, array, object, unsigned, Items, item, Members, no_members, member, put}
use Rattle.serde_json.specs.View.{items_of}
use Rattle.serde_json.specs.Read.{read, of_json, of_items, of_members, max_depth}
use Rattle.serde_json.specs.Written.{outline, items_outline, members_outline}
use Rattle.serde_json.proofs.Numbers.{number_of-decimal}
use Rattle.serde_json.proofs.Texts.{print-outline}
use Rattle.hx_genwork.specs.Made.{all_instances, instance_name, lists_after, description}
use Rattle.hx_app.specs.Values.{names_value, lists_value, only, throttle_value, resource_value, made_value}
use Rattle.hx_app.proofs.LineFeeds.{read_line}
use Rattle.hx_app.proofs.Texts.{throttle_written, resource_written, made_written, description-line, line-written}

-- ---- each value is read back

abbrev Again : Data → Data → Type 0
Again written d = of_json (outline written) ≡ Some d

number-again : (n : ℕ) → n < 2 ^ 64 → Again (number (unsigned n)) (number (unsigned n))
number-again n small = ap (option_map number) (number_of-decimal n small)

names-again : (ns : List ℕ) → of_items (items_outline (items_of (map (λ n. string (instance_name n)) ns))) ≡ Some (items_of (map (λ n. string (instance_name n)) ns))
names-again [] = refl
names-again (n ∷ ns) = ap (option_map (item (string (instance_name n)))) (names-again ns)

array-again : (ds : Items) → of_items (items_outline ds) ≡ Some ds → Again (array ds) (array ds)
array-again ds e = ap (option_map array) e

lists-again : (ls : List (List ℕ)) → of_items (items_outline (items_of (map names_value ls))) ≡ Some (items_of (map names_value ls))
lists-again [] = refl
lists-again (l ∷ ls) =
    ap (option_and_then (λ d. option_map (item d) (of_items (items_outline (items_of (map names_value ls)))))) (array-again (items_of (map (λ n. string (instance_name n)) l)) (names-again l))
    ∙ ap (option_map (item (names_value l))) (lists-again ls)

only-again : (written d : Data) → Again written d → Again (only written) (only d)
only-again written d e = ap (λ o. option_map array (option_and_then (λ x. option_map (item x) (Some (items_of []))) o)) e

-- members by their names, each value as it is written and as it is read
abbrev Row : Type 0
Row = List ℕ × Data × Data

abbrev written_of : List Row → Members
written_of [] = no_members
written_of (row ∷ rows) = member row.0 row.1 (written_of rows)

abbrev put_all : List Row → Members → Members
put_all [] found = found
put_all (row ∷ rows) found = put_all rows (put row.0 row.2 found)

abbrev AreAgain : List Row → Type 0
AreAgain [] = Unit {0}
AreAgain (row ∷ rows) = Again row.1 row.2 × AreAgain rows

members-again : (rows : List Row) (found : Members) → AreAgain rows → of_members (members_outline (written_of rows)) found ≡ Some (put_all rows found)
members-again [] found each = refl
members-again (row ∷ rows) found each =
    ap (option_and_then (λ d. of_members (members_outline (written_of rows)) (put row.0 d found))) each.0 ∙ members-again rows (put row.0 row.2 found) each.1

object-again : (rows : List Row) → AreAgain rows → Again (object (written_of rows)) (object (put_all rows no_members))
object-again rows each = ap (option_map object) (members-again rows no_members each)

abbrev same_row : List ℕ → Data → Row
same_row name d = (name, d, d)

throttle-again : Again throttle_written throttle_value
throttle-again = object-again (same_row (codes "scope") (string (codes "instance")) ∷ same_row (codes "limit") (number (unsigned 4)) ∷ []) (refl, (number-again 4 (omega arith), tt))

resource-again : (seed size : ℕ) → size < 2 ^ 64 → Again (resource_written seed size) (resource_value seed size)
resource-again seed size small = object-again
    (same_row (codes "name") (string (codes "db")) ∷ same_row (codes "model") (string (codes "MasterSlave")) ∷ same_row (codes "replicas") (number (unsigned 3))
    ∷ same_row (codes "partitions") (number (unsigned size)) ∷ same_row (codes "mode") (string (codes "SEMI_AUTO")) ∷ same_row (codes "lists") (lists_value (lists_after seed size)) ∷ [])
    (refl, (refl, (number-again 3 (omega arith), (number-again size small, (refl, (array-again (items_of (map names_value (lists_after seed size))) (lists-again (lists_after seed size)), tt))))))

made-again : (seed size : ℕ) → size < 2 ^ 64 → Again (made_written seed size) (made_value seed size)
made-again seed size small = object-again
    (same_row (codes "version") (number (unsigned 1)) ∷ same_row (codes "controllers") (number (unsigned 2)) ∷ same_row (codes "timeout") (number (unsigned 30))
    ∷ same_row (codes "instances") (names_value all_instances) ∷ (codes "throttles", only throttle_written, only throttle_value)
    ∷ (codes "resources", only (resource_written seed size), only (resource_value seed size)) ∷ []) (
      number-again 1 (omega arith),
      (
        number-again 2 (omega arith),
        (
          number-again 30 (omega arith),
          (
            array-again (items_of (map (λ n. string (instance_name n)) all_instances)) (names-again all_instances),
            (only-again throttle_written throttle_value throttle-again, (only-again (resource_written seed size) (resource_value seed size) (resource-again seed size small), tt)),
          ),
        ),
      ),
    )

-- ---- what the round trip asks

names_numbers : (ns : List ℕ) → ItemsHaveNumbers (items_outline (items_of (map (λ n. string (instance_name n)) ns)))
names_numbers [] = tt
names_numbers (n ∷ ns) = (tt, names_numbers ns)

lists_numbers : (ls : List (List ℕ)) → ItemsHaveNumbers (items_outline (items_of (map names_value ls)))
lists_numbers [] = tt
lists_numbers (l ∷ ls) = (names_numbers l, lists_numbers ls)

numbers : (seed size : ℕ) → size < 2 ^ 64 → HasNumbers (outline (made_written seed size))
numbers seed size small = (
  IsNumber-decimal 1 (omega arith),
  (
    IsNumber-decimal 2 (omega arith),
    (
      IsNumber-decimal 30 (omega arith),
      (
        names_numbers all_instances,
        (
          ((tt, (IsNumber-decimal 4 (omega arith), tt)), tt),
          (((tt, (tt, (IsNumber-decimal 3 (omega arith), (IsNumber-decimal size small, (tt, (lists_numbers (lists_after seed size), tt)))))), tt), tt),
        ),
      ),
    ),
  ),
)

names_depth : (ns : List ℕ) → tree.items_depth (items_outline (items_of (map (λ n. string (instance_name n)) ns))) ≤ 0
names_depth [] = omega arith
names_depth (n ∷ ns) = omega (arith, names_depth ns)

lists_depth : (ls : List (List ℕ)) → tree.items_depth (items_outline (items_of (map names_value ls))) ≤ 1
lists_depth [] = omega arith
lists_depth (l ∷ ls) = omega (arith, names_depth l, lists_depth ls)

shallow : (seed size : ℕ) → tree.depth (outline (made_written seed size)) ≤ max_depth
shallow seed size = omega (arith, names_depth all_instances, lists_depth (lists_after seed size))

pub read-description : (seed size : ℕ) → size < 2 ^ 64 → read (description seed size) ≡ Some (made_value seed size)
read-description seed size small =
    ap read (description-line seed size ∙ ap (λ t. t ++ 10 ∷ []) (sym (print-outline (made_written seed size) ∙ line-written seed size)))
    ∙ read_line (outline (made_written seed size)) (made_value seed size) (numbers seed size small) (shallow seed size) (made-again seed size small)
