-- Messages that are put into a bag.
use Rattle.std.proofs.Common.{◌≡◌, ℕ, ◌+◌, ◌<◌, ◌==◌, Bool, true, false, List, [], ◌∷◌, ◌++◌, take, length, find, refl, sym, ap, ◌∙◌, arith}
use Rattle.std.specs.Prelude.{slice_index_or}
use Rattle.std.proofs.lemmas.List.{take_more}
use Rattle.std.proofs.lemmas.Bool.Decides.{nat_tests}
use Rattle.std.specs.Map.{values_of, lookup}
use Rattle.indexmap.specs.IndexMap.{insert_entry}
use Rattle.hx_ids.specs.declared.MsgId.{MsgId}
use Rattle.hx_cluster.specs.declared.state.Message.{Message}
use Rattle.hx_worlds.specs.Jobs.{put_in_bag, put_all}
use Rattle.hx_scene.specs.Bags.{IsKeyed}

abbrev number_eq : MsgId → MsgId → Bool
number_eq a b = a.0 == b.0

same_test : (a b c : ℕ) → b ≡ c → (a == b) ≡ (c == a)
same_test a b c e = grind (arith, nat_tests, e)

-- a message is put under its number
pub keyed_put : (es : List (MsgId × Message)) (m : Message) → IsKeyed es → IsKeyed (insert_entry number_eq es m.id m)
keyed_put [] m was = (refl, tt)
keyed_put (e ∷ es) m was = by_test (number_eq m.id e.0) refl (keyed_put es m was.1)
  where
    by_test : (b : Bool) → number_eq m.id e.0 ≡ b → IsKeyed (insert_entry number_eq es m.id m) → IsKeyed (insert_entry number_eq (e ∷ es) m.id m)
    by_test true is rest = rw is (grind (arith, nat_tests, is), was.1)
    by_test false is rest = rw is (was.0, rest)

pub values_put : (es : List (MsgId × Message)) (m : Message) → IsKeyed es → values_of (insert_entry number_eq es m.id m) ≡ put_in_bag (values_of es) m
values_put [] m was = refl
values_put (e ∷ es) m was = by_test (number_eq m.id e.0) refl (values_put es m was.1)
  where
    by_test : (b : Bool) → number_eq m.id e.0 ≡ b → values_of (insert_entry number_eq es m.id m) ≡ put_in_bag (values_of es) m → values_of (insert_entry number_eq (e ∷ es) m.id m) ≡ put_in_bag (values_of (e ∷ es)) m
    by_test true is rest = rw (is, sym (same_test m.id.0 e.0.0 e.1.id.0 was.0) ∙ is) refl
    by_test false is rest = rw (is, sym (same_test m.id.0 e.0.0 e.1.id.0 was.0) ∙ is) (ap (λ xs. e.1 ∷ xs) rest)

-- it is found there
pub found_by : (es : List (MsgId × Message)) (id : MsgId) → IsKeyed es → lookup (number_eq id) es ≡ find (λ m. m.id.0 == id.0) (values_of es)
found_by [] id was = refl
found_by (e ∷ es) id was = by_test (number_eq id e.0) refl (found_by es id was.1)
  where
    by_test : (b : Bool) → number_eq id e.0 ≡ b → lookup (number_eq id) es ≡ find (λ m. m.id.0 == id.0) (values_of es) → lookup (number_eq id) (e ∷ es) ≡ find (λ m. m.id.0 == id.0) (values_of (e ∷ es))
    by_test true is rest = rw (is, sym (same_test id.0 e.0.0 e.1.id.0 was.0) ∙ is) refl
    by_test false is rest = rw (is, sym (same_test id.0 e.0.0 e.1.id.0 was.0) ∙ is) rest

-- messages are put in turn
pub put_both : (bag ms ns : List Message) → put_all bag (ms ++ ns) ≡ put_all (put_all bag ms) ns
put_both bag [] ns = refl
put_both bag (m ∷ ms) ns = put_both (put_in_bag bag m) ms ns

pub put_more : (bag ms : List Message) (i : ℕ) (d : Message) → i < length ms → put_all bag (take (i + 1) ms) ≡ put_in_bag (put_all bag (take i ms)) (slice_index_or ms i d)
put_more bag ms i d lt = ap (put_all bag) (take_more ms i d lt) ∙ put_both bag (take i ms) (slice_index_or ms i d ∷ [])
