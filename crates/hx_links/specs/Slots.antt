-- What contracts see of the slots of a pool. No public clause cites this module.
use Rattle.std.specs.Prelude.{ℕ, List, Option, None, is_some, count_by, slice_index_or, refl}
use Rattle.std.specs.Coded.{Coded, code_by, coded×, coded_ℕ, coded_list, coded_option}
use Rattle.hx_links.specs.Pool.{node_code}
use Rattle.hx_links.specs.declared.Node.{Node}
use Rattle.hx_links.specs.declared.ListId.{ListId}
use Rattle.hx_links.specs.declared.slots.Link.{Link}

-- the link or nothing in each slot, and how many more links need no memory
pub record Slots (T : Type 0) : Type 0 where
  pub links : List (Option (Link T))
  pub spare : ℕ

abbrev pub list_id_code : Coded ListId
list_id_code = code_by ℕ coded_ℕ (λ l. l.0) (λ n. record { 0 = n }) (λ _. refl)

abbrev pub link_code : {T : Type 0} → Coded T → Coded (Link T)
link_code {T} code =
    code_by
    (ListId × (Option Node × (Option Node × T)))
    (coded× list_id_code (coded× (coded_option node_code) (coded× (coded_option node_code) code)))
    (λ k. (k.list, (k.prev, (k.next, k.value))))
    (λ p. record { list = p.0; prev = p.1.0; next = p.1.1.0; value = p.1.1.1 })
    (λ _. refl)

abbrev pub slots_code : {T : Type 0} → Coded T → Coded (Slots T)
slots_code {T} code =
    code_by
    (List (Option (Link T)) × ℕ)
    (coded× (coded_list (coded_option (link_code code))) coded_ℕ)
    (λ s. (s.links, s.spare))
    (λ p. record { links = p.0; spare = p.1 })
    (λ _. refl)

module _ {T : Type 0} where
  -- the link of a node
  abbrev pub link_at : List (Option (Link T)) → Node → Option (Link T)
  link_at links n = slice_index_or links n.0 None

  -- how many nodes have one
  abbrev pub held : List (Option (Link T)) → ℕ
  held links = count_by is_some links

  abbrev pub with_next : Option Node → Link T → Link T
  with_next n k = record k { next = n }

  abbrev pub with_prev : Option Node → Link T → Link T
  with_prev n k = record k { prev = n }

  abbrev pub with_value : T → Link T → Link T
  with_value v k = record k { value = v }
