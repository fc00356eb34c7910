-- The parts that a view shows, and those that are left of them.
use Rattle.std.proofs.Common.{◌≡◌, ℕ, suc, ◌+◌, ◌-◌, ◌<◌, ◌++◌, Bool, true, false, List, [], ◌∷◌, length, map, drop, get_or, sym, ap, ◌∙◌, append_assoc, arith}
use Rattle.std.specs.Prelude.{filter, cond}
use Rattle.std.proofs.lemmas.List.{at_drop_more}
use Rattle.hx_lists.specs.Lists.{numbers_from}
use Rattle.hx_ids.specs.declared.PartId.{PartId}
use Rattle.hx_cluster.specs.declared.description.Resource.{Resource}
use Rattle.hx_cluster.specs.declared.state.Cluster.{Cluster}
use Rattle.hx_cluster.specs.declared.happenings.Seen.{Seen}
use Rattle.hx_print.specs.Texts.{is_viewed, parts_at, viewed_from}
use Rattle.hx_sim.specs.Viewing.{is_shown_by, IsViewOf}
use Rattle.hx_sim.proofs.Holding.{all_shown_as}

-- the parts of a resource from an index on, those that are shown
abbrev pub part_of : ℕ → ℕ → PartId
part_of resource index = record { resource = record { 0 = resource }; index = index }

abbrev pub viewed_on : (PartId → Bool) → ℕ → ℕ → ℕ → List PartId
viewed_on shows resource index parts = filter shows (map (part_of resource) (numbers_from index (parts - index)))

one_more : (index parts : ℕ) → index < parts → parts - index ≡ suc (parts - (index + 1))
one_more index parts less = omega arith

on_more : (shows : PartId → Bool) (resource index parts : ℕ) → index < parts
    → viewed_on shows resource index parts
    ≡ cond (shows (part_of resource index)) (part_of resource index ∷ viewed_on shows resource (index + 1) parts) (viewed_on shows resource (index + 1) parts)
on_more shows resource index parts less =
    ap (λ (n : ℕ). filter shows (map (part_of resource) (numbers_from index n))) (one_more index parts less)

-- one that is shown is added; another is passed over
pub adds : (shows : PartId → Bool) (resource index parts : ℕ) (ps whole : List PartId) → index < parts → shows (part_of resource index) ≡ true
    → ps ++ viewed_on shows resource index parts ≡ whole → (ps ++ part_of resource index ∷ []) ++ viewed_on shows resource (index + 1) parts ≡ whole
adds shows resource index parts ps whole less is e =
    let rest = viewed_on shows resource (index + 1) parts in
    append_assoc ps (part_of resource index ∷ []) rest
    ∙ ap (λ (qs : List PartId). ps ++ qs) (sym (on_more shows resource index parts less ∙ ap (λ (b : Bool). cond b (part_of resource index ∷ rest) rest) is))
    ∙ e

pub passes : (shows : PartId → Bool) (resource index parts : ℕ) (ps whole : List PartId) → index < parts → shows (part_of resource index) ≡ false
    → ps ++ viewed_on shows resource index parts ≡ whole → ps ++ viewed_on shows resource (index + 1) parts ≡ whole
passes shows resource index parts ps whole less is e =
    let rest = viewed_on shows resource (index + 1) parts in
    ap (λ (qs : List PartId). ps ++ qs) (sym (on_more shows resource index parts less ∙ ap (λ (b : Bool). cond b (part_of resource index ∷ rest) rest) is))
    ∙ e

-- the resources from a place on, where rows tell what is shown
pub views_more : (rows : List Seen) (c : Cluster) → IsViewOf rows c → (n : ℕ) (x : Resource) (ps qs whole : List PartId) → n < length c.resources → x ≡ get_or c.resources n x
    → qs ≡ ps ++ filter (is_shown_by rows x.dropped) (parts_at n x.ideal.parts) → ps ++ viewed_from c n (drop n c.resources) ≡ whole → qs ++ viewed_from c (n + 1) (drop (n + 1) c.resources) ≡ whole
views_more rows c view n x ps qs whole less is added e =
    let own = λ (r : Resource). filter (is_viewed c r.dropped) (parts_at n r.ideal.parts) in
    let rest = viewed_from c (n + 1) (drop (n + 1) c.resources) in
    ap (λ (zs : List PartId). zs ++ rest) (added ∙ ap (λ (zs : List PartId). ps ++ zs) (all_shown_as c rows view x.dropped (parts_at n x.ideal.parts)))
    ∙ append_assoc ps (own x) rest
    ∙ ap (λ (r : Resource). ps ++ (own r ++ rest)) is
    ∙ ap (λ (zs : List PartId). ps ++ zs) (sym (at_drop_more (viewed_from c n) c.resources n x less))
    ∙ e
