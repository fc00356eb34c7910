use Rattle.std.proofs.Common.{rules, tests, List, ℕ, Bor, sym, ◌∙◌}
use Rattle.std.proofs.lemmas.Iterator.{YieldsList-from_slice}
use Rattle.std.proofs.lemmas.Iterator.Search.{any_from_yields_List}
use Rattle.std.specs.Str.{bytes_eq}
use Rattle.hx_ids.proofs.Places.{any-map}
use Rattle.hx_forms.proofs.objects.is_among.Goals as goal

pub returns : goal.returns
returns c =
    any_from_yields_List (λ (k : Bor (List ℕ)). bytes_eq c.args.key.now k.now) _ _ c.any.result c.any.ensures.ran (YieldsList-from_slice c.args.keys.now cc) (λ x b q k. search (rules, tests))
    ∙ sym (any-map (bytes_eq c.args.key.now) (λ (k : Bor (List ℕ)). k.now) c.args.keys.now)
