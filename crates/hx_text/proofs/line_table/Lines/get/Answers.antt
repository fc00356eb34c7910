use Rattle.std.proofs.Common.{List, ℕ, ◌∷◌, get_or, Some, sym, ap, ◌∙◌, subst, arith}
use Rattle.std.specs.List.{slice_get, slice_range}
use Rattle.std.specs.String.{string_bytes}
use Rattle.hx_text.proofs.LineTables.{IsLineAt, length_viewed, line_read, get_read}
use Rattle.hx_text.proofs.line_table.Lines.get.Goals as goal

pub start_of-start-requires : goal.start_of-start-requires
start_of-start-requires c = let e = length_viewed _ _ _ c.self.view_is in omega arith

pub index-end-requires : goal.index-end-requires
index-end-requires c = let e = length_viewed _ _ _ c.self.view_is in omega arith

pub range-requires : goal.range-requires
range-requires c =
    let e = length_viewed _ _ _ c.self.view_is in
    let start_is = c.start_of-start.ensures ∙ ap (λ ends. get_or (0 ∷ ends) c.args.place 0) c.as_slice.ensures.value in
    let h = line_read (string_bytes c.self.inside.text) _ c.args.place _ _ c.self.invariant.ends_in_order (omega arith) start_is c.index-end.ensures in
    let P : List ℕ → Type 0 = λ text. IsLineAt text c.start_of-start.result c.index-end.result.now in
    let k = subst P (sym c.as_str.ensures.value) h in
    record { start_le_end = k.ordered; start_boundary = k.starts; end_boundary = k.ends }

pub returns : goal.returns
returns c =
    let e = length_viewed _ _ _ c.self.view_is in
    let start_is = c.start_of-start.ensures ∙ ap (λ ends. get_or (0 ∷ ends) c.args.place 0) c.as_slice.ensures.value in
    let line_is = get_read (string_bytes c.self.inside.text) _ c.args.place _ _ (omega arith) start_is c.index-end.ensures in
    let result_is = c.range.ensures.value ∙ ap (λ text. slice_range text c.start_of-start.result c.index-end.result.now) c.as_str.ensures.value in
    ap (λ (lines : List (List ℕ)). slice_get lines c.args.place) (sym c.self.view_is) ∙ line_is ∙ ap (λ line. Some line) (sym result_is)
