use Rattle.std.proofs.Common.{◌≡◌, ℕ, true, List, length, [], sym, ap, ◌∙◌, subst, arith}
use Rattle.std.specs.List.{list_all}
use Rattle.hx_cluster.specs.declared.description.Spec.{Spec}
use Rattle.hx_cluster.specs.declared.state.Cluster.{Cluster}
use Rattle.hx_cluster.specs.declared.happenings.Event.{Event}
use Rattle.hx_cluster.specs.Steps.{opening}
use Rattle.hx_cluster.specs.Events.{replay, is_later, IsLegal}
use Rattle.hx_cluster.specs.Weight.{weight_of_all, owed_of}
use Rattle.hx_cluster.specs.Valid.{IsValid}
use Rattle.hx_board.specs.Board.{lines_in}
use Rattle.hx_board.proofs.Growing.{all-later}
use Rattle.hx_board.proofs.board.Board.new.Goals as goal

pub invariant_of-result : goal.invariant_of-result
invariant_of-result c =
    let spec = c.in_ok-spec.spec in
    let same : spec ≡ c.args.spec.now = c.in_ok-spec.ensures in
    let opens : c.in_ok-records.records ≡ opening c.args.spec.now = c.in_ok-records.ensures in
    let past : c.new.result.items ≡ [] = c.new.ensures.items in
    let none : lines_in c.new.result.items ≡ [] = ap lines_in past in
    record {
      valid = subst (λ (s : Spec). IsValid s) (sym same) c.requires.valid;
      legal = subst (λ (es : List Event). IsLegal (opening spec) es) (sym past) tt;
      replays = ap (λ (es : List Event). replay (opening spec) es) past ∙ ap opening same ∙ sym opens;
      taken = ap (λ (ns : List ℕ). length ns) none;
      front = none;
      later = subst (λ (d : Cluster). list_all (is_later d.line) c.args.lines.items ≡ true) (sym opens) (all-later c.args.lines.items);
      rising = c.requires.lines;
      weighs = omega (arith, ap weight_of_all past);
      within = omega arith;
      limited = c.requires.limit;
      owed = omega (arith, ap owed_of opens);
      few = omega arith;
      room = omega arith;
    }
