use Rattle.std.proofs.Common.{drop}
use Rattle.std.specs.List.{flat_map}
use Rattle.hx_text.specs.Texts.{piece_text}
use Rattle.hx_text.proofs.Printing.{IsMidway}
use Rattle.hx_text.proofs.pages.Page.push_all.Given as goal

-- what is printed and what is left are the whole
abbrev pub invariant-loop-piece : goal.invariant-loop-piece
invariant-loop-piece l = IsMidway (flat_map piece_text l.pieces) l.fn.self l.self (flat_map piece_text (drop l.piece-index l.pieces))
