use Rattle.std.proofs.Common.{Option, sym, subst}
use Rattle.std.proofs.lemmas.Result.{err_from_is_err_and}
use Rattle.hx_formed.specs.Formed.{Setting, IsFound}
use Rattle.hx_control.proofs.views.keep_of_board.Goals as goal

pub keep-requires : goal.keep-requires
keep-requires c = rw (c.as_slice.ensures, c.len-instances.ensures.len) c.requires.formed

pub returns-in_err-keep : goal.returns-in_err-keep
returns-in_err-keep c =
    let p = err_from_is_err_and c.from_residual.result c.from_residual.ensures.1 in
    rw p.1 (record { is = tt; found = λ was. subst (λ (o : Option Setting). IsFound o c.args.view.now) (sym c.in_err-keep.ensures.err) was })

pub is_of_board-requires : goal.is_of_board-requires
is_of_board-requires c = record { board = c.requires.board; formed = c.in_ok-keep.ensures.found }

pub returns : goal.returns
returns c = record { is = c.is_of_board.ensures.is; found = λ was. c.in_ok-keep.ensures.found }
