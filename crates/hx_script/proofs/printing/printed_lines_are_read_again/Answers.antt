use Rattle.hx_script.proofs.LinesAgain.{lines_asked}
use Rattle.hx_script.proofs.NamesKept.{names_kept}
use Rattle.hx_script.proofs.TextsAgain.{text_again}
use Rattle.hx_script.proofs.printing.printed_lines_are_read_again.Goals as goal

pub returns-clause-asked : goal.returns-clause-asked
returns-clause-asked c = λ lines spec after script e. lines_asked lines 1 spec script after e

pub returns-clause-named : goal.returns-clause-named
returns-clause-named c = λ lines spec after script e named. names_kept lines 1 spec script after e named

pub returns-clause-again : goal.returns-clause-again
returns-clause-again c = text_again
