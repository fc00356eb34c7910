use Rattle.hx_print.proofs.notes.print_note.Goals as goal

pub returns-in-NoResource : goal.returns-in-NoResource
returns-in-NoResource c = rw c.in-NoResource.is c.print_short.ensures

pub returns-in-NotLeader : goal.returns-in-NotLeader
returns-in-NotLeader c = rw c.in-NotLeader.is (simp c.controller_or_dash.ensures at c.print_with.ensures)

pub returns-in-OutOfTurn : goal.returns-in-OutOfTurn
returns-in-OutOfTurn c = rw c.in-OutOfTurn.is (simp c.word_name.ensures at c.print_with-in-OutOfTurn.ensures)

pub returns-in-WrongFrom : goal.returns-in-WrongFrom
returns-in-WrongFrom c = rw c.in-WrongFrom.is (simp c.state_name.ensures at c.print_with-in-WrongFrom.ensures)
