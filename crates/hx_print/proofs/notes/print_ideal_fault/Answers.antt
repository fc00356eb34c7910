use Rattle.hx_print.proofs.notes.print_ideal_fault.Goals as goal

pub returns-in-UnknownState : goal.returns-in-UnknownState
returns-in-UnknownState c = rw c.in-UnknownState.is c.print_with.ensures

pub returns-in-TwiceInList : goal.returns-in-TwiceInList
returns-in-TwiceInList c = rw c.in-TwiceInList.is c.print_with-in-TwiceInList.ensures
