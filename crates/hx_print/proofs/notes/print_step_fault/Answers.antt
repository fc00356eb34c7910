use Rattle.hx_print.proofs.notes.print_step_fault.Goals as goal

pub returns-in-WrongMode : goal.returns-in-WrongMode
returns-in-WrongMode c = rw c.in-WrongMode.is c.print_short-in-WrongMode.ensures

pub returns-in-ResourceDropped : goal.returns-in-ResourceDropped
returns-in-ResourceDropped c = rw c.in-ResourceDropped.is c.print_short-in-ResourceDropped.ensures

pub returns-in-NameInUse : goal.returns-in-NameInUse
returns-in-NameInUse c = rw c.in-NameInUse.is c.print_with-in-NameInUse.ensures

pub returns-in-AlreadyLive : goal.returns-in-AlreadyLive
returns-in-AlreadyLive c = rw c.in-AlreadyLive.is c.print_with.ensures

pub returns-in-AlreadyAsked : goal.returns-in-AlreadyAsked
returns-in-AlreadyAsked c = rw c.in-AlreadyAsked.is c.print_short-in-AlreadyAsked.ensures

pub returns-in-AlreadySo : goal.returns-in-AlreadySo
returns-in-AlreadySo c = rw c.in-AlreadySo.is c.print_short-in-AlreadySo.ensures
