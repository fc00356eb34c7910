use Rattle.hx_check.proofs.Nexts.{next_is, is_next, none_next, one_next}
use Rattle.hx_check.proofs.laws.next_events_keep_histories_lawful.Goals as goal

pub returns-clause-next : goal.returns-clause-next
returns-clause-next c = λ spec h l e valid lawful is. next_is spec h valid lawful l e is

pub returns-clause-only : goal.returns-clause-only
returns-clause-only c = λ spec h l e valid lawful is. is_next spec h valid lawful l e is

pub returns-clause-one : goal.returns-clause-one
returns-clause-one c = λ spec h l e other valid lawful is too. one_next spec h valid lawful l e other is too

pub returns-clause-none : goal.returns-clause-none
returns-clause-none c = λ spec h l is. none_next spec h l is
