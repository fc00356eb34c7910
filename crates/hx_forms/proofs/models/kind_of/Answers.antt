-- Each fault is the one of its arm.
use Rattle.std.proofs.Common.{refl}
use Rattle.hx_forms.proofs.models.kind_of.Goals as goal

pub returns-in-TooManyStates : goal.returns-in-TooManyStates
returns-in-TooManyStates c = rw c.in-TooManyStates.is refl

pub returns-in-Reserved : goal.returns-in-Reserved
returns-in-Reserved c = rw c.in-Reserved.is refl

pub returns-in-TwiceState : goal.returns-in-TwiceState
returns-in-TwiceState c = rw c.in-TwiceState.is refl

pub returns-in-ZeroBound : goal.returns-in-ZeroBound
returns-in-ZeroBound c = rw c.in-ZeroBound.is refl

pub returns-in-NoInitial : goal.returns-in-NoInitial
returns-in-NoInitial c = rw c.in-NoInitial.is refl

pub returns-in-InitialBounded : goal.returns-in-InitialBounded
returns-in-InitialBounded c = rw c.in-InitialBounded.is refl

pub returns-in-UnknownState : goal.returns-in-UnknownState
returns-in-UnknownState c = rw c.in-UnknownState.is refl

pub returns-in-SelfLoop : goal.returns-in-SelfLoop
returns-in-SelfLoop c = rw c.in-SelfLoop.is refl

pub returns-in-TwiceTransition : goal.returns-in-TwiceTransition
returns-in-TwiceTransition c = rw c.in-TwiceTransition.is refl

pub returns-in-NoDrop : goal.returns-in-NoDrop
returns-in-NoDrop c = rw c.in-NoDrop.is refl

pub returns-in-CantReach : goal.returns-in-CantReach
returns-in-CantReach c = rw c.in-CantReach.is refl

pub returns-in-CantLeave : goal.returns-in-CantLeave
returns-in-CantLeave c = rw c.in-CantLeave.is refl
