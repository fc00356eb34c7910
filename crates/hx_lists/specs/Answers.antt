-- Refusals of calls.
use Rattle.std.specs.Prelude.{◌≡◌, ◌⊎◌, Option, None, Some, Result, MatchResult}
pub use Rattle.hx_lists.specs.Counts.{count_up, Rose}

-- a call is refused exactly where it says, and so
abbrev pub RefusedAs : {T E : Type 0} → Option E → Result T E → Type 0
RefusedAs refusal result = MatchResult result (λ _. refusal ≡ None) (λ e. refusal ≡ Some e)

-- the same, but for want of memory
abbrev pub RefusedBy : {T E : Type 0} → E → Option E → Result T E → Type 0
RefusedBy memory refusal result = MatchResult result (λ _. refusal ≡ None) (λ e. (e ≡ memory) ⊎ (refusal ≡ Some e))
