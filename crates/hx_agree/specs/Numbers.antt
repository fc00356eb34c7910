-- To how many sessions and messages an event gave numbers.
use Rattle.std.specs.Prelude.{ℕ}
use Rattle.hx_cluster.specs.declared.happenings.Event.{Event}
use Rattle.hx_worlds.specs.Summaries.{joined_in, sent_in}
use Rattle.hx_agree.specs.declared.numbers.Numbered.{Numbered}
use Rattle.hx_agree.specs.declared.numbers.Numbered.TheVariants as numbered

abbrev pub given_in : Numbered → Event → ℕ
given_in numbered.Session = joined_in
given_in numbered.Message = sent_in
