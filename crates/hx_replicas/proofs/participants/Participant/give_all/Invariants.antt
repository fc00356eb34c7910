use Rattle.std.proofs.Common.{◌≡◌, ◌+◌, ◌-◌, ◌≤◌, length, take, vec_len, vec_capacity}
use Rattle.hx_replicas.specs.Ledger.{IsBalanced}
use Rattle.hx_replicas.specs.Participants.{given_all}
use Rattle.hx_replicas.specs.Batches.{AreGiven}
use Rattle.hx_replicas.proofs.participants.Participant.give_all.Given as goal

abbrev pub invariant-loop-message : goal.invariant-loop-message
invariant-loop-message g l = record {
  plain : l.self.plain ≡ given_all l.fn.self.plain (take l.message-index l.messages);
  given : AreGiven l.fn.self l.messages l.jobs.items;
  len : length l.jobs.items ≡ l.message-index;
  room : vec_len l.jobs + (length l.messages - l.message-index) ≤ vec_capacity l.jobs;
  rest : l.self ≡ record l.fn.self { plain = l.self.plain };
  ledger : IsBalanced l.self.made l.self.retired l.self.plain;
}
