-- What a look-up past the end of a list gives in proofs: it is nowhere used.
use Rattle.std.specs.Prelude.{false}
use Rattle.hx_ids.specs.Words.{session, instance, part, state, message, epoch}
use Rattle.hx_cluster.specs.declared.planning.Candidate.{Candidate}
use Rattle.hx_cluster.specs.declared.state.Message.{Message}

abbrev pub no_candidate : Candidate
no_candidate = record { session = session 0; instance = instance 0; part = part 0 0; from = state 0; to = state 0; place = 0 }

abbrev pub no_message : Message
no_message = record {
  id = message 0;
  session = session 0;
  part = part 0 0;
  from = state 0;
  to = state 0;
  initial = state 0;
  epoch = epoch 0;
  taken = false;
  written = false;
}
