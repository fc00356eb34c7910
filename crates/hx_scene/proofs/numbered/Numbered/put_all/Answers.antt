use Rattle.std.proofs.Common.{◌<◌, length, get_or, arith, sym, ap, ◌∙◌, false}
use Rattle.hx_cluster.specs.declared.state.Message.{Message}
use Rattle.hx_worlds.specs.Jobs.{put_in_bag}
use Rattle.hx_scene.proofs.Bags.{put_more}
use Rattle.hx_scene.proofs.numbered.Numbered.put_all.Goals as goal

first : Message
first = record { id = record { 0 = 0 }; session = record { 0 = 0 }; part = record { resource = record { 0 = 0 }; index = 0 }; from = record { 0 = 0 }; to = record { 0 = 0 }; initial = record { 0 = 0 }; epoch = record { 0 = 0 }; taken = false; written = false }

pub loop-message-preserved : goal.loop-message-preserved
unfolding first
loop-message-preserved c =
    let ms = c.args.messages.now in
    let i = c.loop-message.message-index in
    let lt : i < length ms = c.loop-message-test.true in
    record {
      items = c.put.ensures.items ∙ ap (λ b. put_in_bag b (get_or ms i first)) c.loop-message.invariant.items ∙ sym (put_more c.args.self.now.items ms i first lt);
      room = omega (arith, c.loop-message.invariant.room, c.put.ensures.spare, lt);
    }
