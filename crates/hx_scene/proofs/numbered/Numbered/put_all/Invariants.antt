use Rattle.std.proofs.Common.{◌≡◌, ◌-◌, ◌≤◌, length, take}
use Rattle.hx_worlds.specs.Jobs.{put_all as all_put}
use Rattle.hx_scene.proofs.numbered.Numbered.put_all.Given as goal

abbrev pub invariant-loop-message : goal.invariant-loop-message
invariant-loop-message l = record {
  items : l.self.items ≡ all_put l.fn.self.items (take l.message-index l.messages);
  room : length l.messages - l.message-index ≤ l.self.spare;
}
