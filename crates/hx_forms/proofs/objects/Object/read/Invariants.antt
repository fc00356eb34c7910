use Rattle.std.proofs.Common.{◌≡◌, map}
use Rattle.std.specs.List.{list_all}
use Rattle.serde_json.specs.View.{members_view}
use Rattle.hx_forms.specs.Found.{keys_of, is_among}
use Rattle.hx_forms.proofs.objects.Object.read.Given as goal

-- the keys that are left are all among the known ones where all keys are
abbrev pub invariant-loop-key : goal.invariant-loop-key
invariant-loop-key l =
    list_all (is_among (map (λ k. k.now) l.keys)) (keys_of (members_view l.key-iterator))
    ≡ list_all (is_among (map (λ k. k.now) l.keys)) (keys_of (members_view l.members.entries))
