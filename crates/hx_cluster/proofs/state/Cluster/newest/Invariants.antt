use Rattle.std.proofs.Common.{◌≡◌, drop}
use Rattle.hx_cluster.specs.Steps.{newest, newest_from}
use Rattle.hx_cluster.proofs.Newest.{later_or}
use Rattle.hx_cluster.proofs.state.Cluster.newest.Given as goal

-- what was found, unless a later one is newer, is the newest
abbrev pub invariant-loop-place : goal.invariant-loop-place
invariant-loop-place l = later_or (newest_from l.place (drop l.place l.self.resources) l.name) l.found ≡ newest l.self l.name
