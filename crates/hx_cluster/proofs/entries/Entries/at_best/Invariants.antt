use Rattle.hx_cluster.proofs.entries.Entries.at_best.Given as goal

-- the targets that the caller picked
abbrev pub ghost-any : goal.ghost-any
ghost-any g a = g.targets
