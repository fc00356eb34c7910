-- Entries of targets at their best.
use Rattle.hx_cluster.specs.declared.planning.Target.{Target}
use Rattle.hx_cluster.specs.declared.planning.Entry.{Entry}
use Rattle.hx_cluster.specs.declared.planning.Finding.TheVariants.{AtBest}

abbrev pub at_best : Target → Entry
at_best t = record { target = t; finding = AtBest }
