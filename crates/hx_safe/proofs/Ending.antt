-- What the end of one session keeps, the ends of several keep.
use Rattle.std.proofs.Common.{List, [], ◌∷◌, Option, Some, None}
use Rattle.hx_ids.specs.declared.SessionId.{SessionId}
use Rattle.hx_ids.specs.declared.Live.{Live}
use Rattle.hx_cluster.specs.declared.state.Cluster.{Cluster}
use Rattle.hx_cluster.specs.Steps.{without, without_all, ended_of}

-- one after the other
pub along_without_all : (P : Cluster → Type 0) → ((c : Cluster) (s : SessionId) → P c → P (without c s)) → (c : Cluster) (ss : List SessionId) → P c → P (without_all c ss)
along_without_all P each c [] here = here
along_without_all P each c (s ∷ ss) here = along_without_all P each (without c s) ss (each c s here)

-- and that of an instance's session, if it has one
pub along_end : (P : Cluster → Type 0) → ((c : Cluster) (s : SessionId) → P c → P (without c s)) → (c : Cluster) (o : Option Live) → P c → P (ended_of c o)
along_end P each c None here = here
along_end P each c (Some l) here = each c l.session here
