-- A settled pass of two sessions, of which one waits, and a message that isn't on its way.
use Rattle.std.specs.Prelude.{◌≡◌, refl, [], ◌∷◌, false}
use Rattle.hx_ids.specs.Words.{instance, model, session, message, part}
use Rattle.hx_model.specs.Model.{dropped}
use Rattle.hx_ideal.specs.declared.Mode.{Mode}
use Rattle.hx_ideal.specs.declared.Mode.TheVariants as modes
use Rattle.hx_cluster.specs.declared.state.Cluster.{Cluster}
use Rattle.hx_cluster.specs.declared.happenings.Outcome.TheVariants as outcomes
use Rattle.hx_cluster.specs.Messages.{after_write}
use Rattle.hx_pass.specs.Plans.{plan}
use Rattle.hx_pass.specs.Explained.{view_at}
use Rattle.hx_pass.specs.Left.{left_of}
use Rattle.hx_settled.specs.Places.{tries_left}
use Rattle.hx_settled.specs.Ways.{IsOnItsWay}
use Rattle.hx_pass.proofs.Examples.{master, slave, offline}
use Rattle.hx_lawful.proofs.Examples.{models, db, at, under_way, cluster}

-- both instances of a map are to be master of the one part, or nobody is wanted
abbrev both_wanted : Mode
both_wanted = modes.Custom (((instance 0, master) ∷ (instance 1, master) ∷ []) ∷ [])

abbrev nobody_wanted : Mode
nobody_wanted = modes.Custom ([] ∷ [])

-- the first is master, and the second waits for that: settled, with one transition left
abbrev waiting : Cluster
waiting = cluster both_wanted (at 1 master ∷ at 2 slave ∷ []) []

nothing_sent : (plan models [] (view_at waiting)).proposals ≡ []
nothing_sent = refl

one_left : left_of waiting ≡ 1
one_left = refl

two_tries : tries_left waiting ≡ 2
two_tries = refl

-- on its way to OFFLINE is a slave that nobody wants: two transitions are left, and one once it is there
abbrev moving : Cluster
moving = cluster nobody_wanted (at 1 slave ∷ []) (under_way slave offline ∷ [])

on_its_way : IsOnItsWay moving (under_way slave offline)
on_its_way = record {
  resource = record { name = 0; model = model 0; ideal = record { replicas = 2; parts = 1; mode = nobody_wanted }; dropped = false };
  instance = instance 0;
  there = refl;
  shown = refl;
  away = refl;
  hop = record { session = session 1; instance = instance 0; part = db; from = slave; to = offline; place = 0 };
  next = refl;
  to = refl;
}

two_left : left_of moving ≡ 2
two_left = refl

one_less : left_of (after_write moving (session 1) (message 3) outcomes.Ok) ≡ 1
one_less = refl

-- a replica that isn't there and isn't wanted is at its goal already, so dropping it leaves no less
abbrev absent : Cluster
absent = cluster nobody_wanted [] (under_way offline dropped ∷ [])

none_left : left_of absent ≡ 0
none_left = refl

no_less : left_of (after_write absent (session 1) (message 3) outcomes.Ok) ≡ 0
no_less = refl
