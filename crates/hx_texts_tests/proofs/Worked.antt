-- What the definitions make of the descriptions of worked cases, over what most of them have. The JSON values are written by tools/described.py.
use Rattle.std.specs.Prelude.{◌≡◌, ℕ, false, List, [], ◌∷◌, None, Ok, Err, codes}
use Rattle.std.specs.Fmt.{digits}
use Rattle.std.proofs.Common.{refl}
use Rattle.serde_json.specs.Data.{Data, number, string, array, object, unsigned, Members, no_members, member}
use Rattle.serde_json.specs.View.{items_of}
use Rattle.hx_model.specs.declared.Bound.TheVariants as bounds
use Rattle.hx_ideal.specs.declared.Mode.TheVariants as modes
use Rattle.hx_cluster.specs.declared.description.Spec.{Spec}
use Rattle.hx_cluster.specs.declared.description.Scope.TheVariants as scopes
use Rattle.hx_forms.specs.declared.faults.DescKind.TheVariants as kinds
use Rattle.hx_forms.specs.Found.{within}
use Rattle.hx_desc.specs.Description.{described}

abbrev members_from : List (List ℕ × Data) → Members
members_from [] = no_members
members_from (m ∷ ms) = member m.0 m.1 (members_from ms)

-- three instances, two controllers, the name of one resource, and the built-in models
abbrev plain : Spec
plain = record {
  instances = codes "n1" ∷ codes "n2" ∷ codes "n3" ∷ [];
  states = codes "ERROR" ∷ codes "DROPPED" ∷ codes "MASTER" ∷ codes "SLAVE" ∷ codes "OFFLINE" ∷ codes "ONLINE" ∷ codes "LEADER" ∷ codes "STANDBY" ∷ [];
  model_names = codes "MasterSlave" ∷ codes "OnlineOffline" ∷ codes "LeaderStandby" ∷ [];
  models = ((record { states = (((record { 0 = 2 }), (bounds.Count 1)) ∷ ((record { 0 = 3 }), bounds.Replicas) ∷ ((record { 0 = 4 }), bounds.Free) ∷ []); initial = (record { 0 = 4 }); transitions = (((record { 0 = 2 }), (record { 0 = 3 })) ∷ ((record { 0 = 3 }), (record { 0 = 2 })) ∷ ((record { 0 = 4 }), (record { 0 = 3 })) ∷ ((record { 0 = 3 }), (record { 0 = 4 })) ∷ ((record { 0 = 4 }), (record { 0 = 1 })) ∷ []) }) ∷ (record { states = (((record { 0 = 5 }), bounds.Replicas) ∷ ((record { 0 = 4 }), bounds.Free) ∷ []); initial = (record { 0 = 4 }); transitions = (((record { 0 = 4 }), (record { 0 = 5 })) ∷ ((record { 0 = 5 }), (record { 0 = 4 })) ∷ ((record { 0 = 4 }), (record { 0 = 1 })) ∷ []) }) ∷ (record { states = (((record { 0 = 6 }), (bounds.Count 1)) ∷ ((record { 0 = 7 }), bounds.Replicas) ∷ ((record { 0 = 4 }), bounds.Free) ∷ []); initial = (record { 0 = 4 }); transitions = (((record { 0 = 6 }), (record { 0 = 7 })) ∷ ((record { 0 = 7 }), (record { 0 = 6 })) ∷ ((record { 0 = 4 }), (record { 0 = 7 })) ∷ ((record { 0 = 7 }), (record { 0 = 4 })) ∷ ((record { 0 = 4 }), (record { 0 = 1 })) ∷ []) }) ∷ []);
  controllers = 2;
  timeout = 30;
  rules = [];
  resource_names = codes "db" ∷ [];
  resources = [];
  failures = [];
}

pub failure : within (codes "$") (described (object (members_from (((codes "controllers"), (number (unsigned 2))) ∷ ((codes "failures"), (array (items_of ((object (members_from (((codes "instance"), (string (codes "n1"))) ∷ ((codes "part"), (number (unsigned 0))) ∷ ((codes "resource"), (string (codes "db"))) ∷ ((codes "run"), (number (unsigned 2))) ∷ []))) ∷ [])))) ∷ ((codes "instances"), (array (items_of ((string (codes "n1")) ∷ (string (codes "n2")) ∷ (string (codes "n3")) ∷ [])))) ∷ ((codes "resources"), (array (items_of ((object (members_from (((codes "lists"), (array (items_of ((array (items_of ((string (codes "n1")) ∷ (string (codes "n2")) ∷ (string (codes "n3")) ∷ []))) ∷ [])))) ∷ ((codes "mode"), (string (codes "SEMI_AUTO"))) ∷ ((codes "model"), (string (codes "MasterSlave"))) ∷ ((codes "name"), (string (codes "db"))) ∷ ((codes "partitions"), (number (unsigned 1))) ∷ ((codes "replicas"), (number (unsigned 3))) ∷ []))) ∷ [])))) ∷ ((codes "timeout"), (number (unsigned 30))) ∷ ((codes "version"), (number (unsigned 1))) ∷ []))))
    ≡ Ok (record plain {
      resources = ((record { name = 0; model = (record { 0 = 0 }); ideal = (record { replicas = 3; parts = 1; mode = (modes.Semi (((record { 0 = 0 }) ∷ (record { 0 = 1 }) ∷ (record { 0 = 2 }) ∷ []) ∷ [])) }); dropped = false }) ∷ []);
      failures = ((record { instance = (record { 0 = 0 }); part = (record { resource = (record { 0 = 0 }); index = 0 }); make = false; number = 2 }) ∷ []);
    })
unfolding digits
failure = refl

pub swap : within (codes "$") (described (object (members_from (((codes "controllers"), (number (unsigned 2))) ∷ ((codes "instances"), (array (items_of ((string (codes "n1")) ∷ (string (codes "n2")) ∷ (string (codes "n3")) ∷ [])))) ∷ ((codes "models"), (array (items_of ((object (members_from (((codes "initial"), (string (codes "OFFLINE"))) ∷ ((codes "name"), (string (codes "Swap"))) ∷ ((codes "states"), (array (items_of ((object (members_from (((codes "bound"), (string (codes "1"))) ∷ ((codes "name"), (string (codes "P"))) ∷ []))) ∷ (object (members_from (((codes "bound"), (string (codes "2"))) ∷ ((codes "name"), (string (codes "Q"))) ∷ []))) ∷ (object (members_from (((codes "bound"), (string (codes "-1"))) ∷ ((codes "name"), (string (codes "OFFLINE"))) ∷ []))) ∷ [])))) ∷ ((codes "transitions"), (array (items_of ((string (codes "OFFLINE>Q")) ∷ (string (codes "Q>P")) ∷ (string (codes "P>Q")) ∷ (string (codes "Q>OFFLINE")) ∷ (string (codes "OFFLINE>DROPPED")) ∷ [])))) ∷ []))) ∷ [])))) ∷ ((codes "resources"), (array (items_of ((object (members_from (((codes "lists"), (array (items_of ((array (items_of ((string (codes "n1")) ∷ (string (codes "n2")) ∷ (string (codes "n3")) ∷ []))) ∷ [])))) ∷ ((codes "mode"), (string (codes "SEMI_AUTO"))) ∷ ((codes "model"), (string (codes "Swap"))) ∷ ((codes "name"), (string (codes "db"))) ∷ ((codes "partitions"), (number (unsigned 1))) ∷ ((codes "replicas"), (number (unsigned 3))) ∷ []))) ∷ [])))) ∷ ((codes "timeout"), (number (unsigned 30))) ∷ ((codes "version"), (number (unsigned 1))) ∷ []))))
    ≡ Ok (record plain {
      states = (codes "ERROR" ∷ codes "DROPPED" ∷ codes "MASTER" ∷ codes "SLAVE" ∷ codes "OFFLINE" ∷ codes "ONLINE" ∷ codes "LEADER" ∷ codes "STANDBY" ∷ codes "P" ∷ codes "Q" ∷ []);
      model_names = (codes "MasterSlave" ∷ codes "OnlineOffline" ∷ codes "LeaderStandby" ∷ codes "Swap" ∷ []);
      models = ((record { states = (((record { 0 = 2 }), (bounds.Count 1)) ∷ ((record { 0 = 3 }), bounds.Replicas) ∷ ((record { 0 = 4 }), bounds.Free) ∷ []); initial = (record { 0 = 4 }); transitions = (((record { 0 = 2 }), (record { 0 = 3 })) ∷ ((record { 0 = 3 }), (record { 0 = 2 })) ∷ ((record { 0 = 4 }), (record { 0 = 3 })) ∷ ((record { 0 = 3 }), (record { 0 = 4 })) ∷ ((record { 0 = 4 }), (record { 0 = 1 })) ∷ []) }) ∷ (record { states = (((record { 0 = 5 }), bounds.Replicas) ∷ ((record { 0 = 4 }), bounds.Free) ∷ []); initial = (record { 0 = 4 }); transitions = (((record { 0 = 4 }), (record { 0 = 5 })) ∷ ((record { 0 = 5 }), (record { 0 = 4 })) ∷ ((record { 0 = 4 }), (record { 0 = 1 })) ∷ []) }) ∷ (record { states = (((record { 0 = 6 }), (bounds.Count 1)) ∷ ((record { 0 = 7 }), bounds.Replicas) ∷ ((record { 0 = 4 }), bounds.Free) ∷ []); initial = (record { 0 = 4 }); transitions = (((record { 0 = 6 }), (record { 0 = 7 })) ∷ ((record { 0 = 7 }), (record { 0 = 6 })) ∷ ((record { 0 = 4 }), (record { 0 = 7 })) ∷ ((record { 0 = 7 }), (record { 0 = 4 })) ∷ ((record { 0 = 4 }), (record { 0 = 1 })) ∷ []) }) ∷ (record { states = (((record { 0 = 8 }), (bounds.Count 1)) ∷ ((record { 0 = 9 }), (bounds.Count 2)) ∷ ((record { 0 = 4 }), bounds.Free) ∷ []); initial = (record { 0 = 4 }); transitions = (((record { 0 = 4 }), (record { 0 = 9 })) ∷ ((record { 0 = 9 }), (record { 0 = 8 })) ∷ ((record { 0 = 8 }), (record { 0 = 9 })) ∷ ((record { 0 = 9 }), (record { 0 = 4 })) ∷ ((record { 0 = 4 }), (record { 0 = 1 })) ∷ []) }) ∷ []);
      resources = ((record { name = 0; model = (record { 0 = 3 }); ideal = (record { replicas = 3; parts = 1; mode = (modes.Semi (((record { 0 = 0 }) ∷ (record { 0 = 1 }) ∷ (record { 0 = 2 }) ∷ []) ∷ [])) }); dropped = false }) ∷ []);
    })
unfolding digits
swap = refl

pub two_masters : within (codes "$") (described (object (members_from (((codes "controllers"), (number (unsigned 2))) ∷ ((codes "instances"), (array (items_of ((string (codes "n1")) ∷ (string (codes "n2")) ∷ (string (codes "n3")) ∷ [])))) ∷ ((codes "resources"), (array (items_of ((object (members_from (((codes "maps"), (array (items_of ((array (items_of ((object (members_from (((codes "instance"), (string (codes "n1"))) ∷ ((codes "state"), (string (codes "MASTER"))) ∷ []))) ∷ (object (members_from (((codes "instance"), (string (codes "n2"))) ∷ ((codes "state"), (string (codes "MASTER"))) ∷ []))) ∷ []))) ∷ [])))) ∷ ((codes "mode"), (string (codes "CUSTOMIZED"))) ∷ ((codes "model"), (string (codes "MasterSlave"))) ∷ ((codes "name"), (string (codes "db"))) ∷ ((codes "partitions"), (number (unsigned 1))) ∷ ((codes "replicas"), (number (unsigned 2))) ∷ []))) ∷ [])))) ∷ ((codes "timeout"), (number (unsigned 30))) ∷ ((codes "version"), (number (unsigned 1))) ∷ []))))
    ≡ Ok (record plain {
      resources = ((record { name = 0; model = (record { 0 = 0 }); ideal = (record { replicas = 2; parts = 1; mode = (modes.Custom ((((record { 0 = 0 }), (record { 0 = 2 })) ∷ ((record { 0 = 1 }), (record { 0 = 2 })) ∷ []) ∷ [])) }); dropped = false }) ∷ []);
    })
unfolding digits
two_masters = refl

pub throttle : within (codes "$") (described (object (members_from (((codes "controllers"), (number (unsigned 2))) ∷ ((codes "instances"), (array (items_of ((string (codes "n1")) ∷ (string (codes "n2")) ∷ (string (codes "n3")) ∷ [])))) ∷ ((codes "resources"), (array (items_of ((object (members_from (((codes "lists"), (array (items_of ((array (items_of ((string (codes "n1")) ∷ []))) ∷ (array (items_of ((string (codes "n1")) ∷ []))) ∷ (array (items_of ((string (codes "n1")) ∷ []))) ∷ (array (items_of ((string (codes "n1")) ∷ []))) ∷ (array (items_of ((string (codes "n1")) ∷ []))) ∷ (array (items_of ((string (codes "n1")) ∷ []))) ∷ (array (items_of ((string (codes "n1")) ∷ []))) ∷ (array (items_of ((string (codes "n1")) ∷ []))) ∷ [])))) ∷ ((codes "mode"), (string (codes "SEMI_AUTO"))) ∷ ((codes "model"), (string (codes "OnlineOffline"))) ∷ ((codes "name"), (string (codes "db"))) ∷ ((codes "partitions"), (number (unsigned 8))) ∷ ((codes "replicas"), (number (unsigned 1))) ∷ []))) ∷ [])))) ∷ ((codes "throttles"), (array (items_of ((object (members_from (((codes "limit"), (number (unsigned 1))) ∷ ((codes "scope"), (string (codes "instance"))) ∷ []))) ∷ [])))) ∷ ((codes "timeout"), (number (unsigned 30))) ∷ ((codes "version"), (number (unsigned 1))) ∷ []))))
    ≡ Ok (record plain {
      rules = ((record { scope = scopes.Instance; transition = None; limit = 1 }) ∷ []);
      resources = ((record { name = 0; model = (record { 0 = 1 }); ideal = (record { replicas = 1; parts = 8; mode = (modes.Semi (((record { 0 = 0 }) ∷ []) ∷ ((record { 0 = 0 }) ∷ []) ∷ ((record { 0 = 0 }) ∷ []) ∷ ((record { 0 = 0 }) ∷ []) ∷ ((record { 0 = 0 }) ∷ []) ∷ ((record { 0 = 0 }) ∷ []) ∷ ((record { 0 = 0 }) ∷ []) ∷ ((record { 0 = 0 }) ∷ []) ∷ [])) }); dropped = false }) ∷ []);
    })
unfolding digits
throttle = refl

pub three_resources : within (codes "$") (described (object (members_from (((codes "instances"), (array (items_of ((string (codes "i00")) ∷ (string (codes "i01")) ∷ (string (codes "i02")) ∷ (string (codes "i03")) ∷ (string (codes "i04")) ∷ (string (codes "i05")) ∷ (string (codes "i06")) ∷ (string (codes "i07")) ∷ (string (codes "i08")) ∷ (string (codes "i09")) ∷ (string (codes "i10")) ∷ (string (codes "i11")) ∷ [])))) ∷ ((codes "resources"), (array (items_of ((object (members_from (((codes "lists"), (array (items_of ((array (items_of ((string (codes "i00")) ∷ (string (codes "i01")) ∷ (string (codes "i02")) ∷ (string (codes "i03")) ∷ []))) ∷ (array (items_of ((string (codes "i01")) ∷ (string (codes "i02")) ∷ (string (codes "i03")) ∷ (string (codes "i04")) ∷ []))) ∷ (array (items_of ((string (codes "i02")) ∷ (string (codes "i03")) ∷ (string (codes "i04")) ∷ (string (codes "i05")) ∷ []))) ∷ (array (items_of ((string (codes "i03")) ∷ (string (codes "i04")) ∷ (string (codes "i05")) ∷ (string (codes "i06")) ∷ []))) ∷ (array (items_of ((string (codes "i04")) ∷ (string (codes "i05")) ∷ (string (codes "i06")) ∷ (string (codes "i07")) ∷ []))) ∷ (array (items_of ((string (codes "i05")) ∷ (string (codes "i06")) ∷ (string (codes "i07")) ∷ (string (codes "i08")) ∷ []))) ∷ (array (items_of ((string (codes "i06")) ∷ (string (codes "i07")) ∷ (string (codes "i08")) ∷ (string (codes "i09")) ∷ []))) ∷ (array (items_of ((string (codes "i07")) ∷ (string (codes "i08")) ∷ (string (codes "i09")) ∷ (string (codes "i10")) ∷ []))) ∷ (array (items_of ((string (codes "i08")) ∷ (string (codes "i09")) ∷ (string (codes "i10")) ∷ (string (codes "i11")) ∷ []))) ∷ (array (items_of ((string (codes "i09")) ∷ (string (codes "i10")) ∷ (string (codes "i11")) ∷ (string (codes "i00")) ∷ []))) ∷ (array (items_of ((string (codes "i10")) ∷ (string (codes "i11")) ∷ (string (codes "i00")) ∷ (string (codes "i01")) ∷ []))) ∷ (array (items_of ((string (codes "i11")) ∷ (string (codes "i00")) ∷ (string (codes "i01")) ∷ (string (codes "i02")) ∷ []))) ∷ (array (items_of ((string (codes "i00")) ∷ (string (codes "i01")) ∷ (string (codes "i02")) ∷ (string (codes "i03")) ∷ []))) ∷ (array (items_of ((string (codes "i01")) ∷ (string (codes "i02")) ∷ (string (codes "i03")) ∷ (string (codes "i04")) ∷ []))) ∷ (array (items_of ((string (codes "i02")) ∷ (string (codes "i03")) ∷ (string (codes "i04")) ∷ (string (codes "i05")) ∷ []))) ∷ (array (items_of ((string (codes "i03")) ∷ (string (codes "i04")) ∷ (string (codes "i05")) ∷ (string (codes "i06")) ∷ []))) ∷ (array (items_of ((string (codes "i04")) ∷ (string (codes "i05")) ∷ (string (codes "i06")) ∷ (string (codes "i07")) ∷ []))) ∷ (array (items_of ((string (codes "i05")) ∷ (string (codes "i06")) ∷ (string (codes "i07")) ∷ (string (codes "i08")) ∷ []))) ∷ (array (items_of ((string (codes "i06")) ∷ (string (codes "i07")) ∷ (string (codes "i08")) ∷ (string (codes "i09")) ∷ []))) ∷ (array (items_of ((string (codes "i07")) ∷ (string (codes "i08")) ∷ (string (codes "i09")) ∷ (string (codes "i10")) ∷ []))) ∷ (array (items_of ((string (codes "i08")) ∷ (string (codes "i09")) ∷ (string (codes "i10")) ∷ (string (codes "i11")) ∷ []))) ∷ (array (items_of ((string (codes "i09")) ∷ (string (codes "i10")) ∷ (string (codes "i11")) ∷ (string (codes "i00")) ∷ []))) ∷ (array (items_of ((string (codes "i10")) ∷ (string (codes "i11")) ∷ (string (codes "i00")) ∷ (string (codes "i01")) ∷ []))) ∷ (array (items_of ((string (codes "i11")) ∷ (string (codes "i00")) ∷ (string (codes "i01")) ∷ (string (codes "i02")) ∷ []))) ∷ (array (items_of ((string (codes "i00")) ∷ (string (codes "i01")) ∷ (string (codes "i02")) ∷ (string (codes "i03")) ∷ []))) ∷ (array (items_of ((string (codes "i01")) ∷ (string (codes "i02")) ∷ (string (codes "i03")) ∷ (string (codes "i04")) ∷ []))) ∷ (array (items_of ((string (codes "i02")) ∷ (string (codes "i03")) ∷ (string (codes "i04")) ∷ (string (codes "i05")) ∷ []))) ∷ (array (items_of ((string (codes "i03")) ∷ (string (codes "i04")) ∷ (string (codes "i05")) ∷ (string (codes "i06")) ∷ []))) ∷ (array (items_of ((string (codes "i04")) ∷ (string (codes "i05")) ∷ (string (codes "i06")) ∷ (string (codes "i07")) ∷ []))) ∷ (array (items_of ((string (codes "i05")) ∷ (string (codes "i06")) ∷ (string (codes "i07")) ∷ (string (codes "i08")) ∷ []))) ∷ (array (items_of ((string (codes "i06")) ∷ (string (codes "i07")) ∷ (string (codes "i08")) ∷ (string (codes "i09")) ∷ []))) ∷ (array (items_of ((string (codes "i07")) ∷ (string (codes "i08")) ∷ (string (codes "i09")) ∷ (string (codes "i10")) ∷ []))) ∷ (array (items_of ((string (codes "i08")) ∷ (string (codes "i09")) ∷ (string (codes "i10")) ∷ (string (codes "i11")) ∷ []))) ∷ (array (items_of ((string (codes "i09")) ∷ (string (codes "i10")) ∷ (string (codes "i11")) ∷ (string (codes "i00")) ∷ []))) ∷ (array (items_of ((string (codes "i10")) ∷ (string (codes "i11")) ∷ (string (codes "i00")) ∷ (string (codes "i01")) ∷ []))) ∷ (array (items_of ((string (codes "i11")) ∷ (string (codes "i00")) ∷ (string (codes "i01")) ∷ (string (codes "i02")) ∷ []))) ∷ (array (items_of ((string (codes "i00")) ∷ (string (codes "i01")) ∷ (string (codes "i02")) ∷ (string (codes "i03")) ∷ []))) ∷ (array (items_of ((string (codes "i01")) ∷ (string (codes "i02")) ∷ (string (codes "i03")) ∷ (string (codes "i04")) ∷ []))) ∷ (array (items_of ((string (codes "i02")) ∷ (string (codes "i03")) ∷ (string (codes "i04")) ∷ (string (codes "i05")) ∷ []))) ∷ (array (items_of ((string (codes "i03")) ∷ (string (codes "i04")) ∷ (string (codes "i05")) ∷ (string (codes "i06")) ∷ []))) ∷ (array (items_of ((string (codes "i04")) ∷ (string (codes "i05")) ∷ (string (codes "i06")) ∷ (string (codes "i07")) ∷ []))) ∷ (array (items_of ((string (codes "i05")) ∷ (string (codes "i06")) ∷ (string (codes "i07")) ∷ (string (codes "i08")) ∷ []))) ∷ (array (items_of ((string (codes "i06")) ∷ (string (codes "i07")) ∷ (string (codes "i08")) ∷ (string (codes "i09")) ∷ []))) ∷ (array (items_of ((string (codes "i07")) ∷ (string (codes "i08")) ∷ (string (codes "i09")) ∷ (string (codes "i10")) ∷ []))) ∷ (array (items_of ((string (codes "i08")) ∷ (string (codes "i09")) ∷ (string (codes "i10")) ∷ (string (codes "i11")) ∷ []))) ∷ (array (items_of ((string (codes "i09")) ∷ (string (codes "i10")) ∷ (string (codes "i11")) ∷ (string (codes "i00")) ∷ []))) ∷ (array (items_of ((string (codes "i10")) ∷ (string (codes "i11")) ∷ (string (codes "i00")) ∷ (string (codes "i01")) ∷ []))) ∷ (array (items_of ((string (codes "i11")) ∷ (string (codes "i00")) ∷ (string (codes "i01")) ∷ (string (codes "i02")) ∷ []))) ∷ (array (items_of ((string (codes "i00")) ∷ (string (codes "i01")) ∷ (string (codes "i02")) ∷ (string (codes "i03")) ∷ []))) ∷ (array (items_of ((string (codes "i01")) ∷ (string (codes "i02")) ∷ (string (codes "i03")) ∷ (string (codes "i04")) ∷ []))) ∷ (array (items_of ((string (codes "i02")) ∷ (string (codes "i03")) ∷ (string (codes "i04")) ∷ (string (codes "i05")) ∷ []))) ∷ (array (items_of ((string (codes "i03")) ∷ (string (codes "i04")) ∷ (string (codes "i05")) ∷ (string (codes "i06")) ∷ []))) ∷ (array (items_of ((string (codes "i04")) ∷ (string (codes "i05")) ∷ (string (codes "i06")) ∷ (string (codes "i07")) ∷ []))) ∷ (array (items_of ((string (codes "i05")) ∷ (string (codes "i06")) ∷ (string (codes "i07")) ∷ (string (codes "i08")) ∷ []))) ∷ (array (items_of ((string (codes "i06")) ∷ (string (codes "i07")) ∷ (string (codes "i08")) ∷ (string (codes "i09")) ∷ []))) ∷ (array (items_of ((string (codes "i07")) ∷ (string (codes "i08")) ∷ (string (codes "i09")) ∷ (string (codes "i10")) ∷ []))) ∷ (array (items_of ((string (codes "i08")) ∷ (string (codes "i09")) ∷ (string (codes "i10")) ∷ (string (codes "i11")) ∷ []))) ∷ (array (items_of ((string (codes "i09")) ∷ (string (codes "i10")) ∷ (string (codes "i11")) ∷ (string (codes "i00")) ∷ []))) ∷ (array (items_of ((string (codes "i10")) ∷ (string (codes "i11")) ∷ (string (codes "i00")) ∷ (string (codes "i01")) ∷ []))) ∷ (array (items_of ((string (codes "i11")) ∷ (string (codes "i00")) ∷ (string (codes "i01")) ∷ (string (codes "i02")) ∷ []))) ∷ (array (items_of ((string (codes "i00")) ∷ (string (codes "i01")) ∷ (string (codes "i02")) ∷ (string (codes "i03")) ∷ []))) ∷ (array (items_of ((string (codes "i01")) ∷ (string (codes "i02")) ∷ (string (codes "i03")) ∷ (string (codes "i04")) ∷ []))) ∷ (array (items_of ((string (codes "i02")) ∷ (string (codes "i03")) ∷ (string (codes "i04")) ∷ (string (codes "i05")) ∷ []))) ∷ (array (items_of ((string (codes "i03")) ∷ (string (codes "i04")) ∷ (string (codes "i05")) ∷ (string (codes "i06")) ∷ []))) ∷ [])))) ∷ ((codes "mode"), (string (codes "SEMI_AUTO"))) ∷ ((codes "model"), (string (codes "MasterSlave"))) ∷ ((codes "name"), (string (codes "a"))) ∷ ((codes "partitions"), (number (unsigned 64))) ∷ ((codes "replicas"), (number (unsigned 3))) ∷ []))) ∷ (object (members_from (((codes "lists"), (array (items_of ((array (items_of ((string (codes "i00")) ∷ (string (codes "i01")) ∷ (string (codes "i02")) ∷ (string (codes "i03")) ∷ []))) ∷ (array (items_of ((string (codes "i01")) ∷ (string (codes "i02")) ∷ (string (codes "i03")) ∷ (string (codes "i04")) ∷ []))) ∷ (array (items_of ((string (codes "i02")) ∷ (string (codes "i03")) ∷ (string (codes "i04")) ∷ (string (codes "i05")) ∷ []))) ∷ (array (items_of ((string (codes "i03")) ∷ (string (codes "i04")) ∷ (string (codes "i05")) ∷ (string (codes "i06")) ∷ []))) ∷ (array (items_of ((string (codes "i04")) ∷ (string (codes "i05")) ∷ (string (codes "i06")) ∷ (string (codes "i07")) ∷ []))) ∷ (array (items_of ((string (codes "i05")) ∷ (string (codes "i06")) ∷ (string (codes "i07")) ∷ (string (codes "i08")) ∷ []))) ∷ (array (items_of ((string (codes "i06")) ∷ (string (codes "i07")) ∷ (string (codes "i08")) ∷ (string (codes "i09")) ∷ []))) ∷ (array (items_of ((string (codes "i07")) ∷ (string (codes "i08")) ∷ (string (codes "i09")) ∷ (string (codes "i10")) ∷ []))) ∷ (array (items_of ((string (codes "i08")) ∷ (string (codes "i09")) ∷ (string (codes "i10")) ∷ (string (codes "i11")) ∷ []))) ∷ (array (items_of ((string (codes "i09")) ∷ (string (codes "i10")) ∷ (string (codes "i11")) ∷ (string (codes "i00")) ∷ []))) ∷ (array (items_of ((string (codes "i10")) ∷ (string (codes "i11")) ∷ (string (codes "i00")) ∷ (string (codes "i01")) ∷ []))) ∷ (array (items_of ((string (codes "i11")) ∷ (string (codes "i00")) ∷ (string (codes "i01")) ∷ (string (codes "i02")) ∷ []))) ∷ (array (items_of ((string (codes "i00")) ∷ (string (codes "i01")) ∷ (string (codes "i02")) ∷ (string (codes "i03")) ∷ []))) ∷ (array (items_of ((string (codes "i01")) ∷ (string (codes "i02")) ∷ (string (codes "i03")) ∷ (string (codes "i04")) ∷ []))) ∷ (array (items_of ((string (codes "i02")) ∷ (string (codes "i03")) ∷ (string (codes "i04")) ∷ (string (codes "i05")) ∷ []))) ∷ (array (items_of ((string (codes "i03")) ∷ (string (codes "i04")) ∷ (string (codes "i05")) ∷ (string (codes "i06")) ∷ []))) ∷ (array (items_of ((string (codes "i04")) ∷ (string (codes "i05")) ∷ (string (codes "i06")) ∷ (string (codes "i07")) ∷ []))) ∷ (array (items_of ((string (codes "i05")) ∷ (string (codes "i06")) ∷ (string (codes "i07")) ∷ (string (codes "i08")) ∷ []))) ∷ (array (items_of ((string (codes "i06")) ∷ (string (codes "i07")) ∷ (string (codes "i08")) ∷ (string (codes "i09")) ∷ []))) ∷ (array (items_of ((string (codes "i07")) ∷ (string (codes "i08")) ∷ (string (codes "i09")) ∷ (string (codes "i10")) ∷ []))) ∷ (array (items_of ((string (codes "i08")) ∷ (string (codes "i09")) ∷ (string (codes "i10")) ∷ (string (codes "i11")) ∷ []))) ∷ (array (items_of ((string (codes "i09")) ∷ (string (codes "i10")) ∷ (string (codes "i11")) ∷ (string (codes "i00")) ∷ []))) ∷ (array (items_of ((string (codes "i10")) ∷ (string (codes "i11")) ∷ (string (codes "i00")) ∷ (string (codes "i01")) ∷ []))) ∷ (array (items_of ((string (codes "i11")) ∷ (string (codes "i00")) ∷ (string (codes "i01")) ∷ (string (codes "i02")) ∷ []))) ∷ (array (items_of ((string (codes "i00")) ∷ (string (codes "i01")) ∷ (string (codes "i02")) ∷ (string (codes "i03")) ∷ []))) ∷ (array (items_of ((string (codes "i01")) ∷ (string (codes "i02")) ∷ (string (codes "i03")) ∷ (string (codes "i04")) ∷ []))) ∷ (array (items_of ((string (codes "i02")) ∷ (string (codes "i03")) ∷ (string (codes "i04")) ∷ (string (codes "i05")) ∷ []))) ∷ (array (items_of ((string (codes "i03")) ∷ (string (codes "i04")) ∷ (string (codes "i05")) ∷ (string (codes "i06")) ∷ []))) ∷ (array (items_of ((string (codes "i04")) ∷ (string (codes "i05")) ∷ (string (codes "i06")) ∷ (string (codes "i07")) ∷ []))) ∷ (array (items_of ((string (codes "i05")) ∷ (string (codes "i06")) ∷ (string (codes "i07")) ∷ (string (codes "i08")) ∷ []))) ∷ (array (items_of ((string (codes "i06")) ∷ (string (codes "i07")) ∷ (string (codes "i08")) ∷ (string (codes "i09")) ∷ []))) ∷ (array (items_of ((string (codes "i07")) ∷ (string (codes "i08")) ∷ (string (codes "i09")) ∷ (string (codes "i10")) ∷ []))) ∷ (array (items_of ((string (codes "i08")) ∷ (string (codes "i09")) ∷ (string (codes "i10")) ∷ (string (codes "i11")) ∷ []))) ∷ (array (items_of ((string (codes "i09")) ∷ (string (codes "i10")) ∷ (string (codes "i11")) ∷ (string (codes "i00")) ∷ []))) ∷ (array (items_of ((string (codes "i10")) ∷ (string (codes "i11")) ∷ (string (codes "i00")) ∷ (string (codes "i01")) ∷ []))) ∷ (array (items_of ((string (codes "i11")) ∷ (string (codes "i00")) ∷ (string (codes "i01")) ∷ (string (codes "i02")) ∷ []))) ∷ (array (items_of ((string (codes "i00")) ∷ (string (codes "i01")) ∷ (string (codes "i02")) ∷ (string (codes "i03")) ∷ []))) ∷ (array (items_of ((string (codes "i01")) ∷ (string (codes "i02")) ∷ (string (codes "i03")) ∷ (string (codes "i04")) ∷ []))) ∷ (array (items_of ((string (codes "i02")) ∷ (string (codes "i03")) ∷ (string (codes "i04")) ∷ (string (codes "i05")) ∷ []))) ∷ (array (items_of ((string (codes "i03")) ∷ (string (codes "i04")) ∷ (string (codes "i05")) ∷ (string (codes "i06")) ∷ []))) ∷ (array (items_of ((string (codes "i04")) ∷ (string (codes "i05")) ∷ (string (codes "i06")) ∷ (string (codes "i07")) ∷ []))) ∷ (array (items_of ((string (codes "i05")) ∷ (string (codes "i06")) ∷ (string (codes "i07")) ∷ (string (codes "i08")) ∷ []))) ∷ (array (items_of ((string (codes "i06")) ∷ (string (codes "i07")) ∷ (string (codes "i08")) ∷ (string (codes "i09")) ∷ []))) ∷ (array (items_of ((string (codes "i07")) ∷ (string (codes "i08")) ∷ (string (codes "i09")) ∷ (string (codes "i10")) ∷ []))) ∷ (array (items_of ((string (codes "i08")) ∷ (string (codes "i09")) ∷ (string (codes "i10")) ∷ (string (codes "i11")) ∷ []))) ∷ (array (items_of ((string (codes "i09")) ∷ (string (codes "i10")) ∷ (string (codes "i11")) ∷ (string (codes "i00")) ∷ []))) ∷ (array (items_of ((string (codes "i10")) ∷ (string (codes "i11")) ∷ (string (codes "i00")) ∷ (string (codes "i01")) ∷ []))) ∷ (array (items_of ((string (codes "i11")) ∷ (string (codes "i00")) ∷ (string (codes "i01")) ∷ (string (codes "i02")) ∷ []))) ∷ (array (items_of ((string (codes "i00")) ∷ (string (codes "i01")) ∷ (string (codes "i02")) ∷ (string (codes "i03")) ∷ []))) ∷ (array (items_of ((string (codes "i01")) ∷ (string (codes "i02")) ∷ (string (codes "i03")) ∷ (string (codes "i04")) ∷ []))) ∷ (array (items_of ((string (codes "i02")) ∷ (string (codes "i03")) ∷ (string (codes "i04")) ∷ (string (codes "i05")) ∷ []))) ∷ (array (items_of ((string (codes "i03")) ∷ (string (codes "i04")) ∷ (string (codes "i05")) ∷ (string (codes "i06")) ∷ []))) ∷ (array (items_of ((string (codes "i04")) ∷ (string (codes "i05")) ∷ (string (codes "i06")) ∷ (string (codes "i07")) ∷ []))) ∷ (array (items_of ((string (codes "i05")) ∷ (string (codes "i06")) ∷ (string (codes "i07")) ∷ (string (codes "i08")) ∷ []))) ∷ (array (items_of ((string (codes "i06")) ∷ (string (codes "i07")) ∷ (string (codes "i08")) ∷ (string (codes "i09")) ∷ []))) ∷ (array (items_of ((string (codes "i07")) ∷ (string (codes "i08")) ∷ (string (codes "i09")) ∷ (string (codes "i10")) ∷ []))) ∷ (array (items_of ((string (codes "i08")) ∷ (string (codes "i09")) ∷ (string (codes "i10")) ∷ (string (codes "i11")) ∷ []))) ∷ (array (items_of ((string (codes "i09")) ∷ (string (codes "i10")) ∷ (string (codes "i11")) ∷ (string (codes "i00")) ∷ []))) ∷ (array (items_of ((string (codes "i10")) ∷ (string (codes "i11")) ∷ (string (codes "i00")) ∷ (string (codes "i01")) ∷ []))) ∷ (array (items_of ((string (codes "i11")) ∷ (string (codes "i00")) ∷ (string (codes "i01")) ∷ (string (codes "i02")) ∷ []))) ∷ (array (items_of ((string (codes "i00")) ∷ (string (codes "i01")) ∷ (string (codes "i02")) ∷ (string (codes "i03")) ∷ []))) ∷ (array (items_of ((string (codes "i01")) ∷ (string (codes "i02")) ∷ (string (codes "i03")) ∷ (string (codes "i04")) ∷ []))) ∷ (array (items_of ((string (codes "i02")) ∷ (string (codes "i03")) ∷ (string (codes "i04")) ∷ (string (codes "i05")) ∷ []))) ∷ (array (items_of ((string (codes "i03")) ∷ (string (codes "i04")) ∷ (string (codes "i05")) ∷ (string (codes "i06")) ∷ []))) ∷ [])))) ∷ ((codes "mode"), (string (codes "SEMI_AUTO"))) ∷ ((codes "model"), (string (codes "MasterSlave"))) ∷ ((codes "name"), (string (codes "b"))) ∷ ((codes "partitions"), (number (unsigned 64))) ∷ ((codes "replicas"), (number (unsigned 3))) ∷ []))) ∷ (object (members_from (((codes "lists"), (array (items_of ((array (items_of ((string (codes "i00")) ∷ (string (codes "i01")) ∷ (string (codes "i02")) ∷ (string (codes "i03")) ∷ []))) ∷ (array (items_of ((string (codes "i01")) ∷ (string (codes "i02")) ∷ (string (codes "i03")) ∷ (string (codes "i04")) ∷ []))) ∷ (array (items_of ((string (codes "i02")) ∷ (string (codes "i03")) ∷ (string (codes "i04")) ∷ (string (codes "i05")) ∷ []))) ∷ (array (items_of ((string (codes "i03")) ∷ (string (codes "i04")) ∷ (string (codes "i05")) ∷ (string (codes "i06")) ∷ []))) ∷ (array (items_of ((string (codes "i04")) ∷ (string (codes "i05")) ∷ (string (codes "i06")) ∷ (string (codes "i07")) ∷ []))) ∷ (array (items_of ((string (codes "i05")) ∷ (string (codes "i06")) ∷ (string (codes "i07")) ∷ (string (codes "i08")) ∷ []))) ∷ (array (items_of ((string (codes "i06")) ∷ (string (codes "i07")) ∷ (string (codes "i08")) ∷ (string (codes "i09")) ∷ []))) ∷ (array (items_of ((string (codes "i07")) ∷ (string (codes "i08")) ∷ (string (codes "i09")) ∷ (string (codes "i10")) ∷ []))) ∷ (array (items_of ((string (codes "i08")) ∷ (string (codes "i09")) ∷ (string (codes "i10")) ∷ (string (codes "i11")) ∷ []))) ∷ (array (items_of ((string (codes "i09")) ∷ (string (codes "i10")) ∷ (string (codes "i11")) ∷ (string (codes "i00")) ∷ []))) ∷ (array (items_of ((string (codes "i10")) ∷ (string (codes "i11")) ∷ (string (codes "i00")) ∷ (string (codes "i01")) ∷ []))) ∷ (array (items_of ((string (codes "i11")) ∷ (string (codes "i00")) ∷ (string (codes "i01")) ∷ (string (codes "i02")) ∷ []))) ∷ (array (items_of ((string (codes "i00")) ∷ (string (codes "i01")) ∷ (string (codes "i02")) ∷ (string (codes "i03")) ∷ []))) ∷ (array (items_of ((string (codes "i01")) ∷ (string (codes "i02")) ∷ (string (codes "i03")) ∷ (string (codes "i04")) ∷ []))) ∷ (array (items_of ((string (codes "i02")) ∷ (string (codes "i03")) ∷ (string (codes "i04")) ∷ (string (codes "i05")) ∷ []))) ∷ (array (items_of ((string (codes "i03")) ∷ (string (codes "i04")) ∷ (string (codes "i05")) ∷ (string (codes "i06")) ∷ []))) ∷ (array (items_of ((string (codes "i04")) ∷ (string (codes "i05")) ∷ (string (codes "i06")) ∷ (string (codes "i07")) ∷ []))) ∷ (array (items_of ((string (codes "i05")) ∷ (string (codes "i06")) ∷ (string (codes "i07")) ∷ (string (codes "i08")) ∷ []))) ∷ (array (items_of ((string (codes "i06")) ∷ (string (codes "i07")) ∷ (string (codes "i08")) ∷ (string (codes "i09")) ∷ []))) ∷ (array (items_of ((string (codes "i07")) ∷ (string (codes "i08")) ∷ (string (codes "i09")) ∷ (string (codes "i10")) ∷ []))) ∷ (array (items_of ((string (codes "i08")) ∷ (string (codes "i09")) ∷ (string (codes "i10")) ∷ (string (codes "i11")) ∷ []))) ∷ (array (items_of ((string (codes "i09")) ∷ (string (codes "i10")) ∷ (string (codes "i11")) ∷ (string (codes "i00")) ∷ []))) ∷ (array (items_of ((string (codes "i10")) ∷ (string (codes "i11")) ∷ (string (codes "i00")) ∷ (string (codes "i01")) ∷ []))) ∷ (array (items_of ((string (codes "i11")) ∷ (string (codes "i00")) ∷ (string (codes "i01")) ∷ (string (codes "i02")) ∷ []))) ∷ (array (items_of ((string (codes "i00")) ∷ (string (codes "i01")) ∷ (string (codes "i02")) ∷ (string (codes "i03")) ∷ []))) ∷ (array (items_of ((string (codes "i01")) ∷ (string (codes "i02")) ∷ (string (codes "i03")) ∷ (string (codes "i04")) ∷ []))) ∷ (array (items_of ((string (codes "i02")) ∷ (string (codes "i03")) ∷ (string (codes "i04")) ∷ (string (codes "i05")) ∷ []))) ∷ (array (items_of ((string (codes "i03")) ∷ (string (codes "i04")) ∷ (string (codes "i05")) ∷ (string (codes "i06")) ∷ []))) ∷ (array (items_of ((string (codes "i04")) ∷ (string (codes "i05")) ∷ (string (codes "i06")) ∷ (string (codes "i07")) ∷ []))) ∷ (array (items_of ((string (codes "i05")) ∷ (string (codes "i06")) ∷ (string (codes "i07")) ∷ (string (codes "i08")) ∷ []))) ∷ (array (items_of ((string (codes "i06")) ∷ (string (codes "i07")) ∷ (string (codes "i08")) ∷ (string (codes "i09")) ∷ []))) ∷ (array (items_of ((string (codes "i07")) ∷ (string (codes "i08")) ∷ (string (codes "i09")) ∷ (string (codes "i10")) ∷ []))) ∷ (array (items_of ((string (codes "i08")) ∷ (string (codes "i09")) ∷ (string (codes "i10")) ∷ (string (codes "i11")) ∷ []))) ∷ (array (items_of ((string (codes "i09")) ∷ (string (codes "i10")) ∷ (string (codes "i11")) ∷ (string (codes "i00")) ∷ []))) ∷ (array (items_of ((string (codes "i10")) ∷ (string (codes "i11")) ∷ (string (codes "i00")) ∷ (string (codes "i01")) ∷ []))) ∷ (array (items_of ((string (codes "i11")) ∷ (string (codes "i00")) ∷ (string (codes "i01")) ∷ (string (codes "i02")) ∷ []))) ∷ (array (items_of ((string (codes "i00")) ∷ (string (codes "i01")) ∷ (string (codes "i02")) ∷ (string (codes "i03")) ∷ []))) ∷ (array (items_of ((string (codes "i01")) ∷ (string (codes "i02")) ∷ (string (codes "i03")) ∷ (string (codes "i04")) ∷ []))) ∷ (array (items_of ((string (codes "i02")) ∷ (string (codes "i03")) ∷ (string (codes "i04")) ∷ (string (codes "i05")) ∷ []))) ∷ (array (items_of ((string (codes "i03")) ∷ (string (codes "i04")) ∷ (string (codes "i05")) ∷ (string (codes "i06")) ∷ []))) ∷ (array (items_of ((string (codes "i04")) ∷ (string (codes "i05")) ∷ (string (codes "i06")) ∷ (string (codes "i07")) ∷ []))) ∷ (array (items_of ((string (codes "i05")) ∷ (string (codes "i06")) ∷ (string (codes "i07")) ∷ (string (codes "i08")) ∷ []))) ∷ (array (items_of ((string (codes "i06")) ∷ (string (codes "i07")) ∷ (string (codes "i08")) ∷ (string (codes "i09")) ∷ []))) ∷ (array (items_of ((string (codes "i07")) ∷ (string (codes "i08")) ∷ (string (codes "i09")) ∷ (string (codes "i10")) ∷ []))) ∷ (array (items_of ((string (codes "i08")) ∷ (string (codes "i09")) ∷ (string (codes "i10")) ∷ (string (codes "i11")) ∷ []))) ∷ (array (items_of ((string (codes "i09")) ∷ (string (codes "i10")) ∷ (string (codes "i11")) ∷ (string (codes "i00")) ∷ []))) ∷ (array (items_of ((string (codes "i10")) ∷ (string (codes "i11")) ∷ (string (codes "i00")) ∷ (string (codes "i01")) ∷ []))) ∷ (array (items_of ((string (codes "i11")) ∷ (string (codes "i00")) ∷ (string (codes "i01")) ∷ (string (codes "i02")) ∷ []))) ∷ (array (items_of ((string (codes "i00")) ∷ (string (codes "i01")) ∷ (string (codes "i02")) ∷ (string (codes "i03")) ∷ []))) ∷ (array (items_of ((string (codes "i01")) ∷ (string (codes "i02")) ∷ (string (codes "i03")) ∷ (string (codes "i04")) ∷ []))) ∷ (array (items_of ((string (codes "i02")) ∷ (string (codes "i03")) ∷ (string (codes "i04")) ∷ (string (codes "i05")) ∷ []))) ∷ (array (items_of ((string (codes "i03")) ∷ (string (codes "i04")) ∷ (string (codes "i05")) ∷ (string (codes "i06")) ∷ []))) ∷ (array (items_of ((string (codes "i04")) ∷ (string (codes "i05")) ∷ (string (codes "i06")) ∷ (string (codes "i07")) ∷ []))) ∷ (array (items_of ((string (codes "i05")) ∷ (string (codes "i06")) ∷ (string (codes "i07")) ∷ (string (codes "i08")) ∷ []))) ∷ (array (items_of ((string (codes "i06")) ∷ (string (codes "i07")) ∷ (string (codes "i08")) ∷ (string (codes "i09")) ∷ []))) ∷ (array (items_of ((string (codes "i07")) ∷ (string (codes "i08")) ∷ (string (codes "i09")) ∷ (string (codes "i10")) ∷ []))) ∷ (array (items_of ((string (codes "i08")) ∷ (string (codes "i09")) ∷ (string (codes "i10")) ∷ (string (codes "i11")) ∷ []))) ∷ (array (items_of ((string (codes "i09")) ∷ (string (codes "i10")) ∷ (string (codes "i11")) ∷ (string (codes "i00")) ∷ []))) ∷ (array (items_of ((string (codes "i10")) ∷ (string (codes "i11")) ∷ (string (codes "i00")) ∷ (string (codes "i01")) ∷ []))) ∷ (array (items_of ((string (codes "i11")) ∷ (string (codes "i00")) ∷ (string (codes "i01")) ∷ (string (codes "i02")) ∷ []))) ∷ (array (items_of ((string (codes "i00")) ∷ (string (codes "i01")) ∷ (string (codes "i02")) ∷ (string (codes "i03")) ∷ []))) ∷ (array (items_of ((string (codes "i01")) ∷ (string (codes "i02")) ∷ (string (codes "i03")) ∷ (string (codes "i04")) ∷ []))) ∷ (array (items_of ((string (codes "i02")) ∷ (string (codes "i03")) ∷ (string (codes "i04")) ∷ (string (codes "i05")) ∷ []))) ∷ (array (items_of ((string (codes "i03")) ∷ (string (codes "i04")) ∷ (string (codes "i05")) ∷ (string (codes "i06")) ∷ []))) ∷ [])))) ∷ ((codes "mode"), (string (codes "SEMI_AUTO"))) ∷ ((codes "model"), (string (codes "MasterSlave"))) ∷ ((codes "name"), (string (codes "c"))) ∷ ((codes "partitions"), (number (unsigned 64))) ∷ ((codes "replicas"), (number (unsigned 3))) ∷ []))) ∷ [])))) ∷ ((codes "throttles"), (array (items_of ((object (members_from (((codes "limit"), (number (unsigned 4))) ∷ ((codes "scope"), (string (codes "instance"))) ∷ []))) ∷ [])))) ∷ ((codes "version"), (number (unsigned 1))) ∷ []))))
    ≡ Ok (record plain {
      instances = (codes "i00" ∷ codes "i01" ∷ codes "i02" ∷ codes "i03" ∷ codes "i04" ∷ codes "i05" ∷ codes "i06" ∷ codes "i07" ∷ codes "i08" ∷ codes "i09" ∷ codes "i10" ∷ codes "i11" ∷ []);
      resource_names = (codes "a" ∷ codes "b" ∷ codes "c" ∷ []);
      controllers = 1;
      rules = ((record { scope = scopes.Instance; transition = None; limit = 4 }) ∷ []);
      resources = ((record { name = 0; model = (record { 0 = 0 }); ideal = (record { replicas = 3; parts = 64; mode = (modes.Semi (((record { 0 = 0 }) ∷ (record { 0 = 1 }) ∷ (record { 0 = 2 }) ∷ (record { 0 = 3 }) ∷ []) ∷ ((record { 0 = 1 }) ∷ (record { 0 = 2 }) ∷ (record { 0 = 3 }) ∷ (record { 0 = 4 }) ∷ []) ∷ ((record { 0 = 2 }) ∷ (record { 0 = 3 }) ∷ (record { 0 = 4 }) ∷ (record { 0 = 5 }) ∷ []) ∷ ((record { 0 = 3 }) ∷ (record { 0 = 4 }) ∷ (record { 0 = 5 }) ∷ (record { 0 = 6 }) ∷ []) ∷ ((record { 0 = 4 }) ∷ (record { 0 = 5 }) ∷ (record { 0 = 6 }) ∷ (record { 0 = 7 }) ∷ []) ∷ ((record { 0 = 5 }) ∷ (record { 0 = 6 }) ∷ (record { 0 = 7 }) ∷ (record { 0 = 8 }) ∷ []) ∷ ((record { 0 = 6 }) ∷ (record { 0 = 7 }) ∷ (record { 0 = 8 }) ∷ (record { 0 = 9 }) ∷ []) ∷ ((record { 0 = 7 }) ∷ (record { 0 = 8 }) ∷ (record { 0 = 9 }) ∷ (record { 0 = 10 }) ∷ []) ∷ ((record { 0 = 8 }) ∷ (record { 0 = 9 }) ∷ (record { 0 = 10 }) ∷ (record { 0 = 11 }) ∷ []) ∷ ((record { 0 = 9 }) ∷ (record { 0 = 10 }) ∷ (record { 0 = 11 }) ∷ (record { 0 = 0 }) ∷ []) ∷ ((record { 0 = 10 }) ∷ (record { 0 = 11 }) ∷ (record { 0 = 0 }) ∷ (record { 0 = 1 }) ∷ []) ∷ ((record { 0 = 11 }) ∷ (record { 0 = 0 }) ∷ (record { 0 = 1 }) ∷ (record { 0 = 2 }) ∷ []) ∷ ((record { 0 = 0 }) ∷ (record { 0 = 1 }) ∷ (record { 0 = 2 }) ∷ (record { 0 = 3 }) ∷ []) ∷ ((record { 0 = 1 }) ∷ (record { 0 = 2 }) ∷ (record { 0 = 3 }) ∷ (record { 0 = 4 }) ∷ []) ∷ ((record { 0 = 2 }) ∷ (record { 0 = 3 }) ∷ (record { 0 = 4 }) ∷ (record { 0 = 5 }) ∷ []) ∷ ((record { 0 = 3 }) ∷ (record { 0 = 4 }) ∷ (record { 0 = 5 }) ∷ (record { 0 = 6 }) ∷ []) ∷ ((record { 0 = 4 }) ∷ (record { 0 = 5 }) ∷ (record { 0 = 6 }) ∷ (record { 0 = 7 }) ∷ []) ∷ ((record { 0 = 5 }) ∷ (record { 0 = 6 }) ∷ (record { 0 = 7 }) ∷ (record { 0 = 8 }) ∷ []) ∷ ((record { 0 = 6 }) ∷ (record { 0 = 7 }) ∷ (record { 0 = 8 }) ∷ (record { 0 = 9 }) ∷ []) ∷ ((record { 0 = 7 }) ∷ (record { 0 = 8 }) ∷ (record { 0 = 9 }) ∷ (record { 0 = 10 }) ∷ []) ∷ ((record { 0 = 8 }) ∷ (record { 0 = 9 }) ∷ (record { 0 = 10 }) ∷ (record { 0 = 11 }) ∷ []) ∷ ((record { 0 = 9 }) ∷ (record { 0 = 10 }) ∷ (record { 0 = 11 }) ∷ (record { 0 = 0 }) ∷ []) ∷ ((record { 0 = 10 }) ∷ (record { 0 = 11 }) ∷ (record { 0 = 0 }) ∷ (record { 0 = 1 }) ∷ []) ∷ ((record { 0 = 11 }) ∷ (record { 0 = 0 }) ∷ (record { 0 = 1 }) ∷ (record { 0 = 2 }) ∷ []) ∷ ((record { 0 = 0 }) ∷ (record { 0 = 1 }) ∷ (record { 0 = 2 }) ∷ (record { 0 = 3 }) ∷ []) ∷ ((record { 0 = 1 }) ∷ (record { 0 = 2 }) ∷ (record { 0 = 3 }) ∷ (record { 0 = 4 }) ∷ []) ∷ ((record { 0 = 2 }) ∷ (record { 0 = 3 }) ∷ (record { 0 = 4 }) ∷ (record { 0 = 5 }) ∷ []) ∷ ((record { 0 = 3 }) ∷ (record { 0 = 4 }) ∷ (record { 0 = 5 }) ∷ (record { 0 = 6 }) ∷ []) ∷ ((record { 0 = 4 }) ∷ (record { 0 = 5 }) ∷ (record { 0 = 6 }) ∷ (record { 0 = 7 }) ∷ []) ∷ ((record { 0 = 5 }) ∷ (record { 0 = 6 }) ∷ (record { 0 = 7 }) ∷ (record { 0 = 8 }) ∷ []) ∷ ((record { 0 = 6 }) ∷ (record { 0 = 7 }) ∷ (record { 0 = 8 }) ∷ (record { 0 = 9 }) ∷ []) ∷ ((record { 0 = 7 }) ∷ (record { 0 = 8 }) ∷ (record { 0 = 9 }) ∷ (record { 0 = 10 }) ∷ []) ∷ ((record { 0 = 8 }) ∷ (record { 0 = 9 }) ∷ (record { 0 = 10 }) ∷ (record { 0 = 11 }) ∷ []) ∷ ((record { 0 = 9 }) ∷ (record { 0 = 10 }) ∷ (record { 0 = 11 }) ∷ (record { 0 = 0 }) ∷ []) ∷ ((record { 0 = 10 }) ∷ (record { 0 = 11 }) ∷ (record { 0 = 0 }) ∷ (record { 0 = 1 }) ∷ []) ∷ ((record { 0 = 11 }) ∷ (record { 0 = 0 }) ∷ (record { 0 = 1 }) ∷ (record { 0 = 2 }) ∷ []) ∷ ((record { 0 = 0 }) ∷ (record { 0 = 1 }) ∷ (record { 0 = 2 }) ∷ (record { 0 = 3 }) ∷ []) ∷ ((record { 0 = 1 }) ∷ (record { 0 = 2 }) ∷ (record { 0 = 3 }) ∷ (record { 0 = 4 }) ∷ []) ∷ ((record { 0 = 2 }) ∷ (record { 0 = 3 }) ∷ (record { 0 = 4 }) ∷ (record { 0 = 5 }) ∷ []) ∷ ((record { 0 = 3 }) ∷ (record { 0 = 4 }) ∷ (record { 0 = 5 }) ∷ (record { 0 = 6 }) ∷ []) ∷ ((record { 0 = 4 }) ∷ (record { 0 = 5 }) ∷ (record { 0 = 6 }) ∷ (record { 0 = 7 }) ∷ []) ∷ ((record { 0 = 5 }) ∷ (record { 0 = 6 }) ∷ (record { 0 = 7 }) ∷ (record { 0 = 8 }) ∷ []) ∷ ((record { 0 = 6 }) ∷ (record { 0 = 7 }) ∷ (record { 0 = 8 }) ∷ (record { 0 = 9 }) ∷ []) ∷ ((record { 0 = 7 }) ∷ (record { 0 = 8 }) ∷ (record { 0 = 9 }) ∷ (record { 0 = 10 }) ∷ []) ∷ ((record { 0 = 8 }) ∷ (record { 0 = 9 }) ∷ (record { 0 = 10 }) ∷ (record { 0 = 11 }) ∷ []) ∷ ((record { 0 = 9 }) ∷ (record { 0 = 10 }) ∷ (record { 0 = 11 }) ∷ (record { 0 = 0 }) ∷ []) ∷ ((record { 0 = 10 }) ∷ (record { 0 = 11 }) ∷ (record { 0 = 0 }) ∷ (record { 0 = 1 }) ∷ []) ∷ ((record { 0 = 11 }) ∷ (record { 0 = 0 }) ∷ (record { 0 = 1 }) ∷ (record { 0 = 2 }) ∷ []) ∷ ((record { 0 = 0 }) ∷ (record { 0 = 1 }) ∷ (record { 0 = 2 }) ∷ (record { 0 = 3 }) ∷ []) ∷ ((record { 0 = 1 }) ∷ (record { 0 = 2 }) ∷ (record { 0 = 3 }) ∷ (record { 0 = 4 }) ∷ []) ∷ ((record { 0 = 2 }) ∷ (record { 0 = 3 }) ∷ (record { 0 = 4 }) ∷ (record { 0 = 5 }) ∷ []) ∷ ((record { 0 = 3 }) ∷ (record { 0 = 4 }) ∷ (record { 0 = 5 }) ∷ (record { 0 = 6 }) ∷ []) ∷ ((record { 0 = 4 }) ∷ (record { 0 = 5 }) ∷ (record { 0 = 6 }) ∷ (record { 0 = 7 }) ∷ []) ∷ ((record { 0 = 5 }) ∷ (record { 0 = 6 }) ∷ (record { 0 = 7 }) ∷ (record { 0 = 8 }) ∷ []) ∷ ((record { 0 = 6 }) ∷ (record { 0 = 7 }) ∷ (record { 0 = 8 }) ∷ (record { 0 = 9 }) ∷ []) ∷ ((record { 0 = 7 }) ∷ (record { 0 = 8 }) ∷ (record { 0 = 9 }) ∷ (record { 0 = 10 }) ∷ []) ∷ ((record { 0 = 8 }) ∷ (record { 0 = 9 }) ∷ (record { 0 = 10 }) ∷ (record { 0 = 11 }) ∷ []) ∷ ((record { 0 = 9 }) ∷ (record { 0 = 10 }) ∷ (record { 0 = 11 }) ∷ (record { 0 = 0 }) ∷ []) ∷ ((record { 0 = 10 }) ∷ (record { 0 = 11 }) ∷ (record { 0 = 0 }) ∷ (record { 0 = 1 }) ∷ []) ∷ ((record { 0 = 11 }) ∷ (record { 0 = 0 }) ∷ (record { 0 = 1 }) ∷ (record { 0 = 2 }) ∷ []) ∷ ((record { 0 = 0 }) ∷ (record { 0 = 1 }) ∷ (record { 0 = 2 }) ∷ (record { 0 = 3 }) ∷ []) ∷ ((record { 0 = 1 }) ∷ (record { 0 = 2 }) ∷ (record { 0 = 3 }) ∷ (record { 0 = 4 }) ∷ []) ∷ ((record { 0 = 2 }) ∷ (record { 0 = 3 }) ∷ (record { 0 = 4 }) ∷ (record { 0 = 5 }) ∷ []) ∷ ((record { 0 = 3 }) ∷ (record { 0 = 4 }) ∷ (record { 0 = 5 }) ∷ (record { 0 = 6 }) ∷ []) ∷ [])) }); dropped = false }) ∷ (record { name = 1; model = (record { 0 = 0 }); ideal = (record { replicas = 3; parts = 64; mode = (modes.Semi (((record { 0 = 0 }) ∷ (record { 0 = 1 }) ∷ (record { 0 = 2 }) ∷ (record { 0 = 3 }) ∷ []) ∷ ((record { 0 = 1 }) ∷ (record { 0 = 2 }) ∷ (record { 0 = 3 }) ∷ (record { 0 = 4 }) ∷ []) ∷ ((record { 0 = 2 }) ∷ (record { 0 = 3 }) ∷ (record { 0 = 4 }) ∷ (record { 0 = 5 }) ∷ []) ∷ ((record { 0 = 3 }) ∷ (record { 0 = 4 }) ∷ (record { 0 = 5 }) ∷ (record { 0 = 6 }) ∷ []) ∷ ((record { 0 = 4 }) ∷ (record { 0 = 5 }) ∷ (record { 0 = 6 }) ∷ (record { 0 = 7 }) ∷ []) ∷ ((record { 0 = 5 }) ∷ (record { 0 = 6 }) ∷ (record { 0 = 7 }) ∷ (record { 0 = 8 }) ∷ []) ∷ ((record { 0 = 6 }) ∷ (record { 0 = 7 }) ∷ (record { 0 = 8 }) ∷ (record { 0 = 9 }) ∷ []) ∷ ((record { 0 = 7 }) ∷ (record { 0 = 8 }) ∷ (record { 0 = 9 }) ∷ (record { 0 = 10 }) ∷ []) ∷ ((record { 0 = 8 }) ∷ (record { 0 = 9 }) ∷ (record { 0 = 10 }) ∷ (record { 0 = 11 }) ∷ []) ∷ ((record { 0 = 9 }) ∷ (record { 0 = 10 }) ∷ (record { 0 = 11 }) ∷ (record { 0 = 0 }) ∷ []) ∷ ((record { 0 = 10 }) ∷ (record { 0 = 11 }) ∷ (record { 0 = 0 }) ∷ (record { 0 = 1 }) ∷ []) ∷ ((record { 0 = 11 }) ∷ (record { 0 = 0 }) ∷ (record { 0 = 1 }) ∷ (record { 0 = 2 }) ∷ []) ∷ ((record { 0 = 0 }) ∷ (record { 0 = 1 }) ∷ (record { 0 = 2 }) ∷ (record { 0 = 3 }) ∷ []) ∷ ((record { 0 = 1 }) ∷ (record { 0 = 2 }) ∷ (record { 0 = 3 }) ∷ (record { 0 = 4 }) ∷ []) ∷ ((record { 0 = 2 }) ∷ (record { 0 = 3 }) ∷ (record { 0 = 4 }) ∷ (record { 0 = 5 }) ∷ []) ∷ ((record { 0 = 3 }) ∷ (record { 0 = 4 }) ∷ (record { 0 = 5 }) ∷ (record { 0 = 6 }) ∷ []) ∷ ((record { 0 = 4 }) ∷ (record { 0 = 5 }) ∷ (record { 0 = 6 }) ∷ (record { 0 = 7 }) ∷ []) ∷ ((record { 0 = 5 }) ∷ (record { 0 = 6 }) ∷ (record { 0 = 7 }) ∷ (record { 0 = 8 }) ∷ []) ∷ ((record { 0 = 6 }) ∷ (record { 0 = 7 }) ∷ (record { 0 = 8 }) ∷ (record { 0 = 9 }) ∷ []) ∷ ((record { 0 = 7 }) ∷ (record { 0 = 8 }) ∷ (record { 0 = 9 }) ∷ (record { 0 = 10 }) ∷ []) ∷ ((record { 0 = 8 }) ∷ (record { 0 = 9 }) ∷ (record { 0 = 10 }) ∷ (record { 0 = 11 }) ∷ []) ∷ ((record { 0 = 9 }) ∷ (record { 0 = 10 }) ∷ (record { 0 = 11 }) ∷ (record { 0 = 0 }) ∷ []) ∷ ((record { 0 = 10 }) ∷ (record { 0 = 11 }) ∷ (record { 0 = 0 }) ∷ (record { 0 = 1 }) ∷ []) ∷ ((record { 0 = 11 }) ∷ (record { 0 = 0 }) ∷ (record { 0 = 1 }) ∷ (record { 0 = 2 }) ∷ []) ∷ ((record { 0 = 0 }) ∷ (record { 0 = 1 }) ∷ (record { 0 = 2 }) ∷ (record { 0 = 3 }) ∷ []) ∷ ((record { 0 = 1 }) ∷ (record { 0 = 2 }) ∷ (record { 0 = 3 }) ∷ (record { 0 = 4 }) ∷ []) ∷ ((record { 0 = 2 }) ∷ (record { 0 = 3 }) ∷ (record { 0 = 4 }) ∷ (record { 0 = 5 }) ∷ []) ∷ ((record { 0 = 3 }) ∷ (record { 0 = 4 }) ∷ (record { 0 = 5 }) ∷ (record { 0 = 6 }) ∷ []) ∷ ((record { 0 = 4 }) ∷ (record { 0 = 5 }) ∷ (record { 0 = 6 }) ∷ (record { 0 = 7 }) ∷ []) ∷ ((record { 0 = 5 }) ∷ (record { 0 = 6 }) ∷ (record { 0 = 7 }) ∷ (record { 0 = 8 }) ∷ []) ∷ ((record { 0 = 6 }) ∷ (record { 0 = 7 }) ∷ (record { 0 = 8 }) ∷ (record { 0 = 9 }) ∷ []) ∷ ((record { 0 = 7 }) ∷ (record { 0 = 8 }) ∷ (record { 0 = 9 }) ∷ (record { 0 = 10 }) ∷ []) ∷ ((record { 0 = 8 }) ∷ (record { 0 = 9 }) ∷ (record { 0 = 10 }) ∷ (record { 0 = 11 }) ∷ []) ∷ ((record { 0 = 9 }) ∷ (record { 0 = 10 }) ∷ (record { 0 = 11 }) ∷ (record { 0 = 0 }) ∷ []) ∷ ((record { 0 = 10 }) ∷ (record { 0 = 11 }) ∷ (record { 0 = 0 }) ∷ (record { 0 = 1 }) ∷ []) ∷ ((record { 0 = 11 }) ∷ (record { 0 = 0 }) ∷ (record { 0 = 1 }) ∷ (record { 0 = 2 }) ∷ []) ∷ ((record { 0 = 0 }) ∷ (record { 0 = 1 }) ∷ (record { 0 = 2 }) ∷ (record { 0 = 3 }) ∷ []) ∷ ((record { 0 = 1 }) ∷ (record { 0 = 2 }) ∷ (record { 0 = 3 }) ∷ (record { 0 = 4 }) ∷ []) ∷ ((record { 0 = 2 }) ∷ (record { 0 = 3 }) ∷ (record { 0 = 4 }) ∷ (record { 0 = 5 }) ∷ []) ∷ ((record { 0 = 3 }) ∷ (record { 0 = 4 }) ∷ (record { 0 = 5 }) ∷ (record { 0 = 6 }) ∷ []) ∷ ((record { 0 = 4 }) ∷ (record { 0 = 5 }) ∷ (record { 0 = 6 }) ∷ (record { 0 = 7 }) ∷ []) ∷ ((record { 0 = 5 }) ∷ (record { 0 = 6 }) ∷ (record { 0 = 7 }) ∷ (record { 0 = 8 }) ∷ []) ∷ ((record { 0 = 6 }) ∷ (record { 0 = 7 }) ∷ (record { 0 = 8 }) ∷ (record { 0 = 9 }) ∷ []) ∷ ((record { 0 = 7 }) ∷ (record { 0 = 8 }) ∷ (record { 0 = 9 }) ∷ (record { 0 = 10 }) ∷ []) ∷ ((record { 0 = 8 }) ∷ (record { 0 = 9 }) ∷ (record { 0 = 10 }) ∷ (record { 0 = 11 }) ∷ []) ∷ ((record { 0 = 9 }) ∷ (record { 0 = 10 }) ∷ (record { 0 = 11 }) ∷ (record { 0 = 0 }) ∷ []) ∷ ((record { 0 = 10 }) ∷ (record { 0 = 11 }) ∷ (record { 0 = 0 }) ∷ (record { 0 = 1 }) ∷ []) ∷ ((record { 0 = 11 }) ∷ (record { 0 = 0 }) ∷ (record { 0 = 1 }) ∷ (record { 0 = 2 }) ∷ []) ∷ ((record { 0 = 0 }) ∷ (record { 0 = 1 }) ∷ (record { 0 = 2 }) ∷ (record { 0 = 3 }) ∷ []) ∷ ((record { 0 = 1 }) ∷ (record { 0 = 2 }) ∷ (record { 0 = 3 }) ∷ (record { 0 = 4 }) ∷ []) ∷ ((record { 0 = 2 }) ∷ (record { 0 = 3 }) ∷ (record { 0 = 4 }) ∷ (record { 0 = 5 }) ∷ []) ∷ ((record { 0 = 3 }) ∷ (record { 0 = 4 }) ∷ (record { 0 = 5 }) ∷ (record { 0 = 6 }) ∷ []) ∷ ((record { 0 = 4 }) ∷ (record { 0 = 5 }) ∷ (record { 0 = 6 }) ∷ (record { 0 = 7 }) ∷ []) ∷ ((record { 0 = 5 }) ∷ (record { 0 = 6 }) ∷ (record { 0 = 7 }) ∷ (record { 0 = 8 }) ∷ []) ∷ ((record { 0 = 6 }) ∷ (record { 0 = 7 }) ∷ (record { 0 = 8 }) ∷ (record { 0 = 9 }) ∷ []) ∷ ((record { 0 = 7 }) ∷ (record { 0 = 8 }) ∷ (record { 0 = 9 }) ∷ (record { 0 = 10 }) ∷ []) ∷ ((record { 0 = 8 }) ∷ (record { 0 = 9 }) ∷ (record { 0 = 10 }) ∷ (record { 0 = 11 }) ∷ []) ∷ ((record { 0 = 9 }) ∷ (record { 0 = 10 }) ∷ (record { 0 = 11 }) ∷ (record { 0 = 0 }) ∷ []) ∷ ((record { 0 = 10 }) ∷ (record { 0 = 11 }) ∷ (record { 0 = 0 }) ∷ (record { 0 = 1 }) ∷ []) ∷ ((record { 0 = 11 }) ∷ (record { 0 = 0 }) ∷ (record { 0 = 1 }) ∷ (record { 0 = 2 }) ∷ []) ∷ ((record { 0 = 0 }) ∷ (record { 0 = 1 }) ∷ (record { 0 = 2 }) ∷ (record { 0 = 3 }) ∷ []) ∷ ((record { 0 = 1 }) ∷ (record { 0 = 2 }) ∷ (record { 0 = 3 }) ∷ (record { 0 = 4 }) ∷ []) ∷ ((record { 0 = 2 }) ∷ (record { 0 = 3 }) ∷ (record { 0 = 4 }) ∷ (record { 0 = 5 }) ∷ []) ∷ ((record { 0 = 3 }) ∷ (record { 0 = 4 }) ∷ (record { 0 = 5 }) ∷ (record { 0 = 6 }) ∷ []) ∷ [])) }); dropped = false }) ∷ (record { name = 2; model = (record { 0 = 0 }); ideal = (record { replicas = 3; parts = 64; mode = (modes.Semi (((record { 0 = 0 }) ∷ (record { 0 = 1 }) ∷ (record { 0 = 2 }) ∷ (record { 0 = 3 }) ∷ []) ∷ ((record { 0 = 1 }) ∷ (record { 0 = 2 }) ∷ (record { 0 = 3 }) ∷ (record { 0 = 4 }) ∷ []) ∷ ((record { 0 = 2 }) ∷ (record { 0 = 3 }) ∷ (record { 0 = 4 }) ∷ (record { 0 = 5 }) ∷ []) ∷ ((record { 0 = 3 }) ∷ (record { 0 = 4 }) ∷ (record { 0 = 5 }) ∷ (record { 0 = 6 }) ∷ []) ∷ ((record { 0 = 4 }) ∷ (record { 0 = 5 }) ∷ (record { 0 = 6 }) ∷ (record { 0 = 7 }) ∷ []) ∷ ((record { 0 = 5 }) ∷ (record { 0 = 6 }) ∷ (record { 0 = 7 }) ∷ (record { 0 = 8 }) ∷ []) ∷ ((record { 0 = 6 }) ∷ (record { 0 = 7 }) ∷ (record { 0 = 8 }) ∷ (record { 0 = 9 }) ∷ []) ∷ ((record { 0 = 7 }) ∷ (record { 0 = 8 }) ∷ (record { 0 = 9 }) ∷ (record { 0 = 10 }) ∷ []) ∷ ((record { 0 = 8 }) ∷ (record { 0 = 9 }) ∷ (record { 0 = 10 }) ∷ (record { 0 = 11 }) ∷ []) ∷ ((record { 0 = 9 }) ∷ (record { 0 = 10 }) ∷ (record { 0 = 11 }) ∷ (record { 0 = 0 }) ∷ []) ∷ ((record { 0 = 10 }) ∷ (record { 0 = 11 }) ∷ (record { 0 = 0 }) ∷ (record { 0 = 1 }) ∷ []) ∷ ((record { 0 = 11 }) ∷ (record { 0 = 0 }) ∷ (record { 0 = 1 }) ∷ (record { 0 = 2 }) ∷ []) ∷ ((record { 0 = 0 }) ∷ (record { 0 = 1 }) ∷ (record { 0 = 2 }) ∷ (record { 0 = 3 }) ∷ []) ∷ ((record { 0 = 1 }) ∷ (record { 0 = 2 }) ∷ (record { 0 = 3 }) ∷ (record { 0 = 4 }) ∷ []) ∷ ((record { 0 = 2 }) ∷ (record { 0 = 3 }) ∷ (record { 0 = 4 }) ∷ (record { 0 = 5 }) ∷ []) ∷ ((record { 0 = 3 }) ∷ (record { 0 = 4 }) ∷ (record { 0 = 5 }) ∷ (record { 0 = 6 }) ∷ []) ∷ ((record { 0 = 4 }) ∷ (record { 0 = 5 }) ∷ (record { 0 = 6 }) ∷ (record { 0 = 7 }) ∷ []) ∷ ((record { 0 = 5 }) ∷ (record { 0 = 6 }) ∷ (record { 0 = 7 }) ∷ (record { 0 = 8 }) ∷ []) ∷ ((record { 0 = 6 }) ∷ (record { 0 = 7 }) ∷ (record { 0 = 8 }) ∷ (record { 0 = 9 }) ∷ []) ∷ ((record { 0 = 7 }) ∷ (record { 0 = 8 }) ∷ (record { 0 = 9 }) ∷ (record { 0 = 10 }) ∷ []) ∷ ((record { 0 = 8 }) ∷ (record { 0 = 9 }) ∷ (record { 0 = 10 }) ∷ (record { 0 = 11 }) ∷ []) ∷ ((record { 0 = 9 }) ∷ (record { 0 = 10 }) ∷ (record { 0 = 11 }) ∷ (record { 0 = 0 }) ∷ []) ∷ ((record { 0 = 10 }) ∷ (record { 0 = 11 }) ∷ (record { 0 = 0 }) ∷ (record { 0 = 1 }) ∷ []) ∷ ((record { 0 = 11 }) ∷ (record { 0 = 0 }) ∷ (record { 0 = 1 }) ∷ (record { 0 = 2 }) ∷ []) ∷ ((record { 0 = 0 }) ∷ (record { 0 = 1 }) ∷ (record { 0 = 2 }) ∷ (record { 0 = 3 }) ∷ []) ∷ ((record { 0 = 1 }) ∷ (record { 0 = 2 }) ∷ (record { 0 = 3 }) ∷ (record { 0 = 4 }) ∷ []) ∷ ((record { 0 = 2 }) ∷ (record { 0 = 3 }) ∷ (record { 0 = 4 }) ∷ (record { 0 = 5 }) ∷ []) ∷ ((record { 0 = 3 }) ∷ (record { 0 = 4 }) ∷ (record { 0 = 5 }) ∷ (record { 0 = 6 }) ∷ []) ∷ ((record { 0 = 4 }) ∷ (record { 0 = 5 }) ∷ (record { 0 = 6 }) ∷ (record { 0 = 7 }) ∷ []) ∷ ((record { 0 = 5 }) ∷ (record { 0 = 6 }) ∷ (record { 0 = 7 }) ∷ (record { 0 = 8 }) ∷ []) ∷ ((record { 0 = 6 }) ∷ (record { 0 = 7 }) ∷ (record { 0 = 8 }) ∷ (record { 0 = 9 }) ∷ []) ∷ ((record { 0 = 7 }) ∷ (record { 0 = 8 }) ∷ (record { 0 = 9 }) ∷ (record { 0 = 10 }) ∷ []) ∷ ((record { 0 = 8 }) ∷ (record { 0 = 9 }) ∷ (record { 0 = 10 }) ∷ (record { 0 = 11 }) ∷ []) ∷ ((record { 0 = 9 }) ∷ (record { 0 = 10 }) ∷ (record { 0 = 11 }) ∷ (record { 0 = 0 }) ∷ []) ∷ ((record { 0 = 10 }) ∷ (record { 0 = 11 }) ∷ (record { 0 = 0 }) ∷ (record { 0 = 1 }) ∷ []) ∷ ((record { 0 = 11 }) ∷ (record { 0 = 0 }) ∷ (record { 0 = 1 }) ∷ (record { 0 = 2 }) ∷ []) ∷ ((record { 0 = 0 }) ∷ (record { 0 = 1 }) ∷ (record { 0 = 2 }) ∷ (record { 0 = 3 }) ∷ []) ∷ ((record { 0 = 1 }) ∷ (record { 0 = 2 }) ∷ (record { 0 = 3 }) ∷ (record { 0 = 4 }) ∷ []) ∷ ((record { 0 = 2 }) ∷ (record { 0 = 3 }) ∷ (record { 0 = 4 }) ∷ (record { 0 = 5 }) ∷ []) ∷ ((record { 0 = 3 }) ∷ (record { 0 = 4 }) ∷ (record { 0 = 5 }) ∷ (record { 0 = 6 }) ∷ []) ∷ ((record { 0 = 4 }) ∷ (record { 0 = 5 }) ∷ (record { 0 = 6 }) ∷ (record { 0 = 7 }) ∷ []) ∷ ((record { 0 = 5 }) ∷ (record { 0 = 6 }) ∷ (record { 0 = 7 }) ∷ (record { 0 = 8 }) ∷ []) ∷ ((record { 0 = 6 }) ∷ (record { 0 = 7 }) ∷ (record { 0 = 8 }) ∷ (record { 0 = 9 }) ∷ []) ∷ ((record { 0 = 7 }) ∷ (record { 0 = 8 }) ∷ (record { 0 = 9 }) ∷ (record { 0 = 10 }) ∷ []) ∷ ((record { 0 = 8 }) ∷ (record { 0 = 9 }) ∷ (record { 0 = 10 }) ∷ (record { 0 = 11 }) ∷ []) ∷ ((record { 0 = 9 }) ∷ (record { 0 = 10 }) ∷ (record { 0 = 11 }) ∷ (record { 0 = 0 }) ∷ []) ∷ ((record { 0 = 10 }) ∷ (record { 0 = 11 }) ∷ (record { 0 = 0 }) ∷ (record { 0 = 1 }) ∷ []) ∷ ((record { 0 = 11 }) ∷ (record { 0 = 0 }) ∷ (record { 0 = 1 }) ∷ (record { 0 = 2 }) ∷ []) ∷ ((record { 0 = 0 }) ∷ (record { 0 = 1 }) ∷ (record { 0 = 2 }) ∷ (record { 0 = 3 }) ∷ []) ∷ ((record { 0 = 1 }) ∷ (record { 0 = 2 }) ∷ (record { 0 = 3 }) ∷ (record { 0 = 4 }) ∷ []) ∷ ((record { 0 = 2 }) ∷ (record { 0 = 3 }) ∷ (record { 0 = 4 }) ∷ (record { 0 = 5 }) ∷ []) ∷ ((record { 0 = 3 }) ∷ (record { 0 = 4 }) ∷ (record { 0 = 5 }) ∷ (record { 0 = 6 }) ∷ []) ∷ ((record { 0 = 4 }) ∷ (record { 0 = 5 }) ∷ (record { 0 = 6 }) ∷ (record { 0 = 7 }) ∷ []) ∷ ((record { 0 = 5 }) ∷ (record { 0 = 6 }) ∷ (record { 0 = 7 }) ∷ (record { 0 = 8 }) ∷ []) ∷ ((record { 0 = 6 }) ∷ (record { 0 = 7 }) ∷ (record { 0 = 8 }) ∷ (record { 0 = 9 }) ∷ []) ∷ ((record { 0 = 7 }) ∷ (record { 0 = 8 }) ∷ (record { 0 = 9 }) ∷ (record { 0 = 10 }) ∷ []) ∷ ((record { 0 = 8 }) ∷ (record { 0 = 9 }) ∷ (record { 0 = 10 }) ∷ (record { 0 = 11 }) ∷ []) ∷ ((record { 0 = 9 }) ∷ (record { 0 = 10 }) ∷ (record { 0 = 11 }) ∷ (record { 0 = 0 }) ∷ []) ∷ ((record { 0 = 10 }) ∷ (record { 0 = 11 }) ∷ (record { 0 = 0 }) ∷ (record { 0 = 1 }) ∷ []) ∷ ((record { 0 = 11 }) ∷ (record { 0 = 0 }) ∷ (record { 0 = 1 }) ∷ (record { 0 = 2 }) ∷ []) ∷ ((record { 0 = 0 }) ∷ (record { 0 = 1 }) ∷ (record { 0 = 2 }) ∷ (record { 0 = 3 }) ∷ []) ∷ ((record { 0 = 1 }) ∷ (record { 0 = 2 }) ∷ (record { 0 = 3 }) ∷ (record { 0 = 4 }) ∷ []) ∷ ((record { 0 = 2 }) ∷ (record { 0 = 3 }) ∷ (record { 0 = 4 }) ∷ (record { 0 = 5 }) ∷ []) ∷ ((record { 0 = 3 }) ∷ (record { 0 = 4 }) ∷ (record { 0 = 5 }) ∷ (record { 0 = 6 }) ∷ []) ∷ [])) }); dropped = false }) ∷ []);
    })
unfolding digits
three_resources = refl

pub full_auto : within (codes "$") (described (object (members_from (((codes "controllers"), (number (unsigned 2))) ∷ ((codes "instances"), (array (items_of ((string (codes "n1")) ∷ (string (codes "n2")) ∷ (string (codes "n3")) ∷ [])))) ∷ ((codes "resources"), (array (items_of ((object (members_from (((codes "mode"), (string (codes "FULL_AUTO"))) ∷ ((codes "model"), (string (codes "OnlineOffline"))) ∷ ((codes "name"), (string (codes "db"))) ∷ ((codes "partitions"), (number (unsigned 3))) ∷ ((codes "replicas"), (number (unsigned 2))) ∷ []))) ∷ [])))) ∷ ((codes "timeout"), (number (unsigned 30))) ∷ ((codes "version"), (number (unsigned 1))) ∷ []))))
    ≡ Ok (record plain {
      resources = ((record { name = 0; model = (record { 0 = 1 }); ideal = (record { replicas = 2; parts = 3; mode = modes.Full }); dropped = false }) ∷ []);
    })
unfolding digits
full_auto = refl

pub zero_bound : within (codes "$") (described (object (members_from (((codes "controllers"), (number (unsigned 2))) ∷ ((codes "instances"), (array (items_of ((string (codes "n1")) ∷ (string (codes "n2")) ∷ (string (codes "n3")) ∷ [])))) ∷ ((codes "models"), (array (items_of ((object (members_from (((codes "initial"), (string (codes "OFFLINE"))) ∷ ((codes "name"), (string (codes "Swap"))) ∷ ((codes "states"), (array (items_of ((object (members_from (((codes "bound"), (string (codes "0"))) ∷ ((codes "name"), (string (codes "P"))) ∷ []))) ∷ (object (members_from (((codes "bound"), (string (codes "2"))) ∷ ((codes "name"), (string (codes "Q"))) ∷ []))) ∷ (object (members_from (((codes "bound"), (string (codes "-1"))) ∷ ((codes "name"), (string (codes "OFFLINE"))) ∷ []))) ∷ [])))) ∷ ((codes "transitions"), (array (items_of ((string (codes "OFFLINE>Q")) ∷ (string (codes "Q>P")) ∷ (string (codes "P>Q")) ∷ (string (codes "Q>OFFLINE")) ∷ (string (codes "OFFLINE>DROPPED")) ∷ [])))) ∷ []))) ∷ [])))) ∷ ((codes "resources"), (array (items_of ((object (members_from (((codes "lists"), (array (items_of ((array (items_of ((string (codes "n1")) ∷ (string (codes "n2")) ∷ (string (codes "n3")) ∷ []))) ∷ [])))) ∷ ((codes "mode"), (string (codes "SEMI_AUTO"))) ∷ ((codes "model"), (string (codes "MasterSlave"))) ∷ ((codes "name"), (string (codes "db"))) ∷ ((codes "partitions"), (number (unsigned 1))) ∷ ((codes "replicas"), (number (unsigned 3))) ∷ []))) ∷ [])))) ∷ ((codes "timeout"), (number (unsigned 30))) ∷ ((codes "version"), (number (unsigned 1))) ∷ []))))
    ≡ Err (record { kind = kinds.ZeroBound; path = codes "$.models[0].states[0].bound" })
unfolding digits
zero_bound = refl

pub unknown_instance : within (codes "$") (described (object (members_from (((codes "controllers"), (number (unsigned 2))) ∷ ((codes "instances"), (array (items_of ((string (codes "n1")) ∷ (string (codes "n2")) ∷ (string (codes "n3")) ∷ [])))) ∷ ((codes "resources"), (array (items_of ((object (members_from (((codes "lists"), (array (items_of ((array (items_of ((string (codes "n1")) ∷ (string (codes "n9")) ∷ (string (codes "n3")) ∷ []))) ∷ [])))) ∷ ((codes "mode"), (string (codes "SEMI_AUTO"))) ∷ ((codes "model"), (string (codes "MasterSlave"))) ∷ ((codes "name"), (string (codes "db"))) ∷ ((codes "partitions"), (number (unsigned 1))) ∷ ((codes "replicas"), (number (unsigned 3))) ∷ []))) ∷ [])))) ∷ ((codes "timeout"), (number (unsigned 30))) ∷ ((codes "version"), (number (unsigned 1))) ∷ []))))
    ≡ Err (record { kind = kinds.UnknownInstance; path = codes "$.resources[0].lists[0][1]" })
unfolding digits
unknown_instance = refl
