-- What the definitions make of the descriptions of worked cases. Written by tools/described.py.
use Rattle.std.specs.Prelude.{◌≡◌, ℕ, List, [], ◌∷◌, map, Err, negsuc, codes}
use Rattle.std.specs.Fmt.{digits}
use Rattle.std.proofs.Common.{refl}
use Rattle.serde_json.specs.Data.{Data, null, number, string, array, object, unsigned, negative, Members, no_members, member}
use Rattle.serde_json.specs.View.{items_of}
use Rattle.hx_forms.specs.declared.faults.DescKind.{DescKind}
use Rattle.hx_forms.specs.declared.faults.DescKind.TheVariants as kinds
use Rattle.hx_forms.specs.Found.{within}
use Rattle.hx_desc.specs.Description.{described}

abbrev members_from : List (List ℕ × Data) → Members
members_from [] = no_members
members_from (m ∷ ms) = member m.0 m.1 (members_from ms)

-- each description, the kind of its first fault, and the fault's path
abbrev faulty : List (Data × (DescKind × List ℕ))
faulty =
    ((array (items_of ([]))), (kinds.WrongType, codes "$"))
    ∷ ((object (members_from (((codes "instances"), (array (items_of ([])))) ∷ ((codes "more"), (number (unsigned 1))) ∷ ((codes "version"), (number (unsigned 2))) ∷ []))), (kinds.UnknownKey, codes "$"))
    ∷ ((object (members_from ([]))), (kinds.Missing, codes "$.version"))
    ∷ ((object (members_from (((codes "version"), (number (unsigned 1))) ∷ []))), (kinds.Missing, codes "$.instances"))
    ∷ ((object (members_from (((codes "instances"), (array (items_of ((string (codes "n1")) ∷ [])))) ∷ ((codes "version"), null) ∷ []))), (kinds.WrongType, codes "$.version"))
    ∷ ((object (members_from (((codes "controllers"), (number (unsigned 0))) ∷ ((codes "version"), (number (unsigned 2))) ∷ []))), (kinds.OutOfRange, codes "$.version"))
    ∷ ((object (members_from (((codes "controllers"), (number (unsigned 17))) ∷ ((codes "timeout"), (number (unsigned 0))) ∷ ((codes "version"), (number (unsigned 1))) ∷ []))), (kinds.OutOfRange, codes "$.controllers"))
    ∷ ((object (members_from (((codes "instances"), (array (items_of ([])))) ∷ ((codes "timeout"), (number (unsigned 0))) ∷ ((codes "version"), (number (unsigned 1))) ∷ []))), (kinds.OutOfRange, codes "$.timeout"))
    ∷ ((object (members_from (((codes "timeout"), (number (negative (negsuc 0)))) ∷ ((codes "version"), (number (unsigned 1))) ∷ []))), (kinds.WrongType, codes "$.timeout"))
    ∷ ((object (members_from (((codes "instances"), (array (items_of ([])))) ∷ ((codes "models"), (number (unsigned 1))) ∷ ((codes "version"), (number (unsigned 1))) ∷ []))), (kinds.TooFew, codes "$.instances"))
    ∷ ((object (members_from (((codes "instances"), (array (items_of ((string (codes "n1")) ∷ [])))) ∷ ((codes "models"), (array (items_of ((number (unsigned 1)) ∷ (number (unsigned 2)) ∷ (number (unsigned 3)) ∷ (number (unsigned 4)) ∷ (number (unsigned 5)) ∷ (number (unsigned 6)) ∷ [])))) ∷ ((codes "version"), (number (unsigned 1))) ∷ []))), (kinds.TooMany, codes "$.models"))
    ∷ ((object (members_from (((codes "instances"), (array (items_of ((string (codes "n1")) ∷ (string (codes "1n")) ∷ (string (codes "n1")) ∷ [])))) ∷ ((codes "version"), (number (unsigned 1))) ∷ []))), (kinds.BadName, codes "$.instances[1]"))
    ∷ ((object (members_from (((codes "instances"), (array (items_of ((string (codes "n1")) ∷ (string (codes "n2")) ∷ (string (codes "n1")) ∷ [])))) ∷ ((codes "version"), (number (unsigned 1))) ∷ []))), (kinds.Twice, codes "$.instances[2]"))
    ∷ ((object (members_from (((codes "instances"), (array (items_of ((string (codes "n1")) ∷ [])))) ∷ ((codes "models"), (array (items_of ((object (members_from (((codes "name"), (string (codes "MasterSlave"))) ∷ []))) ∷ [])))) ∷ ((codes "version"), (number (unsigned 1))) ∷ []))), (kinds.Twice, codes "$.models[0].name"))
    ∷ ((object (members_from (((codes "instances"), (array (items_of ((string (codes "n1")) ∷ [])))) ∷ ((codes "models"), (array (items_of ((object (members_from (((codes "name"), (string (codes "M"))) ∷ ((codes "states"), (array (items_of ((number (unsigned 1)) ∷ (number (unsigned 2)) ∷ (number (unsigned 3)) ∷ (number (unsigned 4)) ∷ (number (unsigned 5)) ∷ (number (unsigned 6)) ∷ (number (unsigned 7)) ∷ (number (unsigned 8)) ∷ (number (unsigned 9)) ∷ (number (unsigned 10)) ∷ (number (unsigned 11)) ∷ (number (unsigned 12)) ∷ (number (unsigned 13)) ∷ (number (unsigned 14)) ∷ (number (unsigned 15)) ∷ (number (unsigned 16)) ∷ (number (unsigned 17)) ∷ [])))) ∷ []))) ∷ [])))) ∷ ((codes "version"), (number (unsigned 1))) ∷ []))), (kinds.TooMany, codes "$.models[0].states"))
    ∷ ((object (members_from (((codes "instances"), (array (items_of ((string (codes "n1")) ∷ [])))) ∷ ((codes "models"), (array (items_of ((object (members_from (((codes "name"), (string (codes "M"))) ∷ ((codes "states"), (array (items_of ((object (members_from (((codes "bound"), (string (codes "4294967296"))) ∷ ((codes "name"), (string (codes "A"))) ∷ []))) ∷ [])))) ∷ []))) ∷ [])))) ∷ ((codes "version"), (number (unsigned 1))) ∷ []))), (kinds.BadBound, codes "$.models[0].states[0].bound"))
    ∷ ((object (members_from (((codes "instances"), (array (items_of ((string (codes "n1")) ∷ [])))) ∷ ((codes "models"), (array (items_of ((object (members_from (((codes "name"), (string (codes "M"))) ∷ ((codes "states"), (array (items_of ((object (members_from (((codes "bound"), (string (codes "00"))) ∷ ((codes "name"), (string (codes "A"))) ∷ []))) ∷ [])))) ∷ []))) ∷ [])))) ∷ ((codes "version"), (number (unsigned 1))) ∷ []))), (kinds.BadBound, codes "$.models[0].states[0].bound"))
    ∷ ((object (members_from (((codes "instances"), (array (items_of ((string (codes "n1")) ∷ [])))) ∷ ((codes "models"), (array (items_of ((object (members_from (((codes "name"), (string (codes "M"))) ∷ ((codes "states"), (array (items_of ((object (members_from (((codes "bound"), (string (codes "4294967295"))) ∷ ((codes "name"), (string (codes "A"))) ∷ []))) ∷ (object (members_from (((codes "bound"), (string (codes "0"))) ∷ ((codes "name"), (string (codes "B"))) ∷ []))) ∷ [])))) ∷ []))) ∷ [])))) ∷ ((codes "version"), (number (unsigned 1))) ∷ []))), (kinds.ZeroBound, codes "$.models[0].states[1].bound"))
    ∷ ((object (members_from (((codes "instances"), (array (items_of ((string (codes "n1")) ∷ [])))) ∷ ((codes "models"), (array (items_of ((object (members_from (((codes "name"), (string (codes "M"))) ∷ ((codes "states"), (array (items_of ((object (members_from (((codes "bound"), (string (codes "0"))) ∷ ((codes "name"), (string (codes "DROPPED"))) ∷ []))) ∷ [])))) ∷ []))) ∷ [])))) ∷ ((codes "version"), (number (unsigned 1))) ∷ []))), (kinds.ReservedState, codes "$.models[0].states[0].name"))
    ∷ ((object (members_from (((codes "instances"), (array (items_of ((string (codes "n1")) ∷ [])))) ∷ ((codes "models"), (array (items_of ((object (members_from (((codes "name"), (string (codes "M"))) ∷ ((codes "states"), (array (items_of ((object (members_from (((codes "bound"), (string (codes "-1"))) ∷ ((codes "name"), (string (codes "A"))) ∷ []))) ∷ (object (members_from (((codes "bound"), (string (codes "0"))) ∷ ((codes "name"), (string (codes "A"))) ∷ []))) ∷ [])))) ∷ []))) ∷ [])))) ∷ ((codes "version"), (number (unsigned 1))) ∷ []))), (kinds.Twice, codes "$.models[0].states[1].name"))
    ∷ ((object (members_from (((codes "instances"), (array (items_of ((string (codes "n1")) ∷ [])))) ∷ ((codes "models"), (array (items_of ((object (members_from (((codes "initial"), (string (codes "A"))) ∷ ((codes "name"), (string (codes "M"))) ∷ ((codes "states"), (array (items_of ([])))) ∷ ((codes "transitions"), (array (items_of ([])))) ∷ []))) ∷ [])))) ∷ ((codes "version"), (number (unsigned 1))) ∷ []))), (kinds.UnknownState, codes "$.models[0].initial"))
    ∷ ((object (members_from (((codes "instances"), (array (items_of ((string (codes "n1")) ∷ [])))) ∷ ((codes "models"), (array (items_of ((object (members_from (((codes "initial"), (string (codes "A"))) ∷ ((codes "name"), (string (codes "M"))) ∷ ((codes "states"), (array (items_of ((object (members_from (((codes "bound"), (string (codes "R"))) ∷ ((codes "name"), (string (codes "A"))) ∷ []))) ∷ [])))) ∷ ((codes "transitions"), (array (items_of ([])))) ∷ []))) ∷ [])))) ∷ ((codes "version"), (number (unsigned 1))) ∷ []))), (kinds.InitialBounded, codes "$.models[0].initial"))
    ∷ ((object (members_from (((codes "instances"), (array (items_of ((string (codes "n1")) ∷ [])))) ∷ ((codes "models"), (array (items_of ((object (members_from (((codes "initial"), (string (codes "A"))) ∷ ((codes "name"), (string (codes "M"))) ∷ ((codes "states"), (array (items_of ((object (members_from (((codes "bound"), (string (codes "-1"))) ∷ ((codes "name"), (string (codes "A"))) ∷ []))) ∷ [])))) ∷ ((codes "transitions"), (array (items_of ((string (codes "A>B>C")) ∷ [])))) ∷ []))) ∷ [])))) ∷ ((codes "version"), (number (unsigned 1))) ∷ []))), (kinds.BadTransition, codes "$.models[0].transitions[0]"))
    ∷ ((object (members_from (((codes "instances"), (array (items_of ((string (codes "n1")) ∷ [])))) ∷ ((codes "models"), (array (items_of ((object (members_from (((codes "initial"), (string (codes "A"))) ∷ ((codes "name"), (string (codes "M"))) ∷ ((codes "states"), (array (items_of ((object (members_from (((codes "bound"), (string (codes "-1"))) ∷ ((codes "name"), (string (codes "A"))) ∷ []))) ∷ [])))) ∷ ((codes "transitions"), (array (items_of ((string (codes "DROPPED>DROPPED")) ∷ [])))) ∷ []))) ∷ [])))) ∷ ((codes "version"), (number (unsigned 1))) ∷ []))), (kinds.ReservedState, codes "$.models[0].transitions[0]"))
    ∷ ((object (members_from (((codes "instances"), (array (items_of ((string (codes "n1")) ∷ [])))) ∷ ((codes "models"), (array (items_of ((object (members_from (((codes "initial"), (string (codes "A"))) ∷ ((codes "name"), (string (codes "M"))) ∷ ((codes "states"), (array (items_of ((object (members_from (((codes "bound"), (string (codes "-1"))) ∷ ((codes "name"), (string (codes "A"))) ∷ []))) ∷ [])))) ∷ ((codes "transitions"), (array (items_of ((string (codes "A>DROPPED")) ∷ (string (codes "A>MASTER")) ∷ [])))) ∷ []))) ∷ [])))) ∷ ((codes "version"), (number (unsigned 1))) ∷ []))), (kinds.UnknownState, codes "$.models[0].transitions[1]"))
    ∷ ((object (members_from (((codes "instances"), (array (items_of ((string (codes "n1")) ∷ [])))) ∷ ((codes "models"), (array (items_of ((object (members_from (((codes "initial"), (string (codes "A"))) ∷ ((codes "name"), (string (codes "M"))) ∷ ((codes "states"), (array (items_of ((object (members_from (((codes "bound"), (string (codes "-1"))) ∷ ((codes "name"), (string (codes "A"))) ∷ []))) ∷ [])))) ∷ ((codes "transitions"), (array (items_of ((string (codes "A>A")) ∷ [])))) ∷ []))) ∷ [])))) ∷ ((codes "version"), (number (unsigned 1))) ∷ []))), (kinds.SelfLoop, codes "$.models[0].transitions[0]"))
    ∷ ((object (members_from (((codes "instances"), (array (items_of ((string (codes "n1")) ∷ [])))) ∷ ((codes "models"), (array (items_of ((object (members_from (((codes "initial"), (string (codes "A"))) ∷ ((codes "name"), (string (codes "M"))) ∷ ((codes "states"), (array (items_of ((object (members_from (((codes "bound"), (string (codes "-1"))) ∷ ((codes "name"), (string (codes "A"))) ∷ []))) ∷ [])))) ∷ ((codes "transitions"), (array (items_of ((string (codes "A>DROPPED")) ∷ (string (codes "A>DROPPED")) ∷ [])))) ∷ []))) ∷ [])))) ∷ ((codes "version"), (number (unsigned 1))) ∷ []))), (kinds.TwiceTransition, codes "$.models[0].transitions[1]"))
    ∷ ((object (members_from (((codes "instances"), (array (items_of ((string (codes "n1")) ∷ [])))) ∷ ((codes "models"), (array (items_of ((object (members_from (((codes "initial"), (string (codes "A"))) ∷ ((codes "name"), (string (codes "M"))) ∷ ((codes "states"), (array (items_of ((object (members_from (((codes "bound"), (string (codes "-1"))) ∷ ((codes "name"), (string (codes "A"))) ∷ []))) ∷ [])))) ∷ ((codes "transitions"), (array (items_of ([])))) ∷ []))) ∷ [])))) ∷ ((codes "version"), (number (unsigned 1))) ∷ []))), (kinds.NoDrop, codes "$.models[0]"))
    ∷ ((object (members_from (((codes "instances"), (array (items_of ((string (codes "n1")) ∷ [])))) ∷ ((codes "models"), (array (items_of ((object (members_from (((codes "initial"), (string (codes "A"))) ∷ ((codes "name"), (string (codes "M"))) ∷ ((codes "states"), (array (items_of ((object (members_from (((codes "bound"), (string (codes "-1"))) ∷ ((codes "name"), (string (codes "A"))) ∷ []))) ∷ (object (members_from (((codes "bound"), (string (codes "1"))) ∷ ((codes "name"), (string (codes "B"))) ∷ []))) ∷ [])))) ∷ ((codes "transitions"), (array (items_of ((string (codes "A>DROPPED")) ∷ (string (codes "B>A")) ∷ [])))) ∷ []))) ∷ [])))) ∷ ((codes "version"), (number (unsigned 1))) ∷ []))), (kinds.CantReach, codes "$.models[0]"))
    ∷ ((object (members_from (((codes "instances"), (array (items_of ((string (codes "n1")) ∷ [])))) ∷ ((codes "models"), (array (items_of ((object (members_from (((codes "initial"), (string (codes "A"))) ∷ ((codes "name"), (string (codes "M"))) ∷ ((codes "states"), (array (items_of ((object (members_from (((codes "bound"), (string (codes "-1"))) ∷ ((codes "name"), (string (codes "A"))) ∷ []))) ∷ (object (members_from (((codes "bound"), (string (codes "1"))) ∷ ((codes "name"), (string (codes "B"))) ∷ []))) ∷ [])))) ∷ ((codes "transitions"), (array (items_of ((string (codes "A>DROPPED")) ∷ (string (codes "A>B")) ∷ [])))) ∷ []))) ∷ [])))) ∷ ((codes "version"), (number (unsigned 1))) ∷ []))), (kinds.CantLeave, codes "$.models[0]"))
    ∷ ((object (members_from (((codes "instances"), (array (items_of ((string (codes "n1")) ∷ [])))) ∷ ((codes "throttles"), (array (items_of ((object (members_from (((codes "limit"), (number (unsigned 0))) ∷ ((codes "scope"), (string (codes "part"))) ∷ []))) ∷ [])))) ∷ ((codes "version"), (number (unsigned 1))) ∷ []))), (kinds.BadScope, codes "$.throttles[0].scope"))
    ∷ ((object (members_from (((codes "instances"), (array (items_of ((string (codes "n1")) ∷ [])))) ∷ ((codes "throttles"), (array (items_of ((object (members_from (((codes "limit"), (number (unsigned 65535))) ∷ ((codes "scope"), (string (codes "cluster"))) ∷ []))) ∷ (object (members_from (((codes "limit"), (number (unsigned 65536))) ∷ ((codes "scope"), (string (codes "cluster"))) ∷ []))) ∷ [])))) ∷ ((codes "version"), (number (unsigned 1))) ∷ []))), (kinds.OutOfRange, codes "$.throttles[1].limit"))
    ∷ ((object (members_from (((codes "instances"), (array (items_of ((string (codes "n1")) ∷ [])))) ∷ ((codes "throttles"), (array (items_of ((object (members_from (((codes "from"), (string (codes "DROPPED"))) ∷ ((codes "limit"), (number (unsigned 1))) ∷ ((codes "scope"), (string (codes "cluster"))) ∷ []))) ∷ [])))) ∷ ((codes "version"), (number (unsigned 1))) ∷ []))), (kinds.UnknownState, codes "$.throttles[0].from"))
    ∷ ((object (members_from (((codes "instances"), (array (items_of ((string (codes "n1")) ∷ [])))) ∷ ((codes "throttles"), (array (items_of ((object (members_from (((codes "from"), (string (codes "ERROR"))) ∷ ((codes "limit"), (number (unsigned 1))) ∷ ((codes "scope"), (string (codes "cluster"))) ∷ ((codes "to"), (string (codes "ERROR"))) ∷ []))) ∷ [])))) ∷ ((codes "version"), (number (unsigned 1))) ∷ []))), (kinds.UnknownState, codes "$.throttles[0].to"))
    ∷ ((object (members_from (((codes "instances"), (array (items_of ((string (codes "n1")) ∷ [])))) ∷ ((codes "throttles"), (array (items_of ((object (members_from (((codes "from"), (string (codes "ERROR"))) ∷ ((codes "limit"), (number (unsigned 1))) ∷ ((codes "scope"), (string (codes "cluster"))) ∷ []))) ∷ [])))) ∷ ((codes "version"), (number (unsigned 1))) ∷ []))), (kinds.HalfTransition, codes "$.throttles[0]"))
    ∷ ((object (members_from (((codes "instances"), (array (items_of ((string (codes "n1")) ∷ [])))) ∷ ((codes "resources"), (array (items_of ((object (members_from (((codes "model"), (string (codes "M"))) ∷ ((codes "name"), (string (codes "db"))) ∷ ((codes "replicas"), (number (unsigned 0))) ∷ []))) ∷ [])))) ∷ ((codes "version"), (number (unsigned 1))) ∷ []))), (kinds.UnknownModel, codes "$.resources[0].model"))
    ∷ ((object (members_from (((codes "instances"), (array (items_of ((string (codes "n1")) ∷ [])))) ∷ ((codes "resources"), (array (items_of ((object (members_from (((codes "mode"), (string (codes "FULL_AUTO"))) ∷ ((codes "model"), (string (codes "MasterSlave"))) ∷ ((codes "name"), (string (codes "db"))) ∷ ((codes "partitions"), (number (unsigned 1))) ∷ ((codes "replicas"), (number (unsigned 1))) ∷ []))) ∷ (object (members_from (((codes "name"), (string (codes "db"))) ∷ []))) ∷ [])))) ∷ ((codes "version"), (number (unsigned 1))) ∷ []))), (kinds.Twice, codes "$.resources[1].name"))
    ∷ ((object (members_from (((codes "instances"), (array (items_of ((string (codes "n1")) ∷ [])))) ∷ ((codes "resources"), (array (items_of ((object (members_from (((codes "model"), (string (codes "MasterSlave"))) ∷ ((codes "name"), (string (codes "db"))) ∷ ((codes "partitions"), (number (unsigned 0))) ∷ ((codes "replicas"), (number (unsigned 65))) ∷ []))) ∷ [])))) ∷ ((codes "version"), (number (unsigned 1))) ∷ []))), (kinds.OutOfRange, codes "$.resources[0].replicas"))
    ∷ ((object (members_from (((codes "instances"), (array (items_of ((string (codes "n1")) ∷ [])))) ∷ ((codes "resources"), (array (items_of ((object (members_from (((codes "mode"), (string [])) ∷ ((codes "model"), (string (codes "MasterSlave"))) ∷ ((codes "name"), (string (codes "db"))) ∷ ((codes "partitions"), (number (unsigned 1025))) ∷ ((codes "replicas"), (number (unsigned 64))) ∷ []))) ∷ [])))) ∷ ((codes "version"), (number (unsigned 1))) ∷ []))), (kinds.OutOfRange, codes "$.resources[0].partitions"))
    ∷ ((object (members_from (((codes "instances"), (array (items_of ((string (codes "n1")) ∷ [])))) ∷ ((codes "resources"), (array (items_of ((object (members_from (((codes "mode"), (string (codes "AUTO"))) ∷ ((codes "model"), (string (codes "MasterSlave"))) ∷ ((codes "name"), (string (codes "db"))) ∷ ((codes "partitions"), (number (unsigned 1024))) ∷ ((codes "replicas"), (number (unsigned 1))) ∷ []))) ∷ [])))) ∷ ((codes "version"), (number (unsigned 1))) ∷ []))), (kinds.BadMode, codes "$.resources[0].mode"))
    ∷ ((object (members_from (((codes "instances"), (array (items_of ((string (codes "n1")) ∷ [])))) ∷ ((codes "resources"), (array (items_of ((object (members_from (((codes "mode"), (string (codes "SEMI_AUTO"))) ∷ ((codes "model"), (string (codes "MasterSlave"))) ∷ ((codes "name"), (string (codes "db"))) ∷ ((codes "partitions"), (number (unsigned 1))) ∷ ((codes "replicas"), (number (unsigned 1))) ∷ []))) ∷ [])))) ∷ ((codes "version"), (number (unsigned 1))) ∷ []))), (kinds.Missing, codes "$.resources[0].lists"))
    ∷ ((object (members_from (((codes "instances"), (array (items_of ((string (codes "n1")) ∷ [])))) ∷ ((codes "resources"), (array (items_of ((object (members_from (((codes "lists"), (array (items_of ((number (unsigned 1)) ∷ (number (unsigned 2)) ∷ [])))) ∷ ((codes "mode"), (string (codes "CUSTOMIZED"))) ∷ ((codes "model"), (string (codes "MasterSlave"))) ∷ ((codes "name"), (string (codes "db"))) ∷ ((codes "partitions"), (number (unsigned 1))) ∷ ((codes "replicas"), (number (unsigned 1))) ∷ []))) ∷ [])))) ∷ ((codes "version"), (number (unsigned 1))) ∷ []))), (kinds.WrongMode, codes "$.resources[0].lists"))
    ∷ ((object (members_from (((codes "instances"), (array (items_of ((string (codes "n1")) ∷ [])))) ∷ ((codes "resources"), (array (items_of ((object (members_from (((codes "maps"), (object (members_from ([])))) ∷ ((codes "mode"), (string (codes "FULL_AUTO"))) ∷ ((codes "model"), (string (codes "MasterSlave"))) ∷ ((codes "name"), (string (codes "db"))) ∷ ((codes "partitions"), (number (unsigned 1))) ∷ ((codes "replicas"), (number (unsigned 1))) ∷ []))) ∷ [])))) ∷ ((codes "version"), (number (unsigned 1))) ∷ []))), (kinds.WrongType, codes "$.resources[0].maps"))
    ∷ ((object (members_from (((codes "instances"), (array (items_of ((string (codes "n1")) ∷ [])))) ∷ ((codes "resources"), (array (items_of ((object (members_from (((codes "lists"), (array (items_of ((number (unsigned 1)) ∷ (number (unsigned 2)) ∷ [])))) ∷ ((codes "mode"), (string (codes "SEMI_AUTO"))) ∷ ((codes "model"), (string (codes "MasterSlave"))) ∷ ((codes "name"), (string (codes "db"))) ∷ ((codes "partitions"), (number (unsigned 1))) ∷ ((codes "replicas"), (number (unsigned 1))) ∷ []))) ∷ [])))) ∷ ((codes "version"), (number (unsigned 1))) ∷ []))), (kinds.PartCount, codes "$.resources[0].lists"))
    ∷ ((object (members_from (((codes "instances"), (array (items_of ((string (codes "n1")) ∷ [])))) ∷ ((codes "resources"), (array (items_of ((object (members_from (((codes "lists"), (array (items_of ((array (items_of ((string (codes "n1")) ∷ (string (codes "n9")) ∷ []))) ∷ [])))) ∷ ((codes "mode"), (string (codes "SEMI_AUTO"))) ∷ ((codes "model"), (string (codes "MasterSlave"))) ∷ ((codes "name"), (string (codes "db"))) ∷ ((codes "partitions"), (number (unsigned 1))) ∷ ((codes "replicas"), (number (unsigned 1))) ∷ []))) ∷ [])))) ∷ ((codes "version"), (number (unsigned 1))) ∷ []))), (kinds.UnknownInstance, codes "$.resources[0].lists[0][1]"))
    ∷ ((object (members_from (((codes "instances"), (array (items_of ((string (codes "n1")) ∷ [])))) ∷ ((codes "resources"), (array (items_of ((object (members_from (((codes "lists"), (array (items_of ((array (items_of ((string (codes "n1")) ∷ (string (codes "n1")) ∷ []))) ∷ [])))) ∷ ((codes "mode"), (string (codes "SEMI_AUTO"))) ∷ ((codes "model"), (string (codes "MasterSlave"))) ∷ ((codes "name"), (string (codes "db"))) ∷ ((codes "partitions"), (number (unsigned 1))) ∷ ((codes "replicas"), (number (unsigned 1))) ∷ []))) ∷ [])))) ∷ ((codes "version"), (number (unsigned 1))) ∷ []))), (kinds.TwiceInList, codes "$.resources[0].lists[0][1]"))
    ∷ ((object (members_from (((codes "instances"), (array (items_of ((string (codes "n1")) ∷ [])))) ∷ ((codes "resources"), (array (items_of ((object (members_from (((codes "maps"), (array (items_of ((array (items_of ((object (members_from (((codes "instance"), (string (codes "n1"))) ∷ ((codes "state"), (string (codes "SLAVE"))) ∷ []))) ∷ (object (members_from (((codes "instance"), (string (codes "n1"))) ∷ ((codes "state"), (string (codes "A"))) ∷ []))) ∷ []))) ∷ [])))) ∷ ((codes "mode"), (string (codes "CUSTOMIZED"))) ∷ ((codes "model"), (string (codes "MasterSlave"))) ∷ ((codes "name"), (string (codes "db"))) ∷ ((codes "partitions"), (number (unsigned 1))) ∷ ((codes "replicas"), (number (unsigned 1))) ∷ []))) ∷ [])))) ∷ ((codes "version"), (number (unsigned 1))) ∷ []))), (kinds.TwiceInList, codes "$.resources[0].maps[0][1].instance"))
    ∷ ((object (members_from (((codes "instances"), (array (items_of ((string (codes "n1")) ∷ [])))) ∷ ((codes "resources"), (array (items_of ((object (members_from (((codes "maps"), (array (items_of ((array (items_of ((object (members_from (((codes "instance"), (string (codes "n1"))) ∷ ((codes "state"), (string (codes "ERROR"))) ∷ []))) ∷ []))) ∷ [])))) ∷ ((codes "mode"), (string (codes "CUSTOMIZED"))) ∷ ((codes "model"), (string (codes "MasterSlave"))) ∷ ((codes "name"), (string (codes "db"))) ∷ ((codes "partitions"), (number (unsigned 1))) ∷ ((codes "replicas"), (number (unsigned 1))) ∷ []))) ∷ [])))) ∷ ((codes "version"), (number (unsigned 1))) ∷ []))), (kinds.UnknownState, codes "$.resources[0].maps[0][0].state"))
    ∷ ((object (members_from (((codes "failures"), (array (items_of ((object (members_from (((codes "instance"), (string (codes "n1"))) ∷ ((codes "part"), (number (unsigned 0))) ∷ ((codes "resource"), (string (codes "db"))) ∷ ((codes "run"), (number (unsigned 1))) ∷ []))) ∷ [])))) ∷ ((codes "instances"), (array (items_of ((string (codes "n1")) ∷ [])))) ∷ ((codes "version"), (number (unsigned 1))) ∷ []))), (kinds.UnknownResource, codes "$.failures[0].resource"))
    ∷ ((object (members_from (((codes "failures"), (array (items_of ((object (members_from (((codes "instance"), (string (codes "n1"))) ∷ ((codes "part"), (number (unsigned 1))) ∷ ((codes "resource"), (string (codes "db"))) ∷ ((codes "run"), (number (unsigned 0))) ∷ []))) ∷ [])))) ∷ ((codes "instances"), (array (items_of ((string (codes "n1")) ∷ [])))) ∷ ((codes "resources"), (array (items_of ((object (members_from (((codes "mode"), (string (codes "FULL_AUTO"))) ∷ ((codes "model"), (string (codes "MasterSlave"))) ∷ ((codes "name"), (string (codes "db"))) ∷ ((codes "partitions"), (number (unsigned 1))) ∷ ((codes "replicas"), (number (unsigned 1))) ∷ []))) ∷ [])))) ∷ ((codes "version"), (number (unsigned 1))) ∷ []))), (kinds.NoPart, codes "$.failures[0].part"))
    ∷ ((object (members_from (((codes "failures"), (array (items_of ((object (members_from (((codes "instance"), (string (codes "n1"))) ∷ ((codes "make"), (number (unsigned 0))) ∷ ((codes "part"), (number (unsigned 0))) ∷ ((codes "resource"), (string (codes "db"))) ∷ ((codes "run"), (number (unsigned 1000001))) ∷ []))) ∷ [])))) ∷ ((codes "instances"), (array (items_of ((string (codes "n1")) ∷ [])))) ∷ ((codes "resources"), (array (items_of ((object (members_from (((codes "mode"), (string (codes "FULL_AUTO"))) ∷ ((codes "model"), (string (codes "MasterSlave"))) ∷ ((codes "name"), (string (codes "db"))) ∷ ((codes "partitions"), (number (unsigned 1))) ∷ ((codes "replicas"), (number (unsigned 1))) ∷ []))) ∷ [])))) ∷ ((codes "version"), (number (unsigned 1))) ∷ []))), (kinds.OutOfRange, codes "$.failures[0].run"))
    ∷ ((object (members_from (((codes "failures"), (array (items_of ((object (members_from (((codes "instance"), (string (codes "n1"))) ∷ ((codes "make"), (number (unsigned 1))) ∷ ((codes "part"), (number (unsigned 0))) ∷ ((codes "resource"), (string (codes "db"))) ∷ ((codes "run"), (number (unsigned 1000000))) ∷ []))) ∷ [])))) ∷ ((codes "instances"), (array (items_of ((string (codes "n1")) ∷ [])))) ∷ ((codes "resources"), (array (items_of ((object (members_from (((codes "mode"), (string (codes "FULL_AUTO"))) ∷ ((codes "model"), (string (codes "MasterSlave"))) ∷ ((codes "name"), (string (codes "db"))) ∷ ((codes "partitions"), (number (unsigned 1))) ∷ ((codes "replicas"), (number (unsigned 1))) ∷ []))) ∷ [])))) ∷ ((codes "version"), (number (unsigned 1))) ∷ []))), (kinds.RunOrMake, codes "$.failures[0]"))
    ∷ ((object (members_from (((codes "failures"), (array (items_of ((object (members_from (((codes "instance"), (string (codes "n1"))) ∷ ((codes "part"), (number (unsigned 0))) ∷ ((codes "resource"), (string (codes "db"))) ∷ []))) ∷ [])))) ∷ ((codes "instances"), (array (items_of ((string (codes "n1")) ∷ [])))) ∷ ((codes "resources"), (array (items_of ((object (members_from (((codes "mode"), (string (codes "FULL_AUTO"))) ∷ ((codes "model"), (string (codes "MasterSlave"))) ∷ ((codes "name"), (string (codes "db"))) ∷ ((codes "partitions"), (number (unsigned 1))) ∷ ((codes "replicas"), (number (unsigned 1))) ∷ []))) ∷ [])))) ∷ ((codes "version"), (number (unsigned 1))) ∷ []))), (kinds.RunOrMake, codes "$.failures[0]"))
    ∷ []

pub each_fault : map (λ c. within (codes "$") (described c.0)) faulty ≡ map (λ c. Err (record { kind = c.1.0; path = c.1.1 })) faulty
unfolding digits
each_fault = refl
