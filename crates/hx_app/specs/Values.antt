-- The description that is made of a seed and a size, as a JSON value.
use Rattle.std.specs.Prelude.{ℕ, List, [], ◌∷◌, map, codes}
use Rattle.serde_json.specs.Data.{Data, number, string, array, object, unsigned, Members, no_members, member}
use Rattle.serde_json.specs.View.{items_of}
use Rattle.hx_genwork.specs.Made.{all_instances, instance_name, lists_after}

-- an array of the names of instances
abbrev pub names_value : List ℕ → Data
names_value instances = array (items_of (map (λ n. string (instance_name n)) instances))

abbrev pub lists_value : List (List ℕ) → Data
lists_value lists = array (items_of (map names_value lists))

-- an array of one item
abbrev pub only : Data → Data
only d = array (items_of (d ∷ []))

-- the members in the order of their names, as a value that was read has them
abbrev pub throttle_value : Data
throttle_value = object (member (codes "limit") (number (unsigned 4)) (member (codes "scope") (string (codes "instance")) no_members))

abbrev pub resource_members : ℕ → ℕ → Members
resource_members seed size =
    member (codes "lists") (lists_value (lists_after seed size)) (member (codes "mode") (string (codes "SEMI_AUTO")) (member (codes "model") (string (codes "MasterSlave"))
    (member (codes "name") (string (codes "db")) (member (codes "partitions") (number (unsigned size)) (member (codes "replicas") (number (unsigned 3)) no_members)))))

abbrev pub resource_value : ℕ → ℕ → Data
resource_value seed size = object (resource_members seed size)

abbrev pub made_members : ℕ → ℕ → Members
made_members seed size =
    member (codes "controllers") (number (unsigned 2)) (member (codes "instances") (names_value all_instances) (member (codes "resources") (only (resource_value seed size))
    (member (codes "throttles") (only throttle_value) (member (codes "timeout") (number (unsigned 30)) (member (codes "version") (number (unsigned 1)) no_members)))))

abbrev pub made_value : ℕ → ℕ → Data
made_value seed size = object (made_members seed size)
