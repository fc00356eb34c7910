-- Inputs that are made of a seed and a size: a description in one line of JSON, and a script in which each instance is drained once.
use Rattle.std.specs.Prelude.{ℕ, zero, suc, ◌+◌, ◌*◌, ◌/◌, ◌%◌, ◌^◌, List, [], ◌∷◌, ◌++◌, map, codes, decimal, if◌then◌else◌, nat_lt}
use Rattle.std.specs.List.{flat_map, join_with_byte}
use Rattle.hx_lists.specs.Lists.{numbers_below}

-- the next number drawn after another
abbrev pub drawn : ℕ → ℕ
drawn x = (6364136223846793005 * x + 1442695040888963407) % 2 ^ 64

-- twelve instances, i00 to i11
abbrev pub all_instances : List ℕ
all_instances = numbers_below 12

abbrev pub instance_name : ℕ → List ℕ
instance_name n = if nat_lt n 10 then codes "i0" ++ decimal n else codes "i" ++ decimal n

-- the preference list of a number drawn: four instances in turn, from the one that it names
abbrev pub list_of : ℕ → List ℕ
list_of x = map (λ j. (x / 2 ^ 33 % 12 + j) % 12) (numbers_below 4)

-- so many lists, each of the next number drawn
abbrev pub lists_after : ℕ → ℕ → List (List ℕ)
lists_after x zero = []
lists_after x (suc n) = list_of (drawn x) ∷ lists_after (drawn x) n

-- JSON without spaces
abbrev pub quoted : List ℕ → List ℕ
quoted text = codes "\"" ++ text ++ codes "\""

abbrev pub array : List (List ℕ) → List ℕ
array items = codes "[" ++ join_with_byte 44 items ++ codes "]"

abbrev pub instances_array : List ℕ → List ℕ
instances_array instances = array (map (λ n. quoted (instance_name n)) instances)

-- a resource of MasterSlave with a preference list for each partition, and at most four messages at a time for each instance
abbrev pub description : ℕ → ℕ → List ℕ
description seed size =
    codes "{\"version\":1,\"controllers\":2,\"timeout\":30,\"instances\":" ++ instances_array all_instances
    ++ codes ",\"throttles\":[{\"scope\":\"instance\",\"limit\":4}],\"resources\":[{\"name\":\"db\",\"model\":\"MasterSlave\",\"replicas\":3,\"partitions\":"
    ++ decimal size ++ codes ",\"mode\":\"SEMI_AUTO\",\"lists\":" ++ array (map instances_array (lists_after seed size)) ++ codes "}]}\n"

-- all join, and settle; each in turn is drained and comes back, and all settle
abbrev pub join_line : ℕ → List ℕ
join_line n = codes "join " ++ instance_name n ++ codes "\n"

abbrev pub drain_lines : ℕ → List ℕ
drain_lines n = codes "drain " ++ instance_name n ++ codes "\nsettle\nundrain " ++ instance_name n ++ codes "\nsettle\n"

abbrev pub script : List ℕ
script = flat_map join_line all_instances ++ codes "lead c1\nsettle\n" ++ flat_map drain_lines all_instances ++ codes "summary\n"

-- the whole input
abbrev pub made : ℕ → ℕ → List ℕ
made seed size = description seed size ++ codes "---\n" ++ script
