-- The first number drawn of seed 7, and the first of its lists.
use Rattle.std.specs.Prelude.{◌≡◌, [], ◌∷◌, map, codes}
use Rattle.std.specs.Fmt.{digits}
use Rattle.std.proofs.Common.{refl}
use Rattle.hx_genwork.specs.Made.{drawn, list_of, instance_name, made}

pub first_drawn : drawn 7 ≡ 9098160460397411210
first_drawn = refl

pub first_list : map instance_name (list_of (drawn 7)) ≡ codes "i02" ∷ codes "i03" ∷ codes "i04" ∷ codes "i05" ∷ []
unfolding digits
first_list = refl

pub one_partition : made 7 1 ≡ codes "{\"version\":1,\"controllers\":2,\"timeout\":30,\"instances\":[\"i00\",\"i01\",\"i02\",\"i03\",\"i04\",\"i05\",\"i06\",\"i07\",\"i08\",\"i09\",\"i10\",\"i11\"],\"throttles\":[{\"scope\":\"instance\",\"limit\":4}],\"resources\":[{\"name\":\"db\",\"model\":\"MasterSlave\",\"replicas\":3,\"partitions\":1,\"mode\":\"SEMI_AUTO\",\"lists\":[[\"i02\",\"i03\",\"i04\",\"i05\"]]}]}\n---\njoin i00\njoin i01\njoin i02\njoin i03\njoin i04\njoin i05\njoin i06\njoin i07\njoin i08\njoin i09\njoin i10\njoin i11\nlead c1\nsettle\ndrain i00\nsettle\nundrain i00\nsettle\ndrain i01\nsettle\nundrain i01\nsettle\ndrain i02\nsettle\nundrain i02\nsettle\ndrain i03\nsettle\nundrain i03\nsettle\ndrain i04\nsettle\nundrain i04\nsettle\ndrain i05\nsettle\nundrain i05\nsettle\ndrain i06\nsettle\nundrain i06\nsettle\ndrain i07\nsettle\nundrain i07\nsettle\ndrain i08\nsettle\nundrain i08\nsettle\ndrain i09\nsettle\nundrain i09\nsettle\ndrain i10\nsettle\nundrain i10\nsettle\ndrain i11\nsettle\nundrain i11\nsettle\nsummary\n"
unfolding digits
one_partition = refl
