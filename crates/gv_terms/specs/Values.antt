-- Values: their sorts, the zero of a sort, equality, and what is read of a value.
use Rattle.std.specs.Prelude.{ℕ, List, [], Bool, true, false, not, ◌&&◌, Option, Some, None, nat_eq}
use Rattle.std.specs.Str.{bytes_eq}
use Rattle.std.specs.Cmp.Lexicographic.{pointwise}
use Rattle.gv_base.specs.declared.slice_val.SliceVal.{SliceVal}
use Rattle.gv_terms.specs.declared.sort.Sort.{Sort}
use Rattle.gv_terms.specs.declared.sort.Sort.TheVariants as sort
use Rattle.gv_terms.specs.declared.value.Value.{Value}
use Rattle.gv_terms.specs.declared.value.Value.TheVariants as val
use Rattle.gv_terms.specs.Sorts.{sort_eq}

-- the slice of no object
abbrev pub nil_slice : SliceVal
nil_slice = record { object = 0; offset = 0; length = 0; capacity = 0 }

-- the zero of a sort; of names it is the empty one, which no term denotes
abbrev pub zero_of : Sort → Value
zero_of sort.Word = val.Word 0
zero_of sort.Bool = val.Bool false
zero_of sort.Bytes = val.Bytes []
zero_of sort.Words = val.Words []
zero_of sort.Refs = val.Refs []
zero_of sort.Blocks = val.Blocks []
zero_of sort.MapWW = val.MapWW []
zero_of sort.MapWB = val.MapWB []
zero_of sort.Ref = val.Ref 0
zero_of sort.SliceS = val.SliceS nil_slice
zero_of sort.Call = val.Call 0
zero_of sort.Name = val.Name []

-- the sort of a value, and none of the one that stands for no reply
abbrev pub sort_of_value : Value → Option Sort
sort_of_value (val.Word n) = Some sort.Word
sort_of_value (val.Bool b) = Some sort.Bool
sort_of_value (val.Bytes x) = Some sort.Bytes
sort_of_value (val.Words x) = Some sort.Words
sort_of_value (val.Refs x) = Some sort.Refs
sort_of_value (val.Blocks x) = Some sort.Blocks
sort_of_value (val.MapWW m) = Some sort.MapWW
sort_of_value (val.MapWB m) = Some sort.MapWB
sort_of_value (val.Ref r) = Some sort.Ref
sort_of_value (val.SliceS s) = Some sort.SliceS
sort_of_value (val.Call c) = Some sort.Call
sort_of_value (val.Name n) = Some sort.Name
sort_of_value val.Unit = None

abbrev pub is_sort : Sort → Option Sort → Bool
is_sort s None = false
is_sort s (Some r) = sort_eq r s

abbrev pub has_sort : Value → Sort → Bool
has_sort v s = is_sort s (sort_of_value v)

-- equality: of slices by all four numbers, of maps by their entries
abbrev pub bool_eq : Bool → Bool → Bool
bool_eq true b = b
bool_eq false b = not b

abbrev pub slice_eq : SliceVal → SliceVal → Bool
slice_eq s t = nat_eq s.object t.object && nat_eq s.offset t.offset && nat_eq s.length t.length && nat_eq s.capacity t.capacity

abbrev pub entry_eq : {V : Type 0} → (V → V → Bool) → ℕ × V → ℕ × V → Bool
entry_eq eq d e = nat_eq d.0 e.0 && eq d.1 e.1

abbrev pub value_eq : Value → Value → Bool
value_eq (val.Word a) (val.Word b) = nat_eq a b
value_eq (val.Bool a) (val.Bool b) = bool_eq a b
value_eq (val.Bytes a) (val.Bytes b) = bytes_eq a b
value_eq (val.Words a) (val.Words b) = bytes_eq a b
value_eq (val.Refs a) (val.Refs b) = bytes_eq a b
value_eq (val.Blocks a) (val.Blocks b) = pointwise bytes_eq a b
value_eq (val.MapWW a) (val.MapWW b) = pointwise (entry_eq nat_eq) a b
value_eq (val.MapWB a) (val.MapWB b) = pointwise (entry_eq bytes_eq) a b
value_eq (val.Ref a) (val.Ref b) = nat_eq a b
value_eq (val.SliceS a) (val.SliceS b) = slice_eq a b
value_eq (val.Call a) (val.Call b) = nat_eq a b
value_eq (val.Name a) (val.Name b) = bytes_eq a b
value_eq val.Unit val.Unit = true
value_eq _ _ = false

-- what a value of one sort holds, and the zero where it is of another
abbrev pub word_of : Value → ℕ
word_of (val.Word n) = n
word_of _ = 0

abbrev pub truth_of : Value → Bool
truth_of (val.Bool b) = b
truth_of _ = false

abbrev pub bytes_of : Value → List ℕ
bytes_of (val.Bytes x) = x
bytes_of _ = []

abbrev pub ref_of : Value → ℕ
ref_of (val.Ref r) = r
ref_of _ = 0

abbrev pub slice_of : Value → SliceVal
slice_of (val.SliceS s) = s
slice_of _ = nil_slice
