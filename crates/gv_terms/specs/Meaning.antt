-- The value of an operator over values. Where a value has another sort than the operator wants,
-- it is read as the zero, and an operator on lists or maps gives `Unit`; terms with a sort never come
-- there, since the value of each of their parts has the part's sort (`ValuesHaveSorts` of `Laws`).
use Rattle.std.specs.Prelude.{ℕ, ◌+◌, ◌-◌, ◌%◌, ◌^◌, List, [], ◌++◌, Bool, true, false, not, ◌&&◌, ◌||◌, nat_eq, nat_lt, nat_le, if◌then◌else◌, length, take, drop, replicate, slice_set, slice_index_or, is_some, bit_and, bit_or, bit_xor}
use Rattle.std.specs.Str.{bytes_eq}
use Rattle.std.specs.List.{list_all}
use Rattle.std.specs.Option.{unwrap_or}
use Rattle.gv_base.specs.declared.slice_val.SliceVal.{SliceVal}
use Rattle.gv_terms.specs.declared.value.Value.{Value}
use Rattle.gv_terms.specs.declared.value.Value.TheVariants as val
use Rattle.gv_terms.specs.declared.operator.Operator.{Operator}
use Rattle.gv_terms.specs.declared.operator.Operator.TheVariants as op
use Rattle.gv_words.specs.Words as words
use Rattle.gv_words.specs.Maps.{entry_at, with_entry, without}
use Rattle.gv_terms.specs.Values.{nil_slice, value_eq, word_of, truth_of, bytes_of, ref_of, slice_of}

-- Lists.

-- one more than the greatest length of a list
abbrev pub too_long : ℕ
too_long = 2 ^ 63

-- the items from a on and before b, where b is cut to the length
abbrev pub part_of : {A : Type 0} → List A → ℕ → ℕ → List A
part_of x a b = drop a (take b x)

-- x then y, or x where the two together are too long
abbrev pub joined : {A : Type 0} → List A → List A → List A
joined x y = if nat_lt (length x + length y) too_long then x ++ y else x

abbrev pub length_of : Value → Value
length_of (val.Bytes x) = val.Word (length x)
length_of (val.Words x) = val.Word (length x)
length_of (val.Refs x) = val.Word (length x)
length_of (val.Blocks x) = val.Word (length x)
length_of _ = val.Unit

-- the item at i, or the zero of the items' sort
abbrev pub item_at : Value → ℕ → Value
item_at (val.Bytes x) i = val.Word (slice_index_or x i 0)
item_at (val.Words x) i = val.Word (slice_index_or x i 0)
item_at (val.Refs x) i = val.Ref (slice_index_or x i 0)
item_at (val.Blocks x) i = val.Bytes (slice_index_or x i [])
item_at _ i = val.Unit

-- the list with item i set, or the list itself where it has no item i
abbrev pub with_item : Value → ℕ → Value → Value
with_item (val.Bytes x) i v = val.Bytes (slice_set x i (word_of v % 256))
with_item (val.Words x) i v = val.Words (slice_set x i (word_of v))
with_item (val.Refs x) i v = val.Refs (slice_set x i (ref_of v))
with_item (val.Blocks x) i v = val.Blocks (slice_set x i (bytes_of v))
with_item _ i v = val.Unit

abbrev pub items_between : Value → ℕ → ℕ → Value
items_between (val.Bytes x) a b = val.Bytes (part_of x a b)
items_between (val.Words x) a b = val.Words (part_of x a b)
items_between (val.Refs x) a b = val.Refs (part_of x a b)
items_between (val.Blocks x) a b = val.Blocks (part_of x a b)
items_between _ a b = val.Unit

abbrev pub both_lists : Value → Value → Value
both_lists (val.Bytes x) (val.Bytes y) = val.Bytes (joined x y)
both_lists (val.Words x) (val.Words y) = val.Words (joined x y)
both_lists (val.Refs x) (val.Refs y) = val.Refs (joined x y)
both_lists (val.Blocks x) (val.Blocks y) = val.Blocks (joined x y)
both_lists _ _ = val.Unit

-- whether each item is the zero of its sort
abbrev pub all_zero : Value → Value
all_zero (val.Bytes x) = val.Bool (list_all (λ v. nat_eq v 0) x)
all_zero (val.Words x) = val.Bool (list_all (λ v. nat_eq v 0) x)
all_zero (val.Refs x) = val.Bool (list_all (λ v. nat_eq v 0) x)
all_zero (val.Blocks x) = val.Bool (list_all (λ v. bytes_eq v []) x)
all_zero _ = val.Unit

-- Maps.

-- what the map holds under a key, or the zero
abbrev pub held_at : Value → ℕ → Value
held_at (val.MapWW m) k = val.Word (unwrap_or (entry_at m k) 0)
held_at (val.MapWB m) k = val.Bytes (unwrap_or (entry_at m k) [])
held_at _ k = val.Unit

abbrev pub holds_at : Value → ℕ → Value
holds_at (val.MapWW m) k = val.Bool (is_some (entry_at m k))
holds_at (val.MapWB m) k = val.Bool (is_some (entry_at m k))
holds_at _ k = val.Unit

abbrev pub map_with : Value → ℕ → Value → Value
map_with (val.MapWW m) k v = val.MapWW (with_entry m k (word_of v))
map_with (val.MapWB m) k v = val.MapWB (with_entry m k (bytes_of v))
map_with _ k v = val.Unit

abbrev pub map_without : Value → ℕ → Value
map_without (val.MapWW m) k = val.MapWW (without m k)
map_without (val.MapWB m) k = val.MapWB (without m k)
map_without _ k = val.Unit

-- Slices.

-- the slice of the cells from a to before b, which may be spare ones; its capacity ends where the old one ends
abbrev pub slice_between : SliceVal → ℕ → ℕ → SliceVal
slice_between s a b =
    if nat_le a b && nat_le b s.capacity
    then record { object = s.object; offset = words.plus s.offset a; length = b - a; capacity = s.capacity - a }
    else nil_slice

-- Operators.

-- the part at a place
abbrev pub part : List Value → ℕ → Value
part vs i = slice_index_or vs i val.Unit

abbrev pub word : List Value → ℕ → ℕ
word vs i = word_of (part vs i)

abbrev pub truth : List Value → ℕ → Bool
truth vs i = truth_of (part vs i)

-- the value of an operator over the values of its parts
abbrev pub operate : Operator → List Value → Value
operate (op.Number n) vs = val.Word n
operate op.True vs = val.Bool true
operate op.False vs = val.Bool false
operate op.Nil vs = val.Ref 0
operate op.NilSlice vs = val.SliceS nil_slice
operate op.NoCall vs = val.Call 0
operate op.MapWW vs = val.MapWW []
operate op.MapWB vs = val.MapWB []
operate op.Not vs = val.Bool (not (truth vs 0))
operate op.Complement vs = val.Word (words.complement (word vs 0))
operate op.Or vs = val.Bool (truth vs 0 || truth vs 1)
operate op.And vs = val.Bool (truth vs 0 && truth vs 1)
operate op.Equal vs = val.Bool (value_eq (part vs 0) (part vs 1))
operate op.Less vs = val.Bool (nat_lt (word vs 0) (word vs 1))
operate op.AtMost vs = val.Bool (nat_le (word vs 0) (word vs 1))
operate op.Plus vs = val.Word (words.plus (word vs 0) (word vs 1))
operate op.Minus vs = val.Word (words.minus (word vs 0) (word vs 1))
operate op.BitOr vs = val.Word (bit_or (word vs 0) (word vs 1))
operate op.BitXor vs = val.Word (bit_xor (word vs 0) (word vs 1))
operate op.Times vs = val.Word (words.times (word vs 0) (word vs 1))
operate op.Divide vs = val.Word (words.quotient (word vs 0) (word vs 1))
operate op.Remainder vs = val.Word (words.remainder (word vs 0) (word vs 1))
operate op.ShiftLeft vs = val.Word (words.shifted_left (word vs 0) (word vs 1))
operate op.ShiftRight vs = val.Word (words.shifted_right (word vs 0) (word vs 1))
operate op.BitAnd vs = val.Word (bit_and (word vs 0) (word vs 1))
operate op.BitClear vs = val.Word (words.bits_without (word vs 0) (word vs 1))
operate op.If vs = if truth vs 0 then part vs 1 else part vs 2
operate op.Imp vs = val.Bool (not (truth vs 0) || truth vs 1)
operate op.Fits vs = val.Bool (words.fits (word vs 0) (word vs 1))
operate (op.Bytes k) vs = val.Bytes (replicate k (word vs 0 % 256))
operate (op.Words k) vs = val.Words (replicate k (word vs 0))
operate (op.Refs k) vs = val.Refs (replicate k (ref_of (part vs 0)))
operate (op.Blocks k) vs = val.Blocks (replicate k (bytes_of (part vs 0)))
operate op.Len vs = length_of (part vs 0)
operate op.At vs = item_at (part vs 0) (word vs 1)
operate op.Upd vs = with_item (part vs 0) (word vs 1) (part vs 2)
operate op.Sub vs = items_between (part vs 0) (word vs 1) (word vs 2)
operate op.Cat vs = both_lists (part vs 0) (part vs 1)
operate op.IsZero vs = all_zero (part vs 0)
operate op.Le64 vs = val.Bytes (words.le64 (word vs 0))
operate op.Un64 vs = val.Word (words.un64 (bytes_of (part vs 0)))
operate op.Put64 vs = val.Bytes (words.put64 (bytes_of (part vs 0)) (word vs 1))
operate op.Get vs = held_at (part vs 0) (word vs 1)
operate op.Has vs = holds_at (part vs 0) (word vs 1)
operate op.Put vs = map_with (part vs 0) (word vs 1) (part vs 2)
operate op.Del vs = map_without (part vs 0) (word vs 1)
operate op.SLen vs = val.Word (slice_of (part vs 0)).length
operate op.Sl vs = val.SliceS (slice_between (slice_of (part vs 0)) (word vs 1) (word vs 2))
operate op.SCap vs = val.Word (slice_of (part vs 0)).capacity
