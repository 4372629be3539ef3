-- Worked rows of the definitions.
use Rattle.std.proofs.Common.{◌≡◌, ℕ, ◌-◌, ◌^◌, List, [], ◌∷◌, true, false, Some, None, refl}
use Rattle.gv_terms.specs.declared.sort.Sort.TheVariants as sort
use Rattle.gv_terms.specs.declared.operator.Operator.TheVariants as op
use Rattle.gv_terms.specs.declared.value.Value.{Value}
use Rattle.gv_terms.specs.declared.value.Value.TheVariants as val
use Rattle.gv_terms.specs.Sorts.{sort_given}
use Rattle.gv_words.specs.Words.{le64, un64}
use Rattle.gv_terms.specs.Meaning.{operate}

-- Words as bytes.
abbrev bytes_of_258 : List ℕ
bytes_of_258 = 2 ∷ 1 ∷ 0 ∷ 0 ∷ 0 ∷ 0 ∷ 0 ∷ 0 ∷ []

le64_of_258 : le64 258 ≡ bytes_of_258
unfolding le64
le64_of_258 = refl

un64_of_258 : un64 bytes_of_258 ≡ 258
unfolding un64
un64_of_258 = refl

un64_of_two : un64 (1 ∷ 2 ∷ []) ≡ 513
unfolding un64
un64_of_two = refl

un64_of_none : un64 [] ≡ 0
unfolding un64
un64_of_none = refl

un64_passes_the_ninth : un64 (1 ∷ 0 ∷ 0 ∷ 0 ∷ 0 ∷ 0 ∷ 0 ∷ 0 ∷ 9 ∷ []) ≡ 1
unfolding un64
un64_passes_the_ninth = refl

-- Words.
abbrev two : ℕ → ℕ → List Value
two a b = val.Word a ∷ val.Word b ∷ []

abbrev greatest : ℕ
greatest = 2 ^ 64 - 1

sum_wraps : operate op.Plus (two greatest 1) ≡ val.Word 0
sum_wraps = refl

difference_wraps : operate op.Minus (two 0 1) ≡ val.Word greatest
difference_wraps = refl

product_wraps : operate op.Times (two greatest greatest) ≡ val.Word 1
product_wraps = refl

shift_by_63 : operate op.ShiftLeft (two 3 63) ≡ val.Word (2 ^ 63)
shift_by_63 = refl

shift_by_64 : operate op.ShiftLeft (two 1 64) ≡ val.Word 0
shift_by_64 = refl

back_by_63 : operate op.ShiftRight (two greatest 63) ≡ val.Word 1
back_by_63 = refl

back_by_64 : operate op.ShiftRight (two greatest 64) ≡ val.Word 0
back_by_64 = refl

quotient_by_0 : operate op.Divide (two 7 0) ≡ val.Word 0
quotient_by_0 = refl

remainder_by_0 : operate op.Remainder (two 7 0) ≡ val.Word 0
remainder_by_0 = refl

fits_just : operate op.Fits (two (2 ^ 63) (2 ^ 63 - 1)) ≡ val.Bool true
fits_just = refl

fits_not : operate op.Fits (two (2 ^ 63) (2 ^ 63)) ≡ val.Bool false
fits_not = refl

-- Lists.
abbrev letters : Value
letters = val.Bytes (97 ∷ 98 ∷ 99 ∷ [])

item_last : operate op.At (letters ∷ val.Word 2 ∷ []) ≡ val.Word 99
item_last = refl

item_past : operate op.At (letters ∷ val.Word 3 ∷ []) ≡ val.Word 0
item_past = refl

set_modulo_256 : operate op.Upd (letters ∷ val.Word 0 ∷ val.Word 257 ∷ []) ≡ val.Bytes (1 ∷ 98 ∷ 99 ∷ [])
set_modulo_256 = refl

set_past : operate op.Upd (letters ∷ val.Word 3 ∷ val.Word 1 ∷ []) ≡ letters
set_past = refl

part_is_cut : operate op.Sub (letters ∷ val.Word 1 ∷ val.Word 9 ∷ []) ≡ val.Bytes (98 ∷ 99 ∷ [])
part_is_cut = refl

part_is_empty : operate op.Sub (letters ∷ val.Word 2 ∷ val.Word 2 ∷ []) ≡ val.Bytes []
part_is_empty = refl

copies_modulo_256 : operate (op.Bytes 2) (val.Word 257 ∷ []) ≡ val.Bytes (1 ∷ 1 ∷ [])
copies_modulo_256 = refl

no_copies : operate (op.Blocks 0) (letters ∷ []) ≡ val.Blocks []
no_copies = refl

-- Maps.
abbrev pairs : Value
pairs = val.MapWW ((1, 10) ∷ (5, 50) ∷ [])

entry_between : operate op.Put (pairs ∷ val.Word 3 ∷ val.Word 30 ∷ []) ≡ val.MapWW ((1, 10) ∷ (3, 30) ∷ (5, 50) ∷ [])
entry_between = refl

entry_replaced : operate op.Put (pairs ∷ val.Word 5 ∷ val.Word 51 ∷ []) ≡ val.MapWW ((1, 10) ∷ (5, 51) ∷ [])
entry_replaced = refl

entry_gone : operate op.Del (pairs ∷ val.Word 1 ∷ []) ≡ val.MapWW ((5, 50) ∷ [])
entry_gone = refl

entry_absent : operate op.Get (pairs ∷ val.Word 2 ∷ []) ≡ val.Word 0
entry_absent = refl

-- Sorts.
most_copies : sort_given (op.Bytes 65536) (sort.Word ∷ []) ≡ Some sort.Bytes
most_copies = refl

too_many_copies : sort_given (op.Bytes 65537) (sort.Word ∷ []) ≡ None
too_many_copies = refl

choice_of_two_sorts : sort_given op.If (sort.Bool ∷ sort.Word ∷ sort.Bytes ∷ []) ≡ None
choice_of_two_sorts = refl

block_of_blocks : sort_given op.At (sort.Blocks ∷ sort.Word ∷ []) ≡ Some sort.Bytes
block_of_blocks = refl
