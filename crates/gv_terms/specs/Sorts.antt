-- Which sort an operator gives, and to parts of which sorts.
use Rattle.std.specs.Prelude.{ℕ, List, [], ◌∷◌, Bool, Option, Some, None, if◌then◌else◌, nat_eq, nat_le, slice_get}
use Rattle.std.specs.Cmp.Lexicographic.{pointwise}
use Rattle.gv_terms.specs.declared.sort.Sort.{Sort}
use Rattle.gv_terms.specs.declared.sort.Sort.TheVariants.{Word, Bool as Truth, Bytes, Words, Refs, Blocks, MapWW, MapWB, Ref, SliceS, Call, Name}
use Rattle.gv_terms.specs.declared.operator.Operator.{Operator}
use Rattle.gv_terms.specs.declared.operator.Operator.TheVariants as op

-- the place of a sort in the list of all twelve
abbrev pub sort_number : Sort → ℕ
sort_number Word = 0
sort_number Truth = 1
sort_number Bytes = 2
sort_number Words = 3
sort_number Refs = 4
sort_number Blocks = 5
sort_number MapWW = 6
sort_number MapWB = 7
sort_number Ref = 8
sort_number SliceS = 9
sort_number Call = 10
sort_number Name = 11

abbrev pub sort_eq : Sort → Sort → Bool
sort_eq r s = nat_eq (sort_number r) (sort_number s)

-- the sort of a list's items
abbrev pub item_sort : Sort → Option Sort
item_sort Bytes = Some Word
item_sort Words = Some Word
item_sort Refs = Some Ref
item_sort Blocks = Some Bytes
item_sort _ = None

-- the sort of what a map holds under its keys, which are words
abbrev pub entry_sort : Sort → Option Sort
entry_sort MapWW = Some Word
entry_sort MapWB = Some Bytes
entry_sort _ = None

-- gives the sort s to parts of just these sorts
abbrev pub takes : List Sort → Sort → List Sort → Option Sort
takes wanted s parts = if pointwise sort_eq wanted parts then Some s else None

-- goes on with a sort, where there is one
abbrev pub with_sort : Option Sort → (Sort → Option Sort) → Option Sort
with_sort None f = None
with_sort (Some s) f = f s

-- with the sort of the part at a place, of the items of the list there, and of what the map there holds
abbrev pub with_part : List Sort → ℕ → (Sort → Option Sort) → Option Sort
with_part parts i f = with_sort (slice_get parts i) f

abbrev pub with_list : List Sort → (Sort → Sort → Option Sort) → Option Sort
with_list parts f = with_part parts 0 (λ s. with_sort (item_sort s) (f s))

abbrev pub with_map : List Sort → (Sort → Sort → Option Sort) → Option Sort
with_map parts f = with_part parts 0 (λ s. with_sort (entry_sort s) (f s))

-- the greatest number of copies that a maker makes
abbrev pub most_copies : ℕ
most_copies = 65536

abbrev pub with_copies : ℕ → Option Sort → Option Sort
with_copies k given = if nat_le k most_copies then given else None

-- the sort of an operator over parts of these sorts, where it has one
abbrev pub sort_given : Operator → List Sort → Option Sort
sort_given (op.Number n) ss = takes [] Word ss
sort_given op.True ss = takes [] Truth ss
sort_given op.False ss = takes [] Truth ss
sort_given op.Nil ss = takes [] Ref ss
sort_given op.NilSlice ss = takes [] SliceS ss
sort_given op.NoCall ss = takes [] Call ss
sort_given op.MapWW ss = takes [] MapWW ss
sort_given op.MapWB ss = takes [] MapWB ss
sort_given op.Not ss = takes (Truth ∷ []) Truth ss
sort_given op.Complement ss = takes (Word ∷ []) Word ss
sort_given op.Or ss = takes (Truth ∷ Truth ∷ []) Truth ss
sort_given op.And ss = takes (Truth ∷ Truth ∷ []) Truth ss
sort_given op.Equal ss = with_part ss 0 (λ s. takes (s ∷ s ∷ []) Truth ss)
sort_given op.Less ss = takes (Word ∷ Word ∷ []) Truth ss
sort_given op.AtMost ss = takes (Word ∷ Word ∷ []) Truth ss
sort_given op.Plus ss = takes (Word ∷ Word ∷ []) Word ss
sort_given op.Minus ss = takes (Word ∷ Word ∷ []) Word ss
sort_given op.BitOr ss = takes (Word ∷ Word ∷ []) Word ss
sort_given op.BitXor ss = takes (Word ∷ Word ∷ []) Word ss
sort_given op.Times ss = takes (Word ∷ Word ∷ []) Word ss
sort_given op.Divide ss = takes (Word ∷ Word ∷ []) Word ss
sort_given op.Remainder ss = takes (Word ∷ Word ∷ []) Word ss
sort_given op.ShiftLeft ss = takes (Word ∷ Word ∷ []) Word ss
sort_given op.ShiftRight ss = takes (Word ∷ Word ∷ []) Word ss
sort_given op.BitAnd ss = takes (Word ∷ Word ∷ []) Word ss
sort_given op.BitClear ss = takes (Word ∷ Word ∷ []) Word ss
sort_given op.If ss = with_part ss 1 (λ s. takes (Truth ∷ s ∷ s ∷ []) s ss)
sort_given op.Imp ss = takes (Truth ∷ Truth ∷ []) Truth ss
sort_given op.Fits ss = takes (Word ∷ Word ∷ []) Truth ss
sort_given (op.Bytes k) ss = with_copies k (takes (Word ∷ []) Bytes ss)
sort_given (op.Words k) ss = with_copies k (takes (Word ∷ []) Words ss)
sort_given (op.Refs k) ss = with_copies k (takes (Ref ∷ []) Refs ss)
sort_given (op.Blocks k) ss = with_copies k (takes (Bytes ∷ []) Blocks ss)
sort_given op.Len ss = with_list ss (λ s item. takes (s ∷ []) Word ss)
sort_given op.At ss = with_list ss (λ s item. takes (s ∷ Word ∷ []) item ss)
sort_given op.Upd ss = with_list ss (λ s item. takes (s ∷ Word ∷ item ∷ []) s ss)
sort_given op.Sub ss = with_list ss (λ s item. takes (s ∷ Word ∷ Word ∷ []) s ss)
sort_given op.Cat ss = with_list ss (λ s item. takes (s ∷ s ∷ []) s ss)
sort_given op.IsZero ss = with_list ss (λ s item. takes (s ∷ []) Truth ss)
sort_given op.Le64 ss = takes (Word ∷ []) Bytes ss
sort_given op.Un64 ss = takes (Bytes ∷ []) Word ss
sort_given op.Put64 ss = takes (Bytes ∷ Word ∷ []) Bytes ss
sort_given op.Get ss = with_map ss (λ s entry. takes (s ∷ Word ∷ []) entry ss)
sort_given op.Has ss = with_map ss (λ s entry. takes (s ∷ Word ∷ []) Truth ss)
sort_given op.Put ss = with_map ss (λ s entry. takes (s ∷ Word ∷ entry ∷ []) s ss)
sort_given op.Del ss = with_map ss (λ s entry. takes (s ∷ Word ∷ []) s ss)
sort_given op.SLen ss = takes (SliceS ∷ []) Word ss
sort_given op.Sl ss = takes (SliceS ∷ Word ∷ Word ∷ []) SliceS ss
sort_given op.SCap ss = takes (SliceS ∷ []) Word ss

-- the operators whose first part is a list, and a map
abbrev pub IsOnLists : Operator → Type 0
IsOnLists op.Len = Unit {0}
IsOnLists op.At = Unit {0}
IsOnLists op.Upd = Unit {0}
IsOnLists op.Sub = Unit {0}
IsOnLists op.Cat = Unit {0}
IsOnLists op.IsZero = Unit {0}
IsOnLists _ = ⊥

abbrev pub IsOnMaps : Operator → Type 0
IsOnMaps op.Get = Unit {0}
IsOnMaps op.Has = Unit {0}
IsOnMaps op.Put = Unit {0}
IsOnMaps op.Del = Unit {0}
IsOnMaps _ = ⊥

-- the operators on two words that give a word
abbrev pub IsOnWords : Operator → Type 0
IsOnWords op.Plus = Unit {0}
IsOnWords op.Minus = Unit {0}
IsOnWords op.BitOr = Unit {0}
IsOnWords op.BitXor = Unit {0}
IsOnWords op.Times = Unit {0}
IsOnWords op.Divide = Unit {0}
IsOnWords op.Remainder = Unit {0}
IsOnWords op.ShiftLeft = Unit {0}
IsOnWords op.ShiftRight = Unit {0}
IsOnWords op.BitAnd = Unit {0}
IsOnWords op.BitClear = Unit {0}
IsOnWords _ = ⊥

-- how many parts an operator has
abbrev pub arity : Operator → ℕ
arity (op.Number n) = 0
arity op.True = 0
arity op.False = 0
arity op.Nil = 0
arity op.NilSlice = 0
arity op.NoCall = 0
arity op.MapWW = 0
arity op.MapWB = 0
arity op.Not = 1
arity op.Complement = 1
arity (op.Bytes k) = 1
arity (op.Words k) = 1
arity (op.Refs k) = 1
arity (op.Blocks k) = 1
arity op.Len = 1
arity op.IsZero = 1
arity op.Le64 = 1
arity op.Un64 = 1
arity op.SLen = 1
arity op.SCap = 1
arity op.If = 3
arity op.Upd = 3
arity op.Sub = 3
arity op.Put = 3
arity op.Sl = 3
arity _ = 2
