-- Types, and what an operand is.
use Rattle.std.specs.Prelude.{Bool, true, false, ◌==◌, Option, Some, None}
use Rattle.gv_operands.specs.declared.types.Base.{Base}
use Rattle.gv_operands.specs.declared.types.Base.TheVariants.{Struct, Mutex}
use Rattle.gv_operands.specs.declared.types.GoType.{GoType}
use Rattle.gv_operands.specs.declared.types.GoType.TheVariants.{Word, Byte, Boolean, Bytes, Words, Pointers, Map, Pointer}
use Rattle.gv_operands.specs.declared.types.Kind.{Kind}
use Rattle.gv_operands.specs.declared.types.Kind.TheVariants.{Untyped, OfWord, OfByte, OfBool}
use Rattle.gv_operands.specs.declared.types.Class.{Class}
use Rattle.gv_operands.specs.declared.types.Class.TheVariants.{Run, Fixed, Shifted, Nil, Length}

-- ---- types

abbrev pub same_base : Base → Base → Bool
same_base (Struct m) (Struct n) = m == n
same_base Mutex Mutex = true
same_base _ _ = false

abbrev pub same_type : GoType → GoType → Bool
same_type Word Word = true
same_type Byte Byte = true
same_type Boolean Boolean = true
same_type Bytes Bytes = true
same_type Words Words = true
same_type (Pointers a) (Pointers b) = same_base a b
same_type Map Map = true
same_type (Pointer a) (Pointer b) = same_base a b
same_type _ _ = false

-- the type of the items of a slice
abbrev pub item_of : GoType → Option GoType
item_of Bytes = Some Byte
item_of Words = Some Word
item_of (Pointers b) = Some (Pointer b)
item_of _ = None

-- what `e[i]` is: an item of a slice, or a value of a map
abbrev pub indexed : GoType → Option GoType
indexed Map = Some Word
indexed t = item_of t

-- `nil` may stand for a slice, a pointer or a map
abbrev pub has_nil : GoType → Bool
has_nil Word = false
has_nil Byte = false
has_nil Boolean = false
has_nil _ = true

-- and is compared with a pointer or a map
abbrev pub meets_nil : GoType → Bool
meets_nil (Pointer b) = true
meets_nil Map = true
meets_nil _ = false

-- ---- operands

abbrev pub type_of_kind : Kind → Option GoType
type_of_kind Untyped = None
type_of_kind OfWord = Some Word
type_of_kind OfByte = Some Byte
type_of_kind OfBool = Some Boolean

-- the type that an operand has by itself
abbrev pub own_type : Class → Option GoType
own_type (Run t) = Some t
own_type (Fixed k v) = type_of_kind k
own_type Shifted = None
own_type Nil = None
own_type Length = None

abbrev pub own_type_of : Option Class → Option GoType
own_type_of None = None
own_type_of (Some c) = own_type c
