-- The values of expressions. An operator over a value of another kind than it takes gives none.
use Rattle.std.specs.Prelude.{ℕ, Bool, not, ◌&&◌, ◌||◌, List, [], ◌∷◌, Option, Some, None, slice_get, nat_eq, nat_lt, nat_le, bit_and, bit_or, bit_xor}
use Rattle.gv_base.specs.declared.val.Val.{Val}
use Rattle.gv_base.specs.declared.val.Val.TheVariants as val
use Rattle.gv_base.specs.declared.slice_val.SliceVal.{SliceVal}
use Rattle.gv_words.specs.Words.{plus, minus, times, shifted_left, shifted_right, complement, bits_without}
use Rattle.gv_world.specs.Slices.{nil_slice, same_truth}
use Rattle.gv_lang.specs.declared.pure.Unary.{Unary}
use Rattle.gv_lang.specs.declared.pure.Unary.TheVariants as unary
use Rattle.gv_lang.specs.declared.pure.Binary.{Binary}
use Rattle.gv_lang.specs.declared.pure.Binary.TheVariants as binary
use Rattle.gv_lang.specs.Tree.{Expr, Number, Truth, Nil, NilSlice, LocalAt, One, Two}

-- on words, around at 2 ^ 64
abbrev pub on_words : Binary → ℕ → ℕ → Option Val
on_words binary.Or a b = None
on_words binary.And a b = None
on_words binary.Equal a b = Some (val.Bool (nat_eq a b))
on_words binary.Less a b = Some (val.Bool (nat_lt a b))
on_words binary.AtMost a b = Some (val.Bool (nat_le a b))
on_words binary.Plus a b = Some (val.Word (plus a b))
on_words binary.Minus a b = Some (val.Word (minus a b))
on_words binary.BitOr a b = Some (val.Word (bit_or a b))
on_words binary.BitXor a b = Some (val.Word (bit_xor a b))
on_words binary.Times a b = Some (val.Word (times a b))
on_words binary.ShiftLeft a b = Some (val.Word (shifted_left a b))
on_words binary.ShiftRight a b = Some (val.Word (shifted_right a b))
on_words binary.BitAnd a b = Some (val.Word (bit_and a b))
on_words binary.BitClear a b = Some (val.Word (bits_without a b))

abbrev pub on_truths : Binary → Bool → Bool → Option Val
on_truths binary.Or a b = Some (val.Bool (a || b))
on_truths binary.And a b = Some (val.Bool (a && b))
on_truths binary.Equal a b = Some (val.Bool (same_truth a b))
on_truths _ a b = None

-- two values of any kind are only compared
abbrev pub compared : Binary → Bool → Option Val
compared binary.Equal same = Some (val.Bool same)
compared _ same = None

abbrev pub same_slice : SliceVal → SliceVal → Bool
same_slice s t = nat_eq s.object t.object && nat_eq s.offset t.offset && nat_eq s.length t.length && nat_eq s.capacity t.capacity

abbrev pub one : Unary → Option Val → Option Val
one unary.Not (Some (val.Bool b)) = Some (val.Bool (not b))
one unary.Complement (Some (val.Word n)) = Some (val.Word (complement n))
one _ _ = None

abbrev pub two : Binary → Option Val → Option Val → Option Val
two o (Some (val.Word a)) (Some (val.Word b)) = on_words o a b
two o (Some (val.Bool a)) (Some (val.Bool b)) = on_truths o a b
two o (Some (val.Ref a)) (Some (val.Ref b)) = compared o (nat_eq a b)
two o (Some (val.Slice a)) (Some (val.Slice b)) = compared o (same_slice a b)
two o _ _ = None

-- the value of an expression over these locals
abbrev pub value : List Val → Expr → Option Val
value locals (Number n) = Some (val.Word n)
value locals (Truth b) = Some (val.Bool b)
value locals Nil = Some (val.Ref 0)
value locals NilSlice = Some (val.Slice nil_slice)
value locals (LocalAt x) = slice_get locals x
value locals (One o e) = one o (value locals e)
value locals (Two o a b) = two o (value locals a) (value locals b)

abbrev pub also : Option Val → Option (List Val) → Option (List Val)
also (Some v) (Some vs) = Some (v ∷ vs)
also _ _ = None

-- the values of all, where each has one
abbrev pub values : List Val → List Expr → Option (List Val)
values locals [] = Some []
values locals (e ∷ es) = also (value locals e) (values locals es)
