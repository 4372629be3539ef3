-- Operators as numbers: the place of each in their list, and its literal.
use Rattle.std.specs.Prelude.{ℕ}
use Rattle.gv_terms.specs.declared.operator.Operator.{Operator}
use Rattle.gv_terms.specs.declared.operator.Operator.TheVariants as op

-- the place in the list of operators
abbrev pub place_of : Operator → ℕ
place_of (op.Number k) = 0
place_of op.True = 1
place_of op.False = 2
place_of op.Nil = 3
place_of op.NilSlice = 4
place_of op.NoCall = 5
place_of op.MapWW = 6
place_of op.MapWB = 7
place_of op.Not = 8
place_of op.Complement = 9
place_of op.Or = 10
place_of op.And = 11
place_of op.Equal = 12
place_of op.Less = 13
place_of op.AtMost = 14
place_of op.Plus = 15
place_of op.Minus = 16
place_of op.BitOr = 17
place_of op.BitXor = 18
place_of op.Times = 19
place_of op.Divide = 20
place_of op.Remainder = 21
place_of op.ShiftLeft = 22
place_of op.ShiftRight = 23
place_of op.BitAnd = 24
place_of op.BitClear = 25
place_of op.If = 26
place_of op.Imp = 27
place_of op.Fits = 28
place_of (op.Bytes k) = 29
place_of (op.Words k) = 30
place_of (op.Refs k) = 31
place_of (op.Blocks k) = 32
place_of op.Len = 33
place_of op.At = 34
place_of op.Upd = 35
place_of op.Sub = 36
place_of op.Cat = 37
place_of op.IsZero = 38
place_of op.Le64 = 39
place_of op.Un64 = 40
place_of op.Put64 = 41
place_of op.Get = 42
place_of op.Has = 43
place_of op.Put = 44
place_of op.Del = 45
place_of op.SLen = 46
place_of op.Sl = 47
place_of op.SCap = 48

-- the literal, and 0 where there is none
abbrev pub literal_of : Operator → ℕ
literal_of (op.Number k) = k
literal_of (op.Bytes k) = k
literal_of (op.Words k) = k
literal_of (op.Refs k) = k
literal_of (op.Blocks k) = k
literal_of _ = 0
