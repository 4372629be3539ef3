-- The axioms in order. Made by tools/axioms.py from axioms.txt: edit that.
use Rattle.std.specs.Prelude.{List, [], ◌∷◌}
use Rattle.gv_terms.specs.declared.sort.Sort.TheVariants as sort
use Rattle.gv_terms.specs.declared.operator.Operator.TheVariants as op
use Rattle.gv_axioms.specs.declared.kind.Kind.TheVariants as kind
use Rattle.gv_axioms.specs.Schema.{Axiom, always, for_bytes}
use Rattle.gv_axioms.specs.Schema.Pattern.{part, literal, copied, zero, over0, over1, over2, over3}

-- 1 (p: Bool, q: Bool): p && q => p
abbrev pub axiom_1 : Axiom
axiom_1 = record {
  kinds = kind.Of sort.Bool ∷ kind.Of sort.Bool ∷ [];
  premises =
      always (over2 op.And (part 0) (part 1)) ∷
      [];
  conclusion =
      part 0;
}

-- 2 (p: Bool, q: Bool): p && q => q
abbrev pub axiom_2 : Axiom
axiom_2 = record {
  kinds = kind.Of sort.Bool ∷ kind.Of sort.Bool ∷ [];
  premises =
      always (over2 op.And (part 0) (part 1)) ∷
      [];
  conclusion =
      part 1;
}

-- 3 (p: Bool, q: Bool): p; q => p && q
abbrev pub axiom_3 : Axiom
axiom_3 = record {
  kinds = kind.Of sort.Bool ∷ kind.Of sort.Bool ∷ [];
  premises =
      always (part 0) ∷
      always (part 1) ∷
      [];
  conclusion =
      over2 op.And (part 0) (part 1);
}

-- 4 (p: Bool, q: Bool): p => p || q
abbrev pub axiom_4 : Axiom
axiom_4 = record {
  kinds = kind.Of sort.Bool ∷ kind.Of sort.Bool ∷ [];
  premises =
      always (part 0) ∷
      [];
  conclusion =
      over2 op.Or (part 0) (part 1);
}

-- 5 (p: Bool, q: Bool): q => p || q
abbrev pub axiom_5 : Axiom
axiom_5 = record {
  kinds = kind.Of sort.Bool ∷ kind.Of sort.Bool ∷ [];
  premises =
      always (part 1) ∷
      [];
  conclusion =
      over2 op.Or (part 0) (part 1);
}

-- 6 (p: Bool, q: Bool): p || q; !p => q
abbrev pub axiom_6 : Axiom
axiom_6 = record {
  kinds = kind.Of sort.Bool ∷ kind.Of sort.Bool ∷ [];
  premises =
      always (over2 op.Or (part 0) (part 1)) ∷
      always (over1 op.Not (part 0)) ∷
      [];
  conclusion =
      part 1;
}

-- 7 (p: Bool, q: Bool): imp(p, q); p => q
abbrev pub axiom_7 : Axiom
axiom_7 = record {
  kinds = kind.Of sort.Bool ∷ kind.Of sort.Bool ∷ [];
  premises =
      always (over2 op.Imp (part 0) (part 1)) ∷
      always (part 0) ∷
      [];
  conclusion =
      part 1;
}

-- 8 (p: Bool): !(!p) => p
abbrev pub axiom_8 : Axiom
axiom_8 = record {
  kinds = kind.Of sort.Bool ∷ [];
  premises =
      always (over1 op.Not (over1 op.Not (part 0))) ∷
      [];
  conclusion =
      part 0;
}

-- 9 (a: Word, b: Word): !(a < b) => b <= a
abbrev pub axiom_9 : Axiom
axiom_9 = record {
  kinds = kind.Of sort.Word ∷ kind.Of sort.Word ∷ [];
  premises =
      always (over1 op.Not (over2 op.Less (part 0) (part 1))) ∷
      [];
  conclusion =
      over2 op.AtMost (part 1) (part 0);
}

-- 10 (a: Word, b: Word): !(a <= b) => b < a
abbrev pub axiom_10 : Axiom
axiom_10 = record {
  kinds = kind.Of sort.Word ∷ kind.Of sort.Word ∷ [];
  premises =
      always (over1 op.Not (over2 op.AtMost (part 0) (part 1))) ∷
      [];
  conclusion =
      over2 op.Less (part 1) (part 0);
}

-- 11 (a: Word, b: Word): a <= b; b <= a => a == b
abbrev pub axiom_11 : Axiom
axiom_11 = record {
  kinds = kind.Of sort.Word ∷ kind.Of sort.Word ∷ [];
  premises =
      always (over2 op.AtMost (part 0) (part 1)) ∷
      always (over2 op.AtMost (part 1) (part 0)) ∷
      [];
  conclusion =
      over2 op.Equal
      (part 0)
      (part 1);
}

-- 12 (a: Word): => 0 <= a
abbrev pub axiom_12 : Axiom
axiom_12 = record {
  kinds = kind.Of sort.Word ∷ [];
  premises =
      [];
  conclusion =
      over2 op.AtMost (over0 (op.Number 0)) (part 0);
}

-- 13 (a: Word): => a <= 18446744073709551615
abbrev pub axiom_13 : Axiom
axiom_13 = record {
  kinds = kind.Of sort.Word ∷ [];
  premises =
      [];
  conclusion =
      over2 op.AtMost (part 0) (over0 (op.Number 18446744073709551615));
}

-- 14 (p: Bool, x: Anything, y: Like x): p => if(p, x, y) == x
abbrev pub axiom_14 : Axiom
axiom_14 = record {
  kinds = kind.Of sort.Bool ∷ kind.Anything ∷ kind.Like 1 ∷ [];
  premises =
      always (part 0) ∷
      [];
  conclusion =
      over2 op.Equal
      (over3 op.If (part 0) (part 1) (part 2))
      (part 1);
}

-- 15 (p: Bool, x: Anything, y: Like x): !p => if(p, x, y) == y
abbrev pub axiom_15 : Axiom
axiom_15 = record {
  kinds = kind.Of sort.Bool ∷ kind.Anything ∷ kind.Like 1 ∷ [];
  premises =
      always (over1 op.Not (part 0)) ∷
      [];
  conclusion =
      over2 op.Equal
      (over3 op.If (part 0) (part 1) (part 2))
      (part 2);
}

-- 16 (a: Word, b: Word): a <= b; !(a == b) => a < b
abbrev pub axiom_16 : Axiom
axiom_16 = record {
  kinds = kind.Of sort.Word ∷ kind.Of sort.Word ∷ [];
  premises =
      always (over2 op.AtMost (part 0) (part 1)) ∷
      always (over1 op.Not (over2 op.Equal (part 0) (part 1))) ∷
      [];
  conclusion =
      over2 op.Less (part 0) (part 1);
}

-- 17 (a: Word, b: Word): a < b => !(a == b)
abbrev pub axiom_17 : Axiom
axiom_17 = record {
  kinds = kind.Of sort.Word ∷ kind.Of sort.Word ∷ [];
  premises =
      always (over2 op.Less (part 0) (part 1)) ∷
      [];
  conclusion =
      over1 op.Not (over2 op.Equal (part 0) (part 1));
}

-- 18 (a: Word, b: Word): a <= 18446744073709551615 - b => fits(a, b)
abbrev pub axiom_18 : Axiom
axiom_18 = record {
  kinds = kind.Of sort.Word ∷ kind.Of sort.Word ∷ [];
  premises =
      always (over2 op.AtMost (part 0) (over2 op.Minus (over0 (op.Number 18446744073709551615)) (part 1))) ∷
      [];
  conclusion =
      over2 op.Fits (part 0) (part 1);
}

-- 19 (a: Word, b: Word): 0 < b => a % b < b
abbrev pub axiom_19 : Axiom
axiom_19 = record {
  kinds = kind.Of sort.Word ∷ kind.Of sort.Word ∷ [];
  premises =
      always (over2 op.Less (over0 (op.Number 0)) (part 1)) ∷
      [];
  conclusion =
      over2 op.Less (over2 op.Remainder (part 0) (part 1)) (part 1);
}

-- 20 (a: Word, b: Word): => a / b <= a
abbrev pub axiom_20 : Axiom
axiom_20 = record {
  kinds = kind.Of sort.Word ∷ kind.Of sort.Word ∷ [];
  premises =
      [];
  conclusion =
      over2 op.AtMost (over2 op.Divide (part 0) (part 1)) (part 0);
}

-- 21 (a: Word, b: Word): => a % b <= a
abbrev pub axiom_21 : Axiom
axiom_21 = record {
  kinds = kind.Of sort.Word ∷ kind.Of sort.Word ∷ [];
  premises =
      [];
  conclusion =
      over2 op.AtMost (over2 op.Remainder (part 0) (part 1)) (part 0);
}

-- 22 (a: Word, b: Word): => a + b == b + a
abbrev pub axiom_22 : Axiom
axiom_22 = record {
  kinds = kind.Of sort.Word ∷ kind.Of sort.Word ∷ [];
  premises =
      [];
  conclusion =
      over2 op.Equal
      (over2 op.Plus (part 0) (part 1))
      (over2 op.Plus (part 1) (part 0));
}

-- 23 (a: Word, b: Word, c: Word): => (a + b) + c == a + (b + c)
abbrev pub axiom_23 : Axiom
axiom_23 = record {
  kinds = kind.Of sort.Word ∷ kind.Of sort.Word ∷ kind.Of sort.Word ∷ [];
  premises =
      [];
  conclusion =
      over2 op.Equal
      (over2 op.Plus (over2 op.Plus (part 0) (part 1)) (part 2))
      (over2 op.Plus (part 0) (over2 op.Plus (part 1) (part 2)));
}

-- 24 (a: Word, b: Word): => (a + b) - b == a
abbrev pub axiom_24 : Axiom
axiom_24 = record {
  kinds = kind.Of sort.Word ∷ kind.Of sort.Word ∷ [];
  premises =
      [];
  conclusion =
      over2 op.Equal
      (over2 op.Minus (over2 op.Plus (part 0) (part 1)) (part 1))
      (part 0);
}

-- 25 (a: Word, b: Word): => (a & b) <= a
abbrev pub axiom_25 : Axiom
axiom_25 = record {
  kinds = kind.Of sort.Word ∷ kind.Of sort.Word ∷ [];
  premises =
      [];
  conclusion =
      over2 op.AtMost (over2 op.BitAnd (part 0) (part 1)) (part 0);
}

-- 26 (a: Word): => a * 1 == a
abbrev pub axiom_26 : Axiom
axiom_26 = record {
  kinds = kind.Of sort.Word ∷ [];
  premises =
      [];
  conclusion =
      over2 op.Equal
      (over2 op.Times (part 0) (over0 (op.Number 1)))
      (part 0);
}

-- 27 (a: Word, b: Word): 0 < b => (a / b) * b + a % b == a
abbrev pub axiom_27 : Axiom
axiom_27 = record {
  kinds = kind.Of sort.Word ∷ kind.Of sort.Word ∷ [];
  premises =
      always (over2 op.Less (over0 (op.Number 0)) (part 1)) ∷
      [];
  conclusion =
      over2 op.Equal
      (over2 op.Plus (over2 op.Times (over2 op.Divide (part 0) (part 1)) (part 1)) (over2 op.Remainder (part 0) (part 1)))
      (part 0);
}

-- 28 (x: List, i: Word, v: Held x): i < len(x); v < 256 where x is Bytes => at(upd(x, i, v), i) == v
abbrev pub axiom_28 : Axiom
axiom_28 = record {
  kinds = kind.List ∷ kind.Of sort.Word ∷ kind.Held 0 ∷ [];
  premises =
      always (over2 op.Less (part 1) (over1 op.Len (part 0))) ∷
      for_bytes 0 (over2 op.Less (part 2) (over0 (op.Number 256))) ∷
      [];
  conclusion =
      over2 op.Equal
      (over2 op.At (over3 op.Upd (part 0) (part 1) (part 2)) (part 1))
      (part 2);
}

-- 29 (x: List, i: Word, j: Word, v: Held x): !(i == j) => at(upd(x, i, v), j) == at(x, j)
abbrev pub axiom_29 : Axiom
axiom_29 = record {
  kinds = kind.List ∷ kind.Of sort.Word ∷ kind.Of sort.Word ∷ kind.Held 0 ∷ [];
  premises =
      always (over1 op.Not (over2 op.Equal (part 1) (part 2))) ∷
      [];
  conclusion =
      over2 op.Equal
      (over2 op.At (over3 op.Upd (part 0) (part 1) (part 3)) (part 2))
      (over2 op.At (part 0) (part 2));
}

-- 30 (x: List, i: Word, v: Held x): => len(upd(x, i, v)) == len(x)
abbrev pub axiom_30 : Axiom
axiom_30 = record {
  kinds = kind.List ∷ kind.Of sort.Word ∷ kind.Held 0 ∷ [];
  premises =
      [];
  conclusion =
      over2 op.Equal
      (over1 op.Len (over3 op.Upd (part 0) (part 1) (part 2)))
      (over1 op.Len (part 0));
}

-- 31 (R: Maker): => len(R) == K(R)
abbrev pub axiom_31 : Axiom
axiom_31 = record {
  kinds = kind.Maker ∷ [];
  premises =
      [];
  conclusion =
      over2 op.Equal
      (over1 op.Len (part 0))
      (literal 0);
}

-- 32 (R: Maker, i: Word): i < K(R); V(R) < 256 where R is Bytes => at(R, i) == V(R)
abbrev pub axiom_32 : Axiom
axiom_32 = record {
  kinds = kind.Maker ∷ kind.Of sort.Word ∷ [];
  premises =
      always (over2 op.Less (part 1) (literal 0)) ∷
      for_bytes 0 (over2 op.Less (copied 0) (over0 (op.Number 256))) ∷
      [];
  conclusion =
      over2 op.Equal
      (over2 op.At (part 0) (part 1))
      (copied 0);
}

-- 33 (x: List, i: Word): iszero(x) => at(x, i) == Z(x)
abbrev pub axiom_33 : Axiom
axiom_33 = record {
  kinds = kind.List ∷ kind.Of sort.Word ∷ [];
  premises =
      always (over1 op.IsZero (part 0)) ∷
      [];
  conclusion =
      over2 op.Equal
      (over2 op.At (part 0) (part 1))
      (zero 0);
}

-- 34 (R: ZeroMaker): => iszero(R)
abbrev pub axiom_34 : Axiom
axiom_34 = record {
  kinds = kind.ZeroMaker ∷ [];
  premises =
      [];
  conclusion =
      over1 op.IsZero (part 0);
}

-- 35 (x: Bytes, i: Word): => at(x, i) < 256
abbrev pub axiom_35 : Axiom
axiom_35 = record {
  kinds = kind.Of sort.Bytes ∷ kind.Of sort.Word ∷ [];
  premises =
      [];
  conclusion =
      over2 op.Less (over2 op.At (part 0) (part 1)) (over0 (op.Number 256));
}

-- 36 (x: List, i: Word): => upd(x, i, at(x, i)) == x
abbrev pub axiom_36 : Axiom
axiom_36 = record {
  kinds = kind.List ∷ kind.Of sort.Word ∷ [];
  premises =
      [];
  conclusion =
      over2 op.Equal
      (over3 op.Upd (part 0) (part 1) (over2 op.At (part 0) (part 1)))
      (part 0);
}

-- 37 (x: List): => len(x) < 9223372036854775808
abbrev pub axiom_37 : Axiom
axiom_37 = record {
  kinds = kind.List ∷ [];
  premises =
      [];
  conclusion =
      over2 op.Less (over1 op.Len (part 0)) (over0 (op.Number 9223372036854775808));
}

-- 38 (x: List, a: Word, b: Word): a <= b; b <= len(x) => len(sub(x, a, b)) == b - a
abbrev pub axiom_38 : Axiom
axiom_38 = record {
  kinds = kind.List ∷ kind.Of sort.Word ∷ kind.Of sort.Word ∷ [];
  premises =
      always (over2 op.AtMost (part 1) (part 2)) ∷
      always (over2 op.AtMost (part 2) (over1 op.Len (part 0))) ∷
      [];
  conclusion =
      over2 op.Equal
      (over1 op.Len (over3 op.Sub (part 0) (part 1) (part 2)))
      (over2 op.Minus (part 2) (part 1));
}

-- 39 (x: List, a: Word, b: Word, i: Word): a <= b; b <= len(x); i < b - a => at(sub(x, a, b), i) == at(x, a + i)
abbrev pub axiom_39 : Axiom
axiom_39 = record {
  kinds = kind.List ∷ kind.Of sort.Word ∷ kind.Of sort.Word ∷ kind.Of sort.Word ∷ [];
  premises =
      always (over2 op.AtMost (part 1) (part 2)) ∷
      always (over2 op.AtMost (part 2) (over1 op.Len (part 0))) ∷
      always (over2 op.Less (part 3) (over2 op.Minus (part 2) (part 1))) ∷
      [];
  conclusion =
      over2 op.Equal
      (over2 op.At (over3 op.Sub (part 0) (part 1) (part 2)) (part 3))
      (over2 op.At (part 0) (over2 op.Plus (part 1) (part 3)));
}

-- 40 (x: List, y: Like x): len(x) + len(y) < 9223372036854775808 => len(cat(x, y)) == len(x) + len(y)
abbrev pub axiom_40 : Axiom
axiom_40 = record {
  kinds = kind.List ∷ kind.Like 0 ∷ [];
  premises =
      always (over2 op.Less (over2 op.Plus (over1 op.Len (part 0)) (over1 op.Len (part 1))) (over0 (op.Number 9223372036854775808))) ∷
      [];
  conclusion =
      over2 op.Equal
      (over1 op.Len (over2 op.Cat (part 0) (part 1)))
      (over2 op.Plus (over1 op.Len (part 0)) (over1 op.Len (part 1)));
}

-- 41 (x: List, y: Like x, i: Word): len(x) + len(y) < 9223372036854775808; i < len(x) => at(cat(x, y), i) == at(x, i)
abbrev pub axiom_41 : Axiom
axiom_41 = record {
  kinds = kind.List ∷ kind.Like 0 ∷ kind.Of sort.Word ∷ [];
  premises =
      always (over2 op.Less (over2 op.Plus (over1 op.Len (part 0)) (over1 op.Len (part 1))) (over0 (op.Number 9223372036854775808))) ∷
      always (over2 op.Less (part 2) (over1 op.Len (part 0))) ∷
      [];
  conclusion =
      over2 op.Equal
      (over2 op.At (over2 op.Cat (part 0) (part 1)) (part 2))
      (over2 op.At (part 0) (part 2));
}

-- 42 (x: List, y: Like x, i: Word): len(x) + len(y) < 9223372036854775808; i < len(y) => at(cat(x, y), len(x) + i) == at(y, i)
abbrev pub axiom_42 : Axiom
axiom_42 = record {
  kinds = kind.List ∷ kind.Like 0 ∷ kind.Of sort.Word ∷ [];
  premises =
      always (over2 op.Less (over2 op.Plus (over1 op.Len (part 0)) (over1 op.Len (part 1))) (over0 (op.Number 9223372036854775808))) ∷
      always (over2 op.Less (part 2) (over1 op.Len (part 1))) ∷
      [];
  conclusion =
      over2 op.Equal
      (over2 op.At (over2 op.Cat (part 0) (part 1)) (over2 op.Plus (over1 op.Len (part 0)) (part 2)))
      (over2 op.At (part 1) (part 2));
}

-- 43 (x: List, y: Like x): iszero(x); iszero(y); len(x) == len(y) => x == y
abbrev pub axiom_43 : Axiom
axiom_43 = record {
  kinds = kind.List ∷ kind.Like 0 ∷ [];
  premises =
      always (over1 op.IsZero (part 0)) ∷
      always (over1 op.IsZero (part 1)) ∷
      always (over2 op.Equal (over1 op.Len (part 0)) (over1 op.Len (part 1))) ∷
      [];
  conclusion =
      over2 op.Equal
      (part 0)
      (part 1);
}

-- 44 (a: Word): => len(le64(a)) == 8
abbrev pub axiom_44 : Axiom
axiom_44 = record {
  kinds = kind.Of sort.Word ∷ [];
  premises =
      [];
  conclusion =
      over2 op.Equal
      (over1 op.Len (over1 op.Le64 (part 0)))
      (over0 (op.Number 8));
}

-- 45 (a: Word): => un64(le64(a)) == a
abbrev pub axiom_45 : Axiom
axiom_45 = record {
  kinds = kind.Of sort.Word ∷ [];
  premises =
      [];
  conclusion =
      over2 op.Equal
      (over1 op.Un64 (over1 op.Le64 (part 0)))
      (part 0);
}

-- 46 (x: Bytes, a: Word): 8 <= len(x) => un64(put64(x, a)) == a
abbrev pub axiom_46 : Axiom
axiom_46 = record {
  kinds = kind.Of sort.Bytes ∷ kind.Of sort.Word ∷ [];
  premises =
      always (over2 op.AtMost (over0 (op.Number 8)) (over1 op.Len (part 0))) ∷
      [];
  conclusion =
      over2 op.Equal
      (over1 op.Un64 (over2 op.Put64 (part 0) (part 1)))
      (part 1);
}

-- 47 (x: Bytes, a: Word): => len(put64(x, a)) == len(x)
abbrev pub axiom_47 : Axiom
axiom_47 = record {
  kinds = kind.Of sort.Bytes ∷ kind.Of sort.Word ∷ [];
  premises =
      [];
  conclusion =
      over2 op.Equal
      (over1 op.Len (over2 op.Put64 (part 0) (part 1)))
      (over1 op.Len (part 0));
}

-- 48 (x: Bytes, a: Word, i: Word): 8 <= i => at(put64(x, a), i) == at(x, i)
abbrev pub axiom_48 : Axiom
axiom_48 = record {
  kinds = kind.Of sort.Bytes ∷ kind.Of sort.Word ∷ kind.Of sort.Word ∷ [];
  premises =
      always (over2 op.AtMost (over0 (op.Number 8)) (part 2)) ∷
      [];
  conclusion =
      over2 op.Equal
      (over2 op.At (over2 op.Put64 (part 0) (part 1)) (part 2))
      (over2 op.At (part 0) (part 2));
}

-- 49 (x: Bytes): iszero(x) => un64(x) == 0
abbrev pub axiom_49 : Axiom
axiom_49 = record {
  kinds = kind.Of sort.Bytes ∷ [];
  premises =
      always (over1 op.IsZero (part 0)) ∷
      [];
  conclusion =
      over2 op.Equal
      (over1 op.Un64 (part 0))
      (over0 (op.Number 0));
}

-- 50 (m: Map, k: Word, v: Held m): => get(put(m, k, v), k) == v
abbrev pub axiom_50 : Axiom
axiom_50 = record {
  kinds = kind.Map ∷ kind.Of sort.Word ∷ kind.Held 0 ∷ [];
  premises =
      [];
  conclusion =
      over2 op.Equal
      (over2 op.Get (over3 op.Put (part 0) (part 1) (part 2)) (part 1))
      (part 2);
}

-- 51 (m: Map, k: Word, j: Word, v: Held m): !(j == k) => get(put(m, k, v), j) == get(m, j)
abbrev pub axiom_51 : Axiom
axiom_51 = record {
  kinds = kind.Map ∷ kind.Of sort.Word ∷ kind.Of sort.Word ∷ kind.Held 0 ∷ [];
  premises =
      always (over1 op.Not (over2 op.Equal (part 2) (part 1))) ∷
      [];
  conclusion =
      over2 op.Equal
      (over2 op.Get (over3 op.Put (part 0) (part 1) (part 3)) (part 2))
      (over2 op.Get (part 0) (part 2));
}

-- 52 (m: Map, k: Word, v: Held m): => has(put(m, k, v), k)
abbrev pub axiom_52 : Axiom
axiom_52 = record {
  kinds = kind.Map ∷ kind.Of sort.Word ∷ kind.Held 0 ∷ [];
  premises =
      [];
  conclusion =
      over2 op.Has (over3 op.Put (part 0) (part 1) (part 2)) (part 1);
}

-- 53 (m: Map, k: Word, j: Word, v: Held m): !(j == k) => has(put(m, k, v), j) == has(m, j)
abbrev pub axiom_53 : Axiom
axiom_53 = record {
  kinds = kind.Map ∷ kind.Of sort.Word ∷ kind.Of sort.Word ∷ kind.Held 0 ∷ [];
  premises =
      always (over1 op.Not (over2 op.Equal (part 2) (part 1))) ∷
      [];
  conclusion =
      over2 op.Equal
      (over2 op.Has (over3 op.Put (part 0) (part 1) (part 3)) (part 2))
      (over2 op.Has (part 0) (part 2));
}

-- 54 (m: Map, k: Word): => !has(del(m, k), k)
abbrev pub axiom_54 : Axiom
axiom_54 = record {
  kinds = kind.Map ∷ kind.Of sort.Word ∷ [];
  premises =
      [];
  conclusion =
      over1 op.Not (over2 op.Has (over2 op.Del (part 0) (part 1)) (part 1));
}

-- 55 (m: Map, k: Word, j: Word): !(j == k) => has(del(m, k), j) == has(m, j)
abbrev pub axiom_55 : Axiom
axiom_55 = record {
  kinds = kind.Map ∷ kind.Of sort.Word ∷ kind.Of sort.Word ∷ [];
  premises =
      always (over1 op.Not (over2 op.Equal (part 2) (part 1))) ∷
      [];
  conclusion =
      over2 op.Equal
      (over2 op.Has (over2 op.Del (part 0) (part 1)) (part 2))
      (over2 op.Has (part 0) (part 2));
}

-- 56 (m: Map, k: Word, j: Word): !(j == k) => get(del(m, k), j) == get(m, j)
abbrev pub axiom_56 : Axiom
axiom_56 = record {
  kinds = kind.Map ∷ kind.Of sort.Word ∷ kind.Of sort.Word ∷ [];
  premises =
      always (over1 op.Not (over2 op.Equal (part 2) (part 1))) ∷
      [];
  conclusion =
      over2 op.Equal
      (over2 op.Get (over2 op.Del (part 0) (part 1)) (part 2))
      (over2 op.Get (part 0) (part 2));
}

-- 57 (m: Map, k: Word): !has(m, k) => get(m, k) == Z(m)
abbrev pub axiom_57 : Axiom
axiom_57 = record {
  kinds = kind.Map ∷ kind.Of sort.Word ∷ [];
  premises =
      always (over1 op.Not (over2 op.Has (part 0) (part 1))) ∷
      [];
  conclusion =
      over2 op.Equal
      (over2 op.Get (part 0) (part 1))
      (zero 0);
}

-- 58 (m: EmptyMap, k: Word): => !has(m, k)
abbrev pub axiom_58 : Axiom
axiom_58 = record {
  kinds = kind.EmptyMap ∷ kind.Of sort.Word ∷ [];
  premises =
      [];
  conclusion =
      over1 op.Not (over2 op.Has (part 0) (part 1));
}

-- 59 (s: SliceS, a: Word, b: Word): a <= b; b <= scap(s) => slen(sl(s, a, b)) == b - a
abbrev pub axiom_59 : Axiom
axiom_59 = record {
  kinds = kind.Of sort.SliceS ∷ kind.Of sort.Word ∷ kind.Of sort.Word ∷ [];
  premises =
      always (over2 op.AtMost (part 1) (part 2)) ∷
      always (over2 op.AtMost (part 2) (over1 op.SCap (part 0))) ∷
      [];
  conclusion =
      over2 op.Equal
      (over1 op.SLen (over3 op.Sl (part 0) (part 1) (part 2)))
      (over2 op.Minus (part 2) (part 1));
}

-- 60 (s: SliceS, a: Word, b: Word): a <= b; b <= scap(s) => scap(sl(s, a, b)) == scap(s) - a
abbrev pub axiom_60 : Axiom
axiom_60 = record {
  kinds = kind.Of sort.SliceS ∷ kind.Of sort.Word ∷ kind.Of sort.Word ∷ [];
  premises =
      always (over2 op.AtMost (part 1) (part 2)) ∷
      always (over2 op.AtMost (part 2) (over1 op.SCap (part 0))) ∷
      [];
  conclusion =
      over2 op.Equal
      (over1 op.SCap (over3 op.Sl (part 0) (part 1) (part 2)))
      (over2 op.Minus (over1 op.SCap (part 0)) (part 1));
}

-- 61 (s: SliceS): => slen(s) <= scap(s)
abbrev pub axiom_61 : Axiom
axiom_61 = record {
  kinds = kind.Of sort.SliceS ∷ [];
  premises =
      [];
  conclusion =
      over2 op.AtMost (over1 op.SLen (part 0)) (over1 op.SCap (part 0));
}

-- 62 (s: SliceS): => sl(s, 0, slen(s)) == s
abbrev pub axiom_62 : Axiom
axiom_62 = record {
  kinds = kind.Of sort.SliceS ∷ [];
  premises =
      [];
  conclusion =
      over2 op.Equal
      (over3 op.Sl (part 0) (over0 (op.Number 0)) (over1 op.SLen (part 0)))
      (part 0);
}

-- 63 (s: SliceS, a: Word, b: Word, i: Word, j: Word): a <= b; b <= scap(s); i <= j; j <= scap(s) - a => sl(sl(s, a, b), i, j) == sl(s, a + i, a + j)
abbrev pub axiom_63 : Axiom
axiom_63 = record {
  kinds = kind.Of sort.SliceS ∷ kind.Of sort.Word ∷ kind.Of sort.Word ∷ kind.Of sort.Word ∷ kind.Of sort.Word ∷ [];
  premises =
      always (over2 op.AtMost (part 1) (part 2)) ∷
      always (over2 op.AtMost (part 2) (over1 op.SCap (part 0))) ∷
      always (over2 op.AtMost (part 3) (part 4)) ∷
      always (over2 op.AtMost (part 4) (over2 op.Minus (over1 op.SCap (part 0)) (part 1))) ∷
      [];
  conclusion =
      over2 op.Equal
      (over3 op.Sl (over3 op.Sl (part 0) (part 1) (part 2)) (part 3) (part 4))
      (over3 op.Sl (part 0) (over2 op.Plus (part 1) (part 3)) (over2 op.Plus (part 1) (part 4)));
}

abbrev pub table : List Axiom
table =
    axiom_1 ∷ axiom_2 ∷ axiom_3 ∷ axiom_4 ∷ axiom_5 ∷ axiom_6 ∷ axiom_7 ∷ axiom_8
    ∷ axiom_9 ∷ axiom_10 ∷ axiom_11 ∷ axiom_12 ∷ axiom_13 ∷ axiom_14 ∷ axiom_15 ∷ axiom_16
    ∷ axiom_17 ∷ axiom_18 ∷ axiom_19 ∷ axiom_20 ∷ axiom_21 ∷ axiom_22 ∷ axiom_23 ∷ axiom_24
    ∷ axiom_25 ∷ axiom_26 ∷ axiom_27 ∷ axiom_28 ∷ axiom_29 ∷ axiom_30 ∷ axiom_31 ∷ axiom_32
    ∷ axiom_33 ∷ axiom_34 ∷ axiom_35 ∷ axiom_36 ∷ axiom_37 ∷ axiom_38 ∷ axiom_39 ∷ axiom_40
    ∷ axiom_41 ∷ axiom_42 ∷ axiom_43 ∷ axiom_44 ∷ axiom_45 ∷ axiom_46 ∷ axiom_47 ∷ axiom_48
    ∷ axiom_49 ∷ axiom_50 ∷ axiom_51 ∷ axiom_52 ∷ axiom_53 ∷ axiom_54 ∷ axiom_55 ∷ axiom_56
    ∷ axiom_57 ∷ axiom_58 ∷ axiom_59 ∷ axiom_60 ∷ axiom_61 ∷ axiom_62 ∷ axiom_63 ∷ []
