-- The value of an operator over values in range is in range, and so is the value of a tree.
use Rattle.std.proofs.Common.{◌≡◌, not, ℕ, zero, suc, ◌+◌, ◌-◌, ◌*◌, ◌/◌, ◌%◌, ◌^◌, ◌<◌, ◌≤◌, List, [], ◌∷◌, ◌++◌, Bool, true, false, ◌&&◌, cond, map, length, take, drop, set, replicate, get_or, nat_eq, nat_lt, nat_le, refl, sym, ap, ◌∙◌, subst, Option, Some, None, option_map, unwrap_or, find, filter, arith, lit<, ltb-true, ltb-false, leb-true, length-drop, length-take, length-append, length-set, div-le_self}
use Rattle.std.specs.List.{All, list_all}
use Rattle.std.specs.Str.{bytes_eq}
use Rattle.std.proofs.lemmas.List.{length-replicate}
use Rattle.std.proofs.lemmas.List.Elements.{All-nil, All-cons, All-tail, All-append, All-set, All-filter, All-replicate, All-take, All-drop}
use Rattle.std.proofs.Math.Nat.{mod-le}
use Rattle.std.proofs.lemmas.Nat.{and_le_l, or_lt, xor_lt}
use Rattle.gv_terms.specs.declared.sort.Sort.{Sort}
use Rattle.gv_terms.specs.declared.sort.Sort.TheVariants as sort
use Rattle.gv_terms.specs.declared.operator.Operator.{Operator}
use Rattle.gv_terms.specs.declared.operator.Operator.TheVariants as op
use Rattle.gv_terms.specs.declared.value.Value.{Value}
use Rattle.gv_terms.specs.declared.value.Value.TheVariants as val
use Rattle.gv_terms.specs.declared.value.Binding.{Binding}
use Rattle.gv_terms.specs.declared.value.Env.{Env}
use Rattle.gv_terms.specs.declared.tree.TermTree.{TermTree}
use Rattle.gv_terms.specs.declared.tree.TermTree.TheVariants as tree
use Rattle.gv_terms.specs.declared.tree.TermTree.TheOpen.{TermTree-F, Variable, Apply}
use Rattle.gv_terms.specs.declared.tree.TermTree.TheFolds.{map-TermTree, ind-TermTree}
use Rattle.gv_terms.specs.declared.tree.TermTree.TheViews.{roll-TermTree}
use Rattle.gv_words.specs.Words as words
use Rattle.gv_words.specs.Words.{low_bytes, number_of, le64, un64, put64}
use Rattle.gv_words.specs.Maps.{entry_at, with_entry, without}
use Rattle.gv_terms.specs.Sorts.{sort_given, takes, with_copies}
use Rattle.gv_base.specs.declared.slice_val.SliceVal.{SliceVal}
use Rattle.gv_terms.specs.Values.{nil_slice, zero_of, has_sort, word_of, bytes_of, ref_of, slice_of}
use Rattle.gv_terms.specs.Meaning.{operate, part, part_of, joined, too_long, length_of, item_at, with_item, items_between, both_lists, all_zero, held_at, holds_at, map_with, map_without, slice_between}
use Rattle.gv_terms.specs.Trees.{sort_of, all_sorts, value_under}
use Rattle.gv_terms.specs.Ranges.{IsList, AreBytes, IsMap, IsSlice, IsInRange, IsValuation, is_word_if_number, numbers_are_words}
use Rattle.gv_terms.specs.declared.stored.Stored.{Stored}
use Rattle.gv_terms.specs.Store.{tree_at, trees_of, AreSound}
use Rattle.gv_terms.specs.Evaluation.{some_node}
use Rattle.gv_terms.specs.Laws.{ValuesInRange}
use Rattle.gv_terms.proofs.NodeSorts.{sort_apply}
use Rattle.gv_terms.proofs.Numbers.{numbers_apply}
use Rattle.gv_terms.proofs.Valued.{value_variable, value_apply}
use Rattle.gv_terms.proofs.WordBytes.{number_below}
use Rattle.gv_terms.proofs.ValueSorts.{left, right, first_and_rest, each_sorted}

-- Lists.

module _ {A : Type 0} (P : A → Type 0) where
  nothing : IsList P []
  nothing = (lit< tt, All-nil P)

  item_in : (x : List A) (i : ℕ) (d : A) → P d → All P x → P (get_or x i d)
  item_in [] i d h all = h
  item_in (a ∷ x) zero d h all = all 0 d (omega arith)
  item_in (a ∷ x) (suc i) d h all = item_in x i d h (All-tail P a x all)

  shorter : (x : List A) (a b : ℕ) → length (part_of x a b) ≤ length x
  shorter x a b = omega (arith, length-drop a (take b x), length-take b x)

  part_in : (x : List A) (a b : ℕ) → IsList P x → IsList P (part_of x a b)
  part_in x a b is = (omega (arith, is.0, shorter x a b), All-drop P a (take b x) (All-take P b x is.1))

  set_in : (x : List A) (i : ℕ) (a : A) → IsList P x → P a → IsList P (set x i a)
  set_in x i a is h = (omega (arith, is.0, length-set x i a), All-set P x i a h is.1)

  joined_in : (x y : List A) → IsList P x → IsList P y → IsList P (joined x y)
  joined_in x y is too = pick (nat_lt (length x + length y) too_long) refl
    where
      pick : (b : Bool) → nat_lt (length x + length y) too_long ≡ b → IsList P (cond b (x ++ y) x)
      pick true e = (omega (arith, length-append x y, ltb-true (length x + length y) too_long e), All-append P x y is.1 too.1)
      pick false e = is

  copies_in : (k : ℕ) (a : A) → k ≤ 65536 → P a → IsList P (replicate k a)
  copies_in k a le h = (omega (arith, length-replicate k a), All-replicate P k a h)

-- Maps.

module _ {V : Type 0} (P : V → Type 0) where
  abbrev IsEntry : ℕ × V → Type 0
  IsEntry e = (e.0 < words.words) × P e.1

  held_in : (m : List (ℕ × V)) (k : ℕ) (d : V) → P d → IsMap P m → P (unwrap_or (entry_at m k) d)
  held_in [] k d h is = h
  held_in (e ∷ m) k d h is = pick (nat_eq e.0 k) (held_in m k d h (All-tail IsEntry e m is))
    where
      pick : (b : Bool) → P (unwrap_or (entry_at m k) d) → P (unwrap_or (option_map (λ c. c.1) (cond b (Some e) (find (λ c. nat_eq c.0 k) m))) d)
      pick true g = (is 0 e (omega arith)).1
      pick false g = g

  with_in : (m : List (ℕ × V)) (k : ℕ) (v : V) → k < words.words → P v → IsMap P m → IsMap P (with_entry m k v)
  with_in m k v below h is =
      All-append IsEntry (filter (λ e. nat_lt e.0 k) m) ((k, v) ∷ filter (λ e. nat_lt k e.0) m)
      (All-filter (λ e. nat_lt e.0 k) IsEntry m is)
      (All-cons IsEntry (k, v) (filter (λ e. nat_lt k e.0) m) (below, h) (All-filter (λ e. nat_lt k e.0) IsEntry m is))

  without_in : (m : List (ℕ × V)) (k : ℕ) → IsMap P m → IsMap P (without m k)
  without_in m k is = All-filter (λ e. not (nat_eq e.0 k)) IsEntry m is

-- Words as bytes.

low_in : (n a : ℕ) → All (λ b. b < 256) (low_bytes n a)
low_in zero a = All-nil (λ b. b < 256)
low_in (suc n) a = All-cons (λ b. b < 256) (a % 256) (low_bytes n (a / 256)) (omega arith) (low_in n (a / 256))

low_length : (n a : ℕ) → length (low_bytes n a) ≡ n
low_length zero a = refl
low_length (suc n) a = ap suc (low_length n (a / 256))

le64_in : (a : ℕ) → IsList (λ b. b < 256) (le64 a)
unfolding le64
le64_in a = (omega (arith, low_length 8 a), low_in 8 a)

un64_below : (x : List ℕ) → AreBytes x → un64 x < words.words
unfolding un64
un64_below x is = number_below 8 (take 8 x) (omega (arith, length-take 8 x)) (λ k. item_in (λ b. b < 256) (take 8 x) k 0 (lit< tt) (All-take (λ b. b < 256) 8 x is.1))

put64_in : (x : List ℕ) (a : ℕ) → AreBytes x → AreBytes (put64 x a)
unfolding le64
put64_in x a is = pick (nat_lt (length x) 8) refl
  where
    pick : (b : Bool) → nat_lt (length x) 8 ≡ b → AreBytes (cond b x (le64 a ++ drop 8 x))
    pick true e = is
    pick false e =
        (omega (arith, is.0, ltb-false (length x) 8 e, length-append (low_bytes 8 a) (drop 8 x), low_length 8 a, length-drop 8 x), All-append (λ b. b < 256) (le64 a) (drop 8 x) (low_in 8 a) (All-drop (λ b. b < 256) 8 x is.1))

-- Slices.

no_slice : IsSlice nil_slice
no_slice = (lit< tt, omega arith)

-- Values.

part_in_range : (vs : List Value) (i : ℕ) → All IsInRange vs → IsInRange (part vs i)
part_in_range vs i all = item_in IsInRange vs i val.Unit tt all

word_below : (v : Value) → IsInRange v → word_of v < words.words
word_below (val.Word n) is = is
word_below _ is = lit< tt

bytes_in : (v : Value) → IsInRange v → AreBytes (bytes_of v)
bytes_in (val.Bytes x) is = is
bytes_in _ is = nothing (λ b. b < 256)

slice_in : (v : Value) → IsInRange v → IsSlice (slice_of v)
slice_in (val.SliceS s) is = is
slice_in _ is = no_slice

length_below : (s : SliceVal) → IsSlice s → s.length < words.words
length_below s is = omega (arith, is.0, is.1)

capacity_below : (s : SliceVal) → IsSlice s → s.capacity < words.words
capacity_below s is = omega (arith, is.0)

between_in : (s : SliceVal) (a b : ℕ) → IsSlice s → IsSlice (slice_between s a b)
between_in s a b is = pick (nat_le a b) (nat_le b s.capacity) refl refl
  where
    pick : (p q : Bool) → nat_le a b ≡ p → nat_le b s.capacity ≡ q → IsSlice (cond (p && q) (record { object = s.object; offset = words.plus s.offset a; length = b - a; capacity = s.capacity - a }) nil_slice)
    pick true true e f =
        let low = leb-true a b e in
        let high = leb-true b s.capacity f in
        (omega (arith, low, high, is.0), omega (arith, high))
    pick true false e f = no_slice
    pick false q e f = no_slice

length_in : (v : Value) → IsInRange v → IsInRange (length_of v)
length_in (val.Bytes x) is = omega (arith, is.0)
length_in (val.Words x) is = omega (arith, is.0)
length_in (val.Refs x) is = omega (arith, is)
length_in (val.Blocks x) is = omega (arith, is.0)
length_in _ is = tt

item_at_in : (v : Value) (i : ℕ) → IsInRange v → IsInRange (item_at v i)
item_at_in (val.Bytes x) i is = omega (arith, item_in (λ b. b < 256) x i 0 (lit< tt) is.1)
item_at_in (val.Words x) i is = item_in (λ n. n < words.words) x i 0 (lit< tt) is.1
item_at_in (val.Refs x) i is = tt
item_at_in (val.Blocks x) i is = item_in AreBytes x i [] (nothing (λ b. b < 256)) is.1
item_at_in _ i is = tt

with_item_in : (v : Value) (i : ℕ) (w : Value) → IsInRange v → IsInRange w → IsInRange (with_item v i w)
with_item_in (val.Bytes x) i w is too = set_in (λ b. b < 256) x i (word_of w % 256) is (omega arith)
with_item_in (val.Words x) i w is too = set_in (λ n. n < words.words) x i (word_of w) is (word_below w too)
with_item_in (val.Refs x) i w is too = omega (arith, is, length-set x i (ref_of w))
with_item_in (val.Blocks x) i w is too = set_in AreBytes x i (bytes_of w) is (bytes_in w too)
with_item_in _ i w is too = tt

items_between_in : (v : Value) (a b : ℕ) → IsInRange v → IsInRange (items_between v a b)
items_between_in (val.Bytes x) a b is = part_in (λ c. c < 256) x a b is
items_between_in (val.Words x) a b is = part_in (λ n. n < words.words) x a b is
items_between_in (val.Refs x) a b is = (part_in (λ r. Unit {0}) x a b (is, λ k d l. tt)).0
items_between_in (val.Blocks x) a b is = part_in AreBytes x a b is
items_between_in _ a b is = tt

both_lists_in : (v w : Value) → IsInRange v → IsInRange w → IsInRange (both_lists v w)
both_lists_in (val.Bytes x) (val.Bytes y) is too = joined_in (λ b. b < 256) x y is too
both_lists_in (val.Words x) (val.Words y) is too = joined_in (λ n. n < words.words) x y is too
both_lists_in (val.Refs x) (val.Refs y) is too = (joined_in (λ r. Unit {0}) x y (is, λ k d l. tt) (too, λ k d l. tt)).0
both_lists_in (val.Blocks x) (val.Blocks y) is too = joined_in AreBytes x y is too
both_lists_in _ _ is too = tt

all_zero_in : (v : Value) → IsInRange (all_zero v)
all_zero_in (val.Bytes x) = tt
all_zero_in (val.Words x) = tt
all_zero_in (val.Refs x) = tt
all_zero_in (val.Blocks x) = tt
all_zero_in _ = tt

held_at_in : (v : Value) (k : ℕ) → IsInRange v → IsInRange (held_at v k)
held_at_in (val.MapWW m) k is = held_in (λ n. n < words.words) m k 0 (lit< tt) is
held_at_in (val.MapWB m) k is = held_in AreBytes m k [] (nothing (λ b. b < 256)) is
held_at_in _ k is = tt

holds_at_in : (v : Value) (k : ℕ) → IsInRange (holds_at v k)
holds_at_in (val.MapWW m) k = tt
holds_at_in (val.MapWB m) k = tt
holds_at_in _ k = tt

map_with_in : (v : Value) (k : ℕ) (w : Value) → k < words.words → IsInRange v → IsInRange w → IsInRange (map_with v k w)
map_with_in (val.MapWW m) k w below is too = with_in (λ n. n < words.words) m k (word_of w) below (word_below w too) is
map_with_in (val.MapWB m) k w below is too = with_in AreBytes m k (bytes_of w) below (bytes_in w too) is
map_with_in _ k w below is too = tt

map_without_in : (v : Value) (k : ℕ) → IsInRange v → IsInRange (map_without v k)
map_without_in (val.MapWW m) k is = without_in (λ n. n < words.words) m k is
map_without_in (val.MapWB m) k is = without_in AreBytes m k is
map_without_in _ k is = tt

choice_in : (b : Bool) (v w : Value) → IsInRange v → IsInRange w → IsInRange (cond b v w)
choice_in true v w is too = is
choice_in false v w is too = too

-- Words.

choice_below : (b : Bool) (m n : ℕ) → m < words.words → n < words.words → cond b m n < words.words
choice_below true m n f g = f
choice_below false m n f g = g

quotient_below : (a b : ℕ) → a < words.words → words.quotient a b < words.words
quotient_below a b below = choice_below (nat_eq b 0) 0 (a / b) (lit< tt) (omega (arith, div-le_self a b))

remainder_below : (a b : ℕ) → a < words.words → words.remainder a b < words.words
remainder_below a b below = choice_below (nat_eq b 0) 0 (a % b) (lit< tt) (omega (arith, mod-le a b))

shifted_left_below : (a b : ℕ) → words.shifted_left a b < words.words
shifted_left_below a b = choice_below (nat_lt b 64) ((a * 2 ^ b) % words.words) 0 (omega arith) (lit< tt)

shifted_right_below : (a b : ℕ) → a < words.words → words.shifted_right a b < words.words
shifted_right_below a b below = choice_below (nat_lt b 64) (a / 2 ^ b) 0 (omega (arith, div-le_self a (2 ^ b))) (lit< tt)

-- Operators.

few : (k : ℕ) (o : Option Sort) (r : Sort) → with_copies k o ≡ Some r → k ≤ 65536
few k o r e = pick (nat_le k 65536) refl e
  where
    pick : (b : Bool) → nat_le k 65536 ≡ b → cond b o None ≡ Some r → k ≤ 65536
    pick true f g = leb-true k 65536 f
    pick false f g = absurd cc

module _ (ss : List Sort) (vs : List Value) (r : Sort) (all : All IsInRange vs) where
  at_word : (i : ℕ) → word_of (part vs i) < words.words
  at_word i = word_below (part vs i) (part_in_range vs i all)

  here : (i : ℕ) → IsInRange (part vs i)
  here i = part_in_range vs i all

  pub operate_in : (o : Operator) → is_word_if_number o ≡ true → sort_given o ss ≡ Some r → IsInRange (operate o vs)
  operate_in (op.Number n) f e = ltb-true n words.words f
  operate_in op.True f e = tt
  operate_in op.False f e = tt
  operate_in op.Nil f e = tt
  operate_in op.NilSlice f e = no_slice
  operate_in op.NoCall f e = tt
  operate_in op.MapWW f e = All-nil _
  operate_in op.MapWB f e = All-nil _
  operate_in op.Not f e = tt
  operate_in op.Complement f e = omega arith
  operate_in op.Or f e = tt
  operate_in op.And f e = tt
  operate_in op.Equal f e = tt
  operate_in op.Less f e = tt
  operate_in op.AtMost f e = tt
  operate_in op.Plus f e = omega arith
  operate_in op.Minus f e = omega arith
  operate_in op.BitOr f e = or_lt 64 _ _ (at_word 0) (at_word 1)
  operate_in op.BitXor f e = xor_lt 64 _ _ (at_word 0) (at_word 1)
  operate_in op.Times f e = omega arith
  operate_in op.Divide f e = quotient_below _ _ (at_word 0)
  operate_in op.Remainder f e = remainder_below _ _ (at_word 0)
  operate_in op.ShiftLeft f e = shifted_left_below _ _
  operate_in op.ShiftRight f e = shifted_right_below _ _ (at_word 0)
  operate_in op.BitAnd f e = omega (arith, and_le_l (word_of (part vs 0)) (word_of (part vs 1)), at_word 0)
  operate_in op.BitClear f e = omega (arith, and_le_l (word_of (part vs 0)) (words.complement (word_of (part vs 1))), at_word 0)
  operate_in op.If f e = choice_in _ (part vs 1) (part vs 2) (here 1) (here 2)
  operate_in op.Imp f e = tt
  operate_in op.Fits f e = tt
  operate_in (op.Bytes k) f e = copies_in (λ b. b < 256) k (word_of (part vs 0) % 256) (few k (takes (sort.Word ∷ []) sort.Bytes ss) r e) (omega arith)
  operate_in (op.Words k) f e = copies_in (λ n. n < words.words) k (word_of (part vs 0)) (few k (takes (sort.Word ∷ []) sort.Words ss) r e) (at_word 0)
  operate_in (op.Refs k) f e = (copies_in (λ n. Unit {0}) k (ref_of (part vs 0)) (few k (takes (sort.Ref ∷ []) sort.Refs ss) r e) tt).0
  operate_in (op.Blocks k) f e = copies_in AreBytes k (bytes_of (part vs 0)) (few k (takes (sort.Bytes ∷ []) sort.Blocks ss) r e) (bytes_in (part vs 0) (here 0))
  operate_in op.Len f e = length_in (part vs 0) (here 0)
  operate_in op.At f e = item_at_in (part vs 0) _ (here 0)
  operate_in op.Upd f e = with_item_in (part vs 0) _ (part vs 2) (here 0) (here 2)
  operate_in op.Sub f e = items_between_in (part vs 0) _ _ (here 0)
  operate_in op.Cat f e = both_lists_in (part vs 0) (part vs 1) (here 0) (here 1)
  operate_in op.IsZero f e = all_zero_in (part vs 0)
  operate_in op.Le64 f e = le64_in (word_of (part vs 0))
  operate_in op.Un64 f e = un64_below (bytes_of (part vs 0)) (bytes_in (part vs 0) (here 0))
  operate_in op.Put64 f e = put64_in (bytes_of (part vs 0)) (word_of (part vs 1)) (bytes_in (part vs 0) (here 0))
  operate_in op.Get f e = held_at_in (part vs 0) _ (here 0)
  operate_in op.Has f e = holds_at_in (part vs 0) _
  operate_in op.Put f e = map_with_in (part vs 0) _ (part vs 2) (at_word 1) (here 0) (here 2)
  operate_in op.Del f e = map_without_in (part vs 0) _ (here 0)
  operate_in op.SLen f e = length_below (slice_of (part vs 0)) (slice_in (part vs 0) (here 0))
  operate_in op.Sl f e = between_in (slice_of (part vs 0)) _ _ (slice_in (part vs 0) (here 0))
  operate_in op.SCap f e = capacity_below (slice_of (part vs 0)) (slice_in (part vs 0) (here 0))

-- Variables.

zero_in : (s : Sort) → IsInRange (zero_of s)
zero_in sort.Word = lit< tt
zero_in sort.Bool = tt
zero_in sort.Bytes = nothing (λ b. b < 256)
zero_in sort.Words = nothing (λ n. n < words.words)
zero_in sort.Refs = lit< tt
zero_in sort.Blocks = nothing AreBytes
zero_in sort.MapWW = All-nil _
zero_in sort.MapWB = All-nil _
zero_in sort.Ref = tt
zero_in sort.SliceS = no_slice
zero_in sort.Call = tt
zero_in sort.Name = tt

found_in : (bs : List Binding) (n : List ℕ) (s : Sort) → All (λ b. IsInRange b.value) bs → IsInRange (unwrap_or (option_map (λ b. b.value) (find (λ b. bytes_eq b.name n && has_sort b.value s) bs)) (zero_of s))
found_in [] n s all = zero_in s
found_in (b ∷ bs) n s all = pick (bytes_eq b.name n && has_sort b.value s) (found_in bs n s (All-tail (λ c. IsInRange c.value) b bs all))
  where
    pick : (t : Bool) → IsInRange (unwrap_or (option_map (λ c. c.value) (find (λ c. bytes_eq c.name n && has_sort c.value s) bs)) (zero_of s))
        → IsInRange (unwrap_or (option_map (λ c. c.value) (cond t (Some b) (find (λ c. bytes_eq c.name n && has_sort c.value s) bs))) (zero_of s))
    pick true is = all 0 b (omega arith)
    pick false is = is

-- Trees.

module _ (env : Env) (all : All (λ b. IsInRange b.value) env.bindings) where
  abbrev HasRange : TermTree → Type 0
  HasRange t = (s : Sort) → sort_of t ≡ Some s → numbers_are_words t ≡ true → IsInRange (value_under env t)

  parts_in_range : (es : List ((t : TermTree) × HasRange t)) (ss : List Sort) → all_sorts (map sort_of (map (λ e. e.0) es)) ≡ Some ss → list_all (λ b. b) (map numbers_are_words (map (λ e. e.0) es)) ≡ true
      → All IsInRange (map (value_under env) (map (λ e. e.0) es))
  parts_in_range [] ss e f = All-nil IsInRange
  parts_in_range (d ∷ es) ss e f =
      let parts = first_and_rest (sort_of d.0) (map sort_of (map (λ c. c.0) es)) ss e in
      let rest = list_all (λ b. b) (map numbers_are_words (map (λ c. c.0) es)) in
      All-cons IsInRange (value_under env d.0) (map (value_under env) (map (λ c. c.0) es))
      (d.1 parts.0 parts.2 (left (numbers_are_words d.0) rest f))
      (parts_in_range es parts.1 parts.3 (right (numbers_are_words d.0) rest f))

  variable_in : (n : List ℕ) (s : Sort) → HasRange (tree.Variable n s)
  variable_in n s r e f = subst IsInRange (sym (value_variable env n s)) (found_in env.bindings n s all)

  apply_in : (o : Operator) (es : List ((t : TermTree) × HasRange t)) → HasRange (tree.Apply o (map (λ e. e.0) es))
  apply_in o es r e f =
      let ts = map (λ c. c.0) es in
      let sorted = each_sorted (all_sorts (map sort_of ts)) (sort_given o) r (sym (sort_apply o ts) ∙ e) in
      let rest = list_all (λ b. b) (map numbers_are_words ts) in
      let numbers = sym (numbers_apply o ts) ∙ f in
      subst IsInRange (sym (value_apply env o ts))
      (operate_in sorted.0 (map (value_under env) ts) r (parts_in_range es sorted.0 sorted.1 (right (is_word_if_number o) rest numbers)) o (left (is_word_if_number o) rest numbers) sorted.2)

  layer_in : (y : TermTree-F ((t : TermTree) × HasRange t)) → HasRange (roll-TermTree (map-TermTree ((t : TermTree) × HasRange t) TermTree (λ e. e.0) y))
  layer_in (Variable n s) = subst HasRange (sym (tree.rolls-Variable n s)) (variable_in n s)
  layer_in (Apply o es) = subst HasRange (sym (tree.rolls-Apply o (map (λ e. e.0) es))) (apply_in o es)

  -- y is x with the fact of each part beside it
  pub tree_in_range : (t : TermTree) → HasRange t
  tree_in_range = ind-TermTree HasRange (λ x y is. subst (λ z. HasRange (roll-TermTree z)) is (layer_in y))

pub values_in_range : ValuesInRange
values_in_range env t s all = tree_in_range env all t s

-- the value of a store's term
pub term_range : (env : Env) (ns : List Stored) (i : ℕ) → AreSound ns → i < length ns → IsValuation env → IsInRange (value_under env (tree_at (trees_of ns) i))
term_range env ns i sound lt all =
    let node = sound i some_node lt in
    values_in_range env (tree_at (trees_of ns) i) (get_or ns i some_node).sort all node.sort node.words
