-- The value of an operator has the sort that the table gives, and so the value of a tree has the tree's.
use Rattle.std.proofs.Common.{◌≡◌, ℕ, zero, suc, ◌<◌, length, List, [], ◌∷◌, Bool, true, false, ◌&&◌, cond, map, get_or, find, refl, sym, ap, ◌∙◌, subst, Option, Some, None, nat_le, option_map, unwrap_or, eqb-true}
use Rattle.std.specs.Prelude.{slice_get}
use Rattle.std.specs.Str.{bytes_eq}
use Rattle.std.specs.Cmp.Lexicographic.{pointwise}
use Rattle.gv_terms.specs.declared.sort.Sort.{Sort}
use Rattle.gv_terms.specs.declared.sort.Sort.TheVariants as sort
use Rattle.gv_terms.specs.declared.operator.Operator.{Operator}
use Rattle.gv_terms.specs.declared.operator.Operator.TheVariants as op
use Rattle.gv_terms.specs.declared.value.Value.{Value}
use Rattle.gv_terms.specs.declared.value.Value.TheVariants as val
use Rattle.gv_terms.specs.declared.value.Binding.{Binding}
use Rattle.gv_terms.specs.declared.value.Env.{Env}
use Rattle.gv_terms.specs.declared.tree.Head.TheVariants as head
use Rattle.gv_terms.specs.declared.stored.Stored.{Stored}
use Rattle.gv_terms.specs.declared.tree.TermTree.{TermTree}
use Rattle.gv_terms.specs.declared.tree.TermTree.TheVariants as tree
use Rattle.gv_terms.specs.declared.tree.TermTree.TheOpen.{TermTree-F, Variable, Apply}
use Rattle.gv_terms.specs.declared.tree.TermTree.TheFolds.{map-TermTree, ind-TermTree}
use Rattle.gv_terms.specs.declared.tree.TermTree.TheViews.{roll-TermTree}
use Rattle.gv_terms.specs.Sorts.{sort_given, sort_number, sort_eq, takes, with_sort, with_list, with_map, with_copies, item_sort, entry_sort}
use Rattle.gv_terms.specs.Values.{zero_of, sort_of_value, is_sort, has_sort}
use Rattle.gv_terms.specs.Meaning.{operate, part, length_of, item_at, with_item, items_between, both_lists, all_zero, held_at, holds_at, map_with, map_without}
use Rattle.gv_terms.specs.Trees.{sort_of, all_sorts, with_sorts, value_under}
use Rattle.gv_terms.specs.Store.{tree_at, trees_of, AreSound}
use Rattle.gv_terms.specs.Laws.{ValuesHaveSorts}
use Rattle.gv_terms.proofs.Arity.{limited}
use Rattle.gv_terms.proofs.NodeSorts.{sort_variable, sort_apply}
use Rattle.gv_terms.proofs.Valued.{value_variable, value_apply}

-- Sorts.

abbrev sorts : List Sort
sorts = sort.Word ∷ sort.Bool ∷ sort.Bytes ∷ sort.Words ∷ sort.Refs ∷ sort.Blocks ∷ sort.MapWW ∷ sort.MapWB ∷ sort.Ref ∷ sort.SliceS ∷ sort.Call ∷ sort.Name ∷ []

at_number : (s : Sort) → get_or sorts (sort_number s) sort.Word ≡ s
at_number sort.Word = refl
at_number sort.Bool = refl
at_number sort.Bytes = refl
at_number sort.Words = refl
at_number sort.Refs = refl
at_number sort.Blocks = refl
at_number sort.MapWW = refl
at_number sort.MapWB = refl
at_number sort.Ref = refl
at_number sort.SliceS = refl
at_number sort.Call = refl
at_number sort.Name = refl

same_sort : (r s : Sort) → sort_eq r s ≡ true → r ≡ s
same_sort r s e = sym (at_number r) ∙ ap (λ k. get_or sorts k sort.Word) (eqb-true (sort_number r) (sort_number s) e) ∙ at_number s

pub left : (a b : Bool) → (a && b) ≡ true → a ≡ true
left true b e = refl
left false b e = absurd cc

pub right : (a b : Bool) → (a && b) ≡ true → b ≡ true
right true b e = e
right false b e = absurd cc

-- the parts have the sorts that are wanted
wanted_at : (wanted ss : List Sort) (i : ℕ) (s : Sort) → pointwise sort_eq wanted ss ≡ true → slice_get wanted i ≡ Some s → slice_get ss i ≡ Some s
wanted_at [] ss i s e f = absurd cc
wanted_at (w ∷ wanted) [] i s e f = absurd cc
wanted_at (w ∷ wanted) (r ∷ ss) zero s e f = ap Some (sym (same_sort w r (left (sort_eq w r) (pointwise sort_eq wanted ss) e))) ∙ f
wanted_at (w ∷ wanted) (r ∷ ss) (suc i) s e f = wanted_at wanted ss i s (right (sort_eq w r) (pointwise sort_eq wanted ss) e) f

passed : (b : Bool) (s r : Sort) → cond b (Some s) None ≡ Some r → (b ≡ true) × (Some s ≡ Some r)
passed true s r e = (refl, e)
passed false s r e = absurd cc

-- what `takes` gives
taken : (wanted ss : List Sort) (s r : Sort) → takes wanted s ss ≡ Some r → Some s ≡ Some r
taken wanted ss s r e = (passed (pointwise sort_eq wanted ss) s r e).1

as_wanted : (wanted ss : List Sort) (s r : Sort) → takes wanted s ss ≡ Some r → pointwise sort_eq wanted ss ≡ true
as_wanted wanted ss s r e = (passed (pointwise sort_eq wanted ss) s r e).0

made : (k : ℕ) (wanted ss : List Sort) (s r : Sort) → with_copies k (takes wanted s ss) ≡ Some r → Some s ≡ Some r
made k wanted ss s r e = taken wanted ss s r (limited (nat_le k 65536) (takes wanted s ss) r e)

reached : (o : Option Sort) (f : Sort → Option Sort) (r : Sort) → with_sort o f ≡ Some r → (s : Sort) × (o ≡ Some s) × (f s ≡ Some r)
reached None f r e = absurd cc
reached (Some s) f r e = (s, refl, e)

-- Values.

-- the values have these sorts
abbrev HaveSorts : List Value → List Sort → Type 0
HaveSorts vs ss = map sort_of_value vs ≡ map (λ s. Some s) ss

part_sort : (vs : List Value) (ss : List Sort) (i : ℕ) (s : Sort) → HaveSorts vs ss → slice_get ss i ≡ Some s → sort_of_value (part vs i) ≡ Some s
part_sort vs [] i s e f = absurd cc
part_sort [] (r ∷ ss) i s e f = absurd cc
part_sort (v ∷ vs) (r ∷ ss) zero s e f = cc
part_sort (v ∷ vs) (r ∷ ss) (suc i) s e f = part_sort vs ss i s (cc) f

-- the first part is a list of such items, and what the operator gives for that
record OnList (vs : List Value) (ss : List Sort) (f : Sort → Sort → Option Sort) (r : Sort) : Type 0 where
  list : Sort
  item : Sort
  first : sort_of_value (part vs 0) ≡ Some list
  items : with_sort (sort_of_value (part vs 0)) item_sort ≡ Some item
  given : f list item ≡ Some r

on_list : (vs : List Value) (ss : List Sort) (f : Sort → Sort → Option Sort) (r : Sort) → HaveSorts vs ss → with_list ss f ≡ Some r → OnList vs ss f r
on_list vs ss f r have e =
    let one = reached (slice_get ss 0) (λ s. with_sort (item_sort s) (f s)) r e in
    let two = reached (item_sort one.0) (f one.0) r one.2 in
    let first = part_sort vs ss 0 one.0 have one.1 in
    record {
      list = one.0;
      item = two.0;
      first = first;
      items = ap (λ o. with_sort o item_sort) first ∙ two.1;
      given = two.2;
    }

record OnMap (vs : List Value) (ss : List Sort) (f : Sort → Sort → Option Sort) (r : Sort) : Type 0 where
  map : Sort
  entry : Sort
  first : sort_of_value (part vs 0) ≡ Some map
  entries : with_sort (sort_of_value (part vs 0)) entry_sort ≡ Some entry
  given : f map entry ≡ Some r

on_map : (vs : List Value) (ss : List Sort) (f : Sort → Sort → Option Sort) (r : Sort) → HaveSorts vs ss → with_map ss f ≡ Some r → OnMap vs ss f r
on_map vs ss f r have e =
    let one = reached (slice_get ss 0) (λ s. with_sort (entry_sort s) (f s)) r e in
    let two = reached (entry_sort one.0) (f one.0) r one.2 in
    let first = part_sort vs ss 0 one.0 have one.1 in
    record {
      map = one.0;
      entry = two.0;
      first = first;
      entries = ap (λ o. with_sort o entry_sort) first ∙ two.1;
      given = two.2;
    }

length_sort : (v : Value) (item : Sort) → with_sort (sort_of_value v) item_sort ≡ Some item → sort_of_value (length_of v) ≡ Some sort.Word
length_sort (val.Bytes x) item e = refl
length_sort (val.Words x) item e = refl
length_sort (val.Refs x) item e = refl
length_sort (val.Blocks x) item e = refl
length_sort _ item e = absurd cc

item_at_sort : (v : Value) (i : ℕ) (item : Sort) → with_sort (sort_of_value v) item_sort ≡ Some item → sort_of_value (item_at v i) ≡ Some item
item_at_sort (val.Bytes x) i item e = e
item_at_sort (val.Words x) i item e = e
item_at_sort (val.Refs x) i item e = e
item_at_sort (val.Blocks x) i item e = e
item_at_sort _ i item e = absurd cc

with_item_sort : (v : Value) (i : ℕ) (w : Value) (item : Sort) → with_sort (sort_of_value v) item_sort ≡ Some item → sort_of_value (with_item v i w) ≡ sort_of_value v
with_item_sort (val.Bytes x) i w item e = refl
with_item_sort (val.Words x) i w item e = refl
with_item_sort (val.Refs x) i w item e = refl
with_item_sort (val.Blocks x) i w item e = refl
with_item_sort _ i w item e = absurd cc

items_between_sort : (v : Value) (a b : ℕ) (item : Sort) → with_sort (sort_of_value v) item_sort ≡ Some item → sort_of_value (items_between v a b) ≡ sort_of_value v
items_between_sort (val.Bytes x) a b item e = refl
items_between_sort (val.Words x) a b item e = refl
items_between_sort (val.Refs x) a b item e = refl
items_between_sort (val.Blocks x) a b item e = refl
items_between_sort _ a b item e = absurd cc

both_lists_sort : (v w : Value) (item : Sort) → with_sort (sort_of_value v) item_sort ≡ Some item → sort_of_value v ≡ sort_of_value w → sort_of_value (both_lists v w) ≡ sort_of_value v
both_lists_sort (val.Bytes x) (val.Bytes y) item e f = refl
both_lists_sort (val.Words x) (val.Words y) item e f = refl
both_lists_sort (val.Refs x) (val.Refs y) item e f = refl
both_lists_sort (val.Blocks x) (val.Blocks y) item e f = refl
both_lists_sort _ _ item e f = absurd cc

all_zero_sort : (v : Value) (item : Sort) → with_sort (sort_of_value v) item_sort ≡ Some item → sort_of_value (all_zero v) ≡ Some sort.Bool
all_zero_sort (val.Bytes x) item e = refl
all_zero_sort (val.Words x) item e = refl
all_zero_sort (val.Refs x) item e = refl
all_zero_sort (val.Blocks x) item e = refl
all_zero_sort _ item e = absurd cc

held_at_sort : (v : Value) (k : ℕ) (entry : Sort) → with_sort (sort_of_value v) entry_sort ≡ Some entry → sort_of_value (held_at v k) ≡ Some entry
held_at_sort (val.MapWW m) k entry e = e
held_at_sort (val.MapWB m) k entry e = e
held_at_sort _ k entry e = absurd cc

holds_at_sort : (v : Value) (k : ℕ) (entry : Sort) → with_sort (sort_of_value v) entry_sort ≡ Some entry → sort_of_value (holds_at v k) ≡ Some sort.Bool
holds_at_sort (val.MapWW m) k entry e = refl
holds_at_sort (val.MapWB m) k entry e = refl
holds_at_sort _ k entry e = absurd cc

map_with_sort : (v : Value) (k : ℕ) (w : Value) (entry : Sort) → with_sort (sort_of_value v) entry_sort ≡ Some entry → sort_of_value (map_with v k w) ≡ sort_of_value v
map_with_sort (val.MapWW m) k w entry e = refl
map_with_sort (val.MapWB m) k w entry e = refl
map_with_sort _ k w entry e = absurd cc

map_without_sort : (v : Value) (k : ℕ) (entry : Sort) → with_sort (sort_of_value v) entry_sort ≡ Some entry → sort_of_value (map_without v k) ≡ sort_of_value v
map_without_sort (val.MapWW m) k entry e = refl
map_without_sort (val.MapWB m) k entry e = refl
map_without_sort _ k entry e = absurd cc

choice_sort : (b : Bool) (v w : Value) (s : Sort) → sort_of_value v ≡ Some s → sort_of_value w ≡ Some s → sort_of_value (cond b v w) ≡ Some s
choice_sort true v w s e f = e
choice_sort false v w s e f = f

-- Operators.

pub operate_sort : (o : Operator) (ss : List Sort) (vs : List Value) (r : Sort) → HaveSorts vs ss → sort_given o ss ≡ Some r → sort_of_value (operate o vs) ≡ Some r
operate_sort (op.Number n) ss vs r have e = taken [] ss sort.Word r e
operate_sort op.True ss vs r have e = taken [] ss sort.Bool r e
operate_sort op.False ss vs r have e = taken [] ss sort.Bool r e
operate_sort op.Nil ss vs r have e = taken [] ss sort.Ref r e
operate_sort op.NilSlice ss vs r have e = taken [] ss sort.SliceS r e
operate_sort op.NoCall ss vs r have e = taken [] ss sort.Call r e
operate_sort op.MapWW ss vs r have e = taken [] ss sort.MapWW r e
operate_sort op.MapWB ss vs r have e = taken [] ss sort.MapWB r e
operate_sort op.Not ss vs r have e = taken (sort.Bool ∷ []) ss sort.Bool r e
operate_sort op.Complement ss vs r have e = taken (sort.Word ∷ []) ss sort.Word r e
operate_sort op.Or ss vs r have e = taken (sort.Bool ∷ sort.Bool ∷ []) ss sort.Bool r e
operate_sort op.And ss vs r have e = taken (sort.Bool ∷ sort.Bool ∷ []) ss sort.Bool r e
operate_sort op.Equal ss vs r have e =
    let one = reached (slice_get ss 0) (λ s. takes (s ∷ s ∷ []) sort.Bool ss) r e in
    taken (one.0 ∷ one.0 ∷ []) ss sort.Bool r one.2
operate_sort op.Less ss vs r have e = taken (sort.Word ∷ sort.Word ∷ []) ss sort.Bool r e
operate_sort op.AtMost ss vs r have e = taken (sort.Word ∷ sort.Word ∷ []) ss sort.Bool r e
operate_sort op.Plus ss vs r have e = taken (sort.Word ∷ sort.Word ∷ []) ss sort.Word r e
operate_sort op.Minus ss vs r have e = taken (sort.Word ∷ sort.Word ∷ []) ss sort.Word r e
operate_sort op.BitOr ss vs r have e = taken (sort.Word ∷ sort.Word ∷ []) ss sort.Word r e
operate_sort op.BitXor ss vs r have e = taken (sort.Word ∷ sort.Word ∷ []) ss sort.Word r e
operate_sort op.Times ss vs r have e = taken (sort.Word ∷ sort.Word ∷ []) ss sort.Word r e
operate_sort op.Divide ss vs r have e = taken (sort.Word ∷ sort.Word ∷ []) ss sort.Word r e
operate_sort op.Remainder ss vs r have e = taken (sort.Word ∷ sort.Word ∷ []) ss sort.Word r e
operate_sort op.ShiftLeft ss vs r have e = taken (sort.Word ∷ sort.Word ∷ []) ss sort.Word r e
operate_sort op.ShiftRight ss vs r have e = taken (sort.Word ∷ sort.Word ∷ []) ss sort.Word r e
operate_sort op.BitAnd ss vs r have e = taken (sort.Word ∷ sort.Word ∷ []) ss sort.Word r e
operate_sort op.BitClear ss vs r have e = taken (sort.Word ∷ sort.Word ∷ []) ss sort.Word r e
operate_sort op.If ss vs r have e =
    let one = reached (slice_get ss 1) (λ s. takes (sort.Bool ∷ s ∷ s ∷ []) s ss) r e in
    let wanted = sort.Bool ∷ one.0 ∷ one.0 ∷ [] in
    let same = taken wanted ss one.0 r one.2 in
    let third = wanted_at wanted ss 2 one.0 (as_wanted wanted ss one.0 r one.2) refl in
    choice_sort _ (part vs 1) (part vs 2) r (part_sort vs ss 1 one.0 have one.1 ∙ same) (part_sort vs ss 2 one.0 have third ∙ same)
operate_sort op.Imp ss vs r have e = taken (sort.Bool ∷ sort.Bool ∷ []) ss sort.Bool r e
operate_sort op.Fits ss vs r have e = taken (sort.Word ∷ sort.Word ∷ []) ss sort.Bool r e
operate_sort (op.Bytes k) ss vs r have e = made k (sort.Word ∷ []) ss sort.Bytes r e
operate_sort (op.Words k) ss vs r have e = made k (sort.Word ∷ []) ss sort.Words r e
operate_sort (op.Refs k) ss vs r have e = made k (sort.Ref ∷ []) ss sort.Refs r e
operate_sort (op.Blocks k) ss vs r have e = made k (sort.Bytes ∷ []) ss sort.Blocks r e
operate_sort op.Len ss vs r have e =
    let on = on_list vs ss (λ s item. takes (s ∷ []) sort.Word ss) r have e in
    length_sort (part vs 0) on.item on.items ∙ taken (on.list ∷ []) ss sort.Word r on.given
operate_sort op.At ss vs r have e =
    let on = on_list vs ss (λ s item. takes (s ∷ sort.Word ∷ []) item ss) r have e in
    item_at_sort (part vs 0) _ on.item on.items ∙ taken (on.list ∷ sort.Word ∷ []) ss on.item r on.given
operate_sort op.Upd ss vs r have e =
    let on = on_list vs ss (λ s item. takes (s ∷ sort.Word ∷ item ∷ []) s ss) r have e in
    with_item_sort (part vs 0) _ (part vs 2) on.item on.items ∙ on.first ∙ taken (on.list ∷ sort.Word ∷ on.item ∷ []) ss on.list r on.given
operate_sort op.Sub ss vs r have e =
    let on = on_list vs ss (λ s item. takes (s ∷ sort.Word ∷ sort.Word ∷ []) s ss) r have e in
    items_between_sort (part vs 0) _ _ on.item on.items ∙ on.first ∙ taken (on.list ∷ sort.Word ∷ sort.Word ∷ []) ss on.list r on.given
operate_sort op.Cat ss vs r have e =
    let on = on_list vs ss (λ s item. takes (s ∷ s ∷ []) s ss) r have e in
    let wanted = on.list ∷ on.list ∷ [] in
    let second = part_sort vs ss 1 on.list have (wanted_at wanted ss 1 on.list (as_wanted wanted ss on.list r on.given) refl) in
    both_lists_sort (part vs 0) (part vs 1) on.item on.items (on.first ∙ sym second) ∙ on.first ∙ taken wanted ss on.list r on.given
operate_sort op.IsZero ss vs r have e =
    let on = on_list vs ss (λ s item. takes (s ∷ []) sort.Bool ss) r have e in
    all_zero_sort (part vs 0) on.item on.items ∙ taken (on.list ∷ []) ss sort.Bool r on.given
operate_sort op.Le64 ss vs r have e = taken (sort.Word ∷ []) ss sort.Bytes r e
operate_sort op.Un64 ss vs r have e = taken (sort.Bytes ∷ []) ss sort.Word r e
operate_sort op.Put64 ss vs r have e = taken (sort.Bytes ∷ sort.Word ∷ []) ss sort.Bytes r e
operate_sort op.Get ss vs r have e =
    let on = on_map vs ss (λ s entry. takes (s ∷ sort.Word ∷ []) entry ss) r have e in
    held_at_sort (part vs 0) _ on.entry on.entries ∙ taken (on.map ∷ sort.Word ∷ []) ss on.entry r on.given
operate_sort op.Has ss vs r have e =
    let on = on_map vs ss (λ s entry. takes (s ∷ sort.Word ∷ []) sort.Bool ss) r have e in
    holds_at_sort (part vs 0) _ on.entry on.entries ∙ taken (on.map ∷ sort.Word ∷ []) ss sort.Bool r on.given
operate_sort op.Put ss vs r have e =
    let on = on_map vs ss (λ s entry. takes (s ∷ sort.Word ∷ entry ∷ []) s ss) r have e in
    map_with_sort (part vs 0) _ (part vs 2) on.entry on.entries ∙ on.first ∙ taken (on.map ∷ sort.Word ∷ on.entry ∷ []) ss on.map r on.given
operate_sort op.Del ss vs r have e =
    let on = on_map vs ss (λ s entry. takes (s ∷ sort.Word ∷ []) s ss) r have e in
    map_without_sort (part vs 0) _ on.entry on.entries ∙ on.first ∙ taken (on.map ∷ sort.Word ∷ []) ss on.map r on.given
operate_sort op.SLen ss vs r have e = taken (sort.SliceS ∷ []) ss sort.Word r e
operate_sort op.Sl ss vs r have e = taken (sort.SliceS ∷ sort.Word ∷ sort.Word ∷ []) ss sort.SliceS r e
operate_sort op.SCap ss vs r have e = taken (sort.SliceS ∷ []) ss sort.Word r e

-- Variables.

zero_sort : (s : Sort) → sort_of_value (zero_of s) ≡ Some s
zero_sort sort.Word = refl
zero_sort sort.Bool = refl
zero_sort sort.Bytes = refl
zero_sort sort.Words = refl
zero_sort sort.Refs = refl
zero_sort sort.Blocks = refl
zero_sort sort.MapWW = refl
zero_sort sort.MapWB = refl
zero_sort sort.Ref = refl
zero_sort sort.SliceS = refl
zero_sort sort.Call = refl
zero_sort sort.Name = refl

is_of_sort : (s : Sort) (o : Option Sort) → is_sort s o ≡ true → o ≡ Some s
is_of_sort s None e = absurd cc
is_of_sort s (Some r) e = ap Some (same_sort r s e)

found_sort : (bs : List Binding) (n : List ℕ) (s : Sort) → sort_of_value (unwrap_or (option_map (λ b. b.value) (find (λ b. bytes_eq b.name n && has_sort b.value s) bs)) (zero_of s)) ≡ Some s
found_sort [] n s = zero_sort s
found_sort (b ∷ bs) n s = pick (bytes_eq b.name n && has_sort b.value s) refl (found_sort bs n s)
  where
    pick : (t : Bool) → (bytes_eq b.name n && has_sort b.value s) ≡ t → sort_of_value (unwrap_or (option_map (λ c. c.value) (find (λ c. bytes_eq c.name n && has_sort c.value s) bs)) (zero_of s)) ≡ Some s
        → sort_of_value (unwrap_or (option_map (λ c. c.value) (cond t (Some b) (find (λ c. bytes_eq c.name n && has_sort c.value s) bs))) (zero_of s)) ≡ Some s
    pick true e h = is_of_sort s (sort_of_value b.value) (right (bytes_eq b.name n) (has_sort b.value s) e)
    pick false e h = h

-- Trees.

-- its value has its sort
abbrev HasValues : Env → TermTree → Type 0
HasValues env t = (s : Sort) → sort_of t ≡ Some s → sort_of_value (value_under env t) ≡ Some s

pub first_and_rest : (o : Option Sort) (os : List (Option Sort)) (ss : List Sort) → all_sorts (o ∷ os) ≡ Some ss → (r : Sort) × (rs : List Sort) × (o ≡ Some r) × (all_sorts os ≡ Some rs) × (r ∷ rs ≡ ss)
first_and_rest None os ss e = absurd cc
first_and_rest (Some r) os ss e = with_rest (all_sorts os) refl e
  where
    with_rest : (q : Option (List Sort)) → all_sorts os ≡ q → option_map (λ rs. r ∷ rs) q ≡ Some ss → (p : Sort) × (rs : List Sort) × (Some r ≡ Some p) × (all_sorts os ≡ Some rs) × (p ∷ rs ≡ ss)
    with_rest None f g = absurd cc
    with_rest (Some rs) f g = (r, rs, refl, f, cc)

parts_sorts : (env : Env) (es : List ((t : TermTree) × HasValues env t)) (ss : List Sort) → all_sorts (map sort_of (map (λ e. e.0) es)) ≡ Some ss → HaveSorts (map (value_under env) (map (λ e. e.0) es)) ss
parts_sorts env [] ss e = let none : [] ≡ ss = cc in ap (map (λ s. Some s)) none
parts_sorts env (d ∷ es) ss e =
    let parts = first_and_rest (sort_of d.0) (map sort_of (map (λ c. c.0) es)) ss e in
    ap (λ o. o ∷ map sort_of_value (map (value_under env) (map (λ c. c.0) es))) (d.1 parts.0 parts.2)
    ∙ ap (λ os. Some parts.0 ∷ os) (parts_sorts env es parts.1 parts.3)
    ∙ ap (map (λ s. Some s)) parts.4

pub each_sorted : (o : Option (List Sort)) (f : List Sort → Option Sort) (r : Sort) → with_sorts o f ≡ Some r → (ss : List Sort) × (o ≡ Some ss) × (f ss ≡ Some r)
each_sorted None f r e = absurd cc
each_sorted (Some ss) f r e = (ss, refl, e)

variable_valued : (env : Env) (n : List ℕ) (s : Sort) → HasValues env (tree.Variable n s)
variable_valued env n s r e = ap sort_of_value (value_variable env n s) ∙ found_sort env.bindings n s ∙ sym (sort_variable n s) ∙ e

apply_valued : (env : Env) (o : Operator) (es : List ((t : TermTree) × HasValues env t)) → HasValues env (tree.Apply o (map (λ e. e.0) es))
apply_valued env o es r e =
    let ts = map (λ c. c.0) es in
    let sorted = each_sorted (all_sorts (map sort_of ts)) (sort_given o) r (sym (sort_apply o ts) ∙ e) in
    ap sort_of_value (value_apply env o ts) ∙ operate_sort o sorted.0 (map (value_under env) ts) r (parts_sorts env es sorted.0 sorted.1) sorted.2

layer_valued : (env : Env) (y : TermTree-F ((t : TermTree) × HasValues env t)) → HasValues env (roll-TermTree (map-TermTree ((t : TermTree) × HasValues env t) TermTree (λ e. e.0) y))
layer_valued env (Variable n s) = subst (HasValues env) (sym (tree.rolls-Variable n s)) (variable_valued env n s)
layer_valued env (Apply o es) = subst (HasValues env) (sym (tree.rolls-Apply o (map (λ e. e.0) es))) (apply_valued env o es)

-- y is x with the fact of each part beside it
pub values_have_sorts : ValuesHaveSorts
values_have_sorts env = ind-TermTree (HasValues env) (λ x y is. subst (λ z. HasValues env (roll-TermTree z)) is (layer_valued env y))

-- Terms of a store.

node : Stored
node = record { head = head.Apply op.True; parts = []; sort = sort.Bool }

-- each of them has a sort, and its value has it
pub term_sort : (env : Env) (ns : List Stored) (i : ℕ) → AreSound ns → i < length ns → sort_of_value (value_under env (tree_at (trees_of ns) i)) ≡ sort_of (tree_at (trees_of ns) i)
term_sort env ns i sound lt =
    let s = (sound i node lt).sort in
    values_have_sorts env (tree_at (trees_of ns) i) _ s ∙ sym s
