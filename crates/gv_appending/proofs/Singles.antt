-- Lists of one item, and an item more behind a list.
use Rattle.std.proofs.Common.{◌≡◌, ℕ, ◌+◌, ◌<◌, ◌%◌, Bool, if◌then◌else◌, List, [], ◌∷◌, ◌++◌, map, length, Some, refl, ap, ◌∙◌, inl, inr, arith}
use Rattle.std.proofs.lemmas.List.{length-map}
use Rattle.gv_base.specs.declared.answer.Answer.TheVariants.{Next}
use Rattle.gv_base.specs.declared.val.Val.{Val}
use Rattle.gv_base.specs.declared.val.Val.TheVariants as stored
use Rattle.gv_terms.specs.declared.sort.Sort.TheVariants as sort
use Rattle.gv_terms.specs.declared.operator.Operator.TheVariants as op
use Rattle.gv_terms.specs.declared.value.Value.{Value}
use Rattle.gv_terms.specs.declared.value.Value.TheVariants as val
use Rattle.gv_terms.specs.Meaning.{operate, too_long, joined}
use Rattle.gv_terms.specs.Values.{sort_of_value}
use Rattle.gv_lang.specs.declared.program.ItemKind.{ItemKind}
use Rattle.gv_lang.specs.declared.program.ItemKind.TheVariants as item
use Rattle.gv_lang.specs.Table.{as_item}
use Rattle.gv_resources.specs.Told.{value_of}
use Rattle.gv_resources.proofs.Sums.{below_test}
use Rattle.gv_assertions.specs.Standing.{items_of}
use Rattle.gv_seats.specs.Seats.{plain}
use Rattle.gv_slicing.specs.Rows.{list_sort}
use Rattle.gv_slicing.proofs.Operands.{word_is}
use Rattle.gv_rules.proofs.Loads.{as_ref_is}
use Rattle.gv_putting.specs.Rows.{one_sort}
use Rattle.gv_putting.proofs.Values.{byte_value, some_items}
use Rattle.gv_appending.specs.Rows.{maker}

map_join : (f : ℕ → Value) (xs ys : List ℕ) → map f (xs ++ ys) ≡ map f xs ++ map f ys
map_join f [] ys = refl
map_join f (x ∷ xs) ys = ap (λ zs. f x ∷ zs) (map_join f xs ys)

join_as : (f : ℕ → Value) (xs : List ℕ) (all : List Value) (n : ℕ) → map f xs ≡ all → length all + 1 < too_long → Some (map f (joined xs (n ∷ []))) ≡ Some (all ++ f n ∷ [])
join_as f xs all n is l =
    let long = length-map xs f in
    let same_long = ap (λ (ys : List Value). length ys) is in
    elim (below_test (length xs + 1) too_long) [
      | inl (k, t) ↦ ap (λ (b : Bool). Some (map f (if b then xs ++ n ∷ [] else xs))) t ∙ ap Some (map_join f xs (n ∷ [])) ∙ ap (λ (ys : List Value). Some (ys ++ f n ∷ [])) is
      | inr (k, t) ↦ absurd (omega arith)
    ]

-- an item as its cell holds it, and the list of it alone
pub record Single (k : ItemKind) (v : Val) (x : Value) : Type 0 where
  pub kept : Val
  pub is : as_item k (Some v) ≡ Next kept
  pub joins : (list : Value) (all : List Value) → sort_of_value list ≡ Some (list_sort k) → items_of list ≡ Some all → length all + 1 < too_long
      → items_of (operate op.Cat (list ∷ operate (maker k 1) (x ∷ []) ∷ [])) ≡ Some (all ++ value_of kept ∷ [])

pub single_item : (k : ItemKind) (v : Val) (x : Value) → plain v ≡ Some x → sort_of_value x ≡ Some (one_sort k) → Single k v x
single_item item.Byte v (val.Word p) is sorted = record {
  kept = stored.Byte (p % 256);
  is = ap (λ (u : Val). as_item item.Byte (Some u)) (word_is v p is);
  joins = joins;
}
  where
    joins : (list : Value) (all : List Value) → sort_of_value list ≡ Some sort.Bytes → items_of list ≡ Some all → length all + 1 < too_long
        → items_of (operate op.Cat (list ∷ operate (op.Bytes 1) (val.Word p ∷ []) ∷ [])) ≡ Some (all ++ byte_value (p % 256) ∷ [])
    joins (val.Bytes xs) all e are l = join_as byte_value xs all (p % 256) (some_items are) l
    joins _ all e are l = absurd cc
single_item item.Word v (val.Word p) is sorted = record {
  kept = stored.Word p;
  is = ap (λ (u : Val). as_item item.Word (Some u)) (word_is v p is);
  joins = joins;
}
  where
    joins : (list : Value) (all : List Value) → sort_of_value list ≡ Some sort.Words → items_of list ≡ Some all → length all + 1 < too_long
        → items_of (operate op.Cat (list ∷ operate (op.Words 1) (val.Word p ∷ []) ∷ [])) ≡ Some (all ++ val.Word p ∷ [])
    joins (val.Words xs) all e are l = join_as (λ (n : ℕ). val.Word n) xs all p (some_items are) l
    joins _ all e are l = absurd cc
single_item item.Ref v (val.Ref p) is sorted = record {
  kept = stored.Ref p;
  is = ap (λ (u : Val). as_item item.Ref (Some u)) (as_ref_is v p is);
  joins = joins;
}
  where
    joins : (list : Value) (all : List Value) → sort_of_value list ≡ Some sort.Refs → items_of list ≡ Some all → length all + 1 < too_long
        → items_of (operate op.Cat (list ∷ operate (op.Refs 1) (val.Ref p ∷ []) ∷ [])) ≡ Some (all ++ val.Ref p ∷ [])
    joins (val.Refs xs) all e are l = join_as (λ (n : ℕ). val.Ref n) xs all p (some_items are) l
    joins _ all e are l = absurd cc
single_item _ v _ is sorted = absurd cc
