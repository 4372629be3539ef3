-- A node with a sort has as many parts as its operator takes.
use Rattle.std.proofs.Common.{suc, ◌≡◌, ℕ, List, [], ◌∷◌, Bool, true, false, ◌&&◌, cond, length, map, refl, sym, ap, ◌∙◌, arith, Option, Some, None, nat_le, option_map}
use Rattle.std.specs.Prelude.{slice_get}
use Rattle.std.specs.Cmp.Lexicographic.{pointwise}
use Rattle.std.proofs.lemmas.List.{length-map}
use Rattle.gv_terms.specs.declared.sort.Sort.{Sort}
use Rattle.gv_terms.specs.declared.sort.Sort.TheVariants as sort
use Rattle.gv_terms.specs.declared.operator.Operator.{Operator}
use Rattle.gv_terms.specs.declared.operator.Operator.TheVariants as op
use Rattle.gv_terms.specs.declared.tree.Head.{Head}
use Rattle.gv_terms.specs.declared.tree.Head.TheVariants as head
use Rattle.gv_terms.specs.declared.tree.TermTree.{TermTree}
use Rattle.gv_terms.specs.Sorts.{sort_given, sort_eq, takes, with_sort, with_copies, item_sort, entry_sort, arity}
use Rattle.gv_terms.specs.Trees.{sort_of, sort_of_node, all_sorts, with_sorts}
use Rattle.gv_terms.specs.Store.{part_count}
use Rattle.gv_terms.proofs.NodeSorts.{sort_apply}

both_true : (a b : Bool) → (a && b) ≡ true → b ≡ true
both_true true b e = e
both_true false b e = absurd cc

as_long : (rs ss : List Sort) → pointwise sort_eq rs ss ≡ true → length ss ≡ length rs
as_long [] [] e = refl
as_long [] (s ∷ ss) e = absurd cc
as_long (r ∷ rs) [] e = absurd cc
as_long (r ∷ rs) (s ∷ ss) e = let h = as_long rs ss (both_true (sort_eq r s) (pointwise sort_eq rs ss) e) in omega arith

chosen : (b : Bool) (s r : Sort) → cond b (Some s) None ≡ Some r → b ≡ true
chosen true s r e = refl
chosen false s r e = absurd cc

-- what `takes` gives, it gives to as many parts
pub taken : (wanted ss : List Sort) (s r : Sort) → takes wanted s ss ≡ Some r → length ss ≡ length wanted
taken wanted ss s r e = as_long wanted ss (chosen (pointwise sort_eq wanted ss) s r e)

via : (o : Option Sort) (f : Sort → Option Sort) (n : ℕ) (ss : List Sort) (r : Sort) → ((s : Sort) → f s ≡ Some r → length ss ≡ n) → with_sort o f ≡ Some r → length ss ≡ n
via None f n ss r h e = absurd cc
via (Some s) f n ss r h e = h s e

pub limited : (b : Bool) (o : Option Sort) (r : Sort) → cond b o None ≡ Some r → o ≡ Some r
limited true o r e = e
limited false o r e = absurd cc

made : (k : ℕ) (wanted ss : List Sort) (s r : Sort) → with_copies k (takes wanted s ss) ≡ Some r → length ss ≡ length wanted
made k wanted ss s r e = taken wanted ss s r (limited (nat_le k 65536) (takes wanted s ss) r e)

on_list : (ss : List Sort) (n : ℕ) (r : Sort) (f : Sort → Sort → Option Sort) → ((s i : Sort) → f s i ≡ Some r → length ss ≡ n) → with_sort (slice_get ss 0) (λ s. with_sort (item_sort s) (f s)) ≡ Some r → length ss ≡ n
on_list ss n r f h e = via (slice_get ss 0) (λ s. with_sort (item_sort s) (f s)) n ss r (λ s. via (item_sort s) (f s) n ss r (h s)) e

on_map : (ss : List Sort) (n : ℕ) (r : Sort) (f : Sort → Sort → Option Sort) → ((s i : Sort) → f s i ≡ Some r → length ss ≡ n) → with_sort (slice_get ss 0) (λ s. with_sort (entry_sort s) (f s)) ≡ Some r → length ss ≡ n
on_map ss n r f h e = via (slice_get ss 0) (λ s. with_sort (entry_sort s) (f s)) n ss r (λ s. via (entry_sort s) (f s) n ss r (h s)) e

pub parts_counted : (o : Operator) (ss : List Sort) (r : Sort) → sort_given o ss ≡ Some r → length ss ≡ arity o
parts_counted (op.Number n) ss r e = taken [] ss sort.Word r e
parts_counted op.True ss r e = taken [] ss sort.Bool r e
parts_counted op.False ss r e = taken [] ss sort.Bool r e
parts_counted op.Nil ss r e = taken [] ss sort.Ref r e
parts_counted op.NilSlice ss r e = taken [] ss sort.SliceS r e
parts_counted op.NoCall ss r e = taken [] ss sort.Call r e
parts_counted op.MapWW ss r e = taken [] ss sort.MapWW r e
parts_counted op.MapWB ss r e = taken [] ss sort.MapWB r e
parts_counted op.Not ss r e = taken (sort.Bool ∷ []) ss sort.Bool r e
parts_counted op.Complement ss r e = taken (sort.Word ∷ []) ss sort.Word r e
parts_counted op.Or ss r e = taken (sort.Bool ∷ sort.Bool ∷ []) ss sort.Bool r e
parts_counted op.And ss r e = taken (sort.Bool ∷ sort.Bool ∷ []) ss sort.Bool r e
parts_counted op.Equal ss r e = via (slice_get ss 0) (λ s. takes (s ∷ s ∷ []) sort.Bool ss) 2 ss r (λ s f. taken (s ∷ s ∷ []) ss sort.Bool r f) e
parts_counted op.Less ss r e = taken (sort.Word ∷ sort.Word ∷ []) ss sort.Bool r e
parts_counted op.AtMost ss r e = taken (sort.Word ∷ sort.Word ∷ []) ss sort.Bool r e
parts_counted op.Plus ss r e = taken (sort.Word ∷ sort.Word ∷ []) ss sort.Word r e
parts_counted op.Minus ss r e = taken (sort.Word ∷ sort.Word ∷ []) ss sort.Word r e
parts_counted op.BitOr ss r e = taken (sort.Word ∷ sort.Word ∷ []) ss sort.Word r e
parts_counted op.BitXor ss r e = taken (sort.Word ∷ sort.Word ∷ []) ss sort.Word r e
parts_counted op.Times ss r e = taken (sort.Word ∷ sort.Word ∷ []) ss sort.Word r e
parts_counted op.Divide ss r e = taken (sort.Word ∷ sort.Word ∷ []) ss sort.Word r e
parts_counted op.Remainder ss r e = taken (sort.Word ∷ sort.Word ∷ []) ss sort.Word r e
parts_counted op.ShiftLeft ss r e = taken (sort.Word ∷ sort.Word ∷ []) ss sort.Word r e
parts_counted op.ShiftRight ss r e = taken (sort.Word ∷ sort.Word ∷ []) ss sort.Word r e
parts_counted op.BitAnd ss r e = taken (sort.Word ∷ sort.Word ∷ []) ss sort.Word r e
parts_counted op.BitClear ss r e = taken (sort.Word ∷ sort.Word ∷ []) ss sort.Word r e
parts_counted op.If ss r e = via (slice_get ss 1) (λ s. takes (sort.Bool ∷ s ∷ s ∷ []) s ss) 3 ss r (λ s f. taken (sort.Bool ∷ s ∷ s ∷ []) ss s r f) e
parts_counted op.Imp ss r e = taken (sort.Bool ∷ sort.Bool ∷ []) ss sort.Bool r e
parts_counted op.Fits ss r e = taken (sort.Word ∷ sort.Word ∷ []) ss sort.Bool r e
parts_counted (op.Bytes k) ss r e = made k (sort.Word ∷ []) ss sort.Bytes r e
parts_counted (op.Words k) ss r e = made k (sort.Word ∷ []) ss sort.Words r e
parts_counted (op.Refs k) ss r e = made k (sort.Ref ∷ []) ss sort.Refs r e
parts_counted (op.Blocks k) ss r e = made k (sort.Bytes ∷ []) ss sort.Blocks r e
parts_counted op.Len ss r e = on_list ss 1 r (λ s item. takes (s ∷ []) sort.Word ss) (λ s item f. taken (s ∷ []) ss sort.Word r f) e
parts_counted op.At ss r e = on_list ss 2 r (λ s item. takes (s ∷ sort.Word ∷ []) item ss) (λ s item f. taken (s ∷ sort.Word ∷ []) ss item r f) e
parts_counted op.Upd ss r e = on_list ss 3 r (λ s item. takes (s ∷ sort.Word ∷ item ∷ []) s ss) (λ s item f. taken (s ∷ sort.Word ∷ item ∷ []) ss s r f) e
parts_counted op.Sub ss r e = on_list ss 3 r (λ s item. takes (s ∷ sort.Word ∷ sort.Word ∷ []) s ss) (λ s item f. taken (s ∷ sort.Word ∷ sort.Word ∷ []) ss s r f) e
parts_counted op.Cat ss r e = on_list ss 2 r (λ s item. takes (s ∷ s ∷ []) s ss) (λ s item f. taken (s ∷ s ∷ []) ss s r f) e
parts_counted op.IsZero ss r e = on_list ss 1 r (λ s item. takes (s ∷ []) sort.Bool ss) (λ s item f. taken (s ∷ []) ss sort.Bool r f) e
parts_counted op.Le64 ss r e = taken (sort.Word ∷ []) ss sort.Bytes r e
parts_counted op.Un64 ss r e = taken (sort.Bytes ∷ []) ss sort.Word r e
parts_counted op.Put64 ss r e = taken (sort.Bytes ∷ sort.Word ∷ []) ss sort.Bytes r e
parts_counted op.Get ss r e = on_map ss 2 r (λ s entry. takes (s ∷ sort.Word ∷ []) entry ss) (λ s entry f. taken (s ∷ sort.Word ∷ []) ss entry r f) e
parts_counted op.Has ss r e = on_map ss 2 r (λ s entry. takes (s ∷ sort.Word ∷ []) sort.Bool ss) (λ s entry f. taken (s ∷ sort.Word ∷ []) ss sort.Bool r f) e
parts_counted op.Put ss r e = on_map ss 3 r (λ s entry. takes (s ∷ sort.Word ∷ entry ∷ []) s ss) (λ s entry f. taken (s ∷ sort.Word ∷ entry ∷ []) ss s r f) e
parts_counted op.Del ss r e = on_map ss 2 r (λ s entry. takes (s ∷ sort.Word ∷ []) s ss) (λ s entry f. taken (s ∷ sort.Word ∷ []) ss s r f) e
parts_counted op.SLen ss r e = taken (sort.SliceS ∷ []) ss sort.Word r e
parts_counted op.Sl ss r e = taken (sort.SliceS ∷ sort.Word ∷ sort.Word ∷ []) ss sort.SliceS r e
parts_counted op.SCap ss r e = taken (sort.SliceS ∷ []) ss sort.Word r e

sorts_counted : (os : List (Option Sort)) (ss : List Sort) → all_sorts os ≡ Some ss → length ss ≡ length os
sorts_counted [] ss e = let f : [] ≡ ss = cc in ap length (sym f)
sorts_counted (None ∷ os) ss e = absurd cc
sorts_counted (Some s ∷ os) ss e = more s os ss (all_sorts os) (λ rs f. sorts_counted os rs f) refl e
  where
    more : (r : Sort) (ps : List (Option Sort)) (qs : List Sort) (o : Option (List Sort)) → ((rs : List Sort) → all_sorts ps ≡ Some rs → length rs ≡ length ps) → all_sorts ps ≡ o → option_map (λ rs. r ∷ rs) o ≡ Some qs → length qs ≡ suc (length ps)
    more r ps qs None h f g = absurd cc
    more r ps qs (Some rs) h f g = let same : r ∷ rs ≡ qs = cc in ap length (sym same) ∙ ap suc (h rs f)

given_counted : (o : Operator) (os : List (Option Sort)) (r : Sort) (ss : Option (List Sort)) → all_sorts os ≡ ss → with_sorts ss (sort_given o) ≡ Some r → length os ≡ arity o
given_counted o os r None f e = absurd cc
given_counted o os r (Some ss) f e = sym (sorts_counted os ss f) ∙ parts_counted o ss r e

-- a node with a sort has as many parts as its head takes
pub node_counted : (h : Head) (ts : List TermTree) (r : Sort) → sort_of_node h ts ≡ Some r → length ts ≡ part_count h
node_counted (head.Variable m s) [] r e = refl
node_counted (head.Variable m s) (t ∷ ts) r e = absurd cc
node_counted (head.Apply o) ts r e =
    sym (length-map ts sort_of) ∙ given_counted o (map sort_of ts) r (all_sorts (map sort_of ts)) refl (sym (sort_apply o ts) ∙ e)
