-- Items of lists, as cells of slices hold them.
use Rattle.std.proofs.Common.{◌≡◌, ℕ, zero, suc, ◌%◌, List, [], ◌∷◌, map, length, Some, refl, sym, ap, ◌∙◌}
use Rattle.std.specs.Prelude.{slice_get, slice_set}
use Rattle.std.proofs.lemmas.List.{length-map}
use Rattle.gv_base.specs.declared.val.Val.{Val}
use Rattle.gv_base.specs.declared.val.Val.TheVariants as stored
use Rattle.gv_terms.specs.declared.operator.Operator.TheVariants as op
use Rattle.gv_terms.specs.declared.value.Value.{Value}
use Rattle.gv_terms.specs.declared.value.Value.TheVariants as val
use Rattle.gv_terms.specs.Meaning.{operate}
use Rattle.gv_terms.specs.Values.{sort_of_value}
use Rattle.gv_world.specs.Cells.{as_written}
use Rattle.gv_lang.specs.declared.program.ItemKind.{ItemKind}
use Rattle.gv_lang.specs.declared.program.ItemKind.TheVariants as item
use Rattle.gv_resources.specs.Told.{value_of}
use Rattle.gv_assertions.specs.Standing.{items_of}
use Rattle.gv_seats.specs.Seats.{plain}
use Rattle.gv_slicing.specs.Rows.{list_sort}
use Rattle.gv_slicing.proofs.Owned.{byte_is}
use Rattle.gv_slicing.proofs.Operands.{word_is}
use Rattle.gv_rules.proofs.Loads.{as_ref_is}
use Rattle.gv_putting.specs.Rows.{one_sort}

-- a byte as a cell holds it
abbrev pub byte_value : ℕ → Value
byte_value b = val.Bytes (b ∷ [])

map_set : (f : ℕ → Value) (xs : List ℕ) (i x : ℕ) → map f (slice_set xs i x) ≡ slice_set (map f xs) i (f x)
map_set f [] i x = refl
map_set f (y ∷ xs) zero x = refl
map_set f (y ∷ xs) (suc i) x = ap (λ ys. f y ∷ ys) (map_set f xs i x)

word_cell : (v : Val) (n : ℕ) → value_of v ≡ val.Word n → v ≡ stored.Word n
word_cell (stored.Word m) n e = let same : m ≡ n = cc in ap stored.Word same
word_cell (stored.Byte b) n e = absurd cc
word_cell (stored.Bool t) n e = absurd cc
word_cell (stored.Ref r) n e = absurd cc
word_cell (stored.Slice s) n e = absurd cc
word_cell stored.Unit n e = absurd cc

ref_cell : (v : Val) (n : ℕ) → value_of v ≡ val.Ref n → v ≡ stored.Ref n
ref_cell (stored.Ref m) n e = let same : m ≡ n = cc in ap stored.Ref same
ref_cell (stored.Byte b) n e = absurd cc
ref_cell (stored.Bool t) n e = absurd cc
ref_cell (stored.Word r) n e = absurd cc
ref_cell (stored.Slice s) n e = absurd cc
ref_cell stored.Unit n e = absurd cc

mapped_back : (f : ℕ → Value) (xs : List ℕ) (i : ℕ) (x : Value) → slice_get (map f xs) i ≡ Some x → (n : ℕ) × (x ≡ f n)
mapped_back f [] i x e = absurd cc
mapped_back f (y ∷ xs) zero x e = let same : f y ≡ x = cc in (y, sym same)
mapped_back f (y ∷ xs) (suc i) x e = mapped_back f xs i x e

pub some_items : {xs ys : List Value} → Some xs ≡ Some ys → xs ≡ ys
some_items e = cc

-- ---- an item that is written

set_as : (f : ℕ → Value) (xs : List ℕ) (all : List Value) (m n : ℕ) → map f xs ≡ all → Some (map f (slice_set xs m n)) ≡ Some (slice_set all m (f n))
set_as f xs all m n is = ap Some (map_set f xs m n) ∙ ap (λ (ys : List Value). Some (slice_set ys m (f n))) is

-- where an item of a list is set, the cells of the list have what a write of the one cell leaves
pub item_written : (k : ItemKind) (list : Value) (all : List Value) (m : ℕ) (old v : Val) (x : Value) → sort_of_value list ≡ Some (list_sort k) → items_of list ≡ Some all
    → slice_get all m ≡ Some (value_of old) → plain v ≡ Some x → sort_of_value x ≡ Some (one_sort k)
    → items_of (operate op.Upd (list ∷ val.Word m ∷ x ∷ [])) ≡ Some (slice_set all m (value_of (as_written old v)))
item_written item.Byte (val.Bytes xs) all m old v (val.Word p) list_is are there v_is x_is =
    let same : map byte_value xs ≡ all = some_items are in
    let (b, is) = mapped_back byte_value xs m (value_of old) (ap (λ (ys : List Value). slice_get ys m) same ∙ there) in
    set_as byte_value xs all m (p % 256) same
    ∙ sym (ap (λ (u : Val). Some (slice_set all m (value_of (as_written old u)))) (word_is v p v_is)
    ∙ ap (λ (u : Val). Some (slice_set all m (value_of (as_written u (stored.Word p))))) (byte_is old b is))
item_written item.Word (val.Words xs) all m old v (val.Word p) list_is are there v_is x_is =
    let same : map (λ (n : ℕ). val.Word n) xs ≡ all = some_items are in
    let (b, is) = mapped_back (λ (n : ℕ). val.Word n) xs m (value_of old) (ap (λ (ys : List Value). slice_get ys m) same ∙ there) in
    set_as (λ (n : ℕ). val.Word n) xs all m p same
    ∙ sym (ap (λ (u : Val). Some (slice_set all m (value_of (as_written old u)))) (word_is v p v_is)
    ∙ ap (λ (u : Val). Some (slice_set all m (value_of (as_written u (stored.Word p))))) (word_cell old b is))
item_written item.Ref (val.Refs xs) all m old v (val.Ref p) list_is are there v_is x_is =
    let same : map (λ (n : ℕ). val.Ref n) xs ≡ all = some_items are in
    let (b, is) = mapped_back (λ (n : ℕ). val.Ref n) xs m (value_of old) (ap (λ (ys : List Value). slice_get ys m) same ∙ there) in
    set_as (λ (n : ℕ). val.Ref n) xs all m p same
    ∙ sym (ap (λ (u : Val). Some (slice_set all m (value_of (as_written old u)))) (as_ref_is v p v_is)
    ∙ ap (λ (u : Val). Some (slice_set all m (value_of (as_written u (stored.Ref p))))) (ref_cell old b is))
item_written _ _ all m old v _ list_is are there v_is x_is = absurd cc

-- as many items as the list is long
pub items_long : (list : Value) (all : List Value) → items_of list ≡ Some all → operate op.Len (list ∷ []) ≡ val.Word (length all)
items_long (val.Bytes xs) all are = ap (λ (n : ℕ). val.Word n) (sym (length-map xs byte_value) ∙ ap (λ (ys : List Value). length ys) (some_items are))
items_long (val.Words xs) all are = ap (λ (n : ℕ). val.Word n) (sym (length-map xs (λ (n : ℕ). val.Word n)) ∙ ap (λ (ys : List Value). length ys) (some_items are))
items_long (val.Refs xs) all are = ap (λ (n : ℕ). val.Word n) (sym (length-map xs (λ (n : ℕ). val.Ref n)) ∙ ap (λ (ys : List Value). length ys) (some_items are))
items_long _ all are = absurd cc
