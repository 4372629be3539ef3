-- The axioms of the items of lists, and of their lengths.
use Rattle.std.proofs.Common.{◌≡◌, ℕ, zero, suc, ◌+◌, ◌-◌, ◌%◌, ◌<◌, ◌≤◌, List, [], ◌∷◌, ◌++◌, cond, ⊎_elim, Some, length, take, get_or, set, refl, ap, sym, ◌∙◌, arith, lit<, length-drop, length-append, length-set}
use Rattle.std.specs.List.{All}
use Rattle.std.proofs.lemmas.Bool.{lt-ltb}
use Rattle.std.proofs.lemmas.List.{length-replicate, get_or-replicate, get_or-set_same, get_or-set_other, set-get_or, length-take-le, get_or-drop, get_or-take, get_or_append_left, get_or-append-add}
use Rattle.std.proofs.lemmas.List.Elements.{All-tail}
use Rattle.gv_terms.specs.declared.sort.Sort.{Sort}
use Rattle.gv_terms.specs.declared.sort.Sort.TheVariants as sort
use Rattle.gv_terms.specs.declared.value.Value.{Value}
use Rattle.gv_terms.specs.declared.value.Value.TheVariants as val
use Rattle.gv_terms.specs.Sorts.{item_sort}
use Rattle.gv_terms.specs.Values.{sort_of_value, word_of, ref_of, bytes_of}
use Rattle.gv_terms.specs.Meaning.{too_long, part_of, joined, length_of, item_at, with_item, items_between, both_lists}
use Rattle.gv_terms.specs.Ranges.{IsInRange}
use Rattle.gv_words.specs.Words as words
use Rattle.gv_axioms.specs.Filling.{with_some, held}
use Rattle.gv_axioms.specs.Table as table
use Rattle.gv_axioms.proofs.Worth.{Holds, IsMade}
use Rattle.gv_axioms.proofs.Values.{is_word, is_ref, is_bytes, apart, equal, less, is_less, at_most}

small : (n : ℕ) → n < 256 → n % 256 ≡ n
small n h = omega arith

-- the value is a list
abbrev IsListOf : Value → Sort → Type 0
IsListOf x s = with_some (sort_of_value x) item_sort ≡ Some s

-- Items that are set.

at_set : (x : Value) (i : ℕ) (v : Value) (s : Sort) → IsListOf x s → with_some (sort_of_value x) held ≡ sort_of_value v → (sort_of_value x ≡ Some sort.Bytes → word_of v < 256) → i < word_of (length_of x)
    → item_at (with_item x i v) i ≡ v
at_set (val.Bytes x) i v s e h bytes lt = ap (λ n. val.Word n) (get_or-set_same x i (word_of v % 256) 0 lt ∙ small (word_of v) (bytes refl)) ∙ sym (is_word v (sym h))
at_set (val.Words x) i v s e h bytes lt = ap (λ n. val.Word n) (get_or-set_same x i (word_of v) 0 lt) ∙ sym (is_word v (sym h))
at_set (val.Refs x) i v s e h bytes lt = ap (λ n. val.Ref n) (get_or-set_same x i (ref_of v) 0 lt) ∙ sym (is_ref v (sym h))
at_set (val.Blocks x) i v s e h bytes lt = ap (λ n. val.Bytes n) (get_or-set_same x i (bytes_of v) [] lt) ∙ sym (is_bytes v (sym h))
at_set _ i v s e h bytes lt = absurd cc

at_others : (x : Value) (i j : ℕ) (v : Value) (s : Sort) → IsListOf x s → (j ≡ i → ⊥) → item_at (with_item x i v) j ≡ item_at x j
at_others (val.Bytes x) i j v s e ne = ap (λ n. val.Word n) (get_or-set_other x i j (word_of v % 256) 0 ne)
at_others (val.Words x) i j v s e ne = ap (λ n. val.Word n) (get_or-set_other x i j (word_of v) 0 ne)
at_others (val.Refs x) i j v s e ne = ap (λ n. val.Ref n) (get_or-set_other x i j (ref_of v) 0 ne)
at_others (val.Blocks x) i j v s e ne = ap (λ n. val.Bytes n) (get_or-set_other x i j (bytes_of v) [] ne)
at_others _ i j v s e ne = absurd cc

as_long : (x : Value) (i : ℕ) (v : Value) (s : Sort) → IsListOf x s → length_of (with_item x i v) ≡ length_of x
as_long (val.Bytes x) i v s e = ap (λ n. val.Word n) (length-set x i (word_of v % 256))
as_long (val.Words x) i v s e = ap (λ n. val.Word n) (length-set x i (word_of v))
as_long (val.Refs x) i v s e = ap (λ n. val.Word n) (length-set x i (ref_of v))
as_long (val.Blocks x) i v s e = ap (λ n. val.Word n) (length-set x i (bytes_of v))
as_long _ i v s e = absurd cc

-- Copies.

made_length : (v : Value) (k : ℕ) (w : Value) → IsMade v k w → length_of v ≡ val.Word k
made_length v k w m =
    ⊎_elim (λ h. ap length_of h.0 ∙ ap (λ n. val.Word n) (length-replicate k (word_of w % 256)))
    (⊎_elim (λ h. ap length_of h.0 ∙ ap (λ n. val.Word n) (length-replicate k (word_of w)))
    (⊎_elim (λ h. ap length_of h.0 ∙ ap (λ n. val.Word n) (length-replicate k (ref_of w)))
    (λ h. ap length_of h.0 ∙ ap (λ n. val.Word n) (length-replicate k (bytes_of w)))))
    m.made

made_item : (v : Value) (k i : ℕ) (w : Value) → IsMade v k w → i < k → (sort_of_value v ≡ Some sort.Bytes → word_of w < 256) → item_at v i ≡ w
made_item v k i w m lt bytes =
    ⊎_elim (λ h. ap (λ z. item_at z i) h.0 ∙ ap (λ n. val.Word n) (get_or-replicate k i (word_of w % 256) 0 lt ∙ small (word_of w) (bytes (ap sort_of_value h.0))) ∙ sym (is_word w h.1))
    (⊎_elim (λ h. ap (λ z. item_at z i) h.0 ∙ ap (λ n. val.Word n) (get_or-replicate k i (word_of w) 0 lt) ∙ sym (is_word w h.1))
    (⊎_elim (λ h. ap (λ z. item_at z i) h.0 ∙ ap (λ n. val.Ref n) (get_or-replicate k i (ref_of w) 0 lt) ∙ sym (is_ref w h.1))
    (λ h. ap (λ z. item_at z i) h.0 ∙ ap (λ n. val.Bytes n) (get_or-replicate k i (bytes_of w) [] lt) ∙ sym (is_bytes w h.1))))
    m.made

-- Bytes.

byte_in : (x : List ℕ) (i : ℕ) → All (λ b. b < 256) x → get_or x i 0 < 256
byte_in [] i all = lit< tt
byte_in (a ∷ x) zero all = all 0 a (omega arith)
byte_in (a ∷ x) (suc i) all = byte_in x i (All-tail (λ b. b < 256) a x all)

byte_at : (x : Value) (i : ℕ) → sort_of_value x ≡ Some sort.Bytes → IsInRange x → word_of (item_at x i) < 256
byte_at (val.Bytes x) i e is = byte_in x i is.1
byte_at _ i e is = absurd cc

set_as_was : (x : Value) (i : ℕ) (s : Sort) → IsListOf x s → IsInRange x → with_item x i (item_at x i) ≡ x
set_as_was (val.Bytes x) i s e is = ap (λ n. val.Bytes (set x i n)) (small (get_or x i 0) (byte_in x i is.1)) ∙ ap (λ y. val.Bytes y) (set-get_or x i 0)
set_as_was (val.Words x) i s e is = ap (λ y. val.Words y) (set-get_or x i 0)
set_as_was (val.Refs x) i s e is = ap (λ y. val.Refs y) (set-get_or x i 0)
set_as_was (val.Blocks x) i s e is = ap (λ y. val.Blocks y) (set-get_or x i [])
set_as_was _ i s e is = absurd cc

pub not_too_long : (x : Value) (s : Sort) → IsListOf x s → IsInRange x → word_of (length_of x) < too_long
not_too_long (val.Bytes x) s e is = is.0
not_too_long (val.Words x) s e is = is.0
not_too_long (val.Refs x) s e is = is
not_too_long (val.Blocks x) s e is = is.0
not_too_long _ s e is = absurd cc

-- Parts of lists.

pub minus_is : (a b : ℕ) → a ≤ b → b < words.words → words.minus b a ≡ b - a
minus_is a b le h = omega arith

plus_is : (a b : ℕ) → a + b < words.words → words.plus a b ≡ a + b
plus_is a b h = omega arith

part_length : {A : Type 0} (x : List A) (a b : ℕ) → a ≤ b → b ≤ length x → length x < too_long → val.Word (length (part_of x a b)) ≡ val.Word (words.minus b a)
part_length x a b f g h = ap (λ n. val.Word n) (length-drop a (take b x) ∙ ap (λ n. n - a) (length-take-le b x g) ∙ sym (minus_is a b f (omega arith)))

between_length : (x : Value) (a b : ℕ) (s : Sort) → IsListOf x s → IsInRange x → a ≤ b → b ≤ word_of (length_of x) → length_of (items_between x a b) ≡ val.Word (words.minus b a)
between_length (val.Bytes x) a b s e is f g = part_length x a b f g is.0
between_length (val.Words x) a b s e is f g = part_length x a b f g is.0
between_length (val.Refs x) a b s e is f g = part_length x a b f g is
between_length (val.Blocks x) a b s e is f g = part_length x a b f g is.0
between_length _ a b s e is f g = absurd cc

part_item : {A : Type 0} (x : List A) (d : A) (a b i : ℕ) → a ≤ b → b ≤ length x → length x < too_long → i < words.minus b a → get_or (part_of x a b) i d ≡ get_or x (words.plus a i) d
part_item x d a b i f g h lt =
    let inside : a + i < b = omega (arith, minus_is a b f (omega arith), lt) in
    get_or-drop a (take b x) i d ∙ get_or-take b x (a + i) d inside ∙ ap (λ n. get_or x n d) (sym (plus_is a i (omega arith)))

between_item : (x : Value) (a b i : ℕ) (s : Sort) → IsListOf x s → IsInRange x → a ≤ b → b ≤ word_of (length_of x) → i < words.minus b a → item_at (items_between x a b) i ≡ item_at x (words.plus a i)
between_item (val.Bytes x) a b i s e is f g lt = ap (λ n. val.Word n) (part_item x 0 a b i f g is.0 lt)
between_item (val.Words x) a b i s e is f g lt = ap (λ n. val.Word n) (part_item x 0 a b i f g is.0 lt)
between_item (val.Refs x) a b i s e is f g lt = ap (λ n. val.Ref n) (part_item x 0 a b i f g is lt)
between_item (val.Blocks x) a b i s e is f g lt = ap (λ n. val.Bytes n) (part_item x [] a b i f g is.0 lt)
between_item _ a b i s e is f g lt = absurd cc

-- Two lists.

both_fit : {A B : Type 0} (x : List A) (y : List B) → length x < too_long → length y < too_long → words.plus (length x) (length y) < too_long → length x + length y < too_long
both_fit x y f g h = omega (arith, plus_is (length x) (length y) (omega arith))

joined_is : {A : Type 0} (x y : List A) → length x + length y < too_long → joined x y ≡ x ++ y
joined_is x y h = ap (λ t. cond t (x ++ y) x) (lt-ltb (length x + length y) too_long h)

joined_length : {A : Type 0} (x y : List A) → length x < too_long → length y < too_long → words.plus (length x) (length y) < too_long → val.Word (length (joined x y)) ≡ val.Word (words.plus (length x) (length y))
joined_length x y f g h =
    let fit = both_fit x y f g h in
    ap (λ n. val.Word n) (ap length (joined_is x y fit) ∙ length-append x y ∙ sym (plus_is (length x) (length y) (omega arith)))

both_length : (x y : Value) (s : Sort) → IsListOf x s → sort_of_value x ≡ sort_of_value y → IsInRange x → IsInRange y → words.plus (word_of (length_of x)) (word_of (length_of y)) < too_long
    → length_of (both_lists x y) ≡ val.Word (words.plus (word_of (length_of x)) (word_of (length_of y)))
both_length (val.Bytes x) (val.Bytes y) s e same is too h = joined_length x y is.0 too.0 h
both_length (val.Words x) (val.Words y) s e same is too h = joined_length x y is.0 too.0 h
both_length (val.Refs x) (val.Refs y) s e same is too h = joined_length x y is too h
both_length (val.Blocks x) (val.Blocks y) s e same is too h = joined_length x y is.0 too.0 h
both_length _ _ s e same is too h = absurd cc

joined_first : {A : Type 0} (x y : List A) (d : A) (i : ℕ) → length x < too_long → length y < too_long → words.plus (length x) (length y) < too_long → i < length x → get_or (joined x y) i d ≡ get_or x i d
joined_first x y d i f g h lt = ap (λ l. get_or l i d) (joined_is x y (both_fit x y f g h)) ∙ get_or_append_left x y d i lt

both_first : (x y : Value) (i : ℕ) (s : Sort) → IsListOf x s → sort_of_value x ≡ sort_of_value y → IsInRange x → IsInRange y → words.plus (word_of (length_of x)) (word_of (length_of y)) < too_long → i < word_of (length_of x)
    → item_at (both_lists x y) i ≡ item_at x i
both_first (val.Bytes x) (val.Bytes y) i s e same is too h lt = ap (λ n. val.Word n) (joined_first x y 0 i is.0 too.0 h lt)
both_first (val.Words x) (val.Words y) i s e same is too h lt = ap (λ n. val.Word n) (joined_first x y 0 i is.0 too.0 h lt)
both_first (val.Refs x) (val.Refs y) i s e same is too h lt = ap (λ n. val.Ref n) (joined_first x y 0 i is too h lt)
both_first (val.Blocks x) (val.Blocks y) i s e same is too h lt = ap (λ n. val.Bytes n) (joined_first x y [] i is.0 too.0 h lt)
both_first _ _ i s e same is too h lt = absurd cc

joined_second : {A : Type 0} (x y : List A) (d : A) (i : ℕ) → length x < too_long → length y < too_long → words.plus (length x) (length y) < too_long → i < length y → get_or (joined x y) (words.plus (length x) i) d ≡ get_or y i d
joined_second x y d i f g h lt =
    let fit = both_fit x y f g h in
    ap (λ l. get_or l (words.plus (length x) i) d) (joined_is x y fit) ∙ ap (λ n. get_or (x ++ y) n d) (plus_is (length x) i (omega arith)) ∙ get_or-append-add x y i d

both_second : (x y : Value) (i : ℕ) (s : Sort) → IsListOf x s → sort_of_value x ≡ sort_of_value y → IsInRange x → IsInRange y → words.plus (word_of (length_of x)) (word_of (length_of y)) < too_long → i < word_of (length_of y)
    → item_at (both_lists x y) (words.plus (word_of (length_of x)) i) ≡ item_at y i
both_second (val.Bytes x) (val.Bytes y) i s e same is too h lt = ap (λ n. val.Word n) (joined_second x y 0 i is.0 too.0 h lt)
both_second (val.Words x) (val.Words y) i s e same is too h lt = ap (λ n. val.Word n) (joined_second x y 0 i is.0 too.0 h lt)
both_second (val.Refs x) (val.Refs y) i s e same is too h lt = ap (λ n. val.Ref n) (joined_second x y 0 i is too h lt)
both_second (val.Blocks x) (val.Blocks y) i s e same is too h lt = ap (λ n. val.Bytes n) (joined_second x y [] i is.0 too.0 h lt)
both_second _ _ i s e same is too h lt = absurd cc

-- The axioms.

pub holds_28 : Holds table.axiom_28
holds_28 v in_range is met =
    equal _ (v.value 2)
    (at_set (v.value 0) (word_of (v.value 1)) (v.value 2) is.0.0 is.0.1 is.1.1.0 (λ b. less _ 256 (met.1.0 b)) (less _ _ (met.0 tt)))

pub holds_29 : Holds table.axiom_29
holds_29 v in_range is met =
    equal _ _ (at_others (v.value 0) (word_of (v.value 1)) (word_of (v.value 2)) (v.value 3) is.0.0 is.0.1 (λ e. apart (v.value 1) (v.value 2) is.1.0 is.1.1.0 (met.0 tt) (sym e)))

pub holds_30 : Holds table.axiom_30
holds_30 v in_range is met = equal _ _ (as_long (v.value 0) (word_of (v.value 1)) (v.value 2) is.0.0 is.0.1)

pub holds_31 : Holds table.axiom_31
holds_31 v in_range is met = equal _ _ (made_length (v.value 0) (v.count 0) (v.item 0) is.0)

pub holds_32 : Holds table.axiom_32
holds_32 v in_range is met = equal _ _ (made_item (v.value 0) (v.count 0) (word_of (v.value 1)) (v.item 0) is.0 (less _ _ (met.0 tt)) (λ b. less _ 256 (met.1.0 b)))

pub holds_35 : Holds table.axiom_35
holds_35 v in_range is met = is_less _ 256 (byte_at (v.value 0) (word_of (v.value 1)) is.0 (in_range 0))

pub holds_36 : Holds table.axiom_36
holds_36 v in_range is met = equal _ _ (set_as_was (v.value 0) (word_of (v.value 1)) is.0.0 is.0.1 (in_range 0))

pub holds_37 : Holds table.axiom_37
holds_37 v in_range is met = is_less _ too_long (not_too_long (v.value 0) is.0.0 is.0.1 (in_range 0))

pub holds_38 : Holds table.axiom_38
holds_38 v in_range is met = equal _ _ (between_length (v.value 0) (word_of (v.value 1)) (word_of (v.value 2)) is.0.0 is.0.1 (in_range 0) (at_most _ _ (met.0 tt)) (at_most _ _ (met.1.0 tt)))

pub holds_39 : Holds table.axiom_39
holds_39 v in_range is met =
    equal _ _ (between_item (v.value 0) (word_of (v.value 1)) (word_of (v.value 2)) (word_of (v.value 3)) is.0.0 is.0.1 (in_range 0)
    (at_most _ _ (met.0 tt)) (at_most _ _ (met.1.0 tt)) (less _ _ (met.1.1.0 tt)))

pub holds_40 : Holds table.axiom_40
holds_40 v in_range is met = equal _ _ (both_length (v.value 0) (v.value 1) is.0.0 is.0.1 is.1.0 (in_range 0) (in_range 1) (less _ too_long (met.0 tt)))

pub holds_41 : Holds table.axiom_41
holds_41 v in_range is met =
    equal _ _ (both_first (v.value 0) (v.value 1) (word_of (v.value 2)) is.0.0 is.0.1 is.1.0 (in_range 0) (in_range 1) (less _ too_long (met.0 tt)) (less _ _ (met.1.0 tt)))

pub holds_42 : Holds table.axiom_42
holds_42 v in_range is met =
    equal _ _ (both_second (v.value 0) (v.value 1) (word_of (v.value 2)) is.0.0 is.0.1 is.1.0 (in_range 0) (in_range 1) (less _ too_long (met.0 tt)) (less _ _ (met.1.0 tt)))
