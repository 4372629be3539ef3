-- The axioms of slices.
use Rattle.std.proofs.Common.{◌≡◌, ℕ, ◌+◌, ◌-◌, ◌≤◌, cond, Some, nat_le, ap, sym, ◌∙◌, arith}
use Rattle.std.proofs.lemmas.Bool.{and_from, le-leb}
use Rattle.gv_base.specs.declared.slice_val.SliceVal.{SliceVal}
use Rattle.gv_terms.specs.declared.sort.Sort.TheVariants as sort
use Rattle.gv_terms.specs.declared.value.Value.{Value}
use Rattle.gv_terms.specs.declared.value.Value.TheVariants as val
use Rattle.gv_terms.specs.Values.{sort_of_value, word_of, slice_of, nil_slice}
use Rattle.gv_terms.specs.Meaning.{slice_between}
use Rattle.gv_terms.specs.Ranges.{IsInRange, IsSlice}
use Rattle.gv_words.specs.Words as words
use Rattle.gv_axioms.specs.Table as table
use Rattle.gv_axioms.proofs.Worth.{Holds}
use Rattle.gv_axioms.proofs.Values.{is_slice, equal, at_most, is_at_most}
use Rattle.gv_axioms.proofs.Items.{minus_is}

abbrev slice : ℕ → ℕ → ℕ → ℕ → SliceVal
slice o f l c = record { object = o; offset = f; length = l; capacity = c }

slices : (o f l c g m d : ℕ) → f ≡ g → l ≡ m → c ≡ d → slice o f l c ≡ slice o g m d
slices o f l c g m d p q r = ap (λ n. slice o n l c) p ∙ ap (λ n. slice o g n c) q ∙ ap (λ n. slice o g m n) r

slice_in : (v : Value) → sort_of_value v ≡ Some sort.SliceS → IsInRange v → IsSlice (slice_of v)
slice_in (val.SliceS s) e is = is
slice_in _ e is = absurd cc

between_is : (s : SliceVal) (a b : ℕ) → a ≤ b → b ≤ s.capacity → slice_between s a b ≡ slice s.object (words.plus s.offset a) (b - a) (s.capacity - a)
between_is s a b f g =
    ap (λ t. cond t (slice s.object (words.plus s.offset a) (b - a) (s.capacity - a)) nil_slice) (and_from (nat_le a b) (nat_le b s.capacity) (le-leb a b f) (le-leb b s.capacity g))

length_between : (s : SliceVal) (a b : ℕ) → IsSlice s → a ≤ b → b ≤ s.capacity → (slice_between s a b).length ≡ words.minus b a
length_between s a b is f g = ap (λ t. t.length) (between_is s a b f g) ∙ sym (minus_is a b f (omega (arith, is.0, g)))

capacity_between : (s : SliceVal) (a b : ℕ) → IsSlice s → a ≤ b → b ≤ s.capacity → (slice_between s a b).capacity ≡ words.minus s.capacity a
capacity_between s a b is f g = ap (λ t. t.capacity) (between_is s a b f g) ∙ sym (minus_is a s.capacity (omega (arith, f, g)) (omega (arith, is.0)))

whole : (s : SliceVal) → IsSlice s → slice_between s 0 s.length ≡ s
whole s is =
    between_is s 0 s.length (omega arith) is.1
    ∙ slices s.object (words.plus s.offset 0) (s.length - 0) (s.capacity - 0) s.offset s.length s.capacity (omega (arith, is.0)) (omega arith) (omega arith)

nested : (s : SliceVal) (a b i j : ℕ) → IsSlice s → a ≤ b → b ≤ s.capacity → i ≤ j → j ≤ words.minus s.capacity a → slice_between (slice_between s a b) i j ≡ slice_between s (words.plus a i) (words.plus a j)
nested s a b i j is f g h k =
    let room : words.minus s.capacity a ≡ s.capacity - a = minus_is a s.capacity (omega (arith, f, g)) (omega (arith, is.0)) in
    let inside : j ≤ s.capacity - a = omega (arith, k, room) in
    let first : words.plus a i ≡ a + i = omega (arith, inside, h, is.0, f, g) in
    let last : words.plus a j ≡ a + j = omega (arith, inside, is.0, f, g) in
    ap (λ t. slice_between t i j) (between_is s a b f g)
    ∙ between_is (slice s.object (words.plus s.offset a) (b - a) (s.capacity - a)) i j h inside
    ∙ slices s.object (words.plus (words.plus s.offset a) i) (j - i) (s.capacity - a - i) (words.plus s.offset (words.plus a i)) (words.plus a j - words.plus a i) (s.capacity - words.plus a i)
    (omega (arith, is.0, f, g, inside, h)) (omega (arith, first, last)) (omega (arith, first))
    ∙ sym (between_is s (words.plus a i) (words.plus a j) (omega (arith, first, last, h)) (omega (arith, last, inside, f, g)))

pub holds_59 : Holds table.axiom_59
holds_59 v in_range is met =
    equal _ _ (ap (λ n. val.Word n) (length_between (slice_of (v.value 0)) (word_of (v.value 1)) (word_of (v.value 2)) (slice_in (v.value 0) is.0 (in_range 0)) (at_most _ _ (met.0 tt)) (at_most _ _ (met.1.0 tt))))

pub holds_60 : Holds table.axiom_60
holds_60 v in_range is met =
    equal _ _ (ap (λ n. val.Word n) (capacity_between (slice_of (v.value 0)) (word_of (v.value 1)) (word_of (v.value 2)) (slice_in (v.value 0) is.0 (in_range 0)) (at_most _ _ (met.0 tt)) (at_most _ _ (met.1.0 tt))))

pub holds_61 : Holds table.axiom_61
holds_61 v in_range is met = is_at_most _ _ (slice_in (v.value 0) is.0 (in_range 0)).1

pub holds_62 : Holds table.axiom_62
holds_62 v in_range is met = equal _ (v.value 0) (ap (λ s. val.SliceS s) (whole (slice_of (v.value 0)) (slice_in (v.value 0) is.0 (in_range 0))) ∙ sym (is_slice (v.value 0) is.0))

pub holds_63 : Holds table.axiom_63
holds_63 v in_range is met =
    equal _ _ (ap (λ s. val.SliceS s) (nested (slice_of (v.value 0)) (word_of (v.value 1)) (word_of (v.value 2)) (word_of (v.value 3)) (word_of (v.value 4)) (slice_in (v.value 0) is.0 (in_range 0))
    (at_most _ _ (met.0 tt)) (at_most _ _ (met.1.0 tt)) (at_most _ _ (met.1.1.0 tt)) (at_most _ _ (met.1.1.1.0 tt))))
