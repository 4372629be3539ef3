-- Expressions whose terms are words or slices.
use Rattle.std.proofs.Common.{◌≡◌, ℕ, List, Option, Some, refl, ap, ◌∙◌}
use Rattle.gv_base.specs.declared.val.Val.TheVariants as stored
use Rattle.gv_terms.specs.declared.value.Value.{Value}
use Rattle.gv_terms.specs.declared.value.Value.TheVariants as val
use Rattle.gv_seats.specs.Seats.{HaveValues, plain}
use Rattle.gv_base.specs.declared.val.Val.{Val}
use Rattle.gv_terms.specs.declared.sort.Sort.TheVariants as sort
use Rattle.gv_terms.specs.declared.tree.TermTree.{TermTree}
use Rattle.gv_terms.specs.declared.value.Env.{Env}
use Rattle.gv_terms.specs.Trees.{sort_of, value_under}
use Rattle.gv_terms.specs.Values.{sort_of_value}
use Rattle.gv_terms.proofs.ValueSorts.{values_have_sorts}
use Rattle.gv_lang.specs.Tree.{Expr}
use Rattle.gv_lang.specs.Values.{value}
use Rattle.gv_seats.specs.Paths.{term_of}
use Rattle.gv_seats.proofs.Expressions.{expressions_law}
use Rattle.gv_base.specs.declared.slice_val.SliceVal.{SliceVal}

pub word_is : (v : Val) (n : ℕ) → plain v ≡ Some (val.Word n) → v ≡ stored.Word n
word_is (stored.Word m) n e = let same : m ≡ n = cc in ap stored.Word same
word_is (stored.Ref r) n e = absurd cc
word_is (stored.Bool b) n e = absurd cc
word_is (stored.Slice t) n e = absurd cc
word_is (stored.Byte b) n e = absurd cc
word_is stored.Unit n e = absurd cc

pub word_value : (x : Value) → sort_of_value x ≡ Some sort.Word → (n : ℕ) × (x ≡ val.Word n)
word_value (val.Word n) e = (n, refl)
word_value _ e = absurd cc

-- an expression whose term is a word has a word
pub word_operand : (env : Env) (terms : List (Option TermTree)) (locals : List Val) → HaveValues env terms locals → (e : Expr) (t : TermTree) → term_of terms e ≡ Some t
    → sort_of t ≡ Some sort.Word → (n : ℕ) × (value locals e ≡ Some (stored.Word n)) × (value_under env t ≡ val.Word n)
word_operand env terms locals have e t term sorted =
    let (v, found, is) = expressions_law env terms locals have e t sort.Word term sorted in
    let (n, value_is) = word_value (value_under env t) (values_have_sorts env t sort.Word sorted) in
    (n, found ∙ ap Some (word_is v n (is ∙ ap Some value_is)), value_is)

pub slice_is : (v : Val) (s : SliceVal) → plain v ≡ Some (val.SliceS s) → v ≡ stored.Slice s
slice_is (stored.Slice t) s e = let same : t ≡ s = cc in ap stored.Slice same
slice_is (stored.Word m) s e = absurd cc
slice_is (stored.Ref r) s e = absurd cc
slice_is (stored.Bool b) s e = absurd cc
slice_is (stored.Byte b) s e = absurd cc
slice_is stored.Unit s e = absurd cc

pub slice_value : (x : Value) → sort_of_value x ≡ Some sort.SliceS → (s : SliceVal) × (x ≡ val.SliceS s)
slice_value (val.SliceS s) e = (s, refl)
slice_value _ e = absurd cc
