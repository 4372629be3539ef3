-- Which values terms can have. Words and bytes have their widths and lists their length; references and calls are as many as there are, and names as long.
use Rattle.std.specs.Prelude.{ℕ, ◌+◌, ◌<◌, ◌≤◌, List, length, Bool, true, ◌&&◌, nat_lt}
use Rattle.std.specs.List.{All, list_all}
use Rattle.gv_base.specs.declared.slice_val.SliceVal.{SliceVal}
use Rattle.gv_terms.specs.declared.operator.Operator.{Operator}
use Rattle.gv_terms.specs.declared.operator.Operator.TheVariants as op
use Rattle.gv_terms.specs.declared.tree.Head.{Head}
use Rattle.gv_terms.specs.declared.tree.Head.TheVariants as head
use Rattle.gv_terms.specs.declared.tree.TermTree.{TermTree, fold-TermTree}
use Rattle.gv_terms.specs.declared.tree.TermTree.TheOpen.{TermTree-F, Variable, Apply}
use Rattle.gv_terms.specs.declared.value.Value.{Value}
use Rattle.gv_terms.specs.declared.value.Value.TheVariants as val
use Rattle.gv_terms.specs.declared.value.Env.{Env}
use Rattle.gv_words.specs.Words.{words}
use Rattle.gv_terms.specs.Meaning.{too_long}

-- a list that is not too long, of such items
abbrev pub IsList : {A : Type 0} → (A → Type 0) → List A → Type 0
IsList P x = (length x < too_long) × All P x

abbrev pub AreBytes : List ℕ → Type 0
AreBytes x = IsList (λ b. b < 256) x

-- a map from words to such values
abbrev pub IsMap : {V : Type 0} → (V → Type 0) → List (ℕ × V) → Type 0
IsMap P m = All (λ e. (e.0 < words) × P e.1) m

-- the cells and the spare cells of a slice end below 2^63, and it has no more cells than its capacity
abbrev pub IsSlice : SliceVal → Type 0
IsSlice s = (s.offset + s.capacity < too_long) × (s.length ≤ s.capacity)

-- a word fits its width, a list or a map holds what is in range; the value of no reply is in range too
abbrev pub IsInRange : Value → Type 0
IsInRange (val.Word n) = n < words
IsInRange (val.Bool b) = Unit {0}
IsInRange (val.Bytes x) = AreBytes x
IsInRange (val.Words x) = IsList (λ n. n < words) x
IsInRange (val.Refs x) = length x < too_long
IsInRange (val.Blocks x) = IsList AreBytes x
IsInRange (val.MapWW m) = IsMap (λ n. n < words) m
IsInRange (val.MapWB m) = IsMap AreBytes m
IsInRange (val.Ref r) = Unit {0}
IsInRange (val.SliceS s) = IsSlice s
IsInRange (val.Call c) = Unit {0}
IsInRange (val.Name n) = Unit {0}
IsInRange val.Unit = Unit {0}

-- a valuation gives values in range
abbrev pub IsValuation : Env → Type 0
IsValuation env = All (λ b. IsInRange b.value) env.bindings

-- whether an operator is no number, or one that is a word
abbrev pub is_word_if_number : Operator → Bool
is_word_if_number (op.Number n) = nat_lt n words
is_word_if_number _ = true

-- the same of what stands at a root
abbrev pub holds_word : Head → Bool
holds_word (head.Variable n s) = true
holds_word (head.Apply o) = is_word_if_number o

abbrev pub words_here : TermTree-F Bool → Bool
words_here (Variable n s) = true
words_here (Apply o parts) = is_word_if_number o && list_all (λ b. b) parts

-- whether each number that stands in a tree is a word; how many copies a maker makes is no such number,
-- and limited where the tree has a sort
unfoldable pub numbers_are_words : TermTree → Bool
numbers_are_words = fold-TermTree Bool words_here
