-- The numbers in a tree, by those of its parts.
use Rattle.std.proofs.Common.{◌≡◌, ℕ, suc, ◌<◌, List, [], ◌∷◌, true, ◌&&◌, Bool, length, map, refl, ◌∙◌, arith, rules}
use Rattle.std.specs.List.{All, list_all}
use Rattle.gv_terms.specs.declared.sort.Sort.{Sort}
use Rattle.gv_terms.specs.declared.operator.Operator.{Operator}
use Rattle.gv_terms.specs.declared.term.Term.{Term}
use Rattle.gv_terms.specs.declared.tree.Head.{Head}
use Rattle.gv_terms.specs.declared.tree.Head.TheVariants as head
use Rattle.gv_terms.specs.declared.tree.TermTree.{TermTree, the_lemmas}
use Rattle.gv_terms.specs.declared.tree.TermTree.TheVariants as tree
use Rattle.gv_terms.specs.Trees.{rooted}
use Rattle.gv_terms.specs.Ranges.{is_word_if_number, holds_word, numbers_are_words}
use Rattle.gv_terms.specs.Store.{tree_at, trees_at}

pub numbers_variable : (n : List ℕ) (s : Sort) → numbers_are_words (tree.Variable n s) ≡ true
unfolding numbers_are_words
numbers_variable n s = search (rules, the_lemmas)

pub numbers_apply : (o : Operator) (ts : List TermTree) → numbers_are_words (tree.Apply o ts) ≡ (is_word_if_number o && list_all (λ b. b) (map numbers_are_words ts))
unfolding numbers_are_words
numbers_apply o ts = search (rules, the_lemmas)

both : (a b : Bool) → a ≡ true → b ≡ true → (a && b) ≡ true
both a b e f = rw (e, f) refl

-- of terms of a store
abbrev pub AreWords : List TermTree → Type 0
AreWords ts = (k : ℕ) → k < length ts → numbers_are_words (tree_at ts k) ≡ true

parts_words : (ts : List TermTree) (ps : List Term) → AreWords ts → All (λ p. p.id < length ts) ps → list_all (λ b. b) (map numbers_are_words (trees_at ts ps)) ≡ true
parts_words ts [] words within = refl
parts_words ts (p ∷ ps) words within =
    both (numbers_are_words (tree_at ts p.id)) (list_all (λ b. b) (map numbers_are_words (trees_at ts ps)))
    (words p.id (within 0 p (omega arith))) (parts_words ts ps words (λ k d lt. within (suc k) d (omega arith)))

pub rooted_words : (h : Head) (ts : List TermTree) (ps : List Term) → holds_word h ≡ true → AreWords ts → All (λ p. p.id < length ts) ps → numbers_are_words (rooted h (trees_at ts ps)) ≡ true
rooted_words (head.Variable n s) ts ps here words within = numbers_variable n s
rooted_words (head.Apply o) ts ps here words within =
    numbers_apply o (trees_at ts ps)
    ∙ both (is_word_if_number o) (list_all (λ b. b) (map numbers_are_words (trees_at ts ps))) here (parts_words ts ps words within)
