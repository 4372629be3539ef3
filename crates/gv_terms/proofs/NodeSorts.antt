-- The sort of a node, from the sorts of its parts.
use Rattle.std.proofs.Common.{option_map, ◌≡◌, ℕ, ◌+◌, ◌<◌, List, [], ◌∷◌, ◌++◌, length, get_or, take, map, refl, sym, ap, ◌∙◌, rules, Some}
use Rattle.std.proofs.lemmas.List.{map-append, take_more}
use Rattle.gv_terms.specs.declared.sort.Sort.{Sort}
use Rattle.gv_terms.specs.declared.operator.Operator.{Operator}
use Rattle.gv_terms.specs.declared.tree.Head.{Head}
use Rattle.gv_terms.specs.declared.tree.Head.TheVariants as head
use Rattle.gv_terms.specs.declared.tree.TermTree.{TermTree, the_lemmas}
use Rattle.gv_terms.specs.declared.tree.TermTree.TheVariants as tree
use Rattle.gv_terms.specs.declared.term.Term.{Term}
use Rattle.gv_terms.specs.Sorts.{sort_given}
use Rattle.gv_terms.specs.Trees.{rooted, sort_of, sort_of_node, all_sorts, with_sorts, head_sort}
use Rattle.gv_terms.specs.Store.{tree_at, trees_at}

pub sort_variable : (n : List ℕ) (s : Sort) → sort_of (tree.Variable n s) ≡ Some s
unfolding sort_of
sort_variable n s = search (rules, the_lemmas)

pub sort_apply : (o : Operator) (ts : List TermTree) → sort_of (tree.Apply o ts) ≡ with_sorts (all_sorts (map sort_of ts)) (sort_given o)
unfolding sort_of
sort_apply o ts = search (rules, the_lemmas)

all_some : (ss : List Sort) → all_sorts (map (λ s. Some s) ss) ≡ Some ss
all_some [] = refl
all_some (s ∷ ss) = ap (λ o. option_map (λ rs. s ∷ rs) o) (all_some ss)

-- a node's sort is that of its head over its parts' sorts
pub node_sort : (h : Head) (ts : List TermTree) (ss : List Sort) → map sort_of ts ≡ map (λ s. Some s) ss → sort_of_node h ts ≡ head_sort h ss
node_sort (head.Variable n s) [] [] e = refl
node_sort (head.Variable n s) [] (r ∷ ss) e = absurd cc
node_sort (head.Variable n s) (t ∷ ts) [] e = absurd cc
node_sort (head.Variable n s) (t ∷ ts) (r ∷ ss) e = refl
node_sort (head.Apply o) ts ss e = sort_apply o ts ∙ ap (λ os. with_sorts (all_sorts os) (sort_given o)) e ∙ ap (λ o'. with_sorts o' (sort_given o)) (all_some ss)

-- a node with a sort is a tree of that sort
pub rooted_sort : (h : Head) (ts : List TermTree) (s : Sort) → sort_of_node h ts ≡ Some s → sort_of (rooted h ts) ≡ Some s
rooted_sort (head.Variable n r) [] s e = sort_variable n r ∙ e
rooted_sort (head.Variable n r) (t ∷ ts) s e = absurd cc
rooted_sort (head.Apply o) ts s e = e

-- one part more
pub sorts_more : (ts : List TermTree) (ps : List Term) (i : ℕ) (p : Term) (ss : List Sort) (s : Sort) → i < length ps → p ≡ get_or ps i p → map sort_of (trees_at ts (take i ps)) ≡ map (λ r. Some r) ss → sort_of (tree_at ts p.id) ≡ Some s → map sort_of (trees_at ts (take (i + 1) ps)) ≡ map (λ r. Some r) (ss ++ s ∷ [])
sorts_more ts ps i p ss s lt is before here =
    let longer : take (i + 1) ps ≡ take i ps ++ (p ∷ []) = take_more ps i p lt ∙ ap (λ q. take i ps ++ (q ∷ [])) (sym is) in
    ap (λ qs. map sort_of (trees_at ts qs)) longer
    ∙ ap (λ us. map sort_of us) (map-append (λ q. tree_at ts q.id) (take i ps) (p ∷ []))
    ∙ map-append sort_of (trees_at ts (take i ps)) (tree_at ts p.id ∷ [])
    ∙ ap (λ os. os ++ sort_of (tree_at ts p.id) ∷ []) before
    ∙ ap (λ o. map (λ r. Some r) ss ++ o ∷ []) here
    ∙ sym (map-append (λ r. Some r) ss (s ∷ []))
