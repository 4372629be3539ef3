-- What a tree shows of its root.
use Rattle.std.proofs.Common.{◌≡◌, ℕ, List, [], ◌∷◌, length, sym, ap, ◌∙◌, arith, rules}
use Rattle.gv_terms.specs.declared.sort.Sort.{Sort}
use Rattle.gv_terms.specs.declared.operator.Operator.{Operator}
use Rattle.gv_terms.specs.declared.tree.Head.{Head}
use Rattle.gv_terms.specs.declared.tree.Head.TheVariants as head
use Rattle.gv_terms.specs.declared.tree.TermTree.{TermTree, the_lemmas, out-TermTree}
use Rattle.gv_terms.specs.declared.tree.TermTree.TheVariants as tree
use Rattle.gv_terms.specs.declared.tree.TermTree.TheOpen.{Variable, Apply}
use Rattle.gv_terms.specs.Trees.{rooted, root_here, root_of, branches_here, branches_of}
use Rattle.gv_terms.specs.Store.{part_count}

open_variable : (n : List ℕ) (s : Sort) → out-TermTree (tree.Variable n s) ≡ Variable n s
open_variable n s = search (rules, the_lemmas)

open_apply : (o : Operator) (ts : List TermTree) → out-TermTree (tree.Apply o ts) ≡ Apply o ts
open_apply o ts = search (rules, the_lemmas)

same_variable : (n m : List ℕ) (s r : Sort) → tree.Variable n s ≡ tree.Variable m r → head.Variable n s ≡ head.Variable m r
same_variable n m s r e = let f = sym (open_variable n s) ∙ ap out-TermTree e ∙ open_variable m r in cc

pub same_root : (h g : Head) (ts us : List TermTree) → rooted h ts ≡ rooted g us → h ≡ g
same_root (head.Variable n s) (head.Variable m r) ts us e = same_variable n m s r e
same_root (head.Variable n s) (head.Apply p) ts us e = let f = sym (open_variable n s) ∙ ap out-TermTree e ∙ open_apply p us in absurd cc
same_root (head.Apply o) (head.Variable m r) ts us e = let f = sym (open_apply o ts) ∙ ap out-TermTree e ∙ open_variable m r in absurd cc
same_root (head.Apply o) (head.Apply p) ts us e = let f = sym (open_apply o ts) ∙ ap out-TermTree e ∙ open_apply p us in cc

pub same_parts : (o p : Operator) (ts us : List TermTree) → rooted (head.Apply o) ts ≡ rooted (head.Apply p) us → ts ≡ us
same_parts o p ts us e = let f = sym (open_apply o ts) ∙ ap out-TermTree e ∙ open_apply p us in cc

pub root_rooted : (h : Head) (ts : List TermTree) → root_of (rooted h ts) ≡ h
root_rooted (head.Variable n s) ts = ap root_here (open_variable n s)
root_rooted (head.Apply o) ts = ap root_here (open_apply o ts)

pub branches_rooted : (h : Head) (ts : List TermTree) → length ts ≡ part_count h → branches_of (rooted h ts) ≡ ts
branches_rooted (head.Variable n s) [] e = ap branches_here (open_variable n s)
branches_rooted (head.Variable n s) (t ∷ ts) e = absurd (omega arith)
branches_rooted (head.Apply o) ts e = ap branches_here (open_apply o ts)
