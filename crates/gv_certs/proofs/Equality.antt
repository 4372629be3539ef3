-- The test on trees decides their equality.
use Rattle.std.proofs.Common.{◌≡◌, ℕ, List, [], ◌∷◌, map, get_or, Bool, true, false, ◌&&◌, refl, sym, ap, ◌∙◌, subst}
use Rattle.std.specs.Prelude.{nat_eq}
use Rattle.gv_terms.specs.declared.sort.Sort.TheVariants as sort
use Rattle.std.specs.Bool.{Decides}
use Rattle.std.proofs.lemmas.Bool.Decides.{Decides-and, Decides-eqb}
use Rattle.std.specs.Str.{bytes_eq}
use Rattle.std.proofs.lemmas.Slice.Eq.{bytes_eq-Decides}
use Rattle.gv_terms.specs.declared.sort.Sort.{Sort}
use Rattle.gv_terms.specs.declared.operator.Operator.{Operator}
use Rattle.gv_terms.specs.declared.tree.Head.{Head}
use Rattle.gv_terms.specs.declared.tree.Head.TheVariants as head
use Rattle.gv_terms.specs.declared.tree.TermTree.{TermTree}
use Rattle.gv_terms.specs.declared.tree.TermTree.TheVariants as tree
use Rattle.gv_terms.specs.Sorts.{sort_eq, sort_number}
use Rattle.gv_terms.specs.Places.{place_of, literal_of}
use Rattle.gv_terms.specs.Trees.{rooted, root_of, branches_of}
use Rattle.gv_terms.proofs.Places.{same_operator}
use Rattle.gv_terms.proofs.Trees.{same_root, same_parts}
use Rattle.gv_certs.specs.Trees.{operator_eq, head_eq, each_passes, tree_eq}
use Rattle.gv_certs.proofs.Folding.{Each, trees, by_induction, root_variable, root_apply, branches_variable, branches_apply, rooted_again, folded_variable, folded_apply}

-- a test that decides one fact decides an equivalent one
pub turned : (b : Bool) {P Q : Type 0} → Decides b P → (P → Q) → (Q → P) → Decides b Q
turned b d f g = ((λ e. f (d.0 e)), (λ q. d.1 (g q)))

never : {P : Type 0} → (P → ⊥) → Decides false P
never h = ((λ e. absurd cc), (λ p. absurd (h p)))

-- ---- heads

-- the sorts in their order
abbrev sorts : List Sort
sorts = sort.Word ∷ sort.Bool ∷ sort.Bytes ∷ sort.Words ∷ sort.Refs ∷ sort.Blocks ∷ sort.MapWW ∷ sort.MapWB ∷ sort.Ref ∷ sort.SliceS ∷ sort.Call ∷ sort.Name ∷ []

at_number : (s : Sort) → get_or sorts (sort_number s) sort.Word ≡ s
at_number sort.Word = refl
at_number sort.Bool = refl
at_number sort.Bytes = refl
at_number sort.Words = refl
at_number sort.Refs = refl
at_number sort.Blocks = refl
at_number sort.MapWW = refl
at_number sort.MapWB = refl
at_number sort.Ref = refl
at_number sort.SliceS = refl
at_number sort.Call = refl
at_number sort.Name = refl

pub sort_eq_decides : (r s : Sort) → Decides (sort_eq r s) (r ≡ s)
sort_eq_decides r s =
    turned (sort_eq r s) (Decides-eqb (sort_number r) (sort_number s))
    (λ e. sym (at_number r) ∙ ap (λ k. get_or sorts k sort.Word) e ∙ at_number s) (ap sort_number)

pub operator_eq_decides : (o p : Operator) → Decides (operator_eq o p) (o ≡ p)
operator_eq_decides o p =
    turned (operator_eq o p) (Decides-and (nat_eq (place_of o) (place_of p)) (nat_eq (literal_of o) (literal_of p)) (Decides-eqb (place_of o) (place_of p)) (Decides-eqb (literal_of o) (literal_of p)))
    (λ e. same_operator o p e.0 e.1) (λ e. (ap place_of e, ap literal_of e))

head_eq_decides : (h g : Head) → Decides (head_eq h g) (h ≡ g)
head_eq_decides (head.Variable n s) (head.Variable m r) =
    turned (bytes_eq n m && sort_eq s r) (Decides-and (bytes_eq n m) (sort_eq s r) (bytes_eq-Decides n m) (sort_eq_decides s r)) (λ e. cc2 n m s r e.0 e.1) (λ e. (cc, cc))
  where
    cc2 : (n m : List ℕ) (s r : Sort) → n ≡ m → s ≡ r → head.Variable n s ≡ head.Variable m r
    cc2 n m s r e f = cc
head_eq_decides (head.Variable n s) (head.Apply p) = never (λ e. absurd cc)
head_eq_decides (head.Apply o) (head.Variable m r) = never (λ e. absurd cc)
head_eq_decides (head.Apply o) (head.Apply p) = turned (operator_eq o p) (operator_eq_decides o p) (ap head.Apply) (λ e. cc)

-- ---- trees

abbrev IsDecided : TermTree → Type 0
IsDecided t = (u : TermTree) → Decides (tree_eq t u) (t ≡ u)

each_decided : (es : Each IsDecided) (us : List TermTree) → Decides (each_passes (map tree_eq (trees es)) us) (trees es ≡ us)
each_decided [] [] = ((λ e. refl), (λ e. refl))
each_decided [] (u ∷ us) = never (λ e. absurd cc)
each_decided (e ∷ es) [] = never (λ f. absurd cc)
each_decided (e ∷ es) (u ∷ us) =
    turned (tree_eq e.0 u && each_passes (map tree_eq (trees es)) us)
    (Decides-and (tree_eq e.0 u) (each_passes (map tree_eq (trees es)) us) (e.1 u) (each_decided es us)) (λ f. cc3 e.0 u (trees es) us f.0 f.1) (λ f. (cc, cc))
  where
    cc3 : (t u : TermTree) (ts us : List TermTree) → t ≡ u → ts ≡ us → t ∷ ts ≡ u ∷ us
    cc3 t u ts us e f = cc

-- by what the tests on the branches decide
abbrev test : TermTree → List (TermTree → Bool) → TermTree → Bool
test t tests u = head_eq (root_of t) (root_of u) && each_passes tests (branches_of u)

by_parts : (t u : TermTree) (tests : List (TermTree → Bool)) → ((us : List TermTree) → Decides (each_passes tests us) (branches_of t ≡ us)) → Decides (test t tests u) (t ≡ u)
by_parts t u tests h =
    turned (test t tests u) (Decides-and (head_eq (root_of t) (root_of u)) (each_passes tests (branches_of u)) (head_eq_decides (root_of t) (root_of u)) (h (branches_of u)))
    (λ e. sym (rooted_again t) ∙ ap (λ h. rooted h (branches_of t)) e.0 ∙ ap (rooted (root_of u)) e.1 ∙ rooted_again u)
    (λ e. (ap root_of e, ap branches_of e))

tests_of_none : (us : List TermTree) → Decides (each_passes [] us) ([] ≡ us)
tests_of_none [] = ((λ e. refl), (λ e. refl))
tests_of_none (u ∷ us) = never (λ e. absurd cc)

with_test : (t u : TermTree) (tests : List (TermTree → Bool)) → tree_eq t ≡ test t tests → Decides (test t tests u) (t ≡ u) → Decides (tree_eq t u) (t ≡ u)
with_test t u tests e d = subst (λ f. Decides (f u) (t ≡ u)) (sym e) d

variable_decided : (n : List ℕ) (s : Sort) → IsDecided (tree.Variable n s)
unfolding tree_eq
variable_decided n s u =
    let t = tree.Variable n s in
    with_test t u [] (folded_variable test n s) (by_parts t u [] (λ us. subst (λ bs. Decides (each_passes [] us) (bs ≡ us)) (sym (branches_variable n s)) (tests_of_none us)))

tree_eq_apply : (o : Operator) (ts : List TermTree) → tree_eq (tree.Apply o ts) ≡ test (tree.Apply o ts) (map tree_eq ts)
unfolding tree_eq
tree_eq_apply o ts = folded_apply test o ts

apply_decided : (o : Operator) (es : Each IsDecided) → IsDecided (tree.Apply o (trees es))
apply_decided o es u =
    let t = tree.Apply o (trees es) in
    let tests = map tree_eq (trees es) in
    with_test t u tests (tree_eq_apply o (trees es)) (by_parts t u tests (λ us. subst (λ bs. Decides (each_passes tests us) (bs ≡ us)) (sym (branches_apply o (trees es))) (each_decided es us)))

pub tree_eq_decides : (t u : TermTree) → Decides (tree_eq t u) (t ≡ u)
tree_eq_decides = by_induction IsDecided variable_decided apply_decided

pub same_tree : (t u : TermTree) → tree_eq t u ≡ true → t ≡ u
same_tree t u e = (tree_eq_decides t u).0 e
