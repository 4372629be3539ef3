-- A tree whose forks count their entries counts all of them.
use Rattle.std.proofs.Common.{◌≡◌, ℕ, ◌+◌, ◌-◌, ◌<◌, zero, suc, List, [], ◌∷◌, ◌++◌, length, slice_get, Some, Bool, true, false, ◌&&◌, refl, ap, ◌∙◌, arith}
use Rattle.std.specs.Prelude.{◌==◌}
use Rattle.std.proofs.lemmas.Bool.{eqb-true}
use Rattle.std.proofs.lemmas.List.{length-append}
use Rattle.gv_trees.specs.declared.tree.Tree.{Tree}
use Rattle.gv_trees.specs.declared.tree.Tree.TheVariants.{Leaf, Fork'}
use Rattle.gv_trees.specs.Trees.{entries, size_of, sized}
use Rattle.gv_trees.specs.declared.tree.Fork.{Fork}

left : (a b : Bool) → (a && b) ≡ true → a ≡ true
left true b e = refl
left false b e = absurd cc

right : (a b : Bool) → (a && b) ≡ true → b ≡ true
right true b e = e
right false b e = absurd cc

pub counted : {V : Type 0} (t : Tree V) → sized t ≡ true → size_of t ≡ length (entries t)
counted Leaf h = refl
counted (Fork' p first key item last size) h =
    let own : (size == size_of first + size_of last + 1) ≡ true =
    left (size == size_of first + size_of last + 1) (sized first) (left (size == size_of first + size_of last + 1 && sized first) (sized last) h) in
    let before : sized first ≡ true = right (size == size_of first + size_of last + 1) (sized first) (left (size == size_of first + size_of last + 1 && sized first) (sized last) h) in
    let after : sized last ≡ true = right (size == size_of first + size_of last + 1 && sized first) (sized last) h in
    omega (arith, eqb-true size (size_of first + size_of last + 1) own, counted first before, counted last after, length-append (entries first) ((key, item) ∷ entries last))

-- both sides of a fork count their entries where it does
pub first_sized : {V : Type 0} (f : Fork V) → (f.size == size_of f.left + size_of f.right + 1 && sized f.left && sized f.right) ≡ true → sized f.left ≡ true
first_sized f h = right (f.size == size_of f.left + size_of f.right + 1) (sized f.left) (left (f.size == size_of f.left + size_of f.right + 1 && sized f.left) (sized f.right) h)

pub last_sized : {V : Type 0} (f : Fork V) → (f.size == size_of f.left + size_of f.right + 1 && sized f.left && sized f.right) ≡ true → sized f.right ≡ true
last_sized f h = right (f.size == size_of f.left + size_of f.right + 1 && sized f.left) (sized f.right) h

-- what stands at a place of two lists and an entry between them
pub at_before : {X : Type 0} (xs ys : List X) (i : ℕ) → i < length xs → slice_get (xs ++ ys) i ≡ slice_get xs i
at_before [] ys i h = absurd (omega (arith, h))
at_before (x ∷ xs) ys zero h = refl
at_before (x ∷ xs) ys (suc i) h = at_before xs ys i (omega (arith, h))

pub at_between : {X : Type 0} (xs ys : List X) (x : X) (i : ℕ) → i ≡ length xs → slice_get (xs ++ (x ∷ ys)) i ≡ Some x
at_between [] ys x zero h = refl
at_between [] ys x (suc i) h = absurd (omega (arith, h))
at_between (y ∷ xs) ys x zero h = absurd (omega (arith, h))
at_between (y ∷ xs) ys x (suc i) h = at_between xs ys x i (omega (arith, h))

pub at_behind : {X : Type 0} (xs ys : List X) (x : X) (i : ℕ) → length xs < i → slice_get (xs ++ (x ∷ ys)) i ≡ slice_get ys (i - length xs - 1)
at_behind [] ys x zero h = absurd (omega (arith, h))
at_behind [] ys x (suc i) h = ap (λ n. slice_get ys n) (omega arith)
at_behind (y ∷ xs) ys x zero h = absurd (omega (arith, h))
at_behind (y ∷ xs) ys x (suc i) h = at_behind xs ys x i (omega (arith, h)) ∙ ap (λ n. slice_get ys n) (omega arith)
