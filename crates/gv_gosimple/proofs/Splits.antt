-- Operands at places, one after another.
use Rattle.std.proofs.Common.{◌≡◌, ℕ, ◌-◌, ◌<◌, ◌≤◌, List, [], ◌∷◌, ◌++◌, length, map, take, drop, get_or, refl, sym, ap, subst, ◌∙◌, append_assoc, arith}
use Rattle.std.proofs.Math.Seq.{take-length}
use Rattle.gv_gosyntax.specs.declared.generated.gosyntax_acts.Part.TheVariants.{Expr as PExpr, Exprs as PExprs, Right as PRight}
use Rattle.gv_gosyntax.specs.declared.node.Node.{Node}
use Rattle.gv_gosyntax.specs.declared.tree.Expr.{Expr}
use Rattle.gv_gosyntax.specs.declared.tree.Right.{Right}
use Rattle.gv_gosyntax.specs.Nodes.{IsPartAt}
use Rattle.gv_gonodes.specs.Places.{IsBefore}
use Rattle.gv_gonodes.specs.Expr.{IsSomeExpr}
use Rattle.gv_gonodes.specs.Exprs.{IsExpr, IsLeft}
use Rattle.gv_gonodes.specs.Right.{IsSomeRight}
use Rattle.gv_gotypes.specs.Trees.{Expr as Plain, expr_of}
use Rattle.gv_gosimple.specs.Lefts.{AreExprs, AreSomeExprs}

-- ---- the first of a list, and the others

pub split_first : {A : Type 0} (xs : List A) (x : A) → 1 ≤ length xs → x ≡ get_or xs 0 x → xs ≡ x ∷ take (length xs - 1) (drop 1 xs)
split_first [] x long e = absurd (omega (arith, long))
split_first (y ∷ ys) x long e =
    let size : length (y ∷ ys) - 1 ≡ length ys = omega arith in
    ap (λ z. z ∷ ys) (sym e) ∙ ap (λ zs. x ∷ zs) (sym (ap (λ n. take n ys) size ∙ take-length ys))

pub head : (xs : List ℕ) → 1 ≤ length xs → xs ≡ get_or xs 0 0 ∷ take (length xs - 1) (drop 1 xs)
head [] long = absurd (omega (arith, long))
head (y ∷ ys) long = split_first (y ∷ ys) y long refl

pub split_head : {A : Type 0} (xs : List A) (d : A) → 1 ≤ length xs → xs ≡ get_or xs 0 d ∷ take (length xs - 1) (drop 1 xs)
split_head [] d long = absurd (omega (arith, long))
split_head (y ∷ ys) d long = split_first (y ∷ ys) y long refl

pub none_left : {A : Type 0} (xs : List A) → length xs < 1 → xs ≡ []
none_left [] short = refl
none_left (y ∷ ys) short = absurd (omega (arith, short))

pub record First (nodes : List Node) (place : ℕ) (rest : List ℕ) (es : List Expr) : Type 0 where
  pub of_first : Expr
  pub of_rest : List Expr
  pub same : es ≡ of_first ∷ of_rest
  pub within : place < length nodes
  pub is : IsPartAt nodes place (PExpr of_first)
  pub are : AreExprs nodes rest of_rest

by_cons : (nodes : List Node) (place : ℕ) (rest : List ℕ) (es : List Expr) → AreExprs nodes (place ∷ rest) es → First nodes place rest es
by_cons nodes place rest [] h = absurd h
by_cons nodes place rest (e ∷ es) h = record { of_first = e; of_rest = es; same = refl; within = h.0; is = h.1; are = h.2 }

pub split : (nodes : List Node) (ps : List ℕ) (place : ℕ) (rest : List ℕ) (es : List Expr) → ps ≡ place ∷ rest → AreExprs nodes ps es → First nodes place rest es
split nodes ps place rest es q h = by_cons nodes place rest es (subst (λ (x : List ℕ). AreExprs nodes x es) q h)

by_nil : (nodes : List Node) (es : List Expr) → AreExprs nodes [] es → es ≡ []
by_nil nodes [] h = refl
by_nil nodes (e ∷ es) h = absurd h

pub nothing : (nodes : List Node) (ps : List ℕ) (es : List Expr) → ps ≡ [] → AreExprs nodes ps es → es ≡ []
nothing nodes ps es q h = by_nil nodes es (subst (λ (x : List ℕ). AreExprs nodes x es) q h)

pub some_first : (nodes : List Node) (ps : List ℕ) (place : ℕ) (rest : List ℕ) → ps ≡ place ∷ rest → AreSomeExprs nodes ps → IsSomeExpr nodes place
some_first nodes ps place rest q some = let f = split nodes ps place rest some.whole q some.are in record { whole = f.of_first; within = f.within; part = f.is }

pub some_rest : (nodes : List Node) (ps : List ℕ) (place : ℕ) (rest : List ℕ) → ps ≡ place ∷ rest → AreSomeExprs nodes ps → AreSomeExprs nodes rest
some_rest nodes ps place rest q some = let f = split nodes ps place rest some.whole q some.are in record { whole = f.of_rest; are = f.are }

pub as_many : (nodes : List Node) (ps : List ℕ) (es : List Expr) → AreExprs nodes ps es → length ps ≡ length es
as_many nodes [] [] h = refl
as_many nodes [] (e ∷ es) h = absurd h
as_many nodes (p ∷ ps) [] h = absurd h
as_many nodes (p ∷ ps) (e ∷ es) h = let k = as_many nodes ps es h.2 in omega (arith, k)

-- those that are left, of which something is the same
pub record Same (T : Type 0) (f : List Plain → T) (nodes : List Node) (places : List ℕ) (es : List Expr) : Type 0 where
  pub left : List Expr
  pub are : AreExprs nodes places left
  pub same : f (map expr_of es) ≡ f (map expr_of left)

pub right_there : (nodes : List Node) (at inner : ℕ) (r : Right) → at < length nodes → IsBefore nodes at inner (PRight r) → IsSomeRight nodes inner
right_there nodes at inner r l is = let k = is.before in record { whole = r; within = omega (arith, l, k); part = is.is }

-- ---- operands that are taken from the end

-- operands, of which the last ones stand at places, and the others are made at one
pub record IsSplit (nodes : List Node) (place : ℕ) (places : List ℕ) (es : List Expr) : Type 0 where
  pub before : List Expr
  pub done : List Expr
  pub whole : es ≡ before ++ done
  pub there : IsPartAt nodes place (PExprs before)
  pub are : AreExprs nodes places done

pub split_more : (nodes : List Node) (place exprs last : ℕ) (places : List ℕ) (es : List Expr) → place < length nodes → (s : IsSplit nodes place places es)
    → IsExpr nodes place exprs last s.before → IsSplit nodes exprs (last ∷ places) es
split_more nodes place exprs last places es below s m = record {
  before = m.of_exprs;
  done = m.of_last ∷ s.done;
  whole = s.whole ∙ ap (λ (xs : List Expr). xs ++ s.done) m.made ∙ append_assoc m.of_exprs (m.of_last ∷ []) s.done;
  there = m.at_exprs.is;
  are = ((let k = m.at_last.before in omega (arith, k, below)), m.at_last.is, s.are);
}

pub split_all : (nodes : List Node) (place : ℕ) (places : List ℕ) (es : List Expr) → (s : IsSplit nodes place places es) → s.before ≡ [] → AreExprs nodes places es
split_all nodes place places es s e = subst (AreExprs nodes places) (sym (s.whole ∙ ap (λ (xs : List Expr). xs ++ s.done) e)) s.are

pub split_last : (nodes : List Node) (place left : ℕ) (places : List ℕ) (es : List Expr) → place < length nodes → (s : IsSplit nodes place places es)
    → IsLeft nodes place left s.before → AreExprs nodes (left ∷ places) es
split_last nodes place left places es below s m =
    subst (AreExprs nodes (left ∷ places)) (sym (s.whole ∙ ap (λ (xs : List Expr). xs ++ s.done) m.made))
    ((let k = m.at_left.before in omega (arith, k, below)), m.at_left.is, s.are)
