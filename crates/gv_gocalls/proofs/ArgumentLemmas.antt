-- Lists of operands, from their end.
use Rattle.std.proofs.Common.{◌≡◌, ℕ, zero, suc, ◌+◌, ◌<◌, ◌≤◌, List, [], ◌∷◌, ◌++◌, length, drop, Option, Some, None, refl, sym, ap, ◌∙◌, append_assoc, arith}
use Rattle.std.specs.Prelude.{map, slice_get}
use Rattle.gv_gosyntax.specs.declared.generated.gosyntax_acts.Part.TheVariants.{Exprs as PExprs}
use Rattle.gv_gosyntax.specs.declared.node.Node.{Node}
use Rattle.gv_gosyntax.specs.declared.tree.Expr.{Expr as DeclaredExpr}
use Rattle.gv_gosyntax.specs.Nodes.{IsPartAt}
use Rattle.gv_gonodes.specs.Places.{IsBefore}
use Rattle.gv_gonodes.specs.Exprs.{IsSomeExprs}
use Rattle.gv_operands.specs.declared.types.GoType.{GoType}
use Rattle.gv_operands.specs.declared.part.Want.{Want}
use Rattle.gv_gotypes.specs.Trees.{Expr, expr_of}
use Rattle.gv_gotypes.specs.Scopes.{Env}
use Rattle.gv_gotypes.specs.Calls.{placed, arguments}
use Rattle.gv_gotyped.specs.declared.fault.Fault.{Fault}
use Rattle.gv_gotyped.specs.First.{first_of, earliest}
use Rattle.gv_gotyped.proofs.Firsts.{first_of_two}
use Rattle.gv_gocalls.specs.Lists.{want_in}

pub exprs_there : (nodes : List Node) (at inner : ℕ) (es : List DeclaredExpr) → at < length nodes → IsBefore nodes at inner (PExprs es) → IsSomeExprs nodes inner
exprs_there nodes at inner es l is = let k = is.before in record { whole = es; within = omega (arith, l, k); part = is.is }

-- how many are left
pub record Counted (nodes : List Node) (place count : ℕ) (es : List DeclaredExpr) : Type 0 where
  pub lefts : List DeclaredExpr
  pub there : IsPartAt nodes place (PExprs lefts)
  pub same : length es ≡ length lefts + count

pub one_more : {T : Type 0} (xs : List T) (x : T) → length (xs ++ x ∷ []) ≡ length xs + 1
one_more [] x = refl
one_more (y ∷ ys) x = let e = one_more ys x in omega (arith, e)

pub counted_more : {T : Type 0} (es lefts ys : List T) (y : T) (count : ℕ) → length es ≡ length lefts + count → lefts ≡ ys ++ y ∷ [] → length es ≡ length ys + (count + 1)
counted_more es lefts ys y count e f = let g = one_more ys y in let h = ap length f in omega (arith, e, g, h)

-- those that are left, and what is told of the others
pub record Argued (env : Env) (params : List (Option GoType)) (nodes : List Node) (place left : ℕ) (first : Option Fault) (es : List DeclaredExpr) : Type 0 where
  pub lefts : List DeclaredExpr
  pub there : IsPartAt nodes place (PExprs lefts)
  pub many : left ≡ length lefts
  pub done : List DeclaredExpr
  pub same : es ≡ lefts ++ done
  pub told : first ≡ first_of (arguments env (drop left params) (map expr_of done))

one_argument : (env : Env) (ps : List (Option GoType)) (k : ℕ) (e : Expr) (es : List Expr)
    → arguments env (drop k ps) (e ∷ es) ≡ placed env (want_in (slice_get ps k)) e ++ arguments env (drop (suc k) ps) es
one_argument env [] zero e es = refl
one_argument env [] (suc k) e es = refl
one_argument env (p ∷ ps) zero e es = refl
one_argument env (p ∷ ps) (suc k) e es = one_argument env ps k e es

pub argument_told : (env : Env) (ps : List (Option GoType)) (k : ℕ) (want : Want) (e : DeclaredExpr) (done : List DeclaredExpr) (fault first x : Option Fault)
    → want ≡ want_in (slice_get ps k) → fault ≡ first_of (placed env want (expr_of e)) → first ≡ first_of (arguments env (drop (suc k) ps) (map expr_of done))
    → x ≡ earliest fault first → x ≡ first_of (arguments env (drop k ps) (map expr_of (e ∷ done)))
argument_told env ps k want e done fault first x w f told is =
    is
    ∙ first_of_two (placed env (want_in (slice_get ps k)) (expr_of e)) (arguments env (drop (suc k) ps) (map expr_of done)) fault first
    (f ∙ ap (λ (y : Want). first_of (placed env y (expr_of e))) w) told
    ∙ sym (ap first_of (one_argument env ps k (expr_of e) (map expr_of done)))

-- one less is left
pub argued_more : (env : Env) (ps : List (Option GoType)) (nodes : List Node) (place inner left less : ℕ) (want : Want) (e : DeclaredExpr) (before : List DeclaredExpr)
    (fault first x : Option Fault) (es : List DeclaredExpr) (r : Argued env ps nodes place left first es) → r.lefts ≡ before ++ e ∷ [] → IsPartAt nodes inner (PExprs before)
    → less + 1 ≡ left → want ≡ want_in (slice_get ps less) → fault ≡ first_of (placed env want (expr_of e)) → x ≡ earliest fault first
    → Argued env ps nodes inner less x es
argued_more env ps nodes place inner left less want e before fault first x es r made there fewer w f is = record {
  lefts = before;
  there = there;
  many = (let a = r.many in let b = ap length made in let d = one_more before e in omega (arith, a, b, d, fewer));
  done = e ∷ r.done;
  same = r.same ∙ ap (λ (ys : List DeclaredExpr). ys ++ r.done) made ∙ append_assoc before (e ∷ []) r.done;
  told = argument_told env ps less want e r.done fault first x w f
      (r.told ∙ ap (λ (n : ℕ). first_of (arguments env (drop n ps) (map expr_of r.done))) (sym fewer ∙ plus_one less)) is;
}
  where
    plus_one : (n : ℕ) → n + 1 ≡ suc n
    plus_one n = omega arith
