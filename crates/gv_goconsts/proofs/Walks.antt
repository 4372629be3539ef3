-- From nodes to constants, and steps of what goes over them.
use Rattle.std.proofs.Common.{◌≡◌, ℕ, suc, zero, ◌+◌, ◌<◌, List, [], ◌∷◌, ◌++◌, length, get_or, Option, Some, None, refl, sym, ap, subst, ◌∙◌, arith, append_assoc}
use Rattle.std.specs.Prelude.{slice_get, replicate}
use Rattle.std.specs.Global.{Vec}
use Rattle.gv_gosyntax.specs.declared.generated.gosyntax_acts.Part.TheVariants.{Expr as PExpr}
use Rattle.gv_gosyntax.specs.declared.node.Node.{Node}
use Rattle.gv_gosyntax.specs.declared.tree.Expr.{Expr as DeclaredExpr}
use Rattle.gv_gosyntax.specs.Nodes.{IsPartAt}
use Rattle.gv_gonodes.specs.Expr.{IsSomeExpr}
use Rattle.gv_operands.specs.declared.types.Class.{Class}
use Rattle.gv_cycles.specs.Leading.{lists_of, row}
use Rattle.gv_gotypes.specs.Trees.{Expr, expr_of}
use Rattle.gv_gotypes.specs.Scopes.{Source, Package, Env}
use Rattle.gv_gotypes.specs.Expressions.{operand}
use Rattle.gv_gotypes.specs.Constants.{ConstantTree, with_constants, named_by, settled_constant}
use Rattle.gv_gotyped.specs.declared.outcomes.Operand.{Operand}
use Rattle.gv_gotyped.specs.Operands.{IsOperand}
use Rattle.gv_gonamed.specs.Laws.{with_these}
use Rattle.gv_gonamed.proofs.Alike.{all_names_alike}
use Rattle.gv_goconsts.specs.declared.constants.ConstantNode.{ConstantNode}
use Rattle.gv_goconsts.specs.Constants.{IsConstantAt, AreConstantsAt, names_of, made_of}
use Rattle.gv_goconsts.proofs.Lists.{length_names, row_names}
use Rattle.gv_goconsts.proofs.Orders.{AreRows, AreSettled}

-- ---- constants by their nodes

-- the one with a number, with its tree
pub record IsThere (nodes : List Node) (c : ConstantNode) (trees : List ConstantTree) (n : ℕ) : Type 0 where
  pub tree : ConstantTree
  pub same : slice_get trees n ≡ Some tree
  pub is : IsConstantAt nodes c tree

pub there_at : (nodes : List Node) (cs : List ConstantNode) (ts : List ConstantTree) (n : ℕ) (d : ConstantNode) → n < length cs → AreConstantsAt nodes cs ts → IsThere nodes (get_or cs n d) ts n
there_at nodes [] ts n d l h = absurd (omega (arith, l))
there_at nodes (c ∷ cs) [] n d l h = absurd h
there_at nodes (c ∷ cs) (t ∷ ts) zero d l h = record { tree = t; same = refl; is = h.0 }
there_at nodes (c ∷ cs) (t ∷ ts) (suc n) d l h = let r = there_at nodes cs ts n d (omega (arith, l)) h.1 in record { tree = r.tree; same = r.same; is = r.is }

pub as_many : (nodes : List Node) (cs : List ConstantNode) (ts : List ConstantTree) → AreConstantsAt nodes cs ts → length cs ≡ length ts
as_many nodes [] [] h = refl
as_many nodes [] (t ∷ ts) h = absurd h
as_many nodes (c ∷ cs) [] h = absurd h
as_many nodes (c ∷ cs) (t ∷ ts) h = ap suc (as_many nodes cs ts h.1)

pub some_expr : (nodes : List Node) (c d : ConstantNode) (ts : List ConstantTree) (n : ℕ) → d ≡ c → IsThere nodes c ts n → IsSomeExpr nodes d.value
some_expr nodes c d ts n e r = subst (λ (x : ConstantNode). IsSomeExpr nodes x.value) (sym e) (record { whole = r.is.whole; within = r.is.within; part = r.is.part })

pub made_there : (nodes : List Node) (env : Env) (c d : ConstantNode) (ts : List ConstantTree) (n : ℕ) (known : Operand) (class : Option Class) → d ≡ c → IsThere nodes c ts n
    → ((e : DeclaredExpr) → IsPartAt nodes d.value (PExpr e) → IsOperand env (expr_of e) known) → class ≡ settled_constant d.is_word known.part.class
    → class ≡ made_of env (slice_get ts n)
made_there nodes env c d ts n known class e r walked made =
    let o = walked r.is.whole (subst (λ (x : ConstantNode). IsPartAt nodes x.value (PExpr r.is.whole)) (sym e) r.is.part) in
    let known_class : known.part.class ≡ (operand env (expr_of r.is.whole)).class = ap (λ p. p.class) o.part in
    let tree_class : (operand env (expr_of r.is.whole)).class ≡ (operand env r.tree.expr).class = ap (λ (x : Expr). (operand env x).class) r.is.expr in
    let word : d.is_word ≡ r.tree.is_word = ap (λ (x : ConstantNode). x.is_word) e ∙ r.is.is_word in
    made
    ∙ (ap (λ (k : Option Class). settled_constant d.is_word k) (known_class ∙ tree_class)
    ∙ (ap (λ b. settled_constant b (operand env r.tree.expr).class) word
    ∙ ap (λ (t : Option ConstantTree). made_of env t) (sym r.same)))

-- ---- what is seen

abbrev pub with_classes : Env → List (Option Class) → Env
with_classes env ks = record { source = env.source; declared = with_constants env.declared ks; entries = env.entries; results = env.results }

pub seen_with : (env new : Env) (s : Source) (p : Package) (ks js : List (Option Class)) → env ≡ with_these s p ks → new ≡ with_classes env js → new ≡ with_these s p js
seen_with env new s p ks js e n = n ∙ ap (λ (x : Env). with_classes x js) e

pub classes_seen : (env : Env) (s : Source) (p : Package) (ks : List (Option Class)) → env ≡ with_these s p ks → env.declared.constants ≡ ks
classes_seen env s p ks e = ap (λ (x : Env). x.declared.constants) e

-- ---- rows

-- rows of the constants before, and constants that are still to be looked at
pub record AreStill (nodes : List Node) (env : Env) (rows : List (List ℕ)) (rest : List ConstantNode) (cs : List ConstantTree) : Type 0 where
  pub trees : List ConstantTree
  pub there : AreConstantsAt nodes rest trees
  pub whole : names_of env cs ≡ rows ++ names_of env trees

pub still_all : (nodes : List Node) (env : Env) (rest : List ConstantNode) (cs : List ConstantTree) → AreConstantsAt nodes rest cs → AreStill nodes env [] rest cs
still_all nodes env rest cs h = record { trees = cs; there = h; whole = refl }

still_next : (nodes : List Node) (env : Env) (rows : List (List ℕ)) (named : List ℕ) (c : ConstantNode) (rest : List ConstantNode) (cs trees : List ConstantTree)
    → AreConstantsAt nodes (c ∷ rest) trees → names_of env cs ≡ rows ++ names_of env trees
    → ((e : DeclaredExpr) → IsPartAt nodes c.value (PExpr e) → named ≡ named_by env (expr_of e))
    → AreStill nodes env (rows ++ named ∷ []) rest cs
still_next nodes env rows named c rest cs [] h whole walked = absurd h
still_next nodes env rows named c rest cs (t ∷ ts) h whole walked =
    let q : named ≡ named_by env t.expr = walked h.0.whole h.0.part ∙ ap (λ (x : Expr). named_by env x) h.0.expr in
    record {
      trees = ts;
      there = h.1;
      whole = whole ∙ (ap (λ (ns : List ℕ). rows ++ (ns ∷ names_of env ts)) (sym q) ∙ sym (append_assoc rows (named ∷ []) (names_of env ts)));
    }

pub still_more : (nodes : List Node) (env : Env) (rows : List (List ℕ)) (named : List ℕ) (c : ConstantNode) (rest : List ConstantNode) (cs : List ConstantTree)
    → AreStill nodes env rows (c ∷ rest) cs
    → ((e : DeclaredExpr) → IsPartAt nodes c.value (PExpr e) → named ≡ named_by env (expr_of e))
    → AreStill nodes env (rows ++ named ∷ []) rest cs
still_more nodes env rows named c rest cs a walked = still_next nodes env rows named c rest cs a.trees a.there a.whole walked

still_done : (nodes : List Node) (env : Env) (rows : List (List ℕ)) (cs trees : List ConstantTree) → AreConstantsAt nodes [] trees → names_of env cs ≡ rows ++ names_of env trees → rows ++ [] ≡ names_of env cs
still_done nodes env rows cs [] h whole = sym whole
still_done nodes env rows cs (t ∷ ts) h whole = absurd h

pub still_none : (nodes : List Node) (env : Env) (rows : List (List ℕ)) (cs : List ConstantTree) → AreStill nodes env rows [] cs → rows ++ [] ≡ names_of env cs
still_none nodes env rows cs a = still_done nodes env rows cs a.trees a.there a.whole

-- ---- rows by what each names

names_of_alike : (s : Source) (p : Package) (ks js : List (Option Class)) (cs : List ConstantTree) → names_of (with_these s p ks) cs ≡ names_of (with_these s p js) cs
names_of_alike s p ks js [] = refl
names_of_alike s p ks js (c ∷ cs) = let a = all_names_alike s p ks js c.expr in let b = names_of_alike s p ks js cs in cc

pub names_without : (s : Source) (p : Package) (ks : List (Option Class)) (env : Env) (cs : List ConstantTree) → env ≡ with_these s p ks → names_of env cs ≡ names_of (with_these s p []) cs
names_without s p ks env cs e = ap (λ (x : Env). names_of x cs) e ∙ names_of_alike s p ks [] cs

pub rows_named : (s : Source) (p : Package) (cs : List ConstantTree) → AreRows s p cs (names_of (with_these s p []) cs)
rows_named s p cs = record {
  sized = length_names (with_these s p []) cs;
  named = λ ks n. ap (λ rows. row rows n) (names_of_alike s p [] ks cs) ∙ row_names (with_these s p ks) cs n;
}

-- ---- constants that are settled one after another

pub record AreOnTheWay (s : Source) (p : Package) (cs : List ConstantTree) (order : List ℕ) (i : ℕ) (env : Env) : Type 0 where
  pub classes : List (Option Class)
  pub seen : env ≡ with_these s p classes
  pub settled : AreSettled s p cs order i classes

pub lists_push : (vs : List (Vec ℕ)) (v : Vec ℕ) → lists_of (vs ++ v ∷ []) ≡ lists_of vs ++ v.items ∷ []
lists_push [] v = refl
lists_push (w ∷ ws) v = ap (λ (ns : List (List ℕ)). w.items ∷ ns) (lists_push ws v)

none_then : (n : ℕ) → replicate n None ++ None ∷ [] ≡ replicate {A = Option Class} (suc n) None
none_then zero = refl
none_then (suc n) = ap (λ (ks : List (Option Class)). None ∷ ks) (none_then n)

pub none_more : (n : ℕ) → replicate n None ++ None ∷ [] ≡ replicate {A = Option Class} (n + 1) None
none_more n = let e : suc n ≡ n + 1 = omega arith in none_then n ∙ ap (λ (k : ℕ). replicate {A = Option Class} k None) e
