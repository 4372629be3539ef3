-- Uses in lists of operands, one after another, and the values of literals from their end.
use Rattle.std.proofs.Common.{◌≡◌, ℕ, ◌<◌, List, [], ◌∷◌, ◌++◌, length, map, sym, ap, ◌∙◌, append-nil, append_assoc, subst, arith}
use Rattle.gv_gosyntax.specs.declared.generated.gosyntax_acts.Part.TheVariants.{Keyed as PKeyed}
use Rattle.gv_gosyntax.specs.declared.lexeme.Lexeme.{Lexeme}
use Rattle.gv_gosyntax.specs.declared.node.Node.{Node}
use Rattle.gv_gosyntax.specs.declared.tree.Expr.{Expr as DeclaredExpr}
use Rattle.gv_gosyntax.specs.declared.tree.KeyedExpr.{KeyedExpr as DeclaredKeyed}
use Rattle.gv_gosyntax.specs.Nodes.{IsPartAt}
use Rattle.gv_gonodes.specs.Keyed.{IsKeyed}
use Rattle.gv_gotypes.specs.Trees.{expr_of}
use Rattle.gv_gotypes.specs.Scopes.{Env}
use Rattle.gv_gotypes.specs.Expressions.{operand}
use Rattle.gv_gosimple.specs.Lefts.{AreExprs}
use Rattle.gv_gosimple.proofs.Splits.{First}
use Rattle.gv_gouses.specs.declared.noted.Use.{Use}
use Rattle.gv_gouses.specs.Uses.{uses_of, Adds}
use Rattle.gv_gouses.specs.Parts.{operands_findings}
use Rattle.gv_gouses.proofs.UseLemmas.{uses_both}

-- ---- operands at places

-- those that are left, whose uses would make the list that all make
pub record Walked (env : Env) (nodes : List Node) (places : List ℕ) (old now : List Use) (es : List DeclaredExpr) : Type 0 where
  pub left : List DeclaredExpr
  pub are : AreExprs nodes places left
  pub same : now ++ uses_of (operands_findings env (map expr_of left)) ≡ old ++ uses_of (operands_findings env (map expr_of es))

pub walked_more : (env : Env) (nodes : List Node) (places rest : List ℕ) (place : ℕ) (old now new : List Use) (es : List DeclaredExpr)
    → (w : Walked env nodes places old now es) → (f : First nodes place rest w.left) → Adds now new (operand env (expr_of f.of_first)).findings
    → Walked env nodes rest old new es
walked_more env nodes places rest place old now new es w f h =
    let here = (operand env (expr_of f.of_first)).findings in let behind = operands_findings env (map expr_of f.of_rest) in record {
      left = f.of_rest;
      are = f.are;
      same = ap (λ (us : List Use). us ++ uses_of behind) h
          ∙ append_assoc now (uses_of here) (uses_of behind)
          ∙ sym (ap (λ (us : List Use). now ++ us) (ap (λ (xs : List DeclaredExpr). uses_of (operands_findings env (map expr_of xs))) f.same ∙ uses_both here behind))
          ∙ w.same;
    }

pub walked_all : (env : Env) (nodes : List Node) (places : List ℕ) (old now : List Use) (es : List DeclaredExpr) → (w : Walked env nodes places old now es)
    → w.left ≡ [] → Adds old now (operands_findings env (map expr_of es))
walked_all env nodes places old now es w e =
    sym (append-nil now) ∙ sym (ap (λ (xs : List DeclaredExpr). now ++ uses_of (operands_findings env (map expr_of xs))) e) ∙ w.same

-- ---- values of literals

pub record IsSplit (nodes : List Node) (place : ℕ) (places : List ℕ) (ks : List DeclaredKeyed) : Type 0 where
  pub before : List DeclaredKeyed
  pub done : List DeclaredKeyed
  pub whole : ks ≡ before ++ done
  pub there : IsPartAt nodes place (PKeyed before)
  pub are : AreExprs nodes places (map (λ (k : DeclaredKeyed). k.value) done)

pub split_more : (nodes : List Node) (place fields value : ℕ) (key : Lexeme) (places : List ℕ) (ks : List DeclaredKeyed) → place < length nodes → (s : IsSplit nodes place places ks)
    → IsKeyed nodes place fields key value s.before → IsSplit nodes fields (value ∷ places) ks
split_more nodes place fields value key places ks below s m = record {
  before = m.of_fields;
  done = record { key = key; value = m.of_value } ∷ s.done;
  whole = s.whole ∙ ap (λ (xs : List DeclaredKeyed). xs ++ s.done) m.made ∙ append_assoc m.of_fields (record { key = key; value = m.of_value } ∷ []) s.done;
  there = m.at_fields.is;
  are = ((let k = m.at_value.before in omega (arith, k, below)), m.at_value.is, s.are);
}

pub split_all : (nodes : List Node) (place : ℕ) (places : List ℕ) (ks : List DeclaredKeyed) → (s : IsSplit nodes place places ks) → s.before ≡ []
    → AreExprs nodes places (map (λ (k : DeclaredKeyed). k.value) ks)
split_all nodes place places ks s e =
    subst (λ (xs : List DeclaredKeyed). AreExprs nodes places (map (λ (k : DeclaredKeyed). k.value) xs)) (sym (s.whole ∙ ap (λ (xs : List DeclaredKeyed). xs ++ s.done) e)) s.are
