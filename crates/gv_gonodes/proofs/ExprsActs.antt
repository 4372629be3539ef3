-- Exprs nodes by the acts that make them. Made by tools/nodes.py from gosyntax.grammar: edit that.
use Rattle.std.proofs.Common.{◌≡◌, ℕ, true, List, [], ◌∷◌, Some, refl, ap, ◌∙◌}
use Rattle.std.specs.Prelude.{drop, take}
use Rattle.gv_grammar.specs.Building.{has_tops}
use Rattle.gv_gosyntax.specs.declared.generated.gosyntax_acts.Part.{Part}
use Rattle.gv_gosyntax.specs.declared.generated.gosyntax_acts.Part.TheVariants.{Expr as PExpr, Exprs as PExprs, Token as PToken}
use Rattle.gv_gosyntax.specs.declared.tree.Expr.{Expr}
use Rattle.gv_gosyntax.specs.declared.lexeme.Lexeme.{Lexeme}
use Rattle.gv_gosyntax.specs.declared.node.Node.{Node}
use Rattle.gv_gosyntax.specs.declared.node.Node.TheVariants.{Made}
use Rattle.gv_gosyntax.specs.declared.generated.gosyntax_table.TheConstants as act
use Rattle.gv_gosyntax.specs.GosyntaxActs.{is_expr, is_exprs, is_token, made_expr, made_left, made_no_exprs, made_past_exprs}
use Rattle.gv_gosyntax.specs.Nodes.{built, IsPartAt}
use Rattle.gv_gonodes.specs.Places.{IsMadeBy, IsPartOf}
use Rattle.gv_gonodes.specs.Exprs.{IsExpr, IsPastExprs, IsLeft}
use Rattle.gv_gonodes.proofs.Opened.{opened, at_part, same_act}
use Rattle.gv_gonodes.proofs.Tops.{accepted, top_expr, top_exprs, top_token}

no_exprs_end : (nodes : List Node) (at : ℕ)
    → (whole : List Expr) (parts rest : List Part) (behind : List Part) → built (take at nodes) ≡ Some parts → parts ≡ behind
    → PExprs whole ∷ rest ≡ PExprs (made_no_exprs parts) ∷ drop 0 parts → whole ≡ []
no_exprs_end nodes at whole parts rest behind before shape q =
    let made : whole ≡ made_no_exprs parts = cc in
    made ∙ ap (λ (ps : List Part). made_no_exprs ps) shape

pub no_exprs_is : (nodes : List Node) (at : ℕ) → IsMadeBy nodes at act.ACT_NO_EXPRS
    → (whole : List Expr) → IsPartAt nodes at (PExprs whole) → whole ≡ []
no_exprs_is nodes at by whole is =
    let o = opened nodes at (Made by.raw by.from) (PExprs whole) by.node is in
    let a = accepted act.ACT_NO_EXPRS o.parts (PExprs whole ∷ o.rest) (same_act by.raw act.ACT_NO_EXPRS o.parts by.number ∙ o.done) in
    go o.parts o.rest o.before a.0 a.1
  where
    go : (parts rest : List Part) → built (take at nodes) ≡ Some parts → has_tops ([]) parts ≡ true → PExprs whole ∷ rest ≡ PExprs (made_no_exprs parts) ∷ drop 0 parts → whole ≡ []
    go parts rest before h q =
        no_exprs_end nodes at whole parts rest parts before refl q

expr_end : (nodes : List Node) (at : ℕ) (at_exprs : ℕ) (at_last : ℕ) → IsPartOf nodes at 1 at_exprs → IsPartOf nodes at 0 at_last
    → (whole : List Expr) (parts rest : List Part) (last : Expr) (exprs : List Expr) (behind : List Part) → built (take at nodes) ≡ Some parts → parts ≡ PExpr last ∷ PExprs exprs ∷ behind
    → PExprs whole ∷ rest ≡ PExprs (made_expr parts) ∷ drop 2 parts → IsExpr nodes at at_exprs at_last whole
expr_end nodes at at_exprs at_last known_exprs known_last whole parts rest last exprs behind before shape q =
    let made : whole ≡ made_expr parts = cc in
    record {
      of_exprs = exprs;
      of_last = last;
      at_exprs = at_part nodes at 1 at_exprs parts (behind) (PExprs exprs) known_exprs before (ap (λ (ps : List Part). drop 1 ps) shape);
      at_last = at_part nodes at 0 at_last parts (PExprs exprs ∷ behind) (PExpr last) known_last before (ap (λ (ps : List Part). drop 0 ps) shape);
      made = made ∙ ap (λ (ps : List Part). made_expr ps) shape;
    }

pub expr_is : (nodes : List Node) (at : ℕ) (at_exprs : ℕ) (at_last : ℕ) → IsMadeBy nodes at act.ACT_EXPR → IsPartOf nodes at 1 at_exprs → IsPartOf nodes at 0 at_last
    → (whole : List Expr) → IsPartAt nodes at (PExprs whole) → IsExpr nodes at at_exprs at_last whole
expr_is nodes at at_exprs at_last by known_exprs known_last whole is =
    let o = opened nodes at (Made by.raw by.from) (PExprs whole) by.node is in
    let a = accepted act.ACT_EXPR o.parts (PExprs whole ∷ o.rest) (same_act by.raw act.ACT_EXPR o.parts by.number ∙ o.done) in
    go o.parts o.rest o.before a.0 a.1
  where
    go : (parts rest : List Part) → built (take at nodes) ≡ Some parts → has_tops (is_expr ∷ is_exprs ∷ []) parts ≡ true → PExprs whole ∷ rest ≡ PExprs (made_expr parts) ∷ drop 2 parts → IsExpr nodes at at_exprs at_last whole
    go parts rest before h q =
        top_expr (is_exprs ∷ []) parts h (λ x0 r0 e0 h0.
        top_exprs ([]) r0 h0 (λ x1 r1 e1 h1.
        expr_end nodes at at_exprs at_last known_exprs known_last whole parts rest x0 x1 r1 before (e0 ∙ ap (λ (ps : List Part). PExpr x0 ∷ ps) e1) q))

past_exprs_end : (nodes : List Node) (at : ℕ) (at_exprs : ℕ) → IsPartOf nodes at 1 at_exprs
    → (whole : List Expr) (parts rest : List Part) (passed_1 : Lexeme) (exprs : List Expr) (behind : List Part) → built (take at nodes) ≡ Some parts → parts ≡ PToken passed_1 ∷ PExprs exprs ∷ behind
    → PExprs whole ∷ rest ≡ PExprs (made_past_exprs parts) ∷ drop 2 parts → IsPastExprs nodes at at_exprs whole
past_exprs_end nodes at at_exprs known_exprs whole parts rest passed_1 exprs behind before shape q =
    let made : whole ≡ made_past_exprs parts = cc in
    record {
      of_exprs = exprs;
      at_exprs = at_part nodes at 1 at_exprs parts (behind) (PExprs exprs) known_exprs before (ap (λ (ps : List Part). drop 1 ps) shape);
      made = made ∙ ap (λ (ps : List Part). made_past_exprs ps) shape;
    }

pub past_exprs_is : (nodes : List Node) (at : ℕ) (at_exprs : ℕ) → IsMadeBy nodes at act.ACT_PAST_EXPRS → IsPartOf nodes at 1 at_exprs
    → (whole : List Expr) → IsPartAt nodes at (PExprs whole) → IsPastExprs nodes at at_exprs whole
past_exprs_is nodes at at_exprs by known_exprs whole is =
    let o = opened nodes at (Made by.raw by.from) (PExprs whole) by.node is in
    let a = accepted act.ACT_PAST_EXPRS o.parts (PExprs whole ∷ o.rest) (same_act by.raw act.ACT_PAST_EXPRS o.parts by.number ∙ o.done) in
    go o.parts o.rest o.before a.0 a.1
  where
    go : (parts rest : List Part) → built (take at nodes) ≡ Some parts → has_tops (is_token ∷ is_exprs ∷ []) parts ≡ true → PExprs whole ∷ rest ≡ PExprs (made_past_exprs parts) ∷ drop 2 parts → IsPastExprs nodes at at_exprs whole
    go parts rest before h q =
        top_token (is_exprs ∷ []) parts h (λ x0 r0 e0 h0.
        top_exprs ([]) r0 h0 (λ x1 r1 e1 h1.
        past_exprs_end nodes at at_exprs known_exprs whole parts rest x0 x1 r1 before (e0 ∙ ap (λ (ps : List Part). PToken x0 ∷ ps) e1) q))

left_end : (nodes : List Node) (at : ℕ) (at_left : ℕ) → IsPartOf nodes at 0 at_left
    → (whole : List Expr) (parts rest : List Part) (left : Expr) (behind : List Part) → built (take at nodes) ≡ Some parts → parts ≡ PExpr left ∷ behind
    → PExprs whole ∷ rest ≡ PExprs (made_left parts) ∷ drop 1 parts → IsLeft nodes at at_left whole
left_end nodes at at_left known_left whole parts rest left behind before shape q =
    let made : whole ≡ made_left parts = cc in
    record {
      of_left = left;
      at_left = at_part nodes at 0 at_left parts (behind) (PExpr left) known_left before (ap (λ (ps : List Part). drop 0 ps) shape);
      made = made ∙ ap (λ (ps : List Part). made_left ps) shape;
    }

pub left_is : (nodes : List Node) (at : ℕ) (at_left : ℕ) → IsMadeBy nodes at act.ACT_LEFT → IsPartOf nodes at 0 at_left
    → (whole : List Expr) → IsPartAt nodes at (PExprs whole) → IsLeft nodes at at_left whole
left_is nodes at at_left by known_left whole is =
    let o = opened nodes at (Made by.raw by.from) (PExprs whole) by.node is in
    let a = accepted act.ACT_LEFT o.parts (PExprs whole ∷ o.rest) (same_act by.raw act.ACT_LEFT o.parts by.number ∙ o.done) in
    go o.parts o.rest o.before a.0 a.1
  where
    go : (parts rest : List Part) → built (take at nodes) ≡ Some parts → has_tops (is_expr ∷ []) parts ≡ true → PExprs whole ∷ rest ≡ PExprs (made_left parts) ∷ drop 1 parts → IsLeft nodes at at_left whole
    go parts rest before h q =
        top_expr ([]) parts h (λ x0 r0 e0 h0.
        left_end nodes at at_left known_left whole parts rest x0 r0 before e0 q)
