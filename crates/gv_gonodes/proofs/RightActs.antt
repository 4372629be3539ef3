-- Right nodes by the acts that make them. Made by tools/nodes.py from gosyntax.grammar: edit that.
use Rattle.std.proofs.Common.{◌≡◌, ℕ, true, List, [], ◌∷◌, Some, ap, ◌∙◌}
use Rattle.std.specs.Prelude.{drop, take}
use Rattle.gv_grammar.specs.Building.{has_tops}
use Rattle.gv_gosyntax.specs.declared.generated.gosyntax_acts.Part.{Part}
use Rattle.gv_gosyntax.specs.declared.generated.gosyntax_acts.Part.TheVariants.{Call as PCall, Expr as PExpr, Right as PRight}
use Rattle.gv_gosyntax.specs.declared.tree.Call.{Call}
use Rattle.gv_gosyntax.specs.declared.tree.Expr.{Expr}
use Rattle.gv_gosyntax.specs.declared.tree.Right.{Right}
use Rattle.gv_gosyntax.specs.declared.tree.Right.TheVariants as right
use Rattle.gv_gosyntax.specs.declared.node.Node.{Node}
use Rattle.gv_gosyntax.specs.declared.node.Node.TheVariants.{Made}
use Rattle.gv_gosyntax.specs.declared.generated.gosyntax_table.TheConstants as act
use Rattle.gv_gosyntax.specs.GosyntaxActs.{is_call, is_expr, made_result, made_value}
use Rattle.gv_gosyntax.specs.Nodes.{built, IsPartAt}
use Rattle.gv_gonodes.specs.Places.{IsMadeBy, IsPartOf}
use Rattle.gv_gonodes.specs.Right.{IsValue, IsResult}
use Rattle.gv_gonodes.proofs.Opened.{opened, at_part, same_act}
use Rattle.gv_gonodes.proofs.Tops.{accepted, top_call, top_expr}

value_end : (nodes : List Node) (at : ℕ) (at_value : ℕ) → IsPartOf nodes at 0 at_value
    → (whole : Right) (parts rest : List Part) (value : Expr) (behind : List Part) → built (take at nodes) ≡ Some parts → parts ≡ PExpr value ∷ behind
    → PRight whole ∷ rest ≡ PRight (made_value parts) ∷ drop 1 parts → IsValue nodes at at_value whole
value_end nodes at at_value known_value whole parts rest value behind before shape q =
    let made : whole ≡ made_value parts = cc in
    record {
      of_value = value;
      at_value = at_part nodes at 0 at_value parts (behind) (PExpr value) known_value before (ap (λ (ps : List Part). drop 0 ps) shape);
      made = made ∙ ap (λ (ps : List Part). made_value ps) shape;
    }

pub value_is : (nodes : List Node) (at : ℕ) (at_value : ℕ) → IsMadeBy nodes at act.ACT_VALUE → IsPartOf nodes at 0 at_value
    → (whole : Right) → IsPartAt nodes at (PRight whole) → IsValue nodes at at_value whole
value_is nodes at at_value by known_value whole is =
    let o = opened nodes at (Made by.raw by.from) (PRight whole) by.node is in
    let a = accepted act.ACT_VALUE o.parts (PRight whole ∷ o.rest) (same_act by.raw act.ACT_VALUE o.parts by.number ∙ o.done) in
    go o.parts o.rest o.before a.0 a.1
  where
    go : (parts rest : List Part) → built (take at nodes) ≡ Some parts → has_tops (is_expr ∷ []) parts ≡ true → PRight whole ∷ rest ≡ PRight (made_value parts) ∷ drop 1 parts → IsValue nodes at at_value whole
    go parts rest before h q =
        top_expr ([]) parts h (λ x0 r0 e0 h0.
        value_end nodes at at_value known_value whole parts rest x0 r0 before e0 q)

result_end : (nodes : List Node) (at : ℕ) (at_result : ℕ) → IsPartOf nodes at 0 at_result
    → (whole : Right) (parts rest : List Part) (result : Call) (behind : List Part) → built (take at nodes) ≡ Some parts → parts ≡ PCall result ∷ behind
    → PRight whole ∷ rest ≡ PRight (made_result parts) ∷ drop 1 parts → IsResult nodes at at_result whole
result_end nodes at at_result known_result whole parts rest result behind before shape q =
    let made : whole ≡ made_result parts = cc in
    record {
      of_result = result;
      at_result = at_part nodes at 0 at_result parts (behind) (PCall result) known_result before (ap (λ (ps : List Part). drop 0 ps) shape);
      made = made ∙ ap (λ (ps : List Part). made_result ps) shape;
    }

pub result_is : (nodes : List Node) (at : ℕ) (at_result : ℕ) → IsMadeBy nodes at act.ACT_RESULT → IsPartOf nodes at 0 at_result
    → (whole : Right) → IsPartAt nodes at (PRight whole) → IsResult nodes at at_result whole
result_is nodes at at_result by known_result whole is =
    let o = opened nodes at (Made by.raw by.from) (PRight whole) by.node is in
    let a = accepted act.ACT_RESULT o.parts (PRight whole ∷ o.rest) (same_act by.raw act.ACT_RESULT o.parts by.number ∙ o.done) in
    go o.parts o.rest o.before a.0 a.1
  where
    go : (parts rest : List Part) → built (take at nodes) ≡ Some parts → has_tops (is_call ∷ []) parts ≡ true → PRight whole ∷ rest ≡ PRight (made_result parts) ∷ drop 1 parts → IsResult nodes at at_result whole
    go parts rest before h q =
        top_call ([]) parts h (λ x0 r0 e0 h0.
        result_end nodes at at_result known_result whole parts rest x0 r0 before e0 q)
