-- Simple nodes by the acts that make them. Made by tools/nodes.py from gosyntax.grammar: edit that.
use Rattle.std.proofs.Common.{◌≡◌, ℕ, true, List, [], ◌∷◌, Some, sym, ap, ◌∙◌}
use Rattle.std.specs.Prelude.{drop, take}
use Rattle.gv_grammar.specs.Building.{has_tops}
use Rattle.gv_gosyntax.specs.declared.generated.gosyntax_acts.Part.{Part}
use Rattle.gv_gosyntax.specs.declared.generated.gosyntax_acts.Part.TheVariants.{Call as PCall, Expr as PExpr, Exprs as PExprs, Right as PRight, Simple as PSimple, Token as PToken}
use Rattle.gv_gosyntax.specs.declared.tree.Call.{Call}
use Rattle.gv_gosyntax.specs.declared.tree.Expr.{Expr}
use Rattle.gv_gosyntax.specs.declared.lexeme.Lexeme.{Lexeme}
use Rattle.gv_gosyntax.specs.declared.tree.Right.{Right}
use Rattle.gv_gosyntax.specs.declared.tree.Simple.{Simple}
use Rattle.gv_gosyntax.specs.declared.tree.Simple.TheVariants as simple
use Rattle.gv_gosyntax.specs.declared.node.Node.{Node}
use Rattle.gv_gosyntax.specs.declared.node.Node.TheVariants.{Made}
use Rattle.gv_gosyntax.specs.declared.generated.gosyntax_table.TheConstants as act
use Rattle.gv_gosyntax.specs.GosyntaxActs.{is_call, is_expr, is_exprs, is_right, is_token, made_assign, made_count, made_do, made_update}
use Rattle.gv_gosyntax.specs.Nodes.{built, IsPartAt}
use Rattle.gv_gonodes.specs.Places.{IsMadeBy, IsPartOf, IsTokenOf}
use Rattle.gv_gonodes.specs.Simple.{IsAssign, IsCount, IsUpdate, IsDo}
use Rattle.gv_gonodes.proofs.Opened.{opened, at_part, same_act}
use Rattle.gv_gonodes.proofs.Tops.{accepted, top_call, top_expr, top_exprs, top_right, top_token}

assign_end : (nodes : List Node) (at : ℕ) (at_lefts : ℕ) (at_sign : Lexeme) (at_right : ℕ) → IsPartOf nodes at 2 at_lefts → IsTokenOf nodes at 1 at_sign → IsPartOf nodes at 0 at_right
    → (whole : Simple) (parts rest : List Part) (right : Right) (sign : Lexeme) (lefts : List Expr) (behind : List Part) → built (take at nodes) ≡ Some parts → parts ≡ PRight right ∷ PToken sign ∷ PExprs lefts ∷ behind
    → PSimple whole ∷ rest ≡ PSimple (made_assign parts) ∷ drop 3 parts → IsAssign nodes at at_lefts at_sign at_right whole
assign_end nodes at at_lefts at_sign at_right known_lefts known_sign known_right whole parts rest right sign lefts behind before shape q =
    let made : whole ≡ made_assign parts = cc in
    record {
      of_lefts = lefts;
      of_right = right;
      at_lefts = at_part nodes at 2 at_lefts parts (behind) (PExprs lefts) known_lefts before (ap (λ (ps : List Part). drop 2 ps) shape);
      at_right = at_part nodes at 0 at_right parts (PToken sign ∷ PExprs lefts ∷ behind) (PRight right) known_right before (ap (λ (ps : List Part). drop 0 ps) shape);
      made = made ∙ ap (λ (ps : List Part). made_assign ps) shape
          ∙ ap (λ (x : Lexeme). (simple.Assign lefts x right)) (sym (known_sign.same parts (PExprs lefts ∷ behind) sign before (ap (λ (ps : List Part). drop 1 ps) shape)));
    }

pub assign_is : (nodes : List Node) (at : ℕ) (at_lefts : ℕ) (at_sign : Lexeme) (at_right : ℕ) → IsMadeBy nodes at act.ACT_ASSIGN → IsPartOf nodes at 2 at_lefts → IsTokenOf nodes at 1 at_sign → IsPartOf nodes at 0 at_right
    → (whole : Simple) → IsPartAt nodes at (PSimple whole) → IsAssign nodes at at_lefts at_sign at_right whole
assign_is nodes at at_lefts at_sign at_right by known_lefts known_sign known_right whole is =
    let o = opened nodes at (Made by.raw by.from) (PSimple whole) by.node is in
    let a = accepted act.ACT_ASSIGN o.parts (PSimple whole ∷ o.rest) (same_act by.raw act.ACT_ASSIGN o.parts by.number ∙ o.done) in
    go o.parts o.rest o.before a.0 a.1
  where
    go : (parts rest : List Part) → built (take at nodes) ≡ Some parts → has_tops (is_right ∷ is_token ∷ is_exprs ∷ []) parts ≡ true → PSimple whole ∷ rest ≡ PSimple (made_assign parts) ∷ drop 3 parts → IsAssign nodes at at_lefts at_sign at_right whole
    go parts rest before h q =
        top_right (is_token ∷ is_exprs ∷ []) parts h (λ x0 r0 e0 h0.
        top_token (is_exprs ∷ []) r0 h0 (λ x1 r1 e1 h1.
        top_exprs ([]) r1 h1 (λ x2 r2 e2 h2.
        assign_end nodes at at_lefts at_sign at_right known_lefts known_sign known_right whole parts rest x0 x1 x2 r2 before (e0 ∙ ap (λ (ps : List Part). PRight x0 ∷ ps) (e1 ∙ ap (λ (ps : List Part). PToken x1 ∷ ps) e2)) q)))

count_end : (nodes : List Node) (at : ℕ) (at_name : ℕ) (at_sign : Lexeme) → IsPartOf nodes at 1 at_name → IsTokenOf nodes at 0 at_sign
    → (whole : Simple) (parts rest : List Part) (sign : Lexeme) (name : Expr) (behind : List Part) → built (take at nodes) ≡ Some parts → parts ≡ PToken sign ∷ PExpr name ∷ behind
    → PSimple whole ∷ rest ≡ PSimple (made_count parts) ∷ drop 2 parts → IsCount nodes at at_name at_sign whole
count_end nodes at at_name at_sign known_name known_sign whole parts rest sign name behind before shape q =
    let made : whole ≡ made_count parts = cc in
    record {
      of_name = name;
      at_name = at_part nodes at 1 at_name parts (behind) (PExpr name) known_name before (ap (λ (ps : List Part). drop 1 ps) shape);
      made = made ∙ ap (λ (ps : List Part). made_count ps) shape
          ∙ ap (λ (x : Lexeme). (simple.Count name x)) (sym (known_sign.same parts (PExpr name ∷ behind) sign before (ap (λ (ps : List Part). drop 0 ps) shape)));
    }

pub count_is : (nodes : List Node) (at : ℕ) (at_name : ℕ) (at_sign : Lexeme) → IsMadeBy nodes at act.ACT_COUNT → IsPartOf nodes at 1 at_name → IsTokenOf nodes at 0 at_sign
    → (whole : Simple) → IsPartAt nodes at (PSimple whole) → IsCount nodes at at_name at_sign whole
count_is nodes at at_name at_sign by known_name known_sign whole is =
    let o = opened nodes at (Made by.raw by.from) (PSimple whole) by.node is in
    let a = accepted act.ACT_COUNT o.parts (PSimple whole ∷ o.rest) (same_act by.raw act.ACT_COUNT o.parts by.number ∙ o.done) in
    go o.parts o.rest o.before a.0 a.1
  where
    go : (parts rest : List Part) → built (take at nodes) ≡ Some parts → has_tops (is_token ∷ is_expr ∷ []) parts ≡ true → PSimple whole ∷ rest ≡ PSimple (made_count parts) ∷ drop 2 parts → IsCount nodes at at_name at_sign whole
    go parts rest before h q =
        top_token (is_expr ∷ []) parts h (λ x0 r0 e0 h0.
        top_expr ([]) r0 h0 (λ x1 r1 e1 h1.
        count_end nodes at at_name at_sign known_name known_sign whole parts rest x0 x1 r1 before (e0 ∙ ap (λ (ps : List Part). PToken x0 ∷ ps) e1) q))

update_end : (nodes : List Node) (at : ℕ) (at_name : ℕ) (at_sign : Lexeme) (at_value : ℕ) → IsPartOf nodes at 2 at_name → IsTokenOf nodes at 1 at_sign → IsPartOf nodes at 0 at_value
    → (whole : Simple) (parts rest : List Part) (value : Expr) (sign : Lexeme) (name : Expr) (behind : List Part) → built (take at nodes) ≡ Some parts → parts ≡ PExpr value ∷ PToken sign ∷ PExpr name ∷ behind
    → PSimple whole ∷ rest ≡ PSimple (made_update parts) ∷ drop 3 parts → IsUpdate nodes at at_name at_sign at_value whole
update_end nodes at at_name at_sign at_value known_name known_sign known_value whole parts rest value sign name behind before shape q =
    let made : whole ≡ made_update parts = cc in
    record {
      of_name = name;
      of_value = value;
      at_name = at_part nodes at 2 at_name parts (behind) (PExpr name) known_name before (ap (λ (ps : List Part). drop 2 ps) shape);
      at_value = at_part nodes at 0 at_value parts (PToken sign ∷ PExpr name ∷ behind) (PExpr value) known_value before (ap (λ (ps : List Part). drop 0 ps) shape);
      made = made ∙ ap (λ (ps : List Part). made_update ps) shape
          ∙ ap (λ (x : Lexeme). (simple.Update name x value)) (sym (known_sign.same parts (PExpr name ∷ behind) sign before (ap (λ (ps : List Part). drop 1 ps) shape)));
    }

pub update_is : (nodes : List Node) (at : ℕ) (at_name : ℕ) (at_sign : Lexeme) (at_value : ℕ) → IsMadeBy nodes at act.ACT_UPDATE → IsPartOf nodes at 2 at_name → IsTokenOf nodes at 1 at_sign → IsPartOf nodes at 0 at_value
    → (whole : Simple) → IsPartAt nodes at (PSimple whole) → IsUpdate nodes at at_name at_sign at_value whole
update_is nodes at at_name at_sign at_value by known_name known_sign known_value whole is =
    let o = opened nodes at (Made by.raw by.from) (PSimple whole) by.node is in
    let a = accepted act.ACT_UPDATE o.parts (PSimple whole ∷ o.rest) (same_act by.raw act.ACT_UPDATE o.parts by.number ∙ o.done) in
    go o.parts o.rest o.before a.0 a.1
  where
    go : (parts rest : List Part) → built (take at nodes) ≡ Some parts → has_tops (is_expr ∷ is_token ∷ is_expr ∷ []) parts ≡ true → PSimple whole ∷ rest ≡ PSimple (made_update parts) ∷ drop 3 parts → IsUpdate nodes at at_name at_sign at_value whole
    go parts rest before h q =
        top_expr (is_token ∷ is_expr ∷ []) parts h (λ x0 r0 e0 h0.
        top_token (is_expr ∷ []) r0 h0 (λ x1 r1 e1 h1.
        top_expr ([]) r1 h1 (λ x2 r2 e2 h2.
        update_end nodes at at_name at_sign at_value known_name known_sign known_value whole parts rest x0 x1 x2 r2 before (e0 ∙ ap (λ (ps : List Part). PExpr x0 ∷ ps) (e1 ∙ ap (λ (ps : List Part). PToken x1 ∷ ps) e2)) q)))

do_end : (nodes : List Node) (at : ℕ) (at_done : ℕ) → IsPartOf nodes at 0 at_done
    → (whole : Simple) (parts rest : List Part) (done : Call) (behind : List Part) → built (take at nodes) ≡ Some parts → parts ≡ PCall done ∷ behind
    → PSimple whole ∷ rest ≡ PSimple (made_do parts) ∷ drop 1 parts → IsDo nodes at at_done whole
do_end nodes at at_done known_done whole parts rest done behind before shape q =
    let made : whole ≡ made_do parts = cc in
    record {
      of_done = done;
      at_done = at_part nodes at 0 at_done parts (behind) (PCall done) known_done before (ap (λ (ps : List Part). drop 0 ps) shape);
      made = made ∙ ap (λ (ps : List Part). made_do ps) shape;
    }

pub do_is : (nodes : List Node) (at : ℕ) (at_done : ℕ) → IsMadeBy nodes at act.ACT_DO → IsPartOf nodes at 0 at_done
    → (whole : Simple) → IsPartAt nodes at (PSimple whole) → IsDo nodes at at_done whole
do_is nodes at at_done by known_done whole is =
    let o = opened nodes at (Made by.raw by.from) (PSimple whole) by.node is in
    let a = accepted act.ACT_DO o.parts (PSimple whole ∷ o.rest) (same_act by.raw act.ACT_DO o.parts by.number ∙ o.done) in
    go o.parts o.rest o.before a.0 a.1
  where
    go : (parts rest : List Part) → built (take at nodes) ≡ Some parts → has_tops (is_call ∷ []) parts ≡ true → PSimple whole ∷ rest ≡ PSimple (made_do parts) ∷ drop 1 parts → IsDo nodes at at_done whole
    go parts rest before h q =
        top_call ([]) parts h (λ x0 r0 e0 h0.
        do_end nodes at at_done known_done whole parts rest x0 r0 before e0 q)
