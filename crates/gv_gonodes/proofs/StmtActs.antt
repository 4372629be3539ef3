-- Stmt nodes by the acts that make them. Made by tools/nodes.py from gosyntax.grammar: edit that.
use Rattle.std.proofs.Common.{◌≡◌, ℕ, true, List, [], ◌∷◌, Option, Some, None, sym, ap, ◌∙◌}
use Rattle.std.specs.Prelude.{drop, take}
use Rattle.gv_grammar.specs.Building.{has_tops}
use Rattle.gv_gosyntax.specs.declared.generated.gosyntax_acts.Part.{Part}
use Rattle.gv_gosyntax.specs.declared.generated.gosyntax_acts.Part.TheVariants.{Block as PBlock, Bound as PBound, Expr as PExpr, GoType as PGoType, Part as PPart, Right as PRight, Rights as PRights, Simple as PSimple, Stmt as PStmt, Token as PToken}
use Rattle.gv_gosyntax.specs.declared.tree.Block.{Block}
use Rattle.gv_gosyntax.specs.declared.tree.Expr.{Expr}
use Rattle.gv_gosyntax.specs.declared.tree.GoType.{GoType}
use Rattle.gv_gosyntax.specs.declared.lexeme.Lexeme.{Lexeme}
use Rattle.gv_gosyntax.specs.declared.tree.Right.{Right}
use Rattle.gv_gosyntax.specs.declared.tree.Simple.{Simple}
use Rattle.gv_gosyntax.specs.declared.tree.Stmt.{Stmt}
use Rattle.gv_gosyntax.specs.declared.tree.Stmt.TheVariants as stmt
use Rattle.gv_gosyntax.specs.declared.node.Node.{Node}
use Rattle.gv_gosyntax.specs.declared.node.Node.TheVariants.{Made}
use Rattle.gv_gosyntax.specs.declared.generated.gosyntax_table.TheConstants as act
use Rattle.gv_gosyntax.specs.GosyntaxActs.{is_block, is_bound, is_expr, is_go_type, is_part, is_right, is_rights, is_simple, is_stmt, is_token, made_for, made_forever, made_go, made_if, made_if_else, made_jump, made_nested, made_return, made_simple, made_var, made_var_value, made_while}
use Rattle.gv_gosyntax.specs.Nodes.{built, IsPartAt}
use Rattle.gv_gonodes.specs.Places.{IsMadeBy, IsPartOf, IsTokenOf}
use Rattle.gv_gonodes.specs.Stmt.{IsSimple, IsVar, IsVarValue, IsIf, IsIfElse, IsNested, IsForever, IsWhile, IsFor, IsReturn, IsGo}
use Rattle.gv_gonodes.proofs.Opened.{opened, at_part, same_act}
use Rattle.gv_gonodes.proofs.Tops.{accepted, top_block, top_bound, top_expr, top_go_type, top_part, top_right, top_rights, top_simple, top_stmt, top_token}

simple_end : (nodes : List Node) (at : ℕ) (at_simple : ℕ) → IsPartOf nodes at 0 at_simple
    → (whole : Stmt) (parts rest : List Part) (simple : Simple) (behind : List Part) → built (take at nodes) ≡ Some parts → parts ≡ PSimple simple ∷ behind
    → PStmt whole ∷ rest ≡ PStmt (made_simple parts) ∷ drop 1 parts → IsSimple nodes at at_simple whole
simple_end nodes at at_simple known_simple whole parts rest simple behind before shape q =
    let made : whole ≡ made_simple parts = cc in
    record {
      of_simple = simple;
      at_simple = at_part nodes at 0 at_simple parts (behind) (PSimple simple) known_simple before (ap (λ (ps : List Part). drop 0 ps) shape);
      made = made ∙ ap (λ (ps : List Part). made_simple ps) shape;
    }

pub simple_is : (nodes : List Node) (at : ℕ) (at_simple : ℕ) → IsMadeBy nodes at act.ACT_SIMPLE → IsPartOf nodes at 0 at_simple
    → (whole : Stmt) → IsPartAt nodes at (PStmt whole) → IsSimple nodes at at_simple whole
simple_is nodes at at_simple by known_simple whole is =
    let o = opened nodes at (Made by.raw by.from) (PStmt whole) by.node is in
    let a = accepted act.ACT_SIMPLE o.parts (PStmt whole ∷ o.rest) (same_act by.raw act.ACT_SIMPLE o.parts by.number ∙ o.done) in
    go o.parts o.rest o.before a.0 a.1
  where
    go : (parts rest : List Part) → built (take at nodes) ≡ Some parts → has_tops (is_simple ∷ []) parts ≡ true → PStmt whole ∷ rest ≡ PStmt (made_simple parts) ∷ drop 1 parts → IsSimple nodes at at_simple whole
    go parts rest before h q =
        top_simple ([]) parts h (λ x0 r0 e0 h0.
        simple_end nodes at at_simple known_simple whole parts rest x0 r0 before e0 q)

var_end : (nodes : List Node) (at : ℕ) (at_word : Lexeme) (at_name : Lexeme) (at_kind : ℕ) → IsTokenOf nodes at 2 at_word → IsTokenOf nodes at 1 at_name → IsPartOf nodes at 0 at_kind
    → (whole : Stmt) (parts rest : List Part) (kind : GoType) (name : Lexeme) (word : Lexeme) (behind : List Part) → built (take at nodes) ≡ Some parts → parts ≡ PGoType kind ∷ PToken name ∷ PToken word ∷ behind
    → PStmt whole ∷ rest ≡ PStmt (made_var parts) ∷ drop 3 parts → IsVar nodes at at_word at_name at_kind whole
var_end nodes at at_word at_name at_kind known_word known_name known_kind whole parts rest kind name word behind before shape q =
    let made : whole ≡ made_var parts = cc in
    record {
      of_kind = kind;
      at_kind = at_part nodes at 0 at_kind parts (PToken name ∷ PToken word ∷ behind) (PGoType kind) known_kind before (ap (λ (ps : List Part). drop 0 ps) shape);
      made = made ∙ ap (λ (ps : List Part). made_var ps) shape
          ∙ ap (λ (x : Lexeme). (stmt.Var x name kind None)) (sym (known_word.same parts (behind) word before (ap (λ (ps : List Part). drop 2 ps) shape)))
          ∙ ap (λ (x : Lexeme). (stmt.Var at_word x kind None)) (sym (known_name.same parts (PToken word ∷ behind) name before (ap (λ (ps : List Part). drop 1 ps) shape)));
    }

pub var_is : (nodes : List Node) (at : ℕ) (at_word : Lexeme) (at_name : Lexeme) (at_kind : ℕ) → IsMadeBy nodes at act.ACT_VAR → IsTokenOf nodes at 2 at_word → IsTokenOf nodes at 1 at_name → IsPartOf nodes at 0 at_kind
    → (whole : Stmt) → IsPartAt nodes at (PStmt whole) → IsVar nodes at at_word at_name at_kind whole
var_is nodes at at_word at_name at_kind by known_word known_name known_kind whole is =
    let o = opened nodes at (Made by.raw by.from) (PStmt whole) by.node is in
    let a = accepted act.ACT_VAR o.parts (PStmt whole ∷ o.rest) (same_act by.raw act.ACT_VAR o.parts by.number ∙ o.done) in
    go o.parts o.rest o.before a.0 a.1
  where
    go : (parts rest : List Part) → built (take at nodes) ≡ Some parts → has_tops (is_go_type ∷ is_token ∷ is_token ∷ []) parts ≡ true → PStmt whole ∷ rest ≡ PStmt (made_var parts) ∷ drop 3 parts → IsVar nodes at at_word at_name at_kind whole
    go parts rest before h q =
        top_go_type (is_token ∷ is_token ∷ []) parts h (λ x0 r0 e0 h0.
        top_token (is_token ∷ []) r0 h0 (λ x1 r1 e1 h1.
        top_token ([]) r1 h1 (λ x2 r2 e2 h2.
        var_end nodes at at_word at_name at_kind known_word known_name known_kind whole parts rest x0 x1 x2 r2 before (e0 ∙ ap (λ (ps : List Part). PGoType x0 ∷ ps) (e1 ∙ ap (λ (ps : List Part). PToken x1 ∷ ps) e2)) q)))

var_value_end : (nodes : List Node) (at : ℕ) (at_word : Lexeme) (at_name : Lexeme) (at_kind : ℕ) (at_value : ℕ) → IsTokenOf nodes at 4 at_word → IsTokenOf nodes at 3 at_name → IsPartOf nodes at 2 at_kind → IsPartOf nodes at 0 at_value
    → (whole : Stmt) (parts rest : List Part) (value : Right) (passed_3 : Lexeme) (kind : GoType) (name : Lexeme) (word : Lexeme) (behind : List Part) → built (take at nodes) ≡ Some parts → parts ≡ PRight value ∷ PToken passed_3 ∷ PGoType kind ∷ PToken name ∷ PToken word ∷ behind
    → PStmt whole ∷ rest ≡ PStmt (made_var_value parts) ∷ drop 5 parts → IsVarValue nodes at at_word at_name at_kind at_value whole
var_value_end nodes at at_word at_name at_kind at_value known_word known_name known_kind known_value whole parts rest value passed_3 kind name word behind before shape q =
    let made : whole ≡ made_var_value parts = cc in
    record {
      of_kind = kind;
      of_value = value;
      at_kind = at_part nodes at 2 at_kind parts (PToken name ∷ PToken word ∷ behind) (PGoType kind) known_kind before (ap (λ (ps : List Part). drop 2 ps) shape);
      at_value = at_part nodes at 0 at_value parts (PToken passed_3 ∷ PGoType kind ∷ PToken name ∷ PToken word ∷ behind) (PRight value) known_value before (ap (λ (ps : List Part). drop 0 ps) shape);
      made = made ∙ ap (λ (ps : List Part). made_var_value ps) shape
          ∙ ap (λ (x : Lexeme). (stmt.Var x name kind (Some value))) (sym (known_word.same parts (behind) word before (ap (λ (ps : List Part). drop 4 ps) shape)))
          ∙ ap (λ (x : Lexeme). (stmt.Var at_word x kind (Some value))) (sym (known_name.same parts (PToken word ∷ behind) name before (ap (λ (ps : List Part). drop 3 ps) shape)));
    }

pub var_value_is : (nodes : List Node) (at : ℕ) (at_word : Lexeme) (at_name : Lexeme) (at_kind : ℕ) (at_value : ℕ) → IsMadeBy nodes at act.ACT_VAR_VALUE → IsTokenOf nodes at 4 at_word → IsTokenOf nodes at 3 at_name → IsPartOf nodes at 2 at_kind → IsPartOf nodes at 0 at_value
    → (whole : Stmt) → IsPartAt nodes at (PStmt whole) → IsVarValue nodes at at_word at_name at_kind at_value whole
var_value_is nodes at at_word at_name at_kind at_value by known_word known_name known_kind known_value whole is =
    let o = opened nodes at (Made by.raw by.from) (PStmt whole) by.node is in
    let a = accepted act.ACT_VAR_VALUE o.parts (PStmt whole ∷ o.rest) (same_act by.raw act.ACT_VAR_VALUE o.parts by.number ∙ o.done) in
    go o.parts o.rest o.before a.0 a.1
  where
    go : (parts rest : List Part) → built (take at nodes) ≡ Some parts → has_tops (is_right ∷ is_token ∷ is_go_type ∷ is_token ∷ is_token ∷ []) parts ≡ true → PStmt whole ∷ rest ≡ PStmt (made_var_value parts) ∷ drop 5 parts → IsVarValue nodes at at_word at_name at_kind at_value whole
    go parts rest before h q =
        top_right (is_token ∷ is_go_type ∷ is_token ∷ is_token ∷ []) parts h (λ x0 r0 e0 h0.
        top_token (is_go_type ∷ is_token ∷ is_token ∷ []) r0 h0 (λ x1 r1 e1 h1.
        top_go_type (is_token ∷ is_token ∷ []) r1 h1 (λ x2 r2 e2 h2.
        top_token (is_token ∷ []) r2 h2 (λ x3 r3 e3 h3.
        top_token ([]) r3 h3 (λ x4 r4 e4 h4.
        var_value_end nodes at at_word at_name at_kind at_value known_word known_name known_kind known_value whole parts rest x0 x1 x2 x3 x4 r4 before (e0 ∙ ap (λ (ps : List Part). PRight x0 ∷ ps) (e1 ∙ ap (λ (ps : List Part). PToken x1 ∷ ps) (e2 ∙ ap (λ (ps : List Part). PGoType x2 ∷ ps) (e3 ∙ ap (λ (ps : List Part). PToken x3 ∷ ps) e4)))) q)))))

if_end : (nodes : List Node) (at : ℕ) (at_word : Lexeme) (at_condition : ℕ) (at_body : ℕ) → IsTokenOf nodes at 2 at_word → IsPartOf nodes at 1 at_condition → IsPartOf nodes at 0 at_body
    → (whole : Stmt) (parts rest : List Part) (body : Block) (condition : Expr) (word : Lexeme) (behind : List Part) → built (take at nodes) ≡ Some parts → parts ≡ PBlock body ∷ PExpr condition ∷ PToken word ∷ behind
    → PStmt whole ∷ rest ≡ PStmt (made_if parts) ∷ drop 3 parts → IsIf nodes at at_word at_condition at_body whole
if_end nodes at at_word at_condition at_body known_word known_condition known_body whole parts rest body condition word behind before shape q =
    let made : whole ≡ made_if parts = cc in
    record {
      of_condition = condition;
      of_body = body;
      at_condition = at_part nodes at 1 at_condition parts (PToken word ∷ behind) (PExpr condition) known_condition before (ap (λ (ps : List Part). drop 1 ps) shape);
      at_body = at_part nodes at 0 at_body parts (PExpr condition ∷ PToken word ∷ behind) (PBlock body) known_body before (ap (λ (ps : List Part). drop 0 ps) shape);
      made = made ∙ ap (λ (ps : List Part). made_if ps) shape
          ∙ ap (λ (x : Lexeme). (stmt.If x condition body None)) (sym (known_word.same parts (behind) word before (ap (λ (ps : List Part). drop 2 ps) shape)));
    }

pub if_is : (nodes : List Node) (at : ℕ) (at_word : Lexeme) (at_condition : ℕ) (at_body : ℕ) → IsMadeBy nodes at act.ACT_IF → IsTokenOf nodes at 2 at_word → IsPartOf nodes at 1 at_condition → IsPartOf nodes at 0 at_body
    → (whole : Stmt) → IsPartAt nodes at (PStmt whole) → IsIf nodes at at_word at_condition at_body whole
if_is nodes at at_word at_condition at_body by known_word known_condition known_body whole is =
    let o = opened nodes at (Made by.raw by.from) (PStmt whole) by.node is in
    let a = accepted act.ACT_IF o.parts (PStmt whole ∷ o.rest) (same_act by.raw act.ACT_IF o.parts by.number ∙ o.done) in
    go o.parts o.rest o.before a.0 a.1
  where
    go : (parts rest : List Part) → built (take at nodes) ≡ Some parts → has_tops (is_block ∷ is_expr ∷ is_token ∷ []) parts ≡ true → PStmt whole ∷ rest ≡ PStmt (made_if parts) ∷ drop 3 parts → IsIf nodes at at_word at_condition at_body whole
    go parts rest before h q =
        top_block (is_expr ∷ is_token ∷ []) parts h (λ x0 r0 e0 h0.
        top_expr (is_token ∷ []) r0 h0 (λ x1 r1 e1 h1.
        top_token ([]) r1 h1 (λ x2 r2 e2 h2.
        if_end nodes at at_word at_condition at_body known_word known_condition known_body whole parts rest x0 x1 x2 r2 before (e0 ∙ ap (λ (ps : List Part). PBlock x0 ∷ ps) (e1 ∙ ap (λ (ps : List Part). PExpr x1 ∷ ps) e2)) q)))

if_else_end : (nodes : List Node) (at : ℕ) (at_word : Lexeme) (at_condition : ℕ) (at_body : ℕ) (at_other : ℕ) → IsTokenOf nodes at 4 at_word → IsPartOf nodes at 3 at_condition → IsPartOf nodes at 2 at_body → IsPartOf nodes at 0 at_other
    → (whole : Stmt) (parts rest : List Part) (other : Stmt) (passed_3 : Lexeme) (body : Block) (condition : Expr) (word : Lexeme) (behind : List Part) → built (take at nodes) ≡ Some parts → parts ≡ PStmt other ∷ PToken passed_3 ∷ PBlock body ∷ PExpr condition ∷ PToken word ∷ behind
    → PStmt whole ∷ rest ≡ PStmt (made_if_else parts) ∷ drop 5 parts → IsIfElse nodes at at_word at_condition at_body at_other whole
if_else_end nodes at at_word at_condition at_body at_other known_word known_condition known_body known_other whole parts rest other passed_3 body condition word behind before shape q =
    let made : whole ≡ made_if_else parts = cc in
    record {
      of_condition = condition;
      of_body = body;
      of_other = other;
      at_condition = at_part nodes at 3 at_condition parts (PToken word ∷ behind) (PExpr condition) known_condition before (ap (λ (ps : List Part). drop 3 ps) shape);
      at_body = at_part nodes at 2 at_body parts (PExpr condition ∷ PToken word ∷ behind) (PBlock body) known_body before (ap (λ (ps : List Part). drop 2 ps) shape);
      at_other = at_part nodes at 0 at_other parts (PToken passed_3 ∷ PBlock body ∷ PExpr condition ∷ PToken word ∷ behind) (PStmt other) known_other before (ap (λ (ps : List Part). drop 0 ps) shape);
      made = made ∙ ap (λ (ps : List Part). made_if_else ps) shape
          ∙ ap (λ (x : Lexeme). (stmt.If x condition body (Some other))) (sym (known_word.same parts (behind) word before (ap (λ (ps : List Part). drop 4 ps) shape)));
    }

pub if_else_is : (nodes : List Node) (at : ℕ) (at_word : Lexeme) (at_condition : ℕ) (at_body : ℕ) (at_other : ℕ) → IsMadeBy nodes at act.ACT_IF_ELSE → IsTokenOf nodes at 4 at_word → IsPartOf nodes at 3 at_condition → IsPartOf nodes at 2 at_body → IsPartOf nodes at 0 at_other
    → (whole : Stmt) → IsPartAt nodes at (PStmt whole) → IsIfElse nodes at at_word at_condition at_body at_other whole
if_else_is nodes at at_word at_condition at_body at_other by known_word known_condition known_body known_other whole is =
    let o = opened nodes at (Made by.raw by.from) (PStmt whole) by.node is in
    let a = accepted act.ACT_IF_ELSE o.parts (PStmt whole ∷ o.rest) (same_act by.raw act.ACT_IF_ELSE o.parts by.number ∙ o.done) in
    go o.parts o.rest o.before a.0 a.1
  where
    go : (parts rest : List Part) → built (take at nodes) ≡ Some parts → has_tops (is_stmt ∷ is_token ∷ is_block ∷ is_expr ∷ is_token ∷ []) parts ≡ true → PStmt whole ∷ rest ≡ PStmt (made_if_else parts) ∷ drop 5 parts → IsIfElse nodes at at_word at_condition at_body at_other whole
    go parts rest before h q =
        top_stmt (is_token ∷ is_block ∷ is_expr ∷ is_token ∷ []) parts h (λ x0 r0 e0 h0.
        top_token (is_block ∷ is_expr ∷ is_token ∷ []) r0 h0 (λ x1 r1 e1 h1.
        top_block (is_expr ∷ is_token ∷ []) r1 h1 (λ x2 r2 e2 h2.
        top_expr (is_token ∷ []) r2 h2 (λ x3 r3 e3 h3.
        top_token ([]) r3 h3 (λ x4 r4 e4 h4.
        if_else_end nodes at at_word at_condition at_body at_other known_word known_condition known_body known_other whole parts rest x0 x1 x2 x3 x4 r4 before (e0 ∙ ap (λ (ps : List Part). PStmt x0 ∷ ps) (e1 ∙ ap (λ (ps : List Part). PToken x1 ∷ ps) (e2 ∙ ap (λ (ps : List Part). PBlock x2 ∷ ps) (e3 ∙ ap (λ (ps : List Part). PExpr x3 ∷ ps) e4)))) q)))))

nested_end : (nodes : List Node) (at : ℕ) (at_block : ℕ) → IsPartOf nodes at 0 at_block
    → (whole : Stmt) (parts rest : List Part) (block : Block) (behind : List Part) → built (take at nodes) ≡ Some parts → parts ≡ PBlock block ∷ behind
    → PStmt whole ∷ rest ≡ PStmt (made_nested parts) ∷ drop 1 parts → IsNested nodes at at_block whole
nested_end nodes at at_block known_block whole parts rest block behind before shape q =
    let made : whole ≡ made_nested parts = cc in
    record {
      of_block = block;
      at_block = at_part nodes at 0 at_block parts (behind) (PBlock block) known_block before (ap (λ (ps : List Part). drop 0 ps) shape);
      made = made ∙ ap (λ (ps : List Part). made_nested ps) shape;
    }

pub nested_is : (nodes : List Node) (at : ℕ) (at_block : ℕ) → IsMadeBy nodes at act.ACT_NESTED → IsPartOf nodes at 0 at_block
    → (whole : Stmt) → IsPartAt nodes at (PStmt whole) → IsNested nodes at at_block whole
nested_is nodes at at_block by known_block whole is =
    let o = opened nodes at (Made by.raw by.from) (PStmt whole) by.node is in
    let a = accepted act.ACT_NESTED o.parts (PStmt whole ∷ o.rest) (same_act by.raw act.ACT_NESTED o.parts by.number ∙ o.done) in
    go o.parts o.rest o.before a.0 a.1
  where
    go : (parts rest : List Part) → built (take at nodes) ≡ Some parts → has_tops (is_block ∷ []) parts ≡ true → PStmt whole ∷ rest ≡ PStmt (made_nested parts) ∷ drop 1 parts → IsNested nodes at at_block whole
    go parts rest before h q =
        top_block ([]) parts h (λ x0 r0 e0 h0.
        nested_end nodes at at_block known_block whole parts rest x0 r0 before e0 q)

jump_end : (nodes : List Node) (at : ℕ) (at_word : Lexeme) → IsTokenOf nodes at 0 at_word
    → (whole : Stmt) (parts rest : List Part) (word : Lexeme) (behind : List Part) → built (take at nodes) ≡ Some parts → parts ≡ PToken word ∷ behind
    → PStmt whole ∷ rest ≡ PStmt (made_jump parts) ∷ drop 1 parts → whole ≡ (stmt.Jump at_word)
jump_end nodes at at_word known_word whole parts rest word behind before shape q =
    let made : whole ≡ made_jump parts = cc in
    made ∙ ap (λ (ps : List Part). made_jump ps) shape
    ∙ ap (λ (x : Lexeme). (stmt.Jump x)) (sym (known_word.same parts (behind) word before (ap (λ (ps : List Part). drop 0 ps) shape)))

pub jump_is : (nodes : List Node) (at : ℕ) (at_word : Lexeme) → IsMadeBy nodes at act.ACT_JUMP → IsTokenOf nodes at 0 at_word
    → (whole : Stmt) → IsPartAt nodes at (PStmt whole) → whole ≡ (stmt.Jump at_word)
jump_is nodes at at_word by known_word whole is =
    let o = opened nodes at (Made by.raw by.from) (PStmt whole) by.node is in
    let a = accepted act.ACT_JUMP o.parts (PStmt whole ∷ o.rest) (same_act by.raw act.ACT_JUMP o.parts by.number ∙ o.done) in
    go o.parts o.rest o.before a.0 a.1
  where
    go : (parts rest : List Part) → built (take at nodes) ≡ Some parts → has_tops (is_token ∷ []) parts ≡ true → PStmt whole ∷ rest ≡ PStmt (made_jump parts) ∷ drop 1 parts → whole ≡ (stmt.Jump at_word)
    go parts rest before h q =
        top_token ([]) parts h (λ x0 r0 e0 h0.
        jump_end nodes at at_word known_word whole parts rest x0 r0 before e0 q)

forever_end : (nodes : List Node) (at : ℕ) (at_word : Lexeme) (at_body : ℕ) → IsTokenOf nodes at 1 at_word → IsPartOf nodes at 0 at_body
    → (whole : Stmt) (parts rest : List Part) (body : Block) (word : Lexeme) (behind : List Part) → built (take at nodes) ≡ Some parts → parts ≡ PBlock body ∷ PToken word ∷ behind
    → PStmt whole ∷ rest ≡ PStmt (made_forever parts) ∷ drop 2 parts → IsForever nodes at at_word at_body whole
forever_end nodes at at_word at_body known_word known_body whole parts rest body word behind before shape q =
    let made : whole ≡ made_forever parts = cc in
    record {
      of_body = body;
      at_body = at_part nodes at 0 at_body parts (PToken word ∷ behind) (PBlock body) known_body before (ap (λ (ps : List Part). drop 0 ps) shape);
      made = made ∙ ap (λ (ps : List Part). made_forever ps) shape
          ∙ ap (λ (x : Lexeme). let y : Stmt = (stmt.For x (record { first = None; condition = None; post = None }) body) in y) (sym (known_word.same parts (behind) word before (ap (λ (ps : List Part). drop 1 ps) shape)));
    }

pub forever_is : (nodes : List Node) (at : ℕ) (at_word : Lexeme) (at_body : ℕ) → IsMadeBy nodes at act.ACT_FOREVER → IsTokenOf nodes at 1 at_word → IsPartOf nodes at 0 at_body
    → (whole : Stmt) → IsPartAt nodes at (PStmt whole) → IsForever nodes at at_word at_body whole
forever_is nodes at at_word at_body by known_word known_body whole is =
    let o = opened nodes at (Made by.raw by.from) (PStmt whole) by.node is in
    let a = accepted act.ACT_FOREVER o.parts (PStmt whole ∷ o.rest) (same_act by.raw act.ACT_FOREVER o.parts by.number ∙ o.done) in
    go o.parts o.rest o.before a.0 a.1
  where
    go : (parts rest : List Part) → built (take at nodes) ≡ Some parts → has_tops (is_block ∷ is_token ∷ []) parts ≡ true → PStmt whole ∷ rest ≡ PStmt (made_forever parts) ∷ drop 2 parts → IsForever nodes at at_word at_body whole
    go parts rest before h q =
        top_block (is_token ∷ []) parts h (λ x0 r0 e0 h0.
        top_token ([]) r0 h0 (λ x1 r1 e1 h1.
        forever_end nodes at at_word at_body known_word known_body whole parts rest x0 x1 r1 before (e0 ∙ ap (λ (ps : List Part). PBlock x0 ∷ ps) e1) q))

while_end : (nodes : List Node) (at : ℕ) (at_word : Lexeme) (at_condition : ℕ) (at_body : ℕ) → IsTokenOf nodes at 2 at_word → IsPartOf nodes at 1 at_condition → IsPartOf nodes at 0 at_body
    → (whole : Stmt) (parts rest : List Part) (body : Block) (condition : Expr) (word : Lexeme) (behind : List Part) → built (take at nodes) ≡ Some parts → parts ≡ PBlock body ∷ PExpr condition ∷ PToken word ∷ behind
    → PStmt whole ∷ rest ≡ PStmt (made_while parts) ∷ drop 3 parts → IsWhile nodes at at_word at_condition at_body whole
while_end nodes at at_word at_condition at_body known_word known_condition known_body whole parts rest body condition word behind before shape q =
    let made : whole ≡ made_while parts = cc in
    record {
      of_condition = condition;
      of_body = body;
      at_condition = at_part nodes at 1 at_condition parts (PToken word ∷ behind) (PExpr condition) known_condition before (ap (λ (ps : List Part). drop 1 ps) shape);
      at_body = at_part nodes at 0 at_body parts (PExpr condition ∷ PToken word ∷ behind) (PBlock body) known_body before (ap (λ (ps : List Part). drop 0 ps) shape);
      made = made ∙ ap (λ (ps : List Part). made_while ps) shape
          ∙ ap (λ (x : Lexeme). let y : Stmt = (stmt.For x (record { first = None; condition = Some condition; post = None }) body) in y) (sym (known_word.same parts (behind) word before (ap (λ (ps : List Part). drop 2 ps) shape)));
    }

pub while_is : (nodes : List Node) (at : ℕ) (at_word : Lexeme) (at_condition : ℕ) (at_body : ℕ) → IsMadeBy nodes at act.ACT_WHILE → IsTokenOf nodes at 2 at_word → IsPartOf nodes at 1 at_condition → IsPartOf nodes at 0 at_body
    → (whole : Stmt) → IsPartAt nodes at (PStmt whole) → IsWhile nodes at at_word at_condition at_body whole
while_is nodes at at_word at_condition at_body by known_word known_condition known_body whole is =
    let o = opened nodes at (Made by.raw by.from) (PStmt whole) by.node is in
    let a = accepted act.ACT_WHILE o.parts (PStmt whole ∷ o.rest) (same_act by.raw act.ACT_WHILE o.parts by.number ∙ o.done) in
    go o.parts o.rest o.before a.0 a.1
  where
    go : (parts rest : List Part) → built (take at nodes) ≡ Some parts → has_tops (is_block ∷ is_expr ∷ is_token ∷ []) parts ≡ true → PStmt whole ∷ rest ≡ PStmt (made_while parts) ∷ drop 3 parts → IsWhile nodes at at_word at_condition at_body whole
    go parts rest before h q =
        top_block (is_expr ∷ is_token ∷ []) parts h (λ x0 r0 e0 h0.
        top_expr (is_token ∷ []) r0 h0 (λ x1 r1 e1 h1.
        top_token ([]) r1 h1 (λ x2 r2 e2 h2.
        while_end nodes at at_word at_condition at_body known_word known_condition known_body whole parts rest x0 x1 x2 r2 before (e0 ∙ ap (λ (ps : List Part). PBlock x0 ∷ ps) (e1 ∙ ap (λ (ps : List Part). PExpr x1 ∷ ps) e2)) q)))

for_end : (nodes : List Node) (at : ℕ) (at_word : Lexeme) (at_first : ℕ) (at_condition : ℕ) (at_post : ℕ) (at_body : ℕ) → IsTokenOf nodes at 6 at_word → IsPartOf nodes at 5 at_first → IsPartOf nodes at 3 at_condition → IsPartOf nodes at 1 at_post → IsPartOf nodes at 0 at_body
    → (whole : Stmt) (parts rest : List Part) (body : Block) (post : Option Simple) (passed_4 : Lexeme) (condition : Option Expr) (passed_2 : Lexeme) (first : Option Simple) (word : Lexeme) (behind : List Part) → built (take at nodes) ≡ Some parts → parts ≡ PBlock body ∷ PPart post ∷ PToken passed_4 ∷ PBound condition ∷ PToken passed_2 ∷ PPart first ∷ PToken word ∷ behind
    → PStmt whole ∷ rest ≡ PStmt (made_for parts) ∷ drop 7 parts → IsFor nodes at at_word at_first at_condition at_post at_body whole
for_end nodes at at_word at_first at_condition at_post at_body known_word known_first known_condition known_post known_body whole parts rest body post passed_4 condition passed_2 first word behind before shape q =
    let made : whole ≡ made_for parts = cc in
    record {
      of_first = first;
      of_condition = condition;
      of_post = post;
      of_body = body;
      at_first = at_part nodes at 5 at_first parts (PToken word ∷ behind) (PPart first) known_first before (ap (λ (ps : List Part). drop 5 ps) shape);
      at_condition = at_part nodes at 3 at_condition parts (PToken passed_2 ∷ PPart first ∷ PToken word ∷ behind) (PBound condition) known_condition before (ap (λ (ps : List Part). drop 3 ps) shape);
      at_post = at_part nodes at 1 at_post parts (PToken passed_4 ∷ PBound condition ∷ PToken passed_2 ∷ PPart first ∷ PToken word ∷ behind) (PPart post) known_post before (ap (λ (ps : List Part). drop 1 ps) shape);
      at_body = at_part nodes at 0 at_body parts (PPart post ∷ PToken passed_4 ∷ PBound condition ∷ PToken passed_2 ∷ PPart first ∷ PToken word ∷ behind) (PBlock body) known_body before (ap (λ (ps : List Part). drop 0 ps) shape);
      made = made ∙ ap (λ (ps : List Part). made_for ps) shape
          ∙ ap (λ (x : Lexeme). let y : Stmt = (stmt.For x (record { first = first; condition = condition; post = post }) body) in y) (sym (known_word.same parts (behind) word before (ap (λ (ps : List Part). drop 6 ps) shape)));
    }

pub for_is : (nodes : List Node) (at : ℕ) (at_word : Lexeme) (at_first : ℕ) (at_condition : ℕ) (at_post : ℕ) (at_body : ℕ) → IsMadeBy nodes at act.ACT_FOR → IsTokenOf nodes at 6 at_word → IsPartOf nodes at 5 at_first → IsPartOf nodes at 3 at_condition → IsPartOf nodes at 1 at_post → IsPartOf nodes at 0 at_body
    → (whole : Stmt) → IsPartAt nodes at (PStmt whole) → IsFor nodes at at_word at_first at_condition at_post at_body whole
for_is nodes at at_word at_first at_condition at_post at_body by known_word known_first known_condition known_post known_body whole is =
    let o = opened nodes at (Made by.raw by.from) (PStmt whole) by.node is in
    let a = accepted act.ACT_FOR o.parts (PStmt whole ∷ o.rest) (same_act by.raw act.ACT_FOR o.parts by.number ∙ o.done) in
    go o.parts o.rest o.before a.0 a.1
  where
    go : (parts rest : List Part) → built (take at nodes) ≡ Some parts → has_tops (is_block ∷ is_part ∷ is_token ∷ is_bound ∷ is_token ∷ is_part ∷ is_token ∷ []) parts ≡ true → PStmt whole ∷ rest ≡ PStmt (made_for parts) ∷ drop 7 parts → IsFor nodes at at_word at_first at_condition at_post at_body whole
    go parts rest before h q =
        top_block (is_part ∷ is_token ∷ is_bound ∷ is_token ∷ is_part ∷ is_token ∷ []) parts h (λ x0 r0 e0 h0.
        top_part (is_token ∷ is_bound ∷ is_token ∷ is_part ∷ is_token ∷ []) r0 h0 (λ x1 r1 e1 h1.
        top_token (is_bound ∷ is_token ∷ is_part ∷ is_token ∷ []) r1 h1 (λ x2 r2 e2 h2.
        top_bound (is_token ∷ is_part ∷ is_token ∷ []) r2 h2 (λ x3 r3 e3 h3.
        top_token (is_part ∷ is_token ∷ []) r3 h3 (λ x4 r4 e4 h4.
        top_part (is_token ∷ []) r4 h4 (λ x5 r5 e5 h5.
        top_token ([]) r5 h5 (λ x6 r6 e6 h6.
        for_end nodes at at_word at_first at_condition at_post at_body known_word known_first known_condition known_post known_body whole parts rest x0 x1 x2 x3 x4 x5 x6 r6 before (e0 ∙ ap (λ (ps : List Part). PBlock x0 ∷ ps) (e1 ∙ ap (λ (ps : List Part). PPart x1 ∷ ps) (e2 ∙ ap (λ (ps : List Part). PToken x2 ∷ ps) (e3 ∙ ap (λ (ps : List Part). PBound x3 ∷ ps) (e4 ∙ ap (λ (ps : List Part). PToken x4 ∷ ps) (e5 ∙ ap (λ (ps : List Part). PPart x5 ∷ ps) e6)))))) q)))))))

return_end : (nodes : List Node) (at : ℕ) (at_word : Lexeme) (at_rights : ℕ) → IsTokenOf nodes at 1 at_word → IsPartOf nodes at 0 at_rights
    → (whole : Stmt) (parts rest : List Part) (rights : List Right) (word : Lexeme) (behind : List Part) → built (take at nodes) ≡ Some parts → parts ≡ PRights rights ∷ PToken word ∷ behind
    → PStmt whole ∷ rest ≡ PStmt (made_return parts) ∷ drop 2 parts → IsReturn nodes at at_word at_rights whole
return_end nodes at at_word at_rights known_word known_rights whole parts rest rights word behind before shape q =
    let made : whole ≡ made_return parts = cc in
    record {
      of_rights = rights;
      at_rights = at_part nodes at 0 at_rights parts (PToken word ∷ behind) (PRights rights) known_rights before (ap (λ (ps : List Part). drop 0 ps) shape);
      made = made ∙ ap (λ (ps : List Part). made_return ps) shape
          ∙ ap (λ (x : Lexeme). (stmt.Return x rights)) (sym (known_word.same parts (behind) word before (ap (λ (ps : List Part). drop 1 ps) shape)));
    }

pub return_is : (nodes : List Node) (at : ℕ) (at_word : Lexeme) (at_rights : ℕ) → IsMadeBy nodes at act.ACT_RETURN → IsTokenOf nodes at 1 at_word → IsPartOf nodes at 0 at_rights
    → (whole : Stmt) → IsPartAt nodes at (PStmt whole) → IsReturn nodes at at_word at_rights whole
return_is nodes at at_word at_rights by known_word known_rights whole is =
    let o = opened nodes at (Made by.raw by.from) (PStmt whole) by.node is in
    let a = accepted act.ACT_RETURN o.parts (PStmt whole ∷ o.rest) (same_act by.raw act.ACT_RETURN o.parts by.number ∙ o.done) in
    go o.parts o.rest o.before a.0 a.1
  where
    go : (parts rest : List Part) → built (take at nodes) ≡ Some parts → has_tops (is_rights ∷ is_token ∷ []) parts ≡ true → PStmt whole ∷ rest ≡ PStmt (made_return parts) ∷ drop 2 parts → IsReturn nodes at at_word at_rights whole
    go parts rest before h q =
        top_rights (is_token ∷ []) parts h (λ x0 r0 e0 h0.
        top_token ([]) r0 h0 (λ x1 r1 e1 h1.
        return_end nodes at at_word at_rights known_word known_rights whole parts rest x0 x1 r1 before (e0 ∙ ap (λ (ps : List Part). PRights x0 ∷ ps) e1) q))

go_end : (nodes : List Node) (at : ℕ) (at_word : Lexeme) (at_body : ℕ) → IsTokenOf nodes at 6 at_word → IsPartOf nodes at 2 at_body
    → (whole : Stmt) (parts rest : List Part) (passed_6 : Lexeme) (passed_5 : Lexeme) (body : Block) (passed_3 : Lexeme) (passed_2 : Lexeme) (passed_1 : Lexeme) (word : Lexeme) (behind : List Part) → built (take at nodes) ≡ Some parts → parts ≡ PToken passed_6 ∷ PToken passed_5 ∷ PBlock body ∷ PToken passed_3 ∷ PToken passed_2 ∷ PToken passed_1 ∷ PToken word ∷ behind
    → PStmt whole ∷ rest ≡ PStmt (made_go parts) ∷ drop 7 parts → IsGo nodes at at_word at_body whole
go_end nodes at at_word at_body known_word known_body whole parts rest passed_6 passed_5 body passed_3 passed_2 passed_1 word behind before shape q =
    let made : whole ≡ made_go parts = cc in
    record {
      of_body = body;
      at_body = at_part nodes at 2 at_body parts (PToken passed_3 ∷ PToken passed_2 ∷ PToken passed_1 ∷ PToken word ∷ behind) (PBlock body) known_body before (ap (λ (ps : List Part). drop 2 ps) shape);
      made = made ∙ ap (λ (ps : List Part). made_go ps) shape
          ∙ ap (λ (x : Lexeme). (stmt.Go x body)) (sym (known_word.same parts (behind) word before (ap (λ (ps : List Part). drop 6 ps) shape)));
    }

pub go_is : (nodes : List Node) (at : ℕ) (at_word : Lexeme) (at_body : ℕ) → IsMadeBy nodes at act.ACT_GO → IsTokenOf nodes at 6 at_word → IsPartOf nodes at 2 at_body
    → (whole : Stmt) → IsPartAt nodes at (PStmt whole) → IsGo nodes at at_word at_body whole
go_is nodes at at_word at_body by known_word known_body whole is =
    let o = opened nodes at (Made by.raw by.from) (PStmt whole) by.node is in
    let a = accepted act.ACT_GO o.parts (PStmt whole ∷ o.rest) (same_act by.raw act.ACT_GO o.parts by.number ∙ o.done) in
    go o.parts o.rest o.before a.0 a.1
  where
    go : (parts rest : List Part) → built (take at nodes) ≡ Some parts → has_tops (is_token ∷ is_token ∷ is_block ∷ is_token ∷ is_token ∷ is_token ∷ is_token ∷ []) parts ≡ true → PStmt whole ∷ rest ≡ PStmt (made_go parts) ∷ drop 7 parts → IsGo nodes at at_word at_body whole
    go parts rest before h q =
        top_token (is_token ∷ is_block ∷ is_token ∷ is_token ∷ is_token ∷ is_token ∷ []) parts h (λ x0 r0 e0 h0.
        top_token (is_block ∷ is_token ∷ is_token ∷ is_token ∷ is_token ∷ []) r0 h0 (λ x1 r1 e1 h1.
        top_block (is_token ∷ is_token ∷ is_token ∷ is_token ∷ []) r1 h1 (λ x2 r2 e2 h2.
        top_token (is_token ∷ is_token ∷ is_token ∷ []) r2 h2 (λ x3 r3 e3 h3.
        top_token (is_token ∷ is_token ∷ []) r3 h3 (λ x4 r4 e4 h4.
        top_token (is_token ∷ []) r4 h4 (λ x5 r5 e5 h5.
        top_token ([]) r5 h5 (λ x6 r6 e6 h6.
        go_end nodes at at_word at_body known_word known_body whole parts rest x0 x1 x2 x3 x4 x5 x6 r6 before (e0 ∙ ap (λ (ps : List Part). PToken x0 ∷ ps) (e1 ∙ ap (λ (ps : List Part). PToken x1 ∷ ps) (e2 ∙ ap (λ (ps : List Part). PBlock x2 ∷ ps) (e3 ∙ ap (λ (ps : List Part). PToken x3 ∷ ps) (e4 ∙ ap (λ (ps : List Part). PToken x4 ∷ ps) (e5 ∙ ap (λ (ps : List Part). PToken x5 ∷ ps) e6)))))) q)))))))
