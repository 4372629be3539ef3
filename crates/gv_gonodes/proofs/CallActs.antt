-- Call nodes by the acts that make them. Made by tools/nodes.py from gosyntax.grammar: edit that.
use Rattle.std.proofs.Common.{◌≡◌, ℕ, true, List, [], ◌∷◌, Some, None, sym, ap, ◌∙◌}
use Rattle.std.specs.Prelude.{drop, take}
use Rattle.gv_grammar.specs.Building.{has_tops}
use Rattle.gv_gosyntax.specs.declared.generated.gosyntax_acts.Part.{Part}
use Rattle.gv_gosyntax.specs.declared.generated.gosyntax_acts.Part.TheVariants.{Call as PCall, Expr as PExpr, Exprs as PExprs, GoType as PGoType, Keyed as PKeyed, Token as PToken}
use Rattle.gv_gosyntax.specs.declared.tree.Call.{Call}
use Rattle.gv_gosyntax.specs.declared.tree.Expr.{Expr}
use Rattle.gv_gosyntax.specs.declared.tree.GoType.{GoType}
use Rattle.gv_gosyntax.specs.declared.tree.KeyedExpr.{KeyedExpr}
use Rattle.gv_gosyntax.specs.declared.lexeme.Lexeme.{Lexeme}
use Rattle.gv_gosyntax.specs.declared.tree.Call.TheVariants as call
use Rattle.gv_gosyntax.specs.declared.node.Node.{Node}
use Rattle.gv_gosyntax.specs.declared.node.Node.TheVariants.{Made}
use Rattle.gv_gosyntax.specs.declared.generated.gosyntax_table.TheConstants as act
use Rattle.gv_gosyntax.specs.GosyntaxActs.{is_expr, is_exprs, is_go_type, is_keyed, is_token, made_call, made_literal, made_make, made_make_length, made_new, made_pair}
use Rattle.gv_gosyntax.specs.Nodes.{built, IsPartAt}
use Rattle.gv_gonodes.specs.Places.{IsMadeBy, IsPartOf, IsTokenOf}
use Rattle.gv_gonodes.specs.Call.{IsCall, IsPair, IsMake, IsMakeLength, IsLiteral}
use Rattle.gv_gonodes.proofs.Opened.{opened, at_part, same_act}
use Rattle.gv_gonodes.proofs.Tops.{accepted, top_expr, top_exprs, top_go_type, top_keyed, top_token}

call_end : (nodes : List Node) (at : ℕ) (at_function : ℕ) (at_arguments : ℕ) → IsPartOf nodes at 3 at_function → IsPartOf nodes at 1 at_arguments
    → (whole : Call) (parts rest : List Part) (passed_3 : Lexeme) (arguments : List Expr) (passed_1 : Lexeme) (function : Expr) (behind : List Part) → built (take at nodes) ≡ Some parts → parts ≡ PToken passed_3 ∷ PExprs arguments ∷ PToken passed_1 ∷ PExpr function ∷ behind
    → PCall whole ∷ rest ≡ PCall (made_call parts) ∷ drop 4 parts → IsCall nodes at at_function at_arguments whole
call_end nodes at at_function at_arguments known_function known_arguments whole parts rest passed_3 arguments passed_1 function behind before shape q =
    let made : whole ≡ made_call parts = cc in
    record {
      of_function = function;
      of_arguments = arguments;
      at_function = at_part nodes at 3 at_function parts (behind) (PExpr function) known_function before (ap (λ (ps : List Part). drop 3 ps) shape);
      at_arguments = at_part nodes at 1 at_arguments parts (PToken passed_1 ∷ PExpr function ∷ behind) (PExprs arguments) known_arguments before (ap (λ (ps : List Part). drop 1 ps) shape);
      made = made ∙ ap (λ (ps : List Part). made_call ps) shape;
    }

pub call_is : (nodes : List Node) (at : ℕ) (at_function : ℕ) (at_arguments : ℕ) → IsMadeBy nodes at act.ACT_CALL → IsPartOf nodes at 3 at_function → IsPartOf nodes at 1 at_arguments
    → (whole : Call) → IsPartAt nodes at (PCall whole) → IsCall nodes at at_function at_arguments whole
call_is nodes at at_function at_arguments by known_function known_arguments whole is =
    let o = opened nodes at (Made by.raw by.from) (PCall whole) by.node is in
    let a = accepted act.ACT_CALL o.parts (PCall whole ∷ o.rest) (same_act by.raw act.ACT_CALL o.parts by.number ∙ o.done) in
    go o.parts o.rest o.before a.0 a.1
  where
    go : (parts rest : List Part) → built (take at nodes) ≡ Some parts → has_tops (is_token ∷ is_exprs ∷ is_token ∷ is_expr ∷ []) parts ≡ true → PCall whole ∷ rest ≡ PCall (made_call parts) ∷ drop 4 parts → IsCall nodes at at_function at_arguments whole
    go parts rest before h q =
        top_token (is_exprs ∷ is_token ∷ is_expr ∷ []) parts h (λ x0 r0 e0 h0.
        top_exprs (is_token ∷ is_expr ∷ []) r0 h0 (λ x1 r1 e1 h1.
        top_token (is_expr ∷ []) r1 h1 (λ x2 r2 e2 h2.
        top_expr ([]) r2 h2 (λ x3 r3 e3 h3.
        call_end nodes at at_function at_arguments known_function known_arguments whole parts rest x0 x1 x2 x3 r3 before (e0 ∙ ap (λ (ps : List Part). PToken x0 ∷ ps) (e1 ∙ ap (λ (ps : List Part). PExprs x1 ∷ ps) (e2 ∙ ap (λ (ps : List Part). PToken x2 ∷ ps) e3))) q))))

pair_end : (nodes : List Node) (at : ℕ) (at_word : Lexeme) (at_first : ℕ) (at_second : ℕ) → IsTokenOf nodes at 5 at_word → IsPartOf nodes at 3 at_first → IsPartOf nodes at 1 at_second
    → (whole : Call) (parts rest : List Part) (passed_5 : Lexeme) (second : Expr) (passed_3 : Lexeme) (first : Expr) (passed_1 : Lexeme) (word : Lexeme) (behind : List Part) → built (take at nodes) ≡ Some parts → parts ≡ PToken passed_5 ∷ PExpr second ∷ PToken passed_3 ∷ PExpr first ∷ PToken passed_1 ∷ PToken word ∷ behind
    → PCall whole ∷ rest ≡ PCall (made_pair parts) ∷ drop 6 parts → IsPair nodes at at_word at_first at_second whole
pair_end nodes at at_word at_first at_second known_word known_first known_second whole parts rest passed_5 second passed_3 first passed_1 word behind before shape q =
    let made : whole ≡ made_pair parts = cc in
    record {
      of_first = first;
      of_second = second;
      at_first = at_part nodes at 3 at_first parts (PToken passed_1 ∷ PToken word ∷ behind) (PExpr first) known_first before (ap (λ (ps : List Part). drop 3 ps) shape);
      at_second = at_part nodes at 1 at_second parts (PToken passed_3 ∷ PExpr first ∷ PToken passed_1 ∷ PToken word ∷ behind) (PExpr second) known_second before (ap (λ (ps : List Part). drop 1 ps) shape);
      made = made ∙ ap (λ (ps : List Part). made_pair ps) shape
          ∙ ap (λ (x : Lexeme). (call.Pair x first second)) (sym (known_word.same parts (behind) word before (ap (λ (ps : List Part). drop 5 ps) shape)));
    }

pub pair_is : (nodes : List Node) (at : ℕ) (at_word : Lexeme) (at_first : ℕ) (at_second : ℕ) → IsMadeBy nodes at act.ACT_PAIR → IsTokenOf nodes at 5 at_word → IsPartOf nodes at 3 at_first → IsPartOf nodes at 1 at_second
    → (whole : Call) → IsPartAt nodes at (PCall whole) → IsPair nodes at at_word at_first at_second whole
pair_is nodes at at_word at_first at_second by known_word known_first known_second whole is =
    let o = opened nodes at (Made by.raw by.from) (PCall whole) by.node is in
    let a = accepted act.ACT_PAIR o.parts (PCall whole ∷ o.rest) (same_act by.raw act.ACT_PAIR o.parts by.number ∙ o.done) in
    go o.parts o.rest o.before a.0 a.1
  where
    go : (parts rest : List Part) → built (take at nodes) ≡ Some parts → has_tops (is_token ∷ is_expr ∷ is_token ∷ is_expr ∷ is_token ∷ is_token ∷ []) parts ≡ true → PCall whole ∷ rest ≡ PCall (made_pair parts) ∷ drop 6 parts → IsPair nodes at at_word at_first at_second whole
    go parts rest before h q =
        top_token (is_expr ∷ is_token ∷ is_expr ∷ is_token ∷ is_token ∷ []) parts h (λ x0 r0 e0 h0.
        top_expr (is_token ∷ is_expr ∷ is_token ∷ is_token ∷ []) r0 h0 (λ x1 r1 e1 h1.
        top_token (is_expr ∷ is_token ∷ is_token ∷ []) r1 h1 (λ x2 r2 e2 h2.
        top_expr (is_token ∷ is_token ∷ []) r2 h2 (λ x3 r3 e3 h3.
        top_token (is_token ∷ []) r3 h3 (λ x4 r4 e4 h4.
        top_token ([]) r4 h4 (λ x5 r5 e5 h5.
        pair_end nodes at at_word at_first at_second known_word known_first known_second whole parts rest x0 x1 x2 x3 x4 x5 r5 before (e0 ∙ ap (λ (ps : List Part). PToken x0 ∷ ps) (e1 ∙ ap (λ (ps : List Part). PExpr x1 ∷ ps) (e2 ∙ ap (λ (ps : List Part). PToken x2 ∷ ps) (e3 ∙ ap (λ (ps : List Part). PExpr x3 ∷ ps) (e4 ∙ ap (λ (ps : List Part). PToken x4 ∷ ps) e5))))) q))))))

make_end : (nodes : List Node) (at : ℕ) (at_word : Lexeme) (at_kind : ℕ) → IsTokenOf nodes at 3 at_word → IsPartOf nodes at 1 at_kind
    → (whole : Call) (parts rest : List Part) (passed_3 : Lexeme) (kind : GoType) (passed_1 : Lexeme) (word : Lexeme) (behind : List Part) → built (take at nodes) ≡ Some parts → parts ≡ PToken passed_3 ∷ PGoType kind ∷ PToken passed_1 ∷ PToken word ∷ behind
    → PCall whole ∷ rest ≡ PCall (made_make parts) ∷ drop 4 parts → IsMake nodes at at_word at_kind whole
make_end nodes at at_word at_kind known_word known_kind whole parts rest passed_3 kind passed_1 word behind before shape q =
    let made : whole ≡ made_make parts = cc in
    record {
      of_kind = kind;
      at_kind = at_part nodes at 1 at_kind parts (PToken passed_1 ∷ PToken word ∷ behind) (PGoType kind) known_kind before (ap (λ (ps : List Part). drop 1 ps) shape);
      made = made ∙ ap (λ (ps : List Part). made_make ps) shape
          ∙ ap (λ (x : Lexeme). (call.Make x kind None)) (sym (known_word.same parts (behind) word before (ap (λ (ps : List Part). drop 3 ps) shape)));
    }

pub make_is : (nodes : List Node) (at : ℕ) (at_word : Lexeme) (at_kind : ℕ) → IsMadeBy nodes at act.ACT_MAKE → IsTokenOf nodes at 3 at_word → IsPartOf nodes at 1 at_kind
    → (whole : Call) → IsPartAt nodes at (PCall whole) → IsMake nodes at at_word at_kind whole
make_is nodes at at_word at_kind by known_word known_kind whole is =
    let o = opened nodes at (Made by.raw by.from) (PCall whole) by.node is in
    let a = accepted act.ACT_MAKE o.parts (PCall whole ∷ o.rest) (same_act by.raw act.ACT_MAKE o.parts by.number ∙ o.done) in
    go o.parts o.rest o.before a.0 a.1
  where
    go : (parts rest : List Part) → built (take at nodes) ≡ Some parts → has_tops (is_token ∷ is_go_type ∷ is_token ∷ is_token ∷ []) parts ≡ true → PCall whole ∷ rest ≡ PCall (made_make parts) ∷ drop 4 parts → IsMake nodes at at_word at_kind whole
    go parts rest before h q =
        top_token (is_go_type ∷ is_token ∷ is_token ∷ []) parts h (λ x0 r0 e0 h0.
        top_go_type (is_token ∷ is_token ∷ []) r0 h0 (λ x1 r1 e1 h1.
        top_token (is_token ∷ []) r1 h1 (λ x2 r2 e2 h2.
        top_token ([]) r2 h2 (λ x3 r3 e3 h3.
        make_end nodes at at_word at_kind known_word known_kind whole parts rest x0 x1 x2 x3 r3 before (e0 ∙ ap (λ (ps : List Part). PToken x0 ∷ ps) (e1 ∙ ap (λ (ps : List Part). PGoType x1 ∷ ps) (e2 ∙ ap (λ (ps : List Part). PToken x2 ∷ ps) e3))) q))))

make_length_end : (nodes : List Node) (at : ℕ) (at_word : Lexeme) (at_kind : ℕ) (at_length : ℕ) → IsTokenOf nodes at 5 at_word → IsPartOf nodes at 3 at_kind → IsPartOf nodes at 1 at_length
    → (whole : Call) (parts rest : List Part) (passed_5 : Lexeme) (length : Expr) (passed_3 : Lexeme) (kind : GoType) (passed_1 : Lexeme) (word : Lexeme) (behind : List Part) → built (take at nodes) ≡ Some parts → parts ≡ PToken passed_5 ∷ PExpr length ∷ PToken passed_3 ∷ PGoType kind ∷ PToken passed_1 ∷ PToken word ∷ behind
    → PCall whole ∷ rest ≡ PCall (made_make_length parts) ∷ drop 6 parts → IsMakeLength nodes at at_word at_kind at_length whole
make_length_end nodes at at_word at_kind at_length known_word known_kind known_length whole parts rest passed_5 length passed_3 kind passed_1 word behind before shape q =
    let made : whole ≡ made_make_length parts = cc in
    record {
      of_kind = kind;
      of_length = length;
      at_kind = at_part nodes at 3 at_kind parts (PToken passed_1 ∷ PToken word ∷ behind) (PGoType kind) known_kind before (ap (λ (ps : List Part). drop 3 ps) shape);
      at_length = at_part nodes at 1 at_length parts (PToken passed_3 ∷ PGoType kind ∷ PToken passed_1 ∷ PToken word ∷ behind) (PExpr length) known_length before (ap (λ (ps : List Part). drop 1 ps) shape);
      made = made ∙ ap (λ (ps : List Part). made_make_length ps) shape
          ∙ ap (λ (x : Lexeme). (call.Make x kind (Some length))) (sym (known_word.same parts (behind) word before (ap (λ (ps : List Part). drop 5 ps) shape)));
    }

pub make_length_is : (nodes : List Node) (at : ℕ) (at_word : Lexeme) (at_kind : ℕ) (at_length : ℕ) → IsMadeBy nodes at act.ACT_MAKE_LENGTH → IsTokenOf nodes at 5 at_word → IsPartOf nodes at 3 at_kind → IsPartOf nodes at 1 at_length
    → (whole : Call) → IsPartAt nodes at (PCall whole) → IsMakeLength nodes at at_word at_kind at_length whole
make_length_is nodes at at_word at_kind at_length by known_word known_kind known_length whole is =
    let o = opened nodes at (Made by.raw by.from) (PCall whole) by.node is in
    let a = accepted act.ACT_MAKE_LENGTH o.parts (PCall whole ∷ o.rest) (same_act by.raw act.ACT_MAKE_LENGTH o.parts by.number ∙ o.done) in
    go o.parts o.rest o.before a.0 a.1
  where
    go : (parts rest : List Part) → built (take at nodes) ≡ Some parts → has_tops (is_token ∷ is_expr ∷ is_token ∷ is_go_type ∷ is_token ∷ is_token ∷ []) parts ≡ true → PCall whole ∷ rest ≡ PCall (made_make_length parts) ∷ drop 6 parts → IsMakeLength nodes at at_word at_kind at_length whole
    go parts rest before h q =
        top_token (is_expr ∷ is_token ∷ is_go_type ∷ is_token ∷ is_token ∷ []) parts h (λ x0 r0 e0 h0.
        top_expr (is_token ∷ is_go_type ∷ is_token ∷ is_token ∷ []) r0 h0 (λ x1 r1 e1 h1.
        top_token (is_go_type ∷ is_token ∷ is_token ∷ []) r1 h1 (λ x2 r2 e2 h2.
        top_go_type (is_token ∷ is_token ∷ []) r2 h2 (λ x3 r3 e3 h3.
        top_token (is_token ∷ []) r3 h3 (λ x4 r4 e4 h4.
        top_token ([]) r4 h4 (λ x5 r5 e5 h5.
        make_length_end nodes at at_word at_kind at_length known_word known_kind known_length whole parts rest x0 x1 x2 x3 x4 x5 r5 before (e0 ∙ ap (λ (ps : List Part). PToken x0 ∷ ps) (e1 ∙ ap (λ (ps : List Part). PExpr x1 ∷ ps) (e2 ∙ ap (λ (ps : List Part). PToken x2 ∷ ps) (e3 ∙ ap (λ (ps : List Part). PGoType x3 ∷ ps) (e4 ∙ ap (λ (ps : List Part). PToken x4 ∷ ps) e5))))) q))))))

new_end : (nodes : List Node) (at : ℕ) (at_word : Lexeme) → IsTokenOf nodes at 5 at_word
    → (whole : Call) (parts rest : List Part) (passed_5 : Lexeme) (passed_4 : Lexeme) (passed_3 : Lexeme) (passed_2 : Lexeme) (passed_1 : Lexeme) (word : Lexeme) (behind : List Part) → built (take at nodes) ≡ Some parts → parts ≡ PToken passed_5 ∷ PToken passed_4 ∷ PToken passed_3 ∷ PToken passed_2 ∷ PToken passed_1 ∷ PToken word ∷ behind
    → PCall whole ∷ rest ≡ PCall (made_new parts) ∷ drop 6 parts → whole ≡ (call.New at_word)
new_end nodes at at_word known_word whole parts rest passed_5 passed_4 passed_3 passed_2 passed_1 word behind before shape q =
    let made : whole ≡ made_new parts = cc in
    made ∙ ap (λ (ps : List Part). made_new ps) shape
    ∙ ap (λ (x : Lexeme). (call.New x)) (sym (known_word.same parts (behind) word before (ap (λ (ps : List Part). drop 5 ps) shape)))

pub new_is : (nodes : List Node) (at : ℕ) (at_word : Lexeme) → IsMadeBy nodes at act.ACT_NEW → IsTokenOf nodes at 5 at_word
    → (whole : Call) → IsPartAt nodes at (PCall whole) → whole ≡ (call.New at_word)
new_is nodes at at_word by known_word whole is =
    let o = opened nodes at (Made by.raw by.from) (PCall whole) by.node is in
    let a = accepted act.ACT_NEW o.parts (PCall whole ∷ o.rest) (same_act by.raw act.ACT_NEW o.parts by.number ∙ o.done) in
    go o.parts o.rest o.before a.0 a.1
  where
    go : (parts rest : List Part) → built (take at nodes) ≡ Some parts → has_tops (is_token ∷ is_token ∷ is_token ∷ is_token ∷ is_token ∷ is_token ∷ []) parts ≡ true → PCall whole ∷ rest ≡ PCall (made_new parts) ∷ drop 6 parts → whole ≡ (call.New at_word)
    go parts rest before h q =
        top_token (is_token ∷ is_token ∷ is_token ∷ is_token ∷ is_token ∷ []) parts h (λ x0 r0 e0 h0.
        top_token (is_token ∷ is_token ∷ is_token ∷ is_token ∷ []) r0 h0 (λ x1 r1 e1 h1.
        top_token (is_token ∷ is_token ∷ is_token ∷ []) r1 h1 (λ x2 r2 e2 h2.
        top_token (is_token ∷ is_token ∷ []) r2 h2 (λ x3 r3 e3 h3.
        top_token (is_token ∷ []) r3 h3 (λ x4 r4 e4 h4.
        top_token ([]) r4 h4 (λ x5 r5 e5 h5.
        new_end nodes at at_word known_word whole parts rest x0 x1 x2 x3 x4 x5 r5 before (e0 ∙ ap (λ (ps : List Part). PToken x0 ∷ ps) (e1 ∙ ap (λ (ps : List Part). PToken x1 ∷ ps) (e2 ∙ ap (λ (ps : List Part). PToken x2 ∷ ps) (e3 ∙ ap (λ (ps : List Part). PToken x3 ∷ ps) (e4 ∙ ap (λ (ps : List Part). PToken x4 ∷ ps) e5))))) q))))))

literal_end : (nodes : List Node) (at : ℕ) (at_start : Lexeme) (at_name : Lexeme) (at_fields : ℕ) → IsTokenOf nodes at 4 at_start → IsTokenOf nodes at 3 at_name → IsPartOf nodes at 1 at_fields
    → (whole : Call) (parts rest : List Part) (passed_4 : Lexeme) (fields : List KeyedExpr) (passed_2 : Lexeme) (name : Lexeme) (start : Lexeme) (behind : List Part) → built (take at nodes) ≡ Some parts → parts ≡ PToken passed_4 ∷ PKeyed fields ∷ PToken passed_2 ∷ PToken name ∷ PToken start ∷ behind
    → PCall whole ∷ rest ≡ PCall (made_literal parts) ∷ drop 5 parts → IsLiteral nodes at at_start at_name at_fields whole
literal_end nodes at at_start at_name at_fields known_start known_name known_fields whole parts rest passed_4 fields passed_2 name start behind before shape q =
    let made : whole ≡ made_literal parts = cc in
    record {
      of_fields = fields;
      at_fields = at_part nodes at 1 at_fields parts (PToken passed_2 ∷ PToken name ∷ PToken start ∷ behind) (PKeyed fields) known_fields before (ap (λ (ps : List Part). drop 1 ps) shape);
      made = made ∙ ap (λ (ps : List Part). made_literal ps) shape
          ∙ ap (λ (x : Lexeme). (call.Literal x name fields)) (sym (known_start.same parts (behind) start before (ap (λ (ps : List Part). drop 4 ps) shape)))
          ∙ ap (λ (x : Lexeme). (call.Literal at_start x fields)) (sym (known_name.same parts (PToken start ∷ behind) name before (ap (λ (ps : List Part). drop 3 ps) shape)));
    }

pub literal_is : (nodes : List Node) (at : ℕ) (at_start : Lexeme) (at_name : Lexeme) (at_fields : ℕ) → IsMadeBy nodes at act.ACT_LITERAL → IsTokenOf nodes at 4 at_start → IsTokenOf nodes at 3 at_name → IsPartOf nodes at 1 at_fields
    → (whole : Call) → IsPartAt nodes at (PCall whole) → IsLiteral nodes at at_start at_name at_fields whole
literal_is nodes at at_start at_name at_fields by known_start known_name known_fields whole is =
    let o = opened nodes at (Made by.raw by.from) (PCall whole) by.node is in
    let a = accepted act.ACT_LITERAL o.parts (PCall whole ∷ o.rest) (same_act by.raw act.ACT_LITERAL o.parts by.number ∙ o.done) in
    go o.parts o.rest o.before a.0 a.1
  where
    go : (parts rest : List Part) → built (take at nodes) ≡ Some parts → has_tops (is_token ∷ is_keyed ∷ is_token ∷ is_token ∷ is_token ∷ []) parts ≡ true → PCall whole ∷ rest ≡ PCall (made_literal parts) ∷ drop 5 parts → IsLiteral nodes at at_start at_name at_fields whole
    go parts rest before h q =
        top_token (is_keyed ∷ is_token ∷ is_token ∷ is_token ∷ []) parts h (λ x0 r0 e0 h0.
        top_keyed (is_token ∷ is_token ∷ is_token ∷ []) r0 h0 (λ x1 r1 e1 h1.
        top_token (is_token ∷ is_token ∷ []) r1 h1 (λ x2 r2 e2 h2.
        top_token (is_token ∷ []) r2 h2 (λ x3 r3 e3 h3.
        top_token ([]) r3 h3 (λ x4 r4 e4 h4.
        literal_end nodes at at_start at_name at_fields known_start known_name known_fields whole parts rest x0 x1 x2 x3 x4 r4 before (e0 ∙ ap (λ (ps : List Part). PToken x0 ∷ ps) (e1 ∙ ap (λ (ps : List Part). PKeyed x1 ∷ ps) (e2 ∙ ap (λ (ps : List Part). PToken x2 ∷ ps) (e3 ∙ ap (λ (ps : List Part). PToken x3 ∷ ps) e4)))) q)))))
