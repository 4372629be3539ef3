-- Expr nodes by the acts that make them. Made by tools/nodes.py from gosyntax.grammar: edit that.
use Rattle.std.proofs.Common.{◌≡◌, ℕ, true, List, [], ◌∷◌, Option, Some, sym, ap, ◌∙◌}
use Rattle.std.specs.Prelude.{drop, take}
use Rattle.gv_grammar.specs.Building.{has_tops}
use Rattle.gv_gosyntax.specs.declared.generated.gosyntax_acts.Part.{Part}
use Rattle.gv_gosyntax.specs.declared.generated.gosyntax_acts.Part.TheVariants.{Bound as PBound, Expr as PExpr, Token as PToken}
use Rattle.gv_gosyntax.specs.declared.tree.Expr.{Expr}
use Rattle.gv_gosyntax.specs.declared.lexeme.Lexeme.{Lexeme}
use Rattle.gv_gosyntax.specs.declared.tree.Expr.TheVariants as expr
use Rattle.gv_gosyntax.specs.declared.node.Node.{Node}
use Rattle.gv_gosyntax.specs.declared.node.Node.TheVariants.{Made}
use Rattle.gv_gosyntax.specs.declared.generated.gosyntax_table.TheConstants as act
use Rattle.gv_gosyntax.specs.GosyntaxActs.{is_bound, is_expr, is_token, made_binary, made_constant, made_convert, made_index, made_operand, made_paren, made_select, made_slice_from, made_slice_to, made_unary}
use Rattle.gv_gosyntax.specs.Nodes.{built, IsPartAt}
use Rattle.gv_gonodes.specs.Places.{IsMadeBy, IsPartOf, IsTokenOf}
use Rattle.gv_gonodes.specs.Expr.{IsParen, IsConvert, IsSelect, IsIndex, IsSliceTo, IsSliceFrom, IsUnary, IsBinary}
use Rattle.gv_gonodes.proofs.Opened.{opened, at_part, same_act}
use Rattle.gv_gonodes.proofs.Tops.{accepted, top_bound, top_expr, top_token}

constant_end : (nodes : List Node) (at : ℕ) (at_token : Lexeme) → IsTokenOf nodes at 0 at_token
    → (whole : Expr) (parts rest : List Part) (token : Lexeme) (behind : List Part) → built (take at nodes) ≡ Some parts → parts ≡ PToken token ∷ behind
    → PExpr whole ∷ rest ≡ PExpr (made_constant parts) ∷ drop 1 parts → whole ≡ (expr.Constant at_token)
constant_end nodes at at_token known_token whole parts rest token behind before shape q =
    let made : whole ≡ made_constant parts = cc in
    made ∙ ap (λ (ps : List Part). made_constant ps) shape
    ∙ ap (λ (x : Lexeme). (expr.Constant x)) (sym (known_token.same parts (behind) token before (ap (λ (ps : List Part). drop 0 ps) shape)))

pub constant_is : (nodes : List Node) (at : ℕ) (at_token : Lexeme) → IsMadeBy nodes at act.ACT_CONSTANT → IsTokenOf nodes at 0 at_token
    → (whole : Expr) → IsPartAt nodes at (PExpr whole) → whole ≡ (expr.Constant at_token)
constant_is nodes at at_token by known_token whole is =
    let o = opened nodes at (Made by.raw by.from) (PExpr whole) by.node is in
    let a = accepted act.ACT_CONSTANT o.parts (PExpr whole ∷ o.rest) (same_act by.raw act.ACT_CONSTANT o.parts by.number ∙ o.done) in
    go o.parts o.rest o.before a.0 a.1
  where
    go : (parts rest : List Part) → built (take at nodes) ≡ Some parts → has_tops (is_token ∷ []) parts ≡ true → PExpr whole ∷ rest ≡ PExpr (made_constant parts) ∷ drop 1 parts → whole ≡ (expr.Constant at_token)
    go parts rest before h q =
        top_token ([]) parts h (λ x0 r0 e0 h0.
        constant_end nodes at at_token known_token whole parts rest x0 r0 before e0 q)

operand_end : (nodes : List Node) (at : ℕ) (at_name : Lexeme) → IsTokenOf nodes at 0 at_name
    → (whole : Expr) (parts rest : List Part) (name : Lexeme) (behind : List Part) → built (take at nodes) ≡ Some parts → parts ≡ PToken name ∷ behind
    → PExpr whole ∷ rest ≡ PExpr (made_operand parts) ∷ drop 1 parts → whole ≡ (expr.Name at_name)
operand_end nodes at at_name known_name whole parts rest name behind before shape q =
    let made : whole ≡ made_operand parts = cc in
    made ∙ ap (λ (ps : List Part). made_operand ps) shape
    ∙ ap (λ (x : Lexeme). (expr.Name x)) (sym (known_name.same parts (behind) name before (ap (λ (ps : List Part). drop 0 ps) shape)))

pub operand_is : (nodes : List Node) (at : ℕ) (at_name : Lexeme) → IsMadeBy nodes at act.ACT_OPERAND → IsTokenOf nodes at 0 at_name
    → (whole : Expr) → IsPartAt nodes at (PExpr whole) → whole ≡ (expr.Name at_name)
operand_is nodes at at_name by known_name whole is =
    let o = opened nodes at (Made by.raw by.from) (PExpr whole) by.node is in
    let a = accepted act.ACT_OPERAND o.parts (PExpr whole ∷ o.rest) (same_act by.raw act.ACT_OPERAND o.parts by.number ∙ o.done) in
    go o.parts o.rest o.before a.0 a.1
  where
    go : (parts rest : List Part) → built (take at nodes) ≡ Some parts → has_tops (is_token ∷ []) parts ≡ true → PExpr whole ∷ rest ≡ PExpr (made_operand parts) ∷ drop 1 parts → whole ≡ (expr.Name at_name)
    go parts rest before h q =
        top_token ([]) parts h (λ x0 r0 e0 h0.
        operand_end nodes at at_name known_name whole parts rest x0 r0 before e0 q)

paren_end : (nodes : List Node) (at : ℕ) (at_start : Lexeme) (at_inner : ℕ) → IsTokenOf nodes at 2 at_start → IsPartOf nodes at 1 at_inner
    → (whole : Expr) (parts rest : List Part) (passed_2 : Lexeme) (inner : Expr) (start : Lexeme) (behind : List Part) → built (take at nodes) ≡ Some parts → parts ≡ PToken passed_2 ∷ PExpr inner ∷ PToken start ∷ behind
    → PExpr whole ∷ rest ≡ PExpr (made_paren parts) ∷ drop 3 parts → IsParen nodes at at_start at_inner whole
paren_end nodes at at_start at_inner known_start known_inner whole parts rest passed_2 inner start behind before shape q =
    let made : whole ≡ made_paren parts = cc in
    record {
      of_inner = inner;
      at_inner = at_part nodes at 1 at_inner parts (PToken start ∷ behind) (PExpr inner) known_inner before (ap (λ (ps : List Part). drop 1 ps) shape);
      made = made ∙ ap (λ (ps : List Part). made_paren ps) shape
          ∙ ap (λ (x : Lexeme). (expr.Paren x inner)) (sym (known_start.same parts (behind) start before (ap (λ (ps : List Part). drop 2 ps) shape)));
    }

pub paren_is : (nodes : List Node) (at : ℕ) (at_start : Lexeme) (at_inner : ℕ) → IsMadeBy nodes at act.ACT_PAREN → IsTokenOf nodes at 2 at_start → IsPartOf nodes at 1 at_inner
    → (whole : Expr) → IsPartAt nodes at (PExpr whole) → IsParen nodes at at_start at_inner whole
paren_is nodes at at_start at_inner by known_start known_inner whole is =
    let o = opened nodes at (Made by.raw by.from) (PExpr whole) by.node is in
    let a = accepted act.ACT_PAREN o.parts (PExpr whole ∷ o.rest) (same_act by.raw act.ACT_PAREN o.parts by.number ∙ o.done) in
    go o.parts o.rest o.before a.0 a.1
  where
    go : (parts rest : List Part) → built (take at nodes) ≡ Some parts → has_tops (is_token ∷ is_expr ∷ is_token ∷ []) parts ≡ true → PExpr whole ∷ rest ≡ PExpr (made_paren parts) ∷ drop 3 parts → IsParen nodes at at_start at_inner whole
    go parts rest before h q =
        top_token (is_expr ∷ is_token ∷ []) parts h (λ x0 r0 e0 h0.
        top_expr (is_token ∷ []) r0 h0 (λ x1 r1 e1 h1.
        top_token ([]) r1 h1 (λ x2 r2 e2 h2.
        paren_end nodes at at_start at_inner known_start known_inner whole parts rest x0 x1 x2 r2 before (e0 ∙ ap (λ (ps : List Part). PToken x0 ∷ ps) (e1 ∙ ap (λ (ps : List Part). PExpr x1 ∷ ps) e2)) q)))

convert_end : (nodes : List Node) (at : ℕ) (at_word : Lexeme) (at_inner : ℕ) → IsTokenOf nodes at 3 at_word → IsPartOf nodes at 1 at_inner
    → (whole : Expr) (parts rest : List Part) (passed_3 : Lexeme) (inner : Expr) (passed_1 : Lexeme) (word : Lexeme) (behind : List Part) → built (take at nodes) ≡ Some parts → parts ≡ PToken passed_3 ∷ PExpr inner ∷ PToken passed_1 ∷ PToken word ∷ behind
    → PExpr whole ∷ rest ≡ PExpr (made_convert parts) ∷ drop 4 parts → IsConvert nodes at at_word at_inner whole
convert_end nodes at at_word at_inner known_word known_inner whole parts rest passed_3 inner passed_1 word behind before shape q =
    let made : whole ≡ made_convert parts = cc in
    record {
      of_inner = inner;
      at_inner = at_part nodes at 1 at_inner parts (PToken passed_1 ∷ PToken word ∷ behind) (PExpr inner) known_inner before (ap (λ (ps : List Part). drop 1 ps) shape);
      made = made ∙ ap (λ (ps : List Part). made_convert ps) shape
          ∙ ap (λ (x : Lexeme). (expr.Convert x inner)) (sym (known_word.same parts (behind) word before (ap (λ (ps : List Part). drop 3 ps) shape)));
    }

pub convert_is : (nodes : List Node) (at : ℕ) (at_word : Lexeme) (at_inner : ℕ) → IsMadeBy nodes at act.ACT_CONVERT → IsTokenOf nodes at 3 at_word → IsPartOf nodes at 1 at_inner
    → (whole : Expr) → IsPartAt nodes at (PExpr whole) → IsConvert nodes at at_word at_inner whole
convert_is nodes at at_word at_inner by known_word known_inner whole is =
    let o = opened nodes at (Made by.raw by.from) (PExpr whole) by.node is in
    let a = accepted act.ACT_CONVERT o.parts (PExpr whole ∷ o.rest) (same_act by.raw act.ACT_CONVERT o.parts by.number ∙ o.done) in
    go o.parts o.rest o.before a.0 a.1
  where
    go : (parts rest : List Part) → built (take at nodes) ≡ Some parts → has_tops (is_token ∷ is_expr ∷ is_token ∷ is_token ∷ []) parts ≡ true → PExpr whole ∷ rest ≡ PExpr (made_convert parts) ∷ drop 4 parts → IsConvert nodes at at_word at_inner whole
    go parts rest before h q =
        top_token (is_expr ∷ is_token ∷ is_token ∷ []) parts h (λ x0 r0 e0 h0.
        top_expr (is_token ∷ is_token ∷ []) r0 h0 (λ x1 r1 e1 h1.
        top_token (is_token ∷ []) r1 h1 (λ x2 r2 e2 h2.
        top_token ([]) r2 h2 (λ x3 r3 e3 h3.
        convert_end nodes at at_word at_inner known_word known_inner whole parts rest x0 x1 x2 x3 r3 before (e0 ∙ ap (λ (ps : List Part). PToken x0 ∷ ps) (e1 ∙ ap (λ (ps : List Part). PExpr x1 ∷ ps) (e2 ∙ ap (λ (ps : List Part). PToken x2 ∷ ps) e3))) q))))

select_end : (nodes : List Node) (at : ℕ) (at_inner : ℕ) (at_name : Lexeme) → IsPartOf nodes at 2 at_inner → IsTokenOf nodes at 0 at_name
    → (whole : Expr) (parts rest : List Part) (name : Lexeme) (passed_1 : Lexeme) (inner : Expr) (behind : List Part) → built (take at nodes) ≡ Some parts → parts ≡ PToken name ∷ PToken passed_1 ∷ PExpr inner ∷ behind
    → PExpr whole ∷ rest ≡ PExpr (made_select parts) ∷ drop 3 parts → IsSelect nodes at at_inner at_name whole
select_end nodes at at_inner at_name known_inner known_name whole parts rest name passed_1 inner behind before shape q =
    let made : whole ≡ made_select parts = cc in
    record {
      of_inner = inner;
      at_inner = at_part nodes at 2 at_inner parts (behind) (PExpr inner) known_inner before (ap (λ (ps : List Part). drop 2 ps) shape);
      made = made ∙ ap (λ (ps : List Part). made_select ps) shape
          ∙ ap (λ (x : Lexeme). (expr.Select inner x)) (sym (known_name.same parts (PToken passed_1 ∷ PExpr inner ∷ behind) name before (ap (λ (ps : List Part). drop 0 ps) shape)));
    }

pub select_is : (nodes : List Node) (at : ℕ) (at_inner : ℕ) (at_name : Lexeme) → IsMadeBy nodes at act.ACT_SELECT → IsPartOf nodes at 2 at_inner → IsTokenOf nodes at 0 at_name
    → (whole : Expr) → IsPartAt nodes at (PExpr whole) → IsSelect nodes at at_inner at_name whole
select_is nodes at at_inner at_name by known_inner known_name whole is =
    let o = opened nodes at (Made by.raw by.from) (PExpr whole) by.node is in
    let a = accepted act.ACT_SELECT o.parts (PExpr whole ∷ o.rest) (same_act by.raw act.ACT_SELECT o.parts by.number ∙ o.done) in
    go o.parts o.rest o.before a.0 a.1
  where
    go : (parts rest : List Part) → built (take at nodes) ≡ Some parts → has_tops (is_token ∷ is_token ∷ is_expr ∷ []) parts ≡ true → PExpr whole ∷ rest ≡ PExpr (made_select parts) ∷ drop 3 parts → IsSelect nodes at at_inner at_name whole
    go parts rest before h q =
        top_token (is_token ∷ is_expr ∷ []) parts h (λ x0 r0 e0 h0.
        top_token (is_expr ∷ []) r0 h0 (λ x1 r1 e1 h1.
        top_expr ([]) r1 h1 (λ x2 r2 e2 h2.
        select_end nodes at at_inner at_name known_inner known_name whole parts rest x0 x1 x2 r2 before (e0 ∙ ap (λ (ps : List Part). PToken x0 ∷ ps) (e1 ∙ ap (λ (ps : List Part). PToken x1 ∷ ps) e2)) q)))

index_end : (nodes : List Node) (at : ℕ) (at_inner : ℕ) (at_index : ℕ) → IsPartOf nodes at 3 at_inner → IsPartOf nodes at 1 at_index
    → (whole : Expr) (parts rest : List Part) (passed_3 : Lexeme) (index : Expr) (passed_1 : Lexeme) (inner : Expr) (behind : List Part) → built (take at nodes) ≡ Some parts → parts ≡ PToken passed_3 ∷ PExpr index ∷ PToken passed_1 ∷ PExpr inner ∷ behind
    → PExpr whole ∷ rest ≡ PExpr (made_index parts) ∷ drop 4 parts → IsIndex nodes at at_inner at_index whole
index_end nodes at at_inner at_index known_inner known_index whole parts rest passed_3 index passed_1 inner behind before shape q =
    let made : whole ≡ made_index parts = cc in
    record {
      of_inner = inner;
      of_index = index;
      at_inner = at_part nodes at 3 at_inner parts (behind) (PExpr inner) known_inner before (ap (λ (ps : List Part). drop 3 ps) shape);
      at_index = at_part nodes at 1 at_index parts (PToken passed_1 ∷ PExpr inner ∷ behind) (PExpr index) known_index before (ap (λ (ps : List Part). drop 1 ps) shape);
      made = made ∙ ap (λ (ps : List Part). made_index ps) shape;
    }

pub index_is : (nodes : List Node) (at : ℕ) (at_inner : ℕ) (at_index : ℕ) → IsMadeBy nodes at act.ACT_INDEX → IsPartOf nodes at 3 at_inner → IsPartOf nodes at 1 at_index
    → (whole : Expr) → IsPartAt nodes at (PExpr whole) → IsIndex nodes at at_inner at_index whole
index_is nodes at at_inner at_index by known_inner known_index whole is =
    let o = opened nodes at (Made by.raw by.from) (PExpr whole) by.node is in
    let a = accepted act.ACT_INDEX o.parts (PExpr whole ∷ o.rest) (same_act by.raw act.ACT_INDEX o.parts by.number ∙ o.done) in
    go o.parts o.rest o.before a.0 a.1
  where
    go : (parts rest : List Part) → built (take at nodes) ≡ Some parts → has_tops (is_token ∷ is_expr ∷ is_token ∷ is_expr ∷ []) parts ≡ true → PExpr whole ∷ rest ≡ PExpr (made_index parts) ∷ drop 4 parts → IsIndex nodes at at_inner at_index whole
    go parts rest before h q =
        top_token (is_expr ∷ is_token ∷ is_expr ∷ []) parts h (λ x0 r0 e0 h0.
        top_expr (is_token ∷ is_expr ∷ []) r0 h0 (λ x1 r1 e1 h1.
        top_token (is_expr ∷ []) r1 h1 (λ x2 r2 e2 h2.
        top_expr ([]) r2 h2 (λ x3 r3 e3 h3.
        index_end nodes at at_inner at_index known_inner known_index whole parts rest x0 x1 x2 x3 r3 before (e0 ∙ ap (λ (ps : List Part). PToken x0 ∷ ps) (e1 ∙ ap (λ (ps : List Part). PExpr x1 ∷ ps) (e2 ∙ ap (λ (ps : List Part). PToken x2 ∷ ps) e3))) q))))

slice_to_end : (nodes : List Node) (at : ℕ) (at_inner : ℕ) (at_high : ℕ) → IsPartOf nodes at 4 at_inner → IsPartOf nodes at 1 at_high
    → (whole : Expr) (parts rest : List Part) (passed_4 : Lexeme) (high : Option Expr) (passed_2 : Lexeme) (passed_1 : Lexeme) (inner : Expr) (behind : List Part) → built (take at nodes) ≡ Some parts → parts ≡ PToken passed_4 ∷ PBound high ∷ PToken passed_2 ∷ PToken passed_1 ∷ PExpr inner ∷ behind
    → PExpr whole ∷ rest ≡ PExpr (made_slice_to parts) ∷ drop 5 parts → IsSliceTo nodes at at_inner at_high whole
slice_to_end nodes at at_inner at_high known_inner known_high whole parts rest passed_4 high passed_2 passed_1 inner behind before shape q =
    let made : whole ≡ made_slice_to parts = cc in
    record {
      of_inner = inner;
      of_high = high;
      at_inner = at_part nodes at 4 at_inner parts (behind) (PExpr inner) known_inner before (ap (λ (ps : List Part). drop 4 ps) shape);
      at_high = at_part nodes at 1 at_high parts (PToken passed_2 ∷ PToken passed_1 ∷ PExpr inner ∷ behind) (PBound high) known_high before (ap (λ (ps : List Part). drop 1 ps) shape);
      made = made ∙ ap (λ (ps : List Part). made_slice_to ps) shape;
    }

pub slice_to_is : (nodes : List Node) (at : ℕ) (at_inner : ℕ) (at_high : ℕ) → IsMadeBy nodes at act.ACT_SLICE_TO → IsPartOf nodes at 4 at_inner → IsPartOf nodes at 1 at_high
    → (whole : Expr) → IsPartAt nodes at (PExpr whole) → IsSliceTo nodes at at_inner at_high whole
slice_to_is nodes at at_inner at_high by known_inner known_high whole is =
    let o = opened nodes at (Made by.raw by.from) (PExpr whole) by.node is in
    let a = accepted act.ACT_SLICE_TO o.parts (PExpr whole ∷ o.rest) (same_act by.raw act.ACT_SLICE_TO o.parts by.number ∙ o.done) in
    go o.parts o.rest o.before a.0 a.1
  where
    go : (parts rest : List Part) → built (take at nodes) ≡ Some parts → has_tops (is_token ∷ is_bound ∷ is_token ∷ is_token ∷ is_expr ∷ []) parts ≡ true → PExpr whole ∷ rest ≡ PExpr (made_slice_to parts) ∷ drop 5 parts → IsSliceTo nodes at at_inner at_high whole
    go parts rest before h q =
        top_token (is_bound ∷ is_token ∷ is_token ∷ is_expr ∷ []) parts h (λ x0 r0 e0 h0.
        top_bound (is_token ∷ is_token ∷ is_expr ∷ []) r0 h0 (λ x1 r1 e1 h1.
        top_token (is_token ∷ is_expr ∷ []) r1 h1 (λ x2 r2 e2 h2.
        top_token (is_expr ∷ []) r2 h2 (λ x3 r3 e3 h3.
        top_expr ([]) r3 h3 (λ x4 r4 e4 h4.
        slice_to_end nodes at at_inner at_high known_inner known_high whole parts rest x0 x1 x2 x3 x4 r4 before (e0 ∙ ap (λ (ps : List Part). PToken x0 ∷ ps) (e1 ∙ ap (λ (ps : List Part). PBound x1 ∷ ps) (e2 ∙ ap (λ (ps : List Part). PToken x2 ∷ ps) (e3 ∙ ap (λ (ps : List Part). PToken x3 ∷ ps) e4)))) q)))))

slice_from_end : (nodes : List Node) (at : ℕ) (at_inner : ℕ) (at_low : ℕ) (at_high : ℕ) → IsPartOf nodes at 5 at_inner → IsPartOf nodes at 3 at_low → IsPartOf nodes at 1 at_high
    → (whole : Expr) (parts rest : List Part) (passed_5 : Lexeme) (high : Option Expr) (passed_3 : Lexeme) (low : Expr) (passed_1 : Lexeme) (inner : Expr) (behind : List Part) → built (take at nodes) ≡ Some parts → parts ≡ PToken passed_5 ∷ PBound high ∷ PToken passed_3 ∷ PExpr low ∷ PToken passed_1 ∷ PExpr inner ∷ behind
    → PExpr whole ∷ rest ≡ PExpr (made_slice_from parts) ∷ drop 6 parts → IsSliceFrom nodes at at_inner at_low at_high whole
slice_from_end nodes at at_inner at_low at_high known_inner known_low known_high whole parts rest passed_5 high passed_3 low passed_1 inner behind before shape q =
    let made : whole ≡ made_slice_from parts = cc in
    record {
      of_inner = inner;
      of_low = low;
      of_high = high;
      at_inner = at_part nodes at 5 at_inner parts (behind) (PExpr inner) known_inner before (ap (λ (ps : List Part). drop 5 ps) shape);
      at_low = at_part nodes at 3 at_low parts (PToken passed_1 ∷ PExpr inner ∷ behind) (PExpr low) known_low before (ap (λ (ps : List Part). drop 3 ps) shape);
      at_high = at_part nodes at 1 at_high parts (PToken passed_3 ∷ PExpr low ∷ PToken passed_1 ∷ PExpr inner ∷ behind) (PBound high) known_high before (ap (λ (ps : List Part). drop 1 ps) shape);
      made = made ∙ ap (λ (ps : List Part). made_slice_from ps) shape;
    }

pub slice_from_is : (nodes : List Node) (at : ℕ) (at_inner : ℕ) (at_low : ℕ) (at_high : ℕ) → IsMadeBy nodes at act.ACT_SLICE_FROM → IsPartOf nodes at 5 at_inner → IsPartOf nodes at 3 at_low → IsPartOf nodes at 1 at_high
    → (whole : Expr) → IsPartAt nodes at (PExpr whole) → IsSliceFrom nodes at at_inner at_low at_high whole
slice_from_is nodes at at_inner at_low at_high by known_inner known_low known_high whole is =
    let o = opened nodes at (Made by.raw by.from) (PExpr whole) by.node is in
    let a = accepted act.ACT_SLICE_FROM o.parts (PExpr whole ∷ o.rest) (same_act by.raw act.ACT_SLICE_FROM o.parts by.number ∙ o.done) in
    go o.parts o.rest o.before a.0 a.1
  where
    go : (parts rest : List Part) → built (take at nodes) ≡ Some parts → has_tops (is_token ∷ is_bound ∷ is_token ∷ is_expr ∷ is_token ∷ is_expr ∷ []) parts ≡ true → PExpr whole ∷ rest ≡ PExpr (made_slice_from parts) ∷ drop 6 parts → IsSliceFrom nodes at at_inner at_low at_high whole
    go parts rest before h q =
        top_token (is_bound ∷ is_token ∷ is_expr ∷ is_token ∷ is_expr ∷ []) parts h (λ x0 r0 e0 h0.
        top_bound (is_token ∷ is_expr ∷ is_token ∷ is_expr ∷ []) r0 h0 (λ x1 r1 e1 h1.
        top_token (is_expr ∷ is_token ∷ is_expr ∷ []) r1 h1 (λ x2 r2 e2 h2.
        top_expr (is_token ∷ is_expr ∷ []) r2 h2 (λ x3 r3 e3 h3.
        top_token (is_expr ∷ []) r3 h3 (λ x4 r4 e4 h4.
        top_expr ([]) r4 h4 (λ x5 r5 e5 h5.
        slice_from_end nodes at at_inner at_low at_high known_inner known_low known_high whole parts rest x0 x1 x2 x3 x4 x5 r5 before (e0 ∙ ap (λ (ps : List Part). PToken x0 ∷ ps) (e1 ∙ ap (λ (ps : List Part). PBound x1 ∷ ps) (e2 ∙ ap (λ (ps : List Part). PToken x2 ∷ ps) (e3 ∙ ap (λ (ps : List Part). PExpr x3 ∷ ps) (e4 ∙ ap (λ (ps : List Part). PToken x4 ∷ ps) e5))))) q))))))

unary_end : (nodes : List Node) (at : ℕ) (at_sign : Lexeme) (at_inner : ℕ) → IsTokenOf nodes at 1 at_sign → IsPartOf nodes at 0 at_inner
    → (whole : Expr) (parts rest : List Part) (inner : Expr) (sign : Lexeme) (behind : List Part) → built (take at nodes) ≡ Some parts → parts ≡ PExpr inner ∷ PToken sign ∷ behind
    → PExpr whole ∷ rest ≡ PExpr (made_unary parts) ∷ drop 2 parts → IsUnary nodes at at_sign at_inner whole
unary_end nodes at at_sign at_inner known_sign known_inner whole parts rest inner sign behind before shape q =
    let made : whole ≡ made_unary parts = cc in
    record {
      of_inner = inner;
      at_inner = at_part nodes at 0 at_inner parts (PToken sign ∷ behind) (PExpr inner) known_inner before (ap (λ (ps : List Part). drop 0 ps) shape);
      made = made ∙ ap (λ (ps : List Part). made_unary ps) shape
          ∙ ap (λ (x : Lexeme). (expr.Unary x inner)) (sym (known_sign.same parts (behind) sign before (ap (λ (ps : List Part). drop 1 ps) shape)));
    }

pub unary_is : (nodes : List Node) (at : ℕ) (at_sign : Lexeme) (at_inner : ℕ) → IsMadeBy nodes at act.ACT_UNARY → IsTokenOf nodes at 1 at_sign → IsPartOf nodes at 0 at_inner
    → (whole : Expr) → IsPartAt nodes at (PExpr whole) → IsUnary nodes at at_sign at_inner whole
unary_is nodes at at_sign at_inner by known_sign known_inner whole is =
    let o = opened nodes at (Made by.raw by.from) (PExpr whole) by.node is in
    let a = accepted act.ACT_UNARY o.parts (PExpr whole ∷ o.rest) (same_act by.raw act.ACT_UNARY o.parts by.number ∙ o.done) in
    go o.parts o.rest o.before a.0 a.1
  where
    go : (parts rest : List Part) → built (take at nodes) ≡ Some parts → has_tops (is_expr ∷ is_token ∷ []) parts ≡ true → PExpr whole ∷ rest ≡ PExpr (made_unary parts) ∷ drop 2 parts → IsUnary nodes at at_sign at_inner whole
    go parts rest before h q =
        top_expr (is_token ∷ []) parts h (λ x0 r0 e0 h0.
        top_token ([]) r0 h0 (λ x1 r1 e1 h1.
        unary_end nodes at at_sign at_inner known_sign known_inner whole parts rest x0 x1 r1 before (e0 ∙ ap (λ (ps : List Part). PExpr x0 ∷ ps) e1) q))

binary_end : (nodes : List Node) (at : ℕ) (at_left : ℕ) (at_sign : Lexeme) (at_right : ℕ) → IsPartOf nodes at 2 at_left → IsTokenOf nodes at 1 at_sign → IsPartOf nodes at 0 at_right
    → (whole : Expr) (parts rest : List Part) (right : Expr) (sign : Lexeme) (left : Expr) (behind : List Part) → built (take at nodes) ≡ Some parts → parts ≡ PExpr right ∷ PToken sign ∷ PExpr left ∷ behind
    → PExpr whole ∷ rest ≡ PExpr (made_binary parts) ∷ drop 3 parts → IsBinary nodes at at_left at_sign at_right whole
binary_end nodes at at_left at_sign at_right known_left known_sign known_right whole parts rest right sign left behind before shape q =
    let made : whole ≡ made_binary parts = cc in
    record {
      of_left = left;
      of_right = right;
      at_left = at_part nodes at 2 at_left parts (behind) (PExpr left) known_left before (ap (λ (ps : List Part). drop 2 ps) shape);
      at_right = at_part nodes at 0 at_right parts (PToken sign ∷ PExpr left ∷ behind) (PExpr right) known_right before (ap (λ (ps : List Part). drop 0 ps) shape);
      made = made ∙ ap (λ (ps : List Part). made_binary ps) shape
          ∙ ap (λ (x : Lexeme). (expr.Binary left x right)) (sym (known_sign.same parts (PExpr left ∷ behind) sign before (ap (λ (ps : List Part). drop 1 ps) shape)));
    }

pub binary_is : (nodes : List Node) (at : ℕ) (at_left : ℕ) (at_sign : Lexeme) (at_right : ℕ) → IsMadeBy nodes at act.ACT_BINARY → IsPartOf nodes at 2 at_left → IsTokenOf nodes at 1 at_sign → IsPartOf nodes at 0 at_right
    → (whole : Expr) → IsPartAt nodes at (PExpr whole) → IsBinary nodes at at_left at_sign at_right whole
binary_is nodes at at_left at_sign at_right by known_left known_sign known_right whole is =
    let o = opened nodes at (Made by.raw by.from) (PExpr whole) by.node is in
    let a = accepted act.ACT_BINARY o.parts (PExpr whole ∷ o.rest) (same_act by.raw act.ACT_BINARY o.parts by.number ∙ o.done) in
    go o.parts o.rest o.before a.0 a.1
  where
    go : (parts rest : List Part) → built (take at nodes) ≡ Some parts → has_tops (is_expr ∷ is_token ∷ is_expr ∷ []) parts ≡ true → PExpr whole ∷ rest ≡ PExpr (made_binary parts) ∷ drop 3 parts → IsBinary nodes at at_left at_sign at_right whole
    go parts rest before h q =
        top_expr (is_token ∷ is_expr ∷ []) parts h (λ x0 r0 e0 h0.
        top_token (is_expr ∷ []) r0 h0 (λ x1 r1 e1 h1.
        top_expr ([]) r1 h1 (λ x2 r2 e2 h2.
        binary_end nodes at at_left at_sign at_right known_left known_sign known_right whole parts rest x0 x1 x2 r2 before (e0 ∙ ap (λ (ps : List Part). PExpr x0 ∷ ps) (e1 ∙ ap (λ (ps : List Part). PToken x1 ∷ ps) e2)) q)))
