-- Decl nodes by the acts that make them. Made by tools/nodes.py from gosyntax.grammar: edit that.
use Rattle.std.proofs.Common.{◌≡◌, ℕ, true, List, [], ◌∷◌, Option, Some, None, sym, ap, ◌∙◌}
use Rattle.std.specs.Prelude.{drop, take}
use Rattle.gv_grammar.specs.Building.{has_tops}
use Rattle.gv_gosyntax.specs.declared.generated.gosyntax_acts.Part.{Part}
use Rattle.gv_gosyntax.specs.declared.generated.gosyntax_acts.Part.TheVariants.{Block as PBlock, Decl as PDecl, Expr as PExpr, Groups as PGroups, Receiver as PReceiver, Token as PToken, Types as PTypes}
use Rattle.gv_gosyntax.specs.declared.tree.Block.{Block}
use Rattle.gv_gosyntax.specs.declared.tree.Decl.{Decl}
use Rattle.gv_gosyntax.specs.declared.tree.Expr.{Expr}
use Rattle.gv_gosyntax.specs.declared.tree.GoType.{GoType}
use Rattle.gv_gosyntax.specs.declared.tree.Group.{Group}
use Rattle.gv_gosyntax.specs.declared.lexeme.Lexeme.{Lexeme}
use Rattle.gv_gosyntax.specs.declared.tree.Receiver.{Receiver}
use Rattle.gv_gosyntax.specs.declared.tree.Decl.TheVariants as decl
use Rattle.gv_gosyntax.specs.declared.node.Node.{Node}
use Rattle.gv_gosyntax.specs.declared.node.Node.TheVariants.{Made}
use Rattle.gv_gosyntax.specs.declared.generated.gosyntax_table.TheConstants as act
use Rattle.gv_gosyntax.specs.GosyntaxActs.{is_block, is_expr, is_groups, is_receiver, is_token, is_types, made_const, made_func, made_struct, made_typed_const}
use Rattle.gv_gosyntax.specs.Nodes.{built, IsPartAt}
use Rattle.gv_gonodes.specs.Places.{IsMadeBy, IsPartOf, IsTokenOf}
use Rattle.gv_gonodes.specs.Decl.{IsStruct, IsConst, IsTypedConst, IsFunc}
use Rattle.gv_gonodes.proofs.Opened.{opened, at_part, same_act}
use Rattle.gv_gonodes.proofs.Tops.{accepted, top_block, top_expr, top_groups, top_receiver, top_token, top_types}

struct_end : (nodes : List Node) (at : ℕ) (at_name : Lexeme) (at_fields : ℕ) → IsTokenOf nodes at 4 at_name → IsPartOf nodes at 1 at_fields
    → (whole : Decl) (parts rest : List Part) (passed_5 : Lexeme) (fields : List Group) (passed_3 : Lexeme) (passed_2 : Lexeme) (name : Lexeme) (passed_0 : Lexeme) (behind : List Part) → built (take at nodes) ≡ Some parts → parts ≡ PToken passed_5 ∷ PGroups fields ∷ PToken passed_3 ∷ PToken passed_2 ∷ PToken name ∷ PToken passed_0 ∷ behind
    → PDecl whole ∷ rest ≡ PDecl (made_struct parts) ∷ drop 6 parts → IsStruct nodes at at_name at_fields whole
struct_end nodes at at_name at_fields known_name known_fields whole parts rest passed_5 fields passed_3 passed_2 name passed_0 behind before shape q =
    let made : whole ≡ made_struct parts = cc in
    record {
      of_fields = fields;
      at_fields = at_part nodes at 1 at_fields parts (PToken passed_3 ∷ PToken passed_2 ∷ PToken name ∷ PToken passed_0 ∷ behind) (PGroups fields) known_fields before (ap (λ (ps : List Part). drop 1 ps) shape);
      made = made ∙ ap (λ (ps : List Part). made_struct ps) shape
          ∙ ap (λ (x : Lexeme). (decl.Struct x fields)) (sym (known_name.same parts (PToken passed_0 ∷ behind) name before (ap (λ (ps : List Part). drop 4 ps) shape)));
    }

pub struct_is : (nodes : List Node) (at : ℕ) (at_name : Lexeme) (at_fields : ℕ) → IsMadeBy nodes at act.ACT_STRUCT → IsTokenOf nodes at 4 at_name → IsPartOf nodes at 1 at_fields
    → (whole : Decl) → IsPartAt nodes at (PDecl whole) → IsStruct nodes at at_name at_fields whole
struct_is nodes at at_name at_fields by known_name known_fields whole is =
    let o = opened nodes at (Made by.raw by.from) (PDecl whole) by.node is in
    let a = accepted act.ACT_STRUCT o.parts (PDecl whole ∷ o.rest) (same_act by.raw act.ACT_STRUCT o.parts by.number ∙ o.done) in
    go o.parts o.rest o.before a.0 a.1
  where
    go : (parts rest : List Part) → built (take at nodes) ≡ Some parts → has_tops (is_token ∷ is_groups ∷ is_token ∷ is_token ∷ is_token ∷ is_token ∷ []) parts ≡ true → PDecl whole ∷ rest ≡ PDecl (made_struct parts) ∷ drop 6 parts → IsStruct nodes at at_name at_fields whole
    go parts rest before h q =
        top_token (is_groups ∷ is_token ∷ is_token ∷ is_token ∷ is_token ∷ []) parts h (λ x0 r0 e0 h0.
        top_groups (is_token ∷ is_token ∷ is_token ∷ is_token ∷ []) r0 h0 (λ x1 r1 e1 h1.
        top_token (is_token ∷ is_token ∷ is_token ∷ []) r1 h1 (λ x2 r2 e2 h2.
        top_token (is_token ∷ is_token ∷ []) r2 h2 (λ x3 r3 e3 h3.
        top_token (is_token ∷ []) r3 h3 (λ x4 r4 e4 h4.
        top_token ([]) r4 h4 (λ x5 r5 e5 h5.
        struct_end nodes at at_name at_fields known_name known_fields whole parts rest x0 x1 x2 x3 x4 x5 r5 before (e0 ∙ ap (λ (ps : List Part). PToken x0 ∷ ps) (e1 ∙ ap (λ (ps : List Part). PGroups x1 ∷ ps) (e2 ∙ ap (λ (ps : List Part). PToken x2 ∷ ps) (e3 ∙ ap (λ (ps : List Part). PToken x3 ∷ ps) (e4 ∙ ap (λ (ps : List Part). PToken x4 ∷ ps) e5))))) q))))))

const_end : (nodes : List Node) (at : ℕ) (at_name : Lexeme) (at_value : ℕ) → IsTokenOf nodes at 2 at_name → IsPartOf nodes at 0 at_value
    → (whole : Decl) (parts rest : List Part) (value : Expr) (passed_2 : Lexeme) (name : Lexeme) (passed_0 : Lexeme) (behind : List Part) → built (take at nodes) ≡ Some parts → parts ≡ PExpr value ∷ PToken passed_2 ∷ PToken name ∷ PToken passed_0 ∷ behind
    → PDecl whole ∷ rest ≡ PDecl (made_const parts) ∷ drop 4 parts → IsConst nodes at at_name at_value whole
const_end nodes at at_name at_value known_name known_value whole parts rest value passed_2 name passed_0 behind before shape q =
    let made : whole ≡ made_const parts = cc in
    record {
      of_value = value;
      at_value = at_part nodes at 0 at_value parts (PToken passed_2 ∷ PToken name ∷ PToken passed_0 ∷ behind) (PExpr value) known_value before (ap (λ (ps : List Part). drop 0 ps) shape);
      made = made ∙ ap (λ (ps : List Part). made_const ps) shape
          ∙ ap (λ (x : Lexeme). (decl.Const x None value)) (sym (known_name.same parts (PToken passed_0 ∷ behind) name before (ap (λ (ps : List Part). drop 2 ps) shape)));
    }

pub const_is : (nodes : List Node) (at : ℕ) (at_name : Lexeme) (at_value : ℕ) → IsMadeBy nodes at act.ACT_CONST → IsTokenOf nodes at 2 at_name → IsPartOf nodes at 0 at_value
    → (whole : Decl) → IsPartAt nodes at (PDecl whole) → IsConst nodes at at_name at_value whole
const_is nodes at at_name at_value by known_name known_value whole is =
    let o = opened nodes at (Made by.raw by.from) (PDecl whole) by.node is in
    let a = accepted act.ACT_CONST o.parts (PDecl whole ∷ o.rest) (same_act by.raw act.ACT_CONST o.parts by.number ∙ o.done) in
    go o.parts o.rest o.before a.0 a.1
  where
    go : (parts rest : List Part) → built (take at nodes) ≡ Some parts → has_tops (is_expr ∷ is_token ∷ is_token ∷ is_token ∷ []) parts ≡ true → PDecl whole ∷ rest ≡ PDecl (made_const parts) ∷ drop 4 parts → IsConst nodes at at_name at_value whole
    go parts rest before h q =
        top_expr (is_token ∷ is_token ∷ is_token ∷ []) parts h (λ x0 r0 e0 h0.
        top_token (is_token ∷ is_token ∷ []) r0 h0 (λ x1 r1 e1 h1.
        top_token (is_token ∷ []) r1 h1 (λ x2 r2 e2 h2.
        top_token ([]) r2 h2 (λ x3 r3 e3 h3.
        const_end nodes at at_name at_value known_name known_value whole parts rest x0 x1 x2 x3 r3 before (e0 ∙ ap (λ (ps : List Part). PExpr x0 ∷ ps) (e1 ∙ ap (λ (ps : List Part). PToken x1 ∷ ps) (e2 ∙ ap (λ (ps : List Part). PToken x2 ∷ ps) e3))) q))))

typed_const_end : (nodes : List Node) (at : ℕ) (at_name : Lexeme) (at_kind : Lexeme) (at_value : ℕ) → IsTokenOf nodes at 3 at_name → IsTokenOf nodes at 2 at_kind → IsPartOf nodes at 0 at_value
    → (whole : Decl) (parts rest : List Part) (value : Expr) (passed_3 : Lexeme) (kind : Lexeme) (name : Lexeme) (passed_0 : Lexeme) (behind : List Part) → built (take at nodes) ≡ Some parts → parts ≡ PExpr value ∷ PToken passed_3 ∷ PToken kind ∷ PToken name ∷ PToken passed_0 ∷ behind
    → PDecl whole ∷ rest ≡ PDecl (made_typed_const parts) ∷ drop 5 parts → IsTypedConst nodes at at_name at_kind at_value whole
typed_const_end nodes at at_name at_kind at_value known_name known_kind known_value whole parts rest value passed_3 kind name passed_0 behind before shape q =
    let made : whole ≡ made_typed_const parts = cc in
    record {
      of_value = value;
      at_value = at_part nodes at 0 at_value parts (PToken passed_3 ∷ PToken kind ∷ PToken name ∷ PToken passed_0 ∷ behind) (PExpr value) known_value before (ap (λ (ps : List Part). drop 0 ps) shape);
      made = made ∙ ap (λ (ps : List Part). made_typed_const ps) shape
          ∙ ap (λ (x : Lexeme). (decl.Const x (Some kind) value)) (sym (known_name.same parts (PToken passed_0 ∷ behind) name before (ap (λ (ps : List Part). drop 3 ps) shape)))
          ∙ ap (λ (x : Lexeme). (decl.Const at_name (Some x) value)) (sym (known_kind.same parts (PToken name ∷ PToken passed_0 ∷ behind) kind before (ap (λ (ps : List Part). drop 2 ps) shape)));
    }

pub typed_const_is : (nodes : List Node) (at : ℕ) (at_name : Lexeme) (at_kind : Lexeme) (at_value : ℕ) → IsMadeBy nodes at act.ACT_TYPED_CONST → IsTokenOf nodes at 3 at_name → IsTokenOf nodes at 2 at_kind → IsPartOf nodes at 0 at_value
    → (whole : Decl) → IsPartAt nodes at (PDecl whole) → IsTypedConst nodes at at_name at_kind at_value whole
typed_const_is nodes at at_name at_kind at_value by known_name known_kind known_value whole is =
    let o = opened nodes at (Made by.raw by.from) (PDecl whole) by.node is in
    let a = accepted act.ACT_TYPED_CONST o.parts (PDecl whole ∷ o.rest) (same_act by.raw act.ACT_TYPED_CONST o.parts by.number ∙ o.done) in
    go o.parts o.rest o.before a.0 a.1
  where
    go : (parts rest : List Part) → built (take at nodes) ≡ Some parts → has_tops (is_expr ∷ is_token ∷ is_token ∷ is_token ∷ is_token ∷ []) parts ≡ true → PDecl whole ∷ rest ≡ PDecl (made_typed_const parts) ∷ drop 5 parts → IsTypedConst nodes at at_name at_kind at_value whole
    go parts rest before h q =
        top_expr (is_token ∷ is_token ∷ is_token ∷ is_token ∷ []) parts h (λ x0 r0 e0 h0.
        top_token (is_token ∷ is_token ∷ is_token ∷ []) r0 h0 (λ x1 r1 e1 h1.
        top_token (is_token ∷ is_token ∷ []) r1 h1 (λ x2 r2 e2 h2.
        top_token (is_token ∷ []) r2 h2 (λ x3 r3 e3 h3.
        top_token ([]) r3 h3 (λ x4 r4 e4 h4.
        typed_const_end nodes at at_name at_kind at_value known_name known_kind known_value whole parts rest x0 x1 x2 x3 x4 r4 before (e0 ∙ ap (λ (ps : List Part). PExpr x0 ∷ ps) (e1 ∙ ap (λ (ps : List Part). PToken x1 ∷ ps) (e2 ∙ ap (λ (ps : List Part). PToken x2 ∷ ps) (e3 ∙ ap (λ (ps : List Part). PToken x3 ∷ ps) e4)))) q)))))

func_end : (nodes : List Node) (at : ℕ) (at_receiver : ℕ) (at_name : Lexeme) (at_params : ℕ) (at_results : ℕ) (at_body : ℕ) → IsPartOf nodes at 6 at_receiver → IsTokenOf nodes at 5 at_name → IsPartOf nodes at 3 at_params → IsPartOf nodes at 1 at_results → IsPartOf nodes at 0 at_body
    → (whole : Decl) (parts rest : List Part) (body : Block) (results : List GoType) (passed_5 : Lexeme) (params : List Group) (passed_3 : Lexeme) (name : Lexeme) (receiver : Option Receiver) (passed_0 : Lexeme) (behind : List Part) → built (take at nodes) ≡ Some parts → parts ≡ PBlock body ∷ PTypes results ∷ PToken passed_5 ∷ PGroups params ∷ PToken passed_3 ∷ PToken name ∷ PReceiver receiver ∷ PToken passed_0 ∷ behind
    → PDecl whole ∷ rest ≡ PDecl (made_func parts) ∷ drop 8 parts → IsFunc nodes at at_receiver at_name at_params at_results at_body whole
func_end nodes at at_receiver at_name at_params at_results at_body known_receiver known_name known_params known_results known_body whole parts rest body results passed_5 params passed_3 name receiver passed_0 behind before shape q =
    let made : whole ≡ made_func parts = cc in
    record {
      of_receiver = receiver;
      of_params = params;
      of_results = results;
      of_body = body;
      at_receiver = at_part nodes at 6 at_receiver parts (PToken passed_0 ∷ behind) (PReceiver receiver) known_receiver before (ap (λ (ps : List Part). drop 6 ps) shape);
      at_params = at_part nodes at 3 at_params parts (PToken passed_3 ∷ PToken name ∷ PReceiver receiver ∷ PToken passed_0 ∷ behind) (PGroups params) known_params before (ap (λ (ps : List Part). drop 3 ps) shape);
      at_results = at_part nodes at 1 at_results parts (PToken passed_5 ∷ PGroups params ∷ PToken passed_3 ∷ PToken name ∷ PReceiver receiver ∷ PToken passed_0 ∷ behind) (PTypes results) known_results before (ap (λ (ps : List Part). drop 1 ps) shape);
      at_body = at_part nodes at 0 at_body parts (PTypes results ∷ PToken passed_5 ∷ PGroups params ∷ PToken passed_3 ∷ PToken name ∷ PReceiver receiver ∷ PToken passed_0 ∷ behind) (PBlock body) known_body before (ap (λ (ps : List Part). drop 0 ps) shape);
      made = made ∙ ap (λ (ps : List Part). made_func ps) shape
          ∙ ap (λ (x : Lexeme). let y : Decl = (decl.Func (record { receiver = receiver; name = x; params = params; results = results; body = body })) in y) (sym (known_name.same parts (PReceiver receiver ∷ PToken passed_0 ∷ behind) name before (ap (λ (ps : List Part). drop 5 ps) shape)));
    }

pub func_is : (nodes : List Node) (at : ℕ) (at_receiver : ℕ) (at_name : Lexeme) (at_params : ℕ) (at_results : ℕ) (at_body : ℕ) → IsMadeBy nodes at act.ACT_FUNC → IsPartOf nodes at 6 at_receiver → IsTokenOf nodes at 5 at_name → IsPartOf nodes at 3 at_params → IsPartOf nodes at 1 at_results → IsPartOf nodes at 0 at_body
    → (whole : Decl) → IsPartAt nodes at (PDecl whole) → IsFunc nodes at at_receiver at_name at_params at_results at_body whole
func_is nodes at at_receiver at_name at_params at_results at_body by known_receiver known_name known_params known_results known_body whole is =
    let o = opened nodes at (Made by.raw by.from) (PDecl whole) by.node is in
    let a = accepted act.ACT_FUNC o.parts (PDecl whole ∷ o.rest) (same_act by.raw act.ACT_FUNC o.parts by.number ∙ o.done) in
    go o.parts o.rest o.before a.0 a.1
  where
    go : (parts rest : List Part) → built (take at nodes) ≡ Some parts → has_tops (is_block ∷ is_types ∷ is_token ∷ is_groups ∷ is_token ∷ is_token ∷ is_receiver ∷ is_token ∷ []) parts ≡ true → PDecl whole ∷ rest ≡ PDecl (made_func parts) ∷ drop 8 parts → IsFunc nodes at at_receiver at_name at_params at_results at_body whole
    go parts rest before h q =
        top_block (is_types ∷ is_token ∷ is_groups ∷ is_token ∷ is_token ∷ is_receiver ∷ is_token ∷ []) parts h (λ x0 r0 e0 h0.
        top_types (is_token ∷ is_groups ∷ is_token ∷ is_token ∷ is_receiver ∷ is_token ∷ []) r0 h0 (λ x1 r1 e1 h1.
        top_token (is_groups ∷ is_token ∷ is_token ∷ is_receiver ∷ is_token ∷ []) r1 h1 (λ x2 r2 e2 h2.
        top_groups (is_token ∷ is_token ∷ is_receiver ∷ is_token ∷ []) r2 h2 (λ x3 r3 e3 h3.
        top_token (is_token ∷ is_receiver ∷ is_token ∷ []) r3 h3 (λ x4 r4 e4 h4.
        top_token (is_receiver ∷ is_token ∷ []) r4 h4 (λ x5 r5 e5 h5.
        top_receiver (is_token ∷ []) r5 h5 (λ x6 r6 e6 h6.
        top_token ([]) r6 h6 (λ x7 r7 e7 h7.
        func_end nodes at at_receiver at_name at_params at_results at_body known_receiver known_name known_params known_results known_body whole parts rest x0 x1 x2 x3 x4 x5 x6 x7 r7 before (e0 ∙ ap (λ (ps : List Part). PBlock x0 ∷ ps) (e1 ∙ ap (λ (ps : List Part). PTypes x1 ∷ ps) (e2 ∙ ap (λ (ps : List Part). PToken x2 ∷ ps) (e3 ∙ ap (λ (ps : List Part). PGroups x3 ∷ ps) (e4 ∙ ap (λ (ps : List Part). PToken x4 ∷ ps) (e5 ∙ ap (λ (ps : List Part). PToken x5 ∷ ps) (e6 ∙ ap (λ (ps : List Part). PReceiver x6 ∷ ps) e7))))))) q))))))))
