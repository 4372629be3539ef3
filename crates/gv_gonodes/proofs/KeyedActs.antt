-- Keyed nodes by the acts that make them. Made by tools/nodes.py from gosyntax.grammar: edit that.
use Rattle.std.proofs.Common.{◌≡◌, ℕ, true, List, [], ◌∷◌, ◌++◌, Some, refl, sym, ap, ◌∙◌}
use Rattle.std.specs.Prelude.{drop, take}
use Rattle.gv_grammar.specs.Building.{has_tops}
use Rattle.gv_gosyntax.specs.declared.generated.gosyntax_acts.Part.{Part}
use Rattle.gv_gosyntax.specs.declared.generated.gosyntax_acts.Part.TheVariants.{Expr as PExpr, Keyed as PKeyed, Token as PToken}
use Rattle.gv_gosyntax.specs.declared.tree.Expr.{Expr}
use Rattle.gv_gosyntax.specs.declared.tree.KeyedExpr.{KeyedExpr}
use Rattle.gv_gosyntax.specs.declared.lexeme.Lexeme.{Lexeme}
use Rattle.gv_gosyntax.specs.declared.node.Node.{Node}
use Rattle.gv_gosyntax.specs.declared.node.Node.TheVariants.{Made}
use Rattle.gv_gosyntax.specs.declared.generated.gosyntax_table.TheConstants as act
use Rattle.gv_gosyntax.specs.GosyntaxActs.{is_expr, is_keyed, is_token, made_keyed, made_no_keyed, made_past_keyed}
use Rattle.gv_gosyntax.specs.Nodes.{built, IsPartAt}
use Rattle.gv_gonodes.specs.Places.{IsMadeBy, IsPartOf, IsTokenOf}
use Rattle.gv_gonodes.specs.Keyed.{IsKeyed, IsPastKeyed}
use Rattle.gv_gonodes.proofs.Opened.{opened, at_part, same_act}
use Rattle.gv_gonodes.proofs.Tops.{accepted, top_expr, top_keyed, top_token}

no_keyed_end : (nodes : List Node) (at : ℕ)
    → (whole : List KeyedExpr) (parts rest : List Part) (behind : List Part) → built (take at nodes) ≡ Some parts → parts ≡ behind
    → PKeyed whole ∷ rest ≡ PKeyed (made_no_keyed parts) ∷ drop 0 parts → whole ≡ []
no_keyed_end nodes at whole parts rest behind before shape q =
    let made : whole ≡ made_no_keyed parts = cc in
    made ∙ ap (λ (ps : List Part). made_no_keyed ps) shape

pub no_keyed_is : (nodes : List Node) (at : ℕ) → IsMadeBy nodes at act.ACT_NO_KEYED
    → (whole : List KeyedExpr) → IsPartAt nodes at (PKeyed whole) → whole ≡ []
no_keyed_is nodes at by whole is =
    let o = opened nodes at (Made by.raw by.from) (PKeyed whole) by.node is in
    let a = accepted act.ACT_NO_KEYED o.parts (PKeyed whole ∷ o.rest) (same_act by.raw act.ACT_NO_KEYED o.parts by.number ∙ o.done) in
    go o.parts o.rest o.before a.0 a.1
  where
    go : (parts rest : List Part) → built (take at nodes) ≡ Some parts → has_tops ([]) parts ≡ true → PKeyed whole ∷ rest ≡ PKeyed (made_no_keyed parts) ∷ drop 0 parts → whole ≡ []
    go parts rest before h q =
        no_keyed_end nodes at whole parts rest parts before refl q

keyed_end : (nodes : List Node) (at : ℕ) (at_fields : ℕ) (at_key : Lexeme) (at_value : ℕ) → IsPartOf nodes at 3 at_fields → IsTokenOf nodes at 2 at_key → IsPartOf nodes at 0 at_value
    → (whole : List KeyedExpr) (parts rest : List Part) (value : Expr) (passed_2 : Lexeme) (key : Lexeme) (fields : List KeyedExpr) (behind : List Part) → built (take at nodes) ≡ Some parts → parts ≡ PExpr value ∷ PToken passed_2 ∷ PToken key ∷ PKeyed fields ∷ behind
    → PKeyed whole ∷ rest ≡ PKeyed (made_keyed parts) ∷ drop 4 parts → IsKeyed nodes at at_fields at_key at_value whole
keyed_end nodes at at_fields at_key at_value known_fields known_key known_value whole parts rest value passed_2 key fields behind before shape q =
    let made : whole ≡ made_keyed parts = cc in
    record {
      of_fields = fields;
      of_value = value;
      at_fields = at_part nodes at 3 at_fields parts (behind) (PKeyed fields) known_fields before (ap (λ (ps : List Part). drop 3 ps) shape);
      at_value = at_part nodes at 0 at_value parts (PToken passed_2 ∷ PToken key ∷ PKeyed fields ∷ behind) (PExpr value) known_value before (ap (λ (ps : List Part). drop 0 ps) shape);
      made = made ∙ ap (λ (ps : List Part). made_keyed ps) shape
          ∙ ap (λ (x : Lexeme). let y : List KeyedExpr = (fields ++ (record { key = x; value = value }) ∷ []) in y) (sym (known_key.same parts (PKeyed fields ∷ behind) key before (ap (λ (ps : List Part). drop 2 ps) shape)));
    }

pub keyed_is : (nodes : List Node) (at : ℕ) (at_fields : ℕ) (at_key : Lexeme) (at_value : ℕ) → IsMadeBy nodes at act.ACT_KEYED → IsPartOf nodes at 3 at_fields → IsTokenOf nodes at 2 at_key → IsPartOf nodes at 0 at_value
    → (whole : List KeyedExpr) → IsPartAt nodes at (PKeyed whole) → IsKeyed nodes at at_fields at_key at_value whole
keyed_is nodes at at_fields at_key at_value by known_fields known_key known_value whole is =
    let o = opened nodes at (Made by.raw by.from) (PKeyed whole) by.node is in
    let a = accepted act.ACT_KEYED o.parts (PKeyed whole ∷ o.rest) (same_act by.raw act.ACT_KEYED o.parts by.number ∙ o.done) in
    go o.parts o.rest o.before a.0 a.1
  where
    go : (parts rest : List Part) → built (take at nodes) ≡ Some parts → has_tops (is_expr ∷ is_token ∷ is_token ∷ is_keyed ∷ []) parts ≡ true → PKeyed whole ∷ rest ≡ PKeyed (made_keyed parts) ∷ drop 4 parts → IsKeyed nodes at at_fields at_key at_value whole
    go parts rest before h q =
        top_expr (is_token ∷ is_token ∷ is_keyed ∷ []) parts h (λ x0 r0 e0 h0.
        top_token (is_token ∷ is_keyed ∷ []) r0 h0 (λ x1 r1 e1 h1.
        top_token (is_keyed ∷ []) r1 h1 (λ x2 r2 e2 h2.
        top_keyed ([]) r2 h2 (λ x3 r3 e3 h3.
        keyed_end nodes at at_fields at_key at_value known_fields known_key known_value whole parts rest x0 x1 x2 x3 r3 before (e0 ∙ ap (λ (ps : List Part). PExpr x0 ∷ ps) (e1 ∙ ap (λ (ps : List Part). PToken x1 ∷ ps) (e2 ∙ ap (λ (ps : List Part). PToken x2 ∷ ps) e3))) q))))

past_keyed_end : (nodes : List Node) (at : ℕ) (at_fields : ℕ) → IsPartOf nodes at 1 at_fields
    → (whole : List KeyedExpr) (parts rest : List Part) (passed_1 : Lexeme) (fields : List KeyedExpr) (behind : List Part) → built (take at nodes) ≡ Some parts → parts ≡ PToken passed_1 ∷ PKeyed fields ∷ behind
    → PKeyed whole ∷ rest ≡ PKeyed (made_past_keyed parts) ∷ drop 2 parts → IsPastKeyed nodes at at_fields whole
past_keyed_end nodes at at_fields known_fields whole parts rest passed_1 fields behind before shape q =
    let made : whole ≡ made_past_keyed parts = cc in
    record {
      of_fields = fields;
      at_fields = at_part nodes at 1 at_fields parts (behind) (PKeyed fields) known_fields before (ap (λ (ps : List Part). drop 1 ps) shape);
      made = made ∙ ap (λ (ps : List Part). made_past_keyed ps) shape;
    }

pub past_keyed_is : (nodes : List Node) (at : ℕ) (at_fields : ℕ) → IsMadeBy nodes at act.ACT_PAST_KEYED → IsPartOf nodes at 1 at_fields
    → (whole : List KeyedExpr) → IsPartAt nodes at (PKeyed whole) → IsPastKeyed nodes at at_fields whole
past_keyed_is nodes at at_fields by known_fields whole is =
    let o = opened nodes at (Made by.raw by.from) (PKeyed whole) by.node is in
    let a = accepted act.ACT_PAST_KEYED o.parts (PKeyed whole ∷ o.rest) (same_act by.raw act.ACT_PAST_KEYED o.parts by.number ∙ o.done) in
    go o.parts o.rest o.before a.0 a.1
  where
    go : (parts rest : List Part) → built (take at nodes) ≡ Some parts → has_tops (is_token ∷ is_keyed ∷ []) parts ≡ true → PKeyed whole ∷ rest ≡ PKeyed (made_past_keyed parts) ∷ drop 2 parts → IsPastKeyed nodes at at_fields whole
    go parts rest before h q =
        top_token (is_keyed ∷ []) parts h (λ x0 r0 e0 h0.
        top_keyed ([]) r0 h0 (λ x1 r1 e1 h1.
        past_keyed_end nodes at at_fields known_fields whole parts rest x0 x1 r1 before (e0 ∙ ap (λ (ps : List Part). PToken x0 ∷ ps) e1) q))
