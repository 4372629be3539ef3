-- Types nodes by the acts that make them. Made by tools/nodes.py from gosyntax.grammar: edit that.
use Rattle.std.proofs.Common.{◌≡◌, ℕ, true, List, [], ◌∷◌, Some, refl, ap, ◌∙◌}
use Rattle.std.specs.Prelude.{drop, take}
use Rattle.gv_grammar.specs.Building.{has_tops}
use Rattle.gv_gosyntax.specs.declared.generated.gosyntax_acts.Part.{Part}
use Rattle.gv_gosyntax.specs.declared.generated.gosyntax_acts.Part.TheVariants.{GoType as PGoType, Token as PToken, Types as PTypes}
use Rattle.gv_gosyntax.specs.declared.tree.GoType.{GoType}
use Rattle.gv_gosyntax.specs.declared.lexeme.Lexeme.{Lexeme}
use Rattle.gv_gosyntax.specs.declared.node.Node.{Node}
use Rattle.gv_gosyntax.specs.declared.node.Node.TheVariants.{Made}
use Rattle.gv_gosyntax.specs.declared.generated.gosyntax_table.TheConstants as act
use Rattle.gv_gosyntax.specs.GosyntaxActs.{is_go_type, is_token, is_types, made_no_types, made_past_types, made_type}
use Rattle.gv_gosyntax.specs.Nodes.{built, IsPartAt}
use Rattle.gv_gonodes.specs.Places.{IsMadeBy, IsPartOf}
use Rattle.gv_gonodes.specs.Types.{IsType, IsPastTypes}
use Rattle.gv_gonodes.proofs.Opened.{opened, at_part, same_act}
use Rattle.gv_gonodes.proofs.Tops.{accepted, top_go_type, top_token, top_types}

no_types_end : (nodes : List Node) (at : ℕ)
    → (whole : List GoType) (parts rest : List Part) (behind : List Part) → built (take at nodes) ≡ Some parts → parts ≡ behind
    → PTypes whole ∷ rest ≡ PTypes (made_no_types parts) ∷ drop 0 parts → whole ≡ []
no_types_end nodes at whole parts rest behind before shape q =
    let made : whole ≡ made_no_types parts = cc in
    made ∙ ap (λ (ps : List Part). made_no_types ps) shape

pub no_types_is : (nodes : List Node) (at : ℕ) → IsMadeBy nodes at act.ACT_NO_TYPES
    → (whole : List GoType) → IsPartAt nodes at (PTypes whole) → whole ≡ []
no_types_is nodes at by whole is =
    let o = opened nodes at (Made by.raw by.from) (PTypes whole) by.node is in
    let a = accepted act.ACT_NO_TYPES o.parts (PTypes whole ∷ o.rest) (same_act by.raw act.ACT_NO_TYPES o.parts by.number ∙ o.done) in
    go o.parts o.rest o.before a.0 a.1
  where
    go : (parts rest : List Part) → built (take at nodes) ≡ Some parts → has_tops ([]) parts ≡ true → PTypes whole ∷ rest ≡ PTypes (made_no_types parts) ∷ drop 0 parts → whole ≡ []
    go parts rest before h q =
        no_types_end nodes at whole parts rest parts before refl q

type_end : (nodes : List Node) (at : ℕ) (at_types : ℕ) (at_kind : ℕ) → IsPartOf nodes at 1 at_types → IsPartOf nodes at 0 at_kind
    → (whole : List GoType) (parts rest : List Part) (kind : GoType) (types : List GoType) (behind : List Part) → built (take at nodes) ≡ Some parts → parts ≡ PGoType kind ∷ PTypes types ∷ behind
    → PTypes whole ∷ rest ≡ PTypes (made_type parts) ∷ drop 2 parts → IsType nodes at at_types at_kind whole
type_end nodes at at_types at_kind known_types known_kind whole parts rest kind types behind before shape q =
    let made : whole ≡ made_type parts = cc in
    record {
      of_types = types;
      of_kind = kind;
      at_types = at_part nodes at 1 at_types parts (behind) (PTypes types) known_types before (ap (λ (ps : List Part). drop 1 ps) shape);
      at_kind = at_part nodes at 0 at_kind parts (PTypes types ∷ behind) (PGoType kind) known_kind before (ap (λ (ps : List Part). drop 0 ps) shape);
      made = made ∙ ap (λ (ps : List Part). made_type ps) shape;
    }

pub type_is : (nodes : List Node) (at : ℕ) (at_types : ℕ) (at_kind : ℕ) → IsMadeBy nodes at act.ACT_TYPE → IsPartOf nodes at 1 at_types → IsPartOf nodes at 0 at_kind
    → (whole : List GoType) → IsPartAt nodes at (PTypes whole) → IsType nodes at at_types at_kind whole
type_is nodes at at_types at_kind by known_types known_kind whole is =
    let o = opened nodes at (Made by.raw by.from) (PTypes whole) by.node is in
    let a = accepted act.ACT_TYPE o.parts (PTypes whole ∷ o.rest) (same_act by.raw act.ACT_TYPE o.parts by.number ∙ o.done) in
    go o.parts o.rest o.before a.0 a.1
  where
    go : (parts rest : List Part) → built (take at nodes) ≡ Some parts → has_tops (is_go_type ∷ is_types ∷ []) parts ≡ true → PTypes whole ∷ rest ≡ PTypes (made_type parts) ∷ drop 2 parts → IsType nodes at at_types at_kind whole
    go parts rest before h q =
        top_go_type (is_types ∷ []) parts h (λ x0 r0 e0 h0.
        top_types ([]) r0 h0 (λ x1 r1 e1 h1.
        type_end nodes at at_types at_kind known_types known_kind whole parts rest x0 x1 r1 before (e0 ∙ ap (λ (ps : List Part). PGoType x0 ∷ ps) e1) q))

past_types_end : (nodes : List Node) (at : ℕ) (at_types : ℕ) → IsPartOf nodes at 1 at_types
    → (whole : List GoType) (parts rest : List Part) (passed_1 : Lexeme) (types : List GoType) (behind : List Part) → built (take at nodes) ≡ Some parts → parts ≡ PToken passed_1 ∷ PTypes types ∷ behind
    → PTypes whole ∷ rest ≡ PTypes (made_past_types parts) ∷ drop 2 parts → IsPastTypes nodes at at_types whole
past_types_end nodes at at_types known_types whole parts rest passed_1 types behind before shape q =
    let made : whole ≡ made_past_types parts = cc in
    record {
      of_types = types;
      at_types = at_part nodes at 1 at_types parts (behind) (PTypes types) known_types before (ap (λ (ps : List Part). drop 1 ps) shape);
      made = made ∙ ap (λ (ps : List Part). made_past_types ps) shape;
    }

pub past_types_is : (nodes : List Node) (at : ℕ) (at_types : ℕ) → IsMadeBy nodes at act.ACT_PAST_TYPES → IsPartOf nodes at 1 at_types
    → (whole : List GoType) → IsPartAt nodes at (PTypes whole) → IsPastTypes nodes at at_types whole
past_types_is nodes at at_types by known_types whole is =
    let o = opened nodes at (Made by.raw by.from) (PTypes whole) by.node is in
    let a = accepted act.ACT_PAST_TYPES o.parts (PTypes whole ∷ o.rest) (same_act by.raw act.ACT_PAST_TYPES o.parts by.number ∙ o.done) in
    go o.parts o.rest o.before a.0 a.1
  where
    go : (parts rest : List Part) → built (take at nodes) ≡ Some parts → has_tops (is_token ∷ is_types ∷ []) parts ≡ true → PTypes whole ∷ rest ≡ PTypes (made_past_types parts) ∷ drop 2 parts → IsPastTypes nodes at at_types whole
    go parts rest before h q =
        top_token (is_types ∷ []) parts h (λ x0 r0 e0 h0.
        top_types ([]) r0 h0 (λ x1 r1 e1 h1.
        past_types_end nodes at at_types known_types whole parts rest x0 x1 r1 before (e0 ∙ ap (λ (ps : List Part). PToken x0 ∷ ps) e1) q))
