-- Rights nodes by the acts that make them. Made by tools/nodes.py from gosyntax.grammar: edit that.
use Rattle.std.proofs.Common.{◌≡◌, ℕ, true, List, [], ◌∷◌, Some, refl, ap, ◌∙◌}
use Rattle.std.specs.Prelude.{drop, take}
use Rattle.gv_grammar.specs.Building.{has_tops}
use Rattle.gv_gosyntax.specs.declared.generated.gosyntax_acts.Part.{Part}
use Rattle.gv_gosyntax.specs.declared.generated.gosyntax_acts.Part.TheVariants.{Right as PRight, Rights as PRights, Token as PToken}
use Rattle.gv_gosyntax.specs.declared.lexeme.Lexeme.{Lexeme}
use Rattle.gv_gosyntax.specs.declared.tree.Right.{Right}
use Rattle.gv_gosyntax.specs.declared.node.Node.{Node}
use Rattle.gv_gosyntax.specs.declared.node.Node.TheVariants.{Made}
use Rattle.gv_gosyntax.specs.declared.generated.gosyntax_table.TheConstants as act
use Rattle.gv_gosyntax.specs.GosyntaxActs.{is_right, is_rights, is_token, made_no_rights, made_past_rights, made_right}
use Rattle.gv_gosyntax.specs.Nodes.{built, IsPartAt}
use Rattle.gv_gonodes.specs.Places.{IsMadeBy, IsPartOf}
use Rattle.gv_gonodes.specs.Rights.{IsRight, IsPastRights}
use Rattle.gv_gonodes.proofs.Opened.{opened, at_part, same_act}
use Rattle.gv_gonodes.proofs.Tops.{accepted, top_right, top_rights, top_token}

no_rights_end : (nodes : List Node) (at : ℕ)
    → (whole : List Right) (parts rest : List Part) (behind : List Part) → built (take at nodes) ≡ Some parts → parts ≡ behind
    → PRights whole ∷ rest ≡ PRights (made_no_rights parts) ∷ drop 0 parts → whole ≡ []
no_rights_end nodes at whole parts rest behind before shape q =
    let made : whole ≡ made_no_rights parts = cc in
    made ∙ ap (λ (ps : List Part). made_no_rights ps) shape

pub no_rights_is : (nodes : List Node) (at : ℕ) → IsMadeBy nodes at act.ACT_NO_RIGHTS
    → (whole : List Right) → IsPartAt nodes at (PRights whole) → whole ≡ []
no_rights_is nodes at by whole is =
    let o = opened nodes at (Made by.raw by.from) (PRights whole) by.node is in
    let a = accepted act.ACT_NO_RIGHTS o.parts (PRights whole ∷ o.rest) (same_act by.raw act.ACT_NO_RIGHTS o.parts by.number ∙ o.done) in
    go o.parts o.rest o.before a.0 a.1
  where
    go : (parts rest : List Part) → built (take at nodes) ≡ Some parts → has_tops ([]) parts ≡ true → PRights whole ∷ rest ≡ PRights (made_no_rights parts) ∷ drop 0 parts → whole ≡ []
    go parts rest before h q =
        no_rights_end nodes at whole parts rest parts before refl q

right_end : (nodes : List Node) (at : ℕ) (at_rights : ℕ) (at_last : ℕ) → IsPartOf nodes at 1 at_rights → IsPartOf nodes at 0 at_last
    → (whole : List Right) (parts rest : List Part) (last : Right) (rights : List Right) (behind : List Part) → built (take at nodes) ≡ Some parts → parts ≡ PRight last ∷ PRights rights ∷ behind
    → PRights whole ∷ rest ≡ PRights (made_right parts) ∷ drop 2 parts → IsRight nodes at at_rights at_last whole
right_end nodes at at_rights at_last known_rights known_last whole parts rest last rights behind before shape q =
    let made : whole ≡ made_right parts = cc in
    record {
      of_rights = rights;
      of_last = last;
      at_rights = at_part nodes at 1 at_rights parts (behind) (PRights rights) known_rights before (ap (λ (ps : List Part). drop 1 ps) shape);
      at_last = at_part nodes at 0 at_last parts (PRights rights ∷ behind) (PRight last) known_last before (ap (λ (ps : List Part). drop 0 ps) shape);
      made = made ∙ ap (λ (ps : List Part). made_right ps) shape;
    }

pub right_is : (nodes : List Node) (at : ℕ) (at_rights : ℕ) (at_last : ℕ) → IsMadeBy nodes at act.ACT_RIGHT → IsPartOf nodes at 1 at_rights → IsPartOf nodes at 0 at_last
    → (whole : List Right) → IsPartAt nodes at (PRights whole) → IsRight nodes at at_rights at_last whole
right_is nodes at at_rights at_last by known_rights known_last whole is =
    let o = opened nodes at (Made by.raw by.from) (PRights whole) by.node is in
    let a = accepted act.ACT_RIGHT o.parts (PRights whole ∷ o.rest) (same_act by.raw act.ACT_RIGHT o.parts by.number ∙ o.done) in
    go o.parts o.rest o.before a.0 a.1
  where
    go : (parts rest : List Part) → built (take at nodes) ≡ Some parts → has_tops (is_right ∷ is_rights ∷ []) parts ≡ true → PRights whole ∷ rest ≡ PRights (made_right parts) ∷ drop 2 parts → IsRight nodes at at_rights at_last whole
    go parts rest before h q =
        top_right (is_rights ∷ []) parts h (λ x0 r0 e0 h0.
        top_rights ([]) r0 h0 (λ x1 r1 e1 h1.
        right_end nodes at at_rights at_last known_rights known_last whole parts rest x0 x1 r1 before (e0 ∙ ap (λ (ps : List Part). PRight x0 ∷ ps) e1) q))

past_rights_end : (nodes : List Node) (at : ℕ) (at_rights : ℕ) → IsPartOf nodes at 1 at_rights
    → (whole : List Right) (parts rest : List Part) (passed_1 : Lexeme) (rights : List Right) (behind : List Part) → built (take at nodes) ≡ Some parts → parts ≡ PToken passed_1 ∷ PRights rights ∷ behind
    → PRights whole ∷ rest ≡ PRights (made_past_rights parts) ∷ drop 2 parts → IsPastRights nodes at at_rights whole
past_rights_end nodes at at_rights known_rights whole parts rest passed_1 rights behind before shape q =
    let made : whole ≡ made_past_rights parts = cc in
    record {
      of_rights = rights;
      at_rights = at_part nodes at 1 at_rights parts (behind) (PRights rights) known_rights before (ap (λ (ps : List Part). drop 1 ps) shape);
      made = made ∙ ap (λ (ps : List Part). made_past_rights ps) shape;
    }

pub past_rights_is : (nodes : List Node) (at : ℕ) (at_rights : ℕ) → IsMadeBy nodes at act.ACT_PAST_RIGHTS → IsPartOf nodes at 1 at_rights
    → (whole : List Right) → IsPartAt nodes at (PRights whole) → IsPastRights nodes at at_rights whole
past_rights_is nodes at at_rights by known_rights whole is =
    let o = opened nodes at (Made by.raw by.from) (PRights whole) by.node is in
    let a = accepted act.ACT_PAST_RIGHTS o.parts (PRights whole ∷ o.rest) (same_act by.raw act.ACT_PAST_RIGHTS o.parts by.number ∙ o.done) in
    go o.parts o.rest o.before a.0 a.1
  where
    go : (parts rest : List Part) → built (take at nodes) ≡ Some parts → has_tops (is_token ∷ is_rights ∷ []) parts ≡ true → PRights whole ∷ rest ≡ PRights (made_past_rights parts) ∷ drop 2 parts → IsPastRights nodes at at_rights whole
    go parts rest before h q =
        top_token (is_rights ∷ []) parts h (λ x0 r0 e0 h0.
        top_rights ([]) r0 h0 (λ x1 r1 e1 h1.
        past_rights_end nodes at at_rights known_rights whole parts rest x0 x1 r1 before (e0 ∙ ap (λ (ps : List Part). PToken x0 ∷ ps) e1) q))
