-- Groups nodes by the acts that make them. Made by tools/nodes.py from gosyntax.grammar: edit that.
use Rattle.std.proofs.Common.{◌≡◌, ℕ, true, List, [], ◌∷◌, Some, refl, ap, ◌∙◌}
use Rattle.std.specs.Prelude.{drop, take}
use Rattle.gv_grammar.specs.Building.{has_tops}
use Rattle.gv_gosyntax.specs.declared.generated.gosyntax_acts.Part.{Part}
use Rattle.gv_gosyntax.specs.declared.generated.gosyntax_acts.Part.TheVariants.{GoType as PGoType, Groups as PGroups, Names as PNames, Token as PToken}
use Rattle.gv_gosyntax.specs.declared.tree.GoType.{GoType}
use Rattle.gv_gosyntax.specs.declared.tree.Group.{Group}
use Rattle.gv_gosyntax.specs.declared.lexeme.Lexeme.{Lexeme}
use Rattle.gv_gosyntax.specs.declared.node.Node.{Node}
use Rattle.gv_gosyntax.specs.declared.node.Node.TheVariants.{Made}
use Rattle.gv_gosyntax.specs.declared.generated.gosyntax_table.TheConstants as act
use Rattle.gv_gosyntax.specs.GosyntaxActs.{is_go_type, is_groups, is_names, is_token, made_group, made_no_groups, made_past_groups}
use Rattle.gv_gosyntax.specs.Nodes.{built, IsPartAt}
use Rattle.gv_gonodes.specs.Places.{IsMadeBy, IsPartOf}
use Rattle.gv_gonodes.specs.Groups.{IsGroup, IsPastGroups}
use Rattle.gv_gonodes.proofs.Opened.{opened, at_part, same_act}
use Rattle.gv_gonodes.proofs.Tops.{accepted, top_go_type, top_groups, top_names, top_token}

no_groups_end : (nodes : List Node) (at : ℕ)
    → (whole : List Group) (parts rest : List Part) (behind : List Part) → built (take at nodes) ≡ Some parts → parts ≡ behind
    → PGroups whole ∷ rest ≡ PGroups (made_no_groups parts) ∷ drop 0 parts → whole ≡ []
no_groups_end nodes at whole parts rest behind before shape q =
    let made : whole ≡ made_no_groups parts = cc in
    made ∙ ap (λ (ps : List Part). made_no_groups ps) shape

pub no_groups_is : (nodes : List Node) (at : ℕ) → IsMadeBy nodes at act.ACT_NO_GROUPS
    → (whole : List Group) → IsPartAt nodes at (PGroups whole) → whole ≡ []
no_groups_is nodes at by whole is =
    let o = opened nodes at (Made by.raw by.from) (PGroups whole) by.node is in
    let a = accepted act.ACT_NO_GROUPS o.parts (PGroups whole ∷ o.rest) (same_act by.raw act.ACT_NO_GROUPS o.parts by.number ∙ o.done) in
    go o.parts o.rest o.before a.0 a.1
  where
    go : (parts rest : List Part) → built (take at nodes) ≡ Some parts → has_tops ([]) parts ≡ true → PGroups whole ∷ rest ≡ PGroups (made_no_groups parts) ∷ drop 0 parts → whole ≡ []
    go parts rest before h q =
        no_groups_end nodes at whole parts rest parts before refl q

group_end : (nodes : List Node) (at : ℕ) (at_groups : ℕ) (at_names : ℕ) (at_kind : ℕ) → IsPartOf nodes at 2 at_groups → IsPartOf nodes at 1 at_names → IsPartOf nodes at 0 at_kind
    → (whole : List Group) (parts rest : List Part) (kind : GoType) (names : List Lexeme) (groups : List Group) (behind : List Part) → built (take at nodes) ≡ Some parts → parts ≡ PGoType kind ∷ PNames names ∷ PGroups groups ∷ behind
    → PGroups whole ∷ rest ≡ PGroups (made_group parts) ∷ drop 3 parts → IsGroup nodes at at_groups at_names at_kind whole
group_end nodes at at_groups at_names at_kind known_groups known_names known_kind whole parts rest kind names groups behind before shape q =
    let made : whole ≡ made_group parts = cc in
    record {
      of_groups = groups;
      of_names = names;
      of_kind = kind;
      at_groups = at_part nodes at 2 at_groups parts (behind) (PGroups groups) known_groups before (ap (λ (ps : List Part). drop 2 ps) shape);
      at_names = at_part nodes at 1 at_names parts (PGroups groups ∷ behind) (PNames names) known_names before (ap (λ (ps : List Part). drop 1 ps) shape);
      at_kind = at_part nodes at 0 at_kind parts (PNames names ∷ PGroups groups ∷ behind) (PGoType kind) known_kind before (ap (λ (ps : List Part). drop 0 ps) shape);
      made = made ∙ ap (λ (ps : List Part). made_group ps) shape;
    }

pub group_is : (nodes : List Node) (at : ℕ) (at_groups : ℕ) (at_names : ℕ) (at_kind : ℕ) → IsMadeBy nodes at act.ACT_GROUP → IsPartOf nodes at 2 at_groups → IsPartOf nodes at 1 at_names → IsPartOf nodes at 0 at_kind
    → (whole : List Group) → IsPartAt nodes at (PGroups whole) → IsGroup nodes at at_groups at_names at_kind whole
group_is nodes at at_groups at_names at_kind by known_groups known_names known_kind whole is =
    let o = opened nodes at (Made by.raw by.from) (PGroups whole) by.node is in
    let a = accepted act.ACT_GROUP o.parts (PGroups whole ∷ o.rest) (same_act by.raw act.ACT_GROUP o.parts by.number ∙ o.done) in
    go o.parts o.rest o.before a.0 a.1
  where
    go : (parts rest : List Part) → built (take at nodes) ≡ Some parts → has_tops (is_go_type ∷ is_names ∷ is_groups ∷ []) parts ≡ true → PGroups whole ∷ rest ≡ PGroups (made_group parts) ∷ drop 3 parts → IsGroup nodes at at_groups at_names at_kind whole
    go parts rest before h q =
        top_go_type (is_names ∷ is_groups ∷ []) parts h (λ x0 r0 e0 h0.
        top_names (is_groups ∷ []) r0 h0 (λ x1 r1 e1 h1.
        top_groups ([]) r1 h1 (λ x2 r2 e2 h2.
        group_end nodes at at_groups at_names at_kind known_groups known_names known_kind whole parts rest x0 x1 x2 r2 before (e0 ∙ ap (λ (ps : List Part). PGoType x0 ∷ ps) (e1 ∙ ap (λ (ps : List Part). PNames x1 ∷ ps) e2)) q)))

past_groups_end : (nodes : List Node) (at : ℕ) (at_groups : ℕ) → IsPartOf nodes at 1 at_groups
    → (whole : List Group) (parts rest : List Part) (passed_1 : Lexeme) (groups : List Group) (behind : List Part) → built (take at nodes) ≡ Some parts → parts ≡ PToken passed_1 ∷ PGroups groups ∷ behind
    → PGroups whole ∷ rest ≡ PGroups (made_past_groups parts) ∷ drop 2 parts → IsPastGroups nodes at at_groups whole
past_groups_end nodes at at_groups known_groups whole parts rest passed_1 groups behind before shape q =
    let made : whole ≡ made_past_groups parts = cc in
    record {
      of_groups = groups;
      at_groups = at_part nodes at 1 at_groups parts (behind) (PGroups groups) known_groups before (ap (λ (ps : List Part). drop 1 ps) shape);
      made = made ∙ ap (λ (ps : List Part). made_past_groups ps) shape;
    }

pub past_groups_is : (nodes : List Node) (at : ℕ) (at_groups : ℕ) → IsMadeBy nodes at act.ACT_PAST_GROUPS → IsPartOf nodes at 1 at_groups
    → (whole : List Group) → IsPartAt nodes at (PGroups whole) → IsPastGroups nodes at at_groups whole
past_groups_is nodes at at_groups by known_groups whole is =
    let o = opened nodes at (Made by.raw by.from) (PGroups whole) by.node is in
    let a = accepted act.ACT_PAST_GROUPS o.parts (PGroups whole ∷ o.rest) (same_act by.raw act.ACT_PAST_GROUPS o.parts by.number ∙ o.done) in
    go o.parts o.rest o.before a.0 a.1
  where
    go : (parts rest : List Part) → built (take at nodes) ≡ Some parts → has_tops (is_token ∷ is_groups ∷ []) parts ≡ true → PGroups whole ∷ rest ≡ PGroups (made_past_groups parts) ∷ drop 2 parts → IsPastGroups nodes at at_groups whole
    go parts rest before h q =
        top_token (is_groups ∷ []) parts h (λ x0 r0 e0 h0.
        top_groups ([]) r0 h0 (λ x1 r1 e1 h1.
        past_groups_end nodes at at_groups known_groups whole parts rest x0 x1 r1 before (e0 ∙ ap (λ (ps : List Part). PToken x0 ∷ ps) e1) q))
