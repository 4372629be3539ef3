-- Names nodes by the acts that make them. Made by tools/nodes.py from gosyntax.grammar: edit that.
use Rattle.std.proofs.Common.{◌≡◌, ℕ, true, List, [], ◌∷◌, ◌++◌, Some, refl, sym, ap, ◌∙◌}
use Rattle.std.specs.Prelude.{drop, take}
use Rattle.gv_grammar.specs.Building.{has_tops}
use Rattle.gv_gosyntax.specs.declared.generated.gosyntax_acts.Part.{Part}
use Rattle.gv_gosyntax.specs.declared.generated.gosyntax_acts.Part.TheVariants.{Names as PNames, Token as PToken}
use Rattle.gv_gosyntax.specs.declared.lexeme.Lexeme.{Lexeme}
use Rattle.gv_gosyntax.specs.declared.node.Node.{Node}
use Rattle.gv_gosyntax.specs.declared.node.Node.TheVariants.{Made}
use Rattle.gv_gosyntax.specs.declared.generated.gosyntax_table.TheConstants as act
use Rattle.gv_gosyntax.specs.GosyntaxActs.{is_names, is_token, made_in_parens, made_name, made_no_names, made_past_names}
use Rattle.gv_gosyntax.specs.Nodes.{built, IsPartAt}
use Rattle.gv_gonodes.specs.Places.{IsMadeBy, IsPartOf, IsTokenOf}
use Rattle.gv_gonodes.specs.Names.{IsName, IsPastNames, IsInParens}
use Rattle.gv_gonodes.proofs.Opened.{opened, at_part, same_act}
use Rattle.gv_gonodes.proofs.Tops.{accepted, top_names, top_token}

no_names_end : (nodes : List Node) (at : ℕ)
    → (whole : List Lexeme) (parts rest : List Part) (behind : List Part) → built (take at nodes) ≡ Some parts → parts ≡ behind
    → PNames whole ∷ rest ≡ PNames (made_no_names parts) ∷ drop 0 parts → whole ≡ []
no_names_end nodes at whole parts rest behind before shape q =
    let made : whole ≡ made_no_names parts = cc in
    made ∙ ap (λ (ps : List Part). made_no_names ps) shape

pub no_names_is : (nodes : List Node) (at : ℕ) → IsMadeBy nodes at act.ACT_NO_NAMES
    → (whole : List Lexeme) → IsPartAt nodes at (PNames whole) → whole ≡ []
no_names_is nodes at by whole is =
    let o = opened nodes at (Made by.raw by.from) (PNames whole) by.node is in
    let a = accepted act.ACT_NO_NAMES o.parts (PNames whole ∷ o.rest) (same_act by.raw act.ACT_NO_NAMES o.parts by.number ∙ o.done) in
    go o.parts o.rest o.before a.0 a.1
  where
    go : (parts rest : List Part) → built (take at nodes) ≡ Some parts → has_tops ([]) parts ≡ true → PNames whole ∷ rest ≡ PNames (made_no_names parts) ∷ drop 0 parts → whole ≡ []
    go parts rest before h q =
        no_names_end nodes at whole parts rest parts before refl q

name_end : (nodes : List Node) (at : ℕ) (at_names : ℕ) (at_name : Lexeme) → IsPartOf nodes at 1 at_names → IsTokenOf nodes at 0 at_name
    → (whole : List Lexeme) (parts rest : List Part) (name : Lexeme) (names : List Lexeme) (behind : List Part) → built (take at nodes) ≡ Some parts → parts ≡ PToken name ∷ PNames names ∷ behind
    → PNames whole ∷ rest ≡ PNames (made_name parts) ∷ drop 2 parts → IsName nodes at at_names at_name whole
name_end nodes at at_names at_name known_names known_name whole parts rest name names behind before shape q =
    let made : whole ≡ made_name parts = cc in
    record {
      of_names = names;
      at_names = at_part nodes at 1 at_names parts (behind) (PNames names) known_names before (ap (λ (ps : List Part). drop 1 ps) shape);
      made = made ∙ ap (λ (ps : List Part). made_name ps) shape
          ∙ ap (λ (x : Lexeme). (names ++ x ∷ [])) (sym (known_name.same parts (PNames names ∷ behind) name before (ap (λ (ps : List Part). drop 0 ps) shape)));
    }

pub name_is : (nodes : List Node) (at : ℕ) (at_names : ℕ) (at_name : Lexeme) → IsMadeBy nodes at act.ACT_NAME → IsPartOf nodes at 1 at_names → IsTokenOf nodes at 0 at_name
    → (whole : List Lexeme) → IsPartAt nodes at (PNames whole) → IsName nodes at at_names at_name whole
name_is nodes at at_names at_name by known_names known_name whole is =
    let o = opened nodes at (Made by.raw by.from) (PNames whole) by.node is in
    let a = accepted act.ACT_NAME o.parts (PNames whole ∷ o.rest) (same_act by.raw act.ACT_NAME o.parts by.number ∙ o.done) in
    go o.parts o.rest o.before a.0 a.1
  where
    go : (parts rest : List Part) → built (take at nodes) ≡ Some parts → has_tops (is_token ∷ is_names ∷ []) parts ≡ true → PNames whole ∷ rest ≡ PNames (made_name parts) ∷ drop 2 parts → IsName nodes at at_names at_name whole
    go parts rest before h q =
        top_token (is_names ∷ []) parts h (λ x0 r0 e0 h0.
        top_names ([]) r0 h0 (λ x1 r1 e1 h1.
        name_end nodes at at_names at_name known_names known_name whole parts rest x0 x1 r1 before (e0 ∙ ap (λ (ps : List Part). PToken x0 ∷ ps) e1) q))

past_names_end : (nodes : List Node) (at : ℕ) (at_names : ℕ) → IsPartOf nodes at 1 at_names
    → (whole : List Lexeme) (parts rest : List Part) (passed_1 : Lexeme) (names : List Lexeme) (behind : List Part) → built (take at nodes) ≡ Some parts → parts ≡ PToken passed_1 ∷ PNames names ∷ behind
    → PNames whole ∷ rest ≡ PNames (made_past_names parts) ∷ drop 2 parts → IsPastNames nodes at at_names whole
past_names_end nodes at at_names known_names whole parts rest passed_1 names behind before shape q =
    let made : whole ≡ made_past_names parts = cc in
    record {
      of_names = names;
      at_names = at_part nodes at 1 at_names parts (behind) (PNames names) known_names before (ap (λ (ps : List Part). drop 1 ps) shape);
      made = made ∙ ap (λ (ps : List Part). made_past_names ps) shape;
    }

pub past_names_is : (nodes : List Node) (at : ℕ) (at_names : ℕ) → IsMadeBy nodes at act.ACT_PAST_NAMES → IsPartOf nodes at 1 at_names
    → (whole : List Lexeme) → IsPartAt nodes at (PNames whole) → IsPastNames nodes at at_names whole
past_names_is nodes at at_names by known_names whole is =
    let o = opened nodes at (Made by.raw by.from) (PNames whole) by.node is in
    let a = accepted act.ACT_PAST_NAMES o.parts (PNames whole ∷ o.rest) (same_act by.raw act.ACT_PAST_NAMES o.parts by.number ∙ o.done) in
    go o.parts o.rest o.before a.0 a.1
  where
    go : (parts rest : List Part) → built (take at nodes) ≡ Some parts → has_tops (is_token ∷ is_names ∷ []) parts ≡ true → PNames whole ∷ rest ≡ PNames (made_past_names parts) ∷ drop 2 parts → IsPastNames nodes at at_names whole
    go parts rest before h q =
        top_token (is_names ∷ []) parts h (λ x0 r0 e0 h0.
        top_names ([]) r0 h0 (λ x1 r1 e1 h1.
        past_names_end nodes at at_names known_names whole parts rest x0 x1 r1 before (e0 ∙ ap (λ (ps : List Part). PToken x0 ∷ ps) e1) q))

in_parens_end : (nodes : List Node) (at : ℕ) (at_names : ℕ) → IsPartOf nodes at 1 at_names
    → (whole : List Lexeme) (parts rest : List Part) (passed_2 : Lexeme) (names : List Lexeme) (passed_0 : Lexeme) (behind : List Part) → built (take at nodes) ≡ Some parts → parts ≡ PToken passed_2 ∷ PNames names ∷ PToken passed_0 ∷ behind
    → PNames whole ∷ rest ≡ PNames (made_in_parens parts) ∷ drop 3 parts → IsInParens nodes at at_names whole
in_parens_end nodes at at_names known_names whole parts rest passed_2 names passed_0 behind before shape q =
    let made : whole ≡ made_in_parens parts = cc in
    record {
      of_names = names;
      at_names = at_part nodes at 1 at_names parts (PToken passed_0 ∷ behind) (PNames names) known_names before (ap (λ (ps : List Part). drop 1 ps) shape);
      made = made ∙ ap (λ (ps : List Part). made_in_parens ps) shape;
    }

pub in_parens_is : (nodes : List Node) (at : ℕ) (at_names : ℕ) → IsMadeBy nodes at act.ACT_IN_PARENS → IsPartOf nodes at 1 at_names
    → (whole : List Lexeme) → IsPartAt nodes at (PNames whole) → IsInParens nodes at at_names whole
in_parens_is nodes at at_names by known_names whole is =
    let o = opened nodes at (Made by.raw by.from) (PNames whole) by.node is in
    let a = accepted act.ACT_IN_PARENS o.parts (PNames whole ∷ o.rest) (same_act by.raw act.ACT_IN_PARENS o.parts by.number ∙ o.done) in
    go o.parts o.rest o.before a.0 a.1
  where
    go : (parts rest : List Part) → built (take at nodes) ≡ Some parts → has_tops (is_token ∷ is_names ∷ is_token ∷ []) parts ≡ true → PNames whole ∷ rest ≡ PNames (made_in_parens parts) ∷ drop 3 parts → IsInParens nodes at at_names whole
    go parts rest before h q =
        top_token (is_names ∷ is_token ∷ []) parts h (λ x0 r0 e0 h0.
        top_names (is_token ∷ []) r0 h0 (λ x1 r1 e1 h1.
        top_token ([]) r1 h1 (λ x2 r2 e2 h2.
        in_parens_end nodes at at_names known_names whole parts rest x0 x1 x2 r2 before (e0 ∙ ap (λ (ps : List Part). PToken x0 ∷ ps) (e1 ∙ ap (λ (ps : List Part). PNames x1 ∷ ps) e2)) q)))
