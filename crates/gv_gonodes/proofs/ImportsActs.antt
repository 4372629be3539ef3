-- Imports nodes by the acts that make them. Made by tools/nodes.py from gosyntax.grammar: edit that.
use Rattle.std.proofs.Common.{◌≡◌, ℕ, true, List, [], ◌∷◌, Some, refl, ap, ◌∙◌}
use Rattle.std.specs.Prelude.{drop, take}
use Rattle.gv_grammar.specs.Building.{has_tops}
use Rattle.gv_gosyntax.specs.declared.generated.gosyntax_acts.Part.{Part}
use Rattle.gv_gosyntax.specs.declared.generated.gosyntax_acts.Part.TheVariants.{Imports as PImports, Names as PNames, Token as PToken}
use Rattle.gv_gosyntax.specs.declared.lexeme.Lexeme.{Lexeme}
use Rattle.gv_gosyntax.specs.declared.node.Node.{Node}
use Rattle.gv_gosyntax.specs.declared.node.Node.TheVariants.{Made}
use Rattle.gv_gosyntax.specs.declared.generated.gosyntax_table.TheConstants as act
use Rattle.gv_gosyntax.specs.GosyntaxActs.{is_imports, is_names, is_token, made_import, made_no_imports}
use Rattle.gv_gosyntax.specs.Nodes.{built, IsPartAt}
use Rattle.gv_gonodes.specs.Places.{IsMadeBy, IsPartOf}
use Rattle.gv_gonodes.specs.Imports.{IsImport}
use Rattle.gv_gonodes.proofs.Opened.{opened, at_part, same_act}
use Rattle.gv_gonodes.proofs.Tops.{accepted, top_imports, top_names, top_token}

no_imports_end : (nodes : List Node) (at : ℕ)
    → (whole : List (List Lexeme)) (parts rest : List Part) (behind : List Part) → built (take at nodes) ≡ Some parts → parts ≡ behind
    → PImports whole ∷ rest ≡ PImports (made_no_imports parts) ∷ drop 0 parts → whole ≡ []
no_imports_end nodes at whole parts rest behind before shape q =
    let made : whole ≡ made_no_imports parts = cc in
    made ∙ ap (λ (ps : List Part). made_no_imports ps) shape

pub no_imports_is : (nodes : List Node) (at : ℕ) → IsMadeBy nodes at act.ACT_NO_IMPORTS
    → (whole : List (List Lexeme)) → IsPartAt nodes at (PImports whole) → whole ≡ []
no_imports_is nodes at by whole is =
    let o = opened nodes at (Made by.raw by.from) (PImports whole) by.node is in
    let a = accepted act.ACT_NO_IMPORTS o.parts (PImports whole ∷ o.rest) (same_act by.raw act.ACT_NO_IMPORTS o.parts by.number ∙ o.done) in
    go o.parts o.rest o.before a.0 a.1
  where
    go : (parts rest : List Part) → built (take at nodes) ≡ Some parts → has_tops ([]) parts ≡ true → PImports whole ∷ rest ≡ PImports (made_no_imports parts) ∷ drop 0 parts → whole ≡ []
    go parts rest before h q =
        no_imports_end nodes at whole parts rest parts before refl q

import_end : (nodes : List Node) (at : ℕ) (at_imports : ℕ) (at_texts : ℕ) → IsPartOf nodes at 3 at_imports → IsPartOf nodes at 1 at_texts
    → (whole : List (List Lexeme)) (parts rest : List Part) (passed_3 : Lexeme) (texts : List Lexeme) (passed_1 : Lexeme) (imports : List (List Lexeme)) (behind : List Part) → built (take at nodes) ≡ Some parts → parts ≡ PToken passed_3 ∷ PNames texts ∷ PToken passed_1 ∷ PImports imports ∷ behind
    → PImports whole ∷ rest ≡ PImports (made_import parts) ∷ drop 4 parts → IsImport nodes at at_imports at_texts whole
import_end nodes at at_imports at_texts known_imports known_texts whole parts rest passed_3 texts passed_1 imports behind before shape q =
    let made : whole ≡ made_import parts = cc in
    record {
      of_imports = imports;
      of_texts = texts;
      at_imports = at_part nodes at 3 at_imports parts (behind) (PImports imports) known_imports before (ap (λ (ps : List Part). drop 3 ps) shape);
      at_texts = at_part nodes at 1 at_texts parts (PToken passed_1 ∷ PImports imports ∷ behind) (PNames texts) known_texts before (ap (λ (ps : List Part). drop 1 ps) shape);
      made = made ∙ ap (λ (ps : List Part). made_import ps) shape;
    }

pub import_is : (nodes : List Node) (at : ℕ) (at_imports : ℕ) (at_texts : ℕ) → IsMadeBy nodes at act.ACT_IMPORT → IsPartOf nodes at 3 at_imports → IsPartOf nodes at 1 at_texts
    → (whole : List (List Lexeme)) → IsPartAt nodes at (PImports whole) → IsImport nodes at at_imports at_texts whole
import_is nodes at at_imports at_texts by known_imports known_texts whole is =
    let o = opened nodes at (Made by.raw by.from) (PImports whole) by.node is in
    let a = accepted act.ACT_IMPORT o.parts (PImports whole ∷ o.rest) (same_act by.raw act.ACT_IMPORT o.parts by.number ∙ o.done) in
    go o.parts o.rest o.before a.0 a.1
  where
    go : (parts rest : List Part) → built (take at nodes) ≡ Some parts → has_tops (is_token ∷ is_names ∷ is_token ∷ is_imports ∷ []) parts ≡ true → PImports whole ∷ rest ≡ PImports (made_import parts) ∷ drop 4 parts → IsImport nodes at at_imports at_texts whole
    go parts rest before h q =
        top_token (is_names ∷ is_token ∷ is_imports ∷ []) parts h (λ x0 r0 e0 h0.
        top_names (is_token ∷ is_imports ∷ []) r0 h0 (λ x1 r1 e1 h1.
        top_token (is_imports ∷ []) r1 h1 (λ x2 r2 e2 h2.
        top_imports ([]) r2 h2 (λ x3 r3 e3 h3.
        import_end nodes at at_imports at_texts known_imports known_texts whole parts rest x0 x1 x2 x3 r3 before (e0 ∙ ap (λ (ps : List Part). PToken x0 ∷ ps) (e1 ∙ ap (λ (ps : List Part). PNames x1 ∷ ps) (e2 ∙ ap (λ (ps : List Part). PToken x2 ∷ ps) e3))) q))))
