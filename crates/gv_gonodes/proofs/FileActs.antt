-- File nodes by the acts that make them. Made by tools/nodes.py from gosyntax.grammar: edit that.
use Rattle.std.proofs.Common.{◌≡◌, ℕ, true, List, [], ◌∷◌, Some, sym, ap, ◌∙◌}
use Rattle.std.specs.Prelude.{drop, take}
use Rattle.gv_grammar.specs.Building.{has_tops}
use Rattle.gv_gosyntax.specs.declared.generated.gosyntax_acts.Part.{Part}
use Rattle.gv_gosyntax.specs.declared.generated.gosyntax_acts.Part.TheVariants.{Decls as PDecls, File as PFile, Imports as PImports, Token as PToken}
use Rattle.gv_gosyntax.specs.declared.tree.Decl.{Decl}
use Rattle.gv_gosyntax.specs.declared.tree.File.{File}
use Rattle.gv_gosyntax.specs.declared.lexeme.Lexeme.{Lexeme}
use Rattle.gv_gosyntax.specs.declared.node.Node.{Node}
use Rattle.gv_gosyntax.specs.declared.node.Node.TheVariants.{Made}
use Rattle.gv_gosyntax.specs.declared.generated.gosyntax_table.TheConstants as act
use Rattle.gv_gosyntax.specs.GosyntaxActs.{is_decls, is_imports, is_token, made_file}
use Rattle.gv_gosyntax.specs.Nodes.{built, IsPartAt}
use Rattle.gv_gonodes.specs.Places.{IsMadeBy, IsPartOf, IsTokenOf}
use Rattle.gv_gonodes.specs.File.{IsFile}
use Rattle.gv_gonodes.proofs.Opened.{opened, at_part, same_act}
use Rattle.gv_gonodes.proofs.Tops.{accepted, top_decls, top_imports, top_token}

file_end : (nodes : List Node) (at : ℕ) (at_name : Lexeme) (at_imports : ℕ) (at_decls : ℕ) → IsTokenOf nodes at 3 at_name → IsPartOf nodes at 1 at_imports → IsPartOf nodes at 0 at_decls
    → (whole : File) (parts rest : List Part) (decls : List Decl) (imports : List (List Lexeme)) (passed_2 : Lexeme) (name : Lexeme) (passed_0 : Lexeme) (behind : List Part) → built (take at nodes) ≡ Some parts → parts ≡ PDecls decls ∷ PImports imports ∷ PToken passed_2 ∷ PToken name ∷ PToken passed_0 ∷ behind
    → PFile whole ∷ rest ≡ PFile (made_file parts) ∷ drop 5 parts → IsFile nodes at at_name at_imports at_decls whole
file_end nodes at at_name at_imports at_decls known_name known_imports known_decls whole parts rest decls imports passed_2 name passed_0 behind before shape q =
    let made : whole ≡ made_file parts = cc in
    record {
      of_imports = imports;
      of_decls = decls;
      at_imports = at_part nodes at 1 at_imports parts (PToken passed_2 ∷ PToken name ∷ PToken passed_0 ∷ behind) (PImports imports) known_imports before (ap (λ (ps : List Part). drop 1 ps) shape);
      at_decls = at_part nodes at 0 at_decls parts (PImports imports ∷ PToken passed_2 ∷ PToken name ∷ PToken passed_0 ∷ behind) (PDecls decls) known_decls before (ap (λ (ps : List Part). drop 0 ps) shape);
      made = made ∙ ap (λ (ps : List Part). made_file ps) shape
          ∙ ap (λ (x : Lexeme). let y : File = (record { name = x; imports = imports; decls = decls }) in y) (sym (known_name.same parts (PToken passed_0 ∷ behind) name before (ap (λ (ps : List Part). drop 3 ps) shape)));
    }

pub file_is : (nodes : List Node) (at : ℕ) (at_name : Lexeme) (at_imports : ℕ) (at_decls : ℕ) → IsMadeBy nodes at act.ACT_FILE → IsTokenOf nodes at 3 at_name → IsPartOf nodes at 1 at_imports → IsPartOf nodes at 0 at_decls
    → (whole : File) → IsPartAt nodes at (PFile whole) → IsFile nodes at at_name at_imports at_decls whole
file_is nodes at at_name at_imports at_decls by known_name known_imports known_decls whole is =
    let o = opened nodes at (Made by.raw by.from) (PFile whole) by.node is in
    let a = accepted act.ACT_FILE o.parts (PFile whole ∷ o.rest) (same_act by.raw act.ACT_FILE o.parts by.number ∙ o.done) in
    go o.parts o.rest o.before a.0 a.1
  where
    go : (parts rest : List Part) → built (take at nodes) ≡ Some parts → has_tops (is_decls ∷ is_imports ∷ is_token ∷ is_token ∷ is_token ∷ []) parts ≡ true → PFile whole ∷ rest ≡ PFile (made_file parts) ∷ drop 5 parts → IsFile nodes at at_name at_imports at_decls whole
    go parts rest before h q =
        top_decls (is_imports ∷ is_token ∷ is_token ∷ is_token ∷ []) parts h (λ x0 r0 e0 h0.
        top_imports (is_token ∷ is_token ∷ is_token ∷ []) r0 h0 (λ x1 r1 e1 h1.
        top_token (is_token ∷ is_token ∷ []) r1 h1 (λ x2 r2 e2 h2.
        top_token (is_token ∷ []) r2 h2 (λ x3 r3 e3 h3.
        top_token ([]) r3 h3 (λ x4 r4 e4 h4.
        file_end nodes at at_name at_imports at_decls known_name known_imports known_decls whole parts rest x0 x1 x2 x3 x4 r4 before (e0 ∙ ap (λ (ps : List Part). PDecls x0 ∷ ps) (e1 ∙ ap (λ (ps : List Part). PImports x1 ∷ ps) (e2 ∙ ap (λ (ps : List Part). PToken x2 ∷ ps) (e3 ∙ ap (λ (ps : List Part). PToken x3 ∷ ps) e4)))) q)))))
