-- Decls nodes by the acts that make them. Made by tools/nodes.py from gosyntax.grammar: edit that.
use Rattle.std.proofs.Common.{◌≡◌, ℕ, true, List, [], ◌∷◌, Some, refl, ap, ◌∙◌}
use Rattle.std.specs.Prelude.{drop, take}
use Rattle.gv_grammar.specs.Building.{has_tops}
use Rattle.gv_gosyntax.specs.declared.generated.gosyntax_acts.Part.{Part}
use Rattle.gv_gosyntax.specs.declared.generated.gosyntax_acts.Part.TheVariants.{Decl as PDecl, Decls as PDecls, Token as PToken}
use Rattle.gv_gosyntax.specs.declared.tree.Decl.{Decl}
use Rattle.gv_gosyntax.specs.declared.lexeme.Lexeme.{Lexeme}
use Rattle.gv_gosyntax.specs.declared.node.Node.{Node}
use Rattle.gv_gosyntax.specs.declared.node.Node.TheVariants.{Made}
use Rattle.gv_gosyntax.specs.declared.generated.gosyntax_table.TheConstants as act
use Rattle.gv_gosyntax.specs.GosyntaxActs.{is_decl, is_decls, is_token, made_decl, made_no_decls}
use Rattle.gv_gosyntax.specs.Nodes.{built, IsPartAt}
use Rattle.gv_gonodes.specs.Places.{IsMadeBy, IsPartOf}
use Rattle.gv_gonodes.specs.Decls.{IsDecl}
use Rattle.gv_gonodes.proofs.Opened.{opened, at_part, same_act}
use Rattle.gv_gonodes.proofs.Tops.{accepted, top_decl, top_decls, top_token}

no_decls_end : (nodes : List Node) (at : ℕ)
    → (whole : List Decl) (parts rest : List Part) (behind : List Part) → built (take at nodes) ≡ Some parts → parts ≡ behind
    → PDecls whole ∷ rest ≡ PDecls (made_no_decls parts) ∷ drop 0 parts → whole ≡ []
no_decls_end nodes at whole parts rest behind before shape q =
    let made : whole ≡ made_no_decls parts = cc in
    made ∙ ap (λ (ps : List Part). made_no_decls ps) shape

pub no_decls_is : (nodes : List Node) (at : ℕ) → IsMadeBy nodes at act.ACT_NO_DECLS
    → (whole : List Decl) → IsPartAt nodes at (PDecls whole) → whole ≡ []
no_decls_is nodes at by whole is =
    let o = opened nodes at (Made by.raw by.from) (PDecls whole) by.node is in
    let a = accepted act.ACT_NO_DECLS o.parts (PDecls whole ∷ o.rest) (same_act by.raw act.ACT_NO_DECLS o.parts by.number ∙ o.done) in
    go o.parts o.rest o.before a.0 a.1
  where
    go : (parts rest : List Part) → built (take at nodes) ≡ Some parts → has_tops ([]) parts ≡ true → PDecls whole ∷ rest ≡ PDecls (made_no_decls parts) ∷ drop 0 parts → whole ≡ []
    go parts rest before h q =
        no_decls_end nodes at whole parts rest parts before refl q

decl_end : (nodes : List Node) (at : ℕ) (at_decls : ℕ) (at_decl : ℕ) → IsPartOf nodes at 2 at_decls → IsPartOf nodes at 1 at_decl
    → (whole : List Decl) (parts rest : List Part) (passed_2 : Lexeme) (decl : Decl) (decls : List Decl) (behind : List Part) → built (take at nodes) ≡ Some parts → parts ≡ PToken passed_2 ∷ PDecl decl ∷ PDecls decls ∷ behind
    → PDecls whole ∷ rest ≡ PDecls (made_decl parts) ∷ drop 3 parts → IsDecl nodes at at_decls at_decl whole
decl_end nodes at at_decls at_decl known_decls known_decl whole parts rest passed_2 decl decls behind before shape q =
    let made : whole ≡ made_decl parts = cc in
    record {
      of_decls = decls;
      of_decl = decl;
      at_decls = at_part nodes at 2 at_decls parts (behind) (PDecls decls) known_decls before (ap (λ (ps : List Part). drop 2 ps) shape);
      at_decl = at_part nodes at 1 at_decl parts (PDecls decls ∷ behind) (PDecl decl) known_decl before (ap (λ (ps : List Part). drop 1 ps) shape);
      made = made ∙ ap (λ (ps : List Part). made_decl ps) shape;
    }

pub decl_is : (nodes : List Node) (at : ℕ) (at_decls : ℕ) (at_decl : ℕ) → IsMadeBy nodes at act.ACT_DECL → IsPartOf nodes at 2 at_decls → IsPartOf nodes at 1 at_decl
    → (whole : List Decl) → IsPartAt nodes at (PDecls whole) → IsDecl nodes at at_decls at_decl whole
decl_is nodes at at_decls at_decl by known_decls known_decl whole is =
    let o = opened nodes at (Made by.raw by.from) (PDecls whole) by.node is in
    let a = accepted act.ACT_DECL o.parts (PDecls whole ∷ o.rest) (same_act by.raw act.ACT_DECL o.parts by.number ∙ o.done) in
    go o.parts o.rest o.before a.0 a.1
  where
    go : (parts rest : List Part) → built (take at nodes) ≡ Some parts → has_tops (is_token ∷ is_decl ∷ is_decls ∷ []) parts ≡ true → PDecls whole ∷ rest ≡ PDecls (made_decl parts) ∷ drop 3 parts → IsDecl nodes at at_decls at_decl whole
    go parts rest before h q =
        top_token (is_decl ∷ is_decls ∷ []) parts h (λ x0 r0 e0 h0.
        top_decl (is_decls ∷ []) r0 h0 (λ x1 r1 e1 h1.
        top_decls ([]) r1 h1 (λ x2 r2 e2 h2.
        decl_end nodes at at_decls at_decl known_decls known_decl whole parts rest x0 x1 x2 r2 before (e0 ∙ ap (λ (ps : List Part). PToken x0 ∷ ps) (e1 ∙ ap (λ (ps : List Part). PDecl x1 ∷ ps) e2)) q)))
