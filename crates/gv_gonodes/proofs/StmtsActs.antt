-- Stmts nodes by the acts that make them. Made by tools/nodes.py from gosyntax.grammar: edit that.
use Rattle.std.proofs.Common.{◌≡◌, ℕ, true, List, [], ◌∷◌, Some, refl, ap, ◌∙◌}
use Rattle.std.specs.Prelude.{drop, take}
use Rattle.gv_grammar.specs.Building.{has_tops}
use Rattle.gv_gosyntax.specs.declared.generated.gosyntax_acts.Part.{Part}
use Rattle.gv_gosyntax.specs.declared.generated.gosyntax_acts.Part.TheVariants.{Stmt as PStmt, Stmts as PStmts, Token as PToken}
use Rattle.gv_gosyntax.specs.declared.lexeme.Lexeme.{Lexeme}
use Rattle.gv_gosyntax.specs.declared.tree.Stmt.{Stmt}
use Rattle.gv_gosyntax.specs.declared.tree.Stmt.TheVariants as stmt
use Rattle.gv_gosyntax.specs.declared.node.Node.{Node}
use Rattle.gv_gosyntax.specs.declared.node.Node.TheVariants.{Made}
use Rattle.gv_gosyntax.specs.declared.generated.gosyntax_table.TheConstants as act
use Rattle.gv_gosyntax.specs.GosyntaxActs.{is_stmt, is_stmts, is_token, made_empty, made_no_stmts, made_past_stmts, made_stmt}
use Rattle.gv_gosyntax.specs.Nodes.{built, IsPartAt}
use Rattle.gv_gonodes.specs.Places.{IsMadeBy, IsPartOf}
use Rattle.gv_gonodes.specs.Stmts.{IsStmt, IsEmpty, IsPastStmts}
use Rattle.gv_gonodes.proofs.Opened.{opened, at_part, same_act}
use Rattle.gv_gonodes.proofs.Tops.{accepted, top_stmt, top_stmts, top_token}

no_stmts_end : (nodes : List Node) (at : ℕ)
    → (whole : List Stmt) (parts rest : List Part) (behind : List Part) → built (take at nodes) ≡ Some parts → parts ≡ behind
    → PStmts whole ∷ rest ≡ PStmts (made_no_stmts parts) ∷ drop 0 parts → whole ≡ []
no_stmts_end nodes at whole parts rest behind before shape q =
    let made : whole ≡ made_no_stmts parts = cc in
    made ∙ ap (λ (ps : List Part). made_no_stmts ps) shape

pub no_stmts_is : (nodes : List Node) (at : ℕ) → IsMadeBy nodes at act.ACT_NO_STMTS
    → (whole : List Stmt) → IsPartAt nodes at (PStmts whole) → whole ≡ []
no_stmts_is nodes at by whole is =
    let o = opened nodes at (Made by.raw by.from) (PStmts whole) by.node is in
    let a = accepted act.ACT_NO_STMTS o.parts (PStmts whole ∷ o.rest) (same_act by.raw act.ACT_NO_STMTS o.parts by.number ∙ o.done) in
    go o.parts o.rest o.before a.0 a.1
  where
    go : (parts rest : List Part) → built (take at nodes) ≡ Some parts → has_tops ([]) parts ≡ true → PStmts whole ∷ rest ≡ PStmts (made_no_stmts parts) ∷ drop 0 parts → whole ≡ []
    go parts rest before h q =
        no_stmts_end nodes at whole parts rest parts before refl q

stmt_end : (nodes : List Node) (at : ℕ) (at_stmts : ℕ) (at_stmt : ℕ) → IsPartOf nodes at 1 at_stmts → IsPartOf nodes at 0 at_stmt
    → (whole : List Stmt) (parts rest : List Part) (stmt : Stmt) (stmts : List Stmt) (behind : List Part) → built (take at nodes) ≡ Some parts → parts ≡ PStmt stmt ∷ PStmts stmts ∷ behind
    → PStmts whole ∷ rest ≡ PStmts (made_stmt parts) ∷ drop 2 parts → IsStmt nodes at at_stmts at_stmt whole
stmt_end nodes at at_stmts at_stmt known_stmts known_stmt whole parts rest stmt stmts behind before shape q =
    let made : whole ≡ made_stmt parts = cc in
    record {
      of_stmts = stmts;
      of_stmt = stmt;
      at_stmts = at_part nodes at 1 at_stmts parts (behind) (PStmts stmts) known_stmts before (ap (λ (ps : List Part). drop 1 ps) shape);
      at_stmt = at_part nodes at 0 at_stmt parts (PStmts stmts ∷ behind) (PStmt stmt) known_stmt before (ap (λ (ps : List Part). drop 0 ps) shape);
      made = made ∙ ap (λ (ps : List Part). made_stmt ps) shape;
    }

pub stmt_is : (nodes : List Node) (at : ℕ) (at_stmts : ℕ) (at_stmt : ℕ) → IsMadeBy nodes at act.ACT_STMT → IsPartOf nodes at 1 at_stmts → IsPartOf nodes at 0 at_stmt
    → (whole : List Stmt) → IsPartAt nodes at (PStmts whole) → IsStmt nodes at at_stmts at_stmt whole
stmt_is nodes at at_stmts at_stmt by known_stmts known_stmt whole is =
    let o = opened nodes at (Made by.raw by.from) (PStmts whole) by.node is in
    let a = accepted act.ACT_STMT o.parts (PStmts whole ∷ o.rest) (same_act by.raw act.ACT_STMT o.parts by.number ∙ o.done) in
    go o.parts o.rest o.before a.0 a.1
  where
    go : (parts rest : List Part) → built (take at nodes) ≡ Some parts → has_tops (is_stmt ∷ is_stmts ∷ []) parts ≡ true → PStmts whole ∷ rest ≡ PStmts (made_stmt parts) ∷ drop 2 parts → IsStmt nodes at at_stmts at_stmt whole
    go parts rest before h q =
        top_stmt (is_stmts ∷ []) parts h (λ x0 r0 e0 h0.
        top_stmts ([]) r0 h0 (λ x1 r1 e1 h1.
        stmt_end nodes at at_stmts at_stmt known_stmts known_stmt whole parts rest x0 x1 r1 before (e0 ∙ ap (λ (ps : List Part). PStmt x0 ∷ ps) e1) q))

empty_end : (nodes : List Node) (at : ℕ) (at_stmts : ℕ) → IsPartOf nodes at 1 at_stmts
    → (whole : List Stmt) (parts rest : List Part) (passed_1 : Lexeme) (stmts : List Stmt) (behind : List Part) → built (take at nodes) ≡ Some parts → parts ≡ PToken passed_1 ∷ PStmts stmts ∷ behind
    → PStmts whole ∷ rest ≡ PStmts (made_empty parts) ∷ drop 2 parts → IsEmpty nodes at at_stmts whole
empty_end nodes at at_stmts known_stmts whole parts rest passed_1 stmts behind before shape q =
    let made : whole ≡ made_empty parts = cc in
    record {
      of_stmts = stmts;
      at_stmts = at_part nodes at 1 at_stmts parts (behind) (PStmts stmts) known_stmts before (ap (λ (ps : List Part). drop 1 ps) shape);
      made = made ∙ ap (λ (ps : List Part). made_empty ps) shape;
    }

pub empty_is : (nodes : List Node) (at : ℕ) (at_stmts : ℕ) → IsMadeBy nodes at act.ACT_EMPTY → IsPartOf nodes at 1 at_stmts
    → (whole : List Stmt) → IsPartAt nodes at (PStmts whole) → IsEmpty nodes at at_stmts whole
empty_is nodes at at_stmts by known_stmts whole is =
    let o = opened nodes at (Made by.raw by.from) (PStmts whole) by.node is in
    let a = accepted act.ACT_EMPTY o.parts (PStmts whole ∷ o.rest) (same_act by.raw act.ACT_EMPTY o.parts by.number ∙ o.done) in
    go o.parts o.rest o.before a.0 a.1
  where
    go : (parts rest : List Part) → built (take at nodes) ≡ Some parts → has_tops (is_token ∷ is_stmts ∷ []) parts ≡ true → PStmts whole ∷ rest ≡ PStmts (made_empty parts) ∷ drop 2 parts → IsEmpty nodes at at_stmts whole
    go parts rest before h q =
        top_token (is_stmts ∷ []) parts h (λ x0 r0 e0 h0.
        top_stmts ([]) r0 h0 (λ x1 r1 e1 h1.
        empty_end nodes at at_stmts known_stmts whole parts rest x0 x1 r1 before (e0 ∙ ap (λ (ps : List Part). PToken x0 ∷ ps) e1) q))

past_stmts_end : (nodes : List Node) (at : ℕ) (at_stmts : ℕ) → IsPartOf nodes at 1 at_stmts
    → (whole : List Stmt) (parts rest : List Part) (passed_1 : Lexeme) (stmts : List Stmt) (behind : List Part) → built (take at nodes) ≡ Some parts → parts ≡ PToken passed_1 ∷ PStmts stmts ∷ behind
    → PStmts whole ∷ rest ≡ PStmts (made_past_stmts parts) ∷ drop 2 parts → IsPastStmts nodes at at_stmts whole
past_stmts_end nodes at at_stmts known_stmts whole parts rest passed_1 stmts behind before shape q =
    let made : whole ≡ made_past_stmts parts = cc in
    record {
      of_stmts = stmts;
      at_stmts = at_part nodes at 1 at_stmts parts (behind) (PStmts stmts) known_stmts before (ap (λ (ps : List Part). drop 1 ps) shape);
      made = made ∙ ap (λ (ps : List Part). made_past_stmts ps) shape;
    }

pub past_stmts_is : (nodes : List Node) (at : ℕ) (at_stmts : ℕ) → IsMadeBy nodes at act.ACT_PAST_STMTS → IsPartOf nodes at 1 at_stmts
    → (whole : List Stmt) → IsPartAt nodes at (PStmts whole) → IsPastStmts nodes at at_stmts whole
past_stmts_is nodes at at_stmts by known_stmts whole is =
    let o = opened nodes at (Made by.raw by.from) (PStmts whole) by.node is in
    let a = accepted act.ACT_PAST_STMTS o.parts (PStmts whole ∷ o.rest) (same_act by.raw act.ACT_PAST_STMTS o.parts by.number ∙ o.done) in
    go o.parts o.rest o.before a.0 a.1
  where
    go : (parts rest : List Part) → built (take at nodes) ≡ Some parts → has_tops (is_token ∷ is_stmts ∷ []) parts ≡ true → PStmts whole ∷ rest ≡ PStmts (made_past_stmts parts) ∷ drop 2 parts → IsPastStmts nodes at at_stmts whole
    go parts rest before h q =
        top_token (is_stmts ∷ []) parts h (λ x0 r0 e0 h0.
        top_stmts ([]) r0 h0 (λ x1 r1 e1 h1.
        past_stmts_end nodes at at_stmts known_stmts whole parts rest x0 x1 r1 before (e0 ∙ ap (λ (ps : List Part). PToken x0 ∷ ps) e1) q))
