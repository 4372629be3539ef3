-- Block nodes by the acts that make them. Made by tools/nodes.py from gosyntax.grammar: edit that.
use Rattle.std.proofs.Common.{◌≡◌, ℕ, true, List, [], ◌∷◌, Some, sym, ap, ◌∙◌}
use Rattle.std.specs.Prelude.{drop, take}
use Rattle.gv_grammar.specs.Building.{has_tops}
use Rattle.gv_gosyntax.specs.declared.generated.gosyntax_acts.Part.{Part}
use Rattle.gv_gosyntax.specs.declared.generated.gosyntax_acts.Part.TheVariants.{Block as PBlock, Stmts as PStmts, Token as PToken}
use Rattle.gv_gosyntax.specs.declared.tree.Block.{Block}
use Rattle.gv_gosyntax.specs.declared.lexeme.Lexeme.{Lexeme}
use Rattle.gv_gosyntax.specs.declared.tree.Stmt.{Stmt}
use Rattle.gv_gosyntax.specs.declared.node.Node.{Node}
use Rattle.gv_gosyntax.specs.declared.node.Node.TheVariants.{Made}
use Rattle.gv_gosyntax.specs.declared.generated.gosyntax_table.TheConstants as act
use Rattle.gv_gosyntax.specs.GosyntaxActs.{is_stmts, is_token, made_block}
use Rattle.gv_gosyntax.specs.Nodes.{built, IsPartAt}
use Rattle.gv_gonodes.specs.Places.{IsMadeBy, IsPartOf, IsTokenOf}
use Rattle.gv_gonodes.specs.Block.{IsBlock}
use Rattle.gv_gonodes.proofs.Opened.{opened, at_part, same_act}
use Rattle.gv_gonodes.proofs.Tops.{accepted, top_stmts, top_token}

block_end : (nodes : List Node) (at : ℕ) (at_start : Lexeme) (at_statements : ℕ) (at_end : Lexeme) → IsTokenOf nodes at 2 at_start → IsPartOf nodes at 1 at_statements → IsTokenOf nodes at 0 at_end
    → (whole : Block) (parts rest : List Part) (end : Lexeme) (statements : List Stmt) (start : Lexeme) (behind : List Part) → built (take at nodes) ≡ Some parts → parts ≡ PToken end ∷ PStmts statements ∷ PToken start ∷ behind
    → PBlock whole ∷ rest ≡ PBlock (made_block parts) ∷ drop 3 parts → IsBlock nodes at at_start at_statements at_end whole
block_end nodes at at_start at_statements at_end known_start known_statements known_end whole parts rest end statements start behind before shape q =
    let made : whole ≡ made_block parts = cc in
    record {
      of_statements = statements;
      at_statements = at_part nodes at 1 at_statements parts (PToken start ∷ behind) (PStmts statements) known_statements before (ap (λ (ps : List Part). drop 1 ps) shape);
      made = made ∙ ap (λ (ps : List Part). made_block ps) shape
          ∙ ap (λ (x : Lexeme). let y : Block = (record { start = x; statements = statements; end = end }) in y) (sym (known_start.same parts (behind) start before (ap (λ (ps : List Part). drop 2 ps) shape)))
          ∙ ap (λ (x : Lexeme). let y : Block = (record { start = at_start; statements = statements; end = x }) in y) (sym (known_end.same parts (PStmts statements ∷ PToken start ∷ behind) end before (ap (λ (ps : List Part). drop 0 ps) shape)));
    }

pub block_is : (nodes : List Node) (at : ℕ) (at_start : Lexeme) (at_statements : ℕ) (at_end : Lexeme) → IsMadeBy nodes at act.ACT_BLOCK → IsTokenOf nodes at 2 at_start → IsPartOf nodes at 1 at_statements → IsTokenOf nodes at 0 at_end
    → (whole : Block) → IsPartAt nodes at (PBlock whole) → IsBlock nodes at at_start at_statements at_end whole
block_is nodes at at_start at_statements at_end by known_start known_statements known_end whole is =
    let o = opened nodes at (Made by.raw by.from) (PBlock whole) by.node is in
    let a = accepted act.ACT_BLOCK o.parts (PBlock whole ∷ o.rest) (same_act by.raw act.ACT_BLOCK o.parts by.number ∙ o.done) in
    go o.parts o.rest o.before a.0 a.1
  where
    go : (parts rest : List Part) → built (take at nodes) ≡ Some parts → has_tops (is_token ∷ is_stmts ∷ is_token ∷ []) parts ≡ true → PBlock whole ∷ rest ≡ PBlock (made_block parts) ∷ drop 3 parts → IsBlock nodes at at_start at_statements at_end whole
    go parts rest before h q =
        top_token (is_stmts ∷ is_token ∷ []) parts h (λ x0 r0 e0 h0.
        top_stmts (is_token ∷ []) r0 h0 (λ x1 r1 e1 h1.
        top_token ([]) r1 h1 (λ x2 r2 e2 h2.
        block_end nodes at at_start at_statements at_end known_start known_statements known_end whole parts rest x0 x1 x2 r2 before (e0 ∙ ap (λ (ps : List Part). PToken x0 ∷ ps) (e1 ∙ ap (λ (ps : List Part). PStmts x1 ∷ ps) e2)) q)))
