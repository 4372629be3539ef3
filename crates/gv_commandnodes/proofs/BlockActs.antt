-- Block nodes by the acts that make them. Made by tools/script_nodes.py from script.grammar: edit that.
use Rattle.std.proofs.Common.{◌≡◌, ℕ, true, List, [], ◌∷◌, Some, sym, ap, ◌∙◌}
use Rattle.std.specs.Prelude.{drop, take}
use Rattle.gv_grammar.specs.Building.{has_tops}
use Rattle.gv_termread.specs.declared.generated.term_acts.Part.TheVariants.{Token as PToken, Other as POther}
use Rattle.gv_scriptsyntax.specs.declared.generated.script_acts.ScriptPart.TheVariants.{Block as PBlock, Commands as PCommands}
use Rattle.gv_scriptsyntax.specs.declared.tree.Block.{Block}
use Rattle.gv_scriptsyntax.specs.declared.tree.Command.{Command}
use Rattle.gv_termread.specs.declared.token.SeenToken.{SeenToken}
use Rattle.gv_scriptsyntax.specs.declared.node.Node.{Node}
use Rattle.gv_scriptsyntax.specs.declared.node.Node.TheVariants.{Made}
use Rattle.gv_scriptsyntax.specs.declared.generated.script_table.TheConstants as act
use Rattle.gv_termread.specs.TermActs.{is_token}
use Rattle.gv_scriptsyntax.specs.ScriptActs.{is_commands, made_block}
use Rattle.gv_scriptsyntax.specs.Nodes.{Parts, built, IsPartAt}
use Rattle.gv_scriptnodes.specs.Places.{IsChild, IsTokenOf}
use Rattle.gv_scriptnodes.proofs.Opened.{opened}
use Rattle.gv_scriptnodes.proofs.Tops.{accepted, top_commands, top_token}
use Rattle.gv_certnodes.specs.Places.{IsMadeBy}
use Rattle.gv_commandnodes.specs.Block.{IsBlock}
use Rattle.gv_certnodes.proofs.Opened.{at_part, same_act}

block_end : (text : List ℕ) (nodes : List Node) (at : ℕ) (at_start : SeenToken) (at_commands : ℕ) (at_end : SeenToken) → IsTokenOf text nodes at 2 at_start → IsChild text nodes at 1 at_commands → IsTokenOf text nodes at 0 at_end
    → (whole : Block) (parts rest : Parts) (end : SeenToken) (commands : List Command) (start : SeenToken) (behind : Parts) → built text (take at nodes) ≡ Some parts → parts ≡ PToken end ∷ POther (PCommands commands) ∷ PToken start ∷ behind
    → POther (PBlock whole) ∷ rest ≡ POther (PBlock (made_block parts)) ∷ drop 3 parts → IsBlock text nodes at at_start at_commands at_end whole
block_end text nodes at at_start at_commands at_end known_start known_commands known_end whole parts rest end commands start behind before shape q =
    let made : whole ≡ made_block parts = cc in
    record {
      of_commands = commands;
      at_commands = at_part text nodes at 1 at_commands parts (PToken start ∷ behind) (POther (PCommands commands)) known_commands before (ap (λ (ps : Parts). drop 1 ps) shape);
      made = made ∙ ap (λ (ps : Parts). made_block ps) shape
          ∙ ap (λ (x : SeenToken). let y : Block = (record { start = x; commands = commands; end = end }) in y) (sym (known_start.same parts (behind) start before (ap (λ (ps : Parts). drop 2 ps) shape)))
          ∙ ap (λ (x : SeenToken). let y : Block = (record { start = at_start; commands = commands; end = x }) in y) (sym (known_end.same parts (POther (PCommands commands) ∷ PToken start ∷ behind) end before (ap (λ (ps : Parts). drop 0 ps) shape)));
    }

pub block_is : (text : List ℕ) (nodes : List Node) (at : ℕ) (at_start : SeenToken) (at_commands : ℕ) (at_end : SeenToken) → IsMadeBy nodes at act.ACT_BLOCK → IsTokenOf text nodes at 2 at_start → IsChild text nodes at 1 at_commands → IsTokenOf text nodes at 0 at_end
    → (whole : Block) → IsPartAt text nodes at (POther (PBlock whole)) → IsBlock text nodes at at_start at_commands at_end whole
block_is text nodes at at_start at_commands at_end by known_start known_commands known_end whole is =
    let o = opened text nodes at (Made by.raw by.from) (POther (PBlock whole)) by.node is in
    let a = accepted text act.ACT_BLOCK o.parts (POther (PBlock whole) ∷ o.rest) (same_act text by.raw act.ACT_BLOCK o.parts by.number ∙ o.done) in
    go o.parts o.rest o.before a.0 a.1
  where
    go : (parts rest : Parts) → built text (take at nodes) ≡ Some parts → has_tops (is_token ∷ is_commands ∷ is_token ∷ []) parts ≡ true → POther (PBlock whole) ∷ rest ≡ POther (PBlock (made_block parts)) ∷ drop 3 parts → IsBlock text nodes at at_start at_commands at_end whole
    go parts rest before h q =
        top_token (is_commands ∷ is_token ∷ []) parts h (λ x0 r0 e0 h0.
        top_commands (is_token ∷ []) r0 h0 (λ x1 r1 e1 h1.
        top_token ([]) r1 h1 (λ x2 r2 e2 h2.
        block_end text nodes at at_start at_commands at_end known_start known_commands known_end whole parts rest x0 x1 x2 r2 before (e0 ∙ ap (λ (ps : Parts). PToken x0 ∷ ps) (e1 ∙ ap (λ (ps : Parts). POther (PCommands x1) ∷ ps) e2)) q)))
