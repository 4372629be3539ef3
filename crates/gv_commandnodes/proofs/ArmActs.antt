-- Arm nodes by the acts that make them. Made by tools/script_nodes.py from script.grammar: edit that.
use Rattle.std.proofs.Common.{◌≡◌, ℕ, true, List, [], ◌∷◌, Some, sym, ap, ◌∙◌}
use Rattle.std.specs.Prelude.{drop, take}
use Rattle.gv_grammar.specs.Building.{has_tops}
use Rattle.gv_termread.specs.declared.generated.term_acts.Part.TheVariants.{Token as PToken, Other as POther}
use Rattle.gv_scriptsyntax.specs.declared.generated.script_acts.ScriptPart.TheVariants.{Arm as PArm, Commands as PCommands, Names as PNames}
use Rattle.gv_scriptsyntax.specs.declared.tree.Arm.{Arm}
use Rattle.gv_scriptsyntax.specs.declared.tree.Command.{Command}
use Rattle.gv_termread.specs.declared.token.SeenToken.{SeenToken}
use Rattle.gv_scriptsyntax.specs.declared.node.Node.{Node}
use Rattle.gv_scriptsyntax.specs.declared.node.Node.TheVariants.{Made}
use Rattle.gv_scriptsyntax.specs.declared.generated.script_table.TheConstants as act
use Rattle.gv_termread.specs.TermActs.{is_token}
use Rattle.gv_scriptsyntax.specs.ScriptActs.{is_commands, is_names, made_arm}
use Rattle.gv_scriptsyntax.specs.Nodes.{Parts, built, IsPartAt}
use Rattle.gv_scriptnodes.specs.Places.{IsChild, IsTokenOf}
use Rattle.gv_scriptnodes.proofs.Opened.{opened}
use Rattle.gv_scriptnodes.proofs.Tops.{accepted, top_commands, top_names, top_token}
use Rattle.gv_certnodes.specs.Places.{IsMadeBy}
use Rattle.gv_commandnodes.specs.Arm.{IsArm}
use Rattle.gv_certnodes.proofs.Opened.{at_part, same_act}

arm_end : (text : List ℕ) (nodes : List Node) (at : ℕ) (at_start : SeenToken) (at_names : ℕ) (at_commands : ℕ) (at_end : SeenToken) → IsTokenOf text nodes at 3 at_start → IsChild text nodes at 2 at_names → IsChild text nodes at 1 at_commands → IsTokenOf text nodes at 0 at_end
    → (whole : Arm) (parts rest : Parts) (end : SeenToken) (commands : List Command) (names : List SeenToken) (start : SeenToken) (behind : Parts) → built text (take at nodes) ≡ Some parts → parts ≡ PToken end ∷ POther (PCommands commands) ∷ POther (PNames names) ∷ PToken start ∷ behind
    → POther (PArm whole) ∷ rest ≡ POther (PArm (made_arm parts)) ∷ drop 4 parts → IsArm text nodes at at_start at_names at_commands at_end whole
arm_end text nodes at at_start at_names at_commands at_end known_start known_names known_commands known_end whole parts rest end commands names start behind before shape q =
    let made : whole ≡ made_arm parts = cc in
    record {
      of_names = names;
      of_commands = commands;
      at_names = at_part text nodes at 2 at_names parts (PToken start ∷ behind) (POther (PNames names)) known_names before (ap (λ (ps : Parts). drop 2 ps) shape);
      at_commands = at_part text nodes at 1 at_commands parts (POther (PNames names) ∷ PToken start ∷ behind) (POther (PCommands commands)) known_commands before (ap (λ (ps : Parts). drop 1 ps) shape);
      made = made ∙ ap (λ (ps : Parts). made_arm ps) shape
          ∙ ap (λ (x : SeenToken). let y : Arm = (record { names = names; block = record { start = x; commands = commands; end = end } }) in y) (sym (known_start.same parts (behind) start before (ap (λ (ps : Parts). drop 3 ps) shape)))
          ∙ ap (λ (x : SeenToken). let y : Arm = (record { names = names; block = record { start = at_start; commands = commands; end = x } }) in y) (sym (known_end.same parts (POther (PCommands commands) ∷ POther (PNames names) ∷ PToken start ∷ behind) end before (ap (λ (ps : Parts). drop 0 ps) shape)));
    }

pub arm_is : (text : List ℕ) (nodes : List Node) (at : ℕ) (at_start : SeenToken) (at_names : ℕ) (at_commands : ℕ) (at_end : SeenToken) → IsMadeBy nodes at act.ACT_ARM → IsTokenOf text nodes at 3 at_start → IsChild text nodes at 2 at_names → IsChild text nodes at 1 at_commands → IsTokenOf text nodes at 0 at_end
    → (whole : Arm) → IsPartAt text nodes at (POther (PArm whole)) → IsArm text nodes at at_start at_names at_commands at_end whole
arm_is text nodes at at_start at_names at_commands at_end by known_start known_names known_commands known_end whole is =
    let o = opened text nodes at (Made by.raw by.from) (POther (PArm whole)) by.node is in
    let a = accepted text act.ACT_ARM o.parts (POther (PArm whole) ∷ o.rest) (same_act text by.raw act.ACT_ARM o.parts by.number ∙ o.done) in
    go o.parts o.rest o.before a.0 a.1
  where
    go : (parts rest : Parts) → built text (take at nodes) ≡ Some parts → has_tops (is_token ∷ is_commands ∷ is_names ∷ is_token ∷ []) parts ≡ true → POther (PArm whole) ∷ rest ≡ POther (PArm (made_arm parts)) ∷ drop 4 parts → IsArm text nodes at at_start at_names at_commands at_end whole
    go parts rest before h q =
        top_token (is_commands ∷ is_names ∷ is_token ∷ []) parts h (λ x0 r0 e0 h0.
        top_commands (is_names ∷ is_token ∷ []) r0 h0 (λ x1 r1 e1 h1.
        top_names (is_token ∷ []) r1 h1 (λ x2 r2 e2 h2.
        top_token ([]) r2 h2 (λ x3 r3 e3 h3.
        arm_end text nodes at at_start at_names at_commands at_end known_start known_names known_commands known_end whole parts rest x0 x1 x2 x3 r3 before (e0 ∙ ap (λ (ps : Parts). PToken x0 ∷ ps) (e1 ∙ ap (λ (ps : Parts). POther (PCommands x1) ∷ ps) (e2 ∙ ap (λ (ps : Parts). POther (PNames x2) ∷ ps) e3))) q))))
