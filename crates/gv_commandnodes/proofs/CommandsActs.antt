-- Commands nodes by the acts that make them. Made by tools/script_nodes.py from script.grammar: edit that.
use Rattle.std.proofs.Common.{◌≡◌, ℕ, true, List, [], ◌∷◌, Option, Some, refl, ap, ◌∙◌}
use Rattle.std.specs.Prelude.{drop, take}
use Rattle.gv_grammar.specs.Building.{has_tops}
use Rattle.gv_termread.specs.declared.generated.term_acts.Part.TheVariants.{Token as PToken, Other as POther}
use Rattle.gv_scriptsyntax.specs.declared.generated.script_acts.ScriptPart.TheVariants.{Command as PCommand, Commands as PCommands, Ending as PEnding}
use Rattle.gv_scriptsyntax.specs.declared.tree.Command.{Command}
use Rattle.gv_termread.specs.declared.token.SeenToken.{SeenToken}
use Rattle.gv_scriptsyntax.specs.declared.node.Node.{Node}
use Rattle.gv_scriptsyntax.specs.declared.node.Node.TheVariants.{Made}
use Rattle.gv_scriptsyntax.specs.declared.generated.script_table.TheConstants as act
use Rattle.gv_termread.specs.TermActs.{is_token}
use Rattle.gv_scriptsyntax.specs.ScriptActs.{is_command, is_commands, is_ending, made_command, made_last, made_no_commands}
use Rattle.gv_scriptsyntax.specs.Nodes.{Parts, built, IsPartAt}
use Rattle.gv_scriptnodes.specs.Places.{IsChild}
use Rattle.gv_scriptnodes.proofs.Opened.{opened}
use Rattle.gv_scriptnodes.proofs.Tops.{accepted, top_command, top_commands, top_ending, top_token}
use Rattle.gv_certnodes.specs.Places.{IsMadeBy}
use Rattle.gv_commandnodes.specs.Commands.{IsCommand, IsLast}
use Rattle.gv_certnodes.proofs.Opened.{at_part, same_act}

no_commands_end : (text : List ℕ) (nodes : List Node) (at : ℕ)
    → (whole : List Command) (parts rest : Parts) (behind : Parts) → built text (take at nodes) ≡ Some parts → parts ≡ behind
    → POther (PCommands whole) ∷ rest ≡ POther (PCommands (made_no_commands parts)) ∷ drop 0 parts → whole ≡ []
no_commands_end text nodes at whole parts rest behind before shape q =
    let made : whole ≡ made_no_commands parts = cc in
    made ∙ ap (λ (ps : Parts). made_no_commands ps) shape

pub no_commands_is : (text : List ℕ) (nodes : List Node) (at : ℕ) → IsMadeBy nodes at act.ACT_NO_COMMANDS
    → (whole : List Command) → IsPartAt text nodes at (POther (PCommands whole)) → whole ≡ []
no_commands_is text nodes at by whole is =
    let o = opened text nodes at (Made by.raw by.from) (POther (PCommands whole)) by.node is in
    let a = accepted text act.ACT_NO_COMMANDS o.parts (POther (PCommands whole) ∷ o.rest) (same_act text by.raw act.ACT_NO_COMMANDS o.parts by.number ∙ o.done) in
    go o.parts o.rest o.before a.0 a.1
  where
    go : (parts rest : Parts) → built text (take at nodes) ≡ Some parts → has_tops ([]) parts ≡ true → POther (PCommands whole) ∷ rest ≡ POther (PCommands (made_no_commands parts)) ∷ drop 0 parts → whole ≡ []
    go parts rest before h q =
        no_commands_end text nodes at whole parts rest parts before refl q

command_end : (text : List ℕ) (nodes : List Node) (at : ℕ) (at_commands : ℕ) (at_next : ℕ) → IsChild text nodes at 2 at_commands → IsChild text nodes at 1 at_next
    → (whole : List Command) (parts rest : Parts) (passed_2 : SeenToken) (next : Command) (commands : List Command) (behind : Parts) → built text (take at nodes) ≡ Some parts → parts ≡ PToken passed_2 ∷ POther (PCommand next) ∷ POther (PCommands commands) ∷ behind
    → POther (PCommands whole) ∷ rest ≡ POther (PCommands (made_command parts)) ∷ drop 3 parts → IsCommand text nodes at at_commands at_next whole
command_end text nodes at at_commands at_next known_commands known_next whole parts rest passed_2 next commands behind before shape q =
    let made : whole ≡ made_command parts = cc in
    record {
      of_commands = commands;
      of_next = next;
      at_commands = at_part text nodes at 2 at_commands parts (behind) (POther (PCommands commands)) known_commands before (ap (λ (ps : Parts). drop 2 ps) shape);
      at_next = at_part text nodes at 1 at_next parts (POther (PCommands commands) ∷ behind) (POther (PCommand next)) known_next before (ap (λ (ps : Parts). drop 1 ps) shape);
      made = made ∙ ap (λ (ps : Parts). made_command ps) shape;
    }

pub command_is : (text : List ℕ) (nodes : List Node) (at : ℕ) (at_commands : ℕ) (at_next : ℕ) → IsMadeBy nodes at act.ACT_COMMAND → IsChild text nodes at 2 at_commands → IsChild text nodes at 1 at_next
    → (whole : List Command) → IsPartAt text nodes at (POther (PCommands whole)) → IsCommand text nodes at at_commands at_next whole
command_is text nodes at at_commands at_next by known_commands known_next whole is =
    let o = opened text nodes at (Made by.raw by.from) (POther (PCommands whole)) by.node is in
    let a = accepted text act.ACT_COMMAND o.parts (POther (PCommands whole) ∷ o.rest) (same_act text by.raw act.ACT_COMMAND o.parts by.number ∙ o.done) in
    go o.parts o.rest o.before a.0 a.1
  where
    go : (parts rest : Parts) → built text (take at nodes) ≡ Some parts → has_tops (is_token ∷ is_command ∷ is_commands ∷ []) parts ≡ true → POther (PCommands whole) ∷ rest ≡ POther (PCommands (made_command parts)) ∷ drop 3 parts → IsCommand text nodes at at_commands at_next whole
    go parts rest before h q =
        top_token (is_command ∷ is_commands ∷ []) parts h (λ x0 r0 e0 h0.
        top_command (is_commands ∷ []) r0 h0 (λ x1 r1 e1 h1.
        top_commands ([]) r1 h1 (λ x2 r2 e2 h2.
        command_end text nodes at at_commands at_next known_commands known_next whole parts rest x0 x1 x2 r2 before (e0 ∙ ap (λ (ps : Parts). PToken x0 ∷ ps) (e1 ∙ ap (λ (ps : Parts). POther (PCommand x1) ∷ ps) e2)) q)))

last_end : (text : List ℕ) (nodes : List Node) (at : ℕ) (at_commands : ℕ) (at_last : ℕ) → IsChild text nodes at 2 at_commands → IsChild text nodes at 1 at_last
    → (whole : List Command) (parts rest : Parts) (passed_2 : Option SeenToken) (last : Command) (commands : List Command) (behind : Parts) → built text (take at nodes) ≡ Some parts → parts ≡ POther (PEnding passed_2) ∷ POther (PCommand last) ∷ POther (PCommands commands) ∷ behind
    → POther (PCommands whole) ∷ rest ≡ POther (PCommands (made_last parts)) ∷ drop 3 parts → IsLast text nodes at at_commands at_last whole
last_end text nodes at at_commands at_last known_commands known_last whole parts rest passed_2 last commands behind before shape q =
    let made : whole ≡ made_last parts = cc in
    record {
      of_commands = commands;
      of_last = last;
      at_commands = at_part text nodes at 2 at_commands parts (behind) (POther (PCommands commands)) known_commands before (ap (λ (ps : Parts). drop 2 ps) shape);
      at_last = at_part text nodes at 1 at_last parts (POther (PCommands commands) ∷ behind) (POther (PCommand last)) known_last before (ap (λ (ps : Parts). drop 1 ps) shape);
      made = made ∙ ap (λ (ps : Parts). made_last ps) shape;
    }

pub last_is : (text : List ℕ) (nodes : List Node) (at : ℕ) (at_commands : ℕ) (at_last : ℕ) → IsMadeBy nodes at act.ACT_LAST → IsChild text nodes at 2 at_commands → IsChild text nodes at 1 at_last
    → (whole : List Command) → IsPartAt text nodes at (POther (PCommands whole)) → IsLast text nodes at at_commands at_last whole
last_is text nodes at at_commands at_last by known_commands known_last whole is =
    let o = opened text nodes at (Made by.raw by.from) (POther (PCommands whole)) by.node is in
    let a = accepted text act.ACT_LAST o.parts (POther (PCommands whole) ∷ o.rest) (same_act text by.raw act.ACT_LAST o.parts by.number ∙ o.done) in
    go o.parts o.rest o.before a.0 a.1
  where
    go : (parts rest : Parts) → built text (take at nodes) ≡ Some parts → has_tops (is_ending ∷ is_command ∷ is_commands ∷ []) parts ≡ true → POther (PCommands whole) ∷ rest ≡ POther (PCommands (made_last parts)) ∷ drop 3 parts → IsLast text nodes at at_commands at_last whole
    go parts rest before h q =
        top_ending (is_command ∷ is_commands ∷ []) parts h (λ x0 r0 e0 h0.
        top_command (is_commands ∷ []) r0 h0 (λ x1 r1 e1 h1.
        top_commands ([]) r1 h1 (λ x2 r2 e2 h2.
        last_end text nodes at at_commands at_last known_commands known_last whole parts rest x0 x1 x2 r2 before (e0 ∙ ap (λ (ps : Parts). POther (PEnding x0) ∷ ps) (e1 ∙ ap (λ (ps : Parts). POther (PCommand x1) ∷ ps) e2)) q)))
