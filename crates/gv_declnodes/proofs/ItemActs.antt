-- Item nodes by the acts that make them. Made by tools/script_nodes.py from script.grammar: edit that.
use Rattle.std.proofs.Common.{◌≡◌, ℕ, true, List, [], ◌∷◌, Some, ap, ◌∙◌}
use Rattle.std.specs.Prelude.{drop, take}
use Rattle.gv_grammar.specs.Building.{has_tops}
use Rattle.gv_termread.specs.declared.generated.term_acts.Part.TheVariants.{Term as PTerm, Other as POther}
use Rattle.gv_scriptsyntax.specs.declared.generated.script_acts.ScriptPart.TheVariants.{Atom as PAtom, Item as PItem}
use Rattle.gv_scriptsyntax.specs.declared.tree.Atom.{Atom}
use Rattle.gv_scriptsyntax.specs.declared.tree.Item.{Item}
use Rattle.gv_termread.specs.declared.placed.PlacedTerm.{PlacedTerm}
use Rattle.gv_scriptsyntax.specs.declared.node.Node.{Node}
use Rattle.gv_scriptsyntax.specs.declared.node.Node.TheVariants.{Made}
use Rattle.gv_scriptsyntax.specs.declared.generated.script_table.TheConstants as act
use Rattle.gv_termread.specs.TermActs.{is_term}
use Rattle.gv_scriptsyntax.specs.ScriptActs.{is_atom, made_fact, made_held}
use Rattle.gv_scriptsyntax.specs.Nodes.{Parts, built, IsPartAt}
use Rattle.gv_scriptnodes.specs.Places.{IsChild}
use Rattle.gv_scriptnodes.proofs.Opened.{opened}
use Rattle.gv_scriptnodes.proofs.Tops.{accepted, top_atom, top_term}
use Rattle.gv_certnodes.specs.Places.{IsMadeBy}
use Rattle.gv_declnodes.specs.Item.{IsFact, IsHeld}
use Rattle.gv_certnodes.proofs.Opened.{at_part, same_act}

fact_end : (text : List ℕ) (nodes : List Node) (at : ℕ) (at_term : ℕ) → IsChild text nodes at 0 at_term
    → (whole : Item) (parts rest : Parts) (term : PlacedTerm) (behind : Parts) → built text (take at nodes) ≡ Some parts → parts ≡ PTerm term ∷ behind
    → POther (PItem whole) ∷ rest ≡ POther (PItem (made_fact parts)) ∷ drop 1 parts → IsFact text nodes at at_term whole
fact_end text nodes at at_term known_term whole parts rest term behind before shape q =
    let made : whole ≡ made_fact parts = cc in
    record {
      of_term = term;
      at_term = at_part text nodes at 0 at_term parts (behind) (PTerm term) known_term before (ap (λ (ps : Parts). drop 0 ps) shape);
      made = made ∙ ap (λ (ps : Parts). made_fact ps) shape;
    }

pub fact_is : (text : List ℕ) (nodes : List Node) (at : ℕ) (at_term : ℕ) → IsMadeBy nodes at act.ACT_FACT → IsChild text nodes at 0 at_term
    → (whole : Item) → IsPartAt text nodes at (POther (PItem whole)) → IsFact text nodes at at_term whole
fact_is text nodes at at_term by known_term whole is =
    let o = opened text nodes at (Made by.raw by.from) (POther (PItem whole)) by.node is in
    let a = accepted text act.ACT_FACT o.parts (POther (PItem whole) ∷ o.rest) (same_act text by.raw act.ACT_FACT o.parts by.number ∙ o.done) in
    go o.parts o.rest o.before a.0 a.1
  where
    go : (parts rest : Parts) → built text (take at nodes) ≡ Some parts → has_tops (is_term ∷ []) parts ≡ true → POther (PItem whole) ∷ rest ≡ POther (PItem (made_fact parts)) ∷ drop 1 parts → IsFact text nodes at at_term whole
    go parts rest before h q =
        top_term ([]) parts h (λ x0 r0 e0 h0.
        fact_end text nodes at at_term known_term whole parts rest x0 r0 before e0 q)

held_end : (text : List ℕ) (nodes : List Node) (at : ℕ) (at_held : ℕ) → IsChild text nodes at 0 at_held
    → (whole : Item) (parts rest : Parts) (held : Atom) (behind : Parts) → built text (take at nodes) ≡ Some parts → parts ≡ POther (PAtom held) ∷ behind
    → POther (PItem whole) ∷ rest ≡ POther (PItem (made_held parts)) ∷ drop 1 parts → IsHeld text nodes at at_held whole
held_end text nodes at at_held known_held whole parts rest held behind before shape q =
    let made : whole ≡ made_held parts = cc in
    record {
      of_held = held;
      at_held = at_part text nodes at 0 at_held parts (behind) (POther (PAtom held)) known_held before (ap (λ (ps : Parts). drop 0 ps) shape);
      made = made ∙ ap (λ (ps : Parts). made_held ps) shape;
    }

pub held_is : (text : List ℕ) (nodes : List Node) (at : ℕ) (at_held : ℕ) → IsMadeBy nodes at act.ACT_HELD → IsChild text nodes at 0 at_held
    → (whole : Item) → IsPartAt text nodes at (POther (PItem whole)) → IsHeld text nodes at at_held whole
held_is text nodes at at_held by known_held whole is =
    let o = opened text nodes at (Made by.raw by.from) (POther (PItem whole)) by.node is in
    let a = accepted text act.ACT_HELD o.parts (POther (PItem whole) ∷ o.rest) (same_act text by.raw act.ACT_HELD o.parts by.number ∙ o.done) in
    go o.parts o.rest o.before a.0 a.1
  where
    go : (parts rest : Parts) → built text (take at nodes) ≡ Some parts → has_tops (is_atom ∷ []) parts ≡ true → POther (PItem whole) ∷ rest ≡ POther (PItem (made_held parts)) ∷ drop 1 parts → IsHeld text nodes at at_held whole
    go parts rest before h q =
        top_atom ([]) parts h (λ x0 r0 e0 h0.
        held_end text nodes at at_held known_held whole parts rest x0 r0 before e0 q)
