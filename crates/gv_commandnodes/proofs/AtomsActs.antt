-- Atoms nodes by the acts that make them. Made by tools/script_nodes.py from script.grammar: edit that.
use Rattle.std.proofs.Common.{◌≡◌, ℕ, true, List, [], ◌∷◌, Some, refl, ap, ◌∙◌}
use Rattle.std.specs.Prelude.{drop, take}
use Rattle.gv_grammar.specs.Building.{has_tops}
use Rattle.gv_termread.specs.declared.generated.term_acts.Part.TheVariants.{Token as PToken, Other as POther}
use Rattle.gv_scriptsyntax.specs.declared.generated.script_acts.ScriptPart.TheVariants.{Atom as PAtom, Atoms as PAtoms}
use Rattle.gv_scriptsyntax.specs.declared.tree.Atom.{Atom}
use Rattle.gv_termread.specs.declared.token.SeenToken.{SeenToken}
use Rattle.gv_scriptsyntax.specs.declared.node.Node.{Node}
use Rattle.gv_scriptsyntax.specs.declared.node.Node.TheVariants.{Made}
use Rattle.gv_scriptsyntax.specs.declared.generated.script_table.TheConstants as act
use Rattle.gv_termread.specs.TermActs.{is_token}
use Rattle.gv_scriptsyntax.specs.ScriptActs.{is_atom, is_atoms, made_atom, made_in_atoms, made_next_atom, made_no_atoms}
use Rattle.gv_scriptsyntax.specs.Nodes.{Parts, built, IsPartAt}
use Rattle.gv_scriptnodes.specs.Places.{IsChild}
use Rattle.gv_scriptnodes.proofs.Opened.{opened}
use Rattle.gv_scriptnodes.proofs.Tops.{accepted, top_atom, top_atoms, top_token}
use Rattle.gv_certnodes.specs.Places.{IsMadeBy}
use Rattle.gv_commandnodes.specs.Atoms.{IsAtom, IsNextAtom, IsInAtoms}
use Rattle.gv_certnodes.proofs.Opened.{at_part, same_act}

no_atoms_end : (text : List ℕ) (nodes : List Node) (at : ℕ)
    → (whole : List Atom) (parts rest : Parts) (behind : Parts) → built text (take at nodes) ≡ Some parts → parts ≡ behind
    → POther (PAtoms whole) ∷ rest ≡ POther (PAtoms (made_no_atoms parts)) ∷ drop 0 parts → whole ≡ []
no_atoms_end text nodes at whole parts rest behind before shape q =
    let made : whole ≡ made_no_atoms parts = cc in
    made ∙ ap (λ (ps : Parts). made_no_atoms ps) shape

pub no_atoms_is : (text : List ℕ) (nodes : List Node) (at : ℕ) → IsMadeBy nodes at act.ACT_NO_ATOMS
    → (whole : List Atom) → IsPartAt text nodes at (POther (PAtoms whole)) → whole ≡ []
no_atoms_is text nodes at by whole is =
    let o = opened text nodes at (Made by.raw by.from) (POther (PAtoms whole)) by.node is in
    let a = accepted text act.ACT_NO_ATOMS o.parts (POther (PAtoms whole) ∷ o.rest) (same_act text by.raw act.ACT_NO_ATOMS o.parts by.number ∙ o.done) in
    go o.parts o.rest o.before a.0 a.1
  where
    go : (parts rest : Parts) → built text (take at nodes) ≡ Some parts → has_tops ([]) parts ≡ true → POther (PAtoms whole) ∷ rest ≡ POther (PAtoms (made_no_atoms parts)) ∷ drop 0 parts → whole ≡ []
    go parts rest before h q =
        no_atoms_end text nodes at whole parts rest parts before refl q

atom_end : (text : List ℕ) (nodes : List Node) (at : ℕ) (at_atoms : ℕ) (at_next : ℕ) → IsChild text nodes at 1 at_atoms → IsChild text nodes at 0 at_next
    → (whole : List Atom) (parts rest : Parts) (next : Atom) (atoms : List Atom) (behind : Parts) → built text (take at nodes) ≡ Some parts → parts ≡ POther (PAtom next) ∷ POther (PAtoms atoms) ∷ behind
    → POther (PAtoms whole) ∷ rest ≡ POther (PAtoms (made_atom parts)) ∷ drop 2 parts → IsAtom text nodes at at_atoms at_next whole
atom_end text nodes at at_atoms at_next known_atoms known_next whole parts rest next atoms behind before shape q =
    let made : whole ≡ made_atom parts = cc in
    record {
      of_atoms = atoms;
      of_next = next;
      at_atoms = at_part text nodes at 1 at_atoms parts (behind) (POther (PAtoms atoms)) known_atoms before (ap (λ (ps : Parts). drop 1 ps) shape);
      at_next = at_part text nodes at 0 at_next parts (POther (PAtoms atoms) ∷ behind) (POther (PAtom next)) known_next before (ap (λ (ps : Parts). drop 0 ps) shape);
      made = made ∙ ap (λ (ps : Parts). made_atom ps) shape;
    }

pub atom_is : (text : List ℕ) (nodes : List Node) (at : ℕ) (at_atoms : ℕ) (at_next : ℕ) → IsMadeBy nodes at act.ACT_ATOM → IsChild text nodes at 1 at_atoms → IsChild text nodes at 0 at_next
    → (whole : List Atom) → IsPartAt text nodes at (POther (PAtoms whole)) → IsAtom text nodes at at_atoms at_next whole
atom_is text nodes at at_atoms at_next by known_atoms known_next whole is =
    let o = opened text nodes at (Made by.raw by.from) (POther (PAtoms whole)) by.node is in
    let a = accepted text act.ACT_ATOM o.parts (POther (PAtoms whole) ∷ o.rest) (same_act text by.raw act.ACT_ATOM o.parts by.number ∙ o.done) in
    go o.parts o.rest o.before a.0 a.1
  where
    go : (parts rest : Parts) → built text (take at nodes) ≡ Some parts → has_tops (is_atom ∷ is_atoms ∷ []) parts ≡ true → POther (PAtoms whole) ∷ rest ≡ POther (PAtoms (made_atom parts)) ∷ drop 2 parts → IsAtom text nodes at at_atoms at_next whole
    go parts rest before h q =
        top_atom (is_atoms ∷ []) parts h (λ x0 r0 e0 h0.
        top_atoms ([]) r0 h0 (λ x1 r1 e1 h1.
        atom_end text nodes at at_atoms at_next known_atoms known_next whole parts rest x0 x1 r1 before (e0 ∙ ap (λ (ps : Parts). POther (PAtom x0) ∷ ps) e1) q))

next_atom_end : (text : List ℕ) (nodes : List Node) (at : ℕ) (at_atoms : ℕ) (at_next : ℕ) → IsChild text nodes at 2 at_atoms → IsChild text nodes at 0 at_next
    → (whole : List Atom) (parts rest : Parts) (next : Atom) (passed_1 : SeenToken) (atoms : List Atom) (behind : Parts) → built text (take at nodes) ≡ Some parts → parts ≡ POther (PAtom next) ∷ PToken passed_1 ∷ POther (PAtoms atoms) ∷ behind
    → POther (PAtoms whole) ∷ rest ≡ POther (PAtoms (made_next_atom parts)) ∷ drop 3 parts → IsNextAtom text nodes at at_atoms at_next whole
next_atom_end text nodes at at_atoms at_next known_atoms known_next whole parts rest next passed_1 atoms behind before shape q =
    let made : whole ≡ made_next_atom parts = cc in
    record {
      of_atoms = atoms;
      of_next = next;
      at_atoms = at_part text nodes at 2 at_atoms parts (behind) (POther (PAtoms atoms)) known_atoms before (ap (λ (ps : Parts). drop 2 ps) shape);
      at_next = at_part text nodes at 0 at_next parts (PToken passed_1 ∷ POther (PAtoms atoms) ∷ behind) (POther (PAtom next)) known_next before (ap (λ (ps : Parts). drop 0 ps) shape);
      made = made ∙ ap (λ (ps : Parts). made_next_atom ps) shape;
    }

pub next_atom_is : (text : List ℕ) (nodes : List Node) (at : ℕ) (at_atoms : ℕ) (at_next : ℕ) → IsMadeBy nodes at act.ACT_NEXT_ATOM → IsChild text nodes at 2 at_atoms → IsChild text nodes at 0 at_next
    → (whole : List Atom) → IsPartAt text nodes at (POther (PAtoms whole)) → IsNextAtom text nodes at at_atoms at_next whole
next_atom_is text nodes at at_atoms at_next by known_atoms known_next whole is =
    let o = opened text nodes at (Made by.raw by.from) (POther (PAtoms whole)) by.node is in
    let a = accepted text act.ACT_NEXT_ATOM o.parts (POther (PAtoms whole) ∷ o.rest) (same_act text by.raw act.ACT_NEXT_ATOM o.parts by.number ∙ o.done) in
    go o.parts o.rest o.before a.0 a.1
  where
    go : (parts rest : Parts) → built text (take at nodes) ≡ Some parts → has_tops (is_atom ∷ is_token ∷ is_atoms ∷ []) parts ≡ true → POther (PAtoms whole) ∷ rest ≡ POther (PAtoms (made_next_atom parts)) ∷ drop 3 parts → IsNextAtom text nodes at at_atoms at_next whole
    go parts rest before h q =
        top_atom (is_token ∷ is_atoms ∷ []) parts h (λ x0 r0 e0 h0.
        top_token (is_atoms ∷ []) r0 h0 (λ x1 r1 e1 h1.
        top_atoms ([]) r1 h1 (λ x2 r2 e2 h2.
        next_atom_end text nodes at at_atoms at_next known_atoms known_next whole parts rest x0 x1 x2 r2 before (e0 ∙ ap (λ (ps : Parts). POther (PAtom x0) ∷ ps) (e1 ∙ ap (λ (ps : Parts). PToken x1 ∷ ps) e2)) q)))

in_atoms_end : (text : List ℕ) (nodes : List Node) (at : ℕ) (at_atoms : ℕ) → IsChild text nodes at 1 at_atoms
    → (whole : List Atom) (parts rest : Parts) (passed_2 : SeenToken) (atoms : List Atom) (passed_0 : SeenToken) (behind : Parts) → built text (take at nodes) ≡ Some parts → parts ≡ PToken passed_2 ∷ POther (PAtoms atoms) ∷ PToken passed_0 ∷ behind
    → POther (PAtoms whole) ∷ rest ≡ POther (PAtoms (made_in_atoms parts)) ∷ drop 3 parts → IsInAtoms text nodes at at_atoms whole
in_atoms_end text nodes at at_atoms known_atoms whole parts rest passed_2 atoms passed_0 behind before shape q =
    let made : whole ≡ made_in_atoms parts = cc in
    record {
      of_atoms = atoms;
      at_atoms = at_part text nodes at 1 at_atoms parts (PToken passed_0 ∷ behind) (POther (PAtoms atoms)) known_atoms before (ap (λ (ps : Parts). drop 1 ps) shape);
      made = made ∙ ap (λ (ps : Parts). made_in_atoms ps) shape;
    }

pub in_atoms_is : (text : List ℕ) (nodes : List Node) (at : ℕ) (at_atoms : ℕ) → IsMadeBy nodes at act.ACT_IN_ATOMS → IsChild text nodes at 1 at_atoms
    → (whole : List Atom) → IsPartAt text nodes at (POther (PAtoms whole)) → IsInAtoms text nodes at at_atoms whole
in_atoms_is text nodes at at_atoms by known_atoms whole is =
    let o = opened text nodes at (Made by.raw by.from) (POther (PAtoms whole)) by.node is in
    let a = accepted text act.ACT_IN_ATOMS o.parts (POther (PAtoms whole) ∷ o.rest) (same_act text by.raw act.ACT_IN_ATOMS o.parts by.number ∙ o.done) in
    go o.parts o.rest o.before a.0 a.1
  where
    go : (parts rest : Parts) → built text (take at nodes) ≡ Some parts → has_tops (is_token ∷ is_atoms ∷ is_token ∷ []) parts ≡ true → POther (PAtoms whole) ∷ rest ≡ POther (PAtoms (made_in_atoms parts)) ∷ drop 3 parts → IsInAtoms text nodes at at_atoms whole
    go parts rest before h q =
        top_token (is_atoms ∷ is_token ∷ []) parts h (λ x0 r0 e0 h0.
        top_atoms (is_token ∷ []) r0 h0 (λ x1 r1 e1 h1.
        top_token ([]) r1 h1 (λ x2 r2 e2 h2.
        in_atoms_end text nodes at at_atoms known_atoms whole parts rest x0 x1 x2 r2 before (e0 ∙ ap (λ (ps : Parts). PToken x0 ∷ ps) (e1 ∙ ap (λ (ps : Parts). POther (PAtoms x1) ∷ ps) e2)) q)))
