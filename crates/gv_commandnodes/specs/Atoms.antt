-- Atoms nodes. Made by tools/script_nodes.py from script.grammar: edit that.
use Rattle.std.specs.Prelude.{◌≡◌, ℕ, ◌<◌, List, length, [], ◌∷◌, ◌++◌}
use Rattle.gv_termread.specs.declared.generated.term_acts.Part.TheVariants.{Other as POther}
use Rattle.gv_scriptsyntax.specs.declared.generated.script_acts.ScriptPart.TheVariants.{Atom as PAtom, Atoms as PAtoms}
use Rattle.gv_scriptsyntax.specs.declared.tree.Atom.{Atom}
use Rattle.gv_scriptsyntax.specs.declared.node.Node.{Node}
use Rattle.gv_scriptsyntax.specs.Nodes.{IsPartAt}
use Rattle.gv_certnodes.specs.Places.{IsBefore}
use Rattle.gv_commandnodes.specs.declared.generated.atoms_node.AtomsNode.{AtomsNode}
use Rattle.gv_commandnodes.specs.declared.generated.atoms_node.AtomsNode.TheVariants as node

-- a part of the kind stands there
pub record IsSomeAtoms (text : List ℕ) (nodes : List Node) (at : ℕ) : Type 0 where
  pub whole : List Atom
  pub within : at < length nodes
  pub part : IsPartAt text nodes at (POther (PAtoms whole))

pub record IsAtom (text : List ℕ) (nodes : List Node) (limit : ℕ) (atoms : ℕ) (next : ℕ) (whole : List Atom) : Type 0 where
  pub of_atoms : List Atom
  pub of_next : Atom
  pub at_atoms : IsBefore text nodes limit atoms (POther (PAtoms of_atoms))
  pub at_next : IsBefore text nodes limit next (POther (PAtom of_next))
  pub made : whole ≡ (of_atoms ++ of_next ∷ [])

pub record IsNextAtom (text : List ℕ) (nodes : List Node) (limit : ℕ) (atoms : ℕ) (next : ℕ) (whole : List Atom) : Type 0 where
  pub of_atoms : List Atom
  pub of_next : Atom
  pub at_atoms : IsBefore text nodes limit atoms (POther (PAtoms of_atoms))
  pub at_next : IsBefore text nodes limit next (POther (PAtom of_next))
  pub made : whole ≡ (of_atoms ++ of_next ∷ [])

pub record IsInAtoms (text : List ℕ) (nodes : List Node) (limit : ℕ) (atoms : ℕ) (whole : List Atom) : Type 0 where
  pub of_atoms : List Atom
  pub at_atoms : IsBefore text nodes limit atoms (POther (PAtoms of_atoms))
  pub made : whole ≡ of_atoms

-- what is told of a node before `limit` is so of this part
abbrev pub IsAtomsNode : List ℕ → List Node → ℕ → AtomsNode → List Atom → Type 0
IsAtomsNode text nodes limit node.NoAtoms whole = whole ≡ []
IsAtomsNode text nodes limit (node.Atom atoms next) whole = IsAtom text nodes limit atoms next whole
IsAtomsNode text nodes limit (node.NextAtom atoms next) whole = IsNextAtom text nodes limit atoms next whole
IsAtomsNode text nodes limit (node.InAtoms atoms) whole = IsInAtoms text nodes limit atoms whole
