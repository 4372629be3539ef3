-- Atom nodes. Made by tools/script_nodes.py from script.grammar: edit that.
use Rattle.std.specs.Prelude.{◌≡◌, ℕ, ◌<◌, List, length, Option}
use Rattle.gv_termread.specs.declared.generated.term_acts.Part.TheVariants.{Term as PTerm, Other as POther}
use Rattle.gv_scriptsyntax.specs.declared.generated.script_acts.ScriptPart.TheVariants.{Atom as PAtom, Inst as PInst, MaybeTerm as PMaybeTerm, Terms as PTerms}
use Rattle.gv_scriptsyntax.specs.declared.tree.Atom.{Atom}
use Rattle.gv_scriptsyntax.specs.declared.tree.Inst.{Inst}
use Rattle.gv_termread.specs.declared.placed.PlacedTerm.{PlacedTerm}
use Rattle.gv_termread.specs.declared.token.SeenToken.{SeenToken}
use Rattle.gv_scriptsyntax.specs.declared.node.Node.{Node}
use Rattle.gv_scriptsyntax.specs.declared.tree.Atom.TheVariants as atom
use Rattle.gv_scriptsyntax.specs.Nodes.{IsPartAt}
use Rattle.gv_certnodes.specs.Places.{IsBefore}
use Rattle.gv_commandnodes.specs.declared.generated.atom_node.AtomNode.{AtomNode}
use Rattle.gv_commandnodes.specs.declared.generated.atom_node.AtomNode.TheVariants as node

-- a part of the kind stands there
pub record IsSomeAtom (text : List ℕ) (nodes : List Node) (at : ℕ) : Type 0 where
  pub whole : Atom
  pub within : at < length nodes
  pub part : IsPartAt text nodes at (POther (PAtom whole))

pub record IsOneAtom (text : List ℕ) (nodes : List Node) (limit : ℕ) (word : SeenToken) (a : ℕ) (whole : Atom) : Type 0 where
  pub of_a : PlacedTerm
  pub at_a : IsBefore text nodes limit a (PTerm of_a)
  pub made : whole ≡ (atom.One word of_a)

pub record IsTwoAtom (text : List ℕ) (nodes : List Node) (limit : ℕ) (word : SeenToken) (a : ℕ) (b : ℕ) (whole : Atom) : Type 0 where
  pub of_a : PlacedTerm
  pub of_b : PlacedTerm
  pub at_a : IsBefore text nodes limit a (PTerm of_a)
  pub at_b : IsBefore text nodes limit b (PTerm of_b)
  pub made : whole ≡ (atom.Two word of_a of_b)

pub record IsThreeAtom (text : List ℕ) (nodes : List Node) (limit : ℕ) (word : SeenToken) (a : ℕ) (b : ℕ) (c : ℕ) (whole : Atom) : Type 0 where
  pub of_a : PlacedTerm
  pub of_b : PlacedTerm
  pub of_c : PlacedTerm
  pub at_a : IsBefore text nodes limit a (PTerm of_a)
  pub at_b : IsBefore text nodes limit b (PTerm of_b)
  pub at_c : IsBefore text nodes limit c (PTerm of_c)
  pub made : whole ≡ (atom.Three word of_a of_b of_c)

pub record IsCellAtom (text : List ℕ) (nodes : List Node) (limit : ℕ) (word : SeenToken) (a : ℕ) (name : SeenToken) (b : ℕ) (whole : Atom) : Type 0 where
  pub of_a : PlacedTerm
  pub of_b : PlacedTerm
  pub at_a : IsBefore text nodes limit a (PTerm of_a)
  pub at_b : IsBefore text nodes limit b (PTerm of_b)
  pub made : whole ≡ (atom.Cell word of_a name of_b)

pub record IsFieldAtom (text : List ℕ) (nodes : List Node) (limit : ℕ) (word : SeenToken) (name : SeenToken) (a : ℕ) (whole : Atom) : Type 0 where
  pub of_a : PlacedTerm
  pub at_a : IsBefore text nodes limit a (PTerm of_a)
  pub made : whole ≡ (atom.Field word name of_a)

pub record IsBookAtom (text : List ℕ) (nodes : List Node) (limit : ℕ) (word : SeenToken) (name : SeenToken) (a : ℕ) (b : ℕ) (whole : Atom) : Type 0 where
  pub of_a : PlacedTerm
  pub of_b : PlacedTerm
  pub at_a : IsBefore text nodes limit a (PTerm of_a)
  pub at_b : IsBefore text nodes limit b (PTerm of_b)
  pub made : whole ≡ (atom.Book word name of_a of_b)

pub record IsLockAtom (text : List ℕ) (nodes : List Node) (limit : ℕ) (word : SeenToken) (a : ℕ) (inst : ℕ) (whole : Atom) : Type 0 where
  pub of_a : PlacedTerm
  pub of_inst : Inst
  pub at_a : IsBefore text nodes limit a (PTerm of_a)
  pub at_inst : IsBefore text nodes limit inst (POther (PInst of_inst))
  pub made : whole ≡ (atom.Lock word of_a of_inst)

pub record IsTokenAtom (text : List ℕ) (nodes : List Node) (limit : ℕ) (word : SeenToken) (a : ℕ) (name : SeenToken) (terms : ℕ) (whole : Atom) : Type 0 where
  pub of_a : PlacedTerm
  pub of_terms : List PlacedTerm
  pub at_a : IsBefore text nodes limit a (PTerm of_a)
  pub at_terms : IsBefore text nodes limit terms (POther (PTerms of_terms))
  pub made : whole ≡ (atom.Token word of_a name of_terms)

pub record IsDoneAtom (text : List ℕ) (nodes : List Node) (limit : ℕ) (word : SeenToken) (a : ℕ) (reply : ℕ) (whole : Atom) : Type 0 where
  pub of_a : PlacedTerm
  pub of_reply : Option PlacedTerm
  pub at_a : IsBefore text nodes limit a (PTerm of_a)
  pub at_reply : IsBefore text nodes limit reply (POther (PMaybeTerm of_reply))
  pub made : whole ≡ (atom.Done word of_a of_reply)

pub record IsEachAtom (text : List ℕ) (nodes : List Node) (limit : ℕ) (word : SeenToken) (name : SeenToken) (low : ℕ) (high : ℕ) (except : ℕ) (body : ℕ) (whole : Atom) : Type 0 where
  pub of_low : PlacedTerm
  pub of_high : PlacedTerm
  pub of_except : List PlacedTerm
  pub of_body : Atom
  pub at_low : IsBefore text nodes limit low (PTerm of_low)
  pub at_high : IsBefore text nodes limit high (PTerm of_high)
  pub at_except : IsBefore text nodes limit except (POther (PTerms of_except))
  pub at_body : IsBefore text nodes limit body (POther (PAtom of_body))
  pub made : whole ≡ (atom.Each word name of_low of_high of_except of_body)

pub record IsInstAtom (text : List ℕ) (nodes : List Node) (limit : ℕ) (inst : ℕ) (whole : Atom) : Type 0 where
  pub of_inst : Inst
  pub at_inst : IsBefore text nodes limit inst (POther (PInst of_inst))
  pub made : whole ≡ (atom.Instance of_inst)

-- what is told of a node before `limit` is so of this part
abbrev pub IsAtomNode : List ℕ → List Node → ℕ → AtomNode → Atom → Type 0
IsAtomNode text nodes limit (node.OneAtom word a) whole = IsOneAtom text nodes limit word a whole
IsAtomNode text nodes limit (node.TwoAtom word a b) whole = IsTwoAtom text nodes limit word a b whole
IsAtomNode text nodes limit (node.ThreeAtom word a b c) whole = IsThreeAtom text nodes limit word a b c whole
IsAtomNode text nodes limit (node.CellAtom word a name b) whole = IsCellAtom text nodes limit word a name b whole
IsAtomNode text nodes limit (node.FieldAtom word name a) whole = IsFieldAtom text nodes limit word name a whole
IsAtomNode text nodes limit (node.BookAtom word name a b) whole = IsBookAtom text nodes limit word name a b whole
IsAtomNode text nodes limit (node.LockAtom word a inst) whole = IsLockAtom text nodes limit word a inst whole
IsAtomNode text nodes limit (node.TokenAtom word a name terms) whole = IsTokenAtom text nodes limit word a name terms whole
IsAtomNode text nodes limit (node.DoneAtom word a reply) whole = IsDoneAtom text nodes limit word a reply whole
IsAtomNode text nodes limit (node.EachAtom word name low high except body) whole = IsEachAtom text nodes limit word name low high except body whole
IsAtomNode text nodes limit (node.InstAtom inst) whole = IsInstAtom text nodes limit inst whole
