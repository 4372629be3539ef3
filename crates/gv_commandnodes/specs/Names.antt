-- Names nodes. Made by tools/script_nodes.py from script.grammar: edit that.
use Rattle.std.specs.Prelude.{◌≡◌, ℕ, ◌<◌, List, length, [], ◌∷◌, ◌++◌}
use Rattle.gv_termread.specs.declared.generated.term_acts.Part.TheVariants.{Other as POther}
use Rattle.gv_scriptsyntax.specs.declared.generated.script_acts.ScriptPart.TheVariants.{Names as PNames}
use Rattle.gv_termread.specs.declared.token.SeenToken.{SeenToken}
use Rattle.gv_scriptsyntax.specs.declared.node.Node.{Node}
use Rattle.gv_scriptsyntax.specs.Nodes.{IsPartAt}
use Rattle.gv_certnodes.specs.Places.{IsBefore}
use Rattle.gv_commandnodes.specs.declared.generated.names_node.NamesNode.{NamesNode}
use Rattle.gv_commandnodes.specs.declared.generated.names_node.NamesNode.TheVariants as node

-- a part of the kind stands there
pub record IsSomeNames (text : List ℕ) (nodes : List Node) (at : ℕ) : Type 0 where
  pub whole : List SeenToken
  pub within : at < length nodes
  pub part : IsPartAt text nodes at (POther (PNames whole))

pub record IsName (text : List ℕ) (nodes : List Node) (limit : ℕ) (names : ℕ) (name : SeenToken) (whole : List SeenToken) : Type 0 where
  pub of_names : List SeenToken
  pub at_names : IsBefore text nodes limit names (POther (PNames of_names))
  pub made : whole ≡ (of_names ++ name ∷ [])

pub record IsNextName (text : List ℕ) (nodes : List Node) (limit : ℕ) (names : ℕ) (name : SeenToken) (whole : List SeenToken) : Type 0 where
  pub of_names : List SeenToken
  pub at_names : IsBefore text nodes limit names (POther (PNames of_names))
  pub made : whole ≡ (of_names ++ name ∷ [])

pub record IsInNames (text : List ℕ) (nodes : List Node) (limit : ℕ) (names : ℕ) (whole : List SeenToken) : Type 0 where
  pub of_names : List SeenToken
  pub at_names : IsBefore text nodes limit names (POther (PNames of_names))
  pub made : whole ≡ of_names

pub record IsWordNames (text : List ℕ) (nodes : List Node) (limit : ℕ) (names : ℕ) (whole : List SeenToken) : Type 0 where
  pub of_names : List SeenToken
  pub at_names : IsBefore text nodes limit names (POther (PNames of_names))
  pub made : whole ≡ of_names

-- what is told of a node before `limit` is so of this part
abbrev pub IsNamesNode : List ℕ → List Node → ℕ → NamesNode → List SeenToken → Type 0
IsNamesNode text nodes limit node.NoNames whole = whole ≡ []
IsNamesNode text nodes limit (node.Name names name) whole = IsName text nodes limit names name whole
IsNamesNode text nodes limit (node.NextName names name) whole = IsNextName text nodes limit names name whole
IsNamesNode text nodes limit (node.InNames names) whole = IsInNames text nodes limit names whole
IsNamesNode text nodes limit (node.WordNames names) whole = IsWordNames text nodes limit names whole
