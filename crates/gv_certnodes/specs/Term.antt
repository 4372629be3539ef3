-- Term nodes. Made by tools/script_nodes.py from script.grammar: edit that.
use Rattle.std.specs.Prelude.{◌≡◌, ℕ, ◌<◌, List, length, [], ◌∷◌}
use Rattle.gv_termread.specs.declared.generated.term_acts.Part.TheVariants.{Term as PTerm}
use Rattle.gv_termread.specs.declared.placed.PlacedTerm.{PlacedTerm}
use Rattle.gv_termread.specs.declared.token.SeenToken.{SeenToken}
use Rattle.gv_scriptsyntax.specs.declared.node.Node.{Node}
use Rattle.gv_termread.specs.Trees.{number, constant, variable, in_parens, maker, apply, unary, binary}
use Rattle.gv_scriptsyntax.specs.Nodes.{IsPartAt}
use Rattle.gv_certnodes.specs.Places.{IsBefore}
use Rattle.gv_certnodes.specs.declared.generated.term_node.TermNode.{TermNode}
use Rattle.gv_certnodes.specs.declared.generated.term_node.TermNode.TheVariants as node

-- a part of the kind stands there
pub record IsSomeTerm (text : List ℕ) (nodes : List Node) (at : ℕ) : Type 0 where
  pub whole : PlacedTerm
  pub within : at < length nodes
  pub part : IsPartAt text nodes at (PTerm whole)

pub record IsBinary (text : List ℕ) (nodes : List Node) (limit : ℕ) (left : ℕ) (sign : SeenToken) (right : ℕ) (whole : PlacedTerm) : Type 0 where
  pub of_left : PlacedTerm
  pub of_right : PlacedTerm
  pub at_left : IsBefore text nodes limit left (PTerm of_left)
  pub at_right : IsBefore text nodes limit right (PTerm of_right)
  pub made : whole ≡ (binary sign of_left of_right)

pub record IsUnary (text : List ℕ) (nodes : List Node) (limit : ℕ) (sign : SeenToken) (inner : ℕ) (whole : PlacedTerm) : Type 0 where
  pub of_inner : PlacedTerm
  pub at_inner : IsBefore text nodes limit inner (PTerm of_inner)
  pub made : whole ≡ (unary sign of_inner)

pub record IsParen (text : List ℕ) (nodes : List Node) (limit : ℕ) (brace : SeenToken) (inner : ℕ) (whole : PlacedTerm) : Type 0 where
  pub of_inner : PlacedTerm
  pub at_inner : IsBefore text nodes limit inner (PTerm of_inner)
  pub made : whole ≡ (in_parens brace of_inner)

pub record IsMaker (text : List ℕ) (nodes : List Node) (limit : ℕ) (name : SeenToken) (count : SeenToken) (item : ℕ) (whole : PlacedTerm) : Type 0 where
  pub of_item : PlacedTerm
  pub at_item : IsBefore text nodes limit item (PTerm of_item)
  pub made : whole ≡ (maker name count of_item)

pub record IsOfOne (text : List ℕ) (nodes : List Node) (limit : ℕ) (name : SeenToken) (a : ℕ) (whole : PlacedTerm) : Type 0 where
  pub of_a : PlacedTerm
  pub at_a : IsBefore text nodes limit a (PTerm of_a)
  pub made : whole ≡ (apply name (of_a ∷ []))

pub record IsOfTwo (text : List ℕ) (nodes : List Node) (limit : ℕ) (name : SeenToken) (a : ℕ) (b : ℕ) (whole : PlacedTerm) : Type 0 where
  pub of_a : PlacedTerm
  pub of_b : PlacedTerm
  pub at_a : IsBefore text nodes limit a (PTerm of_a)
  pub at_b : IsBefore text nodes limit b (PTerm of_b)
  pub made : whole ≡ (apply name (of_a ∷ of_b ∷ []))

pub record IsOfThree (text : List ℕ) (nodes : List Node) (limit : ℕ) (name : SeenToken) (a : ℕ) (b : ℕ) (c : ℕ) (whole : PlacedTerm) : Type 0 where
  pub of_a : PlacedTerm
  pub of_b : PlacedTerm
  pub of_c : PlacedTerm
  pub at_a : IsBefore text nodes limit a (PTerm of_a)
  pub at_b : IsBefore text nodes limit b (PTerm of_b)
  pub at_c : IsBefore text nodes limit c (PTerm of_c)
  pub made : whole ≡ (apply name (of_a ∷ of_b ∷ of_c ∷ []))

-- what is told of a node before `limit` is so of this part
abbrev pub IsTermNode : List ℕ → List Node → ℕ → TermNode → PlacedTerm → Type 0
IsTermNode text nodes limit (node.Binary left sign right) whole = IsBinary text nodes limit left sign right whole
IsTermNode text nodes limit (node.Unary sign inner) whole = IsUnary text nodes limit sign inner whole
IsTermNode text nodes limit (node.Number token) whole = whole ≡ (number token)
IsTermNode text nodes limit (node.Constant word) whole = whole ≡ (constant word)
IsTermNode text nodes limit (node.Variable name) whole = whole ≡ (variable text name)
IsTermNode text nodes limit (node.Paren brace inner) whole = IsParen text nodes limit brace inner whole
IsTermNode text nodes limit (node.Maker name count item) whole = IsMaker text nodes limit name count item whole
IsTermNode text nodes limit (node.OfOne name a) whole = IsOfOne text nodes limit name a whole
IsTermNode text nodes limit (node.OfTwo name a b) whole = IsOfTwo text nodes limit name a b whole
IsTermNode text nodes limit (node.OfThree name a b c) whole = IsOfThree text nodes limit name a b c whole
