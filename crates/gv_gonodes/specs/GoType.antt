-- GoType nodes. Made by tools/nodes.py from gosyntax.grammar: edit that.
use Rattle.std.specs.Prelude.{◌≡◌, ℕ, ◌<◌, List, length}
use Rattle.gv_gosyntax.specs.declared.generated.gosyntax_acts.Part.TheVariants.{GoType as PGoType, Pointed as PPointed}
use Rattle.gv_gosyntax.specs.declared.tree.GoType.{GoType}
use Rattle.gv_gosyntax.specs.declared.lexeme.Lexeme.{Lexeme}
use Rattle.gv_gosyntax.specs.declared.tree.Pointed.{Pointed}
use Rattle.gv_gosyntax.specs.declared.node.Node.{Node}
use Rattle.gv_gosyntax.specs.declared.tree.GoType.TheVariants as go_type
use Rattle.gv_gosyntax.specs.Nodes.{IsPartAt}
use Rattle.gv_gonodes.specs.Places.{IsBefore}
use Rattle.gv_gonodes.specs.declared.generated.go_type_node.GoTypeNode.{GoTypeNode}
use Rattle.gv_gonodes.specs.declared.generated.go_type_node.GoTypeNode.TheVariants as node

-- a part of the kind stands there
pub record IsSomeGoType (nodes : List Node) (at : ℕ) : Type 0 where
  pub whole : GoType
  pub within : at < length nodes
  pub part : IsPartAt nodes at (PGoType whole)

pub record IsPointersType (nodes : List Node) (limit : ℕ) (start : Lexeme) (to : ℕ) (whole : GoType) : Type 0 where
  pub of_to : Pointed
  pub at_to : IsBefore nodes limit to (PPointed of_to)
  pub made : whole ≡ (go_type.Pointers start of_to)

pub record IsPointerType (nodes : List Node) (limit : ℕ) (star : Lexeme) (to : ℕ) (whole : GoType) : Type 0 where
  pub of_to : Pointed
  pub at_to : IsBefore nodes limit to (PPointed of_to)
  pub made : whole ≡ (go_type.Pointer star of_to)

-- what is told of a node before `limit` is so of this part
abbrev pub IsGoTypeNode : List Node → ℕ → GoTypeNode → GoType → Type 0
IsGoTypeNode nodes limit (node.WordType word) whole = whole ≡ (go_type.Word word)
IsGoTypeNode nodes limit (node.SliceType start word) whole = whole ≡ (go_type.Slice start word)
IsGoTypeNode nodes limit (node.PointersType start to) whole = IsPointersType nodes limit start to whole
IsGoTypeNode nodes limit (node.MapType word) whole = whole ≡ (go_type.Map word)
IsGoTypeNode nodes limit (node.PointerType star to) whole = IsPointerType nodes limit star to whole
IsGoTypeNode nodes limit (node.BlockType word) whole = whole ≡ (go_type.Block word)
