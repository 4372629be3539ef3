-- Decl nodes. Made by tools/nodes.py from gosyntax.grammar: edit that.
use Rattle.std.specs.Prelude.{◌≡◌, ℕ, ◌<◌, List, length, Some, None, Option}
use Rattle.gv_gosyntax.specs.declared.generated.gosyntax_acts.Part.TheVariants.{Block as PBlock, Decl as PDecl, Expr as PExpr, Groups as PGroups, Receiver as PReceiver, Types as PTypes}
use Rattle.gv_gosyntax.specs.declared.tree.Block.{Block}
use Rattle.gv_gosyntax.specs.declared.tree.Decl.{Decl}
use Rattle.gv_gosyntax.specs.declared.tree.Expr.{Expr}
use Rattle.gv_gosyntax.specs.declared.tree.GoType.{GoType}
use Rattle.gv_gosyntax.specs.declared.tree.Group.{Group}
use Rattle.gv_gosyntax.specs.declared.lexeme.Lexeme.{Lexeme}
use Rattle.gv_gosyntax.specs.declared.tree.Receiver.{Receiver}
use Rattle.gv_gosyntax.specs.declared.node.Node.{Node}
use Rattle.gv_gosyntax.specs.declared.tree.Decl.TheVariants as decl
use Rattle.gv_gosyntax.specs.Nodes.{IsPartAt}
use Rattle.gv_gonodes.specs.Places.{IsBefore}
use Rattle.gv_gonodes.specs.declared.generated.decl_node.DeclNode.{DeclNode}
use Rattle.gv_gonodes.specs.declared.generated.decl_node.DeclNode.TheVariants as node

-- a part of the kind stands there
pub record IsSomeDecl (nodes : List Node) (at : ℕ) : Type 0 where
  pub whole : Decl
  pub within : at < length nodes
  pub part : IsPartAt nodes at (PDecl whole)

pub record IsStruct (nodes : List Node) (limit : ℕ) (name : Lexeme) (fields : ℕ) (whole : Decl) : Type 0 where
  pub of_fields : List Group
  pub at_fields : IsBefore nodes limit fields (PGroups of_fields)
  pub made : whole ≡ (decl.Struct name of_fields)

pub record IsConst (nodes : List Node) (limit : ℕ) (name : Lexeme) (value : ℕ) (whole : Decl) : Type 0 where
  pub of_value : Expr
  pub at_value : IsBefore nodes limit value (PExpr of_value)
  pub made : whole ≡ (decl.Const name None of_value)

pub record IsTypedConst (nodes : List Node) (limit : ℕ) (name : Lexeme) (kind : Lexeme) (value : ℕ) (whole : Decl) : Type 0 where
  pub of_value : Expr
  pub at_value : IsBefore nodes limit value (PExpr of_value)
  pub made : whole ≡ (decl.Const name (Some kind) of_value)

pub record IsFunc (nodes : List Node) (limit : ℕ) (receiver : ℕ) (name : Lexeme) (params : ℕ) (results : ℕ) (body : ℕ) (whole : Decl) : Type 0 where
  pub of_receiver : Option Receiver
  pub of_params : List Group
  pub of_results : List GoType
  pub of_body : Block
  pub at_receiver : IsBefore nodes limit receiver (PReceiver of_receiver)
  pub at_params : IsBefore nodes limit params (PGroups of_params)
  pub at_results : IsBefore nodes limit results (PTypes of_results)
  pub at_body : IsBefore nodes limit body (PBlock of_body)
  pub made : whole ≡ (decl.Func (record { receiver = of_receiver; name = name; params = of_params; results = of_results; body = of_body }))

-- what is told of a node before `limit` is so of this part
abbrev pub IsDeclNode : List Node → ℕ → DeclNode → Decl → Type 0
IsDeclNode nodes limit (node.Struct name fields) whole = IsStruct nodes limit name fields whole
IsDeclNode nodes limit (node.Const name value) whole = IsConst nodes limit name value whole
IsDeclNode nodes limit (node.TypedConst name kind value) whole = IsTypedConst nodes limit name kind value whole
IsDeclNode nodes limit (node.Func receiver name params results body) whole = IsFunc nodes limit receiver name params results body whole
