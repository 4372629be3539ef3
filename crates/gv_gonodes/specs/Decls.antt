-- Decls nodes. Made by tools/nodes.py from gosyntax.grammar: edit that.
use Rattle.std.specs.Prelude.{◌≡◌, ℕ, ◌<◌, List, length, [], ◌∷◌, ◌++◌}
use Rattle.gv_gosyntax.specs.declared.generated.gosyntax_acts.Part.TheVariants.{Decl as PDecl, Decls as PDecls}
use Rattle.gv_gosyntax.specs.declared.tree.Decl.{Decl}
use Rattle.gv_gosyntax.specs.declared.node.Node.{Node}
use Rattle.gv_gosyntax.specs.Nodes.{IsPartAt}
use Rattle.gv_gonodes.specs.Places.{IsBefore}
use Rattle.gv_gonodes.specs.declared.generated.decls_node.DeclsNode.{DeclsNode}
use Rattle.gv_gonodes.specs.declared.generated.decls_node.DeclsNode.TheVariants as node

-- a part of the kind stands there
pub record IsSomeDecls (nodes : List Node) (at : ℕ) : Type 0 where
  pub whole : List Decl
  pub within : at < length nodes
  pub part : IsPartAt nodes at (PDecls whole)

pub record IsDecl (nodes : List Node) (limit : ℕ) (decls : ℕ) (decl : ℕ) (whole : List Decl) : Type 0 where
  pub of_decls : List Decl
  pub of_decl : Decl
  pub at_decls : IsBefore nodes limit decls (PDecls of_decls)
  pub at_decl : IsBefore nodes limit decl (PDecl of_decl)
  pub made : whole ≡ (of_decls ++ of_decl ∷ [])

-- what is told of a node before `limit` is so of this part
abbrev pub IsDeclsNode : List Node → ℕ → DeclsNode → List Decl → Type 0
IsDeclsNode nodes limit node.NoDecls whole = whole ≡ []
IsDeclsNode nodes limit (node.Decl decls decl) whole = IsDecl nodes limit decls decl whole
