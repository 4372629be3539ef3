-- File nodes. Made by tools/nodes.py from gosyntax.grammar: edit that.
use Rattle.std.specs.Prelude.{◌≡◌, ℕ, ◌<◌, List, length}
use Rattle.gv_gosyntax.specs.declared.generated.gosyntax_acts.Part.TheVariants.{Decls as PDecls, File as PFile, Imports as PImports}
use Rattle.gv_gosyntax.specs.declared.tree.Decl.{Decl}
use Rattle.gv_gosyntax.specs.declared.tree.File.{File}
use Rattle.gv_gosyntax.specs.declared.lexeme.Lexeme.{Lexeme}
use Rattle.gv_gosyntax.specs.declared.node.Node.{Node}
use Rattle.gv_gosyntax.specs.Nodes.{IsPartAt}
use Rattle.gv_gonodes.specs.Places.{IsBefore}
use Rattle.gv_gonodes.specs.declared.generated.file_node.FileNode.{FileNode}
use Rattle.gv_gonodes.specs.declared.generated.file_node.FileNode.TheVariants as node

-- a part of the kind stands there
pub record IsSomeFile (nodes : List Node) (at : ℕ) : Type 0 where
  pub whole : File
  pub within : at < length nodes
  pub part : IsPartAt nodes at (PFile whole)

pub record IsFile (nodes : List Node) (limit : ℕ) (name : Lexeme) (imports : ℕ) (decls : ℕ) (whole : File) : Type 0 where
  pub of_imports : List (List Lexeme)
  pub of_decls : List Decl
  pub at_imports : IsBefore nodes limit imports (PImports of_imports)
  pub at_decls : IsBefore nodes limit decls (PDecls of_decls)
  pub made : whole ≡ (record { name = name; imports = of_imports; decls = of_decls })

-- what is told of a node before `limit` is so of this part
abbrev pub IsFileNode : List Node → ℕ → FileNode → File → Type 0
IsFileNode nodes limit (node.File name imports decls) whole = IsFile nodes limit name imports decls whole
