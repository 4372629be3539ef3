use Rattle.std.proofs.Common.{◌≡◌, List, drop}
use Rattle.gv_gosyntax.specs.declared.lexeme.Lexeme.{Lexeme}
use Rattle.gv_goseen.specs.Naming.{source_with}
use Rattle.gv_gonaming.proofs.Rests.{AreLeft}
use Rattle.gv_gonaming.proofs.imports.declare_imports.Given as goal

abbrev pub invariant-loop-path : goal.invariant-loop-path
invariant-loop-path l = record {
  text : l.names.text ≡ l.text;
  left : (tokens : List Lexeme) → AreLeft (source_with l.text tokens) l.fn.names.names l.names.names l.first l.paths (drop l.path-index l.paths);
}
