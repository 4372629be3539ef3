use Rattle.std.proofs.Common.{List, reverse}
use Rattle.gv_gosyntax.specs.declared.generated.gosyntax_acts.Part.TheVariants.{Imports as PImports}
use Rattle.gv_gosyntax.specs.declared.lexeme.Lexeme.{Lexeme}
use Rattle.gv_gosyntax.specs.Nodes.{IsPartAt}
use Rattle.gv_gonodes.specs.Imports.{IsSomeImports}
use Rattle.gv_goheads.proofs.Splits.{AreImported}
use Rattle.gv_goheads.proofs.lists.imports_at.Given as goal

abbrev pub invariant-loop-imports : goal.invariant-loop-imports
invariant-loop-imports l = record {
  some : IsSomeImports l.nodes l.place;
  rest : (tss : List (List Lexeme)) → IsPartAt l.nodes l.at (PImports tss) → AreImported l.nodes l.place (reverse l.paths.items) tss;
}

abbrev pub decreases-loop-imports : goal.decreases-loop-imports
decreases-loop-imports l = l.place
