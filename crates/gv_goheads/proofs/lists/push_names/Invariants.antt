use Rattle.std.proofs.Common.{List, ◌++◌, reverse}
use Rattle.gv_gosyntax.specs.declared.generated.gosyntax_acts.Part.TheVariants.{Names as PNames}
use Rattle.gv_gosyntax.specs.declared.lexeme.Lexeme.{Lexeme}
use Rattle.gv_gosyntax.specs.Nodes.{IsPartAt}
use Rattle.gv_gonodes.specs.Names.{IsSomeNames}
use Rattle.gv_goheads.proofs.Splits.{IsSplit}
use Rattle.gv_goheads.proofs.lists.push_names.Given as goal

abbrev pub invariant-loop-before : goal.invariant-loop-before
invariant-loop-before l = record {
  some : IsSomeNames l.nodes l.place;
  rest : (ts : List Lexeme) → IsPartAt l.nodes l.at (PNames ts) → IsSplit l.nodes PNames l.place (reverse l.names.items) (ts ++ reverse l.fn.names.items);
}

abbrev pub decreases-loop-before : goal.decreases-loop-before
decreases-loop-before l = l.place
