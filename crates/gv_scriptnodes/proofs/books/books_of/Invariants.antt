use Rattle.std.specs.Prelude.{◌<◌, List, length}
use Rattle.gv_termread.specs.declared.generated.term_acts.Part.TheVariants.{Other as POther}
use Rattle.gv_scriptsyntax.specs.declared.tree.Book.{Book}
use Rattle.gv_scriptsyntax.specs.declared.generated.script_acts.ScriptPart.TheVariants.{Books as PBooks}
use Rattle.gv_scriptsyntax.specs.Nodes.{IsPartAt}
use Rattle.gv_scriptnames.specs.Outlines.{of_book}
use Rattle.gv_scriptnodes.specs.Lasts.{IsLeft}
use Rattle.gv_scriptnodes.proofs.books.books_of.Given as goal

-- those that were taken follow those that are left
abbrev pub invariant-loop-book : goal.invariant-loop-book
invariant-loop-book l = record {
  within : l.place < length l.nodes;
  left : (whole : List Book) → IsPartAt l.text l.nodes l.at (POther (PBooks whole)) → IsLeft (λ place books. IsPartAt l.text l.nodes place (POther (PBooks books))) of_book l.place l.books.items whole;
}

abbrev pub decreases-loop-book : goal.decreases-loop-book
decreases-loop-book l = l.place
