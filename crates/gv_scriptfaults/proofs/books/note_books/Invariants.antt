use Rattle.std.proofs.Common.{◌≡◌, [], map, take}
use Rattle.gv_lang.specs.declared.program.Program.{Program}
use Rattle.gv_atomic.specs.declared.spec.Spec.{Spec}
use Rattle.gv_scriptnames.specs.Names.{names_in}
use Rattle.gv_scriptnames.specs.Found.{in_each, of_book}
use Rattle.gv_scriptfaults.specs.Least.{after}
use Rattle.gv_scriptfaults.specs.Tables.{Holds}
use Rattle.gv_scriptfaults.proofs.books.note_books.Given as goal

abbrev pub invariant-loop-book : goal.invariant-loop-book
invariant-loop-book l = record {
  noted : (spec : Spec) (program : Program) → l.first ≡ after l.fn.first (in_each (of_book l.text spec program) [] (take l.book-index l.books));
  names : Holds (names_in l.text (map (λ b. b.name) (take l.book-index l.books))) l.names;
}
