use Rattle.std.proofs.Common.{◌∷◌, map, take}
use Rattle.gv_scriptnames.specs.Scopes.{block_lease, book_lease}
use Rattle.gv_scriptfaults.specs.Scoped.{params_of}
use Rattle.gv_scriptfaults.specs.Tables.{IsTable}
use Rattle.gv_scriptfaults.proofs.outside.outside_of.Given as goal

abbrev pub invariant-loop-book : goal.invariant-loop-book
invariant-loop-book l = IsTable (λ s. s.name) params_of (block_lease ∷ map (book_lease l.text) (take l.book-index l.books)) l.preds
