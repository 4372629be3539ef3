-- What terms of a store stand for.
use Rattle.std.specs.Prelude.{List}
use Rattle.gv_terms.specs.declared.term.Term.{Term}
use Rattle.gv_terms.specs.declared.tree.TermTree.{TermTree}
use Rattle.gv_terms.specs.Store.{tree_at}
use Rattle.gv_certs.specs.Trees.{replaced}
use Rattle.gv_known.specs.declared.parts.Pair.{Pair}

-- the trees of two terms
abbrev pub parts_at : List TermTree → Pair → TermTree × TermTree
parts_at st p = (tree_at st p.first.id, tree_at st p.second.id)

-- the third term's tree with that of the second in place of each that the first has
abbrev pub replaced_at : List TermTree → Term → Term → Term → TermTree
replaced_at st from to t = replaced (tree_at st from.id) (tree_at st to.id) (tree_at st t.id)
