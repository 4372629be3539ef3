-- Declarations and where their nodes stand.
use Rattle.std.specs.Prelude.{ℕ, List, [], ◌∷◌}
use Rattle.gv_gosyntax.specs.declared.generated.gosyntax_acts.Part.TheVariants.{Decl as PDecl}
use Rattle.gv_gosyntax.specs.declared.node.Node.{Node}
use Rattle.gv_gosyntax.specs.declared.tree.Decl.{Decl}
use Rattle.gv_gonodes.specs.Places.{IsBefore}

-- at each place before `limit` stands the node of a declaration, in their order
abbrev pub AreDecls : List Node → ℕ → List ℕ → List Decl → Type 0
AreDecls nodes limit [] [] = Unit {0}
AreDecls nodes limit (p ∷ ps) (d ∷ ds) = IsBefore nodes limit p (PDecl d) × AreDecls nodes limit ps ds
AreDecls nodes limit ps ds = ⊥
