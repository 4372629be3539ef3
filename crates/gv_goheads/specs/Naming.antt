-- Names of declarations, and how many declarations of each kind there are.
use Rattle.gv_gosyntax.specs.declared.lexeme.Lexeme.{Lexeme}
use Rattle.gv_gotypes.specs.declared.names.Entity.{Entity}
use Rattle.gv_gotypes.specs.Declarations.{Counts}
use Rattle.gv_goheads.specs.declared.counts.Counted.{Counted}
use Rattle.gv_goheads.specs.declared.counts.Naming.{Naming}

abbrev pub counts_of : Counted → Counts
counts_of c = record { structs = c.structs; constants = c.constants; procedures = c.procedures }

abbrev pub named_as : Naming → Lexeme × Entity
named_as n = (n.name, n.entity)
