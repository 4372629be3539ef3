-- Nodes that stand in no tree.
use Rattle.std.specs.Prelude.{[]}
use Rattle.gv_terms.specs.declared.tree.RawTerm.TheVariants.{Variable}
use Rattle.gv_termread.specs.declared.placed.PlacedTerm.{PlacedTerm}
use Rattle.gv_termread.specs.declared.placed.Places.TheVariants.{At}
use Rattle.gv_scriptsyntax.specs.declared.tree.Block.{Block}
use Rattle.gv_scriptsyntax.specs.declared.tree.Script.{Script}
use Rattle.gv_scriptsyntax.specs.Making.{no_token}

abbrev pub no_term : PlacedTerm
no_term = record { start = 0; term = Variable []; places = At 0 [] }

abbrev pub no_block : Block
no_block = record { start = no_token; commands = []; end = no_token }

abbrev pub no_script : Script
no_script = record { books = []; preds = []; crash_word = no_token; crash = no_token; root_word = no_token; root = no_token; init = no_block; recover = no_block; cuts = []; ops = []; procs = [] }
