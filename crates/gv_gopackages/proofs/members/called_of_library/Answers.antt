use Rattle.gv_gopackages.proofs.RowLemmas.{called_rows}
use Rattle.gv_gopackages.proofs.members.called_of_library.Goals as goal

pub returns : goal.returns
returns c = called_rows c.called_as.result c.library_row.result _ c.called_as.ensures c.library_row.ensures
