use Rattle.gv_gopackages.proofs.RowLemmas.{member_rows}
use Rattle.gv_gopackages.proofs.members.library_member.Goals as goal

pub returns : goal.returns
returns c = member_rows c.member_as.result c.library_row.result _ c.member_as.ensures c.library_row.ensures
