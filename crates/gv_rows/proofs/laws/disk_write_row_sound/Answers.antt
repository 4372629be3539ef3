use Rattle.gv_rows.proofs.DiskRow.{disk_write_row_law}
use Rattle.gv_rows.proofs.laws.disk_write_row_sound.Goals as goal

pub returns : goal.returns
returns c = disk_write_row_law
