use Rattle.gv_smallread.proofs.Decided.{all_read_once}
use Rattle.gv_smallread.proofs.laws.small_scripts_are_read_once.Goals as goal

pub returns : goal.returns
returns c = all_read_once
