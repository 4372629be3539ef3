use Rattle.gv_certs.proofs.Examples.{all_rows_are}
use Rattle.gv_certs.proofs.laws.worked_certificates.Goals as goal

pub returns : goal.returns
returns c = all_rows_are
