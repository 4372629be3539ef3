use Rattle.gv_gotypes.proofs.Silence.{faults_silence}
use Rattle.gv_gotypes.proofs.laws.faults_silence.Goals as goal

pub returns : goal.returns
returns c = faults_silence
