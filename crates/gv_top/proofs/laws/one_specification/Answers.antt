use Rattle.gv_top.proofs.SpecForm as laws
use Rattle.gv_top.proofs.laws.one_specification.Goals as goal

pub returns : goal.returns
returns c = laws.one_spec
