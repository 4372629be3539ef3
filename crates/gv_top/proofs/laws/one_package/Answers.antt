use Rattle.gv_top.proofs.LawLemmas as laws
use Rattle.gv_top.proofs.laws.one_package.Goals as goal

pub returns : goal.returns
returns c = laws.one_package
