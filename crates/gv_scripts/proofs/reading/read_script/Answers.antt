use Rattle.gv_scripts.proofs.Decided.{only_so, fault_so}
use Rattle.gv_scripts.proofs.reading.read_script.Goals as goal

pub returns-clause-only : goal.returns-clause-only
returns-clause-only c = only_so c.args.text.now c.args.spec.now c.args.program.now c.read_or_refused.result c.read_or_refused.ensures.read c.read_or_refused.ensures.refused

pub returns-clause-fault : goal.returns-clause-fault
returns-clause-fault c = fault_so c.args.text.now c.args.spec.now c.args.program.now c.read_or_refused.result c.read_or_refused.ensures.read c.read_or_refused.ensures.refused
