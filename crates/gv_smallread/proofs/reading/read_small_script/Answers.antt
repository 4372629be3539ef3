use Rattle.gv_smallread.proofs.Decided.{script_only, fault_told}
use Rattle.gv_smallread.proofs.reading.read_small_script.Goals as goal

pub returns-clause-only : goal.returns-clause-only
returns-clause-only c = script_only c.args.text.now c.args.spec.now c.args.program.now c.read_or_refused.result c.read_or_refused.ensures.found c.read_or_refused.ensures.refused

pub returns-clause-fault : goal.returns-clause-fault
returns-clause-fault c = fault_told c.args.text.now c.args.spec.now c.args.program.now c.read_or_refused.result c.read_or_refused.ensures.found c.read_or_refused.ensures.refused
