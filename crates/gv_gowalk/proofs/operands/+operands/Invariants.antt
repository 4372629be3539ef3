use Rattle.gv_gowalk.proofs.operands.+operands.Given as goal

abbrev pub decreases-bound_at : goal.decreases-bound_at
decreases-bound_at g l = l.at

abbrev pub decreases-operand_at : goal.decreases-operand_at
decreases-operand_at g l = l.at
