use Rattle.gv_gouses.proofs.operands.+operands.Given as goal

abbrev pub decreases-note_bound : goal.decreases-note_bound
decreases-note_bound g l = l.at

abbrev pub decreases-note_operand : goal.decreases-note_operand
decreases-note_operand g l = l.at
