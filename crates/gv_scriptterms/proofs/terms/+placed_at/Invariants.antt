use Rattle.gv_scriptterms.proofs.terms.+placed_at.Given as goal

abbrev pub decreases-placed_at : goal.decreases-placed_at
decreases-placed_at l = l.at
