use Rattle.gv_known.proofs.keys.+key_to.Given as goal

abbrev pub decreases-key_to : goal.decreases-key_to
decreases-key_to l = l.depth
