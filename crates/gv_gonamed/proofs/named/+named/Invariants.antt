use Rattle.gv_gonamed.proofs.named.+named.Given as goal

abbrev pub decreases-push_bound : goal.decreases-push_bound
decreases-push_bound g l = l.at

abbrev pub decreases-push_named : goal.decreases-push_named
decreases-push_named g l = l.at
