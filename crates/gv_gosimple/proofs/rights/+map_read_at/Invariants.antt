use Rattle.gv_gosimple.proofs.rights.+map_read_at.Given as goal

abbrev pub decreases-map_read_at : goal.decreases-map_read_at
decreases-map_read_at g l = l.at
