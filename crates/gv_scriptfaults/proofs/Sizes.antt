-- How many commands a command is, by its outline.
use Rattle.gv_lang.proofs.Outlines.{size_by}

pub ruleset sizes = (size_by)
