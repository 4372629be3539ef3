use Rattle.gv_scriptnodes.specs.Gathered.{IsGathered}
use Rattle.gv_scriptnodes.proofs.mentions.mentions_of.Given as goal

abbrev pub invariant-loop-place : goal.invariant-loop-place
invariant-loop-place l = IsGathered l.text l.nodes l.from l.place l.mentions.items
